use Rattle.std.proofs.Common.{ℕ, map}
use Rattle.flow_system.specs.declared.fact.Element.TheVariants.{Tag as tag}
use Rattle.flow_system.specs.declared.fact.Place.TheVariants.{Var as var}
use Rattle.flow_system.specs.declared.fact.Part.TheVariants.{Word as word}
use Rattle.flow_system.specs.Solution.{At}
use Rattle.points_to.specs.Found.{found}
use Rattle.arity_raise.proofs.Each.{each_of_none, one_more_holds, all_hold}
use Rattle.arity_raise.proofs.Judged.{yes, no, not_so, number_among, tag_among, cells_alone}
use Rattle.arity_raise.proofs.cells.ProgramFacts.has_cells_alone.Goals as goal

pub returns-then-holds_number : goal.returns-then-holds_number
returns-then-holds_number c = no _
    (number_among (found c.args.self.now.flow.now) c.args.x.0
    (c.holds_number.ensures.0 c.if-holds_number.true))

pub loop-tag-init : goal.loop-tag-init
loop-tag-init c = each_of_none _

pub returns-then-holds_tag : goal.returns-then-holds_tag
returns-then-holds_tag c = no _
    (tag_among (found c.args.self.now.flow.now) c.args.x.0 _
    (c.holds_tag.ensures.0 c.if-holds_tag.true))

pub loop-tag-preserved : goal.loop-tag-preserved
loop-tag-preserved c =
    let P : ℕ → Type 0 = λ t. At (found c.args.self.now.flow.now) (var c.args.x.0) (word 0) (tag t)
    → ⊥ in
    one_more_holds (λ t. t.0) P c.nodes_of-tag-items.result.now c.loop-tag.tag-index _
    c.loop-tag-test.true c.loop-tag.invariant
    (not_so _ c.holds_tag.ensures c.if-holds_tag.false)

pub returns : goal.returns
returns c =
    let P : ℕ → Type 0 = λ t. At (found c.args.self.now.flow.now) (var c.args.x.0) (word 0) (tag t)
    → ⊥ in
    yes _ (cells_alone (found c.args.self.now.flow.now) c.args.x.0
    (map (λ t. t.0) c.nodes_of-tag-items.result.now)
    (not_so _ c.holds_number.ensures c.if-holds_number.false) c.nodes_of-tag-items.ensures.exact
    (all_hold (λ t. t.0) P c.nodes_of-tag-items.result.now c.loop-tag.tag-index
    c.loop-tag-test.false c.loop-tag.invariant))
