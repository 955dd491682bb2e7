use Rattle.std.proofs.Common.{map, sym, ◌∙◌}
use Rattle.std.proofs.lemmas.Bool.{false≢true}
use Rattle.grin_syntax.specs.Tree.{program_of}
use Rattle.points_to.specs.Found.{found}
use Rattle.raise_theory.specs.Raisable.{NeverUpdated}
use Rattle.arity_raise.proofs.Each.{each_of_none, in_place, one_more_holds, all_hold}
use Rattle.arity_raise.proofs.Judged.{yes, no, changed, never_changed}
use Rattle.arity_raise.proofs.cells.ProgramFacts.is_unchanged.Goals as goal
use Rattle.arity_raise.proofs.Sites.{has_number, never_updated}

pub loop-site-init : goal.loop-site-init
loop-site-init c = each_of_none _

pub returns-then-contains : goal.returns-then-contains
returns-then-contains c =
    let self = c.args.self.now in
    no _ (changed (found self.flow.now) (program_of self.g.now) c.args.x.0 _
    (map (λ s. s.0) c.locs_of-site-items.result.now) self.updated self.exact
    c.locs_of-site-items.ensures.exact
    (in_place (λ s. s.0) c.locs_of-site-items.result.now c.loop-site.site-index (record { 0 = 0 })
    c.loop-site-test.true)
    ((has_number _ self.updated.keys _ c.contains.ensures).0 c.if-contains.true))

pub loop-site-preserved : goal.loop-site-preserved
loop-site-preserved c =
    let self = c.args.self.now in
    one_more_holds (λ s. s.0) (NeverUpdated (found self.flow.now) (program_of self.g.now))
    c.locs_of-site-items.result.now c.loop-site.site-index (record { 0 = 0 })
    c.loop-site-test.true c.loop-site.invariant
    (never_updated (found self.flow.now) (program_of self.g.now) self.updated _ self.exact
    (λ h. false≢true
    (sym c.if-contains.false ∙ (has_number _ self.updated.keys _ c.contains.ensures).1 h)))

pub returns : goal.returns
returns c =
    let self = c.args.self.now in
    yes _ (never_changed (found self.flow.now) (program_of self.g.now) c.args.x.0
    (map (λ s. s.0) c.locs_of-site-items.result.now) c.locs_of-site-items.ensures.exact
    (all_hold (λ s. s.0) (NeverUpdated (found self.flow.now) (program_of self.g.now))
    c.locs_of-site-items.result.now c.loop-site.site-index c.loop-site-test.false
    c.loop-site.invariant))
