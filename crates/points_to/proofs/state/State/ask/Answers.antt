use Rattle.std.proofs.Common.{refl, sym, ◌∙◌}
use Rattle.flow_system.specs.Shown.{tables_of, inclusions_of, inclusion_of}
use Rattle.points_to.specs.Asked.{facts_demanded}
use Rattle.points_to.specs.Copies.{IsReached}
use Rattle.points_to.specs.Known.{held, GrowsByFacts}
use Rattle.seq.proofs.Lists.{map_get}
use Rattle.points_to.proofs.Sets.{on_ok}
use Rattle.points_to.proofs.StoredSound.{asked_sound}
use Rattle.points_to.proofs.state.State.ask.Goals as goal

pub returns-then-touches_no_cell : goal.returns-then-touches_no_cell
returns-then-touches_no_cell c =
    let p = tables_of c.args.system.now in
    let cs = inclusions_of c.args.system.now in
    let before = c.args.self.now in
    let kept = record before.kept { facts = c.satisfy.new.facts } in
    let this = inclusion_of c.in-Some.inclusion.now in
    on_ok c.satisfy.result
    (GrowsByFacts (held before.kept.facts) (held kept.facts)
    (facts_demanded p (held before.kept.facts) this))
    (IsReached p cs before → IsReached p cs (record before { kept = kept }))
    (λ g reached. record {
      kept = asked_sound p cs before.kept kept c.args.n this
          (map_get inclusion_of c.args.system.now.inclusions c.args.n c.in-Some.inclusion.now
          (sym c.in-Some.ensures.value)) (sym c.touches_no_cell.ensures ∙ c.if-touches_no_cell.true)
          refl g reached.kept;
      copies = reached.copies;
    })
    c.satisfy.ensures.grown
