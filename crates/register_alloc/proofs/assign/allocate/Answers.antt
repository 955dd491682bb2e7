use Rattle.std.proofs.Common.{length, map, sym, ap, ◌∙◌, subst}
use Rattle.low_code.specs.Tree.{procedure_of, program_of}
use Rattle.register_alloc.specs.Reach.{AreLeastMasks}
use Rattle.register_alloc.specs.Gathered.{IsGathered, AreSpots, SavesMatchCalls, calls_of_walks, frames_of}
use Rattle.register_alloc.proofs.Procedures.{lengths_gathered}
use Rattle.register_alloc.proofs.AllFit.{all_fit, all_used}
use Rattle.register_alloc.proofs.assign.allocate.Goals as goal

pub least-masks-requires : goal.least-masks-requires
least-masks-requires c =
    let n = lengths_gathered (map procedure_of c.as_slice.result.now) c.in_ok-all.all.walks.items
    c.in_ok-all.all.given.items c.in_ok-all.all.own.items c.in_ok-all.all.calls.items
    c.in_ok-all.ensures in
    n.0 ∙ sym n.2 ∙ ap length (sym c.as_slice-3.ensures.value)

pub returns-clause-fits : goal.returns-clause-fits
returns-clause-fits c formed few_parameters few_results =
    all_fit (program_of c.args.low.now) _ c.in_ok-all.all.walks.items c.in_ok-all.all.given.items
    c.in_ok-all.all.own.items c.in_ok-all.all.calls.items
    (subst (λ ps. IsGathered c.in_ok-all.all (map procedure_of ps)) c.as_slice.ensures
    c.in_ok-all.ensures) formed few_parameters few_results
    (subst (λ gs. AreSpots gs c.in_ok-places.places.items) c.as_slice-2.ensures.value
    c.in_ok-places.ensures) c.least-masks.ensures.many
    (subst (λ cs. AreLeastMasks c.in_ok-all.all.own.items cs c.least-masks.result.items)
    c.as_slice-3.ensures.value c.least-masks.ensures.least)
    (subst (λ ms. SavesMatchCalls ms (calls_of_walks c.in_ok-all.all.walks.items)
    c.in_ok-kept.kept.items) c.as_slice-5.ensures.value
    (subst (λ ws. SavesMatchCalls c.as_slice-5.result.now (calls_of_walks ws)
    c.in_ok-kept.kept.items) c.as_slice-4.ensures.value c.in_ok-kept.ensures))
    (c.in_ok-words.ensures ∙ ap (λ l. frames_of l c.as_slice-6.result.now)
    c.as_slice-7.ensures.value ∙ ap (frames_of c.in_ok-kept.kept.items)
    c.as_slice-6.ensures.value)

pub returns-clause-uses : goal.returns-clause-uses
returns-clause-uses c formed few_parameters few_results =
    all_used (program_of c.args.low.now) _ c.in_ok-all.all.walks.items c.in_ok-all.all.given.items
    c.in_ok-all.all.own.items c.in_ok-all.all.calls.items
    (subst (λ ps. IsGathered c.in_ok-all.all (map procedure_of ps)) c.as_slice.ensures
    c.in_ok-all.ensures) formed few_parameters few_results
    (subst (λ gs. AreSpots gs c.in_ok-places.places.items) c.as_slice-2.ensures.value
    c.in_ok-places.ensures) c.least-masks.ensures.many
    (subst (λ cs. AreLeastMasks c.in_ok-all.all.own.items cs c.least-masks.result.items)
    c.as_slice-3.ensures.value c.least-masks.ensures.least)
    (subst (λ ms. SavesMatchCalls ms (calls_of_walks c.in_ok-all.all.walks.items)
    c.in_ok-kept.kept.items) c.as_slice-5.ensures.value
    (subst (λ ws. SavesMatchCalls c.as_slice-5.result.now (calls_of_walks ws)
    c.in_ok-kept.kept.items) c.as_slice-4.ensures.value c.in_ok-kept.ensures))
    (c.in_ok-words.ensures ∙ ap (λ l. frames_of l c.as_slice-6.result.now)
    c.as_slice-7.ensures.value ∙ ap (frames_of c.in_ok-kept.kept.items)
    c.as_slice-6.ensures.value)
