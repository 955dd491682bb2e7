use Rattle.std.proofs.Common.{◌≤◌, length, slice_get, sym, ap, ◌∙◌, subst, arith, rules}
use Rattle.std.proofs.lemmas.List.{length-map}
use Rattle.flow_system.specs.Shown.{tables_of, inclusions_of, inclusion_of, shown}
use Rattle.points_to.proofs.VectorLoops.{shown_at}
use Rattle.points_to.proofs.WholeFetch.{met_sound, round_on, round_done}
use Rattle.points_to.proofs.vectors.round.Goals as goal

pub satisfy-requires-clause-number : goal.satisfy-requires-clause-number
satisfy-requires-clause-number c =
    let here = shown_at c.as_slice-inclusion-items.result.now c.loop-inclusion.inclusion-index
    c.inclusion-item.result c.loop-inclusion-test.true c.inclusion-item.is in
    ap (slice_get (inclusions_of c.args.system.now)) c.loop-inclusion.invariant.number
    ∙ ap (λ xs. slice_get (shown xs) c.loop-inclusion.inclusion-index)
    (sym c.as_slice-inclusion-items.ensures) ∙ here

pub satisfy-requires-clause-by_words : goal.satisfy-requires-clause-by_words
satisfy-requires-clause-by_words c =
    let here = shown_at c.as_slice-inclusion-items.result.now c.loop-inclusion.inclusion-index
    c.inclusion-item.result c.loop-inclusion-test.true c.inclusion-item.is in
    c.requires c.loop-inclusion.inclusion-index (inclusion_of c.inclusion-item.result)
    (ap (λ xs. slice_get (shown xs) c.loop-inclusion.inclusion-index)
    (sym c.as_slice-inclusion-items.ensures) ∙ here)

pub satisfy-requires-clause-sound : goal.satisfy-requires-clause-sound
satisfy-requires-clause-sound c =
    met_sound (tables_of c.args.system.now) (inclusions_of c.args.system.now) c.args.kept.now
    c.loop-inclusion.kept c.in_ok-noted.noted.met c.in_ok-noted.ensures.met
    c.loop-inclusion.invariant.so_far.steps.grew

pub loop-inclusion-preserved : goal.loop-inclusion-preserved
loop-inclusion-preserved c =
    let i = c.loop-inclusion.inclusion-index in
    let here = shown_at c.as_slice-inclusion-items.result.now i c.inclusion-item.result
    c.loop-inclusion-test.true c.inclusion-item.is in
    record {
      so_far = round_on (tables_of c.args.system.now) (inclusions_of c.args.system.now)
          c.args.kept.now c.loop-inclusion.kept c.satisfy.new.kept c.in_ok-noted.noted
          c.loop-inclusion.added c.in_ok-satisfy.field-0 c.either-added.result
          i (inclusion_of c.inclusion-item.result)
          (ap (λ xs. slice_get (shown xs) i) (sym c.as_slice-inclusion-items.ensures) ∙ here)
          c.either-added.ensures c.in_ok-noted.ensures c.loop-inclusion.invariant.so_far
          c.in_ok-satisfy.ensures.steps c.in_ok-satisfy.ensures.met;
      number = search rules;
    }

pub returns-clause-done : goal.returns-clause-done
returns-clause-done c = λ s e.
    round_done (tables_of c.args.system.now) (inclusions_of c.args.system.now) c.args.kept.now
    c.loop-inclusion.kept c.loop-inclusion.added c.loop-inclusion.inclusion-index
    (subst (λ xs. length (shown xs) ≤ c.loop-inclusion.inclusion-index)
    c.as_slice-inclusion-items.ensures
    (omega (
      arith,
      length-map c.as_slice-inclusion-items.result.now inclusion_of,
      c.loop-inclusion-test.false,
    )))
    c.loop-inclusion.invariant.so_far s e
