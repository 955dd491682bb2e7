use Rattle.std.proofs.Common.{ℕ, List, length, ◌≤◌, refl, sym, subst, arith}
use Rattle.std.proofs.lemmas.Result.{err_from_is_err_and}
use Rattle.arity_check.specs.Program.{program}
use Rattle.stage_names.specs.declared.PassName.TheVariants.{Eval}
use Rattle.grin_driver.specs.Generating.{IsDefaultImageOf, IsOutput, IsUndone}
use Rattle.text_commands.proofs.Texts.{accepted_is_valid}
use Rattle.grin_driver.proofs.Outcomes.{too_large, unlisted_is_unmade}
use Rattle.grin_driver.proofs.Summaries.{unmade_is_unsummed, undone_is_unsummed, summary_from}
use Rattle.grin_driver.proofs.generate.summed.Goals as goal

pub build-requires-clause-valid : goal.build-requires-clause-valid
build-requires-clause-valid c = accepted_is_valid _ _ _ c.in_ok-accepted.ensures.accepted.accepted

pub build-requires-clause-range : goal.build-requires-clause-range
build-requires-clause-range c = record {
  some_cells = omega arith;
  few_cells = omega arith;
  some_stack = omega arith;
  small_stack
      = omega arith;
}

pub returns-in-Err-clause-unsummed : goal.returns-in-Err-clause-unsummed
returns-in-Err-clause-unsummed c =
    let a = c.in_ok-accepted.ensures.accepted in
    unmade_is_unsummed _ _
    (unlisted_is_unmade _ _
    (c.no_stages_status.ensures _ _ _ Eval a.accepted (too_large _ _ c.in-Err.ensures.refused)))

pub returns-in_err-sink-clause-unsummed : goal.returns-in_err-sink-clause-unsummed
returns-in_err-sink-clause-unsummed c =
    let a = c.in_ok-accepted.ensures.accepted in
    let from : IsDefaultImageOf c.args.text.now c.in-Ok.built.image.items = record {
      source = a.source;
      program = program c.in_ok-accepted.accepted.program;
      accepted = a.accepted;
      fits = c.in-Ok.ensures.fits;
      made = c.in-Ok.ensures.built.made;
      stops = c.in-Ok.ensures.built.through.stops;
    } in
    let undone = subst
    (λ (l : List ℕ). (text : List ℕ) → (from : IsDefaultImageOf text l)
    → IsUndone from c.in_err-sink.field-0.0) c.as_slice.ensures.value
    c.in_err-sink.ensures.undone in
    let q = err_from_is_err_and c.from_residual-in_err-sink.result
    c.from_residual-in_err-sink.ensures.1 in
    rw (q.1, q.2)
    (undone_is_unsummed c.args.text.now c.in-Ok.built.image.items from c.in_err-sink.field-0.0
    (undone c.args.text.now from))

pub summary-requires : goal.summary-requires
summary-requires c =
    let a = c.in_ok-accepted.ensures.accepted in
    let from : IsDefaultImageOf c.args.text.now c.in-Ok.built.image.items = record {
      source = a.source;
      program = program c.in_ok-accepted.accepted.program;
      accepted = a.accepted;
      fits = c.in-Ok.ensures.fits;
      made = c.in-Ok.ensures.built.made;
      stops = c.in-Ok.ensures.built.through.stops;
    } in
    let done = subst
    (λ (l : List ℕ). (text : List ℕ) → (from : IsDefaultImageOf text l)
    → IsOutput from c.in_ok-sink.sink.taken × (length c.in_ok-sink.sink.taken ≤ 4096))
    c.as_slice.ensures.value c.in_ok-sink.ensures.done in
    subst (λ (l : List ℕ). length l ≤ 4096) (sym c.taken.ensures.taken)
    (done c.args.text.now from).1

pub returns-clause-summed : goal.returns-clause-summed
returns-clause-summed c =
    let a = c.in_ok-accepted.ensures.accepted in
    let from : IsDefaultImageOf c.args.text.now c.in-Ok.built.image.items = record {
      source = a.source;
      program = program c.in_ok-accepted.accepted.program;
      accepted = a.accepted;
      fits = c.in-Ok.ensures.fits;
      made = c.in-Ok.ensures.built.made;
      stops = c.in-Ok.ensures.built.through.stops;
    } in
    let done = subst
    (λ (l : List ℕ). (text : List ℕ) → (from : IsDefaultImageOf text l)
    → IsOutput from c.in_ok-sink.sink.taken × (length c.in_ok-sink.sink.taken ≤ 4096))
    c.as_slice.ensures.value c.in_ok-sink.ensures.done in
    summary_from c.args.text.now c.in-Ok.built.image.items c.summary.result c.in_ok-sink.sink.taken
    c.in_ok-accepted.accepted a from refl refl
    (done c.args.text.now from).0
    (rw (c.taken.ensures.taken, c.len-functions.ensures) at c.summary.ensures)
