use Rattle.std.proofs.Common.{ℕ, List, [], ◌∷◌, refl, sym, ap, ◌∙◌, subst}
use Rattle.text_commands.specs.Over.{sink_over}
use Rattle.grin_io.proofs.Changes.{told, broke_off_one}
use Rattle.grin_driver.specs.Generating.{IsSummary, Generates}
use Rattle.grin_driver.proofs.Summaries.{unsummed_is_generated}
use Rattle.grin_driver.proofs.generate.generate.Goals as goal

pub returns-in-Ok-summed-clause-generates : goal.returns-in-Ok-summed-clause-generates
returns-in-Ok-summed-clause-generates g c =
    let note = c.in-Ok-summed.note in (
      note,
      subst (λ (t : List ℕ). IsSummary t note) (c.as_slice.ensures.value ∙ c.in-Ok.ensures)
          c.in-Ok-summed.ensures.summed,
      broke_off_one g.K.Sink.put_gives g.K.Sink.taken g.K.Sink.faults c.args.out.now c.put.new.self
          c.as_slice-in-Ok-summed.result.now (note ∷ [])
          (ap (λ (l : List ℕ). l ∷ []) (sym c.as_slice-in-Ok-summed.ensures))
          (told _ _ c.in-Err-put.ensures.content) (rw c.in-Err-put.is at c.put.ensures.exactly)
          c.in-Err-put.ensures.cause.failed,
    )

pub returns-clause-generates : goal.returns-clause-generates
returns-clause-generates g c =
    let o = sink_over g.K.Sink c.args.out.now
    c.args.out.now in
    subst (λ (t : List ℕ). Generates o t c.in-Err.status)
    (c.as_slice.ensures.value ∙ c.in-Ok.ensures)
    (unsummed_is_generated o c.as_slice.result.now c.in-Err.status c.in-Err.ensures.unsummed refl)
