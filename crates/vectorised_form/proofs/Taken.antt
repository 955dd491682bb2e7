-- The law, from what holds of inlined programs.
use Rattle.inlined_form.specs.Laws.{InlinedProgramsAreReady}
use Rattle.inlined_form.proofs.Readiness.{inlined_fits}
use Rattle.inline_theory.specs.Applications.{inlined}
use Rattle.grin_translate.specs.Translation.{tr}
use Rattle.vectorised_form.specs.Laws.{VectoriseTakesInlined}
use Rattle.vectorised_form.proofs.Texts.{procs_whole}

pub taken : InlinedProgramsAreReady → VectoriseTakesInlined
taken ready p valid A solves = let r = ready p valid A solves
    in (
      r.0,
      r.2,
      procs_whole (inlined A (tr p)).tags (inlined A (tr p)).procs
          (inlined_fits p A).procedures,
    )
