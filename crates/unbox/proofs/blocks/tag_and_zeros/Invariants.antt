use Rattle.std.proofs.Common.{◌≡◌, ◌∷◌}
use Rattle.grin_syntax.specs.declared.program.Word.TheVariants.{TagWord}
use Rattle.grin_syntax.specs.Tags.{tag_id}
use Rattle.unbox_theory.specs.Unboxing.{zeros}
use Rattle.unbox.proofs.blocks.tag_and_zeros.Given as goal

abbrev pub invariant-loop : goal.invariant-loop
invariant-loop l = l.words ≡ TagWord (tag_id 0) ∷ zeros l.counter
