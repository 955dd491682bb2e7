use Rattle.std.proofs.Common.{◌≡◌, ◌∷◌, length}
use Rattle.grin_syntax.specs.declared.program.Word.TheVariants.{TagWord}
use Rattle.copy_prop.specs.Copies.{zeros_after}
use Rattle.copy_prop.proofs.copies.node_words.Given as goal

abbrev pub invariant-loop : goal.invariant-loop
invariant-loop l = record {
  many : length l.words ≡ l.counter;
  same : zeros_after l.count l.words ≡ zeros_after l.count
      (TagWord l.fn.tag ∷ l.fields);
}
