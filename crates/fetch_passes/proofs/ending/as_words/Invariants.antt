use Rattle.std.proofs.Common.{◌≡◌, take, map}
use Rattle.grin_syntax.specs.declared.program.Word.TheVariants.{Var}
use Rattle.fetch_passes.proofs.ending.as_words.Given as goal

abbrev pub invariant-loop-var : goal.invariant-loop-var
invariant-loop-var l = l.words ≡ map Var (take l.var-index l.vars)
