use Rattle.std.proofs.Common.{◌≡◌, take, map}
use Rattle.grin_syntax.specs.declared.program.Word.TheVariants.{Var}
use Rattle.vectorise.proofs.words.all_vars.Given as goal

abbrev pub invariant-loop-var : goal.invariant-loop-var
invariant-loop-var l = l.words ≡ map Var (take l.var-index l.vars)
