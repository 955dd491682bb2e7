use Rattle.std.proofs.Common.{◌≡◌, ◌++◌, take}
use Rattle.grin_syntax.specs.Binders.{numbers_of}
use Rattle.grin_syntax.proofs.ranks.note_vars.Given as goal

abbrev pub invariant-loop-var : goal.invariant-loop-var
invariant-loop-var l = l.out ≡ l.initial.out ++ numbers_of (take l.var-index l.vars)
