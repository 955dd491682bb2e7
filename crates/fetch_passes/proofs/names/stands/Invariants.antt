use Rattle.std.proofs.Common.{◌≡◌, take}
use Rattle.grin_syntax.specs.declared.program.Word.TheVariants.{Var}
use Rattle.fetch_passes.specs.Names.{stands}
use Rattle.fetch_passes.proofs.names.stands.Given as goal

abbrev pub invariant-loop-name : goal.invariant-loop-name
invariant-loop-name l = l.word ≡ stands (take l.name-index l.names) (Var l.x) l.x
