use Rattle.std.proofs.Common.{◌≡◌, drop, map}
use Rattle.core_reader.specs.Tree.{bind}
use Rattle.arity_check.specs.Pieces.{binders_of}
use Rattle.match_compile.specs.Renamed.{shadowing}
use Rattle.match_compile.proofs.rename.hide_group.Given as goal

abbrev pub invariant-loop-member : goal.invariant-loop-member
invariant-loop-member l = shadowing (binders_of (map bind (drop l.member-index l.group))) l.scope ≡
    shadowing (binders_of (map bind l.group)) l.fn.scope
