use Rattle.std.proofs.Common.{◌≡◌, take, map, length}
use Rattle.core_reader.specs.Tree.{Program, bind}
use Rattle.arity_check.specs.Tables.{known}
use Rattle.arity_check.specs.Whole.{known_of}
use Rattle.arity_check.specs.Builds.{AddsGroup}
use Rattle.arity_check.proofs.flat.Builder.members.Given as goal

abbrev pub invariant-loop-member : goal.invariant-loop-member
invariant-loop-member l = record {
  count : length l.locals ≡ l.member-index;
  adds : (p : Program) → known l.globals ≡ known_of p
      → AddsGroup p l.scope l.initial.self l.self (map bind (take l.member-index l.group)) l.locals;
}
