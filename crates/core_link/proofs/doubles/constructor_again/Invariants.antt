use Rattle.std.proofs.Common.{◌≡◌, drop, map, None}
use Rattle.core_reader.specs.Tree.{data_of}
use Rattle.arity_check.specs.Tables.{known}
use Rattle.core_link.specs.Bound.{is_redeclaration, numbered}
use Rattle.core_link.specs.Found.{earliest}
use Rattle.core_link.proofs.doubles.constructor_again.Given as goal

abbrev pub invariant-loop-i : goal.invariant-loop-i
invariant-loop-i l =
    earliest (λ q. is_redeclaration ((known l.globals).number q.1.name) q.0) (λ q. q.1.at) l.first
    (numbered l.i (map data_of (drop l.i l.constructors)))
    ≡ earliest (λ q. is_redeclaration ((known l.globals).number q.1.name) q.0) (λ q. q.1.at) None
    (numbered 0 (map data_of l.constructors))
