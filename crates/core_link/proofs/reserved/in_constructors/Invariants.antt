use Rattle.std.proofs.Common.{◌≡◌, drop, map, None}
use Rattle.core_reader.specs.Tree.{data_of}
use Rattle.arity_check.specs.Tables.{known}
use Rattle.arity_check.specs.Whole.{int_kind}
use Rattle.core_link.specs.Found.{earliest}
use Rattle.core_link.proofs.reserved.in_constructors.Given as goal

abbrev pub invariant-loop-constructor : goal.invariant-loop-constructor
invariant-loop-constructor l =
    earliest (λ d. int_kind ((known l.globals).kind d.name)) (λ d. d.at) l.first
    (map data_of (drop l.constructor-index l.constructors))
    ≡ earliest (λ d. int_kind ((known l.globals).kind d.name)) (λ d. d.at) None
    (map data_of l.constructors)
