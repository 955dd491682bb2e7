use Rattle.std.proofs.Common.{◌≡◌, drop, map}
use Rattle.core_reader.specs.Tree.{function}
use Rattle.arity_check.specs.Tables.{known, first_of}
use Rattle.core_link.specs.Bound.{is_redeclaration, numbered}
use Rattle.core_link.specs.Found.{earliest}
use Rattle.core_link.proofs.doubles.function_again.Given as goal

abbrev pub invariant-loop-i : goal.invariant-loop-i
invariant-loop-i l =
    earliest (λ q. is_redeclaration (first_of ((known l.globals).function q.1.name)) q.0)
    (λ q. q.1.at) l.first (numbered l.i (map function (drop l.i l.functions)))
    ≡ earliest (λ q. is_redeclaration (first_of ((known l.globals).function q.1.name)) q.0)
    (λ q. q.1.at) l.fn.found (numbered 0 (map function l.functions))
