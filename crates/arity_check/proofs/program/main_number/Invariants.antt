use Rattle.std.proofs.Common.{◌≡◌, drop, map}
use Rattle.std.specs.List.{position_from}
use Rattle.core_reader.specs.Tree as tree
use Rattle.core_reader.specs.Tree.{function}
use Rattle.arity_check.specs.Tables.{known}
use Rattle.arity_check.specs.Whole.{main_kind, main_at}
use Rattle.arity_check.proofs.program.main_number.Given as goal

abbrev pub invariant-loop-i : goal.invariant-loop-i
invariant-loop-i l = position_from
    (λ (f : tree.Function). main_kind ((known l.globals).kind f.name)) l.i
    (map function (drop l.i l.functions)) ≡ main_at (known l.globals) (map function l.functions)
