use Rattle.std.proofs.Common.{◌≡◌, ◌+◌, map, drop}
use Rattle.arity_check.specs.Program.{program}
use Rattle.grin_syntax.specs.Tree.{act_of, before_of, all_before}
use Rattle.grin_translate.specs.Blocks.{word}
use Rattle.grin_translate.specs.Pieces.{given_to}
use Rattle.grin_translate.proofs.block.application.Given as goal

abbrev pub invariant-loop-a : goal.invariant-loop-a
invariant-loop-a l = record {
  base : l.variables.base ≡ l.initial.variables.base;
  bound : l.variables.bound ≡ l.initial.variables.bound + l.a-index;
  so_far : all_before (map before_of l.stmts)
      (given_to (program l.numbered.p.now) l.initial.variables.base l.variables.bound (act_of l.op)
      (map (word (program l.numbered.p.now) l.initial.variables.base) (drop l.a-index l.xs)))
      ≡ all_before (map before_of l.initial.stmts)
      (given_to (program l.numbered.p.now) l.initial.variables.base l.initial.variables.bound
      (act_of l.initial.op)
      (map (word (program l.numbered.p.now) l.initial.variables.base) l.xs));
}
