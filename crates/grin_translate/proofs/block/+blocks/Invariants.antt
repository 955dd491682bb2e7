use Rattle.std.proofs.Common.{◌≡◌, ◌+◌, map, drop}
use Rattle.arity_check.specs.Program.{program, branch, branches_of}
use Rattle.grin_syntax.specs.Tree.{arm_of}
use Rattle.grin_translate.specs.Blocks.{arms, branch_temps}
use Rattle.grin_translate.specs.Pieces.{prepend_arms}
use Rattle.grin_translate.proofs.block.+blocks.Given as goal

abbrev pub invariant-alternatives-loop-each : goal.invariant-alternatives-loop-each
invariant-alternatives-loop-each l = record {
  base : l.variables.base ≡ l.initial.variables.base;
  bound : l.variables.bound + branch_temps (branches_of (map branch (drop l.each-index l.branches)))
      ≡ l.initial.variables.bound + branch_temps (branches_of (map branch l.branches));
  so_far : prepend_arms (map arm_of l.alts)
      (arms (program l.numbered.p.now) l.initial.variables.base l.v l.variables.bound
      (branches_of (map branch (drop l.each-index l.branches)))) ≡ arms (program l.numbered.p.now)
      l.initial.variables.base l.v l.initial.variables.bound (branches_of (map branch l.branches));
}
