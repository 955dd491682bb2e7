use Rattle.std.proofs.Common.{◌≡◌, drop, map}
use Rattle.low_code.specs.Tree.{all_before, before_of, end_of, code_of}
use Rattle.rv32_select.specs.IsSelected.{is_rare}
use Rattle.rv32_select.proofs.rare.is_rare.Given as goal

abbrev pub invariant-loop-stmt : goal.invariant-loop-stmt
invariant-loop-stmt l = is_rare (code_of l.block) ≡ is_rare
    (all_before (map before_of (drop l.stmt-index l.stmt-items)) (end_of l.block.last))
