use Rattle.std.proofs.Common.{◌≡◌, ◌++◌, take}
use Rattle.std.specs.List.{flat_map}
use Rattle.grin_syntax.specs.Statements.{stmt_vars, alt_vars}
use Rattle.grin_syntax.proofs.ranks.+notes.Given as goal

abbrev pub invariant-note_block-loop-stmt : goal.invariant-note_block-loop-stmt
invariant-note_block-loop-stmt l = l.out ≡ l.initial.out
    ++ flat_map stmt_vars (take l.stmt-index l.stmt-items)

abbrev pub invariant-note_op-loop-alt : goal.invariant-note_op-loop-alt
invariant-note_op-loop-alt l = l.out ≡ l.initial.out
    ++ flat_map alt_vars (take l.alt-index l.alt-items)
