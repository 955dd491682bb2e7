use Rattle.std.proofs.Common.{◌≡◌, ◌++◌, take}
use Rattle.std.specs.List.{flat_map}
use Rattle.flow_listing.specs.Binders.{stmt_binders, alt_binders}
use Rattle.flow_listing.proofs.binder.+notes.Given as goal

abbrev pub invariant-note_block-loop-stmt : goal.invariant-note_block-loop-stmt
invariant-note_block-loop-stmt l = l.out ≡ l.initial.out
    ++ flat_map stmt_binders (take l.stmt-index l.stmt-items)

abbrev pub invariant-note_op-loop-alt : goal.invariant-note_op-loop-alt
invariant-note_op-loop-alt l = l.out ≡ l.initial.out
    ++ flat_map alt_binders (take l.alt-index l.alt-items)
