use Rattle.std.proofs.Common.{sym, subst}
use Rattle.std.specs.List.{flat_map}
use Rattle.points_to.specs.Rows.{GainsMembers}
use Rattle.points_to.specs.Bits.{Ascending, Finds, block_numbers}
use Rattle.points_to.proofs.Blocks.{still_ascending}
use Rattle.points_to.proofs.Numbers.{gets_bits, gets_block}
use Rattle.points_to.proofs.bits.Bits.put_at.Goals as goal

pub returns-in-Ok-clause-gets : goal.returns-in-Ok-clause-gets
returns-in-Ok-clause-gets c =
    let old = c.args.blocks.now.items in
    let k = c.in-Ok.place in
    gets_bits old k c.union-bits.result c.index.result.now c.args.block
    (subst (Finds old c.args.block.0) c.in-Ok.is c.requires.finds) c.index.ensures
    c.union-bits.ensures

pub returns-in_ok-insert-in-Err-clause-ascending : goal.returns-in_ok-insert-in-Err-clause-ascending
returns-in_ok-insert-in-Err-clause-ascending c =
    let old = c.args.blocks.now.items in
    let k = c.in-Err.place in
    subst Ascending (sym c.in_ok-insert-in-Err.ensures.items)
    (still_ascending old c.requires.ascending c.args.block.0 k
    (subst (Finds old c.args.block.0) c.in-Err.is c.requires.finds) c.args.block.1)

pub returns-in_ok-insert-in-Err-clause-gets : goal.returns-in_ok-insert-in-Err-clause-gets
returns-in_ok-insert-in-Err-clause-gets c =
    let old = c.args.blocks.now.items in
    subst (λ l. GainsMembers (flat_map block_numbers old) (flat_map block_numbers l)
    (block_numbers c.args.block)) (sym c.in_ok-insert-in-Err.ensures.items)
    (gets_block old c.in-Err.place c.args.block)
