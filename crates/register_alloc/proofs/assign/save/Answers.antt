use Rattle.std.proofs.Common.{subst}
use Rattle.register_alloc.proofs.Tables.{saves_put}
use Rattle.register_alloc.specs.Gathered.{IsSavedOf}
use Rattle.register_alloc.specs.Rounds.{mask_at}
use Rattle.register_alloc.proofs.assign.save.Goals as goal

pub returns : goal.returns
returns c =
    saves_put c.args.masks.now c.args.call.now c.args.saves.now.items c.reach.new.saves.items
    c.in_ok-registers.registers c.in_ok-reach.ensures.reached c.in_ok-reach.ensures.more
    c.in_ok-reach.ensures.empty
    (subst (λ l. IsSavedOf l (mask_at c.args.masks.now c.args.call.now.proc)
    c.in_ok-registers.registers) c.as_slice.ensures
    (subst (λ m. IsSavedOf c.as_slice.result.now m c.in_ok-registers.registers)
    c.mask_at.ensures c.in_ok-registers.ensures))
