use Rattle.points_to.proofs.Blocks.{found, not_found}
use Rattle.points_to.proofs.bits.bits_at.Goals as goal

pub returns-in-Ok : goal.returns-in-Ok
returns-in-Ok c = found c.args.blocks.now c.requires c.args.number c.in-Ok.place c.in-Ok.ensures

pub returns-in-Err : goal.returns-in-Err
returns-in-Err c = not_found c.args.blocks.now c.requires c.args.number _ c.in-Err.ensures
