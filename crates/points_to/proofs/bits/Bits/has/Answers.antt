use Rattle.std.proofs.Common.{◌/◌, subst}
use Rattle.points_to.specs.Bits.{BitsAt}
use Rattle.points_to.proofs.Numbers.{has_number}
use Rattle.points_to.proofs.bits.Bits.has.Goals as goal

pub returns : goal.returns
returns c = has_number c.args.self.now.blocks.items c.args.n c.bits_at.result
    (subst (λ l. BitsAt l (c.args.n / 64) c.bits_at.result) c.as_slice.ensures.value
    c.bits_at.ensures) c.has_bit.result c.has_bit.ensures
