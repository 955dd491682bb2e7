use Rattle.std.proofs.Common.{◌≡◌, ◌-◌, ◌<◌, ℕ, bit_and, arith}
use Rattle.std.specs.Prelude.{min}
use Rattle.std.specs.Int.{bit_at}
use Rattle.std.proofs.lemmas.Nat.Bits.{bit_at_and, bit_at-lt}
use Rattle.points_to.proofs.copies.without.Goals as goal

of_both : (x y z : ℕ) → z ≡ min x y → z ≡ 1 → x < 2 → x ≡ 1
of_both x y z e one lt = omega (arith, e, one, lt)

pub returns : goal.returns
returns c = λ i one. of_both (bit_at c.args.a i) (bit_at (18446744073709551615 - c.args.b) i)
    (bit_at (bit_and c.args.a (18446744073709551615 - c.args.b)) i)
    (bit_at_and c.args.a (18446744073709551615 - c.args.b) i) one (bit_at-lt c.args.a i)
