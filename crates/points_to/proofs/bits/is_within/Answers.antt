use Rattle.std.proofs.Common.{◌≡◌, ◌<◌, ℕ, ap, nat_eq, arith, bit_and}
use Rattle.std.specs.Prelude.{IsTrue, min}
use Rattle.std.specs.Int.{bit_at}
use Rattle.std.proofs.lemmas.Bool.Decides.{nat_tests}
use Rattle.std.proofs.lemmas.Nat.Bits.{bit_at_and, bit_at-lt}
use Rattle.points_to.proofs.bits.is_within.Goals as goal

is_same : (x y : ℕ) → IsTrue (nat_eq x y) → x ≡ y
is_same x y e = grind (arith, nat_tests)

both : (x y z : ℕ) → z ≡ min x y → z ≡ x → x ≡ 1 → y < 2 → y ≡ 1
both x y z e same one lt = omega (arith, e, same, one, lt)

pub returns : goal.returns
returns c = λ t i one. both (bit_at c.args.a i) (bit_at c.args.b i)
    (bit_at (bit_and c.args.a c.args.b) i) (bit_at_and c.args.a c.args.b i)
    (ap (λ m. bit_at m i) (is_same (bit_and c.args.a c.args.b) c.args.a t)) one
    (bit_at-lt c.args.b i)
