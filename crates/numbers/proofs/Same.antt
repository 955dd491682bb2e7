-- Numbers that are the same.
use Rattle.std.proofs.Common.{◌≡◌, true, refl}
use Rattle.std.specs.Prelude.{ℤ, pos, negsuc}
use Rattle.std.proofs.lemmas.Bool.{eq-eqb}
use Rattle.numbers.specs.Numbers.{same_number}

pub same_itself : (z : ℤ) → same_number z z ≡ true
same_itself (pos n) = eq-eqb n n refl
same_itself (negsuc n) = eq-eqb n n refl
