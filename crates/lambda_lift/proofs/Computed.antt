-- The small texts put out what is said of them, and are lifted so: both sides compute to the same.
use Rattle.std.proofs.Common.{refl}
use Rattle.std.specs.Int.{int_wrap}
use Rattle.lambda_lift.specs.Examples.{Examples}

pub examples : Examples
unfolding int_wrap
examples = record {
  lone = refl;
  captured = refl;
  mutual_group = refl;
  own_name = refl;
  hidden = refl;
  nested = refl;
  lone_is_lifted = refl;
  captured_is_lifted = refl;
}
