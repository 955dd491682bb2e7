-- The small texts become and put out what is said of them: both sides compute to the same.
use Rattle.std.proofs.Common.{refl}
use Rattle.std.specs.Int.{int_wrap}
use Rattle.match_compile.specs.Examples.{Examples}

pub examples : Examples
unfolding int_wrap
examples = record {
  size = refl;
  tests = refl;
  most = refl;
  simple = refl;
  plain = refl;
  leaves = refl;
  leaves_end = refl;
  forces = refl;
  zip = refl;
  mixed = refl;
  renamed = refl;
}
