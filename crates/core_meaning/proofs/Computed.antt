-- The small programs print what is said of them: both sides compute to the same.
use Rattle.std.proofs.Common.{refl}
use Rattle.std.specs.Int.{int_wrap}
use Rattle.core_meaning.specs.Examples.{Examples}

pub examples : Examples
unfolding int_wrap
examples = record {
  empty_ends = refl;
  empty_costs_two = refl;
  greeting_ends = refl;
  dots_go_on = refl;
  three_end = refl;
  shared_ends = refl;
  unneeded_ends = refl;
  bad_tail_ends = refl;
  one_more_ends = refl;
  one_fewer_ends = refl;
  divisions_end = refl;
  itself_goes_on = refl;
  no_number_ends = refl;
  echo_of_nothing = refl;
  echo_of_three = refl;
  echo_within_five = refl;
}
