-- The examples compute.
use Rattle.std.proofs.Common.{refl}
use Rattle.std.specs.Int.{int_wrap}
use Rattle.low_code.specs.Run.{run_in, calls, code}
use Rattle.low_code.specs.Examples.{Examples}

pub worked : Examples
unfolding run_in calls code int_wrap
worked = record {
  writes = refl;
  takes_one_byte = refl;
  is_done = refl;
  needs_three_units = refl;
  two_frames_at_once = refl;
  enters = refl;
  at_the_inputs_end = refl;
  tail_ends_its_procedure = refl;
  no_tail_in_a_join = refl;
  later_tests_unseen = refl;
  sums_wrap = refl;
  last_word = refl;
  index_at_the_width = refl;
  cell_is_no_byte = refl;
  cell_is_no_number = refl;
  too_few_results = refl;
  too_many_arguments = refl;
  fails = refl;
  room_for_all = refl;
  heap_is_full = refl;
  full_at_once = refl;
  before_the_start = refl;
  stack_is_full = refl;
  entered_as_it_is_full = refl;
}
