-- What the run of a program tells, as other meanings tell it, and the procedures that it enters.
use Rattle.std.specs.Prelude.{ℕ, List, length}
use Rattle.headline.specs.Carries as told
use Rattle.headline.specs.Carries.{MeaningResult, Meaning}
use Rattle.grin_syntax.specs.Tree.{Program}
use Rattle.grin_meaning.specs.Values.{no_alternative, out_of_units, missing, Answer}
use Rattle.grin_meaning.specs.Keeps.{RunEnd, done, ended, end_of, world_of}
use Rattle.grin_meaning.specs.Run.{run}

abbrev pub told_end : RunEnd → told.End
told_end done = told.done
told_end (ended no_alternative) = told.no_alternative
told_end (ended out_of_units) = told.going
told_end (ended missing) = told.missing

abbrev pub told_by : Answer → MeaningResult
told_by a = record {
  out = (world_of a).out;
  end = told_end (end_of a);
  cells = length (world_of a).cells;
  depth = (world_of a).depth;
  used = (world_of a).used;
}

abbrev pub meaning_of_grin : Program → Meaning
meaning_of_grin g i n = told_by (run g i n)

-- what it enters: the procedure of each unit, in order
abbrev pub entered_by_grin : Program → (input : List ℕ) → (units : ℕ) → List ℕ
entered_by_grin g i n = (world_of (run g i n)).entered
