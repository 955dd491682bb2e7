-- What a program of low code tells: its output, its end, its cells and the words of its frames; and
-- the procedures it enters.
use Rattle.std.specs.Prelude.{ℕ, List, length}
use Rattle.headline.specs.Carries.{MeaningResult, Meaning}
use Rattle.headline.specs.Carries as told
use Rattle.low_code.specs.Tree.{Program}
use Rattle.low_code.specs.Values.{no_alternative, out_of_units, missing, heap_full, stack_full, Answer}
use Rattle.low_code.specs.Run.{RunEnd, done, ended, run, end_of, world_of}

-- a run that is full goes on without limits
abbrev pub told_end : RunEnd → told.End
told_end done = told.done
told_end (ended no_alternative) = told.no_alternative
told_end (ended out_of_units) = told.going
told_end (ended missing) = told.missing
told_end (ended heap_full) = told.going
told_end (ended stack_full) = told.going

abbrev pub told_by : Answer → MeaningResult
told_by a =
    let w = world_of a in record {
      out = w.out;
      end = told_end (end_of a);
      cells = length w.cells;
      depth = w.frames;
      used = w.used;
    }

-- what a program tells over frames of so many words
abbrev pub meaning_of_low : Program → (frame_words : ℕ → ℕ) → Meaning
meaning_of_low p frame_words i n = told_by (run p frame_words i n)

-- the procedures that it enters, in order
abbrev pub entered_by_low : Program → (frame_words : ℕ → ℕ) → List ℕ → ℕ → List ℕ
entered_by_low p frame_words i n = (world_of (run p frame_words i n)).entered
