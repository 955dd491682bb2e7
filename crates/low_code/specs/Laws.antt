-- What the number of units changes in a run, and what the limits of its room do.
use Rattle.std.specs.Prelude.{◌≡◌, ◌≢◌, ℕ, zero, ◌+◌, ◌-◌, ◌*◌, ◌≤◌, ◌<◌, List, length}
use Rattle.headline.specs.Carries.{IsPrefixOf, ExtendsShorterRun}
use Rattle.low_code.specs.Tree.{Program}
use Rattle.low_code.specs.Values.{World, out_of_units, heap_full, stack_full, Room, Answer}
use Rattle.low_code.specs.Run.{run_in, run, limited, ended, end_of, world_of}
use Rattle.low_code.specs.Told.{meaning_of_low}

-- the same with m more units left
abbrev pub with_more_units : ℕ → World → World
with_more_units m w = record w { left = w.left + m }

-- a run with m more units goes on from where one stood: the output and the procedures entered begin
-- as before, cells, frames and bytes taken are no fewer, and where the first one has ended only the
-- units left differ
pub record RunExtends (m : ℕ) (a b : Answer) : Type 0 where
  pub output : IsPrefixOf (world_of a).out (world_of b).out
  pub entered : IsPrefixOf (world_of a).entered (world_of b).entered
  pub cells : length (world_of a).cells ≤ length (world_of b).cells
  pub frames : (world_of a).frames ≤ (world_of b).frames
  pub used : (world_of a).used ≤ (world_of b).used
  pub same_end : end_of a ≢ ended out_of_units → end_of b ≡ end_of a
  pub same_world : end_of a ≢ ended out_of_units → world_of b ≡ with_more_units m (world_of a)

abbrev pub MoreUnitsExtend : Type 0
MoreUnitsExtend = (p : Program) (frame_words : ℕ → ℕ) (room : Room) (i : List ℕ) (m n : ℕ)
    → m ≤ n → RunExtends (n - m) (run_in p frame_words room i m) (run_in p frame_words room i n)

-- a run enters one procedure for each unit
abbrev pub OneEntryAUnit : Type 0
OneEntryAUnit = (p : Program) (frame_words : ℕ → ℕ) (room : Room) (i : List ℕ) (n : ℕ)
    → let w = world_of (run_in p frame_words room i n) in length w.entered + w.left ≡ n

-- a is a run with room for so many cells and bytes of frames, b the one without limits: b is a, or
-- a is full on the way to b
pub record AgreesUpToLimits (cells stack : ℕ) (a b : Answer) : Type 0 where
  pub not_full : end_of a ≢ ended heap_full → end_of a ≢ ended stack_full → a ≡ b
  pub heap_full : end_of a ≡ ended heap_full → cells < length (world_of b).cells
  pub stack_full : end_of a ≡ ended stack_full → stack < 4 * (world_of b).frames
  pub output : IsPrefixOf (world_of a).out (world_of b).out
  pub entered : IsPrefixOf (world_of a).entered (world_of b).entered
  pub used : (world_of a).used ≤ (world_of b).used

-- limits change nothing but that a run may be full; where no unit is left, a run without limits and
-- with one unit less has come to no more output
abbrev pub LimitsOnlyStop : Type 0
LimitsOnlyStop = (p : Program) (frame_words : ℕ → ℕ) (cells stack : ℕ) (i : List ℕ) (n : ℕ)
    → let a = limited p frame_words cells stack i n in
    AgreesUpToLimits cells stack a (run p frame_words i n)
    × ((world_of a).left ≡ zero
    → ExtendsShorterRun (meaning_of_low p frame_words i) n (world_of a).out)
