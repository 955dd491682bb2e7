-- Items that do what low code does, in frames and on a heap of the given sizes.
use Rattle.std.specs.Prelude.{◌≡◌, ℕ, ◌+◌, ◌-◌, ◌*◌, ◌≤◌, true, false, List, [], ◌∷◌, length, drop, replicate, Option, Some, None, slice_get}
use Rattle.std.specs.List.{range_with_len}
use Rattle.headline.specs.Carries.{IsBytes, IsPrefixOf}
use Rattle.low_code.specs.Tree.{Program}
use Rattle.low_code.specs.Values.{World, Answer, gives, stops, no_alternative, out_of_units, missing, heap_full, stack_full}
use Rattle.low_code.specs.Run.{RunEnd, done, ended, end_of, world_of, limited}
use Rattle.low_code.specs.Size.{program_size, calls_of, AtMostTwoTests}
use Rattle.register_alloc.specs.Assignment.{Assignment, words_at}
use Rattle.rv32_machine.specs.Memory.{Stretch, end_of as end_of_stretch}
use Rattle.rv32_steps.specs.Trace.{is_one_of, AllDifferent, procedures_at}
use Rattle.rv32_items.specs.declared.Item.{Item}
use Rattle.rv32_items.specs.Course.{Layout, Point, CourseEnd as CourseEnd, Going, Exited, Stopped, Course, course}
use Rattle.rv32_items.specs.Placed.{is_instruction, size_of, AllPlain, LabelsStand, times, AddressesRise}
use Rattle.rv32_items.specs.Told.{ReturnsHome}
use Rattle.rv32_items.specs.Leaving.{LeavesByLinkJump, ExitsWithRegister}
use Rattle.limits.specs.Limits.{heap_start, stack_end}
pub use Rattle.rv32_items.specs.Flows.{begins_procedure, NoProcedureBegins, IsForwardTransfer, IsStopItem, HasStructuredFlow}

-- ---- where the items start

-- a segment of zeros that may be written
abbrev pub zeros : (first size : ℕ) → Stretch
zeros first size = record { first = first; write = true; exec = false; bytes = replicate size 0 }

-- at the first item, with all registers zero
abbrev pub start_point : (width cells stack : ℕ) → Layout → Point
start_point width cells stack lay = record {
  regs = λ r. 0;
  item = 0;
  memory = lay.code ∷ zeros heap_start (4 * width * cells) ∷ zeros (stack_end - stack) stack ∷ [];
}

-- the code ends before the heap begins
abbrev pub BelowHeap : Layout → Type 0
BelowHeap lay = end_of_stretch lay.code ≤ heap_start

-- ---- what the items do

-- the code with which the image exits where a run ends so
abbrev pub exit_of : RunEnd → Option ℕ
exit_of done = Some 0
exit_of (ended no_alternative) = Some 3
exit_of (ended heap_full) = Some 4
exit_of (ended stack_full) = Some 5
exit_of (ended out_of_units) = None
exit_of (ended missing) = None

abbrev pub SameOutputAndInput : (input : List ℕ) → Answer → Course → Type 0
SameOutputAndInput input a c =
    (c.out ≡ (world_of a).out) × (length input - length c.left ≡ (world_of a).used)

abbrev pub EndsLikeRun : (input : List ℕ) → Answer → Course → CourseEnd → Type 0
EndsLikeRun input a c (Going p) = Unit {0}
EndsLikeRun input a c (Exited code) =
    (exit_of (end_of a) ≡ Some code) × SameOutputAndInput input a c
EndsLikeRun input a c (Stopped kind) = ⊥

-- a course has written and read no more than a run, passed the labels of the procedures that the
-- run entered, and ended only as the run has
pub record Follows (begins input : List ℕ) (a : Answer) (c : Course) : Type 0 where
  pub entered : procedures_at begins c.passed ≡ (world_of a).entered
  pub output : IsPrefixOf c.out (world_of a).out
  pub used : length input - length c.left ≤ (world_of a).used
  pub finish : EndsLikeRun input a c c.end

abbrev pub Matches : (input : List ℕ) → Answer → Course → Option ℕ → Type 0
Matches input a c None = Unit {0}
Matches input a c (Some code) = (c.end ≡ Exited code) × SameOutputAndInput input a c

-- a course has passed the labels of just the procedures that a run entered, written what that has,
-- and ended where it has
pub record ReachesAnswer (begins input : List ℕ) (a : Answer) (c : Course) : Type 0 where
  pub entered : procedures_at begins c.passed ≡ (world_of a).entered
  pub output : IsPrefixOf (world_of a).out c.out
  pub ended : Matches input a c (exit_of (end_of a))

-- a course exits with this code while x3 has the address of the next cell, right behind all cells
-- that a run bound, which are no more than it was given
abbrev pub ExitsBehindCells : (lay : Layout) → (items : List Item) → (width cells : ℕ)
    → (input : List ℕ) → (start : Point) → (code : ℕ) → World → Type 0
ExitsBehindCells lay items width cells input p code w =
    (length w.cells ≤ cells)
    × ExitsWithRegister lay items input p code 3 (heap_start + 4 * width * length w.cells)

-- so it is wherever a run ends with a code, but where the heap is full x3 may be past its end
abbrev pub HasNextCell : (lay : Layout) → (items : List Item) → (width cells : ℕ)
    → (input : List ℕ) → (start : Point) → Answer → Type 0
HasNextCell lay items width cells i p (gives vs w) = ExitsBehindCells lay items width cells i p 0 w
HasNextCell lay items width cells i p (stops no_alternative w) =
    ExitsBehindCells lay items width cells i p 3 w
HasNextCell lay items width cells i p (stops stack_full w) =
    ExitsBehindCells lay items width cells i p 5 w
HasNextCell lay items width cells i p (stops heap_full w) = Unit {0}
HasNextCell lay items width cells i p (stops out_of_units w) = Unit {0}
HasNextCell lay items width cells i p (stops missing w) = Unit {0}

-- ---- selection

pub record Selects (l : Program) (a : Assignment) (cells stack : ℕ) (items : List Item)
    : Type 0 where
  pub begins : List ℕ
  -- the labels 0, 1 and so on
  pub begins_are : begins ≡ range_with_len 0 (length l.procs)
  pub one_each : length begins ≡ length l.procs
  pub different : AllDifferent begins
  pub stand : (b : ℕ) → is_one_of begins b ≡ true → times b items ≡ 1
  pub plain : AllPlain items
  pub labels : LabelsStand items
  pub some_item : (n : ℕ) × (is_instruction (slice_get items n) ≡ true)
  pub flows : HasStructuredFlow begins items
  -- the stops are nine instructions, three for each code with which a run ends early
  pub nine_stop : size_of (drop flows.stops items) ≡ 9
  -- no more items, counted as they are placed, than this
  pub few : AtMostTwoTests l
      → size_of items
      ≤ 64 * (length l.procs + length l.globals + 1) + 8 * program_size l + 256 * calls_of l
  -- whatever the layout, where the code is below the heap: after any number of items the course
  -- follows the run with as many units as procedures were passed,
  pub follows : (lay : Layout) → AddressesRise items lay → BelowHeap lay
      → (i : List ℕ) → IsBytes i → (k : ℕ) →
      let c = course lay items k i (start_point l.width cells stack lay) in
      Follows begins i
      (limited l (words_at a) cells stack i (length (procedures_at begins c.passed))) c
  -- for any number of units it arrives where the run does,
  pub arrives : (lay : Layout) → AddressesRise items lay → BelowHeap lay
      → (i : List ℕ) → IsBytes i → (n : ℕ) →
      (k : ℕ)
      × ReachesAnswer begins i (limited l (words_at a) cells stack i n)
      (course lay items k i (start_point l.width cells stack lay))
  -- each return goes behind the last call that is open,
  pub home : (lay : Layout) → AddressesRise items lay → BelowHeap lay
      → (i : List ℕ) → IsBytes i → (k : ℕ) →
      ReturnsHome lay items k i (start_point l.width cells stack lay) []
  -- and where a course ends because no alternative was found, it left the procedures by a jump that
  -- links x5
  pub leaves : (lay : Layout) → AddressesRise items lay → BelowHeap lay
      → (i : List ℕ) → IsBytes i → (k : ℕ)
      → (course lay items k i (start_point l.width cells stack lay)).end ≡ Exited 3
      → LeavesByLinkJump lay items flows.stops 5 i (start_point l.width cells stack lay) k
  -- for any number of units, where the run ends with a code, the course exits with the address
  -- behind the run's cells in x3
  pub next_cell : (lay : Layout) → AddressesRise items lay → BelowHeap lay
      → (i : List ℕ) → IsBytes i → (n : ℕ)
      → HasNextCell lay items l.width cells i (start_point l.width cells stack lay)
      (limited l (words_at a) cells stack i n)
