-- Selected items do what low code does, whatever their layout: their courses follow its runs and
-- arrive where those do, each return
-- goes home, and where no alternative was found a course leaves by the jump there.
use Rattle.std.proofs.Common.{◌≡◌, ℕ, List, [], length, refl}
use Rattle.headline.specs.Carries.{IsBytes}
use Rattle.rv32_steps.specs.Trace.{procedures_at}
use Rattle.low_code.specs.Tree.{Program}
use Rattle.low_code.specs.Run.{limited, NeverMissing}
use Rattle.register_alloc.specs.Assignment.{Assignment, words_at}
use Rattle.rv32_items.specs.declared.Item.{Item}
use Rattle.rv32_items.specs.Course.{Layout, Exited, course}
use Rattle.rv32_items.specs.Placed.{AddressesRise}
use Rattle.rv32_items.specs.Told.{ReturnsHome}
use Rattle.rv32_select.specs.IsSelected.{IsSelected}
use Rattle.rv32_select.specs.Laws.{SelectionRefines}
use Rattle.rv32_select.specs.Selectable.{Selectable}
use Rattle.rv32_select.specs.Selects.{BelowHeap, start_point, Follows, ReachesAnswer, HasNextCell}
use Rattle.rv32_select.proofs.Leaves.{Leaves, leaves_by}
use Rattle.rv32_select.proofs.PlaceFacts.{Setting}
use Rattle.rv32_select.proofs.WholeRun.{Started}
use Rattle.rv32_select.proofs.Dynamics.{selected_follows, selected_arrives, selected_home, selected_leaves, selected_next_cell}
use Rattle.rv32_select.proofs.SelectedSetting.{selected_setting, selected_start}
use Rattle.rv32_select.proofs.Statics.{begins, selected_statics}

-- what is known of the courses of selected items, whatever their layout, where these are the labels
-- of procedures
pub record SelectedRuns (l : Program) (a : Assignment) (cells stack : ℕ) (items : List Item)
    (begins : List ℕ) : Type 0 where
  pub follows : (lay : Layout) → AddressesRise items lay → BelowHeap lay → (i : List ℕ) → IsBytes i
      → (k : ℕ) →
      let c = course lay items k i (start_point l.width cells stack lay) in
      Follows begins i
      (limited l (words_at a) cells stack i (length (procedures_at begins c.passed))) c
  pub arrives : (lay : Layout) → AddressesRise items lay → BelowHeap lay → (i : List ℕ) → IsBytes i
      → (n : ℕ) →
      (k : ℕ) × ReachesAnswer begins i (limited l (words_at a) cells stack i n)
      (course lay items k i (start_point l.width cells stack lay))
  pub home : (lay : Layout) → AddressesRise items lay → BelowHeap lay → (i : List ℕ) → IsBytes i
      → (k : ℕ) →
      ReturnsHome lay items k i (start_point l.width cells stack lay) []
  pub leaves : (lay : Layout) → AddressesRise items lay → BelowHeap lay → (i : List ℕ) → IsBytes i
      → (k : ℕ)
      → (course lay items k i (start_point l.width cells stack lay)).end ≡ Exited 3
      → Leaves lay items i (start_point l.width cells stack lay)
  pub next_cell : (lay : Layout) → AddressesRise items lay → BelowHeap lay → (i : List ℕ)
      → IsBytes i → (n : ℕ)
      → HasNextCell lay items l.width cells i (start_point l.width cells stack lay)
      (limited l (words_at a) cells stack i n)

module _ (l : Program) (a : Assignment) (cells stack : ℕ) (items : List Item)
    (fine : Selectable l a cells stack) (s : IsSelected l a cells stack items) where
  setting : (lay : Layout) → AddressesRise items lay → BelowHeap lay
      → Setting l a cells stack lay items (begins (length l.procs))
  setting lay rises below = selected_setting l a cells stack items fine s lay rises below

  started : Started l a cells stack items
  started = selected_start l a cells stack items fine s

  pub selected_runs : NeverMissing l → SelectedRuns l a cells stack items (begins (length l.procs))
  selected_runs there = record {
    follows = λ lay rises below i bytes k. selected_follows l a cells stack lay items
        (begins (length l.procs)) (setting lay rises below) started there i bytes k;
    arrives = λ lay rises below i bytes n. selected_arrives l a cells stack lay items
        (begins (length l.procs)) (setting lay rises below) started there i bytes n;
    home = λ lay rises below i bytes k. selected_home l a cells stack lay items
        (begins (length l.procs)) (setting lay rises below) started there i bytes k;
    leaves = λ lay rises below i bytes k exited. selected_leaves l a cells stack lay items
        (begins (length l.procs)) (setting lay rises below) started there i bytes k exited;
    next_cell = λ lay rises below i bytes n. selected_next_cell l a cells stack lay items
        (begins (length l.procs)) (setting lay rises below) started there i bytes n;
  }

pub selected_items_do : SelectionRefines
selected_items_do l a cells stack items fine there s =
    let still = selected_statics l a cells stack items fine s in
    let runs = selected_runs l a cells stack items fine s there in
    record {
      begins = begins (length l.procs);
      begins_are = refl;
      one_each = still.one_each;
      different = still.different;
      stand = still.stand;
      plain = still.plain;
      labels = still.labels;
      some_item = still.some_item;
      flows = still.flows;
      nine_stop = still.nine_stop;
      few = still.few;
      follows = runs.follows;
      arrives = runs.arrives;
      home = runs.home;
      leaves = λ lay rises below i bytes k exited. leaves_by lay items still.flows.stops 3 k i
          (start_point l.width cells stack lay) still.last still.flows.all_stop exited
          (runs.leaves lay rises below i bytes k exited);
      next_cell = runs.next_cell;
    }
