-- What the courses of selected items are, where none of the program's runs is missing: they follow
-- its runs, arrive where those do,
-- each return goes home, where no alternative was found they leave by the jump there, and they exit
-- with the address of the next cell in x3.
use Rattle.std.proofs.Common.{◌≡◌, ◌≢◌, ℕ, ◌+◌, List, [], length, Some, sym, ap, ◌∙◌, subst, refl}
use Rattle.headline.specs.Carries.{IsBytes}
use Rattle.low_code.specs.Tree.{Program}
use Rattle.low_code.specs.Values.{missing, heap_full, stack_full}
use Rattle.low_code.specs.Run.{ended, end_of, world_of, start_world, limited, NeverMissing}
use Rattle.low_code.proofs.Limits.{limits_only_stop}
use Rattle.low_code.proofs.MoreUnits.{one_entry_a_unit}
use Rattle.register_alloc.specs.Assignment.{Assignment, words_at}
use Rattle.rv32_steps.specs.Trace.{procedures_at}
use Rattle.rv32_items.specs.declared.Item.{Item}
use Rattle.rv32_items.specs.Course.{Layout, Point, Exited, course}
use Rattle.rv32_items.specs.Told.{ReturnsHome}
use Rattle.rv32_select.specs.Selects.{start_point, EndsLikeRun, Follows, ReachesAnswer, HasNextCell}
use Rattle.rv32_select.proofs.Straight.{at}
use Rattle.rv32_select.proofs.Leaves.{Leaves}
use Rattle.rv32_select.proofs.Relation.{bases}
use Rattle.rv32_select.proofs.PlaceFacts.{Setting}
use Rattle.rv32_select.proofs.StartUp.{start_data, starts_at}
use Rattle.rv32_select.proofs.WholeRun.{Started, whole_run}
use Rattle.rv32_select.proofs.Outcomes.{IsStart, follows, arrives, home, leaves, next_cell}

module _ (l : Program) (a : Assignment) (cells stack : ℕ) (lay : Layout) (items : List Item)
    (begins : List ℕ) (s : Setting l a cells stack lay items begins)
    (z : Started l a cells stack items) (whole : NeverMissing l) where
  -- no run with limits is missing
  never : (i : List ℕ) (n : ℕ) → IsBytes i → end_of (limited l (words_at a) cells stack i n) ≢ ended
      missing
  never i n bytes e =
      let w = (limits_only_stop l (words_at a) cells stack i n).0 in
      let same = w.not_full (λ h. absurd (different_heap (sym e ∙ h)))
      (λ h. absurd (different_stack (sym e ∙ h))) in
      whole (words_at a) i bytes n (ap end_of (sym same) ∙ e)
    where
      different_heap : ended missing ≡ ended heap_full → ⊥
      different_heap h = cc

      different_stack : ended missing ≡ ended stack_full → ⊥
      different_stack h = cc

  abbrev from : Point
  from = at (bases stack) lay items 0 (start_data l.width cells stack)

  from_is : at (bases stack) lay items 0 (start_data l.width cells stack) ≡ start_point l.width
      cells stack lay
  from_is = starts_at l.width cells stack lay items s.stack_four

  starting : (i : List ℕ) (n : ℕ) → IsStart lay items begins l.width cells i from
      (start_world l (words_at a) i n)
  starting i n = record { input_is = refl; used_is = refl; out_is = refl; entered_is = refl }

  counted : (i : List ℕ) (n : ℕ) → length
      (world_of (limited l (words_at a) cells stack i n)).entered +
      (world_of (limited l (words_at a) cells stack i n)).left ≡ n
  counted i n = one_entry_a_unit l (words_at a) (record { cells = Some cells; stack = Some stack })
      i n

  pub selected_follows : (i : List ℕ) → IsBytes i → (k : ℕ) →
      let c = course lay items k i (start_point l.width cells stack lay) in
      Follows begins i
      (limited l (words_at a) cells stack i (length (procedures_at begins c.passed))) c
  selected_follows i bytes k =
      let n = length (procedures_at begins (course lay items k i from).passed) in
      subst (λ p. Follows begins i
      (limited l (words_at a) cells stack i
      (length (procedures_at begins (course lay items k i p).passed))) (course lay items k i p))
      from_is
      (follows lay items begins l.width cells i from (start_world l (words_at a) i n) (starting i n)
      k
      (limited l (words_at a) cells stack i n)
      (whole_run l a cells stack lay items begins s z i n bytes (never i n bytes))
      (counted i n))

  pub selected_arrives : (i : List ℕ) → IsBytes i → (n : ℕ) → (k : ℕ)
      × ReachesAnswer begins i (limited l (words_at a) cells stack i n)
      (course lay items k i (start_point l.width cells stack lay))
  selected_arrives i bytes n =
      subst (λ p. (k : ℕ) × ReachesAnswer begins i (limited l (words_at a) cells stack i n)
      (course lay items k i p)) from_is
      (arrives lay items begins l.width cells i from (start_world l (words_at a) i n) (starting i n)
      (limited l (words_at a) cells stack i n)
      (whole_run l a cells stack lay items begins s z i n bytes (never i n bytes)))

  pub selected_home : (i : List ℕ) → IsBytes i → (k : ℕ)
      → ReturnsHome lay items k i (start_point l.width cells stack lay) []
  selected_home i bytes k =
      subst (λ p. ReturnsHome lay items k i p []) from_is
      (home lay items begins l.width cells i from (start_world l (words_at a) i k) (starting i k) k
      (limited l (words_at a) cells stack i k)
      (whole_run l a cells stack lay items begins s z i k bytes (never i k bytes))
      (counted i k))

  -- a course that has come to exit 3 has left by the jump where no alternative was found
  pub selected_leaves : (i : List ℕ) → IsBytes i → (k : ℕ)
      → (course lay items k i (start_point l.width cells stack lay)).end ≡ Exited 3
      → Leaves lay items i (start_point l.width cells stack lay)
  selected_leaves i bytes k exited =
      let begin = start_point l.width cells stack lay in
      let n = length (procedures_at begins (course lay items k i begin).passed) in
      let x = limited l (words_at a) cells stack i n in
      let f = selected_follows i bytes k in
      let exit = (subst (λ e. EndsLikeRun i x (course lay items k i begin) e) exited f.finish).0 in
      subst (λ p. Leaves lay items i p) from_is
      (leaves lay items begins l.width cells i from (start_world l (words_at a) i n) (starting i n)
      x
      (whole_run l a cells stack lay items begins s z i n bytes (never i n bytes)) exit)

  pub selected_next_cell : (i : List ℕ) → IsBytes i → (n : ℕ)
      → HasNextCell lay items l.width cells i (start_point l.width cells stack lay)
      (limited l (words_at a) cells stack i n)
  selected_next_cell i bytes n =
      subst (λ p. HasNextCell lay items l.width cells i p (limited l (words_at a) cells stack i n))
      from_is
      (next_cell lay items begins l.width cells i from (start_world l (words_at a) i n)
      (starting i n)
      (limited l (words_at a) cells stack i n)
      (whole_run l a cells stack lay items begins s z i n bytes (never i n bytes)))
