-- Where items go, whatever their layout.
use Rattle.std.specs.Prelude.{◌⊎◌, ◌≡◌, ℕ, suc, ◌≤◌, ◌<◌, Bool, true, false, List, Option, Some, slice_get}
use Rattle.rv32_steps.specs.Trace.{is_return, is_one_of}
use Rattle.rv32_items.specs.declared.Item.{Item}
use Rattle.rv32_items.specs.declared.Item.TheVariants.{Label, Plain}
use Rattle.rv32_items.specs.Course.{label_from}
use Rattle.rv32_items.specs.Placed.{is_instruction, target_of}
use Rattle.rv32_items.specs.Told.{is_call}

abbrev pub begins_procedure : (begins : List ℕ) → Option Item → Bool
begins_procedure begins (Some (Label l)) = is_one_of begins l
begins_procedure begins _ = false

-- no procedure begins at one of these items
abbrev pub NoProcedureBegins : (begins : List ℕ) → List Item → (from to : ℕ) → Type 0
NoProcedureBegins begins items from to =
    (q : ℕ) → from ≤ q → q ≤ to → begins_procedure begins (slice_get items q) ≡ false

-- from item n to item t: on in its procedure, to where a procedure begins, or to the stops, which
-- stand behind all procedures
abbrev pub IsForwardTransfer : (begins : List ℕ) → List Item → (stops n t : ℕ) → Type 0
IsForwardTransfer begins items stops n t =
    ((n < t) × NoProcedureBegins begins items (suc n) t)
    ⊎ ((begins_procedure begins (slice_get items t) ≡ true) ⊎ ((n < t) × (stops ≤ t)))

-- a stop has labels and plain instructions alone, and does not return
abbrev pub IsStopItem : Item → Type 0
IsStopItem (Label l) = Unit {0}
IsStopItem (Plain i) = is_return i ≡ false
IsStopItem _ = ⊥

-- how items go from one to the next, whatever their layout; `begins` has the label of each
-- procedure
pub record HasStructuredFlow (begins : List ℕ) (items : List Item) : Type 0 where
  -- the first of the items behind all procedures, which is a label
  pub stops : ℕ
  pub procedures_before : (n : ℕ) → begins_procedure begins (slice_get items n) ≡ true → n < stops
  pub first_stop : (l : ℕ) × (slice_get items stops ≡ Some (Label l))
  pub all_stop : (n : ℕ) (i : Item) → stops ≤ n → slice_get items n ≡ Some i → IsStopItem i
  -- an instruction stands right behind the label of a procedure
  pub instruction_behind : (n : ℕ) → begins_procedure begins (slice_get items n) ≡ true
      → is_instruction (slice_get items (suc n)) ≡ true
  pub goes_on : (n l t : ℕ) (i : Item) → slice_get items n ≡ Some i → target_of i ≡ Some l
      → label_from 0 items l ≡ Some t → IsForwardTransfer begins items stops n t
  pub calls : (n l : ℕ) (i : Item) → slice_get items n ≡ Some i → is_call (Some i) ≡ true
      → target_of i ≡ Some l → is_one_of begins l ≡ true
