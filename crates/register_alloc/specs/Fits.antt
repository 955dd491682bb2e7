-- Places that fit a program of low code.
use Rattle.std.specs.Prelude.{◌⊎◌, ◌≡◌, ◌≢◌, ◌↔◌, ℕ, suc, ◌+◌, ◌≤◌, ◌<◌, max, true, List, [], ◌∷◌, length, Some, slice_get}
use Rattle.parallel_move.specs.declared.Spot.{Spot}
use Rattle.parallel_move.specs.declared.Spot.TheVariants.{Reg, Slot, Scratch}
use Rattle.low_code.specs.Tree.{Code, Procedure, Program}
use Rattle.low_code.specs.Formed.{variables, all_variables, calls_in, all_sites, Site}
use Rattle.register_alloc.specs.Live.{IsLive, EachBindingOf, LiveAfter}
use Rattle.register_alloc.specs.Written.{Written}
use Rattle.register_alloc.specs.Assignment.{Assignment, place_of, may_change, saves_at, words_at}
use Rattle.seq.specs.Lists.{is_among}

-- a register x8 to x31, or a slot
abbrev pub IsPlace : Spot → Type 0
IsPlace (Reg r) = (8 ≤ r) × (r < 32)
IsPlace (Slot k) = Unit {0}
IsPlace Scratch = ⊥

abbrev pub IsSlot : Spot → Type 0
IsSlot (Slot k) = Unit {0}
IsSlot _ = ⊥

abbrev pub IsRegister : Spot → Type 0
IsRegister (Reg r) = Unit {0}
IsRegister _ = ⊥

-- ---- variables that stand apart

module _ (place : ℕ → Spot) where
  -- the place of x is that of no other variable that is live
  abbrev pub Clear : (scope : List ℕ) → Code → (later : List ℕ) → ℕ → Type 0
  Clear scope c later x = (y : ℕ) → IsLive scope c later y → place y ≢ place x

  abbrev pub ClearOf : ℕ → List ℕ → Type 0
  ClearOf x [] = Unit {0}
  ClearOf x (y ∷ ys) = (place y ≢ place x) × ClearOf x ys

  -- the places of variables that are bound at one point are apart from each other and from those of
  -- the variables live after it
  abbrev pub Apart : (scope xs : List ℕ) → Code → (later : List ℕ) → Type 0
  Apart scope [] c later = Unit {0}
  Apart scope (x ∷ xs) c later = Clear scope c later x × (ClearOf x xs × Apart scope xs c later)

  -- a register holds a variable that is bound at a point, or live after it
  abbrev pub Holds : (scope xs : List ℕ) → Code → (later : List ℕ) → (r : ℕ) → Type 0
  Holds scope xs c later r =
      (y : ℕ) × ((is_among y xs ≡ true) ⊎ IsLive scope c later y) × (place y ≡ Reg r)

  -- a variable that is bound at a point has a slot only where each of x8 to x31 holds another one
  abbrev pub Full : (scope xs : List ℕ) → Code → (later : List ℕ) → Type 0
  Full scope xs c later =
      (x : ℕ) → is_among x xs ≡ true → IsSlot (place x) → (r : ℕ) → 8 ≤ r
      → r < 32 → Holds scope xs c later r

-- ---- frames

abbrev pub slot_end : Spot → ℕ
slot_end (Slot k) = suc k
slot_end _ = 0

-- the slots of variables: one more than the last one's number
abbrev pub slots_of : (ℕ → Spot) → List ℕ → ℕ
slots_of place [] = 0
slots_of place (x ∷ xs) = max (slot_end (place x)) (slots_of place xs)

abbrev pub most_saved : (ℕ → List ℕ) → List Site → ℕ
most_saved saved [] = 0
most_saved saved (s ∷ ss) = max (length (saved s.0)) (most_saved saved ss)

-- one word for the return address, then the slots, then the longest list of saved registers
abbrev pub words_of_frame : Assignment → Procedure → ℕ
words_of_frame a q =
    1 + slots_of (place_of a) (variables q) + most_saved (saves_at a) (calls_in q.body)

abbrev pub Ascending : List ℕ → Type 0
Ascending [] = Unit {0}
Ascending (r ∷ []) = Unit {0}
Ascending (r ∷ q ∷ rs) = (r < q) × Ascending (q ∷ rs)

-- the registers of the variables live after the call at a site that the called procedure may change
abbrev pub IsSaved : Assignment → Procedure → (site called r : ℕ) → Type 0
IsSaved a q site called r =
    (x : ℕ) × (LiveAfter site q.params q.body [] x
    × ((place_of a x ≡ Reg r) × (may_change a called r ≡ true)))

-- ---- the whole program

-- each variable, procedure and site is inside the lists
pub record ListsCoverProgram (p : Program) (a : Assignment) : Type 0 where
  pub variables : (x : ℕ) → is_among x (all_variables p.procs) ≡ true → x < length a.spots
  pub masks : length a.masks ≡ length p.procs
  pub frames : length a.frames ≡ length p.procs
  pub sites : (s : ℕ) → is_among s (all_sites p.procs) ≡ true → s < length a.saves

abbrev pub AllSlots : Program → Assignment → Type 0
AllSlots p a = (x : ℕ) → is_among x (all_variables p.procs) ≡ true → IsSlot (place_of a x)

abbrev pub ParametersInRegisters : Program → Assignment → Type 0
ParametersInRegisters p a =
    (f x : ℕ) (q : Procedure) → slice_get p.procs f ≡ Some q
    → is_among x q.params ≡ true → IsRegister (place_of a x)

pub record Fits (p : Program) (a : Assignment) : Type 0 where
  pub covers : ListsCoverProgram p a
  pub places : (x : ℕ) → is_among x (all_variables p.procs) ≡ true → IsPlace (place_of a x)
  pub apart : (f : ℕ) (q : Procedure) → slice_get p.procs f ≡ Some q
      → EachBindingOf (Apart (place_of a)) q
  -- no register below x8 or beyond x31 is said to be changed
  pub changed : (f r : ℕ) → may_change a f r ≡ true → (8 ≤ r) × (r < 32)
  pub written : (f r : ℕ) → f < length p.procs
      → (may_change a f r ≡ true) ↔ Written (place_of a) p f r
  pub saved : (f k site called r : ℕ) (q : Procedure) → slice_get p.procs f ≡ Some q
      → slice_get (calls_in q.body) k ≡ Some (site, called)
      → (is_among r (saves_at a site) ≡ true) ↔ IsSaved a q site called r
  pub ascending : (site : ℕ) → Ascending (saves_at a site)
  pub frames : (f : ℕ) (q : Procedure) → slice_get p.procs f ≡ Some q
      → words_at a f ≡ words_of_frame a q
  -- a frame has no more words than one for each variable and one for the return address
  pub dense : (f : ℕ) (q : Procedure) → slice_get p.procs f ≡ Some q
      → words_at a f ≤ 1 + length (variables q)
  -- arguments travel in the registers of the parameters, or, where no variable has a register, in
  -- x8 and up
  pub parameters : AllSlots p a ⊎ ParametersInRegisters p a

-- every register is used before a slot is, and each parameter has one
pub record UsesRegisters (p : Program) (a : Assignment) : Type 0 where
  pub full : (f : ℕ) (q : Procedure) → slice_get p.procs f ≡ Some q
      → EachBindingOf (Full (place_of a)) q
  pub parameters : ParametersInRegisters p a
