-- Who holds the registers at a point of a procedure, and how variables that are bound there get
-- their places.
use Rattle.std.specs.Prelude.{◌⊎◌, ◌≡◌, ◌↔◌, ℕ, suc, ◌+◌, ◌<◌, true, false, List, [], ◌∷◌, ◌++◌, length, Option, Some, None, slice_get, slice_set}
use Rattle.parallel_move.specs.declared.Spot.{Spot}
use Rattle.parallel_move.specs.declared.Spot.TheVariants.{Reg, Slot}
use Rattle.low_code.specs.Tree.{Code}
use Rattle.register_alloc.specs.Live.{IsLive}
use Rattle.register_alloc.specs.Fits.{Apart, Full, Ascending}
use Rattle.variable_uses.specs.Uses.{IsUsedWithin}
use Rattle.register_alloc.specs.declared.holders.Holder.{Holder}
use Rattle.register_alloc.specs.declared.registers.Given.{Given}
use Rattle.seq.specs.Lists.{is_among}

-- a register is held, by its number from x8 on
abbrev pub HoldsRegister : List (Option Holder) → (r : ℕ) → Holder → Type 0
HoldsRegister held r d = slice_get held r ≡ Some (Some d)

-- register x<n> is held by a variable
abbrev pub IsHeldBy : List (Option Holder) → (n y : ℕ) → Type 0
IsHeldBy held n y =
    (r : ℕ) × ((n ≡ 8 + r) × ((d : Holder) × (HoldsRegister held r d × (d.variable ≡ y))))

-- a holder that isn't used later
abbrev pub new_holder : (x : ℕ) → Holder
new_holder x = record { variable = x; later = false }

-- a holder is used later, or within an interval of positions
abbrev pub IsUsedLaterOrWithin : (used : List ℕ) (from to : ℕ) → Holder → Type 0
IsUsedLaterOrWithin used from to d = (d.later ≡ true) ⊎ IsUsedWithin used d.variable from to

-- a holder goes where it isn't wanted any more
abbrev pub StaysIfWanted : (used : List ℕ) (from to : ℕ) → (old new : Option Holder) → Type 0
StaysIfWanted used from to None new = new ≡ None
StaysIfWanted used from to (Some d) None = IsUsedLaterOrWithin used from to d → ⊥
StaysIfWanted used from to (Some d) (Some e) = (e ≡ d) × IsUsedLaterOrWithin used from to d

-- a holder is marked as used later too where it is wanted
abbrev pub IsMarkedIfWanted : (used : List ℕ) (from to : ℕ) → (old new : Option Holder) → Type 0
IsMarkedIfWanted used from to None new = new ≡ None
IsMarkedIfWanted used from to (Some d) None = ⊥
IsMarkedIfWanted used from to (Some d) (Some e) = (e.variable ≡ d.variable)
    × ((e.later ≡ true) ↔ IsUsedLaterOrWithin used from to d)

-- a relation holds of what stands at each place of two lists
pub record Pairwise (R : Option Holder → Option Holder → Type 0)
    (old new : List (Option Holder)) : Type 0 where
  pub many : length new ≡ length old
  pub each : (r : ℕ) (d e : Option Holder) → slice_get old r ≡ Some d → slice_get new r ≡ Some e
      → R d e

-- those that are still used, within an interval of positions or later
abbrev pub AreStillUsed : (used : List ℕ) (from to : ℕ) → (old new : List (Option Holder)) → Type 0
AreStillUsed used from to old new = Pairwise (StaysIfWanted used from to) old new

-- the same holders, of which those are used later too that are used within an interval of positions
abbrev pub AreMarkedForJoin : (used : List ℕ) (from to : ℕ)
    → (old new : List (Option Holder)) → Type 0
AreMarkedForJoin used from to old new = Pairwise (IsMarkedIfWanted used from to) old new

pub record AllFree (held : List (Option Holder)) : Type 0 where
  pub many : length held ≡ 24
  pub free : (r : ℕ) (d : Holder) → HoldsRegister held r d → ⊥

-- the registers that are held, ascending, by their own numbers
pub record AreRegisters (held : List (Option Holder)) (registers : List ℕ) : Type 0 where
  pub ascending : Ascending registers
  pub each : (r : ℕ) → (is_among r registers ≡ true)
      ↔ ((q : ℕ) × ((r ≡ 8 + q) × ((q < 24) × ((d : Holder) × HoldsRegister held q d))))

-- a variable gets a free register, or, where all are held, the next slot
pub data AssignsPlace (held : List (Option Holder)) (slots x : ℕ) : Spot → List (Option Holder)
    → (slots' : ℕ) → Type 0 where
  register : (r : ℕ) → r < 24 → slice_get held r ≡ Some None
      → AssignsPlace held slots x (Reg (8 + r)) (slice_set held r (Some (new_holder x))) slots
  slot : ((r : ℕ) → r < 24 → (d : Holder) × HoldsRegister held r d)
      → AssignsPlace held slots x (Slot slots) held (suc slots)

-- ---- places that are given

-- the variables that have got places
abbrev pub variables_of : List Given → List ℕ
variables_of [] = []
variables_of (g ∷ gs) = g.variable ∷ variables_of gs

-- these places are those of the variables
abbrev pub PlacesAgree : (place : ℕ → Spot) → List Given → Type 0
PlacesAgree place given =
    (k : ℕ) (g : Given) → slice_get given k ≡ Some g → place g.variable ≡ g.spot

-- nothing that was given changes
abbrev pub KeepsGivenPlaces : (old new : List Given) → Type 0
KeepsGivenPlaces old new = (k : ℕ) (g : Given) → slice_get old k ≡ Some g → slice_get new k ≡ Some g

-- registers x8 to x31, and slots that are numbered from 0 on
pub data SlotsAreNumbered : List Given → (slots : ℕ) → Type 0 where
  none : SlotsAreNumbered [] 0
  in_register : {gs : List Given} {n : ℕ} (x r : ℕ) → SlotsAreNumbered gs n → r < 24
      → SlotsAreNumbered (gs ++ (record { variable = x; spot = Reg (8 + r) } ∷ [])) n
  in_slot : {gs : List Given} {n : ℕ} (x : ℕ) → SlotsAreNumbered gs n
      → SlotsAreNumbered (gs ++ (record { variable = x; spot = Slot n } ∷ [])) (suc n)

-- ---- the holders at a point

-- none of these is among those
abbrev pub AreDisjoint : (xs later : List ℕ) → Type 0
AreDisjoint xs later = (x : ℕ) → is_among x xs ≡ true → is_among x later ≡ false

module _ (place : ℕ → Spot) (scope : List ℕ) where
  -- who holds a register is bound before and has it as its place; each live variable that has a
  -- register holds it; slots of
  -- live variables are given already
  pub record Holding (c : Code) (later : List ℕ) (slots : ℕ)
      (held : List (Option Holder)) : Type 0 where
    pub many : length held ≡ 24
    pub place_is : (r : ℕ) (d : Holder) → HoldsRegister held r d → place d.variable ≡ Reg (8 + r)
    pub bound : (r : ℕ) (d : Holder) → HoldsRegister held r d → is_among d.variable scope ≡ true
    pub holds : (n y : ℕ) → IsLive scope c later y → place y ≡ Reg n → IsHeldBy held n y
    pub below : (k y : ℕ) → IsLive scope c later y → place y ≡ Slot k → k < slots
    pub later_is : (r : ℕ) (d : Holder) → HoldsRegister held r d
        → d.later ≡ is_among d.variable later

  -- a variable has got its place at this point already, or is live after it
  abbrev pub IsKept : (c : Code) (later : List ℕ) (given : List ℕ) → ℕ → Type 0
  IsKept c later given y = (is_among y given ≡ true) ⊎ IsLive scope c later y

  -- the same at a point where these variables have got their places, and where nobody holds a
  -- register in vain
  pub record Keeps (c : Code) (later : List ℕ) (given : List ℕ) (slots : ℕ)
      (held : List (Option Holder)) : Type 0 where
    pub many : length held ≡ 24
    pub place_is : (r : ℕ) (d : Holder) → HoldsRegister held r d → place d.variable ≡ Reg (8 + r)
    pub kept : (r : ℕ) (d : Holder) → HoldsRegister held r d → IsKept c later given d.variable
    pub holds : (n y : ℕ) → IsKept c later given y → place y ≡ Reg n → IsHeldBy held n y
    pub below : (k y : ℕ) → IsKept c later given y → place y ≡ Slot k → k < slots
    pub later_is : (r : ℕ) (d : Holder) → HoldsRegister held r d
        → d.later ≡ is_among d.variable later

  -- they stand apart, and in slots only where the registers are full
  abbrev pub Good : (xs : List ℕ) → Code → (later : List ℕ) → Type 0
  Good xs c later = Apart place scope xs c later × Full place scope xs c later

  pub record Giving (c : Code) (later : List ℕ) (given : List ℕ) (slots : ℕ)
      (held : List (Option Holder)) : Type 0 where
    pub keeps : Keeps c later given slots held
    pub good : Good given c later
