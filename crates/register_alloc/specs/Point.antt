-- A walk over a procedure: where it stands in the text, and what it has done between two points.
use Rattle.std.specs.Prelude.{◌≡◌, ◌↔◌, ◌≤◌, ◌<◌, ℕ, suc, ◌+◌, true, List, [], ◌∷◌, ◌++◌, length, Option, slice_index_or}
use Rattle.parallel_move.specs.declared.Spot.{Spot}
use Rattle.parallel_move.specs.declared.Spot.TheVariants.{Reg, Slot}
use Rattle.low_code.specs.declared.program.LowTest.{LowTest}
use Rattle.low_code.specs.Tree.{Code, set, prim, load, save, take, put, get, call, join, give, tail, choose, fail, Arms, otherwise, arm, Procedure}
use Rattle.low_code.specs.Formed.{uses, binds, variables}
use Rattle.register_alloc.specs.Live.{IsLive, EachBinding, EachBindingOf}
use Rattle.register_alloc.specs.Fits.{Ascending}
use Rattle.variable_uses.specs.Uses.{AreUses}
use Rattle.register_alloc.specs.Inner.{sizes_of}
use Rattle.variable_uses.specs.Stands.{ListSegmentAt}
use Rattle.register_alloc.specs.Holders.{Holding, Good, AreDisjoint, Keeps, Giving, AssignsPlace, PlacesAgree, KeepsGivenPlaces, SlotsAreNumbered, variables_of}
use Rattle.register_alloc.specs.declared.holders.Holder.{Holder}
use Rattle.register_alloc.specs.declared.registers.CallSite.{CallSite}
use Rattle.register_alloc.specs.declared.registers.Registers.{Registers}
use Rattle.register_alloc.specs.declared.registers.Text.{Text}
use Rattle.seq.specs.Lists.{is_among}

-- ---- what is live after the calls of a block

-- after a call: its site, the procedure, those bound before it, the rest of the block, and what is
-- used later
pub record AfterCall : Type 0 where
  pub site : ℕ
  pub proc : ℕ
  pub scope : List ℕ
  pub rest : Code
  pub later : List ℕ

abbrev mutual
  -- the points after the calls of a block; after a tail call there is nothing
  pub points : (scope : List ℕ) → Code → (later : List ℕ) → List AfterCall
  points scope (set x a c) later = points (x ∷ scope) c later
  points scope (prim f x a b c) later = points (x ∷ scope) c later
  points scope (load x a k c) later = points (x ∷ scope) c later
  points scope (save a k b c) later = points scope c later
  points scope (take xs c) later = points (xs ++ scope) c later
  points scope (put a c) later = points scope c later
  points scope (get x c) later = points (x ∷ scope) c later
  points scope (call f site as' xs c) later =
      record { site = site; proc = f; scope = scope; rest = c; later = later } ∷ points
      (xs ++ scope) c later
  points scope (join xs b c) later = points scope b (uses c ++ later)
      ++ points (xs ++ scope) c later
  points scope (give as') later = []
  points scope (tail f site as') later =
      record { site = site; proc = f; scope = []; rest = fail; later = [] } ∷ []
  points scope (choose as') later = arms_points scope as' later
  points scope fail later = []

  pub arms_points : (scope : List ℕ) → Arms → (later : List ℕ) → List AfterCall
  arms_points scope (otherwise c) later = points scope c later
  arms_points scope (arm ts c as') later = points scope c later ++ arms_points scope as' later

-- the registers of the variables that are live there, ascending
pub record RecordsLiveRegisters (place : ℕ → Spot) (k : CallSite) (p : AfterCall) : Type 0 where
  pub site : k.site ≡ p.site
  pub proc : k.proc ≡ p.proc
  pub ascending : Ascending k.live
  pub small : (r : ℕ) → is_among r k.live ≡ true → r < 32
  pub live : (r : ℕ) → (is_among r k.live ≡ true)
      ↔ ((y : ℕ) × (IsLive p.scope p.rest p.later y × (place y ≡ Reg r)))

abbrev pub RecordsAllLive : (place : ℕ → Spot) → List CallSite → List AfterCall → Type 0
RecordsAllLive place [] [] = Unit {0}
RecordsAllLive place [] (p ∷ ps) = ⊥
RecordsAllLive place (k ∷ ks) [] = ⊥
RecordsAllLive place (k ∷ ks) (p ∷ ps) = RecordsLiveRegisters place k p × RecordsAllLive place ks ps

-- ---- points of the walk

-- no variable that is bound in a block is used later
abbrev pub NoBoundIsUsedLater : (scope : List ℕ) → Code → (later : List ℕ) → Type 0
NoBoundIsUsedLater scope c later =
    EachBinding (λ scope xs c later. AreDisjoint xs later) scope c later

module _ (place : ℕ → Spot) (text : Text) (later : List ℕ) where
  -- the walk stands before a block that ends at a position
  pub record Before (scope : List ℕ) (c : Code) (s : Registers) (held : List (Option Holder))
      (end : ℕ) : Type 0 where
    pub used : List ℕ
    pub are : AreUses used text.uses
    pub uses_stand : ListSegmentAt used s.at (uses c)
    pub ends : end ≡ s.at + length (uses c)
    pub sizes_stand : ListSegmentAt text.sizes.items s.block (sizes_of c)
    pub holding : Holding place scope c later s.slots held

  -- a whole block was walked over
  pub record Walked (scope : List ℕ) (c : Code) (old new : Registers) (end : ℕ) : Type 0 where
    pub each : EachBinding (Good place) scope c later
    pub ends : end ≡ new.at
    pub block : new.block ≡ old.block + length (sizes_of c)
    pub more : List CallSite
    pub calls : new.calls.items ≡ old.calls.items ++ more
    pub notes : RecordsAllLive place more (points scope c later)

  -- the walk went on to what is left of a block
  pub record Onward (scope : List ℕ) (whole left : Code) (old new : Registers)
      (held : List (Option Holder)) (end : ℕ) : Type 0 where
    pub now : List ℕ
    pub before : Before now left new held end
    pub none_later : NoBoundIsUsedLater now left later
    pub each : EachBinding (Good place) now left later → EachBinding (Good place) scope whole later
    pub block : new.block + length (sizes_of left) ≡ old.block + length (sizes_of whole)
    pub more : List CallSite
    pub calls : new.calls.items ≡ old.calls.items ++ more
    pub notes : (rest : List CallSite) → RecordsAllLive place rest (points now left later)
        → RecordsAllLive place (more ++ rest) (points scope whole later)

  -- variables are bound
  pub record Bound (scope xs : List ℕ) (c : Code) (s : Registers) (held : List (Option Holder))
      (end : ℕ) : Type 0 where
    pub before : Before (xs ++ scope) c s held end
    pub good : Good place scope xs c later

-- ---- what a step of the walk does to its state

-- neither places nor calls were added
pub record SameGiven (old new : Registers) : Type 0 where
  pub block : new.block ≡ old.block
  pub slots : new.slots ≡ old.slots
  pub given : new.given.items ≡ old.given.items
  pub calls : new.calls.items ≡ old.calls.items

pub record SameText (old new : Registers) : Type 0 where
  pub at : new.at ≡ old.at
  pub block : new.block ≡ old.block

pub record SamePlaces (old new : Registers) : Type 0 where
  pub slots : new.slots ≡ old.slots
  pub given : new.given.items ≡ old.given.items

pub record IsFreshWalk (s : Registers) : Type 0 where
  pub at : s.at ≡ 0
  pub block : s.block ≡ 0
  pub slots : s.slots ≡ 0
  pub given : s.given.items ≡ []
  pub calls : s.calls.items ≡ []

-- an inner block begins, which ends at a position
pub record EntersInner (text : Text) (old new : Registers) (end : ℕ) : Type 0 where
  pub at : new.at ≡ old.at
  pub block : new.block ≡ suc old.block
  pub ends : end ≡ old.at + slice_index_or text.sizes.items old.block 0
  pub stays : SamePlaces old new
  pub calls : new.calls.items ≡ old.calls.items

-- a variable has got its place
pub record GivesPlace (x : ℕ) (old : Registers) (held : List (Option Holder)) (new : Registers)
    (held' : List (Option Holder)) : Type 0 where
  pub spot : Spot
  pub given : new.given.items ≡ old.given.items ++ (record { variable = x; spot = spot } ∷ [])
  pub step : AssignsPlace held old.slots x spot held' new.slots
  pub text : SameText old new
  pub calls : new.calls.items ≡ old.calls.items

pub record GivesSlot (x : ℕ) (old new : Registers) : Type 0 where
  pub given : new.given.items ≡ old.given.items
      ++ (record { variable = x; spot = Slot old.slots } ∷ [])
  pub slots : new.slots ≡ suc old.slots
  pub text : SameText old new
  pub calls : new.calls.items ≡ old.calls.items

-- places were added, and nothing was changed
pub record Grows (old new : Registers) : Type 0 where
  pub extends : KeepsGivenPlaces old.given.items new.given.items
  pub slots : old.slots ≤ new.slots
  pub numbered : SlotsAreNumbered old.given.items old.slots
      → SlotsAreNumbered new.given.items new.slots

-- those of these variables were added
pub record AddsPlaces (xs : List ℕ) (old new : Registers) : Type 0 where
  pub grows : Grows old new
  pub variables : variables_of new.given.items ≡ variables_of old.given.items ++ xs

-- they stand apart, and in slots only where the registers are full
abbrev pub AllGiven : (xs : List ℕ) (old : Registers) (held : List (Option Holder))
    (new : Registers) (held' : List (Option Holder)) → Type 0
AllGiven xs old held new held' =
    (place : ℕ → Spot) → PlacesAgree place new.given.items
    → (scope : List ℕ) (c : Code) (later : List ℕ) → AreDisjoint xs later
    → Keeps place scope c later [] old.slots held → Giving place scope c later xs new.slots held'

abbrev pub Binds : Text → (xs : List ℕ) (end : ℕ) (old : Registers) (held : List (Option Holder))
    (new : Registers) (held' : List (Option Holder)) → Type 0
Binds text xs end old held new held' =
    (place : ℕ → Spot) → PlacesAgree place new.given.items → (later scope : List ℕ) (c : Code)
    → AreDisjoint xs later
    → Before place text later scope c old held end → Bound place text later scope xs c new held' end

abbrev pub WalksCall : Text → (site proc end : ℕ) (old : Registers) (held : List (Option Holder))
    (new : Registers) → Type 0
WalksCall text site proc end old held new =
    (place : ℕ → Spot) → PlacesAgree place new.given.items → (later scope : List ℕ) (c : Code)
    → Before place text later scope c old held end
    → (k : CallSite) × ((new.calls.items ≡ old.calls.items ++ (k ∷ []))
    × RecordsLiveRegisters place k
    (record { site = site; proc = proc; scope = scope; rest = c; later = later }))

abbrev pub Walks : Text → Code
    → (end : ℕ) (old : Registers) (held : List (Option Holder)) (new : Registers) → Type 0
Walks text c end old held new =
    (place : ℕ → Spot) → PlacesAgree place new.given.items → (later scope : List ℕ)
    → NoBoundIsUsedLater scope c later
    → Before place text later scope c old held end → Walked place text later scope c old new end

abbrev pub WalksToRest : Text → (whole left : Code) (end : ℕ) (old : Registers)
    (held : List (Option Holder)) (new : Registers) (held' : List (Option Holder)) → Type 0
WalksToRest text whole left end old held new held' =
    (place : ℕ → Spot) → PlacesAgree place new.given.items → (later scope : List ℕ)
    → NoBoundIsUsedLater scope whole later
    → Before place text later scope whole old held end
    → Onward place text later scope whole left old new held' end

-- a statement, or whatever stands before the rest of a block, was walked over
pub record WalksStatement (text : Text) (f : Code → Code) (end : ℕ) (old : Registers)
    (held : List (Option Holder)) (new : Registers) (held' : List (Option Holder)) : Type 0 where
  pub grows : Grows old new
  pub variables : (c : Code) → variables_of old.given.items
      ++ binds (f c) ≡ variables_of new.given.items ++ binds c
  pub onward : (c : Code) → WalksToRest text (f c) c end old held new held'

-- an arm was walked over
pub record WalksArm (text : Text) (tests : List LowTest) (b : Code) (old : Registers)
    (held : List (Option Holder)) (new : Registers) : Type 0 where
  pub grows : Grows old new
  pub variables : variables_of new.given.items ≡ variables_of old.given.items ++ binds b
  pub onward : (rest : Arms) (end : ℕ)
      → WalksToRest text (choose (arm tests b rest)) (choose rest) end old held new held

-- a block was walked over
pub record WalksBlock (text : Text) (c : Code) (end : ℕ) (old : Registers)
    (held : List (Option Holder))
    (new : Registers) : Type 0 where
  pub grows : Grows old new
  pub variables : variables_of new.given.items ≡ variables_of old.given.items ++ binds c
  pub walked : Walks text c end old held new

-- a whole procedure was walked over
pub record WalksProcedure (q : Procedure) (s : Registers) : Type 0 where
  pub variables : variables_of s.given.items ≡ variables q
  pub numbered : SlotsAreNumbered s.given.items s.slots
  pub each : (place : ℕ → Spot) → PlacesAgree place s.given.items
      → NoBoundIsUsedLater q.params q.body []
      → EachBindingOf (Good place) q
  pub notes : (place : ℕ → Spot) → PlacesAgree place s.given.items
      → NoBoundIsUsedLater q.params q.body []
      → RecordsAllLive place s.calls.items (points q.params q.body [])
