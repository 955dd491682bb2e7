-- What is gathered of the procedures of a program, and the tables made of it.
use Rattle.std.specs.Prelude.{◌≡◌, ◌≢◌, ◌⊎◌, ◌↔◌, ◌≤◌, ◌<◌, ℕ, ◌+◌, max, true, List, [], ◌∷◌, ◌++◌, map, length, Some, slice_get, slice_index_or}
use Rattle.std.specs.Int.{bit_at}
use Rattle.parallel_move.specs.declared.Spot.{Spot}
use Rattle.parallel_move.specs.declared.Spot.TheVariants.{Reg}
use Rattle.low_code.specs.Tree.{Procedure}
use Rattle.low_code.specs.Formed.{Distinct}
use Rattle.register_alloc.specs.Fits.{Ascending, IsPlace}
use Rattle.register_alloc.specs.Rounds.{mask_at}
use Rattle.register_alloc.specs.Results.{result_mask}
use Rattle.register_alloc.specs.Holders.{variables_of}
use Rattle.register_alloc.specs.Point.{WalksProcedure}
use Rattle.register_alloc.specs.declared.registers.Given.{Given}
use Rattle.register_alloc.specs.declared.registers.CallSite.{CallSite}
use Rattle.register_alloc.specs.declared.registers.Registers.{Registers}
use Rattle.register_alloc.specs.declared.assign.Gathered.{Gathered}
use Rattle.seq.specs.Lists.{is_among}

-- no procedure gives more than 13 words
abbrev pub HaveFewResults : List Procedure → Type 0
HaveFewResults qs = (f : ℕ) (q : Procedure) → slice_get qs f ≡ Some q → q.results ≤ 13

-- no procedure takes more than 16 words
abbrev pub HaveFewParameters : List Procedure → Type 0
HaveFewParameters qs = (f : ℕ) (q : Procedure) → slice_get qs f ≡ Some q → length q.params ≤ 16

-- ---- walks

abbrev pub procs_of : List CallSite → List ℕ
procs_of [] = []
procs_of (k ∷ ks) = k.proc ∷ procs_of ks

abbrev pub sites_at : List CallSite → List ℕ
sites_at [] = []
sites_at (k ∷ ks) = k.site ∷ sites_at ks

abbrev pub calls_of_walks : List Registers → List CallSite
calls_of_walks [] = []
calls_of_walks (w ∷ ws) = w.calls.items ++ calls_of_walks ws

-- a mask with the registers that are given too
abbrev pub IsOwnMask : (mask : ℕ) → List Given → (all : ℕ) → Type 0
IsOwnMask mask given all =
    ((k : ℕ) (g : Given) → slice_get given k ≡ Some g → IsPlace g.spot) → (r : ℕ)
    → (bit_at all r ≡ 1) ↔ ((bit_at mask r ≡ 1)
    ⊎ ((k : ℕ) × ((g : Given) × ((slice_get given k ≡ Some g) × (g.spot ≡ Reg r)))))

-- the walk over a procedure, the mask of its own registers, and the procedures that it calls
pub record IsWalkOf (q : Procedure) (w : Registers) (own : ℕ) (called : List ℕ) : Type 0 where
  pub walked : WalksProcedure q w
  pub own_is : IsOwnMask (result_mask q.results) w.given.items own
  pub called_is : called ≡ procs_of w.calls.items

pub record AddsProcedure (q : Procedure) (old new : Gathered) : Type 0 where
  pub walk : Registers
  pub own : ℕ
  pub called : List ℕ
  pub is : IsWalkOf q walk own called
  pub walks : new.walks.items ≡ old.walks.items ++ (walk ∷ [])
  pub given : new.given.items ≡ old.given.items ++ walk.given.items
  pub owns : new.own.items ≡ old.own.items ++ (own ∷ [])
  pub calls : new.calls.items ≡ old.calls.items ++ (called ∷ [])

-- the procedures one after another
pub data GathersProcedures : List Procedure → List Registers → List Given → List ℕ → List (List ℕ)
    → Type 0 where
  none : GathersProcedures [] [] [] [] []
  one_more : (qs : List Procedure) (ws : List Registers) (gs : List Given) (ms : List ℕ)
      (cs : List (List ℕ)) (q : Procedure) (w : Registers) (m : ℕ) (c : List ℕ) → IsWalkOf q w m c
      → GathersProcedures qs ws gs ms cs
      → GathersProcedures (q ∷ qs) (w ∷ ws) (w.given.items ++ gs) (m ∷ ms) (c ∷ cs)

abbrev pub IsGathered : Gathered → List Procedure → Type 0
IsGathered g qs = GathersProcedures qs g.walks.items g.given.items g.own.items g.calls.items

-- ---- tables

-- a variable has got its place, and the others have what they had
pub record PlacesVariable (old : List Spot) (x : ℕ) (spot : Spot) (new : List Spot) : Type 0 where
  pub put : slice_get new x ≡ Some spot
  pub others : (y : ℕ) (s : Spot) → y ≢ x → slice_get old y ≡ Some s → slice_get new y ≡ Some s

-- each variable, which are different, has the place that was given to it
abbrev pub AreSpots : List Given → List Spot → Type 0
AreSpots given spots = Distinct (variables_of given) → (k : ℕ) (g : Given)
    → slice_get given k ≡ Some g → slice_get spots g.variable ≡ Some g.spot

-- those of these registers, all below x32, that are in a mask
abbrev pub IsSavedOf : (live : List ℕ) (mask : ℕ) → List ℕ → Type 0
IsSavedOf live mask saved =
    ((r : ℕ) → is_among r live ≡ true → r < 32) → Ascending live
    → Ascending saved × ((r : ℕ) → (is_among r saved ≡ true)
    ↔ ((is_among r live ≡ true) × (bit_at mask r ≡ 1)))

-- the list of a call's site is made of its registers; the others stay, but for empty lists that are
-- added
pub record AddsSavesOfCall (masks : List ℕ) (k : CallSite) (old new : List (List ℕ)) : Type 0 where
  pub saved : List ℕ
  pub is : IsSavedOf k.live (mask_at masks k.proc) saved
  pub put : slice_get new k.site ≡ Some saved
  pub others : (s : ℕ) (rs : List ℕ) → s ≢ k.site → slice_get old s ≡ Some rs
      → slice_get new s ≡ Some rs
  pub no_others : (s : ℕ) (rs : List ℕ) → s ≢ k.site → slice_get new s ≡ Some rs
      → (slice_get old s ≡ Some rs) ⊎ (rs ≡ [])

-- each of these calls, whose sites are different, has its list, and all other lists are empty
pub record SavesMatchCalls (masks : List ℕ) (calls : List CallSite) (saves : List (List ℕ))
    : Type 0 where
  pub each : Distinct (sites_at calls) → (i : ℕ) (k : CallSite) → slice_get calls i ≡ Some k
      → (saved : List ℕ) × ((slice_get saves k.site ≡ Some saved)
      × IsSavedOf k.live (mask_at masks k.proc) saved)
  pub only : Distinct (sites_at calls) → (s : ℕ) (rs : List ℕ) → slice_get saves s ≡ Some rs
      → (rs ≡ []) ⊎ ((i : ℕ) × ((k : CallSite) × ((slice_get calls i ≡ Some k) × (k.site ≡ s))))

abbrev pub longest_at : (saves : List (List ℕ)) → List CallSite → ℕ
longest_at saves [] = 0
longest_at saves (k ∷ ks) = max (length (slice_index_or saves k.site [])) (longest_at saves ks)

abbrev pub frames_of : (saves : List (List ℕ)) → List Registers → List ℕ
frames_of saves ws = map (λ w. 1 + w.slots + longest_at saves w.calls.items) ws
