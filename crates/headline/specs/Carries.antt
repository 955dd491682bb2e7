-- A meaning that is bounded by units and a machine that is bounded by steps say the same.
use Rattle.std.specs.Prelude.{◌⊎◌, ◌≡◌, ℕ, zero, suc, ◌+◌, ◌*◌, ◌≤◌, ◌<◌, List, [], ◌∷◌, ◌++◌}

-- how a program stands within its units: it goes on, its list has ended, a value is accepted by
-- nothing, or something is missing that no program of ours lacks
pub data End : Type 0 where
  going : End
  done : End
  no_alternative : End
  missing : End

-- what a meaning tells: the bytes put out, the end, the number of cells, the greatest depth, and
-- the bytes taken. Depth is counted in nestings of evaluations, or in words of frames where the
-- meaning has frames
pub record MeaningResult : Type 0 where
  pub out : List ℕ
  pub end : End
  pub cells : ℕ
  pub depth : ℕ
  pub used : ℕ

-- how a machine stands after its steps: it runs, or it has ended by an exit with a code or by a
-- trap
pub data MachineStatus : Type 0 where
  runs : MachineStatus
  exits : (code : ℕ) → MachineStatus
  traps : MachineStatus

-- what is seen of a machine: the bytes written, the bytes read, and how it stands
pub record MachineObservation : Type 0 where
  pub out : List ℕ
  pub used : ℕ
  pub finish : MachineStatus

abbrev pub Meaning : Type 0
Meaning = (input : List ℕ) → (units : ℕ) → MeaningResult

abbrev pub Machine : Type 0
Machine = (input : List ℕ) → (steps : ℕ) → MachineObservation

-- an input is a list of bytes
abbrev pub IsBytes : List ℕ → Type 0
IsBytes [] = Unit {0}
IsBytes (b ∷ bs) = (b < 256) × IsBytes bs

-- the second is the first with more behind it
abbrev pub IsPrefixOf : List ℕ → List ℕ → Type 0
IsPrefixOf xs ys = (more : List ℕ) × (ys ≡ xs ++ more)

-- an end is matched by an exit: 0 for the list's end, 3 for a value that is accepted by nothing,
-- with all of the output
abbrev pub EndMatchesExit : End → MeaningResult → MachineObservation → Type 0
EndMatchesExit going t s = Unit {0}
EndMatchesExit done t s = (s.out ≡ t.out) × (s.finish ≡ exits 0)
EndMatchesExit no_alternative t s = (s.out ≡ t.out) × (s.finish ≡ exits 3)
EndMatchesExit missing t s = ⊥

-- the machine has ended early: its heap or its stack was full
abbrev pub RanOutOfRoom : MachineStatus → Type 0
RanOutOfRoom f = (f ≡ exits 4) ⊎ (f ≡ exits 5)

-- the machine has written what the meaning tells and ended where that has, or it was full on the
-- way there
abbrev pub ReachesResult : MeaningResult → MachineObservation → Type 0
ReachesResult t s =
    (IsPrefixOf t.out s.out × EndMatchesExit t.end t s)
    ⊎ (RanOutOfRoom s.finish × IsPrefixOf s.out t.out)

-- what is told of one unit less, where there is one, begins this output
abbrev pub ExtendsShorterRun : (ℕ → MeaningResult) → (n : ℕ) → (out : List ℕ) → Type 0
ExtendsShorterRun told zero out = Unit {0}
ExtendsShorterRun told (suc n) out = IsPrefixOf (told n).out out

-- HeapFull and StackFull say of what is told that it needs more than was given
module _ (HeapFull StackFull : MeaningResult → Type 0) where
  -- what each finish of the machine says of what n units tell
  abbrev pub Finishes : (ℕ → MeaningResult) → (n : ℕ) → MachineObservation → MachineStatus → Type 0
  Finishes told n s runs = Unit {0}
  Finishes told n s (exits zero) =
      (s.out ≡ (told n).out) × (s.used ≡ (told n).used) × ((told n).end ≡ done)
  Finishes told n s (exits (suc (suc (suc zero)))) =
      (s.out ≡ (told n).out) × (s.used ≡ (told n).used) × ((told n).end ≡ no_alternative)
  Finishes told n s (exits (suc (suc (suc (suc zero))))) =
      HeapFull (told n) × ExtendsShorterRun told n s.out
  Finishes told n s (exits (suc (suc (suc (suc (suc zero)))))) =
      StackFull (told n) × ExtendsShorterRun told n s.out
  Finishes told n s (exits _) = ⊥
  Finishes told n s traps = ⊥

  -- the machine has written no more than n units tell, read no more, and ended only as they say
  pub record Comes (told : ℕ → MeaningResult) (n : ℕ) (s : MachineObservation) : Type 0 where
    pub output : IsPrefixOf s.out (told n).out
    pub used : s.used ≤ (told n).used
    pub finish : Finishes told n s s.finish

  -- the machine carries the meaning: each says what the other says, however far they go, but that
  -- the machine may be full; and there is no trap and no other exit
  pub record Carries (told : Meaning) (seen : Machine) : Type 0 where
    pub reaches : (i : List ℕ) → IsBytes i → (n : ℕ) → (m : ℕ) × ReachesResult (told i n) (seen i m)
    pub comes : (i : List ℕ) → IsBytes i → (m : ℕ) → (n : ℕ) × Comes (told i) n (seen i m)

-- and keeps pace with it: so many steps are enough for each unit and the start
abbrev pub KeepsPace : (steps : ℕ) → Meaning → Machine → Type 0
KeepsPace steps told seen =
    (i : List ℕ) → IsBytes i → (n m : ℕ) → steps * (n + 1) ≤ m → ReachesResult (told i n) (seen i m)

-- a second meaning tells the same output, end and bytes taken, and no more cells
pub record MeaningRefines (t t' : MeaningResult) : Type 0 where
  pub out : t'.out ≡ t.out
  pub end : t'.end ≡ t.end
  pub used : t'.used ≡ t.used
  pub cells : t'.cells ≤ t.cells

-- two machines show the same: each moment of one is a moment of the other
pub record ShowsSameRuns (seen seen' : Machine) : Type 0 where
  pub there : (i : List ℕ) (m : ℕ) → (k : ℕ) × (seen' i k ≡ seen i m)
  pub back : (i : List ℕ) (k : ℕ) → (m : ℕ) × (seen' i k ≡ seen i m)
