-- Runs of a program: what it writes, what it reads, and where it stands after so many steps.
use Rattle.std.specs.Prelude.{◌≡◌, ◌⊎◌, ℕ, zero, suc, ◌+◌, ◌-◌, ◌<◌, ◌≤◌, List, [], ◌∷◌, ◌++◌, length, drop, Bool, true, false, slice_get}
use Rattle.std.specs.List.{concat}
use Rattle.grin_io.specs.Changes.{SourceChange, SinkChange, BeginsWith, ReadExactly, SourceAtFault, TookExactly, SinkAtFault}
use Rattle.grin_io.specs.declared.outside.Fault.{Fault}
use Rattle.grin_io.specs.declared.outside.Fault.TheVariants.{Read}
use Rattle.rv32_machine.specs.declared.machine.Stop.{Stop}
use Rattle.rv32_machine.specs.declared.machine.Stop.TheVariants.{Steps, Exit, Trap}
use Rattle.rv32_machine.specs.declared.machine.TrapKind.{TrapKind}
use Rattle.rv32_machine.specs.Steps.{State, Outcome, Next, Written, Asked, Ended, Trapped, step, given, Stand, IsAt}

-- where a run stands: it goes on, its program has exited with a code, or it stands at an
-- instruction that traps
pub data MachineEnd : Type 0 where
  Going : State → MachineEnd
  Exited : (code : ℕ) → State → MachineEnd
  Stopped : TrapKind → State → MachineEnd

-- the bytes that a run wrote, the bytes of its input that are left, and where it stands
pub record Run : Type 0 where
  pub out : List ℕ
  pub left : List ℕ
  pub end : MachineEnd

abbrev pub stands : (left : List ℕ) → MachineEnd → Run
stands left end = record { out = []; left = left; end = end }

-- a run, with bytes that were written before it
abbrev pub after : List ℕ → Run → Run
after bytes r = record { out = bytes ++ r.out; left = r.left; end = r.end }

-- the rest of a run behind one step: a read call takes the first byte that is left, if there is one
abbrev pub onward : (rest : List ℕ → State → Run) → (input : List ℕ) → State → Outcome → Run
onward rest input s (Next t) = rest input t
onward rest input s (Written address len bytes t) = after bytes (rest input t)
onward rest input s (Asked address) = rest (drop 1 input) (given s (slice_get input 0))
onward rest input s (Ended code) = stands input (Exited code s)
onward rest input s (Trapped kind) = stands input (Stopped kind s)

-- so many steps from a state on an input, where an end stays
unfoldable pub run : ℕ → (input : List ℕ) → State → Run
run zero input s = stands input (Going s)
run (suc n) input s = onward (run n) input s (step s)

-- the pieces that an outcome puts: the bytes of a write call, also if there are none
abbrev pub piece_of : Outcome → List (List ℕ)
piece_of (Written address len bytes t) = bytes ∷ []
piece_of _ = []

-- the pieces that one further step of a run puts
abbrev pub next_piece : MachineEnd → List (List ℕ)
next_piece (Going s) = piece_of (step s)
next_piece _ = []

-- the pieces that a run puts in so many steps, one for each write call, in order
unfoldable pub pieces : ℕ → (input : List ℕ) → State → List (List ℕ)
pieces zero input s = []
pieces (suc n) input s = pieces n input s ++ next_piece (run n input s).end

-- how many bytes of its input a run used
abbrev pub used : (input : List ℕ) → Run → ℕ
used input r = length input - length r.left

-- so many further steps of a run
abbrev pub continued : ℕ → Run → Run
continued n r = elim r.end as (λ _. Run) [
  | Going s ↦ after r.out (run n r.left s)
  | Exited code s ↦ r
  | Stopped kind s ↦ r
]

-- ---- what the machine's `run` answers

-- the answer names the end, and the machine stands there
abbrev pub StandsAt : MachineEnd → Stop → (new : Stand) → Type 0
StandsAt (Going s) stop new = (stop ≡ Steps) × IsAt new s false false
StandsAt (Exited code s) stop new = (stop ≡ Exit code) × IsAt new s true false
StandsAt (Stopped kind s) stop new = (stop ≡ Trap kind s.pc) × IsAt new s true false

-- whether the program has ended
abbrev pub is_end : Stop → Bool
is_end Steps = false
is_end (Exit code) = true
is_end (Trap kind pc) = true

-- the machine stands where a run stands, which used just these bytes of its input
pub record MachineMatchesRun (r : Run) (input given : List ℕ) (stop : Stop) (new : Stand)
    : Type 0 where
  pub stands : StandsAt r.end stop new
  pub used_is : input ≡ given ++ r.left

-- behind these bytes the run asks for one more: if there were one, it would use it too
abbrev pub AsksForMore : (steps : ℕ) → State → (given : List ℕ) → Type 0
AsksForMore steps s given = (byte : ℕ) → (run steps (given ++ (byte ∷ [])) s).left ≡ []

-- A run from a source to a sink came to this stop. The source gave some bytes, one by one, and its
-- end was met or not. Whatever the input is that begins with these bytes, and has no others where
-- the end was met, the machine stands where the run on it stands, which used just these, and its
-- pieces were put. The end was met only where the run asks for more.
pub record IsRunAnswer {I K : Type 0} (i : SourceChange I) (o : SinkChange K)
    (steps : ℕ) (s : State)
    (stop : Stop) (new : Stand) : Type 0 where
  pub given : List ℕ
  pub ended : Bool
  pub gave : ReadExactly i given ended
  pub wanted : ended ≡ true → AsksForMore steps s given
  pub stays : (input : List ℕ) → BeginsWith given ended input
      → MachineMatchesRun (run steps input s) input given stop new
  pub took : (input : List ℕ) → BeginsWith given ended input → TookExactly o (pieces steps input s)

-- whether a run has ended
abbrev pub has_ended : MachineEnd → Bool
has_ended (Going s) = false
has_ended (Exited code s) = true
has_ended (Stopped kind s) = true

-- so many steps are done of those that were allowed: before each of them the run goes on, and
-- behind them it stands where it stands behind all; where it has not ended there, they are all
pub record IsCount (done steps : ℕ) (input : List ℕ) (s : State) : Type 0 where
  pub goes : (m : ℕ) → m < done → has_ended (run m input s).end ≡ false
  pub same : run steps input s ≡ run done input s
  pub all : has_ended (run done input s).end ≡ false → done ≡ steps

-- the run came to its stop, on each of those inputs in so many steps
pub record Counted {I K : Type 0} (i : SourceChange I) (o : SinkChange K) (steps : ℕ) (s : State)
    (stop : Stop) (done : ℕ) (new : Stand) : Type 0 where
  pub answered : IsRunAnswer i o steps s stop new
  pub counts : (input : List ℕ) → BeginsWith answered.given answered.ended input
      → IsCount done steps input s

-- A run broke off at a fault of its source or its sink, which was the last call of them. On
-- whatever input begins with the bytes that the source gave, the run uses these, and what was put
-- was due. The end was met, or a read failed, only where the run asks for more.
pub record BrokenByIoFault {I K : Type 0} (i : SourceChange I) (o : SinkChange K) (steps : ℕ)
    (s : State) (fault : Fault) : Type 0 where
  pub given : List ℕ
  pub ended : Bool
  pub gave : SourceAtFault fault i given ended
  pub wanted : (ended ≡ true) ⊎ (fault ≡ Read) → AsksForMore steps s given
  pub uses : (input : List ℕ) → BeginsWith given ended input
      → length given ≤ used input (run steps input s)
  pub puts : (input : List ℕ) → BeginsWith given ended input
      → SinkAtFault fault o (pieces steps input s)

-- ---- laws

-- so many steps and then so many more are all of them together
abbrev pub RunsCompose : Type 0
RunsCompose =
    (m n : ℕ) (input : List ℕ) (s : State) → run (m + n) input s ≡ continued n (run m input s)

-- a run that has ended stays as it is
abbrev pub EndedRunIsStable : Type 0
EndedRunIsStable =
    (m n : ℕ) (input : List ℕ) (s : State) → has_ended (run m input s).end ≡ true
    → run (m + n) input s ≡ run m input s

-- with more steps a run only writes more
abbrev pub OutputGrows : Type 0
OutputGrows =
    (m n : ℕ) (input : List ℕ) (s : State)
    → (more : List ℕ) × ((run (m + n) input s).out ≡ (run m input s).out ++ more)

-- the bytes of the pieces that a run puts are its output
abbrev pub PiecesAreTheOutput : Type 0
PiecesAreTheOutput =
    (n : ℕ) (input : List ℕ) (s : State) → concat (pieces n input s) ≡ (run n input s).out

-- what is left of the input is its rest behind the bytes that were used, and with more steps a run
-- only uses more
abbrev pub InputIsUsedInOrder : Type 0
InputIsUsedInOrder =
    (m n : ℕ) (input : List ℕ) (s : State)
    → (gone : List ℕ) × ((run m input s).left ≡ gone ++ (run (m + n) input s).left)
    × (length gone + used input (run m input s) ≡ used input (run (m + n) input s))
