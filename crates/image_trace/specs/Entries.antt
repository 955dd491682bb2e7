-- The procedures that a run enters, in order, and what x2 is at each.
use Rattle.std.specs.Prelude.{ℕ, zero, suc, List, [], ◌∷◌, ◌++◌, map, drop, slice_get}
use Rattle.rv32_machine.specs.Steps.{State, Outcome, Next, Written, Asked, Ended, Trapped, step, given, reg}
use Rattle.rv32_steps.specs.Trace.{procedure_from}
use Rattle.image_trace.specs.declared.entries.Entry.{Entry}

-- the states behind an outcome
abbrev pub states_after : (rest : List ℕ → State → List State) → (input : List ℕ)
    → State → Outcome → List State
states_after rest input s (Next t) = rest input t
states_after rest input s (Written a len bytes t) = rest input t
states_after rest input s (Asked a) = rest (drop 1 input) (given s (slice_get input 0))
states_after rest input s (Ended code) = []
states_after rest input s (Trapped kind) = []

-- the state before each of so many steps on an input
unfoldable pub states : ℕ → (input : List ℕ) → State → List State
states zero input s = []
states (suc m) input s = s ∷ states_after (states m) input s (step s)

-- the entry of a procedure in a state
abbrev pub entry_in : State → (procedure : ℕ) → Entry
entry_in s f = record { procedure = f; x2 = reg s 2 }

-- the entry of the procedure that begins where a state stands, if one of these addresses is there
abbrev pub entries_in : (begins : List ℕ) → State → List Entry
entries_in begins s = map (entry_in s) (procedure_from 0 begins s.pc)

-- the entries among states, where procedures begin at these addresses
abbrev pub entries_at : (begins : List ℕ) → List State → List Entry
entries_at begins [] = []
entries_at begins (s ∷ states) = entries_in begins s ++ entries_at begins states

-- the procedures of entries
abbrev pub procedures_of : List Entry → List ℕ
procedures_of = map (λ e. e.procedure)
