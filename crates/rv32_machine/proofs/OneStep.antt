-- One step of the machine as a run of one step.
use Rattle.std.proofs.Common.{◌≡◌, ℕ, List, [], ◌∷◌, drop, Some, None, Bool, true, false, refl, sym, ap, ◌∙◌, subst}
use Rattle.std.specs.Prelude.{slice_get}
use Rattle.grin_io.specs.Changes.{BeginsWith}
use Rattle.rv32_machine.specs.declared.machine.TrapKind.{TrapKind}
use Rattle.rv32_machine.specs.declared.machine.Stop.{Stop}
use Rattle.rv32_machine.specs.declared.machine.Stop.TheVariants.{Steps, Exit as Exit', Trap as Trap'}
use Rattle.rv32_machine.specs.declared.machine.StepResult.TheVariants.{Next as Next', Read as Read', Write as Write', Exit, Trap}
use Rattle.rv32_machine.specs.Memory.{range_bytes}
use Rattle.rv32_machine.specs.Steps.{State, Stand, state_of, Outcome, Next, Written, Asked, Ended, Trapped, Does, IsAt, IsRunning, step, given}
use Rattle.rv32_machine.specs.Runs.{Run, Going, Exited, Stopped, stands, after, onward, run, piece_of, MachineMatchesRun}
use Rattle.rv32_machine.proofs.Composed.{run_none, run_more, end_append}

-- ---- the outcome of a step, by the machine's answer

next_is : (old : State) (o : Outcome) (new : Stand) → Does old o Next' new
    → (o ≡ Next (state_of new)) × (new.over ≡ false) × (new.waiting ≡ false)
next_is old (Next s) new h = (ap Next (sym h.1.0), h.1.1, h.1.2)
next_is old (Written a n b s) new h = cc
next_is old (Asked a) new h = cc
next_is old (Ended code) new h = cc
next_is old (Trapped kind) new h = cc

write_is : (old : State) (o : Outcome) (a n : ℕ) (new : Stand) → Does old o (Write' a n) new
    → (bytes : List ℕ) ×
    ((o ≡ Written a n bytes (state_of new)) × (new.over ≡ false) × (new.waiting ≡ false)
    × (range_bytes new.memory a n ≡ Some bytes))
write_is old (Next s) a n new h = cc
write_is old (Written a' n' b s) a n new h =
    let e1 : a' ≡ a = cc in
    let e2 : n' ≡ n = cc in
    let e3 : s ≡ state_of new = sym h.1.0 in
    let e : Written a' n' b s ≡ Written a n b (state_of new) = cc in
    let r : range_bytes new.memory a n ≡ Some b = ap (λ x. range_bytes new.memory x n) (sym e1) ∙ ap
    (λ x. range_bytes new.memory a' x) (sym e2) ∙ h.2 in
    (b, (e, h.1.1, h.1.2, r))
write_is old (Asked a') a n new h = cc
write_is old (Ended code) a n new h = cc
write_is old (Trapped kind) a n new h = cc

read_is : (old : State) (o : Outcome) (a : ℕ) (new : Stand) → Does old o (Read' a) new
    → (o ≡ Asked a) × (state_of new ≡ old) × (new.over ≡ false) × (new.waiting ≡ true)
read_is old (Next s) a new h = cc
read_is old (Written a' n b s) a new h = cc
read_is old (Asked a') a new h = let e : a' ≡ a = cc in (ap Asked e, h.1.0, h.1.1, h.1.2)
read_is old (Ended code) a new h = cc
read_is old (Trapped kind) a new h = cc

exit_is : (old : State) (o : Outcome) (code : ℕ) (new : Stand) → Does old o (Exit code) new
    → (o ≡ Ended code) × IsAt new old true false
exit_is old (Next s) code new h = cc
exit_is old (Written a n b s) code new h = cc
exit_is old (Asked a) code new h = cc
exit_is old (Ended code') code new h = let e : code' ≡ code = cc in (ap Ended e, h.1)
exit_is old (Trapped kind) code new h = cc

trap_is : (old : State) (o : Outcome) (kind : TrapKind) (pc : ℕ) (new : Stand)
    → Does old o (Trap kind pc) new → (o ≡ Trapped kind) × (pc ≡ old.pc) × IsAt new old true false
trap_is old (Next s) kind pc new h = cc
trap_is old (Written a n b s) kind pc new h = cc
trap_is old (Asked a) kind pc new h = cc
trap_is old (Ended code) kind pc new h = cc
trap_is old (Trapped kind') kind pc new h = let e : kind' ≡ kind = cc in let e2 : pc ≡ old.pc = cc
    in (ap Trapped e, e2, h.1)

-- ---- the run of one step

one : (i : List ℕ) (s : State) → run 1 i s ≡ onward (run 0) i s (step s)
one i s = run_more 0 i s

pub next_run : (s : State) (new : Stand) → Does s (step s) Next' new → (i : List ℕ)
    → run 1 i s ≡ stands i (Going (state_of new))
next_run s new h i = one i s ∙ ap (onward (run 0) i s) (next_is s (step s) new h).0 ∙ run_none i
    (state_of new)

pub write_run : (s : State) (a n : ℕ) (new : Stand) (bytes : List ℕ)
    → Does s (step s) (Write' a n) new → range_bytes new.memory a n ≡ Some bytes → (i : List ℕ)
    → run 1 i s ≡ record { out = bytes; left = i; end = Going (state_of new) }
write_run s a n new bytes h is i =
    let k = write_is s (step s) a n new h in
    let same : k.0 ≡ bytes = cc (k.1.3, is) in
    one i s
    ∙ ap (onward (run 0) i s) k.1.0
    ∙ ap (after k.0) (run_none i (state_of new))
    ∙ (λ j. record { out = sym (end_append k.0) j; left = i; end = Going (state_of new) })
    ∙ (λ j. record { out = same j; left = i; end = Going (state_of new) })

pub read_run : (s : State) (a : ℕ) (new : Stand) → Does s (step s) (Read' a) new → (i : List ℕ)
    → run 1 i s ≡ stands (drop 1 i) (Going (given (state_of new) (slice_get i 0)))
read_run s a new h i =
    let k = read_is s (step s) a new h in
    one i s
    ∙ ap (onward (run 0) i s) k.0
    ∙ run_none (drop 1 i) (given s (slice_get i 0))
    ∙ ap (λ t. stands (drop 1 i) (Going (given t (slice_get i 0)))) (sym k.1)

pub exit_run : (s : State) (code : ℕ) (new : Stand) → Does s (step s) (Exit code) new → (i : List ℕ)
    → run 1 i s ≡ stands i (Exited code s)
exit_run s code new h i = one i s ∙ ap (onward (run 0) i s) (exit_is s (step s) code new h).0

pub trap_run : (s : State) (kind : TrapKind) (pc : ℕ) (new : Stand)
    → Does s (step s) (Trap kind pc) new → (i : List ℕ) → run 1 i s ≡ stands i (Stopped kind s)
trap_run s kind pc new h i = one i s ∙ ap (onward (run 0) i s) (trap_is s (step s) kind pc new h).0

-- ---- what a turn answers

-- what one step of the machine does on each input that begins with the bytes that were given in it
abbrev pub Turns : (s : State) → (more : List ℕ) → (ended : Bool) → Stop → (new : Stand) → Type 0
Turns s more ended stop new = (left : List ℕ) → BeginsWith more ended left
    → MachineMatchesRun (run 1 left s) left more stop new

-- a run that is another one
stays_as : (r q : Run) (input given : List ℕ) (stop : Stop) (new : Stand) → r ≡ q
    → MachineMatchesRun q input given stop new → MachineMatchesRun r input given stop new
stays_as r q input given stop new e h = subst (λ x. MachineMatchesRun x input given stop new)
    (sym e) h

pub next_turns : (s : State) (new : Stand) (ended : Bool) → Does s (step s) Next' new
    → Turns s [] ended Steps new
next_turns s new ended h i b =
    let k = next_is s (step s) new h in
    stays_as _ _ i [] Steps new (next_run s new h i)
    (record { stands = (refl, (refl, k.1, k.2)); used_is = refl })

pub write_turns : (s : State) (a n : ℕ) (new : Stand) (ended : Bool)
    → Does s (step s) (Write' a n) new → Turns s [] ended Steps new
write_turns s a n new ended h i b =
    let k = write_is s (step s) a n new h in
    stays_as _ _ i [] Steps new (write_run s a n new k.0 h k.1.3 i)
    (record { stands = (refl, (refl, k.1.1, k.1.2)); used_is = refl })

pub byte_turns : (s : State) (a : ℕ) (mid new : Stand) (byte : ℕ) (ended : Bool)
    → Does s (step s) (Read' a) mid → IsAt new (given (state_of mid) (Some byte)) false false
    → Turns s (byte ∷ []) ended Steps new
byte_turns s a mid new byte ended h at i b =
    let first : slice_get i 0 ≡ Some byte = ap (λ l. slice_get l 0) b.is_input in
    let others : drop 1 i ≡ b.rest = ap (λ l. drop 1 l) b.is_input in
    stays_as _ _ i (byte ∷ []) Steps new (read_run s a mid h i)
    (record {
      stands =
          (refl, subst (λ o. IsAt new (given (state_of mid) o) false false) (sym first) at);
      used_is
          = b.is_input ∙ ap (λ l. byte ∷ l) (sym others);
    })

pub end_turns : (s : State) (a : ℕ) (mid new : Stand) → Does s (step s) (Read' a) mid
    → IsAt new (given (state_of mid) None) false false → Turns s [] true Steps new
end_turns s a mid new h at i b =
    let none : i ≡ [] = b.is_input ∙ b.whole refl in
    let first : slice_get i 0 ≡ None = ap (λ l. slice_get l 0) none in
    let others : drop 1 i ≡ [] = ap (λ l. drop 1 l) none in
    stays_as _ _ i [] Steps new (read_run s a mid h i)
    (record {
      stands =
          (refl, subst (λ o. IsAt new (given (state_of mid) o) false false) (sym first) at);
      used_is
          = none ∙ sym others;
    })

pub exit_turns : (s : State) (code : ℕ) (new : Stand) (ended : Bool)
    → Does s (step s) (Exit code) new → Turns s [] ended (Exit' code) new
exit_turns s code new ended h i b =
    stays_as _ _ i [] (Exit' code) new (exit_run s code new h i)
    (record { stands = (refl, (exit_is s (step s) code new h).1); used_is = refl })

pub trap_turns : (s : State) (kind : TrapKind) (pc : ℕ) (new : Stand) (ended : Bool)
    → Does s (step s) (Trap kind pc) new → Turns s [] ended (Trap' kind pc) new
trap_turns s kind pc new ended h i b =
    let k = trap_is s (step s) kind pc new h in
    stays_as _ _ i [] (Trap' kind pc) new (trap_run s kind pc new h i)
    (record { stands = (ap (Trap' kind) k.1, k.2); used_is = refl })

-- a step that asks for a byte uses the one that is left
pub byte_used : (s : State) (a : ℕ) (mid : Stand) → Does s (step s) (Read' a) mid → (byte : ℕ)
    → (run 1 (byte ∷ []) s).left ≡ []
byte_used s a mid h byte = ap (λ r. r.left) (read_run s a mid h (byte ∷ []))

-- ---- what a turn puts

-- an answer that is no write is no piece
pub next_piece_is : (s : State) (new : Stand) → Does s (step s) Next' new → piece_of (step s) ≡ []
next_piece_is s new h = ap piece_of (next_is s (step s) new h).0

pub read_piece_is : (s : State) (a : ℕ) (new : Stand) → Does s (step s) (Read' a) new
    → piece_of (step s) ≡ []
read_piece_is s a new h = ap piece_of (read_is s (step s) a new h).0

pub exit_piece_is : (s : State) (code : ℕ) (new : Stand) → Does s (step s) (Exit code) new
    → piece_of (step s) ≡ []
exit_piece_is s code new h = ap piece_of (exit_is s (step s) code new h).0

pub trap_piece_is : (s : State) (kind : TrapKind) (pc : ℕ) (new : Stand)
    → Does s (step s) (Trap kind pc) new → piece_of (step s) ≡ []
trap_piece_is s kind pc new h = ap piece_of (trap_is s (step s) kind pc new h).0

-- a write call is one piece, the bytes of its range
pub wrote : (s : State) (a n : ℕ) (new : Stand) → Does s (step s) (Write' a n) new
    → (bytes : List ℕ) ×
    ((range_bytes new.memory a n ≡ Some bytes) × (piece_of (step s) ≡ bytes ∷ []))
wrote s a n new h =
    let k = write_is s (step s) a n new h in
    (k.0, (k.1.3, ap piece_of k.1.0))

-- and the program has not ended
pub write_runs : (s : State) (a n : ℕ) (new : Stand) → Does s (step s) (Write' a n) new
    → IsRunning new
write_runs s a n new h = let k = write_is s (step s) a n new h in (k.1.1, k.1.2)
