-- How the states of a run go on behind a step, and what entries that makes.
use Rattle.std.proofs.Common.{◌≡◌, ℕ, zero, suc, ◌<◌, ◌≤◌, List, [], ◌∷◌, ◌++◌, length, take, None, append-nil, refl, sym, ap, ◌∙◌, arith}
use Rattle.std.proofs.lemmas.List.{take_all}
use Rattle.rv32_machine.specs.declared.machine.StepResult.TheVariants.{Next as Next', Read as Read', Write as Write', Exit, Trap}
use Rattle.rv32_machine.specs.declared.machine.TrapKind.{TrapKind}
use Rattle.rv32_machine.specs.Steps.{State, Stand, state_of, Outcome, Next, Written, Asked, Ended, Trapped, Does, step, given}
use Rattle.image_trace.specs.declared.entries.Entry.{Entry}
use Rattle.image_trace.specs.Entries.{states, states_after, entries_in, entries_at}

no_states : (s : State) → states 0 [] s ≡ []
unfolding states
no_states s = refl

pub one_more : (m : ℕ) (s : State)
    → states (suc m) [] s ≡ s ∷ states_after (states m) [] s (step s)
unfolding states
one_more m s = refl

-- ---- by what the machine answers

pub next_states : (m : ℕ) (s : State) (new : Stand) (o : Outcome) → Does s o Next' new
    → states_after (states m) [] s o ≡ states m [] (state_of new)
next_states m s new (Next t) h = ap (states m []) (sym h.1.0)
next_states m s new (Written a len bytes t) h = cc
next_states m s new (Asked a) h = cc
next_states m s new (Ended code) h = cc
next_states m s new (Trapped kind) h = cc

pub write_states : (m : ℕ) (s : State) (a len : ℕ) (new : Stand) (o : Outcome)
    → Does s o (Write' a len) new → states_after (states m) [] s o ≡ states m [] (state_of new)
write_states m s a len new (Next t) h = cc
write_states m s a len new (Written b n bytes t) h = ap (states m []) (sym h.1.0)
write_states m s a len new (Asked b) h = cc
write_states m s a len new (Ended code) h = cc
write_states m s a len new (Trapped kind) h = cc

pub read_states : (m : ℕ) (s : State) (a : ℕ) (new : Stand) (t : State) (o : Outcome)
    → Does s o (Read' a) new → t ≡ given (state_of new) None
    → states_after (states m) [] s o ≡ states m [] t
read_states m s a new t (Next u) h is = cc
read_states m s a new t (Written b n bytes u) h is = cc
read_states m s a new t (Asked b) h is =
    ap (states m []) (ap (λ u. given u None) (sym h.1.0) ∙ sym is)
read_states m s a new t (Ended code) h is = cc
read_states m s a new t (Trapped kind) h is = cc

pub exit_states : (m : ℕ) (s : State) (code : ℕ) (new : Stand) (o : Outcome)
    → Does s o (Exit code) new → states_after (states m) [] s o ≡ []
exit_states m s code new (Next t) h = cc
exit_states m s code new (Written a len bytes t) h = cc
exit_states m s code new (Asked a) h = cc
exit_states m s code new (Ended other) h = refl
exit_states m s code new (Trapped kind) h = cc

pub trap_states : (m : ℕ) (s : State) (kind : TrapKind) (pc : ℕ) (new : Stand) (o : Outcome)
    → Does s o (Trap kind pc) new → states_after (states m) [] s o ≡ []
trap_states m s kind pc new (Next t) h = cc
trap_states m s kind pc new (Written a len bytes t) h = cc
trap_states m s kind pc new (Asked a) h = cc
trap_states m s kind pc new (Ended other) h = cc
trap_states m s kind pc new (Trapped other) h = refl

-- ---- where there are no more

module _ (starts : List ℕ) (most : ℕ) (old whole : List Entry) (s : State) where
  abbrev Left : ℕ → Type 0
  Left left = old ++ entries_at starts (states left [] s) ≡ whole

  pub all_steps : (left : ℕ) → left ≡ 0 → Left left → length old ≤ most → old ≡ take most whole
  all_steps left none kept few =
      let all : old ≡ whole = sym (append-nil old)
      ∙ ap (λ l. old ++ entries_at starts l) (sym (no_states s))
      ∙ ap (λ n. old ++ entries_at starts (states n [] s)) (sym none) ∙ kept in
      sym (take_all most old few) ∙ ap (take most) all

  last_by : (new : List Entry) (m : ℕ) → Left (suc m) → states (suc m) [] s ≡ s ∷ []
      → new ≡ old ++ entries_in starts s → length new ≤ most → new ≡ take most whole
  last_by new m kept ends is few =
      let all : new ≡ whole = is ∙ ap (λ l. old ++ l) (sym (append-nil (entries_in starts s)))
      ∙ ap (λ l. old ++ entries_at starts l) (sym ends) ∙ kept in
      sym (take_all most new few) ∙ ap (take most) all

  pub last_step : (new : List Entry) (left : ℕ) → 0 < left → Left left
      → ((m : ℕ) → states (suc m) [] s ≡ s ∷ []) → new ≡ old ++ entries_in starts s
      → length new ≤ most → new ≡ take most whole
  last_step new zero some kept ends is few = absurd (omega (arith, some))
  last_step new (suc m) some kept ends is few = last_by new m kept (ends m) is few
