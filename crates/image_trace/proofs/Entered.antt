-- The entries of a run are those of the procedures that it enters.
use Rattle.std.proofs.Common.{◌≡◌, ◌⊎◌, ℕ, zero, suc, nat_eq, Bool, true, false, if◌then◌else◌, List, [], ◌∷◌, ◌++◌, length, map, take, drop, slice_get, refl, sym, ap, ◌∙◌, inl, inr}
use Rattle.rv32_machine.specs.Steps.{State, Outcome, Next, Written, Asked, Ended, Trapped, step, given}
use Rattle.rv32_steps.specs.Trace.{trace, trace_after, procedure_from, procedures_at}
use Rattle.image_trace.specs.declared.entries.Entry.{Entry}
use Rattle.image_trace.specs.Entries.{states, states_after, entry_in, entries_at, procedures_of}

-- ---- their procedures

procedures_in : (s : State) (fs : List ℕ) (rest : List Entry)
    → procedures_of (map (entry_in s) fs ++ rest) ≡ fs ++ procedures_of rest
procedures_in s [] rest = refl
procedures_in s (f ∷ fs) rest = ap (λ t. f ∷ t) (procedures_in s fs rest)

module _ (begins : List ℕ) where
  abbrev Same : ℕ → List ℕ → State → Type 0
  Same m i s = procedures_of (entries_at begins (states m i s)) ≡ procedures_at begins (trace m i s)

  same_after : (m : ℕ) (i : List ℕ) (s : State) → ((i : List ℕ) (t : State) → Same m i t)
      → (o : Outcome)
      → procedures_of (entries_at begins (states_after (states m) i s o))
      ≡ procedures_at begins (trace_after (trace m) i s o)
  same_after m i s same (Next t) = same i t
  same_after m i s same (Written a len bytes t) = same i t
  same_after m i s same (Asked a) = same (drop 1 i) (given s (slice_get i 0))
  same_after m i s same (Ended code) = refl
  same_after m i s same (Trapped kind) = refl

  pub same : (m : ℕ) (i : List ℕ) (s : State) → Same m i s
  unfolding states trace
  same zero i s = refl
  same (suc m) i s =
      procedures_in s (procedure_from 0 begins s.pc)
      (entries_at begins (states_after (states m) i s (step s)))
      ∙ ap (λ t. procedure_from 0 begins s.pc ++ t)
      (same_after m i s (λ i t. same m i t) (step s))

-- ---- the first ones

abbrev AtMostOne : List ℕ → Type 0
AtMostOne xs = (xs ≡ []) ⊎ ((x : ℕ) × (xs ≡ x ∷ []))

one_or_rest : (own : Bool) (f : ℕ) (rest : List ℕ) → AtMostOne rest
    → AtMostOne (if own then f ∷ [] else rest)
one_or_rest true f rest h = inr (f, refl)
one_or_rest false f rest h = h

pub at_most_one : (f : ℕ) (begins : List ℕ) (a : ℕ) → AtMostOne (procedure_from f begins a)
at_most_one f [] a = inl refl
at_most_one f (b ∷ bs) a = one_or_rest (nat_eq a b) f (procedure_from (suc f) bs a)
    (at_most_one (suc f) bs a)

take_none : (n : ℕ) → let none : List ℕ = [] in none ≡ take n none
take_none zero = refl
take_none (suc n) = refl

take_map : (n : ℕ) (es : List Entry) → procedures_of (take n es) ≡ take n (procedures_of es)
take_map zero es = refl
take_map (suc n) [] = refl
take_map (suc n) (e ∷ es) = ap (λ t. e.procedure ∷ t) (take_map n es)

length_of : (es : List Entry) → length (procedures_of es) ≡ length es
length_of [] = refl
length_of (e ∷ es) = ap suc (length_of es)

module _ (begins : List ℕ) where
  -- after some steps just the first n procedures are met that are met after m
  abbrev Shorter : (m n : ℕ) → List ℕ → State → Type 0
  Shorter m n i s =
      (k : ℕ) × (procedures_at begins (trace k i s) ≡ take n (procedures_at begins (trace m i s)))

  abbrev ShorterAfter : (m n : ℕ) → List ℕ → State → Outcome → Type 0
  ShorterAfter m n i s o =
      (k : ℕ) × (procedures_at begins (trace_after (trace k) i s o)
      ≡ take n (procedures_at begins (trace_after (trace m) i s o)))

  shorter_after : (m n : ℕ) (i : List ℕ) (s : State)
      → ((i : List ℕ) (t : State) → Shorter m n i t) → (o : Outcome) → ShorterAfter m n i s o
  shorter_after m n i s shorter (Next t) = shorter i t
  shorter_after m n i s shorter (Written a len bytes t) = shorter i t
  shorter_after m n i s shorter (Asked a) = shorter (drop 1 i) (given s (slice_get i 0))
  shorter_after m n i s shorter (Ended code) = (0, take_none n)
  shorter_after m n i s shorter (Trapped kind) = (0, take_none n)

  shorter_by : (m n : ℕ) (i : List ℕ) (s : State) → AtMostOne (procedure_from 0 begins s.pc)
      → ((n : ℕ) → ShorterAfter m n i s (step s)) → Shorter (suc m) (suc n) i s
  unfolding trace
  shorter_by m n i s (inl none) rest =
      let k = rest (suc n) in (suc k.0, rw none k.1)
  shorter_by m n i s (inr one) rest =
      let k = rest n in (suc k.0, rw one.1 (ap (λ t. one.0 ∷ t) k.1))

  shorter : (m n : ℕ) (i : List ℕ) (s : State) → Shorter m n i s
  unfolding trace
  shorter m zero i s = (0, refl)
  shorter zero (suc n) i s = (0, refl)
  shorter (suc m) (suc n) i s =
      shorter_by m n i s (at_most_one 0 begins s.pc)
      (λ n. shorter_after m n i s (λ i t. shorter m n i t) (step s))

  -- where a run meets just what is entered, the first entries are those of what is entered first
  pub entered_first : (entered : ℕ → List ℕ) (m n : ℕ) (i : List ℕ) (s : State)
      → ((k : ℕ) → let met = procedures_at begins (trace k i s) in met ≡ entered (length met))
      → let es = take n (entries_at begins (states m i s)) in
      procedures_of es ≡ entered (length es)
  entered_first entered m n i s enters =
      let es = take n (entries_at begins (states m i s)) in
      let k = shorter m n i s in
      let e : procedures_of es ≡ procedures_at begins (trace k.0 i s)
      = take_map n (entries_at begins (states m i s)) ∙ ap (take n) (same begins m i s)
      ∙ sym k.1 in
      let many : length (procedures_at begins (trace k.0 i s)) ≡ length es
      = sym (ap (λ (l : List ℕ). length l) e) ∙ length_of es in
      e ∙ enters k.0 ∙ ap entered many
