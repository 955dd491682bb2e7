-- How the places of a run are shared out among procedures.
use Rattle.std.proofs.Common.{◌≡◌, ◌≢◌, ◌⊎◌, ℕ, zero, suc, ◌+◌, ◌*◌, ◌<◌, ◌≤◌, nat_eq, Bool, true, false, ◌||◌, cond, List, [], ◌∷◌, ◌++◌, length, map, drop, slice_get, Some, if◌then◌else◌, refl, sym, ap, ◌∙◌, inl, inr, arith}
use Rattle.std.proofs.lemmas.Bool.Decides.{nat_tests}
use Rattle.seq.specs.Lists.{times, sum_of}
use Rattle.rv32_machine.specs.Steps.{State, Outcome, Next, Written, Asked, Ended, Trapped, step, given}
use Rattle.rv32_machine.specs.Runs.{Run, run, after, onward, has_ended, IsCount}
use Rattle.rv32_steps.specs.Trace.{trace, trace_after, procedure_from, procedures_at, is_one_of, AllDifferent}
use Rattle.image_trace.specs.declared.profile.Count.{Count}
use Rattle.image_trace.specs.Profile.{done_within, count_of, counts_of, counts_in, outside}

abbrev hit : (a b : ℕ) → ℕ
hit a b = cond {A = ℕ} (nat_eq a b) 1 0

same_hit : (a : ℕ) → nat_eq a a ≡ true
same_hit a = grind (arith, nat_tests)

equal : (a b : ℕ) → nat_eq a b ≡ true → a ≡ b
equal a b is = grind (arith, nat_tests)

no_hit : (a b : ℕ) → a ≢ b → hit a b ≡ 0
no_hit a b other = go (nat_eq a b) refl where
  go : (same : Bool) → nat_eq a b ≡ same → cond {A = ℕ} same 1 0 ≡ 0
  go true is = absurd (other (equal a b is))
  go false is = refl

-- ---- the entries of a procedure are those that are met

times_append : (x : ℕ) (xs ys : List ℕ) → times x (xs ++ ys) ≡ times x xs + times x ys
times_append x [] ys = omega arith
times_append x (y ∷ xs) ys =
    let rest = times_append x xs ys in
    ap (λ n. cond {A = ℕ} (nat_eq x y) 1 0 + n) rest ∙ omega arith

-- procedures that are counted from a later number are others
later : (f k : ℕ) (begins : List ℕ) (a : ℕ) → f < k → times f (procedure_from k begins a) ≡ 0
later f k [] a less = refl
later f k (b ∷ begins) a less = go (nat_eq a b) (later f (suc k) begins a (omega (arith, less)))
  where
    go : (same : Bool) → times f (procedure_from (suc k) begins a) ≡ 0
        → times f (if same then k ∷ [] else procedure_from (suc k) begins a) ≡ 0
    go true rest = let none = no_hit f k (λ e. absurd (omega (arith, less, e)))
        in omega (arith, none)
    go false rest = rest

one_of : (begins : List ℕ) (f b : ℕ) → slice_get begins f ≡ Some b → is_one_of begins b ≡ true
one_of [] f b is = absurd (cc is)
one_of (c ∷ begins) zero b is =
    let same : c ≡ b = some_same is in
    ap (λ t. t || is_one_of begins b) (ap (nat_eq b) same ∙ same_hit b) where
      some_same : Some c ≡ Some b → c ≡ b
      some_same e = cc e
one_of (c ∷ begins) (suc f) b is = go (nat_eq b c) (one_of begins f b is) where
  go : (same : Bool) → is_one_of begins b ≡ true → same || is_one_of begins b ≡ true
  go true rest = refl
  go false rest = rest

pub met_at : (k : ℕ) (begins : List ℕ) (a f b : ℕ) → AllDifferent begins
    → slice_get begins f ≡ Some b → times (k + f) (procedure_from k begins a) ≡ hit b a
met_at k [] a f b different is = absurd (cc is)
met_at k (c ∷ begins) a zero b different is = go (nat_eq a c) refl where
  same : c ≡ b
  same = cc is

  go : (here : Bool) → nat_eq a c ≡ here
      → times (k + 0) (if here then k ∷ [] else procedure_from (suc k) begins a) ≡ hit b a
  go true here =
      let there : hit b a ≡ 1 = ap (λ n. hit b n) (equal a c here ∙ same)
      ∙ ap (λ t. cond {A = ℕ} t 1 0) (same_hit b) in
      let own : hit (k + 0) k ≡ 1 = ap (λ n. hit n k) (omega arith)
      ∙ ap (λ t. cond {A = ℕ} t 1 0) (same_hit k) in
      omega (arith, there, own)
  go false here =
      later (k + 0) (suc k) begins a (omega arith)
      ∙ sym (no_hit b a (λ e. cc (sym here ∙ ap (λ n. nat_eq n c) (sym e ∙ sym same) ∙ same_hit c)))
met_at k (c ∷ begins) a (suc f) b different is = go (nat_eq a c) refl
    (met_at (suc k) begins a f b different.1 is) where
      go : (here : Bool) → nat_eq a c ≡ here
          → times (suc k + f) (procedure_from (suc k) begins a) ≡ hit b a
          → times (k + suc f) (if here then k ∷ [] else procedure_from (suc k) begins a) ≡ hit b a
      go true here rest =
          let other : hit b a ≡ 0
          = no_hit b a (λ e. cc (sym (one_of begins f b is)
          ∙ ap (is_one_of begins) (e ∙ equal a c here) ∙ different.0)) in
          let own : hit (k + suc f) k ≡ 0 = no_hit (k + suc f) k (λ e. absurd (omega (arith, e))) in
          omega (arith, other, own)
      go false here rest =
          ap (λ n. times n (procedure_from (suc k) begins a)) (omega arith) ∙ rest

pub entries_met : (begins way : List ℕ) → AllDifferent begins → (f b : ℕ)
    → slice_get begins f ≡ Some b → times b way ≡ times f (procedures_at begins way)
entries_met begins [] different f b is = refl
entries_met begins (a ∷ way) different f b is =
    let rest = entries_met begins way different f b is in
    let here = met_at 0 begins a f b different is in
    let named : times f (procedure_from 0 begins a) ≡ times (0 + f) (procedure_from 0 begins a)
    = ap (λ n. times n (procedure_from 0 begins a)) (omega arith) in
    let both = times_append f (procedure_from 0 begins a) (procedures_at begins way) in
    omega (arith, rest, here, named, both)

counted_at : (done : ℕ → ℕ) (begins words : List ℕ) (f : ℕ) (c : Count)
    → slice_get (counts_of done begins words) f ≡ Some c
    → (b : ℕ) × ((slice_get begins f ≡ Some b) × (c.entries ≡ done b))
counted_at done [] words f c is = absurd (cc is)
counted_at done (b ∷ begins) [] f c is = absurd (cc is)
counted_at done (b ∷ begins) (n ∷ words) zero c is =
    (b, (refl, ap (λ c. c.entries) (sym (own is)))) where
      own : Some (count_of done b n) ≡ Some c → count_of done b n ≡ c
      own e = cc e
counted_at done (b ∷ begins) (n ∷ words) (suc f) c is = counted_at done begins words f c is

-- so its count tells how often it is met
pub entries_counted : (begins words way : List ℕ) → AllDifferent begins → (f : ℕ) (c : Count)
    → slice_get (counts_in way begins words) f ≡ Some c
    → c.entries ≡ times f (procedures_at begins way)
entries_counted begins words way different f c is =
    let at = counted_at (λ a. times a way) begins words f c is in
    at.1.1 ∙ entries_met begins way different f at.0 at.1.0

-- ---- there are as many places as steps that are done

module _ (i : List ℕ) (s : State) where
  going : has_ended (run 0 i s).end ≡ false
  unfolding run
  going = refl

  -- a step, and then the others
  one_more : (m n : ℕ) (j : List ℕ) (t : State) (W : Run → Run)
      → ((k : ℕ) → run (suc k) i s ≡ W (run k j t))
      → ((r : Run) → has_ended (W r).end ≡ has_ended r.end)
      → IsCount n m j t → IsCount (suc n) (suc m) i s
  one_more m n j t W is keeps rest = record {
    goes = goes;
    same = is m ∙ ap W rest.same ∙ sym (is n);
    all = λ h. ap suc (rest.all (sym (at n) ∙ h));
  } where
    at : (k : ℕ) → has_ended (run (suc k) i s).end ≡ has_ended (run k j t).end
    at k = ap (λ r. has_ended r.end) (is k) ∙ keeps (run k j t)

    goes : (k : ℕ) → k < suc n → has_ended (run k i s).end ≡ false
    goes zero less = going
    goes (suc k) less = at k ∙ rest.goes k (omega (arith, less))

  -- the last step
  last_one : (m : ℕ) (r : Run) → ((k : ℕ) → run (suc k) i s ≡ r) → has_ended r.end ≡ true
      → IsCount (suc zero) (suc m) i s
  last_one m r is ended = record {
    goes = goes;
    same = is m ∙ sym (is zero);
    all = λ h. absurd (cc (sym ended ∙ ap (λ r. has_ended r.end) (sym (is zero)) ∙ h));
  } where
    goes : (k : ℕ) → k < suc zero → has_ended (run k i s).end ≡ false
    goes zero less = going
    goes (suc k) less = absurd (omega (arith, less))

module _ (m : ℕ) (i : List ℕ) (s : State)
    (rest : (i : List ℕ) (t : State) → IsCount (length (trace m i t)) m i t) where
  run_by : (o : Outcome) → step s ≡ o → (k : ℕ) → run (suc k) i s ≡ onward (run k) i s o
  unfolding run
  run_by o is k = ap (onward (run k) i s) is

  by_outcome : (o : Outcome) → step s ≡ o
      → IsCount (suc (length (trace_after (trace m) i s o))) (suc m) i s
  by_outcome (Next t) is =
      one_more i s m (length (trace m i t)) i t (λ r. r) (run_by (Next t) is) (λ r. refl) (rest i t)
  by_outcome (Written a len bytes t) is =
      one_more i s m (length (trace m i t)) i t (after bytes) (run_by (Written a len bytes t) is)
      (λ r. refl) (rest i t)
  by_outcome (Asked a) is =
      let t = given s (slice_get i 0) in
      one_more i s m (length (trace m (drop 1 i) t)) (drop 1 i) t (λ r. r) (run_by (Asked a) is)
      (λ r. refl) (rest (drop 1 i) t)
  by_outcome (Ended code) is = last_one i s m _ (run_by (Ended code) is) refl
  by_outcome (Trapped kind) is = last_one i s m _ (run_by (Trapped kind) is) refl

pub places_counted : (m : ℕ) (i : List ℕ) (s : State) → IsCount (length (trace m i s)) m i s
unfolding trace run
places_counted zero i s = record {
  goes = λ k less. absurd (omega (arith, less));
  same = refl;
  all = λ h. refl;
}
places_counted (suc m) i s = by_outcome m i s (λ i t. places_counted m i t) (step s) refl

-- ---- a place lies in the code of one procedure at most

-- the words from b on, so many, lie before each of these stretches of code, or behind it
abbrev pub LiesApart : (b n : ℕ) → (begins words : List ℕ) → Type 0
LiesApart b n [] words = Unit {0}
LiesApart b n (c ∷ begins) [] = Unit {0}
LiesApart b n (c ∷ begins) (w ∷ words) =
    ((b + 4 * n ≤ c) ⊎ (c + 4 * w ≤ b)) × LiesApart b n begins words

abbrev pub AreApart : (begins words : List ℕ) → Type 0
AreApart [] words = Unit {0}
AreApart (b ∷ begins) [] = Unit {0}
AreApart (b ∷ begins) (n ∷ words) = LiesApart b n begins words × AreApart begins words

abbrev done_in_all : (done : ℕ → ℕ) → (begins words : List ℕ) → ℕ
done_in_all done begins words = sum_of (map (λ c. c.instructions) (counts_of done begins words))

module _ (p : ℕ) where
  abbrev hits : (n b : ℕ) → ℕ
  hits n b = done_within (λ a. hit a p) n b

  abbrev Hits : (n b : ℕ) → Type 0
  Hits n b = (hits n b ≡ 0) ⊎ ((hits n b ≡ 1) × ((b ≤ p) × (p < b + 4 * n)))

  hit_or_not : (n b : ℕ) → Hits n b
  hit_or_not zero b = inl refl
  hit_or_not (suc n) b = go (nat_eq b p) refl (hit_or_not n (b + 4)) where
    go : (here : Bool) → nat_eq b p ≡ here → Hits n (b + 4)
        → (cond {A = ℕ} here 1 0 + hits n (b + 4) ≡ 0)
        ⊎ ((cond {A = ℕ} here 1 0 + hits n (b + 4) ≡ 1) × ((b ≤ p) × (p < b + 4 * suc n)))
    go true here (inl none) =
        let same = equal b p here in
        inr (omega (arith, none), (omega (arith, same), omega (arith, same)))
    go true here (inr h) =
        let same = equal b p here in
        let above = h.1.0 in absurd (omega (arith, same, above))
    go false here (inl none) = inl (omega (arith, none))
    go false here (inr h) =
        let one = h.0 in
        let above = h.1.0 in
        let below = h.1.1 in
        inr (omega (arith, one), (omega (arith, above), omega (arith, below)))

  none_else : (b n : ℕ) (begins words : List ℕ) → LiesApart b n begins words → b ≤ p
      → p < b + 4 * n → done_in_all (λ a. hit a p) begins words ≡ 0
  none_else b n [] words apart above below = refl
  none_else b n (c ∷ begins) [] apart above below = refl
  none_else b n (c ∷ begins) (w ∷ words) apart above below =
      go (hit_or_not w c) apart.0 (none_else b n begins words apart.1 above below) where
        go : Hits w c → (b + 4 * n ≤ c) ⊎ (c + 4 * w ≤ b)
            → done_in_all (λ a. hit a p) begins words ≡ 0
            → hits w c + done_in_all (λ a. hit a p) begins words ≡ 0
        go (inl none) side rest = omega (arith, none, rest)
        go (inr h) (inl side) rest =
            let there = h.1.0 in absurd (omega (arith, there, side, below))
        go (inr h) (inr side) rest =
            let there = h.1.1 in absurd (omega (arith, there, side, above))

  one_at_most : (begins words : List ℕ) → AreApart begins words
      → done_in_all (λ a. hit a p) begins words ≤ 1
  one_at_most [] words apart = omega arith
  one_at_most (b ∷ begins) [] apart = omega arith
  one_at_most (b ∷ begins) (n ∷ words) apart =
      go (hit_or_not n b) (one_at_most begins words apart.1) where
        go : Hits n b → done_in_all (λ a. hit a p) begins words ≤ 1
            → hits n b + done_in_all (λ a. hit a p) begins words ≤ 1
        go (inl none) rest = omega (arith, none, rest)
        go (inr h) rest =
            let one = h.0 in
            let none = none_else b n begins words apart.0 h.1.0 h.1.1 in omega (arith, one, none)

nothing_within : (n b : ℕ) → done_within (λ a. 0) n b ≡ 0
nothing_within zero b = refl
nothing_within (suc n) b = let rest = nothing_within n (b + 4) in omega (arith, rest)

nothing_done : (begins words : List ℕ) → done_in_all (λ a. 0) begins words ≡ 0
nothing_done [] words = refl
nothing_done (b ∷ begins) [] = refl
nothing_done (b ∷ begins) (n ∷ words) =
    let here = nothing_within n b in
    let rest = nothing_done begins words in omega (arith, here, rest)

module _ (d e : ℕ → ℕ) where
  both_within : (n b : ℕ)
      → done_within (λ a. d a + e a) n b ≡ done_within d n b + done_within e n b
  both_within zero b = refl
  both_within (suc n) b = let rest = both_within n (b + 4) in omega (arith, rest)

  both_done : (begins words : List ℕ) → done_in_all (λ a. d a + e a) begins words
      ≡ done_in_all d begins words + done_in_all e begins words
  both_done [] words = refl
  both_done (b ∷ begins) [] = refl
  both_done (b ∷ begins) (n ∷ words) =
      let here = both_within n b in
      let rest = both_done begins words in omega (arith, here, rest)

all_shared : (begins words : List ℕ) → AreApart begins words → (way : List ℕ)
    → done_in_all (λ a. times a way) begins words ≤ length way
all_shared begins words apart [] =
    let none = nothing_done begins words in omega (arith, none)
all_shared begins words apart (p ∷ way) =
    let first = one_at_most p begins words apart in
    let rest = all_shared begins words apart way in
    let both = both_done (λ a. hit a p) (λ a. times a way) begins words in
    omega (arith, first, rest, both)

-- so the instructions of all lines sum up to all that are done
pub sums_up : (begins words : List ℕ) → AreApart begins words → (way : List ℕ) →
    let counts = counts_in way begins words in
    outside (length way) counts + sum_of (map (λ c. c.instructions) counts) ≡ length way
sums_up begins words apart way =
    let all = all_shared begins words apart way in omega (arith, all)
