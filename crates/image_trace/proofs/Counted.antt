-- How often addresses stand among the places of a run.
use Rattle.std.proofs.Common.{◌≡◌, ◌+◌, ◌≤◌, ℕ, zero, suc, nat_eq, Bool, true, false, cond, List, [], ◌∷◌, ◌++◌, length, map, drop, slice_get, slice_index, if◌then◌else◌, refl, sym, ap, ◌∙◌, arith, ◌-◌, ◌/◌, ◌<◌}
use Rattle.std.proofs.lemmas.Bool.Decides.{nat_tests}
use Rattle.std.proofs.Math.Path.{fun_ext}
use Rattle.seq.specs.Lists.{times}
use Rattle.rv32_machine.specs.Steps.{State, Outcome, Next, Written, Asked, Ended, Trapped, step, given}
use Rattle.rv32_steps.specs.Trace.{trace, trace_after}
use Rattle.image_trace.specs.Entries.{states, states_after}
use Rattle.image_trace.specs.Places.{is_word}
use Rattle.image_trace.specs.Profile.{done_within, counts_of, counts_in, outside, start_line, count_lines, profile_text}
use Rattle.image_trace.specs.declared.profile.Count.{Count}

-- ---- the places of a run are those of its states

abbrev place_of : State → ℕ
place_of s = s.pc

places_after : (m : ℕ) (i : List ℕ) (s : State)
    → ((i : List ℕ) (t : State) → trace m i t ≡ map place_of (states m i t)) → (o : Outcome)
    → trace_after (trace m) i s o ≡ map place_of (states_after (states m) i s o)
places_after m i s same (Next t) = same i t
places_after m i s same (Written a len bytes t) = same i t
places_after m i s same (Asked a) = same (drop 1 i) (given s (slice_get i 0))
places_after m i s same (Ended code) = refl
places_after m i s same (Trapped kind) = refl

pub places_of_states : (m : ℕ) (i : List ℕ) (s : State) → trace m i s ≡ map place_of (states m i s)
unfolding states trace
places_of_states zero i s = refl
places_of_states (suc m) i s =
    ap (λ l. s.pc ∷ l) (places_after m i s (λ i t. places_of_states m i t) (step s))

map_either : (test : Bool) (ss : List State)
    → map place_of (if test then ss else []) ≡ (if test then map place_of ss else [])
map_either true ss = refl
map_either false ss = refl

-- so the place of a state comes before those of the states behind it
pub first_place : (m : ℕ) (s t : State) (test : Bool)
    → states (suc m) [] s ≡ s ∷ (if test then states m [] t else [])
    → trace (suc m) [] s ≡ s.pc ∷ (if test then trace m [] t else [])
first_place m s t test is =
    places_of_states (suc m) [] s ∙ ap (map place_of) is
    ∙ ap (λ l. s.pc ∷ l) (map_either test (states m [] t)
    ∙ ap (λ l. if test then l else []) (sym (places_of_states m [] t)))

pub no_places : (s : State) → trace 0 [] s ≡ []
unfolding trace
no_places s = refl

-- ---- how many there are

module _ (m : ℕ) (few : (i : List ℕ) (s : State) → length (trace m i s) ≤ m) where
  few_after : (i : List ℕ) (s : State) (o : Outcome) → length (trace_after (trace m) i s o) ≤ m
  few_after i s (Next t) = few i t
  few_after i s (Written a len bytes t) = few i t
  few_after i s (Asked a) = few (drop 1 i) (given s (slice_get i 0))
  few_after i s (Ended code) = omega arith
  few_after i s (Trapped kind) = omega arith

pub few_places : (m : ℕ) (i : List ℕ) (s : State) → length (trace m i s) ≤ m
unfolding trace
few_places zero i s = omega arith
few_places (suc m) i s =
    let rest = few_after m (λ i s. few_places m i s) i s (step s) in omega (arith, rest)

-- ---- how often

one_or_none : (test : Bool) → cond test 1 0 ≤ 1
one_or_none true = omega arith
one_or_none false = omega arith

pub times_few : (a : ℕ) (xs : List ℕ) → times a xs ≤ length xs
times_few a [] = omega arith
times_few a (x ∷ xs) =
    let rest = times_few a xs in
    let one = one_or_none (nat_eq a x) in omega (arith, rest, one)

pub times_last : (a x : ℕ) (xs : List ℕ) → times a (xs ++ (x ∷ [])) ≡ cond (nat_eq a x) 1 0 + times
    a xs
times_last a x [] = refl
times_last a x (y ∷ xs) =
    let rest = times_last a x xs in
    ap (λ n. cond (nat_eq a y) 1 0 + n) rest
    ∙ omega arith

-- ---- an address that has no number of its own is noted

differ : (len a at : ℕ) → is_word len at ≡ false → is_word len a ≡ true → nat_eq a at ≡ false
differ len a at other own = go (nat_eq a at) refl where
  go : (same : Bool) → nat_eq a at ≡ same → same ≡ false
  go false is = refl
  go true is =
      let same : a ≡ at = grind (arith, nat_tests) in
      absurd (cc (sym own ∙ ap (is_word len) same ∙ other))

pub other_noted : (words others more : List ℕ) (at : ℕ) → is_word (length words) at ≡ false
    → more ≡ others ++ (at ∷ []) → (a : ℕ)
    → (if is_word (length words) a then slice_index words (a / 4) else times a more)
    ≡ cond (nat_eq a at) 1 0
    + (if is_word (length words) a then slice_index words (a / 4) else times a others)
other_noted words others more at other is a = go (is_word (length words) a) refl where
  go : (own : Bool) → is_word (length words) a ≡ own
      → (if own then slice_index words (a / 4) else times a more)
      ≡ cond (nat_eq a at) 1 0 + (if own then slice_index words (a / 4) else times a others)
  go true own =
      let none : cond {A = ℕ} (nat_eq a at) 1 0 ≡ 0
      = ap (λ b. cond {A = ℕ} b 1 0) (differ (length words) a at other own) in
      omega (arith, none)
  go false own = rw is (times_last a at others)

-- ---- the words of a stretch

pub done_more : (done : ℕ → ℕ) (left at : ℕ) → 0 < left
    → done_within done left at ≡ done at + done_within done (left - 1) (at + 4)
done_more done zero at some = absurd (omega (arith, some))
done_more done (suc left) at some = ap (λ n. done at + done_within done n (at + 4)) (omega arith)

-- ---- what is noted, and the steps that are left

module _ (whole : List ℕ) (noted : ℕ → ℕ) (way : List ℕ)
    (kept : (a : ℕ) → noted a + times a way ≡ times a whole) where
  pub few_noted : length whole ≤ 1000000000 → (a : ℕ) → noted a ≤ 1000000000
  few_noted few a =
      let is = kept a in
      let all = times_few a whole in omega (arith, is, all, few)

  pub nothing_left : way ≡ [] → (a : ℕ) → noted a ≡ times a whole
  nothing_left none a =
      let is = kept a in
      let nothing : times a way ≡ 0 = ap (times a) none in omega (arith, is, nothing)

  -- one place is noted, and those behind it are left
  pub one_noted : (at : ℕ) (rest : List ℕ) (new : ℕ → ℕ) → way ≡ at ∷ rest
      → ((a : ℕ) → new a ≡ cond (nat_eq a at) 1 0 + noted a)
      → (a : ℕ) → new a + times a rest ≡ times a whole
  one_noted at rest new is more a =
      let before = kept a in
      let first : times a way ≡ cond (nat_eq a at) 1 0 + times a rest = ap (times a) is in
      let now = more a in omega (arith, before, first, now)

-- ---- a step

pub step_place : (left : ℕ) (s t : State) (goes : Bool) → 0 < left
    → ((m : ℕ) → states (suc m) [] s ≡ s ∷ (if goes then states m [] t else []))
    → trace left [] s ≡ s.pc ∷ (if goes then trace (left - 1) [] t else [])
step_place zero s t goes some is = absurd (omega (arith, some))
step_place (suc m) s t goes some is =
    let same : m ≡ suc m - 1 = omega arith in
    first_place m s t goes (is m)
    ∙ ap (λ n. s.pc ∷ (if goes then trace n [] t else [])) same

pub no_more_places : (left : ℕ) (s : State) → left ≡ 0 → trace left [] s ≡ []
no_more_places left s none = ap (λ n. trace n [] s) none ∙ no_places s

-- ---- the text

pub counts_length : (done : ℕ → ℕ) (begins words : List ℕ) → length words ≡ length begins
    → length (counts_of done begins words) ≡ length begins
counts_length done [] words same = refl
counts_length done (b ∷ begins) [] same = absurd (omega (arith, same))
counts_length done (b ∷ begins) (n ∷ words) same =
    ap suc (counts_length done begins words (omega (arith, same)))

pub text_is : (names : List (List ℕ)) (begins words way : List ℕ) (noted : ℕ → ℕ) (all : ℕ)
    (counts : List Count) → ((a : ℕ) → noted a ≡ times a way) → all ≡ length way
    → counts ≡ counts_of noted begins words
    → start_line (outside all counts) ++ count_lines names counts
    ≡ profile_text names (length way) (counts_in way begins words)
text_is names begins words way noted all counts is many are =
    let counts_are : counts ≡ counts_in way begins words
    = are ∙ ap (λ (done : ℕ → ℕ). counts_of done begins words) (fun_ext is) in
    λ i. start_line (outside (many i) (counts_are i)) ++ count_lines names (counts_are i)
