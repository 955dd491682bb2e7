-- Places that fit a formed program are what the simulation asks for.
use Rattle.std.proofs.Common.{◌≡◌, ◌≢◌, ℕ, zero, suc, ◌+◌, ◌*◌, ◌^◌, ◌<◌, ◌≤◌, List, [], ◌∷◌, ◌++◌, map, length, true, false, Some, ◌⊎◌, inl, inr, refl, sym, ap, ◌∙◌, subst, arith}
use Rattle.std.specs.Prelude.{nat_eq, slice_get}
use Rattle.std.proofs.Math.Nat.{mul-le-mul_left}
use Rattle.std.proofs.lemmas.Bool.Decides.{nat_tests}
use Rattle.std.proofs.lemmas.Option.{slice_get_within}
use Rattle.seq.proofs.Lists.{some_at, get_left, get_right}
use Rattle.seq.proofs.Truth.{not_both, two_ways}
use Rattle.parallel_move.specs.declared.Spot.{Spot}
use Rattle.parallel_move.specs.declared.Spot.TheVariants.{Reg, Slot, Scratch}
use Rattle.low_code.specs.Tree.{Code, set, prim, load, save, take, put, get, call, join, give, tail, choose, fail, Arms, otherwise, arm, Procedure, Program}
use Rattle.low_code.specs.Formed.{Distinct, uses, binds, arms_binds, variables, Site, calls_in, arms_calls, sites_of, all_sites, CallsInRange, AllCallsInRange, Formed}
use Rattle.low_code.specs.Size.{code_size, arms_size, sizes, program_size}
use Rattle.register_alloc.specs.Assignment.{Assignment, place_of, may_change, saves_at, words_at}
use Rattle.register_alloc.specs.Live.{IsLive, EachBinding, EachBindingOfArms, LiveAfter, ArmsLiveAfter}
use Rattle.register_alloc.specs.Written.{variable, result, Written, assigned, called}
use Rattle.register_alloc.specs.Fits.{IsPlace, IsSlot, IsRegister, ClearOf, Apart, IsSaved, slots_of, slot_end, most_saved, AllSlots, ParametersInRegisters, Fits}
use Rattle.rv32_select.specs.Emit.{argument_spot, argument_spots, result_spots}
use Rattle.low_code.specs.Literals.{Small, ArmsSmall}
use Rattle.rv32_select.proofs.Relation.{Keeps}
use Rattle.rv32_select.proofs.PlaceFacts.{NotAmong, AllApart, Free, IsOwn, AllOwn, AllFree, SavesFit, CallFits, Binds, Fine, ArmsFine, ProcedureFine}
use Rattle.rv32_select.proofs.BlockFacts.{or_true}
use Rattle.rv32_select.proofs.Among.{variables_within}
use Rattle.register_alloc.proofs.AllFit.{distinct_left, distinct_right}
use Rattle.register_alloc.proofs.Lists.{among_either}
use Rattle.seq.specs.Lists.{is_among}
use Rattle.low_code.proofs.Sites.{sites_append}
use Rattle.seq.proofs.Counted.{among_first, among_left, among_right}

-- ---- lists

not_in_both : (xs ys : List ℕ) → Distinct (xs ++ ys) → (x : ℕ) → is_among x xs ≡ true
    → is_among x ys ≡ true → ⊥
not_in_both [] ys d x h k = absurd (cc)
not_in_both (z ∷ xs) ys d x h k = elim (or_true (nat_eq x z) (is_among x xs) h) [
  | inl e ↦
      let same : x ≡ z = grind (arith, nat_tests) in
      not_both (is_among z (xs ++ ys))
      (among_right z xs ys (subst (λ y. is_among y ys ≡ true) same k)) d.0
  | inr e ↦ not_in_both xs ys d.1 x e k
]

-- ---- what holds of the whole program holds of one procedure

sites_once : (qs : List Procedure) (f : ℕ) (q : Procedure) → slice_get qs f ≡ Some q
    → Distinct (all_sites qs) → Distinct (sites_of (calls_in q.body))
sites_once [] f q e d = absurd (cc)
sites_once (r ∷ qs) zero q e d =
    let same : r ≡ q = cc in
    subst (λ z. Distinct (sites_of (calls_in z.body))) same
    (distinct_left (sites_of (calls_in r.body)) (all_sites qs) d)
sites_once (r ∷ qs) (suc f) q e d = sites_once qs f q e
    (distinct_right (sites_of (calls_in r.body)) (all_sites qs) d)

calls_at : (n : ℕ) (qs : List Procedure) (f : ℕ) (q : Procedure) → slice_get qs f ≡ Some q
    → AllCallsInRange n qs → CallsInRange n (calls_in q.body)
calls_at n [] f q e h = absurd (cc)
calls_at n (r ∷ qs) zero q e h =
    let same : r ≡ q = cc in
    subst (λ z. CallsInRange n (calls_in z.body)) same h.0
calls_at n (r ∷ qs) (suc f) q e h = calls_at n qs f q e h.1

call_at : (n : ℕ) (ss : List Site) (k : ℕ) (s : Site) → slice_get ss k ≡ Some s → CallsInRange n ss
    → s.1 < n
call_at n [] k s e h = absurd (cc)
call_at n (z ∷ ss) zero s e h = let same : z ≡ s = cc in subst (λ (y : Site). y.1 < n) same h.0
call_at n (z ∷ ss) (suc k) s e h = call_at n ss k s e h.1

pub size_at : (qs : List Procedure) (f : ℕ) (q : Procedure) → slice_get qs f ≡ Some q
    → code_size q.body ≤ sizes qs
size_at [] f q e = absurd (cc)
size_at (r ∷ qs) zero q e =
    let same : r ≡ q = cc in
    let here : code_size r.body ≤ sizes (r ∷ qs) = omega arith in
    subst (λ z. code_size z.body ≤ sizes (r ∷ qs)) same here
size_at (r ∷ qs) (suc f) q e = let more = size_at qs f q e in omega arith

-- ---- frames

slot_below : (place : ℕ → Spot) (xs : List ℕ) (x k : ℕ) → is_among x xs ≡ true → place x ≡ Slot k
    → k < slots_of place xs
slot_below place [] x k h e = absurd (cc)
slot_below place (y ∷ ys) x k h e = elim (or_true (nat_eq x y) (is_among x ys) h) [
  | inl t ↦
      let same : x ≡ y = grind (arith, nat_tests) in
      let end : slot_end (place y) ≡ suc k = ap slot_end (ap place (sym same) ∙ e) in
      omega (arith, end)
  | inr t ↦ let more = slot_below place ys x k t e in omega arith
]

long_enough : (saved : ℕ → List ℕ) (ss : List Site) (k : ℕ) (s : Site) → slice_get ss k ≡ Some s
    → length (saved s.0) ≤ most_saved saved ss
long_enough saved [] k s e = absurd (cc)
long_enough saved (z ∷ ss) zero s e =
    let same : z ≡ s = cc in
    let here : length (saved z.0) ≤ most_saved saved (z ∷ ss) = omega arith in
    subst (λ (y : Site). length (saved y.0) ≤ most_saved saved (z ∷ ss)) same here
long_enough saved (z ∷ ss) (suc k) s e = let more = long_enough saved ss k s e in omega arith

-- ---- a variable is live after a call of the block's own

mutual
  live_called : (s y : ℕ) (scope : List ℕ) (c : Code) (later : List ℕ) → LiveAfter s scope c later y
      → is_among s (sites_of (calls_in c)) ≡ true
  live_called s y scope (set x o c) later h = live_called s y (x ∷ scope) c later h
  live_called s y scope (prim p x o u c) later h = live_called s y (x ∷ scope) c later h
  live_called s y scope (load x o k c) later h = live_called s y (x ∷ scope) c later h
  live_called s y scope (save o k u c) later h = live_called s y scope c later h
  live_called s y scope (take xs c) later h = live_called s y (xs ++ scope) c later h
  live_called s y scope (put o c) later h = live_called s y scope c later h
  live_called s y scope (get x c) later h = live_called s y (x ∷ scope) c later h
  live_called s y scope (call g site os xs c) later (inl h) =
      subst (λ z. is_among s (z ∷ sites_of (calls_in c)) ≡ true) h.0
      (among_first s (sites_of (calls_in c)))
  live_called s y scope (call g site os xs c) later (inr h) =
      among_right s (site ∷ []) (sites_of (calls_in c)) (live_called s y (xs ++ scope) c later h)
  live_called s y scope (join xs b c) later (inl h) =
      ap (is_among s) (sites_append (calls_in b) (calls_in c)) ∙ among_left s
      (sites_of (calls_in b)) (sites_of (calls_in c))
      (live_called s y scope b (uses c ++ later) h)
  live_called s y scope (join xs b c) later (inr h) =
      ap (is_among s) (sites_append (calls_in b) (calls_in c)) ∙ among_right s
      (sites_of (calls_in b)) (sites_of (calls_in c)) (live_called s y (xs ++ scope) c later h)
  live_called s y scope (give os) later h = absurd h
  live_called s y scope (tail g site os) later h = absurd h
  live_called s y scope (choose as') later h = arms_live_called s y scope as' later h
  live_called s y scope fail later h = absurd h

  arms_live_called : (s y : ℕ) (scope : List ℕ) (as' : Arms) (later : List ℕ)
      → ArmsLiveAfter s scope as' later y → is_among s (sites_of (arms_calls as')) ≡ true
  arms_live_called s y scope (otherwise c) later h = live_called s y scope c later h
  arms_live_called s y scope (arm ts c as') later (inl h) =
      ap (is_among s) (sites_append (calls_in c) (arms_calls as')) ∙ among_left s
      (sites_of (calls_in c)) (sites_of (arms_calls as')) (live_called s y scope c later h)
  arms_live_called s y scope (arm ts c as') later (inr h) =
      ap (is_among s) (sites_append (calls_in c) (arms_calls as')) ∙ among_right s
      (sites_of (calls_in c)) (sites_of (arms_calls as'))
      (arms_live_called s y scope as' later h)

-- ---- spots of arguments and results

up_differ : (i j n : ℕ) → i < j → NotAmong (Reg i) (result_spots j n)
up_differ i j zero lt = tt
up_differ i j (suc n) lt = (other i j lt, up_differ i (suc j) n (omega arith))
  where
    other : (i j : ℕ) → i < j → Reg i ≢ Reg j
    other i j lt e = let same : i ≡ j = cc in absurd (omega arith)

results_apart : (r n : ℕ) → AllApart (result_spots r n)
results_apart r zero = tt
results_apart r (suc n) = (up_differ r (suc r) n (omega arith), results_apart (suc r) n)

-- where every variable has a slot, the arguments are in the registers from x8 on
slots_given : (place : ℕ → Spot) (xs : List ℕ) (i : ℕ)
    → ((x : ℕ) → is_among x xs ≡ true → IsSlot (place x))
    → argument_spots i (map place xs) ≡ result_spots (8 + i) (length xs)
slots_given place [] i h = refl
slots_given place (x ∷ xs) i h =
    let here = by_spot (place x) (h x (among_first x xs)) in
    let rest = slots_given place xs (suc i) (λ y e. h y (among_right y (x ∷ []) xs e)) in
    let next : 8 + suc i ≡ suc (8 + i) = omega arith in
    ap (λ s. s ∷ argument_spots (suc i) (map place xs)) here ∙ ap (λ ss. Reg (8 + i) ∷ ss)
    (rest ∙ ap (λ r. result_spots r (length xs)) next)
  where
    by_spot : (s : Spot) → IsSlot s → argument_spot i s ≡ Reg (8 + i)
    by_spot (Reg r) h = absurd h
    by_spot (Slot k) h = refl
    by_spot Scratch h = absurd h

-- where they have registers, in those
registers_given : (place : ℕ → Spot) (xs : List ℕ) (i : ℕ)
    → ((x : ℕ) → is_among x xs ≡ true → IsRegister (place x))
    → argument_spots i (map place xs) ≡ map place xs
registers_given place [] i h = refl
registers_given place (x ∷ xs) i h =
    let here = by_spot (place x) (h x (among_first x xs)) in
    let rest = registers_given place xs (suc i) (λ y e. h y (among_right y (x ∷ []) xs e)) in
    ap (λ s. s ∷ argument_spots (suc i) (map place xs)) here ∙ ap (λ ss. place x ∷ ss) rest
  where
    by_spot : (s : Spot) → IsRegister s → argument_spot i s ≡ s
    by_spot (Reg r) h = refl
    by_spot (Slot k) h = absurd h
    by_spot Scratch h = absurd h

clear_differ : (place : ℕ → Spot) (x : ℕ) (ys : List ℕ) → ClearOf place x ys
    → NotAmong (place x) (map place ys)
clear_differ place x [] h = tt
clear_differ place x (y ∷ ys) h = ((λ e. h.0 (sym e)), clear_differ place x ys h.1)

apart_differ : (place : ℕ → Spot) (scope xs : List ℕ) (c : Code) (later : List ℕ)
    → Apart place scope xs c later → AllApart (map place xs)
apart_differ place scope [] c later h = tt
apart_differ place scope (x ∷ xs) c later h =
    (clear_differ place x xs h.1.0, apart_differ place scope xs c later h.1.1)

-- ---- within a procedure

-- a piece of the block of q: its variables are q's, its calls some of q's, and what is live after
-- those is so in the block
record Inside (q : Procedure) (scope bound : List ℕ) (size : ℕ) (sites : List Site)
    (Live : ℕ → ℕ → Type 0) : Type 0 where
  pub known : (x : ℕ) → is_among x scope ≡ true → is_among x (variables q) ≡ true
  pub own : (x : ℕ) → is_among x bound ≡ true → is_among x (variables q) ≡ true
  pub few : size ≤ 25165824
  pub calls : (k : ℕ) (s : Site) → slice_get sites k ≡ Some s → (m : ℕ)
      × (slice_get (calls_in q.body) m ≡ Some s)
  pub once : Distinct (sites_of sites)
  pub up : (s y : ℕ) → Live s y → LiveAfter s q.params q.body [] y
  pub down : (s y : ℕ) → is_among s (sites_of sites) ≡ true → LiveAfter s q.params q.body [] y
      → Live s y

module _ (q : Procedure) where
  onward : (scope xs bound : List ℕ) (size less : ℕ) (sites : List Site) (Live : ℕ → ℕ → Type 0)
      → less ≤ size → Inside q scope (xs ++ bound) size sites Live
      → Inside q (xs ++ scope) bound less sites Live
  onward scope xs bound size less sites Live le h = record {
    known = λ x e. elim (among_either x xs scope e)
        [ inl i ↦ h.own x (among_left x xs bound i) | inr i ↦ h.known x i ];
    own = λ x e. h.own x (among_right x xs bound e);
    few = let few = h.few in omega (arith, le, few);
    calls = h.calls;
    once = h.once;
    up = h.up;
    down = h.down;
  }

  behind_call : (scope xs bound : List ℕ) (size less : ℕ) (site g : ℕ) (sites : List Site)
      (Here : ℕ → Type 0) (Live : ℕ → ℕ → Type 0) → less ≤ size
      → Inside q scope (xs ++ bound) size ((site, g) ∷ sites)
      (λ s y. ((s ≡ site) × Here y) ⊎ Live s y) → Inside q (xs ++ scope) bound less sites Live
  behind_call scope xs bound size less site g sites Here Live le h = record {
    known = λ x e. elim (among_either x xs scope e)
        [ inl i ↦ h.own x (among_left x xs bound i) | inr i ↦ h.known x i ];
    own = λ x e. h.own x (among_right x xs bound e);
    few = let few = h.few in omega (arith, le, few);
    calls = λ k s e. h.calls (suc k) s e;
    once = h.once.1;
    up = λ s y live. h.up s y (inr live);
    down = λ s y e live. elim (h.down s y (among_right s (site ∷ []) (sites_of sites) e) live) [
      | inl i ↦ absurd
          (not_both (is_among site (sites_of sites))
          (subst (λ z. is_among z (sites_of sites) ≡ true) i.0 e) h.once.0)
      | inr i ↦ i
    ];
  }

  first_part : (scope bs cs : List ℕ) (size less : ℕ) (ss ts : List Site) (L M : ℕ → ℕ → Type 0)
      → less ≤ size → ((s y : ℕ) → M s y → is_among s (sites_of ts) ≡ true)
      → Inside q scope (bs ++ cs) size (ss ++ ts) (λ s y. L s y ⊎ M s y)
      → Inside q scope bs less ss L
  first_part scope bs cs size less ss ts L M le other h =
      let once = subst Distinct (sites_append ss ts) h.once in
      record {
        known = h.known;
        own = λ x e. h.own x (among_left x bs cs e);
        few = let few = h.few in omega (arith, le, few);
        calls = λ k s e. h.calls k s (get_left ss ts k s e);
        once = distinct_left (sites_of ss) (sites_of ts) once;
        up = λ s y live. h.up s y (inl live);
        down = λ s y e live. elim
            (h.down s y
            (ap (is_among s) (sites_append ss ts) ∙ among_left s (sites_of ss) (sites_of ts) e)
            live) [
              | inl i ↦ i
              | inr i ↦ absurd (not_in_both (sites_of ss) (sites_of ts) once s e (other s y i))
            ];
      }

  second_part : (scope bs cs : List ℕ) (size less : ℕ) (ss ts : List Site) (L M : ℕ → ℕ → Type 0)
      → less ≤ size → ((s y : ℕ) → L s y → is_among s (sites_of ss) ≡ true)
      → Inside q scope (bs ++ cs) size (ss ++ ts) (λ s y. L s y ⊎ M s y)
      → Inside q scope cs less ts M
  second_part scope bs cs size less ss ts L M le other h =
      let once = subst Distinct (sites_append ss ts) h.once in
      record {
        known = h.known;
        own = λ x e. h.own x (among_right x bs cs e);
        few = let few = h.few in omega (arith, le, few);
        calls = λ k s e. h.calls (length ss + k) s (get_right ss ts k s e);
        once = distinct_right (sites_of ss) (sites_of ts) once;
        up = λ s y live. h.up s y (inr live);
        down = λ s y e live. elim
            (h.down s y
            (ap (is_among s) (sites_append ss ts) ∙ among_right s (sites_of ss) (sites_of ts) e)
            live) [
              | inl i ↦ absurd (not_in_both (sites_of ss) (sites_of ts) once s (other s y i) e)
              | inr i ↦ i
            ];
      }

-- ---- places that fit

module _ (l : Program) (a : Assignment) (fits : Fits l a) (formed : Formed l)
    (narrow : l.width ≤ 14) (f : ℕ) (q : Procedure) (is : slice_get l.procs f ≡ Some q) where
  within : f < length l.procs
  within = slice_get_within l.procs f q is

  -- a register that the procedure may change is none that it keeps
  free_if : (r : ℕ) → Written (place_of a) l f r → Free l a f r
  free_if r w k = not_both (may_change a f r) ((fits.written f r within).1 w) k.unchanged

  own : (x : ℕ) → is_among x (variables q) ≡ true → IsOwn l a f
      (slots_of (place_of a) (variables q)) (place_of a x)
  own x among = by_spot (place_of a x) refl
      (fits.places x (variables_within l.procs f q is x among))
    where
      by_spot : (s : Spot) → place_of a x ≡ s → IsPlace s
          → IsOwn l a f (slots_of (place_of a) (variables q)) s
      by_spot (Reg r) e h = (h.0, (h.1, free_if r (assigned f r q is (variable x among e))))
      by_spot (Slot k) e h = slot_below (place_of a) (variables q) x k among e
      by_spot Scratch e h = absurd h

  all_own : (xs : List ℕ) → ((x : ℕ) → is_among x xs ≡ true → is_among x (variables q) ≡ true)
      → AllOwn l a f (slots_of (place_of a) (variables q)) (map (place_of a) xs)
  all_own [] h = tt
  all_own (x ∷ xs) h =
      (own x (h x (among_first x xs)), all_own xs (λ y e. h y (among_right y (x ∷ []) xs e)))

  abbrev saved : ℕ
  saved = slots_of (place_of a) (variables q)

  abbrev slots : ℕ
  slots = saved + most_saved (saves_at a) (calls_in q.body)

  call_fits : (k site g : ℕ) → slice_get (calls_in q.body) k ≡ Some (site, g) → CallFits l a f g
  call_fits k site g e =
      let range = call_at (length l.procs) (calls_in q.body) k (site, g) e
      (calls_at (length l.procs) l.procs f q is formed.calls_in_range) in
      let q' = some_at l.procs g range in
      record {
        called = q'.0;
        is_called = q'.1;
        keeps
            = λ r h. record {
              held = h.held;
              low = h.low;
              high = h.high;
              unchanged
                  = by_mask r range h.unchanged (two_ways (may_change a g r));
            };
      }
    where
      by_mask : (r : ℕ) → g < length l.procs → may_change a f r ≡ false → (may_change a g r ≡ true)
          ⊎ (may_change a g r ≡ false) → may_change a g r ≡ false
      by_mask r range kept (inl t) = absurd
          (not_both (may_change a f r)
          ((fits.written f r within).1 (called f g site r q is k e ((fits.written g r range).0 t)))
          kept)
      by_mask r range kept (inr t) = t

  saves_fit : (scope xs bound : List ℕ) (size : ℕ) (c : Code) (later : List ℕ) (site g : ℕ)
      → Inside q scope (xs ++ bound) size ((site, g) ∷ calls_in c)
      (λ s y. ((s ≡ site) × IsLive scope c later y) ⊎ LiveAfter s (xs ++ scope) c later y)
      → SavesFit l a f slots saved scope c later site g
  saves_fit scope xs bound size c later site g h =
      let at = h.calls 0 (site, g) refl in
      let enough = long_enough (saves_at a) (calls_in q.body) at.0 (site, g) at.1 in
      record {
        is_live = λ r among. live_at r ((fits.saved f at.0 site g r q is at.1).0 among);
        is_saved = λ y r live e. by_mask at.0 at.1 y r live e (two_ways (may_change a g r));
        ascending = fits.ascending site;
        room = omega (arith, enough);
      }
    where
      here : (y : ℕ) → ((site ≡ site) × IsLive scope c later y)
          ⊎ LiveAfter site (xs ++ scope) c later y → IsLive scope c later y
      here y (inl live) = live.1
      here y (inr live) = absurd
          (not_both (is_among site (sites_of (calls_in c)))
          (live_called site y (xs ++ scope) c later live) h.once.0)

      live_at : (r : ℕ) → IsSaved a q site g r → (y : ℕ)
          × (IsLive scope c later y × (place_of a y ≡ Reg r))
      live_at r x = (
        x.0,
        (
          here x.0 (h.down site x.0 (among_first site (sites_of (calls_in c))) x.1.0),
          x.1.1.0,
        ),
      )

      by_mask : (k : ℕ) → slice_get (calls_in q.body) k ≡ Some (site, g) → (y r : ℕ)
          → IsLive scope c later y → place_of a y ≡ Reg r
          → (may_change a g r ≡ true) ⊎ (may_change a g r ≡ false)
          → (is_among r (saves_at a site) ≡ true) ⊎ Keeps l a g r
      by_mask k e y r live e' (inl t) = inl
          ((fits.saved f k site g r q is e).1 (y, (h.up site y (inl (refl, live)), (e', t))))
      by_mask k e y r live e' (inr t) =
          let among = variables_within l.procs f q is y (h.known y live.0) in
          let place = subst IsPlace e' (fits.places y among) in
          inr (record { held = inl (y, (among, e')); low = place.0; high = place.1; unchanged = t })

  binds_fit : (scope xs bound : List ℕ) (size : ℕ) (sites : List Site) (Live : ℕ → ℕ → Type 0)
      (c : Code) (later : List ℕ) → Apart (place_of a) scope xs c later
      → Inside q scope (xs ++ bound) size sites Live → Binds l a f slots saved scope xs c later
  binds_fit scope xs bound size sites Live c later apart h
      = (apart, all_own xs (λ x e. h.own x (among_left x xs bound e)))

  room : (xs : List ℕ) → length xs ≤ 25165824 → 4 * l.width * length xs < 2 ^ 31
  room xs few =
      let one : 4 * l.width * length xs ≤ 4 * l.width * 25165824 = mul-le-mul_left (4 * l.width) few
      in
      omega (arith, one, narrow)

  mutual
    fine : (scope : List ℕ) (c : Code) (later : List ℕ)
        → EachBinding (Apart (place_of a)) scope c later → Small c
        → Inside q scope (binds c) (code_size c) (calls_in c) (λ s y. LiveAfter s scope c later y)
        → Fine l a f slots saved scope c later
    fine scope (set x o c) later each small h =
        let next = onward q scope (x ∷ []) (binds c) (code_size (set x o c)) (code_size c)
        (calls_in c) (λ s y. LiveAfter s (x ∷ scope) c later y) (omega arith) h in (
          small.0,
          (
            binds_fit scope (x ∷ []) (binds c) (code_size (set x o c)) (calls_in c)
                (λ s y. LiveAfter s (x ∷ scope) c later y) c later each.0 h,
            fine (x ∷ scope) c later each.1 small.1 next,
          ),
        )
    fine scope (prim p x o u c) later each small h =
        let next = onward q scope (x ∷ []) (binds c) (code_size (prim p x o u c)) (code_size c)
        (calls_in c) (λ s y. LiveAfter s (x ∷ scope) c later y) (omega arith) h in (
          small.0,
          (
            small.1,
            (
              binds_fit scope (x ∷ []) (binds c) (code_size (prim p x o u c)) (calls_in c)
                  (λ s y. LiveAfter s (x ∷ scope) c later y) c later each.0 h,
              fine (x ∷ scope) c later each.1 small.2 next,
            ),
          ),
        )
    fine scope (load x o k c) later each small h =
        let next = onward q scope (x ∷ []) (binds c) (code_size (load x o k c)) (code_size c)
        (calls_in c) (λ s y. LiveAfter s (x ∷ scope) c later y) (omega arith) h in (
          small.0,
          (
            binds_fit scope (x ∷ []) (binds c) (code_size (load x o k c)) (calls_in c)
                (λ s y. LiveAfter s (x ∷ scope) c later y) c later each.0 h,
            fine (x ∷ scope) c later each.1 small.1 next,
          ),
        )
    fine scope (save o k u c) later each small h =
        let next = onward q scope [] (binds c) (code_size (save o k u c)) (code_size c) (calls_in c)
        (λ s y. LiveAfter s scope c later y) (omega arith) h in
        (small.0, (small.1, fine scope c later each small.2 next))
    fine scope (take xs c) later each small h =
        let next = onward q scope xs (binds c) (code_size (take xs c)) (code_size c) (calls_in c)
        (λ s y. LiveAfter s (xs ++ scope) c later y) (omega arith) h in (
          room xs (let few = h.few in omega (arith, few)),
          (
            binds_fit scope xs (binds c) (code_size (take xs c)) (calls_in c)
                (λ s y. LiveAfter s (xs ++ scope) c later y) c later each.0 h,
            fine (xs ++ scope) c later each.1 small next,
          ),
        )
    fine scope (put o c) later each small h =
        let next = onward q scope [] (binds c) (code_size (put o c)) (code_size c) (calls_in c)
        (λ s y. LiveAfter s scope c later y) (omega arith) h in
        (small.0, fine scope c later each small.1 next)
    fine scope (get x c) later each small h =
        let next = onward q scope (x ∷ []) (binds c) (code_size (get x c)) (code_size c)
        (calls_in c) (λ s y. LiveAfter s (x ∷ scope) c later y) (omega arith) h in (
          binds_fit scope (x ∷ []) (binds c) (code_size (get x c)) (calls_in c)
              (λ s y. LiveAfter s (x ∷ scope) c later y) c later each.0 h,
          fine (x ∷ scope) c later each.1 small next,
        )
    fine scope (call g site os xs c) later each small h =
        let next = behind_call q scope xs (binds c) (code_size (call g site os xs c)) (code_size c)
        site g (calls_in c) (IsLive scope c later) (λ s y. LiveAfter s (xs ++ scope) c later y)
        (omega arith) h in
        let at = h.calls 0 (site, g) refl in (
          small.0,
          (
            call_fits at.0 site g at.1,
            (
              saves_fit scope xs (binds c) (code_size (call g site os xs c)) c later site g h,
              (
                binds_fit scope xs (binds c) (code_size (call g site os xs c))
                    ((site, g) ∷ calls_in c)
                    (λ s y. ((s ≡ site) × IsLive scope c later y)
                    ⊎ LiveAfter s (xs ++ scope) c later y) c later each.0 h,
                fine (xs ++ scope) c later each.1 small.1 next,
              ),
            ),
          ),
        )
    fine scope (join xs b c) later each small h =
        let L = λ (s y : ℕ). LiveAfter s scope b (uses c ++ later) y in
        let M = λ (s y : ℕ). LiveAfter s (xs ++ scope) c later y in
        let first = first_part q scope (binds b) (xs ++ binds c) (code_size (join xs b c))
        (code_size b) (calls_in b) (calls_in c) L M (omega arith)
        (λ s y i. live_called s y (xs ++ scope) c later i) h in
        let second = second_part q scope (binds b) (xs ++ binds c) (code_size (join xs b c))
        (code_size c) (calls_in b) (calls_in c) L M (omega arith)
        (λ s y i. live_called s y scope b (uses c ++ later) i) h in
        let le : code_size c ≤ code_size c = omega arith in (
          fine scope b (uses c ++ later) each.0 small.0 first,
          (
            binds_fit scope xs (binds c) (code_size c) (calls_in c) M c later each.1.0 second,
            fine (xs ++ scope) c later each.1.1 small.1
                (onward q scope xs (binds c) (code_size c) (code_size c) (calls_in c) M le second),
          ),
        )
    fine scope (give os) later each small h = small
    fine scope (tail g site os) later each small h = let at = h.calls 0 (site, g) refl
        in (small, call_fits at.0 site g at.1)
    fine scope (choose as') later each small h =
        arms_fine scope as' later each small
        (onward q scope [] (arms_binds as') (code_size (choose as')) (arms_size as')
        (arms_calls as') (λ s y. ArmsLiveAfter s scope as' later y) (omega arith) h)
    fine scope fail later each small h = tt

    arms_fine : (scope : List ℕ) (as' : Arms) (later : List ℕ)
        → EachBindingOfArms (Apart (place_of a)) scope as' later → ArmsSmall as'
        → Inside q scope (arms_binds as') (arms_size as') (arms_calls as')
        (λ s y. ArmsLiveAfter s scope as' later y) → ArmsFine l a f slots saved scope as' later
    arms_fine scope (otherwise c) later each small h = fine scope c later each small h
    arms_fine scope (arm ts c as') later each small h =
        let L = λ (s y : ℕ). LiveAfter s scope c later y in
        let M = λ (s y : ℕ). ArmsLiveAfter s scope as' later y in
        let first = first_part q scope (binds c) (arms_binds as') (arms_size (arm ts c as'))
        (code_size c) (calls_in c) (arms_calls as') L M (omega arith)
        (λ s y i. arms_live_called s y scope as' later i) h in
        let second = second_part q scope (binds c) (arms_binds as') (arms_size (arm ts c as'))
        (arms_size as') (calls_in c) (arms_calls as') L M (omega arith)
        (λ s y i. live_called s y scope c later i) h in (
          small.0,
          (
            fine scope c later each.0 small.1 first,
            arms_fine scope as' later each.1 small.2 second,
          ),
        )

  -- the registers from r on, where the procedure may change each
  registers_own : (r n : ℕ) → 8 ≤ r → r + n ≤ 32 → ((k : ℕ) → r ≤ k → k < r + n → Free l a f k)
      → AllFree l a f (result_spots r n)
  registers_own r zero low high h = tt
  registers_own r (suc n) low high h = (
    (low, (omega arith, h r (omega arith) (omega arith))),
    registers_own (suc r) n (omega arith) (omega arith)
        (λ k le lt. h k (omega arith) (omega arith)),
  )

  given_own : (xs : List ℕ) → ((x : ℕ) → is_among x xs ≡ true → IsRegister (place_of a x))
      → ((x : ℕ) → is_among x xs ≡ true → is_among x (variables q) ≡ true)
      → AllFree l a f (map (place_of a) xs)
  given_own [] reg h = tt
  given_own (x ∷ xs) reg h = (
    by_spot (place_of a x) (reg x (among_first x xs)) (own x (h x (among_first x xs))),
    given_own xs (λ y e. reg y (among_right y (x ∷ []) xs e))
        (λ y e. h y (among_right y (x ∷ []) xs e)),
  )
    where
      by_spot : (s : Spot) → IsRegister s → IsOwn l a f (slots_of (place_of a) (variables q)) s
          → IsOwn l a f 0 s
      by_spot (Reg r) i o = o
      by_spot (Slot k) i o = absurd i
      by_spot Scratch i o = absurd i

  record Given (ss : List Spot) : Type 0 where
    pub own : AllFree l a f ss
    pub differ : AllApart ss

  arguments_given : length q.params ≤ 16 → AllSlots l a ⊎ ParametersInRegisters l a
      → Given (argument_spots 0 (map (place_of a) q.params))
  arguments_given few (inl all) =
      let here : argument_spots 0 (map (place_of a) q.params) ≡ result_spots 8 (length q.params) =
      slots_given (place_of a) q.params 0
      (λ x e. all x
      (variables_within l.procs f q is x (among_left x q.params (binds q.body) e))) in
      subst Given (sym here)
      (record {
        own = registers_own 8 (length q.params) (omega arith) (omega arith) none;
        differ
            = results_apart 8 (length q.params);
      })
    where
      none : (k : ℕ) → 8 ≤ k → k < 8 + length q.params → Free l a f k
      none k low high h = elim h.held [
        | inl x ↦ subst IsSlot x.1.1 (all x.0 x.1.0)
        | inr far ↦ absurd (omega (arith, few, high, far))
      ]
  arguments_given few (inr registers) =
      let regs = λ (x : ℕ) (e : is_among x q.params ≡ true). registers f x q is e in
      let here : argument_spots 0 (map (place_of a) q.params) ≡ map (place_of a) q.params
      = registers_given (place_of a) q.params 0 regs in
      subst Given (sym here) (record {
        own = given_own q.params regs (λ x e. among_left x q.params (binds q.body) e);
        differ = apart_differ (place_of a) [] q.params q.body [] (fits.apart f q is).0;
      })

  pub procedure_fine : Small q.body → length q.params ≤ 16 → q.results ≤ 13
      → program_size l ≤ 25165824 → 4 * words_at a f < 2 ^ 28 → ProcedureFine l a f q
  procedure_fine small few_params few_results size frame =
      let each = fits.apart f q is in
      let args = arguments_given few_params fits.parameters in
      let all = size_at l.procs f q is in
      let start : Inside q q.params (binds q.body) (code_size q.body) (calls_in q.body)
      (λ s y. LiveAfter s q.params q.body [] y) = record {
        known = λ x e. among_left x q.params (binds q.body) e;
        own = λ x e. among_right x q.params (binds q.body) e;
        few = omega (arith, all, size);
        calls = λ k s e. (k, e);
        once = sites_once l.procs f q is formed.sites_once;
        up = λ s y h. h;
        down = λ s y e h. h;
      } in
      record {
        slots = slots;
        words = let w = fits.frames f q is in omega (arith, w);
        small = frame;
        enough = omega arith;
        params = (each.0, all_own q.params (λ x e. among_left x q.params (binds q.body) e));
        body = fine q.params q.body [] each.1 small start;
        arguments = args.own;
        arguments_differ = args.differ;
        results = registers_own 10 q.results (omega arith) (omega arith)
            (λ k low high. free_if k (assigned f k q is (result low high)));
        results_differ = results_apart 10 q.results;
      }
