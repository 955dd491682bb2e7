-- Rounds until nothing is added give the least solution.
use Rattle.std.proofs.Common.{◌≡◌, ◌+◌, ◌-◌, ◌^◌, ◌<◌, ◌≤◌, ℕ, zero, suc, Bool, true, false, cond, ◌||◌, List, [], ◌∷◌, ◌++◌, take, length, get_or, Some, slice_get, refl, sym, ap, ◌∙◌, subst, inl, inr, ⊎_elim, arith}
use Rattle.std.specs.Prelude.{◌⊎◌, IsTrue}
use Rattle.std.specs.List.{flat_map}
use Rattle.std.proofs.lemmas.List.{take_all}
use Rattle.flow_system.specs.declared.fact.Element.{Element}
use Rattle.flow_system.specs.declared.fact.Element.TheVariants.{Cell, Tag, Number}
use Rattle.flow_system.specs.declared.fact.Place.{Place}
use Rattle.flow_system.specs.declared.fact.Part.{Part}
use Rattle.flow_system.specs.declared.inclusion.Inclusion as code
use Rattle.flow_system.specs.Inclusions.{Inclusion}
use Rattle.flow_system.specs.Tables.{Tables}
use Rattle.flow_system.specs.Solution.{At, same_word, among, IsLeast}
use Rattle.flow_system.specs.Shown.{inclusion_of, shown}
use Rattle.flow_system.proofs.Least.{least_by_rounds, in_every}
use Rattle.points_to.specs.declared.facts.Item.{Item}
use Rattle.points_to.specs.declared.facts.Fact.{Fact}
use Rattle.points_to.specs.declared.facts.Facts.{Facts}
use Rattle.points_to.specs.declared.runs.FactRun.{FactRun}
use Rattle.points_to.specs.Held.{In, here, there, item, words_in_part}
use Rattle.points_to.specs.Asked.{fact, facts_demanded}
use Rattle.points_to.specs.Known.{held, GrowsByFacts, solution_of}
use Rattle.points_to.specs.Rounds.{InEvery, Satisfied, AllSatisfied, CountsAddedFacts}
use Rattle.points_to.specs.Rows.{SameMembers}
use Rattle.points_to.specs.Runs.{facts_of_run}
use Rattle.seq.proofs.Member.{none_in, cons_in, in_left, in_right, in_split}
use Rattle.seq.proofs.Truth.{true_left, true_right, neither_left, neither_right}
use Rattle.seq.proofs.Order.{lt_or_le, eq_from, eq_self}
use Rattle.points_to.proofs.GivenItems.{picked_in, in_picked}
use Rattle.points_to.proofs.Loops.{flat_next}
use Rattle.points_to.proofs.Exact.{demands_mean, in_demands}

-- the solution that has what is known
same_word-true : (u v : Element) → IsTrue (same_word u v) → u ≡ v
same_word-true (Cell s) (Cell t) e = ap Cell (eq_from s t e)
same_word-true (Cell s) (Tag t) e = cc
same_word-true (Cell s) Number e = cc
same_word-true (Tag s) (Cell t) e = cc
same_word-true (Tag s) (Tag t) e = ap Tag (eq_from s t e)
same_word-true (Tag s) Number e = cc
same_word-true Number (Cell t) e = cc
same_word-true Number (Tag t) e = cc
same_word-true Number Number e = refl

same_word-self : (u : Element) → IsTrue (same_word u u)
same_word-self (Cell s) = eq_self s
same_word-self (Tag t) = eq_self t
same_word-self Number = refl

or_cases : (a b : Bool) → IsTrue (a || b) → IsTrue a ⊎ IsTrue b
or_cases true b e = inl refl
or_cases false b e = inr e

pub among_in : (u : Element) (us : List Element) → IsTrue (among u us) → In u us
among_in u [] e = cc
among_in u (v ∷ us) e = ⊎_elim (λ a. subst (λ w. In u (w ∷ us)) (same_word-true u v a) here)
    (λ b. there (among_in u us b)) (or_cases (same_word u v) (among u us) e)

pub in_among : (u : Element) (us : List Element) → In u us → IsTrue (among u us)
in_among u [] h = none_in h
in_among u (v ∷ us) h = ⊎_elim
    (λ e. true_left (same_word u v) (among u us)
    (subst (λ w. IsTrue (same_word u w)) e (same_word-self u)))
    (λ t. true_right (same_word u v) (among u us) (in_among u us t)) (cons_in v us h)

pub known_at : (H : Place → List Item) (q : Place) (part : Part) (u : Element)
    → In (item part u) (H q) → At (solution_of H) q part u
known_at H q part u h = record
    { there = in_among u (words_in_part part (H q)) (in_picked part (H q) h) }

pub at_known : (H : Place → List Item) (q : Place) (part : Part) (u : Element)
    → At (solution_of H) q part u → In (item part u) (H q)
at_known H q part u a = picked_in part (H q) (among_in u (words_in_part part (H q)) a.there)

module _ (p : Tables) (cs : List Inclusion) where
  pub nothing_in_every : (H : Place → List Item) → ((q : Place) → H q ≡ []) → InEvery p cs H
  nothing_in_every H e = record
      { by = λ B m q part u h. none_in (subst (In (item part u)) (e q) h) }

  -- what an inclusion asks for is in every solution, once all that is known is
  pub grown_in_every : (H H' : Place → List Item) (i : ℕ) (c : Inclusion) → slice_get cs i ≡ Some c
      → GrowsByFacts H H' (facts_demanded p H c) → InEvery p cs H → InEvery p cs H'
  grown_in_every H H' i c e g every = record {
    by = λ B m q part u h. ⊎_elim
        (λ a. every.by B m q part u a)
        (λ b. in_every p cs (solution_of H) B m
        (λ q part u a. every.by B m q part u (at_known H q part u a)) i c e q part u
        (demands_mean p H (solution_of H) (known_at H) c (fact q (item part u)) b))
        (g.only q (item part u) h);
  }

  pub least_at_end : (H : Place → List Item) → InEvery p cs H → AllSatisfied p cs H
      → IsLeast p cs (solution_of H)
  least_at_end H every all = least_by_rounds p cs (solution_of H)
      (λ i c e q part u d. known_at H q part u
      (all.by i c e (fact q (item part u))
      (in_demands p H (solution_of H) (at_known H) c q part u d)))
      (λ B m q part u a. every.by B m q part u (at_known H q part u a))

-- several facts
pub grows_none : (H : Place → List Item) → GrowsByFacts H H []
grows_none H = record { kept = λ q j h. h; put = λ f h. none_in h; only = λ q j h. inl h }

pub grows_more : (H H' H'' : Place → List Item) (fs gs : List Fact) → GrowsByFacts H H' fs
    → GrowsByFacts H' H'' gs → GrowsByFacts H H'' (fs ++ gs)
grows_more H H' H'' fs gs g k = record {
  kept = λ q j h. k.kept q j (g.kept q j h);
  put = λ e h. ⊎_elim (λ a. k.kept e.place e.item (g.put e a)) (λ b. k.put e b) (in_split fs gs h);
  only = λ q j h. ⊎_elim (λ a. ⊎_elim (λ x. inl x) (λ y. inr (in_left fs gs y)) (g.only q j a))
      (λ b. inr (in_right fs gs b)) (k.only q j h);
}

-- the same facts in another list
pub grows_alike : (H H' : Place → List Item) (fs gs : List Fact) → SameMembers fs gs
    → GrowsByFacts H H' fs → GrowsByFacts H H' gs
grows_alike H H' fs gs s g = record {
  kept = g.kept;
  put = λ f h. g.put f (s.back f h);
  only = λ q j h. ⊎_elim (λ a. inl a) (λ b. inr (s.into (fact q j) b)) (g.only q j h);
}

counted_on : (f f' f'' : Facts) (a b : Bool) → CountsAddedFacts f f' a → CountsAddedFacts f' f'' b
    → CountsAddedFacts f f'' (a || b)
counted_on f f' f'' a b x y = record {
  no_less = omega (arith, x.no_less, y.no_less);
  more = λ e. ⊎_elim (λ l. let n : f.count < f'.count = x.more l in omega (arith, y.no_less))
      (λ r. let n : f'.count < f''.count = y.more r in omega (arith, x.no_less)) (or_cases a b e);
}

pub record Added (old new : Facts) (added : Bool) (fs : List Fact) : Type 0 where
  pub grown : GrowsByFacts (held old) (held new) fs
  pub still : added ≡ false → new ≡ old
  pub counted : CountsAddedFacts old new added

pub none_added : (f : Facts) → Added f f false []
none_added f = record {
  grown = grows_none (held f);
  still = λ e. refl;
  counted
      = record { no_less = omega arith; more = λ e. cc };
}

-- the facts of one run more
runs_next : (rs : List FactRun) (i : ℕ) (d : FactRun) → i < length rs
    → flat_map facts_of_run (take (i + 1) rs) ≡ flat_map facts_of_run (take i rs)
    ++ facts_of_run (get_or rs i d)
runs_next rs i d lt = sym
    (flat_next facts_of_run rs i d [] (flat_map facts_of_run (take i rs))
    (flat_map facts_of_run (take i rs) ++ facts_of_run (get_or rs i d)) lt refl refl)

pub added_more : (old now new : Facts) (a b both : Bool) (rs : List FactRun) (i : ℕ) (d : FactRun)
    → i < length rs → both ≡ (a || b) → Added old now a (flat_map facts_of_run (take i rs))
    → GrowsByFacts (held now) (held new) (facts_of_run (get_or rs i d)) → (b ≡ false → new ≡ now)
    → CountsAddedFacts now new b → Added old new both (flat_map facts_of_run (take (i + 1) rs))
added_more old now new a b both rs i d lt e x g s c
    = subst (λ l. Added old new both l) (sym (runs_next rs i d lt))
    (subst (λ t. Added old new t
    (flat_map facts_of_run (take i rs) ++ facts_of_run (get_or rs i d))) (sym e) (record {
      grown = grows_more (held old) (held now) (held new) (flat_map facts_of_run (take i rs))
          (facts_of_run (get_or rs i d)) x.grown g;
      still = λ q. s (neither_right a b q) ∙ x.still (neither_left a b q);
      counted = counted_on old now new a b x.counted c;
    }))

pub added_all : (old new : Facts) (a : Bool) (fs : List Fact) (rs : List FactRun) (i : ℕ)
    → length rs ≤ i → flat_map facts_of_run rs ≡ fs
    → Added old new a (flat_map facts_of_run (take i rs)) → Added old new a fs
added_all old new a fs rs i le e x = subst (Added old new a)
    (ap (flat_map facts_of_run) (take_all i rs le) ∙ e) x

-- the count of a run
pub counted_one : (f f' : Facts) (b : Bool) → (b ≡ false → f' ≡ f) → (b ≡ true → f.count < f'.count)
    → CountsAddedFacts f f' b
counted_one f f' true s c = let n : f.count < f'.count = c refl
    in record { no_less = omega arith; more = λ e. n }
counted_one f f' false s c = let n : f'.count ≡ f.count = ap (λ g. g.count) (s refl)
    in record { no_less = omega arith; more = λ e. cc }

-- each round but the last raises the count
pub count_rises : (f f' : Facts) (more : Bool) → f.count < 2 ^ 64 → CountsAddedFacts f f' more
    → (2 ^ 64 - f'.count) + cond more 1 0 < (2 ^ 64 - f.count) + 1
count_rises f f' true lt k = let n : f.count < f'.count = k.more refl in omega arith
count_rises f f' false lt k = let n : f.count ≤ f'.count = k.no_less in omega arith

-- a round, so far
module _ (p : Tables) (all : List code.Inclusion) where
  pub record RoundSoFar (old now : Facts) (added : Bool) (n : ℕ) : Type 0 where
    pub sound : InEvery p (shown all) (held old) → InEvery p (shown all) (held now)
    pub satisfied : added ≡ false → (i : ℕ) (c : Inclusion) → i < n
        → slice_get (shown all) i ≡ Some c → Satisfied p (shown all) (held now) c
    pub counted : CountsAddedFacts old now added

  pub round_begins : (f : Facts) → RoundSoFar f f false 0
  round_begins f = record {
    sound = λ e. e;
    satisfied = λ e i c lt q. absurd (omega arith);
    counted
        = record { no_less = omega arith; more = λ e. cc };
  }

  shown_at : (xs : List code.Inclusion) (i : ℕ) (c : code.Inclusion) → i < length xs
      → c ≡ get_or xs i c → slice_get (shown xs) i ≡ Some (inclusion_of c)
  shown_at [] i c lt e = absurd (omega arith)
  shown_at (x ∷ xs) zero c lt e = ap (λ y. Some (inclusion_of y)) (sym e)
  shown_at (x ∷ xs) (suc i) c lt e = shown_at xs i c (omega arith) e

  some_same : (c d : Inclusion) → Some c ≡ Some d → c ≡ d
  some_same c d e = cc

  pub round_on : (old now new : Facts) (a b both : Bool) (i : ℕ) (c : code.Inclusion)
      → i < length all → c ≡ get_or all i c → both ≡ (a || b) → RoundSoFar old now a i
      → GrowsByFacts (held now) (held new) (facts_demanded p (held now) (inclusion_of c))
      → (b ≡ false → new ≡ now) → CountsAddedFacts now new b → RoundSoFar old new both (i + 1)
  round_on old now new a b both i c lt is e x g s k
      = subst (λ t. RoundSoFar old new t (i + 1)) (sym e) (record {
        sound = λ every. grown_in_every p (shown all) (held now) (held new) i (inclusion_of c)
            (shown_at all i c lt is) g (x.sound every);
        satisfied = λ q j d l r. next q j d l r (lt_or_le j i);
        counted = counted_on old now new a b x.counted k;
      })
    where
      next : (a || b) ≡ false → (j : ℕ) (d : Inclusion) → j < i + 1
          → slice_get (shown all) j ≡ Some d → (j < i) ⊎ (i ≤ j)
          → Satisfied p (shown all) (held new) d
      next q j d l r o = subst (λ f. Satisfied p (shown all) (held f) d)
          (sym (s (neither_right a b q))) (⊎_elim
          (λ lt'. x.satisfied (neither_left a b q) j d lt' r)
          (λ le. λ f h.
          let same : j ≡ i = omega arith in
          let same' : d ≡ inclusion_of c = some_same d (inclusion_of c)
          (sym r ∙ ap (slice_get (shown all)) same ∙ shown_at all i c lt is) in
          let put = g.put f (subst (λ d. In f (facts_demanded p (held now) d)) same' h) in
          subst (λ k. In f.item (held k f.place)) (s (neither_right a b q)) put)
          o)

  pub round_done : (old new : Facts) (added : Bool) (n : ℕ) → length all ≤ n
      → RoundSoFar old new added n → added ≡ false → AllSatisfied p (shown all) (held new)
  round_done old new added n le x e = record
      { by = λ i c q. x.satisfied e i c (within all i c n le q) q }
    where
      within : (xs : List code.Inclusion) (i : ℕ) (c : Inclusion) (n : ℕ) → length xs ≤ n
          → slice_get (shown xs) i ≡ Some c → i < n
      within [] i c n le q = cc
      within (x ∷ xs) zero c n le q = omega arith
      within (x ∷ xs) (suc i) c zero le q = absurd (omega arith)
      within (x ∷ xs) (suc i) c (suc n) le q = let h : i < n = within xs i c n (omega arith) q
          in omega arith
