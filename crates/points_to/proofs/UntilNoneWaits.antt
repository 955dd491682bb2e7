-- Inclusions satisfied one after another, until none waits, give the least solution.
use Rattle.std.proofs.Common.{◌≡◌, ◌+◌, ◌-◌, ◌*◌, ◌^◌, ◌<◌, ◌≤◌, ℕ, zero, suc, Bool, true, false, cond, ◌||◌, List, [], ◌∷◌, take, length, get_or, Some, None, slice_get, refl, sym, ap, ◌∙◌, subst, inl, inr, ⊎_elim, arith}
use Rattle.std.specs.Prelude.{◌⊎◌}
use Rattle.std.specs.List.{flat_map}
use Rattle.std.proofs.lemmas.List.{take_all}
use Rattle.flow_system.specs.declared.fact.Place.{Place}
use Rattle.flow_system.specs.declared.inclusion.Inclusion as code
use Rattle.flow_system.specs.Inclusions.{Inclusion}
use Rattle.flow_system.specs.Shown.{inclusion_of, shown}
use Rattle.flow_system.specs.Tables.{Tables}
use Rattle.flow_system.specs.Solution.{IsLeast}
use Rattle.points_to.specs.declared.facts.Fact.{Fact}
use Rattle.points_to.specs.declared.facts.Facts.{Facts}
use Rattle.points_to.specs.declared.runs.FactRun.{FactRun}
use Rattle.points_to.specs.declared.worklist.Worklist.{Worklist}
use Rattle.points_to.specs.Held.{In, here, there}
use Rattle.points_to.specs.Asked.{facts_demanded}
use Rattle.points_to.specs.Known.{held, GrowsByFacts, solution_of}
use Rattle.points_to.specs.Reads.{reads, Agree}
use Rattle.points_to.specs.Rounds.{InEvery, Satisfied, CountsAddedFacts}
use Rattle.points_to.specs.Runs.{facts_of_run}
use Rattle.points_to.specs.Waiting.{waiting, readers_of, Takes}
use Rattle.points_to.specs.Worklist.{IsWaiting, IsReader, RegistersAt, WakesReaders, WakesWhereChanged, MakesProgress, SatisfiesInclusion, IsSettled, WorklistInvariant}
use Rattle.seq.proofs.Member.{none_in, cons_in}
use Rattle.seq.proofs.Order.{same_or_not}
use Rattle.seq.proofs.Truth.{neither_left, neither_right}
use Rattle.points_to.proofs.Agree.{same_demands, same_reads}
use Rattle.points_to.proofs.Solved.{Added, none_added, added_more, nothing_in_every, grown_in_every, least_at_end}

-- one fact, and the readers of its place
pub spreads_one : (old : Worklist) (f : Facts) (new : Worklist) (q : Place)
    → ((r : Place) → (r ≡ q) ⊎ (held f r ≡ held old.facts r)) → new.facts ≡ f
    → WakesReaders (record old { facts = f }) new q → WakesWhereChanged old new
spreads_one old f new q elsewhere same w = record {
  kept = w.kept;
  moved = w.moved;
  woken = λ r. ⊎_elim
      (λ e. inr (λ n h. w.woken n (subst (λ q. IsReader old q n) e h)))
      (λ e. inl (ap (λ g. held g r) same ∙ e))
      (elsewhere r);
}

pub spreads_none : (w : Worklist) → WakesWhereChanged w w
spreads_none w = record { kept = λ n h. h; moved = λ q n h. inl h; woken = λ q. inl refl }

spreads_more : (a b c : Worklist) → WakesWhereChanged a b → WakesWhereChanged b c
    → WakesWhereChanged a c
spreads_more a b c x y = record {
  kept = λ n h. y.kept n (x.kept n h);
  moved = λ q n h. ⊎_elim (λ r. y.moved q n r) (λ w. inr (y.kept n w)) (x.moved q n h);
  woken = λ q. ⊎_elim
      (λ e. ⊎_elim (λ e'. inl (e' ∙ e))
      (λ k. inr (λ n h. ⊎_elim (λ r. k n r) (λ w. y.kept n w) (x.moved q n h))) (y.woken q))
      (λ k. inr (λ n h. y.kept n (k n h)))
      (x.woken q);
}

-- several facts
pub record AddedTo (old new : Worklist) (added : Bool) (fs : List Fact) : Type 0 where
  pub facts : Added old.facts new.facts added fs
  pub spread : WakesWhereChanged old new
  pub still : added ≡ false → new ≡ old

pub none_added_to : (w : Worklist) → AddedTo w w false []
none_added_to w = record { facts = none_added w.facts; spread = spreads_none w; still = λ e. refl }

pub more_added_to : (old now new : Worklist) (a b both : Bool) (rs : List FactRun) (i : ℕ)
    (d : FactRun) → i < length rs → both ≡ (a || b)
    → AddedTo old now a (flat_map facts_of_run (take i rs))
    → GrowsByFacts (held now.facts) (held new.facts) (facts_of_run (get_or rs i d))
    → WakesWhereChanged now new → (b ≡ false → new ≡ now)
    → CountsAddedFacts now.facts new.facts b → AddedTo old new both
    (flat_map facts_of_run (take (i + 1) rs))
more_added_to old now new a b both rs i d lt e x g s t c = record {
  facts = added_more old.facts now.facts new.facts a b both rs i d lt e x.facts g
      (λ q. ap (λ w. w.facts) (t q)) c;
  spread = spreads_more old now new x.spread s;
  still = λ q. t (neither_right a b (sym e ∙ q)) ∙ x.still (neither_left a b (sym e ∙ q));
}

pub all_added_to : (old new : Worklist) (a : Bool) (fs : List Fact) (rs : List FactRun) (i : ℕ)
    → length rs ≤ i → flat_map facts_of_run rs ≡ fs
    → AddedTo old new a (flat_map facts_of_run (take i rs)) → AddedTo old new a fs
all_added_to old new a fs rs i le e x = subst (AddedTo old new a)
    (ap (flat_map facts_of_run) (take_all i rs le) ∙ e) x

-- an inclusion: it is registered, then it gets what it asks for
pub satisfies : (p : Tables) (c : Inclusion) (n : ℕ) (old between new : Worklist) (added : Bool)
    → RegistersAt old between n (reads p (held old.facts) c)
    → GrowsByFacts (held between.facts) (held new.facts) (facts_demanded p (held between.facts) c)
    → WakesWhereChanged between new → (added ≡ false → new ≡ between)
    → CountsAddedFacts between.facts new.facts added → SatisfiesInclusion p c n old new
satisfies p c n old between new added r g s t counted = record {
  grown = subst (λ f. GrowsByFacts (held f) (held new.facts) (facts_demanded p (held f) c))
      r.same_facts g;
  kept = λ m h. s.kept m (subst (λ w. In m (waiting w)) (sym r.same_pending) h);
  moved = λ q m h. s.moved q m (r.kept q m h);
  registered = λ q h. s.moved q n (r.put q h);
  woken = λ q. ⊎_elim (λ x. inl (x ∙ ap (λ f. held f q) r.same_facts))
      (λ w. inr (λ m h. w m (r.kept q m h))) (s.woken q);
  woken_itself = λ q h. ⊎_elim (λ x. inl (x ∙ ap (λ f. held f q) r.same_facts))
      (λ w. inr (w n (r.put q h))) (s.woken q);
  no_less = subst (λ f. f.count ≤ new.facts.count) r.same_facts counted.no_less;
  more = go added t counted.more;
}
  where
    go : (b : Bool) → (b ≡ false → new ≡ between) →
        (b ≡ true → between.facts.count < new.facts.count) → (old.facts.count < new.facts.count)
        ⊎ (waiting new.pending ≡ waiting old.pending)
    go true t more = inl (subst (λ f. f.count < new.facts.count) r.same_facts (more refl))
    go false t more = inr (ap (λ w. waiting w.pending) (t refl) ∙ ap waiting r.same_pending)

-- of each member, or once for all
all_or : (P : Place → Type 0) (Q : Type 0) (qs : List Place) → ((q : Place) → In q qs → P q ⊎ Q)
    → ((q : Place) → In q qs → P q) ⊎ Q
all_or P Q [] f = inl (λ q h. none_in h)
all_or P Q (q ∷ qs) f = ⊎_elim
    (λ a. ⊎_elim (λ g. inl (λ r h. ⊎_elim (λ e. subst P (sym e) a) (λ t. g r t) (cons_in q qs h)))
    (λ b. inr b) (all_or P Q qs (λ r h. f r (there h))))
    (λ b. inr b)
    (f q here)

some_same : (c d : Inclusion) → Some c ≡ Some d → c ≡ d
some_same c d e = cc

-- the inclusions by their numbers
pub shown_within : (xs : List code.Inclusion) (n : ℕ) (c : Inclusion)
    → slice_get (shown xs) n ≡ Some c → n < length xs
shown_within [] n c e = cc
shown_within (x ∷ xs) zero c e = omega arith
shown_within (x ∷ xs) (suc n) c e = let lt : n < length xs = shown_within xs n c e
    in omega (arith, lt)

pub shown_some : (xs : List code.Inclusion) (n : ℕ) (x : code.Inclusion) → slice_get xs n ≡ Some x
    → slice_get (shown xs) n ≡ Some (inclusion_of x)
shown_some [] n x e = cc
shown_some (y ∷ xs) zero x e = let same : y ≡ x = cc in ap (λ z. Some (inclusion_of z)) same
shown_some (y ∷ xs) (suc n) x e = shown_some xs n x e

pub shown_none : (xs : List code.Inclusion) (n : ℕ) → slice_get xs n ≡ None
    → slice_get (shown xs) n ≡ None
shown_none [] n e = refl
shown_none (y ∷ xs) zero e = cc
shown_none (y ∷ xs) (suc n) e = shown_none xs n e

module _ (p : Tables) (cs : List Inclusion) where
  -- an inclusion whose demands by what was known are met waits, or is settled by what is known
  settle : (old new : Worklist) (i : ℕ) (d : Inclusion)
      → ((q : Place) → In q (reads p (held old.facts) d) → IsReader new q i ⊎ IsWaiting new i)
      → ((q : Place) → In q (reads p (held old.facts) d) → (held new.facts q ≡ held old.facts q)
      ⊎ IsWaiting new i)
      → ((f : Fact) → In f (facts_demanded p (held old.facts) d)
      → In f.item (held new.facts f.place))
      → IsWaiting new i ⊎ IsSettled p cs new i d
  settle old new i d registered woken met =
      ⊎_elim
      (λ same. ⊎_elim (λ reader. inr (by same reader)) (λ w. inl w)
      (all_or (λ q. IsReader new q i) (IsWaiting new i) (reads p (held old.facts) d)
      registered))
      (λ w. inl w)
      (all_or (λ q. held new.facts q ≡ held old.facts q) (IsWaiting new i)
      (reads p (held old.facts) d) woken)
    where
      by : ((q : Place) → In q (reads p (held old.facts) d) → held new.facts q ≡ held old.facts q)
          → ((q : Place) → In q (reads p (held old.facts) d) → IsReader new q i)
          → IsSettled p cs new i d
      by same reader = let agree : Agree (held old.facts) (held new.facts)
          (reads p (held old.facts) d) = record { at = same } in record {
            satisfied = λ f h. met f
                (subst (In f) (same_demands p (held old.facts) (held new.facts) d agree) h);
            registered = λ q h. reader q
                (subst (In q) (same_reads p (held old.facts) (held new.facts) d agree) h);
          }

  settled_still : (old now : Worklist) (i : ℕ) (d : Inclusion) → now.facts ≡ old.facts
      → now.readers ≡ old.readers → IsSettled p cs old i d → IsSettled p cs now i d
  settled_still old now i d same same' x = record {
    satisfied = subst (λ f. Satisfied p cs (held f) d) (sym same) x.satisfied;
    registered = subst
        (λ r. (q : Place) → In q (reads p (held now.facts) d) → In i (readers_of r q)) (sym same')
        (subst (λ f. (q : Place) → In q (reads p (held f) d) → IsReader old q i) (sym same)
        x.registered);
  }

  -- the inclusion that was taken is satisfied
  pub stands_on : (old now new : Worklist) (n : ℕ) (c : Inclusion) → now.facts ≡ old.facts
      → now.readers ≡ old.readers → Takes (waiting old.pending) (waiting now.pending) n
      → slice_get cs n ≡ Some c → SatisfiesInclusion p c n now new → WorklistInvariant p cs old
      → WorklistInvariant p cs new
  stands_on old now new n c same same' t is s st = record {
    sound = grown_in_every p cs (held now.facts) (held new.facts) n c is s.grown
        (subst (λ f. InEvery p cs (held f)) (sym same) st.sound);
    settled = λ i d e. ⊎_elim (λ z. itself i d e z) (λ ne. other i d ne (st.settled i d e))
        (same_or_not i n);
  }
    where
      itself : (i : ℕ) (d : Inclusion) → slice_get cs i ≡ Some d → i ≡ n → IsWaiting new i
          ⊎ IsSettled p cs new i d
      itself i d e z =
          let d_is : c ≡ d = some_same c d (sym is ∙ ap (slice_get cs) (sym z) ∙ e) in
          subst (λ j. IsWaiting new j ⊎ IsSettled p cs new j d) (sym z)
          (subst (λ x. IsWaiting new n ⊎ IsSettled p cs new n x) d_is
          (settle now new n c s.registered s.woken_itself s.grown.put))

      other : (i : ℕ) (d : Inclusion) → (i ≡ n → ⊥) → IsWaiting old i ⊎ IsSettled p cs old i d
          → IsWaiting new i ⊎ IsSettled p cs new i d
      other i d ne o = ⊎_elim
          (λ w. ⊎_elim (λ z. absurd (ne z)) (λ w'. inl (s.kept i w')) (t.rest i w))
          (λ x.
          let y : IsSettled p cs now i d = settled_still old now i d same same' x in
          settle now new i d
          (λ q h. s.moved q i (y.registered q h))
          (λ q h. ⊎_elim (λ e. inl e) (λ k. inr (k i (y.registered q h))) (s.woken q))
          (λ f h. s.grown.kept f.place f.item (y.satisfied f h)))
          o

  -- no inclusion has the number that was taken
  pub stands_past : (old now : Worklist) (n : ℕ) → now.facts ≡ old.facts → now.readers ≡ old.readers
      → Takes (waiting old.pending) (waiting now.pending) n → slice_get cs n ≡ None
      → WorklistInvariant p cs old → WorklistInvariant p cs now
  stands_past old now n same same' t is st = record {
    sound = subst (λ f. InEvery p cs (held f)) (sym same) st.sound;
    settled = λ i d e. ⊎_elim
        (λ w. ⊎_elim (λ z. absurd (none_some d (sym is ∙ ap (slice_get cs) (sym z) ∙ e)))
        (λ w'. inl w') (t.rest i w))
        (λ x. inr (settled_still old now i d same same' x))
        (st.settled i d e);
  }
    where
      none_some : (d : Inclusion) → None ≡ Some d → ⊥
      none_some d e = cc

  -- none waited
  pub stands_still : (old now : Worklist) → now.facts ≡ old.facts → now.readers ≡ old.readers
      → waiting old.pending ≡ [] → WorklistInvariant p cs old → WorklistInvariant p cs now
  stands_still old now same same' none st = record {
    sound = subst (λ f. InEvery p cs (held f)) (sym same) st.sound;
    settled = λ i d e. ⊎_elim (λ w. none_in (subst (In i) none w))
        (λ x. inr (settled_still old now i d same same' x)) (st.settled i d e);
  }

  -- at first all wait
  pub stands_at_first : (w : Worklist) → ((q : Place) → held w.facts q ≡ [])
      → ((n : ℕ) (c : Inclusion) → slice_get cs n ≡ Some c → IsWaiting w n)
      → WorklistInvariant p cs w
  stands_at_first w none all = record
      { sound = nothing_in_every p cs (held w.facts) none; settled = λ n c e. inl (all n c e) }

  pub least_when_none_waits : (w : Worklist) → WorklistInvariant p cs w → waiting w.pending ≡ []
      → IsLeast p cs (solution_of (held w.facts))
  least_when_none_waits w st e = least_at_end p cs (held w.facts) st.sound
      (record {
        by = λ i c q. ⊎_elim (λ h. none_in (subst (In i) e h)) (λ x. x.satisfied)
            (st.settled i c q);
      })

-- a turn leaves fewer waiting, or more known
pub advances : (p : Tables) (c : Inclusion) (old now new : Worklist) (n : ℕ) → now.facts ≡ old.facts
    → Takes (waiting old.pending) (waiting now.pending) n → SatisfiesInclusion p c n now new
    → MakesProgress old new true
advances p c old now new n same t s = record {
  no_less = subst (λ f. f.count ≤ new.facts.count) same s.no_less;
  on = λ e. ⊎_elim
      (λ lt. inl (subst (λ f. f.count < new.facts.count) same lt))
      (λ w. inr (subst (λ l. length l < length (waiting old.pending)) (sym w) t.shorter))
      s.more;
}

pub advances_past : (old now : Worklist) (n : ℕ) → now.facts ≡ old.facts
    → Takes (waiting old.pending) (waiting now.pending) n → MakesProgress old now true
advances_past old now n same t = record {
  no_less = subst (λ f. old.facts.count ≤ f.count) (sym same) (omega arith);
  on
      = λ e. inr t.shorter;
}

pub turn_counts : (f f' w w' : ℕ) (more : Bool) → f < 2 ^ 64 → f' < 2 ^ 64 → w' < 2 ^ 70 → f ≤ f'
    → (more ≡ true → (f < f') ⊎ (w' < w)) → (more ≡ false → w' ≡ 0)
    → ((2 ^ 64 - f') * 2 ^ 71 + w') + cond more 1 0 < ((2 ^ 64 - f) * 2 ^ 71 + w) + 1
turn_counts f f' w w' true lt lt' lw le on off = ⊎_elim (λ a. omega (arith, a))
    (λ b. omega (arith, b)) (on refl)
turn_counts f f' w w' false lt lt' lw le on off = let z : w' ≡ 0 = off refl in omega (arith, z)
