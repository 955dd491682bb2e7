-- The earliest of some refusals.
use Rattle.std.proofs.Common.{◌≡◌, ℕ, ◌<◌, Bool, true, false, List, [], ◌∷◌, refl, sym, ap, ◌∙◌, subst, arith, Option, Some, None, ◌⊎◌, inl, inr}
use Rattle.std.specs.Prelude.{if◌then◌else◌}
use Rattle.std.proofs.lemmas.Grind.{common_steps}
use Rattle.core_reader.specs.Tree.{Program}
use Rattle.arity_check.specs.declared.refusal.CheckRefusal.{CheckRefusal}
use Rattle.arity_check.specs.declared.refusal.CheckRefusal.TheVariants.{CoreTooLarge}
use Rattle.arity_check.specs.declared.order.Order.{Order}
use Rattle.arity_check.specs.declared.order.First.{First}
use Rattle.arity_check.specs.Order.{rank, IsBefore, HasRank, IsBeforeIfRanked, counts, ranks_of_order}
use Rattle.arity_check.specs.First.{IsFirstRefusal}
use Rattle.arity_check.specs.Refusal.{rule, number, rank_of, rank_of_first, before, precedes, earlier_refusal, least_refusal}
use Rattle.arity_check.specs.Faults.{refusal_if}
use Rattle.arity_check.specs.Whole.{program_faults}
use Rattle.seq.specs.Lists.{In, here, there}
use Rattle.seq.proofs.Order.{compared}
use Rattle.seq.proofs.Truth.{two_ways}
use Rattle.arity_check.proofs.Soundness.{sound, complete, Listed}

-- one comes before the other
abbrev IsEarlier : ℕ × ℕ × ℕ → ℕ × ℕ × ℕ → Type 0
IsEarlier a b = (a.0 < b.0) ⊎ ((a.0 ≡ b.0) × ((a.1 < b.1) ⊎ ((a.1 ≡ b.1) × (a.2 < b.2))))

either : (a b : ℕ × ℕ × ℕ) → IsBefore a b ⊎ IsEarlier b a
either a b = elim (compared a.0 b.0) [
  | inl l ↦ inl (inl l)
  | inr n ↦ elim n [
    | inl s ↦ elim (compared a.1 b.1) [
      | inl l ↦ inl (inr (s, inl l))
      | inr m ↦ elim m [
        | inl t ↦ elim (compared a.2 b.2) [
          | inl l ↦ inl (inr (s, inr (t, omega (arith, l))))
          | inr w ↦ elim w [
            | inl u ↦ inl (inr (s, inr (t, omega (arith, u))))
            | inr g ↦ inr
                (inr (sym s, inr (sym t, g)))
          ]
        ]
        | inr g ↦ inr (inr (sym s, inl g))
      ]
    ]
    | inr g ↦ inr (inl g)
  ]
]

before_true : (a b : ℕ × ℕ × ℕ) → before a b ≡ true → IsBefore a b
before_true a b e = elim (either a b) [ inl h ↦ h | inr l ↦ absurd (not_before l) ]
  where
    not_before : IsEarlier b a → ⊥
    not_before (inl g) = grind (arith, common_steps, e, g)
    not_before (inr (s, inl g)) = grind (arith, common_steps, e, s, g)
    not_before (inr (s, inr (t, g))) = grind (arith, common_steps, e, s, t, g)

before_false : (a b : ℕ × ℕ × ℕ) → before a b ≡ false → IsBefore b a
before_false a b e = elim (either b a) [ inl h ↦ h | inr l ↦ absurd (is_not l) ]
  where
    is_not : IsEarlier a b → ⊥
    is_not (inl g) = grind (arith, common_steps, e, g)
    is_not (inr (s, inl g)) = grind (arith, common_steps, e, s, g)
    is_not (inr (s, inr (t, g))) = grind (arith, common_steps, e, s, t, g)

before_trans : (a b c : ℕ × ℕ × ℕ) → IsBefore a b → IsBefore b c → IsBefore a c
before_trans a b c (inl l) (inl m) = inl (omega (arith, l, m))
before_trans a b c (inl l) (inr m) = let s = m.0 in inl (omega (arith, l, s))
before_trans a b c (inr l) (inl m) = let s = l.0 in inl (omega (arith, m, s))
before_trans a b c (inr (s, inl l)) (inr (t, inl m)) = inr (s ∙ t, inl (omega (arith, l, m)))
before_trans a b c (inr (s, inl l)) (inr (t, inr m)) = let u = m.0
    in inr (s ∙ t, inl (omega (arith, l, u)))
before_trans a b c (inr (s, inr l)) (inr (t, inl m)) = let u = l.0
    in inr (s ∙ t, inl (omega (arith, m, u)))
before_trans a b c (inr (s, inr l)) (inr (t, inr m)) = let u = l.1 in let v = m.1
    in inr (s ∙ t, inr (l.0 ∙ m.0, omega (arith, u, v)))

before_self : (a : ℕ × ℕ × ℕ) → IsBefore a a
before_self a = inr (refl, inr (refl, omega arith))

-- ---- ranks that are there or not

ranked_left : (a b : Option (ℕ × ℕ × ℕ)) → IsBeforeIfRanked a b → HasRank a
ranked_left None b h = h
ranked_left (Some a) b h = tt

precedes_true : (a b : Option (ℕ × ℕ × ℕ)) → precedes a b ≡ true → IsBeforeIfRanked a b
precedes_true None b e = absurd cc
precedes_true (Some a) None e = tt
precedes_true (Some a) (Some b) e = before_true a b e

precedes_false : (a b : Option (ℕ × ℕ × ℕ)) → HasRank b → precedes a b ≡ false
    → IsBeforeIfRanked b a
precedes_false a None h e = absurd h
precedes_false None (Some b) h e = tt
precedes_false (Some a) (Some b) h e = before_false a b e

trans : (a b c : Option (ℕ × ℕ × ℕ)) → IsBeforeIfRanked a b → IsBeforeIfRanked b c
    → IsBeforeIfRanked a c
trans None b c l m = absurd l
trans (Some a) None c l m = absurd m
trans (Some a) (Some b) None l m = tt
trans (Some a) (Some b) (Some c) l m = before_trans a b c l m

itself : (a : Option (ℕ × ℕ × ℕ)) → HasRank a → IsBeforeIfRanked a a
itself None h = h
itself (Some a) h = before_self a

-- what has no rank is after all that have one
after_all : (a b : Option (ℕ × ℕ × ℕ)) → HasRank a → precedes b None ≡ false → IsBeforeIfRanked a b
after_all None b h e = absurd h
after_all (Some a) None h e = tt
after_all (Some a) (Some b) h e = absurd cc

unranked : (a : Option (ℕ × ℕ × ℕ)) → precedes a None ≡ false → HasRank a → ⊥
unranked None e h = h
unranked (Some a) e h = cc

-- ---- the first of some refusals

abbrev pub none_met : Order → First
none_met order = record { order = order; refusal = None }

abbrev met : Order → CheckRefusal → First
met order r = record { order = order; refusal = Some r }

abbrev Le : Order → CheckRefusal → CheckRefusal → Type 0
Le order r q = IsBeforeIfRanked (rank_of order r) (rank_of order q)

-- this is the earliest of these and one more
record Earliest (order : Order) (o r : CheckRefusal) (rs : List CheckRefusal) : Type 0 where
  among : (o ≡ r) ⊎ In r rs
  first : Le order r o
  all : (q : CheckRefusal) → In q rs → Le order r q

earliest_step : (order : Order) (x r : CheckRefusal) (rs : List CheckRefusal) → Le order r x
    → ((q : CheckRefusal) → In q rs → Le order r q) → (q : CheckRefusal) → In q (x ∷ rs)
    → Le order r q
earliest_step order x r rs h all q here = h
earliest_step order x r rs h all q (there i) = all q i

some_same : (a b : CheckRefusal) → Some a ≡ Some b → a ≡ b
some_same a b e = cc

module _ (order : Order) where
  earliest : (o r : CheckRefusal) (rs : List CheckRefusal) → HasRank (rank_of order o)
      → (least_refusal (met order o) rs).refusal ≡ Some r → Earliest order o r rs
  unfolding earlier_refusal
  earliest o r [] h e = record {
    among = inl (some_same o r e);
    first = subst (λ r. Le order r o) (some_same o r e)
        (itself (rank_of order o) h);
    all = λ q i. elim i [ ];
  }
  earliest o r (x ∷ rs) h e = elim (two_ways (precedes (rank_of order x) (rank_of order o))) [
    | inl y ↦
        let l = precedes_true (rank_of order x) (rank_of order o) y in
        let w = earliest x r rs (ranked_left (rank_of order x) (rank_of order o) l)
        (ap (λ b. (least_refusal (if b then met order x else met order o) rs).refusal) (sym y) ∙
        e) in
        record {
          among = elim w.among
              [ inl s ↦ inr (subst (λ r. In r (x ∷ rs)) s here) | inr i ↦ inr (there i) ];
          first = trans (rank_of order r) (rank_of order x) (rank_of order o) w.first l;
          all = earliest_step order x r rs w.first w.all;
        }
    | inr n ↦
        let w = earliest o r rs h
        (ap (λ b. (least_refusal (if b then met order x else met order o) rs).refusal) (sym n) ∙
        e) in
        record {
          among = elim w.among [ inl s ↦ inl s | inr i ↦ inr (there i) ];
          first = w.first;
          all = earliest_step order x r rs
              (trans (rank_of order r) (rank_of order o) (rank_of order x) w.first
              (precedes_false (rank_of order x) (rank_of order o) h n)) w.all;
        }
  ]

  some_least : (o : CheckRefusal) (rs : List CheckRefusal)
      → (least_refusal (met order o) rs).refusal ≡ None → ⊥
  unfolding earlier_refusal
  some_least o [] e = cc
  some_least o (x ∷ rs) e = elim (two_ways (precedes (rank_of order x) (rank_of order o))) [
    | inl y ↦ some_least x rs
        (ap (λ b. (least_refusal (if b then met order x else met order o) rs).refusal) (sym y) ∙ e)
    | inr n ↦ some_least o rs
        (ap (λ b. (least_refusal (if b then met order x else met order o) rs).refusal) (sym n) ∙ e)
  ]

  none_least : (rs : List CheckRefusal) → (least_refusal (none_met order) rs).refusal ≡ None
      → (q : CheckRefusal) → In q rs → HasRank (rank_of order q) → ⊥
  unfolding earlier_refusal
  none_least [] e q i h = elim i [ ]
  none_least (x ∷ rs) e q i h = elim (two_ways (precedes (rank_of order x) None)) [
    | inl y ↦ some_least x rs
        (ap (λ b. (least_refusal (if b then met order x else none_met order) rs).refusal) (sym y) ∙
        e)
    | inr n ↦ go q i h n
        (none_least rs
        (ap (λ b. (least_refusal (if b then met order x else none_met order) rs).refusal) (sym n) ∙
        e))
  ]
    where
      go : (q : CheckRefusal) → In q (x ∷ rs) → HasRank (rank_of order q)
          → precedes (rank_of order x) None ≡ false
          → ((q : CheckRefusal) → In q rs → HasRank (rank_of order q) → ⊥) → ⊥
      go q here h n rest = unranked (rank_of order x) n h
      go q (there i) h n rest = rest q i h

  first_met : (rs : List CheckRefusal) (r : CheckRefusal)
      → (least_refusal (none_met order) rs).refusal ≡ Some r → In r rs × HasRank (rank_of order r)
      × ((q : CheckRefusal) → In q rs → Le order r q)
  unfolding earlier_refusal
  first_met [] r e = absurd cc
  first_met (x ∷ rs) r e = elim (two_ways (precedes (rank_of order x) None)) [
    | inl y ↦
        let h = ranked_left (rank_of order x) None (precedes_true (rank_of order x) None y) in
        let w = earliest x r rs h
        (ap (λ b. (least_refusal (if b then met order x else none_met order) rs).refusal)
        (sym y) ∙ e) in (
          elim w.among [ inl s ↦ subst (λ r. In r (x ∷ rs)) s here | inr i ↦ there i ],
          ranked_left (rank_of order r) (rank_of order x) w.first,
          earliest_step order x r rs w.first w.all,
        )
    | inr n ↦
        let w = first_met rs r
        (ap (λ b. (least_refusal (if b then met order x else none_met order) rs).refusal)
        (sym n) ∙ e) in (
          there w.0,
          w.1,
          earliest_step order x r rs
              (after_all (rank_of order r) (rank_of order x) w.1 n) w.2,
        )
  ]

-- the order stays
earlier_order : (f : First) (r : CheckRefusal) → (earlier_refusal f r).order ≡ f.order
unfolding earlier_refusal
earlier_order f r = elim (two_ways (precedes (rank_of f.order r) (rank_of_first f.order f.refusal))) [
  | inl y ↦ ap (λ b. (if b then met f.order r else f).order) y
  | inr n ↦ ap (λ b. (if b then met f.order r else f).order) n
]

pub least_order : (f : First) (rs : List CheckRefusal) → (least_refusal f rs).order ≡ f.order
least_order f [] = refl
least_order f (r ∷ rs) = least_order (earlier_refusal f r) rs ∙ earlier_order f r

-- where the rule on the size doesn't count, nothing changes
pub size_uncounted : (f : First) (b : Bool) (n : ℕ) → counts f.order 35 ≡ false
    → least_refusal f (refusal_if b (CoreTooLarge n)) ≡ f
unfolding earlier_refusal
size_uncounted f false n e = refl
size_uncounted f true n e = ap
    (λ c. if precedes (if c then Some (rank 35 n) else None) (rank_of_first f.order f.refusal)
    then met f.order (CoreTooLarge n) else f) e

-- the earliest refusal that is met of those that count is the first broken rule that counts
pub right : (order : Order) (p : Program) (o : Option CheckRefusal)
    → o ≡ (least_refusal (none_met order) (program_faults p)).refusal
    → IsFirstRefusal (ranks_of_order order) p o
right order p None e = λ k at b h.
    let w : Listed p k at = complete p b in
    none_least order (program_faults p) (sym e) w.refusal w.met
    (subst (λ n. HasRank (ranks_of_order order n (number w.refusal))) (sym w.rule_is)
    (subst (λ n. HasRank (ranks_of_order order k n)) (sym w.number_is) h))
right order p (Some r) e =
    let w = first_met order (program_faults p) r (sym e) in
    record {
      broken = sound p r w.0;
      counts = w.1;
      first = λ k at b.
          let l : Listed p k at = complete p b in
          let h : Le order r l.refusal = w.2 l.refusal l.met in
          subst (λ n. IsBeforeIfRanked (rank_of order r) (ranks_of_order order n at)) l.rule_is
          (subst (λ n. IsBeforeIfRanked (rank_of order r)
          (ranks_of_order order (rule l.refusal) n)) l.number_is h);
    }
