-- The tables that are made of the walks: masks, places and lists of saved registers.
use Rattle.std.proofs.Common.{◌≡◌, ◌⊎◌, ◌↔◌, ℕ, zero, suc, ◌+◌, ◌^◌, ◌<◌, ◌≤◌, max, true, false, List, [], ◌∷◌, ◌++◌, take, map, length, Some, slice_get, slice_index_or, inl, inr, refl, sym, ap, ◌∙◌, subst, arith}
use Rattle.std.specs.Prelude.{slice_set}
use Rattle.std.specs.Int.{bit_at}
use Rattle.std.specs.Int.RustNames.{bit_or}
use Rattle.std.proofs.lemmas.Nat.Bits.{bit_at-zero, bit_at-pow_same, bit_at-pow_other}
use Rattle.std.proofs.lemmas.Bool.{cases_lt}
use Rattle.std.proofs.lemmas.Option.{same_Some}
use Rattle.seq.proofs.Truth.{two_ways}
use Rattle.seq.proofs.Lists.{get_left, get_set}
use Rattle.parallel_move.specs.declared.Spot.{Spot}
use Rattle.parallel_move.specs.declared.Spot.TheVariants.{Reg, Slot, Scratch}
use Rattle.low_code.specs.Tree.{Procedure}
use Rattle.low_code.specs.Formed.{Distinct}
use Rattle.register_alloc.specs.Fits.{IsPlace, Ascending}
use Rattle.register_alloc.specs.Rounds.{mask_at}
use Rattle.register_alloc.specs.Holders.{variables_of}
use Rattle.register_alloc.specs.Gathered.{IsOwnMask, IsWalkOf, AddsProcedure, GathersProcedures, none, one_more, IsGathered, procs_of, sites_at, calls_of_walks, PlacesVariable, AreSpots, IsSavedOf, AddsSavesOfCall, SavesMatchCalls, longest_at}
use Rattle.register_alloc.specs.declared.registers.Given.{Given}
use Rattle.register_alloc.specs.declared.registers.CallSite.{CallSite}
use Rattle.register_alloc.specs.declared.registers.Registers.{Registers}
use Rattle.register_alloc.specs.declared.assign.Gathered.{Gathered}
use Rattle.register_alloc.proofs.Lists.{among_first, among_either, got_after, set_cases}
use Rattle.register_alloc.proofs.Masks.{or_bit, bit_left, bit_right}
use Rattle.register_alloc.proofs.Walked.{grouped, nothing_more}
use Rattle.seq.specs.Lists.{is_among}
use Rattle.seq.proofs.Counted.{among_later, among_cases, among_left, among_right}
use Rattle.register_alloc.proofs.Keeping.{same_register}
use Rattle.register_alloc.proofs.GivingPlaces.{variables_more}
use Rattle.register_alloc.proofs.Pairs.{ascending_snoc}
use Rattle.register_alloc.proofs.Pigeons.{head_below}

-- ---- lists that grow at the end

pub got_cases : {A : Type 0} (xs : List A) (v : A) (r : ℕ) (e : A)
    → slice_get (xs ++ (v ∷ [])) r ≡ Some e → (slice_get xs r ≡ Some e)
    ⊎ ((r ≡ length xs) × (e ≡ v))
got_cases [] v zero e h = inr (refl, cc)
got_cases [] v (suc r) e h = cc
got_cases (x ∷ xs) v zero e h = inl h
got_cases (x ∷ xs) v (suc r) e h = elim (got_cases xs v r e h) [
  | inl l ↦ inl l
  | inr k ↦ inr (ap suc k.0, k.1)
]

pub take_more : {A : Type 0} (xs : List A) (i : ℕ) (x : A) → slice_get xs i ≡ Some x
    → take (i + 1) xs ≡ take i xs ++ (x ∷ [])
take_more xs i x e = let n : i + 1 ≡ suc i = omega arith in ap (λ k. take k xs) n ∙ go xs i e
  where
    go : (ys : List _) (j : ℕ) → slice_get ys j ≡ Some x → take (suc j) ys ≡ take j ys ++ (x ∷ [])
    go [] j e = cc
    go (y ∷ ys) zero e = let q : y ≡ x = same_Some y x e in ap (λ z. z ∷ []) q
    go (y ∷ ys) (suc j) e = ap (λ l. y ∷ l) (go ys j e)

pub take_whole : {A : Type 0} (xs : List A) (k : ℕ) → length xs ≤ k → take k xs ≡ xs
take_whole [] zero h = refl
take_whole [] (suc k) h = refl
take_whole (x ∷ xs) zero h = absurd (omega arith)
take_whole (x ∷ xs) (suc k) h = ap (λ l. x ∷ l) (take_whole xs k (omega arith))

-- ---- masks

pub one_bit : (k n r : ℕ) → n ≡ 2 ^ k → (bit_at n r ≡ 1) ↔ (k ≡ r)
one_bit k n r is = (
  λ e. elim (same_or_not k r) [
    | inl same ↦ same
    | inr other ↦
        let z : bit_at n r ≡ 0 = ap (λ m. bit_at m r) is ∙ bit_at-pow_other k r (λ h. other (sym h))
        in
        absurd (omega (arith, e, z))
  ],
  λ same. ap (λ m. bit_at m r) is ∙ ap (bit_at (2 ^ k)) (sym same) ∙ bit_at-pow_same k,
)
  where
    same_or_not : (a b : ℕ) → (a ≡ b) ⊎ (a ≡ b → ⊥)
    same_or_not a b = elim (cases_lt a b) [
      | inl lt ↦ inr (λ e. omega (arith, lt, e))
      | inr ge ↦
          elim (cases_lt b a) [
            | inl lt ↦ inr (λ e. omega (arith, lt, e))
            | inr le ↦ inl (omega (arith, ge, le))
          ]
    ]

pub spot_mask : (a n : ℕ) (spot : Spot) → spot ≡ Reg a
    → (a < 32 → (r : ℕ) → (bit_at n r ≡ 1) ↔ (a ≡ r)) → (r : ℕ) → IsPlace spot
    → (bit_at n r ≡ 1) ↔ (spot ≡ Reg r)
spot_mask a n spot is one r p =
    let b = one (subst IsPlace is p).1 r in
    (λ e. is ∙ ap (λ m. Reg m) (b.0 e), λ e. b.1 (same_register a r (sym is ∙ e)))

zero_bit : (r : ℕ) → bit_at 0 r ≡ 1 → ⊥
zero_bit r e = let z = bit_at-zero r in omega (arith, e, z)

pub slot_mask : (k : ℕ) (spot : Spot) → spot ≡ Slot k → (r : ℕ) → IsPlace spot
    → (bit_at 0 r ≡ 1) ↔ (spot ≡ Reg r)
slot_mask k spot is r p =
    (λ e. absurd (zero_bit r e), λ e. let h : Slot k ≡ Reg r = sym is ∙ e in cc)

pub scratch_mask : (spot : Spot) → spot ≡ Scratch → (r : ℕ) → IsPlace spot
    → (bit_at 0 r ≡ 1) ↔ (spot ≡ Reg r)
scratch_mask spot is r p = absurd (subst IsPlace is p)

pub own_none : (mask : ℕ) → IsOwnMask mask [] mask
own_none mask places r = (
  λ e. inl e,
  λ e. elim e [
    | inl b ↦ b
    | inr k ↦ let h = k.1.1.0 in cc
  ],
)

own_more : (mask all m new : ℕ) (gs : List Given) (g : Given) → IsOwnMask mask gs all
    → ((r : ℕ) → IsPlace g.spot → (bit_at m r ≡ 1) ↔ (g.spot ≡ Reg r)) → new ≡ bit_or all m
    → IsOwnMask mask (gs ++ (g ∷ [])) new
own_more mask all m new gs g before here is places r =
    let b = before (λ k h e. places k h (get_left gs (g ∷ []) k h e)) r in
    let s = here r (places (length gs) g (got_after gs [] g)) in (
      λ e. elim (or_bit all m r (subst (λ n. bit_at n r ≡ 1) is e)) [
        | inl l ↦
            elim (b.0 l) [
              | inl o ↦ inl o
              | inr k ↦ inr (k.0, (k.1.0, (get_left gs (g ∷ []) k.0 k.1.0 k.1.1.0, k.1.1.1)))
            ]
        | inr l ↦ inr (length gs, (g, (got_after gs [] g, s.0 l)))
      ],
      λ e. subst (λ n. bit_at n r ≡ 1) (sym is) (elim e [
        | inl o ↦ bit_left all m r (b.1 (inl o))
        | inr k ↦
            elim (got_cases gs g k.0 k.1.0 k.1.1.0) [
              | inl old ↦ bit_left all m r (b.1 (inr (k.0, (k.1.0, (old, k.1.1.1)))))
              | inr last ↦ bit_right all m r (s.1 (ap (λ h. h.spot) (sym last.1) ∙ k.1.1.1))
            ]
      ]),
    )

pub own_next : (mask all m new : ℕ) (given : List Given) (i : ℕ) (g : Given)
    → slice_get given i ≡ Some g → ((r : ℕ) → IsPlace g.spot → (bit_at m r ≡ 1) ↔ (g.spot ≡ Reg r))
    → new ≡ bit_or all m
    → IsOwnMask mask (take i given) all → IsOwnMask mask (take (i + 1) given) new
own_next mask all m new given i g there here is before
    = subst (λ gs. IsOwnMask mask gs new) (sym (take_more given i g there))
    (own_more mask all m new (take i given) g before here is)

-- ---- called procedures

procs_append : (ks : List CallSite) (k : CallSite) → procs_of (ks ++ (k ∷ [])) ≡ procs_of ks
    ++ (k.proc ∷ [])
procs_append [] k = refl
procs_append (j ∷ ks) k = ap (λ l. j.proc ∷ l) (procs_append ks k)

pub procs_next : (calls : List CallSite) (i : ℕ) (k : CallSite) (old new : List ℕ)
    → slice_get calls i ≡ Some k → old ≡ procs_of (take i calls) → new ≡ old ++ (k.proc ∷ [])
    → new ≡ procs_of (take (i + 1) calls)
procs_next calls i k old new there is push = push ∙ ap (λ l. l ++ (k.proc ∷ [])) is ∙ sym
    (procs_append (take i calls) k) ∙ ap procs_of (sym (take_more calls i k there))

-- ---- procedures one after another

pub gathers_more : (qs : List Procedure) (ws : List Registers) (gs : List Given) (ms : List ℕ)
    (cs : List (List ℕ)) (q : Procedure) (w : Registers) (m : ℕ) (c : List ℕ)
    → GathersProcedures qs ws gs ms cs → IsWalkOf q w m c
    → GathersProcedures (qs ++ (q ∷ [])) (ws ++ (w ∷ [])) (gs ++ w.given.items) (ms ++ (m ∷ []))
    (cs ++ (c ∷ []))
gathers_more _ _ _ _ _ q w m c none is = subst
    (λ gs. GathersProcedures (q ∷ []) (w ∷ []) gs (m ∷ []) (c ∷ []))
    (sym (nothing_more w.given.items)) (one_more [] [] [] [] [] q w m c is none)
gathers_more _ _ _ _ _ q w m c (one_more qs ws gs ms cs r v n d first rest) is =
    subst (λ l. GathersProcedures (r ∷ (qs ++ (q ∷ []))) (v ∷ (ws ++ (w ∷ []))) l
    (n ∷ (ms ++ (m ∷ []))) (d ∷ (cs ++ (c ∷ [])))) (grouped v.given.items gs w.given.items)
    (one_more (qs ++ (q ∷ [])) (ws ++ (w ∷ [])) (gs ++ w.given.items) (ms ++ (m ∷ []))
    (cs ++ (c ∷ [])) r v n d first (gathers_more qs ws gs ms cs q w m c rest is))

pub gathered_more : (g h : Gathered) (qs : List Procedure) (q : Procedure) → IsGathered g qs
    → AddsProcedure q g h → IsGathered h (qs ++ (q ∷ []))
gathered_more g h qs q all a =
    subst (λ l. GathersProcedures (qs ++ (q ∷ [])) h.walks.items h.given.items h.own.items l)
    (sym a.calls)
    (subst (λ l. GathersProcedures (qs ++ (q ∷ [])) h.walks.items h.given.items l
    (g.calls.items ++ (a.called ∷ []))) (sym a.owns)
    (subst (λ l. GathersProcedures (qs ++ (q ∷ [])) h.walks.items l (g.own.items ++ (a.own ∷ []))
    (g.calls.items ++ (a.called ∷ []))) (sym a.given)
    (subst (λ l. GathersProcedures (qs ++ (q ∷ [])) l (g.given.items ++ a.walk.given.items)
    (g.own.items ++ (a.own ∷ [])) (g.calls.items ++ (a.called ∷ []))) (sym a.walks)
    (gathers_more qs g.walks.items g.given.items g.own.items g.calls.items q a.walk a.own a.called
    all a.is))))

pub gathered_none : (g : Gathered) → g.walks.items ≡ [] → g.given.items ≡ [] → g.own.items ≡ []
    → g.calls.items ≡ [] → IsGathered g []
gathered_none g a b c d =
    subst (λ l. GathersProcedures [] g.walks.items g.given.items g.own.items l) (sym d)
    (subst (λ l. GathersProcedures [] g.walks.items g.given.items l []) (sym c)
    (subst (λ l. GathersProcedures [] g.walks.items l [] []) (sym b)
    (subst (λ l. GathersProcedures [] l [] [] []) (sym a) none)))

pub mapped_more : {A B : Type 0} (f : A → B) (xs : List A) (i : ℕ) (x : A) → slice_get xs i ≡ Some x
    → map f (take (i + 1) xs) ≡ map f (take i xs) ++ (f x ∷ [])
mapped_more f xs i x e = ap (map f) (take_more xs i x e) ∙ go (take i xs)
  where
    go : (ys : List _) → map f (ys ++ (x ∷ [])) ≡ map f ys ++ (f x ∷ [])
    go [] = refl
    go (y ∷ ys) = ap (λ l. f y ∷ l) (go ys)

-- ---- places

pub distinct_first : (xs : List ℕ) (v : ℕ) → Distinct (xs ++ (v ∷ [])) → Distinct xs
distinct_first [] v d = tt
distinct_first (x ∷ xs) v d = (none_before, distinct_first xs v d.1)
  where
    none_before : is_among x xs ≡ false
    none_before = elim (two_ways (is_among x xs)) [
      | inr f ↦ f
      | inl t ↦ let h : is_among x (xs ++ (v ∷ [])) ≡ true = among_left x xs (v ∷ []) t in let z
          : true ≡ false = sym h ∙ d.0 in cc
    ]

pub distinct_last : (xs : List ℕ) (v y : ℕ) → Distinct (xs ++ (v ∷ [])) → is_among y xs ≡ true
    → y ≡ v → ⊥
distinct_last [] v y d m e = cc
distinct_last (x ∷ xs) v y d m e = elim (among_cases y x xs m) [
  | inl same ↦
      let h : is_among x (xs ++ (v ∷ [])) ≡ true = among_right x xs (v ∷ [])
      (among_first x v [] (sym same ∙ e)) in
      let z : true ≡ false = sym h ∙ d.0 in cc
  | inr there ↦ distinct_last xs v y d.1 there e
]

pub given_among : (gs : List Given) (k : ℕ) (g : Given) → slice_get gs k ≡ Some g
    → is_among g.variable (variables_of gs) ≡ true
given_among [] k g e = cc
given_among (h ∷ gs) zero g e = let q : h ≡ g = same_Some h g e
    in among_first g.variable h.variable (variables_of gs) (ap (λ z. z.variable) (sym q))
given_among (h ∷ gs) (suc k) g e = among_later g.variable h.variable (variables_of gs)
    (given_among gs k g e)

pub no_spots : (spots : List Spot) → AreSpots [] spots
no_spots spots d k g e = cc

pub spots_next : (given : List Given) (i : ℕ) (g : Given) (old new : List Spot)
    → slice_get given i ≡ Some g → PlacesVariable old g.variable g.spot new
    → AreSpots (take i given) old → AreSpots (take (i + 1) given) new
spots_next given i g old new there p before = subst (λ gs. AreSpots gs new)
    (sym (take_more given i g there)) step
  where
    step : AreSpots (take i given ++ (g ∷ [])) new
    step d k h e = elim (got_cases (take i given) g k h e) [
      | inl was ↦
          let d' = subst Distinct (variables_more (take i given) g) d in
          p.others h.variable h.spot
          (distinct_last (variables_of (take i given)) g.variable h.variable d'
          (given_among (take i given) k h was))
          (before (distinct_first (variables_of (take i given)) g.variable d') k h was)
      | inr last ↦ subst (λ z. slice_get new z.variable ≡ Some z.spot) (sym last.1) p.put
    ]

-- ---- saved registers

ascending_first : (rs : List ℕ) (v : ℕ) → Ascending (rs ++ (v ∷ [])) → Ascending rs
ascending_first [] v a = tt
ascending_first (r ∷ []) v a = tt
ascending_first (r ∷ q ∷ rs) v a = (a.0, ascending_first (q ∷ rs) v a.1)

last_above : (rs : List ℕ) (v y : ℕ) → Ascending (rs ++ (v ∷ [])) → is_among y rs ≡ true → y < v
last_above [] v y a m = cc
last_above (r ∷ rs) v y a m = elim (among_cases y r rs m) [
  | inl e ↦ let h = head_below r (rs ++ (v ∷ [])) v (tail' rs a)
      (among_right v rs (v ∷ []) (among_first v v [] refl)) in omega (arith, h, e)
  | inr there ↦ last_above rs v y (rest rs a) there
]
  where
    tail' : (zs : List ℕ) → Ascending (r ∷ (zs ++ (v ∷ []))) → Ascending (r ∷ (zs ++ (v ∷ [])))
    tail' zs a = a

    rest : (zs : List ℕ) → Ascending (r ∷ (zs ++ (v ∷ []))) → Ascending (zs ++ (v ∷ []))
    rest [] a = tt
    rest (z ∷ zs) a = a.1

pub none_saved : (mask : ℕ) → IsSavedOf [] mask []
none_saved mask small a = (tt, λ r. (λ m. cc, λ m. let h : false ≡ true = m.0 in cc))

pub saved_next : (live : List ℕ) (mask i v : ℕ) (old new : List ℕ) → slice_get live i ≡ Some v
    → (v < 32 → bit_at mask v ≡ 1 → new ≡ old ++ (v ∷ []))
    → (v < 32 → (bit_at mask v ≡ 1 → ⊥) → new ≡ old)
    → IsSavedOf (take i live) mask old → IsSavedOf (take (i + 1) live) mask new
saved_next live mask i v old new there taken left before
    = subst (λ l. IsSavedOf l mask new) (sym (take_more live i v there)) step
  where
    bit_or_none : (n : ℕ) → (n ≡ 1) ⊎ (n ≡ 1 → ⊥)
    bit_or_none zero = inr (λ e. omega (arith, e))
    bit_or_none (suc zero) = inl refl
    bit_or_none (suc (suc n)) = inr (λ e. omega (arith, e))

    step : IsSavedOf (take i live ++ (v ∷ [])) mask new
    step small a =
        let b = before (λ r m. small r (among_left r (take i live) (v ∷ []) m))
        (ascending_first (take i live) v a) in
        let lt = small v (among_right v (take i live) (v ∷ []) (among_first v v [] refl)) in
        elim (bit_or_none (bit_at mask v)) [
          | inl bit ↦
              let is = taken lt bit in (
                subst Ascending (sym is)
                    (ascending_snoc old v b.0
                    (λ r m. last_above (take i live) v r a ((b.1 r).0 m).0)),
                λ r. (
                  λ m. elim (among_either r old (v ∷ []) (subst (λ l. is_among r l ≡ true) is m)) [
                    | inl o ↦ (among_left r (take i live) (v ∷ []) ((b.1 r).0 o).0, ((b.1 r).0 o).1)
                    | inr l ↦
                        elim (among_cases r v [] l) [
                          | inl e ↦
                              (among_right r (take i live) (v ∷ []) l, ap (bit_at mask) e ∙ bit)
                          | inr no_one ↦ cc
                        ]
                  ],
                  λ m. subst (λ l. is_among r l ≡ true) (sym is)
                      (elim (among_either r (take i live) (v ∷ []) m.0) [
                        | inl o ↦ among_left r old (v ∷ []) ((b.1 r).1 (o, m.1))
                        | inr l ↦ among_right r old (v ∷ []) l
                      ]),
                ),
              )
          | inr no_bit ↦
              let is = left lt no_bit in (
                subst Ascending (sym is) b.0,
                λ r. (
                  λ m. let o = (b.1 r).0 (subst (λ l. is_among r l ≡ true) is m)
                      in (among_left r (take i live) (v ∷ []) o.0, o.1),
                  λ m. subst (λ l. is_among r l ≡ true) (sym is)
                      (elim (among_either r (take i live) (v ∷ []) m.0) [
                        | inl o ↦ (b.1 r).1 (o, m.1)
                        | inr l ↦
                            elim (among_cases r v [] l) [
                              | inl e ↦ absurd (no_bit (ap (bit_at mask) (sym e) ∙ m.1))
                              | inr no_one ↦ cc
                            ]
                      ]),
                ),
              )
        ]

sites_append : (ks : List CallSite) (k : CallSite) → sites_at (ks ++ (k ∷ [])) ≡ sites_at ks
    ++ (k.site ∷ [])
sites_append [] k = refl
sites_append (j ∷ ks) k = ap (λ l. j.site ∷ l) (sites_append ks k)

call_among : (ks : List CallSite) (i : ℕ) (k : CallSite) → slice_get ks i ≡ Some k
    → is_among k.site (sites_at ks) ≡ true
call_among [] i k e = cc
call_among (j ∷ ks) zero k e = let q : j ≡ k = same_Some j k e
    in among_first k.site j.site (sites_at ks) (ap (λ z. z.site) (sym q))
call_among (j ∷ ks) (suc i) k e = among_later k.site j.site (sites_at ks) (call_among ks i k e)

pub nothing_saved : (masks : List ℕ) → SavesMatchCalls masks [] []
nothing_saved masks = record { each = λ d i k e. cc; only = λ d s rs e. cc }

saves_more : (masks : List ℕ) (done : List CallSite) (k : CallSite) (old new : List (List ℕ))
    → AddsSavesOfCall masks k old new → SavesMatchCalls masks done old
    → SavesMatchCalls masks (done ++ (k ∷ [])) new
saves_more masks done k old new g h = record {
  each = λ d i j e.
      let d' = subst Distinct (sites_append done k) d in
      elim (got_cases done k i j e) [
        | inl was ↦
            let s = h.each (distinct_first (sites_at done) k.site d') i j was in (
              s.0,
              (
                g.others j.site s.0
                    (distinct_last (sites_at done) k.site j.site d' (call_among done i j was)) s.1.0,
                s.1.1,
              ),
            )
        | inr last ↦ (
          g.saved,
          subst
              (λ z. (slice_get new z.site ≡ Some g.saved)
              × IsSavedOf z.live (mask_at masks z.proc) g.saved) (sym last.1) (g.put, g.is),
        )
      ];
  only = λ d s rs e.
      let d' = subst Distinct (sites_append done k) d in
      elim (same_or_not s k.site) [
        | inl same ↦ inr (length done, (k, (got_after done [] k, sym same)))
        | inr other ↦
            elim (g.no_others s rs other e) [
              | inr empty ↦ inl empty
              | inl was ↦
                  elim (h.only (distinct_first (sites_at done) k.site d') s rs was) [
                    | inl empty ↦ inl empty
                    | inr i ↦ inr
                        (i.0, (i.1.0, (get_left done (k ∷ []) i.0 i.1.0 i.1.1.0, i.1.1.1)))
                  ]
            ]
      ];
}
  where
    same_or_not : (a b : ℕ) → (a ≡ b) ⊎ (a ≡ b → ⊥)
    same_or_not a b = elim (cases_lt a b) [
      | inl lt ↦ inr (λ e. omega (arith, lt, e))
      | inr ge ↦
          elim (cases_lt b a) [
            | inl lt ↦ inr (λ e. omega (arith, lt, e))
            | inr le ↦ inl (omega (arith, ge, le))
          ]
    ]

pub saves_put : (masks : List ℕ) (k : CallSite) (old mid : List (List ℕ)) (rs : List ℕ)
    → k.site < length mid →
    ((s : ℕ) (l : List ℕ) → slice_get old s ≡ Some l → slice_get mid s ≡ Some l)
    → ((s : ℕ) (l : List ℕ) → slice_get mid s ≡ Some l → (slice_get old s ≡ Some l) ⊎ (l ≡ []))
    → IsSavedOf k.live (mask_at masks k.proc) rs
    → AddsSavesOfCall masks k old (slice_set mid k.site rs)
saves_put masks k old mid rs lt more empty is = record {
  saved = rs;
  is = is;
  put = get_set mid k.site rs lt;
  others = λ s l n e. elim (set_cases mid k.site rs s) [
    | inl same ↦ absurd (n (sym same))
    | inr q ↦ q ∙ more s l e
  ];
  no_others = λ s l n e. elim (set_cases mid k.site rs s) [
    | inl same ↦ absurd (n (sym same))
    | inr q ↦ empty s l (sym q ∙ e)
  ];
}

pub saves_next : (masks : List ℕ) (calls : List CallSite) (i : ℕ) (k : CallSite)
    (first old new : List (List ℕ)) → slice_get calls i ≡ Some k → AddsSavesOfCall masks k old new
    → ((done : List CallSite) → SavesMatchCalls masks done first
    → SavesMatchCalls masks (done ++ take i calls) old) → (done : List CallSite)
    → SavesMatchCalls masks done first → SavesMatchCalls masks (done ++ take (i + 1) calls) new
saves_next masks calls i k first old new there g before done h =
    subst (λ l. SavesMatchCalls masks l new)
    (sym (grouped done (take i calls) (k ∷ [])) ∙ ap (λ l. done ++ l)
    (sym (take_more calls i k there)))
    (saves_more masks (done ++ take i calls) k old new g (before done h))

walks_append : (ws : List Registers) (w : Registers)
    → calls_of_walks (ws ++ (w ∷ [])) ≡ calls_of_walks ws ++ w.calls.items
walks_append [] w = sym (nothing_more w.calls.items)
walks_append (v ∷ ws) w = ap (λ l. v.calls.items ++ l) (walks_append ws w) ∙ grouped v.calls.items
    (calls_of_walks ws) w.calls.items

pub walks_next : (masks : List ℕ) (walks : List Registers) (i : ℕ) (w : Registers)
    (old new : List (List ℕ)) → slice_get walks i ≡ Some w
    → ((done : List CallSite) → SavesMatchCalls masks done old
    → SavesMatchCalls masks (done ++ w.calls.items) new)
    → SavesMatchCalls masks (calls_of_walks (take i walks)) old
    → SavesMatchCalls masks (calls_of_walks (take (i + 1) walks)) new
walks_next masks walks i w old new there more before =
    subst (λ l. SavesMatchCalls masks l new)
    (sym (walks_append (take i walks) w) ∙ ap calls_of_walks (sym (take_more walks i w there)))
    (more (calls_of_walks (take i walks)) before)

-- ---- frames

longest_append : (saves : List (List ℕ)) (ks : List CallSite) (k : CallSite)
    → longest_at saves (ks ++ (k ∷ [])) ≡ max (longest_at saves ks)
    (length (slice_index_or saves k.site []))
longest_append saves [] k = omega arith
longest_append saves (j ∷ ks) k = let h = longest_append saves ks k in omega (arith, h)

pub longest_next : (saves : List (List ℕ)) (calls : List CallSite) (i : ℕ) (k : CallSite)
    (most many : ℕ) → slice_get calls i ≡ Some k → most ≡ longest_at saves (take i calls)
    → many ≡ length (slice_index_or saves k.site [])
    → max most many ≡ longest_at saves (take (i + 1) calls)
longest_next saves calls i k most many there is here =
    let e : longest_at saves (take (i + 1) calls) ≡ max (longest_at saves (take i calls))
    (length (slice_index_or saves k.site [])) = ap (longest_at saves)
    (take_more calls i k there) ∙ longest_append saves (take i calls) k in
    omega (arith, e, is, here)
