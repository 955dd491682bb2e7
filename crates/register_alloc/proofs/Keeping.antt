-- Who holds the registers, from one point to the next.
--
-- A walk over a procedure keeps who holds which register. A register is free again once no later
-- use of its variable remains. Two variables that are live together were never free for each
-- other, so their places differ.
use Rattle.std.proofs.Common.{◌≡◌, ◌≢◌, ◌⊎◌, ◌↔◌, ℕ, suc, ◌+◌, ◌-◌, ◌<◌, ◌≤◌, true, false, List, [], ◌∷◌, ◌++◌, length, Option, Some, None, slice_get, inl, inr, refl, sym, ap, ◌∙◌, subst, arith}
use Rattle.std.specs.Prelude.{slice_set}
use Rattle.std.proofs.lemmas.Option.{slice_get_within}
use Rattle.seq.proofs.Truth.{both_ways}
use Rattle.seq.proofs.Lists.{some_at, length_set, get_set}
use Rattle.parallel_move.specs.declared.Spot.{Spot}
use Rattle.parallel_move.specs.declared.Spot.TheVariants.{Reg, Slot}
use Rattle.low_code.specs.Tree.{Code}
use Rattle.low_code.specs.Formed.{uses}
use Rattle.register_alloc.specs.Live.{IsLive}
use Rattle.register_alloc.specs.Fits.{IsSlot, ClearOf, Apart, Holds, Full}
use Rattle.variable_uses.specs.Stands.{ListSegmentAt}
use Rattle.register_alloc.specs.Holders.{HoldsRegister, new_holder, IsUsedLaterOrWithin, StaysIfWanted, IsMarkedIfWanted, AreStillUsed, AreMarkedForJoin, AllFree, AssignsPlace, register, slot, Holding, IsKept, Keeps, Giving}
use Rattle.register_alloc.specs.declared.holders.Holder.{Holder}
use Rattle.register_alloc.proofs.Lists.{among_first, among_either, set_cases}
use Rattle.variable_uses.proofs.Standing.{used_among, among_used}
use Rattle.seq.specs.Lists.{is_among}
use Rattle.seq.proofs.Counted.{among_later, among_cases, among_left, among_right}

pub same_register : (r q : ℕ) → Reg r ≡ Reg q → r ≡ q
same_register r q e = cc

no_slot : (r k : ℕ) → Reg r ≡ Slot k → ⊥
no_slot r k e = cc

same_slot : (k j : ℕ) → Slot k ≡ Slot j → k ≡ j
same_slot k j e = cc

-- ---- those that are still used

module _ (used : List ℕ) (from to : ℕ) (old new : List (Option Holder)) where
  still_was : AreStillUsed used from to old new → (r : ℕ) (d : Holder) → HoldsRegister new r d
      → HoldsRegister old r d × IsUsedLaterOrWithin used from to d
  still_was p r d h =
      let lt : r < length new = slice_get_within new r (Some d) h in
      let o = some_at old r (subst (λ n. r < n) p.many lt) in
      go o.0 o.1 (p.each r o.0 (Some d) o.1 h)
    where
      go : (o : Option Holder) → slice_get old r ≡ Some o → StaysIfWanted used from to o (Some d)
          → HoldsRegister old r d × IsUsedLaterOrWithin used from to d
      go None e i = cc
      go (Some b) e i = (
        e ∙ ap (λ x. Some (Some x)) (sym i.0),
        subst (IsUsedLaterOrWithin used from to) (sym i.0)
            i.1,
      )

  still_stays : AreStillUsed used from to old new → (r : ℕ) (d : Holder) → HoldsRegister old r d
      → IsUsedLaterOrWithin used from to d → HoldsRegister new r d
  still_stays p r d h w =
      let lt : r < length old = slice_get_within old r (Some d) h in
      let n = some_at new r (subst (λ n. r < n) (sym p.many) lt) in
      go n.0 n.1 (p.each r (Some d) n.0 h n.1)
    where
      go : (n : Option Holder) → slice_get new r ≡ Some n → StaysIfWanted used from to (Some d) n
          → HoldsRegister new r d
      go None e i = absurd (i w)
      go (Some b) e i = e ∙ ap (λ x. Some (Some x)) i.0

  entering_was : AreMarkedForJoin used from to old new → (r : ℕ) (e : Holder)
      → HoldsRegister new r e
      → (d : Holder) ×
      (HoldsRegister old r d ×
      ((e.variable ≡ d.variable) × ((e.later ≡ true) ↔ IsUsedLaterOrWithin used from to d)))
  entering_was p r e h =
      let lt : r < length new = slice_get_within new r (Some e) h in
      let o = some_at old r (subst (λ n. r < n) p.many lt) in
      go o.0 o.1 (p.each r o.0 (Some e) o.1 h)
    where
      go : (o : Option Holder) → slice_get old r ≡ Some o → IsMarkedIfWanted used from to o (Some e)
          → (d : Holder) ×
          (HoldsRegister old r d ×
          ((e.variable ≡ d.variable) × ((e.later ≡ true) ↔ IsUsedLaterOrWithin used from to d)))
      go None q i = cc
      go (Some b) q i = (b, (q, (i.0, i.1)))

  entering_stays : AreMarkedForJoin used from to old new → (r : ℕ) (d : Holder)
      → HoldsRegister old r d → (e : Holder) × (HoldsRegister new r e × (e.variable ≡ d.variable))
  entering_stays p r d h =
      let lt : r < length old = slice_get_within old r (Some d) h in
      let n = some_at new r (subst (λ n. r < n) (sym p.many) lt) in
      go n.0 n.1 (p.each r (Some d) n.0 h n.1)
    where
      go : (n : Option Holder) → slice_get new r ≡ Some n → IsMarkedIfWanted used from to (Some d) n
          → (e : Holder) × (HoldsRegister new r e × (e.variable ≡ d.variable))
      go None q i = absurd i
      go (Some b) q i = (b, (q, i.0))

module _ (place : ℕ → Spot) (scope : List ℕ) where
  -- ---- those that are dead go

  pub still_keeps : (c : Code) (later : List ℕ) (slots : ℕ) (used : List ℕ) (at : ℕ)
      (old new : List (Option Holder)) → ListSegmentAt used at (uses c)
      → Holding place scope c later slots old
      → AreStillUsed used at (at + length (uses c)) old new → Keeps place scope c later [] slots new
  still_keeps c later slots used at old new s h p = record {
    many = p.many ∙ h.many;
    place_is = λ r d e. h.place_is r d (still_was used at to old new p r d e).0;
    kept = λ r d e. let w = still_was used at to old new p r d e
        in inr (h.bound r d w.0, is_used r d w.0 w.1);
    holds = λ n y k e. elim k [
      | inl m ↦ cc
      | inr live ↦
          let f = h.holds n y live e in
          let d = f.1.1 in (
            f.0,
            (
              f.1.0,
              (
                d.0,
                (
                  still_stays used at to old new p f.0 d.0 d.1.0
                      (wanted f.0 d.0 d.1.0
                      (subst (λ z. is_among z (uses c ++ later) ≡ true) (sym d.1.1) live.1)),
                  d.1.1,
                ),
              ),
            ),
          )
    ];
    below = λ k y kept e. elim kept [
      | inl m ↦ cc
      | inr live ↦ h.below k y live e
    ];
    later_is = λ r d e. h.later_is r d (still_was used at to old new p r d e).0;
  }
    where
      to : ℕ
      to = at + length (uses c)

      is_used : (r : ℕ) (d : Holder) → HoldsRegister old r d → IsUsedLaterOrWithin used at to d
          → is_among d.variable (uses c ++ later) ≡ true
      is_used r d e (inl l) = among_right d.variable (uses c) later (sym (h.later_is r d e) ∙ l)
      is_used r d e (inr w) = among_left d.variable (uses c) later
          (used_among used at (uses c) s d.variable w)

      wanted : (r : ℕ) (d : Holder) → HoldsRegister old r d
          → is_among d.variable (uses c ++ later) ≡ true → IsUsedLaterOrWithin used at to d
      wanted r d e m = elim (among_either d.variable (uses c) later m) [
        | inl l ↦ inr (among_used used at (uses c) s d.variable l)
        | inr l ↦ inl (h.later_is r d e ∙ l)
      ]

  -- ---- at the head of a join's block

  pub entering_holds : (w b c : Code) (later : List ℕ) (slots : ℕ) (used : List ℕ) (at : ℕ)
      (old new : List (Option Holder)) → uses w ≡ uses b ++ uses c → ListSegmentAt used at (uses c)
      → Holding place scope w later slots old → AreMarkedForJoin used at (at + length (uses c)) old
      new → Holding place scope b (uses c ++ later) slots new
  entering_holds w b c later slots used at old new is s h p = record {
    many = p.many ∙ h.many;
    place_is = λ r e q. let d = entering_was used at to old new p r e q
        in ap place d.1.1.0 ∙ h.place_is r d.0 d.1.0;
    bound = λ r e q. let d = entering_was used at to old new p r e q
        in subst (λ z. is_among z scope ≡ true) (sym d.1.1.0) (h.bound r d.0 d.1.0);
    holds = λ m y live e.
        let f = h.holds m y (live.0, whole y live.1) e in
        let d = f.1.1 in
        let n = entering_stays used at to old new p f.0 d.0 d.1.0 in
        (f.0, (f.1.0, (n.0, (n.1.0, n.1.1 ∙ d.1.1))));
    below = λ k y live e. h.below k y (live.0, whole y live.1) e;
    later_is = λ r e q.
        let d = entering_was used at to old new p r e q in
        both_ways e.later (is_among e.variable (uses c ++ later))
        (λ t. subst (λ z. is_among z (uses c ++ later) ≡ true) (sym d.1.1.0)
        (marked r d.0 d.1.0 (d.1.1.1.0 t)))
        (λ t. d.1.1.1.1
        (wanted r d.0 d.1.0 (subst (λ z. is_among z (uses c ++ later) ≡ true) d.1.1.0 t)));
  }
    where
      to : ℕ
      to = at + length (uses c)

      whole : (y : ℕ) → is_among y (uses b ++ (uses c ++ later)) ≡ true
          → is_among y (uses w ++ later) ≡ true
      whole y m = elim (among_either y (uses b) (uses c ++ later) m) [
        | inl l ↦ among_left y (uses w) later
            (subst (λ us. is_among y us ≡ true) (sym is) (among_left y (uses b) (uses c) l))
        | inr l ↦
            elim (among_either y (uses c) later l) [
              | inl k ↦ among_left y (uses w) later
                  (subst (λ us. is_among y us ≡ true) (sym is) (among_right y (uses b) (uses c) k))
              | inr k ↦ among_right y (uses w) later k
            ]
      ]

      marked : (r : ℕ) (d : Holder) → HoldsRegister old r d → IsUsedLaterOrWithin used at to d
          → is_among d.variable (uses c ++ later) ≡ true
      marked r d e (inl l) = among_right d.variable (uses c) later (sym (h.later_is r d e) ∙ l)
      marked r d e (inr u) = among_left d.variable (uses c) later
          (used_among used at (uses c) s d.variable u)

      wanted : (r : ℕ) (d : Holder) → HoldsRegister old r d
          → is_among d.variable (uses c ++ later) ≡ true → IsUsedLaterOrWithin used at to d
      wanted r d e m = elim (among_either d.variable (uses c) later m) [
        | inl l ↦ inr (among_used used at (uses c) s d.variable l)
        | inr l ↦ inl (h.later_is r d e ∙ l)
      ]

  -- ---- what is used less

  pub holding_less : (w c : Code) (later : List ℕ) (slots slots' : ℕ) (held : List (Option Holder))
      → ((y : ℕ) → is_among y (uses c) ≡ true → is_among y (uses w) ≡ true) → slots ≤ slots'
      → Holding place scope w later slots held → Holding place scope c later slots' held
  holding_less w c later slots slots' held less le h = record {
    many = h.many;
    place_is = h.place_is;
    bound = h.bound;
    holds = λ n y live e. h.holds n y (live.0, still y live.1) e;
    below = λ k y live e. let b = h.below k y (live.0, still y live.1) e in omega (arith, b, le);
    later_is = h.later_is;
  }
    where
      still : (y : ℕ) → is_among y (uses c ++ later) ≡ true → is_among y (uses w ++ later) ≡ true
      still y m = elim (among_either y (uses c) later m) [
        | inl l ↦ among_left y (uses w) later (less y l)
        | inr l ↦ among_right y (uses w) later l
      ]

  module _ (c : Code) (later : List ℕ) where
    abbrev Kept : List ℕ → ℕ → Type 0
    Kept given y = IsKept place scope c later given y

    -- ---- one more variable gets its place

    kept_cases : (given : List ℕ) (x y : ℕ) → Kept (given ++ (x ∷ [])) y → (y ≡ x) ⊎ Kept given y
    kept_cases given x y (inr live) = inr (inr live)
    kept_cases given x y (inl m) = elim (among_either y given (x ∷ []) m) [
      | inl before ↦ inr (inl before)
      | inr here ↦
          elim (among_cases y x [] here) [
            | inl same ↦ inl same
            | inr none ↦ cc
          ]
    ]

    kept_still : (given : List ℕ) (x y : ℕ) → Kept given y → Kept (given ++ (x ∷ [])) y
    kept_still given x y (inl m) = inl (among_left y given (x ∷ []) m)
    kept_still given x y (inr live) = inr live

    kept_new : (given : List ℕ) (x : ℕ) → Kept (given ++ (x ∷ [])) x
    kept_new given x = inl (among_right x given (x ∷ []) (among_first x x [] refl))

    clear_snoc : (z : ℕ) (ys : List ℕ) (x : ℕ) → ClearOf place z ys → place x ≢ place z
        → ClearOf place z (ys ++ (x ∷ []))
    clear_snoc z [] x h n = (n, tt)
    clear_snoc z (y ∷ ys) x h n = (h.0, clear_snoc z ys x h.1 n)

    apart_snoc : (xs : List ℕ) (x : ℕ) → Apart place scope xs c later
        → ((y : ℕ) → Kept xs y → place y ≢ place x) → Apart place scope (xs ++ (x ∷ [])) c later
    apart_snoc [] x h n = ((λ y live. n y (inr live)), (tt, tt))
    apart_snoc (z ∷ xs) x h n = (
      h.0,
      (
        clear_snoc z xs x h.1.0 (λ e. n z (inl (among_first z z xs refl)) (sym e)),
        apart_snoc xs x h.1.1 (λ y k. n y (more y k)),
      ),
    )
      where
        more : (y : ℕ) → Kept xs y → Kept (z ∷ xs) y
        more y (inl m) = inl (among_later y z xs m)
        more y (inr live) = inr live

    full_snoc : (xs : List ℕ) (x : ℕ) → Full place scope xs c later
        → (IsSlot (place x) → (r : ℕ) → 8 ≤ r → r < 32 → Holds place scope xs c later r)
        → Full place scope (xs ++ (x ∷ [])) c later
    full_snoc xs x h new z m spot r low high = elim (among_either z xs (x ∷ []) m) [
      | inl before ↦ wider (h z before spot r low high)
      | inr here ↦
          elim (among_cases z x [] here) [
            | inl same ↦ wider (new (subst (λ v. IsSlot (place v)) same spot) r low high)
            | inr none ↦ cc
          ]
    ]
      where
        wider : Holds place scope xs c later r → Holds place scope (xs ++ (x ∷ [])) c later r
        wider k = (k.0, kept_still xs x k.0 k.1, k.2)

    pub give_register : (given : List ℕ) (slots : ℕ) (held : List (Option Holder)) (x r : ℕ)
        → r < 24 → slice_get held r ≡ Some None → is_among x later ≡ false
        → place x ≡ Reg (8 + r) → Giving place scope c later given slots held
        → Giving place scope c later (given ++ (x ∷ [])) slots
        (slice_set held r (Some (new_holder x)))
    give_register given slots held x r lt none fresh is g = record {
      keeps = record {
        many = length_set held r (Some (new_holder x)) ∙ k.many;
        place_is = λ q d e. elim (was q d e) [
          | inl new ↦ ap (λ b. place b.variable) new.1 ∙ is ∙ ap (λ n. Reg (8 + n)) new.0
          | inr old ↦ k.place_is q d old
        ];
        kept = λ q d e. elim (was q d e) [
          | inl new ↦ subst (λ b. Kept (given ++ (x ∷ [])) b.variable) (sym new.1)
              (kept_new given x)
          | inr old ↦ kept_still given x d.variable (k.kept q d old)
        ];
        holds = λ n y kept e. elim (kept_cases given x y kept) [
          | inl same ↦ (
            r,
            (
              sym (same_register (8 + r) n (sym is ∙ ap place (sym same) ∙ e)),
              (
                new_holder x,
                (get_set held r (Some (new_holder x)) (omega (arith, k.many, lt)), sym same),
              ),
            ),
          )
          | inr before ↦ let f = k.holds n y before e
              in (f.0, (f.1.0, (f.1.1.0, (stays f.0 f.1.1.0 f.1.1.1.0, f.1.1.1.1))))
        ];
        below = λ j y kept e. elim (kept_cases given x y kept) [
          | inl same ↦ absurd (no_slot (8 + r) j (sym is ∙ ap place (sym same) ∙ e))
          | inr before ↦ k.below j y before e
        ];
        later_is = λ q d e. elim (was q d e) [
          | inl new ↦ ap (λ b. b.later) new.1 ∙ sym fresh ∙ ap (λ b. is_among b.variable later)
              (sym new.1)
          | inr old ↦ k.later_is q d old
        ];
      };
      good = (
        apart_snoc given x g.good.0 (λ y kept e.
            let f = k.holds (8 + r) y kept (e ∙ is) in
            let q_is : f.0 ≡ r = let n = f.1.0 in omega (arith, n) in
            taken f.1.1.0 (subst (λ n. HoldsRegister held n f.1.1.0) q_is f.1.1.1.0)),
        full_snoc given x g.good.1 (λ spot q low high. absurd (subst IsSlot is spot)),
      );
    }
      where
        k : Keeps place scope c later given slots held
        k = g.keeps

        next : List (Option Holder)
        next = slice_set held r (Some (new_holder x))

        taken : (d : Holder) → HoldsRegister held r d → ⊥
        taken d e = let h : Some (Some d) ≡ Some None = sym e ∙ none in cc

        was : (q : ℕ) (d : Holder) → HoldsRegister next q d → ((r ≡ q) × (d ≡ new_holder x))
            ⊎ HoldsRegister held q d
        was q d e = elim (set_cases held r (Some (new_holder x)) q) [
          | inl same ↦
              let here : HoldsRegister next r (new_holder x)
              = get_set held r (Some (new_holder x)) (omega (arith, k.many, lt)) in
              let h : Some (Some d) ≡ Some (Some (new_holder x))
              = sym (subst (λ n. HoldsRegister next n d) (sym same) e) ∙ here in
              inl (same, cc)
          | inr other ↦ inr (sym other ∙ e)
        ]

        stays : (q : ℕ) (d : Holder) → HoldsRegister held q d → HoldsRegister next q d
        stays q d e = elim (set_cases held r (Some (new_holder x)) q) [
          | inl same ↦ absurd (taken d (subst (λ n. HoldsRegister held n d) (sym same) e))
          | inr other ↦ other ∙ e
        ]

    pub give_slot : (given : List ℕ) (slots : ℕ) (held : List (Option Holder)) (x : ℕ)
        → ((r : ℕ) → r < 24 → (d : Holder) × HoldsRegister held r d)
        → place x ≡ Slot slots → Giving place scope c later given slots held
        → Giving place scope c later (given ++ (x ∷ [])) (suc slots) held
    give_slot given slots held x all is g = record {
      keeps = record {
        many = k.many;
        place_is = k.place_is;
        kept = λ q d e. kept_still given x d.variable (k.kept q d e);
        holds = λ n y kept e. elim (kept_cases given x y kept) [
          | inl same ↦ absurd (no_slot n slots (sym e ∙ ap place same ∙ is))
          | inr before ↦ k.holds n y before e
        ];
        below = λ j y kept e. elim (kept_cases given x y kept) [
          | inl same ↦ let n = same_slot slots j (sym is ∙ ap place (sym same) ∙ e)
              in omega (arith, n)
          | inr before ↦ let b = k.below j y before e in omega (arith, b)
        ];
        later_is = k.later_is;
      };
      good = (
        apart_snoc given x g.good.0
            (λ y kept e. let b = k.below slots y kept (e ∙ is) in omega (arith, b)),
        full_snoc given x g.good.1 (λ spot r low high.
            let d = all (r - 8) (omega (arith, low, high)) in
            let n : 8 + (r - 8) ≡ r = omega (arith, low) in
            (d.0.variable, k.kept (r - 8) d.0 d.1, k.place_is (r - 8) d.0 d.1 ∙ ap (λ m. Reg m) n)),
      );
    }
      where
        k : Keeps place scope c later given slots held
        k = g.keeps

    -- by either kind of step
    pub give_step : (given : List ℕ) (slots slots' : ℕ) (held held' : List (Option Holder)) (x : ℕ)
        (spot : Spot) → is_among x later ≡ false → place x ≡ spot
        → AssignsPlace held slots x spot held' slots' → Giving place scope c later given slots held
        → Giving place scope c later (given ++ (x ∷ [])) slots' held'
    give_step given slots _ held _ x _ fresh is (register r lt none) g
        = give_register given slots held x r lt none fresh is g
    give_step given slots _ held _ x _ fresh is (slot all) g = give_slot given slots held x all is g

    pub none_given : (slots : ℕ) (held : List (Option Holder))
        → Keeps place scope c later [] slots held → Giving place scope c later [] slots held
    none_given slots held k = record { keeps = k; good = (tt, λ x m spot r low high. cc) }

    -- ---- when all are bound

    pub given_holds : (xs : List ℕ) (slots : ℕ) (held : List (Option Holder))
        → Keeps place scope c later xs slots held → Holding place (xs ++ scope) c later slots held
    given_holds xs slots held k = record {
      many = k.many;
      place_is = k.place_is;
      bound = λ r d e. elim (k.kept r d e) [
        | inl m ↦ among_left d.variable xs scope m
        | inr live ↦ among_right d.variable xs scope live.0
      ];
      holds = λ n y live e. k.holds n y (is_kept y live) e;
      below = λ j y live e. k.below j y (is_kept y live) e;
      later_is = k.later_is;
    }
      where
        is_kept : (y : ℕ) → IsLive (xs ++ scope) c later y → Kept xs y
        is_kept y live = elim (among_either y xs scope live.0) [
          | inl m ↦ inl m
          | inr m ↦ inr (m, live.1)
        ]

-- nobody holds a register where nothing is in scope
pub free_keeps : (place : ℕ → Spot) (c : Code) (slots : ℕ) (held : List (Option Holder))
    → AllFree held → Keeps place [] c [] [] slots held
free_keeps place c slots held f = record {
  many = f.many;
  place_is = λ r d e. absurd (f.free r d e);
  kept = λ r d e. absurd (f.free r d e);
  holds = λ n y k e. absurd (no_one y k);
  below = λ k y kept e. absurd (no_one y kept);
  later_is = λ r d e. absurd (f.free r d e);
}
  where
    no_one : (y : ℕ) → IsKept place [] c [] [] y → ⊥
    no_one y (inl m) = cc
    no_one y (inr live) = let m : false ≡ true = live.0 in cc
