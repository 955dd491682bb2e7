-- The tags of a translated program are formed: what waits and what lacks arguments has its
-- procedure, and of each function
-- exactly one tag lacks so many arguments.
use Rattle.std.proofs.Common.{◌≡◌, ◌≢◌, ℕ, zero, suc, ◌+◌, ◌-◌, ◌≤◌, ◌<◌, Bool, true, false, cond, ◌&&◌, nat_eq, List, [], ◌∷◌, ◌++◌, map, filter, length, Option, Some, None, slice_get, refl, sym, ap, ◌∙◌, subst, arith, eqb-true}
use Rattle.std.proofs.lemmas.Bool.{eq-eqb}
use Rattle.std.proofs.lemmas.List.{map-append}
use Rattle.std.proofs.lemmas.List.Elements.{filter-append}
use Rattle.std.proofs.lemmas.Option.{same_Some, none-some, slice_get_within}
use Rattle.seq.proofs.Truth.{and_not_right, not_both}
use Rattle.seq.proofs.Order.{eq_false}
use Rattle.seq.proofs.Lists.{all_append}
use Rattle.arity_check.specs.declared.normal.Con as arity
use Rattle.arity_check.specs.Program.{Program, Function}
use Rattle.core_meaning.specs.Evaluation.{params, params_of}
use Rattle.grin_syntax.specs.declared.program.Tag.{Tag}
use Rattle.grin_syntax.specs.Tags.{is_part}
use Rattle.grin_syntax.specs.Formed.{AllOf, OnePart, HasNext, TagFormed}
use Rattle.grin_translate.specs.declared.tags.Delay.TheVariants.{Calls}
use Rattle.grin_translate.specs.declared.tags.Kind.{Kind}
use Rattle.grin_translate.specs.declared.tags.Kind.TheVariants.{Constructor, Waits, Lacks}
use Rattle.grin_translate.specs.Tags.{delays, kinds, parts, function_parts, tag_of, con_tag, proc}
use Rattle.grin_translate.specs.Translation.{tr}
use Rattle.grin_translate.proofs.Places.{all_map}
use Rattle.grin_translate.proofs.Found.{has_calls}
use Rattle.grin_translate.proofs.Lookups.{call_place}
use Rattle.translated_form.proofs.Lists.{all_mapped, all_of_has}
use Rattle.translated_form.proofs.Named.{proc_known}
use Rattle.seq.specs.Lists.{numbers_from}

-- ---- which items of a list pass a test

skipped : {A : Type 0} (test : A → Bool) (x : A) (xs : List A) → test x ≡ false
    → filter test (x ∷ xs) ≡ filter test xs
skipped test x xs e = ap (λ b. cond b (x ∷ filter test xs) (filter test xs)) e

passed : {A : Type 0} (test : A → Bool) (x : A) (xs : List A) → test x ≡ true
    → filter test (x ∷ xs) ≡ x ∷ filter test xs
passed test x xs e = ap (λ b. cond b (x ∷ filter test xs) (filter test xs)) e

filter_mapped : {A B : Type 0} (test : B → Bool) (f : A → B) (xs ys : List A)
    → filter test (map f (xs ++ ys)) ≡ filter test (map f xs) ++ filter test (map f ys)
filter_mapped test f xs ys = ap (filter test) (map-append f xs ys) ∙ filter-append test (map f xs)
    (map f ys)

none_pass : {A B : Type 0} (test : B → Bool) (f : A → B) (xs : List A)
    → AllOf (λ x. test (f x) ≡ false) xs → filter test (map f xs) ≡ []
none_pass test f [] a = refl
none_pass test f (x ∷ xs) a = skipped test (f x) (map f xs) a.0 ∙ none_pass test f xs a.1

module _ (p : Program) where
  -- ---- one tag for the function f with r arguments missing

  module _ (f r : ℕ) (f_below : f < length p.funs) where
    abbrev IsThis : Tag → Bool
    IsThis = is_part (proc p (Calls f)).0 r

    abbrev Passing : List Kind → List Tag
    Passing ks = filter IsThis (map (tag_of p) ks)

    -- the procedure of a function has the function's number
    part_test : (g q : ℕ) → g < length p.funs → IsThis (tag_of p (Lacks g q)) ≡
        (nat_eq g f && nat_eq q r)
    part_test g q lt = λ z. nat_eq (sym (call_place p g lt) z) (sym (call_place p f f_below) z) &&
        nat_eq q r

    fails_by : (g q : ℕ) (b : Bool) → g < length p.funs → (nat_eq g f && nat_eq q r) ≡ b
        → IsThis (tag_of p (Lacks g q)) ≡ b
    fails_by g q b lt e = part_test g q lt ∙ e

    of_other : (g n : ℕ) → g < length p.funs → g ≢ f → Passing (function_parts g n) ≡ []
    of_other g zero lt ne = refl
    of_other g (suc n) lt ne =
        skipped IsThis (tag_of p (Lacks g (suc n))) (map (tag_of p) (function_parts g n))
        (fails_by g (suc n) false lt (ap (λ b. b && nat_eq (suc n) r) (eq_false g f ne)))
        ∙ of_other g n lt ne

    of_fewer : (n : ℕ) → n < r → Passing (function_parts f n) ≡ []
    of_fewer zero lt = refl
    of_fewer (suc n) lt =
        skipped IsThis (tag_of p (Lacks f (suc n))) (map (tag_of p) (function_parts f n))
        (fails_by f (suc n) false f_below
        (and_not_right (nat_eq f f) _ (eq_false (suc n) r (λ e. omega (arith, lt, e)))))
        ∙ of_fewer n (omega (arith, lt))

    of_this : (n : ℕ) → 0 < r → r ≤ n → Passing (function_parts f n) ≡ tag_of p (Lacks f r) ∷ []
    of_this zero lt le = absurd (omega (arith, lt, le))
    of_this (suc n) lt le = by_test (nat_eq (suc n) r) refl (of_this n lt)
      where
        by_test : (b : Bool) → nat_eq (suc n) r ≡ b
            → (r ≤ n → Passing (function_parts f n) ≡ tag_of p (Lacks f r) ∷ [])
            → Passing (Lacks f (suc n) ∷ function_parts f n) ≡ tag_of p (Lacks f r) ∷ []
        by_test true e ih =
            let same : suc n ≡ r = eqb-true (suc n) r e in
            passed IsThis (tag_of p (Lacks f (suc n))) (map (tag_of p) (function_parts f n))
            (fails_by f (suc n) true f_below
            (ap (λ b. b && nat_eq (suc n) r) (eq-eqb f f refl) ∙ e))
            ∙ (λ z. tag_of p (Lacks f (same z)) ∷ of_fewer n (omega (arith, same)) z)
        by_test false e ih =
            let ne : suc n ≢ r = λ i. not_both (nat_eq (suc n) r) (eq-eqb (suc n) r i) e in
            skipped IsThis (tag_of p (Lacks f (suc n))) (map (tag_of p) (function_parts f n))
            (fails_by f (suc n) false f_below (and_not_right (nat_eq f f) _ e))
            ∙ ih (omega (arith, le, ne))

    of_later : (gs : List Function) (k : ℕ) → f < k → k + length gs ≤ length p.funs
        → Passing (parts gs k) ≡ []
    of_later [] k lt le = refl
    of_later (g ∷ gs) k lt le =
        let first = of_other k g.params (omega (arith, le)) (λ e. omega (arith, lt, e)) in
        let others = of_later gs (suc k) (omega (arith, lt)) (omega (arith, le)) in
        filter_mapped IsThis (tag_of p) (function_parts k g.params) (parts gs (suc k)) ∙
        (λ z. first z ++ others z)

    of_all : (gs : List Function) (k i : ℕ) (g : Function) → slice_get gs i ≡ Some g → k + i ≡ f
        → k + length gs ≤ length p.funs → 0 < r → r ≤ g.params
        → Passing (parts gs k) ≡ tag_of p (Lacks f r) ∷ []
    of_all [] k i g e at le lt few = absurd (none-some g e)
    of_all (h ∷ gs) k zero g e at le lt few =
        let here : k ≡ f = omega (arith, at) in
        let same : h ≡ g = same_Some h g e in
        let first : Passing (function_parts k h.params) ≡ tag_of p (Lacks f r) ∷ []
        = subst (λ x. Passing (function_parts x h.params) ≡ tag_of p (Lacks f r) ∷ [])
        (sym here) (of_this h.params lt (subst (λ x. r ≤ x.params) (sym same) few)) in
        let others = of_later gs (suc k) (omega (arith, here)) (omega (arith, le)) in
        filter_mapped IsThis (tag_of p) (function_parts k h.params) (parts gs (suc k)) ∙
        (λ z. first z ++ others z)
    of_all (h ∷ gs) k (suc i) g e at le lt few =
        let first = of_other k h.params (omega (arith, le)) (λ q. omega (arith, at, q)) in
        let others = of_all gs (suc k) i g e (omega (arith, at)) (omega (arith, le)) lt few in
        filter_mapped IsThis (tag_of p) (function_parts k h.params) (parts gs (suc k)) ∙
        (λ z. first z ++ others z)

    con_no_part : (o : Option arity.Con) → IsThis (con_tag o) ≡ false
    con_no_part None = refl
    con_no_part (Some c) = refl

    of_kinds : (g : Function) → slice_get p.funs f ≡ Some g → 0 < r → r ≤ g.params
        → Passing (kinds p) ≡ tag_of p (Lacks f r) ∷ []
    unfolding kinds
    of_kinds g e lt few =
        let cs : List Kind = map Constructor (numbers_from 0 (length p.cons)) in
        let ws : List Kind = map Waits (delays p) in
        let ps : List Kind = parts p.funs 0 in
        let no_constructor : Passing cs ≡ [] = none_pass IsThis (tag_of p) cs
        (all_map (λ k. IsThis (tag_of p k) ≡ false) Constructor (numbers_from 0 (length p.cons))
        (λ c. con_no_part (slice_get p.cons c))) in
        let no_delay : Passing ws ≡ [] = none_pass IsThis (tag_of p) ws
        (all_map (λ k. IsThis (tag_of p k) ≡ false) Waits (delays p) (λ d. refl)) in
        let one : Passing ps ≡ tag_of p (Lacks f r) ∷ []
        = of_all p.funs 0 f g e (omega arith) (omega arith) lt few in
        filter_mapped IsThis (tag_of p) cs (ws ++ ps)
        ∙ (λ z. no_constructor z ++ filter_mapped IsThis (tag_of p) ws ps z)
        ∙ (λ z. no_delay z ++ one z)

  one_part : (f r : ℕ) (g : Function) → slice_get p.funs f ≡ Some g → 0 < r → r ≤ g.params
      → OnePart (tr p) (proc p (Calls f)).0 r (params p f - r)
  one_part f r g e lt few =
      (tag_of p (Lacks f r), of_kinds f r (slice_get_within p.funs f g e) g e lt few, refl)

  -- ---- each tag

  next_formed : (f r : ℕ) (g : Function) → slice_get p.funs f ≡ Some g → r ≤ g.params
      → HasNext (tr p) (Some (proc p (Calls f))) r (params p f - r)
  next_formed f zero g e few = tt
  next_formed f (suc zero) g e few = tt
  next_formed f (suc (suc r)) g e few =
      let many : params p f ≡ g.params = ap (params_of p) e in
      let one_more : params p f - suc r ≡ suc (params p f - suc (suc r)) = omega (arith, many, few)
      in
      subst (OnePart (tr p) (proc p (Calls f)).0 (suc r)) one_more
      (one_part f (suc r) g e (omega arith) (omega (arith, few)))

  abbrev KindFormed' : Kind → Type 0
  KindFormed' k = TagFormed (tr p) (tag_of p k)

  con_formed : (o : Option arity.Con) → TagFormed (tr p) (con_tag o)
  con_formed None = tt
  con_formed (Some c) = tt

  parts_of_formed : (f n : ℕ) (g : Function) → slice_get p.funs f ≡ Some g → n ≤ g.params
      → AllOf KindFormed' (function_parts f n)
  parts_of_formed f zero g e le = tt
  parts_of_formed f (suc n) g e le = (
    (proc_known p (Calls f) (has_calls p f g e), omega arith, next_formed f (suc n) g e le),
    parts_of_formed f n g e (omega (arith, le)),
  )

  parts_formed : (gs : List Function) (k : ℕ) →
      ((i : ℕ) (g : Function) → slice_get gs i ≡ Some g → slice_get p.funs (k + i) ≡ Some g)
      → AllOf KindFormed' (parts gs k)
  parts_formed [] k at = tt
  parts_formed (g ∷ gs) k at =
      let here : k + 0 ≡ k = omega arith in
      all_append KindFormed' (function_parts k g.params) _
      (parts_of_formed k g.params g
      (subst (λ i. slice_get p.funs i ≡ Some g) here (at 0 g refl)) (omega arith))
      (parts_formed gs (suc k)
      (λ i h e. let next : k + suc i ≡ suc k + i = omega arith
      in subst (λ j. slice_get p.funs j ≡ Some h) next (at (suc i) h e)))

  kinds_formed : AllOf KindFormed' (kinds p)
  unfolding kinds
  kinds_formed = (
    tt,
    all_append KindFormed' (map Constructor (numbers_from 0 (length p.cons))) _
        (all_map KindFormed' Constructor (numbers_from 0 (length p.cons))
        (λ c. con_formed (slice_get p.cons c)))
        (all_append KindFormed' (map Waits (delays p)) _
        (all_mapped KindFormed' Waits (delays p)
        (all_of_has (λ d. KindFormed' (Waits d)) (delays p) (λ d h. proc_known p d h)))
        (parts_formed p.funs 0 (λ i g e. let here : 0 + i ≡ i = omega arith in rw here e))),
  )

  pub tags_formed : AllOf (TagFormed (tr p)) (tr p).tags
  tags_formed = all_mapped (TagFormed (tr p)) (tag_of p) (kinds p) kinds_formed
