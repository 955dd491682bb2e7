-- Values that are written alike are the same, and what a case becomes.
use Rattle.std.proofs.Common.{◌≡◌, Bool, true, ◌&&◌, nat_eq, List, [], ◌∷◌, ◌++◌, Option, Some, None, refl, sym, ap, ◌∙◌, subst, arith, false, cond}
use Rattle.std.proofs.lemmas.Bool.Decides.{nat_tests}
use Rattle.seq.proofs.Lists.{append_nil, none_is_some, some_is}
use Rattle.seq.proofs.Truth.{and_left, and_right, and_from, true_not_false}
use Rattle.seq.proofs.Order.{eq_self}
use Rattle.numbers.proofs.Same.{same_itself}
use Rattle.grin_syntax.specs.declared.program.Word as W
use Rattle.grin_syntax.specs.declared.program.Word.TheVariants.{Lit, Var, Global, TagWord}
use Rattle.grin_syntax.specs.declared.program.Val as V
use Rattle.grin_syntax.specs.declared.program.Val.TheVariants.{NodeVar, Node as NodeVal, Vector, One}
use Rattle.grin_syntax.specs.Tree.{Code, end, leaf, unit, Arms, no_arm, arm, Act, case, fail, as_act}
use Rattle.grin_meaning.specs.Checks.{is_some_and}
use Rattle.case_simplify.specs.Simple.{same_word, is_prefix, same_words, same_val, is_prefix_val, returned_value, returns_val, all_arms_return, returns_scrutinee, first_act, block_or_case, simple_case}
use Rattle.case_simplify.specs.Simplified.{IsPrefixOf, EachArmReturns, IsIdentity}
use Rattle.case_simplify.proofs.Held.{same_number_is}
use Rattle.grin_syntax.specs.declared.program.TagId.{TagId}
use Rattle.grin_syntax.specs.declared.program.Shape.{Shape}
use Rattle.case_simplify.specs.Known.{Known, Tag, Number, Facts, known_first_word, known_second_word}
use Rattle.case_simplify.specs.Choice.{Verdict, Takes, Passes, Open, verdict, by_verdict, selected_block, selected_block_by_tag}

same_word_is : (a b : W.Word) → same_word a b ≡ true → a ≡ b
same_word_is (Lit i) (Lit j) h = ap Lit (same_number_is i j h)
same_word_is (Var x) (Var y) h = let e : x.0 ≡ y.0 = grind (arith, nat_tests)
    in ap (λ k. Var (record { 0 = k })) e
same_word_is (Global i) (Global j) h = let e : i ≡ j = grind (arith, nat_tests) in ap Global e
same_word_is (TagWord t) (TagWord u) h = let e : t.0 ≡ u.0 = grind (arith, nat_tests)
    in ap (λ k. TagWord (record { 0 = k })) e
same_word_is _ _ h = true_not_false (sym h)

fronts_same : (ws us : List W.Word) → is_prefix ws us ≡ true → is_prefix us ws ≡ true → ws ≡ us
fronts_same [] [] h k = refl
fronts_same [] (u ∷ us) h k = true_not_false (sym k)
fronts_same (w ∷ ws) [] h k = true_not_false (sym h)
fronts_same (w ∷ ws) (u ∷ us) h k =
    let a : w ≡ u = same_word_is w u (and_left (same_word w u) (is_prefix ws us) h) in
    let b : ws ≡ us = fronts_same ws us (and_right (same_word w u) (is_prefix ws us) h)
    (and_right (same_word u w) (is_prefix us ws) k) in
    λ i. a i ∷ b i

words_same : (ws us : List W.Word) → same_words ws us ≡ true → ws ≡ us
words_same ws us h = fronts_same ws us (and_left (is_prefix ws us) (is_prefix us ws) h)
    (and_right (is_prefix ws us) (is_prefix us ws) h)

pub same_val_is : (u v : V.Val) → same_val u v ≡ true → u ≡ v
same_val_is (NodeVar x) (NodeVar y) h = let e : x.0 ≡ y.0 = grind (arith, nat_tests)
    in ap (λ k. NodeVar (record { 0 = k })) e
same_val_is (NodeVal t ws) (NodeVal u us) h =
    let a : nat_eq t.0 u.0 ≡ true = and_left (nat_eq t.0 u.0) (same_words ws us) h in
    let e : t.0 ≡ u.0 = grind (arith, nat_tests) in
    let f : ws ≡ us = words_same ws us (and_right (nat_eq t.0 u.0) (same_words ws us) h) in
    λ i. NodeVal (record { 0 = e i }) (f i)
same_val_is (Vector ws) (Vector us) h = ap Vector (words_same ws us h)
same_val_is (One a) (One b) h = ap One (same_word_is a b h)
same_val_is _ _ h = true_not_false (sym h)

pub value_given_is : (b : Code) (u : V.Val) → returned_value b ≡ Some u → b ≡ end (leaf (unit u))
value_given_is (end (leaf (unit w))) u e = ap (λ x. end (leaf (unit x))) (some_is e)
value_given_is _ u e = none_is_some e

pub some_true : {A : Type 0} (o : Option A) (f : A → Bool) → is_some_and o f ≡ true → (a : A)
    × (o ≡ Some a) × (f a ≡ true)
some_true None f h = true_not_false (sym h)
some_true (Some a) f h = (a, refl, h)

pub gives_val_is : (u : V.Val) (b : Code) → returns_val u b ≡ true → b ≡ end (leaf (unit u))
gives_val_is u b h =
    let z : (w : V.Val) × (returned_value b ≡ Some w) × (same_val u w ≡ true)
    = some_true (returned_value b) (same_val u) h in
    value_given_is b z.0 z.1 ∙ ap (λ x. end (leaf (unit x))) (sym (same_val_is u z.0 z.2))

-- ---- what is written alike is found

same_word_refl : (a : W.Word) → same_word a a ≡ true
same_word_refl (Lit k) = same_itself k
same_word_refl (Var x) = eq_self x.0
same_word_refl (Global i) = eq_self i
same_word_refl (TagWord t) = eq_self t.0

front_refl : (us rest : List W.Word) → is_prefix us (us ++ rest) ≡ true
front_refl [] rest = refl
front_refl (u ∷ us) rest = and_from (same_word u u) (is_prefix us (us ++ rest)) (same_word_refl u)
    (front_refl us rest)

front_self : (us : List W.Word) → is_prefix us us ≡ true
front_self us = subst (λ l. is_prefix us l ≡ true) (append_nil us) (front_refl us [])

words_refl : (us : List W.Word) → same_words us us ≡ true
words_refl us = and_from (is_prefix us us) (is_prefix us us) (front_self us) (front_self us)

val_refl : (u : V.Val) → same_val u u ≡ true
val_refl (NodeVar x) = eq_self x.0
val_refl (NodeVal t ws) = and_from (nat_eq t.0 t.0) (same_words ws ws) (eq_self t.0) (words_refl ws)
val_refl (Vector ws) = words_refl ws
val_refl (One a) = same_word_refl a

front_self_val : (v : V.Val) → is_prefix_val v v ≡ true
front_self_val (Vector ws) = front_self ws
front_self_val v = val_refl v

front_found : (u v : V.Val) → IsPrefixOf u v → is_prefix_val u v ≡ true
front_found (Vector us) (Vector ws) f = subst (λ l. is_prefix us l ≡ true) (sym f.1)
    (front_refl us f.0)
front_found u v f = subst (λ v. is_prefix_val u v ≡ true) f (front_self_val u)

all_found : (u : V.Val) (as' : Arms) → EachArmReturns u as' → all_arms_return u as' ≡ true
all_found u no_arm f = refl
all_found u (arm s b as') f = and_from (returns_val u b) (all_arms_return u as')
    (subst (λ c. returns_val u c ≡ true) (sym f.0) (val_refl u)) (all_found u as' f.1)

pub identity_found : (v : V.Val) (as' : Arms) → IsIdentity v as' → returns_scrutinee v as' ≡ true
identity_found v no_arm f = absurd f
identity_found v (arm s b as') f =
    subst (λ c. is_some_and (returned_value c)
    (λ u. is_prefix_val u v && all_arms_return u (arm s b as')) ≡ true) (sym f.2.0)
    (and_from (is_prefix_val f.0 v) (all_arms_return f.0 (arm s b as')) (front_found f.0 v f.1)
    (all_found f.0 (arm s b as') f.2))

-- ---- what a case becomes

-- the first of alternatives that all give back the same
first_is : (v : V.Val) (as' : Arms) → returns_scrutinee v as' ≡ true → (u : V.Val)
    × (first_act as' ≡ leaf (unit u)) × (all_arms_return u as' ≡ true)
first_is v no_arm h = true_not_false (sym h)
first_is v (arm s b as') h =
    let z : (u : V.Val) × (returned_value b ≡ Some u)
    × ((is_prefix_val u v && all_arms_return u (arm s b as')) ≡ true)
    = some_true (returned_value b) (λ u. is_prefix_val u v && all_arms_return u (arm s b as')) h
    in (
      z.0,
      ap as_act (value_given_is b z.0 z.1),
      and_right (is_prefix_val z.0 v)
          (all_arms_return z.0 (arm s b as')) z.2,
    )

module _ (facts : Facts) (v : V.Val) (as' : Arms) where
  -- no alternative is selected
  abbrev pub Undecided : Type 0
  Undecided = (t : TagId) → known_first_word facts v ≡ Some (Tag t)
      → selected_block t (known_second_word facts v) as' ≡ None

  pub case_by : (P : Act → Type 0) →
      ((t : TagId) (b : Code) → known_first_word facts v ≡ Some (Tag t)
      → selected_block t (known_second_word facts v) as' ≡ Some b → P (as_act b))
      → ((u : V.Val) → first_act as' ≡ leaf (unit u) → all_arms_return u as' ≡ true
      → P (leaf (unit u))) → (Undecided → returns_scrutinee v as' ≡ false → P (case v as'))
      → P (simple_case facts v as')
  case_by P takes gives stays = go (known_first_word facts v) refl
    where
      unit_or : Undecided → (b : Bool) → returns_scrutinee v as' ≡ b
          → P (cond b (first_act as') (case v as'))
      unit_or n true q = let z : (u : V.Val) × (first_act as' ≡ leaf (unit u))
          × (all_arms_return u as' ≡ true) = first_is v as' q
          in subst P (sym z.1) (gives z.0 z.1 z.2)
      unit_or n false q = stays n q

      found : (t : TagId) → known_first_word facts v ≡ Some (Tag t) → (o : Option Code)
          → selected_block t (known_second_word facts v) as' ≡ o → P (block_or_case v as' o)
      found t k (Some b) e = takes t b k e
      found t k None e = unit_or
          (λ s q. subst (λ r. selected_block r (known_second_word facts v) as' ≡ None)
          (same_tag (sym k ∙ q)) e) (returns_scrutinee v as') refl
        where
          same_tag : {s t : TagId} → ◌≡◌ {A = Option Known} (Some (Tag s)) (Some (Tag t)) → s ≡ t
          same_tag e = cc

      go : (o : Option Known) → known_first_word facts v ≡ o
          → P (block_or_case v as' (selected_block_by_tag o (known_second_word facts v) as'))
      go (Some (Tag t)) k = found t k (selected_block t (known_second_word facts v) as') refl
      go None k = unit_or (λ s q. none_is_some (sym k ∙ q)) (returns_scrutinee v as') refl
      go (Some (Number i)) k = unit_or (λ s q. no_tag (sym k ∙ q)) (returns_scrutinee v as') refl
        where
          no_tag : {A : Type 0} {s : TagId} → ◌≡◌ {A = Option Known} (Some (Number i))
              (Some (Tag s)) → A
          no_tag e = cc

-- the alternative that is taken has what each has that takes
pub taken_has : (HasCode : Code → Type 0) (HasArms : Arms → Type 0) → HasCode (end (leaf fail))
    → (t : TagId) (second : Option Known)
    → ((s : Shape) (b : Code) (as' : Arms) → HasArms (arm s b as')
    → (verdict t second s ≡ Takes → HasCode b) × HasArms as') → (as' : Arms) → HasArms as'
    → (b : Code) → selected_block t second as' ≡ Some b → HasCode b
taken_has HasCode HasArms failing t second split no_arm h b e = subst HasCode (some_is e) failing
taken_has HasCode HasArms failing t second split (arm s c as') h b e
    = go (taken_has HasCode HasArms failing t second split as' (split s c as' h).1 b)
    (verdict t second s) refl e
  where
    go : (selected_block t second as' ≡ Some b → HasCode b) → (r : Verdict) → verdict t second s ≡ r
        → by_verdict r c (selected_block t second as') ≡ Some b → HasCode b
    go later Takes q e = subst HasCode (some_is e) ((split s c as' h).0 q)
    go later Passes q e = later e
    go later Open q e = none_is_some e

-- what a case becomes has what its alternatives have
module _ (HasAct : Act → Type 0) (HasCode : Code → Type 0) (HasArms : Arms → Type 0)
    (as_block : (b : Code) → HasCode b → HasAct (as_act b)) (failing : HasCode (end (leaf fail)))
    (split : (s : Shape) (b : Code) (as' : Arms) → HasArms (arm s b as') → HasCode b
    × HasArms as') where
  first_has : (as' : Arms) → HasArms as' → HasAct (first_act as')
  first_has no_arm h = as_block (end (leaf fail)) failing
  first_has (arm s b as') h = as_block b (split s b as' h).0

  pub case_has : (facts : Facts) (v : V.Val) (as' : Arms) → HasArms as' → HasAct (case v as')
      → HasAct (simple_case facts v as')
  case_has facts v as' h k = case_by facts v as' HasAct
      (λ t b q e. as_block b
      (taken_has HasCode HasArms failing t (known_second_word facts v)
      (λ s b as' h. ((λ _. (split s b as' h).0), (split s b as' h).1)) as' h b e))
      (λ u e q. subst HasAct e (first_has as' h)) (λ n q. k)
