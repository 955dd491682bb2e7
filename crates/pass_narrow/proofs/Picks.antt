-- Words that stay, in a run.
use Rattle.std.proofs.Common.{◌≡◌, ℕ, zero, suc, ◌≤◌, Bool, true, false, cond, not, ◌&&◌, nat_eq, nat_le, List, [], ◌∷◌, length, drop, take, Option, Some, None, slice_get, refl, sym, ap, ◌∙◌, subst, arith}
use Rattle.std.proofs.lemmas.Bool.Decides.{nat_tests}
use Rattle.seq.proofs.Lists.{none_is_some, some_is}
use Rattle.seq.proofs.Truth.{and_left, and_right, true_not_false}
use Rattle.seq.proofs.Order.{eq_from}
use Rattle.grin_syntax.specs.declared.program.VarId.{VarId}
use Rattle.grin_syntax.specs.declared.program.Tag.{Tag}
use Rattle.grin_syntax.specs.declared.program.Word as W
use Rattle.grin_syntax.specs.Tree.{Program}
use Rattle.grin_meaning.specs.Values.{Datum, number, tag, cell, Node, Value, words, Env, and_then, Binding, with_vars, one_each, word_of, words_of}
use Rattle.grin_meaning.specs.Checks.{is_none_or, is_zero, all_zero, number_then_zeros, plain_after, is_delayed, not_delayed, is_given, is_filled}
use Rattle.grin_meaning.proofs.Plain.{Has}
use Rattle.seq.specs.Lists.{is_among}
use Rattle.pass_narrow.specs.Picked.{picked, stay}

-- ---- lists

pub picked_shorter : {A : Type 0} (bs : List Bool) (xs : List A) → length (picked bs xs) ≤ length xs
picked_shorter [] xs = omega arith
picked_shorter (b ∷ bs) [] = omega arith
picked_shorter (true ∷ bs) (x ∷ xs) = let h : length (picked bs xs) ≤ length xs
    = picked_shorter bs xs in omega (arith, h)
picked_shorter (false ∷ bs) (x ∷ xs) = let h : length (picked bs xs) ≤ length xs
    = picked_shorter bs xs in omega (arith, h)

picked_zero : (bs : List Bool) (ds : List Datum) → all_zero ds ≡ true
    → all_zero (picked bs ds) ≡ true
picked_zero [] ds h = refl
picked_zero (b ∷ bs) [] h = refl
picked_zero (true ∷ bs) (d ∷ ds) h = λ i. and_left (is_zero d) (all_zero ds) h i && picked_zero bs
    ds (and_right (is_zero d) (all_zero ds) h) i
picked_zero (false ∷ bs) (d ∷ ds) h = picked_zero bs ds (and_right (is_zero d) (all_zero ds) h)

drop_one_more : (k : ℕ) (ds : List Datum) → all_zero (drop k ds) ≡ true
    → all_zero (drop (suc k) ds) ≡ true
drop_one_more zero [] h = refl
drop_one_more zero (d ∷ ds) h = and_right (is_zero d) (all_zero ds) h
drop_one_more (suc k) [] h = refl
drop_one_more (suc k) (d ∷ ds) h = drop_one_more k ds h

no_drop : (k : ℕ) → all_zero (drop k []) ≡ true
no_drop zero = refl
no_drop (suc k) = refl

picked_drop : (k : ℕ) (bs : List Bool) (ds : List Datum) → all_zero (drop k ds) ≡ true
    → all_zero (drop k (picked bs ds)) ≡ true
picked_drop zero bs ds h = picked_zero bs ds h
picked_drop (suc k) [] ds h = refl
picked_drop (suc k) (b ∷ bs) [] h = refl
picked_drop (suc k) (true ∷ bs) (d ∷ ds) h = picked_drop k bs ds h
picked_drop (suc k) (false ∷ bs) (d ∷ ds) h = drop_one_more k (picked bs ds) (picked_drop k bs ds h)

-- ---- words

module _ (g : Program) (env : Env) where
  pub words_picked : (bs : List Bool) (ws : List W.Word) (ds : List Datum)
      → words_of g env ws ≡ Some ds → words_of g env (picked bs ws) ≡ Some (picked bs ds)
  words_picked [] ws ds e = refl
  words_picked (b ∷ bs) [] ds e = ap (λ l. Some (picked (b ∷ bs) l)) (some_is e)
  words_picked (b ∷ bs) (a ∷ ws) ds e = here (λ es r. words_picked bs ws es r) (word_of g env a)
      refl (words_of g env ws) refl e
    where
      more : (d : Datum) (es : List Datum) → word_of g env a ≡ Some d
          → words_of g env (picked bs ws) ≡ Some (picked bs es) → (b : Bool)
          → words_of g env (cond b (a ∷ picked bs ws) (picked bs ws)) ≡ Some
          (cond b (d ∷ picked bs es) (picked bs es))
      more d es p h true = λ i. and_then (p i) (λ d. and_then (h i) (λ ds. Some (d ∷ ds)))
      more d es p h false = h

      here : ((es : List Datum) → words_of g env ws ≡ Some es
          → words_of g env (picked bs ws) ≡ Some (picked bs es)) → (o : Option Datum)
          → word_of g env a ≡ o → (q : Option (List Datum)) → words_of g env ws ≡ q
          → and_then o (λ d. and_then q (λ ds. Some (d ∷ ds))) ≡ Some ds
          → words_of g env (picked (b ∷ bs) (a ∷ ws)) ≡ Some (picked (b ∷ bs) ds)
      here later None p q r e = none_is_some e
      here later (Some d) p None r e = none_is_some e
      here later (Some d) p (Some es) r e = more d es p (later es r) b ∙ ap
          (λ l. Some (picked (b ∷ bs) l)) (some_is e)

-- ---- what is left of a vector is looked at as the vector was

module _ (g : Program) where
  -- no tag of the program
  abbrev pub NoTag : Datum → Type 0
  NoTag d = (t : ℕ) (i : Tag) → d ≡ tag t → slice_get g.tags t ≡ Some i → ⊥

  abbrev pub NoNumberTag : Datum → Type 0
  NoNumberTag d = d ≡ tag 0 → ⊥

  abbrev pub FirstIs : (Datum → Type 0) → List Datum → Type 0
  FirstIs P [] = Unit {0}
  FirstIs P (d ∷ ds) = P d

  abbrev pub MayGo : List Bool → List Datum → Type 0
  MayGo [] ds = Unit {0}
  MayGo (false ∷ bs) ds = FirstIs NoTag (picked (false ∷ bs) ds)
  MayGo (true ∷ []) ds = FirstIs NoNumberTag ds
  MayGo (true ∷ false ∷ bs) ds = FirstIs NoNumberTag ds
  MayGo (true ∷ true ∷ bs) ds = Unit {0}

  module _ (first : (i : Tag) × (slice_get g.tags 0 ≡ Some i)) where
    -- words that begin with no tag are as they should be
    begins_plainly : (ds : List Datum) → FirstIs NoTag ds → (is_given g (words ds) ≡ true)
        × (is_filled g ds ≡ true)
    begins_plainly [] h = (refl, refl)
    begins_plainly (number k ∷ ds) h = (refl, refl)
    begins_plainly (cell a ∷ ds) h = (refl, refl)
    begins_plainly (tag t ∷ ds) h = go (slice_get g.tags t) refl
      where
        other : (b : Bool) → nat_eq t 0 ≡ b → cond b (number_then_zeros ds) true ≡ true
        other true e = absurd (h 0 first.0 (ap tag (eq_from t 0 e)) first.1)
        other false e = refl

        go : (o : Option Tag) → slice_get g.tags t ≡ o → (is_given g (words (tag t ∷ ds)) ≡ true)
            × (is_filled g (tag t ∷ ds) ≡ true)
        go (Some i) e = absurd (h t i refl e)
        go None e = (
          (λ j. is_none_or
              (and_then (and_then (e j) (λ i. Some i.fields))
              (λ k. cond (nat_le k (length ds)) (Some (record { tag = t; fields = take k ds }))
              None)) (λ (n : Node). not (is_delayed g n.tag))
              && other (nat_eq t 0) refl j),
          (λ j. is_none_or (and_then (e j) (λ i. Some i.fields)) (λ k. all_zero (drop k ds))),
        )

    -- ---- where the tag stays

    module _ (t : ℕ) (bs : List Bool) (ds : List Datum) where
      not_delayed_too : not_delayed g (words (tag t ∷ ds)) ≡ true
          → not_delayed g (words (tag t ∷ picked bs ds)) ≡ true
      not_delayed_too h = go (and_then (slice_get g.tags t) (λ i. Some i.fields)) h
        where
          less : (k : ℕ) (b c : Bool) → nat_le k (length ds) ≡ b
              → nat_le k (length (picked bs ds)) ≡ c
              → is_none_or (cond b (Some (record { tag = t; fields = take k ds })) None)
              (λ (n : Node). not (is_delayed g n.tag)) ≡ true
              → is_none_or (cond c (Some (record { tag = t; fields = take k (picked bs ds) })) None)
              (λ (n : Node). not (is_delayed g n.tag)) ≡ true
          less k b false p q h = refl
          less k true true p q h = h
          less k false true p q h = let s : length (picked bs ds) ≤ length ds = picked_shorter bs ds
              in let l : k ≤ length (picked bs ds) = grind (arith, nat_tests, q) in let m
              : nat_le k (length ds) ≡ true = grind (arith, nat_tests) in true_not_false (sym m ∙ p)

          go : (o : Option ℕ) → is_none_or
              (and_then o
              (λ k. cond (nat_le k (length ds)) (Some (record { tag = t; fields = take k ds }))
              None)) (λ (n : Node). not (is_delayed g n.tag)) ≡ true
              → is_none_or
              (and_then o
              (λ k. cond (nat_le k (length (picked bs ds)))
              (Some (record { tag = t; fields = take k (picked bs ds) })) None))
              (λ (n : Node). not (is_delayed g n.tag)) ≡ true
          go None h = refl
          go (Some k) h = less k (nat_le k (length ds)) (nat_le k (length (picked bs ds))) refl refl
              h

      filled_too : is_filled g (tag t ∷ ds) ≡ true → is_filled g (tag t ∷ picked bs ds) ≡ true
      filled_too h = go (and_then (slice_get g.tags t) (λ i. Some i.fields)) h
        where
          go : (o : Option ℕ) → is_none_or o (λ k. all_zero (drop k ds)) ≡ true
              → is_none_or o (λ k. all_zero (drop k (picked bs ds))) ≡ true
          go None h = refl
          go (Some k) h = picked_drop k bs ds h

    number_too : (bs : List Bool) (ds : List Datum) → number_then_zeros ds ≡ true
        → number_then_zeros (picked (true ∷ bs) ds) ≡ true
    number_too bs [] h = true_not_false (sym h)
    number_too bs (number k ∷ ds) h = picked_zero bs ds h
    number_too bs (tag t ∷ ds) h = true_not_false (sym h)
    number_too bs (cell a ∷ ds) h = true_not_false (sym h)

    plain_too : (t : ℕ) (bs : List Bool) (ds : List Datum) → MayGo (true ∷ bs) (tag t ∷ ds)
        → plain_after t ds ≡ true → plain_after t (picked bs ds) ≡ true
    plain_too t bs ds m h = go (nat_eq t 0) refl h
      where
        never : (bs : List Bool) → MayGo (true ∷ bs) (tag t ∷ ds) → nat_eq t 0 ≡ true
            → number_then_zeros ds ≡ true → number_then_zeros (picked bs ds) ≡ true
        never [] m e h = absurd (m (ap tag (eq_from t 0 e)))
        never (false ∷ bs) m e h = absurd (m (ap tag (eq_from t 0 e)))
        never (true ∷ bs) m e h = number_too bs ds h

        go : (b : Bool) → nat_eq t 0 ≡ b → cond b (number_then_zeros ds) true ≡ true
            → cond b (number_then_zeros (picked bs ds)) true ≡ true
        go false e h = refl
        go true e h = never bs m e h

    pub given_picked : (bs : List Bool) (ds : List Datum) → MayGo bs ds
        → is_given g (words ds) ≡ true → is_given g (words (picked bs ds)) ≡ true
    given_picked [] ds m h = refl
    given_picked (b ∷ bs) [] m h = refl
    given_picked (false ∷ bs) (d ∷ ds) m h = (begins_plainly (picked bs ds) m).0
    given_picked (true ∷ bs) (number k ∷ ds) m h = refl
    given_picked (true ∷ bs) (cell a ∷ ds) m h = refl
    given_picked (true ∷ bs) (tag t ∷ ds) m h = λ i. not_delayed_too t bs ds
        (and_left (not_delayed g (words (tag t ∷ ds))) (plain_after t ds) h) i && plain_too t bs ds
        m (and_right (not_delayed g (words (tag t ∷ ds))) (plain_after t ds) h) i

    pub filled_picked : (bs : List Bool) (ds : List Datum) → MayGo bs ds → is_filled g ds ≡ true
        → is_filled g (picked bs ds) ≡ true
    filled_picked [] ds m h = refl
    filled_picked (b ∷ bs) [] m h = refl
    filled_picked (false ∷ bs) (d ∷ ds) m h = (begins_plainly (picked bs ds) m).1
    filled_picked (true ∷ bs) (number k ∷ ds) m h = refl
    filled_picked (true ∷ bs) (cell a ∷ ds) m h = refl
    filled_picked (true ∷ bs) (tag t ∷ ds) m h = filled_too t bs ds h

-- ---- what a target binds

module _ (used : List ℕ) where
  abbrev pub Used : ℕ → Type 0
  Used x = is_among x used ≡ true

  abbrev pub StillBound : List VarId → List Datum → List Binding → Env → Env → Type 0
  StillBound xs ds bs env env' = (bs' : List Binding)
      × (one_each (picked (stay used xs) xs) (picked (stay used xs) ds) ≡ Some bs')
      × Has Used (with_vars bs env) (with_vars bs' env')

  had_more : (x : VarId) (v : Value) (env env' : Env) → Has Used env env'
      → Has Used (λ y. cond (nat_eq y x.0) (Some v) (env y))
      (λ y. cond (nat_eq y x.0) (Some v) (env' y))
  had_more x v env env' has y u k = go (nat_eq y x.0)
    where
      go : (b : Bool) → cond b (Some v) (env y) ≡ Some u → cond b (Some v) (env' y) ≡ Some u
      go true e = e
      go false e = has y u k e

  had_less : (x : VarId) (v : Value) (env env' : Env) → is_among x.0 used ≡ false
      → Has Used env env' → Has Used (λ y. cond (nat_eq y x.0) (Some v) (env y)) env'
  had_less x v env env' not has y u k = go (nat_eq y x.0) refl
    where
      go : (b : Bool) → nat_eq y x.0 ≡ b → cond b (Some v) (env y) ≡ Some u → env' y ≡ Some u
      go true q e = true_not_false (sym k ∙ ap (λ z. is_among z used) (eq_from y x.0 q) ∙ not)
      go false q e = has y u k e

  -- the variables that are used are bound as they were
  pub bound_picked : (xs : List VarId) (ds : List Datum) (bs : List Binding) (env env' : Env)
      → one_each xs ds ≡ Some bs → Has Used env env' → StillBound xs ds bs env env'
  bound_picked [] [] bs env env' e has =
      ([], refl, subst (λ l. Has Used (with_vars l env) env') (some_is e) has)
  bound_picked [] (d ∷ ds) bs env env' e has = none_is_some e
  bound_picked (x ∷ xs) [] bs env env' e has = none_is_some e
  bound_picked (x ∷ xs) (d ∷ ds) bs env env' e has = here
      (λ cs env2 env2' r h. bound_picked xs ds cs env2 env2' r h) (one_each xs ds) refl e
    where
      Later : Type 0
      Later = (cs : List Binding) (env2 env2' : Env) → one_each xs ds ≡ Some cs
          → Has Used env2 env2' → StillBound xs ds cs env2 env2'

      v : Value
      v = words (d ∷ [])

      stays : (cs : List Binding) → is_among x.0 used ≡ true
          → StillBound xs ds cs (λ y. cond (nat_eq y x.0) (Some v) (env y))
          (λ y. cond (nat_eq y x.0) (Some v) (env' y))
          → StillBound (x ∷ xs) (d ∷ ds) ((x.0, v) ∷ cs) env env'
      stays cs u k = (
        (x.0, v) ∷ k.0,
        (λ i. one_each (cond (u i) (x ∷ picked (stay used xs) xs) (picked (stay used xs) xs))
            (cond (u i) (d ∷ picked (stay used xs) ds) (picked (stay used xs) ds))) ∙ ap
            (λ o. and_then o (λ bs. Some ((x.0, v) ∷ bs))) k.1,
        k.2,
      )

      goes : (cs : List Binding) → is_among x.0 used ≡ false
          → StillBound xs ds cs (λ y. cond (nat_eq y x.0) (Some v) (env y)) env'
          → StillBound (x ∷ xs) (d ∷ ds) ((x.0, v) ∷ cs) env env'
      goes cs u k = (
        k.0,
        (λ i. one_each (cond (u i) (x ∷ picked (stay used xs) xs) (picked (stay used xs) xs))
            (cond (u i) (d ∷ picked (stay used xs) ds) (picked (stay used xs) ds))) ∙ k.1,
        k.2,
      )

      either : Later → (b : Bool) → is_among x.0 used ≡ b → (cs : List Binding)
          → one_each xs ds ≡ Some cs → StillBound (x ∷ xs) (d ∷ ds) ((x.0, v) ∷ cs) env env'
      either later true u cs r = stays cs u
          (later cs (λ y. cond (nat_eq y x.0) (Some v) (env y))
          (λ y. cond (nat_eq y x.0) (Some v) (env' y)) r (had_more x v env env' has))
      either later false u cs r = goes cs u
          (later cs (λ y. cond (nat_eq y x.0) (Some v) (env y)) env' r
          (had_less x v env env' u has))

      here : Later → (o : Option (List Binding)) → one_each xs ds ≡ o
          → and_then o (λ bs. Some ((x.0, words (d ∷ [])) ∷ bs)) ≡ Some bs
          → StillBound (x ∷ xs) (d ∷ ds) bs env env'
      here later None r e = none_is_some e
      here later (Some cs) r e = subst (λ l. StillBound (x ∷ xs) (d ∷ ds) l env env') (some_is e)
          (either later (is_among x.0 used) refl cs r)
