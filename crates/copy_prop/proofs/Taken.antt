-- Copies: which variables they bind, that their words are well formed, and that a run gives each
-- variable its word.
use Rattle.std.proofs.Common.{◌≡◌, ℕ, zero, suc, ◌+◌, ◌<◌, ◌≤◌, pos, nat_eq, cond, Bool, true, false, List, [], ◌∷◌, ◌++◌, take, length, get_or, Option, Some, None, refl, sym, ap, ◌∙◌, subst, arith}
use Rattle.std.proofs.lemmas.List.{take_more}
use Rattle.seq.proofs.Lists.{some_is, none_is_some}
use Rattle.grin_syntax.specs.declared.program.VarId.{VarId}
use Rattle.grin_syntax.specs.declared.program.TagId.{TagId}
use Rattle.grin_syntax.specs.declared.program.Target.{Target}
use Rattle.grin_syntax.specs.declared.program.Target.TheVariants as to
use Rattle.grin_syntax.specs.declared.program.Word as W
use Rattle.grin_syntax.specs.declared.program.Word.TheVariants.{Lit, TagWord}
use Rattle.grin_syntax.specs.declared.program.Val as V
use Rattle.grin_syntax.specs.declared.program.Val.TheVariants.{NodeVar, Node, Vector, One}
use Rattle.grin_syntax.specs.Tree.{Act, leaf, unit, case, nested, Program}
use Rattle.grin_syntax.specs.Binders.{numbers_of, target_vars}
use Rattle.grin_syntax.specs.Formed.{AllOf, Scope, WordFormed, ValFormed}
use Rattle.grin_meaning.specs.Values as value
use Rattle.grin_meaning.specs.Values.{Datum, number, tag, Value, words, Env, and_then, Binding, one_each, padded, fields_of, made_node, word_of, words_of, value_of, bindings_of}
use Rattle.copy_prop.specs.Copies.{Alias, zipped_aliases, zeros_after, copies_of_val, copies_of}
use Rattle.copy_prop.specs.Copied.{IsTaken, IsCopy}

some_and : {A B : Type 0} (o : Option A) (f : A → Option B) (b : B) → and_then o f ≡ Some b
    → (a : A) × (o ≡ Some a) × (f a ≡ Some b)
some_and None f b e = none_is_some e
some_and (Some a) f b e = (a, refl, e)

-- ---- the loops

pub paired_next : (xs : List VarId) (ws : List W.Word) (i : ℕ) (x : VarId) (w : W.Word)
    (made : List Alias) → i < length xs → length xs ≡ length ws
    → zipped_aliases (take i xs) (take i ws) ≡ Some made
    → zipped_aliases (take (i + 1) xs) (take (i + 1) ws) ≡ Some
    (made ++ record { var = get_or xs i x; word = get_or ws i w } ∷ [])
paired_next xs ws i x w made lt same e =
    (λ j. zipped_aliases (take_more xs i x lt j) (take_more ws i w (omega (arith, lt, same)) j)) ∙
    push (take i xs) (take i ws) made e
  where
    push : (us : List VarId) (vs : List W.Word) (done : List Alias)
        → zipped_aliases us vs ≡ Some done → zipped_aliases (us ++ get_or xs i x ∷ [])
        (vs ++ get_or ws i w ∷ []) ≡ Some
        (done ++ record { var = get_or xs i x; word = get_or ws i w } ∷ [])
    push [] [] done e = ap
        (λ l. Some (l ++ record { var = get_or xs i x; word = get_or ws i w } ∷ [])) (some_is e)
    push [] (v ∷ vs) done e = none_is_some e
    push (u ∷ us) [] done e = none_is_some e
    push (u ∷ us) (v ∷ vs) done e =
        let z : (r : List Alias) × (zipped_aliases us vs ≡ Some r)
        × (Some (record { var = u; word = v } ∷ r) ≡ Some done)
        = some_and (zipped_aliases us vs) (λ r. Some (record { var = u; word = v } ∷ r)) done e
        in
        ap (λ o. and_then o (λ r. Some (record { var = u; word = v } ∷ r))) (push us vs z.0 z.1) ∙
        ap (λ l. Some (l ++ record { var = get_or xs i x; word = get_or ws i w } ∷ []))
        (some_is z.2)

take_whole : {X : Type 0} (xs : List X) (i : ℕ) → length xs ≤ i → take i xs ≡ xs
take_whole [] zero h = refl
take_whole [] (suc i) h = refl
take_whole (x ∷ xs) zero h = absurd (omega (arith, h))
take_whole (x ∷ xs) (suc i) h = ap (λ l. x ∷ l) (take_whole xs i (omega (arith, h)))

pub paired_done : (xs : List VarId) (ws : List W.Word) (i : ℕ) (made : List Alias) → length xs ≤ i
    → length xs ≡ length ws → zipped_aliases (take i xs) (take i ws) ≡ Some made
    → Some made ≡ zipped_aliases xs ws
paired_done xs ws i made le same e = sym e ∙
    (λ j. zipped_aliases (take_whole xs i le j) (take_whole ws i (omega (arith, le, same)) j))

pub paired_not : (xs : List VarId) (ws : List W.Word) → (length xs ≡ length ws → ⊥)
    → None ≡ zipped_aliases xs ws
paired_not [] [] h = absurd (h refl)
paired_not [] (w ∷ ws) h = refl
paired_not (x ∷ xs) [] h = refl
paired_not (x ∷ xs) (w ∷ ws) h = ap (λ o. and_then o (λ r. Some (record { var = x; word = w } ∷ r)))
    (paired_not xs ws (λ e. h (ap suc e)))

pub zeros_more : (n : ℕ) (ws : List W.Word) → length ws < n
    → zeros_after n (ws ++ Lit (pos 0) ∷ []) ≡ zeros_after n ws
zeros_more zero ws h = absurd (omega (arith, h))
zeros_more (suc n) [] h = refl
zeros_more (suc n) (w ∷ ws) h = ap (λ l. w ∷ l) (zeros_more n ws (omega (arith, h)))

pub zeros_next : (n k : ℕ) (ws new all : List W.Word) → k < n → new ≡ ws ++ Lit (pos 0) ∷ []
    → length ws ≡ k → zeros_after n ws ≡ zeros_after n all → (length new ≡ k + 1)
    × (zeros_after n new ≡ zeros_after n all)
zeros_next n k ws new all lt e many same =
    let m : length (ws ++ Lit (pos 0) ∷ []) ≡ length ws + 1 = one_longer ws in (
      ap length e ∙ m ∙ ap (λ i. i + 1) many,
      ap (zeros_after n) e ∙ zeros_more n ws
          (omega (arith, lt, many)) ∙ same,
    )
  where
    one_longer : (ws : List W.Word) → length (ws ++ Lit (pos 0) ∷ []) ≡ length ws + 1
    one_longer [] = refl
    one_longer (w ∷ ws) = let h : length (ws ++ Lit (pos 0) ∷ []) ≡ length ws + 1 = one_longer ws
        in omega (arith, h)

pub zeros_done : (n : ℕ) (ws : List W.Word) → n ≤ length ws → zeros_after n ws ≡ ws
zeros_done zero ws h = refl
zeros_done (suc n) [] h = absurd (omega (arith, h))
zeros_done (suc n) (w ∷ ws) h = ap (λ l. w ∷ l) (zeros_done n ws (omega (arith, h)))

-- ---- what is a copy

paired_there : (xs : List VarId) (ws : List W.Word) → length xs ≡ length ws
    → zipped_aliases xs ws ≡ None → ⊥
paired_there [] [] h e = cc
paired_there [] (w ∷ ws) h e = cc
paired_there (x ∷ xs) [] h e = cc
paired_there (x ∷ xs) (w ∷ ws) h e = go (zipped_aliases xs ws) refl e
    (paired_there xs ws (omega (arith, h)))
  where
    go : (o : Option (List Alias)) → zipped_aliases xs ws ≡ o
        → and_then o (λ r. Some (record { var = x; word = w } ∷ r)) ≡ None
        → (zipped_aliases xs ws ≡ None → ⊥) → ⊥
    go None q e k = k q
    go (Some r) q e k = cc

zeros_many : (n : ℕ) (ws : List W.Word) → length ws ≤ n → n ≡ length (zeros_after n ws)
zeros_many zero ws h = omega (arith, h)
zeros_many (suc n) [] h = ap suc (zeros_many n [] (omega arith))
zeros_many (suc n) (w ∷ ws) h = ap suc (zeros_many n ws (omega (arith, h)))

taken_found : (t : Target) (v : V.Val) → copies_of_val t v ≡ None → IsTaken t v → ⊥
taken_found to.Nothing v e h = h
taken_found (to.Node x) v e h = h
taken_found (to.One x) (One w) e h = cc
taken_found (to.One x) (Vector ws) e h = paired_there (x ∷ []) ws (sym h) e
taken_found (to.One x) (Node t ws) e h = h
taken_found (to.One x) (NodeVar y) e h = h
taken_found (to.Vector xs) (One w) e h = paired_there xs (w ∷ []) h e
taken_found (to.Vector xs) (Vector ws) e h = paired_there xs ws h e
taken_found (to.Vector xs) (Node t ws) e h = paired_there xs
    (zeros_after (length xs) (TagWord t ∷ ws))
    (zeros_many (length xs) (TagWord t ∷ ws) (omega (arith, h))) e
taken_found (to.Vector xs) (NodeVar y) e h = h

pub copy_found : (t : Target) (o : Act) → copies_of t o ≡ None → IsCopy t o → ⊥
copy_found t (leaf (unit v)) e h = taken_found t v e h
copy_found t (leaf _) e h = h
copy_found t (case v as') e h = h
copy_found t (nested b) e h = h

pub copy_is : (t : Target) (o : Act) (as' : List Alias) → copies_of t o ≡ Some as' → (v : V.Val)
    × (o ≡ leaf (unit v)) × (copies_of_val t v ≡ Some as')
copy_is t (leaf (unit v)) as' e = (v, refl, e)
copy_is t (leaf _) as' e = none_is_some e
copy_is t (case v bs) as' e = none_is_some e
copy_is t (nested b) as' e = none_is_some e

-- ---- the variables

abbrev pub alias_vars : List Alias → List ℕ
alias_vars [] = []
alias_vars (a ∷ as') = a.var.0 ∷ alias_vars as'

paired_vars : (xs : List VarId) (ws : List W.Word) (as' : List Alias)
    → zipped_aliases xs ws ≡ Some as' → alias_vars as' ≡ numbers_of xs
paired_vars [] [] as' e = ap alias_vars (sym (some_is e))
paired_vars [] (w ∷ ws) as' e = none_is_some e
paired_vars (x ∷ xs) [] as' e = none_is_some e
paired_vars (x ∷ xs) (w ∷ ws) as' e =
    let z : (r : List Alias) × (zipped_aliases xs ws ≡ Some r)
    × (Some (record { var = x; word = w } ∷ r) ≡ Some as')
    = some_and (zipped_aliases xs ws) (λ r. Some (record { var = x; word = w } ∷ r)) as' e in
    ap alias_vars (sym (some_is z.2)) ∙ ap (λ l. x.0 ∷ l) (paired_vars xs ws z.0 z.1)

val_vars : (t : Target) (v : V.Val) (as' : List Alias) → copies_of_val t v ≡ Some as'
    → alias_vars as' ≡ target_vars t
val_vars to.Nothing v as' e = none_is_some e
val_vars (to.Node x) v as' e = none_is_some e
val_vars (to.One x) (One w) as' e = paired_vars (x ∷ []) (w ∷ []) as' e
val_vars (to.One x) (Vector ws) as' e = paired_vars (x ∷ []) ws as' e
val_vars (to.One x) (Node t ws) as' e = none_is_some e
val_vars (to.One x) (NodeVar y) as' e = none_is_some e
val_vars (to.Vector xs) (One w) as' e = paired_vars xs (w ∷ []) as' e
val_vars (to.Vector xs) (Vector ws) as' e = paired_vars xs ws as' e
val_vars (to.Vector xs) (Node t ws) as' e = paired_vars xs
    (zeros_after (length xs) (TagWord t ∷ ws)) as' e
val_vars (to.Vector xs) (NodeVar y) as' e = none_is_some e

pub copy_vars : (t : Target) (o : Act) (as' : List Alias) → copies_of t o ≡ Some as'
    → alias_vars as' ≡ target_vars t
copy_vars t o as' e = let z : (v : V.Val) × (o ≡ leaf (unit v)) × (copies_of_val t v ≡ Some as')
    = copy_is t o as' e in val_vars t z.0 as' z.2

-- ---- the words

module _ (F : W.Word → Type 0) where
  paired_all : (xs : List VarId) (ws : List W.Word) (as' : List Alias)
      → zipped_aliases xs ws ≡ Some as' → AllOf F ws → AllOf (λ a. F a.word) as'
  paired_all [] [] as' e f = subst (AllOf (λ a. F a.word)) (some_is e) tt
  paired_all [] (w ∷ ws) as' e f = none_is_some e
  paired_all (x ∷ xs) [] as' e f = none_is_some e
  paired_all (x ∷ xs) (w ∷ ws) as' e f =
      let z : (r : List Alias) × (zipped_aliases xs ws ≡ Some r)
      × (Some (record { var = x; word = w } ∷ r) ≡ Some as')
      = some_and (zipped_aliases xs ws) (λ r. Some (record { var = x; word = w } ∷ r)) as' e in
      subst (AllOf (λ a. F a.word)) (some_is z.2) (f.0, paired_all xs ws z.0 z.1 f.1)

  zeros_all : ((i : Rattle.std.specs.Prelude.ℤ) → F (Lit i)) → (n : ℕ) (ws : List W.Word)
      → AllOf F ws → AllOf F (zeros_after n ws)
  zeros_all lit zero ws f = f
  zeros_all lit (suc n) [] f = (lit (pos 0), zeros_all lit n [] tt)
  zeros_all lit (suc n) (w ∷ ws) f = (f.0, zeros_all lit n ws f.1)

  -- each word that a unit gives
  abbrev pub EachWord : V.Val → Type 0
  EachWord (NodeVar y) = Unit {0}
  EachWord (Node t ws) = F (TagWord t) × AllOf F ws
  EachWord (Vector ws) = AllOf F ws
  EachWord (One w) = F w

  pub val_each : ((i : Rattle.std.specs.Prelude.ℤ) → F (Lit i))
      → (t : Target) (v : V.Val) (as' : List Alias) → copies_of_val t v ≡ Some as' → EachWord v
      → AllOf (λ a. F a.word) as'
  val_each lit to.Nothing v as' e f = none_is_some e
  val_each lit (to.Node x) v as' e f = none_is_some e
  val_each lit (to.One x) (One w) as' e f = paired_all (x ∷ []) (w ∷ []) as' e (f, tt)
  val_each lit (to.One x) (Vector ws) as' e f = paired_all (x ∷ []) ws as' e f
  val_each lit (to.One x) (Node t ws) as' e f = none_is_some e
  val_each lit (to.One x) (NodeVar y) as' e f = none_is_some e
  val_each lit (to.Vector xs) (One w) as' e f = paired_all xs (w ∷ []) as' e (f, tt)
  val_each lit (to.Vector xs) (Vector ws) as' e f = paired_all xs ws as' e f
  val_each lit (to.Vector xs) (Node t ws) as' e f = paired_all xs
      (zeros_after (length xs) (TagWord t ∷ ws)) as' e
      (zeros_all lit (length xs) (TagWord t ∷ ws) f)
  val_each lit (to.Vector xs) (NodeVar y) as' e f = none_is_some e

module _ (g : Program) (scope : Scope) where
  -- each word of a copy is well formed
  abbrev pub WordsFormed : List Alias → Type 0
  WordsFormed as' = AllOf (λ a. WordFormed g scope a.word) as'

  formed_words : (v : V.Val) → ValFormed g scope v → EachWord (WordFormed g scope) v
  formed_words (NodeVar y) f = tt
  formed_words (Node t ws) f = f
  formed_words (Vector ws) f = f
  formed_words (One w) f = f

  pub val_words : (t : Target) (v : V.Val) (as' : List Alias) → copies_of_val t v ≡ Some as'
      → ValFormed g scope v → WordsFormed as'
  val_words t v as' e f = val_each (WordFormed g scope) (λ i. tt) t v as' e (formed_words v f)

-- ---- what a run binds

module _ (g : Program) (env : Env) where
  -- each variable is bound to what its word stands for
  abbrev pub Given : List Alias → List Binding → Type 0
  Given [] [] = Unit {0}
  Given (a ∷ as') (b ∷ bs) =
      ((d : Datum) × (word_of g env a.word ≡ Some d) × (b ≡ (a.var.0, words (d ∷ []))))
      × Given as' bs
  Given [] (b ∷ bs) = ⊥
  Given (a ∷ as') [] = ⊥

  -- the first word and the others
  record Front (w : W.Word) (ws : List W.Word) (ds : List Datum) : Type 0 where
    d : Datum
    es : List Datum
    first : word_of g env w ≡ Some d
    others : words_of g env ws ≡ Some es
    are : d ∷ es ≡ ds

  front : (w : W.Word) (ws : List W.Word) (ds : List Datum) → words_of g env (w ∷ ws) ≡ Some ds
      → Front w ws ds
  front w ws ds e =
      let z : (d : Datum) × (word_of g env w ≡ Some d)
      × (and_then (words_of g env ws) (λ es. Some (d ∷ es)) ≡ Some ds)
      = some_and (word_of g env w) (λ d. and_then (words_of g env ws) (λ es. Some (d ∷ es))) ds
      e in
      let y : (es : List Datum) × (words_of g env ws ≡ Some es) × (Some (z.0 ∷ es) ≡ Some ds)
      = some_and (words_of g env ws) (λ es. Some (z.0 ∷ es)) ds z.2 in
      record { d = z.0; es = y.0; first = z.1; others = y.1; are = some_is y.2 }

  paired_given : (xs : List VarId) (ws : List W.Word) (as' : List Alias) (ds : List Datum)
      (bs : List Binding) → zipped_aliases xs ws ≡ Some as' → words_of g env ws ≡ Some ds
      → one_each xs ds ≡ Some bs → Given as' bs
  paired_given [] [] as' ds bs e f h =
      let k : ◌≡◌ {A = Option (List Binding)} (Some []) (Some bs)
      = subst (λ l. one_each [] l ≡ Some bs) (sym (some_is f)) h in
      subst (λ l. Given l bs) (some_is e) (subst (Given []) (some_is k) tt)
  paired_given [] (w ∷ ws) as' ds bs e f h = none_is_some e
  paired_given (x ∷ xs) [] as' ds bs e f h = none_is_some e
  paired_given (x ∷ xs) (w ∷ ws) as' ds bs e f h =
      let z : (r : List Alias) × (zipped_aliases xs ws ≡ Some r)
      × (Some (record { var = x; word = w } ∷ r) ≡ Some as')
      = some_and (zipped_aliases xs ws) (λ r. Some (record { var = x; word = w } ∷ r)) as' e in
      let y : Front w ws ds = front w ws ds f in
      let k : one_each (x ∷ xs) (y.d ∷ y.es) ≡ Some bs
      = subst (λ l. one_each (x ∷ xs) l ≡ Some bs) (sym y.are) h in
      let u : (cs : List Binding) × (one_each xs y.es ≡ Some cs)
      × (Some ((x.0, words (y.d ∷ [])) ∷ cs) ≡ Some bs)
      = some_and (one_each xs y.es) (λ cs. Some ((x.0, words (y.d ∷ [])) ∷ cs)) bs k in
      subst (λ l. Given l bs) (some_is z.2)
      (subst (Given (record { var = x; word = w } ∷ z.0)) (some_is u.2)
      ((y.d, y.first, refl), paired_given xs ws z.0 y.es u.0 z.1 y.others u.1))

  zeros_given : (n : ℕ) (ws : List W.Word) (ds : List Datum) → words_of g env ws ≡ Some ds
      → words_of g env (zeros_after n ws) ≡ Some (padded n ds)
  zeros_given zero ws ds e = e
  zeros_given (suc n) [] ds e = ap (λ o. and_then o (λ bs. Some (number (pos 0) ∷ bs)))
      (zeros_given n [] [] refl) ∙ ap (λ l. Some (padded (suc n) l)) (some_is e)
  zeros_given (suc n) (w ∷ ws) ds e =
      let y : Front w ws ds = front w ws ds e in
      (λ i. and_then (y.first i)
      (λ b. and_then (zeros_given n ws y.es y.others i) (λ bs. Some (b ∷ bs)))) ∙ ap
      (λ l. Some (padded (suc n) l)) y.are

  one_word : (w : W.Word) (u : Value) → value_of g env (One w) ≡ Some u → (d : Datum)
      × (words_of g env (w ∷ []) ≡ Some (d ∷ [])) × (words (d ∷ []) ≡ u)
  one_word w u e =
      let z : (d : Datum) × (word_of g env w ≡ Some d) × (Some (words (d ∷ [])) ≡ Some u)
      = some_and (word_of g env w) (λ d. Some (words (d ∷ []))) u e in
      (z.0, ap (λ o. and_then o (λ b. Some (b ∷ []))) z.1, some_is z.2)

  all_words : (ws : List W.Word) (u : Value) → value_of g env (Vector ws) ≡ Some u
      → (ds : List Datum) × (words_of g env ws ≡ Some ds) × (words ds ≡ u)
  all_words ws u e =
      let z : (ds : List Datum) × (words_of g env ws ≡ Some ds) × (Some (words ds) ≡ Some u)
      = some_and (words_of g env ws) (λ ds. Some (words ds)) u e in
      (z.0, z.1, some_is z.2)

  node_words : (t : TagId) (ws : List W.Word) (u : Value) → value_of g env (Node t ws) ≡ Some u
      → (ds : List Datum) × (words_of g env ws ≡ Some ds)
      × (value.node (record { tag = t.0; fields = ds }) ≡ u)
  node_words t ws u e =
      let z : (ds : List Datum) × (words_of g env ws ≡ Some ds)
      × (and_then (made_node g t.0 ds) (λ n. Some (value.node n)) ≡ Some u)
      = some_and (words_of g env ws)
      (λ ds. and_then (made_node g t.0 ds) (λ n. Some (value.node n))) u e in
      let y : (n : value.Node) × (made_node g t.0 z.0 ≡ Some n) × (Some (value.node n) ≡ Some u)
      = some_and (made_node g t.0 z.0) (λ n. Some (value.node n)) u z.2 in
      (z.0, z.1, ap value.node (made_is z.0 y.0 y.1) ∙ some_is y.2)
    where
      made_is : (ds : List Datum) (n : value.Node) → made_node g t.0 ds ≡ Some n
          → record { tag = t.0; fields = ds } ≡ n
      made_is ds n e =
          let z : (c : ℕ) × (fields_of g t.0 ≡ Some c)
          × (cond (nat_eq c (length ds)) (Some (record { tag = t.0; fields = ds })) None ≡ Some
          n) = some_and (fields_of g t.0)
          (λ c. cond (nat_eq c (length ds)) (Some (record { tag = t.0; fields = ds })) None) n e
          in
          go (nat_eq z.0 (length ds)) z.2
        where
          go : (b : Bool) → cond b (Some (record { tag = t.0; fields = ds })) None ≡ Some n
              → record { tag = t.0; fields = ds } ≡ n
          go true e = some_is e
          go false e = none_is_some e

  one_binds : (x : VarId) (ds : List Datum) (bs : List Binding)
      → bindings_of g (to.One x) (words ds) ≡ Some bs → one_each (x ∷ []) ds ≡ Some bs
  one_binds x [] bs e = none_is_some e
  one_binds x (d ∷ []) bs e = e
  one_binds x (d ∷ (d' ∷ ds)) bs e = none_is_some e

  pub copy_given : (t : Target) (v : V.Val) (as' : List Alias) (u : Value) (bs : List Binding)
      → copies_of_val t v ≡ Some as' → value_of g env v ≡ Some u → bindings_of g t u ≡ Some bs
      → Given as' bs
  copy_given to.Nothing v as' u bs e f h = none_is_some e
  copy_given (to.Node x) v as' u bs e f h = none_is_some e
  copy_given (to.One x) (One w) as' u bs e f h =
      let z : (d : Datum) × (words_of g env (w ∷ []) ≡ Some (d ∷ [])) × (words (d ∷ []) ≡ u)
      = one_word w u f in
      paired_given (x ∷ []) (w ∷ []) as' (z.0 ∷ []) bs e z.1
      (one_binds x (z.0 ∷ []) bs
      (subst (λ y. bindings_of g (to.One x) y ≡ Some bs) (sym z.2) h))
  copy_given (to.One x) (Vector ws) as' u bs e f h =
      let z : (ds : List Datum) × (words_of g env ws ≡ Some ds) × (words ds ≡ u) = all_words ws u f
      in
      paired_given (x ∷ []) ws as' z.0 bs e z.1
      (one_binds x z.0 bs (subst (λ y. bindings_of g (to.One x) y ≡ Some bs) (sym z.2) h))
  copy_given (to.One x) (Node t ws) as' u bs e f h = none_is_some e
  copy_given (to.One x) (NodeVar y) as' u bs e f h = none_is_some e
  copy_given (to.Vector xs) (One w) as' u bs e f h =
      let z : (d : Datum) × (words_of g env (w ∷ []) ≡ Some (d ∷ [])) × (words (d ∷ []) ≡ u)
      = one_word w u f in
      paired_given xs (w ∷ []) as' (z.0 ∷ []) bs e z.1
      (subst (λ y. bindings_of g (to.Vector xs) y ≡ Some bs) (sym z.2) h)
  copy_given (to.Vector xs) (Vector ws) as' u bs e f h =
      let z : (ds : List Datum) × (words_of g env ws ≡ Some ds) × (words ds ≡ u) = all_words ws u f
      in
      paired_given xs ws as' z.0 bs e z.1
      (subst (λ y. bindings_of g (to.Vector xs) y ≡ Some bs) (sym z.2) h)
  copy_given (to.Vector xs) (Node t ws) as' u bs e f h =
      let z : (ds : List Datum) × (words_of g env ws ≡ Some ds)
      × (value.node (record { tag = t.0; fields = ds }) ≡ u) = node_words t ws u f in
      paired_given xs (zeros_after (length xs) (TagWord t ∷ ws)) as'
      (padded (length xs) (tag t.0 ∷ z.0)) bs e
      (zeros_given (length xs) (TagWord t ∷ ws) (tag t.0 ∷ z.0)
      (ap (λ o. and_then o (λ bs. Some (tag t.0 ∷ bs))) z.1))
      (subst (λ y. bindings_of g (to.Vector xs) y ≡ Some bs) (sym z.2) h)
  copy_given (to.Vector xs) (NodeVar y) as' u bs e f h = none_is_some e
