-- Operands have the words that stand for what the words of GRIN are.
use Rattle.std.proofs.Common.{◌≡◌, ◌<◌, ℕ, zero, suc, ◌+◌, Bool, true, false, cond, List, [], ◌∷◌, ◌++◌, length, Option, Some, None, slice_get, refl, sym, ap, ◌∙◌, subst, arith}
use Rattle.std.specs.Prelude.{nat_eq}
use Rattle.std.proofs.lemmas.Bool.{lt-ltb, eqb-true}
use Rattle.seq.proofs.Lists.{get_within}
use Rattle.numbers.specs.Numbers.{pattern}
use Rattle.grin_syntax.specs.declared.program.VarId.{VarId}
use Rattle.grin_syntax.specs.declared.program.Word as W
use Rattle.grin_syntax.specs.declared.program.Word.TheVariants as word
use Rattle.grin_syntax.specs.declared.program.Val as V
use Rattle.grin_syntax.specs.declared.program.Val.TheVariants as val
use Rattle.grin_syntax.specs.Binders.{numbers_of}
use Rattle.grin_syntax.specs.Formed.{AllOf}
use Rattle.grin_syntax.specs.Tree as grin_tree
use Rattle.grin_meaning.specs.Values as grin
use Rattle.grin_meaning.specs.Values.{Datum, number, tag, cell, Node, Value, node, words, Env, word_of, words_of, value_of}
use Rattle.grin_meaning.specs.Ready.{NoNodeVar}
use Rattle.low_code.specs.declared.program.Operand.{Operand}
use Rattle.low_code.specs.declared.program.Operand.TheVariants.{Var, Num, Cell}
use Rattle.low_code.specs.Tree as low_tree
use Rattle.low_code.specs.Values as low
use Rattle.low_code.specs.Values.{Word, with_var, and_then}
use Rattle.low_code.specs.Run.{operand, operands}
use Rattle.low_translate.specs.Translation.{operand_of, operands_of_words, operands_of, padded_to_width}
use Rattle.low_translate.specs.Lowered.{WordRanged, ValRanged}
use Rattle.low_translate.proofs.Images.{word_image, images, words_of_value, fit, InRange, SoundNode, SoundValue, none_some, some_same}
use Rattle.seq.specs.Lists.{times}
use Rattle.seq.proofs.Counted.{times_append}

-- ---- environments

-- further variables of low code
abbrev pub bound : List ℕ → List Word → low.Env → low.Env
bound [] ws env = env
bound (x ∷ xs) [] env = env
bound (x ∷ xs) (w ∷ ws) env = bound xs ws (with_var x w env)

pub with_vars_bound : (xs : List ℕ) (ws : List Word) (env : low.Env) → length ws ≡ length xs
    → low.with_vars xs ws env ≡ Some (bound xs ws env)
with_vars_bound [] [] env e = refl
with_vars_bound [] (w ∷ ws) env e = absurd (omega (arith, e))
with_vars_bound (x ∷ xs) [] env e = absurd (omega (arith, e))
with_vars_bound (x ∷ xs) (w ∷ ws) env e = with_vars_bound xs ws (with_var x w env)
    (omega (arith, e))

-- an operand is none of these variables
abbrev pub Avoids : List ℕ → Operand → Type 0
Avoids xs (Var y) = times y xs ≡ 0
Avoids xs (Num k) = Unit {0}
Avoids xs (Cell i) = Unit {0}

-- what a variable of GRIN is bound to, which low code has as a word
pub record Held (first : ℕ) (scope : List ℕ) (env : low.Env) (x : ℕ) (v : Value) : Type 0 where
  pub inside : 0 < times x scope
  pub below : x < first
  pub datum : Datum
  pub is : v ≡ words (datum ∷ [])
  pub ranged : InRange datum
  pub found : env x ≡ Some (word_image datum)

abbrev pub Agrees : (first : ℕ) → List ℕ → Env → low.Env → Type 0
Agrees first scope env low_env = (x : ℕ) (v : Value) → env x ≡ Some v → Held first scope low_env x v

-- two that have the same variables of GRIN
abbrev pub Alike : (first : ℕ) → low.Env → low.Env → Type 0
Alike first env env' = (x : ℕ) → x < first → env' x ≡ env x

pub agrees_alike : (first : ℕ) (scope : List ℕ) (env : Env) (e e' : low.Env)
    → Agrees first scope env e → Alike first e e' → Agrees first scope env e'
agrees_alike first scope env e e' a k x v h = let f = a x v h
    in record {
      inside = f.inside;
      below = f.below;
      datum = f.datum;
      is = f.is;
      ranged = f.ranged;
      found
          = k x f.below ∙ f.found;
    }

pub agrees_more : (first : ℕ) (scope scope' : List ℕ) (env : Env) (e : low.Env)
    → ((x : ℕ) → 0 < times x scope → 0 < times x scope') → Agrees first scope env e
    → Agrees first scope' env e
agrees_more first scope scope' env e m a x v h = let f = a x v h
    in record {
      inside = m x f.inside;
      below = f.below;
      datum = f.datum;
      is = f.is;
      ranged = f.ranged;
      found
          = f.found;
    }

-- one variable more
pub agrees_var : (first : ℕ) (scope : List ℕ) (env : Env) (e : low.Env) (x : ℕ) (d : Datum)
    → x < first → InRange d → Agrees first scope env e
    → Agrees first (x ∷ scope) (λ y. cond (nat_eq y x) (Some (words (d ∷ []))) (env y))
    (with_var x (word_image d) e)
agrees_var first scope env e x d lt r a y v h = go (nat_eq y x) refl h
  where
    go : (b : Bool) → nat_eq y x ≡ b → cond b (Some (words (d ∷ []))) (env y) ≡ Some v
        → Held first (x ∷ scope) (with_var x (word_image d) e) y v
    go true q k = record {
      inside = subst (λ b. 0 < cond b 1 0 + times y scope) (sym q) (omega arith);
      below = let s = eqb-true y x q in omega (arith, s, lt);
      datum = d;
      is = sym (some_same k);
      ranged = r;
      found = ap (λ b. cond b (Some (word_image d)) (e y)) q;
    }
    go false q k = let f = a y v k in record {
      inside = subst (λ b. 0 < cond b 1 0 + times y scope) (sym q)
          (let i = f.inside in omega (arith, i));
      below = f.below;
      datum = f.datum;
      is = f.is;
      ranged = f.ranged;
      found = ap (λ b. cond b (Some (word_image d)) (e y)) q ∙ f.found;
    }

-- a word for each variable
pub agrees_each : (first : ℕ) (vars : List VarId) (ds : List Datum) (bs : List grin.Binding)
    (scope : List ℕ) (env : Env) (e : low.Env) → grin.one_each vars ds ≡ Some bs → AllOf InRange ds
    → AllOf (λ x. x < first) (numbers_of vars) → Agrees first scope env e
    → Agrees first (numbers_of vars ++ scope) (grin.with_vars bs env)
    (bound (numbers_of vars) (images ds) e)
agrees_each first [] [] bs scope env e h r b a = subst
    (λ l. Agrees first scope (grin.with_vars l env) e) (some_same h) a
agrees_each first [] (d ∷ ds) bs scope env e h r b a = absurd (none_some h)
agrees_each first (x ∷ vars) [] bs scope env e h r b a = absurd (none_some h)
agrees_each first (x ∷ vars) (d ∷ ds) bs scope env e h r b a
    = go (grin.one_each vars ds) refl h
    (λ l q. agrees_each first vars ds l (x.0 ∷ scope) _ _ q r.1 b.1
    (agrees_var first scope env e x.0 d b.0 r.0 a))
  where
    inner : (y : ℕ) → 0 < times y (numbers_of vars ++ (x.0 ∷ scope))
        → 0 < times y (x.0 ∷ (numbers_of vars ++ scope))
    inner y h = omega (
      arith,
      h,
      times_append y (numbers_of vars) (x.0 ∷ scope),
      times_append y (numbers_of vars) scope,
    )

    go : (o : Option (List grin.Binding)) → grin.one_each vars ds ≡ o
        → grin.and_then o (λ l. Some ((x.0, words (d ∷ [])) ∷ l)) ≡ Some bs
        → ((l : List grin.Binding) → grin.one_each vars ds ≡ Some l
        → Agrees first (numbers_of vars ++ (x.0 ∷ scope))
        (grin.with_vars l (λ y. cond (nat_eq y x.0) (Some (words (d ∷ []))) (env y)))
        (bound (numbers_of vars) (images ds) (with_var x.0 (word_image d) e)))
        → Agrees first (numbers_of (x ∷ vars) ++ scope) (grin.with_vars bs env)
        (bound (numbers_of (x ∷ vars)) (images (d ∷ ds)) e)
    go None q k rec = absurd (none_some k)
    go (Some l) q k rec = subst
        (λ m. Agrees first (numbers_of (x ∷ vars) ++ scope) (grin.with_vars m env)
        (bound (numbers_of (x ∷ vars)) (images (d ∷ ds)) e)) (some_same k)
        (agrees_more first _ _ _ _ inner (rec l q))

-- ---- operands

module _ (g : grin_tree.Program) (p : low_tree.Program) (fw : ℕ → ℕ)
    (same_globals : length p.globals ≡ length g.globals) where
  -- the operand of a word
  pub record Word' (scope : List ℕ) (env : low.Env) (a : Operand) (d : Datum) : Type 0 where
    pub is : operand p fw env a ≡ Some (word_image d)
    pub ranged : InRange d
    pub avoids : (xs : List ℕ) → ((x : ℕ) → 0 < times x scope → times x xs ≡ 0) → Avoids xs a

  pub operand_is : (first : ℕ) (scope : List ℕ) (env : Env) (e : low.Env) → Agrees first scope env e
      → (w : W.Word) (d : Datum) → word_of g env w ≡ Some d → WordRanged w
      → Word' scope e (operand_of w) d
  operand_is first scope env e a (word.Lit k) d h r
      = subst (Word' scope e (Num (pattern k))) (some_same h)
      (record { is = refl; ranged = r; avoids = λ xs m. tt })
  operand_is first scope env e a (word.TagWord t) d h r
      = subst (Word' scope e (Num t.0)) (some_same h)
      (record { is = refl; ranged = tt; avoids = λ xs m. tt })
  operand_is first scope env e a (word.Global i) d h r = go (slice_get g.globals i) refl h
    where
      go : (o : Option _) → slice_get g.globals i ≡ o
          → grin.and_then o (λ c. Some (cell i)) ≡ Some d → Word' scope e (Cell i) d
      go None q k = absurd (none_some k)
      go (Some c) q k =
          let lt : i < length p.globals =
          (let m = get_within g.globals i c q in omega (arith, m, same_globals)) in
          subst (Word' scope e (Cell i)) (some_same k)
          (record {
            is = ap (λ b. cond b (Some (low.cell i)) None)
                (lt-ltb i (length p.globals) lt);
            ranged = tt;
            avoids = λ xs m. tt;
          })
  operand_is first scope env e a (word.Var x) d h r = go (env x.0) refl h
    where
      go : (o : Option Value) → env x.0 ≡ o → grin.and_then o grin.only_word ≡ Some d
          → Word' scope e (Var x.0) d
      go None q k = absurd (none_some k)
      go (Some v) q k =
          let f = a x.0 v q in
          let s : f.datum ≡ d = some_same (ap grin.only_word (sym f.is) ∙ k) in
          subst (Word' scope e (Var x.0)) s
          (record { is = f.found; ranged = f.ranged; avoids = λ xs m. m x.0 f.inside })

  -- operands of several words
  pub record Words (scope : List ℕ) (env : low.Env) (as' : List Operand) (ds : List Datum)
      : Type 0 where
    pub are : operands p fw env as' ≡ Some (images ds)
    pub ranged : AllOf InRange ds
    pub avoid : (xs : List ℕ) → ((x : ℕ) → 0 < times x scope → times x xs ≡ 0)
        → AllOf (Avoids xs) as'

  pub no_words : (scope : List ℕ) (env : low.Env) → Words scope env [] []
  no_words scope env = record { are = refl; ranged = tt; avoid = λ xs m. tt }

  pub more_words : (scope : List ℕ) (env : low.Env) (a : Operand) (as' : List Operand) (d : Datum)
      (ds : List Datum) → Word' scope env a d → Words scope env as' ds
      → Words scope env (a ∷ as') (d ∷ ds)
  more_words scope env a as' d ds w ws = record {
    are = (λ i. and_then (w.is i) (λ b. and_then (ws.are i) (λ bs. Some (b ∷ bs))));
    ranged = (w.ranged, ws.ranged);
    avoid = λ xs m. (w.avoids xs m, ws.avoid xs m);
  }

  pub words_are : (first : ℕ) (scope : List ℕ) (env : Env) (e : low.Env) → Agrees first scope env e
      → (ws : List W.Word) (ds : List Datum) → words_of g env ws ≡ Some ds → AllOf WordRanged ws
      → Words scope e (operands_of_words ws) ds
  words_are first scope env e a [] ds h r = subst (Words scope e []) (some_same h)
      (no_words scope e)
  words_are first scope env e a (w ∷ ws) ds h r = go (word_of g env w) refl (words_of g env ws) refl
      h (λ l qs. words_are first scope env e a ws l qs r.1)
    where
      go : (o : Option Datum) → word_of g env w ≡ o → (os : Option (List Datum))
          → words_of g env ws ≡ os → grin.and_then o (λ b. grin.and_then os (λ bs. Some (b ∷ bs))) ≡
          Some ds
          → ((l : List Datum) → words_of g env ws ≡ Some l → Words scope e (operands_of_words ws) l)
          → Words scope e (operands_of_words (w ∷ ws)) ds
      go None q os qs k rec = absurd (none_some k)
      go (Some d) q None qs k rec = absurd (none_some k)
      go (Some d) q (Some l) qs k rec = subst (Words scope e (operands_of_words (w ∷ ws)))
          (some_same k)
          (more_words scope e _ _ d l (operand_is first scope env e a w d q r.0) (rec l qs))

  -- the operands of a value
  pub record Valued (scope : List ℕ) (env : low.Env) (as' : List Operand) (v : Value) : Type 0 where
    pub words : Words scope env as' (words_of_value v)
    pub sound : SoundValue g v

  made : (t : ℕ) (ds : List Datum) (n : Node) → grin.made_node g t ds ≡ Some n → AllOf InRange ds
      → (n ≡ record { tag = t; fields = ds }) × SoundNode g n
  made t ds n h r = go (grin.fields_of g t) refl h
    where
      sound : (k : ℕ) → grin.fields_of g t ≡ Some k → k ≡ length ds
          → SoundNode g (record { tag = t; fields = ds })
      sound k q e = record { count = k; has = q; few = omega (arith, e); ranged = r }

      go : (o : Option ℕ) → grin.fields_of g t ≡ o → grin.and_then o
          (λ k. cond (nat_eq k (length ds)) (Some (record { tag = t; fields = ds })) None) ≡ Some n
          → (n ≡ record { tag = t; fields = ds }) × SoundNode g n
      go None q k = absurd (none_some k)
      go (Some k) q m = by (nat_eq k (length ds)) refl m
        where
          by : (b : Bool) → nat_eq k (length ds) ≡ b
              → cond b (Some (record { tag = t; fields = ds })) None ≡ Some n
              → (n ≡ record { tag = t; fields = ds }) × SoundNode g n
          by true e m = (
            sym (some_same m),
            subst (SoundNode g) (some_same m)
                (sound k q (eqb-true k (length ds) e)),
          )
          by false e m = absurd (none_some m)

  pub value_is : (first : ℕ) (scope : List ℕ) (env : Env) (e : low.Env) → Agrees first scope env e
      → (v : V.Val) (x : Value) → value_of g env v ≡ Some x → NoNodeVar v → ValRanged v
      → Valued scope e (operands_of v) x
  value_is first scope env e a (val.NodeVar y) x h n r = absurd n
  value_is first scope env e a (val.One w) x h n r = go (word_of g env w) refl h
    where
      go : (o : Option Datum) → word_of g env w ≡ o
          → grin.and_then o (λ d. Some (words (d ∷ []))) ≡ Some x
          → Valued scope e (operand_of w ∷ []) x
      go None q k = absurd (none_some k)
      go (Some d) q k = let o = operand_is first scope env e a w d q r
          in subst (Valued scope e (operand_of w ∷ [])) (some_same k)
          (record {
            words = more_words scope e _ _ d [] o (no_words scope e);
            sound
                = (o.ranged, tt);
          })
  value_is first scope env e a (val.Vector ws) x h n r = go (words_of g env ws) refl h
    where
      go : (o : Option (List Datum)) → words_of g env ws ≡ o
          → grin.and_then o (λ ds. Some (words ds)) ≡ Some x
          → Valued scope e (operands_of_words ws) x
      go None q k = absurd (none_some k)
      go (Some ds) q k = let o = words_are first scope env e a ws ds q r
          in subst (Valued scope e (operands_of_words ws)) (some_same k)
          (record { words = o; sound = o.ranged })
  value_is first scope env e a (val.Node t ws) x h n r = go (words_of g env ws) refl h
    where
      go : (o : Option (List Datum)) → words_of g env ws ≡ o
          → grin.and_then o (λ ds. grin.and_then (grin.made_node g t.0 ds) (λ m. Some (node m))) ≡
          Some x → Valued scope e (Num t.0 ∷ operands_of_words ws) x
      go None q k = absurd (none_some k)
      go (Some ds) q k = by (grin.made_node g t.0 ds) refl k
        where
          o : Words scope e (operands_of_words ws) ds
          o = words_are first scope env e a ws ds q r

          by : (m : Option Node) → grin.made_node g t.0 ds ≡ m
              → grin.and_then m (λ m. Some (node m)) ≡ Some x
              → Valued scope e (Num t.0 ∷ operands_of_words ws) x
          by None z k = absurd (none_some k)
          by (Some m) z k =
              let s = made t.0 ds m z o.ranged in
              subst (Valued scope e (Num t.0 ∷ operands_of_words ws)) (some_same k) (record {
                words = subst
                    (λ u. Words scope e (Num t.0 ∷ operands_of_words ws) (tag u.tag ∷ u.fields))
                    (sym s.0)
                    (more_words scope e (Num t.0) _ (tag t.0) ds
                    (record { is = refl; ranged = tt; avoids = λ xs m. tt }) o);
                sound = s.1;
              })

  -- ---- fitted words

  pub fitted_are : (k : ℕ) (env : low.Env) (as' : List Operand) (ws : List Word)
      → operands p fw env as' ≡ Some ws → operands p fw env (padded_to_width k as') ≡ Some
      (fit k ws)
  fitted_are zero env as' ws h = refl
  fitted_are (suc k) env [] ws h = subst
      (λ l. operands p fw env (padded_to_width (suc k) []) ≡ Some (fit (suc k) l)) (some_same h)
      (λ i. and_then (fitted_are k env [] [] refl i) (λ bs. Some (low.number 0 ∷ bs)))
  fitted_are (suc k) env (a ∷ as') ws h = go (operand p fw env a) refl (operands p fw env as') refl
      h (λ bs qs. fitted_are k env as' bs qs)
    where
      go : (o : Option Word) → operand p fw env a ≡ o → (os : Option (List Word))
          → operands p fw env as' ≡ os → and_then o (λ b. and_then os (λ bs. Some (b ∷ bs))) ≡ Some
          ws
          → ((bs : List Word) → operands p fw env as' ≡ Some bs
          → operands p fw env (padded_to_width k as') ≡ Some (fit k bs))
          → operands p fw env (a ∷ padded_to_width k as') ≡ Some (fit (suc k) ws)
      go None q os qs m rec = absurd (none_some m)
      go (Some b) q None qs m rec = absurd (none_some m)
      go (Some b) q (Some bs) qs m rec =
          (λ i. and_then (q i) (λ b. and_then (rec bs qs i) (λ bs. Some (b ∷ bs)))) ∙ ap
          (λ l. Some (fit (suc k) l)) (some_same m)

  fitted_avoid : (k : ℕ) (xs : List ℕ) (as' : List Operand) → AllOf (Avoids xs) as'
      → AllOf (Avoids xs) (padded_to_width k as')
  fitted_avoid zero xs as' h = tt
  fitted_avoid (suc k) xs [] h = (tt, fitted_avoid k xs [] tt)
  fitted_avoid (suc k) xs (a ∷ as') h = (h.0, fitted_avoid k xs as' h.1)
