-- Words and values of a program and of the one with its fetches split.
use Rattle.std.proofs.Common.{◌≡◌, ℕ, zero, suc, Bool, true, false, cond, ◌||◌, ◌&&◌, nat_eq, nat_le, take, List, [], ◌∷◌, length, Option, Some, None, refl, sym, ap, ◌∙◌, subst}
use Rattle.std.specs.Prelude.{ℤ}
use Rattle.seq.proofs.Truth.{neither_left, neither_right}
use Rattle.seq.proofs.Order.{eq_self}
use Rattle.grin_syntax.specs.declared.program.VarId.{VarId}
use Rattle.grin_syntax.specs.declared.program.Cell.{Cell}
use Rattle.grin_syntax.specs.declared.program.Shape.{Shape}
use Rattle.grin_syntax.specs.declared.program.Shape.TheVariants as shape
use Rattle.grin_syntax.specs.declared.program.Word as W
use Rattle.grin_syntax.specs.declared.program.Word.TheVariants.{Lit, Var, Global, TagWord}
use Rattle.grin_syntax.specs.declared.program.Val as V
use Rattle.grin_syntax.specs.declared.program.Val.TheVariants.{NodeVar, Node as NodeVal, Vector, One}
use Rattle.grin_syntax.specs.Tree.{Program, Arms, no_arm, arm}
use Rattle.grin_syntax.specs.Binders.{numbers_of, shape_vars}
use Rattle.grin_syntax.specs.Formed.{AllOf, Scope, WordFormed, ValFormed, CellFormed}
use Rattle.grin_meaning.specs.Values.{Datum, number, tag, cell, Node, Value, words, Env, HeapCell, and_then, Binding, fits, fits_not, node_fit, number_fit, int_fit, fit_of, fields_of, as_node, word_of, words_of, value_of, node_of}
use Rattle.grin_meaning.specs.Run.{cells_of}
use Rattle.grin_meaning.specs.Checks.{is_none_or, is_filled, fills, all_fill}
use Rattle.numbers.specs.Numbers.{same_number}
use Rattle.grin_meaning.specs.Ready.{NoNodeVar, EachAct, EachArms, vectorised_kind}
use Rattle.grin_meaning.proofs.Plain.{then_has}
use Rattle.pass_ground.specs.Uses.{word_is, words_use, val_uses, cells_use}
use Rattle.fetch_passes.specs.Windows.{is_int, tests_number, vector_uses}
use Rattle.fetch_passes.specs.Names.{Names, DeferredField, as_word, as_words, as_val, as_cells}
use Rattle.pass_ground.proofs.Tests.{never_both}
use Rattle.fetch_passes.proofs.Found.{is_var}
use Rattle.fetch_passes.proofs.Near.{At, Sound, Near}

-- a piece that uses such variables uses none that is hidden
abbrev pub Clear : Names → (ℕ → Bool) → Type 0
Clear ks u = (z : VarId) → is_var (as_word ks (Var z)) ≡ false → u z.0 ≡ false

pub clear_left : (ks : Names) (u v : ℕ → Bool) → Clear ks (λ x. u x || v x) → Clear ks u
clear_left ks u v h z e = neither_left (u z.0) (v z.0) (h z e)

pub clear_right : (ks : Names) (u v : ℕ → Bool) → Clear ks (λ x. u x || v x) → Clear ks v
clear_right ks u v h z e = neither_right (u z.0) (v z.0) (h z e)

-- the same alternative is taken for both
abbrev pub SameFits : Program → Arms → Value → Value → Type 0
SameFits g no_arm v v' = Unit {0}
SameFits g (arm s b as') v v' = (fit_of g s v' ≡ fit_of g s v) × SameFits g as' v v'

pub same_fits : (g : Program) (as' : Arms) (v : Value) → SameFits g as' v v
same_fits g no_arm v = tt
same_fits g (arm s b as') v = (refl, same_fits g as' v)

module _ (g : Program) where
  some_tag : (t : ℕ) (ds ds' : List Datum) → length ds' ≡ length ds → (s : ℕ) (xs : List VarId)
      → numbers_of xs ≡ [] → node_fit s xs (as_node g (words (tag t ∷ ds'))) ≡ node_fit s xs
      (as_node g (words (tag t ∷ ds)))
  some_tag t ds ds' l s (x ∷ xs) e = cc
  some_tag t ds ds' l s [] e = go (fields_of g t)
    where
      on : (k : ℕ) (b b' : Bool) → b' ≡ b → node_fit s []
          (cond b' (Some (record { tag = t; fields = take k ds' })) None) ≡ node_fit s []
          (cond b (Some (record { tag = t; fields = take k ds })) None)
      on k true true q = refl
      on k false false q = refl
      on k true false q = cc
      on k false true q = cc

      go : (o : Option ℕ) → node_fit s []
          (and_then o
          (λ k. cond (nat_le k (length ds')) (Some (record { tag = t; fields = take k ds' })) None))
          ≡ node_fit s []
          (and_then o
          (λ k. cond (nat_le k (length ds)) (Some (record { tag = t; fields = take k ds })) None))
      go None = refl
      go (Some k) = on k (nat_le k (length ds)) (nat_le k (length ds')) (ap (nat_le k) l)

  some_number : (t : ℕ) (e : Datum) (ds ds' : List Datum) → length ds' ≡ length ds → (i : ℤ)
      → int_fit i (as_node g (words (tag t ∷ (e ∷ ds')))) ≡ int_fit i
      (as_node g (words (tag t ∷ (e ∷ ds))))
  some_number t e ds ds' l i = go (fields_of g t)
    where
      first : (k : ℕ) (x : Datum) → number_fit i (take k (x ∷ ds')) ≡ number_fit i (take k (x ∷ ds))
      first zero x = refl
      first (suc k) (number j) = refl
      first (suc k) (tag j) = refl
      first (suc k) (cell j) = refl

      on : (k : ℕ) (b b' : Bool) → b' ≡ b → int_fit i
          (cond b' (Some (record { tag = t; fields = take k (e ∷ ds') })) None) ≡ int_fit i
          (cond b (Some (record { tag = t; fields = take k (e ∷ ds) })) None)
      on k true true q = ap (λ f. cond (nat_eq t 0) f fits_not) (first k e)
      on k false false q = refl
      on k true false q = cc
      on k false true q = cc

      go : (o : Option ℕ) → int_fit i
          (and_then o
          (λ k. cond (nat_le k (length (e ∷ ds')))
          (Some (record { tag = t; fields = take k (e ∷ ds') })) None)) ≡ int_fit i
          (and_then o
          (λ k. cond (nat_le k (length (e ∷ ds)))
          (Some (record { tag = t; fields = take k (e ∷ ds) })) None))
      go None = refl
      go (Some k) = on k (nat_le k (length (e ∷ ds))) (nat_le k (length (e ∷ ds')))
          (ap (λ m. nat_le k (suc m)) l)

  -- a pattern sees of a vector the first word, how many there are, and where it has an integer the
  -- second
  pub shape_same : (s : Shape) → shape_vars s ≡ [] → (d : Datum) (ds ds' : List Datum)
      → length ds' ≡ length ds →
      (is_int s ≡ true → (e : Datum) × (es : List Datum) × (es' : List Datum) × (ds ≡ e ∷ es)
      × (ds' ≡ e ∷ es') × (length es' ≡ length es))
      → fit_of g s (words (d ∷ ds')) ≡ fit_of g s (words (d ∷ ds))
  shape_same (shape.Node t xs) n (tag j) ds ds' l f = some_tag j ds ds' l t.0 xs n
  shape_same (shape.Node t xs) n (number j) ds ds' l f = refl
  shape_same (shape.Node t xs) n (cell j) ds ds' l f = refl
  shape_same (shape.Int k) n (tag j) ds ds' l f =
      let q : (e : Datum) × (es : List Datum) × (es' : List Datum) × (ds ≡ e ∷ es) × (ds' ≡ e ∷ es')
      × (length es' ≡ length es) = f refl in
      ap (λ z. int_fit k (as_node g (words (tag j ∷ z)))) q.4 ∙ some_number j q.0 q.1 q.2 q.5 k ∙ ap
      (λ z. int_fit k (as_node g (words (tag j ∷ z)))) (sym q.3)
  shape_same (shape.Int k) n (number j) ds ds' l f = refl
  shape_same (shape.Int k) n (cell j) ds ds' l f = refl
  shape_same shape.Else n d ds ds' l f = refl

module _ (g : Program) (scope : Scope) (ks : Names) (base n : ℕ)
    (sound : Sound base n scope.words ks) (a : W.Word) (ps : List DeferredField) (c : List HeapCell)
    (env env' : Env) (r : Near g scope.words ks [] a ps c env env') where
  pub word_goes : (w : W.Word) → WordFormed g scope w → Clear ks (λ x. word_is x w) → (d : Datum)
      → word_of g env w ≡ Some d → word_of g env' (as_word ks w) ≡ Some d
  word_goes (Lit k) f h d e = e
  word_goes (Global k) f h d e = e
  word_goes (TagWord k) f h d e = e
  word_goes (Var z) f h d e = go (is_var (as_word ks (Var z))) refl
    where
      go : (b : Bool) → is_var (as_word ks (Var z)) ≡ b
          → word_of g env' (as_word ks (Var z)) ≡ Some d
      go true q = r.named z d f refl q e
      go false q = never_both (eq_self z.0) (h z q)

  pub words_go : (ws : List W.Word) → AllOf (WordFormed g scope) ws → Clear ks (λ x. words_use x ws)
      → (ds : List Datum) → words_of g env ws ≡ Some ds → words_of g env' (as_words ks ws) ≡ Some ds
  words_go [] f h ds e = e
  words_go (w ∷ ws) f h ds e = then_has (word_of g env w) (word_of g env' (as_word ks w)) _ _ ds
      (word_goes w f.0 (clear_left ks (λ x. word_is x w) (λ x. words_use x ws) h))
      (λ d. then_has (words_of g env ws) (words_of g env' (as_words ks ws)) _ _ ds
      (words_go ws f.1 (clear_right ks (λ x. word_is x w) (λ x. words_use x ws) h)) (λ es q. q))
      e

  pub value_goes : (v : V.Val) → ValFormed g scope v → NoNodeVar v → Clear ks (λ x. val_uses x v)
      → (y : Value) → value_of g env v ≡ Some y → value_of g env' (as_val ks v) ≡ Some y
  value_goes (NodeVar x) f m h y e = absurd m
  value_goes (NodeVal t ws) f m h y e = then_has (words_of g env ws)
      (words_of g env' (as_words ks ws)) _ _ y (words_go ws f.1 h) (λ ds q. q) e
  value_goes (Vector ws) f m h y e = then_has (words_of g env ws) (words_of g env' (as_words ks ws))
      _ _ y (words_go ws f h) (λ ds q. q) e
  value_goes (One w) f m h y e = then_has (word_of g env w) (word_of g env' (as_word ks w)) _ _ y
      (word_goes w f h) (λ d q. q) e

  pub node_goes : (v : V.Val) → ValFormed g scope v → NoNodeVar v → Clear ks (λ x. val_uses x v)
      → (m : Node) → node_of g env v ≡ Some m → node_of g env' (as_val ks v) ≡ Some m
  node_goes v f m h y e = then_has (value_of g env v) (value_of g env' (as_val ks v)) (as_node g)
      (as_node g) y (value_goes v f m h) (λ y q. q) e

  pub fills_go : (v : V.Val) → ValFormed g scope v → NoNodeVar v → Clear ks (λ x. val_uses x v)
      → (y : Value) → value_of g env v ≡ Some y → fills g env' (as_val ks v) ≡ fills g env v
  fills_go (NodeVar x) f m h y e = refl
  fills_go (NodeVal t ws) f m h y e = refl
  fills_go (One w) f m h y e = refl
  fills_go (Vector ws) f m h y e = go (words_of g env ws) refl e
    where
      go : (o : Option (List Datum)) → words_of g env ws ≡ o
          → and_then o (λ ds. Some (words ds)) ≡ Some y
          → is_none_or (words_of g env' (as_words ks ws)) (is_filled g) ≡ is_none_or
          (words_of g env ws) (is_filled g)
      go None q e = cc
      go (Some ds) q e = ap (λ o. is_none_or o (is_filled g)) (words_go ws f h ds q ∙ sym q)

  pub node_fills : (v : V.Val) → ValFormed g scope v → NoNodeVar v → Clear ks (λ x. val_uses x v)
      → (m : Node) → node_of g env v ≡ Some m → fills g env' (as_val ks v) ≡ fills g env v
  node_fills v f m h y e = go (value_of g env v) refl e
    where
      go : (o : Option Value) → value_of g env v ≡ o → and_then o (as_node g) ≡ Some y
          → fills g env' (as_val ks v) ≡ fills g env v
      go None q e = cc
      go (Some u) q e = fills_go v f m h u q

  pub cells_go : (cs : List Cell) → AllOf (CellFormed g scope) cs → AllOf (λ c. NoNodeVar c.val) cs
      → Clear ks (λ x. cells_use x cs) → (hs : List HeapCell) → cells_of g env cs ≡ Some hs
      → cells_of g env' (as_cells ks cs) ≡ Some hs
  cells_go [] f m h hs e = e
  cells_go (c ∷ cs) f m h hs e = then_has (and_then (node_of g env c.val) _)
      (and_then (node_of g env' (as_val ks c.val)) _) _ _ hs
      (λ b. then_has (node_of g env c.val) (node_of g env' (as_val ks c.val)) _ _ b
      (node_goes c.val f.0 m.0 (clear_left ks (λ x. val_uses x c.val) (λ x. cells_use x cs) h))
      (λ y q. q))
      (λ b. then_has (cells_of g env cs) (cells_of g env' (as_cells ks cs)) _ _ hs
      (cells_go cs f.1 m.1 (clear_right ks (λ x. val_uses x c.val) (λ x. cells_use x cs) h))
      (λ bs q. q)) e

  pub all_fill_goes : (cs : List Cell) → AllOf (CellFormed g scope) cs
      → AllOf (λ c. NoNodeVar c.val) cs → Clear ks (λ x. cells_use x cs) → (hs : List HeapCell)
      → cells_of g env cs ≡ Some hs → all_fill g env' (as_cells ks cs) ≡ all_fill g env cs
  all_fill_goes [] f m h hs e = refl
  all_fill_goes (c ∷ cs) f m h hs e = here (value_of g env c.val) refl e
      (all_fill_goes cs f.1 m.1 (clear_right ks (λ x. val_uses x c.val) (λ x. cells_use x cs) h))
    where
      more : (y : Value) → value_of g env c.val ≡ Some y → (o : Option (List HeapCell))
          → cells_of g env cs ≡ o → (q : Option HeapCell)
          → and_then q (λ b. and_then o (λ bs. Some (b ∷ bs))) ≡ Some hs
          → ((hs : List HeapCell) → cells_of g env cs ≡ Some hs
          → all_fill g env' (as_cells ks cs) ≡ all_fill g env cs)
          → all_fill g env' (as_cells ks (c ∷ cs)) ≡ all_fill g env (c ∷ cs)
      more y k None s None e t = cc
      more y k None s (Some b) e t = cc
      more y k (Some js) s q e t = λ i. fills_go c.val f.0 m.0
          (clear_left ks (λ x. val_uses x c.val) (λ x. cells_use x cs) h) y k i && t js s i

      here : (o : Option Value) → value_of g env c.val ≡ o
          → and_then
          (and_then (and_then o (as_node g)) (λ n. Some (record { site = c.site.0; node = n })))
          (λ b. and_then (cells_of g env cs) (λ bs. Some (b ∷ bs))) ≡ Some hs
          → ((hs : List HeapCell) → cells_of g env cs ≡ Some hs
          → all_fill g env' (as_cells ks cs) ≡ all_fill g env cs)
          → all_fill g env' (as_cells ks (c ∷ cs)) ≡ all_fill g env (c ∷ cs)
      here None k e t = cc
      here (Some y) k e t = more y k (cells_of g env cs) refl _ e t

  -- ---- the vector of a case, with zeros for the words that wait

  word_there : (w : W.Word) → WordFormed g scope w → (d : Datum) → word_of g env w ≡ Some d
      → (d' : Datum) × (word_of g env' (as_word ks w) ≡ Some d')
  word_there (Lit k) f d e = (d, e)
  word_there (Global k) f d e = (d, e)
  word_there (TagWord k) f d e = (d, e)
  word_there (Var z) f d e = go (as_word ks (Var z)) refl (sound z)
    where
      go : (u : W.Word) → as_word ks (Var z) ≡ u → At base n scope.words z.0 u → (d' : Datum)
          × (word_of g env' (as_word ks (Var z)) ≡ Some d')
      go (Var v) q s = (d, r.named z d f refl (ap is_var q) e)
      go (Lit j) q s = (number j, ap (word_of g env') q)
      go (Global j) q s = elim s [ ]
      go (TagWord j) q s = elim s [ ]

  words_there : (ws : List W.Word) → AllOf (WordFormed g scope) ws → (ds : List Datum)
      → words_of g env ws ≡ Some ds → (ds' : List Datum)
      × (words_of g env' (as_words ks ws) ≡ Some ds') × (length ds' ≡ length ds)
  words_there [] f ds e = let h : ds ≡ [] = cc in ([], refl, ap length (sym h))
  words_there (w ∷ ws) f ds e = go (word_of g env w) refl e (λ d q. word_there w f.0 d q)
      (λ es q. words_there ws f.1 es q)
    where
      on : (d : Datum) (o : Option (List Datum)) → words_of g env ws ≡ o
          → and_then o (λ es. Some (d ∷ es)) ≡ Some ds → (d' : Datum)
          × (word_of g env' (as_word ks w) ≡ Some d')
          → ((es : List Datum) → words_of g env ws ≡ Some es → (es' : List Datum)
          × (words_of g env' (as_words ks ws) ≡ Some es') × (length es' ≡ length es))
          → (ds' : List Datum) × (words_of g env' (as_words ks (w ∷ ws)) ≡ Some ds')
          × (length ds' ≡ length ds)
      on d None q k x t = cc
      on d (Some es) q k x t =
          let y : (es' : List Datum) × (words_of g env' (as_words ks ws) ≡ Some es')
          × (length es' ≡ length es) = t es q in
          let h : ds ≡ d ∷ es = cc in (
            x.0 ∷ y.0,
            (λ i. and_then (x.1 i) (λ b. and_then (y.1 i) (λ bs. Some (b ∷ bs)))),
            ap suc y.2 ∙ ap length (sym h),
          )

      go : (o : Option Datum) → word_of g env w ≡ o
          → and_then o (λ d. and_then (words_of g env ws) (λ es. Some (d ∷ es))) ≡ Some ds
          → ((d : Datum) → word_of g env w ≡ Some d → (d' : Datum)
          × (word_of g env' (as_word ks w) ≡ Some d'))
          → ((es : List Datum) → words_of g env ws ≡ Some es → (es' : List Datum)
          × (words_of g env' (as_words ks ws) ≡ Some es') × (length es' ≡ length es))
          → (ds' : List Datum) × (words_of g env' (as_words ks (w ∷ ws)) ≡ Some ds')
          × (length ds' ≡ length ds)
      go None q k s t = cc
      go (Some d) q k s t = on d (words_of g env ws) refl k (s d q) t

  pub own_goes : (as' : Arms) →
      ((d : Datum) (ds ds' : List Datum) → length ds' ≡ length ds
      → (tests_number as' ≡ true → (e : Datum) × (es : List Datum) × (es' : List Datum)
      × (ds ≡ e ∷ es) × (ds' ≡ e ∷ es') × (length es' ≡ length es))
      → SameFits g as' (words (d ∷ ds)) (words (d ∷ ds')))
      → (v : V.Val) → ValFormed g scope v → NoNodeVar v
      → Clear ks (λ x. vector_uses (tests_number as') x v) → (y : Value)
      → value_of g env v ≡ Some y → (y' : Value) × (value_of g env' (as_val ks v) ≡ Some y')
      × SameFits g as' y y'
  own_goes as' fit (NodeVar x) f m h y e = absurd m
  own_goes as' fit (NodeVal t ws) f m h y e =
      (y, value_goes (NodeVal t ws) f m h y e, same_fits g as' y)
  own_goes as' fit (One w) f m h y e = (y, value_goes (One w) f m h y e, same_fits g as' y)
  own_goes as' fit (Vector []) f m h y e = (y, value_goes (Vector []) f m h y e, same_fits g as' y)
  own_goes as' fit (Vector (w ∷ [])) f m h y e =
      (y, value_goes (Vector (w ∷ [])) f m h y e, same_fits g as' y)
  own_goes as' fit (Vector (w ∷ (u ∷ ws))) f m h y e = first (word_of g env w) refl e
    where
      head : Clear ks (λ x. word_is x w)
      head z q = neither_left (word_is z.0 w) (tests_number as' && word_is z.0 u) (h z q)

      second : tests_number as' ≡ true → Clear ks (λ x. word_is x u)
      second t z q = ap (λ b. b && word_is z.0 u) (sym t) ∙ neither_right (word_is z.0 w)
          (tests_number as' && word_is z.0 u) (h z q)

      done : (d d2 d3 : Datum) (es es' : List Datum) → word_of g env' (as_word ks w) ≡ Some d
          → word_of g env' (as_word ks u) ≡ Some d3 → words_of g env' (as_words ks ws) ≡ Some es'
          → length es' ≡ length es → (tests_number as' ≡ true → d3 ≡ d2) → words (d ∷ (d2 ∷ es)) ≡ y
          → (y' : Value) × (value_of g env' (as_val ks (Vector (w ∷ (u ∷ ws)))) ≡ Some y')
          × SameFits g as' y y'
      done d d2 d3 es es' p q s l t k = (
        words (d ∷ (d3 ∷ es')),
        (λ i. and_then
            (and_then (p i)
            (λ b. and_then (and_then (q i) (λ b2. and_then (s i) (λ bs. Some (b2 ∷ bs))))
            (λ bs. Some (b ∷ bs)))) (λ ds. Some (words ds))),
        subst (λ v. SameFits g as' v (words (d ∷ (d3 ∷ es')))) k
            (fit d (d2 ∷ es) (d3 ∷ es') (ap suc l)
            (λ b. (d2, es, es', refl, ap (λ z. z ∷ es') (t b), l))),
      )

      on : (d d2 : Datum) (es : List Datum) → word_of g env w ≡ Some d → word_of g env u ≡ Some d2
          → words_of g env ws ≡ Some es → words (d ∷ (d2 ∷ es)) ≡ y → (b : Bool)
          → tests_number as' ≡ b → (y' : Value) ×
          (value_of g env' (as_val ks (Vector (w ∷ (u ∷ ws)))) ≡ Some y') × SameFits g as' y y'
      on d d2 es p q s k true t =
          let z : (es' : List Datum) × (words_of g env' (as_words ks ws) ≡ Some es')
          × (length es' ≡ length es) = words_there ws f.1.1 es s in
          done d d2 d2 es z.0 (word_goes w f.0 head d p) (word_goes u f.1.0 (second t) d2 q) z.1 z.2
          (λ b. refl) k
      on d d2 es p q s k false t =
          let z : (es' : List Datum) × (words_of g env' (as_words ks ws) ≡ Some es')
          × (length es' ≡ length es) = words_there ws f.1.1 es s in
          let x : (d3 : Datum) × (word_of g env' (as_word ks u) ≡ Some d3) = word_there u f.1.0 d2 q
          in
          done d d2 x.0 es z.0 (word_goes w f.0 head d p) x.1 z.1 z.2 (λ b. never_both b t) k

      third : (d d2 : Datum) (o : Option (List Datum)) → word_of g env w ≡ Some d
          → word_of g env u ≡ Some d2 → words_of g env ws ≡ o
          → and_then (and_then (and_then o (λ es. Some (d2 ∷ es))) (λ es. Some (d ∷ es)))
          (λ ds. Some (words ds)) ≡ Some y
          → (y' : Value) × (value_of g env' (as_val ks (Vector (w ∷ (u ∷ ws)))) ≡ Some y')
          × SameFits g as' y y'
      third d d2 None p q s k = cc
      third d d2 (Some es) p q s k = on d d2 es p q s (let r : words (d ∷ (d2 ∷ es)) ≡ y = cc in r)
          (tests_number as') refl

      next : (d : Datum) (o : Option Datum) → word_of g env w ≡ Some d → word_of g env u ≡ o
          → and_then
          (and_then (and_then o (λ d2. and_then (words_of g env ws) (λ es. Some (d2 ∷ es))))
          (λ es. Some (d ∷ es))) (λ ds. Some (words ds)) ≡ Some y
          → (y' : Value) × (value_of g env' (as_val ks (Vector (w ∷ (u ∷ ws)))) ≡ Some y')
          × SameFits g as' y y'
      next d None p q k = cc
      next d (Some d2) p q k = third d d2 (words_of g env ws) p q refl k

      first : (o : Option Datum) → word_of g env w ≡ o
          → and_then (and_then o (λ d. and_then (words_of g env (u ∷ ws)) (λ es. Some (d ∷ es))))
          (λ ds. Some (words ds)) ≡ Some y
          → (y' : Value) × (value_of g env' (as_val ks (Vector (w ∷ (u ∷ ws)))) ≡ Some y')
          × SameFits g as' y y'
      first None q k = cc
      first (Some d) q k = next d (word_of g env u) q refl k

pub arms_same : (g : Program) (as' : Arms) → EachArms vectorised_kind as'
    → (d : Datum) (ds ds' : List Datum) → length ds' ≡ length ds
    → (tests_number as' ≡ true → (e : Datum) × (es : List Datum) × (es' : List Datum)
    × (ds ≡ e ∷ es) × (ds' ≡ e ∷ es') × (length es' ≡ length es))
    → SameFits g as' (words (d ∷ ds)) (words (d ∷ ds'))
unfolding EachAct
arms_same g no_arm n d ds ds' l f = tt
arms_same g (arm s b as') n d ds ds' l f = (
  shape_same g s n.0 d ds ds' l (λ t. f (ap (λ x. x || tests_number as') t)),
  arms_same g as' n.2 d ds ds' l (λ t. f (turn (is_int s) t)),
)
  where
    turn : (x : Bool) → tests_number as' ≡ true → (x || tests_number as') ≡ true
    turn true t = refl
    turn false t = t

-- a pattern that binds nothing
pub fit_nothing : (g : Program) (s : Shape) → shape_vars s ≡ [] → (v : Value) (bs : List Binding)
    → fit_of g s v ≡ fits bs → bs ≡ []
fit_nothing g (shape.Node t (x ∷ xs)) n v bs e = cc
fit_nothing g (shape.Node t []) n v bs e = go (as_node g v) e
  where
    on : (b : Bool) → cond b (fits []) fits_not ≡ fits bs → bs ≡ []
    on true k = cc
    on false k = cc

    go : (o : Option Node) → node_fit t.0 [] o ≡ fits bs → bs ≡ []
    go None k = cc
    go (Some m) k = on (nat_eq m.tag t.0) k
fit_nothing g (shape.Int i) n v bs e = go (as_node g v) e
  where
    at : (b : Bool) → cond b (fits []) fits_not ≡ fits bs → bs ≡ []
    at true k = cc
    at false k = cc

    on : (ds : List Datum) (b : Bool) → cond b (number_fit i ds) fits_not ≡ fits bs → bs ≡ []
    on ds false k = cc
    on [] true k = cc
    on (number j ∷ ds) true k = at (same_number i j) k
    on (tag j ∷ ds) true k = cc
    on (cell j ∷ ds) true k = cc

    go : (o : Option Node) → int_fit i o ≡ fits bs → bs ≡ []
    go None k = cc
    go (Some m) k = on m.fields (nat_eq m.tag 0) k
fit_nothing g shape.Else n v bs e = cc

pub fewer_uses : (tests : Bool) (z : ℕ) (v : V.Val) → val_uses z v ≡ false
    → vector_uses tests z v ≡ false
fewer_uses tests z (NodeVar x) h = h
fewer_uses tests z (NodeVal t ws) h = h
fewer_uses tests z (One w) h = h
fewer_uses tests z (Vector []) h = h
fewer_uses tests z (Vector (w ∷ [])) h = h
fewer_uses tests z (Vector (w ∷ (u ∷ ws))) h = go (word_is z w) (word_is z u) tests h
  where
    go : (a b t : Bool) → (a || (b || words_use z ws)) ≡ false → (a || (t && b)) ≡ false
    go true b t k = cc
    go false true t k = cc
    go false false true k = refl
    go false false false k = refl
