-- What is known holds in the runs: the variables hold it, and a case on a known tag takes the
-- alternative that is chosen.
use Rattle.std.proofs.Common.{◌≡◌, ℕ, zero, suc, ℤ, pos, negsuc, Bool, true, false, cond, nat_eq, nat_le, List, [], ◌∷◌, take, length, Option, Some, None, slice_get, refl, sym, ap, ◌∙◌, subst, arith}
use Rattle.std.proofs.lemmas.Bool.Decides.{nat_tests}
use Rattle.seq.proofs.Lists.{none_is_some, some_is}
use Rattle.seq.proofs.Order.{eq_from}
use Rattle.seq.proofs.Truth.{true_not_false}
use Rattle.grin_syntax.specs.declared.program.VarId.{VarId}
use Rattle.grin_syntax.specs.declared.program.TagId.{TagId}
use Rattle.grin_syntax.specs.declared.program.Target.{Target}
use Rattle.grin_syntax.specs.declared.program.Target.TheVariants as to
use Rattle.grin_syntax.specs.declared.program.Shape.{Shape}
use Rattle.grin_syntax.specs.declared.program.Shape.TheVariants as shape
use Rattle.grin_syntax.specs.declared.program.Word as W
use Rattle.grin_syntax.specs.declared.program.Word.TheVariants.{Lit, Var, Global, TagWord}
use Rattle.grin_syntax.specs.declared.program.Val as V
use Rattle.grin_syntax.specs.declared.program.Val.TheVariants.{NodeVar, Node as NodeVal, Vector, One}
use Rattle.grin_syntax.specs.Tags.{tag_id}
use Rattle.grin_syntax.specs.Tree.{Program}
use Rattle.grin_syntax.specs.Binders.{numbers_of, target_vars, shape_vars}
use Rattle.grin_meaning.specs.Values.{Datum, number, tag, Node, Value, node, words, Env, and_then, Binding, with_vars, one_each, only_word, MatchOutcome, fits, fits_not, unclear, node_fit, number_fit, int_fit, fields_of, made_node, as_node, word_of, words_of, value_of, bindings_of, fit_of}
use Rattle.numbers.specs.Numbers.{same_number}
use Rattle.case_simplify.specs.Known.{Known, Tag, Number, Facts, told, words_in, first_word, second_word, known_first_word, known_second_word, facts_in_alternative}
use Rattle.case_simplify.specs.Choice.{Verdict, Takes, Passes, Open, number_verdict, verdict}
use Rattle.case_simplify.proofs.Scoped.{EachFact, noted_word}
use Rattle.seq.specs.Lists.{times}
use Rattle.grin_meaning.proofs.Bindings.{keys, fits_is}

pub some_and : {A B : Type 0} (o : Option A) (f : A → Option B) (b : B) → and_then o f ≡ Some b
    → (a : A) × (o ≡ Some a) × (f a ≡ Some b)
some_and None f b e = none_is_some e
some_and (Some a) f b e = (a, refl, e)

-- ---- numbers and tags

pub same_number_is : (a b : ℤ) → same_number a b ≡ true → a ≡ b
same_number_is (pos a) (pos b) h = let e : a ≡ b = grind (arith, nat_tests) in ap pos e
same_number_is (negsuc a) (negsuc b) h = let e : a ≡ b = grind (arith, nat_tests) in ap negsuc e
same_number_is _ _ h = true_not_false (sym h)

-- ---- what variables are bound to

pub vars_other : (bs : List Binding) (env : Env) (y : ℕ) → times y (keys bs) ≡ 0
    → with_vars bs env y ≡ env y
vars_other [] env y h = refl
vars_other (b ∷ bs) env y h = vars_other bs _ y (omega (arith, h)) ∙ go (nat_eq y b.0) refl
  where
    go : (c : Bool) → nat_eq y b.0 ≡ c → cond c (Some b.1) (env y) ≡ env y
    go true q = let one : ℕ = 1 in let e : cond (nat_eq y b.0) one 0 ≡ one
        = ap (λ c. cond c one 0) q in absurd (omega (arith, h, e))
    go false q = refl

pub one_each_keys : (xs : List VarId) (ds : List Datum) (bs : List Binding)
    → one_each xs ds ≡ Some bs → keys bs ≡ numbers_of xs
one_each_keys [] [] bs e = sym (ap keys (some_is e))
one_each_keys (x ∷ xs) (d ∷ ds) bs e =
    let z : (cs : List Binding) × (one_each xs ds ≡ Some cs)
    × (Some ((x.0, words (d ∷ [])) ∷ cs) ≡ Some bs)
    = some_and (one_each xs ds) (λ cs. Some ((x.0, words (d ∷ [])) ∷ cs)) bs e in
    sym (ap keys (some_is z.2)) ∙ ap (λ l. x.0 ∷ l) (one_each_keys xs ds z.0 z.1)
one_each_keys _ _ bs e = none_is_some e

module _ (g : Program) where
  pub bindings_keys : (t : Target) (v : Value) (bs : List Binding) → bindings_of g t v ≡ Some bs
      → keys bs ≡ target_vars t
  bindings_keys to.Nothing (words []) bs e = sym (ap keys (some_is e))
  bindings_keys (to.Node x) v bs e =
      let z : (n : Node) × (as_node g v ≡ Some n) × (Some ((x.0, node n) ∷ []) ≡ Some bs)
      = some_and (as_node g v) (λ n. Some ((x.0, node n) ∷ [])) bs e in
      sym (ap keys (some_is z.2))
  bindings_keys (to.One x) (words (d ∷ [])) bs e = sym (ap keys (some_is e))
  bindings_keys (to.Vector xs) (words ds) bs e = one_each_keys xs ds bs e
  bindings_keys (to.Vector xs) (node n) bs e = one_each_keys xs _ bs e
  bindings_keys _ _ bs e = none_is_some e

  -- ---- facts

  abbrev pub datum_of : Known → Datum
  datum_of (Tag t) = tag t.0
  datum_of (Number k) = number k

  abbrev pub IsHeld : Env → ℕ → Known → Type 0
  IsHeld env x k = and_then (env x) only_word ≡ Some (datum_of k)

  -- the variables hold what is known of them
  abbrev pub Holds : Facts → Env → Type 0
  Holds facts env = EachFact (IsHeld env) facts

  pub told_holds : (facts : Facts) (env : Env) → Holds facts env → (w : W.Word) (k : Known)
      → told facts w ≡ Some k → word_of g env w ≡ Some (datum_of k)
  told_holds facts env h (Lit j) k e = ap (λ q. Some (datum_of q)) (some_is e)
  told_holds facts env h (TagWord t) k e = ap (λ q. Some (datum_of q)) (some_is e)
  told_holds facts env h (Var x) k e = h x.0 k e
  told_holds facts env h (Global i) k e = none_is_some e

  pub holds_on : (facts : Facts) (bs : List Binding) (env : Env)
      → ((y : ℕ) (k : Known) → facts y ≡ Some k → times y (keys bs) ≡ 0) → Holds facts env
      → Holds facts (with_vars bs env)
  holds_on facts bs env new h y k e = ap (λ o. and_then o only_word)
      (vars_other bs env y (new y k e)) ∙ h y k e

  -- ---- the words of a value

  abbrev pub data_of : Value → List Datum
  data_of (words ds) = ds
  data_of (node n) = tag n.tag ∷ n.fields

  -- what words stand for, and more
  pub data Stand (env : Env) : List W.Word → List Datum → Type 0 where
    no_word : (ds : List Datum) → Stand env [] ds
    next_word : (w : W.Word) (d : Datum) (ws : List W.Word) (ds : List Datum)
        → word_of g env w ≡ Some d → Stand env ws ds → Stand env (w ∷ ws) (d ∷ ds)

  words_stand : (env : Env) (ws : List W.Word) (ds : List Datum) → words_of g env ws ≡ Some ds
      → Stand env ws ds
  words_stand env [] ds e = no_word ds
  words_stand env (w ∷ ws) ds e =
      let z : (d : Datum) × (word_of g env w ≡ Some d)
      × (and_then (words_of g env ws) (λ es. Some (d ∷ es)) ≡ Some ds)
      = some_and (word_of g env w) (λ d. and_then (words_of g env ws) (λ es. Some (d ∷ es))) ds
      e in
      let y : (es : List Datum) × (words_of g env ws ≡ Some es) × (Some (z.0 ∷ es) ≡ Some ds)
      = some_and (words_of g env ws) (λ es. Some (z.0 ∷ es)) ds z.2 in
      subst (Stand env (w ∷ ws)) (some_is y.2)
      (next_word w z.0 ws y.0 z.1 (words_stand env ws y.0 y.1))

  made_is : (t : ℕ) (ds : List Datum) (n : Node) → made_node g t ds ≡ Some n
      → record { tag = t; fields = ds } ≡ n
  made_is t ds n e =
      let z : (c : ℕ) × (fields_of g t ≡ Some c) ×
      (cond (nat_eq c (length ds)) (Some (record { tag = t; fields = ds })) None ≡ Some n)
      = some_and (fields_of g t)
      (λ c. cond (nat_eq c (length ds)) (Some (record { tag = t; fields = ds })) None) n e in
      go (nat_eq z.0 (length ds)) z.2
    where
      go : (b : Bool) → cond b (Some (record { tag = t; fields = ds })) None ≡ Some n
          → record { tag = t; fields = ds } ≡ n
      go true e = some_is e
      go false e = none_is_some e

  pub value_stands : (env : Env) (v : V.Val) (u : Value) → value_of g env v ≡ Some u
      → Stand env (words_in v) (data_of u)
  value_stands env (NodeVar x) u e = no_word (data_of u)
  value_stands env (One w) u e =
      let z : (d : Datum) × (word_of g env w ≡ Some d) × (Some (words (d ∷ [])) ≡ Some u)
      = some_and (word_of g env w) (λ d. Some (words (d ∷ []))) u e in
      subst (λ y. Stand env (w ∷ []) (data_of y)) (some_is z.2)
      (next_word w z.0 [] [] z.1 (no_word []))
  value_stands env (Vector ws) u e =
      let z : (ds : List Datum) × (words_of g env ws ≡ Some ds) × (Some (words ds) ≡ Some u)
      = some_and (words_of g env ws) (λ ds. Some (words ds)) u e in
      subst (λ y. Stand env ws (data_of y)) (some_is z.2) (words_stand env ws z.0 z.1)
  value_stands env (NodeVal t ws) u e =
      let z : (ds : List Datum) × (words_of g env ws ≡ Some ds)
      × (and_then (made_node g t.0 ds) (λ n. Some (node n)) ≡ Some u)
      = some_and (words_of g env ws) (λ ds. and_then (made_node g t.0 ds) (λ n. Some (node n)))
      u e in
      let y : (n : Node) × (made_node g t.0 z.0 ≡ Some n) × (Some (node n) ≡ Some u)
      = some_and (made_node g t.0 z.0) (λ n. Some (node n)) u z.2 in
      subst (λ y. Stand env (TagWord t ∷ ws) (data_of y))
      (ap node (made_is t.0 z.0 y.0 y.1) ∙ some_is y.2)
      (next_word (TagWord t) (tag t.0) ws z.0 refl (words_stand env ws z.0 z.1))

  word_stands : {env : Env} {ws : List W.Word} {ds : List Datum} → Stand env ws ds
      → (i : ℕ) (w : W.Word) (d : Datum) → slice_get ws i ≡ Some w → slice_get ds i ≡ Some d
      → word_of g env w ≡ Some d
  word_stands (no_word ds) i w d q f = none_is_some q
  word_stands {env = env} (next_word a b ws ds e r) zero w d q f
      = subst (λ x. word_of g env x ≡ Some d) (some_is q) (e ∙ f)
  word_stands (next_word a b ws ds e r) (suc i) w d q f = word_stands r i w d q f

  first_taken : (k : ℕ) (ds es : List Datum) (d : Datum) → take k ds ≡ d ∷ es
      → slice_get ds 0 ≡ Some d
  first_taken zero [] es d h = cc
  first_taken zero (e ∷ ds) es d h = cc
  first_taken (suc k) [] es d h = cc
  first_taken (suc k) (e ∷ ds) es d h = cc

  -- the data of a node
  pub record DataOf (u : Value) (n : Node) : Type 0 where
    pub first : slice_get (data_of u) 0 ≡ Some (tag n.tag)
    pub second : (d : Datum) (ds : List Datum) → n.fields ≡ d ∷ ds
        → slice_get (data_of u) 1 ≡ Some d

  node_data : (u : Value) (n : Node) → as_node g u ≡ Some n → DataOf u n
  node_data (node m) n e = record {
    first = ap (λ k. Some (tag k.tag)) (some_is e);
    second
        = λ d ds f. ap (λ l. slice_get l 0) (ap (λ k. k.fields) (some_is e) ∙ f);
  }
  node_data (words (tag t ∷ ds)) n e =
      let z : (k : ℕ) × (fields_of g t ≡ Some k) ×
      (cond (nat_le k (length ds)) (Some (record { tag = t; fields = take k ds })) None ≡ Some
      n) = some_and (fields_of g t)
      (λ k. cond (nat_le k (length ds)) (Some (record { tag = t; fields = take k ds })) None) n
      e in
      go z.0 (nat_le z.0 (length ds)) z.2
    where
      go : (k : ℕ) (b : Bool) → cond b (Some (record { tag = t; fields = take k ds })) None ≡ Some n
          → DataOf (words (tag t ∷ ds)) n
      go k true e = record {
        first = ap (λ m. Some (tag m.tag)) (some_is e);
        second
            = λ d es f. first_taken k ds es d (ap (λ m. m.fields) (some_is e) ∙ f);
      }
      go k false e = none_is_some e
  node_data (words _) n e = none_is_some e

  -- ---- what a fit tells

  fitted : (b : Bool) (o : MatchOutcome) {bs : List Binding} → cond b o fits_not ≡ fits bs
      → (b ≡ true) × (o ≡ fits bs)
  fitted true o e = (refl, e)
  fitted false o e = absurd cc

  not_fitted : (b : Bool) → cond b (fits []) fits_not ≡ fits_not → b ≡ false
  not_fitted true e = absurd cc
  not_fitted false e = refl

  pub record NodeFits (t : ℕ) (y : Value) (bs : List Binding) : Type 0 where
    pub n : Node
    pub is : as_node g y ≡ Some n
    pub tagged : n.tag ≡ t
    pub none : bs ≡ []

  pub node_fits : (t : TagId) (y : Value) (bs : List Binding)
      → fit_of g (shape.Node t []) y ≡ fits bs → NodeFits t.0 y bs
  node_fits t y bs e = go (as_node g y) refl e
    where
      go : (o : Option Node) → as_node g y ≡ o → node_fit t.0 [] o ≡ fits bs → NodeFits t.0 y bs
      go None m e = absurd cc
      go (Some n) m e = let z : (nat_eq n.tag t.0 ≡ true) × (fits [] ≡ fits bs)
          = fitted (nat_eq n.tag t.0) (fits []) e in record
          { n = n; is = m; tagged = eq_from n.tag t.0 z.0; none = sym (fits_is z.1) }

  -- where it does not fit, the tag is another
  pub node_fits_not : (t : TagId) (y : Value) → fit_of g (shape.Node t []) y ≡ fits_not → (n : Node)
      × (as_node g y ≡ Some n) × (nat_eq n.tag t.0 ≡ false)
  node_fits_not t y e = go (as_node g y) refl e
    where
      go : (o : Option Node) → as_node g y ≡ o → node_fit t.0 [] o ≡ fits_not → (n : Node)
          × (as_node g y ≡ Some n) × (nat_eq n.tag t.0 ≡ false)
      go None m e = absurd cc
      go (Some n) m e = (n, m, not_fitted (nat_eq n.tag t.0) e)

  pub record IntFits (k : ℤ) (y : Value) (bs : List Binding) : Type 0 where
    pub n : Node
    pub is : as_node g y ≡ Some n
    pub tagged : n.tag ≡ 0
    pub ds : List Datum
    pub held : n.fields ≡ number k ∷ ds
    pub none : bs ≡ []

  pub int_fits : (k : ℤ) (y : Value) (bs : List Binding) → fit_of g (shape.Int k) y ≡ fits bs
      → IntFits k y bs
  int_fits k y bs e = go (as_node g y) refl e
    where
      fields : (n : Node) (fs : List Datum) → n.fields ≡ fs → as_node g y ≡ Some n → n.tag ≡ 0
          → number_fit k fs ≡ fits bs → IntFits k y bs
      fields n (number i ∷ ds) f m t e =
          let z : (same_number k i ≡ true) × (fits [] ≡ fits bs)
          = fitted (same_number k i) (fits []) e in
          record {
            n = n;
            is = m;
            tagged = t;
            ds = ds;
            held
                = f ∙ ap (λ j. number j ∷ ds) (sym (same_number_is k i z.0));
            none
                = sym (fits_is z.1);
          }
      fields n _ f m t e = absurd cc

      go : (o : Option Node) → as_node g y ≡ o → int_fit k o ≡ fits bs → IntFits k y bs
      go None m e = absurd cc
      go (Some n) m e = let z : (nat_eq n.tag 0 ≡ true) × (number_fit k n.fields ≡ fits bs)
          = fitted (nat_eq n.tag 0) (number_fit k n.fields) e
          in fields n n.fields refl m (eq_from n.tag 0 z.0) z.1

  -- what a verdict says of a fit
  abbrev pub Says : Verdict → MatchOutcome → Type 0
  Says Takes o = o ≡ fits_not → ⊥
  Says Passes o = (bs : List Binding) → o ≡ fits bs → ⊥
  Says Open o = Unit {0}

  unclear_says : (r : Verdict) → Says r unclear
  unclear_says Takes = λ e. cc
  unclear_says Passes = λ bs e. cc
  unclear_says Open = tt

  same_test : (b : Bool) → Says (cond b Takes Passes) (cond b (fits []) fits_not)
  same_test true = λ e. cc
  same_test false = λ bs e. cc

  -- ---- in an alternative

  module _ (env : Env) (v : V.Val) (y : Value) (at : value_of g env v ≡ Some y) where
    first_is : (n : Node) → as_node g y ≡ Some n → (w : W.Word) → first_word v ≡ Some w
        → word_of g env w ≡ Some (tag n.tag)
    first_is n is w q = word_stands (value_stands env v y at) 0 w (tag n.tag) q
        (node_data y n is).first

    second_is : (n : Node) → as_node g y ≡ Some n → (d : Datum) (ds : List Datum)
        → n.fields ≡ d ∷ ds → (w : W.Word) → second_word v ≡ Some w → word_of g env w ≡ Some d
    second_is n is d ds f w q = word_stands (value_stands env v y at) 1 w d q
        ((node_data y n is).second d ds f)

    pub noted_holds : (facts : Facts) (s : Shape) (bs : List Binding) → Holds facts env
        → shape_vars s ≡ [] → fit_of g s y ≡ fits bs → (bs ≡ [])
        × Holds (facts_in_alternative v s facts) env
    noted_holds facts (shape.Node t (x ∷ xs)) bs h b e = absurd cc
    noted_holds facts (shape.Node t []) bs h b e =
        let f : NodeFits t.0 y bs = node_fits t y bs e in (
          f.none,
          noted_word (IsHeld env) facts (first_word v) (Tag t)
              (λ x q. first_is f.n f.is (Var x) q ∙ ap (λ k. Some (tag k)) f.tagged) h,
        )
    noted_holds facts (shape.Int k) bs h b e =
        let f : IntFits k y bs = int_fits k y bs e in (
          f.none,
          noted_word (IsHeld env) _ (second_word v) (Number k)
              (λ x. second_is f.n f.is (number k) f.ds f.held (Var x))
              (noted_word (IsHeld env) facts (first_word v) (Tag (tag_id 0))
              (λ x q. first_is f.n f.is (Var x) q ∙ ap (λ k. Some (tag k)) f.tagged) h),
        )
    noted_holds facts shape.Else bs h b e = (sym (fits_is e), h)

    -- ---- a known tag

    module _ (facts : Facts) (h : Holds facts env) (t : TagId)
        (known : known_first_word facts v ≡ Some (Tag t)) where
      tag_known : (n : Node) → as_node g y ≡ Some n → n.tag ≡ t.0
      tag_known n m =
          let z : (w : W.Word) × (first_word v ≡ Some w) × (told facts w ≡ Some (Tag t))
          = some_and (first_word v) (told facts) (Tag t) known in
          let e : tag n.tag ≡ tag t.0 = some_is
          (sym (first_is n m z.0 z.1) ∙ told_holds facts env h z.0 (Tag t) z.2) in
          cc

      number_known : (n : Node) (i j : ℤ) (ds : List Datum) → as_node g y ≡ Some n
          → known_second_word facts v ≡ Some (Number i) → n.fields ≡ number j ∷ ds → j ≡ i
      number_known n i j ds m k f =
          let z : (w : W.Word) × (second_word v ≡ Some w) × (told facts w ≡ Some (Number i))
          = some_and (second_word v) (told facts) (Number i) k in
          let e : number j ≡ number i = some_is
          (sym (second_is n m (number j) ds f z.0 z.1) ∙ told_holds facts env h z.0 (Number i)
          z.2) in
          cc

      pub says : (s : Shape) → shape_vars s ≡ [] → Says (verdict t (known_second_word facts v) s)
          (fit_of g s y)
      says (shape.Node u (x ∷ xs)) b = absurd cc
      says (shape.Node u []) b = go (as_node g y) refl
        where
          go : (o : Option Node) → as_node g y ≡ o → Says (cond (nat_eq t.0 u.0) Takes Passes)
              (node_fit u.0 [] o)
          go None q = unclear_says (cond (nat_eq t.0 u.0) Takes Passes)
          go (Some n) q = subst
              (λ k. Says (cond (nat_eq k u.0) Takes Passes) (node_fit u.0 [] (Some n)))
              (tag_known n q) (same_test (nat_eq n.tag u.0))
      says (shape.Int k) b = go (as_node g y) refl
        where
          second : Option Known
          second = known_second_word facts v

          numbers : (n : Node) → as_node g y ≡ Some n → (fs : List Datum) → n.fields ≡ fs
              → (o : Option Known) → second ≡ o → Says (number_verdict k o) (number_fit k fs)
          numbers n m (number j ∷ ds) f (Some (Number i)) q
              = subst (λ z. Says (cond (same_number k z) Takes Passes)
              (number_fit k (number j ∷ ds))) (number_known n i j ds m q f)
              (same_test (same_number k j))
          numbers n m fs f (Some (Number i)) q = unclear_says (number_verdict k (Some (Number i)))
          numbers n m fs f _ q = tt

          test : (n : Node) → as_node g y ≡ Some n → (b : Bool)
              → Says (cond b (number_verdict k second) Passes)
              (cond b (number_fit k n.fields) fits_not)
          test n m true = numbers n m n.fields refl second refl
          test n m false = λ bs e. cc

          go : (o : Option Node) → as_node g y ≡ o → Says
              (cond (nat_eq t.0 0) (number_verdict k second) Passes) (int_fit k o)
          go None q = unclear_says (cond (nat_eq t.0 0) (number_verdict k second) Passes)
          go (Some n) q = subst
              (λ z. Says (cond (nat_eq z 0) (number_verdict k second) Passes) (int_fit k (Some n)))
              (tag_known n q) (test n q (nat_eq n.tag 0))
      says shape.Else b = λ e. cc
