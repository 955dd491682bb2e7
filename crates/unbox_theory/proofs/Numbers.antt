-- Numbers with their tag, and numbers alone.
use Rattle.std.proofs.Common.{◌≡◌, ◌≢◌, ℕ, zero, suc, ◌≤◌, Bool, true, false, cond, ◌||◌, nat_eq, List, [], ◌∷◌, drop, length, Option, Some, None, refl, sym, ap, ◌∙◌, subst, arith}
use Rattle.std.specs.Prelude.{ℤ, pos}
use Rattle.std.proofs.lemmas.Bool.Decides.{nat_tests}
use Rattle.seq.proofs.Truth.{and_left, and_right}
use Rattle.grin_syntax.specs.declared.program.VarId.{VarId}
use Rattle.grin_syntax.specs.declared.program.Word as W
use Rattle.grin_syntax.specs.declared.program.Word.TheVariants.{Lit, Var, Global, TagWord}
use Rattle.grin_syntax.specs.declared.program.Val as V
use Rattle.grin_syntax.specs.declared.program.Val.TheVariants.{NodeVar, Node as Node', Vector, One}
use Rattle.grin_syntax.specs.declared.program.Target.TheVariants as to
use Rattle.grin_syntax.specs.Tree.{Program}
use Rattle.grin_syntax.specs.Formed.{AllOf}
use Rattle.grin_meaning.specs.Values.{Datum, number, tag, cell, Value, node, words, Env, State, and_then, Binding, with_vars, one_each, padded, only_word, made_node, fields_of, word_of, words_of, value_of, bindings_of}
use Rattle.grin_meaning.specs.Run.{nth_or_zero}
use Rattle.grin_meaning.specs.Checks.{is_none_or, all_zero, number_then_zeros, not_delayed, is_given, is_filled, fills}
use Rattle.grin_meaning.specs.Follows.{Same, same}
use Rattle.grin_meaning.proofs.Checked.{zeros_are}
use Rattle.grin_meaning.proofs.Names.{Any}
use Rattle.grin_meaning.proofs.Plain.{Has}
use Rattle.flow_system.specs.declared.fact.Element.{Element}
use Rattle.flow_system.specs.declared.fact.Element.TheVariants.{Cell as cell_of, Tag as tag', Number as num}
use Rattle.flow_system.specs.declared.fact.Place.TheVariants.{Var as var}
use Rattle.flow_system.specs.declared.fact.Part.TheVariants.{Word as word}
use Rattle.flow_system.specs.Solution.{Solution, At, same_word, among}
use Rattle.flow_system.specs.Covers.{StateIsCovered, ValueIn}
use Rattle.flow_system.proofs.Lying.{from_some}
use Rattle.unbox_theory.specs.Ends.{only_int, is_int_word, is_int}
use Rattle.unbox_theory.specs.Unboxing.{word_or_zero, number_word, zeros, tag_and_zeros}
use Rattle.seq.specs.Lists.{times}
use Rattle.seq.proofs.Counted.{counts, one_at}

-- ---- tests

-- ---- values

-- after the tag of a number stand these
pub data Boxed : List Datum → Value → Type 0 where
  in_node : {ds : List Datum} → Boxed ds (node (record { tag = 0; fields = ds }))
  in_words : {ds : List Datum} → Boxed ds (words (tag 0 ∷ ds))

-- and the second value is the first of them alone
pub record Bare (v v' : Value) : Type 0 where
  pub ds : List Datum
  pub boxed : Boxed ds v
  pub alone : v' ≡ words (nth_or_zero ds 0 ∷ [])

-- a number with zeros after it, and the number alone
pub record Number (v v' : Value) : Type 0 where
  pub k : ℤ
  pub rest : List Datum
  pub boxed : Boxed (number k ∷ rest) v
  pub zero_rest : all_zero rest ≡ true
  pub alone : v' ≡ words (number k ∷ [])

-- what a member gives, and what another procedure gives
abbrev pub Gives : Bool → Value → Value → Type 0
Gives true = Number
Gives false = Same

-- and what their ends give
abbrev pub EndGives : Bool → Value → Value → Type 0
EndGives true = Bare
EndGives false = Same

pub number_bare : (v v' : Value) → Number v v' → Bare v v'
number_bare v v' n = record { ds = number n.k ∷ n.rest; boxed = n.boxed; alone = n.alone }

module _ (g : Program) where
  numbers : {ds : List Datum} {v : Value} → Boxed ds v → is_given g v ≡ true
      → number_then_zeros ds ≡ true
  numbers {ds = ds} in_node e = and_right (not_delayed g (node (record { tag = 0; fields = ds })))
      (number_then_zeros ds) e
  numbers {ds = ds} in_words e = and_right (not_delayed g (words (tag 0 ∷ ds)))
      (number_then_zeros ds) e

  pub bare_number : (v v' : Value) → Bare v v' → is_given g v ≡ true → Number v v'
  bare_number v v' b e = go b.ds (numbers b.boxed e) b.boxed b.alone
    where
      go : (ds : List Datum) → number_then_zeros ds ≡ true → Boxed ds v
          → v' ≡ words (nth_or_zero ds 0 ∷ []) → Number v v'
      go [] q x a = cc
      go (tag t ∷ rest) q x a = cc
      go (cell i ∷ rest) q x a = cc
      go (number k ∷ rest) q x a = record
          { k = k; rest = rest; boxed = x; zero_rest = q; alone = a }

  number_given : (k : ℤ) → is_given g (words (number k ∷ [])) ≡ true
  number_given k = refl

  pub given_too : (b : Bool) (v v' : Value) → EndGives b v v' → (true ≡ true → is_given g v ≡ true)
      → (true ≡ true → is_given g v' ≡ true) × Gives b v v'
  given_too true v v' u seen =
      let n : Number v v' = bare_number v v' u (seen refl) in
      (λ l. subst (λ x. is_given g x ≡ true) (sym n.alone) (number_given n.k), n)
  given_too false v v' u seen = on u seen
    where
      on : {v v' : Value} → Same v v' → (true ≡ true → is_given g v ≡ true)
          → (true ≡ true → is_given g v' ≡ true) × Same v v'
      on same seen = (seen, same)

-- ---- what has the tag of a number alone

same_int : (u x : Element) → same_word (tag' 0) x ≡ true → same_word u x ≡ true → u ≡ tag' 0
same_int u (cell_of s) a b = cc
same_int u num a b = cc
same_int (cell_of s) (tag' t) a b = cc
same_int num (tag' t) a b = cc
same_int (tag' k) (tag' t) a b =
    let q : t ≡ 0 = zero_is t a in let r : k ≡ t = grind (arith, nat_tests, b) in ap tag' (r ∙ q)
  where
    zero_is : (t : ℕ) → nat_eq 0 t ≡ true → t ≡ 0
    zero_is t e = grind (arith, nat_tests)

only_among : (u : Element) (us : List Element) → only_int us ≡ true → among u us ≡ true → u ≡ tag' 0
only_among u [] h e = cc
only_among u (x ∷ us) h e = go (same_word u x) refl e
    (only_among u us (and_right (same_word (tag' 0) x) (only_int us) h))
  where
    go : (b : Bool) → same_word u x ≡ b → (b || among u us) ≡ true
        → (among u us ≡ true → u ≡ tag' 0) → u ≡ tag' 0
    go true q m later = same_int u x (and_left (same_word (tag' 0) x) (only_int us) h) q
    go false q m later = later m

module _ (g : Program) (A : Solution) (s : State) (lies : StateIsCovered g A s) where
  int_datum : (x : ℕ) (d : Datum) → only_int (A (var x) (word 0)) ≡ true
      → ValueIn g s.heap (At A (var x)) (words (d ∷ [])) → d ≡ tag 0
  int_datum x (number k) h at = let e : num ≡ tag' 0
      = only_among num (A (var x) (word 0)) h at.0.there in cc
  int_datum x (tag t) h at = let e : tag' t ≡ tag' 0
      = only_among (tag' t) (A (var x) (word 0)) h at.0.there in let q : t ≡ 0 = cc in ap tag q
  int_datum x (cell i) h at = let e : cell_of at.0.0 ≡ tag' 0
      = only_among (cell_of at.0.0) (A (var x) (word 0)) h at.0.2.there in cc

  int_variable : (x : ℕ) (d : Datum) → only_int (A (var x) (word 0)) ≡ true
      → and_then (s.env x) only_word ≡ Some d → d ≡ tag 0
  int_variable x d h e = go (s.env x) refl e
    where
      one : (ds : List Datum) → s.env x ≡ Some (words ds) → only_word (words ds) ≡ Some d
          → d ≡ tag 0
      one [] q e = cc
      one (a ∷ b ∷ ds) q e = cc
      one (a ∷ []) q e =
          let same : a ≡ d = cc in
          int_datum x d h
          (from_some (ValueIn g s.heap (At A (var x))) (s.env x) (words (d ∷ []))
          (lies.variables x) (q ∙ ap (λ d. Some (words (d ∷ []))) same))

      go : (o : Option Value) → s.env x ≡ o → and_then o only_word ≡ Some d → d ≡ tag 0
      go None q e = cc
      go (Some (node m)) q e = cc
      go (Some (words ds)) q e = one ds q e

  int_word : (a : W.Word) (d : Datum) → is_int_word A a ≡ true → word_of g s.env a ≡ Some d
      → d ≡ tag 0
  int_word (Lit k) d h e = cc
  int_word (Global i) d h e = cc
  int_word (Var x) d h e = int_variable x.0 d h e
  int_word (TagWord t) d h e = let q : t.0 ≡ 0 = grind (arith, nat_tests, h) in let r : tag t.0 ≡ d
      = cc in sym r ∙ ap tag q

  words_first : (ws : List W.Word) (ds : List Datum) → words_of g s.env ws ≡ Some ds
      → word_of g s.env (word_or_zero ws 0) ≡ Some (nth_or_zero ds 0)
  words_first [] [] e = refl
  words_first [] (d ∷ ds) e = cc
  words_first (a ∷ ws) ds e = go (word_of g s.env a) refl e
    where
      more : (d : Datum) (o : Option (List Datum)) → word_of g s.env a ≡ Some d
          → and_then o (λ ds. Some (d ∷ ds)) ≡ Some ds → word_of g s.env a ≡ Some (nth_or_zero ds 0)
      more d None q e = cc
      more d (Some es) q e = let same : d ∷ es ≡ ds = cc
          in q ∙ ap (λ ds. Some (nth_or_zero ds 0)) same

      go : (o : Option Datum) → word_of g s.env a ≡ o
          → and_then o (λ d. and_then (words_of g s.env ws) (λ ds. Some (d ∷ ds))) ≡ Some ds
          → word_of g s.env a ≡ Some (nth_or_zero ds 0)
      go None q e = cc
      go (Some d) q e = more d (words_of g s.env ws) q e

  -- a value of a number: what stands after its tag, the first of which its number word has
  pub record IntValue (v : V.Val) (y : Value) : Type 0 where
    pub ds : List Datum
    pub boxed : Boxed ds y
    pub has : word_of g s.env (number_word v) ≡ Some (nth_or_zero ds 0)

  node_value : (t : ℕ) (ds : List Datum) (y : Value) → t ≡ 0
      → and_then (made_node g t ds) (λ n. Some (node n)) ≡ Some y → Boxed ds y
  node_value t ds y z e = go (fields_of g t) e
    where
      made : (b : Bool) → and_then (cond b (Some (record { tag = t; fields = ds })) None)
          (λ n. Some (node n)) ≡ Some y → Boxed ds y
      made true e = let same : node (record { tag = t; fields = ds }) ≡ y = cc
          in subst (Boxed ds) same
          (subst (λ k. Boxed ds (node (record { tag = k; fields = ds }))) (sym z) in_node)
      made false e = cc

      go : (o : Option ℕ) → and_then
          (and_then o
          (λ k. cond (nat_eq k (length ds)) (Some (record { tag = t; fields = ds })) None))
          (λ n. Some (node n)) ≡ Some y → Boxed ds y
      go None e = cc
      go (Some k) e = made (nat_eq k (length ds)) e

  pub int_value : (v : V.Val) (y : Value) → is_int A v ≡ true → value_of g s.env v ≡ Some y
      → IntValue v y
  int_value (NodeVar x) y h e = cc
  int_value (One a) y h e = cc
  int_value (Node' t ws) y h e = go (words_of g s.env ws) refl e
    where
      tag_zero : t.0 ≡ 0
      tag_zero = grind (arith, nat_tests, h)

      go : (o : Option (List Datum)) → words_of g s.env ws ≡ o
          → and_then o (λ ds. and_then (made_node g t.0 ds) (λ n. Some (node n))) ≡ Some y
          → IntValue (Node' t ws) y
      go None q e = cc
      go (Some ds) q e = record
          { ds = ds; boxed = node_value t.0 ds y tag_zero e; has = words_first ws ds q }
  int_value (Vector []) y h e = cc
  int_value (Vector (a ∷ ws)) y h e = go (word_of g s.env a) refl e
    where
      more : (d : Datum) (o : Option (List Datum)) → word_of g s.env a ≡ Some d
          → words_of g s.env ws ≡ o → and_then (and_then o (λ ds. Some (d ∷ ds)))
          (λ ds. Some (words ds)) ≡ Some y → IntValue (Vector (a ∷ ws)) y
      more d None q r e = cc
      more d (Some ds) q r e =
          let same : words (d ∷ ds) ≡ y = cc in
          record {
            ds = ds;
            boxed = subst (Boxed ds) same
                (subst (λ d. Boxed ds (words (d ∷ ds))) (sym (int_word a d h q)) in_words);
            has
                = words_first ws ds r;
          }

      go : (o : Option Datum) → word_of g s.env a ≡ o
          → and_then (and_then o (λ d. and_then (words_of g s.env ws) (λ ds. Some (d ∷ ds))))
          (λ ds. Some (words ds)) ≡ Some y → IntValue (Vector (a ∷ ws)) y
      go None q e = cc
      go (Some d) q e = more d (words_of g s.env ws) q refl e

-- ---- what is bound

abbrev pub zero_data : ℕ → List Datum
zero_data zero = []
zero_data (suc k) = number (pos 0) ∷ zero_data k

abbrev pub zero_bindings : List VarId → List Binding
zero_bindings [] = []
zero_bindings (z ∷ zs) = (z.0, words (number (pos 0) ∷ [])) ∷ zero_bindings zs

-- the tag of a number and zeros
abbrev pub beside_number : VarId → List VarId → List Binding
beside_number x zs = (x.0, words (tag 0 ∷ [])) ∷ zero_bindings zs

pub zeros_stand : (g : Program) (env : Env) (k : ℕ) → words_of g env (zeros k) ≡ Some (zero_data k)
zeros_stand g env zero = refl
zeros_stand g env (suc k) = ap (λ o. and_then o (λ ds. Some (number (pos 0) ∷ ds)))
    (zeros_stand g env k)

zero_drop : (j k : ℕ) → all_zero (drop j (zero_data k)) ≡ true
zero_drop zero zero = refl
zero_drop zero (suc k) = zero_drop zero k
zero_drop (suc j) zero = refl
zero_drop (suc j) (suc k) = zero_drop j k

pub value_stands : (g : Program) (env : Env) (k : ℕ)
    → value_of g env (tag_and_zeros k) ≡ Some (words (tag 0 ∷ zero_data k))
value_stands g env k = ap
    (λ o. and_then (and_then o (λ ds. Some (tag 0 ∷ ds))) (λ ds. Some (words ds)))
    (zeros_stand g env k)

pub value_fills : (g : Program) (env : Env) (k : ℕ) → fills g env (tag_and_zeros k) ≡ true
value_fills g env k = ap (λ o. is_none_or (and_then o (λ ds. Some (tag 0 ∷ ds))) (is_filled g))
    (zeros_stand g env k) ∙ go (fields_of g 0)
  where
    go : (o : Option ℕ) → is_none_or o (λ j. all_zero (drop j (zero_data k))) ≡ true
    go None = refl
    go (Some j) = zero_drop j k

zeros_each : (zs : List VarId) → one_each zs (zero_data (length zs)) ≡ Some (zero_bindings zs)
zeros_each [] = refl
zeros_each (z ∷ zs) = ap (λ o. and_then o (λ bs. Some ((z.0, words (number (pos 0) ∷ [])) ∷ bs)))
    (zeros_each zs)

pub beside_each : (x : VarId) (zs : List VarId) → one_each (x ∷ zs) (tag 0 ∷ zero_data (length zs))
    ≡ Some (beside_number x zs)
beside_each x zs = ap (λ o. and_then o (λ bs. Some ((x.0, words (tag 0 ∷ [])) ∷ bs)))
    (zeros_each zs)

zeros_bound : (zs : List VarId) (ds : List Datum) (bs : List Binding)
    → AllOf (λ d. d ≡ number (pos 0)) ds → one_each zs ds ≡ Some bs → bs ≡ zero_bindings zs
zeros_bound [] [] bs h e = let same : [] ≡ bs = cc in sym same
zeros_bound [] (d ∷ ds) bs h e = cc
zeros_bound (z ∷ zs) [] bs h e = cc
zeros_bound (z ∷ zs) (d ∷ ds) bs h e = go (one_each zs ds) refl e (λ cs. zeros_bound zs ds cs h.1)
  where
    go : (o : Option (List Binding)) → one_each zs ds ≡ o
        → and_then o (λ bs. Some ((z.0, words (d ∷ [])) ∷ bs)) ≡ Some bs
        → ((cs : List Binding) → one_each zs ds ≡ Some cs → cs ≡ zero_bindings zs)
        → bs ≡ zero_bindings (z ∷ zs)
    go None q e later = cc
    go (Some cs) q e later = let same : (z.0, words (d ∷ [])) ∷ cs ≡ bs = cc
        in sym same ∙ (λ i. (z.0, words (h.0 i ∷ [])) ∷ later cs q i)

padded_zeros : (k : ℕ) (ds : List Datum) → AllOf (λ d. d ≡ number (pos 0)) ds
    → AllOf (λ d. d ≡ number (pos 0)) (padded k ds)
padded_zeros zero ds h = h
padded_zeros (suc k) [] h = (refl, padded_zeros k [] tt)
padded_zeros (suc k) (d ∷ ds) h = (h.0, padded_zeros k ds h.1)

-- a number goes to two variables or more
number_bound : (x y : VarId) (zs : List VarId) (k : ℤ) (rest : List Datum) (bs : List Binding)
    → AllOf (λ d. d ≡ number (pos 0)) rest → one_each (x ∷ y ∷ zs) (tag 0 ∷ number k ∷ rest) ≡ Some
    bs
    → bs ≡ (x.0, words (tag 0 ∷ [])) ∷ (y.0, words (number k ∷ [])) ∷ zero_bindings zs
number_bound x y zs k rest bs h e = go (one_each zs rest) refl e
  where
    go : (o : Option (List Binding)) → one_each zs rest ≡ o
        → and_then (and_then o (λ bs. Some ((y.0, words (number k ∷ [])) ∷ bs)))
        (λ bs. Some ((x.0, words (tag 0 ∷ [])) ∷ bs)) ≡ Some bs
        → bs ≡ (x.0, words (tag 0 ∷ [])) ∷ (y.0, words (number k ∷ [])) ∷ zero_bindings zs
    go None q e = cc
    go (Some cs) q e =
        let same : (x.0, words (tag 0 ∷ [])) ∷ (y.0, words (number k ∷ [])) ∷ cs ≡ bs = cc in
        sym same ∙ ap (λ cs. (x.0, words (tag 0 ∷ [])) ∷ (y.0, words (number k ∷ [])) ∷ cs)
        (zeros_bound zs rest cs h q)

pub binds_number : (g : Program) (x y : VarId) (zs xs : List VarId) {k : ℤ} {rest : List Datum}
    {v : Value} (bs : List Binding) → xs ≡ x ∷ y ∷ zs → Boxed (number k ∷ rest) v
    → all_zero rest ≡ true
    → bindings_of g (to.Vector (x ∷ y ∷ zs)) v ≡ Some bs
    → bs ≡ (x.0, words (tag 0 ∷ [])) ∷ (y.0, words (number k ∷ [])) ∷ zero_bindings zs
binds_number g x y zs xs {k = k} {rest = rest} bs q in_node h e
    = number_bound x y zs k (padded (length zs) rest) bs
    (padded_zeros (length zs) rest (zeros_are rest h)) e
binds_number g x y zs xs {k = k} {rest = rest} bs q in_words h e
    = number_bound x y zs k rest bs (zeros_are rest h) e

pub nothing_binds : (g : Program) {k : ℤ} {rest : List Datum} {v : Value} (bs : List Binding)
    → Boxed (number k ∷ rest) v → bindings_of g to.Nothing v ≡ Some bs → ⊥
nothing_binds g bs in_node e = cc
nothing_binds g bs in_words e = cc

pub one_binds : (g : Program) (x : VarId) {k : ℤ} {rest : List Datum} {v : Value}
    (bs : List Binding) → Boxed (number k ∷ rest) v → bindings_of g (to.One x) v ≡ Some bs → ⊥
one_binds g x bs in_node e = cc
one_binds g x bs in_words e = cc

pub none_binds : (g : Program) {k : ℤ} {rest : List Datum} {v : Value} (bs : List Binding)
    → Boxed (number k ∷ rest) v → bindings_of g (to.Vector []) v ≡ Some bs → ⊥
none_binds g bs in_node e = cc
none_binds g bs in_words e = cc

pub single_binds : (g : Program) (x : VarId) {k : ℤ} {rest : List Datum} {v : Value}
    (bs : List Binding) → Boxed (number k ∷ rest) v → bindings_of g (to.Vector (x ∷ [])) v ≡ Some bs
    → ⊥
single_binds g x bs in_node e = cc
single_binds g x bs in_words e = cc

-- ---- two variables bound in another order

pub swapped : (x y : ℕ) (a b : Value) (env env' : Env) → x ≢ y → Has Any env env'
    → Has Any (with_vars ((x, a) ∷ (y, b) ∷ []) env)
    (with_vars ((x, a) ∷ []) (with_vars ((y, b) ∷ []) env'))
swapped x y a b env env' apart has z v ok e = go (nat_eq z x) refl (nat_eq z y) refl e
  where
    both : nat_eq z x ≡ true → nat_eq z y ≡ true → x ≡ y
    both p q = grind (arith, nat_tests, p, q)

    go : (p : Bool) → nat_eq z x ≡ p → (q : Bool) → nat_eq z y ≡ q
        → cond q (Some b) (cond p (Some a) (env z)) ≡ Some v
        → cond p (Some a) (cond q (Some b) (env' z)) ≡ Some v
    go true p true q e = absurd (apart (both p q))
    go true p false q e = e
    go false p true q e = e
    go false p false q e = has z v ok e

pub apart_by : (x y : ℕ) (zs : List ℕ) → ((z : ℕ) → times z (x ∷ y ∷ zs) ≤ 1) → x ≢ y
apart_by x y zs once e =
    let h : times x (x ∷ y ∷ zs) ≤ 1 = once x in
    let p : counts (nat_eq x x) ≡ 1 = one_at x in
    let q : counts (nat_eq x y) ≡ 1 = subst (λ k. counts (nat_eq x k) ≡ 1) e (one_at x) in
    omega (arith, h, p, q)
