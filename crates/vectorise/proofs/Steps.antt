-- Each construct of a program does what its vectorised one does.
use Rattle.std.proofs.Common.{◌≡◌, ℕ, zero, suc, ◌+◌, ◌<◌, ◌≤◌, Bool, true, false, cond, nat_eq, nat_le, take, List, [], ◌∷◌, length, Option, Some, None, slice_get, refl, sym, ap, ◌∙◌, subst, arith}
use Rattle.std.specs.Prelude.{ℤ, IfSome}
use Rattle.std.proofs.lemmas.Bool.Decides.{nat_tests}
use Rattle.seq.proofs.Truth.{and_from}
use Rattle.grin_syntax.specs.declared.program.VarId.{VarId}
use Rattle.grin_syntax.specs.declared.program.Cell.{Cell}
use Rattle.grin_syntax.specs.declared.program.Target.{Target}
use Rattle.grin_syntax.specs.declared.program.Target.TheVariants as to
use Rattle.grin_syntax.specs.declared.program.Shape.{Shape}
use Rattle.grin_syntax.specs.declared.program.Shape.TheVariants as shape
use Rattle.grin_syntax.specs.declared.program.Word as W
use Rattle.grin_syntax.specs.declared.program.Word.TheVariants.{Lit, Var, Global, TagWord}
use Rattle.grin_syntax.specs.declared.program.Val as V
use Rattle.grin_syntax.specs.declared.program.Val.TheVariants.{NodeVar, Node as NodeVal, Vector, One}
use Rattle.grin_syntax.specs.Tree.{Procedure, Program}
use Rattle.grin_syntax.specs.Binders.{numbers_of, target_vars, shape_vars}
use Rattle.grin_syntax.specs.Formed.{AllOf, Scope, InScope, with_word_variables, with_target, WordFormed, ValFormed, CellFormed}
use Rattle.grin_syntax.specs.Fresh.{past_target}
use Rattle.grin_syntax.proofs.Scopes.{first_in}
use Rattle.grin_meaning.specs.Values.{Datum, number, tag, cell, Node, Value, node, words, Env, HeapCell, and_then, only_word, Binding, with_vars, one_each, fits, fits_not, fits_if, fields_fit, node_fit, number_fit, int_fit, fit_of, fields_of, made_node, as_node, word_of, words_of, value_of, node_of, bindings_of}
use Rattle.grin_meaning.specs.Run.{cells_of}
use Rattle.grin_meaning.specs.Checks.{is_none_or, is_given, is_filled, fills, all_fill}
use Rattle.grin_meaning.specs.Full.{FullNode, FullValue}
use Rattle.grin_meaning.proofs.Fullness.{as_node_full}
use Rattle.vectorise.specs.Known.{Layout, Table, vector_start, room, is_fetched, field_capacity_of, word_for, as_word, as_words, vector_words, field_words}
use Rattle.vectorise.specs.Vectors.{wide_val, returned_val, wide_target, without_binders, wide_cells}
use Rattle.vectorise.specs.Whole.{NoVector, NoVectorTarget, NoWord}
use Rattle.vectorise.proofs.Noted.{TargetKnown, ShapeKnown}
use Rattle.vectorise.proofs.Scoped.{room_fits}
use Rattle.vectorise.proofs.Standing.{NodeStands, Stand, Held, fields_goes, bind_word, bind_node, takes_node, takes_vector}
use Rattle.vectorise.proofs.Vals.{vector_of, vector_node, vector_filled, vector_given, vector_shorter, Stands, words_stand, fields_stand, some_and}
use Rattle.seq.specs.Lists.{times}
use Rattle.grin_meaning.proofs.Bindings.{named}

-- ---- what is given

-- nothing or a number is the same, and a node is itself or its vector
pub data Gives (g : Program) (k : ℕ) : Value → Value → Type 0 where
  gives_nothing : Gives g k (words []) (words [])
  gives_number : (i : ℤ) → Gives g k (words (number i ∷ [])) (words (number i ∷ []))
  gives_node : {n : Node} → FullNode g n → Gives g k (node n) (node n)
  gives_vector : {n : Node} → FullNode g n → Gives g k (node n) (words (vector_of k n))

pub given_too : (g : Program) (k : ℕ) {v v' : Value} → 0 < k → Gives g k v v' → is_given g v ≡ true
    → is_given g v' ≡ true
given_too g k lt gives_nothing h = h
given_too g k lt (gives_number i) h = h
given_too g k lt (gives_node f) h = h
given_too g k lt (gives_vector {n} f) h = vector_given g k n lt h

module _ (l : Layout) (K : Table) (g : Program) (procs : List Procedure)
    (same_count : length procs ≡ length g.procs) where
  abbrev St : Scope → Env → Env → Type 0
  St = Stand l K g procs same_count

  module _ (scope : Scope) (env env' : Env) (st : St scope env env') where
    some_is : {A : Type 0} {a b : A} → ◌≡◌ {A = Option A} (Some a) (Some b) → a ≡ b
    some_is h = cc

    pub word_goes : (w : W.Word) → WordFormed g scope w → (d : Datum) → word_of g env w ≡ Some d
        → word_of g env' (as_word K w) ≡ Some d
    word_goes (Lit k) f d e = e
    word_goes (Var x) f d e = go (env x.0) refl e
      where
        go : (o : Option Value) → env x.0 ≡ o → and_then o only_word ≡ Some d
            → word_of g env' (word_for x (slice_get K x.0)) ≡ Some d
        go None q e = cc
        go (Some (node n)) q e = cc
        go (Some (words [])) q e = cc
        go (Some (words (c ∷ []))) q e = st.words x f (words (c ∷ [])) q ∙ e
        go (Some (words (c ∷ (c2 ∷ cs)))) q e = cc
    word_goes (Global i) f d e = e
    word_goes (TagWord t) f d e = e

    pub words_go : (ws : List W.Word) → AllOf (WordFormed g scope) ws → (ds : List Datum)
        → words_of g env ws ≡ Some ds → words_of g env' (as_words K ws) ≡ Some ds
    words_go [] f ds e = e
    words_go (w ∷ ws) f ds e =
        let x : (d : Datum) × (word_of g env w ≡ Some d)
        × (and_then (words_of g env ws) (λ es. Some (d ∷ es)) ≡ Some ds)
        = some_and g (word_of g env w) _ ds e in
        let y : (es : List Datum) × (words_of g env ws ≡ Some es) × (Some (x.0 ∷ es) ≡ Some ds)
        = some_and g (words_of g env ws) _ ds x.2 in
        (λ i. and_then (word_goes w f.0 x.0 x.1 i)
        (λ d. and_then (words_go ws f.1 y.0 y.1 i) (λ es. Some (d ∷ es)))) ∙ y.2

    made_is : (t : ℕ) (ds : List Datum) (n : Node) → made_node g t ds ≡ Some n → FullNode g n
        × (n.fields ≡ ds)
    made_is t ds n e =
        let x : (k : ℕ) × (fields_of g t ≡ Some k) ×
        (cond (nat_eq k (length ds)) (Some (record { tag = t; fields = ds })) None ≡ Some n)
        = some_and g (fields_of g t) _ n e in
        on x.0 x.1 (nat_eq x.0 (length ds)) refl x.2
      where
        same_count' : (k : ℕ) → nat_eq k (length ds) ≡ true → k ≡ length ds
        same_count' k q = grind (arith, nat_tests)

        on : (k : ℕ) → fields_of g t ≡ Some k → (b : Bool) → nat_eq k (length ds) ≡ b
            → cond b (Some (record { tag = t; fields = ds })) None ≡ Some n → FullNode g n
            × (n.fields ≡ ds)
        on k f false q e = cc
        on k f true q e = let s : record { tag = t; fields = ds } ≡ n = some_is e
            in subst (λ m. FullNode g m × (m.fields ≡ ds)) s (f ∙ ap Some (same_count' k q), refl)

    -- a value that is there: the node that it stands for, and where its vector is
    module _ (full : (x : ℕ) → IfSome (env x) (FullValue g)) where
      -- what a unit gives
      pub unit_goes : (few : l.most_value ≤ l.most) (v : V.Val) → ValFormed g scope v → NoWord v
          → NoVector v → (y : Value) → value_of g env v ≡ Some y → (y' : Value)
          × (value_of g env' (returned_val l K v) ≡ Some y') × Gives g l.most_value y y'
          × (fills g env' (returned_val l K v) ≡ true)
      unit_goes few (NodeVar x) f w u y e = go y e (st.nodes x f y e) (full x.0)
        where
          least : l.most_value ≤ field_capacity_of l K x
          least = at (is_fetched (slice_get K x.0))
            where
              at : (b : Bool) → l.most_value ≤ room l b
              at true = few
              at false = omega arith

          of_some : (P : Value → Type 0) (v : Value) → IfSome (env x.0) P → env x.0 ≡ Some v → P v
          of_some P v h q = subst (λ o. IfSome o P) q h

          go : (y : Value) → env x.0 ≡ Some y → NodeStands l K g procs same_count x y env'
              → IfSome (env x.0) (FullValue g)
              → (y' : Value) × (value_of g env' (returned_val l K (NodeVar x)) ≡ Some y')
              × Gives g l.most_value y y' × (fills g env' (returned_val l K (NodeVar x)) ≡ true)
          go (words ds) q s h = absurd s
          go (node n) q s h =
              let whole : FullNode g n = of_some (FullValue g) (node n) h q in
              let there : words_of g env' (vector_words l x (suc l.most_value)) ≡ Some
              (vector_of l.most_value n) = vector_shorter g env' (vector_start l x.0)
              (field_capacity_of l K x) l.most_value n least s.0 in (
                words (vector_of l.most_value n),
                ap (λ o. and_then o (λ ds. Some (words ds))) there,
                gives_vector whole,
                ap (λ o. is_none_or o (is_filled g)) there ∙ vector_filled g
                    l.most_value n whole,
              )
      unit_goes few (NodeVal t ws) f w u y e =
          let x : (ds : List Datum) × (words_of g env ws ≡ Some ds)
          × (and_then (made_node g t.0 ds) (λ n. Some (node n)) ≡ Some y)
          = some_and g (words_of g env ws) _ y e in
          let z : (n : Node) × (made_node g t.0 x.0 ≡ Some n) × (Some (node n) ≡ Some y)
          = some_and g (made_node g t.0 x.0) _ y x.2 in
          let m : FullNode g z.0 × (z.0.fields ≡ x.0) = made_is t.0 x.0 z.0 z.1 in (
            y,
            ap (λ o. and_then o (λ ds. and_then (made_node g t.0 ds) (λ n. Some (node n))))
                (words_go ws f.1 x.0 x.1) ∙ x.2,
            subst (λ u. Gives g l.most_value u u) (some_is z.2) (gives_node m.0),
            refl,
          )
      unit_goes few (Vector ws) f w u y e = absurd u
      unit_goes few (One a) f w u y e = absurd w

      -- where the whole vector stands: the same node, and what it is made of
      pub record Wide (v : V.Val) (y : Value) : Type 0 where
        pub y' : Value
        pub value : value_of g env' (wide_val l K v) ≡ Some y'
        pub node_same : as_node g y' ≡ as_node g y
        pub fine : (n : Node) → as_node g y ≡ Some n → FullNode g n
            × Stands g env' (field_words l K v) n.fields
        pub filled : fills g env' (wide_val l K v) ≡ true

      pub wide_goes : (v : V.Val) → ValFormed g scope v → NoVector v → (y : Value)
          → value_of g env v ≡ Some y → Wide v y
      wide_goes (NodeVar x) f w y e = go y e (st.nodes x f y e) (full x.0)
        where
          of_some : (P : Value → Type 0) (v : Value) → IfSome (env x.0) P → env x.0 ≡ Some v → P v
          of_some P v h q = subst (λ o. IfSome o P) q h

          go : (y : Value) → env x.0 ≡ Some y → NodeStands l K g procs same_count x y env'
              → IfSome (env x.0) (FullValue g) → Wide (NodeVar x) y
          go (words ds) q s h = absurd s
          go (node n) q s h =
              let k : ℕ = field_capacity_of l K x in
              let whole : FullNode g n = of_some (FullValue g) (node n) h q in
              record {
                y' = words (vector_of k n);
                value = ap (λ o. and_then o (λ ds. Some (words ds))) s.0;
                node_same = vector_node g k n whole s.1;
                fine = λ m r. subst
                    (λ u. FullNode g u × Stands g env' (field_words l K (NodeVar x)) u.fields)
                    (some_is r)
                    (whole, fields_stand g env' (vector_start l x.0) k n s.0 s.1);
                filled = ap (λ o. is_none_or o (is_filled g)) s.0 ∙ vector_filled g k n whole;
              }
      wide_goes (NodeVal t ws) f w y e =
          let x : (ds : List Datum) × (words_of g env ws ≡ Some ds)
          × (and_then (made_node g t.0 ds) (λ n. Some (node n)) ≡ Some y)
          = some_and g (words_of g env ws) _ y e in
          let z : (n : Node) × (made_node g t.0 x.0 ≡ Some n) × (Some (node n) ≡ Some y)
          = some_and g (made_node g t.0 x.0) _ y x.2 in
          let m : FullNode g z.0 × (z.0.fields ≡ x.0) = made_is t.0 x.0 z.0 z.1 in
          let there : words_of g env' (as_words K ws) ≡ Some x.0 = words_go ws f.1 x.0 x.1 in
          record {
            y' = y;
            value = ap (λ o. and_then o (λ ds. and_then (made_node g t.0 ds) (λ n. Some (node n))))
                there ∙ x.2;
            node_same = refl;
            fine = λ n r. subst (λ u. FullNode g u × Stands g env' (as_words K ws) u.fields)
                (some_is (ap (as_node g) (some_is z.2) ∙ r)) (
                  m.0,
                  subst (Stands g env' (as_words K ws)) (sym m.1)
                      (words_stand g env' (as_words K ws) x.0 there),
                );
            filled = refl;
          }
      wide_goes (Vector ws) f w y e = absurd w
      wide_goes (One a) f w y e =
          let x : (d : Datum) × (word_of g env a ≡ Some d) × (Some (words (d ∷ [])) ≡ Some y)
          = some_and g (word_of g env a) _ y e in
          record {
            y' = y;
            value = ap (λ o. and_then o (λ d. Some (words (d ∷ [])))) (word_goes a f x.0 x.1) ∙ x.2;
            node_same = refl;
            fine = λ n r. tag_alone x.0 n (ap (as_node g) (some_is x.2) ∙ r);
            filled = refl;
          }
        where
          no_node : {A : Type 0} {n : Node} → ◌≡◌ {A = Option Node} None (Some n) → A
          no_node h = cc

          none_left : (k : ℕ) → take {A = Datum} k [] ≡ []
          none_left zero = refl
          none_left (suc k) = refl

          -- a word that is a tag stands for a node without fields
          alone : (t : ℕ) (n : Node) → as_node g (words (tag t ∷ [])) ≡ Some n → n.fields ≡ []
          alone t n r = on (fields_of g t) r
            where
              made : (k : ℕ) (b : Bool) → ◌≡◌ {A = Option Node}
                  (cond b (Some (record { tag = t; fields = take k [] })) None) (Some n)
                  → n.fields ≡ []
              made k true r = sym (ap (λ m. m.fields) (some_is r)) ∙ none_left k
              made k false r = no_node r

              on : (o : Option ℕ) → ◌≡◌ {A = Option Node}
                  (and_then o
                  (λ k. cond (nat_le k 0) (Some (record { tag = t; fields = take k [] })) None))
                  (Some n) → n.fields ≡ []
              on None r = no_node r
              on (Some k) r = made k (nat_le k 0) r

          tag_alone : (d : Datum) (n : Node) → as_node g (words (d ∷ [])) ≡ Some n → FullNode g n
              × Stands g env' [] n.fields
          tag_alone (number i) n r = no_node r
          tag_alone (cell i) n r = no_node r
          tag_alone (tag t) n r = (
            subst (λ o. IfSome o (FullNode g)) r (as_node_full g (words (tag t ∷ [])) tt),
            subst (Stands g env' []) (sym (alone t n r)) tt,
          )

      -- the node that goes into a cell
      pub record Made (v : V.Val) (n : Node) : Type 0 where
        pub made : node_of g env' (wide_val l K v) ≡ Some n
        pub full_node : FullNode g n
        pub filled : fills g env' (wide_val l K v) ≡ true

      pub node_goes : (v : V.Val) → ValFormed g scope v → NoVector v → (n : Node)
          → node_of g env v ≡ Some n → Made v n
      node_goes v f w n e =
          let x : (y : Value) × (value_of g env v ≡ Some y) × (as_node g y ≡ Some n)
          = some_and g (value_of g env v) (as_node g) n e in
          let z : Wide v x.0 = wide_goes v f w x.0 x.1 in
          let fine : FullNode g n × Stands g env' (field_words l K v) n.fields = z.fine n x.2 in
          record {
            made = ap (λ o. and_then o (as_node g)) z.value ∙ z.node_same ∙ x.2;
            full_node
                = fine.0;
            filled = z.filled;
          }

      pub cells_go : (cs : List Cell) → AllOf (CellFormed g scope) cs
          → AllOf (λ c. NoVector c.val) cs → (hs : List HeapCell) → cells_of g env cs ≡ Some hs
          → (cells_of g env' (wide_cells l K cs) ≡ Some hs)
          × (all_fill g env' (wide_cells l K cs) ≡ true)
      cells_go [] f w hs e = (e, refl)
      cells_go (c ∷ cs) f w hs e =
          let x : (b : HeapCell) ×
          (and_then (node_of g env c.val) (λ n. Some (record { site = c.site.0; node = n })) ≡
          Some b) × (and_then (cells_of g env cs) (λ bs. Some (b ∷ bs)) ≡ Some hs)
          = some_and g
          (and_then (node_of g env c.val) (λ n. Some (record { site = c.site.0; node = n }))) _
          hs e in
          let n : (n : Node) × (node_of g env c.val ≡ Some n)
          × (Some (record { site = c.site.0; node = n }) ≡ Some x.0)
          = some_and g (node_of g env c.val) _ x.0 x.1 in
          let y : (bs : List HeapCell) × (cells_of g env cs ≡ Some bs) × (Some (x.0 ∷ bs) ≡ Some hs)
          = some_and g (cells_of g env cs) _ hs x.2 in
          let m : Made c.val n.0 = node_goes c.val f.0 w.0 n.0 n.1 in
          let r : (cells_of g env' (wide_cells l K cs) ≡ Some y.0)
          × (all_fill g env' (wide_cells l K cs) ≡ true) = cells_go cs f.1 w.1 y.0 y.1 in (
            (λ i. and_then (and_then (m.made i) (λ n. Some (record { site = c.site.0; node = n })))
                (λ b. and_then (r.0 i) (λ bs. Some (b ∷ bs)))) ∙ ap (λ b. Some (b ∷ y.0))
                (some_is n.2) ∙ y.2,
            and_from (fills g env' (wide_val l K c.val)) (all_fill g env' (wide_cells l K cs))
                m.filled r.1,
          )

  -- ---- targets

  -- a value that goes to the target of a fetch, or of another operation: with room for a node's
  -- fields
  pub data Goes (f : Bool) : Value → Value → Type 0 where
    goes_nothing : Goes f (words []) (words [])
    goes_number : (i : ℤ) → Goes f (words (number i ∷ [])) (words (number i ∷ []))
    goes_node : {n : Node} → length n.fields ≤ room l f → Goes f (node n) (node n)
    goes_vector : {n : Node} → length n.fields ≤ room l f
        → Goes f (node n) (words (vector_of (room l f) n))

  -- the vector of a node variable
  node_bound : (few : l.most_value ≤ l.most) (f : Bool) (x : VarId) (scope : Scope)
      (scope' : List ℕ) (env env' : Env) (n : Node) (bs : List Binding)
      → is_fetched (slice_get K x.0) ≡ f → times x.0 scope.nodes + times x.0 scope.words ≡ 0
      → Held l K g procs same_count scope scope'
      → St scope env env' → length n.fields ≤ room l f → Some ((x.0, node n) ∷ []) ≡ Some bs
      → St (with_target (to.Node x) scope) (with_vars bs env)
      (with_vars (named (vector_start l x.0) (vector_of (room l f) n)) env')
  node_bound few f x scope scope' env env' n bs k z h st r e =
      let b : field_capacity_of l K x ≡ room l f = ap (room l) k in
      subst (λ c. St (with_target (to.Node x) scope) (with_vars c env)
      (with_vars (named (vector_start l x.0) (vector_of (room l f) n)) env')) (one_is e)
      (subst (λ j. St (with_target (to.Node x) scope) (with_vars ((x.0, node n) ∷ []) env)
      (with_vars (named (vector_start l x.0) (vector_of j n)) env')) b
      (bind_node l K g procs same_count scope scope' env env' x n
      (room_fits l few (is_fetched (slice_get K x.0))) (omega (arith, z)) (omega (arith, z))
      (subst (λ j. length n.fields ≤ j) (sym b) r) h st))
    where
      one_is : {as' cs : List Binding} → ◌≡◌ {A = Option (List Binding)} (Some as') (Some cs)
          → as' ≡ cs
      one_is r = cc

  pub target_goes : (few : l.most_value ≤ l.most) (f : Bool) (t : Target) (scope : Scope)
      (scope' : List ℕ) (env env' : Env) {v v' : Value} (bs : List Binding) → NoVectorTarget t
      → TargetKnown l K f t → past_target t ≤ l.base
      → ((y : ℕ) → InScope (target_vars t) y → times y scope.nodes + times y scope.words ≡ 0)
      → Held l K g procs same_count scope scope' → St scope env env' → Goes f v v'
      → bindings_of g t v ≡ Some bs
      → (bs' : List Binding) × (bindings_of g (wide_target l f t) v' ≡ Some bs')
      × St (with_target t scope) (with_vars bs env) (with_vars bs' env')
  target_goes few f to.Nothing scope scope' env env' bs w k le new h st goes_nothing e = let q
      : bs ≡ [] = cc in ([], refl, subst (λ b. St scope (with_vars b env) env') (sym q) st)
  target_goes few f to.Nothing scope scope' env env' bs w k le new h st (goes_number i) e = cc
  target_goes few f to.Nothing scope scope' env env' bs w k le new h st (goes_node r) e = cc
  target_goes few f to.Nothing scope scope' env env' bs w k le new h st (goes_vector r) e = cc
  target_goes few f (to.Vector xs) scope scope' env env' bs w k le new h st u e = absurd w
  target_goes few f (to.One x) scope scope' env env' bs w k le new h st goes_nothing e = cc
  target_goes few f (to.One x) scope scope' env env' bs w k le new h st (goes_number i) e =
      let q : bs ≡ (x.0, words (number i ∷ [])) ∷ [] = one_is e in
      let n : times x.0 scope.nodes + times x.0 scope.words ≡ 0 = new x.0 (first_in x.0 []) in (
        (x.0, words (number i ∷ [])) ∷ [],
        refl,
        subst (λ b. St (with_word_variables (x.0 ∷ []) scope) (with_vars b env)
            (with_vars ((x.0, words (number i ∷ [])) ∷ []) env')) (sym q)
            (bind_word l K g procs same_count scope scope' env env' x (number i) (omega (arith, le))
            k (omega (arith, n)) (omega (arith, n)) h st),
      )
    where
      one_is : {as' : List Binding} → ◌≡◌ {A = Option (List Binding)} (Some as') (Some bs)
          → bs ≡ as'
      one_is r = cc
  target_goes few f (to.One x) scope scope' env env' bs w k le new h st (goes_node r) e = cc
  target_goes few f (to.One x) scope scope' env env' bs w k le new h st (goes_vector r) e = cc
  target_goes few f (to.Node x) scope scope' env env' bs w k le new h st goes_nothing e = cc
  target_goes few f (to.Node x) scope scope' env env' bs w k le new h st (goes_number i) e = cc
  target_goes few f (to.Node x) scope scope' env env' bs w k le new h st (goes_node {n = n} r) e = (
    named (vector_start l x.0) (vector_of (room l f) n),
    takes_node l K g procs same_count (vector_start l x.0) (room l f) n r,
    node_bound few f x scope scope' env env' n bs k (new x.0 (first_in x.0 [])) h st r e,
  )
  target_goes few f (to.Node x) scope scope' env env' bs w k le new h st (goes_vector {n = n} r) e = (
    named (vector_start l x.0) (vector_of (room l f) n),
    takes_vector l K g procs same_count (vector_start l x.0) (room l f) n,
    node_bound few f x scope scope' env env' n bs k (new x.0 (first_in x.0 [])) h st r e,
  )

  -- ---- patterns

  -- a pattern that binds nothing fits where the pattern fits
  pub bare_fits : (q : Shape) (y y' : Value) (bs : List Binding) → as_node g y' ≡ as_node g y
      → fit_of g q y ≡ fits bs → fit_of g (without_binders q) y' ≡ fits []
  bare_fits shape.Else y y' bs s e = refl
  bare_fits (shape.Int k) y y' bs s e = go (as_node g y) s e
    where
      go : (o : Option Node) → as_node g y' ≡ o → int_fit k o ≡ fits bs
          → int_fit k (as_node g y') ≡ fits []
      go None s e = cc
      go (Some n) s e = ap (int_fit k) s ∙ on (nat_eq n.tag 0) n.fields e
        where
          number_on : (b : Bool) → cond b (fits []) fits_not ≡ fits bs
              → cond b (fits []) fits_not ≡ fits []
          number_on true e = refl
          number_on false e = cc

          on : (b : Bool) (ds : List Datum) → cond b (number_fit k ds) fits_not ≡ fits bs
              → cond b (number_fit k ds) fits_not ≡ fits []
          on true [] e = cc
          on true (number i ∷ ds) e = number_on _ e
          on true (tag t ∷ ds) e = cc
          on true (cell a ∷ ds) e = cc
          on false ds e = cc
  bare_fits (shape.Node t xs) y y' bs s e = go (as_node g y) s e
    where
      go : (o : Option Node) → as_node g y' ≡ o → node_fit t.0 xs o ≡ fits bs
          → node_fit t.0 [] (as_node g y') ≡ fits []
      go None s e = cc
      go (Some n) s e = ap (node_fit t.0 []) s ∙ on (nat_eq n.tag t.0) e
        where
          on : (b : Bool) → cond b (fields_fit xs n.fields) fits_not ≡ fits bs
              → cond b (fits []) fits_not ≡ fits []
          on true e = refl
          on false e = cc

  pub bare_not : (q : Shape) (y y' : Value) → as_node g y' ≡ as_node g y → fit_of g q y ≡ fits_not
      → fit_of g (without_binders q) y' ≡ fits_not
  bare_not shape.Else y y' s e = cc
  bare_not (shape.Int k) y y' s e = ap (int_fit k) s ∙ e
  bare_not (shape.Node t xs) y y' s e = go (as_node g y) s e
    where
      go : (o : Option Node) → as_node g y' ≡ o → node_fit t.0 xs o ≡ fits_not
          → node_fit t.0 [] (as_node g y') ≡ fits_not
      go None s e = cc
      go (Some n) s e = ap (node_fit t.0 []) s ∙ on (nat_eq n.tag t.0) e
        where
          fields_on : (ys : List VarId) → fields_fit ys n.fields ≡ fits_not → fits [] ≡ fits_not
          fields_on [] e = e
          fields_on (x ∷ ys) e = not_if (one_each (x ∷ ys) n.fields) e
            where
              not_if : (o : Option (List Binding)) → fits_if o ≡ fits_not → fits [] ≡ fits_not
              not_if None e = cc
              not_if (Some cs) e = cc

          on : (b : Bool) → cond b (fields_fit xs n.fields) fits_not ≡ fits_not
              → cond b (fits []) fits_not ≡ fits_not
          on true e = fields_on xs e
          on false e = refl

  -- the fields of the value are the words
  pub pattern_goes : (q : Shape) (y : Value) (bs : List Binding) (ws : List W.Word) (scope : Scope)
      (env env' : Env) → ((n : Node) → as_node g y ≡ Some n → Stands g env' ws n.fields)
      → ShapeKnown l K ws q
      → ((x : ℕ) → InScope (shape_vars q) x → times x scope.nodes ≡ 0) → fit_of g q y ≡ fits bs
      → St scope env env' → St (with_word_variables (shape_vars q) scope) (with_vars bs env)
      env'
  pattern_goes shape.Else y bs ws scope env env' fine k new e st = let h : bs ≡ [] = cc
      in subst (λ b. St (with_word_variables [] scope) (with_vars b env) env') (sym h) st
  pattern_goes (shape.Int i) y bs ws scope env env' fine k new e st = let h : bs ≡ []
      = go (as_node g y) e in subst (λ b. St (with_word_variables [] scope) (with_vars b env) env')
      (sym h) st
    where
      number_on : (b : Bool) → cond b (fits []) fits_not ≡ fits bs → bs ≡ []
      number_on true e = cc
      number_on false e = cc

      on : (b : Bool) (ds : List Datum) → cond b (number_fit i ds) fits_not ≡ fits bs → bs ≡ []
      on true [] e = cc
      on true (number j ∷ ds) e = number_on _ e
      on true (tag t ∷ ds) e = cc
      on true (cell a ∷ ds) e = cc
      on false ds e = cc

      go : (o : Option Node) → int_fit i o ≡ fits bs → bs ≡ []
      go None e = cc
      go (Some n) e = on (nat_eq n.tag 0) n.fields e
  pattern_goes (shape.Node t xs) y bs ws scope env env' fine k new e st = go (as_node g y) refl e
    where
      bind_fields : (ys : List VarId) (n : Node) → as_node g y ≡ Some n
          → ShapeKnown l K ws (shape.Node t ys) →
          ((x : ℕ) → InScope (numbers_of ys) x → times x scope.nodes ≡ 0)
          → fields_fit ys n.fields ≡ fits bs → St (with_word_variables (numbers_of ys) scope)
          (with_vars bs env) env'
      bind_fields [] n r k new e = let h : bs ≡ [] = cc
          in subst (λ b. St (with_word_variables [] scope) (with_vars b env) env') (sym h) st
      bind_fields (x ∷ ys) n r k new e = some_fits (one_each (x ∷ ys) n.fields) refl e
        where
          some_fits : (o : Option (List Binding)) → one_each (x ∷ ys) n.fields ≡ o
              → fits_if o ≡ fits bs → St (with_word_variables (numbers_of (x ∷ ys)) scope)
              (with_vars bs env) env'
          some_fits None q e = cc
          some_fits (Some cs) q e =
              let h : cs ≡ bs = cc in
              subst (λ b. St (with_word_variables (numbers_of (x ∷ ys)) scope) (with_vars b env)
              env') h (fields_goes l K g procs same_count ws (x ∷ ys) n.fields cs scope env env'
              (fine n r) k new q st)

      go : (o : Option Node) → as_node g y ≡ o → node_fit t.0 xs o ≡ fits bs
          → St (with_word_variables (numbers_of xs) scope) (with_vars bs env) env'
      go None r e = cc
      go (Some n) r e = on (nat_eq n.tag t.0) e
        where
          on : (b : Bool) → cond b (fields_fit xs n.fields) fits_not ≡ fits bs
              → St (with_word_variables (numbers_of xs) scope) (with_vars bs env) env'
          on true e = bind_fields xs n r k new e
          on false e = cc
