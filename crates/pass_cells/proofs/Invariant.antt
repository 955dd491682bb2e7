-- A property of heaps that stays through runs, where the words that are taken have another.
--
-- A cell whose variable is used for fetches and updates alone is mentioned by no other cell and no
-- other variable. A general lemma carries a property of heaps through all runs; here the property
-- is that the remembered words stand in the cell.
use Rattle.std.proofs.Common.{◌≡◌, ℕ, zero, suc, ◌≤◌, ◌<◌, ◌+◌, Bool, true, false, cond, ◌||◌, nat_eq, nat_le, List, [], ◌∷◌, ◌++◌, length, take, Option, Some, None, slice_get, slice_set, ◌⊎◌, inl, inr, refl, sym, ap, ◌∙◌, subst, arith}
use Rattle.std.specs.Prelude.{ℤ, pos}
use Rattle.seq.proofs.Order.{eq_self}
use Rattle.seq.proofs.Truth.{true_not_false, neither_left, neither_right, or_assoc}
use Rattle.seq.proofs.Lists.{all_get, length_set}
use Rattle.grin_syntax.specs.declared.program.Cell.{Cell}
use Rattle.grin_syntax.specs.declared.program.VarId.{VarId}
use Rattle.grin_syntax.specs.declared.program.PrimOp.{PrimOp}
use Rattle.grin_syntax.specs.declared.program.GlobalCell.{GlobalCell}
use Rattle.grin_syntax.specs.declared.program.Word as W
use Rattle.grin_syntax.specs.declared.program.Word.TheVariants.{Lit, Var, Global, TagWord}
use Rattle.grin_syntax.specs.declared.program.Val.{Val}
use Rattle.grin_syntax.specs.declared.program.Shape.{Shape}
use Rattle.grin_syntax.specs.declared.program.Shape.TheVariants as shape
use Rattle.grin_syntax.specs.declared.program.Val.TheVariants.{NodeVar, Node as Node', Vector, One}
use Rattle.grin_syntax.specs.declared.program.Target.{Target}
use Rattle.grin_syntax.specs.declared.program.Target.TheVariants as to
use Rattle.grin_syntax.specs.Tree.{Code, end, store, bind, Act, leaf, unit, fetch, fetch_word, update, eval, apply, call, prim, read, write, case, nested, fail, Arms, no_arm, arm, Program}
use Rattle.grin_syntax.specs.Formed.{AllOf}
use Rattle.grin_meaning.specs.Values.{Datum, number, tag, cell, words, node, Node, Value, Env, HeapCell, State, World, Stop, Answer, gives, stops, missing, then_do, need, and_then, Binding, with_vars, one_each, padded, MatchOutcome, fits, fits_not, unclear, fit_of, fits_if, fields_fit, node_fit, number_fit, int_fit, word_of, words_of, value_of, node_of, as_node, only_word, made_node, fields_of, bindings_of}
use Rattle.grin_meaning.specs.Run.{Calls, act_by, code_by, arms_by, calls_by, require_if_checked, require_value_if_checked, choose, byte_or_end, after_read, spend, spent, with_state_seen, places, cells_of, with_cells, with_node, node_word, nth_or_zero, place_of, number_of, apply_arithmetic}
use Rattle.numbers.specs.Numbers.{same_number}
use Rattle.grin_meaning.specs.Checks.{is_given}
use Rattle.grin_meaning.specs.Keeps.{world_of}
use Rattle.grin_meaning.specs.Follows.{HoldsInEveryState}
use Rattle.grin_meaning.specs.Ready.{EachAct, EachCode, EachArms, IsInlined, inlined_kind}
use Rattle.grin_meaning.proofs.Fullness.{every_and}
use Rattle.grin_meaning.proofs.Paired.{nothing}
use Rattle.pass_ground.specs.Uses.{word_is, words_use}
use Rattle.pass_ground.specs.Updated.{act_updated, code_updated, arms_updated}
use Rattle.pass_cells.specs.Shown.{val_words, cells_words, act_shown, code_shown, arms_shown}

abbrev pub all_words : Value → List Datum
all_words (node n) = n.fields
all_words (words ds) = ds

-- ---- words in lists

pub use_append : (x : ℕ) (xs ys : List W.Word) → words_use x (xs ++ ys) ≡
    (words_use x xs || words_use x ys)
use_append x [] ys = refl
use_append x (w ∷ xs) ys = ap (λ b. word_is x w || b) (use_append x xs ys) ∙ or_assoc (word_is x w)
    (words_use x xs) (words_use x ys)

pub many_append : (xs ys : List HeapCell) → length (xs ++ ys) ≡ length xs + length ys
many_append [] ys = omega arith
many_append (x ∷ xs) ys = let h : length (xs ++ ys) ≡ length xs + length ys = many_append xs ys
    in omega (arith, h)

pub cells_many : (g : Program) (env : Env) (cs : List Cell) (hs : List HeapCell)
    → cells_of g env cs ≡ Some hs → length hs ≡ length cs
cells_many g env [] hs e = let same : [] ≡ hs = cc in ap length (sym same)
cells_many g env (c ∷ cs) hs e = go
    (and_then (node_of g env c.val) (λ n. Some (record { site = c.site.0; node = n })))
    (cells_of g env cs) (cells_many g env cs) e
  where
    go : (o : Option HeapCell) (os : Option (List HeapCell))
        → ((ks : List HeapCell) → os ≡ Some ks → length ks ≡ length cs)
        → and_then o (λ b. and_then os (λ bs. Some (b ∷ bs))) ≡ Some hs
        → length hs ≡ suc (length cs)
    go None os f x = cc
    go (Some b) None f x = cc
    go (Some b) (Some bs) f x = let same : b ∷ bs ≡ hs = cc
        in ap length (sym same) ∙ ap suc (f bs refl)

-- none of these variables is among the words
pub record Clear (Bad : ℕ → Type 0) (ws : List W.Word) : Type 0 where
  pub by : (x : ℕ) → Bad x → words_use x ws ≡ false

module _ (Bad : ℕ → Type 0) where
  pub clear_front : (xs ys : List W.Word) → Clear Bad (xs ++ ys) → Clear Bad xs
  clear_front xs ys h = record {
    by = λ x b. neither_left (words_use x xs) (words_use x ys)
        (sym (use_append x xs ys) ∙ h.by x b);
  }

  pub clear_back : (xs ys : List W.Word) → Clear Bad (xs ++ ys) → Clear Bad ys
  clear_back xs ys h = record {
    by = λ x b. neither_right (words_use x xs) (words_use x ys)
        (sym (use_append x xs ys) ∙ h.by x b);
  }

  pub clear_var : (y : VarId) (ws : List W.Word) → Clear Bad (Var y ∷ ws) → Bad y.0 → ⊥
  clear_var y ws h b = true_not_false
      (sym (eq_self y.0) ∙ neither_left (nat_eq y.0 y.0) (words_use y.0 ws) (h.by y.0 b))

-- ---- words

module _ (g : Program) where
  -- what words are as V says: numbers and tags, and the cells of globals
  pub record Words : Type 1 where
    pub V : Datum → Type 0
    pub numbers : (k : ℤ) → V (number k)
    pub tags : (t : ℕ) → V (tag t)
    pub globals : (i : ℕ) (y : GlobalCell) → slice_get g.globals i ≡ Some y → V (cell i)

  module _ (q : Words) where
    open q use {V, numbers, tags, globals}

    abbrev pub ValueGood : Value → Type 0
    ValueGood v = AllOf V (all_words v)

    abbrev pub BindingsGood : List Binding → Type 0
    BindingsGood = AllOf (λ b. ValueGood b.1)

    -- what each variable but the bad ones stands for
    abbrev pub EnvGood : (ℕ → Type 0) → Env → Type 0
    EnvGood Bad env = (y : ℕ) (v : Value) → (Bad y → ⊥) → env y ≡ Some v → ValueGood v

    -- ---- values

    take_good : (n : ℕ) (ds : List Datum) → AllOf V ds → AllOf V (take n ds)
    take_good zero ds h = tt
    take_good (suc n) [] h = tt
    take_good (suc n) (d ∷ ds) h = (h.0, take_good n ds h.1)

    padded_good : (n : ℕ) (ds : List Datum) → AllOf V ds → AllOf V (padded n ds)
    padded_good zero ds h = h
    padded_good (suc n) [] h = (numbers (pos 0), padded_good n [] tt)
    padded_good (suc n) (d ∷ ds) h = (h.0, padded_good n ds h.1)

    cut_good : (o : Option ℕ) (t : ℕ) (ds : List Datum) (n : Node) → AllOf V ds
        → and_then o
        (λ m. cond (nat_le m (length ds)) (Some (record { tag = t; fields = take m ds })) None) ≡
        Some n → AllOf V n.fields
    cut_good None t ds n h e = cc
    cut_good (Some m) t ds n h e = go (nat_le m (length ds)) e
      where
        go : (b : Bool) → cond b (Some (record { tag = t; fields = take m ds })) None ≡ Some n
            → AllOf V n.fields
        go true q = let same : record { tag = t; fields = take m ds } ≡ n = cc
            in subst (λ z. AllOf V z.fields) same (take_good m ds h)
        go false q = cc

    pub as_node_good : (v : Value) (n : Node) → ValueGood v → as_node g v ≡ Some n
        → AllOf V n.fields
    as_node_good (node m) n h e = let same : m ≡ n = cc in subst (λ z. AllOf V z.fields) same h
    as_node_good (words []) n h e = cc
    as_node_good (words (tag t ∷ ds)) n h e = cut_good (fields_of g t) t ds n h.1 e
    as_node_good (words (number i ∷ ds)) n h e = cc
    as_node_good (words (cell i ∷ ds)) n h e = cc

    one_each_good : (xs : List VarId) (ds : List Datum) (bs : List Binding) → AllOf V ds
        → one_each xs ds ≡ Some bs → BindingsGood bs
    one_each_good [] [] bs h e = let same : [] ≡ bs = cc in subst BindingsGood same tt
    one_each_good [] (d ∷ ds) bs h e = cc
    one_each_good (x ∷ xs) [] bs h e = cc
    one_each_good (x ∷ xs) (d ∷ ds) bs h e = go (one_each xs ds) e
        (λ cs q. one_each_good xs ds cs h.1 q)
      where
        go : (o : Option (List Binding)) → and_then o (λ cs. Some ((x.0, words (d ∷ [])) ∷ cs)) ≡
            Some bs → ((cs : List Binding) → o ≡ Some cs → BindingsGood cs) → BindingsGood bs
        go None q f = cc
        go (Some cs) q f = let same : (x.0, words (d ∷ [])) ∷ cs ≡ bs = cc
            in subst BindingsGood same ((h.0, tt), f cs refl)

    pub bindings_good : (t : Target) (v : Value) (bs : List Binding) → ValueGood v
        → bindings_of g t v ≡ Some bs → BindingsGood bs
    bindings_good to.Nothing (words []) bs h e = let same : [] ≡ bs = cc
        in subst BindingsGood same tt
    bindings_good to.Nothing (words (d ∷ ds)) bs h e = cc
    bindings_good to.Nothing (node n) bs h e = cc
    bindings_good (to.Node x) v bs h e = go (as_node g v) refl e
      where
        go : (o : Option Node) → as_node g v ≡ o → and_then o (λ n. Some ((x.0, node n) ∷ [])) ≡
            Some bs → BindingsGood bs
        go None q r = cc
        go (Some n) q r = let same : (x.0, node n) ∷ [] ≡ bs = cc
            in subst BindingsGood same (as_node_good v n h q, tt)
    bindings_good (to.One x) (words []) bs h e = cc
    bindings_good (to.One x) (words (d ∷ [])) bs h e = let same : (x.0, words (d ∷ [])) ∷ [] ≡ bs
        = cc in subst BindingsGood same (h, tt)
    bindings_good (to.One x) (words (d ∷ (d2 ∷ ds))) bs h e = cc
    bindings_good (to.One x) (node n) bs h e = cc
    bindings_good (to.Vector xs) (words ds) bs h e = one_each_good xs ds bs h e
    bindings_good (to.Vector xs) (node n) bs h e = one_each_good xs
        (padded (length xs) (tag n.tag ∷ n.fields)) bs
        (padded_good (length xs) (tag n.tag ∷ n.fields) (tags n.tag, h)) e

    -- ---- environments

    pub env_with : (Bad : ℕ → Type 0) (bs : List Binding) (env : Env) → BindingsGood bs
        → EnvGood Bad env → EnvGood Bad (with_vars bs env)
    env_with Bad [] env h e = e
    env_with Bad (b ∷ bs) env h e = env_with Bad bs (λ y. cond (nat_eq y b.0) (Some b.1) (env y))
        h.1 (λ y v out q. one y v out (nat_eq y b.0) q)
      where
        one : (y : ℕ) (v : Value) → (Bad y → ⊥) → (t : Bool) → cond t (Some b.1) (env y) ≡ Some v
            → ValueGood v
        one y v out true q = let same : b.1 ≡ v = cc in subst ValueGood same h.0
        one y v out false q = e y v out q

    module _ (Bad : ℕ → Type 0) (env : Env) (good : EnvGood Bad env) where
      only_good : (v : Value) (d : Datum) → ValueGood v → only_word v ≡ Some d → V d
      only_good (node n) d h e = cc
      only_good (words []) d h e = cc
      only_good (words (x ∷ [])) d h e = let same : x ≡ d = cc in subst V same h.0
      only_good (words (x ∷ (y ∷ ds))) d h e = cc

      var_good : (y : ℕ) (d : Datum) → (Bad y → ⊥) → (o : Option Value) → env y ≡ o
          → and_then o only_word ≡ Some d → V d
      var_good y d out None q e = cc
      var_good y d out (Some v) q e = only_good v d (good y v out q) e

      global_good : (i : ℕ) (d : Datum) (o : Option GlobalCell) → slice_get g.globals i ≡ o
          → and_then o (λ c. Some (cell i)) ≡ Some d → V d
      global_good i d None q e = cc
      global_good i d (Some y) q e = let same : cell i ≡ d = cc in subst V same (globals i y q)

      pub word_good : (a : W.Word) (ws : List W.Word) (d : Datum) → Clear Bad (a ∷ ws)
          → word_of g env a ≡ Some d → V d
      word_good (Lit i) ws d h e = let same : number i ≡ d = cc in subst V same (numbers i)
      word_good (Var y) ws d h e = var_good y.0 d (clear_var Bad y ws h) (env y.0) refl e
      word_good (Global i) ws d h e = global_good i d (slice_get g.globals i) refl e
      word_good (TagWord t) ws d h e = let same : tag t.0 ≡ d = cc in subst V same (tags t.0)

      pub words_good : (ws : List W.Word) (ds : List Datum) → Clear Bad ws
          → words_of g env ws ≡ Some ds → AllOf V ds
      words_good [] ds h e = let same : [] ≡ ds = cc in subst (AllOf V) same tt
      words_good (a ∷ ws) ds h e = go (word_of g env a) refl (words_of g env ws)
          (λ bs r. words_good ws bs (clear_back Bad (a ∷ []) ws h) r) e
        where
          go : (o : Option Datum) → word_of g env a ≡ o → (os : Option (List Datum))
              → ((bs : List Datum) → os ≡ Some bs → AllOf V bs)
              → and_then o (λ b. and_then os (λ bs. Some (b ∷ bs))) ≡ Some ds → AllOf V ds
          go None q os r x = cc
          go (Some b) q None r x = cc
          go (Some b) q (Some bs) r x = let same : b ∷ bs ≡ ds = cc
              in subst (AllOf V) same (word_good a ws b h q, r bs refl)

      made_good : (o : Option ℕ) (t : ℕ) (ds : List Datum) (v : Value) → AllOf V ds
          → and_then
          (and_then o
          (λ m. cond (nat_eq m (length ds)) (Some (record { tag = t; fields = ds })) None))
          (λ n. Some (node n)) ≡ Some v → ValueGood v
      made_good None t ds v h e = cc
      made_good (Some m) t ds v h e = go (nat_eq m (length ds)) e
        where
          go : (b : Bool) → and_then (cond b (Some (record { tag = t; fields = ds })) None)
              (λ n. Some (node n)) ≡ Some v → ValueGood v
          go true q = let same : node (record { tag = t; fields = ds }) ≡ v = cc
              in subst ValueGood same h
          go false q = cc

      pub value_good : (v : Val) (y : Value) → Clear Bad (val_words v) → value_of g env v ≡ Some y
          → ValueGood y
      value_good (NodeVar x) y h e = good x.0 y (clear_var Bad x [] h) e
      value_good (Node' t ws) y h e = go (words_of g env ws) refl e
        where
          go : (o : Option (List Datum)) → words_of g env ws ≡ o
              → and_then o (λ ds. and_then (made_node g t.0 ds) (λ n. Some (node n))) ≡ Some y
              → ValueGood y
          go None q x = cc
          go (Some ds) q x = made_good (fields_of g t.0) t.0 ds y (words_good ws ds h q) x
      value_good (Vector ws) y h e = go (words_of g env ws) refl e
        where
          go : (o : Option (List Datum)) → words_of g env ws ≡ o
              → and_then o (λ ds. Some (words ds)) ≡ Some y → ValueGood y
          go None q x = cc
          go (Some ds) q x = let same : words ds ≡ y = cc
              in subst ValueGood same (words_good ws ds h q)
      value_good (One a) y h e = go (word_of g env a) refl e
        where
          go : (o : Option Datum) → word_of g env a ≡ o
              → and_then o (λ d. Some (words (d ∷ []))) ≡ Some y → ValueGood y
          go None q x = cc
          go (Some d) q x = let same : words (d ∷ []) ≡ y = cc
              in subst ValueGood same (word_good a [] d h q, tt)

      pub node_good : (v : Val) (n : Node) → Clear Bad (val_words v) → node_of g env v ≡ Some n
          → AllOf V n.fields
      node_good v n h e = go (value_of g env v) refl e
        where
          go : (o : Option Value) → value_of g env v ≡ o → and_then o (as_node g) ≡ Some n
              → AllOf V n.fields
          go None q x = cc
          go (Some y) q x = as_node_good y n (value_good v y h q) x

      pub cells_good : (cs : List Cell) (hs : List HeapCell) → Clear Bad (cells_words cs)
          → cells_of g env cs ≡ Some hs → AllOf (λ h. AllOf V h.node.fields) hs
      cells_good [] hs h e = let same : [] ≡ hs = cc
          in subst (AllOf (λ h. AllOf V h.node.fields)) same tt
      cells_good (c ∷ cs) hs h e = go (node_of g env c.val) refl (cells_of g env cs)
          (λ bs r. cells_good cs bs (clear_back Bad (val_words c.val) (cells_words cs) h) r) e
        where
          go : (o : Option Node) → node_of g env c.val ≡ o → (os : Option (List HeapCell))
              → ((bs : List HeapCell) → os ≡ Some bs → AllOf (λ h. AllOf V h.node.fields) bs)
              → and_then (and_then o (λ n. Some (record { site = c.site.0; node = n })))
              (λ b. and_then os (λ bs. Some (b ∷ bs))) ≡ Some hs
              → AllOf (λ h. AllOf V h.node.fields) hs
          go None q os r x = cc
          go (Some n) q None r x = cc
          go (Some n) q (Some bs) r x = let same : record { site = c.site.0; node = n } ∷ bs ≡ hs
              = cc in
              subst (AllOf (λ h. AllOf V h.node.fields)) same (
                node_good c.val n (clear_front Bad (val_words c.val) (cells_words cs) h) q,
                r bs refl,
              )

    nth_good : (ds : List Datum) (i : ℕ) → AllOf V ds → V (nth_or_zero ds i)
    nth_good [] i h = numbers (pos 0)
    nth_good (d ∷ ds) zero h = h.0
    nth_good (d ∷ ds) (suc i) h = nth_good ds i h.1

    node_word_good : (n : Node) (i : ℕ) → AllOf V n.fields → V (node_word n i)
    node_word_good n zero h = tags n.tag
    node_word_good n (suc i) h = nth_good n.fields i h

    none_fit : (bs : List Binding) → fits [] ≡ fits bs → BindingsGood bs
    none_fit bs e = let same : [] ≡ bs = cc in subst BindingsGood same tt

    fields_fit_good : (xs : List VarId) (ds : List Datum) (bs : List Binding) → AllOf V ds
        → fields_fit xs ds ≡ fits bs → BindingsGood bs
    fields_fit_good [] ds bs h e = none_fit bs e
    fields_fit_good (x ∷ xs) ds bs h e = go (one_each (x ∷ xs) ds) refl e
      where
        go : (o : Option (List Binding)) → one_each (x ∷ xs) ds ≡ o → fits_if o ≡ fits bs
            → BindingsGood bs
        go None q r = cc
        go (Some cs) q r = let same : cs ≡ bs = cc in subst BindingsGood same
            (one_each_good (x ∷ xs) ds cs h q)

    number_fit_good : (i : ℤ) (ds : List Datum) (bs : List Binding) → number_fit i ds ≡ fits bs
        → BindingsGood bs
    number_fit_good i [] bs e = cc
    number_fit_good i (number j ∷ ds) bs e = go (same_number i j) e
      where
        go : (b : Bool) → cond b (fits []) fits_not ≡ fits bs → BindingsGood bs
        go true q = none_fit bs q
        go false q = cc
    number_fit_good i (tag t ∷ ds) bs e = cc
    number_fit_good i (cell a ∷ ds) bs e = cc

    -- a pattern binds what its value has
    pub fit_good : (s : Shape) (v : Value) (bs : List Binding) → ValueGood v
        → fit_of g s v ≡ fits bs → BindingsGood bs
    fit_good (shape.Node t xs) v bs h e = go (as_node g v) refl e
      where
        at : (n : Node) (b : Bool) → AllOf V n.fields
            → cond b (fields_fit xs n.fields) fits_not ≡ fits bs → BindingsGood bs
        at n true r q = fields_fit_good xs n.fields bs r q
        at n false r q = cc

        go : (o : Option Node) → as_node g v ≡ o → node_fit t.0 xs o ≡ fits bs → BindingsGood bs
        go None q r = cc
        go (Some n) q r = at n (nat_eq n.tag t.0) (as_node_good v n h q) r
    fit_good (shape.Int i) v bs h e = go (as_node g v) e
      where
        at : (n : Node) (b : Bool) → cond b (number_fit i n.fields) fits_not ≡ fits bs
            → BindingsGood bs
        at n true q = number_fit_good i n.fields bs q
        at n false q = cc

        go : (o : Option Node) → int_fit i o ≡ fits bs → BindingsGood bs
        go None r = cc
        go (Some n) r = at n (nat_eq n.tag 0) r
    fit_good shape.Else v bs h e = none_fit bs e

  -- ---- the property

  -- Heaps are as I says, passed states as S says, and words as V says, by the length of the heap
  pub record Invariant : Type 1 where
    pub I : List HeapCell → Type 0
    pub S : State → Type 0
    pub V : ℕ → Datum → Type 0
    pub more : (n m : ℕ) (d : Datum) → n ≤ m → V n d → V m d
    pub numbers : (n : ℕ) (k : ℤ) → V n (number k)
    pub tags : (n t : ℕ) → V n (tag t)
    pub globals : (c : List HeapCell) (n : ℕ) → I c → length c ≤ n → (i : ℕ) (y : GlobalCell)
        → slice_get g.globals i ≡ Some y → V n (cell i)
    pub state : (env : Env) (c : List HeapCell) → I c
        → ((y : ℕ) (v : Value) → env y ≡ Some v → AllOf (V (length c)) (all_words v))
        → S (record { env = env; heap = c })
    pub fresh : (c : List HeapCell) (i n : ℕ) → I c → length c ≤ i → i < n → V n (cell i)
    pub fetched : (c : List HeapCell) (i : ℕ) (y : HeapCell) → I c → slice_get c i ≡ Some y
        → AllOf (V (length c)) y.node.fields
    pub stored : (c hs : List HeapCell) → I c → AllOf
        (λ h. AllOf (V (length c + length hs)) h.node.fields) hs → I (c ++ hs)
    pub updated : (c : List HeapCell) (i : ℕ) (y : HeapCell) (n : Node) → I c
        → V (length c) (cell i) → slice_get c i ≡ Some y → AllOf (V (length c)) n.fields
        → I (slice_set c i (record { site = y.site; node = n }))

  -- whichever cell is updated
  abbrev pub Anyway : Invariant → Type 0
  Anyway k = (c : List HeapCell) (i : ℕ) (y : HeapCell) (n : Node) → k.I c → slice_get c i ≡ Some y
      → AllOf (k.V (length c)) n.fields → k.I (slice_set c i (record { site = y.site; node = n }))

  module _ (k : Invariant) where
    open k use {I, S, V}

    -- the words that are good beside a heap, or a larger one
    abbrev pub words_by : (c : List HeapCell) (n : ℕ) → I c → length c ≤ n → Words
    words_by c n h le = record
        { V = V n; numbers = k.numbers n; tags = k.tags n; globals = k.globals c n h le }

    abbrev pub words_of_heap : (c : List HeapCell) → I c → Words
    words_of_heap c h = words_by c (length c) h (omega arith)

    abbrev pub ValueIs : ℕ → Value → Type 0
    ValueIs n v = AllOf (V n) (all_words v)

    abbrev pub EnvIs : (ℕ → Type 0) → ℕ → Env → Type 0
    EnvIs Bad n env = (y : ℕ) (v : Value) → (Bad y → ⊥) → env y ≡ Some v → ValueIs n v

    all_more : (n m : ℕ) (ds : List Datum) → n ≤ m → AllOf (V n) ds → AllOf (V m) ds
    all_more n m [] le h = tt
    all_more n m (d ∷ ds) le h = (k.more n m d le h.0, all_more n m ds le h.1)

    pub env_more : (Bad : ℕ → Type 0) (n m : ℕ) (env : Env) → n ≤ m → EnvIs Bad n env
        → EnvIs Bad m env
    env_more Bad n m env le e y v out q = all_more n m (all_words v) le (e y v out q)

    pub places_good : (c : List HeapCell) (i n : ℕ) (cs : List Cell) (h : I c) → length c ≤ i
        → (le : length c ≤ n) → i + length cs ≤ n → BindingsGood (words_by c n h le) (places i cs)
    places_good c i n [] h l le m = tt
    places_good c i n (x ∷ cs) h l le m = (
      (k.fresh c i n h l (omega (arith, m)), tt),
      places_good c (suc i) n cs h (omega (arith, l)) le (omega (arith, m)),
    )

    -- ---- answers

    pub record Good (w : World) : Type 0 where
      pub heap : I w.cells
      pub seen : HoldsInEveryState S w.seen

    -- after a world with so many cells
    pub data Kept (m : ℕ) : Answer → Type 0 where
      gives_good : {v : Value} {w : World} → m ≤ length w.cells → ValueIs (length w.cells) v
          → Good w → Kept m (gives v w)
      stops_good : {s : Stop} {w : World} → Good w → Kept m (stops s w)

    kept_from : (n m : ℕ) (a : Answer) → n ≤ m → Kept m a → Kept n a
    kept_from n m (gives v w) le (gives_good l x h) = gives_good (omega (arith, le, l)) x h
    kept_from n m (stops s w) le (stops_good h) = stops_good h

    need_kept : {B : Type 0} (m : ℕ) (o : Option B) (w : World) (f : B → Answer) → Good w
        → ((b : B) → o ≡ Some b → Kept m (f b)) → Kept m (need o w f)
    need_kept m None w f h r = stops_good h
    need_kept m (Some b) w f h r = r b refl

    looking_kept : (m : ℕ) (looks b : Bool) (w : World) (a : Answer) → Good w → Kept m a
        → Kept m (require_if_checked looks b w a)
    looking_kept m false b w a h r = r
    looking_kept m true true w a h r = r
    looking_kept m true false w a h r = stops_good h

    given_kept : (m : ℕ) (looks : Bool) (f : Value → Bool) (a : Answer) → Kept m a
        → Kept m (require_value_if_checked looks f a)
    given_kept m false f a r = r
    given_kept m true f (gives v w) (gives_good le x h) = go (f v)
      where
        go : (b : Bool) → Kept m (cond b (gives v w) (stops missing w))
        go true = gives_good le x h
        go false = stops_good h
    given_kept m true f (stops s w) (stops_good h) = stops_good h

    spend_kept : (m l : ℕ) (w : World) (f : ℕ → Answer) → Good w → ((u : ℕ) → Kept m (f u))
        → Kept m (spend l w f)
    spend_kept m zero w f h r = stops_good h
    spend_kept m (suc u) w f h r = r u

    then_kept : (m : ℕ) (a : Answer) (f : Value → World → Answer) → Kept m a
        → ((v : Value) (w : World) → m ≤ length w.cells → ValueIs (length w.cells) v → Good w
        → Kept (length w.cells) (f v w)) → Kept m (then_do a f)
    then_kept m (gives v w) f (gives_good le x h) r
        = kept_from m (length w.cells) (f v w) le (r v w le x h)
    then_kept m (stops s w) f (stops_good h) r = stops_good h

    choose_kept : (m : ℕ) (f : MatchOutcome) (w : World) (r : List Binding → Answer) (x : Answer)
        → Good w → ((bs : List Binding) → f ≡ fits bs → Kept m (r bs)) → Kept m x
        → Kept m (choose f w r x)
    choose_kept m (fits bs) w r x h y z = y bs refl
    choose_kept m fits_not w r x h y z = z
    choose_kept m unclear w r x h y z = stops_good h

    abbrev Still : World → Answer → Type 0
    Still w a = Kept (length w.cells) a

    pub record CallsGood (c : Calls) : Type 0 where
      pub by : (f : ℕ) (xs : List Datum) (d : ℕ) (w : World) → AllOf (V (length w.cells)) xs
          → Good w → Still w (c f xs d w)

    numbers_kept : (q : PrimOp) (x y : Datum) (w : World) → Good w
        → Still w (need (apply_arithmetic q x y) w (λ v. gives v w))
    numbers_kept q (number a) (number b) w h = gives_good (omega arith) (k.numbers _ _, tt) h
    numbers_kept q (number a) (tag t) w h = stops_good h
    numbers_kept q (number a) (cell i) w h = stops_good h
    numbers_kept q (tag t) y w h = stops_good h
    numbers_kept q (cell i) y w h = stops_good h

    read_kept : (i : List ℕ) (w : World) → Good w → Still w
        (gives (words (number (byte_or_end i) ∷ [])) (after_read i w))
    read_kept [] w h = gives_good (omega arith) (k.numbers _ _, tt) h
    read_kept (b ∷ rest) w h = gives_good (omega arith) (k.numbers _ _, tt)
        (record { heap = h.heap; seen = h.seen })

    -- a cell that is updated may be any, or isn't that of a bad variable
    abbrev pub UpdateFits : (ℕ → Type 0) → List W.Word → Type 0
    UpdateFits Bad ws = Clear Bad ws ⊎ Anyway k

    update_front : (Bad : ℕ → Type 0) (xs ys : List W.Word) → UpdateFits Bad (xs ++ ys)
        → UpdateFits Bad xs
    update_front Bad xs ys (inl c) = inl (clear_front Bad xs ys c)
    update_front Bad xs ys (inr a) = inr a

    update_back : (Bad : ℕ → Type 0) (xs ys : List W.Word) → UpdateFits Bad (xs ++ ys)
        → UpdateFits Bad ys
    update_back Bad xs ys (inl c) = inl (clear_back Bad xs ys c)
    update_back Bad xs ys (inr a) = inr a

    abbrev at : (w : World) → Good w → Words
    at w h = words_of_heap w.cells h.heap

    -- an operation whose words are good, where the bad variables may stand for anything
    module _ (looks : Bool) (c : Calls) (cg : CallsGood c) (Bad : ℕ → Type 0)
        (enters : (env : Env) (c : List HeapCell) → I c → EnvIs Bad (length c) env
        → S (record { env = env; heap = c })) where
      entered : (env : Env) (w : World) → EnvIs Bad (length w.cells) env → Good w
          → Good (with_state_seen env w)
      entered env w e h = record {
        heap = h.heap;
        seen = every_and S w.seen (record { env = env; heap = w.cells }) h.seen
            (enters env w.cells h.heap e);
      }

      put_kept : (env : Env) (w : World) → EnvIs Bad (length w.cells) env → Good w → (a : W.Word)
          → UpdateFits Bad (a ∷ []) → (i : ℕ) (y : HeapCell) (n : Node)
          → and_then (word_of g env a) place_of ≡ Some i → slice_get w.cells i ≡ Some y
          → AllOf (V (length w.cells)) n.fields
          → Still w (gives (words []) (with_node i n y w))
      put_kept env w e h a u i y n p q f = gives_good
          (let l : length (slice_set w.cells i (record { site = y.site; node = n })) ≡ length
          w.cells = length_set w.cells i _ in omega (arith, l)) tt
          (record { heap = set u; seen = h.seen })
        where
          cell_good : (d : Datum) → V (length w.cells) d → place_of d ≡ Some i
              → V (length w.cells) (cell i)
          cell_good (number b) v r = cc
          cell_good (tag t) v r = cc
          cell_good (cell j) v r = let same : j ≡ i = cc
              in subst (λ z. V (length w.cells) (cell z)) same v

          word : (o : Option Datum) → word_of g env a ≡ o → Clear Bad (a ∷ [])
              → and_then o place_of ≡ Some i → V (length w.cells) (cell i)
          word None r x z = cc
          word (Some d) r x z = cell_good d (word_good (at w h) Bad env e a [] d x r) z

          set : UpdateFits Bad (a ∷ []) → I
              (slice_set w.cells i (record { site = y.site; node = n }))
          set (inl x) = k.updated w.cells i y n h.heap (word (word_of g env a) refl x p) q f
          set (inr anyway) = anyway w.cells i y n h.heap q f

      -- what a group of cells makes of the variables and the heap
      pub record StoreGood (env : Env) (cs : List Cell) (hs : List HeapCell) (w : World)
          : Type 0 where
        pub env_is : EnvIs Bad (length (w.cells ++ hs)) (with_vars (places (length w.cells) cs) env)
        pub good : Good (with_cells hs w)

      pub store_good : (env : Env) (cs : List Cell) (hs : List HeapCell) (w : World)
          → EnvIs Bad (length w.cells) env → Good w → Clear Bad (cells_words cs)
          → cells_of g (with_vars (places (length w.cells) cs) env) cs ≡ Some hs
          → StoreGood env cs hs w
      store_good env cs hs w e h s q =
          let n : ℕ = length w.cells + length cs in
          let le : length w.cells ≤ n = omega arith in
          let env' : Env = with_vars (places (length w.cells) cs) env in
          let ws : Words = words_by w.cells n h.heap le in
          let e' : EnvIs Bad n env' = env_with ws Bad (places (length w.cells) cs) env
          (places_good w.cells (length w.cells) n cs h.heap (omega arith) le (omega arith))
          (env_more Bad (length w.cells) n env le e) in
          let many : length hs ≡ length cs = cells_many g env' cs hs q in
          let all : length (w.cells ++ hs) ≡ length w.cells + length hs = many_append w.cells hs in
          record {
            env_is = subst (λ m. EnvIs Bad m env') (omega (arith, many, all)) e';
            good = record {
              heap = k.stored w.cells hs h.heap
                  (subst (λ m. AllOf (λ h. AllOf (V m) h.node.fields) hs) (omega (arith, many))
                  (cells_good ws Bad env' e' cs hs s q));
              seen = h.seen;
            };
          }

      mutual
        unfolding act_by EachAct act_shown act_updated

        pub act_kept : (env : Env) (d : ℕ) (o : Act) (w : World) → EnvIs Bad (length w.cells) env
            → Good w → EachAct inlined_kind o → Clear Bad (act_shown o)
            → UpdateFits Bad (act_updated o) → Still w (act_by g c looks env d o w)
        act_kept env d (leaf (unit v)) w e h l s u = need_kept _ (value_of g env v) w _ h
            (λ y q. looking_kept _ looks _ w _ h
            (gives_good (omega arith) (value_good (at w h) Bad env e v y s q) h))
        act_kept env d (leaf (fetch a)) w e h l s u
            = need_kept _ (and_then (word_of g env a) place_of) w _ h
            (λ i p. need_kept _ (slice_get w.cells i) w _ h
            (λ y q. gives_good (omega arith) (k.fetched w.cells i y h.heap q) h))
        act_kept env d (leaf (fetch_word a j)) w e h l s u
            = need_kept _ (and_then (word_of g env a) place_of) w _ h
            (λ i p. need_kept _ (slice_get w.cells i) w _ h
            (λ y q. gives_good (omega arith)
            (node_word_good (at w h) y.node j (k.fetched w.cells i y h.heap q), tt) h))
        act_kept env d (leaf (update a v)) w e h l s u
            = need_kept _ (and_then (word_of g env a) place_of) w _ h
            (λ i p. need_kept _ (slice_get w.cells i) w _ h (λ y q.
            need_kept _ (node_of g env v) w _ h
            (λ n r. looking_kept _ looks _ w _ h
            (put_kept env w e h a u i y n p q (node_good (at w h) Bad env e v n s r)))))
        act_kept env d (leaf (eval a)) w e h l s u = absurd l
        act_kept env d (leaf (apply v a)) w e h l s u = absurd l.0
        act_kept env d (leaf (call f ws)) w e h l s u
            = need_kept _ (words_of g env ws) w _ h
            (λ xs q. cg.by f.0 xs d w (words_good (at w h) Bad env e ws xs s q) h)
        act_kept env d (leaf (prim f a b)) w e h l s u
            = need_kept _ (word_of g env a) w _ h
            (λ x q. need_kept _ (word_of g env b) w _ h (λ y r. numbers_kept f x y w h))
        act_kept env d (leaf read) w e h l s u = read_kept w.input w h
        act_kept env d (leaf (write a)) w e h l s u
            = need_kept _ (and_then (word_of g env a) number_of) w _ h
            (λ i q. gives_good (omega arith) tt (record { heap = h.heap; seen = h.seen }))
        act_kept env d (case v as') w e h l s u = need_kept _ (value_of g env v) w _ h
            (λ y q. arms_kept env d y as' w e h
            (value_good (at w h) Bad env e v y (clear_front Bad (val_words v) (arms_shown as') s) q)
            l.2 (clear_back Bad (val_words v) (arms_shown as') s) u)
        act_kept env d (nested b) w e h l s u = code_kept env d b w e h l.1 s u
        act_kept env d (leaf fail) w e h l s u = stops_good h

        pub code_kept : (env : Env) (d : ℕ) (b : Code) (w : World) → EnvIs Bad (length w.cells) env
            → Good w → EachCode inlined_kind b → Clear Bad (code_shown b)
            → UpdateFits Bad (code_updated b) → Still w (code_by g c looks env d b w)
        code_kept env d (end o) w e h l s u = act_kept env d o w e h l s u
        code_kept env d (store cs b) w e h l s u =
            let env' : Env = with_vars (places (length w.cells) cs) env in
            need_kept _ (cells_of g env' cs) w _ h (λ hs q.
            let y : StoreGood env cs hs w = store_good env cs hs w e h
            (clear_front Bad (cells_words cs) (code_shown b) s) q in
            looking_kept _ looks _ w _ h
            (kept_from (length w.cells) (length (w.cells ++ hs)) _
            (let all : length (w.cells ++ hs) ≡ length w.cells + length hs
            = many_append w.cells hs in omega (arith, all))
            (code_kept env' d b (with_state_seen env' (with_cells hs w)) y.env_is
            (entered env' (with_cells hs w) y.env_is y.good) l.1
            (clear_back Bad (cells_words cs) (code_shown b) s) u)))
        code_kept env d (bind t o b) w e h l s u = then_kept _ (act_by g c looks env (suc d) o w) _
            (act_kept env (suc d) o w e h l.1 (clear_front Bad (act_shown o) (code_shown b) s)
            (update_front Bad (act_updated o) (code_updated b) u))
            (λ v w' le x h'. looking_kept _ looks _ w' _ h'
            (need_kept _ (bindings_of g t v) w' _ h' (λ bs q.
            let e' : EnvIs Bad (length w'.cells) (with_vars bs env)
            = env_with (at w' h') Bad bs env (bindings_good (at w' h') t v bs x q)
            (env_more Bad (length w.cells) (length w'.cells) env le e) in
            code_kept (with_vars bs env) d b (with_state_seen (with_vars bs env) w') e'
            (entered (with_vars bs env) w' e' h') l.2
            (clear_back Bad (act_shown o) (code_shown b) s)
            (update_back Bad (act_updated o) (code_updated b) u))))

        arms_kept : (env : Env) (d : ℕ) (v : Value) (as' : Arms) (w : World)
            → EnvIs Bad (length w.cells) env → Good w → ValueIs (length w.cells) v
            → EachArms inlined_kind as' → Clear Bad (arms_shown as')
            → UpdateFits Bad (arms_updated as') → Still w (arms_by g c looks env d v as' w)
        arms_kept env d v no_arm w e h x l s u = stops_good h
        arms_kept env d v (arm q b as') w e h x l s u = choose_kept _ (fit_of g q v) w _ _ h
            (λ bs r. (let e' : EnvIs Bad (length w.cells) (with_vars bs env)
            = env_with (at w h) Bad bs env (fit_good (at w h) q v bs x r) e in
            code_kept (with_vars bs env) d b (with_state_seen (with_vars bs env) w) e'
            (entered (with_vars bs env) w e' h) l.1
            (clear_front Bad (code_shown b) (arms_shown as') s)
            (update_front Bad (code_updated b) (arms_updated as') u)))
            (arms_kept env d v as' w e h x l.2 (clear_back Bad (code_shown b) (arms_shown as') s)
            (update_back Bad (code_updated b) (arms_updated as') u))

    -- ---- calls

    abbrev pub NoneBad : ℕ → Type 0
    NoneBad x = ⊥

    pub calls_good : IsInlined g → (looks : Bool) (n : ℕ) → CallsGood (calls_by g looks n)
    unfolding calls_by
    calls_good inlined looks zero = record { by = λ f xs d w x h. stops_good h }
    calls_good inlined looks (suc n) = record {
      by = λ f xs d w x h. spend_kept _ w.left w _ h
          (λ m. need_kept _ (slice_get g.procs f) w _ h
          (λ q e. need_kept _ (one_each q.params xs) w _ h (λ bs r.
          let env : Env = with_vars bs nothing in
          let e' : EnvIs NoneBad (length w.cells) env
          = env_with (at w h) NoneBad bs nothing (one_each_good (at w h) q.params xs bs x r)
          (λ y v out i. cc) in
          let enters : (env : Env) (c : List HeapCell) → I c → EnvIs NoneBad (length c) env
          → S (record { env = env; heap = c }) = λ env c i all. k.state env c i
          (λ y v. all y v (λ bad. bad)) in
          given_kept _ looks (is_given g) _
          (code_kept looks (calls_by g looks n) (calls_good inlined looks n) NoneBad enters env
          d q.body (with_state_seen env (spent f d m w))
          e' (entered looks (calls_by g looks n) (calls_good inlined looks n) NoneBad enters env
          (spent f d m w) e' (record { heap = h.heap; seen = h.seen }))
          (all_get (λ q. EachCode inlined_kind q.body) g.procs f q inlined e)
          (record { by = λ y bad. absurd bad }) (inl (record { by = λ y bad. absurd bad }))))));
    }

    pub kept_gives : (m : ℕ) (v : Value) (w : World) → Kept m (gives v w) → m ≤ length w.cells
        × ValueIs (length w.cells) v × Good w
    kept_gives m v w (gives_good le x h) = (le, x, h)

    pub kept_seen : (m : ℕ) (a : Answer) → Kept m a → HoldsInEveryState S (world_of a).seen
    kept_seen m (gives v w) (gives_good le x h) = h.seen
    kept_seen m (stops s w) (stops_good h) = h.seen
