-- Variables of two programs, the second without some cells: what words, values and groups of cells
-- stand for.
use Rattle.std.proofs.Common.{◌≡◌, ℕ, suc, ◌+◌, List, [], ◌∷◌, ◌++◌, map, length, Bool, true, false, cond, not, nat_eq, Option, Some, None, slice_get, refl, sym, ap, ◌∙◌, subst, append_assoc, arith}
use Rattle.std.specs.Prelude.{pos}
use Rattle.std.proofs.lemmas.List.{length_push}
use Rattle.seq.proofs.Order.{eq_from}
use Rattle.grin_syntax.specs.declared.program.Cell.{Cell}
use Rattle.grin_syntax.specs.declared.program.GlobalCell.{GlobalCell}
use Rattle.grin_syntax.specs.declared.program.Val.{Val}
use Rattle.grin_syntax.specs.declared.program.Val.TheVariants.{NodeVar, Node as Node', Vector, One}
use Rattle.grin_syntax.specs.declared.program.Word.{Word}
use Rattle.grin_syntax.specs.declared.program.Word.TheVariants.{Lit, Var, Global, TagWord}
use Rattle.grin_syntax.specs.Formed.{AllOf}
use Rattle.grin_syntax.specs.Tree.{Procedure, Program}
use Rattle.grin_meaning.specs.Values.{Datum, number, cell, Node, Value, node, words, Env, HeapCell, and_then, Binding, with_vars, word_of, words_of, value_of, node_of, made_node, as_node, only_word}
use Rattle.grin_meaning.specs.Run.{places, cells_of}
use Rattle.grin_meaning.specs.Ready.{NoNodeVar}
use Rattle.pass_ground.proofs.Bound.{names_of}
use Rattle.grin_meaning.specs.Checks.{is_none_or, is_filled, fills, all_fill}
use Rattle.seq.proofs.Truth.{not_both, and_left, and_right, and_from}
use Rattle.seq.proofs.Lists.{some_is, none_is_some}
use Rattle.dead_store.specs.Kept.{rank, stays_at, renamed, kept_with}
use Rattle.dead_store.specs.Without.{without_word, without_val, kept_cell, kept_cells}
use Rattle.dead_store.proofs.Renaming.{f, node_to, value_to, bindings_to, made_renamed, node_renamed, filled_renamed}
use Rattle.dead_store.proofs.Heaps.{Begins, cell_to, stays_get, rank_next}

pub get_here : {X : Type 0} (xs : List X) (x : X) (ys : List X)
    → slice_get (xs ++ x ∷ ys) (length xs) ≡ Some x
get_here [] x ys = refl
get_here (z ∷ xs) x ys = get_here xs x ys

-- one variable more
abbrev pub one : ℕ → Value → Env → Env
one x v env = λ y. cond (nat_eq y x) (Some v) (env y)

module _ (stays gone : ℕ → Bool) (F : List HeapCell) where
  -- the second has what the first has, renamed, but for the variables of cells that are gone, which
  -- stand for what becomes 0
  pub record Related (env env' : Env) : Type 0 where
    pub same : (x : ℕ) (v : Value) → env x ≡ Some v → gone x ≡ false
        → env' x ≡ Some (value_to stays F v)
    pub left : (x : ℕ) (v : Value) → env x ≡ Some v → gone x ≡ true
        → value_to stays F v ≡ words (number (pos 0) ∷ [])

  -- ---- variables that are bound

  pub related_one : (x : ℕ) (v v' : Value) (env env' : Env) → gone x ≡ false
      → v' ≡ value_to stays F v → Related env env' → Related (one x v env) (one x v' env')
  related_one x v v' env env' n e r = record
      { same = λ y u. here y u (nat_eq y x); left = λ y u. lost y u (nat_eq y x) refl }
    where
      here : (y : ℕ) (u : Value) (b : Bool) → cond b (Some v) (env y) ≡ Some u → gone y ≡ false
          → cond b (Some v') (env' y) ≡ Some (value_to stays F u)
      here y u true q k = ap Some (e ∙ ap (value_to stays F) (some_is q))
      here y u false q k = r.same y u q k

      lost : (y : ℕ) (u : Value) (b : Bool) → nat_eq y x ≡ b → cond b (Some v) (env y) ≡ Some u
          → gone y ≡ true → value_to stays F u ≡ words (number (pos 0) ∷ [])
      lost y u true t q k = not_both (gone y) k (ap gone (eq_from y x t) ∙ n)
      lost y u false t q k = r.left y u q k

  pub related_bind : (bs : List Binding) (env env' : Env)
      → AllOf (λ x. gone x ≡ false) (names_of bs) → Related env env'
      → Related (with_vars bs env) (with_vars (bindings_to stays F bs) env')
  related_bind [] env env' h r = r
  related_bind (b ∷ bs) env env' h r = related_bind bs (one b.0 b.1 env)
      (one b.0 (value_to stays F b.1) env') h.1
      (related_one b.0 b.1 (value_to stays F b.1) env env' h.0 refl r)

  -- the first alone binds the variable of a cell that leaves
  pub related_left : (x : ℕ) (v : Value) (env env' : Env) → gone x ≡ true
      → value_to stays F v ≡ words (number (pos 0) ∷ []) → Related env env'
      → Related (one x v env) env'
  related_left x v env env' n e r = record
      { same = λ y u. here y u (nat_eq y x) refl; left = λ y u. lost y u (nat_eq y x) }
    where
      here : (y : ℕ) (u : Value) (b : Bool) → nat_eq y x ≡ b → cond b (Some v) (env y) ≡ Some u
          → gone y ≡ false → env' y ≡ Some (value_to stays F u)
      here y u true t q k = not_both (gone y) (ap gone (eq_from y x t) ∙ n) k
      here y u false t q k = r.same y u q k

      lost : (y : ℕ) (u : Value) (b : Bool) → cond b (Some v) (env y) ≡ Some u → gone y ≡ true
          → value_to stays F u ≡ words (number (pos 0) ∷ [])
      lost y u true q k = ap (value_to stays F) (sym (some_is q)) ∙ e
      lost y u false q k = r.left y u q k

  -- ---- words and values

  -- the global cells stay, as the first ones
  abbrev pub GlobalsStay : Program → Type 0
  GlobalsStay g = (i : ℕ) (c : GlobalCell) → slice_get g.globals i ≡ Some c
      → renamed stays F (cell i) ≡ cell i

  module _ (g : Program) (procs : List Procedure) (globals : GlobalsStay g) (env env' : Env)
      (r : Related env env') where
    abbrev h : Program
    h = record g { procs = procs }

    pub word_too : (a : Word) (d : Datum) → word_of g env a ≡ Some d
        → word_of h env' (without_word gone a) ≡ Some (f stays F d)
    word_too (Lit k) d e = ap (λ d. Some (f stays F d)) (some_is e)
    word_too (TagWord t) d e = ap (λ d. Some (f stays F d)) (some_is e)
    word_too (Global i) d e = go (slice_get g.globals i) (λ c. globals i c) e
      where
        go : (o : Option GlobalCell) →
            ((c : GlobalCell) → o ≡ Some c → renamed stays F (cell i) ≡ cell i)
            → and_then o (λ c. Some (cell i)) ≡ Some d
            → and_then o (λ c. Some (cell i)) ≡ Some (f stays F d)
        go None k e = none_is_some e
        go (Some c) k e = ap Some (sym (k c refl) ∙ ap (f stays F) (some_is e))
    word_too (Var x) d e = go (env x.0) refl e
      where
        one_word : (ds : List Datum) → env x.0 ≡ Some (words ds)
            → and_then (Some (words ds)) only_word ≡ Some d
            → word_of h env' (without_word gone (Var x)) ≡ Some (f stays F d)
        one_word [] q e = none_is_some e
        one_word (y ∷ []) q e = by (gone x.0) refl
          where
            by : (b : Bool) → gone x.0 ≡ b → word_of h env' (cond b (Lit (pos 0)) (Var x)) ≡ Some
                (f stays F d)
            by true n = let z : words (f stays F y ∷ []) ≡ words (number (pos 0) ∷ [])
                = r.left x.0 (words (y ∷ [])) q n in
                ap (λ v. only_word v) (sym z) ∙ ap (λ d. Some (f stays F d)) (some_is e)
            by false n = ap (λ o. and_then o only_word) (r.same x.0 (words (y ∷ [])) q n) ∙ ap
                (λ d. Some (f stays F d)) (some_is e)
        one_word (y ∷ y' ∷ ds) q e = none_is_some e

        go : (o : Option Value) → env x.0 ≡ o → and_then o only_word ≡ Some d
            → word_of h env' (without_word gone (Var x)) ≡ Some (f stays F d)
        go None q e = none_is_some e
        go (Some (node n)) q e = none_is_some e
        go (Some (words ds)) q e = one_word ds q e

    pub words_too : (ws : List Word) (ds : List Datum) → words_of g env ws ≡ Some ds
        → words_of h env' (map (without_word gone) ws) ≡ Some (map (f stays F) ds)
    words_too [] ds e = ap (λ l. Some (map (f stays F) l)) (some_is e)
    words_too (a ∷ ws) ds e = go (word_of g env a) (λ d. word_too a d) (λ es. words_too ws es) e
      where
        then : (d : Datum) (o : Option (List Datum))
            → ((es : List Datum) → o ≡ Some es → words_of h env' (map (without_word gone) ws) ≡ Some
            (map (f stays F) es)) → and_then o (λ bs. Some (d ∷ bs)) ≡ Some ds
            → and_then (words_of h env' (map (without_word gone) ws))
            (λ bs. Some (f stays F d ∷ bs)) ≡ Some (map (f stays F) ds)
        then d None k e = none_is_some e
        then d (Some es) k e = ap (λ o. and_then o (λ bs. Some (f stays F d ∷ bs))) (k es refl) ∙ ap
            (λ l. Some (map (f stays F) l)) (some_is e)

        go : (o : Option Datum) →
            ((d : Datum) → o ≡ Some d → word_of h env' (without_word gone a) ≡ Some (f stays F d))
            → ((es : List Datum) → words_of g env ws ≡ Some es
            → words_of h env' (map (without_word gone) ws) ≡ Some (map (f stays F) es))
            → and_then o (λ b. and_then (words_of g env ws) (λ bs. Some (b ∷ bs))) ≡ Some ds
            → and_then (word_of h env' (without_word gone a))
            (λ b. and_then (words_of h env' (map (without_word gone) ws)) (λ bs. Some (b ∷ bs)))
            ≡ Some (map (f stays F) ds)
        go None k m e = none_is_some e
        go (Some d) k m e = ap
            (λ o. and_then o
            (λ b. and_then (words_of h env' (map (without_word gone) ws)) (λ bs. Some (b ∷ bs))))
            (k d refl) ∙ then d (words_of g env ws) m e

    pub value_too : (v : Val) → NoNodeVar v → (y : Value) → value_of g env v ≡ Some y
        → value_of h env' (without_val gone v) ≡ Some (value_to stays F y)
    value_too (NodeVar x) n y e = absurd n
    value_too (Node' t ws) n y e = go (words_of g env ws) refl e
      where
        made : (ds : List Datum) (o : Option Node) → made_node g t.0 ds ≡ o
            → and_then o (λ n. Some (node n)) ≡ Some y
            → and_then (made_node g t.0 (map (f stays F) ds)) (λ n. Some (node n)) ≡ Some
            (value_to stays F y)
        made ds None q e = none_is_some e
        made ds (Some m) q e = ap (λ o. and_then o (λ n. Some (node n)))
            (made_renamed stays F g t.0 ds m q) ∙ ap (λ z. Some (value_to stays F z)) (some_is e)

        go : (o : Option (List Datum)) → words_of g env ws ≡ o
            → and_then o (λ ds. and_then (made_node g t.0 ds) (λ n. Some (node n))) ≡ Some y
            → and_then (words_of h env' (map (without_word gone) ws))
            (λ ds. and_then (made_node g t.0 ds) (λ n. Some (node n))) ≡ Some
            (value_to stays F y)
        go None q e = none_is_some e
        go (Some ds) q e = ap
            (λ o. and_then o (λ ds. and_then (made_node g t.0 ds) (λ n. Some (node n))))
            (words_too ws ds q) ∙ made ds (made_node g t.0 ds) refl e
    value_too (Vector ws) n y e = go (words_of g env ws) refl e
      where
        go : (o : Option (List Datum)) → words_of g env ws ≡ o
            → and_then o (λ ds. Some (words ds)) ≡ Some y
            → and_then (words_of h env' (map (without_word gone) ws)) (λ ds. Some (words ds)) ≡ Some
            (value_to stays F y)
        go None q e = none_is_some e
        go (Some ds) q e = ap (λ o. and_then o (λ ds. Some (words ds))) (words_too ws ds q) ∙ ap
            (λ z. Some (value_to stays F z)) (some_is e)
    value_too (One a) n y e = go (word_of g env a) refl e
      where
        go : (o : Option Datum) → word_of g env a ≡ o
            → and_then o (λ d. Some (words (d ∷ []))) ≡ Some y
            → and_then (word_of h env' (without_word gone a)) (λ d. Some (words (d ∷ []))) ≡ Some
            (value_to stays F y)
        go None q e = none_is_some e
        go (Some d) q e = ap (λ o. and_then o (λ d. Some (words (d ∷ [])))) (word_too a d q) ∙ ap
            (λ z. Some (value_to stays F z)) (some_is e)

    pub node_too : (v : Val) → NoNodeVar v → (n : Node) → node_of g env v ≡ Some n
        → node_of h env' (without_val gone v) ≡ Some (node_to stays F n)
    node_too v ok n e = go (value_of g env v) refl e
      where
        go : (o : Option Value) → value_of g env v ≡ o → and_then o (as_node g) ≡ Some n
            → and_then (value_of h env' (without_val gone v)) (as_node g) ≡ Some (node_to stays F n)
        go None q e = none_is_some e
        go (Some y) q e = ap (λ o. and_then o (as_node g)) (value_too v ok y q) ∙ node_renamed stays
            F g y n e

    -- what is filled stays so, where it is there
    pub fills_too : (v : Val) (y : Value) → value_of g env v ≡ Some y → fills g env v ≡ true
        → fills h env' (without_val gone v) ≡ true
    fills_too (NodeVar x) y e l = refl
    fills_too (Node' t ws) y e l = refl
    fills_too (One a) y e l = refl
    fills_too (Vector ws) y e l = go (words_of g env ws) refl e l
      where
        go : (o : Option (List Datum)) → words_of g env ws ≡ o
            → and_then o (λ ds. Some (words ds)) ≡ Some y → is_none_or o (is_filled g) ≡ true
            → is_none_or (words_of h env' (map (without_word gone) ws)) (is_filled g) ≡ true
        go None q e l = none_is_some e
        go (Some ds) q e l = ap (λ o. is_none_or o (is_filled g)) (words_too ws ds q) ∙
            filled_renamed stays F g ds l

    pub node_fills : (v : Val) (n : Node) → node_of g env v ≡ Some n → fills g env v ≡ true
        → fills h env' (without_val gone v) ≡ true
    node_fills v n e l = go (value_of g env v) refl e
      where
        go : (o : Option Value) → value_of g env v ≡ o → and_then o (as_node g) ≡ Some n
            → fills h env' (without_val gone v) ≡ true
        go None q e = none_is_some e
        go (Some y) q e = fills_too v y q l

    -- ---- groups of cells

    abbrev cell_here : Cell → Option HeapCell
    cell_here c = and_then (node_of g env c.val) (λ n. Some (record { site = c.site.0; node = n }))

    cell_there : (c : Cell) → NoNodeVar c.val → (k : HeapCell) → cell_here c ≡ Some k
        → (and_then (node_of h env' (without_val gone c.val))
        (λ n. Some (record { site = c.site.0; node = n })) ≡ Some (cell_to stays (f stays F) k))
        × (k.site ≡ c.site.0)
    cell_there c ok k e = go (node_of g env c.val) refl e
      where
        go : (o : Option Node) → node_of g env c.val ≡ o
            → and_then o (λ n. Some (record { site = c.site.0; node = n })) ≡ Some k
            → (and_then (node_of h env' (without_val gone c.val))
            (λ n. Some (record { site = c.site.0; node = n })) ≡ Some
            (cell_to stays (f stays F) k)) × (k.site ≡ c.site.0)
        go None q e = none_is_some e
        go (Some n) q e = (
          ap (λ o. and_then o (λ n. Some (record { site = c.site.0; node = n })))
              (node_too c.val ok n q) ∙ ap (λ z. Some (cell_to stays (f stays F) z)) (some_is e),
          ap (λ z. z.site) (sym (some_is e)),
        )

    pub cells_too : (cs : List Cell) → AllOf (λ c. NoNodeVar c.val) cs → (hs : List HeapCell)
        → cells_of g env cs ≡ Some hs → cells_of h env' (kept_cells stays gone cs) ≡ Some
        (kept_with stays (f stays F) hs)
    cells_too [] ok hs e = ap (λ l. Some (kept_with stays (f stays F) l)) (some_is e)
    cells_too (c ∷ cs) ok hs e = go (cell_here c) refl (cells_of g env cs) (cells_too cs ok.1) e
      where
        by : (k : HeapCell) (ks : List HeapCell) (b b' : Bool) → b' ≡ b
            → and_then (node_of h env' (without_val gone c.val))
            (λ n. Some (record { site = c.site.0; node = n })) ≡ Some (cell_to stays (f stays F) k)
            → cells_of h env' (kept_cells stays gone cs) ≡ Some (kept_with stays (f stays F) ks)
            → cells_of h env'
            (cond b' (kept_cell gone c ∷ kept_cells stays gone cs) (kept_cells stays gone cs)) ≡
            Some (cond b (cell_to stays (f stays F) k ∷ kept_with stays (f stays F) ks)
            (kept_with stays (f stays F) ks))
        by k ks true b' q e m = ap
            (λ b. cells_of h env'
            (cond b (kept_cell gone c ∷ kept_cells stays gone cs) (kept_cells stays gone cs))) q
            ∙ (λ i. and_then (e i) (λ b. and_then (m i) (λ bs. Some (b ∷ bs))))
        by k ks false b' q e m = ap
            (λ b. cells_of h env'
            (cond b (kept_cell gone c ∷ kept_cells stays gone cs) (kept_cells stays gone cs))) q ∙ m

        go : (o : Option HeapCell) → cell_here c ≡ o → (u : Option (List HeapCell))
            → ((ks : List HeapCell) → u ≡ Some ks → cells_of h env' (kept_cells stays gone cs) ≡
            Some (kept_with stays (f stays F) ks))
            → and_then o (λ b. and_then u (λ bs. Some (b ∷ bs))) ≡ Some hs
            → cells_of h env' (kept_cells stays gone (c ∷ cs)) ≡ Some
            (kept_with stays (f stays F) hs)
        go None q u m e = none_is_some e
        go (Some k) q None m e = none_is_some e
        go (Some k) q (Some ks) m e =
            let t = cell_there c ok.0 k q in
            by k ks (stays k.site) (stays c.site.0) (ap stays (sym t.1)) t.0 (m ks refl) ∙ ap
            (λ l. Some (kept_with stays (f stays F) l)) (some_is e)

    pub all_fill_too : (cs : List Cell) (hs : List HeapCell) → cells_of g env cs ≡ Some hs
        → all_fill g env cs ≡ true → all_fill h env' (kept_cells stays gone cs) ≡ true
    all_fill_too [] hs e l = refl
    all_fill_too (c ∷ cs) hs e l = go (node_of g env c.val) refl (cells_of g env cs)
        (all_fill_too cs) e
      where
        by : (b : Bool) → fills h env' (without_val gone c.val) ≡ true
            → all_fill h env' (kept_cells stays gone cs) ≡ true
            → all_fill h env'
            (cond b (kept_cell gone c ∷ kept_cells stays gone cs) (kept_cells stays gone cs)) ≡ true
        by true p q = and_from (fills h env' (without_val gone c.val))
            (all_fill h env' (kept_cells stays gone cs)) p q
        by false p q = q

        go : (o : Option Node) → node_of g env c.val ≡ o → (u : Option (List HeapCell))
            → ((ks : List HeapCell) → u ≡ Some ks → all_fill g env cs ≡ true
            → all_fill h env' (kept_cells stays gone cs) ≡ true)
            → and_then (and_then o (λ n. Some (record { site = c.site.0; node = n })))
            (λ b. and_then u (λ bs. Some (b ∷ bs))) ≡ Some hs
            → all_fill h env' (kept_cells stays gone (c ∷ cs)) ≡ true
        go None q u m e = none_is_some e
        go (Some n) q None m e = none_is_some e
        go (Some n) q (Some ks) m e = by (stays c.site.0)
            (node_fills c.val n q (and_left (fills g env c.val) (all_fill g env cs) l))
            (m ks refl (and_right (fills g env c.val) (all_fill g env cs) l))

-- ---- the variables of a group that is stored

module _ (stays gone : ℕ → Bool) (F : List HeapCell) where
  -- the variable of a cell is gone where the cell leaves
  abbrev pub VarFine : Cell → Type 0
  VarFine c = gone c.var.0 ≡ not (stays c.site.0)

  cell_becomes : (a : ℕ) (b : Bool) → stays_at stays F a ≡ b
      → renamed stays F (cell a) ≡ cond b (cell (rank stays F a)) (number (pos 0))
  cell_becomes a b e = ap (λ b. cond b (cell (rank stays F a)) (number (pos 0))) e

  abbrev pub sites_of : Program → Env → List Cell → List HeapCell → Type 0
  sites_of g env [] [] = Unit {0}
  sites_of g env [] (k ∷ hs) = ⊥
  sites_of g env (c ∷ cs) [] = ⊥
  sites_of g env (c ∷ cs) (k ∷ hs) = (k.site ≡ c.site.0) × sites_of g env cs hs

  -- the cells that are made have the sites of the group
  pub made_sites : (g : Program) (env : Env) (cs : List Cell) (hs : List HeapCell)
      → cells_of g env cs ≡ Some hs → sites_of g env cs hs
  made_sites g env [] [] e = tt
  made_sites g env [] (k ∷ hs) e = let z : [] ≡ k ∷ hs = some_is e in absurd cc
  made_sites g env (c ∷ cs) hs e = go (node_of g env c.val) (cells_of g env cs)
      (made_sites g env cs) hs e
    where
      go : (o : Option Node) (u : Option (List HeapCell))
          → ((ks : List HeapCell) → u ≡ Some ks → sites_of g env cs ks) → (hs : List HeapCell)
          → and_then (and_then o (λ n. Some (record { site = c.site.0; node = n })))
          (λ b. and_then u (λ bs. Some (b ∷ bs))) ≡ Some hs → sites_of g env (c ∷ cs) hs
      go None u m hs e = none_is_some e
      go (Some n) None m hs e = none_is_some e
      go (Some n) (Some ks) m hs e = subst (sites_of g env (c ∷ cs)) (some_is e) (refl, m ks refl)

  pub places_related : (g : Program) (e0 : Env) (cs : List Cell) (h hs : List HeapCell) (a : ℕ)
      (env env' : Env) → a ≡ length h → sites_of g e0 cs hs → Begins (h ++ hs) F → AllOf VarFine cs
      → Related stays gone F env env'
      → Related stays gone F (with_vars (places a cs) env)
      (with_vars (places (rank stays F a) (kept_cells stays gone cs)) env')
  places_related g e0 [] h [] a env env' e s b v r = r
  places_related g e0 [] h (k ∷ hs) a env env' e s b v r = absurd s
  places_related g e0 (c ∷ cs) h [] a env env' e s b v r = absurd s
  places_related g e0 (c ∷ cs) h (k ∷ hs) a env env' e s b v r =
      go (stays c.site.0) refl
      (places_related g e0 cs (h ++ k ∷ []) hs (suc a) (one x (words (cell a ∷ [])) env))
    where
      x : ℕ
      x = c.var.0

      there : slice_get (h ++ k ∷ hs) a ≡ Some k
      there = ap (slice_get (h ++ k ∷ hs)) e ∙ get_here h k hs

      at : stays_at stays F a ≡ stays c.site.0
      at = stays_get stays (h ++ k ∷ hs) F a k b there ∙ ap stays s.0

      next : rank stays F (suc a) ≡ cond (stays c.site.0) (suc (rank stays F a)) (rank stays F a)
      next = rank_next stays (h ++ k ∷ hs) F a k b there ∙ ap
          (λ t. cond (stays t) (suc (rank stays F a)) (rank stays F a)) s.0

      begins : Begins ((h ++ k ∷ []) ++ hs) F
      begins = subst (λ l. Begins l F) (sym (append_assoc h (k ∷ []) hs)) b

      count : suc a ≡ length (h ++ k ∷ [])
      count = let l : length (h ++ k ∷ []) ≡ length h + 1 = length_push h k in omega (arith, e, l)

      go : (t : Bool) → stays c.site.0 ≡ t
          → ((env2 : Env) → suc a ≡ length (h ++ k ∷ []) → sites_of g e0 cs hs
          → Begins ((h ++ k ∷ []) ++ hs) F → AllOf VarFine cs
          → Related stays gone F (one x (words (cell a ∷ [])) env) env2
          → Related stays gone F (with_vars (places (suc a) cs) (one x (words (cell a ∷ [])) env))
          (with_vars (places (rank stays F (suc a)) (kept_cells stays gone cs)) env2))
          → Related stays gone F (with_vars (places (suc a) cs) (one x (words (cell a ∷ [])) env))
          (with_vars
          (places (rank stays F a)
          (cond (stays c.site.0) (kept_cell gone c ∷ kept_cells stays gone cs)
          (kept_cells stays gone cs))) env')
      go true t again =
          let becomes : renamed stays F (cell a) ≡ cell (rank stays F a)
          = cell_becomes a true (at ∙ t) in
          let v2 : Value = words (cell (rank stays F a) ∷ []) in
          let first : Related stays gone F (one x (words (cell a ∷ [])) env) (one x v2 env')
          = related_one stays gone F x (words (cell a ∷ [])) v2 env env' (v.0 ∙ ap not t)
          (ap (λ d. words (d ∷ [])) (sym becomes)) r in
          subst (λ u. Related stays gone F
          (with_vars (places (suc a) cs) (one x (words (cell a ∷ [])) env))
          (with_vars
          (places (rank stays F a)
          (cond u (kept_cell gone c ∷ kept_cells stays gone cs) (kept_cells stays gone cs)))
          env')) (sym t)
          (subst (λ m. Related stays gone F
          (with_vars (places (suc a) cs) (one x (words (cell a ∷ [])) env))
          (with_vars (places m (kept_cells stays gone cs)) (one x v2 env')))
          (next ∙ ap (λ t. cond t (suc (rank stays F a)) (rank stays F a)) t)
          (again (one x v2 env') count s.1 begins v.1 first))
      go false t again =
          let becomes : renamed stays F (cell a) ≡ number (pos 0) = cell_becomes a false (at ∙ t) in
          let first : Related stays gone F (one x (words (cell a ∷ [])) env) env'
          = related_left stays gone F x (words (cell a ∷ [])) env env' (v.0 ∙ ap not t)
          (ap (λ d. words (d ∷ [])) becomes) r in
          subst (λ u. Related stays gone F
          (with_vars (places (suc a) cs) (one x (words (cell a ∷ [])) env))
          (with_vars
          (places (rank stays F a)
          (cond u (kept_cell gone c ∷ kept_cells stays gone cs) (kept_cells stays gone cs)))
          env')) (sym t)
          (subst (λ m. Related stays gone F
          (with_vars (places (suc a) cs) (one x (words (cell a ∷ [])) env))
          (with_vars (places m (kept_cells stays gone cs)) env'))
          (next ∙ ap (λ t. cond t (suc (rank stays F a)) (rank stays F a)) t)
          (again env' count s.1 begins v.1 first))
