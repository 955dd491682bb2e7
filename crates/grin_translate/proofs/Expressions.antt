-- The block of an expression does what the expression does.
use Rattle.std.proofs.Common.{◌≡◌, ◌≢◌, ℕ, suc, ◌+◌, Bool, true, false, cond, nat_eq, List, [], ◌∷◌, map, length, Some, None, refl, sym, ap, ◌∙◌, subst, arith, eqb-true, length-append}
use Rattle.std.specs.List.{list_any}
use Rattle.std.proofs.lemmas.List.{length-map}
use Rattle.std.proofs.lemmas.Option.{same_Some, none-some}
use Rattle.seq.proofs.Truth.{or_left, or_right}
use Rattle.seq.proofs.Order.{eq_false}
use mathlib.Core.Logic.{◌⊎◌, inl, inr}
use Rattle.numbers.specs.Numbers.{same_number}
use Rattle.arity_check.specs.declared.normal.Bound.{Bound}
use Rattle.arity_check.specs.Program.{Program, Term, App, Let, Case, Branches, NoMore, OnCon, OnInt, OnAny}
use Rattle.core_meaning.specs.Heap as core
use Rattle.core_meaning.specs.Heap.{Value, Int, Con, Part, Known, Heap, with_local, with_locals}
use Rattle.core_meaning.specs.Evaluation as core'
use Rattle.core_meaning.specs.Evaluation.{State, DelayedEvaluator, append, binding, with_group, eval, select}
use Rattle.grin_syntax.specs.declared.program.VarId.{VarId}
use Rattle.grin_syntax.specs.declared.program.Val.TheVariants.{NodeVar}
use Rattle.grin_syntax.specs.Tree as tree
use Rattle.grin_syntax.specs.Tree.{Code, end, store, bind, as_act}
use Rattle.grin_meaning.specs.Values.{Datum, cell, node, words, World, Env, fits, fits_not, fields_fit, one_each, with_vars}
use Rattle.grin_meaning.specs.Values as grin
use Rattle.grin_meaning.specs.Run.{Calls, act, code, arms, choose, with_state_seen, places, with_cells}
use Rattle.grin_translate.specs.declared.tags.Delay.{Delay}
use Rattle.grin_translate.specs.declared.tags.Kind.{Kind}
use Rattle.grin_translate.specs.declared.tags.Kind.TheVariants.{Number, Constructor}
use Rattle.grin_translate.specs.Tags.{kinds, tag, binds, delays_in, delays_in_branches, is_delayed, same_tag_meaning}
use Rattle.grin_translate.specs.Blocks.{local, temp, cell_of, block, temps}
use Rattle.grin_translate.specs.Blocks as blocks
use Rattle.grin_translate.specs.Translation.{tr}
use Rattle.grin_translate.specs.WellFormed.{AllOf, InLocals, InGroup, HasFields, FormOk, TermOk, BranchesOk}
use Rattle.grin_translate.proofs.Places.{Has}
use Rattle.grin_translate.proofs.Found.{has_number, has_constructor, tags_tell}
use Rattle.grin_translate.proofs.Alike.{value_kind, value_node, IsValue, value_grows, Heaps, heaps_long, Alike, alike_passing, alike_append, Match, none_accepts, match_then, match_less}
use Rattle.grin_translate.proofs.Forcing.{CallsMatch, kind_there}
use Rattle.grin_translate.proofs.Scoping.{Knows, KnowsFields, KnowsCells, knows_later, knows_temp, knows_local, knows_group, knows_fields, knows_cells}
use Rattle.grin_translate.proofs.Forms.{temp_itself, form_match}

pub any_has : {A : Type 0} (test : A → Bool) (xs : List A) (x : A) → Has x xs → test x ≡ true
    → list_any test xs ≡ true
any_has test [] x h e = absurd h
any_has test (y ∷ xs) x (inl i) e = or_left (test y) _ (subst (λ z. test z ≡ true) i e)
any_has test (y ∷ xs) x (inr h) e = or_right (test y) _ (any_has test xs x h e)

fields_fit_all : (xs : List VarId) (ds : List Datum) (bs : List grin.Binding)
    → one_each xs ds ≡ Some bs → fields_fit xs ds ≡ fits bs
fields_fit_all [] [] bs e = ap fits (same_Some [] bs e)
fields_fit_all [] (d ∷ ds) bs e = absurd (none-some bs e)
fields_fit_all (x ∷ xs) ds bs e = rw e refl

pub number_first : (p : Program) → (tag p Number).0 ≡ 0
unfolding kinds
number_first p = refl

module _ (p : Program) where
  -- what an expression delays, the program delays
  abbrev pub Waits : Term → Type 0
  Waits e = (d : Delay) → delays_in d e ≡ true → is_delayed p d ≡ true

  abbrev pub WaitsIn : Branches → Type 0
  WaitsIn bs = (d : Delay) → delays_in_branches d bs ≡ true → is_delayed p d ≡ true

  pub tag_zero : (k : Kind) → Has k (kinds p) → nat_eq (tag p k).0 0 ≡ same_tag_meaning k Number
  tag_zero k h = subst (λ z. nat_eq (tag p k).0 z ≡ same_tag_meaning k Number) (number_first p)
      (tags_tell p k Number h (has_number p))

  pub same_fields : (c m n : ℕ) → HasFields p c m → HasFields p c n → m ≡ n
  same_fields c m n h i = let e : h.0 ≡ i.0 = same_Some h.0 i.0 (sym h.1 ∙ i.1)
      in sym h.2 ∙ ap (λ k. k.fields) e ∙ i.2

  module _ (o : DelayedEvaluator) (c : Calls) (on : CallsMatch p o c) (base : ℕ) where
    as_act_same : (b : Code) (genv : Env) (d : ℕ) (w : World)
        → act (tr p) c genv d (as_act b) w ≡ code (tr p) c genv d b w
    unfolding act
    as_act_same (end a) genv d w = refl
    as_act_same (store cs b) genv d w = refl
    as_act_same (bind t a b) genv d w = refl

    -- where a test chooses
    choose_match : (n : ℕ) (out : List ℕ) (b : Bool) (x y : core'.Answer) (w : World)
        (k : List grin.Binding → grin.Answer) (other : grin.Answer) → Match p n out x (k [])
        → Match p n out y other
        → Match p n out (elim b [ true ↦ x | false ↦ y ])
        (choose (cond b (fits []) fits_not) w k other)
    choose_match n out true x y w k other f g = f
    choose_match n out false x y w k other f g = g

    let_match : (group : List Bound) (b : Code) (S : ℕ → Type 0) (env : core.Env) (d : ℕ)
        (out : List ℕ) (s : State) (w : World) (genv : Env) (go : core.Env → State → core'.Answer)
        → Alike p out s w → Knows p base S (length s.heap) env genv
        → AllOf (λ b. FormOk p (λ x. S x ⊎ InGroup group x) b.flat) group
        → ((b : Bound) → Has b group → (d : Delay) → binds d b.flat ≡ true
        → is_delayed p d ≡ true)
        → ((env' : core.Env) (s' : State) (w' : World) (genv' : Env) → Alike p out s' w'
        → Knows p base (λ x. S x ⊎ InGroup group x) (length s'.heap) env' genv'
        → Match p (length s'.heap) out (go env' s') (code (tr p) c genv' d b w'))
        → Match p (length s.heap) out
        (go (with_group p env group (length s.heap))
        (append s (map (λ b. binding p (with_group p env group (length s.heap)) b.flat) group)))
        (code (tr p) c genv d (store (map (cell_of p base) group) b) w)
    unfolding act
    let_match group b S env d out s w genv go al k ok waits h =
        let N : ℕ = length s.heap + length group in
        let env' : core.Env = with_group p env group (length s.heap) in
        let more : Heap = map (λ b. binding p env' b.flat) group in
        let genv' : Env = with_vars (places (length s.heap) (map (cell_of p base) group)) genv in
        let k' : Knows p base (λ x. S x ⊎ InGroup group x) N env' genv'
        = knows_group p base group S N (length s.heap) env genv (omega arith)
        (knows_later p base (omega arith) k) in
        let cells : KnowsCells p base (λ x. S x ⊎ InGroup group x) N env' genv' k'
        (omega (arith, al.room)) group = knows_cells p base (λ x. S x ⊎ InGroup group x) N env'
        genv' k' (omega (arith, al.room)) group ok waits in
        let many : length more ≡ length group = length-map group (λ b. binding p env' b.flat) in
        let long : length (append s more).heap ≡ N = omega (arith, length-append s.heap more, many)
        in
        let heaps : Heaps p (length s.heap + length more) more cells.cells
        = subst (λ m. Heaps p (length s.heap + m) more cells.cells) (sym many) cells.heaps in
        let al' : Alike p out (append s more) (with_cells cells.cells w)
        = alike_append p out s w more cells.cells al heaps in
        rw (heaps_long p (length s.heap) s.heap w.cells al.heaps, cells.is)
        (match_less p (omega (arith, long))
        (h env' (append s more) _ genv'
        (alike_passing p out (append s more) (with_cells cells.cells w) genv' al')
        (knows_later p base (omega (arith, long)) k')))

    named_match : (b : Code) (x u : ℕ) (v : Value) (S : ℕ → Type 0) (env : core.Env) (d : ℕ)
        (out : List ℕ) (s : State) (w : World) (genv : Env) (go : core.Env → State → core'.Answer)
        → Alike p out s w → Knows p base S (length s.heap) env genv → IsValue p (length s.heap) v
        → genv (temp p base u).0 ≡ Some (node (value_node p v))
        → ((env' : core.Env) (s' : State) (w' : World) (genv' : Env) → Alike p out s' w'
        → Knows p base (λ y. S y ⊎ (y ≡ x)) (length s'.heap) env' genv'
        → Match p (length s'.heap) out (go env' s') (code (tr p) c genv' d b w'))
        → Match p (length s.heap) out
        (go (with_local env x (length s.heap)) (append s (Known v ∷ [])))
        (code (tr p) c genv d (store (blocks.cell p base x (NodeVar (temp p base u)) ∷ []) b) w)
    unfolding act
    named_match b x u v S env d out s w genv go al k g at h =
        let env' : core.Env = with_local env x (length s.heap) in
        let genv' : Env = with_vars (((local p base x).0, words (cell (length s.heap) ∷ [])) ∷ [])
        genv in
        let hc : grin.HeapCell = record { site = (local p base x).0; node = value_node p v } in
        let long : length (append s (Known v ∷ [])).heap ≡ suc (length s.heap)
        = omega (arith, length-append s.heap (Known v ∷ [])) in
        let ne : (temp p base u).0 ≢ (local p base x).0 = λ e. omega (arith, e) in
        let k' : Knows p base (λ y. S y ⊎ (y ≡ x)) (suc (length s.heap)) env' genv'
        = knows_local p base x (length s.heap) (omega arith)
        (knows_later p base (omega arith) k) in
        let al' : Alike p out (append s (Known v ∷ [])) (with_cells (hc ∷ []) w)
        = alike_append p out s w (Known v ∷ []) (hc ∷ []) al
        (refl, value_grows p (length s.heap) (length s.heap + 1) (omega arith) v g, tt) in
        rw (
          heaps_long p (length s.heap) s.heap w.cells al.heaps,
          eq_false (temp p base u).0 (local p base x).0 ne,
          at,
        )
        (match_less p (omega (arith, long))
        (h env' (append s (Known v ∷ [])) _ genv'
        (alike_passing p out (append s (Known v ∷ [])) (with_cells (hc ∷ []) w) genv' al')
        (knows_later p base (omega (arith, long)) k')))

    -- a constructor's branch, where the constructors are told apart already
    con_match : (x : ℕ) (xs : List ℕ) (y : ℕ) (ys : List ℕ) (same : Bool) → nat_eq y x ≡ same
        → (b : Code) (others : tree.Arms) (S : ℕ → Type 0) (env : core.Env) (d : ℕ) (out : List ℕ)
        (s : State) (w : World) (genv : Env) (go : core.Env → core'.Answer) (else : core'.Answer)
        → Alike p out s w → Knows p base S (length s.heap) env genv → HasFields p x (length xs)
        → IsValue p (length s.heap) (Con y ys)
        → ((env' : core.Env) (genv' : Env) → Alike p out s (with_state_seen genv' w)
        → Knows p base (λ z. S z ⊎ InLocals xs z) (length s.heap) env' genv'
        → Match p (length s.heap) out (go env')
        (code (tr p) c genv' d b (with_state_seen genv' w)))
        → Match p (length s.heap) out else
        (arms (tr p) c genv d (node (value_node p (Con y ys))) others w)
        → Match p (length s.heap) out
        (elim same [ true ↦ go (with_locals env xs ys) | false ↦ else ])
        (choose (cond same (fields_fit (map (local p base) xs) (map cell ys)) fits_not) w
        (λ bs. code (tr p) c (with_vars bs genv) d b (with_state_seen (with_vars bs genv) w))
        (arms (tr p) c genv d (node (value_node p (Con y ys))) others w))
    con_match x xs y ys false is b others S env d out s w genv go else al k has g h h' = h'
    con_match x xs y ys true is b others S env d out s w genv go else al k has g h h' =
        let e : y ≡ x = eqb-true y x is in
        let many : length ys ≡ length xs = same_fields x (length ys) (length xs)
        (subst (λ z. HasFields p z (length ys)) e g.0) has in
        let fields : KnowsFields p base xs ys S (length s.heap) env genv
        = knows_fields p base xs ys S (length s.heap) env genv many g.1 k in
        rw (fields_fit_all (map (local p base) xs) (map cell ys) fields.bindings fields.is)
        (h (with_locals env xs ys) (with_vars fields.bindings genv) (alike_passing p out s w _ al)
        fields.knows)

    mutual
      unfolding act

      pub eval_match : (e : Term) (S : ℕ → Type 0) (env : core.Env) (t d : ℕ) (out : List ℕ)
          (s : State) (w : World) (genv : Env) → Alike p out s w
          → Knows p base S (length s.heap) env genv → TermOk p S e → Waits e
          → Match p (length s.heap) out (eval p o e env d s)
          (code (tr p) c genv d (block p base t e) w)
      eval_match (App f) S env t d out s w genv al k ok waits
          = form_match p o c on base S env f t d out s w genv al k ok
      eval_match (Let group e) S env t d out s w genv al k ok waits =
          let_match group (block p base t e) S env d out s w genv (λ env s. eval p o e env d s) al k
          ok.0
          (λ b h d i. waits d (or_left _ _ (any_has (λ b. binds d b.flat) group b h i)))
          (λ env' s' w' genv' al' k'. eval_match e (λ x. S x ⊎ InGroup group x) env' t d out s' w'
          genv' al' k' ok.1
          (λ d i. waits d (or_right (list_any (λ b. binds d b.flat) group) _ i)))
      eval_match (Case e branches) S env t d out s w genv al k ok waits =
          rw (as_act_same (block p base (suc t) e) genv (suc d) w)
          (match_then p (λ v s. select p o branches v env d s) _
          (eval_match e S env (suc t) (suc d) out s w genv al k ok.0
          (λ d i. waits d (or_left _ _ i)))
          (λ v s' w' le g al'.
          let genv' : Env = with_vars (((temp p base t).0, node (value_node p v)) ∷ []) genv in
          let at : genv' (temp p base t).0 ≡ Some (node (value_node p v))
          = temp_itself p o c on base t (node (value_node p v)) genv in
          rw at (match_less p le
          (select_match branches v S env t (suc t + temps e) d out s' (with_state_seen genv' w')
          genv' (alike_passing p out s' w' genv' al')
          (knows_temp p base t (node (value_node p v)) (knows_later p base le k)) ok.1
          (λ d i. waits d (or_right (delays_in d e) _ i)) g at))))

      pub select_match : (bs : Branches) (v : Value) (S : ℕ → Type 0) (env : core.Env) (u t d : ℕ)
          (out : List ℕ) (s : State) (w : World) (genv : Env) → Alike p out s w
          → Knows p base S (length s.heap) env genv → BranchesOk p S bs → WaitsIn bs
          → IsValue p (length s.heap) v → genv (temp p base u).0 ≡ Some (node (value_node p v))
          → Match p (length s.heap) out (select p o bs v env d s)
          (arms (tr p) c genv d (node (value_node p v))
          (blocks.arms p base (temp p base u) t bs) w)
      select_match NoMore v S env u t d out s w genv al k ok waits g at
          = none_accepts (alike_passing p out s w genv al)
      select_match (OnCon x xs e rest) (Int i) S env u t d out s w genv al k ok waits g at =
          rw (tags_tell p (value_kind p (Int i)) (Constructor x)
          (kind_there p (length s.heap) (Int i) g) (has_constructor p x (length xs) ok.0))
          (select_match rest (Int i) S env u (t + temps e) d out s w genv al k ok.2
          (λ d i. waits d (or_right (delays_in d e) _ i)) g at)
      select_match (OnCon x xs e rest) (Part f ys) S env u t d out s w genv al k ok waits g at =
          rw (tags_tell p (value_kind p (Part f ys)) (Constructor x)
          (kind_there p (length s.heap) (Part f ys) g) (has_constructor p x (length xs) ok.0))
          (select_match rest (Part f ys) S env u (t + temps e) d out s w genv al k ok.2
          (λ d i. waits d (or_right (delays_in d e) _ i)) g at)
      select_match (OnCon x xs e rest) (Con y ys) S env u t d out s w genv al k ok waits g at =
          rw (tags_tell p (value_kind p (Con y ys)) (Constructor x)
          (kind_there p (length s.heap) (Con y ys) g) (has_constructor p x (length xs) ok.0))
          (con_match x xs y ys (nat_eq y x) refl (block p base t e)
          (blocks.arms p base (temp p base u) (t + temps e) rest) S env d out s w genv
          (λ env. eval p o e env d s) (select p o rest (Con y ys) env d s) al k ok.0 g
          (λ env' genv' al' k'. eval_match e (λ z. S z ⊎ InLocals xs z) env' t d out s _ genv' al'
          k' ok.1 (λ d i. waits d (or_left _ _ i)))
          (select_match rest (Con y ys) S env u (t + temps e) d out s w genv al k ok.2
          (λ d i. waits d (or_right (delays_in d e) _ i)) g at))
      select_match (OnInt i e rest) (Int j) S env u t d out s w genv al k ok waits g at =
          rw (tag_zero Number (has_number p))
          (choose_match (length s.heap) out (same_number i j) _ _ w _ _
          (eval_match e S env t d out s (with_state_seen genv w) genv
          (alike_passing p out s w genv al) k ok.0 (λ d i. waits d (or_left _ _ i)))
          (select_match rest (Int j) S env u (t + temps e) d out s w genv al k ok.1
          (λ d i. waits d (or_right (delays_in d e) _ i)) g at))
      select_match (OnInt i e rest) (Con y ys) S env u t d out s w genv al k ok waits g at =
          rw (tag_zero (Constructor y) (kind_there p (length s.heap) (Con y ys) g))
          (select_match rest (Con y ys) S env u (t + temps e) d out s w genv al k ok.1
          (λ d i. waits d (or_right (delays_in d e) _ i)) g at)
      select_match (OnInt i e rest) (Part f ys) S env u t d out s w genv al k ok waits g at =
          rw (tag_zero (value_kind p (Part f ys)) (kind_there p (length s.heap) (Part f ys) g))
          (select_match rest (Part f ys) S env u (t + temps e) d out s w genv al k ok.1
          (λ d i. waits d (or_right (delays_in d e) _ i)) g at)
      select_match (OnAny None e rest) v S env u t d out s w genv al k ok waits g at =
          eval_match e S env t d out s (with_state_seen genv w) genv
          (alike_passing p out s w genv al) k ok.0 (λ d i. waits d (or_left _ _ i))
      select_match (OnAny (Some x) e rest) v S env u t d out s w genv al k ok waits g at =
          named_match (block p base t e) x u v S env d out s (with_state_seen genv w) genv
          (λ env s. eval p o e env d s) (alike_passing p out s w genv al) k g at
          (λ env' s' w' genv' al' k'. eval_match e (λ y. S y ⊎ (y ≡ x)) env' t d out s' w' genv' al'
          k' ok.0 (λ d i. waits d (or_left _ _ i)))
