-- A program without words that nobody reads stays well formed.
use Rattle.std.proofs.Common.{◌≡◌, ℕ, zero, suc, ◌+◌, ◌≤◌, Bool, true, false, cond, nat_eq, List, [], ◌∷◌, ◌++◌, map, length, Some, None, refl, sym, ap, ◌∙◌, subst, arith}
use Rattle.std.proofs.lemmas.List.{length-map}
use Rattle.std.proofs.lemmas.Option.{slice_get-map}
use Rattle.std.specs.Option.{option_map}
use Rattle.seq.specs.Lists.{times, is_among}
use Rattle.seq.proofs.Order.{eq_from}
use Rattle.seq.proofs.Truth.{true_not_false}
use Rattle.seq.proofs.Counted.{times_fewer, times_append, counts}
use Rattle.grin_syntax.specs.declared.program.VarId.{VarId}
use Rattle.grin_syntax.specs.declared.program.Target.{Target}
use Rattle.grin_syntax.specs.declared.program.Target.TheVariants as to
use Rattle.grin_syntax.specs.declared.program.Word as W
use Rattle.grin_syntax.specs.declared.program.Val as V
use Rattle.grin_syntax.specs.declared.program.Val.TheVariants.{NodeVar, Node, Vector, One}
use Rattle.grin_syntax.specs.Tree.{Code, end, store, bind, Act, leaf, unit, fetch, fetch_word, update, eval, apply, call, prim, read, write, case, nested, fail, Arms, no_arm, arm, Procedure, Program}
use Rattle.grin_syntax.specs.Binders.{numbers_of, target_vars, shape_vars, cell_vars, act_vars, code_vars, arms_vars, procs_vars, act_sites, code_sites, arms_sites, procs_sites}
use Rattle.grin_syntax.specs.Formed.{AllOf, Scope, InScope, with_word_variables, params_scope, WordFormed, ValFormed, ActFormed, CodeFormed, ArmsFormed, ProcedureFormed, Formed}
use Rattle.grin_syntax.specs.SameOutside.{names_of, DifferOnlyInBodies}
use Rattle.grin_syntax.proofs.Scopes.{with_procs, known_again, shape_stays, same_sites, formed_with}
use Rattle.grin_meaning.specs.Ready.{NoNodeTarget, NoNodeVar, EachAct, EachCode, EachArms, EveryBodyIsOfKind, vectorised_kind}
use Rattle.grin_meaning.specs.Rewritten.{rewritten_procedure}
use Rattle.flow_system.specs.Solution.{Solution}
use Rattle.copy_prop.specs.Lean.{used_in_word, used_in_val, used_in_cells, used_in_act, used_in_code, used_in_arms}
use Rattle.copy_prop.proofs.LeanSimulated.{Covers, covers_left, covers_right}
use Rattle.copy_prop.proofs.LeanFormed.{as_scope, target_scope, Carried, carried_more, word_formed, words_formed, val_formed, cells_formed}
use Rattle.pass_narrow.specs.Picked.{picked, stay}
use Rattle.pass_narrow.specs.Narrow.{WordSelection, picked_val, picked_target, act_fits, word_selection, narrow_act, narrow_code, narrow_arms, narrow}

-- ---- what stays

pub all_picked : {X : Type 0} (P : X → Type 0) (bs : List Bool) (xs : List X) → AllOf P xs
    → AllOf P (picked bs xs)
all_picked P [] xs h = tt
all_picked P (b ∷ bs) [] h = tt
all_picked P (true ∷ bs) (x ∷ xs) h = (h.0, all_picked P bs xs h.1)
all_picked P (false ∷ bs) (x ∷ xs) h = all_picked P bs xs h.1

times_picked : (y : ℕ) (bs : List Bool) (xs : List VarId)
    → times y (numbers_of (picked bs xs)) ≤ times y (numbers_of xs)
times_picked y [] xs = omega arith
times_picked y (b ∷ bs) [] = omega arith
times_picked y (true ∷ bs) (x ∷ xs) = let h : times y (numbers_of (picked bs xs)) ≤ times y
    (numbers_of xs) = times_picked y bs xs in omega (arith, h)
times_picked y (false ∷ bs) (x ∷ xs) = let h : times y (numbers_of (picked bs xs)) ≤ times y
    (numbers_of xs) = times_picked y bs xs in omega (arith, h)

-- what is used stays as often as it was
used_stay : (used : List ℕ) (y : ℕ) → is_among y used ≡ true → (xs : List VarId)
    → times y (numbers_of xs) ≤ times y (numbers_of (picked (stay used xs) xs))
used_stay used y u [] = omega arith
used_stay used y u (x ∷ xs) = go (is_among x.0 used) refl (used_stay used y u xs)
  where
    go : (b : Bool) → is_among x.0 used ≡ b → times y (numbers_of xs) ≤ times y
        (numbers_of (picked (stay used xs) xs)) → counts (nat_eq y x.0) + times y (numbers_of xs) ≤
        times y (numbers_of (cond b (x ∷ picked (stay used xs) xs) (picked (stay used xs) xs)))
    go true q h = omega (arith, h)
    go false q h = other (nat_eq y x.0) refl
      where
        other : (c : Bool) → nat_eq y x.0 ≡ c → counts c + times y (numbers_of xs) ≤ times y
            (numbers_of (picked (stay used xs) xs))
        other true e = true_not_false (sym u ∙ ap (λ z. is_among z used) (eq_from y x.0 e) ∙ q)
        other false e = omega (arith, h)

module _ (count : ℕ) (A : Solution) where
  -- of whatever stays
  by_picking : (P : WordSelection → Type 0) (t : Target) (o : Act) (used : List ℕ) → P None
      → ((xs : List VarId) → t ≡ to.Vector xs → P (Some (stay used xs)))
      → P (word_selection count A t o used)
  by_picking P to.Nothing o used none some = none
  by_picking P (to.Node x) o used none some = none
  by_picking P (to.One x) o used none some = none
  by_picking P (to.Vector xs) o used none some = go (act_fits count A (stay used xs) o)
    where
      go : (b : Bool) → P (cond b (Some (stay used xs)) None)
      go true = some xs refl
      go false = none

  -- ---- variables and sites

  pub fewer_vars : (y : ℕ) (p : WordSelection) (t : Target)
      → times y (target_vars (picked_target p t)) ≤ times y (target_vars t)
  fewer_vars y None t = omega arith
  fewer_vars y (Some bs) to.Nothing = omega arith
  fewer_vars y (Some bs) (to.Node x) = omega arith
  fewer_vars y (Some bs) (to.One x) = omega arith
  fewer_vars y (Some bs) (to.Vector xs) = times_picked y bs xs

  mutual
    unfolding narrow_act act_vars

    act_counts : (y : ℕ) (p : WordSelection) (o : Act)
        → times y (act_vars (narrow_act count A p o)) ≤ times y (act_vars o)
    act_counts y p (case v as') = arms_counts y p as'
    act_counts y p (nested b) = code_counts y p b
    act_counts y p (leaf l) = omega arith

    code_counts : (y : ℕ) (p : WordSelection) (b : Code)
        → times y (code_vars (narrow_code count A p b)) ≤ times y (code_vars b)
    code_counts y p (end o) = act_counts y p o
    code_counts y p (store cs b) = times_fewer y (cell_vars cs)
        (code_vars (narrow_code count A p b)) (cell_vars cs) (code_vars b) (omega arith)
        (code_counts y p b)
    code_counts y p (bind t o b) =
        let q : WordSelection = word_selection count A t o (used_in_code (narrow_code count A p b))
        in
        times_fewer y (target_vars (picked_target q t))
        (act_vars (narrow_act count A q o) ++ code_vars (narrow_code count A p b))
        (target_vars t) (act_vars o ++ code_vars b) (fewer_vars y q t)
        (times_fewer y (act_vars (narrow_act count A q o)) (code_vars (narrow_code count A p b))
        (act_vars o) (code_vars b) (act_counts y q o) (code_counts y p b))

    arms_counts : (y : ℕ) (p : WordSelection) (as' : Arms)
        → times y (arms_vars (narrow_arms count A p as')) ≤ times y (arms_vars as')
    arms_counts y p no_arm = omega arith
    arms_counts y p (arm s b as') = times_fewer y (shape_vars s)
        (code_vars (narrow_code count A p b) ++ arms_vars (narrow_arms count A p as'))
        (shape_vars s) (code_vars b ++ arms_vars as') (omega arith)
        (times_fewer y (code_vars (narrow_code count A p b)) (arms_vars (narrow_arms count A p as'))
        (code_vars b) (arms_vars as') (code_counts y p b) (arms_counts y p as'))

  procs_counts : (y : ℕ) (qs : List Procedure) → times y
      (procs_vars (map (rewritten_procedure (narrow_code count A None)) qs)) ≤ times y
      (procs_vars qs)
  procs_counts y [] = omega arith
  procs_counts y (q ∷ qs) = times_fewer y
      (numbers_of q.params ++ code_vars (narrow_code count A None q.body))
      (procs_vars (map (rewritten_procedure (narrow_code count A None)) qs))
      (numbers_of q.params ++ code_vars q.body) (procs_vars qs)
      (times_fewer y (numbers_of q.params) (code_vars (narrow_code count A None q.body))
      (numbers_of q.params) (code_vars q.body) (omega arith) (code_counts y None q.body))
      (procs_counts y qs)

  mutual
    unfolding narrow_act act_sites

    act_sites_stay : (p : WordSelection) (o : Act) → act_sites (narrow_act count A p o) ≡ act_sites
        o
    act_sites_stay p (case v as') = arms_sites_stay p as'
    act_sites_stay p (nested b) = code_sites_stay p b
    act_sites_stay p (leaf l) = refl

    code_sites_stay : (p : WordSelection) (b : Code)
        → code_sites (narrow_code count A p b) ≡ code_sites b
    code_sites_stay p (end o) = act_sites_stay p o
    code_sites_stay p (store cs b) = ap (λ l. map (λ c. c.site.0) cs ++ l) (code_sites_stay p b)
    code_sites_stay p (bind t o b) = λ i. act_sites_stay
        (word_selection count A t o (used_in_code (narrow_code count A p b))) o i
        ++ code_sites_stay p b i

    arms_sites_stay : (p : WordSelection) (as' : Arms)
        → arms_sites (narrow_arms count A p as') ≡ arms_sites as'
    arms_sites_stay p no_arm = refl
    arms_sites_stay p (arm s b as') = λ i. code_sites_stay p b i ++ arms_sites_stay p as' i

  sites_stay : (qs : List Procedure) → procs_sites
      (map (rewritten_procedure (narrow_code count A None)) qs) ≡ procs_sites qs
  sites_stay [] = refl
  sites_stay (q ∷ qs) = λ i. code_sites_stay None q.body i ++ sites_stay qs i

  names_stay : (qs : List Procedure) → names_of
      (map (rewritten_procedure (narrow_code count A None)) qs) ≡ names_of qs
  names_stay [] = refl
  names_stay (q ∷ qs) = ap (λ ns. q.name ∷ ns) (names_stay qs)

  -- ---- scopes

  -- behind a target of which only the variables that are used stay
  carried_picked : (xs : List VarId) (used : List ℕ) (scope : Scope) (scope' : List ℕ)
      → Covers (Carried scope scope') used → Covers
      (Carried (with_word_variables (numbers_of xs) scope)
      (numbers_of (picked (stay used xs) xs) ++ scope')) used
  carried_picked xs used scope scope' cov x u i = go (times x (numbers_of xs)) refl
    where
      kept : List ℕ
      kept = numbers_of (picked (stay used xs) xs)

      go : (n : ℕ) → times x (numbers_of xs) ≡ n → InScope (kept ++ scope') x
      go zero e =
          let a : times x (numbers_of xs ++ scope.words) ≡ times x (numbers_of xs) + times x
          scope.words = times_append x (numbers_of xs) scope.words in
          let j : InScope scope' x = cov x u (omega (arith, i, e, a)) in
          let b : times x (kept ++ scope') ≡ times x kept + times x scope'
          = times_append x kept scope' in
          omega (arith, j, b)
      go (suc n) e =
          let l : times x (numbers_of xs) ≤ times x kept = used_stay used x u xs in
          let b : times x (kept ++ scope') ≡ times x kept + times x scope'
          = times_append x kept scope' in
          omega (arith, e, l, b)

  carried_after : (t : Target) (o : Act) (used : List ℕ) (scope : Scope) (scope' : List ℕ)
      → Covers (Carried scope scope') used → Covers
      (Carried (with_word_variables (target_vars t) scope)
      (target_vars (picked_target (word_selection count A t o used) t) ++ scope')) used
  carried_after t o used scope scope' cov = by_picking
      (λ p. Covers
      (Carried (with_word_variables (target_vars t) scope)
      (target_vars (picked_target p t) ++ scope')) used) t o used
      (λ x h. carried_more (target_vars t) scope scope' x (cov x h))
      (λ xs e. subst
      (λ r. Covers
      (Carried (with_word_variables (target_vars r) scope)
      (target_vars (picked_target (Some (stay used xs)) r) ++ scope')) used) (sym e)
      (carried_picked xs used scope scope' cov))

  pub no_node : (p : WordSelection) (t : Target) → NoNodeTarget t → NoNodeTarget (picked_target p t)
  no_node None t h = h
  no_node (Some bs) to.Nothing h = tt
  no_node (Some bs) (to.Node x) h = absurd h
  no_node (Some bs) (to.One x) h = tt
  no_node (Some bs) (to.Vector xs) h = tt

  pub no_variable : (p : WordSelection) (v : V.Val) → NoNodeVar v → NoNodeVar (picked_val p v)
  no_variable None v h = h
  no_variable (Some bs) (NodeVar x) h = absurd h
  no_variable (Some bs) (Node t ws) h = tt
  no_variable (Some bs) (Vector ws) h = tt
  no_variable (Some bs) (One a) h = tt

  module _ (g : Program) (procs : List Procedure) (same_count : length procs ≡ length g.procs) where
    abbrev there : Program
    there = with_procs g procs same_count

    picked_formed : (p : WordSelection) (scope : Scope) (v : V.Val) → ValFormed g scope v
        → ValFormed g scope (picked_val p v)
    picked_formed None scope v f = f
    picked_formed (Some bs) scope (NodeVar x) f = f
    picked_formed (Some bs) scope (Node t ws) f = f
    picked_formed (Some bs) scope (Vector ws) f = all_picked (WordFormed g scope) bs ws f
    picked_formed (Some bs) scope (One a) f = f

    mutual
      unfolding narrow_act used_in_act ActFormed EachAct

      act_formed : (o : Act) (p : WordSelection) (scope : Scope) (scope' : List ℕ)
          → Covers (Carried scope scope') (used_in_act (narrow_act count A p o))
          → ActFormed g scope o → EachAct vectorised_kind o
          → ActFormed there (as_scope scope') (narrow_act count A p o)
      act_formed (case v as') p scope scope' c f n = (
        val_formed g procs same_count scope scope' v n.1
            (covers_left (Carried scope scope') (used_in_val v)
            (used_in_arms (narrow_arms count A p as')) c) f.0,
        arms_formed as' p scope scope'
            (covers_right (Carried scope scope') (used_in_val v)
            (used_in_arms (narrow_arms count A p as')) c) f.1 n.2,
      )
      act_formed (nested b) p scope scope' c f n = code_formed b p scope scope' c f n.1
      act_formed (leaf (unit v)) p scope scope' c f n
          = val_formed g procs same_count scope scope' (picked_val p v) (no_variable p v n.1) c
          (picked_formed p scope v f)
      act_formed (leaf (fetch a)) p scope scope' c f n
          = word_formed g procs same_count scope scope' a c f
      act_formed (leaf (fetch_word a i)) p scope scope' c f n
          = word_formed g procs same_count scope scope' a c f
      act_formed (leaf (update a v)) p scope scope' c f n = (
        word_formed g procs same_count scope scope' a
            (covers_left (Carried scope scope') (used_in_word a) (used_in_val v) c) f.0,
        val_formed g procs same_count scope scope' v n.1
            (covers_right (Carried scope scope') (used_in_word a) (used_in_val v) c) f.1,
      )
      act_formed (leaf (eval a)) p scope scope' c f n
          = word_formed g procs same_count scope scope' a c f
      act_formed (leaf (apply v a)) p scope scope' c f n = (
        val_formed g procs same_count scope scope' v n.1
            (covers_left (Carried scope scope') (used_in_val v) (used_in_word a) c) f.0,
        word_formed g procs same_count scope scope' a
            (covers_right (Carried scope scope') (used_in_val v) (used_in_word a) c) f.1,
      )
      act_formed (leaf (call r ws)) p scope scope' c f n
          = (
            known_again g procs same_count r f.0,
            words_formed g procs same_count scope scope' ws c
                f.1,
          )
      act_formed (leaf (prim r a b)) p scope scope' c f n = (
        word_formed g procs same_count scope scope' a
            (covers_left (Carried scope scope') (used_in_word a) (used_in_word b) c) f.0,
        word_formed g procs same_count scope scope' b
            (covers_right (Carried scope scope') (used_in_word a) (used_in_word b) c) f.1,
      )
      act_formed (leaf read) p scope scope' c f n = tt
      act_formed (leaf (write a)) p scope scope' c f n
          = word_formed g procs same_count scope scope' a c f
      act_formed (leaf fail) p scope scope' c f n = tt

      code_formed : (b : Code) (p : WordSelection) (scope : Scope) (scope' : List ℕ)
          → Covers (Carried scope scope') (used_in_code (narrow_code count A p b))
          → CodeFormed g scope b → EachCode vectorised_kind b
          → CodeFormed there (as_scope scope') (narrow_code count A p b)
      code_formed (end o) p scope scope' c f n = act_formed o p scope scope' c f n
      code_formed (store cs b) p scope scope' c f n = (
        cells_formed g procs same_count (with_word_variables (cell_vars cs) scope)
            (cell_vars cs ++ scope') cs n.0
            (λ x h. carried_more (cell_vars cs) scope scope' x
            (covers_right (Carried scope scope') (used_in_code (narrow_code count A p b))
            (used_in_cells cs) c x h)) f.0,
        code_formed b p (with_word_variables (cell_vars cs) scope) (cell_vars cs ++ scope')
            (λ x h. carried_more (cell_vars cs) scope scope' x
            (covers_left (Carried scope scope') (used_in_code (narrow_code count A p b))
            (used_in_cells cs) c x h)) f.1 n.1,
      )
      code_formed (bind t o b) p scope scope' c f n =
          let used : List ℕ = used_in_code (narrow_code count A p b) in
          let q : WordSelection = word_selection count A t o used in
          let u : Target = picked_target q t in (
            act_formed o q scope scope'
                (covers_right (Carried scope scope') used (used_in_act (narrow_act count A q o)) c)
                f.0 n.1,
            subst (λ s. CodeFormed there s (narrow_code count A p b))
                (sym (target_scope u (as_scope scope') (no_node q t n.0)))
                (code_formed b p (with_word_variables (target_vars t) scope)
                (target_vars u ++ scope')
                (carried_after t o used scope scope'
                (covers_left (Carried scope scope') used (used_in_act (narrow_act count A q o))
                c))
                (subst (λ s. CodeFormed g s b) (target_scope t scope n.0) f.1) n.2),
          )

      arms_formed : (as' : Arms) (p : WordSelection) (scope : Scope) (scope' : List ℕ)
          → Covers (Carried scope scope') (used_in_arms (narrow_arms count A p as'))
          → ArmsFormed g scope as' → EachArms vectorised_kind as'
          → ArmsFormed there (as_scope scope') (narrow_arms count A p as')
      arms_formed no_arm p scope scope' c f n = tt
      arms_formed (arm s b as') p scope scope' c f n = (
        shape_stays g procs same_count s f.0,
        code_formed b p (with_word_variables (shape_vars s) scope) (shape_vars s ++ scope')
            (λ x h. carried_more (shape_vars s) scope scope' x
            (covers_left (Carried scope scope') (used_in_code (narrow_code count A p b))
            (used_in_arms (narrow_arms count A p as')) c x h)) f.1 n.1,
        arms_formed as' p scope scope'
            (covers_right (Carried scope scope') (used_in_code (narrow_code count A p b))
            (used_in_arms (narrow_arms count A p as')) c) f.2 n.2,
      )

    bodies_formed : (qs : List Procedure) → AllOf (ProcedureFormed g) qs
        → EveryBodyIsOfKind vectorised_kind qs → AllOf (ProcedureFormed there)
        (map (rewritten_procedure (narrow_code count A None)) qs)
    bodies_formed [] f n = tt
    bodies_formed (q ∷ qs) f n = (
      code_formed q.body None (params_scope q) (numbers_of q.params) (λ x h i. i) f.0 n.0,
      bodies_formed qs f.1 n.1,
    )

pub narrow_formed : (A : Solution) (g : Program) → Formed g
    → EveryBodyIsOfKind vectorised_kind g.procs → Formed (narrow A g)
narrow_formed A g f n =
    let change : Procedure → Procedure = rewritten_procedure (narrow_code (length g.tags) A None) in
    let procs : List Procedure = map change g.procs in
    let many : length procs ≡ length g.procs = length-map g.procs change in
    formed_with g procs many f
    (λ y. (let c : times y (procs_vars procs) ≤ times y (procs_vars g.procs)
    = procs_counts (length g.tags) A y g.procs in let o : times y (procs_vars g.procs) ≤ 1
    = f.variables_once y in omega (arith, c, o)))
    (same_sites g procs many (sites_stay (length g.tags) A g.procs) f.sites_once)
    (bodies_formed (length g.tags) A g procs many g.procs f.procedures n) (
      change f.start.0,
      (slice_get-map change g.procs g.start.0 ∙ ap (option_map change) f.start.1, f.start.2),
    )

pub narrow_outside : (A : Solution) (g : Program) → DifferOnlyInBodies g (narrow A g)
narrow_outside A g = record {
  same_tags = refl;
  same_globals = refl;
  same_start = refl;
  same_argument = refl;
  same_names
      = names_stay (length g.tags) A g.procs;
}
