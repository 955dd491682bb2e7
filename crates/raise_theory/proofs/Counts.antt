-- A program with parameters raised binds what the program binds, the new parameters, and new
-- variables for its calls.
use Rattle.std.proofs.Common.{◌≡◌, ℕ, zero, suc, ◌+◌, ◌<◌, ◌≤◌, nat_eq, List, [], ◌∷◌, ◌++◌, Option, Some, None, refl, ap, ◌∙◌, subst, arith}
use Rattle.grin_syntax.specs.declared.program.VarId.{VarId}
use Rattle.grin_syntax.specs.declared.program.Word as W
use Rattle.grin_syntax.specs.declared.program.Word.TheVariants.{Lit, Var, Global, TagWord}
use Rattle.grin_syntax.specs.Tree.{Code, end, store, bind, Act, leaf, fetch_word, call, case, nested, Arms, no_arm, arm, Procedure}
use Rattle.grin_syntax.specs.Binders.{numbers_of, target_vars, shape_vars, cell_vars, act_vars, code_vars, arms_vars, procs_vars}
use Rattle.grin_syntax.specs.Fresh.{variables, past_procs}
use Rattle.grin_syntax.proofs.Counted.{fresh, fresh_below, fresh_once, fresh_next, fresh_split}
use Rattle.grin_syntax.proofs.Unbound.{past_procs_none}
use Rattle.raise_theory.specs.Raising.{Raising, Decisions, fields_of, raised_params, decided, raised_fetch_of, fetched, new_variables_of, new_variables_for, field_fetches, fetches_for, decisions_at, new_before, fetches_before, new_act, new_code, new_arms, raised_act, raised_code, raised_arms, raised_procs}
use Rattle.raise_theory.specs.Decided.{new_params, all_new_params}
use Rattle.seq.specs.Lists.{times}
use Rattle.seq.proofs.Counted.{counts, times_append}

pub numbers_append : (xs ys : List VarId) → numbers_of (xs ++ ys) ≡ numbers_of xs ++ numbers_of ys
numbers_append [] ys = refl
numbers_append (x ∷ xs) ys = ap (λ l. x.0 ∷ l) (numbers_append xs ys)

module _ (u : ℕ) where
  both_count : (xs ys : List VarId) → times u (numbers_of (xs ++ ys)) ≡ times u (numbers_of xs) +
      times u (numbers_of ys)
  both_count xs ys = ap (times u) (numbers_append xs ys) ∙ times_append u (numbers_of xs)
      (numbers_of ys)

  -- ---- parameters

  params_count : (ds : Decisions) (xs : List VarId)
      → times u (numbers_of (raised_params ds xs)) ≤ times u (numbers_of xs) + times u
      (numbers_of (new_params ds))
  params_count [] xs = omega arith
  params_count (d ∷ ds) [] = omega arith
  params_count (None ∷ ds) (x ∷ xs) =
      let h : times u (numbers_of (raised_params ds xs)) ≤ times u (numbers_of xs) + times u
      (numbers_of (new_params ds)) = params_count ds xs in
      omega (arith, h)
  params_count (Some r ∷ ds) (x ∷ xs) =
      let h : times u (numbers_of (raised_params ds xs)) ≤ times u (numbers_of xs) + times u
      (numbers_of (new_params ds)) = params_count ds xs in
      let e : times u (numbers_of (fields_of r ++ raised_params ds xs)) ≡ times u
      (numbers_of (fields_of r)) + times u (numbers_of (raised_params ds xs))
      = both_count (fields_of r) (raised_params ds xs) in
      let f : times u (numbers_of (fields_of r ++ new_params ds)) ≡ times u
      (numbers_of (fields_of r)) + times u (numbers_of (new_params ds))
      = both_count (fields_of r) (new_params ds) in
      omega (arith, h, e, f)

  -- ---- fetches

  fields_count : (a : W.Word) (n i k : ℕ) (c : Code)
      → times u (code_vars (field_fetches a n i k c)) ≡ fresh u n k + times u (code_vars c)
  unfolding act_vars
  fields_count a n i zero c = omega arith
  fields_count a n i (suc k) c =
      let h : times u (code_vars (field_fetches a (suc n) (suc i) k c)) ≡ fresh u (suc n) k + times
      u (code_vars c) = fields_count a (suc n) (suc i) k c in
      let e : fresh u n (suc k) ≡ counts (nat_eq u n) + fresh u (suc n) k = fresh_next u n k in
      omega (arith, h, e)

  fetches_count : (n : ℕ) (ds : Decisions) (ws : List W.Word) (c : Code)
      → times u (code_vars (fetches_for n ds ws c)) ≡ fresh u n (new_variables_for ds ws) + times u
      (code_vars c)
  fetches_count n [] ws c = omega arith
  fetches_count n (d ∷ ds) [] c = omega arith
  fetches_count n (d ∷ ds) (a ∷ ws) c =
      let h : times u
      (code_vars
      (field_fetches a n 0 (new_variables_of d) (fetches_for (n + new_variables_of d) ds ws c)))
      ≡ fresh u n (new_variables_of d) + times u
      (code_vars (fetches_for (n + new_variables_of d) ds ws c))
      = fields_count a n 0 (new_variables_of d) (fetches_for (n + new_variables_of d) ds ws c)
      in
      let k : times u (code_vars (fetches_for (n + new_variables_of d) ds ws c)) ≡ fresh u
      (n + new_variables_of d) (new_variables_for ds ws) + times u (code_vars c)
      = fetches_count (n + new_variables_of d) ds ws c in
      let e : fresh u n (new_variables_of d + new_variables_for ds ws) ≡ fresh u n
      (new_variables_of d) + fresh u (n + new_variables_of d) (new_variables_for ds ws)
      = fresh_split u n (new_variables_of d) (new_variables_for ds ws) in
      omega (arith, h, k, e)

  none_fetched : (N : ℕ → Option Raising) (a : W.Word) (i : ℕ) → act_vars (fetched N a i) ≡ []
  unfolding act_vars
  none_fetched N (Lit k) i = refl
  none_fetched N (Global j) i = refl
  none_fetched N (TagWord t) i = refl
  none_fetched N (Var x) i = go (N x.0)
    where
      go : (o : Option Raising) → act_vars (raised_fetch_of o (Var x) i) ≡ []
      go None = refl
      go (Some r) = refl

  none_before : (n k : ℕ) → fresh u n 0 + fresh u n k ≡ fresh u n (0 + k)
  none_before n k = let e : k ≡ 0 + k = omega arith
      in subst (λ m. 0 + fresh u n k ≡ fresh u n m) e (omega arith)

  none_after : (n k : ℕ) → fresh u n k + fresh u n 0 ≡ fresh u n (k + 0)
  none_after n k = let e : k ≡ k + 0 = omega arith in subst (λ m. fresh u n k + 0 ≡ fresh u n m) e
      (omega arith)

  -- ---- of lists that follow each other

  joined : (xs ys zs : List ℕ) → times u (xs ++ (ys ++ zs)) ≡ times u xs + (times u ys + times u zs)
  joined xs ys zs = times_append u xs (ys ++ zs) ∙ ap (λ m. times u xs + m) (times_append u ys zs)

  arm_counts : (n : ℕ) (ss bs' bs as' as'' : List ℕ) (j k : ℕ)
      → times u bs' ≡ times u bs + fresh u n j → times u as' ≡ times u as'' + fresh u (n + j) k
      → times u (ss ++ (bs' ++ as')) ≡ times u (ss ++ (bs ++ as'')) + fresh u n (j + k)
  arm_counts n ss bs' bs as' as'' j k h l =
      let e : times u (ss ++ (bs' ++ as')) ≡ times u ss + (times u bs' + times u as')
      = joined ss bs' as' in
      let f : times u (ss ++ (bs ++ as'')) ≡ times u ss + (times u bs + times u as'')
      = joined ss bs as'' in
      let q : fresh u n (j + k) ≡ fresh u n j + fresh u (n + j) k = fresh_split u n j k in
      omega (arith, h, l, e, f, q)

  -- an operation that takes i new variables before it and j in it, and a block that takes k
  bind_counts : (n : ℕ) (ts os' os bs' bs : List ℕ) (i j k all : ℕ)
      → all ≡ fresh u n i + times u (ts ++ (os' ++ bs')) → times u os' ≡ times u os + fresh u n j
      → times u bs' ≡ times u bs + fresh u (n + (i + j)) k
      → fresh u n i + fresh u n j ≡ fresh u n (i + j)
      → all ≡ times u (ts ++ (os ++ bs)) + fresh u n (i + j + k)
  bind_counts n ts os' os bs' bs i j k all a h l r =
      let e : times u (ts ++ (os' ++ bs')) ≡ times u ts + (times u os' + times u bs')
      = joined ts os' bs' in
      let f : times u (ts ++ (os ++ bs)) ≡ times u ts + (times u os + times u bs) = joined ts os bs
      in
      let q : fresh u n (i + j + k) ≡ fresh u n (i + j) + fresh u (n + (i + j)) k
      = fresh_split u n (i + j) k in
      omega (arith, a, h, l, r, e, f, q)

  proc_counts : (n : ℕ) (xs' xs bs' bs qs' qs : List ℕ) (ys zs : List VarId) (j k : ℕ)
      → times u xs' ≤ times u xs + times u (numbers_of ys) → times u bs' ≡ times u bs + fresh u n j
      → times u qs' ≤ times u qs + (times u (numbers_of zs) + fresh u (n + j) k)
      → times u ((xs' ++ bs') ++ qs') ≤ times u ((xs ++ bs) ++ qs) +
      (times u (numbers_of (ys ++ zs)) + fresh u n (j + k))
  proc_counts n xs' xs bs' bs qs' qs ys zs j k h b l =
      let e : times u ((xs' ++ bs') ++ qs') ≡ times u xs' + times u bs' + times u qs'
      = three xs' bs' qs' in
      let f : times u ((xs ++ bs) ++ qs) ≡ times u xs + times u bs + times u qs = three xs bs qs in
      let g : times u (numbers_of (ys ++ zs)) ≡ times u (numbers_of ys) + times u (numbers_of zs)
      = both_count ys zs in
      let q : fresh u n (j + k) ≡ fresh u n j + fresh u (n + j) k = fresh_split u n j k in
      omega (arith, h, b, l, e, f, g, q)
    where
      three : (xs ys zs : List ℕ) → times u ((xs ++ ys) ++ zs) ≡ times u xs + times u ys + times u
          zs
      three xs ys zs = times_append u (xs ++ ys) zs ∙ ap (λ m. m + times u zs)
          (times_append u xs ys)

  module _ (D : List Decisions) where
    before_count : (n : ℕ) (o : Act) (c : Code) → times u (code_vars (fetches_before D n o c)) ≡
        fresh u n (new_before D o) + times u (code_vars c)
    before_count n (leaf (call f ws)) c = fetches_count n (decisions_at D f.0) ws c
    before_count n o c = omega arith

    -- an operation takes new variables before it or in it
    in_turn : (n : ℕ) (o : Act) → fresh u n (new_before D o) + fresh u n (new_act D o) ≡ fresh u n
        (new_before D o + new_act D o)
    unfolding new_act
    in_turn n (leaf (call f ws)) = none_after n (new_variables_for (decisions_at D f.0) ws)
    in_turn n o = none_before n (new_act D o)

    -- ---- pieces

    module _ (N : ℕ → Option Raising) where
      mutual
        unfolding raised_act act_vars new_act

        act_counts : (o : Act) (n : ℕ) → times u (act_vars (raised_act D N n o)) ≡ times u
            (act_vars o) + fresh u n (new_act D o)
        act_counts (case v as') n = arms_count as' n
        act_counts (nested b) n = code_counts b n
        act_counts (leaf (fetch_word a i)) n = let e : times u (act_vars (fetched N a i)) ≡ 0
            = ap (times u) (none_fetched N a i) in omega (arith, e)
        act_counts o n = omega arith

        code_counts : (b : Code) (n : ℕ) → times u (code_vars (raised_code D N n b)) ≡ times u
            (code_vars b) + fresh u n (new_code D b)
        code_counts (end o) n =
            let h : times u (code_vars (fetches_before D n o (end (raised_act D N n o)))) ≡ fresh u
            n (new_before D o) + times u (act_vars (raised_act D N n o))
            = before_count n o (end (raised_act D N n o)) in
            let k : times u (act_vars (raised_act D N n o)) ≡ times u (act_vars o) + fresh u n
            (new_act D o) = act_counts o n in
            let e : fresh u n (new_before D o) + fresh u n (new_act D o) ≡ fresh u n
            (new_before D o + new_act D o) = in_turn n o in
            omega (arith, h, k, e)
        code_counts (store cs b) n =
            let h : times u (code_vars (raised_code D N n b)) ≡ times u (code_vars b) + fresh u n
            (new_code D b) = code_counts b n in
            let e : times u (cell_vars cs ++ code_vars (raised_code D N n b)) ≡ times u
            (cell_vars cs) + times u (code_vars (raised_code D N n b))
            = times_append u (cell_vars cs) (code_vars (raised_code D N n b)) in
            let f : times u (cell_vars cs ++ code_vars b) ≡ times u (cell_vars cs) + times u
            (code_vars b) = times_append u (cell_vars cs) (code_vars b) in
            omega (arith, h, e, f)
        code_counts (bind t o b) n = bind_counts n (target_vars t) (act_vars (raised_act D N n o))
            (act_vars o) (code_vars (raised_code D N (n + (new_before D o + new_act D o)) b))
            (code_vars b) (new_before D o) (new_act D o) (new_code D b)
            (times u (code_vars
            (fetches_before D n o
            (bind t (raised_act D N n o)
            (raised_code D N (n + (new_before D o + new_act D o)) b)))))
            (before_count n o
            (bind t (raised_act D N n o)
            (raised_code D N (n + (new_before D o + new_act D o)) b))) (act_counts o n)
            (code_counts b (n + (new_before D o + new_act D o))) (in_turn n o)

        arms_count : (as' : Arms) (n : ℕ) → times u (arms_vars (raised_arms D N n as')) ≡ times u
            (arms_vars as') + fresh u n (new_arms D as')
        arms_count no_arm n = omega arith
        arms_count (arm s b as') n = arm_counts n (shape_vars s) (code_vars (raised_code D N n b))
            (code_vars b) (arms_vars (raised_arms D N (n + new_code D b) as')) (arms_vars as')
            (new_code D b) (new_arms D as') (code_counts b n) (arms_count as' (n + new_code D b))

    -- ---- procedures

    -- how many new variables they take
    new_procs : List Decisions → List Procedure → ℕ
    new_procs [] qs = 0
    new_procs (ds ∷ dss) [] = 0
    new_procs (ds ∷ dss) (q ∷ qs) = new_code D q.body + new_procs dss qs

    procs_count : (dss : List Decisions) (qs : List Procedure) (n : ℕ)
        → times u (procs_vars (raised_procs D n dss qs)) ≤ times u (procs_vars qs) +
        (times u (numbers_of (all_new_params dss)) + fresh u n (new_procs dss qs))
    unfolding new_procs
    procs_count [] qs n = omega arith
    procs_count (ds ∷ dss) [] n = omega arith
    procs_count (ds ∷ dss) (q ∷ qs) n =
        let N : ℕ → Option Raising = decided ds q.params in
        let h : times u (numbers_of (raised_params ds q.params)) ≤ times u (numbers_of q.params) +
        times u (numbers_of (new_params ds)) = params_count ds q.params in
        let k : times u (code_vars (raised_code D N n q.body)) ≡ times u (code_vars q.body) + fresh
        u n (new_code D q.body) = code_counts N q.body n in
        let l : times u (procs_vars (raised_procs D (n + new_code D q.body) dss qs)) ≤ times u
        (procs_vars qs) +
        (times u (numbers_of (all_new_params dss)) + fresh u (n + new_code D q.body)
        (new_procs dss qs)) = procs_count dss qs (n + new_code D q.body) in
        proc_counts n (numbers_of (raised_params ds q.params)) (numbers_of q.params)
        (code_vars (raised_code D N n q.body)) (code_vars q.body)
        (procs_vars (raised_procs D (n + new_code D q.body) dss qs)) (procs_vars qs)
        (new_params ds) (all_new_params dss) (new_code D q.body) (new_procs dss qs) h k l

    -- where the new parameters, and then those of the calls, begin past the variables of the
    -- procedures, each is bound once
    pub vars_once : (qs : List Procedure) (n k : ℕ) → all_new_params D ≡ variables (past_procs qs) k
        → n ≡ past_procs qs + k → times u (procs_vars qs) ≤ 1
        → times u (procs_vars (raised_procs D n D qs)) ≤ 1
    vars_once qs n k e f once = go (times u (procs_vars qs)) refl
      where
        all : times u (procs_vars (raised_procs D n D qs)) ≤ times u (procs_vars qs) + fresh u
            (past_procs qs) (k + new_procs D qs)
        all =
            let h : times u (procs_vars (raised_procs D n D qs)) ≤ times u (procs_vars qs) +
            (times u (numbers_of (all_new_params D)) + fresh u n (new_procs D qs))
            = procs_count D qs n in
            let a : times u (numbers_of (all_new_params D)) ≡ fresh u (past_procs qs) k
            = ap (λ l. times u (numbers_of l)) e in
            let b : fresh u n (new_procs D qs) ≡ fresh u (past_procs qs + k) (new_procs D qs)
            = ap (λ m. fresh u m (new_procs D qs)) f in
            let c : fresh u (past_procs qs) (k + new_procs D qs) ≡ fresh u (past_procs qs) k + fresh
            u (past_procs qs + k) (new_procs D qs)
            = fresh_split u (past_procs qs) k (new_procs D qs) in
            omega (arith, h, a, b, c)

        low : (m : ℕ) → times u (procs_vars qs) ≡ suc m → u < past_procs qs
        low m s = less
            (λ h. (let z : times u (procs_vars qs) ≡ 0 = past_procs_none u qs h
            in omega (arith, z, s)))
          where
            less : (past_procs qs ≤ u → ⊥) → u < past_procs qs
            less g = omega (arith, g)

        go : (m : ℕ) → times u (procs_vars qs) ≡ m → times u (procs_vars (raised_procs D n D qs)) ≤
            1
        go zero s = let g : fresh u (past_procs qs) (k + new_procs D qs) ≤ 1
            = fresh_once u (past_procs qs) (k + new_procs D qs) in omega (arith, s, all, g)
        go (suc m) s = let g : fresh u (past_procs qs) (k + new_procs D qs) ≡ 0
            = fresh_below u (past_procs qs) (k + new_procs D qs) (low m s)
            in omega (arith, all, g, once)
