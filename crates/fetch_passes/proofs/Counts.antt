-- A program with its fetches split binds each variable at most as often as the program, or it is a
-- new one, which is bound once.
use Rattle.std.proofs.Common.{◌≡◌, ℕ, zero, suc, pos, ◌+◌, ◌<◌, ◌≤◌, Bool, true, false, nat_eq, List, [], ◌∷◌, ◌++◌, length, refl, subst, arith}
use Rattle.grin_syntax.specs.declared.program.VarId.{VarId}
use Rattle.grin_syntax.specs.declared.program.Tag.{Tag}
use Rattle.grin_syntax.specs.declared.program.Cell.{Cell}
use Rattle.grin_syntax.specs.declared.program.Word as W
use Rattle.grin_syntax.specs.declared.program.Word.TheVariants.{Lit}
use Rattle.grin_syntax.specs.declared.program.Target.TheVariants as to
use Rattle.grin_syntax.specs.Tree.{Code, end, store, bind, Act, leaf, fetch, case, nested, Arms, no_arm, arm, Procedure}
use Rattle.grin_syntax.specs.Binders.{numbers_of, target_vars, shape_vars, cell_vars, act_vars, code_vars, arms_vars, procs_vars}
use Rattle.grin_syntax.specs.Fresh.{variable, variables, past_procs}
use Rattle.grin_syntax.proofs.Counted.{fresh, fresh_below, fresh_once, fresh_next, fresh_split}
use Rattle.grin_syntax.proofs.Unbound.{past_procs_none}
use Rattle.grin_meaning.specs.Ready.{most_fields}
use Rattle.pass_ground.specs.Uses.{code_uses}
use Rattle.fetch_passes.specs.Windows.{outside}
use Rattle.fetch_passes.specs.Names.{Names, DeferredField, as_word, as_cells}
use Rattle.fetch_passes.specs.Waits.{deferred_fields_after}
use Rattle.fetch_passes.specs.Split.{fetched_if, word_fetches, front, front_names, names_after, cell_after, fetch_all_words, node_arms, whole_node, split_act, split_code, split_arms, split_procs, made_act, made_code, made_arms}
use Rattle.seq.specs.Lists.{times}
use Rattle.seq.proofs.Counted.{counts, times_append}

module _ (ts : List Tag) (u : ℕ) where
  fetch_counts : (o : Bool) (x : VarId) (a : W.Word) (i : ℕ) (c : Code)
      → times u (code_vars (fetched_if o x a i c)) ≤ counts (nat_eq u x.0) + times u (code_vars c)
  unfolding act_vars
  fetch_counts true x a i c = omega arith
  fetch_counts false x a i c = omega arith

  words_count : (t : ℕ) (b : Code) (a : W.Word) (i : ℕ) (xs : List VarId) (c : Code)
      → times u (code_vars (word_fetches t b a i xs c)) ≤ times u (numbers_of xs) + times u
      (code_vars c)
  words_count t b a i [] c = omega arith
  words_count t b a i (x ∷ xs) c =
      let h : times u
      (code_vars (fetched_if (outside t x.0 b) x a i (word_fetches t b a (suc i) xs c))) ≤
      counts (nat_eq u x.0) + times u (code_vars (word_fetches t b a (suc i) xs c))
      = fetch_counts (outside t x.0 b) x a i (word_fetches t b a (suc i) xs c) in
      let k : times u (code_vars (word_fetches t b a (suc i) xs c)) ≤ times u (numbers_of xs) +
      times u (code_vars c) = words_count t b a (suc i) xs c in
      omega (arith, h, k)

  front_counts : (a : W.Word) (n : ℕ) (ps : List DeferredField) (b c : Code)
      → times u (code_vars (front a n ps b c)) ≤ fresh u n (length ps) + times u (code_vars c)
  front_counts a n [] b c = omega arith
  front_counts a n (p ∷ ps) b c =
      let h : times u
      (code_vars
      (fetched_if (code_uses p.var.0 b) (variable n) a p.place (front a (suc n) ps b c))) ≤
      counts (nat_eq u n) + times u (code_vars (front a (suc n) ps b c))
      = fetch_counts (code_uses p.var.0 b) (variable n) a p.place (front a (suc n) ps b c) in
      let k : times u (code_vars (front a (suc n) ps b c)) ≤ fresh u (suc n) (length ps) + times u
      (code_vars c) = front_counts a (suc n) ps b c in
      let e : fresh u n (suc (length ps)) ≡ counts (nat_eq u n) + fresh u (suc n) (length ps)
      = fresh_next u n (length ps) in
      omega (arith, h, k, e)

  all_counts : (a : W.Word) (i : ℕ) (xs : List VarId) (c : Code)
      → times u (code_vars (fetch_all_words a i xs c)) ≡ times u (numbers_of xs) + times u
      (code_vars c)
  unfolding act_vars
  all_counts a i [] c = omega arith
  all_counts a i (x ∷ xs) c = let h : times u (code_vars (fetch_all_words a (suc i) xs c)) ≡ times u
      (numbers_of xs) + times u (code_vars c) = all_counts a (suc i) xs c in omega (arith, h)

  nodes_count : (xs : List VarId) (i : ℕ) (us : List Tag)
      → times u (arms_vars (node_arms xs i us)) ≡ 0
  unfolding act_vars
  nodes_count xs i [] = refl
  nodes_count xs i (t ∷ us) = nodes_count xs (suc i) us

  whole_counts : (n : ℕ) (a : W.Word) → times u (code_vars (whole_node ts n a)) ≤ fresh u n
      (suc (most_fields ts))
  unfolding act_vars
  whole_counts n a =
      let h : times u (code_vars (whole_node ts n a)) ≡ fresh u n (suc (most_fields ts)) + times u
      (arms_vars (node_arms (variables (suc n) (most_fields ts)) 0 ts))
      = all_counts a 0 (variables n (suc (most_fields ts))) _ in
      let k : times u (arms_vars (node_arms (variables (suc n) (most_fields ts)) 0 ts)) ≡ 0
      = nodes_count (variables (suc n) (most_fields ts)) 0 ts in
      omega (arith, h, k)

  cells_count : (ks : Names) (cs : List Cell) → times u (cell_vars (as_cells ks cs)) ≡ times u
      (cell_vars cs)
  cells_count ks [] = refl
  cells_count ks (c ∷ cs) = let h : times u (cell_vars (as_cells ks cs)) ≡ times u (cell_vars cs)
      = cells_count ks cs in omega (arith, h)

  -- ---- pieces

  one_more : (n : ℕ) (xs ys bs cs : List ℕ) (j k : ℕ) → times u xs ≤ times u ys + fresh u n j
      → times u bs ≤ times u cs + fresh u (n + j) k
      → times u (xs ++ bs) ≤ times u (ys ++ cs) + fresh u n (j + k)
  one_more n xs ys bs cs j k h l =
      let a : times u (xs ++ bs) ≡ times u xs + times u bs = times_append u xs bs in
      let b : times u (ys ++ cs) ≡ times u ys + times u cs = times_append u ys cs in
      let c : fresh u n (j + k) ≡ fresh u n j + fresh u (n + j) k = fresh_split u n j k in
      omega (arith, a, b, c, h, l)

  same_first : (n : ℕ) (xs bs cs : List ℕ) (k : ℕ) → times u bs ≤ times u cs + fresh u n k
      → times u (xs ++ bs) ≤ times u (xs ++ cs) + fresh u n k
  same_first n xs bs cs k h =
      let a : times u (xs ++ bs) ≡ times u xs + times u bs = times_append u xs bs in
      let b : times u (xs ++ cs) ≡ times u xs + times u cs = times_append u xs cs in
      omega (arith, a, b, h)

  from_zero : (n k : ℕ) (xs ys : List ℕ) → times u xs ≤ times u ys + fresh u (n + 0) k
      → times u xs ≤ times u ys + fresh u n (0 + k)
  from_zero n k xs ys h = subst (λ m. times u xs ≤ times u ys + fresh u n m)
      (let e : k ≡ 0 + k = omega arith in e)
      (subst (λ m. times u xs ≤ times u ys + fresh u m k) (let e : n + 0 ≡ n = omega arith in e) h)

  node_count : (n k : ℕ) (x : VarId) (xs : List VarId) (b : Code) (a : W.Word) (c : Code)
      → times u (code_vars c) ≤ times u (code_vars b) + fresh u (n + 0) k
      → times u (x.0 ∷ code_vars (word_fetches x.0 b a 1 xs c)) ≤ times u
      (numbers_of (x ∷ xs) ++ code_vars b) + fresh u n (0 + k)
  node_count n k x xs b a c l = from_zero n k (x.0 ∷ code_vars (word_fetches x.0 b a 1 xs c))
      (numbers_of (x ∷ xs) ++ code_vars b)
      (let h : times u (code_vars (word_fetches x.0 b a 1 xs c)) ≤ times u (numbers_of xs) + times u
      (code_vars c) = words_count x.0 b a 1 xs c in
      let e : times u (numbers_of xs ++ code_vars b) ≡ times u (numbers_of xs) + times u
      (code_vars b) = times_append u (numbers_of xs) (code_vars b) in
      omega (arith, h, l, e))

  mutual
    unfolding split_act act_vars made_act

    act_counts : (o : Act) (ks : Names) (a : W.Word) (ps : List DeferredField) (n : ℕ)
        → times u (act_vars (split_act ts ks a ps n o)) ≤ times u (act_vars o) + fresh u n
        (made_act ts ps o)
    act_counts (case v as') ks a ps n = arms_count as' ks a ps n
    act_counts (nested b) ks a ps n = code_counts b ks a [] n
    act_counts o ks a ps n = omega arith

    code_counts : (b : Code) (ks : Names) (a : W.Word) (ps : List DeferredField) (n : ℕ)
        → times u (code_vars (split_code ts ks a ps n b)) ≤ times u (code_vars b) + fresh u n
        (made_code ts ps b)
    code_counts (end (leaf (fetch c))) ks a ps n = subst
        (λ k. times u (code_vars (whole_node ts n (as_word ks c))) ≤ 0 + fresh u n k)
        (let e : suc (most_fields ts) ≡ suc (most_fields ts) + 0 = omega arith in e)
        (let h : times u (code_vars (whole_node ts n (as_word ks c))) ≤ fresh u n
        (suc (most_fields ts)) = whole_counts n (as_word ks c) in omega (arith, h))
    code_counts (end o) ks a ps n = subst
        (λ k. times u (act_vars (split_act ts ks a ps n o)) ≤ times u (act_vars o) + fresh u n k)
        (let e : made_act ts ps o ≡ 0 + made_act ts ps o = omega arith in e)
        (act_counts o ks a ps n)
    code_counts (store cs b) ks a ps n =
        let h : times u (code_vars (split_code ts ks a [] n b)) ≤ times u (code_vars b) + fresh u n
        (made_code ts [] b) = code_counts b ks a [] n in
        let k : times u (cell_vars (as_cells ks cs)) ≡ times u (cell_vars cs) = cells_count ks cs in
        let e : times u (cell_vars (as_cells ks cs) ++ code_vars (split_code ts ks a [] n b)) ≡
        times u (cell_vars (as_cells ks cs)) + times u (code_vars (split_code ts ks a [] n b))
        = times_append u (cell_vars (as_cells ks cs)) (code_vars (split_code ts ks a [] n b)) in
        let f : times u (cell_vars cs ++ code_vars b) ≡ times u (cell_vars cs) + times u
        (code_vars b) = times_append u (cell_vars cs) (code_vars b) in
        omega (arith, h, k, e, f)
    code_counts (bind (to.Vector (x ∷ xs)) (leaf (fetch c)) b) ks a ps n =
        node_count n
        (made_code ts (deferred_fields_after (leaf (fetch c)) (to.Vector (x ∷ xs)) b ps) b) x xs
        b (as_word ks c)
        (split_code ts (names_after (leaf (fetch c)) (to.Vector (x ∷ xs)) b ks)
        (cell_after ks (leaf (fetch c)) (to.Vector (x ∷ xs)) b a)
        (deferred_fields_after (leaf (fetch c)) (to.Vector (x ∷ xs)) b ps) (n + 0) b)
        (code_counts b (names_after (leaf (fetch c)) (to.Vector (x ∷ xs)) b ks)
        (cell_after ks (leaf (fetch c)) (to.Vector (x ∷ xs)) b a)
        (deferred_fields_after (leaf (fetch c)) (to.Vector (x ∷ xs)) b ps) (n + 0))
    code_counts (bind (to.Vector []) (leaf (fetch c)) b) ks a ps n
        = from_zero n (made_code ts ps b) (code_vars (split_code ts ks a ps (n + 0) b))
        (code_vars b) (code_counts b ks a ps (n + 0))
    code_counts (bind to.Nothing (leaf (fetch c)) b) ks a ps n
        = from_zero n (made_code ts ps b) (code_vars (split_code ts ks a ps (n + 0) b))
        (code_vars b) (code_counts b ks a ps (n + 0))
    code_counts (bind (to.One y) (leaf (fetch c)) b) ks a ps n
        = from_zero n (made_code ts ps b) (y.0 ∷ code_vars (split_code ts ks a ps (n + 0) b))
        (y.0 ∷ code_vars b)
        (same_first (n + 0) (y.0 ∷ []) (code_vars (split_code ts ks a ps (n + 0) b)) (code_vars b)
        (made_code ts ps b) (code_counts b ks a ps (n + 0)))
    code_counts (bind (to.Node y) (leaf (fetch c)) b) ks a ps n
        = from_zero n (made_code ts ps b) (y.0 ∷ code_vars (split_code ts ks a ps (n + 0) b))
        (y.0 ∷ code_vars b)
        (same_first (n + 0) (y.0 ∷ []) (code_vars (split_code ts ks a ps (n + 0) b)) (code_vars b)
        (made_code ts ps b) (code_counts b ks a ps (n + 0)))
    code_counts (bind t o b) ks a ps n = same_first n (target_vars t)
        (act_vars (split_act ts ks a ps n o) ++ code_vars
        (split_code ts (names_after o t b ks) (cell_after ks o t b a)
        (deferred_fields_after o t b ps) (n + made_act ts ps o) b)) (act_vars o ++ code_vars b)
        (made_act ts ps o + made_code ts (deferred_fields_after o t b ps) b)
        (one_more n (act_vars (split_act ts ks a ps n o)) (act_vars o)
        (code_vars
        (split_code ts (names_after o t b ks) (cell_after ks o t b a)
        (deferred_fields_after o t b ps) (n + made_act ts ps o) b)) (code_vars b)
        (made_act ts ps o) (made_code ts (deferred_fields_after o t b ps) b)
        (act_counts o ks a ps n)
        (code_counts b (names_after o t b ks) (cell_after ks o t b a)
        (deferred_fields_after o t b ps) (n + made_act ts ps o)))

    arms_count : (as' : Arms) (ks : Names) (a : W.Word) (ps : List DeferredField) (n : ℕ)
        → times u (arms_vars (split_arms ts ks a ps n as')) ≤ times u (arms_vars as') + fresh u n
        (made_arms ts ps as')
    arms_count no_arm ks a ps n = omega arith
    arms_count (arm s b as') ks a ps n = same_first n (shape_vars s)
        (code_vars (front a n ps b (split_code ts (front_names n ps b ks) a [] (n + length ps) b))
        ++ arms_vars (split_arms ts ks a ps (n + length ps + made_code ts [] b) as'))
        (code_vars b ++ arms_vars as') (length ps + made_code ts [] b + made_arms ts ps as')
        (one_more n
        (code_vars
        (front a n ps b (split_code ts (front_names n ps b ks) a [] (n + length ps) b)))
        (code_vars b)
        (arms_vars (split_arms ts ks a ps (n + length ps + made_code ts [] b) as'))
        (arms_vars as') (length ps + made_code ts [] b) (made_arms ts ps as')
        (let h : times u
        (code_vars
        (front a n ps b (split_code ts (front_names n ps b ks) a [] (n + length ps) b))) ≤ fresh
        u n (length ps) + times u
        (code_vars (split_code ts (front_names n ps b ks) a [] (n + length ps) b))
        = front_counts a n ps b (split_code ts (front_names n ps b ks) a [] (n + length ps) b)
        in
        let k : times u (code_vars (split_code ts (front_names n ps b ks) a [] (n + length ps) b)) ≤
        times u (code_vars b) + fresh u (n + length ps) (made_code ts [] b)
        = code_counts b (front_names n ps b ks) a [] (n + length ps) in
        let e : fresh u n (length ps + made_code ts [] b) ≡ fresh u n (length ps) + fresh u
        (n + length ps) (made_code ts [] b) = fresh_split u n (length ps) (made_code ts [] b) in
        omega (arith, h, k, e))
        (subst (λ m. times u
        (arms_vars (split_arms ts ks a ps (n + length ps + made_code ts [] b) as')) ≤ times u
        (arms_vars as') + fresh u m (made_arms ts ps as'))
        (let e : n + length ps + made_code ts [] b ≡ n + (length ps + made_code ts [] b)
        = omega arith in e) (arms_count as' ks a ps (n + length ps + made_code ts [] b))))

  -- how many new variables procedures take
  made_procs : List Procedure → ℕ
  made_procs [] = 0
  made_procs (q ∷ qs) = made_code ts [] q.body + made_procs qs

  procs_count : (qs : List Procedure) (n : ℕ) → times u (procs_vars (split_procs ts n qs)) ≤ times u
      (procs_vars qs) + fresh u n (made_procs qs)
  unfolding made_procs
  procs_count [] n = omega arith
  procs_count (q ∷ qs) n = one_more n
      (numbers_of q.params ++ code_vars (split_code ts [] (Lit (pos 0)) [] n q.body))
      (numbers_of q.params ++ code_vars q.body)
      (procs_vars (split_procs ts (n + made_code ts [] q.body) qs)) (procs_vars qs)
      (made_code ts [] q.body) (made_procs qs)
      (same_first n (numbers_of q.params) (code_vars (split_code ts [] (Lit (pos 0)) [] n q.body))
      (code_vars q.body) (made_code ts [] q.body) (code_counts q.body [] (Lit (pos 0)) [] n))
      (procs_count qs (n + made_code ts [] q.body))

  -- where new variables begin past those of the procedures, each is bound once
  pub vars_once : (qs : List Procedure) → times u (procs_vars qs) ≤ 1
      → times u (procs_vars (split_procs ts (past_procs qs) qs)) ≤ 1
  vars_once qs once = go (times u (procs_vars qs)) refl (procs_count qs (past_procs qs))
    where
      low : (m : ℕ) → times u (procs_vars qs) ≡ suc m → u < past_procs qs
      low m e = less
          (λ h. (let z : times u (procs_vars qs) ≡ 0 = past_procs_none u qs h
          in omega (arith, z, e)))
        where
          less : (past_procs qs ≤ u → ⊥) → u < past_procs qs
          less f = omega (arith, f)

      go : (m : ℕ) → times u (procs_vars qs) ≡ m → times u
          (procs_vars (split_procs ts (past_procs qs) qs)) ≤ times u (procs_vars qs) + fresh u
          (past_procs qs) (made_procs qs) → times u (procs_vars (split_procs ts (past_procs qs) qs))
          ≤ 1
      go zero e h = let f : fresh u (past_procs qs) (made_procs qs) ≤ 1
          = fresh_once u (past_procs qs) (made_procs qs) in omega (arith, e, h, f)
      go (suc m) e h = let f : fresh u (past_procs qs) (made_procs qs) ≡ 0
          = fresh_below u (past_procs qs) (made_procs qs) (low m e) in omega (arith, h, f, once)
