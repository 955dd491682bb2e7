-- A program without words that nobody reads is no larger.
use Rattle.std.proofs.Common.{◌≡◌, ℕ, ◌+◌, ◌≤◌, List, [], ◌∷◌, map, length, Some, None, refl, arith}
use Rattle.grin_syntax.specs.declared.program.Target.{Target}
use Rattle.grin_syntax.specs.declared.program.Target.TheVariants as to
use Rattle.grin_syntax.specs.declared.program.Val as V
use Rattle.grin_syntax.specs.declared.program.Val.TheVariants.{NodeVar, Node, Vector, One}
use Rattle.grin_syntax.specs.Tree.{Code, end, store, bind, Act, leaf, unit, fetch, fetch_word, update, eval, apply, call, prim, read, write, case, nested, fail, Arms, no_arm, arm, Procedure}
use Rattle.grin_syntax.specs.Formed.{AllOf}
use Rattle.grin_meaning.specs.Slim.{val_weight, target_weight, act_weight, code_weight, arms_weight, procs_weight, act_calls, code_calls, arms_calls, procs_calls, node_words, end_words, inner_words, code_words, arms_words, procedure_words}
use Rattle.flow_system.specs.Solution.{Solution}
use Rattle.copy_prop.specs.Lean.{used_in_code}
use Rattle.pass_narrow.specs.Narrow.{WordSelection, picked_val, picked_target, word_selection, narrow_act, narrow_code, narrow_arms}
use Rattle.pass_narrow.proofs.Picks.{picked_shorter}
use Rattle.pass_narrow.proofs.Gives.{change}

lighter : (p : WordSelection) (v : V.Val) → val_weight (picked_val p v) ≤ val_weight v
lighter None v = omega arith
lighter (Some bs) (NodeVar x) = omega arith
lighter (Some bs) (Node t ws) = omega arith
lighter (Some bs) (Vector ws) = picked_shorter bs ws
lighter (Some bs) (One a) = omega arith

no_wider : (p : WordSelection) (t : Target) → target_weight (picked_target p t) ≤ target_weight t
no_wider None t = omega arith
no_wider (Some bs) to.Nothing = omega arith
no_wider (Some bs) (to.Node x) = omega arith
no_wider (Some bs) (to.One x) = omega arith
no_wider (Some bs) (to.Vector xs) = picked_shorter bs xs

module _ (count : ℕ) (A : Solution) where
  -- ---- the weight

  mutual
    unfolding narrow_act act_weight

    act_lighter : (o : Act) (p : WordSelection) → act_weight (narrow_act count A p o) ≤ act_weight o
    act_lighter (case v as') p = let l : arms_weight (narrow_arms count A p as') ≤ arms_weight as'
        = arms_lighter as' p in omega (arith, l)
    act_lighter (nested b) p = let l : code_weight (narrow_code count A p b) ≤ code_weight b
        = code_lighter b p in omega (arith, l)
    act_lighter (leaf (unit v)) p = let h : val_weight (picked_val p v) ≤ val_weight v = lighter p v
        in omega (arith, h)
    act_lighter (leaf (update a v)) p = omega arith
    act_lighter (leaf (fetch a)) p = omega arith
    act_lighter (leaf (fetch_word a i)) p = omega arith
    act_lighter (leaf (eval a)) p = omega arith
    act_lighter (leaf (apply v a)) p = omega arith
    act_lighter (leaf (call f ws)) p = omega arith
    act_lighter (leaf (prim f a b)) p = omega arith
    act_lighter (leaf read) p = omega arith
    act_lighter (leaf (write a)) p = omega arith
    act_lighter (leaf fail) p = omega arith

    code_lighter : (b : Code) (p : WordSelection) → code_weight (narrow_code count A p b) ≤
        code_weight b
    code_lighter (end o) p = act_lighter o p
    code_lighter (store cs b) p = let l : code_weight (narrow_code count A p b) ≤ code_weight b
        = code_lighter b p in omega (arith, l)
    code_lighter (bind t o b) p =
        let q : WordSelection = word_selection count A t o (used_in_code (narrow_code count A p b))
        in
        let k : target_weight (picked_target q t) ≤ target_weight t = no_wider q t in
        let h : act_weight (narrow_act count A q o) ≤ act_weight o = act_lighter o q in
        let l : code_weight (narrow_code count A p b) ≤ code_weight b = code_lighter b p in
        omega (arith, k, h, l)

    arms_lighter : (as' : Arms) (p : WordSelection)
        → arms_weight (narrow_arms count A p as') ≤ arms_weight as'
    arms_lighter no_arm p = omega arith
    arms_lighter (arm s b as') p =
        let h : code_weight (narrow_code count A p b) ≤ code_weight b = code_lighter b p in
        let l : arms_weight (narrow_arms count A p as') ≤ arms_weight as' = arms_lighter as' p in
        omega (arith, h, l)

  pub procs_lighter : (qs : List Procedure) → procs_weight (map (change count A) qs) ≤ procs_weight
      qs
  procs_lighter [] = omega arith
  procs_lighter (q ∷ qs) =
      let h : code_weight (narrow_code count A None q.body) ≤ code_weight q.body
      = code_lighter q.body None in
      let l : procs_weight (map (change count A) qs) ≤ procs_weight qs = procs_lighter qs in
      omega (arith, h, l)

  -- ---- the calls

  mutual
    unfolding narrow_act act_calls

    act_calls_stay : (o : Act) (p : WordSelection) → act_calls (narrow_act count A p o) ≡ act_calls
        o
    act_calls_stay (case v as') p = arms_calls_stay as' p
    act_calls_stay (nested b) p = code_calls_stay b p
    act_calls_stay (leaf (unit v)) p = refl
    act_calls_stay (leaf (update a v)) p = refl
    act_calls_stay (leaf (fetch a)) p = refl
    act_calls_stay (leaf (fetch_word a i)) p = refl
    act_calls_stay (leaf (eval a)) p = refl
    act_calls_stay (leaf (apply v a)) p = refl
    act_calls_stay (leaf (call f ws)) p = refl
    act_calls_stay (leaf (prim f a b)) p = refl
    act_calls_stay (leaf read) p = refl
    act_calls_stay (leaf (write a)) p = refl
    act_calls_stay (leaf fail) p = refl

    code_calls_stay : (b : Code) (p : WordSelection)
        → code_calls (narrow_code count A p b) ≡ code_calls b
    code_calls_stay (end o) p = act_calls_stay o p
    code_calls_stay (store cs b) p = code_calls_stay b p
    code_calls_stay (bind t o b) p = λ i. act_calls_stay o
        (word_selection count A t o (used_in_code (narrow_code count A p b))) i + code_calls_stay b
        p i

    arms_calls_stay : (as' : Arms) (p : WordSelection)
        → arms_calls (narrow_arms count A p as') ≡ arms_calls as'
    arms_calls_stay no_arm p = refl
    arms_calls_stay (arm s b as') p = λ i. code_calls_stay b p i + arms_calls_stay as' p i

  pub procs_calls_stay : (qs : List Procedure) → procs_calls (map (change count A) qs) ≡ procs_calls
      qs
  procs_calls_stay [] = refl
  procs_calls_stay (q ∷ qs) = λ i. code_calls_stay q.body None i + procs_calls_stay qs i

  -- ---- the words

  node_words_stay : (o : Act) (p : WordSelection) → node_words (narrow_act count A p o) ≡ node_words
      o
  unfolding narrow_act
  node_words_stay (case v as') p = refl
  node_words_stay (nested b) p = refl
  node_words_stay (leaf (unit v)) p = refl
  node_words_stay (leaf (update a v)) p = refl
  node_words_stay (leaf (fetch a)) p = refl
  node_words_stay (leaf (fetch_word a i)) p = refl
  node_words_stay (leaf (eval a)) p = refl
  node_words_stay (leaf (apply v a)) p = refl
  node_words_stay (leaf (call f ws)) p = refl
  node_words_stay (leaf (prim f a b)) p = refl
  node_words_stay (leaf read) p = refl
  node_words_stay (leaf (write a)) p = refl
  node_words_stay (leaf fail) p = refl

  end_words_stay : (o : Act) (p : WordSelection) → end_words (narrow_act count A p o) ≡ end_words o
  unfolding narrow_act
  end_words_stay (case v as') p = refl
  end_words_stay (nested b) p = refl
  end_words_stay (leaf (unit v)) p = refl
  end_words_stay (leaf (update a v)) p = refl
  end_words_stay (leaf (fetch a)) p = refl
  end_words_stay (leaf (fetch_word a i)) p = refl
  end_words_stay (leaf (eval a)) p = refl
  end_words_stay (leaf (apply v a)) p = refl
  end_words_stay (leaf (call f ws)) p = refl
  end_words_stay (leaf (prim f a b)) p = refl
  end_words_stay (leaf read) p = refl
  end_words_stay (leaf (write a)) p = refl
  end_words_stay (leaf fail) p = refl

  mutual
    unfolding narrow_act inner_words

    inner_fewer : (o : Act) (p : WordSelection) → inner_words (narrow_act count A p o) ≤ inner_words
        o
    inner_fewer (case v as') p = arms_words_fewer as' p
    inner_fewer (nested b) p = code_words_fewer b p
    inner_fewer (leaf l) p = omega arith

    code_words_fewer : (b : Code) (p : WordSelection)
        → code_words (narrow_code count A p b) ≤ code_words b
    code_words_fewer (end o) p =
        let h : end_words (narrow_act count A p o) ≡ end_words o = end_words_stay o p in
        let l : inner_words (narrow_act count A p o) ≤ inner_words o = inner_fewer o p in
        omega (arith, h, l)
    code_words_fewer (store cs b) p = let l : code_words (narrow_code count A p b) ≤ code_words b
        = code_words_fewer b p in omega (arith, l)
    code_words_fewer (bind t o b) p =
        let q : WordSelection = word_selection count A t o (used_in_code (narrow_code count A p b))
        in
        let j : target_weight (picked_target q t) ≤ target_weight t = no_wider q t in
        let h : node_words (narrow_act count A q o) ≡ node_words o = node_words_stay o q in
        let k : inner_words (narrow_act count A q o) ≤ inner_words o = inner_fewer o q in
        let l : code_words (narrow_code count A p b) ≤ code_words b = code_words_fewer b p in
        omega (arith, j, h, k, l)

    arms_words_fewer : (as' : Arms) (p : WordSelection)
        → arms_words (narrow_arms count A p as') ≤ arms_words as'
    arms_words_fewer no_arm p = omega arith
    arms_words_fewer (arm s b as') p =
        let h : code_words (narrow_code count A p b) ≤ code_words b = code_words_fewer b p in
        let l : arms_words (narrow_arms count A p as') ≤ arms_words as' = arms_words_fewer as' p in
        omega (arith, h, l)

  pub procs_words : (most : ℕ) (qs : List Procedure) → AllOf (λ q. procedure_words q ≤ most) qs
      → AllOf (λ q. procedure_words q ≤ most) (map (change count A) qs)
  procs_words most [] h = tt
  procs_words most (q ∷ qs) h =
      let k : code_words (narrow_code count A None q.body) ≤ code_words q.body
      = code_words_fewer q.body None in
      let l : length q.params + code_words q.body ≤ most = h.0 in
      (omega (arith, k, l), procs_words most qs h.1)
