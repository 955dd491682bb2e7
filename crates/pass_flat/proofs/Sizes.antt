-- A program without nested blocks is no larger.
use Rattle.std.proofs.Common.{◌≡◌, ℕ, ◌+◌, ◌≤◌, List, [], ◌∷◌, map, length, refl, ◌∙◌, arith}
use Rattle.grin_syntax.specs.declared.program.Target.{Target}
use Rattle.grin_syntax.specs.Tree.{Code, end, store, bind, Act, leaf, unit, fetch, fetch_word, update, eval, apply, call, prim, read, write, case, nested, fail, Arms, no_arm, arm, Procedure}
use Rattle.grin_syntax.specs.Formed.{AllOf}
use Rattle.grin_meaning.specs.Slim.{target_weight, act_weight, code_weight, arms_weight, procs_weight, act_calls, code_calls, arms_calls, procs_calls, node_words, end_words, inner_words, code_words, arms_words, procedure_words}
use Rattle.grin_meaning.specs.Spliced.{spliced}
use Rattle.pass_flat.specs.Flat.{flat_act, flat_code, flat_arms}
use Rattle.pass_flat.proofs.Gives.{flat_procedure}

-- ---- the weight

weight_splice : (c : Code) (t : Target) (k : Code) → code_weight (spliced c t k) ≡ code_weight c +
    (target_weight t + code_weight k)
unfolding spliced act_weight
weight_splice (end o) t k = omega arith
weight_splice (store cs c) t k = let e : code_weight (spliced c t k) ≡ code_weight c +
    (target_weight t + code_weight k) = weight_splice c t k in omega (arith, e)
weight_splice (bind u o c) t k = let e : code_weight (spliced c t k) ≡ code_weight c +
    (target_weight t + code_weight k) = weight_splice c t k in omega (arith, e)

mutual
  unfolding flat_act act_weight

  act_lighter : (o : Act) → code_weight (flat_act o) ≤ act_weight o
  act_lighter (case v as') = let l : arms_weight (flat_arms as') ≤ arms_weight as'
      = arms_lighter as' in omega (arith, l)
  act_lighter (nested b) = let l : code_weight (flat_code b) ≤ code_weight b = code_lighter b
      in omega (arith, l)
  act_lighter (leaf l) = omega arith

  code_lighter : (b : Code) → code_weight (flat_code b) ≤ code_weight b
  code_lighter (end o) = act_lighter o
  code_lighter (store cs b) = let l : code_weight (flat_code b) ≤ code_weight b = code_lighter b
      in omega (arith, l)
  code_lighter (bind t o b) =
      let e : code_weight (spliced (flat_act o) t (flat_code b)) ≡ code_weight (flat_act o) +
      (target_weight t + code_weight (flat_code b)) = weight_splice (flat_act o) t (flat_code b)
      in
      let k : code_weight (flat_act o) ≤ act_weight o = act_lighter o in
      let l : code_weight (flat_code b) ≤ code_weight b = code_lighter b in
      omega (arith, e, k, l)

  arms_lighter : (as' : Arms) → arms_weight (flat_arms as') ≤ arms_weight as'
  arms_lighter no_arm = omega arith
  arms_lighter (arm s b as') =
      let k : code_weight (flat_code b) ≤ code_weight b = code_lighter b in
      let l : arms_weight (flat_arms as') ≤ arms_weight as' = arms_lighter as' in
      omega (arith, k, l)

pub procs_lighter : (qs : List Procedure) → procs_weight (map flat_procedure qs) ≤ procs_weight qs
procs_lighter [] = omega arith
procs_lighter (q ∷ qs) =
    let k : code_weight (flat_code q.body) ≤ code_weight q.body = code_lighter q.body in
    let l : procs_weight (map flat_procedure qs) ≤ procs_weight qs = procs_lighter qs in
    omega (arith, k, l)

-- ---- the calls

calls_splice : (c : Code) (t : Target) (k : Code) → code_calls (spliced c t k) ≡ code_calls c +
    code_calls k
unfolding spliced act_calls
calls_splice (end o) t k = refl
calls_splice (store cs c) t k = calls_splice c t k
calls_splice (bind u o c) t k = let e : code_calls (spliced c t k) ≡ code_calls c + code_calls k
    = calls_splice c t k in omega (arith, e)

mutual
  unfolding flat_act act_calls

  act_calls_stay : (o : Act) → code_calls (flat_act o) ≡ act_calls o
  act_calls_stay (case v as') = arms_calls_stay as'
  act_calls_stay (nested b) = code_calls_stay b
  act_calls_stay (leaf l) = refl

  code_calls_stay : (b : Code) → code_calls (flat_code b) ≡ code_calls b
  code_calls_stay (end o) = act_calls_stay o
  code_calls_stay (store cs b) = code_calls_stay b
  code_calls_stay (bind t o b) = calls_splice (flat_act o) t (flat_code b) ∙
      (λ i. act_calls_stay o i + code_calls_stay b i)

  arms_calls_stay : (as' : Arms) → arms_calls (flat_arms as') ≡ arms_calls as'
  arms_calls_stay no_arm = refl
  arms_calls_stay (arm s b as') = λ i. code_calls_stay b i + arms_calls_stay as' i

pub procs_calls_stay : (qs : List Procedure) → procs_calls (map flat_procedure qs) ≡ procs_calls qs
procs_calls_stay [] = refl
procs_calls_stay (q ∷ qs) = λ i. code_calls_stay q.body i + procs_calls_stay qs i

-- ---- the words

-- the words of a block whose value is bound
abbrev inside_words : Code → ℕ
inside_words (end o) = node_words o + inner_words o
inside_words (store cs c) = length cs + inside_words c
inside_words (bind u o c) = target_weight u + node_words o + inner_words o + inside_words c

words_splice : (c : Code) (t : Target) (k : Code) → code_words (spliced c t k) ≡ inside_words c +
    (target_weight t + code_words k)
unfolding spliced inner_words
words_splice (end o) t k = omega arith
words_splice (store cs c) t k = let e : code_words (spliced c t k) ≡ inside_words c +
    (target_weight t + code_words k) = words_splice c t k in omega (arith, e)
words_splice (bind u o c) t k = let e : code_words (spliced c t k) ≡ inside_words c +
    (target_weight t + code_words k) = words_splice c t k in omega (arith, e)

node_end : (o : Act) → node_words o ≤ end_words o
node_end (case v as') = omega arith
node_end (nested b) = omega arith
node_end (leaf (unit v)) = omega arith
node_end (leaf (fetch a)) = omega arith
node_end (leaf (fetch_word a i)) = omega arith
node_end (leaf (update a v)) = omega arith
node_end (leaf (eval a)) = omega arith
node_end (leaf (apply v a)) = omega arith
node_end (leaf (call f ws)) = omega arith
node_end (leaf (prim p a b)) = omega arith
node_end (leaf read) = omega arith
node_end (leaf (write a)) = omega arith
node_end (leaf fail) = omega arith

inside_fewer : (c : Code) → inside_words c ≤ code_words c
unfolding inner_words
inside_fewer (end o) = let l : node_words o ≤ end_words o = node_end o in omega (arith, l)
inside_fewer (store cs c) = let l : inside_words c ≤ code_words c = inside_fewer c
    in omega (arith, l)
inside_fewer (bind u o c) = let l : inside_words c ≤ code_words c = inside_fewer c
    in omega (arith, l)

mutual
  unfolding flat_act inner_words

  act_words : (o : Act) → code_words (flat_act o) ≤ end_words o + inner_words o
  act_words (case v as') = let l : arms_words (flat_arms as') ≤ arms_words as' = arms_fewer as'
      in omega (arith, l)
  act_words (nested b) = let l : code_words (flat_code b) ≤ code_words b = code_fewer b
      in omega (arith, l)
  act_words (leaf l) = omega arith

  bound_words : (o : Act) → inside_words (flat_act o) ≤ node_words o + inner_words o
  bound_words (case v as') = let l : arms_words (flat_arms as') ≤ arms_words as' = arms_fewer as'
      in omega (arith, l)
  bound_words (nested b) =
      let l : code_words (flat_code b) ≤ code_words b = code_fewer b in
      let k : inside_words (flat_code b) ≤ code_words (flat_code b) = inside_fewer (flat_code b) in
      omega (arith, k, l)
  bound_words (leaf l) = omega arith

  code_fewer : (b : Code) → code_words (flat_code b) ≤ code_words b
  code_fewer (end o) = act_words o
  code_fewer (store cs b) = let l : code_words (flat_code b) ≤ code_words b = code_fewer b
      in omega (arith, l)
  code_fewer (bind t o b) =
      let e : code_words (spliced (flat_act o) t (flat_code b)) ≡ inside_words (flat_act o) +
      (target_weight t + code_words (flat_code b)) = words_splice (flat_act o) t (flat_code b)
      in
      let k : inside_words (flat_act o) ≤ node_words o + inner_words o = bound_words o in
      let l : code_words (flat_code b) ≤ code_words b = code_fewer b in
      omega (arith, e, k, l)

  arms_fewer : (as' : Arms) → arms_words (flat_arms as') ≤ arms_words as'
  arms_fewer no_arm = omega arith
  arms_fewer (arm s b as') =
      let k : code_words (flat_code b) ≤ code_words b = code_fewer b in
      let l : arms_words (flat_arms as') ≤ arms_words as' = arms_fewer as' in
      omega (arith, k, l)

pub procs_words : (most : ℕ) (qs : List Procedure) → AllOf (λ q. procedure_words q ≤ most) qs
    → AllOf (λ q. procedure_words q ≤ most) (map flat_procedure qs)
procs_words most [] h = tt
procs_words most (q ∷ qs) h =
    let k : code_words (flat_code q.body) ≤ code_words q.body = code_fewer q.body in
    let l : length q.params + code_words q.body ≤ most = h.0 in
    (omega (arith, k, l), procs_words most qs h.1)
