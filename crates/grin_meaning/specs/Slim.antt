-- How large a program is for the back end: its weight, its calls, and the words of a procedure's
-- frame.
--     A node is counted as 14 words, a tag and 13 fields.
use Rattle.std.specs.Prelude.{ℕ, ◌+◌, ◌*◌, ◌≤◌, List, [], ◌∷◌, length}
use Rattle.grin_syntax.specs.declared.program.Val as V
use Rattle.grin_syntax.specs.declared.program.Val.TheVariants.{NodeVar, Node, Vector, One}
use Rattle.grin_syntax.specs.declared.program.Target as T
use Rattle.grin_syntax.specs.declared.program.Target.TheVariants as to
use Rattle.grin_syntax.specs.declared.program.Cell.{Cell}
use Rattle.grin_syntax.specs.Tree.{Code, end, store, bind, Act, leaf, unit, fetch, fetch_word, update, eval, apply, call, prim, read, write, case, nested, fail, Arms, no_arm, arm, Procedure, Program}
use Rattle.grin_syntax.specs.Binders.{shape_vars}
use Rattle.grin_syntax.specs.Formed.{AllOf}

-- ---- the weight

abbrev pub val_weight : V.Val → ℕ
val_weight (NodeVar x) = 14
val_weight (Node t ws) = 14
val_weight (Vector ws) = length ws
val_weight (One w) = 1

abbrev pub target_weight : T.Target → ℕ
target_weight to.Nothing = 0
target_weight (to.Node x) = 14
target_weight (to.One x) = 1
target_weight (to.Vector xs) = length xs

abbrev pub cells_weight : List Cell → ℕ
cells_weight [] = 0
cells_weight (c ∷ cs) = 17 + val_weight c.val + cells_weight cs

unfoldable mutual
  -- 16 for an operation and 1 for each of its words, 8 more where it writes or reads a byte
  pub act_weight : Act → ℕ
  act_weight (leaf (unit v)) = 16 + val_weight v
  act_weight (leaf (fetch w)) = 17
  act_weight (leaf (fetch_word w i)) = 17
  act_weight (leaf (update w v)) = 17 + val_weight v
  act_weight (leaf (eval w)) = 17
  act_weight (leaf (apply v w)) = 17 + val_weight v
  act_weight (leaf (call f ws)) = 16 + length ws
  act_weight (leaf (prim o a b)) = 18
  act_weight (leaf read) = 24
  act_weight (leaf (write w)) = 25
  act_weight (case v as') = 16 + val_weight v + arms_weight as'
  act_weight (nested b) = 16 + code_weight b
  act_weight (leaf fail) = 16

  pub code_weight : Code → ℕ
  code_weight (end o) = act_weight o
  code_weight (store cs b) = cells_weight cs + code_weight b
  code_weight (bind t o b) = target_weight t + act_weight o + code_weight b

  pub arms_weight : Arms → ℕ
  arms_weight no_arm = 0
  arms_weight (arm s b as') = 3 + length (shape_vars s) + code_weight b + arms_weight as'

abbrev pub procs_weight : List Procedure → ℕ
procs_weight [] = 0
procs_weight (q ∷ qs) = length q.params + code_weight q.body + procs_weight qs

-- ---- the calls

unfoldable mutual
  pub act_calls : Act → ℕ
  act_calls (leaf (call f ws)) = 1
  act_calls (case v as') = arms_calls as'
  act_calls (nested b) = code_calls b
  act_calls _ = 0

  pub code_calls : Code → ℕ
  code_calls (end o) = act_calls o
  code_calls (store cs b) = code_calls b
  code_calls (bind t o b) = act_calls o + code_calls b

  pub arms_calls : Arms → ℕ
  arms_calls no_arm = 0
  arms_calls (arm s b as') = code_calls b + arms_calls as'

abbrev pub procs_calls : List Procedure → ℕ
procs_calls [] = 0
procs_calls (q ∷ qs) = code_calls q.body + procs_calls qs

-- ---- the words

-- a node for a call and for a fetch of a whole node, wherever they stand
abbrev pub node_words : Act → ℕ
node_words (leaf (call f ws)) = 14
node_words (leaf (fetch w)) = 14
node_words _ = 0

-- and one for every other operation that ends a block
abbrev pub end_words : Act → ℕ
end_words (leaf (call f ws)) = 14
end_words (leaf (fetch w)) = 14
end_words _ = 1

unfoldable mutual
  pub inner_words : Act → ℕ
  inner_words (case v as') = arms_words as'
  inner_words (nested b) = code_words b
  inner_words _ = 0

  pub code_words : Code → ℕ
  code_words (end o) = end_words o + inner_words o
  code_words (store cs b) = length cs + code_words b
  code_words (bind t o b) = target_weight t + node_words o + inner_words o + code_words b

  pub arms_words : Arms → ℕ
  arms_words no_arm = 0
  arms_words (arm s b as') = length (shape_vars s) + code_words b + arms_words as'

abbrev pub procedure_words : Procedure → ℕ
procedure_words q = length q.params + code_words q.body

-- small beside an inlined program of this size, whose largest procedure has size `most`
pub record Slim (size most : ℕ) (g : Program) : Type 0 where
  pub light : procs_weight g.procs ≤ 48 * size
  pub few_calls : procs_calls g.procs ≤ size
  pub few_words : AllOf (λ q. procedure_words q ≤ 20 * most) g.procs
