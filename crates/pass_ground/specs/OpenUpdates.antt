-- The updates that put a node into a cell whose tag is a variable, and how many there are.
use Rattle.std.specs.Prelude.{ℕ, ◌+◌, List, [], ◌∷◌, Option, Some, None, slice_get}
use Rattle.grin_syntax.specs.declared.program.VarId.{VarId}
use Rattle.grin_syntax.specs.declared.program.Word as W
use Rattle.grin_syntax.specs.declared.program.Word.TheVariants.{Lit, Var, Global, TagWord}
use Rattle.grin_syntax.specs.declared.program.Val as V
use Rattle.grin_syntax.specs.declared.program.Val.TheVariants.{NodeVar, Node, Vector, One}
use Rattle.grin_syntax.specs.Tree.{Code, end, store, bind, Act, leaf, update, case, nested, Arms, no_arm, arm, Procedure, Program}
use Rattle.grin_meaning.specs.Values.{and_then}

abbrev pub variable_of : W.Word → Option VarId
variable_of (Var x) = Some x
variable_of (Lit k) = None
variable_of (Global i) = None
variable_of (TagWord t) = None

-- The variable that stands for the tag of a value. Where there is none, a value without node
-- variables has a literal tag, or it stands for no node, so that nothing can be updated with it:
-- it begins with a number or a cell, or is empty.
abbrev pub tag_variable : V.Val → Option VarId
tag_variable (NodeVar x) = None
tag_variable (Node t ws) = None
tag_variable (Vector ws) = and_then (slice_get ws 0) variable_of
tag_variable (One a) = variable_of a

unfoldable mutual
  -- what the updates of a piece count together, each as the value that it takes does
  pub act_update_sum : (V.Val → ℕ) → Act → ℕ
  act_update_sum count (leaf (update a v)) = count v
  act_update_sum count (case v as') = arms_update_sum count as'
  act_update_sum count (nested b) = code_update_sum count b
  act_update_sum count _ = 0

  pub code_update_sum : (V.Val → ℕ) → Code → ℕ
  code_update_sum count (end o) = act_update_sum count o
  code_update_sum count (store cs b) = code_update_sum count b
  code_update_sum count (bind t o b) = act_update_sum count o + code_update_sum count b

  pub arms_update_sum : (V.Val → ℕ) → Arms → ℕ
  arms_update_sum count no_arm = 0
  arms_update_sum count (arm s b as') = code_update_sum count b + arms_update_sum count as'

abbrev pub procs_update_sum : (V.Val → ℕ) → List Procedure → ℕ
procs_update_sum count [] = 0
procs_update_sum count (q ∷ qs) = code_update_sum count q.body + procs_update_sum count qs

abbrev pub one_if_some : Option VarId → ℕ
one_if_some None = 0
one_if_some (Some x) = 1

-- the updates of a program whose tag is a variable
abbrev pub updates_with_variable_tag : Program → ℕ
updates_with_variable_tag p = procs_update_sum (λ v. one_if_some (tag_variable v)) p.procs
