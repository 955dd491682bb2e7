-- Variables that a program doesn't bind: those from the first one on that is past all that it
-- binds.
use Rattle.std.specs.Prelude.{ℕ, zero, suc, max, List, [], ◌∷◌}
use Rattle.grin_syntax.specs.declared.program.VarId.{VarId}
use Rattle.grin_syntax.specs.declared.program.Target.{Target}
use Rattle.grin_syntax.specs.declared.program.Target.TheVariants as to
use Rattle.grin_syntax.specs.declared.program.Shape.{Shape}
use Rattle.grin_syntax.specs.declared.program.Shape.TheVariants as shape
use Rattle.grin_syntax.specs.declared.program.Cell.{Cell}
use Rattle.grin_syntax.specs.Tree.{Code, end, store, bind, Act, case, nested, Arms, no_arm, arm, Procedure}

abbrev pub variable : ℕ → VarId
variable x = record { 0 = x }

-- so many variables from x on
abbrev pub variables : ℕ → ℕ → List VarId
variables x zero = []
variables x (suc k) = variable x ∷ variables (suc x) k

-- the first variable past those that a piece binds
abbrev pub past_vars : List VarId → ℕ
past_vars [] = 0
past_vars (x ∷ xs) = max (suc x.0) (past_vars xs)

abbrev pub past_target : Target → ℕ
past_target to.Nothing = 0
past_target (to.Node x) = suc x.0
past_target (to.One x) = suc x.0
past_target (to.Vector xs) = past_vars xs

abbrev pub past_shape : Shape → ℕ
past_shape (shape.Node t xs) = past_vars xs
past_shape _ = 0

abbrev pub past_cells : List Cell → ℕ
past_cells [] = 0
past_cells (c ∷ cs) = max (suc c.var.0) (past_cells cs)

unfoldable mutual
  pub past_act : Act → ℕ
  past_act (case v as') = past_arms as'
  past_act (nested b) = past_code b
  past_act _ = 0

  pub past_code : Code → ℕ
  past_code (end o) = past_act o
  past_code (store cs b) = max (past_cells cs) (past_code b)
  past_code (bind t o b) = max (past_target t) (max (past_act o) (past_code b))

  pub past_arms : Arms → ℕ
  past_arms no_arm = 0
  past_arms (arm s b as') = max (past_shape s) (max (past_code b) (past_arms as'))

abbrev pub past_procs : List Procedure → ℕ
past_procs [] = 0
past_procs (q ∷ qs) = max (past_vars q.params) (max (past_code q.body) (past_procs qs))
