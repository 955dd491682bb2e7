-- The variables that a procedure binds, in the order of its text, and which of them stand for new
-- cells.
use Rattle.std.specs.Prelude.{List, [], ◌∷◌, ◌++◌, map, Some, None}
use Rattle.grin_syntax.specs.declared.program.VarId.{VarId}
use Rattle.grin_syntax.specs.declared.program.Target.{Target}
use Rattle.grin_syntax.specs.declared.program.Target.TheVariants as to
use Rattle.grin_syntax.specs.declared.program.Shape.{Shape}
use Rattle.grin_syntax.specs.declared.program.Shape.TheVariants as shape
use Rattle.grin_syntax.specs.declared.program.Cell.{Cell}
use Rattle.grin_syntax.specs.declared.program.Stmt.{Stmt}
use Rattle.grin_syntax.specs.declared.program.Stmt.TheVariants.{Store, Bind}
use Rattle.grin_syntax.specs.declared.program.Alt.{Alt}
use Rattle.grin_syntax.specs.Tree.{Code, end, store, bind, Act, case, nested, Arms, no_arm, arm, Procedure, act_of, code_of}
use Rattle.flow_listing.specs.declared.binder.Binder.{Binder}

abbrev pub bound : List VarId → List Binder
bound xs = map (λ x. record { var = x; site = None }) xs

abbrev pub target_binders : Target → List Binder
target_binders to.Nothing = []
target_binders (to.Node x) = bound (x ∷ [])
target_binders (to.One x) = bound (x ∷ [])
target_binders (to.Vector xs) = bound xs

abbrev pub shape_binders : Shape → List Binder
shape_binders (shape.Node t xs) = bound xs
shape_binders (shape.Int k) = []
shape_binders shape.Else = []

abbrev pub cell_binders : List Cell → List Binder
cell_binders cs = map (λ c. record { var = c.var; site = Some c.site }) cs

unfoldable mutual
  -- those of an operation, a block and alternatives
  pub act_binders : Act → List Binder
  act_binders (case v as') = arms_binders as'
  act_binders (nested b) = code_binders b
  act_binders _ = []

  pub code_binders : Code → List Binder
  code_binders (end o) = act_binders o
  code_binders (store cs b) = cell_binders cs ++ code_binders b
  code_binders (bind t o b) = target_binders t ++ (act_binders o ++ code_binders b)

  pub arms_binders : Arms → List Binder
  arms_binders no_arm = []
  arms_binders (arm s b as') = shape_binders s ++ (code_binders b ++ arms_binders as')

-- those of a procedure: its parameters, then those of its body
abbrev pub procedure_binders : Procedure → List Binder
procedure_binders q = bound q.params ++ code_binders q.body

-- what a statement and an alternative add
abbrev pub stmt_binders : Stmt → List Binder
stmt_binders (Store cells) = cell_binders cells
stmt_binders (Bind target op) = target_binders target ++ act_binders (act_of op)

abbrev pub alt_binders : Alt → List Binder
alt_binders a = shape_binders a.pattern ++ code_binders (code_of a.body)
