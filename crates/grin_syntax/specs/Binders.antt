-- The variables that a program binds and the sites of its cells, in the order of its text.
use Rattle.std.specs.Prelude.{ℕ, ◌+◌, List, [], ◌∷◌, ◌++◌, map}
use Rattle.grin_syntax.specs.declared.program.VarId.{VarId}
use Rattle.grin_syntax.specs.declared.program.Target.{Target}
use Rattle.grin_syntax.specs.declared.program.Target.TheVariants as to
use Rattle.grin_syntax.specs.declared.program.Shape.{Shape}
use Rattle.grin_syntax.specs.declared.program.Shape.TheVariants as shape
use Rattle.grin_syntax.specs.declared.program.Cell.{Cell}
use Rattle.grin_syntax.specs.Tree.{Code, end, store, bind, Act, case, nested, Arms, no_arm, arm, Procedure, Program}

abbrev pub numbers_of : List VarId → List ℕ
numbers_of xs = map (λ x. x.0) xs

abbrev pub target_vars : Target → List ℕ
target_vars to.Nothing = []
target_vars (to.Node x) = x.0 ∷ []
target_vars (to.One x) = x.0 ∷ []
target_vars (to.Vector xs) = numbers_of xs

abbrev pub shape_vars : Shape → List ℕ
shape_vars (shape.Node t xs) = numbers_of xs
shape_vars (shape.Int k) = []
shape_vars shape.Else = []

abbrev pub cell_vars : List Cell → List ℕ
cell_vars cs = map (λ c. c.var.0) cs

unfoldable mutual
  -- the variables that are bound in an operation, a block and alternatives
  pub act_vars : Act → List ℕ
  act_vars (case v as') = arms_vars as'
  act_vars (nested b) = code_vars b
  act_vars _ = []

  pub code_vars : Code → List ℕ
  code_vars (end o) = act_vars o
  code_vars (store cs b) = cell_vars cs ++ code_vars b
  code_vars (bind t o b) = target_vars t ++ (act_vars o ++ code_vars b)

  pub arms_vars : Arms → List ℕ
  arms_vars no_arm = []
  arms_vars (arm s b as') = shape_vars s ++ (code_vars b ++ arms_vars as')

-- those of a procedure: its parameters, then those of its body
abbrev pub procedure_vars : Procedure → List ℕ
procedure_vars q = numbers_of q.params ++ code_vars q.body

abbrev pub procs_vars : List Procedure → List ℕ
procs_vars [] = []
procs_vars (q ∷ qs) = procedure_vars q ++ procs_vars qs

unfoldable mutual
  pub act_sites : Act → List ℕ
  act_sites (case v as') = arms_sites as'
  act_sites (nested b) = code_sites b
  act_sites _ = []

  pub code_sites : Code → List ℕ
  code_sites (end o) = act_sites o
  code_sites (store cs b) = map (λ c. c.site.0) cs ++ code_sites b
  code_sites (bind t o b) = act_sites o ++ code_sites b

  pub arms_sites : Arms → List ℕ
  arms_sites no_arm = []
  arms_sites (arm s b as') = code_sites b ++ arms_sites as'

abbrev pub procs_sites : List Procedure → List ℕ
procs_sites [] = []
procs_sites (q ∷ qs) = code_sites q.body ++ procs_sites qs

-- the variables that the procedures of a program bind, and the sites of its global cells and of its
-- stores
abbrev pub program_vars : Program → List ℕ
program_vars p = procs_vars p.procs

abbrev pub program_sites : Program → List ℕ
program_sites p = map (λ c. c.site.0) p.globals ++ procs_sites p.procs
