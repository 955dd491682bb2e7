-- Programs whose results are evaluated nodes, by what the text tells of each variable.
--
-- Passes rely on facts about runs. One is that a node variable holds no thunk unless a fetch
-- filled it. A *looking run* tests each of these facts, and is stuck where one fails. So the facts
-- hold where no looking run is stuck. For translated programs that comes from sorts: the text
-- tells of each variable whether it holds a number, a node or an evaluated node, and inlining
-- keeps these sorts.
use Rattle.std.specs.Prelude.{ℕ, zero, suc, Bool, false, cond, nat_eq, ◌≡◌, List, [], ◌∷◌, slice_get}
use Rattle.grin_syntax.specs.declared.program.Tag.{Tag}
use Rattle.grin_syntax.specs.declared.program.VarId.{VarId}
use Rattle.grin_syntax.specs.declared.program.Word.{Word}
use Rattle.grin_syntax.specs.declared.program.Word.TheVariants.{Lit, Var, Global, TagWord}
use Rattle.grin_syntax.specs.declared.program.Val.{Val}
use Rattle.grin_syntax.specs.declared.program.Val.TheVariants.{NodeVar, Node, Vector, One}
use Rattle.grin_syntax.specs.declared.program.Target.{Target}
use Rattle.grin_syntax.specs.declared.program.Target.TheVariants as to
use Rattle.grin_syntax.specs.declared.program.Shape.{Shape}
use Rattle.grin_syntax.specs.declared.program.Shape.TheVariants as shape
use Rattle.grin_syntax.specs.declared.program.Cell.{Cell}
use Rattle.grin_syntax.specs.Tree.{Code, end, store, bind, Act, leaf, unit, fetch, fetch_word, update, eval, apply, prim, read, write, case, nested, Arms, no_arm, arm, Procedure, Program}
use Rattle.grin_syntax.specs.Formed.{AllOf}
use Rattle.grin_meaning.specs.Run.{is_fun_kind, is_some_and}

-- what is known of the value of a variable, or of an operation
pub data Sort : Type 0 where
  anything : Sort
  a_number : Sort
  a_node : Sort
  -- a node that is no delayed call
  evaluated : Sort

abbrev pub Sorts : Type 0
Sorts = ℕ → Sort

abbrev pub nothing_known : Sorts
nothing_known x = anything

-- one variable more
abbrev pub sorted : ℕ → Sort → Sorts → Sorts
sorted x s Γ = λ y. cond (nat_eq y x) s (Γ y)

-- further variables, of which nothing is known
abbrev pub vars_sorted : List VarId → Sorts → Sorts
vars_sorted [] Γ = Γ
vars_sorted (x ∷ xs) Γ = vars_sorted xs (sorted x.0 anything Γ)

abbrev pub cells_sorted : List Cell → Sorts → Sorts
cells_sorted [] Γ = Γ
cells_sorted (c ∷ cs) Γ = cells_sorted cs (sorted c.var.0 anything Γ)

abbrev pub target_sorted : Target → Sort → Sorts → Sorts
target_sorted to.Nothing s Γ = Γ
target_sorted (to.Node x) s Γ = sorted x.0 s Γ
target_sorted (to.One x) s Γ = sorted x.0 s Γ
target_sorted (to.Vector xs) s Γ = Γ

-- what an operation gives
abbrev pub sort_of : Act → Sort
sort_of (leaf (fetch a)) = a_node
sort_of (leaf (fetch_word a i)) = anything
sort_of (leaf (update a v)) = anything
sort_of (leaf (prim f a b)) = a_number
sort_of (leaf read) = a_number
sort_of (leaf (write a)) = anything
sort_of _ = evaluated

abbrev pub IsNode : Sort → Type 0
IsNode a_node = Unit {0}
IsNode evaluated = Unit {0}
IsNode _ = ⊥

-- a target that takes what there is
abbrev pub TargetFits : Target → Sort → Type 0
TargetFits to.Nothing s = s ≡ anything
TargetFits (to.Node x) s = IsNode s
TargetFits (to.One x) s = s ≡ a_number
TargetFits (to.Vector xs) s = ⊥

abbrev pub IsNumber : Sorts → Word → Type 0
IsNumber Γ (Lit k) = Unit {0}
IsNumber Γ (Var x) = Γ x.0 ≡ a_number
IsNumber Γ (Global i) = ⊥
IsNumber Γ (TagWord t) = ⊥

-- the words of a node: with tag 0 one number
abbrev pub WordsFit : Sorts → ℕ → List Word → Type 0
WordsFit Γ (suc t) ws = Unit {0}
WordsFit Γ zero (a ∷ []) = IsNumber Γ a
WordsFit Γ zero _ = ⊥

-- a value that is kept in a cell
abbrev pub KeptFits : Sorts → Val → Type 0
KeptFits Γ (NodeVar x) = IsNode (Γ x.0)
KeptFits Γ (Node t ws) = WordsFit Γ t.0 ws
KeptFits Γ (Vector ws) = ⊥
KeptFits Γ (One a) = ⊥

abbrev pub ScrutineeFits : Sorts → Val → Type 0
ScrutineeFits Γ (NodeVar x) = IsNode (Γ x.0)
ScrutineeFits Γ _ = ⊥

module _ (tags : List Tag) where
  -- a node with this tag is a delayed call
  abbrev pub delayed : ℕ → Bool
  delayed t = is_some_and (slice_get tags t) (λ i. is_fun_kind i.kind)

  -- a value that is given
  abbrev pub GivenFits : Sorts → Val → Type 0
  GivenFits Γ (NodeVar x) = Γ x.0 ≡ evaluated
  GivenFits Γ (Node t ws) = (delayed t.0 ≡ false) × WordsFit Γ t.0 ws
  GivenFits Γ (Vector ws) = ⊥
  GivenFits Γ (One a) = ⊥

  -- what is known in an alternative: of the node variable too, where the pattern's tag is that of
  -- an evaluated node
  abbrev pub alternative_sorted : Shape → Val → Sorts → Sorts
  alternative_sorted (shape.Node t xs) (NodeVar x) Γ
      = vars_sorted xs (cond (delayed t.0) Γ (sorted x.0 evaluated Γ))
  alternative_sorted (shape.Node t xs) v Γ = vars_sorted xs Γ
  alternative_sorted _ v Γ = Γ

  -- Each end of a block gives an evaluated node, and each node with tag 0 has one field, a number.
  --     Whether evaluations and applications may stand there is for two propositions to say.
  module _ (Evals Applies : Type 0) where
    unfoldable mutual
      pub ActFits : Sorts → Act → Type 0
      ActFits Γ (leaf (unit v)) = GivenFits Γ v
      ActFits Γ (leaf (update a v)) = KeptFits Γ v
      ActFits Γ (leaf (eval a)) = Evals
      ActFits Γ (leaf (apply v a)) = Applies × ScrutineeFits Γ v
      ActFits Γ (leaf (fetch_word a i)) = ⊥
      ActFits Γ (case v as') = ScrutineeFits Γ v × ArmsFit Γ v as'
      ActFits Γ (nested b) = CodeFits Γ b
      ActFits Γ _ = Unit {0}

      pub CodeFits : Sorts → Code → Type 0
      CodeFits Γ (end o) = (sort_of o ≡ evaluated) × ActFits Γ o
      CodeFits Γ (store cs b) = AllOf (λ c. KeptFits (cells_sorted cs Γ) c.val) cs
          × CodeFits (cells_sorted cs Γ) b
      CodeFits Γ (bind t o b) = TargetFits t (sort_of o) × ActFits Γ o
          × CodeFits (target_sorted t (sort_of o) Γ) b

      pub ArmsFit : Sorts → Val → Arms → Type 0
      ArmsFit Γ v no_arm = Unit {0}
      ArmsFit Γ v (arm s b as') = CodeFits (alternative_sorted s v Γ) b × ArmsFit Γ v as'

    abbrev pub ProcedureFits : Procedure → Type 0
    ProcedureFits q = CodeFits (vars_sorted q.params nothing_known) q.body

-- a program of such procedures, whose global cells are no numbers
pub record ProgramFits (Evals Applies : Type 0) (p : Program) : Type 0 where
  pub procedures : AllOf (ProcedureFits p.tags Evals Applies) p.procs
  pub globals : AllOf (λ c. WordsFit nothing_known c.tag.0 []) p.globals
