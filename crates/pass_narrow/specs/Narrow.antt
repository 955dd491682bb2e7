-- A program in which words that nobody reads are gone from vectors.
use Rattle.std.specs.Prelude.{ℕ, Bool, true, false, cond, ◌&&◌, List, Option, Some, None, length}
use Rattle.grin_syntax.specs.declared.program.Val as V
use Rattle.grin_syntax.specs.declared.program.Val.TheVariants.{NodeVar, Node, Vector, One}
use Rattle.grin_syntax.specs.declared.program.Target.{Target}
use Rattle.grin_syntax.specs.declared.program.Target.TheVariants as to
use Rattle.grin_syntax.specs.Tree.{Code, end, store, bind, Act, Leaf, leaf, unit, case, nested, fail, Arms, no_arm, arm, Program}
use Rattle.grin_meaning.specs.Rewritten.{rewritten}
use Rattle.flow_system.specs.Solution.{Solution}
use Rattle.copy_prop.specs.Lean.{used_in_code}
use Rattle.pass_narrow.specs.Picked.{picked, stay, may_go}

-- which words of a value stay, or all of them
abbrev pub WordSelection : Type 0
WordSelection = Option (List Bool)

abbrev pub picked_val : WordSelection → V.Val → V.Val
picked_val None v = v
picked_val (Some bs) (NodeVar x) = NodeVar x
picked_val (Some bs) (Node t ws) = Node t ws
picked_val (Some bs) (Vector ws) = Vector (picked bs ws)
picked_val (Some bs) (One a) = One a

abbrev pub picked_target : WordSelection → Target → Target
picked_target None t = t
picked_target (Some bs) to.Nothing = to.Nothing
picked_target (Some bs) (to.Node x) = to.Node x
picked_target (Some bs) (to.One x) = to.One x
picked_target (Some bs) (to.Vector xs) = to.Vector (picked bs xs)

-- in a program with so many tags, by a solution
module _ (count : ℕ) (A : Solution) where
  abbrev pub val_fits : List Bool → V.Val → Bool
  val_fits bs (NodeVar x) = false
  val_fits bs (Node t ws) = false
  val_fits bs (Vector ws) = may_go count A bs ws
  val_fits bs (One a) = false

  unfoldable mutual
    -- each end of a piece is a unit of a vector of which the other words may go, or it fails
    pub act_fits : List Bool → Act → Bool
    act_fits bs (leaf (unit v)) = val_fits bs v
    act_fits bs (case v as') = arms_fit bs as'
    act_fits bs (nested b) = code_fits bs b
    act_fits bs (leaf fail) = true
    act_fits bs _ = false

    pub code_fits : List Bool → Code → Bool
    code_fits bs (end o) = act_fits bs o
    code_fits bs (store cs b) = code_fits bs b
    code_fits bs (bind t o b) = code_fits bs b

    pub arms_fit : List Bool → Arms → Bool
    arms_fit bs no_arm = true
    arms_fit bs (arm s b as') = code_fits bs b && arms_fit bs as'

  -- of what an operation gives to a target before a block that uses these variables
  abbrev pub word_selection : Target → Act → List ℕ → WordSelection
  word_selection to.Nothing o used = None
  word_selection (to.Node x) o used = None
  word_selection (to.One x) o used = None
  word_selection (to.Vector xs) o used = cond (act_fits (stay used xs) o) (Some (stay used xs)) None

  -- an operation without a block: what it gives
  abbrev pub narrow_leaf : WordSelection → Leaf → Leaf
  narrow_leaf p (unit v) = unit (picked_val p v)
  narrow_leaf p o = o

  unfoldable mutual
    -- `p` is what stays of what the piece gives
    pub narrow_act : WordSelection → Act → Act
    narrow_act p (leaf o) = leaf (narrow_leaf p o)
    narrow_act p (case v as') = case v (narrow_arms p as')
    narrow_act p (nested b) = nested (narrow_code p b)

    pub narrow_code : WordSelection → Code → Code
    narrow_code p (end o) = end (narrow_act p o)
    narrow_code p (store cs b) = store cs (narrow_code p b)
    narrow_code p (bind t o b) =
        let q : WordSelection = word_selection t o (used_in_code (narrow_code p b)) in
        bind (picked_target q t) (narrow_act q o) (narrow_code p b)

    pub narrow_arms : WordSelection → Arms → Arms
    narrow_arms p no_arm = no_arm
    narrow_arms p (arm s b as') = arm s (narrow_code p b) (narrow_arms p as')

-- by a solution
abbrev pub narrow : Solution → Program → Program
narrow A g = rewritten (narrow_code (length g.tags) A None) g
