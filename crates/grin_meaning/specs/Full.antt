-- In the runs of a well-formed program each node has as many fields as its tag.
use Rattle.std.specs.Prelude.{ℕ, Bool, ◌≡◌, List, length, Some, IfSome}
use Rattle.grin_syntax.specs.Tree.{Program}
use Rattle.grin_syntax.specs.Formed.{AllOf, Formed}
use Rattle.grin_meaning.specs.Values.{Node, Value, node, words, HeapCell, State, fields_of}
use Rattle.grin_meaning.specs.Run.{run_by}
use Rattle.grin_meaning.specs.Keeps.{world_of}
use Rattle.grin_meaning.specs.Follows.{HoldsInEveryState}

module _ (p : Program) where
  abbrev pub FullNode : Node → Type 0
  FullNode n = fields_of p n.tag ≡ Some (length n.fields)

  abbrev pub FullValue : Value → Type 0
  FullValue (node n) = FullNode n
  FullValue (words ds) = Unit {0}

  abbrev pub FullCell : HeapCell → Type 0
  FullCell c = FullNode c.node

  -- each variable's node, and each cell's
  pub record FullState (s : State) : Type 0 where
    pub variables : (x : ℕ) → IfSome (s.env x) FullValue
    pub cells : AllOf FullCell s.heap

  -- in the states that a run passes through and in the heap at its end, where the run looks or not
  pub record FullRun (looks : Bool) (i : List ℕ) (n : ℕ) : Type 0 where
    pub passed : HoldsInEveryState FullState (world_of (run_by p looks i n)).seen
    pub at_end : AllOf FullCell (world_of (run_by p looks i n)).cells

abbrev pub NodesHaveAllFields : Type 0
NodesHaveAllFields =
    (g : Program) → Formed g → (looks : Bool) (i : List ℕ) (n : ℕ) → FullRun g looks i n
