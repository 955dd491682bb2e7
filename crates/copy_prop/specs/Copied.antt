-- The shape of a program without copies and idle statements.
use Rattle.std.specs.Prelude.{ℕ, ◌≡◌, ◌≢◌, ◌<◌, ◌≤◌, List, length}
use Rattle.grin_syntax.specs.declared.program.Val as V
use Rattle.grin_syntax.specs.declared.program.Val.TheVariants.{Node, Vector, One}
use Rattle.grin_syntax.specs.declared.program.Target.{Target}
use Rattle.grin_syntax.specs.declared.program.Target.TheVariants as to
use Rattle.grin_syntax.specs.Binders.{target_vars, procs_sites}
use Rattle.grin_syntax.specs.Tree.{Code, end, store, bind, Act, leaf, unit, case, nested, Arms, no_arm, arm, Program}
use Rattle.grin_syntax.specs.Formed.{AllOf}
use Rattle.grin_meaning.specs.Names.{CodeOk}
use Rattle.grin_meaning.specs.Run.{run}
use Rattle.grin_meaning.specs.Keeps.{world_of}
use Rattle.pass_ground.specs.Vectors.{StaysVectorForm}
use Rattle.grin_meaning.specs.Pieces.{HasNoEffect}
use Rattle.seq.specs.Lists.{times}
use Rattle.copy_prop.specs.Resolved.{resolved}
use Rattle.copy_prop.specs.Lean.{lean}

-- A value has a word for each variable of a target. A vector takes a node too: its tag, its fields
-- and then zeros. Where the words are too many or too few, a run of the statement is missing.
abbrev pub IsTaken : Target → V.Val → Type 0
IsTaken (to.One x) (One w) = Unit {0}
IsTaken (to.One x) (Vector ws) = length ws ≡ 1
IsTaken (to.Vector xs) (One w) = length xs ≡ 1
IsTaken (to.Vector xs) (Vector ws) = length xs ≡ length ws
IsTaken (to.Vector xs) (Node t ws) = length ws < length xs
IsTaken _ _ = ⊥

-- each variable is given a word, and nothing else is done
abbrev pub IsCopy : Target → Act → Type 0
IsCopy t (leaf (unit v)) = IsTaken t v
IsCopy t _ = ⊥

-- no word, node or vector of a block names x
abbrev pub Unused : Code → ℕ → Type 0
Unused b x = CodeOk (λ y. y ≢ x) b

-- a statement before a block: it is no copy, and where it changes nothing the block uses what it
-- binds
pub record IsNeeded (t : Target) (o : Act) (b : Code) : Type 0 where
  pub no_copy : IsCopy t o → ⊥
  pub not_idle : HasNoEffect o → AllOf (Unused b) (target_vars t) → ⊥

-- each bound operation of a piece, with its target and the block after it, is of some kind
module _ (Ok : Target → Act → Code → Type 0) where
  unfoldable mutual
    pub BoundAct : Act → Type 0
    BoundAct (case v as') = BoundArms as'
    BoundAct (nested b) = BoundCode b
    BoundAct _ = Unit {0}

    pub BoundCode : Code → Type 0
    BoundCode (end o) = BoundAct o
    BoundCode (store cs b) = BoundCode b
    BoundCode (bind t o b) = Ok t o b × BoundAct o × BoundCode b

    pub BoundArms : Arms → Type 0
    BoundArms no_arm = Unit {0}
    BoundArms (arm s b as') = BoundCode b × BoundArms as'

-- the heaps are the same at the ends of runs
abbrev pub SameHeaps : Program → Program → Type 0
SameHeaps g h = (i : List ℕ) (n : ℕ) → (world_of (run h i n)).cells ≡ (world_of (run g i n)).cells

-- h is g without its copies and idle statements. So each statement of h is needed, no store is new,
-- the heaps are those of g, and it is as good an input for a pass
pub record Copied (g h : Program) : Type 0 where
  pub stays : StaysVectorForm g h
  pub made : h ≡ lean (resolved g)
  pub needed : AllOf (λ q. BoundCode IsNeeded q.body) h.procs
  pub no_new_stores : (s : ℕ) → times s (procs_sites h.procs) ≤ times s (procs_sites g.procs)
  pub heaps : SameHeaps g h
