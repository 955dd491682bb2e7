-- What the pass makes of a program.
use Rattle.std.specs.Prelude.{ℕ, suc, ◌≡◌, true, List, [], ◌∷◌, ◌++◌}
use Rattle.grin_syntax.specs.declared.program.Val as V
use Rattle.grin_syntax.specs.declared.program.Val.TheVariants.{One}
use Rattle.grin_syntax.specs.declared.program.Word.{Word}
use Rattle.grin_syntax.specs.Tree.{Code, end, store, bind, Act, leaf, unit, update, call, case, nested, fail, Arms, no_arm, arm, Procedure, Program}
use Rattle.flow_system.specs.Tables.{tables}
use Rattle.flow_system.specs.System.{system}
use Rattle.flow_system.specs.Solution.{Solution, IsLeast}
use Rattle.pass_ground.specs.Vectors.{StaysVectorForm}
use Rattle.unbox_theory.specs.Ends.{Procedures, act_calls}
use Rattle.unbox_theory.specs.Members.{IsGreatestClosedSet}
use Rattle.unbox_theory.specs.Unboxing.{unboxed}

-- ---- the shape

abbrev pub IsOneWord : V.Val → Type 0
IsOneWord (One a) = Unit {0}
IsOneWord _ = ⊥

module _ (S : Procedures) where
  unfoldable mutual
    -- each end gives one word
    pub OneWordAct : Act → Type 0
    OneWordAct (leaf (unit v)) = IsOneWord v
    OneWordAct (leaf (call f ws)) = S f.0 ≡ true
    OneWordAct (case v as') = OneWordArms as'
    OneWordAct (nested b) = OneWordCode b
    OneWordAct (leaf fail) = Unit {0}
    OneWordAct _ = ⊥

    pub OneWordCode : Code → Type 0
    OneWordCode (end o) = OneWordAct o
    OneWordCode (store cs b) = OneWordCode b
    OneWordCode (bind t o b) = OneWordCode b

    pub OneWordArms : Arms → Type 0
    OneWordArms no_arm = Unit {0}
    OneWordArms (arm s b as') = OneWordCode b × OneWordArms as'

  unfoldable mutual
    -- each bound operation that has a call of a member among its ends gives one word
    pub BoundAct : Act → Type 0
    BoundAct (case v as') = BoundArms as'
    BoundAct (nested b) = BoundCode b
    BoundAct _ = Unit {0}

    pub BoundCode : Code → Type 0
    BoundCode (end o) = BoundAct o
    BoundCode (store cs b) = BoundCode b
    BoundCode (bind t o b) = (act_calls S o ≡ true → OneWordAct o) × BoundAct o × BoundCode b

    pub BoundArms : Arms → Type 0
    BoundArms no_arm = Unit {0}
    BoundArms (arm s b as') = BoundCode b × BoundArms as'

  -- so does each member, of the procedures from number f on
  abbrev pub OneWordFrom : ℕ → List Procedure → Type 0
  OneWordFrom f [] = Unit {0}
  OneWordFrom f (q ∷ qs) =
      (S f ≡ true → OneWordCode q.body) × BoundCode q.body × OneWordFrom (suc f) qs

-- ---- updates

unfoldable mutual
  -- the updates of a piece
  pub act_updates : Act → List (Word × V.Val)
  act_updates (leaf (update a v)) = (a, v) ∷ []
  act_updates (case v as') = arms_updates as'
  act_updates (nested b) = code_updates b
  act_updates _ = []

  pub code_updates : Code → List (Word × V.Val)
  code_updates (end o) = act_updates o
  code_updates (store cs b) = code_updates b
  code_updates (bind t o b) = act_updates o ++ code_updates b

  pub arms_updates : Arms → List (Word × V.Val)
  arms_updates no_arm = []
  arms_updates (arm s b as') = code_updates b ++ arms_updates as'

abbrev pub updates_of : List Procedure → List (Word × V.Val)
updates_of [] = []
updates_of (q ∷ qs) = code_updates q.body ++ updates_of qs

-- ---- the whole

-- h is g with its members unboxed, which the least solution of the flow system of g tells. Each
-- gives one word in h, which has the updates of g
pub record Unboxed (g h : Program) : Type 0 where
  pub stays : StaysVectorForm g h
  pub solution : Solution
  pub least : IsLeast (tables g) (system g) solution
  pub members : Procedures
  pub are_members : IsGreatestClosedSet solution g members
  pub made : h ≡ unboxed members g
  pub one_word : OneWordFrom members 0 h.procs
  pub same_updates : updates_of h.procs ≡ updates_of g.procs

-- h is what the pass makes of g, whatever program this is
pub record MadeByLeastSolution (g h : Program) : Type 0 where
  pub solution : Solution
  pub least : IsLeast (tables g) (system g) solution
  pub members : Procedures
  pub are_members : IsGreatestClosedSet solution g members
  pub made : h ≡ unboxed members g
