-- The procedures that give a number without its tag.
use Rattle.std.specs.Prelude.{ℕ, suc, ◌≡◌, ◌<◌, true, List, [], ◌∷◌, length}
use Rattle.grin_syntax.specs.Tree.{Code, end, store, bind, Act, case, nested, Arms, no_arm, arm, Procedure, Program}
use Rattle.flow_system.specs.Solution.{Solution}
use Rattle.unbox_theory.specs.Ends.{Procedures, has_int, act_calls, code_calls, IntAct, IntCode}

module _ (A : Solution) (S : Procedures) where
  unfoldable mutual
    -- where a bound operation has a call of a member among its ends, all that it gives are numbers
    -- and all calls among its ends call members
    pub ActClosed : Act → Type 0
    ActClosed (case v as') = ArmsClosed as'
    ActClosed (nested b) = CodeClosed b
    ActClosed _ = Unit {0}

    pub CodeClosed : Code → Type 0
    CodeClosed (end o) = ActClosed o
    CodeClosed (store cs b) = CodeClosed b
    CodeClosed (bind t o b) =
        (act_calls S o ≡ true → IntAct S A o) × ActClosed o × CodeClosed b

    pub ArmsClosed : Arms → Type 0
    ArmsClosed no_arm = Unit {0}
    ArmsClosed (arm s b as') = CodeClosed b × ArmsClosed as'

  -- procedure f is a member where one of its body's ends calls one. What a member gives has exactly
  -- the tag CInt, and all calls among its ends call members
  pub record ProcedureClosed (f : ℕ) (q : Procedure) : Type 0 where
    pub member : code_calls S q.body ≡ true → S f ≡ true
    pub ints : S f ≡ true → IntCode S A q.body
    pub some : S f ≡ true → has_int A f ≡ true
    pub blocks : CodeClosed q.body

  -- the procedures from number f on
  abbrev pub ProceduresClosed : ℕ → List Procedure → Type 0
  ProceduresClosed f [] = Unit {0}
  ProceduresClosed f (q ∷ qs) = ProcedureClosed f q × ProceduresClosed (suc f) qs

abbrev pub Closed : Solution → Program → Procedures → Type 0
Closed A g S = ProceduresClosed A S 0 g.procs

-- procedures of the program
abbrev pub AreProcedures : Program → Procedures → Type 0
AreProcedures g S = (f : ℕ) → S f ≡ true → f < length g.procs

-- the members are the greatest set of procedures with these properties
pub record IsGreatestClosedSet (A : Solution) (g : Program) (S : Procedures) : Type 0 where
  pub closed : Closed A g S
  pub greatest : (T : Procedures) → AreProcedures g T → Closed A g T
      → (f : ℕ) → T f ≡ true → S f ≡ true
