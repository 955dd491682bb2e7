-- The shape of a program of known words.
use Rattle.std.specs.Prelude.{ℕ, ◌≡◌, ◌≤◌, length, None}
use Rattle.grin_syntax.specs.declared.program.Val as V
use Rattle.grin_syntax.specs.Tree.{Code, end, store, bind, Act, case, nested, Arms, no_arm, arm, Program}
use Rattle.grin_syntax.specs.Formed.{AllOf}
use Rattle.grin_meaning.specs.Names.{ValOk, CellsOk, ActOk}
use Rattle.grin_meaning.specs.Slim.{Slim}
use Rattle.flow_system.specs.Tables.{tables}
use Rattle.flow_system.specs.System.{system}
use Rattle.flow_system.specs.Solution.{Solution, IsLeast}
use Rattle.pass_ground.specs.OpenUpdates.{tag_variable, updates_with_variable_tag}
use Rattle.pass_ground.specs.Vectors.{StaysVectorForm}
use Rattle.case_simplify.specs.Known.{Facts, nothing_known, known_after, facts_in_alternative}
use Rattle.pass_known.specs.Told.{silent, told_of}
use Rattle.pass_known.specs.Needed.{tags_at, AllArmsNeeded}
use Rattle.pass_known.specs.Known.{known}

module _ (count : ℕ) (A : Solution) where
  abbrev pub Untold : Facts → ℕ → Type 0
  Untold facts x = told_of count A facts x ≡ None

  unfoldable mutual
    -- no variable is named of which something is told, and each alternative of a case may be taken
    pub KnownAct : Facts → Act → Type 0
    KnownAct facts (case v as') =
        ValOk (Untold facts) v × AllArmsNeeded (tags_at count A (tag_variable v)) as'
        × KnownArms facts v as'
    KnownAct facts (nested b) = KnownCode facts b
    KnownAct facts o = ActOk (Untold facts) o

    pub KnownCode : Facts → Code → Type 0
    KnownCode facts (end o) = KnownAct facts o
    KnownCode facts (store cs b) = CellsOk (Untold facts) cs × KnownCode facts b
    KnownCode facts (bind t o b) = KnownAct facts o × KnownCode (known_after t o facts) b

    pub KnownArms : Facts → V.Val → Arms → Type 0
    KnownArms facts v no_arm = Unit {0}
    KnownArms facts v (arm s b as') =
        KnownCode (facts_in_alternative v s facts) b × KnownArms facts v as'

-- h is what the pass makes of g, whatever program this is, by the least solution of the flow system
-- of g
pub record MadeByLeastSolution (g h : Program) : Type 0 where
  pub solution : Solution
  pub least : IsLeast (tables g) (system g) solution
  pub made : h ≡ known solution g

-- h is what is made of g by the solution A. In it no variable is named of which the alternatives
-- around it, or the solution, tell what it holds, and no alternative of a case is outside the
-- solution. h is as good an input for a pass as g, with no more updates without a literal tag, and
-- no larger.
pub record KnownWordsAreLiterals (A : Solution) (g h : Program) : Type 0 where
  pub stays : StaysVectorForm g h
  pub made : h ≡ known A g
  pub known : AllOf (λ q. KnownCode (length g.tags) A nothing_known q.body) h.procs
  pub no_more_open : updates_with_variable_tag h ≤ updates_with_variable_tag g
  pub slim : (size most : ℕ) → Slim size most g → Slim size most h

-- by the least solution of g
pub record KnownWords (g h : Program) : Type 0 where
  pub solution : Solution
  pub least : IsLeast (tables g) (system g) solution
  pub by : KnownWordsAreLiterals solution g h

-- by the alternatives alone
abbrev pub ToldWords : Program → Program → Type 0
ToldWords = KnownWordsAreLiterals silent
