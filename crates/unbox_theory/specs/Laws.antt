-- Unboxing by a solution keeps what a program does.
use Rattle.std.specs.Prelude.{◌≡◌}
use Rattle.grin_syntax.specs.Tree.{Program}
use Rattle.grin_meaning.specs.Keeps.{Keeps}
use Rattle.flow_system.specs.Tables.{tables}
use Rattle.flow_system.specs.System.{system}
use Rattle.flow_system.specs.Solution.{Solution, Solves}
use Rattle.pass_ground.specs.Vectors.{IsVectorForm, StaysVectorForm}
use Rattle.unbox_theory.specs.Ends.{Procedures}
use Rattle.unbox_theory.specs.Members.{Closed}
use Rattle.unbox_theory.specs.Unboxing.{unboxed}
use Rattle.unbox_theory.specs.Unboxed.{OneWordFrom, updates_of}

-- h does what g does and can be taken where g can. Each member gives one word in h, which has the
-- updates of g
pub record UnboxedKeeps (g h : Program) (members : Procedures) : Type 0 where
  pub stays : StaysVectorForm g h
  pub one_word : OneWordFrom members 0 h.procs
  pub same_updates : updates_of h.procs ≡ updates_of g.procs
  pub keeps : Keeps g h

-- whatever solution this is, and whichever procedures with the properties of members
abbrev pub UnboxingKeeps : Type 0
UnboxingKeeps =
    (g : Program) (A : Solution) (S : Procedures) → IsVectorForm g
    → Solves (tables g) (system g) A → Closed A g S → UnboxedKeeps g (unboxed S g) S
