-- A program with a solution of its flow system.
use Rattle.grin_syntax.specs.Tree.{Program}
use Rattle.grin_syntax.specs.Formed.{Formed}
use Rattle.flow_system.specs.Tables.{tables}
use Rattle.flow_system.specs.System.{system}
use Rattle.flow_system.specs.Solution.{Solution, Solves}

-- a well-formed program, and a solution of its flow system
pub record IsAnalysed (A : Solution) (p : Program) : Type 0 where
  pub formed : Formed p
  pub solves : Solves (tables p) (system p) A
