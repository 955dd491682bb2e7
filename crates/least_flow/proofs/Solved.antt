-- The least solution for the tables and the inclusions of a program.
use Rattle.std.proofs.Common.{◌≡◌, List, subst}
use Rattle.grin_syntax.specs.Tree.{Program}
use Rattle.flow_system.specs.Tables.{Tables, tables}
use Rattle.flow_system.specs.Inclusions.{Inclusion}
use Rattle.flow_system.specs.System.{system}
use Rattle.flow_system.specs.Solution.{Solution, IsLeast}

pub least_is : (g : Program) (p : Tables) (cs : List Inclusion) (A : Solution) → p ≡ tables g
    → cs ≡ system g → IsLeast p cs A → IsLeast (tables g) (system g) A
least_is g p cs A e f h = subst (λ q. IsLeast q (system g) A) e (subst (λ k. IsLeast p k A) f h)
