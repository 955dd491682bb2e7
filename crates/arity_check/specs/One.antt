-- A program that breaks no rule has one normal form, an application has one flat form, and one
-- broken rule is the first.
use Rattle.std.specs.Prelude.{◌≡◌, ℕ, List}
use Rattle.core_reader.specs.Tree.{Program, Term, Terms}
use Rattle.arity_check.specs.declared.normal.Flat.{Flat}
use Rattle.arity_check.specs.declared.normal.Bound.{Bound}
use Rattle.arity_check.specs.Scope.{Scope}
use Rattle.core_reader.specs.Readable.{IsReadable}
use Rattle.arity_check.specs.Normal.{IsFlat, IsNormalForm}
use Rattle.arity_check.specs.Accepted.{BreaksNoRule, IsFirstBroken}
use Rattle.arity_check.specs.Program as normal

abbrev pub FlatFormIsUnique : Type 0
FlatFormIsUnique =
    (p : Program) (s : Scope) (n : ℕ) (head : Term) (args : Terms)
    (news news' : List Bound) (form form' : Flat) → IsFlat p s n head args news form
    → IsFlat p s n head args news' form' → (news ≡ news') × (form ≡ form')

abbrev pub NormalFormIsUnique : Type 0
NormalFormIsUnique =
    (p : Program) (q q' : normal.Program) → IsNormalForm p q → IsNormalForm p q' → q ≡ q'

abbrev pub NormalFormExists : Type 0
NormalFormExists =
    (p : Program) → IsReadable p → BreaksNoRule p → (q : normal.Program) × IsNormalForm p q

abbrev pub RefusalIsUnique : Type 0
RefusalIsUnique =
    (p : Program) (k at k' at' : ℕ) → IsFirstBroken p k at
    → IsFirstBroken p k' at' → (k ≡ k') × (at ≡ at')
