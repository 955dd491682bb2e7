-- What holds of the text of each solution: it is one text for all least solutions, and it names
-- variables as listings do.
use Rattle.std.specs.Prelude.{◌≡◌, ℕ, List, Some, slice_get}
use Rattle.grin_syntax.specs.Tree.{Procedure, Program}
use Rattle.grin_syntax.specs.Formed.{Formed}
use Rattle.grin_syntax.specs.Binders.{procedure_vars}
use Rattle.grin_syntax.specs.Listing.{place, var_text}
use Rattle.flow_system.specs.Inclusions.{Inclusion}
use Rattle.flow_system.specs.Tables.{Tables}
use Rattle.flow_system.specs.Solution.{Solution, IsLeast}
use Rattle.seq.specs.Lists.{In}
use Rattle.flow_listing.specs.declared.binder.Binder.{Binder}
use Rattle.flow_listing.specs.Binders.{procedure_binders}
use Rattle.flow_listing.specs.Text.{variable_text, points}

-- a system has one text, whichever of its least solutions is listed
abbrev pub ListingIsUnique : Type 0
ListingIsUnique =
    (p : Program) (t : Tables) (cs : List Inclusion) (A B : Solution)
    → IsLeast t cs A → IsLeast t cs B → points p A ≡ points p B

-- the variable of each line has the name that it has in the program's listing
abbrev pub NamedAsListed : Type 0
NamedAsListed =
    (p : Program) → Formed p → (q : Procedure) → In q p.procs
    → (k : ℕ) (b : Binder) → slice_get (procedure_binders q) k ≡ Some b
    → variable_text k ≡ var_text (λ x. place x (procedure_vars q)) b.var
