use Rattle.std.proofs.Common.{◌≡◌, false, None, drop, map}
use Rattle.std.specs.Ordering.{nat_cmp}
use Rattle.std.specs.BTreeSet.{contains}
use Rattle.arity_check.specs.Tables.{known}
use Rattle.core_link.specs.Module.{imported}
use Rattle.core_link.specs.ModuleOf.{import_of, module_of}
use Rattle.core_link.specs.Found.{first_repeated_name, is_declared}
use Rattle.core_link.proofs.Takings.{names_of}
use Rattle.core_link.proofs.imports.imported_again.Given as goal

abbrev pub invariant-loop-import : goal.invariant-loop-import
invariant-loop-import l = first_repeated_name (is_declared (known l.globals))
    (contains nat_cmp l.seen) l.first
    (names_of (map import_of (drop l.import-index l.import-items))) ≡ first_repeated_name
    (is_declared (known l.globals)) (λ x. false) None
    (map (λ i. i.1) (imported (module_of l.module)))
