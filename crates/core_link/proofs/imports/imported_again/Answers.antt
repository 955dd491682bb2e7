use Rattle.std.proofs.Common.{◌≡◌, ◌+◌, ◌∷◌, ap, sym, ◌∙◌, drop, map}
use Rattle.std.specs.Ordering.{nat_cmp}
use Rattle.std.specs.BTreeSet.{contains}
use Rattle.seq.proofs.Lists.{drop_next}
use Rattle.arity_check.specs.Tables.{known}
use Rattle.core_link.specs.ModuleOf.{import_of}
use Rattle.core_link.specs.Found.{first_repeated_name, with_names_seen, is_declared}
use Rattle.core_link.proofs.Takings.{names_of}
use Rattle.core_link.proofs.Steps.{imported_next}
use Rattle.core_link.proofs.imports.imported_again.Goals as goal

pub loop-import-preserved : goal.loop-import-preserved
loop-import-preserved c =
    let items = c.as_slice-import-items.result.now in
    let i = c.loop-import.import-index in
    let x = c.import-item.result in
    let declared = is_declared (known c.args.globals.now) in
    let next : drop i items ≡ x ∷ drop (i + 1) items
    = drop_next items i x c.loop-import-test.true ∙ ap (λ y. y ∷ drop (i + 1) items)
    (sym c.import-item.is) in
    imported_next declared (contains nat_cmp c.loop-import.seen) (contains nat_cmp c.again.new.seen)
    (import_of x) (map import_of (drop (i + 1) items)) c.loop-import.first c.in_ok-first.first _
    (c.in_ok-first.ensures.seen ∙ ap (with_names_seen (contains nat_cmp c.loop-import.seen))
    c.as_slice.ensures)
    (c.in_ok-first.ensures.first ∙ ap
    (first_repeated_name declared (contains nat_cmp c.loop-import.seen) c.loop-import.first)
    c.as_slice.ensures)
    (ap (λ xs. first_repeated_name declared (contains nat_cmp c.loop-import.seen)
    c.loop-import.first (names_of (map import_of xs))) (sym next) ∙ c.loop-import.invariant)
