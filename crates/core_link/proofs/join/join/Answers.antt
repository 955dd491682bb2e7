use Rattle.std.proofs.Common.{◌≡◌, List, length, map, sym, ap, subst, arith, ◌∙◌, ◌<◌, ◌^◌}
use Rattle.std.specs.Prelude.{All, sum_by}
use Rattle.std.specs.List.{AllZip}
use Rattle.core_reader.specs.Different.{AreDistinct}
use Rattle.core_reader.specs.Size.{program_size}
use Rattle.core_reader.specs.Tree.{Program, program}
use Rattle.core_link.specs.declared.module.Module as code
use Rattle.core_link.specs.Module.{body}
use Rattle.core_link.specs.ModuleOf.{module_of}
use Rattle.core_link.specs.Renaming.{numbers_of, joined_constructors, joined_functions}
use Rattle.core_link.proofs.Interned.{NumberedIn}
use Rattle.core_link.proofs.Together.{part_of, joined_is_union, joined_is_readable, sizes_fit, zip_lengths}
use Rattle.core_link.proofs.join.join.Goals as goal

pub whole_size-requires : goal.whole_size-requires
whole_size-requires c = subst
    (λ (ms : List code.Module). All
    (λ (m : code.Module). program_size (body (module_of m)) < 2 ^ 64) ms)
    (sym c.as_slice.ensures.value)
    (sizes_fit c.args.modules.items c.in_order-modules.result.items c.requires
    c.in_order-modules.ensures.same)

pub all_declared-requires : goal.all_declared-requires
all_declared-requires c =
    ap length c.as_slice-3.ensures.value
    ∙ zip_lengths (NumberedIn c.in_ok-names.names) c.in_ok-modules.modules.items
    c.in_ok-names.renamings.items
    (subst (λ ms. AllZip (NumberedIn c.in_ok-names.names) ms c.in_ok-names.renamings.items)
    c.as_slice-2.ensures.value c.in_ok-names.ensures)

pub returns-clause-union : goal.returns-clause-union
returns-clause-union c =
    let all = c.in_ok-modules.modules.items in
    let rs = c.in_ok-names.renamings.items in
    let p : Program = program
    (record {
      names = c.in_ok-names.names;
      constructors
          = c.in_ok-declared.declared.constructors;
      functions = c.in_ok-declared.declared.functions;
    })
    in
    joined_is_union c.args.modules.items c.in_order-modules.result.items all rs p c.requires
    c.in_order-modules.ensures.same c.in_order-modules.ensures.order
    c.in_ok-modules.ensures.modules
    (subst (λ ms. AllZip (NumberedIn c.in_ok-names.names) ms rs) c.as_slice-2.ensures.value
    c.in_ok-names.ensures)
    (c.in_ok-declared.ensures.constructors ∙ ap
    (λ v. joined_constructors (map part_of all) (map numbers_of v)) c.as_slice-3.ensures.value)
    (c.in_ok-declared.ensures.functions ∙ ap
    (λ v. joined_functions (map part_of all) (map numbers_of v)) c.as_slice-3.ensures.value)

pub returns-clause-readable : goal.returns-clause-readable
returns-clause-readable c =
    let all = c.in_ok-modules.modules.items in
    let rs = c.in_ok-names.renamings.items in
    let p : Program = program
    (record {
      names = c.in_ok-names.names;
      constructors
          = c.in_ok-declared.declared.constructors;
      functions = c.in_ok-declared.declared.functions;
    })
    in
    let e : c.in_ok-whole_size.field-0 ≡ sum_by
    (λ (m : code.Module). program_size (body (module_of m))) c.in_order-modules.result.items
    = c.in_ok-whole_size.ensures ∙ ap
    (sum_by (λ (m : code.Module). program_size (body (module_of m)))) c.as_slice.ensures.value
    in
    joined_is_readable c.args.modules.items c.in_order-modules.result.items all rs p c.requires
    c.in_order-modules.ensures.same c.in_order-modules.ensures.order
    c.in_ok-modules.ensures.modules
    (subst (λ ms. AllZip (NumberedIn c.in_ok-names.names) ms rs) c.as_slice-2.ensures.value
    c.in_ok-names.ensures)
    (c.in_ok-declared.ensures.constructors ∙ ap
    (λ v. joined_constructors (map part_of all) (map numbers_of v)) c.as_slice-3.ensures.value)
    (c.in_ok-declared.ensures.functions ∙ ap
    (λ v. joined_functions (map part_of all) (map numbers_of v)) c.as_slice-3.ensures.value)
    (subst AreDistinct c.names.view_is c.names.invariant) (omega (arith, e))
