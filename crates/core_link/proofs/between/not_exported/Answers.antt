use Rattle.std.proofs.Common.{◌≡◌, ◌+◌, ◌∷◌, ap, sym, ◌∙◌, Some, None, drop, map}
use Rattle.std.specs.Prelude.{not}
use Rattle.std.specs.List.{flat_map}
use Rattle.std.specs.Option.{option_copied}
use Rattle.seq.proofs.Lists.{drop_next}
use Rattle.core_reader.specs.declared.syntax.Binder.{Binder}
use Rattle.core_reader.specs.LexedOf.{texts_of}
use Rattle.core_link.specs.Module.{Module, text_in}
use Rattle.core_link.specs.ModuleOf.{module_of, import_of}
use Rattle.core_link.specs.Found.{earliest}
use Rattle.core_link.specs.Shared.{has, found_at}
use Rattle.core_link.proofs.Takings.{pairs}
use Rattle.core_link.proofs.Steps.{is_lacking, place_of_name, lacking_next, lacking_some, lacking_none}
use Rattle.core_link.proofs.between.not_exported.Goals.{in-Some, in_default}
use Rattle.core_link.proofs.between.not_exported.Goals as goal

pub loop-import-preserved : goal.loop-import-preserved
loop-import-preserved c =
    let m : Module = module_of c.args.module.now in
    let entries = c.args.exports.now.entries in
    let items = c.as_slice-import-items.result.now in
    let i = c.loop-import.import-index in
    let x = c.import-item.result in
    let next : drop i items ≡ x ∷ drop (i + 1) items
    = drop_next items i x c.loop-import-test.true ∙ ap (λ y. y ∷ drop (i + 1) items)
    (sym c.import-item.is) in
    let before = ap
    (λ xs. earliest (is_lacking m entries) (place_of_name m entries) c.loop-import.first
    (flat_map pairs (map import_of xs))) (sym next) ∙ c.loop-import.invariant in
    elim c.match-get.branch [
      | in-Some w ↦
          let found : found_at entries (text_in m x.from.name.0) ≡ Some w.in-Some.exported.now
          = ap (found_at entries) (sym c.text.ensures) ∙ sym c.get.ensures.value ∙ ap
          option_copied w.in-Some.is in
          lacking_next m entries (import_of x) (map import_of (drop (i + 1) items))
          c.loop-import.first c.match-get.first _
          (w.first-is ∙ w.not_among-first.ensures ∙ ap
          (earliest
          (λ (b : Binder). not
          (has (texts_of w.in-Some.exported.now.keys) (text_in m b.name.0)))
          (λ (b : Binder). b.at) c.loop-import.first) w.as_slice.ensures
          ∙ lacking_some m entries x.from.name.0 x.names c.loop-import.first w.in-Some.exported.now
          found) before
      | in_default w ↦
          let found : found_at entries (text_in m x.from.name.0) ≡ None
          = ap (found_at entries) (sym c.text.ensures) ∙ sym c.get.ensures.value ∙ ap
          option_copied w.in_default.is in
          lacking_next m entries (import_of x) (map import_of (drop (i + 1) items))
          c.loop-import.first c.match-get.first _
          (w.first-is ∙ lacking_none m entries x.from.name.0 x.names c.loop-import.first found)
          before
    ]
