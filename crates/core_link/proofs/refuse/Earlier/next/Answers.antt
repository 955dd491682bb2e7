use Rattle.std.proofs.Common.{◌≡◌, ℕ, List, None, refl, sym, ap, subst, ◌∙◌}
use Rattle.std.specs.Prelude.{◌||◌, not}
use Rattle.std.specs.Str.{bytes_eq}
use Rattle.core_reader.specs.LexedOf.{texts_of}
use Rattle.core_link.specs.Module.{Module, name_of}
use Rattle.core_link.specs.ModuleOf.{module_of}
use Rattle.core_link.specs.Rules.{BreaksInterModuleRule}
use Rattle.core_link.specs.Found.{NamesFirstBrokenRule, sooner, earlier_place_if}
use Rattle.core_link.specs.Shared.{has}
use Rattle.core_link.proofs.Tables.{inserted, has_texts, not_not, holds_next}
use Rattle.core_link.proofs.Nexts.{by_tables, tables_first}
use Rattle.core_link.proofs.refuse.Earlier.next.Goals as goal

pub returns : goal.returns
returns c = λ ms file is index holds taking.
    let m : Module = module_of c.args.module.now in
    let entries = c.args.exports.now.entries in
    let named = c.args.self.now.names.keys in
    let declared = c.args.self.now.constructors.keys in
    let again : (not c.in_ok-is_new.is_new) ≡ has (texts_of named) (name_of m)
    = ap not c.in_ok-is_new.ensures.added ∙ not_not _ ∙ has_texts named c.text-name.result.now ∙
    ap (has (texts_of named)) c.text-name.ensures in
    let place : c.earlier_place_if-named_again.result ≡ earlier_place_if
    (has (texts_of named) (name_of m)) None m.name.at
    = c.earlier_place_if-named_again.ensures ∙ ap (λ b. earlier_place_if b None m.name.at) again
    in
    let same : c.first_rule.result ≡ by_tables m entries named declared c.args.taking =
    c.first_rule.ensures ∙
    (λ j. sooner
    (sooner (sooner
    (sooner (sooner (sooner None 52 (place j)) 53 (c.unknown_import_module-source.ensures j)) 54
    (c.not_exported-unexported.ensures j)) 56 c.args.taking.again) 57 c.args.taking.unknown) 58
    (c.redeclared_constructor-constructor.ensures j)) in
    let first = subst (NamesFirstBrokenRule (λ k at. BreaksInterModuleRule ms k file at)) (sym same)
    (tables_first m entries named declared c.args.taking ms file is index holds taking) in
    let names : (w : List ℕ) → has (texts_of c.insert.new.self.keys) w ≡
    (has (texts_of named) w || bytes_eq w (name_of m)) =
    λ w. inserted _ (λ a b. refl) c.text-name.result named c.insert.new.self.keys
    c.in_ok-is_new.ensures.keys w ∙ ap (λ u. has (texts_of named) w || bytes_eq w u)
    c.text-name.ensures in (
      first,
      holds_next ms file m named declared c.insert.new.self.keys
          c.add_constructors.new.earlier.keys is holds names c.in_ok-add_constructors.ensures,
    )
