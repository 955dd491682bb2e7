use Rattle.std.proofs.Common.{◌≡◌, [], ◌∷◌, ◌++◌, true, None, refl, sym, ap, subst, ◌∙◌}
use Rattle.std.specs.Prelude.{is_some}
use Rattle.core_link.specs.Module.{name_of}
use Rattle.core_link.specs.ModuleOf.{module_of}
use Rattle.core_link.specs.Shared.{found_at, IsIndex}
use Rattle.core_link.proofs.Tables.{none_from, index_kept, index_next}
use Rattle.core_link.proofs.between.add_exports.Goals as goal

pub returns-then-is_there : goal.returns-then-is_there
returns-then-is_there c = λ ms h.
    let there : is_some
    (found_at c.args.exports.now.entries (name_of (module_of c.args.module.now))) ≡ true =
    ap (λ w. is_some (found_at c.args.exports.now.entries w)) (sym c.text-name.ensures) ∙ sym
    c.contains_key-is_there.ensures ∙ c.if-is_there.true in
    index_kept ms (module_of c.args.module.now) c.args.exports.now.entries h there

pub returns : goal.returns
returns c = λ ms h.
    let absent : found_at c.args.exports.now.entries c.text-name.result.now ≡ None
    = none_from (found_at c.args.exports.now.entries c.text-name.result.now)
    (sym c.contains_key-is_there.ensures ∙ c.if-is_there.false) in
    subst (λ es. IsIndex (ms ++ module_of c.args.module.now ∷ []) es)
    (sym c.in_ok-insert.ensures.entries)
    (index_next _ (λ a b. refl) ms (module_of c.args.module.now) c.args.exports.now.entries
    c.text-name.result c.in_ok-texts.texts h c.text-name.ensures absent c.in_ok-texts.ensures)
