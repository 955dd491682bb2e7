use Rattle.std.proofs.Common.{refl, ap, ◌∙◌}
use Rattle.std.specs.Prelude.{not}
use Rattle.core_reader.specs.declared.syntax.Binder.{Binder}
use Rattle.core_reader.specs.LexedOf.{texts_of}
use Rattle.core_link.specs.Module.{text_in}
use Rattle.core_link.specs.ModuleOf.{module_of}
use Rattle.core_link.specs.Shared.{has}
use Rattle.core_link.proofs.Steps.{earliest_item}
use Rattle.core_link.proofs.Tables.{has_texts}
use Rattle.core_link.proofs.between.not_among.Goals as goal

pub loop-name-preserved : goal.loop-name-preserved
loop-name-preserved c =
    earliest_item
    (λ (b : Binder). not
    (has (texts_of c.args.exports.now.keys) (text_in (module_of c.args.module.now) b.name.0)))
    (λ (b : Binder). b.at) c.args.names.now c.loop-name.name-index _
    (not c.contains-is_unknown.result) _ c.loop-name.first c.earlier_place_if-first.result _
    c.loop-name-test.true
    (ap not (c.contains-is_unknown.ensures ∙ has_texts c.args.exports.now.keys c.text.result.now ∙
    ap (has (texts_of c.args.exports.now.keys)) c.text.ensures)) refl
    c.earlier_place_if-first.ensures c.loop-name.invariant
