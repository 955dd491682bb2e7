use Rattle.std.proofs.Common.{refl, ap, ◌∙◌}
use Rattle.core_reader.specs.LexedOf.{texts_of}
use Rattle.core_reader.specs.Tree.{Data, data_of}
use Rattle.core_link.specs.Module.{text_in}
use Rattle.core_link.specs.ModuleOf.{module_of}
use Rattle.core_link.specs.Shared.{has}
use Rattle.core_link.proofs.Steps.{earliest_next}
use Rattle.core_link.proofs.Tables.{has_texts}
use Rattle.core_link.proofs.between.redeclared_constructor.Goals as goal

pub loop-constructor-preserved : goal.loop-constructor-preserved
loop-constructor-preserved c =
    earliest_next data_of
    (λ (d : Data). has (texts_of c.args.earlier.now.keys)
    (text_in (module_of c.args.module.now) d.name)) (λ (d : Data). d.at)
    c.as_slice-constructor-items.result.now c.loop-constructor.constructor-index _
    c.contains-is_again.result _ c.loop-constructor.first c.earlier_place_if-first.result _
    c.loop-constructor-test.true
    (c.contains-is_again.ensures ∙ has_texts c.args.earlier.now.keys c.text.result.now ∙ ap
    (has (texts_of c.args.earlier.now.keys)) c.text.ensures) refl
    c.earlier_place_if-first.ensures c.loop-constructor.invariant
