use Rattle.std.proofs.Common.{refl}
use Rattle.std.specs.Prelude.{◌||◌}
use Rattle.core_reader.specs.LexedOf.{texts_of}
use Rattle.core_reader.specs.Tree.{Data, data_of}
use Rattle.core_link.specs.Module.{text_in}
use Rattle.core_link.specs.ModuleOf.{module_of}
use Rattle.core_link.specs.Shared.{has, constructor_texts}
use Rattle.core_link.proofs.Steps.{next_text, put_next}
use Rattle.core_link.proofs.Tables.{inserted}
use Rattle.core_link.proofs.between.add_constructors.Goals as goal

pub loop-constructor-preserved : goal.loop-constructor-preserved
loop-constructor-preserved c =
    put_next c.loop-constructor.earlier.keys c.insert.new.self.keys c.text.result.now _ _
    (λ w. has (texts_of c.args.earlier.now.keys) w || has
    (constructor_texts (module_of c.args.module.now)) w)
    (next_text data_of (λ (d : Data). text_in (module_of c.args.module.now) d.name)
    c.as_slice-constructor-items.result.now c.loop-constructor.constructor-index _
    c.text.result.now c.loop-constructor-test.true c.text.ensures)
    (inserted _ (λ a b. refl) c.text.result c.loop-constructor.earlier.keys c.insert.new.self.keys
    c.in_ok-insert.ensures.keys)
    c.loop-constructor.invariant
