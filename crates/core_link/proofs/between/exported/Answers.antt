use Rattle.std.proofs.Common.{refl}
use Rattle.core_reader.specs.declared.syntax.Binder.{Binder}
use Rattle.core_link.specs.Module.{text_in}
use Rattle.core_link.specs.ModuleOf.{module_of}
use Rattle.core_link.specs.Shared.{exports_text}
use Rattle.core_link.proofs.Steps.{next_name, put_next}
use Rattle.core_link.proofs.Tables.{inserted}
use Rattle.core_link.proofs.between.exported.Goals as goal

pub loop-export-preserved : goal.loop-export-preserved
loop-export-preserved c =
    put_next c.loop-export.texts.keys c.insert.new.self.keys c.text.result.now _ _
    (exports_text (module_of c.args.module.now))
    (next_name (λ (b : Binder). text_in (module_of c.args.module.now) b.name.0)
    c.as_slice-export-items.result.now c.loop-export.export-index _ c.text.result.now
    c.loop-export-test.true c.text.ensures)
    (inserted _ (λ a b. refl) c.text.result c.loop-export.texts.keys c.insert.new.self.keys
    c.in_ok-insert.ensures.keys)
    c.loop-export.invariant
