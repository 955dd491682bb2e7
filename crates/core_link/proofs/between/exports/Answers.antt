use Rattle.std.proofs.Common.{ap, sym, subst, take, map, ◌∙◌}
use Rattle.seq.proofs.Lists.{take_next, map_push}
use Rattle.core_link.specs.ModuleOf.{module_of}
use Rattle.core_link.specs.Shared.{IsIndex}
use Rattle.core_link.proofs.between.exports.Goals as goal

pub loop-module-preserved : goal.loop-module-preserved
loop-module-preserved c =
    subst (λ ms. IsIndex ms c.add_exports.new.exports.entries)
    (sym (ap (map module_of)
    (take_next c.args.modules.now c.loop-module.module-index c.module-item.result
    c.loop-module-test.true c.module-item.is) ∙ map_push module_of
    (take c.loop-module.module-index c.args.modules.now) c.module-item.result))
    (c.in_ok-add_exports.ensures
    (map module_of (take c.loop-module.module-index c.args.modules.now))
    c.loop-module.invariant)
