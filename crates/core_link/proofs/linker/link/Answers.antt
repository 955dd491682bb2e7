use Rattle.std.proofs.Common.{map}
use Rattle.core_link.specs.ModuleOf.{module_of}
use Rattle.core_link.proofs.Joined.{joinable}
use Rattle.core_link.proofs.linker.link.Goals as goal

pub join-requires : goal.join-requires
join-requires c = joinable c.args.texts.now (map module_of c.in_ok-modules.modules.items)
    c.in_ok-modules.ensures.read c.in_ok-modules.ensures.unbroken c.in_ok-modules.ensures.readable
