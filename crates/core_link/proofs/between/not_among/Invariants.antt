use Rattle.std.proofs.Common.{◌≡◌, drop}
use Rattle.std.specs.Prelude.{not}
use Rattle.core_reader.specs.LexedOf.{texts_of}
use Rattle.core_link.specs.Module.{text_in}
use Rattle.core_link.specs.ModuleOf.{module_of}
use Rattle.core_link.specs.Found.{earliest}
use Rattle.core_link.specs.Shared.{has}
use Rattle.core_link.proofs.between.not_among.Given as goal

abbrev pub invariant-loop-name : goal.invariant-loop-name
invariant-loop-name l =
    earliest (λ b. not (has (texts_of l.exports.keys) (text_in (module_of l.module) b.name.0)))
    (λ b. b.at) l.first (drop l.name-index l.names)
    ≡ earliest (λ b. not (has (texts_of l.exports.keys) (text_in (module_of l.module) b.name.0)))
    (λ b. b.at) l.fn.found l.names
