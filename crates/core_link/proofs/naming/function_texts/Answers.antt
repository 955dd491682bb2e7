use Rattle.std.proofs.Common.{arith}
use Rattle.core_link.specs.ModuleOf.{module_of}
use Rattle.core_link.specs.Renaming.{function_texts}
use Rattle.core_link.proofs.Interned.{next_import}
use Rattle.core_link.proofs.naming.function_texts.Goals as goal

pub loop-import-preserved : goal.loop-import-preserved
loop-import-preserved c =
    next_import (module_of c.args.module.now) c.as_slice-import-items.result.now
    c.loop-import.import-index c.import-item.result c.loop-import.texts.items
    c.import_texts.new.texts.items (function_texts (module_of c.args.module.now))
    (omega arith) c.import-item.is c.in_ok-import_texts.ensures c.loop-import.invariant
