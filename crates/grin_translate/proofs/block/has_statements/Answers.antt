use Rattle.std.proofs.Common.{rules}
use Rattle.grin_translate.proofs.Pushed.{plain_block, store_block, bind_block}
use Rattle.grin_translate.proofs.block.has_statements.Goals as goal

pub returns-in-None : goal.returns-in-None
returns-in-None c = plain_block c.args.block.now (search rules)

pub returns-in-Store : goal.returns-in-Store
returns-in-Store c = store_block c.args.block.now c.in-Store.field-0 (search rules)

pub returns-in-Bind : goal.returns-in-Bind
returns-in-Bind c = bind_block c.args.block.now c.in-Bind.field-0 c.in-Bind.field-1 (search rules)
