use Rattle.std.proofs.Common.{rules, get_or}
use Rattle.low_translate.proofs.Operations.{first_done, first_rest}
use Rattle.low_translate.proofs.Emitting.{adds_get}
use Rattle.low_translate.proofs.blocks.read_byte.Goals as goal

pub returns-in_ok-set_words : goal.returns-in_ok-set_words
returns-in_ok-set_words c = first_done _ _ _ (get_or c.args.vars.now 0 0) c.args.vars.now _ _
    (first_rest c.args.vars.now (search rules)) (adds_get _ _ _ c.in_ok-emit.ensures)
    c.in_ok-set_words.ensures
