use Rattle.std.proofs.Common.{arith}
use Rattle.copy_prop.proofs.Taken.{paired_not}
use Rattle.copy_prop.proofs.copies.zipped_aliases.Goals as goal

pub returns-then-vars-words : goal.returns-then-vars-words
returns-then-vars-words c = paired_not c.args.vars.now c.args.words.now
    (λ e. (let h = c.if-vars-words.true in omega (arith, h, e)))
