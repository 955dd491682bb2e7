use Rattle.std.proofs.Common.{rules}
use Rattle.grin_translate.proofs.Delayed.{numbers_made}
use Rattle.grin_translate.proofs.numbering.Numbers.new.Goals as goal

pub returns : goal.returns
returns c = numbers_made c.args.p.now _ (search rules) (search rules) (search rules) (search rules)
    (search rules) (search rules) (search rules) (search rules)
