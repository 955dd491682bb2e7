use Rattle.std.proofs.Common.{length, rules}
use Rattle.grin_driver.proofs.Summaries.{summary_is}
use Rattle.grin_driver.proofs.generate.summary.Goals as goal
use Rattle.seq.specs.Lists.{sum_of}

pub returns : goal.returns
returns c =
    summary_is c.args.bytes c.args.functions c.args.size (length c.args.output.now)
    (sum_of c.args.output.now)
    c.push_named.new.self c.push_named-2.new.self c.push_named-3.new.self c.push_named-4.new.self
    c.push_named-5.new.self c.push.new.self
    (search (rules, c.push_named.ensures.named)) (search (rules, c.push_named-2.ensures.named))
    (search (rules, c.push_named-3.ensures.named))
    (search (rules, c.push_named-4.ensures.named)) (search (rules, c.push_named-5.ensures.named))
    c.push.ensures
