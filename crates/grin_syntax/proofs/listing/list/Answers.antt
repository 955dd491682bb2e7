use Rattle.std.proofs.Common.{rules, ◌∙◌, take}
use Rattle.std.proofs.lemmas.List.{take_all}
use Rattle.grin_syntax.proofs.Listed.{list_put}
use Rattle.grin_syntax.proofs.listing.list.Goals as goal

pub returns : goal.returns
returns c = c.into_vec.ensures
    ∙ list_put c.args.g.now (take c.loop-proc.proc-index c.as_slice-proc-items.result.now) _ _ _
    c.new-text.ensures c.in_ok-put_globals.ensures c.loop-proc.invariant
    (take_all _ _ (search rules) ∙ search rules)
