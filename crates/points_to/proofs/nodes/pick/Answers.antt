use Rattle.std.proofs.Common.{rules, ap, sym, ◌∙◌, ◌≡◌, ◌++◌}
use Rattle.points_to.specs.Bits.{block_words}
use Rattle.points_to.specs.Held.{words_in_part}
use Rattle.points_to.specs.Runs.{items_of_item_run}
use Rattle.points_to.proofs.Sets.{on_ok}
use Rattle.points_to.proofs.Rows.{picked_row, none_picked}
use Rattle.points_to.proofs.nodes.pick.Goals as goal

pub returns-then-same_part : goal.returns-then-same_part
returns-then-same_part c =
    let ws = block_words c.args.run.block in
    on_ok c.push_block.result (c.push_block.new.self ≡ c.args.out.now ++ ws)
    (c.push_block.new.self ≡ c.args.out.now ++ words_in_part c.args.part
    (items_of_item_run c.args.run))
    (λ e. e ∙ ap (λ l. c.args.out.now ++ l)
    (sym (picked_row c.args.part c.args.run.part ws
    (sym c.same_part.ensures ∙ c.if-same_part.true)))) c.push_block.ensures

pub returns : goal.returns
returns c =
    rw (none_picked c.args.part c.args.run.part (block_words c.args.run.block)
    (sym c.same_part.ensures ∙ c.if-same_part.false)) (search rules)
