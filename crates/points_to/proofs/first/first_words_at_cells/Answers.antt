use Rattle.flow_system.specs.declared.fact.Part.TheVariants.{Word as word}
use Rattle.points_to.specs.Known.{held}
use Rattle.points_to.specs.Held.{words_in_part, cell_items}
use Rattle.points_to.proofs.Loops.{flat_next, flat_done}
use Rattle.points_to.proofs.first.first_words_at_cells.Goals as goal

pub loop-word-preserved : goal.loop-word-preserved
loop-word-preserved c = flat_next
    (λ w. words_in_part (word 0) (cell_items (held c.args.facts.now) w)) _ _ _ _ _ _
    c.loop-word-test.true c.loop-word.invariant c.in_ok-first_at.ensures

pub returns : goal.returns
returns c = flat_done (λ w. words_in_part (word 0) (cell_items (held c.args.facts.now) w)) _ _ _ _
    c.loop-word-test.false c.loop-word.invariant
