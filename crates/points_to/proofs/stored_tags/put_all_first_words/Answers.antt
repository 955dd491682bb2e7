use Rattle.std.proofs.Common.{ℕ, List}
use Rattle.flow_system.specs.declared.fact.Element.{Element}
use Rattle.flow_system.specs.Shown.{tables_of, inclusions_of}
use Rattle.points_to.specs.declared.facts.Facts.{Facts}
use Rattle.flow_system.specs.declared.inclusion.FlowSystem.{FlowSystem}
use Rattle.points_to.specs.Known.{held}
use Rattle.points_to.specs.Rows.{words_in}
use Rattle.points_to.specs.Stored.{values_in, value_at}
use Rattle.points_to.specs.ValueWords.{stored_words}
use Rattle.points_to.proofs.Gets.{gets_none, gets_next, gets_done}
use Rattle.points_to.proofs.stored_tags.put_all_first_words.Goals as goal

abbrev first : FlowSystem → Facts → ℕ → List Element
first s f n = stored_words (tables_of s) (held f) 0 (value_at (values_in (inclusions_of s)) n)

pub loop-n-init : goal.loop-n-init
loop-n-init c = gets_none (words_in c.args.set.now)

pub loop-n-preserved : goal.loop-n-preserved
loop-n-preserved c = gets_next (first c.args.system.now c.args.facts.now) _ _ _ _ _ _
    c.loop-n-test.true c.loop-n.invariant c.in_ok-put_first_words.ensures

pub returns : goal.returns
returns c = gets_done (first c.args.system.now c.args.facts.now) _ _ _ _ c.loop-n-test.false
    c.loop-n.invariant
