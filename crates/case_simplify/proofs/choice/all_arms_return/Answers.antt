use Rattle.std.proofs.Common.{rules, true, false, sym, ◌∙◌}
use Rattle.case_simplify.proofs.Statements.{returned_at}
use Rattle.case_simplify.proofs.choice.all_arms_return.Goals as goal

pub returns-then-not-returns_val : goal.returns-then-not-returns_val
returns-then-not-returns_val c = sym
    (c.alts.invariant ∙ returned_at c.args.u.now c.args.alts.now c.alts.alt-index c.alt-item.result
    _ false c.alts-test.true c.alt-item.is c.returns_val.ensures (search rules))

pub alts-preserved : goal.alts-preserved
alts-preserved c = c.alts.invariant ∙ returned_at c.args.u.now c.args.alts.now c.alts.alt-index
    c.alt-item.result _ true c.alts-test.true c.alt-item.is c.returns_val.ensures (search rules)
