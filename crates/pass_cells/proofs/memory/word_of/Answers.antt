use Rattle.std.proofs.Common.{rules}
use Rattle.pass_cells.specs.Memory.{told}
use Rattle.pass_cells.specs.Entries.{memories}
use Rattle.pass_cells.proofs.Listed.{told_next, all_is}
use Rattle.pass_cells.proofs.memory.word_of.Goals as goal

pub loop-entry-preserved : goal.loop-entry-preserved
loop-entry-preserved c = told_next _ _ _ _ _ _ _ c.loop-entry-test.true c.entry-item.is
    (search rules) c.loop-entry.invariant

pub returns : goal.returns
returns c = all_is (λ es. told (memories es c.args.x.0) c.args.i) _ _ _ c.loop-entry-test.false
    c.loop-entry.invariant
