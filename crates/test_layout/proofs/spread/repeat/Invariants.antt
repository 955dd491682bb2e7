use Rattle.std.proofs.Common.{◌≡◌, ◌++◌, replicate}
use Rattle.rv32_items.specs.declared.Item.TheVariants.{Plain}
use Rattle.test_layout.proofs.spread.repeat.Given as goal

abbrev pub invariant-loop : goal.invariant-loop
invariant-loop l = l.items ≡ l.initial.items ++ replicate l.counter (Plain l.instr)
