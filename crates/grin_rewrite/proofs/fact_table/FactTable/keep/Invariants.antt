use Rattle.grin_rewrite.proofs.Tables.{Keeping}
use Rattle.grin_rewrite.proofs.fact_table.FactTable.keep.Given as goal

abbrev pub invariant-loop : goal.invariant-loop
invariant-loop g l = Keeping l.initial.self-inside.facts.items l.count l.counter
    l.self-inside.facts.items l.self-inside.table.items
