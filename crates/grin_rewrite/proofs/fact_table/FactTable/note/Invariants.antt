use Rattle.std.proofs.Common.{◌≡◌, length}
use Rattle.grin_rewrite.specs.Table.{TableMatchesFacts}
use Rattle.grin_rewrite.proofs.fact_table.FactTable.note.Given as goal

abbrev pub invariant-loop : goal.invariant-loop
invariant-loop g l = record {
  many : length l.self-inside.table.items ≡ l.counter;
  same
      : l.self-inside.facts ≡ l.initial.self-inside.facts;
  table
      : TableMatchesFacts l.self-inside.facts.items l.self-inside.table.items;
}
