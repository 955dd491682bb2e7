use Rattle.std.proofs.Common.{rules, length, ◌<◌}
use Rattle.grin_rewrite.proofs.Tables.{keep_within, keep_next, keep_none}
use Rattle.grin_rewrite.proofs.fact_table.FactTable.keep.Goals.{in-Some, in-None}
use Rattle.grin_rewrite.proofs.fact_table.FactTable.keep.Goals as goal

pub index_mut-requires : goal.index_mut-requires
index_mut-requires g c =
    let h : c.in-Some.fact.var.0 < length c.loop.self-inside.table.items
    = keep_within c.self.inside.facts.items c.loop.self-inside.facts.items c.pop.new.self.items
    c.in-Some.fact c.args.count c.loop.counter c.loop.self-inside.table.items
    c.in-Some.ensures.items c.loop.invariant in
    search (rules, h)

pub loop-preserved : goal.loop-preserved
loop-preserved g c = elim c.match-pop.branch [
  | in-Some w ↦ rw w.self-inside-is
      (keep_next c.self.inside.facts.items c.loop.self-inside.facts.items c.pop.new.self.items
      w.in-Some.fact c.args.count c.loop.counter c.loop.self-inside.table.items (search rules)
      w.in-Some.ensures.items c.loop.invariant)
  | in-None w ↦ keep_none c.self.inside.facts.items c.loop.self-inside.facts.items c.args.count
      c.loop.counter c.loop.self-inside.table.items (search rules) (search rules) c.loop.invariant
]
