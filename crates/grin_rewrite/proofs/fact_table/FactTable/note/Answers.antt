use Rattle.std.proofs.Common.{◌≡◌, arith, rules, sym, ap, ◌∙◌}
use Rattle.grin_rewrite.specs.Table.{facts_of, note}
use Rattle.grin_rewrite.proofs.Tables.{facts_push, table_grown, table_next}
use Rattle.grin_rewrite.proofs.fact_table.FactTable.note.Goals as goal

pub invariant_of-self-2 : goal.invariant_of-self-2
invariant_of-self-2 g c =
    let same : c.loop.self-inside.facts.items ≡ c.args.self.now = search rules in
    table_next c.loop.self-inside.facts.items c.push-2.new.self.items c.loop.self-inside.table.items
    c.args.var c.args.known c.known_of-before.result c.loop.invariant.table
    (omega (arith, c.loop.invariant.many, c.loop-test.false))
    (c.known_of-before.ensures ∙ ap (λ l. facts_of l c.args.var.0) (sym same))
    c.in_ok-push-2.ensures.items

pub returns-clause-facts : goal.returns-clause-facts
returns-clause-facts g c =
    let same : c.loop.self-inside.facts.items ≡ c.args.self.now = search rules in
    facts_push c.loop.self-inside.facts.items c.push-2.new.self.items _ c.in_ok-push-2.ensures.items
    ∙ ap (λ l. note c.args.var c.args.known (facts_of l)) same

pub loop-preserved : goal.loop-preserved
loop-preserved g c =
    let n = table_grown _ _ _ _ c.loop.invariant.table c.loop.invariant.many
    c.in_ok-push.ensures.items in
    record { many = n.0; same = c.loop.invariant.same; table = n.1 }
