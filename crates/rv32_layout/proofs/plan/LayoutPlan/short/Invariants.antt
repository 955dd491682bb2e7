use Rattle.rv32_layout.specs.Places.{AllShort}
use Rattle.rv32_layout.specs.Plans.{IsLayoutPlan}
use Rattle.rv32_layout.proofs.plan.LayoutPlan.short.Given as goal

abbrev pub invariant-loop : goal.invariant-loop
invariant-loop l = record {
  plan : IsLayoutPlan l.items l.plan;
  short : AllShort l.items l.plan.ways.items;
}
