use Rattle.std.proofs.Common.{ℕ, length, refl, ap, ◌∙◌, arith, Option}
use Rattle.std.specs.Ordering.{nat_cmp}
use Rattle.std.specs.BTreeMap.{get}
use Rattle.match_compile.specs.Refusal.{least_refusal}
use Rattle.match_compile.specs.Faults.{with_equation, order_faults}
use Rattle.match_compile.proofs.Walks.{more_orders}
use Rattle.match_compile.proofs.rules.orders.Goals as goal

pub loop-equation-preserved : goal.loop-equation-preserved
loop-equation-preserved c =
    let x = c.equation-item.result in
    let old : ℕ → Option ℕ = λ y. get nat_cmp c.loop-equation.arities y in
    let new : ℕ → Option ℕ = λ y. get nat_cmp c.first_arity.new.arities y in
    let counted = ap length c.as_slice-count.ensures in
    more_orders old new c.loop-equation.last _ c.args.equations.now c.loop-equation.equation-index x
    (omega arith) c.equation-item.is _ c.loop-equation.first c.order-first.result
    (λ y. c.in_ok-arity.ensures.kept y ∙ ap (λ n. with_equation x.name.0 n old y) counted)
    refl
    (c.order-first.ensures ∙
    (λ i. least_refusal c.loop-equation.first
    (order_faults (c.in_ok-arity.ensures.before i) (c.is_last.ensures i) (counted i) x.at)))
    c.loop-equation.invariant
