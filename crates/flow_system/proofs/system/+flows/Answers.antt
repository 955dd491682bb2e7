use Rattle.std.proofs.Common.{rules, ◌≤◌, ◌++◌, length, take, subst, ap, ◌∙◌}
use Rattle.grin_syntax.specs.Tree.{program_of}
use Rattle.flow_system.specs.System.{cells_flow}
use Rattle.flow_system.specs.Shown.{shown, sink_of}
use Rattle.flow_system.proofs.SoFar.{FlowsSoFar, flows_next, flows_done, arms_flow_next, arms_flow_done, store_flows, bind_flows}
use Rattle.flow_system.proofs.system.+flows.Goals as goal

pub alts_flow-loop-alt-preserved : goal.alts_flow-loop-alt-preserved
alts_flow-loop-alt-preserved t c = arms_flow_next _ _ _ _ _ _ _ _ _ _ c.loop-alt-test.true
    c.alt-item.is c.loop-alt.invariant c.in_ok-shape_flows.ensures c.in_ok-block_flows.ensures

pub alts_flow-returns : goal.alts_flow-returns
alts_flow-returns t c = arms_flow_done _ _ _ _ _ _ _ c.loop-alt-test.false c.loop-alt.invariant

pub block_flows-loop-stmt-preserved : goal.block_flows-loop-stmt-preserved
block_flows-loop-stmt-preserved t c = flows_next _ _ _ _ _ _ _ _ c.loop-stmt-test.true
    c.stmt-item.is c.loop-stmt.invariant c.in_ok-stmt_flows.ensures

pub block_flows-returns : goal.block_flows-returns
block_flows-returns t c =
    flows_done (program_of c.args.g.now) (sink_of c.args.sink.now) (shown c.args.out.now)
    (shown c.loop-stmt.out) (shown c.op_flows.new.out) c.args.block.now c.loop-stmt.stmt-index
    (subst (λ ss. length ss ≤ c.loop-stmt.stmt-index) c.as_slice-stmt-items.ensures
    c.loop-stmt-test.false)
    (subst (λ ss. FlowsSoFar (program_of c.args.g.now) (sink_of c.args.sink.now)
    (shown c.args.out.now) (shown c.loop-stmt.out) (take c.loop-stmt.stmt-index ss))
    c.as_slice-stmt-items.ensures c.loop-stmt.invariant)
    (search rules)

pub stmt_flows-returns-in_ok-cells_flow-in-Store : goal.stmt_flows-returns-in_ok-cells_flow-in-Store
stmt_flows-returns-in_ok-cells_flow-in-Store t c =
    store_flows (program_of c.args.g.now) (sink_of c.args.sink.now) (shown c.args.out.now)
    (shown c.cells_flow.new.out) c.args.stmt.now c.in-Store.cells c.in-Store.is
    (c.in_ok-cells_flow-in-Store.ensures ∙ ap
    (λ cs. shown c.args.out.now ++ cells_flow (program_of c.args.g.now) cs) c.as_slice.ensures)

pub stmt_flows-returns-in_ok-bind_flows-in-Bind : goal.stmt_flows-returns-in_ok-bind_flows-in-Bind
stmt_flows-returns-in_ok-bind_flows-in-Bind t c =
    bind_flows (program_of c.args.g.now) (sink_of c.args.sink.now) (shown c.args.out.now)
    (shown c.bind_flows.new.out) c.args.stmt.now c.in-Bind.target c.in-Bind.op c.in-Bind.is
    c.in_ok-bind_flows-in-Bind.ensures
