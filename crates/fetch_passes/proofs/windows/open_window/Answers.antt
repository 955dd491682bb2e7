use Rattle.std.proofs.Common.{sym, subst, suc, rules}
use Rattle.grin_syntax.specs.Tree.{act_of, end}
use Rattle.fetch_passes.specs.Notes.{nothing, code_trace}
use Rattle.fetch_passes.specs.Asked.{BeginsWithAct}
use Rattle.fetch_passes.proofs.Firsts.{code_from, code_none}
use Rattle.fetch_passes.proofs.Asking.{passed_none, store_comes, bind_begins, fetch_passed, begins_last}
use Rattle.fetch_passes.proofs.windows.open_window.Goals as goal

pub loop-stmt-init : goal.loop-stmt-init
loop-stmt-init c = passed_none c.args.notes.now c.args.tag.0 _ c.args.span c.requires

pub returns-in-Store : goal.returns-in-Store
returns-in-Store c = store_comes c.args.notes.now c.args.tag.0 c.args.stmts.now
    (end (act_of c.args.last.now)) c.args.span c.loop-stmt.stmt-index c.stmt-item.result
    c.loop-stmt.now c.in-Store.field-0 c.unowned.result c.loop-stmt-test.true c.stmt-item.is
    c.in-Store.is c.loop-stmt.invariant c.unowned.ensures

pub returns-then-not-is_passed : goal.returns-then-not-is_passed
returns-then-not-is_passed c =
    let last = end (act_of c.args.last.now) in
    c.in_ok-window-in-Bind.ensures (code_from c.args.stmts.now 0 last)
    (code_from c.args.stmts.now c.loop-stmt.stmt-index last)
    (code_trace (code_from c.args.stmts.now (suc c.loop-stmt.stmt-index) last))
    c.loop-stmt.invariant
    (bind_begins c.args.notes.now c.args.tag.0 c.args.stmts.now last c.args.span
    c.loop-stmt.stmt-index c.stmt-item.result c.in-Bind.field-0 c.in-Bind.op
    c.loop-stmt-test.true c.stmt-item.is c.in-Bind.is (search rules))

pub loop-stmt-preserved : goal.loop-stmt-preserved
loop-stmt-preserved c =
    fetch_passed c.args.notes.now c.args.tag.0 c.args.stmts.now (end (act_of c.args.last.now))
    c.args.span c.loop-stmt.stmt-index c.stmt-item.result c.loop-stmt.now c.in_ok-now.now
    c.in-Bind.field-0 c.in-Bind.op c.loop-stmt-test.true c.stmt-item.is c.in-Bind.is
    (search rules)
    c.in_ok-now.ensures.follows c.in_ok-now.ensures.past c.loop-stmt.invariant

pub returns : goal.returns
returns c =
    let last = end (act_of c.args.last.now) in
    c.in_ok-window.ensures (code_from c.args.stmts.now 0 last)
    (code_from c.args.stmts.now c.loop-stmt.stmt-index last) nothing c.loop-stmt.invariant
    (subst (λ k. BeginsWithAct c.args.tag.0 (act_of c.args.last.now) k nothing)
    (sym (code_none c.args.stmts.now c.loop-stmt.stmt-index last c.loop-stmt-test.false))
    (begins_last c.args.notes.now c.args.tag.0 c.args.last.now))
