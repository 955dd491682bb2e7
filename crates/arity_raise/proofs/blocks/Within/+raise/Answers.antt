use Rattle.std.proofs.Common.{◌≡◌, ◌+◌, map, sym, ap, ◌∙◌, subst, rules}
use Rattle.std.proofs.lemmas.Iterator.Adapters.{YieldsList-from_vec}
use Rattle.std.proofs.lemmas.Iterator.Consumers.{YieldsList-end}
use Rattle.grin_syntax.specs.declared.program.Op.TheVariants.{Case}
use Rattle.grin_syntax.specs.Tree.{act_of, before_of, all_before}
use Rattle.raise_theory.specs.Raising.{decided, new_before, new_act, new_code, raised_act, raised_code}
use Rattle.arity_raise.proofs.Rewritten.{AllRaise, one_more, one_more_alt, store_raised, store_takes, bind_raised, bind_takes, case_done, case_room}
use Rattle.arity_raise.proofs.blocks.Within.+raise.Goals as goal
use Rattle.seq.proofs.Lists.{map_same}

pub stmt-returns-in_ok-push-in-Store-clause-is : goal.stmt-returns-in_ok-push-in-Store-clause-is
stmt-returns-in_ok-push-in-Store-clause-is t c =
    let D = c.args.self.now.all.now in
    let N = decided c.args.self.now.own.now c.args.self.now.params.now in
    let x = c.args.fresh.now.next in
    λ b. store_raised D N x c.args.made.now _ c.in-Store.cells b c.in_ok-push-in-Store.ensures.ok
    ∙ ap (λ s. all_before (map before_of c.args.made.now) (raised_code D N x (before_of s b)))
    (sym c.in-Store.is)

pub stmt-returns-in_ok-push-in-Store-clause-next : goal.stmt-returns-in_ok-push-in-Store-clause-next
stmt-returns-in_ok-push-in-Store-clause-next t c =
    let D = c.args.self.now.all.now in
    let x = c.args.fresh.now.next in
    λ b. store_takes D x c.in-Store.cells b ∙ ap (λ s. x + new_code D (before_of s b))
    (sym c.in-Store.is)

pub stmt-returns-in_ok-push-in-Bind-clause-is : goal.stmt-returns-in_ok-push-in-Bind-clause-is
stmt-returns-in_ok-push-in-Bind-clause-is t c =
    let D = c.args.self.now.all.now in
    let N = decided c.args.self.now.own.now c.args.self.now.params.now in
    let x = c.args.fresh.now.next in
    λ b. bind_raised D N x c.op.new.fresh.next c.args.made.now c.op.new.made _ c.in-Bind.target
    c.in_ok-raised-in-Bind.raised c.in-Bind.op b
    c.in_ok-raised-in-Bind.ensures.stmts c.in_ok-raised-in-Bind.ensures.is
    c.in_ok-raised-in-Bind.ensures.next c.in_ok-push-in-Bind.ensures.ok
    ∙ ap (λ s. all_before (map before_of c.args.made.now) (raised_code D N x (before_of s b)))
    (sym c.in-Bind.is)

pub stmt-returns-in_ok-push-in-Bind-clause-next : goal.stmt-returns-in_ok-push-in-Bind-clause-next
stmt-returns-in_ok-push-in-Bind-clause-next t c =
    let D = c.args.self.now.all.now in
    let x = c.args.fresh.now.next in
    λ b. bind_takes D x c.op.new.fresh.next c.in-Bind.target c.in-Bind.op b
    c.in_ok-raised-in-Bind.ensures.next ∙ ap (λ s. x + new_code D (before_of s b))
    (sym c.in-Bind.is)

pub block-loop-stmt-preserved : goal.block-loop-stmt-preserved
block-loop-stmt-preserved t c =
    one_more c.args.self.now.all.now (decided c.args.self.now.own.now c.args.self.now.params.now) _
    _ _ _ _ _ _ c.loop-stmt.invariant c.in_ok-stmt.ensures.is c.in_ok-stmt.ensures.next

pub op-loop-alt-preserved : goal.op-loop-alt-preserved
op-loop-alt-preserved t c = record {
  scrutinee = c.loop-alt.invariant.scrutinee;
  before = c.loop-alt.invariant.before;
  some = rw c.in_ok-push-in-Case.ensures.ok
      (one_more_alt c.args.self.now.all.now
      (decided c.args.self.now.own.now c.args.self.now.params.now) _ _ _ _ _ _ _
      c.loop-alt.invariant.some c.in_ok-alt-in-Case.ensures.pattern c.in_ok-alt-in-Case.ensures.body
      c.in_ok-alt-in-Case.ensures.next);
}

pub op-returns-in-None-clause-is : goal.op-returns-in-None-clause-is
op-returns-in-None-clause-is t c =
    let D = c.args.self.now.all.now in
    let N = decided c.args.self.now.own.now c.args.self.now.params.now in
    let x = c.args.fresh.now.next in
    let all = YieldsList-end (YieldsList-from_vec c.in-Case.alts (search rules) (search rules))
    c.loop-alt.yielded c.loop-alt.alt-iterator c.loop-alt.yielded_by _ c.next.new.self
    c.in-None.is c.next.ensures.steps in
    let e : c.loop-alt.yielded ≡ c.in-Case.alts = sym (map_same c.loop-alt.yielded) ∙ all.0 in
    ap (λ v. act_of (Case v c.loop-alt.arms)) c.loop-alt.invariant.scrutinee
    ∙ case_done D N x c.in-Case.v c.loop-alt.arms c.in-Case.alts c.loop-alt.fresh.next
    (subst (λ l. AllRaise D N x c.loop-alt.arms l c.loop-alt.fresh.next) e
    c.loop-alt.invariant.some)
    ∙ ap (λ o. raised_act D N x (act_of o)) (sym c.in-Case.is)

pub op-returns-in-None-clause-next : goal.op-returns-in-None-clause-next
op-returns-in-None-clause-next t c =
    let D = c.args.self.now.all.now in
    let N = decided c.args.self.now.own.now c.args.self.now.params.now in
    let x = c.args.fresh.now.next in
    let all = YieldsList-end (YieldsList-from_vec c.in-Case.alts (search rules) (search rules))
    c.loop-alt.yielded c.loop-alt.alt-iterator c.loop-alt.yielded_by _ c.next.new.self
    c.in-None.is c.next.ensures.steps in
    let e : c.loop-alt.yielded ≡ c.in-Case.alts = sym (map_same c.loop-alt.yielded) ∙ all.0 in
    case_room D N x c.in-Case.v c.loop-alt.arms c.in-Case.alts c.loop-alt.fresh.next
    (subst (λ l. AllRaise D N x c.loop-alt.arms l c.loop-alt.fresh.next) e
    c.loop-alt.invariant.some)
    ∙ ap (λ o. x + (new_before D (act_of o) + new_act D (act_of o))) (sym c.in-Case.is)
