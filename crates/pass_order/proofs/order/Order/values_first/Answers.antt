use Rattle.std.proofs.Common.{rules, map, sym, ap, ◌∙◌}
use Rattle.std.proofs.lemmas.Iterator.Adapters.{YieldsList-from_vec}
use Rattle.std.proofs.lemmas.Iterator.Consumers.{YieldsList-end}
use Rattle.grin_syntax.specs.Tree.{arm_of, arms_of}
use Rattle.seq.proofs.Lists.{map_same}
use Rattle.pass_order.proofs.Loops.{call_waits, value_stands, else_stands, all_parted, called, not_else}
use Rattle.pass_order.proofs.order.Order.values_first.Goals as goal
use Rattle.pass_order.proofs.order.Order.values_first.Goals.{then-is_else+in_ok-append, else-is_else}

pub loop-alt-preserved-then-is_delayed_call : goal.loop-alt-preserved-then-is_delayed_call
loop-alt-preserved-then-is_delayed_call c = rw c.in_ok-push.ensures.ok
    (call_waits _ _ _ _ c.loop-alt.invariant c.in-Some.alt
    (called _ c.in-Some.alt _ (sym c.is_delayed_call.ensures ∙ c.if-is_delayed_call.true)))

pub loop-alt-preserved : goal.loop-alt-preserved
loop-alt-preserved c =
    let alt = c.in-Some.alt in
    let d = c.args.self.now.delayed in
    let no = called d alt _ (sym c.is_delayed_call.ensures ∙ c.if-is_delayed_call.false) in
    let pushed = c.in_ok-push-2.ensures.ok in
    elim c.if-is_else.branch [
      | then-is_else+in_ok-append w ↦
          rw (
            pushed,
            w.made-is,
            w.in_ok-append.ensures.ok,
            w.calls-is,
            w.new-calls-then-is_else.ensures,
          )
          (else_stands d c.loop-alt.made c.loop-alt.calls c.loop-alt.yielded c.loop-alt.invariant
          alt
          no (not_else alt _ (sym c.is_else.ensures ∙ w.if-is_else.true)))
      | else-is_else w ↦
          rw (pushed, w.made-is, w.calls-is)
          (value_stands d c.loop-alt.made c.loop-alt.calls c.loop-alt.yielded c.loop-alt.invariant
          alt
          no (not_else alt _ (sym c.is_else.ensures ∙ w.if-is_else.false)))
    ]

pub returns : goal.returns
returns c =
    let all = YieldsList-end (YieldsList-from_vec c.args.alts (search rules) (search rules))
    c.loop-alt.yielded c.loop-alt.alt-iterator c.loop-alt.yielded_by _ c.next.new.self
    c.in-None.is c.next.ensures.steps in
    ap (λ l. arms_of (map arm_of l)) c.in_ok-append-2.ensures.ok
    ∙ all_parted c.args.self.now.delayed c.loop-alt.made c.loop-alt.calls c.loop-alt.yielded
    c.args.alts (sym (map_same c.loop-alt.yielded) ∙ all.0) c.loop-alt.invariant
