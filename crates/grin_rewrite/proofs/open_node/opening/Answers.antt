use Rattle.std.proofs.Common.{◌+◌, ap, ◌∙◌}
use Rattle.grin_rewrite.specs.Opening.{opening_room}
use Rattle.grin_rewrite.proofs.OpenedLoop.{kept_yes, kept_no, kept_all, one_more, opened}
use Rattle.grin_rewrite.proofs.open_node.opening.Goals.{in-Some+in_ok-alternative+in_ok-push, in_default}
use Rattle.grin_rewrite.proofs.open_node.opening.Goals as goal

pub loop-t-preserved : goal.loop-t-preserved
loop-t-preserved g c =
    let ts = c.args.tags.now in
    let meets = g.O.Opens.meets c.args.of.now in
    elim c.match-met.branch [
      | in-Some+in_ok-alternative+in_ok-push w ↦
          rw (
            w.alts-is,
            w.fresh-is,
            w.in_ok-push.ensures.ok,
            kept_yes meets ts c.loop-t.t-index _ c.loop-t-test.true w.in-Some.ensures.0,
          )
          (one_more (g.O.Opens.tags c.args.of.now) (g.O.Opens.opening c.args.of.now)
          c.args.fresh.now.next c.loop-t.alts _ c.loop-t.fresh.next _ _ _ _ c.loop-t.invariant
          w.in-Some.ensures.1 w.in_ok-alternative.ensures.is w.in_ok-alternative.ensures.next)
      | in_default w ↦
          rw (
            w.alts-is,
            w.fresh-is,
            kept_no meets ts c.loop-t.t-index _ c.loop-t-test.true
                w.in_default.ensures,
          ) c.loop-t.invariant
    ]

pub returns-clause-is : goal.returns-clause-is
returns-clause-is g c =
    opened (g.O.Opens.tags c.args.of.now) (g.O.Opens.opening c.args.of.now) c.args.fresh.now.next
    c.loop-t.alts _ _ _ _ c.loop-t.fresh.next c.loop-t.invariant
    (kept_all (g.O.Opens.meets c.args.of.now) c.args.tags.now c.loop-t.t-index
    c.loop-t-test.false) c.in_ok-append.ensures.ok c.in_ok-last.ensures

pub returns-clause-next : goal.returns-clause-next
returns-clause-next g c =
    c.loop-t.invariant.room ∙ ap
    (λ l. c.args.fresh.now.next + opening_room (g.O.Opens.tags c.args.of.now)
    (g.O.Opens.opening c.args.of.now).more l)
    (kept_all (g.O.Opens.meets c.args.of.now) c.args.tags.now c.loop-t.t-index
    c.loop-t-test.false)
