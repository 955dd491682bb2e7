use Rattle.std.proofs.Common.{rules, ◌≡◌, ◌≤◌, ◌<◌, ℕ, List, length, get_or, sym, ◌∙◌, subst, arith}
use Rattle.grin_syntax.specs.Formed.{AllOf}
use Rattle.grin_syntax.specs.Tree.{act_of}
use Rattle.low_translate.specs.Lowered.{ActEnds, ActGives}
use Rattle.low_translate.proofs.Widths.{all_few, each_gives, width_more, few_more, gives_more, all_give, proc_ends}
use Rattle.low_translate.proofs.LastOps.{last_gives}
use Rattle.low_translate.proofs.results.results.Goals as goal

pub loop-f-preserved : goal.loop-f-preserved
loop-f-preserved c =
    let i = c.loop-f.invariant in
    let d = c.in_ok-width.ensures in
    let j = c.join_all.ensures in
    let n : ℕ = length c.args.procs.now in
    let ends : ActEnds n c.args.node 13 (act_of c.deref.result.now)
    = proc_ends c.args.node c.args.procs.now c.loop-f.f c.index-procs-f.result
    c.deref.result.now c.loop-f-test.true c.index-procs-f.is c.deref.ensures c.requires in
    record {
      many = j.many ∙ i.many;
      ordered = j.ordered;
      each = width_more c.loop-f.widths.items _ _ _ i.each c.in_ok-push.ensures.items;
      few = few_more c.loop-f.widths.items _ _ 13 i.few (d.narrow n ends)
          c.in_ok-push.ensures.items;
      gives = λ rs p x q lt e le. gives_more c.args.node rs c.loop-f.widths.items _ _ c.loop-f.f x
          c.args.procs.now q c.index-procs-f.result i.each c.in_ok-push.ensures.items
          c.index-procs-f.is lt e c.loop-f-test.true le
          (λ k. last_gives c.args.node rs (get_or rs c.loop-f.f 0) c.index-procs-f.result.body
          (subst (λ u. ActGives c.args.node rs (get_or rs c.loop-f.f 0) (act_of u))
          c.deref.ensures
          (d.gives rs (get_or rs c.loop-f.f 0)
          (all_give rs _ (get_or rs c.loop-f.f 0)
          (subst (AllOf (λ h. get_or rs h 0 ≡ get_or rs c.loop-f.f 0)) c.as_slice.ensures.value
          (j.joined (λ h. get_or rs h 0) p))) k)))
          (λ l k. i.gives rs (j.older (λ h. get_or rs h 0) p) x q l e k);
    }

pub join_all-requires-clause-known : goal.join_all-requires-clause-known
join_all-requires-clause-known c =
    let n : ℕ = length c.args.procs.now in
    let ends : ActEnds n c.args.node 13 (act_of c.deref.result.now)
    = proc_ends c.args.node c.args.procs.now c.loop-f.f c.index-procs-f.result
    c.deref.result.now c.loop-f-test.true c.index-procs-f.is c.deref.ensures c.requires in
    subst (λ k. AllOf (λ h. h < k) c.as_slice.result.now) (sym c.loop-f.invariant.many)
    (subst (AllOf (λ h. h < n)) (sym c.as_slice.ensures.value)
    (c.in_ok-width.ensures.known n ends
    (subst (AllOf (λ h. h < n)) (sym c.new-calls.ensures.items) tt)))

pub overflow_cast-width : goal.overflow_cast-width
overflow_cast-width c =
    let ends : ActEnds (length c.args.procs.now) c.args.node 13 (act_of c.deref.result.now)
    = proc_ends c.args.node c.args.procs.now c.loop-f.f c.index-procs-f.result
    c.deref.result.now c.loop-f-test.true c.index-procs-f.is c.deref.ensures c.requires in
    let h : c.in_ok-width.width ≤ 13 = c.in_ok-width.ensures.narrow (length c.args.procs.now) ends
    in
    let b : c.in_ok-width.width < 4294967296 = omega (arith, h) in
    search rules

pub returns-clause-gives : goal.returns-clause-gives
returns-clause-gives c =
    let rs : List ℕ = c.spread_over_groups.new.values.items in
    let i = c.loop-f.invariant in
    let all : length rs ≡ c.loop-f.f = c.spread_over_groups.ensures.many ∙ c.raise.ensures.many ∙
    i.each in
    let end : c.loop-f.f ≡ length c.args.procs.now = search rules in
    each_gives c.args.node rs rs c.args.procs.now (all ∙ end)
    (λ x q lt e. i.gives rs c.spread_over_groups.ensures.same x q (omega (arith, lt, end)) e
    (let a = c.raise.ensures.more x in let b = c.spread_over_groups.ensures.more x
    in omega (arith, a, b)))

pub returns-clause-few : goal.returns-clause-few
returns-clause-few c = all_few 13 _
    (c.spread_over_groups.ensures.few 13 (c.raise.ensures.few 13 c.loop-f.invariant.few))
