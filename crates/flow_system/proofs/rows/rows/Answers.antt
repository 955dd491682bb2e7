use Rattle.std.proofs.Common.{rules, arith, ◌≡◌, ◌+◌, ◌∙◌}
use Rattle.flow_system.proofs.Numbered.{empty_are, inclusion_noted, shown_more, many_shown}
use Rattle.flow_system.proofs.rows.rows.Goals as goal

pub loop-inclusion-init : goal.loop-inclusion-init
loop-inclusion-init c = record
    { counted = search rules; noted = empty_are _ _ _ c.len.ensures c.in_ok-rows.ensures }

pub loop-inclusion-preserved : goal.loop-inclusion-preserved
loop-inclusion-preserved c =
    let counted : c.in_ok-number.number ≡ c.loop-inclusion.inclusion-index + 1 = search rules in
    record {
      counted = counted;
      noted = inclusion_noted _ _ _ _ _ _ _ _
          (c.loop-inclusion.invariant.counted ∙ many_shown _ _ (omega arith))
          (shown_more _ _ _ c.loop-inclusion-test.true c.inclusion-item.is)
          (search rules) c.loop-inclusion.invariant.noted c.in_ok-note_sets.ensures;
    }
