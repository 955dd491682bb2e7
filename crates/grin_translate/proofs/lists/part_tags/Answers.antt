use Rattle.std.proofs.Common.{◌-◌, arith}
use Rattle.arity_check.specs.Program.{program}
use Rattle.grin_translate.proofs.Listed.{part_more}
use Rattle.grin_translate.proofs.lists.part_tags.Goals as goal
use Rattle.std.proofs.Common.{◌∙◌}

pub parts-preserved : goal.parts-preserved
parts-preserved c = part_more (program c.args.numbered.now.p.now) c.args.f c.parts.missing
    (c.parts.missing - 1) c.parts.made c.push.new.self c.in_ok-tag.tag (omega arith)
    c.in_ok-push.ensures.ok c.in_ok-tag.ensures ∙ c.parts.invariant
