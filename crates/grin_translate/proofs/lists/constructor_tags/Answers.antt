use Rattle.arity_check.specs.Program.{program}
use Rattle.grin_translate.specs.declared.tags.Kind.TheVariants.{Constructor}
use Rattle.grin_translate.specs.Tags.{tag_of}
use Rattle.grin_translate.proofs.Lookups.{zero_pushed}
use Rattle.grin_translate.proofs.lists.constructor_tags.Goals as goal

pub loop-c-preserved : goal.loop-c-preserved
loop-c-preserved c = zero_pushed (λ k. tag_of (program c.args.numbered.now.p.now) (Constructor k))
    c.loop-c.c c.args.before c.loop-c.made c.push.new.self c.in_ok-tag.tag c.in_ok-push.ensures.ok
    c.loop-c.invariant c.in_ok-tag.ensures
