use Rattle.std.proofs.Common.{◌≡◌, ◌++◌, map}
use Rattle.arity_check.specs.Program.{program}
use Rattle.grin_translate.specs.declared.tags.Kind.TheVariants.{Constructor}
use Rattle.grin_translate.specs.Tags.{tag_of}
use Rattle.grin_translate.proofs.lists.constructor_tags.Given as goal
use Rattle.seq.specs.Lists.{numbers_from}

abbrev pub invariant-loop-c : goal.invariant-loop-c
invariant-loop-c l = l.made ≡ l.initial.made ++ map
    (λ c. tag_of (program l.numbered.p.now) (Constructor c)) (numbers_from 0 l.c)
