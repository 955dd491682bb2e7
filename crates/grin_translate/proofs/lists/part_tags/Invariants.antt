use Rattle.std.proofs.Common.{◌≡◌, ◌++◌, map}
use Rattle.arity_check.specs.Program.{program}
use Rattle.grin_translate.specs.Tags.{function_parts, tag_of}
use Rattle.grin_translate.proofs.lists.part_tags.Given as goal

abbrev pub invariant-parts : goal.invariant-parts
invariant-parts l = l.made ++ map (tag_of (program l.numbered.p.now)) (function_parts l.f l.missing)
    ≡ l.initial.made ++ map (tag_of (program l.numbered.p.now))
    (function_parts l.f l.initial.missing)

abbrev pub decreases-parts : goal.decreases-parts
decreases-parts l = l.missing
