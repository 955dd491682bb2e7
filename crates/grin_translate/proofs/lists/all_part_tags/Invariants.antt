use Rattle.std.proofs.Common.{◌≡◌, ◌++◌, map, drop}
use Rattle.arity_check.specs.Program.{program}
use Rattle.grin_translate.specs.Tags.{parts, tag_of}
use Rattle.grin_translate.proofs.lists.all_part_tags.Given as goal

abbrev pub invariant-loop-f : goal.invariant-loop-f
invariant-loop-f l = l.made ++ map (tag_of (program l.numbered.p.now))
    (parts (drop l.f (program l.numbered.p.now).funs) l.f) ≡ l.initial.made
    ++ map (tag_of (program l.numbered.p.now)) (parts (program l.numbered.p.now).funs 0)
