use Rattle.std.proofs.Common.{take}
use Rattle.grin_syntax.specs.Tree.{program_of}
use Rattle.points_to.specs.Found.{found}
use Rattle.arity_raise.proofs.Sites.{SitesSoFar}
use Rattle.arity_raise.proofs.updated.updated_sites.Given as goal

abbrev pub invariant-loop-word : goal.invariant-loop-word
invariant-loop-word l = SitesSoFar (found l.flow) (program_of l.g) (take l.word-index l.word-items)
    l.sites.keys
