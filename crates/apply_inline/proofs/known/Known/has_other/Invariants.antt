use Rattle.std.proofs.Common.{◌≡◌, [], map, take}
use Rattle.std.specs.List.{filter}
use Rattle.grin_syntax.specs.Tree.{program_of}
use Rattle.points_to.specs.Found.{found}
use Rattle.apply_inline.specs.Applied.{meets_other}
use Rattle.apply_inline.proofs.known.Known.has_other.Given as goal

abbrev pub invariant-loop-t : goal.invariant-loop-t
invariant-loop-t l = filter
    (meets_other (program_of l.self.program.now) (found l.self.flow.now) l.v)
    (map (λ t. t.0) (take l.t-index l.t-items)) ≡ []
