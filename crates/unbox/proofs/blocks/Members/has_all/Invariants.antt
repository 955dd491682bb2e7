use Rattle.std.proofs.Common.{◌≡◌, take}
use Rattle.unbox_theory.specs.Ends.{is_member}
use Rattle.unbox.specs.Ties.{all_in}
use Rattle.unbox.proofs.blocks.Members.has_all.Given as goal

abbrev pub invariant-loop-f : goal.invariant-loop-f
invariant-loop-f l = l.all ≡ all_in (is_member l.self.inside) (take l.f-index l.procs)
