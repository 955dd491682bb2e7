use Rattle.std.proofs.Common.{◌≡◌, ◌-◌, drop, length}
use Rattle.grin_syntax.specs.Tags.{part_from}
use Rattle.flow_system.proofs.starts.partial_tag.Given as goal

abbrev pub invariant-places : goal.invariant-places
invariant-places l = part_from 0 l.tags l.f.0 l.missing ≡ part_from l.place (drop l.place l.tags)
    l.f.0 l.missing

abbrev pub decreases-places : goal.decreases-places
decreases-places l = length l.tags - l.place
