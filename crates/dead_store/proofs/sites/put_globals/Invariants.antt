use Rattle.std.proofs.Common.{map, take}
use Rattle.points_to.specs.Joined.{Joined}
use Rattle.dead_store.proofs.sites.put_globals.Given as goal

abbrev pub invariant-loop-cell : goal.invariant-loop-cell
invariant-loop-cell l = Joined l.initial.sites.keys
    (map (λ c. c.site.0) (take l.cell-index l.globals)) l.sites.keys
