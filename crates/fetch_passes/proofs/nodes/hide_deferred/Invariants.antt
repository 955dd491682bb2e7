use Rattle.std.proofs.Common.{◌≡◌, take}
use Rattle.fetch_passes.specs.Names.{with_hidden}
use Rattle.fetch_passes.proofs.nodes.hide_deferred.Given as goal

abbrev pub invariant-loop-wait : goal.invariant-loop-wait
invariant-loop-wait l = l.names ≡ with_hidden (take l.wait-index l.waits) l.initial.names
