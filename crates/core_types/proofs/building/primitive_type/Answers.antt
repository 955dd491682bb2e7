use Rattle.core_types.proofs.Follows.{ok_then}
use Rattle.core_types.specs.Typing.{Int, Arrow}
use Rattle.core_types.proofs.Denoting.{grows_then}
use Rattle.core_types.proofs.Instancing.{gives_then}
use Rattle.core_types.proofs.building.primitive_type.Goals as goal

pub returns : goal.returns
returns c = ok_then c.arrow-2.result c.arrow-2.ensures (λ at given.
    λ h.
    let n = c.args.nodes.now in
    let n' = c.integer.new.self in
    let n'' = c.arrow.new.self in
    let i = c.in_ok-integer.ensures h in
    let a = c.in_ok-second.ensures Int Int i.grows.sound i.denotes i.denotes in
    gives_then n n'' c.arrow-2.new.self (Arrow Int (Arrow Int Int)) at
    (grows_then n n' n'' i.grows a.grows)
    (given Int (Arrow Int Int) a.grows.sound
    (a.grows.one Int c.in_ok-integer.integer i.denotes) a.denotes))
