use Rattle.std.proofs.Common.{◌≡◌, map}
use Rattle.grin_syntax.specs.Tree.{procedure_of}
use Rattle.dead_store.specs.Holding.{set_holds}
use Rattle.dead_store.specs.Without.{without_procs}
use Rattle.dead_store.proofs.pass.with_bodies.Given as goal

abbrev pub invariant-loop-proc : goal.invariant-loop-proc
invariant-loop-proc l = map procedure_of l.made ≡ without_procs (set_holds l.leaving.sites.now.keys)
    (set_holds l.leaving.gone.now.keys) (map procedure_of l.yielded)
