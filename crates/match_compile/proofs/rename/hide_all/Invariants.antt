use Rattle.std.proofs.Common.{◌≡◌, drop}
use Rattle.match_compile.specs.Renamed.{shadowing}
use Rattle.match_compile.proofs.rename.hide_all.Given as goal

abbrev pub invariant-loop-binder : goal.invariant-loop-binder
invariant-loop-binder l = shadowing (drop l.binder-index l.binders) l.scope ≡ shadowing l.binders
    l.fn.scope
