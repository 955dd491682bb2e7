use Rattle.std.proofs.Common.{◌≡◌, ◌++◌, take}
use Rattle.flow_listing.specs.Binders.{bound}
use Rattle.flow_listing.proofs.binder.note_vars.Given as goal

abbrev pub invariant-loop-var : goal.invariant-loop-var
invariant-loop-var l = l.out ≡ l.initial.out ++ bound (take l.var-index l.vars)
