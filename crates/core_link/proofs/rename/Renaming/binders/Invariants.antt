use Rattle.std.proofs.Common.{◌≡◌, map}
use Rattle.core_link.specs.Renaming.{numbers_of, renamed_binder}
use Rattle.core_link.proofs.rename.Renaming.binders.Given as goal

abbrev pub invariant-loop-binder : goal.invariant-loop-binder
invariant-loop-binder l = l.made ≡ map (renamed_binder (numbers_of l.self)) l.yielded
