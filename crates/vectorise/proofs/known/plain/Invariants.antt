use Rattle.std.proofs.Common.{◌≡◌, replicate}
use Rattle.vectorise.specs.declared.known.Known.TheVariants.{Plain}
use Rattle.vectorise.proofs.known.plain.Given as goal

abbrev pub invariant-loop : goal.invariant-loop
invariant-loop l = l.known ≡ replicate l.counter Plain
