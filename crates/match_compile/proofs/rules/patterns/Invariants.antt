use Rattle.std.proofs.Common.{◌≡◌, drop, map}
use Rattle.std.specs.Ordering.{nat_cmp}
use Rattle.std.specs.BTreeMap.{get}
use Rattle.match_compile.specs.SourceOf.{equation_of}
use Rattle.match_compile.specs.Refusal.{least_refusal}
use Rattle.match_compile.specs.Faults.{patterns_faults}
use Rattle.match_compile.proofs.rules.patterns.Given as goal

abbrev pub invariant-loop-equation : goal.invariant-loop-equation
invariant-loop-equation l = least_refusal l.first
    (patterns_faults l.texts (λ x. get nat_cmp l.fields x)
    (map equation_of (drop l.equation-index l.equations))) ≡ least_refusal l.initial.first
    (patterns_faults l.texts (λ x. get nat_cmp l.fields x) (map equation_of l.equations))
