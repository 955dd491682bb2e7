use Rattle.std.proofs.Common.{◌≡◌, ◌+◌, take, map, length}
use Rattle.core_reader.specs.Tree.{Program, term, terms_of}
use Rattle.arity_check.specs.Tables.{known}
use Rattle.arity_check.specs.Whole.{known_of}
use Rattle.arity_check.specs.Builds.{AddsArgs}
use Rattle.arity_check.proofs.Weight.{term_weight, terms_weight}
use Rattle.arity_check.proofs.flat.Builder.+build.Given as goal

abbrev pub decreases-applied : goal.decreases-applied
decreases-applied l = terms_weight (terms_of (map term l.args.now)) + 1

abbrev pub decreases-args : goal.decreases-args
decreases-args l = terms_weight (terms_of (map term l.args.now))

abbrev pub decreases-arg : goal.decreases-arg
decreases-arg l = term_weight (term l.arg.now) + 3

abbrev pub decreases-flat : goal.decreases-flat
decreases-flat l = term_weight (term l.head.now) + terms_weight (terms_of (map term l.args.now)) + 2

abbrev pub decreases-named : goal.decreases-named
decreases-named l = terms_weight (terms_of (map term l.args.now)) + 2

abbrev pub decreases-function : goal.decreases-function
decreases-function l = terms_weight (terms_of (map term l.args.now)) + 1

abbrev pub invariant-args-loop-arg : goal.invariant-args-loop-arg
invariant-args-loop-arg l = record {
  count : length l.vars ≡ l.arg-index;
  adds : (p : Program) → known l.globals ≡ known_of p
      → AddsArgs p l.scope l.initial.self l.self (terms_of (map term (take l.arg-index l.args)))
      l.vars;
}
