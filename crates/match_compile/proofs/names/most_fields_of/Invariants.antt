use Rattle.std.proofs.Common.{◌≡◌, map, drop}
use Rattle.std.specs.Prelude.{max}
use Rattle.match_compile.specs.Translated.{most_fields_of}
use Rattle.match_compile.specs.DecisionOf.{decisions_of}
use Rattle.match_compile.proofs.names.most_fields_of.Given as goal

abbrev pub invariant-loop-decisions : goal.invariant-loop-decisions
invariant-loop-decisions l = max l.most
    (most_fields_of (map decisions_of (drop l.decisions-index l.functions))) ≡ most_fields_of
    (map decisions_of l.functions)
