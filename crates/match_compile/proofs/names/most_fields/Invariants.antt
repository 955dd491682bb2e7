use Rattle.std.proofs.Common.{◌≡◌, drop}
use Rattle.std.specs.Prelude.{max}
use Rattle.match_compile.specs.Translated.{most_fields}
use Rattle.match_compile.specs.DecisionOf.{decisions_of}
use Rattle.match_compile.proofs.names.most_fields.Given as goal

abbrev pub invariant-loop-decision : goal.invariant-loop-decision
invariant-loop-decision l = max l.most
    (most_fields (decisions_of (drop l.decision-index l.decisions))) ≡ max l.least
    (most_fields (decisions_of l.decisions))
