use Rattle.std.proofs.Common.{◌≡◌, map, drop}
use Rattle.std.specs.Prelude.{max}
use Rattle.match_compile.specs.SourceOf.{equation_of}
use Rattle.match_compile.specs.Translated.{most_params}
use Rattle.match_compile.proofs.names.most_params.Given as goal

abbrev pub invariant-loop-equation : goal.invariant-loop-equation
invariant-loop-equation l = max l.most
    (most_params (map equation_of (drop l.equation-index l.equations))) ≡ most_params
    (map equation_of l.equations)
