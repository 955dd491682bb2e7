-- The law of looking.
use Rattle.std.proofs.Common.{ap, sym, ◌∙◌}
use Rattle.grin_meaning.specs.Keeps.{end_of}
use Rattle.grin_meaning.specs.Looking.{ChecksDecideGoodRuns}
use Rattle.grin_meaning.proofs.Looks.{look_is_run}
use Rattle.grin_meaning.proofs.LooksBack.{look_agrees, well}

pub looking_law : ChecksDecideGoodRuns
looking_law g inlined = record {
  sees = λ never runs_well i n missed. never i n
      (sym (ap end_of (look_is_run g i n inlined (runs_well i n))) ∙ missed);
  never_missing = λ never i n missing. never i n
      (ap end_of (look_agrees g i n (never i n)) ∙ missing);
  runs_well = λ never i n. well g i n (never i n);
  same = λ never i n. look_agrees g i n (never i n);
}
