use Rattle.std.proofs.Common.{length, ap, ◌∙◌}
use Rattle.std.proofs.lemmas.List.{length-map}
use Rattle.grin_compile.specs.Words.{words_from}
use Rattle.grin_driver.proofs.profile.profile_of.Goals as goal

pub profiled-requires-clause-one_each : goal.profiled-requires-clause-one_each
profiled-requires-clause-one_each c =
    let starts = c.as_slice-starts.result.now in
    let code = c.as_slice.result.now in
    ap length c.as_slice-2.ensures.value ∙ ap length c.in_ok-words.ensures
    ∙ length-map starts (words_from code starts)
