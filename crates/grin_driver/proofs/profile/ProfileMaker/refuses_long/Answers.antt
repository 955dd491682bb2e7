use Rattle.text_commands.proofs.Texts.{accepted_short}
use Rattle.grin_driver.proofs.Outcomes.{not_run_long}
use Rattle.grin_driver.proofs.profile.ProfileMaker.refuses_long.Goals as goal

pub returns : goal.returns
returns c = record {
  unmade = λ text bytes long h. accepted_short text h.from.source h.from.program long
      h.from.accepted;
  refused = not_run_long;
}
