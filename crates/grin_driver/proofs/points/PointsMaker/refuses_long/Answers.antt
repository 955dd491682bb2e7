use Rattle.text_commands.proofs.Texts.{refused_long, accepted_short}
use Rattle.grin_driver.proofs.points.PointsMaker.refuses_long.Goals as goal

pub returns : goal.returns
returns c = record {
  unmade = λ text bytes long h. accepted_short text h.source h.program long h.accepted;
  refused = refused_long;
}
