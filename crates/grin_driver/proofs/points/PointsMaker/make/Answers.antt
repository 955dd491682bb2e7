use Rattle.grin_driver.proofs.points.PointsMaker.make.Goals as goal

pub returns-in-Ok-clause-made : goal.returns-in-Ok-clause-made
returns-in-Ok-clause-made c = record {
  source = c.in_ok-accepted.ensures.accepted.source;
  program = _;
  accepted
      = c.in_ok-accepted.ensures.accepted.accepted;
  found = c.in-Ok.ensures;
}
