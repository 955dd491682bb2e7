use Rattle.update_special.proofs.pass.with_literal_tags.Goals as goal

pub returns : goal.returns
returns c = record { solution = _; least = c.in_ok-flow.ensures; made = c.in_ok-h.ensures }
