use Rattle.pass_known.proofs.pass.with_known_words.Goals as goal

pub returns : goal.returns
returns c = record { solution = _; least = c.in_ok-flow.ensures; made = c.in_ok-h.ensures }
