use Rattle.arity_check.specs.Program.{program}
use Rattle.std.proofs.Common.{refl}
use Rattle.grin_stages.proofs.Stages.{taken, made_after}
use Rattle.grin_stages.proofs.pipeline.optimised.Goals as goal

pub optimise-requires-clause-taken : goal.optimise-requires-clause-taken
optimise-requires-clause-taken c = taken c.vectorise_takes_inlined.ensures (program c.args.p.now)
    c.requires.valid _ _ refl c.in_ok-applied.ensures.made.made

pub returns-clause-made : goal.returns-clause-made
returns-clause-made c = made_after (program c.args.p.now) _ _ _ c.in_ok-applied.ensures.made
    c.in_ok-optimised.ensures
