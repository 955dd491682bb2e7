use Rattle.std.proofs.Common.{ap, arith}
use Rattle.inline_theory.specs.Expanded.{eval_body_size, tags_size}
use Rattle.apply_inline.proofs.known.Known.evaluation_size.Goals as goal

pub returns : goal.returns
returns c = let e = ap (tags_size eval_body_size c.args.self.now.program.now.tags)
    c.tags_met-tags.ensures in omega arith
