use Rattle.arity_check.specs.Program.{program}
use Rattle.grin_compile.specs.Limits.{whole_words}
use Rattle.grin_compile.proofs.image.build_of_slim.Goals as goal

pub returns-clause-built : goal.returns-clause-built
returns-clause-built c = c.kept.ensures (program c.args.p.now) c.args.options.cells
    (whole_words c.args.options.stack) c.in_ok-compiled.ensures.parts
