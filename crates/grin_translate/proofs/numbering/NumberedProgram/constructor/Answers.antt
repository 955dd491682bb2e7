use Rattle.std.proofs.Common.{◌∙◌, arith}
use Rattle.arity_check.specs.Program.{program}
use Rattle.grin_translate.proofs.Lookups.{constructor_place, constructor_absent, many_tags}
use Rattle.grin_translate.proofs.numbering.NumberedProgram.constructor.Goals as goal

pub returns-then-c-self : goal.returns-then-c-self
returns-then-c-self c = constructor_place (program c.args.self.now.p.now) c.args.c
    (omega (arith, c.args.self.now.exact.constructors))

pub returns : goal.returns
returns c = c.args.self.now.exact.tags ∙ many_tags (program c.args.self.now.p.now) ∙
    constructor_absent (program c.args.self.now.p.now) c.args.c
    (omega (arith, c.args.self.now.exact.constructors))
