use Rattle.std.proofs.Common.{◌∙◌, arith}
use Rattle.arity_check.specs.Program.{program}
use Rattle.grin_translate.proofs.Lookups.{call_place, call_absent}
use Rattle.grin_translate.proofs.numbering.NumberedProgram.place_of_call.Goals as goal

pub returns-then-f-self : goal.returns-then-f-self
returns-then-f-self c = call_place (program c.args.self.now.p.now) c.args.f
    (omega (arith, c.args.self.now.exact.functions))

pub returns : goal.returns
returns c = c.args.self.now.exact.waiting ∙ call_absent (program c.args.self.now.p.now) c.args.f
    (omega (arith, c.args.self.now.exact.functions))
