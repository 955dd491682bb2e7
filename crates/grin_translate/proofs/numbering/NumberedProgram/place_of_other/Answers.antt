use Rattle.std.proofs.Common.{rules, length, ap, arith}
use Rattle.arity_check.specs.Program.{program}
use Rattle.grin_translate.proofs.Lookups.{functions_within, other_found}
use Rattle.grin_translate.proofs.numbering.NumberedProgram.place_of_other.Goals as goal

pub rest-others-requires : goal.rest-others-requires
rest-others-requires c = omega (
  arith,
  ap length c.as_slice.ensures,
  ap length c.args.self.now.exact.delays,
  c.args.self.now.exact.functions,
  functions_within (program c.args.self.now.p.now),
)

pub returns : goal.returns
returns c = other_found (program c.args.self.now.p.now) c.args.delay
    c.args.self.now.numbers.functions c.place_in.result c.rest-others.result.now
    c.args.self.now.numbers.delays c.args.self.now.exact.functions c.args.self.now.exact.delays
    (search rules) c.place_in.ensures.place
