use Rattle.std.proofs.Common.{rules}
use Rattle.arity_check.specs.Program.{program}
use Rattle.grin_translate.proofs.Lookups.{number_place}
use Rattle.grin_translate.proofs.numbering.NumberedProgram.tag.Goals as goal

pub returns-in-Number : goal.returns-in-Number
returns-in-Number c = search (rules, number_place (program c.args.self.now.p.now))
