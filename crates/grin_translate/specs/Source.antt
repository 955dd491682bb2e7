-- The program of a program with its numbers.
use Rattle.arity_check.specs.Program.{Program, program}
use Rattle.grin_translate.specs.declared.numbering.NumberedProgram.{NumberedProgram}

abbrev pub source : NumberedProgram → Program
source n = program n.p.now
