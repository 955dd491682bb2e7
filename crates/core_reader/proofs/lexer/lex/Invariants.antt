use Rattle.std.proofs.Common.{◌-◌, length}
use Rattle.core_reader.specs.LexedOf.{texts_of}
use Rattle.core_reader.proofs.Lexing.{Lexing}
use Rattle.core_reader.proofs.lexer.lex.Given as goal

abbrev pub invariant-loop-len : goal.invariant-loop-len
invariant-loop-len l = Lexing l.dialect l.text l.at l.lexemes.items (texts_of l.names.keys)

abbrev pub decreases-loop-len : goal.decreases-loop-len
decreases-loop-len l = length l.text - l.at
