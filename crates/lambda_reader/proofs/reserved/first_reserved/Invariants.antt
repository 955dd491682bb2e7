use Rattle.std.proofs.Common.{◌≡◌, drop}
use Rattle.core_reader.specs.LexedOf.{texts_of}
use Rattle.lambda_reader.specs.Reserving.{first_reserved}
use Rattle.lambda_reader.proofs.reserved.first_reserved.Given as goal

abbrev pub invariant-loop-lexeme : goal.invariant-loop-lexeme
invariant-loop-lexeme l = first_reserved (texts_of l.names) l.lexemes ≡ first_reserved
    (texts_of l.names) (drop l.lexeme-index l.lexemes)
