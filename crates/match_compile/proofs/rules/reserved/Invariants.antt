use Rattle.std.proofs.Common.{◌≡◌, drop, None}
use Rattle.core_reader.specs.LexedOf.{texts_of}
use Rattle.match_compile.specs.Refusal.{least_refusal}
use Rattle.match_compile.specs.Faults.{reserved_faults}
use Rattle.match_compile.proofs.rules.reserved.Given as goal

abbrev pub invariant-loop-lexeme : goal.invariant-loop-lexeme
invariant-loop-lexeme l = least_refusal l.first
    (reserved_faults (texts_of l.names) (drop l.lexeme-index l.lexemes)) ≡ least_refusal None
    (reserved_faults (texts_of l.names) l.lexemes)
