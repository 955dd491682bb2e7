-- What the reading of all tokens answers.
use Rattle.std.specs.Prelude.{◌≡◌, List, [], map, Result, Ok, Err}
use Rattle.core_reader.specs.declared.token.Lexeme.{Lexeme}
use Rattle.core_reader.specs.declared.parser.Declarations.{Declarations}
use Rattle.core_reader.specs.declared.refusal.ReadRefusal.{ReadRefusal}
use Rattle.core_reader.specs.Tree.{data_of, function}
use Rattle.core_reader.specs.Grammar.{at_most_200, Decl, constructors_of, functions_of}
use Rattle.core_reader.specs.Machine.{Fails}
use Rattle.core_reader.specs.Declaring.{top, run}

abbrev pub ReadsProgram : List Lexeme → Result Declarations ReadRefusal → Type 0
ReadsProgram text (Ok decls) =
    (ds : List Decl) × (constructors_of ds ≡ map data_of decls.constructors.items)
    × (functions_of ds ≡ map function decls.functions.items)
    × (run at_most_200 (top []) text ≡ Ok ds)
ReadsProgram text (Err e) = Fails e (run at_most_200 (top []) text)
