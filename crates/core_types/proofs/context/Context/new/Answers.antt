use Rattle.std.proofs.Common.{refl, ap, map, ◌∙◌}
use Rattle.core_types.specs.Source.{Source}
use Rattle.core_types.specs.SourceOf.{source_of, signature_of, type_of}
use Rattle.core_types.specs.Building.{signature_number, number_in_types}
use Rattle.core_types.proofs.Meant.{function_found}
use Rattle.core_types.proofs.Numbered.{signature_found, constructor_found}
use Rattle.core_types.proofs.context.Context.new.Goals as goal

pub returns : goal.returns
returns c =
    let s : Source = source_of c.args.source.now in
    record {
      source = refl;
      names = c.requires.tables;
      functions = λ n. function_found c.args.globals.now s c.requires.tables n;
      signatures = λ n. signature_found s.signatures n _
          (c.in_ok-signatures.ensures n ∙ ap (λ gs. signature_number (map signature_of gs) 0 n)
          c.as_slice.ensures);
      constructors = λ n. constructor_found s.types n _
          (c.in_ok-constructors.ensures n ∙ ap (λ ds. number_in_types (map type_of ds) 0 n)
          c.as_slice-2.ensures);
      lists = c.requires.lists;
    }
