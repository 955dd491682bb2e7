-- The lifted program, from the functions that were made and the names that were added.
use Rattle.std.proofs.Common.{◌≡◌, ℕ, List, [], ◌++◌, map, length, refl, ap, ◌∙◌, arith}
use Rattle.std.proofs.lemmas.List.{map-append}
use Rattle.core_reader.specs.declared.syntax.Data as code-data
use Rattle.core_reader.specs.declared.syntax.Function as code
use Rattle.core_reader.specs.Tree as core
use Rattle.lambda_reader.specs.declared.syntax.Function as text
use Rattle.lambda_reader.specs.Tree.{Program}
use Rattle.lambda_reader.specs.Code.{function}
use Rattle.lambda_lift.specs.Abstractions.{Abstraction, in_functions, abstractions}
use Rattle.lambda_lift.specs.Lifted.{lifted_functions, lifted_bodies, lifted_names, lifted}
use Rattle.lambda_lift.specs.Gathered.{program_of_names}
use Rattle.lambda_lift.specs.Growing.{with_lifted_functions}
use Rattle.lambda_lift.specs.Choosing.{program_of_parts}
use Rattle.lambda_lift.proofs.ByNames.{abstractions_same, lifted_same}
use Rattle.lambda_lift.proofs.Grown.{made_count}

grows_first : (c : Program) (xs : List Abstraction)
    → with_lifted_functions c [] xs ≡ lifted_functions c 0 xs
unfolding with_lifted_functions
grows_first c xs = refl

module _ (names : List (List ℕ)) (constructors : List code-data.Data)
    (functions : List text.Function) where
  abbrev d : Program
  d = program_of_names names

  abbrev xs : List Abstraction
  xs = in_functions d (map function functions)

  pub all_made : (start made : List code.Function) (count : ℕ) → start ≡ []
      → map core.function made ≡ with_lifted_functions d (map core.function start) xs
      → count ≡ length made
      → count ≡ length (abstractions (program_of_parts names constructors functions))
  all_made start made count none m n =
      let grown : map core.function made ≡ with_lifted_functions d [] xs
      = m ∙ ap (λ s. with_lifted_functions d (map core.function s) xs) none in
      let many : count ≡ length xs = omega (arith, n, made_count d [] made xs grown) in
      many ∙ ap length (abstractions_same (program_of_parts names constructors functions))

  pub assembled : (start made bodies all : List code.Function) (count : ℕ) (new : List (List ℕ))
      → start ≡ []
      → map core.function made ≡ with_lifted_functions d (map core.function start) xs
      → map core.function bodies ≡ lifted_bodies d (length start) (map function functions)
      → count ≡ length made → all ≡ bodies ++ made → new ≡ names ++ lifted_names 0 count
      → record {
        names = new;
        constructors = map core.data_of constructors;
        functions
            = map core.function all;
      } ≡ lifted (program_of_parts names constructors functions)
  assembled start made bodies all count new none m b n a e =
      let grown : map core.function made ≡ with_lifted_functions d [] xs
      = m ∙ ap (λ s. with_lifted_functions d (map core.function s) xs) none in
      let many : count ≡ length xs = omega (arith, n, made_count d [] made xs grown) in
      let functions' : map core.function all ≡ lifted_bodies d 0 (map function functions)
      ++ lifted_functions d 0 xs =
      ap (map core.function) a ∙ map-append core.function bodies made ∙
      (λ i. (b ∙ ap (λ s. lifted_bodies d (length s) (map function functions)) none) i
      ++ (grown ∙ grows_first d xs) i) in
      lifted_same (program_of_parts names constructors functions) new (map core.function all)
      (e ∙ ap (λ n. names ++ lifted_names 0 n) many) functions'
