-- The types that constructors and functions of a source have, by their numbers in the normal form,
-- under a solution of its constraints.
use Rattle.std.specs.Prelude.{◌≡◌, ℕ, List, map, Some, slice_get}
use Rattle.core_reader.specs.Tree as tree
use Rattle.arity_check.specs.Scope.{con_number}
use Rattle.core_types.specs.Source.{TypeDecl, Constructor, Source, erased}
use Rattle.core_types.specs.Typing.{Typed, Substitution, under, constructor_by_name, read_list, applied, param_type, result_type}
use Rattle.type_meaning.specs.Judgement.{Instance, instance}

-- The constructor of this number is of a type, and from its fields, as this is read for the type's
-- parameters, it gives that type.
pub record ConstructorHasType (s : Source) (c : ℕ) (ts : List Typed) (t : Typed) : Type 0 where
  pub name : ℕ
  pub number : con_number (erased s) name ≡ Some c
  pub type : TypeDecl
  pub constructor : Constructor
  pub declared : constructor_by_name s.types name ≡ Some (type, constructor)
  pub var : ℕ → Typed
  pub fields : ts ≡ read_list s var constructor.fields
  pub result : t ≡ applied s type var

-- A function has its own type under the solution, for whatever variables of signatures stand.
pub record FunctionHasType (s : Source) (σ : Substitution) (f : ℕ) (ts : List Typed) (t : Typed)
    : Type 0 where
  pub function : tree.Function
  pub is : slice_get s.functions f ≡ Some function
  pub ρ : Instance
  pub params : ts ≡ map (λ b. instance ρ (under σ (param_type s function b))) function.params
  pub result : t ≡ instance ρ (under σ (result_type s function))
