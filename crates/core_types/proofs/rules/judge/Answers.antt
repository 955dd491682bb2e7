use Rattle.std.proofs.Common.{◌≡◌, ℕ, List, Bool, true, false, map, refl, sym, ap, subst, ◌∙◌, Option, Some, None}
use Rattle.std.specs.Prelude.{◌<◌, ◌^◌, ◌==◌, if◌then◌else◌}
use Rattle.core_reader.specs.Tree.{Function, Program, program, function}
use Rattle.core_reader.specs.Size.{program_size}
use Rattle.arity_check.specs.declared.order.Order.TheVariants.{Check}
use Rattle.arity_check.specs.declared.refusal.CheckRefusal.{CheckRefusal}
use Rattle.arity_check.specs.Order.{ranks_of_order}
use Rattle.arity_check.specs.First.{IsFirstRefusal}
use Rattle.arity_check.specs.Known.{Known}
use Rattle.arity_check.specs.Tables.{known}
use Rattle.arity_check.specs.Whole.{known_of}
use Rattle.core_types.specs.Source.{TypeDecl, Source, erased}
use Rattle.core_types.specs.SourceOf.{source_of, type_of}
use Rattle.core_types.specs.Found.{first_declaration_fault, declared_fault, partial_in_functions, IsFirstMismatch}
use Rattle.core_types.specs.declared.refusal.TypeFault.TheVariants.{DuplicateType, UnknownType, BadSignature}
use Rattle.core_types.specs.Building.{IsMismatchOf, IsMismatchIn}
use Rattle.core_types.specs.Refused.{NamesFirstBrokenRule, mismatch_in}
use Rattle.core_types.proofs.Judged.{list_in, list_is, core_first, declared_is_first, list_is_first, mismatch_is_first, case_is_first, none_broken, named_integers}
use Rattle.core_types.proofs.rules.judge.Goals as goal

abbrev first_in : Source → Option (ℕ × ℕ)
first_in s = first_declaration_fault (known_of (erased s)) s.types s.signatures

-- what the first refusal of the program that was read says of that without types
refused : (s : Source) (p : Program) (o o' : Option CheckRefusal) → p ≡ erased s → o ≡ o'
    → IsFirstRefusal (ranks_of_order Check) p o → IsFirstRefusal (ranks_of_order Check) (erased s)
    o'
refused s p o o' same e h = subst (λ q. IsFirstRefusal (ranks_of_order Check) q o') same
    (subst (IsFirstRefusal (ranks_of_order Check) p) e h)

declared_is : (s : Source) (k : Known) (o o' : Option (ℕ × ℕ)) → k ≡ known_of (erased s)
    → o ≡ first_declaration_fault k s.types s.signatures → o ≡ o' → first_in s ≡ o'
declared_is s k o o' e f g = ap (λ k. first_declaration_fault k s.types s.signatures) (sym e) ∙ sym
    f ∙ g

cases_are : (s : Source) (types : List TypeDecl) (functions : List Function) (o o' : Option ℕ)
    → types ≡ s.types → functions ≡ s.functions → o ≡ partial_in_functions types None functions
    → o ≡ o' → partial_in_functions s.types None s.functions ≡ o'
cases_are s types functions o o' e f g h = (λ i. partial_in_functions (sym e i) None (sym f i)) ∙
    sym g ∙ h

no_mismatch : (k at : ℕ) → mismatch_in (declared_fault k at) ≡ None
no_mismatch k at = by (k == 81) (k == 82)
  where
    by : (a b : Bool) → mismatch_in
        (if a then DuplicateType at else if b then UnknownType at else BadSignature at) ≡ None
    by true b = refl
    by false true = refl
    by false false = refl

pub first_refusal-requires-clause-size : goal.first_refusal-requires-clause-size
first_refusal-requires-clause-size c = λ e. subst (λ (p : Program). program_size p < 2 ^ 64)
    (sym c.requires.erased) c.requires.readable.size

pub first_refusal-requires-clause-tables : goal.first_refusal-requires-clause-tables
first_refusal-requires-clause-tables c = c.requires.tables ∙ ap known_of (sym c.requires.erased)

pub returns-in-Some : goal.returns-in-Some
returns-in-Some c =
    let s : Source = source_of c.args.source.now in (
      core_first s c.in-Some.refusal
          (refused s (program c.args.source.now.core) c.in_ok-refusal.refusal
          (Some c.in-Some.refusal)
          c.requires.erased c.in-Some.is c.in_ok-refusal.ensures),
      refl,
    )

pub returns-in-Some-found : goal.returns-in-Some-found
returns-in-Some-found c =
    let s : Source = source_of c.args.source.now in
    let none = refused s (program c.args.source.now.core) c.in_ok-refusal.refusal None
    c.requires.erased c.in_default.is c.in_ok-refusal.ensures in
    let is : first_in s ≡ Some (c.in-Some-found.rule, c.in-Some-found.at)
    = declared_is s (known c.args.globals.now) c.in_ok-found.found
    (Some (c.in-Some-found.rule, c.in-Some-found.at)) c.requires.tables c.in_ok-found.ensures
    c.in-Some-found.is in
    subst (λ f. NamesFirstBrokenRule s f × (mismatch_in f ≡ None)) (sym c.fault.ensures) (
      declared_is_first s c.in-Some-found.rule c.in-Some-found.at none is,
      no_mismatch c.in-Some-found.rule c.in-Some-found.at,
    )

pub returns-in_default-list_type : goal.returns-in_default-list_type
returns-in_default-list_type c =
    let s : Source = source_of c.args.source.now in
    let k : Known = known c.args.globals.now in
    let none = refused s (program c.args.source.now.core) c.in_ok-refusal.refusal None
    c.requires.erased c.in_default.is c.in_ok-refusal.ensures in
    let is : first_in s ≡ None = declared_is s k c.in_ok-found.found None c.requires.tables
    c.in_ok-found.ensures c.in_default-found.is in
    let types = c.as_slice-types.result.now in
    let list : list_in s ≡ None = list_is s k (map type_of types) c.list_type.result None
    c.requires.tables (ap (map type_of) c.as_slice-types.ensures) c.list_type.ensures
    c.in_default-list_type.is in
    (list_is_first s none is list, refl)

pub first_mismatch-requires-clause-lists : goal.first_mismatch-requires-clause-lists
first_mismatch-requires-clause-lists c =
    let s : Source = source_of c.args.source.now in
    let k : Known = known c.args.globals.now in
    let types = c.as_slice-types.result.now in
    let list : list_in s ≡ Some c.in-Some-list_type.lists
    = list_is s k (map type_of types) c.list_type.result (Some c.in-Some-list_type.lists)
    c.requires.tables (ap (map type_of) c.as_slice-types.ensures) c.list_type.ensures
    c.in-Some-list_type.is in
    named_integers s c.in-Some-list_type.lists list

pub returns-in-Some-mismatch : goal.returns-in-Some-mismatch
returns-in-Some-mismatch c =
    let s : Source = source_of c.args.source.now in
    let k : Known = known c.args.globals.now in
    let none = refused s (program c.args.source.now.core) c.in_ok-refusal.refusal None
    c.requires.erased c.in_default.is c.in_ok-refusal.ensures in
    let is : first_in s ≡ None = declared_is s k c.in_ok-found.found None c.requires.tables
    c.in_ok-found.ensures c.in_default-found.is in
    let types = c.as_slice-types.result.now in
    let list : list_in s ≡ Some c.in-Some-list_type.lists
    = list_is s k (map type_of types) c.list_type.result (Some c.in-Some-list_type.lists)
    c.requires.tables (ap (map type_of) c.as_slice-types.ensures) c.list_type.ensures
    c.in-Some-list_type.is in
    let m = c.in-Some-mismatch.mismatch in
    let found : IsMismatchOf s m = subst (IsMismatchIn s) c.in-Some-mismatch.is
    c.in_ok-mismatch.ensures in (
      mismatch_is_first s c.in-Some-list_type.lists m.at none is list
          (m.number, found.constraint, found.first, found.place),
      found,
    )

pub returns-in-Some-partial : goal.returns-in-Some-partial
returns-in-Some-partial c =
    let s : Source = source_of c.args.source.now in
    let k : Known = known c.args.globals.now in
    let none = refused s (program c.args.source.now.core) c.in_ok-refusal.refusal None
    c.requires.erased c.in_default.is c.in_ok-refusal.ensures in
    let is : first_in s ≡ None = declared_is s k c.in_ok-found.found None c.requires.tables
    c.in_ok-found.ensures c.in_default-found.is in
    let types = c.as_slice-types.result.now in
    let list : list_in s ≡ Some c.in-Some-list_type.lists
    = list_is s k (map type_of types) c.list_type.result (Some c.in-Some-list_type.lists)
    c.requires.tables (ap (map type_of) c.as_slice-types.ensures) c.list_type.ensures
    c.in-Some-list_type.is in
    let fits : IsFirstMismatch s None = subst (IsMismatchIn s) c.in_default-mismatch.is
    c.in_ok-mismatch.ensures in
    let cases : partial_in_functions s.types None s.functions ≡ Some c.in-Some-partial.at
    = cases_are s (map type_of types) (map function c.as_slice.result.now)
    c.in_ok-partial.partial (Some c.in-Some-partial.at)
    (ap (map type_of) c.as_slice-types.ensures) (ap (map function) c.as_slice.ensures)
    c.in_ok-partial.ensures c.in-Some-partial.is in
    (case_is_first s c.in-Some-list_type.lists c.in-Some-partial.at none is list fits cases, refl)

pub returns-in-None : goal.returns-in-None
returns-in-None c =
    let s : Source = source_of c.args.source.now in
    let k : Known = known c.args.globals.now in
    let none = refused s (program c.args.source.now.core) c.in_ok-refusal.refusal None
    c.requires.erased c.in_default.is c.in_ok-refusal.ensures in
    let is : first_in s ≡ None = declared_is s k c.in_ok-found.found None c.requires.tables
    c.in_ok-found.ensures c.in_default-found.is in
    let types = c.as_slice-types.result.now in
    let list : list_in s ≡ Some c.in-Some-list_type.lists
    = list_is s k (map type_of types) c.list_type.result (Some c.in-Some-list_type.lists)
    c.requires.tables (ap (map type_of) c.as_slice-types.ensures) c.list_type.ensures
    c.in-Some-list_type.is in
    let fits : IsFirstMismatch s None = subst (IsMismatchIn s) c.in_default-mismatch.is
    c.in_ok-mismatch.ensures in
    let cases : partial_in_functions s.types None s.functions ≡ None
    = cases_are s (map type_of types) (map function c.as_slice.result.now)
    c.in_ok-partial.partial (None) (ap (map type_of) c.as_slice-types.ensures)
    (ap (map function) c.as_slice.ensures) c.in_ok-partial.ensures c.in-None.is in
    none_broken s c.in-Some-list_type.lists none is list fits cases
