-- Constraints, where pairs of terms stand for them.
use Rattle.std.specs.Prelude.{◌≡◌, ℕ, ◌+◌, ◌==◌, if◌then◌else◌, List, [], ◌∷◌, ◌++◌, map, take, Option, Some, None, MatchOption, slice_get}
use Rattle.std.specs.Ordering.{nat_cmp}
use Rattle.std.specs.BTreeMap.{get}
use Rattle.core_reader.specs.Tree.{Application}
use Rattle.arity_check.specs.Tables.{known, first_of, or_else}
use Rattle.arity_check.specs.Whole.{known_of}
use Rattle.core_types.specs.declared.context.Context.{Context}
use Rattle.core_types.specs.declared.building.ConstraintBuilder.{ConstraintBuilder}
use Rattle.core_types.specs.declared.mismatch.Unsolved.{Unsolved}
use Rattle.core_types.specs.declared.mismatch.Mismatch.{Mismatch}
use Rattle.unification.specs.Terms.{equations}
use Rattle.unification.specs.Solutions as equal
use Rattle.unification.specs.Trees.{Tree}
use Rattle.core_types.specs.Source.{Constructor, TypeDecl, Signature, Source, erased}
use Rattle.core_types.specs.SourceOf.{source_of}
use Rattle.core_types.specs.Typing.{Typed, Int, Named, AndTyped, NoTypeds, Constraint, Substitution, Solves, IsFirstUnsolved, Locals, constraints, constructor_by_name, function_of, integers, arrows, constraint, head_place, term_type, terms_types}
use Rattle.core_types.specs.Typing as typing
use Rattle.core_types.specs.Nodes.{IsSound, Denotes, ExtendsNodes, PairsDenote}
use Rattle.core_types.specs.declared.nodes.Nodes.{Nodes}

-- what has a number in a list, where there is a number
abbrev pub element_if_some : {T : Type 0} → List T → Option ℕ → Option T
element_if_some xs None = None
element_if_some xs (Some i) = slice_get xs i

abbrev pub constructor_at : TypeDecl → ℕ → Option (TypeDecl × Constructor)
constructor_at d j = elim (slice_get d.constructors j) [ Some c ↦ Some (d, c) | None ↦ None ]

abbrev pub constructor_by_numbers : List TypeDecl → Option (ℕ × ℕ) → Option (TypeDecl × Constructor)
constructor_by_numbers ds None = None
constructor_by_numbers ds (Some p) =
    elim (slice_get ds p.0) [ Some d ↦ constructor_at d p.1 | None ↦ None ]

-- the first signature of a name from number i on
abbrev pub signature_number : List Signature → ℕ → ℕ → Option ℕ
signature_number [] i n = None
signature_number (g ∷ gs) i n =
    if g.function.name.0 == n then Some i else signature_number gs (i + 1) n

-- the first constructor of a name of type i from number j on
abbrev pub constructor_number : ℕ → List Constructor → ℕ → ℕ → Option (ℕ × ℕ)
constructor_number i [] j n = None
constructor_number i (c ∷ cs) j n =
    if c.name.name.0 == n then Some (i, j) else constructor_number i cs (j + 1) n

-- the first constructor of a name of the types from number i on
abbrev pub number_in_types : List TypeDecl → ℕ → ℕ → Option (ℕ × ℕ)
number_in_types [] i n = None
number_in_types (d ∷ ds) i n =
    or_else (constructor_number i d.constructors 0 n) (number_in_types ds (i + 1) n)

-- The tables say what names stand for in a program.
pub record IsContextOf (c : Context) (s : Source) : Type 0 where
  pub source : source_of c.source.now ≡ s
  pub names : known c.globals.now ≡ known_of (erased s)
  pub functions : (n : ℕ)
      → function_of s.functions n
      ≡ element_if_some s.functions (first_of (get nat_cmp c.globals.now.functions n))
  pub signatures : (n : ℕ)
      → typing.signature_of s.signatures n
      ≡ element_if_some s.signatures (get nat_cmp c.signatures n)
  pub constructors : (n : ℕ)
      → constructor_by_name s.types n
      ≡ constructor_by_numbers s.types (get nat_cmp c.constructors n)
  pub lists : integers s ≡ Named c.lists.0 (AndTyped Int NoTypeds)

-- what holds of each program that the tables speak of
abbrev pub InContext : Context → (Source → Type 0) → Type 0
InContext c P = (s : Source) → IsContextOf c s → P s

-- the locals of a scope have terms for their types
abbrev pub DenoteLocals : Nodes → Locals → List (ℕ × ℕ) → Type 0
DenoteLocals n [] scope = scope ≡ []
DenoteLocals n (l ∷ ls) scope =
    (x : ℕ) × (rest : List (ℕ × ℕ)) × (scope ≡ (l.0, x) ∷ rest) × Denotes n l.1 x
    × DenoteLocals n ls rest

-- The terms are sound, and these are the locals in scope.
pub record HasLocalsInScope (b : ConstraintBuilder) (ls : Locals) : Type 0 where
  pub sound : IsSound b.nodes
  pub locals : DenoteLocals b.nodes ls b.scope

-- what holds in each program that the tables speak of, with the locals in scope, where a term
-- stands for a type
abbrev pub WhereTyped : Context → ConstraintBuilder → ℕ → (Source → Locals → Typed → Type 0)
    → Type 0
WhereTyped c b x P = (s : Source) (ls : Locals) (t : Typed) → IsContextOf c s
    → HasLocalsInScope b ls → Denotes b.nodes t x → P s ls t

abbrev pub places_of : List Constraint → List ℕ
places_of cs = map (λ c. c.at) cs

-- The pairs stand for these constraints, each with its place.
pub record Stands (b : ConstraintBuilder) (cs : List Constraint) : Type 0 where
  pub pairs : PairsDenote b.nodes cs b.pairs.items
  pub places : places_of cs ≡ b.places.items

-- this is the number of the first constraint that has no solution with those before it, where there
-- is one
abbrev pub IsFirstIn : ConstraintBuilder → List Constraint → Option ℕ → Type 0
IsFirstIn b cs None = (σ : Substitution) × Solves σ cs
IsFirstIn b cs (Some i) =
    (c : Constraint) × IsFirstUnsolved cs i c × (slice_get b.places.items i ≡ Some c.at)

-- the equations between the terms of a builder's pairs
abbrev pub equations_of : ConstraintBuilder → List (Tree × Tree)
equations_of b = equations b.nodes.terms.items b.pairs.items

-- The builder holds the constraints of a program, and this is the number of the first that has no
-- solution with those before it.
pub record IsUnsolvedOf (s : Source) (u : Unsolved) : Type 0 where
  pub sound : IsSound u.builder.nodes
  pub stands : Stands u.builder (constraints s)
  pub first : IsFirstIn u.builder (constraints s) u.number
  pub terms : MatchOption u.number ((σ : equal.Substitution) × equal.Solves σ (equations_of u.builder))
      (equal.IsFirstUnsolved (equations_of u.builder))

-- The constraints of a program, the first of them that has no solution with those before it, and
-- its place.
pub record IsMismatchOf (s : Source) (m : Mismatch) : Type 0 where
  pub sound : IsSound m.builder.nodes
  pub stands : Stands m.builder (constraints s)
  pub constraint : Constraint
  pub first : IsFirstUnsolved (constraints s) m.number constraint
  pub place : constraint.at ≡ m.at
  pub before : equal.Substitution
  pub solves : equal.Solves before (take m.number (equations_of m.builder))

-- the first constraint that has no solution with those before it, or all of them have one
abbrev pub IsMismatchIn : Source → Option Mismatch → Type 0
IsMismatchIn s None = (σ : Substitution) × Solves σ (constraints s)
IsMismatchIn s (Some m) = IsMismatchOf s m

-- Pairs were added for these constraints.
pub record Adds (b b' : ConstraintBuilder) (cs : List Constraint) : Type 0 where
  pub grows : ExtendsNodes b.nodes b'.nodes
  pub scope : b'.scope ≡ b.scope
  pub stands : (before : List Constraint) → Stands b before → Stands b' (before ++ cs)

-- the constraint of an application by itself
abbrev pub application_constraint : Source → Locals → Typed → Application → Constraint
application_constraint s ls t app =
    constraint s (head_place s app.head) (term_type s ls app.head)
    (arrows (terms_types s ls app.args) t)

-- More names have types in a scope, and no pairs were added.
pub record EntersLocals (b b' : ConstraintBuilder) (ls : Locals) : Type 0 where
  pub grows : ExtendsNodes b.nodes b'.nodes
  pub pairs : b'.pairs.items ≡ b.pairs.items
  pub places : b'.places.items ≡ b.places.items
  pub more : List (ℕ × ℕ)
  pub scope : b'.scope ≡ more ++ b.scope
  pub locals : DenoteLocals b'.nodes ls b'.scope
