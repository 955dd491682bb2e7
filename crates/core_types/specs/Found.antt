-- The first places at which rules are broken, as the code finds them. Devices of the proofs.
use Rattle.std.specs.Prelude.{◌≡◌, ℕ, ◌≤◌, ◌==◌, nat_lt, not, ◌&&◌, ◌||◌, Bool, true, false, List, [], ◌∷◌, Option, Some, None, if◌then◌else◌}
use Rattle.std.specs.List.{list_any}
use Rattle.core_reader.specs.declared.syntax.Binder.{Binder}
use Rattle.core_reader.specs.declared.syntax.NameId.{NameId}
use Rattle.core_reader.specs.declared.syntax.Pattern.{Pattern}
use Rattle.core_reader.specs.declared.syntax.Pattern.TheVariants as pattern
use Rattle.core_reader.specs.Tree.{Expr, App, Let, Case, Alts, NoAlts, AndAlt, Function}
use Rattle.arity_check.specs.Faults.{with_member}
use Rattle.arity_check.specs.Patterns.{pattern_place}
use Rattle.arity_check.specs.Known.{Known}
use Rattle.arity_check.specs.Whole.{int_kind, nil_kind, cons_kind}
use Rattle.core_types.specs.declared.refusal.TypeFault.{TypeFault}
use Rattle.core_types.specs.declared.refusal.TypeFault.TheVariants.{DuplicateType, UnknownType, BadSignature}
use Rattle.core_types.specs.Source.{Written, WrittenTypes, Var, Named, Arrow, NoTypes, AndType, Constructor, TypeDecl, Signature, Source, count}
use Rattle.core_types.specs.Typing.{Constraint, Substitution, Solves, IsFirstUnsolved, constraints}
use Rattle.core_types.specs.Rules.{type_arity, names_constructor}

-- the first place at which something is broken, where it is broken at any
abbrev pub IsFirstPlaceWhere : (ℕ → Type 0) → Option ℕ → Type 0
IsFirstPlaceWhere P None = (at : ℕ) → P at → ⊥
IsFirstPlaceWhere P (Some at) = P at × ((at' : ℕ) → P at' → at ≤ at')

abbrev pub earlier_place_if : Bool → Option ℕ → ℕ → Option ℕ
earlier_place_if false first at = first
earlier_place_if true None at = Some at
earlier_place_if true (Some a) at = if nat_lt at a then Some at else Some a

-- a rule of a larger number was found at a place, or nowhere
abbrev pub earlier_fault : Option (ℕ × ℕ) → ℕ → Option ℕ → Option (ℕ × ℕ)
earlier_fault found k None = found
earlier_fault None k (Some at) = Some (k, at)
earlier_fault (Some f) k (Some at) = if nat_lt at f.1 then Some (k, at) else Some f

-- ---- types

-- the name of a type, where there is one
abbrev pub name_of : Option TypeDecl → Option NameId
name_of None = None
name_of (Some d) = Some d.name.name

-- the place of the first constraint that has no solution with those before it; where there is none,
-- the constraints have a solution
abbrev pub IsFirstMismatch : Source → Option ℕ → Type 0
IsFirstMismatch s None = (σ : Substitution) × Solves σ (constraints s)
IsFirstMismatch s (Some at) =
    (i : ℕ) × (c : Constraint) × IsFirstUnsolved (constraints s) i c × (c.at ≡ at)

-- ---- names that stand again

-- the first place of a name that was seen before
abbrev pub first_repeated_name : (ℕ → Bool) → Option ℕ → List Binder → Option ℕ
first_repeated_name seen first [] = first
first_repeated_name seen first (x ∷ xs) =
    first_repeated_name (with_member x.name.0 seen) (earlier_place_if (seen x.name.0) first x.at) xs

-- these names were seen too
abbrev pub with_all_seen : (ℕ → Bool) → List Binder → ℕ → Bool
with_all_seen seen [] = seen
with_all_seen seen (x ∷ xs) = with_all_seen (with_member x.name.0 seen) xs

-- a name is `Int`
abbrev pub is_int : Known → ℕ → Bool
is_int k n = int_kind (k.kind n)

-- a name is `Nil`, and `Cons`
abbrev pub is_nil_name : Known → ℕ → Bool
is_nil_name k n = nil_kind (k.kind n)

abbrev pub is_cons_name : Known → ℕ → Bool
is_cons_name k n = cons_kind (k.kind n)

-- the first name of a type that is `Int` or was seen before, or parameter that stands again
abbrev pub first_duplicate_type : Known → (ℕ → Bool) → Option ℕ → List TypeDecl → Option ℕ
first_duplicate_type k seen first [] = first
first_duplicate_type k seen first (d ∷ ds) =
    first_duplicate_type k (with_member d.name.name.0 seen)
    (first_repeated_name (λ n. false)
    (earlier_place_if (is_int k d.name.name.0)
    (earlier_place_if (seen d.name.name.0) first d.name.at) d.name.at)
    d.params) ds

abbrev pub is_unknown : Option (ℕ × ℕ) → Bool
is_unknown None = true
is_unknown (Some f) = false

-- the first signature of a function that has one or is unknown
abbrev pub first_bad_signature : Known → (ℕ → Bool) → Option ℕ → List Signature → Option ℕ
first_bad_signature k seen first [] = first
first_bad_signature k seen first (g ∷ gs) =
    first_bad_signature k (with_member g.function.name.0 seen)
    (earlier_place_if (is_unknown (k.function g.function.name.0))
    (earlier_place_if (seen g.function.name.0) first g.function.at) g.function.at) gs

-- ---- names that are unknown

abbrev pub same_count : Option ℕ → ℕ → Bool
same_count None n = false
same_count (Some m) n = m == n

-- the number of parameters of a type
abbrev pub params_of : Known → List TypeDecl → ℕ → Option ℕ
params_of k ds n = if is_int k n then Some 0 else type_arity ds n

module _ (known : ℕ → Option ℕ) where
  abbrev mutual
    -- the first place of an unknown name in a type
    pub unknown_in : (ℕ → Bool) → Option ℕ → Written → Option ℕ
    unknown_in bound first (Var b) = earlier_place_if (not (bound b.name.0)) first b.at
    unknown_in bound first (Named b args) =
        unknown_in_all bound
        (earlier_place_if (not (same_count (known b.name.0) (count args))) first b.at) args
    unknown_in bound first (Arrow from to) = unknown_in bound (unknown_in bound first from) to

    pub unknown_in_all : (ℕ → Bool) → Option ℕ → WrittenTypes → Option ℕ
    unknown_in_all bound first NoTypes = first
    unknown_in_all bound first (AndType t ts) =
        unknown_in_all bound (unknown_in bound first t) ts

  abbrev pub unknown_in_fields : (ℕ → Bool) → Option ℕ → List Constructor → Option ℕ
  unknown_in_fields bound first [] = first
  unknown_in_fields bound first (c ∷ cs) =
      unknown_in_fields bound (unknown_in_all bound first c.fields) cs

  abbrev pub unknown_in_types : Option ℕ → List TypeDecl → Option ℕ
  unknown_in_types first [] = first
  unknown_in_types first (d ∷ ds) =
      unknown_in_types
      (unknown_in_fields (with_all_seen (λ n. false) d.params) first d.constructors) ds

  abbrev pub unknown_in_signatures : Option ℕ → List Signature → Option ℕ
  unknown_in_signatures first [] = first
  unknown_in_signatures first (g ∷ gs) =
      unknown_in_signatures
      (unknown_in (λ n. true) (unknown_in_all (λ n. true) first g.args) g.result) gs

-- the first unknown name in all types and signatures
abbrev pub first_unknown_name : Known → List TypeDecl → List Signature → Option ℕ
first_unknown_name k ds gs =
    unknown_in_signatures (params_of k ds) (unknown_in_types (params_of k ds) None ds) gs

-- the first of these rules, by place and at one place by number
abbrev pub first_declaration_fault : Known → List TypeDecl → List Signature → Option (ℕ × ℕ)
first_declaration_fault k ds gs =
    earlier_fault
    (earlier_fault (earlier_fault None 81 (first_duplicate_type k (λ n. false) None ds))
    82 (first_unknown_name k ds gs)) 85
    (first_bad_signature k (λ n. false) None gs)

abbrev pub declared_fault : ℕ → ℕ → TypeFault
declared_fault k at =
    if k == 81 then DuplicateType at else if k == 82 then UnknownType at else BadSignature at

-- ---- cases that don't take every value

-- what stands among the patterns of a case: which constructors, and whether an integer and a
-- default
pub record CoveredPatterns : Type 0 where
  pub constructors : ℕ → Bool
  pub integers : Bool
  pub default : Bool

abbrev pub no_patterns : CoveredPatterns
no_patterns = record { constructors = λ n. false; integers = false; default = false }

abbrev pub with_pattern : CoveredPatterns → Pattern → CoveredPatterns
with_pattern s (pattern.Con c xs) = record {
  constructors = with_member c.name.0 s.constructors;
  integers = s.integers;
  default = s.default;
}
with_pattern s (pattern.Int k at) =
    record { constructors = s.constructors; integers = true; default = s.default }
with_pattern s (pattern.Default x) =
    record { constructors = s.constructors; integers = s.integers; default = true }

abbrev pub with_patterns : CoveredPatterns → Alts → CoveredPatterns
with_patterns s NoAlts = s
with_patterns s (AndAlt pat body rest) = with_patterns (with_pattern s pat) rest

-- a constructor is not among the patterns
abbrev pub is_missing : CoveredPatterns → Constructor → Bool
is_missing s c = not (s.constructors c.name.name.0)

-- the first type that has a constructor of this name has one that is not among the patterns
abbrev pub type_lacks_pattern : CoveredPatterns → List TypeDecl → ℕ → Bool
type_lacks_pattern s [] n = false
type_lacks_pattern s (d ∷ ds) n =
    if names_constructor n d.constructors then list_any (is_missing s) d.constructors
    else type_lacks_pattern s ds n

abbrev pub misses_constructor : List TypeDecl → CoveredPatterns → Pattern → Bool
misses_constructor ds s (pattern.Con c xs) = type_lacks_pattern s ds c.name.0
misses_constructor ds s (pattern.Int k at) = false
misses_constructor ds s (pattern.Default x) = false

-- the case with these patterns, the first of which is this, does not take every value
abbrev pub is_partial : List TypeDecl → CoveredPatterns → Pattern → Bool
is_partial ds s first = not s.default && (s.integers || misses_constructor ds s first)

abbrev pub partial_case : List TypeDecl → Option ℕ → Alts → Option ℕ
partial_case ds first NoAlts = first
partial_case ds first (AndAlt pat body rest) =
    earlier_place_if (is_partial ds (with_patterns no_patterns (AndAlt pat body rest)) pat) first
    (pattern_place pat)

module _ (ds : List TypeDecl) where
  abbrev mutual
    -- the first partial case in an expression
    pub partial_in : Option ℕ → Expr → Option ℕ
    partial_in first (App app) = first
    partial_in first (Let group body) = partial_in first body
    partial_in first (Case tested alts) =
        partial_in_alts (partial_case ds (partial_in first tested) alts) alts

    pub partial_in_alts : Option ℕ → Alts → Option ℕ
    partial_in_alts first NoAlts = first
    partial_in_alts first (AndAlt pat body rest) = partial_in_alts (partial_in first body) rest

  abbrev pub partial_in_functions : Option ℕ → List Function → Option ℕ
  partial_in_functions first [] = first
  partial_in_functions first (f ∷ fs) = partial_in_functions (partial_in first f.body) fs
