-- The rules that equations have to keep, each by what breaks it and where, and which broken rule is
-- named.
use Rattle.std.specs.Prelude.{◌≡◌, ◌≢◌, ℕ, ◌<◌, ◌≤◌, ◌⊎◌, ◌==◌, nat_eq, Bool, true, List, [], ◌∷◌, ◌++◌, Option, Some, None, slice_get, codes, if◌then◌else◌}
use Rattle.std.specs.List.{starts_with}
use Rattle.seq.specs.Lists.{In, or_empty}
use Rattle.core_reader.specs.declared.dialect.Dialect.TheVariants.{Core}
use Rattle.core_reader.specs.declared.syntax.Binder.{Binder}
use Rattle.core_reader.specs.declared.refusal.ReadRefusal.TheVariants as unread
use Rattle.core_reader.specs.TokensOf.{Piece, IsTokens}
use Rattle.core_reader.specs.Tree.{Data}
use Rattle.match_compile.specs.declared.refusal.MatchRefusal.{MatchRefusal}
use Rattle.match_compile.specs.declared.refusal.MatchRefusal.TheVariants as refusal
use Rattle.match_compile.specs.Source.{Source, Equation}
use Rattle.match_compile.specs.Parts.{count, names_of, constructors_of}
use Rattle.match_compile.specs.Grammar.{IsSourceText, BreaksNoReadingRule, IsReadCause}

-- x stands in the list, behind these
pub record Behind {X : Type 0} (before : List X) (x : X) (xs : List X) : Type 0 where
  pub after : List X
  pub is : xs ≡ before ++ x ∷ after

abbrev pub text_in : List (List ℕ) → ℕ → List ℕ
text_in names x = or_empty (slice_get names x)

-- the number of fields of a constructor, by its first declaration
abbrev pub fields_in : List Data → ℕ → Option ℕ
fields_in [] x = None
fields_in (d ∷ ds) x = if d.name == x then Some d.fields else fields_in ds x

-- the number of patterns of the first equation of a function
abbrev pub arity_in : List Equation → ℕ → Option ℕ
arity_in [] x = None
arity_in (e ∷ es) x = if e.name == x then Some (count e.pats) else arity_in es x

abbrev pub last_name : List Equation → Option ℕ
last_name [] = None
last_name (e ∷ []) = Some e.name
last_name (e ∷ f ∷ es) = last_name (f ∷ es)

-- the name begins with `match'`
abbrev pub is_reserved : List ℕ → Bool
is_reserved name = starts_with nat_eq name (codes "match'")

-- rule k is broken at a place of the equations
pub data Broken (c : Source) : (k at : ℕ) → Type 0 where
  DuplicateFunction : {before : List Equation} {e : Equation} {n : ℕ}
      → Behind before e c.equations → arity_in before e.name ≡ Some n
      → last_name before ≢ Some e.name → Broken c 12 e.at
  DuplicateName : {e : Equation} {before : List Binder} {x y : Binder} → In e c.equations
      → Behind before y (names_of e.pats) → In x before → x.name.0 ≡ y.name.0
      → text_in c.names y.name.0 ≢ codes "_" → Broken c 13 y.at
  UnknownName : {e : Equation} {con : Binder × ℕ} → In e c.equations
      → In con (constructors_of e.pats) → fields_in c.constructors con.0.name.0 ≡ None
      → Broken c 14 con.0.at
  ArityDiffers : {before : List Equation} {e : Equation} {n : ℕ}
      → Behind before e c.equations → arity_in before e.name ≡ Some n → n ≢ count e.pats
      → Broken c 71 e.at
  PatternArity : {e : Equation} {con : Binder × ℕ} {n : ℕ} → In e c.equations
      → In con (constructors_of e.pats) → fields_in c.constructors con.0.name.0 ≡ Some n
      → n ≢ con.1 → Broken c 73 con.0.at

-- rule 74 is broken at a place of the text: a name begins with `match'`
pub record IsReserved (text : List ℕ) (at : ℕ) : Type 0 where
  pub pieces : List Piece
  pub tokens : IsTokens Core text pieces
  pub name : Piece
  pub stands : In name pieces
  pub begins : is_reserved name.bytes ≡ true
  pub place : name.at ≡ at

-- rule k is broken at a place of a text that can be read
pub data BrokenIn (text : List ℕ) : (k at : ℕ) → Type 0 where
  OfSource : (c : Source) {k at : ℕ} → IsSourceText text c → Broken c k at → BrokenIn text k at
  ReservedMatch : {at : ℕ} → IsReserved text at → BrokenIn text 74 at

-- no rule is broken
pub record IsUnbroken (text : List ℕ) : Type 0 where
  pub read : BreaksNoReadingRule text
  pub sound : (k at : ℕ) → BrokenIn text k at → ⊥

-- Rule k is broken at a place of a text that can be read, and no broken rule comes before it, by
-- place, and at one place by number.
pub record IsFirstBroken (text : List ℕ) (k at : ℕ) : Type 0 where
  pub read : BreaksNoReadingRule text
  pub broken : BrokenIn text k at
  pub first : (k' at' : ℕ) → BrokenIn text k' at' → (at < at') ⊎ ((at ≡ at') × (k ≤ k'))

-- the rule and the place that a refusal names; the rules 1 to 5 come before the others
abbrev pub IsCause : List ℕ → MatchRefusal → Type 0
IsCause text (refusal.BadByte at) = IsReadCause text (unread.BadByte at)
IsCause text (refusal.Syntax at) = IsReadCause text (unread.Syntax at)
IsCause text (refusal.NumberRange at) = IsReadCause text (unread.NumberRange at)
IsCause text (refusal.TooDeep at) = IsReadCause text (unread.TooDeep at)
IsCause text refusal.TextTooLong = IsReadCause text unread.TextTooLong
IsCause text (refusal.DuplicateFunction at) = IsFirstBroken text 12 at
IsCause text (refusal.DuplicateName at) = IsFirstBroken text 13 at
IsCause text (refusal.UnknownName at) = IsFirstBroken text 14 at
IsCause text (refusal.ArityDiffers at) = IsFirstBroken text 71 at
IsCause text (refusal.PatternArity at) = IsFirstBroken text 73 at
IsCause text (refusal.ReservedMatch at) = IsFirstBroken text 74 at
IsCause text (refusal.Memory e) = Unit {0}
