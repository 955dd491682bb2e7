-- The rules that a program has to keep, each by what breaks it and where.
use Rattle.std.specs.Prelude.{◌≡◌, ◌≢◌, ℕ, ◌+◌, ◌<◌, ◌==◌, ℤ, true, false, List, [], ◌∷◌, length, Option, Some, None, slice_get, codes, if◌then◌else◌}
use Rattle.core_reader.specs.declared.syntax.Pattern.{Pattern}
use Rattle.core_reader.specs.declared.syntax.Pattern.TheVariants as pattern
use Rattle.core_reader.specs.declared.syntax.Binder.{Binder}
use Rattle.core_reader.specs.Tree.{Name, Con, Application, Alts, Data, Function, Program}
use Rattle.core_reader.specs.Size.{program_size}
use Rattle.arity_check.specs.Scope as scope
use Rattle.arity_check.specs.Scope.{Scope, means, is_named, primitives}
pub use Rattle.arity_check.specs.Standing.{count, place, IsTermAmong, First, Later, HeadIsApplied, AsName, AsCon, LoneHead, LoneBracket, InHead, InArgument, Contains, Whole, InItsHead, InItsArgs}
pub use Rattle.arity_check.specs.Pieces.{FunctionPart, AnApp, AGroup, SomeAlts, names_of, binders_of, bound_by, within, Has, TheApp, TheGroup, InMember, InBody, TheAlts, InTested, InAlts, HasAlts, InThis, InLater, InFunction, StandsApplied}
pub use Rattle.arity_check.specs.Patterns.{alt_at, pattern_place, KindsDiffer, IsDefault, IsFirstNonDefault}
pub use Rattle.arity_check.specs.BinderLists.{Repeats, BinderList, OfFunction, OfGroup, OfPattern}

-- the first declaration of a constructor
abbrev pub first_constructor_named : ℕ → List Data → Option Data
first_constructor_named c [] = None
first_constructor_named c (d ∷ ds) = if d.name == c then Some d else first_constructor_named c ds

module _ (p : Program) where
  abbrev pub fields_of : ℕ → Option Data
  fields_of c = first_constructor_named c p.constructors

  -- the first declaration of the constructor of this name has this number of fields
  abbrev pub Declares : List ℕ → ℕ → Type 0
  Declares name fields =
      (d : Data) × (fields_of d.name ≡ Some d) × (is_named p name d.name ≡ true)
      × (d.fields ≡ fields)

  -- rule k is broken at a place
  pub data Broken : (k at : ℕ) → Type 0 where
    DuplicateConstructor : {i j : ℕ} {c d : Data} → i < j → slice_get p.constructors i ≡ Some c
        → slice_get p.constructors j ≡ Some d → d.name ≡ c.name → Broken 11 d.at
    DuplicateFunction : {i j : ℕ} {f g : Function} → i < j → slice_get p.functions i ≡ Some f
        → slice_get p.functions j ≡ Some g → g.name ≡ f.name → Broken 12 g.at
    DuplicateName : {xs : List Binder} {at : ℕ} → BinderList p xs → Repeats p xs at → Broken 13 at
    UnknownName : {t : Scope} {x at k : ℕ} → StandsApplied p t (Name x at) k
        → means p t x ≡ scope.Unbound → Broken 14 at
    UnknownConstructor : {t : Scope} {c at k : ℕ} → StandsApplied p t (Con c at) k
        → fields_of c ≡ None → Broken 14 at
    UnknownPattern : {t : Scope} {alts : Alts} {c : Binder} {fields : List Binder} (i : ℕ)
        → InFunction p t (SomeAlts alts) → alt_at alts i ≡ Some (pattern.Con c fields)
        → fields_of c.name.0 ≡ None → Broken 14 c.at
    ConstructorArity : {t : Scope} {c at k : ℕ} {d : Data} → StandsApplied p t (Con c at) k
        → fields_of c ≡ Some d → k ≢ d.fields → Broken 15 at
    PatternArity : {t : Scope} {alts : Alts} {c : Binder} {fields : List Binder} {d : Data} (i : ℕ)
        → InFunction p t (SomeAlts alts) → alt_at alts i ≡ Some (pattern.Con c fields)
        → fields_of c.name.0 ≡ Some d → length fields ≢ d.fields → Broken 15 c.at
    DefaultNotLast : {t : Scope} {alts : Alts} {x : Binder} {next : Pattern} (i : ℕ)
        → InFunction p t (SomeAlts alts) → alt_at alts i ≡ Some (pattern.Default x)
        → alt_at alts (i + 1) ≡ Some next → Broken 16 x.at
    DuplicateCon : {t : Scope} {alts : Alts} {c d : Binder} {xs ys : List Binder} (i j : ℕ)
        → InFunction p t (SomeAlts alts) → i < j → alt_at alts i ≡ Some (pattern.Con c xs)
        → alt_at alts j ≡ Some (pattern.Con d ys) → d.name.0 ≡ c.name.0 → Broken 17 d.at
    DuplicateInt : {t : Scope} {alts : Alts} {k : ℤ} {at at' : ℕ} (i j : ℕ)
        → InFunction p t (SomeAlts alts) → i < j → alt_at alts i ≡ Some (pattern.Int k at)
        → alt_at alts j ≡ Some (pattern.Int k at') → Broken 17 at'
    MixedAlternatives : {t : Scope} {alts : Alts} {q r : Pattern} (i j : ℕ)
        → InFunction p t (SomeAlts alts) → IsFirstNonDefault alts i q
        → i < j → alt_at alts j ≡ Some r
        → KindsDiffer q r → Broken 18 (pattern_place r)
    ReservedBinder : {xs : List Binder} {x : Binder} {q : List ℕ × _} (i n : ℕ)
        → BinderList p xs → slice_get xs i ≡ Some x → slice_get primitives n ≡ Some q
        → is_named p q.0 x.name.0 ≡ true → Broken 22 x.at
    ReservedFunction : {f : Function} {q : List ℕ × _} (i n : ℕ)
        → slice_get p.functions i ≡ Some f → slice_get primitives n ≡ Some q
        → is_named p q.0 f.name ≡ true → Broken 22 f.at
    ReservedConstructor : {d : Data} (i : ℕ) → slice_get p.constructors i ≡ Some d
        → is_named p (codes "Int") d.name ≡ true → Broken 22 d.at
    PrimitiveArity : {t : Scope} {x at k : ℕ} {op : _} → StandsApplied p t (Name x at) k
        → means p t x ≡ scope.Primitive op → k ≢ 2 → Broken 23 at
    NoMain : ((i : ℕ) (f : Function) → slice_get p.functions i ≡ Some f
        → is_named p (codes "main") f.name ≡ false) → Broken 19 0
    MainHasParameters : {f : Function} (i : ℕ) → slice_get p.functions i ≡ Some f
        → is_named p (codes "main") f.name ≡ true → 1 < length f.params → Broken 20 f.at
    NoListConstructors : (Declares (codes "Nil") 0 × Declares (codes "Cons") 2 → ⊥) → Broken 21 0
    TooManyFunctions : {f : Function} → slice_get p.functions 4096 ≡ Some f → Broken 31 f.at
    TooManyConstructors : {d : Data} → slice_get p.constructors 1024 ≡ Some d → Broken 32 d.at
    TooManyParameters : {f : Function} (i : ℕ) → slice_get p.functions i ≡ Some f
        → 12 < length f.params → Broken 33 f.at
    TooManyArguments : {t : Scope} {app inner : Application} → InFunction p t (AnApp app)
        → Contains app inner → 12 < count inner.args → Broken 33 (place inner.head)
    TooManyFields : {d : Data} (i : ℕ) → slice_get p.constructors i ≡ Some d
        → 12 < d.fields → Broken 34 d.at
    CoreTooLarge : 16384 < program_size p → Broken 35 (program_size p)
