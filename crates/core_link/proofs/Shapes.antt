-- What stands in a tree where a name, a constructor or a piece of this kind stands in a renamed
-- one.
use Rattle.std.proofs.Common.{◌≡◌, ℕ, List, refl}
use Rattle.std.specs.List.{AllZip}
use Rattle.core_reader.specs.declared.syntax.Binder.{Binder}
use Rattle.core_reader.specs.declared.syntax.Pattern.{Pattern}
use Rattle.core_reader.specs.declared.syntax.Pattern.TheVariants as pattern
use Rattle.core_reader.specs.Tree as tree
use Rattle.core_reader.specs.Tree.{Term, Application, Alts, Bind, Program}
use Rattle.core_print.specs.Renamed.{RenamedBinder, RenamedTerm, RenamedApp, RenamedBind, RenamedPattern, RenamedAlts}
use Rattle.arity_check.specs.Scope.{Scope}
use Rattle.arity_check.specs.Pieces.{FunctionPart, AnApp, AGroup, SomeAlts, binders_of}
use Rattle.core_link.proofs.Back.{LikePiece}

module _ (p q : Program) {S : Type 0} (enter : List Binder → List Binder → S → S)
    (OfBinder OfCon : ℕ → ℕ → Type 0) (OfUse : S → ℕ → ℕ → Type 0)
    (Fits : S → Scope → Scope → Type 0) where
  module _ (c : S) where
    pub name_before : (a : Term) (x at : ℕ) → RenamedTerm enter OfBinder OfCon OfUse c a
        (tree.Name x at) → (n to : ℕ) × (a ≡ tree.Name n to) × OfUse c n x
    name_before (tree.Name n to) x at r = (n, to, refl, r)
    name_before a x at r = absurd r

    pub con_before : (a : Term) (x at : ℕ) → RenamedTerm enter OfBinder OfCon OfUse c a
        (tree.Con x at) → (n to : ℕ) × (a ≡ tree.Con n to) × OfCon n x
    con_before (tree.Con n to) x at r = (n, to, refl, r)
    con_before a x at r = absurd r

    pub app_before : (piece : FunctionPart) (app : Application)
        → LikePiece p q enter OfBinder OfCon OfUse Fits c piece (AnApp app) → (a : Application)
        × (piece ≡ AnApp a) × RenamedApp enter OfBinder OfCon OfUse c a app
    app_before (AnApp a) app r = (a, refl, r)
    app_before piece app r = absurd r

    pub group_before : (piece : FunctionPart) (others : List Bind)
        → LikePiece p q enter OfBinder OfCon OfUse Fits c piece (AGroup others)
        → (group : List Bind) × (piece ≡ AGroup group)
        × AllZip (RenamedBind enter OfBinder OfCon OfUse
        (enter (binders_of group) (binders_of others) c)) group others
    group_before (AGroup group) others r = (group, refl, r)
    group_before piece others r = absurd r

    pub alts_before : (piece : FunctionPart) (others : Alts)
        → LikePiece p q enter OfBinder OfCon OfUse Fits c piece (SomeAlts others) → (alts : Alts)
        × (piece ≡ SomeAlts alts) × RenamedAlts enter OfBinder OfCon OfUse c alts others
    alts_before (SomeAlts alts) others r = (alts, refl, r)
    alts_before piece others r = absurd r

  pub con_pattern_before : (a : Pattern) (d : Binder) (others : List Binder)
      → RenamedPattern enter OfBinder OfCon OfUse a (pattern.Con d others)
      → (b : Binder) × (fields : List Binder) × (a ≡ pattern.Con b fields) × OfCon b.name.0 d.name.0
      × AllZip (RenamedBinder enter OfBinder OfCon OfUse) fields others
  con_pattern_before (pattern.Con b fields) d others r = (b, fields, refl, r.0, r.1)
  con_pattern_before a d others r = absurd r
