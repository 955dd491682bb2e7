-- The lists of binders of a program, and a name that stands twice in one.
use Rattle.std.specs.Prelude.{◌≡◌, ℕ, ◌<◌, false, List, Some, slice_get, codes}
use Rattle.core_reader.specs.declared.syntax.Pattern.{Pattern}
use Rattle.core_reader.specs.declared.syntax.Binder.{Binder}
use Rattle.core_reader.specs.Tree.{Alts, Bind, Function, Program}
use Rattle.arity_check.specs.Scope.{Scope, is_named}
use Rattle.arity_check.specs.Patterns.{alt_at}
use Rattle.arity_check.specs.Pieces.{AGroup, SomeAlts, binders_of, bound_by, InFunction}

module _ (p : Program) where
  -- the second of two binders in one list, other than `_`, has the name of the first
  pub record Repeats (xs : List Binder) (at : ℕ) : Type 0 where
    pub i : ℕ
    pub j : ℕ
    pub first : Binder
    pub second : Binder
    pub before : i < j
    pub is_first : slice_get xs i ≡ Some first
    pub is_second : slice_get xs j ≡ Some second
    pub same : second.name.0 ≡ first.name.0
    pub named : is_named p (codes "_") second.name.0 ≡ false
    pub here : second.at ≡ at

  -- a list of binders: the parameters of a function, the binders of a let group, or those of a
  -- pattern
  pub data BinderList : List Binder → Type 0 where
    OfFunction : {f : Function} (i : ℕ) → slice_get p.functions i ≡ Some f → BinderList f.params
    OfGroup : {t : Scope} {group : List Bind} → InFunction p t (AGroup group)
        → BinderList (binders_of group)
    OfPattern : {t : Scope} {alts : Alts} {pat : Pattern} (i : ℕ) → InFunction p t (SomeAlts alts)
        → alt_at alts i ≡ Some pat → BinderList (bound_by pat)
