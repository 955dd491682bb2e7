-- What the normal form of an expression enters into the scope.
use Rattle.std.specs.Prelude.{◌≡◌, ℕ, ◌+◌, List, length, ◌≢◌, None}
use Rattle.core_reader.specs.declared.syntax.Pattern.{Pattern}
use Rattle.core_reader.specs.declared.syntax.Pattern.TheVariants as pattern
use Rattle.core_reader.specs.Tree.{Program, Bind}
use Rattle.arity_check.specs.declared.normal.Bound.{Bound}
use Rattle.arity_check.specs.declared.form.Locals.{Locals}
use Rattle.arity_check.specs.Known.{Known, all_named}
use Rattle.arity_check.specs.Whole.{known_of}
use Rattle.arity_check.specs.Pieces.{names_of, binders_of}
use Rattle.arity_check.specs.Normal.{IsGroup}

-- the constructor of a pattern is declared
abbrev pub PatternIsDeclared : Known → Pattern → Type 0
PatternIsDeclared k (pattern.Con c fields) = k.fields c.name.0 ≢ None
PatternIsDeclared k (pattern.Int n at) = Unit {0}
PatternIsDeclared k (pattern.Default x) = Unit {0}

-- the binders of a let group have these locals, under some numbers of them in its scope
pub record GroupIsNumbered (k : Known) (group : List Bind) (locals : Locals) (xs : List ℕ)
    : Type 0 where
  pub others : List ℕ
  pub count : length others ≡ length group
  pub size : length xs ≡ length group
  pub is : (p : Program) → k ≡ known_of p
      → (bounds : List Bound)
      × IsGroup p (all_named k (names_of (binders_of group)) others locals.scope)
      locals.next group bounds xs

-- the binders of a let group entered the scope, and the members have these bindings
pub record GroupEntersScope (k : Known) (group : List Bind) (old new : Locals) (bounds : List Bound)
    : Type 0 where
  pub locals : List ℕ
  pub size : length locals ≡ length group
  pub scope : new.scope ≡ all_named k (names_of (binders_of group)) locals old.scope
  pub next : (p : Program) → k ≡ known_of p → new.next ≡ old.next + length bounds
  pub is : (p : Program) → k ≡ known_of p → IsGroup p new.scope old.next group bounds locals
