-- What a builder of flat forms adds.
use Rattle.std.specs.Prelude.{◌≡◌, ℕ, ◌+◌, List, ◌++◌, length}
use Rattle.core_reader.specs.Tree.{Program, Term, Terms, Bind}
use Rattle.arity_check.specs.declared.normal.Bound.{Bound}
use Rattle.arity_check.specs.declared.normal.Flat.{Flat}
use Rattle.arity_check.specs.declared.normal.Var.{Var}
use Rattle.arity_check.specs.declared.flat.Builder.{Builder}
use Rattle.arity_check.specs.Scope.{Scope, Meaning}
use Rattle.arity_check.specs.Normal.{IsFlat, AreArgs, IsArg, IsApplied, IsNamed, IsGroup}

-- these bindings were added
pub record AddsBindings (old new : Builder) (added : List Bound) : Type 0 where
  pub news : new.news ≡ old.news ++ added
  pub next : new.next ≡ old.next + length added

-- the new bindings of an application were added, and this is its form
pub record AddsFlat (p : Program) (s : Scope) (old new : Builder) (head : Term)
    (args : Terms) (form : Flat) : Type 0 where
  pub added : List Bound
  pub adds : AddsBindings old new added
  pub is : IsFlat p s old.next head args added form

-- those of arguments, which are these variables
pub record AddsArgs (p : Program) (s : Scope) (old new : Builder) (args : Terms) (xs : List Var)
    : Type 0 where
  pub added : List Bound
  pub adds : AddsBindings old new added
  pub are : AreArgs p s old.next args added xs

pub record AddsArg (p : Program) (s : Scope) (old new : Builder) (arg : Term) (x : Var)
    : Type 0 where
  pub added : List Bound
  pub adds : AddsBindings old new added
  pub is : IsArg p s old.next arg added x

-- a binding of the inner form, and those of the arguments that it is applied to
pub record AddsApplied (p : Program) (s : Scope) (old new : Builder) (inner : Flat)
    (args : Terms) (form : Flat) : Type 0 where
  pub added : List Bound
  pub adds : AddsBindings old new added
  pub is : IsApplied p s old.next inner args added form

pub record AddsNamed (p : Program) (s : Scope) (old new : Builder) (stands : Meaning)
    (args : Terms) (form : Flat) : Type 0 where
  pub added : List Bound
  pub adds : AddsBindings old new added
  pub is : IsNamed p s old.next stands args added form

-- the members of a let group, with the locals of their binders
pub record AddsGroup (p : Program) (s : Scope) (old new : Builder) (group : List Bind) (xs : List ℕ)
    : Type 0 where
  pub added : List Bound
  pub adds : AddsBindings old new added
  pub is : IsGroup p s old.next group added xs
