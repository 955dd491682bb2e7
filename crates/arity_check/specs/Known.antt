-- What is known of the names of a program, outside of its functions.
use Rattle.std.specs.Prelude.{ℕ, Bool, true, false, List, [], ◌∷◌, Option, Some, None, if◌then◌else◌}
use Rattle.core_reader.specs.declared.syntax.Binder.{Binder}
use Rattle.arity_check.specs.declared.globals.NameKind.{NameKind}
use Rattle.arity_check.specs.declared.globals.NameKind.TheVariants as kind
use Rattle.arity_check.specs.Scope.{Scope, Meaning, Local, Function, Primitive, Unbound, unless_primitive}
use Rattle.arity_check.specs.Locals.{innermost_local}

-- the kind of a name, the number of a function and that of its parameters, a constructor's number
-- of fields and its number
pub record Known : Type 0 where
  pub kind : ℕ → NameKind
  pub function : ℕ → Option (ℕ × ℕ)
  pub fields : ℕ → Option ℕ
  pub number : ℕ → Option ℕ

abbrev pub nameless_kind : NameKind → Bool
nameless_kind kind.Nameless = true
nameless_kind _ = false

abbrev pub reserved_kind : NameKind → Bool
reserved_kind (kind.Primitive op) = true
reserved_kind _ = false

abbrev pub kind_meaning : NameKind → Meaning
kind_meaning (kind.Primitive op) = Primitive op
kind_meaning _ = Unbound

abbrev pub function_meaning : Option (ℕ × ℕ) → Meaning
function_meaning None = Unbound
function_meaning (Some f) = Function f.0 f.1

module _ (k : Known) where
  abbrev pub is_nameless : ℕ → Bool
  is_nameless x = nameless_kind (k.kind x)

  abbrev pub is_reserved : ℕ → Bool
  is_reserved x = reserved_kind (k.kind x)

  -- what a name stands for where no local hides it
  abbrev pub global : ℕ → Meaning
  global x = function_meaning (k.function x)

  abbrev pub local_meaning : ℕ → Option ℕ → Meaning
  local_meaning x None = global x
  local_meaning x (Some y) = Local y

  -- what a name stands for
  abbrev pub meaning : Scope → ℕ → Meaning
  meaning s x =
      if is_nameless x then Unbound
      else unless_primitive (kind_meaning (k.kind x)) (local_meaning x (innermost_local s x))

  -- a name stands for a local from here on, but `_` for none
  abbrev pub named : ℕ → ℕ → Scope → Scope
  named x local s = if is_nameless x then s else (x, local) ∷ s

  -- these names have these numbers, in order
  abbrev pub all_named : List ℕ → List ℕ → Scope → Scope
  all_named [] ys s = s
  all_named (x ∷ xs) [] s = s
  all_named (x ∷ xs) (y ∷ ys) s = all_named xs ys (named x y s)

  -- a binder's name stands for a local from here on. Which number it has is of no account
  abbrev pub entered : Binder → Scope → Scope
  entered x s = named x.name.0 x.name.0 s

  abbrev pub all_entered : List Binder → Scope → Scope
  all_entered [] s = s
  all_entered (x ∷ xs) s = all_entered xs (entered x s)
