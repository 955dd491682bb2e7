-- What a name stands for at a place of a program.
use Rattle.std.specs.Prelude.{ℕ, ◌+◌, ◌==◌, Bool, false, List, [], ◌∷◌, length, codes, Option, Some, None, slice_get, if◌then◌else◌}
use Rattle.std.specs.List.{position}
use Rattle.std.specs.Str.{bytes_eq}
use Rattle.core_reader.specs.Tree as tree
pub use Rattle.arity_check.specs.declared.meaning.Meaning.{Meaning}
pub use Rattle.arity_check.specs.declared.meaning.Meaning.TheVariants.{Local, Function, Primitive, Unbound}
use Rattle.arity_check.specs.declared.normal.PrimOp.{PrimOp}
use Rattle.arity_check.specs.declared.normal.PrimOp.TheVariants.{Add, Sub, Mul, Quot, Rem, Eq, Lt}

-- the locals in scope, the innermost first: each binder's name with its number
abbrev pub Scope : Type 0
Scope = List (ℕ × ℕ)

-- the primitives by their names
abbrev pub primitives : List (List ℕ × PrimOp)
primitives =
    (codes "add", Add) ∷ ((codes "sub", Sub) ∷ ((codes "mul", Mul)
    ∷ ((codes "quot", Quot) ∷ ((codes "rem", Rem)
    ∷ ((codes "eq", Eq) ∷ ((codes "lt", Lt) ∷ []))))))

-- a primitive's name stands for the primitive, whatever else has that name
abbrev pub unless_primitive : Meaning → Meaning → Meaning
unless_primitive (Primitive op) m = Primitive op
unless_primitive _ m = m

module _ (p : tree.Program) where
  abbrev pub is_named : List ℕ → ℕ → Bool
  is_named bytes x = elim (slice_get p.names x) [ Some b ↦ bytes_eq b bytes | None ↦ false ]

  abbrev pub primitive_from : List (List ℕ × PrimOp) → ℕ → Meaning
  primitive_from [] x = Unbound
  primitive_from (q ∷ qs) x = if is_named q.0 x then Primitive q.1 else primitive_from qs x

  -- the first function of this name, from number f on
  abbrev pub function_from : List tree.Function → ℕ → ℕ → Meaning
  function_from [] f x = Unbound
  function_from (g ∷ gs) f x =
      if g.name == x then Function f (length g.params) else function_from gs (f + 1) x

  -- a local hides a function
  abbrev pub found_in : Scope → ℕ → Meaning
  found_in [] x = function_from p.functions 0 x
  found_in (b ∷ s) x = if b.0 == x then Local b.1 else found_in s x

  -- `_` stands for nothing
  abbrev pub means : Scope → ℕ → Meaning
  means s x =
      if is_named (codes "_") x then Unbound
      else unless_primitive (primitive_from primitives x) (found_in s x)

  -- the number of a constructor, that of its first declaration
  abbrev pub con_number : ℕ → Option ℕ
  con_number c = position (λ d. d.name == c) p.constructors

  -- a binder's name stands for a local from here on, but `_` for none
  abbrev pub binds : ℕ → ℕ → Scope → Scope
  binds x local s = if is_named (codes "_") x then s else (x, local) ∷ s

  -- these binders have these numbers, in order
  abbrev pub binds_all : List ℕ → List ℕ → Scope → Scope
  binds_all [] ys s = s
  binds_all (x ∷ xs) [] s = s
  binds_all (x ∷ xs) (y ∷ ys) s = binds_all xs ys (binds x y s)
