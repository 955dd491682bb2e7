-- The type of lists of a program with types.
use Rattle.std.specs.Prelude.{ℕ, ◌==◌, ◌&&◌, ◌||◌, Bool, true, false, List, [], ◌∷◌, codes}
use Rattle.core_reader.specs.declared.syntax.Binder.{Binder}
use Rattle.arity_check.specs.Scope as scope
use Rattle.core_types.specs.Source.{Written, WrittenTypes, Var, Named, Arrow, NoTypes, AndType, Constructor, TypeDecl, Source, erased}

abbrev pub is_var : ℕ → Written → Bool
is_var n (Var b) = b.name.0 == n
is_var n (Named b args) = false
is_var n (Arrow from to) = false

abbrev pub is_empty : WrittenTypes → Bool
is_empty NoTypes = true
is_empty (AndType t ts) = false

-- a variable of this name alone
abbrev pub is_one_var : ℕ → WrittenTypes → Bool
is_one_var n NoTypes = false
is_one_var n (AndType t ts) = is_var n t && is_empty ts

-- a type of this name, applied to a variable
abbrev pub is_applied : ℕ → ℕ → Written → Bool
is_applied name n (Var b) = false
is_applied name n (Named b args) = (b.name.0 == name) && is_one_var n args
is_applied name n (Arrow from to) = false

abbrev pub is_tail : ℕ → ℕ → WrittenTypes → Bool
is_tail name n NoTypes = false
is_tail name n (AndType t ts) = is_applied name n t && is_empty ts

-- a variable, and a type of this name that is applied to it
abbrev pub is_item_and_tail : ℕ → ℕ → WrittenTypes → Bool
is_item_and_tail name n NoTypes = false
is_item_and_tail name n (AndType t ts) = is_var n t && is_tail name n ts

-- which names are those of `Nil` and `Cons`
module _ (nil cons : ℕ → Bool) where
  -- these are `Nil` without fields, and `Cons` with an item and the type itself of that item
  abbrev pub are_list_constructors : ℕ → ℕ → Constructor → Constructor → Bool
  are_list_constructors name n c d =
      (nil c.name.name.0 && is_empty c.fields)
      && (cons d.name.name.0 && is_item_and_tail name n d.fields)

  -- in any order, and no other
  abbrev pub has_list_constructors : ℕ → ℕ → List Constructor → Bool
  has_list_constructors name n (c ∷ d ∷ []) =
      are_list_constructors name n c d || are_list_constructors name n d c
  has_list_constructors name n cs = false

  abbrev pub is_list_of : TypeDecl → List Binder → Bool
  is_list_of d (a ∷ []) = has_list_constructors d.name.name.0 a.name.0 d.constructors
  is_list_of d params = false

  -- a type with one parameter and these constructors
  abbrev pub is_list_by : TypeDecl → Bool
  is_list_by d = is_list_of d d.params

module _ (s : Source) where
  abbrev pub is_named : List ℕ → ℕ → Bool
  is_named text n = scope.is_named (erased s) text n

  -- the type of lists
  abbrev pub is_list : TypeDecl → Bool
  is_list = is_list_by (is_named (codes "Nil")) (is_named (codes "Cons"))
