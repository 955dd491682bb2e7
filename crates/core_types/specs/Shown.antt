-- Types as a user writes them.
use Rattle.std.specs.Prelude.{ℕ, Bool, true, false, ◌==◌, ◌&&◌, List, [], ◌∷◌, ◌++◌, fold, codes, decimal, slice_get, if◌then◌else◌}
use Rattle.std.specs.List.{list_any, position_or_len}
use Rattle.seq.specs.Lists.{or_empty}
use Rattle.core_types.specs.Typing.{TypeVariableKey, AtBinder, AtResult, AtBracket, AtScrutinee, AtUse, Typed, Types, Int, Rigid, Named, Arrow, NoTypeds, AndTyped}
use Rattle.core_types.specs.Typing as typing

-- ---- variables

-- a variable, of a solution or of a signature, as three numbers that no other one has
abbrev pub VariableMark : Type 0
VariableMark = ℕ × ℕ × ℕ

abbrev pub mark_of_key : TypeVariableKey → VariableMark
mark_of_key (AtBinder at) = (0, at, 0)
mark_of_key (AtResult at) = (1, at, 0)
mark_of_key (AtBracket at) = (2, at, 0)
mark_of_key (AtScrutinee at) = (3, at, 0)
mark_of_key (AtUse at n) = (4, at, n)

abbrev pub mark_of_signature : (function variable : ℕ) → VariableMark
mark_of_signature f v = (5, f, v)

abbrev mutual
  -- the variables of a type, from the left
  pub marks : Typed → List VariableMark
  marks Int = []
  marks (typing.Open key) = mark_of_key key ∷ []
  marks (Rigid f v) = mark_of_signature f v ∷ []
  marks (Named c ts) = marks_all ts
  marks (Arrow t u) = marks t ++ marks u

  pub marks_all : Types → List VariableMark
  marks_all NoTypeds = []
  marks_all (AndTyped t ts) = marks t ++ marks_all ts

abbrev pub same_mark : VariableMark → VariableMark → Bool
same_mark a b = (a.0 == b.0 && a.1 == b.1) && a.2 == b.2

-- a new variable is put at the end
abbrev pub with_mark_if_new : List VariableMark → VariableMark → List VariableMark
with_mark_if_new ms m = if list_any (same_mark m) ms then ms else ms ++ m ∷ []

abbrev pub with_marks : List VariableMark → List VariableMark → List VariableMark
with_marks ms ns = fold with_mark_if_new ms ns

-- ---- texts

abbrev pub is_arrow : Typed → Bool
is_arrow (Arrow t u) = true
is_arrow Int = false
is_arrow (typing.Open key) = false
is_arrow (Rigid f v) = false
is_arrow (Named c ts) = false

-- an arrow, or a type with arguments
abbrev pub is_compound : Typed → Bool
is_compound (Arrow t u) = true
is_compound (Named c (AndTyped t ts)) = true
is_compound (Named c NoTypeds) = false
is_compound Int = false
is_compound (typing.Open key) = false
is_compound (Rigid f v) = false

abbrev pub text_if : Bool → List ℕ → List ℕ
text_if wanted text = if wanted then text else []

abbrev pub in_brackets_if : Bool → List ℕ → List ℕ
in_brackets_if wanted text = text_if wanted (codes "(") ++ text ++ text_if wanted (codes ")")

-- `v` with the place of a variable among these
abbrev pub variable_text : List VariableMark → VariableMark → List ℕ
variable_text ms m = codes "v" ++ decimal (position_or_len (same_mark m) ms)

-- by the texts of names, and the variables in the order in which they appear
module _ (names : List (List ℕ)) (ms : List VariableMark) where
  abbrev mutual
    pub type_text : Typed → List ℕ
    type_text Int = codes "Int"
    type_text (typing.Open key) = variable_text ms (mark_of_key key)
    type_text (Rigid f v) = variable_text ms (mark_of_signature f v)
    type_text (Named c ts) = or_empty (slice_get names c) ++ args_text ts
    type_text (Arrow t u) =
        in_brackets_if (is_arrow t) (type_text t) ++ codes " -> " ++ type_text u

    -- each argument behind a space
    pub args_text : Types → List ℕ
    args_text NoTypeds = []
    args_text (AndTyped t ts) =
        codes " " ++ in_brackets_if (is_compound t) (type_text t) ++ args_text ts

-- two types, with one numbering of their variables
abbrev pub shown_sides : (names : List (List ℕ)) → (left right : Typed) → List ℕ
shown_sides names left right =
    let ms = with_marks [] (marks left ++ marks right) in
    type_text names ms left ++ codes " and " ++ type_text names ms right
