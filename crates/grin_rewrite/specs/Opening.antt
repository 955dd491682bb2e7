-- A case that opens a node: the alternative for each tag binds the fields to fresh variables.
use Rattle.std.specs.Prelude.{ℕ, ◌+◌, List, [], ◌∷◌, Option, Some, None, slice_get}
use Rattle.grin_syntax.specs.declared.program.Tag.{Tag}
use Rattle.grin_syntax.specs.declared.program.Shape.TheVariants.{Node as NodeShape}
use Rattle.grin_syntax.specs.Tree.{Code, Arms, arm}
use Rattle.grin_syntax.specs.Tags.{tag_id}
use Rattle.grin_syntax.specs.Fresh.{variables}

abbrev pub fields_at : Option Tag → ℕ
fields_at None = 0
fields_at (Some t) = t.fields

-- the fresh variables that alternatives take: the fields of each, and some more
abbrev pub opening_room : List Tag → ℕ → List ℕ → ℕ
opening_room tags more [] = 0
opening_room tags more (t ∷ ts) =
    more + fields_at (slice_get tags t) + opening_room tags more ts

pub record Opening : Type 0 where
  -- how many fresh variables an alternative takes beside the fields
  pub more : ℕ
  -- what is done with a node of a tag whose fields are the variables from a number on
  pub body : ℕ → Tag → Code
  -- the alternatives behind those for the tags
  pub last : Arms

module _ (tags : List Tag) (O : Opening) where
  abbrev pub opening_arm : ℕ → ℕ → Option Tag → Arms → Arms
  opening_arm x t None as' = as'
  opening_arm x t (Some i) as' =
      arm (NodeShape (tag_id t) (variables x i.fields)) (O.body x i) as'

  -- with fresh variables from a number on, for these tags
  abbrev pub opening_arms : ℕ → List ℕ → Arms
  opening_arms x [] = O.last
  opening_arms x (t ∷ ts) =
      opening_arm x t (slice_get tags t)
      (opening_arms (O.more + (x + fields_at (slice_get tags t))) ts)
