-- The words in one part of the nodes that values stand for.
use Rattle.std.specs.Prelude.{ℕ, suc, Bool, false, cond, ◌&&◌, nat_eq, nat_lt, List, [], ◌∷◌, ◌++◌, Option, Some, None, slice_get}
use Rattle.std.specs.List.{flat_map, list_any}
use Rattle.grin_syntax.specs.declared.program.Word as W
use Rattle.grin_syntax.specs.declared.program.Val.{Val}
use Rattle.grin_syntax.specs.declared.program.Val.TheVariants.{NodeVar, Node as NodeVal, Vector as VectorVal, One as OneVal}
use Rattle.flow_system.specs.declared.fact.Element.{Element as AbstractWord}
use Rattle.flow_system.specs.declared.fact.Element.TheVariants.{Cell as cell_of, Tag as tag, Number as num}
use Rattle.flow_system.specs.declared.fact.Place.{Place}
use Rattle.flow_system.specs.declared.fact.Place.TheVariants.{Site, Var as var, Result}
use Rattle.flow_system.specs.declared.fact.Part.{Part}
use Rattle.flow_system.specs.declared.fact.Part.TheVariants.{Tags as tags, Field as field, Word as word}
use Rattle.flow_system.specs.Inclusions.{value}
use Rattle.flow_system.specs.Solution.{width}
use Rattle.flow_system.specs.Tables.{Tables, fields_of}
use Rattle.points_to.specs.declared.facts.Item.{Item}
use Rattle.points_to.specs.Held.{elements, words_hold_tag, words_in_part}
use Rattle.points_to.specs.OneTag.{is_tag}
use Rattle.points_to.specs.Known.{held}
use Rattle.points_to.specs.declared.facts.Facts.{Facts}
use Rattle.points_to.specs.declared.stored.Stored.{Stored}
use Rattle.points_to.specs.Stored.{value_at, stored_at}
use Rattle.points_to.specs.ValueWords.{elements_of}

-- whether a tag with so many fields is one of k words, or of any number, and has field i
abbrev pub tag_fits_in_words : Option ℕ → Option ℕ → Bool
tag_fits_in_words k None = false
tag_fits_in_words k (Some m) = words_hold_tag k m

abbrev pub tag_has_field : Option ℕ → ℕ → Option ℕ → Bool
tag_has_field k i None = false
tag_has_field k i (Some m) = words_hold_tag k m && nat_lt i m

module _ (p : Tables) where
  -- a tag that is one of k words with its fields
  abbrev pub tag_of_words : Option ℕ → AbstractWord → List AbstractWord
  tag_of_words k (cell_of s) = []
  tag_of_words k (tag t) = cond (tag_fits_in_words k (fields_of p t)) (tag t ∷ []) []
  tag_of_words k num = []

  -- of nodes that are given part by part: the nodes, and those that the words stand for
  abbrev pub nodes_in : Option ℕ → (Part → List AbstractWord) → Part → List AbstractWord
  nodes_in k given tags = given tags ++ flat_map (tag_of_words k) (given (word 0))
  nodes_in k given (field t i) =
      given (field t i)
      ++ cond (list_any (is_tag t) (given (word 0)) && tag_has_field k i (fields_of p t))
      (given (word (suc i))) []
  nodes_in k given (word j) = []

  module _ (H : Place → List Item) where
    abbrev pub node_given : ℕ → List W.Word → Part → List AbstractWord
    node_given t ws tags = tag t ∷ []
    node_given t ws (field u i) = cond (nat_eq u t) (elements_of p H (slice_get ws i)) []
    node_given t ws (word j) = []

    abbrev pub vector_given : List W.Word → Part → List AbstractWord
    vector_given ws tags = []
    vector_given ws (field t i) = []
    vector_given ws (word j) = elements_of p H (slice_get ws j)

    abbrev pub one_given : W.Word → Part → List AbstractWord
    one_given w tags = []
    one_given w (field t i) = []
    one_given w (word j) = cond (nat_eq j 0) (elements p H w) []

    -- of a value as it is written
    abbrev pub given : Val → Part → List AbstractWord
    given (NodeVar x) q = words_in_part q (H (var x.0))
    given (NodeVal t ws) q = node_given t.0 ws q
    given (VectorVal ws) q = vector_given ws q
    given (OneVal w) q = one_given w q

    -- of the nodes that a value stands for, of the value with a number, and of several
    abbrev pub value_part : Part → Val → List AbstractWord
    value_part q v = nodes_in (width (value v)) (given v) q

    abbrev pub stored_part : Part → Option Val → List AbstractWord
    stored_part q None = []
    stored_part q (Some v) = value_part q v

  abbrev pub part_of_values : List (Option Val) → (Place → List Item) → Part → List ℕ
      → List AbstractWord
  part_of_values vs H q = flat_map (λ n. stored_part H q (value_at vs n))

  -- of all that is known at a place, with the nodes of the values in cells
  abbrev pub place_part : List (Option Val) → Facts → Stored → Place → Part → List AbstractWord
  place_part vs f s (Site n) q =
      words_in_part q (held f (Site n)) ++ part_of_values vs (held f) q (stored_at s n)
  place_part vs f s (var n) q = words_in_part q (held f (var n))
  place_part vs f s (Result n) q = words_in_part q (held f (Result n))
