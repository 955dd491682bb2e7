-- The words that are fetched from the nodes that a value stands for.
use Rattle.std.specs.Prelude.{ℕ, zero, suc, Bool, false, cond, not, ◌&&◌, nat_lt, List, [], ◌∷◌, ◌++◌, length, Option, Some, None, slice_get}
use Rattle.std.specs.List.{flat_map, list_any}
use Rattle.grin_syntax.specs.declared.program.Word as W
use Rattle.grin_syntax.specs.declared.program.Val.{Val}
use Rattle.grin_syntax.specs.declared.program.Val.TheVariants.{NodeVar, Node as NodeVal, Vector as VectorVal, One as OneVal}
use Rattle.flow_system.specs.declared.fact.Element.{Element as AbstractWord}
use Rattle.flow_system.specs.declared.fact.Element.TheVariants.{Cell as cell_of, Tag as tag, Number as num}
use Rattle.flow_system.specs.declared.fact.Place.{Place}
use Rattle.flow_system.specs.Tables.{Tables, fields_of}
use Rattle.points_to.specs.declared.facts.Item.{Item}
use Rattle.points_to.specs.Held.{elements, fetched}
use Rattle.points_to.specs.Stored.{value_nodes, value_at}

-- whether a tag with so many fields is one of k words, and has field j, or has no field j
abbrev pub fits : ℕ → Option ℕ → Bool
fits k None = false
fits k (Some m) = nat_lt m k

abbrev pub reaches : ℕ → ℕ → Option ℕ → Bool
reaches k j None = false
reaches k j (Some m) = nat_lt m k && nat_lt j m

abbrev pub lacks : ℕ → ℕ → Option ℕ → Bool
lacks k j None = false
lacks k j (Some m) = nat_lt m k && not (nat_lt j m)

-- a word where a tag has it, and a number where one has fewer fields
abbrev pub word_or_number : Bool → Bool → List AbstractWord → List AbstractWord
word_or_number has fewer us = cond has us [] ++ cond fewer (num ∷ []) []

module _ (p : Tables) where
  abbrev pub fitting : ℕ → AbstractWord → List AbstractWord
  fitting k (cell_of s) = []
  fitting k (tag t) = cond (fits k (fields_of p t)) (tag t ∷ []) []
  fitting k num = []

  abbrev pub has_field : ℕ → ℕ → AbstractWord → Bool
  has_field k j (cell_of s) = false
  has_field k j (tag t) = reaches k j (fields_of p t)
  has_field k j num = false

  abbrev pub has_fewer : ℕ → ℕ → AbstractWord → Bool
  has_fewer k j (cell_of s) = false
  has_fewer k j (tag t) = lacks k j (fields_of p t)
  has_fewer k j num = false

  module _ (H : Place → List Item) where
    abbrev pub elements_of : Option W.Word → List AbstractWord
    elements_of None = []
    elements_of (Some w) = elements p H w

    -- of a vector: its tags, then a field of one of them
    abbrev pub vector_words : List W.Word → ℕ → List AbstractWord
    vector_words ws zero = flat_map (fitting (length ws)) (elements_of (slice_get ws 0))
    vector_words ws (suc j) =
        word_or_number
        (list_any (has_field (length ws) j) (elements_of (slice_get ws 0)))
        (list_any (has_fewer (length ws) j) (elements_of (slice_get ws 0)))
        (elements_of (slice_get ws (suc j)))

    -- of a node: its tag, then its fields, then numbers
    abbrev pub node_field : List W.Word → ℕ → Option ℕ → List AbstractWord
    node_field ws j None = []
    node_field ws j (Some m) = cond (nat_lt j m) (elements_of (slice_get ws j)) (num ∷ [])

    abbrev pub node_words : ℕ → List W.Word → ℕ → List AbstractWord
    node_words t ws zero = tag t ∷ []
    node_words t ws (suc j) = node_field ws j (fields_of p t)

    abbrev pub value_words : Val → ℕ → List AbstractWord
    value_words (NodeVar x) i = fetched p i (value_nodes p H (NodeVar x))
    value_words (NodeVal t ws) i = node_words t.0 ws i
    value_words (VectorVal ws) i = vector_words ws i
    value_words (OneVal w) i = fetched p i (value_nodes p H (OneVal w))

    -- of the value with a number, and of several
    abbrev pub stored_words : ℕ → Option Val → List AbstractWord
    stored_words i None = []
    stored_words i (Some v) = value_words v i

  abbrev pub words_of_values : List (Option Val) → (Place → List Item) → ℕ → List ℕ
      → List AbstractWord
  words_of_values vs H i = flat_map (λ n. stored_words H i (value_at vs n))
