-- Items as nodes of one tag alone.
use Rattle.std.specs.Prelude.{ℕ, Bool, false, cond, nat_eq, List, [], ◌++◌, Option}
use Rattle.std.specs.List.{flat_map}
use Rattle.flow_system.specs.declared.fact.Element.{Element}
use Rattle.flow_system.specs.declared.fact.Element.TheVariants.{Cell, Tag, Number}
use Rattle.flow_system.specs.declared.fact.Part.TheVariants.{Word as word}
use Rattle.flow_system.specs.Tables.{Tables}
use Rattle.points_to.specs.declared.facts.Item.{Item}
use Rattle.points_to.specs.Held.{node_part, node_of_word, words_in_part}

abbrev pub is_tag : ℕ → Element → Bool
is_tag t (Cell s) = false
is_tag t (Tag u) = nat_eq u t
is_tag t Number = false

module _ (p : Tables) (t : ℕ) where
  abbrev pub node_if_tag : Option ℕ → List Item → Element → List Item
  node_if_tag k X u = cond (is_tag t u) (node_of_word p k X u) []

  -- the items of nodes, and what the words stand for where their tag is t
  abbrev pub as_nodes_of : Option ℕ → List Item → List Item
  as_nodes_of k X =
      flat_map (λ i. node_part i.part i) X ++ flat_map (node_if_tag k X) (words_in_part (word 0) X)
