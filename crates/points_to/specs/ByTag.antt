-- The items in fields of nodes, by the tag of the nodes.
use Rattle.std.specs.Prelude.{◌≡◌, ℕ, List, [], ◌∷◌, Option, Some, None, cond, nat_eq}
use Rattle.std.specs.List.{flat_map}
use Rattle.std.specs.Ordering.{nat_cmp}
use Rattle.std.specs.BTreeMap.{BTreeMap, get}
use Rattle.flow_system.specs.declared.fact.Part.{Part}
use Rattle.flow_system.specs.declared.fact.Part.TheVariants.{Tags as tags, Field as field, Word as word}
use Rattle.points_to.specs.declared.facts.Item.{Item}
use Rattle.points_to.specs.declared.by_tag.ByTag.{ByTag}
use Rattle.points_to.specs.Held.{words_in_part}

-- an item, where it is in a field of the tag t
abbrev pub field_item : ℕ → Part → Item → List Item
field_item t tags i = []
field_item t (field u j) i = cond (nat_eq u t) (i ∷ []) []
field_item t (word j) i = []

abbrev pub field_items : ℕ → List Item → List Item
field_items t = flat_map (λ i. field_item t i.part i)

abbrev pub list_of : Option (List Item) → List Item
list_of None = []
list_of (Some items) = items

abbrev pub items_of : BTreeMap ℕ (List Item) → ℕ → List Item
items_of m t = list_of (get nat_cmp m t)

-- the tags and the fields are those of the nodes
pub record IsByTag (g : ByTag) : Type 0 where
  pub tags_are : g.tags ≡ words_in_part tags g.nodes
  pub fields_are : (t : ℕ) → items_of g.fields t ≡ field_items t g.nodes
