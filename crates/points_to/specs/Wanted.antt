-- What readers want of the items at a place, as ascending lists.
use Rattle.std.specs.Prelude.{◌≡◌, ℕ, Bool, cond, nat_eq, List, [], ◌∷◌, ◌++◌, map, Option, Some, None, slice_get}
use Rattle.std.specs.List.{flat_map, list_any}
use Rattle.std.specs.List.Sorted.{IsStrictlyIncreasing}
use Rattle.grin_syntax.specs.declared.program.TagId.{TagId}
use Rattle.grin_syntax.specs.declared.program.Site.{Site}
use Rattle.flow_system.specs.declared.fact.Element.{Element}
use Rattle.flow_system.specs.declared.fact.Element.TheVariants.{Cell, Tag, Number}
use Rattle.flow_system.specs.declared.fact.Part.{Part}
use Rattle.flow_system.specs.declared.fact.Part.TheVariants.{Tags as tags, Field as field, Word as word}
use Rattle.flow_system.specs.declared.fact.Place.{Place}
use Rattle.flow_system.specs.declared.fact.Place.TheVariants.{Site as site, Var as var, Result as result}
use Rattle.points_to.specs.declared.facts.Item.{Item}
use Rattle.points_to.specs.declared.wanted.Kind.{Kind}
use Rattle.points_to.specs.declared.wanted.Kind.TheVariants.{Sites as of_sites, Vars, Results}
use Rattle.points_to.specs.declared.wanted.Wanted.{Wanted}
use Rattle.points_to.specs.declared.wanted.Wanted.TheVariants.{NodeTags, Tags as all_tags, Sites as cell_sites}
use Rattle.points_to.specs.Held.{In, words_in_part}

abbrev pub tag_in : Element → List ℕ
tag_in (Cell s) = []
tag_in (Tag t) = t ∷ []
tag_in Number = []

abbrev pub site_in : Element → List ℕ
site_in (Cell s) = s ∷ []
site_in (Tag t) = []
site_in Number = []

abbrev pub wanted_of : Wanted → Part → Element → List ℕ
wanted_of NodeTags tags u = tag_in u
wanted_of NodeTags (field t i) u = []
wanted_of NodeTags (word j) u = []
wanted_of all_tags tags u = tag_in u
wanted_of all_tags (field t i) u = []
wanted_of all_tags (word j) u = cond (nat_eq j 0) (tag_in u) []
wanted_of cell_sites tags u = []
wanted_of cell_sites (field t i) u = []
wanted_of cell_sites (word j) u = cond (nat_eq j 0) (site_in u) []

abbrev pub wanted : Wanted → List Item → List ℕ
wanted w = flat_map (λ i. wanted_of w i.part i.word)

-- the same numbers, part by part
abbrev pub wanted_by_parts : Wanted → List Item → List ℕ
wanted_by_parts NodeTags X = flat_map tag_in (words_in_part tags X)
wanted_by_parts all_tags X =
    flat_map tag_in (words_in_part tags X) ++ flat_map tag_in (words_in_part (word 0) X)
wanted_by_parts cell_sites X = flat_map site_in (words_in_part (word 0) X)

abbrev pub place_of : Kind → ℕ → Place
place_of of_sites n = site n
place_of Vars n = var n
place_of Results n = result n

-- two lists with the same members
pub record SameSet (ns ms : List ℕ) : Type 0 where
  pub to : (n : ℕ) → In n ns → In n ms
  pub from : (n : ℕ) → In n ms → In n ns

-- whether a number is in a list
abbrev pub is_in : ℕ → List ℕ → Bool
is_in n ns = list_any (nat_eq n) ns

-- an ascending list, without repeats, of what is wanted
pub record Lists (w : Wanted) (X : List Item) (ns : List ℕ) : Type 0 where
  pub ascending : IsStrictlyIncreasing ns
  pub same : (n : ℕ) → is_in n ns ≡ is_in n (wanted w X)

abbrev pub site_id : ℕ → Site
site_id s = record { 0 = s }

-- the numbers in an entry of a table, none where there is no entry
abbrev pub numbers_by : {X : Type 0} → (X → ℕ) → Option (List X) → List ℕ
numbers_by f None = []
numbers_by f (Some xs) = map f xs

-- an entry for each place of a kind, by the place's number
abbrev pub IsTableOfWanted : {X : Type 0} → (X → ℕ) → (Place → List Item)
    → Kind → Wanted → List (List X)
    → Type 0
IsTableOfWanted number H k w table =
    (n : ℕ) → Lists w (H (place_of k n)) (numbers_by number (slice_get table n))

abbrev pub TagTable : (Place → List Item) → Kind → Wanted → List (List TagId) → Type 0
TagTable = IsTableOfWanted (λ t. t.0)

abbrev pub SiteTable : (Place → List Item) → Kind → Wanted → List (List Site) → Type 0
SiteTable = IsTableOfWanted (λ s. s.0)
