-- The tags of the nodes in the cells that variables stand for, as ascending lists.
use Rattle.std.specs.Prelude.{◌≡◌, ◌<◌, ℕ, List, length, slice_get}
use Rattle.std.specs.List.{flat_map}
use Rattle.std.specs.List.Sorted.{IsStrictlyIncreasing}
use Rattle.grin_syntax.specs.declared.program.TagId.{TagId}
use Rattle.grin_syntax.specs.declared.program.Site.{Site}
use Rattle.points_to.specs.Wanted.{is_in, numbers_by}

-- the tags of a site in a table, and those of some sites
abbrev pub tags_at : List (List TagId) → ℕ → List ℕ
tags_at tags s = numbers_by (λ t. t.0) (slice_get tags s)

abbrev pub tags_of_sites : List (List TagId) → List ℕ → List ℕ
tags_of_sites tags = flat_map (tags_at tags)

-- an ascending list, without repeats, of the members of another
pub record IsSortedSetOf (ms ns : List ℕ) : Type 0 where
  pub ascending : IsStrictlyIncreasing ns
  pub same : (n : ℕ) → is_in n ns ≡ is_in n ms

-- the tags of the sites of the variable n
abbrev pub HasTagsOfSites : (ℕ → List ℕ) → List (List Site) → List (List TagId) → ℕ → Type 0
HasTagsOfSites tags sites table n =
    IsSortedSetOf (flat_map tags (numbers_by (λ s. s.0) (slice_get sites n)))
    (numbers_by (λ t. t.0) (slice_get table n))

-- for each variable the tags of its sites, in a table that has all entries, or the first ones
abbrev pub IsVariableTagTable : List (List TagId) → List (List Site) → List (List TagId) → Type 0
IsVariableTagTable tags sites table = (n : ℕ) → HasTagsOfSites (tags_at tags) sites table n

abbrev pub IsPartialTagTable : (ℕ → List ℕ) → List (List Site) → List (List TagId) → Type 0
IsPartialTagTable tags sites table = (n : ℕ) → n < length table → HasTagsOfSites tags sites table n
