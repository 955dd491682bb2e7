-- What cells hold: the values that reach them, and the nodes that these stand for by what is known
-- of their words.
use Rattle.std.specs.Prelude.{◌≡◌, ℕ, ◌⊎◌, List, [], ◌++◌, map, Option, Some, None, slice_get}
use Rattle.std.specs.List.{flat_map}
use Rattle.grin_syntax.specs.declared.program.Val.{Val}
use Rattle.flow_system.specs.declared.fact.Element.{Element as AbstractWord}
use Rattle.flow_system.specs.declared.fact.Element.TheVariants.{Cell as cell_of, Tag as tag, Number as num}
use Rattle.flow_system.specs.declared.fact.Place.{Place}
use Rattle.flow_system.specs.declared.fact.Place.TheVariants.{Site, Var, Result}
use Rattle.flow_system.specs.Inclusions.{Source, value, Inclusion, flows, forces, applies}
use Rattle.flow_system.specs.Tables.{Tables}
use Rattle.flow_system.specs.Solution.{width}
use Rattle.points_to.specs.declared.bits.Bits.{Bits}
use Rattle.points_to.specs.declared.facts.Item.{Item}
use Rattle.points_to.specs.declared.facts.Facts.{Facts}
use Rattle.points_to.specs.declared.origin.ProgramTables.{ProgramTables}
use Rattle.points_to.specs.declared.stored.Stored.{Stored}
use Rattle.points_to.specs.Held.{In, as_nodes, value_items}
use Rattle.points_to.specs.Known.{held}
use Rattle.points_to.specs.Rows.{numbers_in}

-- what values refer to
abbrev pub tables_in : ProgramTables → Tables
tables_in o = record { tags = o.tags; globals = o.globals; params = o.params }

-- the numbers in a set, none where there is no such set
abbrev pub numbers_of : Option Bits → List ℕ
numbers_of None = []
numbers_of (Some s) = numbers_in s

abbrev pub sets_at : List Bits → ℕ → List ℕ
sets_at sets n = numbers_of (slice_get sets n)

-- the inclusions whose values reach the cells of a site, or a cell
abbrev pub stored_at : Stored → ℕ → List ℕ
stored_at s = sets_at s.at.items

abbrev pub cell_stored : Stored → AbstractWord → List ℕ
cell_stored s (cell_of n) = stored_at s n
cell_stored s (tag t) = []
cell_stored s num = []

-- the value of an inclusion
abbrev pub source_value : Source → Option Val
source_value (value v) = Some v
source_value _ = None

abbrev pub value_in : Inclusion → Option Val
value_in (flows s k) = source_value s
value_in (forces s) = None
value_in (applies v a k) = None

abbrev pub values_in : List Inclusion → List (Option Val)
values_in = map value_in

-- the value with a number
abbrev pub flatten_option : Option (Option Val) → Option Val
flatten_option None = None
flatten_option (Some v) = v

abbrev pub value_at : List (Option Val) → ℕ → Option Val
value_at vs n = flatten_option (slice_get vs n)

-- a number is put at the sites of cells
pub record PutsAtAllSites (old new : ℕ → List ℕ) (cells : List AbstractWord) (n : ℕ) : Type 0 where
  pub kept : (s m : ℕ) → In m (old s) → In m (new s)
  pub put : (s : ℕ) → In (cell_of s) cells → In n (new s)
  pub only : (s m : ℕ) → In m (new s) → In m (old s) ⊎ (In (cell_of s) cells × (m ≡ n))

-- a number is put at a site
pub record PutsAtSite (old new : ℕ → List ℕ) (s n : ℕ) : Type 0 where
  pub kept : (r m : ℕ) → In m (old r) → In m (new r)
  pub put : In n (new s)
  pub only : (r m : ℕ) → In m (new r) → In m (old r) ⊎ ((r ≡ s) × (m ≡ n))

module _ (p : Tables) where
  -- the nodes that a value stands for
  abbrev pub value_nodes : (Place → List Item) → Val → List Item
  value_nodes H v = as_nodes p (width (value v)) (value_items p H v)

  abbrev pub nodes_of : (Place → List Item) → Option Val → List Item
  nodes_of H None = []
  nodes_of H (Some v) = value_nodes H v

  module _ (vs : List (Option Val)) where
    abbrev pub stored_nodes : (Place → List Item) → List ℕ → List Item
    stored_nodes H = flat_map (λ n. nodes_of H (value_at vs n))

    -- all that is known, with the nodes of the values in cells
    abbrev pub whole : Facts → Stored → Place → List Item
    whole f s (Site n) = held f (Site n) ++ stored_nodes (held f) (stored_at s n)
    whole f s (Var n) = held f (Var n)
    whole f s (Result n) = held f (Result n)
