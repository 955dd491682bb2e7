-- The text of a solution: first a line for each global cell, then each procedure after an empty
-- line.
use Rattle.std.specs.Prelude.{ℕ, cond, nat_eq, List, [], ◌∷◌, ◌++◌, map, codes, decimal, Option, Some, None, slice_get}
use Rattle.std.specs.List.{flat_map}
use Rattle.grin_syntax.specs.declared.program.VarId.{VarId}
use Rattle.grin_syntax.specs.declared.program.Site.{Site}
use Rattle.grin_syntax.specs.declared.program.Tag.{Tag}
use Rattle.grin_syntax.specs.declared.program.GlobalCell.{GlobalCell}
use Rattle.grin_syntax.specs.Tree.{Procedure, Program}
use Rattle.grin_syntax.specs.Tags.{tag_id}
use Rattle.grin_syntax.specs.Listing.{spaced, joined, tag_name, global_text, procedure_name}
use Rattle.flow_system.specs.declared.fact.Element.{Element}
use Rattle.flow_system.specs.declared.fact.Element.TheVariants.{Cell as cell_of, Tag as tag, Number as num}
use Rattle.flow_system.specs.declared.fact.Place.{Place}
use Rattle.flow_system.specs.declared.fact.Place.TheVariants.{Site as site, Var as var, Result as result}
use Rattle.flow_system.specs.declared.fact.Part.TheVariants.{Tags as tags, Field as field, Word as word}
use Rattle.flow_system.specs.Solution.{Solution, among}
use Rattle.seq.specs.Lists.{numbers_from}
use Rattle.points_to.specs.Wanted.{tag_in, site_in}
use Rattle.flow_listing.specs.declared.binder.Binder.{Binder}
use Rattle.flow_listing.specs.declared.names.CellName.{CellName}
use Rattle.flow_listing.specs.declared.names.CellName.TheVariants.{Global, Local}
use Rattle.flow_listing.specs.declared.names.NamedCell.{NamedCell}
use Rattle.flow_listing.specs.Ascending.{ascending, flat_map_indexed}
use Rattle.flow_listing.specs.Binders.{procedure_binders}

-- ---- the names of cells

-- a variable is named by its place among those that its procedure binds, as in a listing
abbrev pub variable_text : ℕ → List ℕ
variable_text k = codes "v" ++ decimal k

abbrev pub global_cell : ℕ → GlobalCell → List NamedCell
global_cell i c = record { site = c.site; name = Global i } ∷ []

abbrev pub local_cell : ℕ → ℕ → Option Site → List NamedCell
local_cell f k None = []
local_cell f k (Some s) = record { site = s; name = Local f k } ∷ []

abbrev pub local_cells : ℕ → Procedure → List NamedCell
local_cells f q = flat_map_indexed (λ k b. local_cell f k b.site) 0 (procedure_binders q)

-- the cells of a program, in the order of its text
abbrev pub cells : Program → List NamedCell
cells p = flat_map_indexed global_cell 0 p.globals ++ flat_map_indexed local_cells 0 p.procs

-- the name of the cells of a site
abbrev pub name_of_site : List NamedCell → ℕ → Option CellName
name_of_site [] s = None
name_of_site (c ∷ cs) s = cond (nat_eq s c.site.0) (Some c.name) (name_of_site cs s)

-- ---- the sets

-- the tags and the sites among some words, ascending
abbrev pub tags_among : List Element → List ℕ
tags_among us = ascending (flat_map tag_in us)

abbrev pub sites_among : List Element → List ℕ
sites_among us = ascending (flat_map site_in us)

-- a set of words in its order: cells, tags, a number
abbrev pub ordered_words : List Element → List Element
ordered_words us =
    map cell_of (sites_among us) ++ (map tag (tags_among us) ++ cond (among num us) (num ∷ []) [])

-- ---- the text

abbrev pub field_count : Option Tag → ℕ
field_count None = 0
field_count (Some t) = t.fields

module _ (p : Program) where
  -- a global cell is named by its own name, another one by its procedure and its variable
  abbrev pub cell_text : Option CellName → List ℕ
  cell_text None = []
  cell_text (Some (Global i)) = global_text (slice_get p.globals i)
  cell_text (Some (Local f k)) =
      procedure_name (slice_get p.procs f) ++ codes "." ++ variable_text k

  module _ (name : ℕ → Option CellName) where
    abbrev pub word_text : Element → List ℕ
    word_text (cell_of s) = codes "&" ++ cell_text (name s)
    word_text (tag t) = codes "#" ++ tag_name p (tag_id t)
    word_text num = codes "number"

    module _ (A : Solution) where
      -- `{&cell number}`: what may stand in a field
      abbrev pub field_text : Place → ℕ → ℕ → List ℕ
      field_text q t i =
          codes "{" ++ joined word_text (ordered_words (A q (field t i))) ++ codes "}"

      -- `(TAG {..} {..})`: the nodes of a tag, field by field
      abbrev pub node_text : Place → ℕ → List ℕ
      node_text q t =
          codes "(" ++ tag_name p (tag_id t)
          ++ spaced (field_text q t) (numbers_from 0 (field_count (slice_get p.tags t)))
          ++ codes ")"

      -- what may be at a place: its nodes, and the words where it is of one word
      abbrev pub place_text : Place → List ℕ
      place_text q =
          spaced (node_text q) (tags_among (A q tags))
          ++ spaced word_text (ordered_words (A q (word 0)))
          ++ codes "\n"

      -- `global NAME = ..`: what the cell may hold
      abbrev pub global_line : GlobalCell → List ℕ
      global_line c = codes "global " ++ c.name ++ codes " =" ++ place_text (site c.site.0)

      -- `vK: ..`: what a variable may stand for; `vK = ..`: what the new cells may hold that it
      -- stands for
      abbrev pub bound_text : VarId → Option Site → List ℕ
      bound_text x None = codes ":" ++ place_text (var x.0)
      bound_text x (Some s) = codes " =" ++ place_text (site s.0)

      abbrev pub binder_line : ℕ → Binder → List ℕ
      binder_line k b = codes "  " ++ variable_text k ++ bound_text b.var b.site

      -- `NAME: ..`: what the procedure may give, and a line for each variable that it binds
      abbrev pub procedure_text : ℕ → Procedure → List ℕ
      procedure_text f q =
          codes "\n" ++ q.name ++ codes ":" ++ place_text (result f)
          ++ flat_map_indexed binder_line 0 (procedure_binders q)

  abbrev pub points : Solution → List ℕ
  points A =
      let name : ℕ → Option CellName = name_of_site (cells p) in
      flat_map (global_line name A) p.globals ++ flat_map_indexed (procedure_text name A) 0 p.procs
