-- Solutions with the same members have one text.
use Rattle.std.proofs.Common.{◌≡◌, ℕ, cond, List, [], ◌∷◌, ◌++◌, map, Option, Some, None}
use Rattle.std.specs.Prelude.{codes, slice_get}
use Rattle.std.specs.List.{flat_map}
use Rattle.grin_syntax.specs.declared.program.VarId.{VarId}
use Rattle.grin_syntax.specs.declared.program.Site.{Site}
use Rattle.grin_syntax.specs.Tree.{Program, Procedure}
use Rattle.grin_syntax.specs.Tags.{tag_id}
use Rattle.grin_syntax.specs.Listing.{spaced, joined, tag_name}
use Rattle.flow_system.specs.declared.fact.Element.{Element}
use Rattle.flow_system.specs.declared.fact.Element.TheVariants.{Cell as cell_of, Tag as tag, Number as num}
use Rattle.flow_system.specs.declared.fact.Place.{Place}
use Rattle.flow_system.specs.declared.fact.Place.TheVariants.{Site as site, Var as var, Result as result}
use Rattle.flow_system.specs.declared.fact.Part.{Part}
use Rattle.flow_system.specs.declared.fact.Part.TheVariants.{Tags as tags, Field as field, Word as word}
use Rattle.flow_system.specs.Inclusions.{Inclusion}
use Rattle.flow_system.specs.Tables.{Tables}
use Rattle.flow_system.specs.Solution.{Solution, At, among, IsLeast}
use Rattle.seq.specs.Lists.{numbers_from}
use Rattle.seq.proofs.Truth.{both_ways}
use Rattle.points_to.specs.Wanted.{tag_in, site_in}
use Rattle.flow_listing.specs.declared.names.CellName.{CellName}
use Rattle.flow_listing.specs.Ascending.{ascending, flat_map_indexed}
use Rattle.flow_listing.specs.Binders.{procedure_binders}
use Rattle.flow_listing.specs.Text.{tags_among, sites_among, ordered_words, variable_text, field_count, word_text, place_text, bound_text, procedure_text, name_of_site, cells, points}
use Rattle.flow_listing.proofs.Ascending.{same_list, ascending_ascends, has, only}
use Rattle.flow_listing.proofs.Sets.{tag_there, there_tag, site_there, there_site}

-- the same words are at each place
abbrev SameAt : Solution → Solution → Type 0
SameAt A B = (q : Place) (part : Part) (u : Element) → (At A q part u → At B q part u)
    × (At B q part u → At A q part u)

module _ (A B : Solution) (same : SameAt A B) where
  same_tags : (q : Place) (part : Part) → tags_among (A q part) ≡ tags_among (B q part)
  same_tags q part =
      let xs = flat_map tag_in (A q part) in let ys = flat_map tag_in (B q part) in
      same_list 0 (ascending xs) (ascending ys) (ascending_ascends xs) (ascending_ascends ys)
      (λ t h. has t ys
      (tag_there B q part t ((same q part (tag t)).0 (there_tag A q part t (only t xs h)))))
      (λ t h. has t xs
      (tag_there A q part t ((same q part (tag t)).1 (there_tag B q part t (only t ys h)))))

  same_sites : (q : Place) (part : Part) → sites_among (A q part) ≡ sites_among (B q part)
  same_sites q part =
      let xs = flat_map site_in (A q part) in let ys = flat_map site_in (B q part) in
      same_list 0 (ascending xs) (ascending ys) (ascending_ascends xs) (ascending_ascends ys)
      (λ s h. has s ys
      (site_there B q part s
      ((same q part (cell_of s)).0 (there_site A q part s (only s xs h)))))
      (λ s h. has s xs
      (site_there A q part s
      ((same q part (cell_of s)).1 (there_site B q part s (only s ys h)))))

  same_number : (q : Place) (part : Part) → among num (A q part) ≡ among num (B q part)
  same_number q part =
      both_ways (among num (A q part)) (among num (B q part))
      (λ e. ((same q part num).0 (record { there = e })).there)
      (λ e. ((same q part num).1 (record { there = e })).there)

  same_words : (q : Place) (part : Part) → ordered_words (A q part) ≡ ordered_words (B q part)
  same_words q part = λ i. map cell_of (same_sites q part i)
      ++ (map tag (same_tags q part i) ++ cond (same_number q part i) (num ∷ []) [])

  module _ (p : Program) (name : ℕ → Option CellName) where
    same_place : (q : Place) → place_text p name A q ≡ place_text p name B q
    same_place q = λ j.
        spaced (λ t. codes "(" ++ tag_name p (tag_id t)
        ++ spaced
        (λ i. codes "{" ++ joined (word_text p name) (same_words q (field t i) j) ++ codes "}")
        (numbers_from 0 (field_count (slice_get p.tags t)))
        ++ codes ")") (same_tags q tags j)
        ++ spaced (word_text p name) (same_words q (word 0) j) ++ codes "\n"

    same_bound : (x : VarId) (s : Option Site) → bound_text p name A x s ≡ bound_text p name B x s
    same_bound x None = λ j. codes ":" ++ same_place (var x.0) j
    same_bound x (Some s) = λ j. codes " =" ++ same_place (site s.0) j

    same_procedure : (f : ℕ) (q : Procedure) → procedure_text p name A f q ≡ procedure_text p name B
        f q
    same_procedure f q = λ j.
        codes "\n" ++ q.name ++ codes ":" ++ same_place (result f) j
        ++ flat_map_indexed (λ k b. codes "  " ++ variable_text k ++ same_bound b.var b.site j) 0
        (procedure_binders q)

  same_text : (p : Program) → points p A ≡ points p B
  same_text p = λ j.
      flat_map (λ c. codes "global " ++ c.name ++ codes " ="
      ++ same_place p (name_of_site (cells p)) (site c.site.0) j) p.globals
      ++ flat_map_indexed (λ f q. same_procedure p (name_of_site (cells p)) f q j) 0 p.procs

pub one_text : (p : Program) (t : Tables) (cs : List Inclusion) (A B : Solution) → IsLeast t cs A
    → IsLeast t cs B → points p A ≡ points p B
one_text p t cs A B a b = same_text A B
    (λ q part u. (a.least B b.solves q part u, b.least A a.solves q part u)) p
