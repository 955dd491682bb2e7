-- The readers' lists are the sets of the solution, ascending.
use Rattle.std.proofs.Common.{◌≡◌, ℕ, Bool, cond, List, [], ◌∷◌, ◌++◌, map, sym, ap, ◌∙◌, subst, append_assoc}
use Rattle.std.specs.Prelude.{◌↔◌, IsTrue, codes}
use Rattle.std.specs.List.{flat_map}
use Rattle.std.proofs.lemmas.Simd.{map-map}
use Rattle.std.specs.List.Sorted.{IsStrictlyIncreasing}
use Rattle.grin_syntax.specs.declared.program.TagId.{TagId}
use Rattle.grin_syntax.specs.declared.program.Site.{Site}
use Rattle.grin_syntax.specs.Listing.{spaced}
use Rattle.flow_system.specs.declared.fact.Place.{Place}
use Rattle.flow_system.specs.declared.fact.Part.{Part}
use Rattle.flow_system.specs.declared.fact.Element.{Element}
use Rattle.flow_system.specs.declared.fact.Part.TheVariants.{Tags, Word}
use Rattle.flow_system.specs.declared.fact.Element.TheVariants.{Cell, Tag, Number}
use Rattle.flow_system.specs.Solution.{Solution, At, among}
use Rattle.points_to.specs.Wanted.{tag_in, site_in}
use Rattle.points_to.proofs.Solved.{among_in, in_among}
use Rattle.seq.specs.Lists.{In, here}
use Rattle.seq.proofs.Member.{none_in, one_in, in_flat, flat_in}
use Rattle.seq.proofs.Truth.{both_ways}
use Rattle.flow_listing.specs.Ascending.{ascending}
use Rattle.flow_listing.specs.Text.{ordered_words}
use Rattle.flow_listing.proofs.Ascending.{is_ascending}
use Rattle.flow_listing.proofs.Numbered.{flat_map_map}

-- ---- members

its_tag : (t : ℕ) (u : Element) → In t (tag_in u) → u ≡ Tag t
its_tag t (Cell s) h = none_in h
its_tag t (Tag v) h = ap Tag (sym (one_in v h))
its_tag t Number h = none_in h

its_site : (s : ℕ) (u : Element) → In s (site_in u) → u ≡ Cell s
its_site s (Cell v) h = ap Cell (sym (one_in v h))
its_site s (Tag t) h = none_in h
its_site s Number h = none_in h

module _ (A : Solution) (q : Place) (part : Part) where
  pub tag_there : (t : ℕ) → At A q part (Tag t) → In t (flat_map tag_in (A q part))
  tag_there t a = in_flat tag_in (A q part) (among_in (Tag t) (A q part) a.there) here

  pub there_tag : (t : ℕ) → In t (flat_map tag_in (A q part)) → At A q part (Tag t)
  there_tag t h = let r = flat_in tag_in (A q part) h
      in record
      { there = in_among (Tag t) (A q part) (subst (λ u. In u (A q part)) (its_tag t r.0 r.2) r.1) }

  pub site_there : (s : ℕ) → At A q part (Cell s) → In s (flat_map site_in (A q part))
  site_there s a = in_flat site_in (A q part) (among_in (Cell s) (A q part) a.there) here

  pub there_site : (s : ℕ) → In s (flat_map site_in (A q part)) → At A q part (Cell s)
  there_site s h = let r = flat_in site_in (A q part) h
      in record {
        there = in_among (Cell s) (A q part)
            (subst (λ u. In u (A q part)) (its_site s r.0 r.2) r.1);
      }

  pub all_tags : (ts : List ℕ) → IsStrictlyIncreasing ts → ((t : ℕ) → In t ts ↔ At A q part (Tag t))
      → ts ≡ ascending (flat_map tag_in (A q part))
  all_tags ts o same = is_ascending ts (flat_map tag_in (A q part)) o
      (λ t h. tag_there t ((same t).0 h)) (λ t h. (same t).1 (there_tag t h))

  pub all_sites : (ss : List ℕ) → IsStrictlyIncreasing ss
      → ((s : ℕ) → In s ss ↔ At A q part (Cell s)) → ss ≡ ascending (flat_map site_in (A q part))
  all_sites ss o same = is_ascending ss (flat_map site_in (A q part)) o
      (λ s h. site_there s ((same s).0 h)) (λ s h. (same s).1 (there_site s h))

  -- whether a number is there
  pub tells_number : (b : Bool) → (IsTrue b ↔ At A q part Number) → b ≡ among Number (A q part)
  tells_number b same = both_ways b (among Number (A q part)) (λ e. (same.0 e).there)
      (λ e. same.1 (record { there = e }))

  -- the words after all are put
  pub all_words : (ss : List Site) (ts : List TagId) (b : Bool) (o0 o1 o2 o3 : List Element)
      → IsStrictlyIncreasing (map (λ s. s.0) ss) →
      ((s : ℕ) → In s (map (λ s. s.0) ss) ↔ At A q part (Cell s))
      → IsStrictlyIncreasing (map (λ t. t.0) ts) →
      ((t : ℕ) → In t (map (λ t. t.0) ts) ↔ At A q part (Tag t))
      → (IsTrue b ↔ At A q part Number)
      → o0 ≡ [] → o1 ≡ o0 ++ map (λ s. Cell s.0) ss → o2 ≡ o1 ++ map (λ t. Tag t.0) ts → o3 ≡ o2
      ++ cond b (Number ∷ []) [] → o3 ≡ ordered_words (A q part)
  all_words ss ts b o0 o1 o2 o3 os same os' same' number e0 e1 e2 e3 =
      let cells : map (λ s. Cell s.0) ss ≡ map Cell (ascending (flat_map site_in (A q part)))
      = sym (map-map Cell (λ (s : Site). s.0) ss) ∙ ap (map Cell)
      (all_sites (map (λ s. s.0) ss) os same) in
      let tags : map (λ t. Tag t.0) ts ≡ map Tag (ascending (flat_map tag_in (A q part)))
      = sym (map-map Tag (λ (t : TagId). t.0) ts) ∙ ap (map Tag)
      (all_tags (map (λ t. t.0) ts) os' same') in
      e3 ∙ (λ i. e2 i ++ cond b (Number ∷ []) []) ∙
      (λ i. (e1 i ++ map (λ t. Tag t.0) ts) ++ cond b (Number ∷ []) [])
      ∙ (λ i. ((e0 i ++ cells i) ++ tags i) ++ cond (tells_number b number i) (Number ∷ []) [])
      ∙ append_assoc (map Cell (ascending (flat_map site_in (A q part))))
      (map Tag (ascending (flat_map tag_in (A q part))))
      (cond (among Number (A q part)) (Number ∷ []) [])

  -- the texts of all tags
  pub tags_put : (f : ℕ → List ℕ) (ts : List TagId) → IsStrictlyIncreasing (map (λ t. t.0) ts)
      → ((t : ℕ) → In t (map (λ t. t.0) ts) ↔ At A q part (Tag t))
      → spaced (λ t. f t.0) ts ≡ spaced f (ascending (flat_map tag_in (A q part)))
  tags_put f ts o same = sym (flat_map_map (λ (t : TagId). t.0) (λ (t : ℕ). codes " " ++ f t) ts) ∙
      ap (spaced f) (all_tags (map (λ t. t.0) ts) o same)

-- what may be at a place, after all is put
pub place_put : (A : Solution) (q : Place) (f : ℕ → List ℕ) (g : Element → List ℕ) (rest : List ℕ)
    (ts : List TagId) (us : List Element) (t0 t1 t2 t3 : List ℕ)
    → IsStrictlyIncreasing (map (λ t. t.0) ts) →
    ((t : ℕ) → In t (map (λ t. t.0) ts) ↔ At A q Tags (Tag t))
    → us ≡ ordered_words (A q (Word 0))
    → t1 ≡ t0 ++ spaced (λ t. f t.0) ts → t2 ≡ t1 ++ spaced g us → t3 ≡ t2 ++ rest
    → t3 ≡ t0 ++
    ((spaced f (ascending (flat_map tag_in (A q Tags)))
    ++ spaced g (ordered_words (A q (Word 0)))) ++ rest)
place_put A q f g rest ts us t0 t1 t2 t3 os same w e1 e2 e3 =
    let nodes = spaced f (ascending (flat_map tag_in (A q Tags))) in
    let words = spaced g (ordered_words (A q (Word 0))) in
    e3 ∙ (λ i. e2 i ++ rest) ∙ (λ i. (e1 i ++ spaced g (w i)) ++ rest) ∙
    (λ i. ((t0 ++ tags_put A q Tags f ts os same i) ++ words) ++ rest)
    ∙ ap (λ l. l ++ rest) (append_assoc t0 nodes words) ∙ append_assoc t0 (nodes ++ words) rest
