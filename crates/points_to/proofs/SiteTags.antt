-- The tags of the nodes at a site, where values are stored.
use Rattle.std.proofs.Common.{◌≡◌, ℕ, zero, suc, List, [], ◌∷◌, ◌++◌, Option, Some, None, slice_get, refl, sym, ap, ◌∙◌, subst, ⊎_elim}
use Rattle.std.specs.Prelude.{◌⊎◌}
use Rattle.std.specs.List.{flat_map}
use Rattle.std.specs.List.Sorted.{IsStrictlyIncreasing}
use Rattle.grin_syntax.specs.declared.program.Val.{Val}
use Rattle.flow_system.specs.declared.fact.Element.{Element}
use Rattle.flow_system.specs.declared.fact.Place.{Place}
use Rattle.flow_system.specs.declared.fact.Part.TheVariants.{Tags as tags}
use Rattle.flow_system.specs.declared.inclusion.Inclusion as code
use Rattle.flow_system.specs.Shown.{inclusion_of, shown}
use Rattle.flow_system.specs.Tables.{Tables}
use Rattle.points_to.specs.declared.bits.Bits.{Bits}
use Rattle.points_to.specs.declared.facts.Item.{Item}
use Rattle.points_to.specs.declared.noted.NotedSets.{NotedSets}
use Rattle.points_to.specs.declared.wanted.Wanted.TheVariants.{NodeTags}
use Rattle.points_to.specs.Held.{In, words_in_part}
use Rattle.points_to.specs.Noted.{noted_at, AreFirstWords}
use Rattle.points_to.specs.Rows.{words_in, SameMembers}
use Rattle.points_to.specs.Stored.{value_in, values_in, value_at, nodes_of, stored_nodes}
use Rattle.points_to.specs.ValueWords.{stored_words, words_of_values}
use Rattle.points_to.specs.Wanted.{tag_in, SameSet, Lists}
use Rattle.seq.proofs.Member.{in_left, in_right, in_split, in_flat, flat_in}
use Rattle.points_to.proofs.ByParts.{like_parts}
use Rattle.points_to.proofs.GivenItems.{picked_in, in_picked}
use Rattle.points_to.proofs.Read.{lists_of, tags_like}
use Rattle.points_to.proofs.ValueWords.{words_same}

-- the value with a number
pub value_some : (xs : List code.Inclusion) (n : ℕ) (c : code.Inclusion) → slice_get xs n ≡ Some c
    → value_at (values_in (shown xs)) n ≡ value_in (inclusion_of c)
value_some [] n c e = cc
value_some (x ∷ xs) zero c e = let same : x ≡ c = cc in ap (λ y. value_in (inclusion_of y)) same
value_some (x ∷ xs) (suc n) c e = value_some xs n c e

pub value_none : (xs : List code.Inclusion) (n : ℕ) → slice_get xs n ≡ None
    → value_at (values_in (shown xs)) n ≡ None
value_none [] n e = refl
value_none (x ∷ xs) zero e = cc
value_none (x ∷ xs) (suc n) e = value_none xs n e

module _ (p : Tables) (vs : List (Option Val)) (H : Place → List Item) where
  value_tags : (o : Option Val) → SameMembers (stored_words p H 0 o)
      (words_in_part tags (nodes_of p H o))
  value_tags None = record { into = λ u h. h; back = λ u h. h }
  value_tags (Some v) = words_same p H v 0

  abbrev words : ℕ → List Element
  words n = stored_words p H 0 (value_at vs n)

  abbrev nodes : ℕ → List Item
  nodes n = nodes_of p H (value_at vs n)

  -- the first words are the tags of the nodes
  module _ (X : List Item) (ns : List ℕ) where
    abbrev all : List Item
    all = X ++ stored_nodes p vs H ns

    tags_into : (u : Element) → In u (words_in_part tags X ++ words_of_values p vs H 0 ns)
        → In u (words_in_part tags all)
    tags_into u h = in_picked tags all (⊎_elim
        (λ a. in_left X (stored_nodes p vs H ns) (picked_in tags X a))
        (λ b. let r = flat_in words ns b in in_right X (stored_nodes p vs H ns)
        (in_flat nodes ns r.1
        (picked_in tags (nodes r.0) ((value_tags (value_at vs r.0)).into u r.2))))
        (in_split (words_in_part tags X) (words_of_values p vs H 0 ns) h))

    tags_back : (u : Element) → In u (words_in_part tags all)
        → In u (words_in_part tags X ++ words_of_values p vs H 0 ns)
    tags_back u h = ⊎_elim
        (λ a. in_left (words_in_part tags X) (words_of_values p vs H 0 ns) (in_picked tags X a))
        (λ b. let r = flat_in nodes ns b in in_right (words_in_part tags X)
        (words_of_values p vs H 0 ns)
        (in_flat words ns r.1
        ((value_tags (value_at vs r.0)).back u (in_picked tags (nodes r.0) r.2))))
        (in_split X (stored_nodes p vs H ns) (picked_in tags all h))

    pub site_lists : (us : List Element) (ts : List ℕ)
        → SameMembers us (words_in_part tags X ++ words_of_values p vs H 0 ns)
        → IsStrictlyIncreasing ts → SameSet ts (flat_map tag_in us) → Lists NodeTags all ts
    site_lists us ts e o s = lists_of NodeTags all ts
        (like_parts NodeTags all ts (tags_like us (words_in_part tags all) ts (record {
          into = λ u h. tags_into u (e.into u h);
          back = λ u h. e.back u (tags_back u h);
        }) s)) o

  -- first words that were noted
  pub none_first : (m : NotedSets) → ((n : ℕ) → noted_at m n ≡ None) → AreFirstWords p vs H m
  none_first m none n b e = not_some (sym (none n) ∙ e)
    where
      not_some : None ≡ Some b → SameMembers (words_in b) (words n)
      not_some e = cc

  pub first_more : (m m' : NotedSets) (n : ℕ) (b : Bits) → AreFirstWords p vs H m
      → SameMembers (words_in b) (words n)
      → ((k : ℕ) → (noted_at m' k ≡ noted_at m k) ⊎ ((k ≡ n) × (noted_at m' k ≡ Some b)))
      → AreFirstWords p vs H m'
  first_more m m' n b are same put k b' e = ⊎_elim
      (λ q. are k b' (sym q ∙ e))
      (λ q. subst (λ d. SameMembers (words_in d) (words k)) (some_is b b' (sym q.1 ∙ e))
      (subst (λ j. SameMembers (words_in b) (words j)) (sym q.0) same))
      (put k)
    where
      some_is : (c d : Bits) → Some c ≡ Some d → c ≡ d
      some_is c d e = cc
