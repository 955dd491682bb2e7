-- What is wanted of items, found part by part.
use Rattle.std.proofs.Common.{ℕ, nat_eq, List, subst, ⊎_elim}
use Rattle.std.specs.List.{flat_map}
use Rattle.flow_system.specs.declared.fact.Element.{Element}
use Rattle.flow_system.specs.declared.fact.Part.{Part}
use Rattle.flow_system.specs.declared.fact.Part.TheVariants.{Tags as tags, Field as field, Word as word}
use Rattle.points_to.specs.declared.facts.Item.{Item}
use Rattle.points_to.specs.declared.wanted.Wanted.{Wanted}
use Rattle.points_to.specs.declared.wanted.Wanted.TheVariants.{NodeTags, Tags as all_tags, Sites as cell_sites}
use Rattle.points_to.specs.Held.{In, item, words_in_part}
use Rattle.points_to.specs.Wanted.{tag_in, site_in, wanted_of, wanted, wanted_by_parts, SameSet}
use Rattle.seq.proofs.Member.{none_in, in_left, in_right, in_split, when_in, in_flat, flat_in}
use Rattle.seq.proofs.Order.{eq_from}
use Rattle.points_to.proofs.GivenItems.{picked_in, in_picked}

module _ (w : Wanted) (f : Element → List ℕ) (q : Part) (X : List Item) {n : ℕ} where
  -- from a part, of which all that f gives is wanted
  out_of : ((u : Element) → In n (f u) → In n (wanted_of w q u))
      → In n (flat_map f (words_in_part q X)) → In n (wanted w X)
  out_of k h = let r = flat_in f (words_in_part q X) h
      in in_flat (λ i. wanted_of w i.part i.word) X (picked_in q X r.1) (k r.0 r.2)

  into : (u : Element) → In (item q u) X → In n (f u) → In n (flat_map f (words_in_part q X))
  into u x y = in_flat f (words_in_part q X) (in_picked q X x) y

to_wanted : (w : Wanted) (X : List Item) (n : ℕ) → In n (wanted_by_parts w X) → In n (wanted w X)
to_wanted NodeTags X n h = out_of NodeTags tag_in tags X (λ u y. y) h
to_wanted all_tags X n h = ⊎_elim (out_of all_tags tag_in tags X (λ u y. y))
    (out_of all_tags tag_in (word 0) X (λ u y. y))
    (in_split (flat_map tag_in (words_in_part tags X)) (flat_map tag_in (words_in_part (word 0) X))
    h)
to_wanted cell_sites X n h = out_of cell_sites site_in (word 0) X (λ u y. y) h

from_item : (w : Wanted) (X : List Item) (n : ℕ) (q : Part) (u : Element) → In (item q u) X
    → In n (wanted_of w q u) → In n (wanted_by_parts w X)
from_item NodeTags X n tags u x y = into NodeTags tag_in tags X u x y
from_item NodeTags X n (field t i) u x y = none_in y
from_item NodeTags X n (word j) u x y = none_in y
from_item all_tags X n tags u x y = in_left _ _ (into all_tags tag_in tags X u x y)
from_item all_tags X n (field t i) u x y = none_in y
from_item all_tags X n (word j) u x y =
    let w = when_in (nat_eq j 0) (tag_in u) y in
    in_right (flat_map tag_in (words_in_part tags X)) _
    (into all_tags tag_in (word 0) X u (subst (λ j. In (item (word j) u) X) (eq_from j 0 w.0) x)
    w.1)
from_item cell_sites X n tags u x y = none_in y
from_item cell_sites X n (field t i) u x y = none_in y
from_item cell_sites X n (word j) u x y =
    let w = when_in (nat_eq j 0) (site_in u) y in
    into cell_sites site_in (word 0) X u (subst (λ j. In (item (word j) u) X) (eq_from j 0 w.0) x)
    w.1

-- the same numbers
pub parts_same : (w : Wanted) (X : List Item) → SameSet (wanted_by_parts w X) (wanted w X)
parts_same w X = record {
  to = to_wanted w X;
  from = λ n h. let r = flat_in (λ i. wanted_of w i.part i.word) X h
      in from_item w X n r.0.part r.0.word r.1 r.2;
}

pub like_parts : (w : Wanted) (X : List Item) (ns : List ℕ) → SameSet ns (wanted_by_parts w X)
    → SameSet ns (wanted w X)
like_parts w X ns s = let p = parts_same w X in record
    { to = λ n h. p.to n (s.to n h); from = λ n h. s.from n (p.from n h) }
