-- The tags in the cells of variables, put together from the tables of their sites and of the sites'
-- tags.
use Rattle.std.proofs.Common.{◌≡◌, ◌+◌, ◌<◌, ◌≤◌, ℕ, List, [], ◌∷◌, ◌++◌, map, take, length, get_or, slice_get, refl, sym, ap, ◌∙◌, subst, ⊎_elim, arith}
use Rattle.std.specs.List.{flat_map}
use Rattle.std.specs.List.Sorted.{IsStrictlyIncreasing}
use Rattle.std.proofs.lemmas.List.{take_all, take_more}
use Rattle.std.proofs.lemmas.Option.{slice_get_past}
use Rattle.grin_syntax.specs.declared.program.TagId.{TagId}
use Rattle.grin_syntax.specs.declared.program.Site.{Site}
use Rattle.flow_system.specs.declared.fact.Element.TheVariants.{Cell, Tag}
use Rattle.flow_system.specs.declared.fact.Place.{Place}
use Rattle.flow_system.specs.declared.fact.Place.TheVariants.{Site as site, Var as var}
use Rattle.flow_system.specs.declared.fact.Part.TheVariants.{Tags as tags, Word as word}
use Rattle.flow_system.specs.Solution.{At}
use Rattle.points_to.specs.declared.facts.Item.{Item}
use Rattle.points_to.specs.declared.wanted.Kind.TheVariants.{Sites as of_sites, Vars}
use Rattle.points_to.specs.declared.wanted.Wanted.TheVariants.{NodeTags, Sites as cell_sites}
use Rattle.points_to.specs.Held.{In}
use Rattle.points_to.specs.Known.{solution_of}
use Rattle.points_to.specs.Wanted.{is_in, SameSet, numbers_by, TagTable, SiteTable}
use Rattle.points_to.specs.Met.{tags_of_sites, IsSortedSetOf, IsPartialTagTable, HasTagsOfSites as Meets'}
use Rattle.points_to.specs.Rows.{SameMembers}
use Rattle.seq.proofs.Member.{in_flat, flat_in}
use Rattle.seq.proofs.Lists.{map_push}
use Rattle.seq.proofs.Truth.{both_ways}
use Rattle.seq.proofs.Order.{lt_or_le}
use Rattle.points_to.proofs.Read.{is_in-in, in-is_in, longer, entry, cells, node_tags}
use Rattle.points_to.proofs.Solved.{known_at, at_known}

pub ascends_of : (ms ns : List ℕ) → SameSet ns ms → IsStrictlyIncreasing ns → IsSortedSetOf ms ns
ascends_of ms ns s o = record {
  ascending = o;
  same = λ n. both_ways (is_in n ns) (is_in n ms)
      (λ e. in-is_in n ms (s.to n (is_in-in n ns e)))
      (λ e. in-is_in n ns (s.from n (is_in-in n ms e)));
}

-- the same of a list with the same members
pub ascends_like : (ms ms' ns : List ℕ) → SameMembers ms ms' → IsSortedSetOf ms ns
    → IsSortedSetOf ms' ns
ascends_like ms ms' ns s a = record {
  ascending = a.ascending;
  same = λ n. a.same n ∙ both_ways (is_in n ms) (is_in n ms')
      (λ e. in-is_in n ms' (s.into n (is_in-in n ms e)))
      (λ e. in-is_in n ms (s.back n (is_in-in n ms' e)));
}

-- lists that are made of numbers under a newtype
pub flat_ones : {X : Type 0} (number : X → ℕ) (xs : List X)
    → flat_map (λ x. number x ∷ []) xs ≡ map number xs
flat_ones number [] = refl
flat_ones number (x ∷ xs) = ap (λ l. number x ∷ l) (flat_ones number xs)

pub flat_numbers : {X : Type 0} (number : X → ℕ) (f : ℕ → List ℕ) (xs : List X)
    → flat_map (λ x. f (number x)) xs ≡ flat_map f (map number xs)
flat_numbers number f [] = refl
flat_numbers number f (x ∷ xs) = ap (λ l. f (number x) ++ l) (flat_numbers number f xs)

-- lists of lists with the same members
pub flat_like : (f g : ℕ → List ℕ) → ((n : ℕ) → SameMembers (f n) (g n)) → (ns : List ℕ)
    → SameMembers (flat_map f ns) (flat_map g ns)
flat_like f g s ns = record {
  into = λ n h. let r = flat_in f ns h in in_flat g ns r.1 ((s r.0).into n r.2);
  back = λ n h. let r = flat_in g ns h in in_flat f ns r.1 ((s r.0).back n r.2);
}

-- the same sites, so far
pub sites_next : (a b : List Site) (i : ℕ) (d d' : Site) → i < length a → i < length b
    → map (λ s. s.0) (take i a) ≡ map (λ s. s.0) (take i b) → (get_or a i d).0 ≡ (get_or b i d').0
    → map (λ s. s.0) (take (i + 1) a) ≡ map (λ s. s.0) (take (i + 1) b)
sites_next a b i d d' lt lt' h e =
    ap (map (λ s. s.0)) (take_more a i d lt) ∙ map_push (λ s. s.0) (take i a) (get_or a i d)
    ∙ ap (λ l. l ++ (get_or a i d).0 ∷ []) h ∙ ap (λ n. map (λ s. s.0) (take i b) ++ n ∷ []) e
    ∙ sym (ap (map (λ s. s.0)) (take_more b i d' lt') ∙ map_push (λ s. s.0) (take i b)
    (get_or b i d'))

pub sites_all : (a b : List Site) (i : ℕ) → length a ≤ i → length b ≤ i
    → map (λ s. s.0) (take i a) ≡ map (λ s. s.0) (take i b) → map (λ s. s.0) a ≡ map (λ s. s.0) b
sites_all a b i le le' h = ap (map (λ s. s.0)) (sym (take_all i a le)) ∙ h ∙ ap (map (λ s. s.0))
    (take_all i b le')

-- a table, entry by entry
module _ (tags : ℕ → List ℕ) (sites : List (List Site)) where
  abbrev sites_at : ℕ → List ℕ
  sites_at m = numbers_by (λ s. s.0) (slice_get sites m)

  pub none_met : (table : List (List TagId)) → table ≡ [] → IsPartialTagTable tags sites table
  none_met table e m lt = absurd (omega (arith, subst (λ t. m < length t) e lt))

  pub met_more : (table : List (List TagId)) (n : ℕ) (ss : List ℕ) (ts : List TagId)
      → IsPartialTagTable tags sites table → length table ≡ n
      → ss ≡ sites_at n → IsSortedSetOf (flat_map tags ss) (map (λ t. t.0) ts)
      → IsPartialTagTable tags sites (table ++ ts ∷ [])
  met_more table n ss ts t many e l m lt = entry (λ t. t.0) table m ts
      (λ m. IsSortedSetOf (flat_map tags (sites_at m)))
      (λ m lt. t m lt)
      (subst (λ ss. IsSortedSetOf (flat_map tags ss) (map (λ t. t.0) ts))
      (e ∙ ap sites_at (sym many)) l)
      (let long : length (table ++ ts ∷ []) ≡ length table + 1 = longer (λ t. t.0) table ts
      in omega (arith, lt, long))

  nothing_ascends : IsSortedSetOf [] []
  nothing_ascends = record { ascending = λ k lt. absurd (omega (arith, lt)); same = λ n. refl }

  pub met_done : (table : List (List TagId)) (n : ℕ) → IsPartialTagTable tags sites table
      → length table ≡ n → length sites ≤ n → (m : ℕ) → Meets' tags sites table m
  met_done table n t many past m = ⊎_elim
      (λ lt. t m (omega (arith, many, lt)))
      (λ le. subst
      (λ o. IsSortedSetOf (flat_map tags (numbers_by (λ s. s.0) o))
      (numbers_by (λ t. t.0) (slice_get table m)))
      (sym (slice_get_past sites m (omega (arith, past, le))))
      (subst (λ o. IsSortedSetOf [] (numbers_by (λ t. t.0) o))
      (sym (slice_get_past table m (omega (arith, many, le))))
      nothing_ascends))
      (lt_or_le m n)

  -- an earlier entry, where the sites are the same
  pub met_earlier : (table : List (List TagId)) (n : ℕ) (ss there : List ℕ) (ts : List ℕ)
      → IsPartialTagTable tags sites table → n < length table
      → ss ≡ there → there ≡ sites_at n → ts ≡ numbers_by (λ t. t.0) (slice_get table n)
      → IsSortedSetOf (flat_map tags ss) ts
  met_earlier table n ss there ts t lt e q k = subst (λ l. IsSortedSetOf (flat_map tags l) ts)
      (sym (e ∙ q)) (subst (IsSortedSetOf (flat_map tags (sites_at n))) (sym k) (t n lt))

-- what the reader says
module _ (H : Place → List Item) (table : List (List TagId)) (sites : List (List Site))
    (at_sites : TagTable H of_sites NodeTags table) (at_vars : SiteTable H Vars cell_sites sites)
    (x : ℕ) where
  abbrev ss : List ℕ
  ss = numbers_by (λ s. s.0) (slice_get sites x)

  abbrev ts : ℕ → List ℕ
  ts s = numbers_by (λ t. t.0) (slice_get table s)

  abbrev pub Meets : ℕ → Type 0
  Meets t = (s : ℕ) × At (solution_of H) (var x) (word 0) (Cell s)
      × At (solution_of H) (site s) tags (Tag t)

  pub tags_met : (ns : List ℕ) → IsSortedSetOf (tags_of_sites table ss) ns → (t : ℕ)
      → (In t ns → Meets t) × (Meets t → In t ns)
  tags_met ns l t = (
    λ h. let r = flat_in ts ss
        (is_in-in t (tags_of_sites table ss) (sym (l.same t) ∙ in-is_in t ns h)) in (
          r.0,
          known_at H (var x) (word 0) (Cell r.0) ((cells (H (var x)) ss (at_vars x) r.0).0 r.1),
          known_at H (site r.0) tags (Tag t)
              ((node_tags (H (site r.0)) (ts r.0) (at_sites r.0) t).0 r.2),
        ),
    λ m. is_in-in t ns (l.same t ∙ in-is_in t (tags_of_sites table ss) (in_flat ts ss
        ((cells (H (var x)) ss (at_vars x) m.0).1 (at_known H (var x) (word 0) (Cell m.0) m.1))
        ((node_tags (H (site m.0)) (ts m.0) (at_sites m.0) t).1
        (at_known H (site m.0) tags (Tag t) m.2)))),
  )
