-- Where a state lies in a solution, the tag of a cell that a word stands for is one of the word's
-- tags.
use Rattle.std.proofs.Common.{◌≡◌, ◌<◌, ℕ, Bool, true, false, nat_eq, ◌||◌, List, [], ◌∷◌, length, Option, Some, None, slice_get, refl, sym, ap, ◌∙◌, subst, inl, inr, arith}
use Rattle.std.proofs.lemmas.Option.{slice_get_within}
use Rattle.seq.proofs.Order.{eq_from}
use Rattle.seq.proofs.Truth.{or_from}
use Rattle.grin_syntax.specs.declared.program.Tag.{Tag}
use Rattle.grin_syntax.specs.declared.program.Word as W
use Rattle.grin_syntax.specs.Tree.{Program}
use Rattle.grin_meaning.specs.Values.{Node, HeapCell, State, and_then, word_of}
use Rattle.grin_meaning.specs.Run.{place_of}
use Rattle.flow_system.specs.Tables.{tables}
use Rattle.flow_system.specs.declared.fact.Element.{Element as AbstractWord}
use Rattle.flow_system.specs.declared.fact.Element.TheVariants.{Cell as cell_of, Tag as tag, Number as num}
use Rattle.flow_system.specs.declared.fact.Place.TheVariants.{Site as site, Var as var}
use Rattle.flow_system.specs.declared.fact.Part.TheVariants.{Tags as tags, Word as word}
use Rattle.flow_system.specs.Solution.{Solution, among, At, StandsFor, literal, variable, global, tag_itself}
use Rattle.flow_system.specs.Covers.{site_at, NodeIn, StateIsCovered}
use Rattle.inline_theory.specs.Evaluations.{any_satisfies, cells_in, sites_of, tags_of}
use Rattle.flow_system.proofs.Lying.{from_some, place_lies}
use Rattle.seq.specs.Lists.{In}
use Rattle.seq.proofs.Those.{those_have}

-- a node with as many fields as its tag, which is one of the list
pub record Known (ts : List Tag) (tags : List ℕ) (n : Node) : Type 0 where
  pub tag : Tag
  pub is_tag : slice_get ts n.tag ≡ Some tag
  pub full : length n.fields ≡ tag.fields
  pub among : In n.tag tags

pub some_cell : (test : ℕ → Bool) (s : ℕ) → test s ≡ true
    → (p : Program) (A : Solution) (us : List AbstractWord) → among (cell_of s) us ≡ true
    → any_satisfies test (cells_in p A us) ≡ true
some_cell test s e p A [] m = cc
some_cell test s e p A (cell_of s' ∷ us) m = on (nat_eq s s') refl m (some_cell test s e p A us)
  where
    on : (b : Bool) → nat_eq s s' ≡ b → (b || among (cell_of s) us) ≡ true
        → (among (cell_of s) us ≡ true → any_satisfies test (cells_in p A us) ≡ true)
        → (test s' || any_satisfies test (cells_in p A us)) ≡ true
    on true q m next = or_from (test s') (any_satisfies test (cells_in p A us))
        (inl (subst (λ x. test x ≡ true) (eq_from s s' q) e))
    on false q m next = or_from (test s') (any_satisfies test (cells_in p A us)) (inr (next m))
some_cell test s e p A (tag t ∷ us) m = some_cell test s e p A us m
some_cell test s e p A (num ∷ us) m = some_cell test s e p A us m

same_site : (s r : ℕ) → cell_of r ≡ cell_of s → s ≡ r
same_site s r q = cc

some_site : (p : Program) (A : Solution) (test : ℕ → Bool) {a : W.Word} {u : AbstractWord}
    → StandsFor (tables p) A a u → (s : ℕ) → u ≡ cell_of s → test s ≡ true
    → any_satisfies test (sites_of p A a) ≡ true
some_site p A test literal s q e = cc
some_site p A test (variable {x = x} {u = u} y) s q e
    = some_cell test s e p A (A (var x.0) (word 0))
    (subst (λ u. among u (A (var x.0) (word 0)) ≡ true) q y.there)
some_site p A test (global {c = c} g) s q e = rw g
    (or_from (test c.site.0) false (inl (subst (λ x. test x ≡ true) (same_site s c.site.0 q) e)))
some_site p A test tag_itself s q e = cc

pub cell_known : (p : Program) (A : Solution) (s : State) → StateIsCovered p A s
    → (a : W.Word) (i : ℕ) (c : HeapCell) → and_then (word_of p s.env a) place_of ≡ Some i
    → slice_get s.heap i ≡ Some c → Known p.tags (tags_of p A a) c.node
cell_known p A s lies a i c e q = known (slice_get p.tags c.node.tag) refl
  where
    at : NodeIn p s.heap (At A (site c.site)) c.node
    at = from_some (λ c. NodeIn p s.heap (At A (site c.site)) c.node) (slice_get s.heap i) c
        (lies.cells i) q

    place : (r : ℕ) × (site_at s.heap i ≡ Some r) × StandsFor (tables p) A a (cell_of r)
    place = from_some
        (λ i. (r : ℕ) × (site_at s.heap i ≡ Some r) × StandsFor (tables p) A a (cell_of r))
        (and_then (word_of p s.env a) place_of) i
        (place_lies p s.heap A lies.globals s.env lies.variables a) e

    same : place.0 ≡ c.site
    same = let f : site_at s.heap i ≡ Some c.site = ap (λ o. and_then o (λ k. Some k.site)) q in
        let g : Some place.0 ≡ Some c.site = sym place.1 ∙ f in cc

    known : (o : Option Tag) → slice_get p.tags c.node.tag ≡ o → Known p.tags (tags_of p A a) c.node
    known None r = let h : None ≡ Some (length c.node.fields)
        = sym (ap (λ o. and_then o (λ i. Some i.fields)) r) ∙ at.full in cc
    known (Some t) r = record {
      tag = t;
      is_tag = r;
      full = let h : Some t.fields ≡ Some (length c.node.fields)
          = sym (ap (λ o. and_then o (λ i. Some i.fields)) r) ∙ at.full in cc;
      among = those_have
          (λ t. any_satisfies (λ s. among (tag t) (A (site s) tags)) (sites_of p A a)) c.node.tag
          (some_site p A (λ s. among (tag c.node.tag) (A (site s) tags))
          (subst (λ r. StandsFor (tables p) A a (cell_of r)) same place.2) c.site refl
          at.tag_in.there)
          0 (length p.tags) (omega arith)
          (let b : c.node.tag < length p.tags = slice_get_within p.tags c.node.tag t r
          in omega arith);
    }
