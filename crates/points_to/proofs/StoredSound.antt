-- What a word stands for, what reaches its cells, and a value that is stored there.
use Rattle.std.proofs.Common.{◌≡◌, ℕ, true, List, [], ◌∷◌, Some, slice_get, sym, ap, ◌∙◌, subst}
use Rattle.grin_syntax.specs.declared.program.GlobalCell.{GlobalCell}
use Rattle.grin_syntax.specs.declared.program.TagId.{TagId}
use Rattle.grin_syntax.specs.declared.program.VarId.{VarId}
use Rattle.grin_syntax.specs.declared.program.Word.{Word}
use Rattle.grin_syntax.specs.declared.program.Word.TheVariants.{Lit, Var, Global, TagWord}
use Rattle.flow_system.specs.declared.fact.Element.{Element as AbstractWord}
use Rattle.flow_system.specs.declared.fact.Element.TheVariants.{Cell as cell_of, Tag as tag, Number as num}
use Rattle.flow_system.specs.declared.fact.Place.{Place}
use Rattle.flow_system.specs.declared.fact.Place.TheVariants.{Site as site, Var as var}
use Rattle.flow_system.specs.declared.fact.Part.TheVariants.{Word as word}
use Rattle.flow_system.specs.Inclusions.{value, FlowSink, to, into_site, into_result, cells_at, Inclusion, flows}
use Rattle.flow_system.specs.Tables.{Tables}
use Rattle.flow_system.specs.Solution.{Solution, At, ValueGives, width, NodesTo, Solves}
use Rattle.flow_system.specs.Demands.{Asks, of_site, of_cells, by_flow}
use Rattle.flow_system.proofs.Least.{in_every}
use Rattle.points_to.specs.declared.facts.Item.{Item}
use Rattle.points_to.specs.declared.kept.Kept.{Kept}
use Rattle.points_to.specs.Asked.{facts_demanded}
use Rattle.points_to.specs.Held.{In, here, item, elements, cell_at}
use Rattle.points_to.specs.Known.{held, GrowsByFacts}
use Rattle.points_to.specs.Kept.{touches_no_cell, met_by, HasSite, PutsAt, IsSound}
use Rattle.points_to.specs.Stored.{stored_at, cell_stored, PutsAtSite}
use Rattle.seq.proofs.Member.{none_in, one_in, in_flat}
use Rattle.points_to.proofs.GivenItems.{in_picked, elements_mean}
use Rattle.points_to.proofs.Solved.{nothing_in_every}
use Rattle.points_to.proofs.VectorLoops.{stores_one}
use Rattle.points_to.proofs.Whole.{plain_steps, stores_steps}

module _ (p : Tables) (H : Place → List Item) (w : Word) (u : AbstractWord) where
  pub literal_stands : (k : _) → w ≡ Lit k → u ≡ num → In u (elements p H w)
  literal_stands k e q = subst (λ w. In u (elements p H w)) (sym e)
      (subst (λ u. In u (num ∷ [])) (sym q) here)

  pub variable_stands : (x : VarId) → w ≡ Var x → In (item (word 0) u) (H (var x.0))
      → In u (elements p H w)
  variable_stands x e h = subst (λ w. In u (elements p H w)) (sym e)
      (in_picked (word 0) (H (var x.0)) h)

  pub global_stands : (i : ℕ) (c : GlobalCell) → w ≡ Global i → slice_get p.globals i ≡ Some c
      → u ≡ cell_of c.site.0 → In u (elements p H w)
  global_stands i c e at q =
      subst (λ w. In u (elements p H w)) (sym e)
      (subst (λ o. In u (cell_at o)) (sym at)
      (subst (λ u. In u (cell_of c.site.0 ∷ [])) (sym q) here))

  pub tag_stands : (t : TagId) → w ≡ TagWord t → u ≡ tag t.0 → In u (elements p H w)
  tag_stands t e q = subst (λ w. In u (elements p H w)) (sym e)
      (subst (λ u. In u (tag t.0 ∷ [])) (sym q) here)

pub value_reaches : (p : Tables) (k : Kept) (w : Word) (s n : ℕ) → In n (stored_at k.stored s)
    → In (cell_of s) (elements p (held k.facts) w) → In n (met_by p k w)
value_reaches p k w s n h c = in_flat (cell_stored k.stored) (elements p (held k.facts) w) c h

-- nothing is known, and a value is put into the cells of a site
module _ (p : Tables) (cs : List Inclusion) where
  pub nothing_sound : (k : Kept) → ((q : Place) → held k.facts q ≡ [])
      → ((s : ℕ) → stored_at k.stored s ≡ []) → IsSound p cs k
  nothing_sound k none empty = record {
    facts = nothing_in_every p cs (held k.facts) none;
    stored = λ B m s n v h. none_in (subst (In n) (empty s) h);
    no_facts = λ s. none (site s);
    of_words = λ s n v h. none_in (subst (In n) (empty s) h);
  }

  pub put_sound : (k k' : Kept) (n s : ℕ) (c : Inclusion) → slice_get cs n ≡ Some c
      → PutsAt p (held k.facts) c s → k'.facts ≡ k.facts
      → PutsAtSite (stored_at k.stored) (stored_at k'.stored) s n → IsSound p cs k → IsSound p cs k'
  put_sound k k' n s c at puts e st =
      (stores_steps p cs k k' n puts.v puts.sink (cell_of s ∷ []) true its puts.of_words e
      (stores_one (stored_at k.stored) (stored_at k'.stored) s n st) goes (λ q. cc)).sound
    where
      its : slice_get cs n ≡ Some (flows (value puts.v) puts.sink)
      its = at ∙ ap Some puts.is

      one_cell : (r s : ℕ) → cell_of r ≡ cell_of s → r ≡ s
      one_cell r s e = cc

      goes : IsSound p cs k → (B : Solution) → Solves p cs B → (r : ℕ)
          → In (cell_of r) (cell_of s ∷ []) → NodesTo p B (width (value puts.v))
          (ValueGives p B puts.v) (site r)
      goes sound B m r h part u a =
          subst (λ x. At B (site x) part u) (sym (one_cell r s (one_in (cell_of s) h)))
          (in_every p cs B B m (λ q part u x. x) n (flows (value puts.v) puts.sink) its (site s)
          part u (by_flow (asks puts.sink puts.there)))
        where
          asks : (t : FlowSink) → HasSite p (held k.facts) s t
              → Asks p B (width (value puts.v)) (ValueGives p B puts.v) t (site s) part u
          asks (to t) h = absurd h
          asks (into_site r) h = subst
              (λ r. Asks p B (width (value puts.v)) (ValueGives p B puts.v) (into_site r) (site s)
              part u) (sym h) (of_site a)
          asks (into_result f) h = absurd h
          asks (cells_at w) h = of_cells
              (elements_mean p (held k.facts) B (λ q part u i. sound.facts.by B m q part u i) w
              (cell_of s) h) a

  -- what an inclusion asks for that has nothing to do with cells
  pub asked_sound : (k k' : Kept) (n : ℕ) (c : Inclusion) → slice_get cs n ≡ Some c
      → touches_no_cell c ≡ true → k'.stored ≡ k.stored
      → GrowsByFacts (held k.facts) (held k'.facts) (facts_demanded p (held k.facts) c)
      → IsSound p cs k → IsSound p cs k'
  asked_sound k k' n c at plain e g = (plain_steps p cs k k' n c true at plain e g (λ q. cc)).sound
