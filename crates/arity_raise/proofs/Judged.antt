-- What the readers of a flow say of a variable, as the tests tell it.
use Rattle.std.proofs.Common.{◌≡◌, ℕ, Bool, true, false, List, Option, Some, None, refl, sym, ◌∙◌, subst, inr}
use Rattle.std.specs.Prelude.{◌⊎◌, ◌↔◌, IsTrue, MatchOption}
use Rattle.std.specs.BTreeSet.{BTreeSet}
use Rattle.std.proofs.lemmas.Bool.{false≢true}
use Rattle.grin_syntax.specs.declared.program.TagId.{TagId}
use Rattle.grin_syntax.specs.Tree.{Program}
use Rattle.flow_system.specs.declared.fact.Element.TheVariants.{Cell as cell_of, Tag as tag, Number as num}
use Rattle.flow_system.specs.declared.fact.Place.TheVariants.{Site as site, Var as var}
use Rattle.flow_system.specs.declared.fact.Part.TheVariants.{Tags as tags, Word as word}
use Rattle.flow_system.specs.Solution.{Solution, At}
use Rattle.points_to.specs.Held.{In}
use Rattle.raise_theory.specs.Raisable.{NeverUpdated, IsValueTag}
use Rattle.arity_raise.specs.Fixed.{CellsAlone, HasTag, SiteHasOnly, HasOnly, Unchanged, Fixed, UpdatedSites}
use Rattle.arity_raise.specs.declared.cells.Node.{Node}
use Rattle.arity_raise.proofs.Each.{Each}

-- a test that is true, and one that is false
pub yes : (P : Type 0) → P → IsTrue true ↔ P
yes P p = (λ e. p, λ h. refl)

pub no : (P : Type 0) → (P → ⊥) → IsTrue false ↔ P
no P n = (λ e. absurd (false≢true e), λ h. absurd (n h))

pub not_so : {P : Type 0} (b : Bool) → (IsTrue b ↔ P) → b ≡ false → P → ⊥
not_so b f e p = false≢true (sym e ∙ f.1 p)

module _ (A : Solution) (x : ℕ) where
  pub number_among : At A (var x) (word 0) num → CellsAlone A x → ⊥
  number_among at alone = alone num at

  pub tag_among : (t : ℕ) → At A (var x) (word 0) (tag t) → CellsAlone A x → ⊥
  tag_among t at alone = alone (tag t) at

  pub cells_alone : (ts : List ℕ) → (At A (var x) (word 0) num → ⊥)
      → ((t : ℕ) → (In t ts → At A (var x) tags (tag t) ⊎ At A (var x) (word 0) (tag t))
      × (At A (var x) tags (tag t) ⊎ At A (var x) (word 0) (tag t) → In t ts))
      → Each (λ t. At A (var x) (word 0) (tag t) → ⊥) ts → CellsAlone A x
  cells_alone ts n exact e (cell_of s) at = tt
  cells_alone ts n exact e (tag t) at = e.by t ((exact t).1 (inr at)) at
  cells_alone ts n exact e num at = n at

  -- the sites of the cells that x stands for
  abbrev pub Cells : List ℕ → Type 0
  Cells ss = (s : ℕ) → (In s ss → At A (var x) (word 0) (cell_of s))
      × (At A (var x) (word 0) (cell_of s) → In s ss)

  pub no_tags : (ss : List ℕ) → Cells ss → Each (λ s. (t : ℕ) → At A (site s) tags (tag t) → ⊥) ss
      → (t : ℕ) → HasTag A x t → ⊥
  no_tags ss exact e t h = e.by h.cell ((exact h.cell).1 h.there) t h.has_tag

  pub only_one : (ss : List ℕ) (t : ℕ) → Cells ss → Each (λ s. SiteHasOnly A s t) ss → HasOnly A x t
  only_one ss t exact e s u there' at = e.by s ((exact s).1 there') u at

  pub others_too : (ss : List ℕ) (s t : ℕ) → Cells ss → In s ss → (SiteHasOnly A s t → ⊥)
      → HasOnly A x t → ⊥
  others_too ss s t exact i n h = n (λ u at. h s u ((exact s).0 i) at)

module _ (A : Solution) (g : Program) where
  pub changed : (x s : ℕ) (ss : List ℕ) (sites : BTreeSet ℕ) → UpdatedSites A g sites → Cells A x ss
      → In s ss → In s sites.keys → Unchanged A g x → ⊥
  changed x s ss sites u exact i h never = u.within s h (never s ((exact s).0 i))

  pub never_changed : (x : ℕ) (ss : List ℕ) → Cells A x ss → Each (NeverUpdated A g) ss
      → Unchanged A g x
  never_changed x ss exact e s at = e.by s ((exact s).1 at)

  -- the node of the tag that was met
  pub node_from : (x : ℕ) (t : TagId) (o : Option Node) → CellsAlone A x → Unchanged A g x
      → HasTag A x t.0 → HasOnly A x t.0
      → MatchOption o ((k : ℕ) → IsValueTag A g t.0 k → ⊥)
      (λ n. (n.tag ≡ t) × IsValueTag A g t.0 n.fields)
      → MatchOption o ((t k : ℕ) → Fixed A g x t k → ⊥) (λ n. Fixed A g x n.tag.0 n.fields)
  node_from x t None a u h o m = λ t' k f.
      let e : t.0 ≡ t' = f.only h.cell t.0 h.there h.has_tag in
      m k (subst (λ s. IsValueTag A g s k) (sym e) f.value)
  node_from x t (Some n) a u h o m = subst (λ s. Fixed A g x s.0 n.fields) (sym m.0)
      (record { alone = a; unchanged = u; has = h; only = o; value = m.1 })
