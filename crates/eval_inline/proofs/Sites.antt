-- The tags that a word may meet, from what the readers of a solution say.
use Rattle.std.proofs.Common.{◌≡◌, ℕ, slice_get, length, Bool, true, nat_eq, List, [], ◌∷◌, Some, sym, ap, ◌∙◌, inl, inr, ⊎_elim, arith}
use Rattle.std.specs.Prelude.{◌↔◌, is_some}
use Rattle.std.specs.List.{filter}
use Rattle.std.specs.List.Sorted.{IsStrictlyIncreasing}
use Rattle.std.proofs.lemmas.Option.{slice_get_past}
use Rattle.grin_syntax.specs.declared.program.VarId.{VarId}
use Rattle.grin_syntax.specs.declared.program.GlobalCell.{GlobalCell}
use Rattle.grin_syntax.specs.declared.program.Word as W
use Rattle.grin_syntax.specs.declared.program.Word.TheVariants as of_word
use Rattle.grin_syntax.specs.Tree.{Program}
use Rattle.flow_system.specs.declared.fact.Element.{Element}
use Rattle.flow_system.specs.declared.fact.Element.TheVariants.{Cell, Tag as tag, Number}
use Rattle.flow_system.specs.declared.fact.Place.TheVariants.{Site as site, Var as var}
use Rattle.flow_system.specs.declared.fact.Part.TheVariants.{Tags as tags, Word as word}
use Rattle.flow_system.specs.Solution.{Solution, among, At}
use Rattle.inline_theory.specs.Evaluations.{any_satisfies, cells_in, site_of, tags_of}
use Rattle.inline_theory.proofs.CellTags.{some_cell}
use Rattle.seq.specs.Lists.{In, those}
use Rattle.seq.proofs.Lists.{some_at}
use Rattle.seq.proofs.Member.{none_in}
use Rattle.seq.proofs.Order.{eq_self}
use Rattle.seq.proofs.Those.{those_filtered, ascends}
use Rattle.seq.proofs.Truth.{or_cases, or_false, or_from}
use Rattle.eval_inline.specs.Met.{is_tag}

module _ (p : Program) (A : Solution) where
  -- whether the solution has a tag at one of the sites
  abbrev has_tag : List ℕ → ℕ → Bool
  has_tag ss t = any_satisfies (λ s. among (tag t) (A (site s) tags)) ss

  listed : (ss ts : List ℕ) → IsStrictlyIncreasing ts → ((t : ℕ) → In t ts ↔ (has_tag ss t ≡ true))
      → those (has_tag ss) 0 (length p.tags) ≡ filter (is_tag p) ts
  listed ss ts up exact = those_filtered (has_tag ss) (is_tag p) (length p.tags) 0 (length p.tags)
      ts (omega arith) (ascends ts up) (λ t lt h le. (exact t).1 h)
      (λ t m lt. ap is_some (some_at p.tags t lt).1 ∙ sym ((exact t).0 m))
      (λ t m le. ap is_some (slice_get_past p.tags t le))

  cell_some : (test : ℕ → Bool) (us : List Element) → any_satisfies test (cells_in p A us) ≡ true
      → (s : ℕ) × (among (Cell s) us ≡ true) × (test s ≡ true)
  cell_some test [] e = cc
  cell_some test (Cell s ∷ us) e = ⊎_elim
      (λ a. (s, or_from (nat_eq s s) (among (Cell s) us) (inl (eq_self s)), a))
      (λ b. let r = cell_some test us b in
      (r.0, or_from (nat_eq r.0 s) (among (Cell r.0) us) (inr r.1), r.2))
      (or_cases (test s) (any_satisfies test (cells_in p A us)) e)
  cell_some test (tag t ∷ us) e = cell_some test us e
  cell_some test (Number ∷ us) e = cell_some test us e

  pub of_variable : (a : W.Word) (x : VarId) (ts : List ℕ) → a ≡ of_word.Var x
      → IsStrictlyIncreasing ts →
      ((t : ℕ) → In t ts ↔
      ((s : ℕ) × At A (var x.0) (word 0) (Cell s) × At A (site s) tags (tag t)))
      → tags_of p A a ≡ filter (is_tag p) ts
  of_variable a x ts e up exact =
      let us : List Element = A (var x.0) (word 0) in
      ap (tags_of p A) e ∙ listed (cells_in p A us) ts up (λ t. (
        λ m. let r = (exact t).0 m in some_cell (λ s. among (tag t) (A (site s) tags)) r.0 r.2.there
            p A us r.1.there,
        λ h. let r = cell_some (λ s. among (tag t) (A (site s) tags)) us h
            in (exact t).1 (r.0, record { there = r.1 }, record { there = r.2 }),
      ))

  pub of_global : (i : ℕ) (c : GlobalCell) (ts : List ℕ) → slice_get p.globals i ≡ Some c
      → IsStrictlyIncreasing ts → ((t : ℕ) → In t ts ↔ At A (site c.site.0) tags (tag t))
      → tags_of p A (of_word.Global i) ≡ filter (is_tag p) ts
  of_global i c ts e up exact =
      ap (λ o. those (has_tag (site_of p A o)) 0 (length p.tags)) e ∙ listed (c.site.0 ∷ []) ts up
      (λ t. let same = or_false (among (tag t) (A (site c.site.0) tags))
      in (
        λ m. same ∙ ((exact t).0 m).there,
        λ h. (exact t).1
            (record { there = sym same ∙ h }),
      ))

  -- where there are no cells, nothing is met
  pub no_cells : (ss : List ℕ) → ss ≡ [] → those (has_tag ss) 0 (length p.tags) ≡ []
  no_cells ss e = ap (λ l. those (has_tag l) 0 (length p.tags)) e ∙ listed [] []
      (λ k lt. absurd (omega arith)) (λ t. (λ m. none_in m, λ h. cc))
