-- The start of a run: the cells of the globals and the argument lie in a solution.
use Rattle.std.proofs.Common.{◌≡◌, ℕ, zero, suc, List, [], ◌∷◌, map, Option, Some, None, slice_get, refl, sym, subst}
use Rattle.std.specs.Prelude.{IfSome}
use Rattle.grin_syntax.specs.declared.program.GlobalCell.{GlobalCell}
use Rattle.grin_syntax.specs.declared.program.VarId.{VarId}
use Rattle.grin_syntax.specs.declared.program.Word.TheVariants.{Global}
use Rattle.grin_syntax.specs.declared.program.Val.TheVariants.{Vector as VectorVal, Node as NodeVal}
use Rattle.grin_syntax.specs.Tree.{Procedure, Program}
use Rattle.grin_meaning.specs.Values.{cell, node, HeapCell, one_each, fields_of}
use Rattle.grin_meaning.specs.Run.{start_words}
use Rattle.flow_system.specs.Tables.{tables, params_of}
use Rattle.flow_system.specs.Inclusions.{tag, site, tags, value, to}
use Rattle.flow_system.specs.System.{has_eval, site_flows, globals_flow, start_flows}
use Rattle.flow_system.specs.Solution.{Solution, node_tag, first, ValueGives, of_node, of_words, global, FlowsTo, AllMet}
use Rattle.flow_system.specs.Covers.{site_at, GlobalCellsComeFirst}
use Rattle.flow_system.proofs.Lying.{from_some, BindingsLie, ArgumentsLie, parameters_lie}
use Rattle.flow_system.proofs.Heap.{CellLies, met_front, met_back, forced}

module _ (p : Program) (A : Solution) where
  -- the start
  pub global_sites : (cs : List GlobalCell) (i : ℕ) → IfSome (slice_get cs i)
      (λ c. site_at
      (map (λ c. record { site = c.site.0; node = record { tag = c.tag.0; fields = [] } }) cs) i ≡
      Some c.site.0)
  global_sites [] i = tt
  global_sites (c ∷ cs) zero = refl
  global_sites (c ∷ cs) (suc i) = global_sites cs i

  pub globals_good : (h : List HeapCell) (cs : List GlobalCell)
      → AllMet (tables p) A (globals_flow p cs) →
      ((i : ℕ) → IfSome (slice_get cs i) (λ c. fields_of p c.tag.0 ≡ Some 0)) → (a : ℕ)
      → IfSome (slice_get
      (map (λ c. record { site = c.site.0; node = record { tag = c.tag.0; fields = [] } }) cs)
      a) (CellLies p A h)
  globals_good h [] m z a = tt
  globals_good h (c ∷ cs) m z zero = (
    record { full = z zero; tag_in = m.0 tags (tag c.tag.0) (node_tag of_node); fields_in = tt },
    forced p A c.site.0 (has_eval p)
        (met_front p A (site_flows p c.site.0 (NodeVal c.tag [])) (globals_flow p cs) m).1,
  )
  globals_good h (c ∷ cs) m z (suc a) = globals_good h cs
      (met_back p A (site_flows p c.site.0 (NodeVal c.tag [])) (globals_flow p cs) m)
      (λ i. z (suc i)) a

  pub argument_lies : (h : List HeapCell) → GlobalCellsComeFirst p h → (o : Option ℕ)
      → AllMet (tables p) A (start_flows p o) → IfSome o
      (λ i. (c : GlobalCell) × (slice_get p.globals i ≡ Some c)) → (f : ℕ) → f ≡ p.start.0
      → (o ≡ None → ArgumentsLie p h A f []) → ArgumentsLie p h A f (start_words o)
  argument_lies h gs None m there f e none = none refl
  argument_lies h gs (Some i) m there f e none = parameters_lie p h A (Some 1)
      (ValueGives (tables p) A (VectorVal (Global i ∷ []))) f (cell i ∷ [])
      (subst (λ f. FlowsTo (tables p) A (value (VectorVal (Global i ∷ [])))
      (to (params_of (tables p) f))) (sym e) m.0) (
        (
          there.0.site.0,
          from_some (λ c. site_at h i ≡ Some c.site.0) (slice_get p.globals i) there.0
              (gs i) there.1,
          of_words (first (global there.1)),
        ),
        tt,
      )

  pub no_arguments : (h : List HeapCell) (f : ℕ) → ArgumentsLie p h A f []
  no_arguments h f = go (slice_get p.procs f)
    where
      none : (xs : List VarId) → IfSome (one_each xs []) (BindingsLie p h A)
      none [] = tt
      none (x ∷ xs) = tt

      go : (o : Option Procedure) → IfSome o
          (λ q. IfSome (one_each q.params []) (BindingsLie p h A))
      go None = tt
      go (Some q) = none q.params
