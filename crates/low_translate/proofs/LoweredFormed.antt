-- What a lowered program is besides what it does: formed, small, and with the procedures of the
-- program.
use Rattle.std.proofs.Common.{◌≡◌, ◌≤◌, ◌<◌, ◌^◌, inl, inr, ℕ, zero, suc, ◌+◌, List, [], ◌∷◌, map, length, Option, Some, None, slice_get, refl, sym, ap, ◌∙◌, subst, arith}
use Rattle.std.proofs.lemmas.List.{length-map}
use Rattle.std.proofs.lemmas.Option.{slice_get_within}
use Rattle.seq.proofs.Order.{lt_or_le}
use Rattle.seq.proofs.Lists.{is_empty}
use Rattle.grin_syntax.specs.declared.program.GlobalCell.{GlobalCell}
use Rattle.grin_syntax.specs.Binders.{numbers_of}
use Rattle.grin_syntax.specs.Fresh.{past_procs}
use Rattle.grin_syntax.specs.Formed as grin_formed
use Rattle.grin_syntax.specs.Formed.{AllOf, GlobalFormed, argument_words}
use Rattle.grin_syntax.specs.Tree as grin
use Rattle.grin_syntax.proofs.Unbound.{past_procs_none}
use Rattle.grin_meaning.specs.Ready.{Ready, IsVectorised, most_fields, most_value_fields}
use Rattle.grin_meaning.specs.Slim.{procs_calls, procedure_words}
use Rattle.low_code.specs.Tree as low
use Rattle.low_code.specs.Formed.{Formed, all_variables, all_sites, variables, AllScoped, AllCallsInRange, IsStartWellFormed}
use Rattle.low_code.specs.Literals.{TagsSmall}
use Rattle.low_translate.specs.Translation.{results_of, procedures_code, procedure_code, procedure_numbers, program_code}
use Rattle.low_translate.specs.Writes.{written_width}
use Rattle.low_translate.specs.Lowered.{CodeRanged, EachProcedureReturns, IsLowered}
use Rattle.low_translate.specs.Lowers.{EachProcedurePair, TargetsFitCells, LoweredIsSmall}
use Rattle.low_translate.proofs.Numbered.{taken_below, taken_once, distinct, procs_numbers}
use Rattle.low_translate.proofs.Programs.{each_many}
use Rattle.low_translate.proofs.Scoping.{AllFine, procedures_fine}
use Rattle.low_translate.proofs.Calls.{AllCalls, procedures_calls}
use Rattle.low_translate.proofs.Binds.{procedure_binds, procedures_once}
use Rattle.low_translate.proofs.Sizes.{procedures_light}
use Rattle.seq.specs.Lists.{times}
use Rattle.grin_syntax.proofs.Counted.{length_numbers}

pub results_few : (rs : List ℕ) → AllOf (λ r. r ≤ 13) rs → (f : ℕ) → results_of rs f ≤ 13
results_few [] h f = omega arith
results_few (r ∷ rs) h zero = h.0
results_few (r ∷ rs) h (suc f) = results_few rs h.1 f

pub procedures_many : (width : ℕ) (rs : List ℕ) (n : ℕ) (ks : List ℕ) (qs : List grin.Procedure)
    → length ks ≡ length qs → length (procedures_code width rs n ks qs) ≡ length qs
procedures_many width rs n [] [] e = refl
procedures_many width rs n [] (q ∷ qs) e = absurd (omega (arith, e))
procedures_many width rs n (k ∷ ks) [] e = absurd (omega (arith, e))
procedures_many width rs n (k ∷ ks) (q ∷ qs) e = ap suc
    (procedures_many width rs (n + procedure_numbers width rs k q) ks qs (omega (arith, e)))

-- the procedure at a place
record Stands (o : Option low.Procedure) (q : grin.Procedure) : Type 0 where
  made : low.Procedure
  is : o ≡ Some made
  params : made.params ≡ numbers_of q.params

procedure_at : (width : ℕ) (rs : List ℕ) (n : ℕ) (ks : List ℕ) (qs : List grin.Procedure) (f : ℕ)
    (q : grin.Procedure) → length ks ≡ length qs → slice_get qs f ≡ Some q
    → Stands (slice_get (procedures_code width rs n ks qs) f) q
procedure_at width rs n [] [] f q e h = cc
procedure_at width rs n [] (p ∷ qs) f q e h = absurd (omega (arith, e))
procedure_at width rs n (k ∷ ks) [] f q e h = cc
procedure_at width rs n (k ∷ ks) (p ∷ qs) zero q e h
    = record {
      made = procedure_code width rs n k p;
      is = refl;
      params
          = (let s : p ≡ q = cc in ap (λ u. numbers_of u.params) s);
    }
procedure_at width rs n (k ∷ ks) (p ∷ qs) (suc f) q e h
    = procedure_at width rs (n + procedure_numbers width rs k p) ks qs f q (omega (arith, e)) h

tags_small : (g : grin.Program) (cs : List GlobalCell) → length g.tags ≤ 2 ^ 32
    → AllOf (GlobalFormed g) cs → TagsSmall (map (λ c. c.tag.0) cs)
tags_small g [] few h = tt
tags_small g (c ∷ cs) few h = (
  let k = slice_get_within g.tags c.tag.0 h.0.0 h.0.1
      in omega (arith, k, few),
  tags_small g cs few h.1,
)

module _ (g : grin.Program) (formed : grin_formed.Formed g) (ready : Ready g)
    (vectorised : IsVectorised g) (rs : List ℕ)
    (gives : EachProcedureReturns (1 + most_value_fields g.tags) rs rs g.procs)
    (few : AllOf (λ r. r ≤ 13) rs) (few_tags : length g.tags ≤ 2 ^ 32) where
  abbrev width : ℕ
  width = written_width g

  abbrev first : ℕ
  first = past_procs g.procs

  abbrev made : low.Program
  made = program_code (1 + most_fields g.tags) width rs first g

  as_many : length rs ≡ length g.procs
  as_many = each_many (1 + most_value_fields g.tags) rs rs g.procs gives

  narrow_cells : width ≤ 14
  narrow_cells = let h = ready.few_fields in omega (arith, h)

  once : (x : ℕ) → times x (all_variables made.procs) ≤ 1
  once x = elim (lt_or_le x first) [
    | inl lt ↦
        let a = procedures_once x width rs (results_few rs few) narrow_cells first rs g.procs in
        let b = taken_below x first (procs_numbers width rs rs g.procs) lt in
        let c = formed.variables_once x in
        omega (arith, a, b, c)
    | inr le ↦
        let a = procedures_once x width rs (results_few rs few) narrow_cells first rs g.procs in
        let b = taken_once x first (procs_numbers width rs rs g.procs) in
        let c = past_procs_none x g.procs le in
        omega (arith, a, b, c)
  ]

  calls : AllCalls g width rs first (procs_numbers width rs rs g.procs) (procs_calls g.procs)
      made.procs
  calls = procedures_calls g width rs first rs g.procs as_many formed.procedures

  fine : AllOf (λ q. CodeRanged q.body) g.procs → AllFine g few_tags width rs made.procs
  fine ranged = procedures_fine g few_tags width rs first rs g.procs formed.procedures ranged
      vectorised

  starts : IsStartWellFormed made (slice_get made.procs made.start) made.argument
  starts =
      let s = procedure_at width rs first rs g.procs g.start.0 formed.start.0 as_many formed.start.1
      in
      subst (λ o. IsStartWellFormed made o g.argument) (sym s.is)
      (by g.argument s formed.start.2 formed.argument)
    where
      by : (a : Option ℕ) (s : Stands (slice_get made.procs made.start) formed.start.0)
          → length formed.start.0.params ≡ argument_words a → grin_formed.ArgumentKnown g a
          → IsStartWellFormed made (Some s.made) a
      by None s e k = is_empty s.made.params
          (ap length s.params ∙ length_numbers formed.start.0.params ∙ e)
      by (Some i) s e k = (
        ap length s.params ∙ length_numbers formed.start.0.params ∙ e,
        subst (λ m. i < m) (sym (length-map g.globals (λ c. c.tag.0))) k,
      )

  pub formed_code : AllOf (λ q. CodeRanged q.body) g.procs → Formed made
  formed_code ranged =
      let f = fine ranged in
      let globals : length made.globals ≡ length g.globals = length-map g.globals (λ c. c.tag.0) in
      let many : length made.procs ≡ length g.procs
      = procedures_many width rs first rs g.procs as_many in
      record {
        variables_once = distinct (all_variables made.procs) once;
        sites_once = distinct (all_sites made.procs)
            (λ s. let a = calls.sites s in let b = taken_once s first
            (procs_numbers width rs rs g.procs) in omega (arith, a, b));
        scoped = subst (λ m. AllScoped m made.procs) (sym globals) f.scoped;
        calls_in_range = subst (λ m. AllCallsInRange m made.procs) (sym many) calls.known;
        starts = starts;
        literals = record
            { procedures = f.small; tags = tags_small g g.globals few_tags formed.globals };
      }

  each_few : (n : ℕ) (ks : List ℕ) (qs : List grin.Procedure) → length ks ≡ length qs
      → EachProcedurePair (λ q r. length (variables r) ≤ procedure_words q) qs
      (procedures_code width rs n ks qs)
  each_few n [] [] e = tt
  each_few n [] (q ∷ qs) e = absurd (omega (arith, e))
  each_few n (k ∷ ks) [] e = absurd (omega (arith, e))
  each_few n (k ∷ ks) (q ∷ qs) e = (
    (procedure_binds 0 width rs (results_few rs few) narrow_cells n k q).few,
    each_few (n + procedure_numbers width rs k q) ks qs (omega (arith, e)),
  )

  pub small_code : AllOf (λ q. CodeRanged q.body) g.procs → TargetsFitCells g
      → LoweredIsSmall g made
  small_code ranged narrow = record {
    few_tests = (fine ranged).few;
    light = procedures_light width rs (results_few rs few) narrow_cells first rs g.procs few narrow;
    few_calls = calls.many;
    few_words = each_few first rs g.procs as_many;
  }

pub lowered_formed : (g : grin.Program) (l : low.Program) → grin_formed.Formed g → Ready g
    → IsVectorised g → IsLowered g l → Formed l
lowered_formed g l f r v h = subst Formed (sym h.is)
    (formed_code g f r v h.results h.gives h.few h.few_tags h.ranged)

pub lowered_small : (g : grin.Program) (l : low.Program) → grin_formed.Formed g → Ready g
    → IsVectorised g → IsLowered g l → TargetsFitCells g → LoweredIsSmall g l
lowered_small g l f r v h n = subst (LoweredIsSmall g) (sym h.is)
    (small_code g f r v h.results h.gives h.few h.few_tags h.ranged n)
