use Rattle.std.proofs.Common.{map, refl, ap, ◌∙◌, arith}
use Rattle.std.specs.Prelude.{false}
use Rattle.std.specs.Ordering.{nat_cmp}
use Rattle.std.specs.BTreeMap.{get}
use Rattle.match_compile.specs.SourceOf.{equation_of}
use Rattle.match_compile.specs.Refusal.{least_refusal}
use Rattle.match_compile.specs.Faults.{names_faults, constructors_faults, equation_faults, patterns_faults}
use Rattle.match_compile.proofs.Walks.{names_of_all, constructors_of_all, one_more, two}
use Rattle.match_compile.proofs.rules.patterns.Goals as goal

pub loop-equation-preserved : goal.loop-equation-preserved
loop-equation-preserved c =
    let texts = c.args.texts.now in
    let x = c.equation-item.result in
    let o = c.loop-equation.first in
    let a = c.in_ok-first.ensures ∙ ap (λ bs. least_refusal o (names_faults texts (λ x. false) bs))
    (c.as_slice-in-loop-equation.ensures.value ∙ c.in_ok-binders.ensures ∙ ap names_of_all
    c.as_slice.ensures) in
    let b = c.constructors-first.ensures ∙ ap
    (λ cs. least_refusal c.in_ok-first.first
    (constructors_faults (λ x. get nat_cmp c.args.fields.now x) cs))
    (c.as_slice-in-loop-equation-3.ensures.value ∙ c.in_ok-uses.ensures ∙ ap constructors_of_all
    c.as_slice-in-loop-equation-2.ensures) in
    one_more (λ es. patterns_faults texts (λ x. get nat_cmp c.args.fields.now x)
    (map equation_of es))
    (λ e. equation_faults texts (λ x. get nat_cmp c.args.fields.now x) (equation_of e))
    (λ x xs. refl)
    c.args.equations.now c.loop-equation.equation-index x (omega arith) c.equation-item.is _ o
    c.constructors-first.result
    (two (names_faults texts (λ x. false) (names_of_all x.pats))
    (constructors_faults (λ x. get nat_cmp c.args.fields.now x) (constructors_of_all x.pats)) o
    c.in_ok-first.first c.constructors-first.result a b)
    c.loop-equation.invariant
