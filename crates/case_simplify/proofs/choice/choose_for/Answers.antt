use Rattle.std.proofs.Common.{◌+◌, Some, slice_get, sym, ap, ◌∙◌}
use Rattle.seq.proofs.Lists.{get_is}
use Rattle.grin_meaning.specs.Values.{and_then}
use Rattle.grin_syntax.specs.Tree.{code_of}
use Rattle.case_simplify.proofs.Statements.{taken_at}
use Rattle.case_simplify.proofs.choice.choose_for.Goals as goal

pub returns-in-Takes-clause-body : goal.returns-in-Takes-clause-body
returns-in-Takes-clause-body c =
    ap (λ o. and_then o (λ a. Some (code_of a.body)))
    (ap (slice_get c.args.alts.now) c.alts.invariant.place ∙ get_is c.args.alts.now
    c.alts.alt-index c.alt-item.result c.alts-test.true c.alt-item.is)
    ∙ sym (c.alts.invariant.is ∙ taken_at c.args.tag c.args.second c.args.alts.now c.alts.alt-index
    c.alt-item.result _ c.alts-test.true c.alt-item.is
    (sym c.in-Takes.is ∙ c.verdict_of.ensures))

pub returns-in-Open-clause-body : goal.returns-in-Open-clause-body
returns-in-Open-clause-body c = sym
    (c.alts.invariant.is ∙ taken_at c.args.tag c.args.second c.args.alts.now c.alts.alt-index
    c.alt-item.result _ c.alts-test.true c.alt-item.is (sym c.in-Open.is ∙ c.verdict_of.ensures))

pub alts-preserved : goal.alts-preserved
alts-preserved c = record {
  place = ap (λ i. i + 1) c.alts.invariant.place;
  is = c.alts.invariant.is ∙ taken_at c.args.tag c.args.second c.args.alts.now c.alts.alt-index
      c.alt-item.result _ c.alts-test.true c.alt-item.is
      (sym c.in-Passes.is ∙ c.verdict_of.ensures);
}
