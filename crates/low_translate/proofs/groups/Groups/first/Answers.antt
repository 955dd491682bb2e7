use Rattle.std.proofs.Common.{rules, ◌≡◌, ◌≢◌, ◌≤◌, ◌<◌, ℕ, List, length, get_or, sym, ◌∙◌, arith}
use Rattle.low_translate.specs.Groups.{IsConstantOnGroups}
use Rattle.low_translate.proofs.Parents.{at_any, ordered_still, firsts_still, respects_before, respects_here, respects_parent}
use Rattle.low_translate.proofs.groups.Groups.first.Goals as goal

pub loop-at-preserved : goal.loop-at-preserved
loop-at-preserved c =
    let ps : List ℕ = c.loop-at.self.parents.items in
    let at : ℕ = c.loop-at.at in
    let y : ℕ = c.index-in-loop-at.result.now in
    let z : ℕ = c.index-next.result.now in
    let k : at < length ps = search rules in
    let ey : y ≡ get_or ps at 0 = c.index-in-loop-at.ensures ∙ at_any ps at _ 0 k in
    let n : get_or ps at 0 ≢ at = λ e. c.loop-at-test.true
    (c.index.ensures ∙ at_any ps at _ 0 k ∙ e) in
    let oy : get_or ps at 0 ≤ at = c.loop-at.invariant.ordered at k in
    let ky : y < length ps = omega (arith, ey, oy, k) in
    let ez : z ≡ get_or ps y 0 = c.index-next.ensures ∙ at_any ps y _ 0 ky in
    let oz : get_or ps y 0 ≤ y = c.loop-at.invariant.ordered y ky in
    let le : z ≤ at = omega (arith, ey, oy, ez, oz) in
    let d : y ≢ at = λ e. n (sym ey ∙ e) in
    let back : (f : ℕ → ℕ) → IsConstantOnGroups f _ → IsConstantOnGroups f ps
    = λ f r. respects_before ps at z k f r (respects_parent ps at z k f y r d ky ey ez) in
    record {
      many = search rules;
      known = omega (arith, le, c.loop-at.invariant.known);
      ordered = ordered_still ps at z k c.loop-at.invariant.ordered le;
      joined = λ f r. respects_here ps at z k f r ∙ c.loop-at.invariant.joined f (back f r);
      older = λ f r. c.loop-at.invariant.older f (back f r);
      firsts = λ x e. firsts_still ps at z k x n (c.loop-at.invariant.firsts x e);
    }
