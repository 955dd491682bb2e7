use Rattle.std.proofs.Common.{◌≡◌, ◌++◌, suc, List, subst, sym, ap, ◌∙◌, arith}
use Rattle.match_compile.specs.Sizes.{rows}
use Rattle.match_compile.specs.Decisions.{Decision, begun, decided, decisions_from}
use Rattle.match_compile.specs.DecisionOf.{clause_of, clauses_of, decision_of, decisions_of}
use Rattle.match_compile.proofs.Decides.{open_rows, takes_one, leaves_one}
use Rattle.match_compile.proofs.decide.function_trees.Goals as goal

pub equations-preserved-in-Some-left : goal.equations-preserved-in-Some-left
equations-preserved-in-Some-left c =
    let k = c.equations.number in
    let n = c.in_ok-number.number in
    let one : suc k ≡ n = omega (arith, c.in_ok-number.ensures) in
    let whole : List Decision = decisions_from c.args.number (rows (clauses_of c.args.function)) in
    let cs = c.pop-in-equations.new.self in
    let b = c.are_names-is_last-in-equations.result in
    let next = c.in_ok-decision-2.decision in
    let x = c.in-Some-left.clause in
    record {
      whole = subst
          (λ n. decisions_of c.push.new.self ++ decided (decision_of next) (suc n) (open_rows b cs)
          ≡ whole) one
          (leaves_one whole c.equations.made c.equations.decision k c.equations.function cs
          c.in-Some-pop.clause x b c.in_ok-came.came c.push.new.self next
          (subst (λ b. decisions_of c.equations.made
          ++ decided (decision_of c.equations.decision) (suc k)
          (open_rows b c.equations.function) ≡ whole) c.equations-test.true
          c.equations.invariant.whole)
          c.in-Some-pop.ensures c.are_names-is_last-in-equations.ensures c.in_ok-came.ensures.came
          c.in-Some-left.is c.in_ok-push.ensures.ok
          (subst (λ n. decision_of next ≡ begun n (clause_of x)) (sym one)
          (c.in_ok-decision-2.ensures ∙ ap (λ x. begun n (clause_of x)) c.in-Some-left.clause-is)));
      known = c.in_ok-known-2.ensures;
    }

pub equations-preserved : goal.equations-preserved
equations-preserved c =
    let k = c.equations.number in
    let n = c.in_ok-number.number in
    let one : suc k ≡ n = omega (arith, c.in_ok-number.ensures) in
    let whole : List Decision = decisions_from c.args.number (rows (clauses_of c.args.function)) in
    let cs = c.pop-in-equations.new.self in
    let b = c.are_names-is_last-in-equations.result in
    record {
      whole = subst
          (λ n. decisions_of c.equations.made ++ decided (decision_of c.in_ok-came.came.decision)
          (suc n) (open_rows b cs) ≡ whole) one
          (takes_one whole c.equations.made c.equations.decision k c.equations.function cs
          c.in-Some-pop.clause b c.in_ok-came.came
          (subst (λ b. decisions_of c.equations.made
          ++ decided (decision_of c.equations.decision) (suc k)
          (open_rows b c.equations.function) ≡ whole) c.equations-test.true
          c.equations.invariant.whole)
          c.in-Some-pop.ensures c.are_names-is_last-in-equations.ensures c.in_ok-came.ensures.came
          c.in_default-left.is);
      known = c.in_ok-came.ensures.known;
    }
