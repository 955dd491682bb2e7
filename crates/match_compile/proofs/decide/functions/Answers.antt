use Rattle.std.proofs.Common.{refl, ◌∙◌}
use Rattle.match_compile.specs.DecisionOf.{clause_of}
use Rattle.match_compile.proofs.Decides.{comes_first, all_joined}
use Rattle.match_compile.proofs.decide.functions.Goals as goal

pub clauses-preserved : goal.clauses-preserved
clauses-preserved c =
    comes_first c.clauses.clauses c.pop.new.self c.in-Some.clause c.clauses.made
    c.function_for.new.made c.push-in-Some.new.self c.in_ok-function.function c.push.new.self
    c.in-Some.ensures (c.in_ok-function.ensures (clause_of c.in-Some.clause) refl)
    c.in_ok-push.ensures.ok c.in_ok-push-2.ensures.ok
    ∙ c.clauses.invariant

pub returns : goal.returns
returns c = all_joined c.clauses.clauses c.clauses.made c.args.clauses c.in_default.ensures.0
    c.clauses.invariant
