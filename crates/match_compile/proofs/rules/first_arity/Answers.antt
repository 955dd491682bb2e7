use Rattle.std.proofs.Common.{sym, ◌∙◌, arith, Some, None}
use Rattle.std.specs.Prelude.{◌==◌}
use Rattle.std.specs.Ordering.{nat_cmp}
use Rattle.std.specs.BTreeMap.{get}
use Rattle.std.proofs.lemmas.Grind.{common_steps}
use Rattle.match_compile.proofs.Walks.{kept_first, kept_new, named}
use Rattle.match_compile.proofs.rules.first_arity.Goals as goal

pub returns-in-Some-clause-kept : goal.returns-in-Some-clause-kept
returns-in-Some-clause-kept c = λ y.
    kept_first (get nat_cmp c.args.arities.now y) c.in-Some.arity c.args.count (c.args.name == y)
    (λ e. named (λ x. get nat_cmp c.args.arities.now x) c.args.name y (Some c.in-Some.arity)
    (sym c.arity_of.ensures ∙ c.in-Some.is) e)

pub returns-in_ok-insert-in-None-clause-kept : goal.returns-in_ok-insert-in-None-clause-kept
returns-in_ok-insert-in-None-clause-kept c = λ y.
    kept_new (get nat_cmp c.args.arities.now y) _ c.args.count (c.args.name == y)
    (λ e. named (λ x. get nat_cmp c.args.arities.now x) c.args.name y None
    (sym c.arity_of.ensures ∙ c.in-None.is) e)
    (grind (arith, common_steps))
