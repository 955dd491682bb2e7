use Rattle.std.proofs.Common.{rules, ◌≤◌, length, ◌∷◌, [], map, refl, sym, ap, ◌∙◌, length-append, arith}
use Rattle.std.proofs.lemmas.Iterator.Adapters.{YieldsList-from_vec}
use Rattle.std.proofs.lemmas.Iterator.Consumers.{YieldsList-turn}
use Rattle.core_reader.specs.Tree.{expr}
use Rattle.match_compile.specs.DecisionOf.{clause_of, left_clause}
use Rattle.match_compile.proofs.ApartIs.{none_with, clause_more, none_at}
use Rattle.match_compile.proofs.compile.clauses.Goals as goal

pub loop-body-init : goal.loop-body-init
loop-body-init c = record {
  count = refl;
  clauses = ap (map clause_of) c.new-made.ensures ∙ sym (none_with c.args.headings.now);
}

pub loop-body-preserved : goal.loop-body-preserved
loop-body-preserved c = record {
  count = omega
      (arith, c.loop-body.invariant.count, length-append c.loop-body.yielded (c.in-Some.body ∷ []));
  clauses = clause_more c.args.headings.now c.loop-body.k c.in-Some.body c.loop-body.yielded
      c.loop-body.made c.push.new.self c.in-Some-clause_at.clause
      (sym (ap left_clause c.in-Some-clause_at.is) ∙ c.clause_at.ensures)
      c.loop-body.invariant.count c.in_ok-push-in-Some-clause_at.ensures.ok
      c.loop-body.invariant.clauses;
}

pub unreachable-requires : goal.unreachable-requires
unreachable-requires c =
    let turn = YieldsList-turn (YieldsList-from_vec c.args.bodies (search rules) (search rules))
    c.loop-body.yielded c.loop-body.body-iterator c.loop-body.yielded_by _ c.next.new.self
    c.in-Some.body c.in-Some.is c.next.ensures.steps in
    let fewer : length c.args.headings.now ≤ c.loop-body.k
    = none_at c.args.headings.now c.loop-body.k (expr c.in-Some.body)
    (sym (ap left_clause c.in-None-clause_at.is) ∙ c.clause_at.ensures) in
    omega (arith, turn.0, fewer, c.loop-body.invariant.count, c.requires)
