use Rattle.std.proofs.Common.{◌≡◌, sym, subst}
use Rattle.flow_system.specs.Shown.{tables_of, inclusions_of}
use Rattle.flow_system.specs.Solution.{IsLeast}
use Rattle.points_to.specs.Known.{held, solution_of}
use Rattle.points_to.specs.Found.{found}
use Rattle.points_to.proofs.Sets.{if_ok}
use Rattle.points_to.proofs.solve_by_rounds.Goals as goal

pub returns : goal.returns
returns c =
    let p = tables_of c.args.system.now in
    let cs = inclusions_of c.args.system.now in
    if_ok c.from_facts.result (λ f. found f ≡ solution_of (held c.in_ok-facts.facts))
    (λ f. IsLeast p cs (found f)) (λ f e. subst (IsLeast p cs) (sym e) c.in_ok-facts.ensures)
    c.from_facts.ensures
