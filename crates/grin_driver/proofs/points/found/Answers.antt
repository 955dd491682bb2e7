use Rattle.std.proofs.Common.{ap, subst, ◌∙◌}
use Rattle.points_to.specs.Found.{found}
use Rattle.flow_system.specs.System as flow
use Rattle.flow_system.specs.Tables.{tables}
use Rattle.flow_system.specs.Solution.{IsLeast}
use Rattle.flow_listing.specs.Text.{points}
use Rattle.grin_driver.proofs.points.found.Goals as goal

pub returns : goal.returns
returns c =
    let A = found c.in_ok-flow.flow in
    record {
      solution = A;
      least = subst (λ g. IsLeast (tables g) (flow.system g) A) c.in_ok-translation.ensures
          (rw (c.in_ok-system.ensures.tables, c.in_ok-system.ensures.inclusions) at
          c.in_ok-flow.ensures);
      is_text = c.in_ok-text.ensures ∙ ap (λ g. points g A) c.in_ok-translation.ensures;
    }
