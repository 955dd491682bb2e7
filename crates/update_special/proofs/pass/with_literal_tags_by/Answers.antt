use Rattle.std.proofs.Common.{sym, subst}
use Rattle.flow_system.specs.Tables.{tables}
use Rattle.flow_system.specs.System.{system}
use Rattle.flow_system.specs.Solution.{IsLeast}
use Rattle.points_to.specs.Found.{found}
use Rattle.update_special.proofs.Contract.{whole, kept}
use Rattle.update_special.proofs.SameLeast.{still_least}
use Rattle.update_special.proofs.pass.with_literal_tags_by.Goals as goal

pub returns-clause-shape : goal.returns-clause-shape
returns-clause-shape c = rw c.in_ok-h.ensures (whole _ _ c.requires.of_vectors c.requires.least)

pub returns-clause-still_least : goal.returns-clause-still_least
returns-clause-still_least c =
    subst (λ p. IsLeast (tables p) (system p) (found c.args.flow.now)) (sym c.in_ok-h.ensures)
    (still_least _ _ c.requires.least)

pub returns-clause-meaning : goal.returns-clause-meaning
returns-clause-meaning c = rw c.in_ok-h.ensures (kept _ _ c.requires.of_vectors c.requires.least)
