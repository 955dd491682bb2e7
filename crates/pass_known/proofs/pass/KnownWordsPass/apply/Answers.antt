use Rattle.pass_known.proofs.Contract.{whole, kept, by_solution}
use Rattle.pass_known.proofs.pass.KnownWordsPass.apply.Goals as goal

pub returns-clause-shape : goal.returns-clause-shape
returns-clause-shape c =
    let m = c.in_ok-h.ensures in
    record {
      solution = m.solution;
      least = m.least;
      by
          = rw m.made (whole _ m.solution c.requires (by_solution _ _ c.requires m.least));
    }

pub returns-clause-meaning : goal.returns-clause-meaning
returns-clause-meaning c = let m = c.in_ok-h.ensures
    in rw m.made (kept _ m.solution c.requires (by_solution _ _ c.requires m.least))
