use Rattle.std.proofs.Common.{refl, subst}
use Rattle.std.specs.Prelude.{IsTrue, ◌↔◌}
use Rattle.points_to.specs.Found.{known}
use Rattle.points_to.specs.Held.{In}
use Rattle.points_to.specs.Rows.{numbers_in, words_in}
use Rattle.points_to.proofs.PartWords.{number_exact}
use Rattle.points_to.proofs.flow.Flow.number_in.Goals as goal

pub returns : goal.returns
returns c =
    let set = c.in_ok-set.set in
    number_exact (known c.args.self.now) c.args.place c.args.part (words_in set) c.in_ok-set.ensures
    set c.has.result refl
    (subst (λ n. IsTrue c.has.result ↔ In n (numbers_in set)) c.number_of.ensures.number
    c.has.ensures)
