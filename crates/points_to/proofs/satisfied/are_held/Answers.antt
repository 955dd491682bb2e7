use Rattle.std.proofs.Common.{sym, subst}
use Rattle.points_to.specs.Held.{In, words_in_part}
use Rattle.points_to.specs.Known.{held}
use Rattle.points_to.proofs.HeldFacts.{words_held}
use Rattle.points_to.proofs.satisfied.are_held.Goals as goal

pub returns : goal.returns
returns c = λ t.
    let H = held c.args.facts.now in
    words_held H c.args.place c.args.part (words_in_part c.args.given (H c.args.from))
    (λ u h. subst (In u) c.blocks-3.ensures
    (c.are_within.ensures t u (subst (In u) (sym c.blocks-2.ensures) h)))
