use Rattle.std.proofs.Common.{rules, ◌≡◌, subst}
use Rattle.points_to.specs.Known.{held}
use Rattle.points_to.specs.Wanted.{SameSet, wanted_by_parts}
use Rattle.points_to.proofs.Read.{lists_of}
use Rattle.points_to.proofs.ByParts.{like_parts}
use Rattle.points_to.proofs.tables.numbers_at.Goals as goal

pub returns : goal.returns
returns c =
    let X = held c.args.facts.now c.args.place in
    let out : c.put_parts.new.out ≡ wanted_by_parts c.args.w X = search rules in
    lists_of c.args.w X c.ascending.result
    (like_parts c.args.w X c.ascending.result
    (subst (SameSet c.ascending.result) out c.ascending.ensures.same))
    c.ascending.ensures.ascending
