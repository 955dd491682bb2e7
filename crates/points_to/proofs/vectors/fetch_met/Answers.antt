use Rattle.std.proofs.Common.{false, sym, subst}
use Rattle.std.specs.Option.{option_copied}
use Rattle.flow_system.specs.Shown.{tables_of, inclusions_of, sink_of, inclusion_of}
use Rattle.points_to.specs.Known.{held}
use Rattle.points_to.specs.Rows.{SameMembers, numbers_in}
use Rattle.points_to.specs.Kept.{met_by, AreKnown, MetAtEnd}
use Rattle.points_to.proofs.Sets.{if_ok}
use Rattle.points_to.proofs.WholeFetch.{known_met}
use Rattle.points_to.proofs.vectors.fetch_met.Goals as goal

pub returns-then-branch-clause-met : goal.returns-then-branch-clause-met
returns-then-branch-clause-met c =
    let p = tables_of c.args.system.now in
    let cs = inclusions_of c.args.system.now in
    let k = c.args.kept.now in λ exact noted.
    subst (λ i. MetAtEnd p cs k i false) (sym c.requires.is)
    (known_met p cs k c.args.w c.args.i (sink_of c.args.sink.now) (numbers_in c.args.numbers.now)
    c.requires.elsewhere (c.in_ok-is_there.ensures c.if-branch.true noted) exact)

pub returns-clause-met : goal.returns-clause-met
returns-clause-met c =
    let p = tables_of c.args.system.now in
    let cs = inclusions_of c.args.system.now in
    let k = c.args.kept.now in
    let i = inclusion_of c.args.inclusion.now in
    let ns = numbers_in c.args.numbers.now in
    if_ok c.put_met.result
    (λ added. SameMembers ns (met_by p k c.args.w) → MetAtEnd p cs k i added)
    (λ added. SameMembers ns (met_by p k c.args.w) → AreKnown p cs (held k.facts) c.args.i ns
    (option_copied c.args.noted) → MetAtEnd p cs k i added)
    (λ added met exact noted. met exact) c.put_met.ensures.met
