use Rattle.std.proofs.Common.{sym, ap, ◌∙◌}
use Rattle.std.specs.Option.{option_copied}
use Rattle.flow_system.specs.Shown.{tables_of, inclusions_of, inclusion_of}
use Rattle.points_to.specs.Known.{held}
use Rattle.points_to.specs.Rows.{SameMembers, numbers_in}
use Rattle.points_to.specs.Kept.{met_by, AreKnown, NotedExact, MetAtEnd}
use Rattle.points_to.proofs.Sets.{if_ok}
use Rattle.points_to.proofs.vectors.fetch.Goals as goal

pub returns-in-Some-clause-met : goal.returns-in-Some-clause-met
returns-in-Some-clause-met c =
    let p = tables_of c.args.system.now in
    let cs = inclusions_of c.args.system.now in
    let k = c.args.kept.now in
    let i = inclusion_of c.args.inclusion.now in
    let numbers = c.in-Some.numbers.now in
    if_ok c.fetch_met.result
    (λ added. SameMembers (numbers_in numbers) (met_by p k c.args.w)
    → AreKnown p cs (held k.facts) c.args.i (numbers_in numbers)
    (option_copied c.at-words.result) → MetAtEnd p cs k i added)
    (λ added. NotedExact p cs k c.args.noted.now → MetAtEnd p cs k i added)
    (λ added met exact. met
    (exact.met c.args.w numbers (sym c.noted_of.ensures ∙ ap option_copied c.in-Some.is))
    (c.at-words.ensures p cs (held k.facts) exact.words)) c.fetch_met.ensures.met
