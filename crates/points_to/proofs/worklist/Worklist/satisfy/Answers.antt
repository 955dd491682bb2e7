use Rattle.std.proofs.Common.{sym, subst}
use Rattle.flow_system.specs.Inclusions.{Inclusion, flows, to, word_at}
use Rattle.flow_system.specs.Shown.{tables_of, inclusion_of}
use Rattle.grin_syntax.specs.declared.program.Target.TheVariants.{One}
use Rattle.points_to.specs.Worklist.{SatisfiesInclusion}
use Rattle.points_to.proofs.Sets.{on_ok}
use Rattle.points_to.proofs.worklist.Worklist.satisfy.Goals as goal

pub returns-in-Some : goal.returns-in-Some
returns-in-Some c =
    let satisfies : Inclusion → Type 0 = λ i. SatisfiesInclusion (tables_of c.args.system.now) i
    c.args.n c.args.self.now c.satisfy_fetch.new.self in
    on_ok c.satisfy_fetch.result
    (satisfies (flows (word_at c.in-Some.w c.in-Some.i) (to (One c.in-Some.x))))
    (satisfies (inclusion_of c.args.inclusion.now))
    (subst satisfies (sym c.in-Some.ensures)) c.satisfy_fetch.ensures
