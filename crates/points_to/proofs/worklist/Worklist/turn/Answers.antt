use Rattle.std.proofs.Common.{refl, sym}
use Rattle.flow_system.specs.Shown.{tables_of, inclusions_of, inclusion_of}
use Rattle.points_to.proofs.UntilNoneWaits.{stands_on, stands_past, stands_still, shown_some, shown_none}
use Rattle.points_to.proofs.worklist.Worklist.turn.Goals as goal

pub returns-in-None-get-clause-stands : goal.returns-in-None-get-clause-stands
returns-in-None-get-clause-stands c =
    let now = record c.args.self.now { pending = c.take.new.self } in
    stands_past (tables_of c.args.system.now) (inclusions_of c.args.system.now) c.args.self.now now
    c.in-Some.n refl refl c.in-Some.ensures.some
    (shown_none c.args.system.now.inclusions c.in-Some.n (sym c.in-None-get.ensures.value))

pub returns-in_ok-satisfy-in-Some-get-clause-stands
    : goal.returns-in_ok-satisfy-in-Some-get-clause-stands
returns-in_ok-satisfy-in-Some-get-clause-stands c =
    let now = record c.args.self.now { pending = c.take.new.self } in
    stands_on (tables_of c.args.system.now) (inclusions_of c.args.system.now) c.args.self.now now
    c.satisfy.new.self c.in-Some.n (inclusion_of c.in-Some-get.inclusion.now) refl refl
    c.in-Some.ensures.some
    (shown_some c.args.system.now.inclusions c.in-Some.n c.in-Some-get.inclusion.now
    (sym c.in-Some-get.ensures.value)) c.in_ok-satisfy-in-Some-get.ensures

pub returns-in-None-clause-stands : goal.returns-in-None-clause-stands
returns-in-None-clause-stands c =
    let now = record c.args.self.now { pending = c.take.new.self } in
    stands_still (tables_of c.args.system.now) (inclusions_of c.args.system.now) c.args.self.now now
    refl refl c.in-None.ensures.none
