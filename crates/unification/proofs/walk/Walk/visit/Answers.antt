use Rattle.unification.proofs.Walking.{begun, all_done}
use Rattle.unification.proofs.walk.Walk.visit.Goals as goal

pub walking-init : goal.walking-init
walking-init c =
    let b = begun c.args.terms.now c.args.classes.now c.requires.earlier c.requires.partition
    c.args.self.now c.begin.new.self c.args.class c.requires.walk c.requires.path
    c.requires.within c.requires.root c.in_ok-begin.ensures in
    record { walk = b.0; goes = b.1; seen = b.2 }

pub returns-clause-visits : goal.returns-clause-visits
returns-clause-visits c = λ e. record {
  walk = c.walking.invariant.walk;
  goes = c.walking.invariant.goes;
  path = c.in_default.ensures;
  mark = all_done c.args.terms.now c.args.classes.now c.requires.earlier c.requires.partition
      c.walking.self c.args.class c.walking.invariant.walk c.in_default.ensures c.requires.within
      c.walking.invariant.seen;
}
