use Rattle.test_unify.proofs.Building.{earlier_put}
use Rattle.test_unify.proofs.equations.put.Goals as goal

pub returns : goal.returns
returns c = earlier_put c.args.terms.now.items c.push.new.self.items c.args.term
    c.in_ok-push.ensures.items c.requires.earlier c.requires.below
