use Rattle.flow_system.specs.Shown.{tables_of}
use Rattle.points_to.proofs.StoredSound.{value_reaches}
use Rattle.points_to.proofs.kept.Kept.reaches.Goals as goal

pub returns-then-has : goal.returns-then-has
returns-then-has c = λ t. value_reaches (tables_of c.args.system.now) c.args.self.now c.args.w
    c.args.site c.args.n (c.has.ensures c.if-has.true) (c.stands_for.ensures t)
