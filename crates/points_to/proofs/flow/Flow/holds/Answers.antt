use Rattle.flow_system.specs.declared.fact.Place.TheVariants.{Var}
use Rattle.flow_system.specs.declared.fact.Part.TheVariants.{Word}
use Rattle.points_to.specs.Found.{known}
use Rattle.points_to.proofs.Solved.{known_at, at_known}
use Rattle.points_to.proofs.flow.Flow.holds.Goals as goal

pub returns : goal.returns
returns c =
    let H = known c.args.self.now in (
      λ t. known_at H (Var c.args.var.0) (Word 0) c.args.word (c.has.ensures.0 t),
      λ a. c.has.ensures.1 (at_known H (Var c.args.var.0) (Word 0) c.args.word a),
    )
