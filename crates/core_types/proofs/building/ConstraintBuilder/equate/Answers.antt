use Rattle.std.proofs.Common.{refl}
use Rattle.core_types.specs.declared.building.ConstraintBuilder.{ConstraintBuilder}
use Rattle.core_types.specs.Typing.{constraint}
use Rattle.core_types.proofs.Adding.{adds_one}
use Rattle.core_types.proofs.building.ConstraintBuilder.equate.Goals as goal

pub returns : goal.returns
returns c = λ s t u h l r.
    let b : ConstraintBuilder = c.args.self.now in
    let b' : ConstraintBuilder = record b { pairs = c.push.new.self; places = c.push-2.new.self } in
    adds_one b b' (constraint s c.args.at t u) c.args.left c.args.right refl refl
    c.in_ok-push.ensures.items c.in_ok-push-2.ensures.items h l r
