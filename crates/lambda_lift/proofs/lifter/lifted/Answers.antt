use Rattle.std.proofs.Common.{◌++◌, sym, ap, subst, ◌∙◌}
use Rattle.std.specs.Prelude.{All}
use Rattle.lambda_lift.specs.Lifted.{lifted_names, IsNotLifted}
use Rattle.lambda_lift.proofs.Assembled.{all_made, assembled}
use Rattle.lambda_lift.proofs.lifter.lifted.Goals as goal

pub returns : goal.returns
returns c =
    assembled c.args.words c.args.constructors c.args.functions c.new-made.result c.bodies.new.made
    c.in_ok-all.all c.append.new.self c.len-count.result c.in_ok-names.names c.new-made.ensures
    c.in_ok-all.ensures.made
    c.in_ok-all.ensures.lifted c.len-count.ensures c.in_ok-append.ensures.ok
    (c.in_ok-names.ensures ∙ ap (λ ns. ns ++ lifted_names 0 c.len-count.result)
    c.into_names.ensures)

pub with_lifted-requires-clause-free : goal.with_lifted-requires-clause-free
with_lifted-requires-clause-free c =
    let many = all_made c.args.words c.args.constructors c.args.functions c.new-made.result
    c.bodies.new.made c.len-count.result c.new-made.ensures c.in_ok-all.ensures.made
    c.len-count.ensures in
    subst (λ n. All (IsNotLifted n) c.into_names.result) (sym many)
    (subst (All (IsNotLifted _)) (sym c.into_names.ensures) c.requires.free)
