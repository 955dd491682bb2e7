use Rattle.match_compile.proofs.Grows.{none_left_over, becomes_default}
use Rattle.match_compile.proofs.tree.with_default.Goals as goal

pub returns-in_default : goal.returns-in_default
returns-in_default c =
    none_left_over c.args.place c.args.put.branches c.args.put.free c.args.way c.args.put.left
    c.in_ok-new.field-0.value c.in_default.is c.in_ok-new.ensures.ok

pub returns : goal.returns
returns c =
    becomes_default c.args.place c.args.put.branches c.args.put.free c.args.way c.args.put.left
    c.in-Some.body c.into_inner.result (c.in_ok-other.other, c.in_ok-other.free)
    c.in_ok-boxed.boxed c.in_ok-new-2.field-0.value
    c.in-Some.is c.into_inner.ensures c.in_ok-other.ensures c.in_ok-boxed.ensures.ok
    c.in_ok-new-2.ensures.ok
