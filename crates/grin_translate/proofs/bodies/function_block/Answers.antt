use Rattle.std.proofs.Common.{rules, ◌≡◌, None, map, slice_get, refl}
use Rattle.arity_check.specs.Program.{function}
use Rattle.grin_syntax.proofs.TreeOf.{tree_of}
use Rattle.grin_translate.proofs.Delayed.{no_function_at}
use Rattle.grin_translate.proofs.bodies.function_block.Goals as goal

pub returns-in_ok-body-in-None-clause-is : goal.returns-in_ok-body-in-None-clause-is
returns-in_ok-body-in-None-clause-is c =
    let e : slice_get (map function c.args.numbered.now.p.now.funs) c.args.f ≡ None
    = no_function_at c.args.numbered.now.p.now.funs c.args.f (search rules) in
    rw e (search (rules, tree_of))

pub returns-in_ok-body-in-None-clause-numbers : goal.returns-in_ok-body-in-None-clause-numbers
returns-in_ok-body-in-None-clause-numbers c =
    let e : slice_get (map function c.args.numbered.now.p.now.funs) c.args.f ≡ None
    = no_function_at c.args.numbered.now.p.now.funs c.args.f (search rules) in
    rw e refl
