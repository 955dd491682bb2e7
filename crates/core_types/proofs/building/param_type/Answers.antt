use Rattle.core_reader.specs.Tree.{function as function_tree}
use Rattle.arity_check.specs.Tables.{known}
use Rattle.core_types.proofs.Follows.{ok_then}
use Rattle.core_types.specs.Typing.{Open, AtBinder, integers, param_type}
use Rattle.core_types.proofs.Instancing.{gives_as}
use Rattle.core_types.proofs.Meant.{main_param, other_param}
use Rattle.core_types.proofs.building.param_type.Goals as goal

pub returns-then-is_main : goal.returns-then-is_main
returns-then-is_main c = λ s k h.
    let f = function_tree c.args.function.now in
    gives_as c.args.nodes.now c.integers.new.nodes (integers s) (param_type s f c.args.param)
    c.in_ok-at.at
    (main_param s (known c.args.context.now.globals.now) f c.is_main.result k.names
    c.is_main.ensures c.args.param c.if-is_main.true)
    (c.in_ok-at.ensures s k h)

pub returns : goal.returns
returns c = ok_then c.variable.result c.variable.ensures (λ at given.
    λ s k h.
    let f = function_tree c.args.function.now in
    gives_as c.args.nodes.now c.variable.new.self (Open (AtBinder c.args.param.at))
    (param_type s f c.args.param) at
    (other_param s (known c.args.context.now.globals.now) f c.is_main.result k.names
    c.is_main.ensures c.args.param c.if-is_main.false)
    (given h))
