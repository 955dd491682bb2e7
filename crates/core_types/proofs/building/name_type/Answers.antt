use Rattle.std.proofs.Common.{sym, ◌∙◌}
use Rattle.arity_check.specs.Tables.{known}
use Rattle.core_types.proofs.Follows.{ok_then}
use Rattle.core_types.specs.Typing.{Arrow, Int, name_type, global_type}
use Rattle.core_types.proofs.Denoting.{grows_refl}
use Rattle.core_types.proofs.Instancing.{gives_as}
use Rattle.core_types.proofs.Meant.{primitive_name, local_name, global_name, local_found, local_missing}
use Rattle.core_types.proofs.building.name_type.Goals as goal

pub returns-then-is_reserved : goal.returns-then-is_reserved
returns-then-is_reserved c = λ s ls k h d.
    let x = c.args.name.0 in
    gives_as c.args.nodes.now c.primitive_type.new.nodes (Arrow Int (Arrow Int Int))
    (name_type s ls x c.args.at) c.in_ok-term.term
    (primitive_name s ls (known c.args.context.now.globals.now) x c.args.at c.is_reserved.result
    k.names c.is_reserved.ensures c.if-is_reserved.true)
    (c.in_ok-term.ensures h)

pub returns-in-Some : goal.returns-in-Some
returns-in-Some c = λ s ls k h d.
    let x = c.args.name.0 in
    let n = c.args.nodes.now in
    let f = local_found n ls c.args.scope.now x c.in-Some.local d
    (sym c.find-local.ensures ∙ c.in-Some.is) in
    gives_as n n f.0 (name_type s ls x c.args.at) c.in-Some.local
    (local_name s ls (known c.args.context.now.globals.now) x c.args.at c.is_reserved.result k.names
    c.is_reserved.ensures f.0 c.if-is_reserved.false f.1)
    (record { grows = grows_refl n h; denotes = f.2 })

pub returns-in-None : goal.returns-in-None
returns-in-None c = ok_then c.global_type.result c.global_type.ensures (λ term given.
    λ s ls k h d.
    let x = c.args.name.0 in
    let n = c.args.nodes.now in
    gives_as n c.global_type.new.nodes (global_type s x c.args.at) (name_type s ls x c.args.at)
    term
    (global_name s ls (known c.args.context.now.globals.now) x c.args.at c.is_reserved.result
    k.names c.is_reserved.ensures c.if-is_reserved.false
    (local_missing n ls c.args.scope.now x d (sym c.find-local.ensures ∙ c.in-None.is)))
    (given s k h))
