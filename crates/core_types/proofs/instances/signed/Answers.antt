use Rattle.std.proofs.Common.{sym, ap, subst}
use Rattle.core_types.proofs.Follows.{ok_then}
use Rattle.core_types.specs.SourceOf.{written as tree_of, types_in}
use Rattle.core_types.specs.Typing.{arrows, read, read_list}
use Rattle.core_types.specs.Nodes.{DenoteEach}
use Rattle.core_types.specs.Instances.{variable_of}
use Rattle.core_types.proofs.Denoting.{grows_then}
use Rattle.core_types.proofs.Instancing.{gives_as, gives_then, each_kept}
use Rattle.core_types.proofs.instances.signed.Goals as goal

pub returns : goal.returns
returns c = ok_then c.arrows.result c.arrows.ensures (λ at given.
    λ s k h.
    let v = variable_of c.args.instance in
    let n = c.args.nodes.now in
    let n' = c.read_all.new.nodes in
    let n'' = c.read.new.nodes in
    let ws = c.as_slice.result.now in
    let ts = read_list s v (types_in ws) in
    let to = read s v (tree_of c.args.signature.now.result) in
    let g = c.in_ok-from.ensures s k h in
    let r = c.in_ok-to.ensures s k g.grows.sound in
    gives_as n c.arrows.new.nodes (arrows ts to)
    (arrows (read_list s v (types_in c.args.signature.now.args)) to) at
    (ap (λ ws. arrows (read_list s v (types_in ws)) to) (sym c.as_slice.ensures))
    (gives_then n n'' c.arrows.new.nodes (arrows ts to) at
    (grows_then n n' n'' g.grows r.grows)
    (given ts to r.grows.sound
    (subst (DenoteEach n'' ts) (sym c.deref.ensures.value)
    (each_kept n' n'' r.grows ts c.in_ok-from.from.items g.each)) r.denotes)))
