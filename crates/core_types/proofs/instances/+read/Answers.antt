use Rattle.std.proofs.Common.{◌≡◌, sym, ap, subst, ◌∙◌, arith}
use Rattle.arity_check.specs.Tables.{known}
use Rattle.core_types.specs.SourceOf.{written as tree_of, types_in}
use Rattle.core_types.specs.Typing.{Int, Named, Arrow, read, read_all}
use Rattle.core_types.specs.Nodes.{DenoteAll}
use Rattle.core_types.specs.Instances.{variable_of, AddsTermsForTypes}
use Rattle.core_types.proofs.Denoting.{grows_then}
use Rattle.core_types.proofs.TreeOf.{written-Named, written-Arrow}
use Rattle.core_types.proofs.Instancing.{gives_as, gives_then, int_read, named_read, read_denoted, one_given, read_more, read_whole}
use Rattle.core_types.proofs.instances.+read.Goals as goal

pub read-returns-then-is_int : goal.read-returns-then-is_int
read-returns-then-is_int t c = λ s k h.
    let v = variable_of c.args.instance in
    let is = ap tree_of c.in-Named.is ∙ written-Named c.in-Named.name c.in-Named.args in
    gives_as c.args.nodes.now c.integer.new.self Int (read s v (tree_of c.args.written.now))
    c.in_ok-at-in-Named.at
    (ap (read s v) is ∙ int_read s v (known c.args.globals.now) c.in-Named.name
    (types_in c.in-Named.args) c.is_int.result k c.is_int.ensures c.if-is_int.true)
    (c.in_ok-at-in-Named.ensures h)

pub read-returns-in_ok-at-in-Named-2 : goal.read-returns-in_ok-at-in-Named-2
read-returns-in_ok-at-in-Named-2 t c = λ s k h.
    let v = variable_of c.args.instance in
    let is = ap tree_of c.in-Named.is ∙ written-Named c.in-Named.name c.in-Named.args in
    let n' = c.read_all.new.nodes in
    let ws = types_in c.as_slice.result.now in
    let same : ws ≡ types_in c.in-Named.args = ap types_in c.as_slice.ensures in
    let g = c.in_ok-args-in-Named.ensures s k h in
    gives_as c.args.nodes.now c.named.new.self (Named c.in-Named.name.name.0 (read_all s v ws))
    (read s v (tree_of c.args.written.now)) c.in_ok-at-in-Named-2.at
    (ap (read s v) is ∙ named_read s v (known c.args.globals.now) c.in-Named.name
    (types_in c.in-Named.args) c.is_int.result k c.is_int.ensures c.if-is_int.false
    ∙ ap (λ ws. Named c.in-Named.name.name.0 (read_all s v ws)) (sym same))
    (gives_then c.args.nodes.now n' c.named.new.self
    (Named c.in-Named.name.name.0 (read_all s v ws)) c.in_ok-at-in-Named-2.at g.grows
    (c.in_ok-at-in-Named-2.ensures (read_all s v ws) g.grows.sound
    (subst (DenoteAll n' (read_all s v ws)) (sym c.from_vec.ensures)
    (read_denoted n' s v ws c.in_ok-args-in-Named.args.items g.each))))

pub read-returns-in_ok-at-in-Arrow : goal.read-returns-in_ok-at-in-Arrow
read-returns-in_ok-at-in-Arrow t c = λ s k h.
    let v = variable_of c.args.instance in
    let is = ap tree_of c.in-Arrow.is ∙ written-Arrow c.in-Arrow.from c.in-Arrow.to in
    let from = tree_of c.deref.result.now in
    let to = tree_of c.deref-in-Arrow.result.now in
    let f = c.in_ok-from-in-Arrow.ensures s k h in
    let g = c.in_ok-to-in-Arrow.ensures s k f.grows.sound in
    let both = grows_then c.args.nodes.now c.read.new.nodes c.read-in-Arrow.new.nodes f.grows
    g.grows in
    gives_as c.args.nodes.now c.arrow.new.self (Arrow (read s v from) (read s v to))
    (read s v (tree_of c.args.written.now)) c.in_ok-at-in-Arrow.at
    (ap (read s v) is ∙
    (λ i. Arrow (read s v (tree_of (sym c.deref.ensures i)))
    (read s v (tree_of (sym c.deref-in-Arrow.ensures i)))))
    (gives_then c.args.nodes.now c.read-in-Arrow.new.nodes c.arrow.new.self
    (Arrow (read s v from) (read s v to)) c.in_ok-at-in-Arrow.at both
    (c.in_ok-at-in-Arrow.ensures (read s v from) (read s v to) g.grows.sound
    (g.grows.one (read s v from) c.in_ok-from-in-Arrow.from f.denotes) g.denotes))

pub read_all-loop-written-preserved : goal.read_all-loop-written-preserved
read_all-loop-written-preserved t c = λ s k h.
    let v = variable_of c.args.instance in
    let g = c.loop-written.invariant s k h in
    one_given c.args.nodes.now c.loop-written.nodes c.read.new.nodes _ _ c.loop-written.terms.items
    c.push.new.self.items (read s v (tree_of c.written-item.result)) c.in_ok-at.at
    (read_more s v c.args.types.now c.loop-written.written-index c.written-item.result (omega arith)
    c.written-item.is) c.in_ok-push.ensures.items g (c.in_ok-at.ensures s k g.grows.sound)

pub read_all-returns : goal.read_all-returns
read_all-returns t c = λ s k h.
    subst (λ ts. AddsTermsForTypes c.args.nodes.now c.loop-written.nodes ts
    c.loop-written.terms.items)
    (read_whole s (variable_of c.args.instance) c.args.types.now c.loop-written.written-index
    (omega arith))
    (c.loop-written.invariant s k h)
