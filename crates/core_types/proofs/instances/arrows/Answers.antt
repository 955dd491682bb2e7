use Rattle.std.proofs.Common.{◌≡◌, ◌≤◌, ◌-◌, zero, suc, length, drop, subst, arith}
use Rattle.core_types.specs.Typing.{arrows}
use Rattle.core_types.specs.Nodes.{AddsTermForType}
use Rattle.core_types.proofs.Denoting.{grows_refl}
use Rattle.core_types.proofs.Instancing.{gives_as, past_all, arrow_more}
use Rattle.core_types.proofs.instances.arrows.Goals as goal

pub leading-init : goal.leading-init
leading-init c =
    let n = c.args.nodes.now in
    let xs = c.args.from.now in
    record {
      within = omega arith;
      given = λ ts t h e d. gives_as n n t (arrows (drop (length xs) ts) t) c.args.to
          (past_all n ts xs t (length xs) e (omega arith))
          (record { grows = grows_refl n h; denotes = d });
    }

pub leading-preserved : goal.leading-preserved
leading-preserved c =
    let i = c.leading.left in
    let within : i ≤ length c.args.from.now = c.leading.invariant.within in
    let before : i ≡ suc (i - 1) = omega (arith, c.leading-test.true) in
    record {
      within = omega (arith, within);
      given = λ ts t h e d.
          arrow_more c.args.nodes.now c.leading.nodes c.arrow.new.self ts t c.args.from.now (i - 1)
          c.leading.at c.in_ok-at.at 0
          (omega (arith, within, c.leading-test.true)) e
          (subst (λ i. AddsTermForType c.args.nodes.now c.leading.nodes (arrows (drop i ts) t)
          c.leading.at) before (c.leading.invariant.given ts t h e d))
          c.in_ok-at.ensures;
    }

pub returns : goal.returns
returns c = λ ts t h e d.
    let none : c.leading.left ≡ zero = omega (arith, c.leading-test.false) in
    subst (λ i. AddsTermForType c.args.nodes.now c.leading.nodes (arrows (drop i ts) t)
    c.leading.at) none (c.leading.invariant.given ts t h e d)
