use Rattle.std.proofs.Common.{◌∷◌, [], ◌+◌, refl, ap, ◌∙◌}
use Rattle.low_code.specs.Tree.{prim}
use Rattle.register_alloc.proofs.Walking.{same_places, given_on}
use Rattle.register_alloc.proofs.Steps.{does_by, prim_goes}
use Rattle.register_alloc.proofs.registers.Registers.prim.Goals as goal

pub returns : goal.returns
returns c =
    does_by c.args.text.now c.args.end
    (prim c.args.op c.args.variable c.args.left.now c.args.right.now) (c.args.variable ∷ [])
    c.args.self.now c.pass-2.new.self c.bind.new.self c.args.holders.now.of.items
    c.in_ok-next.next.of.items
    (same_places c.args.self.now c.pass-2.new.self
    (given_on c.args.self.now c.pass.new.self c.pass-2.new.self c.in_ok-pass.ensures.stays
    c.in_ok-pass-2.ensures.stays)) c.in_ok-next.ensures.adds (λ k. refl)
    (λ k. prim_goes c.args.text.now c.args.end c.args.op c.args.variable c.args.left.now
    c.args.right.now k c.args.self.now c.pass.new.self c.pass-2.new.self c.bind.new.self
    c.args.holders.now.of.items c.in_ok-next.next.of.items
    (c.in_ok-pass.ensures.at ∙ ap (λ n. c.args.self.now.at + n) c.uses_of.ensures)
    c.in_ok-pass.ensures.stays
    (c.in_ok-pass-2.ensures.at ∙ ap (λ n. c.pass.new.self.at + n) c.uses_of-2.ensures)
    c.in_ok-pass-2.ensures.stays c.in_ok-next.ensures.bound c.in_ok-next.ensures.block
    c.in_ok-next.ensures.calls)
