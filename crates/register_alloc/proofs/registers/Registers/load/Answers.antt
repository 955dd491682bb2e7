use Rattle.std.proofs.Common.{◌∷◌, [], ◌+◌, refl, ap, ◌∙◌}
use Rattle.low_code.specs.Tree.{load}
use Rattle.register_alloc.proofs.Walking.{same_places}
use Rattle.register_alloc.proofs.Steps.{does_by, load_goes}
use Rattle.register_alloc.proofs.registers.Registers.load.Goals as goal

pub returns : goal.returns
returns c =
    does_by c.args.text.now c.args.end (load c.args.variable c.args.cell.now c.args.index)
    (c.args.variable ∷ []) c.args.self.now c.pass.new.self c.bind.new.self
    c.args.holders.now.of.items c.in_ok-next.next.of.items
    (same_places c.args.self.now c.pass.new.self c.in_ok-pass.ensures.stays)
    c.in_ok-next.ensures.adds (λ k. refl)
    (λ k. load_goes c.args.text.now c.args.end c.args.variable c.args.cell.now c.args.index k
    c.args.self.now c.pass.new.self c.bind.new.self c.args.holders.now.of.items
    c.in_ok-next.next.of.items
    (c.in_ok-pass.ensures.at ∙ ap (λ n. c.args.self.now.at + n) c.uses_of.ensures)
    c.in_ok-pass.ensures.stays c.in_ok-next.ensures.bound c.in_ok-next.ensures.block
    c.in_ok-next.ensures.calls)
