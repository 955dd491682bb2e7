use Rattle.std.proofs.Common.{w64, arith, ap, sym, ◌∙◌, ◌*◌}
use Rattle.std.proofs.lemmas.Nat.Bits.{bit_at-trailing_zeros}
use Rattle.points_to.specs.Bits.{numbers}
use Rattle.points_to.proofs.Numbers.{no_numbers, lowest_first}
use Rattle.points_to.proofs.bits.Block.next.Goals as goal

pub returns-then-self-eq0 : goal.returns-then-self-eq0
returns-then-self-eq0 c = sym c.self.view_is ∙ ap (numbers 64 (c.self.inside.number * 64))
    c.if-self-eq0.true ∙ no_numbers 64 (c.self.inside.number * 64)

pub returns : goal.returns
returns c =
    let t = bit_at-trailing_zeros w64 c.self.inside.bits (omega arith) (omega arith) in
    sym c.self.view_is ∙ lowest_first 64 (c.self.inside.number * 64) c.self.inside.bits
    c.without_bit-self-inside.result _ t.0 t.1 t.2 c.without_bit-self-inside.ensures.clear
    c.without_bit-self-inside.ensures.others
