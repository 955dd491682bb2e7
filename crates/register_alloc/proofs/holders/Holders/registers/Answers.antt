use Rattle.std.proofs.Common.{◌<◌, length, refl, sym, subst, rules}
use Rattle.std.proofs.lemmas.Option.{slice_get_read}
use Rattle.register_alloc.proofs.Pairs.{RegistersUpTo, next_register, no_registers}
use Rattle.register_alloc.proofs.holders.Holders.registers.Goals as goal

pub loop-register-init : goal.loop-register-init
loop-register-init c = subst (RegistersUpTo c.args.self.now.of.items 0)
    (sym c.new-registers.ensures) (no_registers c.args.self.now.of.items)

pub loop-register-preserved : goal.loop-register-preserved
loop-register-preserved c =
    let lt : c.loop-register.register < length c.args.self.now.of.items = search rules in
    let there = slice_get_read c.args.self.now.of.items (length c.args.self.now.of.items)
    c.loop-register.register c.index.result.now refl lt c.index.ensures in
    next_register c.args.self.now.of.items c.loop-register.register c.loop-register.registers
    c.add_held.new.registers c.index.result.now there c.in_ok-add_held.ensures
    c.loop-register.invariant
