use Rattle.std.proofs.Common.{◌<◌, length, refl, rules}
use Rattle.std.proofs.lemmas.Option.{slice_get_read}
use Rattle.register_alloc.proofs.Pairs.{held_below}
use Rattle.register_alloc.proofs.holders.Holders.first_free.Goals as goal

pub loop-register-preserved : goal.loop-register-preserved
loop-register-preserved c =
    let lt : c.loop-register.register < length c.args.self.now.of.items = search rules in
    let there = slice_get_read c.args.self.now.of.items (length c.args.self.now.of.items)
    c.loop-register.register c.index.result.now refl lt c.index.ensures in
    held_below c.args.self.now.of.items c.loop-register.register c.index.result.now there
    (search rules) c.loop-register.invariant
