use Rattle.std.proofs.Common.{◌≡◌, ◌<◌, None, length, refl, rules, arith}
use Rattle.std.proofs.lemmas.Option.{slice_get_within}
use Rattle.register_alloc.proofs.GivingPlaces.{gives_register, gives_slot}
use Rattle.register_alloc.proofs.registers.Registers.give.Goals as goal

pub returns-in_ok-push-in-Some : goal.returns-in_ok-push-in-Some
returns-in_ok-push-in-Some c =
    let w = slice_get_within c.args.holders.now.of.items c.in-Some.register None c.in-Some.ensures
    in
    let m : length c.args.holders.now.of.items ≡ 24 = search rules in
    let lt : c.in-Some.register < 24 = omega (arith, w, m) in
    gives_register c.args.variable c.in-Some.register c.args.self.now _ c.args.holders.now.of.items
    _ lt c.in-Some.ensures (search rules) c.hold.ensures refl
    (record { at = refl; block = refl }) refl

pub returns-in-None : goal.returns-in-None
returns-in-None c = gives_slot c.args.variable c.give_slot.result c.args.self.now
    c.give_slot.new.self c.args.holders.now.of.items (λ r lt. c.in-None.ensures r (search rules))
    c.give_slot.ensures
