use Rattle.std.proofs.Common.{◌∙◌, ap, arith}
use Rattle.std.proofs.lemmas.Grind.{common_steps}
use Rattle.std.specs.Ordering.{nat_cmp}
use Rattle.std.specs.BTreeMap.{get}
use Rattle.elf32.proofs.Overlaps.{less, not_less}
use Rattle.rv32_machine.specs.Memory.{is_in, segment_at}
use Rattle.rv32_machine.proofs.Searched.{only}
use Rattle.rv32_machine.proofs.store.Memory.candidate.Goals as goal

pub returns-in-Some : goal.returns-in-Some
returns-in-Some c n h =
    let r = c.range.ensures.in_range tt in
    let s = c.in-Some.ensures.steps in
    let k = r.3 _ _ s in
    only c.self.inside.regions.items (get nat_cmp c.self.inside.starts) c.args.address
    c.in-Some.field-0-0.now c.in-Some.number.now n
    c.self.invariant.apart c.self.invariant.starts k.1 (grind (arith, common_steps, k))
    (λ t lt some. not_less _ t (r.4 _ _ s t (tt, less t _ lt) some))
    (ap (λ l. is_in c.args.address (segment_at l n)) c.self.view_is ∙ h)
