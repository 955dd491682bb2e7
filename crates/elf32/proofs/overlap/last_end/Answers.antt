use Rattle.std.proofs.Common.{arith}
use Rattle.std.proofs.lemmas.Grind.{common_steps}
use Rattle.elf32.proofs.Overlaps.{less, not_less}
use Rattle.elf32.proofs.overlap.last_end.Goals as goal

pub returns : goal.returns
returns c =
    let r = c.range.ensures.in_range tt in
    let s = c.in_ok-end.ensures.steps in
    let k = r.3 _ _ s in (
      c.in_ok-end.field-0-0.now,
      record {
        below = grind (arith, common_steps, k);
        ends_there = k.1;
        last
            = λ t lt some. not_less _ t (r.4 _ _ s t (tt, less t _ lt) some);
      },
    )
