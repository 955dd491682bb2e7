use Rattle.std.proofs.Common.{sym, ap, ◌∙◌, subst}
use Rattle.std.specs.List.{flat_map}
use Rattle.points_to.specs.Bits.{block_words}
use Rattle.points_to.specs.Held.{words_in_part}
use Rattle.points_to.specs.PartOrder.{StandsAt, GoesTo}
use Rattle.points_to.proofs.PartOrder.{picked_there, picked_nowhere}
use Rattle.points_to.proofs.items.Items.blocks.Goals as goal

pub returns-in-Ok : goal.returns-in-Ok
returns-in-Ok c =
    let rows = c.self.inside.rows.items in
    let q = c.args.part in
    let k = c.in-Ok.place in
    ap (flat_map block_words) c.as_slice-in-Ok.ensures.value
    ∙ sym (picked_there rows c.self.inside.ascending q k c.index.result.now
    (subst (λ l. StandsAt l q k) c.as_slice.ensures.value c.in-Ok.ensures) c.index.ensures)
    ∙ ap (words_in_part q) c.self.view_is

pub returns-in-Err : goal.returns-in-Err
returns-in-Err c =
    let rows = c.self.inside.rows.items in
    let q = c.args.part in
    let k = c.in-Err.field-0 in
    sym (picked_nowhere rows q k
    (subst (λ l. GoesTo l q k) c.as_slice.ensures.value c.in-Err.ensures)) ∙ ap
    (words_in_part q) c.self.view_is
