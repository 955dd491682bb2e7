use Rattle.std.proofs.Common.{◌≡◌, [], sym, ap, ◌∙◌, subst}
use Rattle.points_to.specs.Held.{In, words_in_part}
use Rattle.points_to.specs.PartOrder.{StandsAt, GoesTo}
use Rattle.points_to.specs.Rows.{row_words}
use Rattle.seq.proofs.Member.{none_in}
use Rattle.points_to.proofs.GivenItems.{picked_in, in_picked}
use Rattle.points_to.proofs.Rows.{has_word}
use Rattle.points_to.proofs.PartOrder.{picked_there, picked_nowhere}
use Rattle.points_to.proofs.items.Items.has.Goals as goal

pub returns-in-Ok : goal.returns-in-Ok
returns-in-Ok c =
    let rows = c.self.inside.rows.items in
    let item = c.args.item in
    let k = c.in-Ok.place in
    let row = c.index.result.now in
    let words : words_in_part item.part c.args.self.now ≡ row_words row =
    ap (words_in_part item.part) (sym c.self.view_is)
    ∙ picked_there rows c.self.inside.ascending item.part k row
    (subst (λ l. StandsAt l item.part k) c.as_slice.ensures.value c.in-Ok.ensures)
    c.index.ensures in
    let has = has_word row item.word c.number_of.result c.has.result c.number_of.ensures.number
    c.has.ensures in (
      λ t. picked_in item.part c.args.self.now (subst (In item.word) (sym words) (has.0 t)),
      λ h. has.1 (subst (In item.word) words (in_picked item.part c.args.self.now h)),
    )

pub returns-in-Err : goal.returns-in-Err
returns-in-Err c =
    let rows = c.self.inside.rows.items in
    let item = c.args.item in
    let k = c.in-Err.field-0 in
    let none : words_in_part item.part c.args.self.now ≡ [] =
    ap (words_in_part item.part) (sym c.self.view_is) ∙ picked_nowhere rows item.part k
    (subst (λ l. GoesTo l item.part k) c.as_slice.ensures.value c.in-Err.ensures) in
    (λ t. cc, λ h. none_in (subst (In item.word) none (in_picked item.part c.args.self.now h)))
