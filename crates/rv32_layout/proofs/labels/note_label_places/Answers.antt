use Rattle.std.proofs.Common.{◌≡◌, ℕ, ◌+◌, List, length, Some, slice_get, refl, sym, ap, ◌∙◌, arith}
use Rattle.std.proofs.lemmas.Option.{slice_get_read}
use Rattle.rv32_items.specs.declared.Item.{Item}
use Rattle.rv32_layout.specs.declared.form.Way.{Way}
use Rattle.rv32_layout.specs.Forms.{width}
use Rattle.rv32_layout.proofs.Counts.{place_none, place_le, place_behind}
use Rattle.rv32_layout.proofs.Table.{place_noted}
use Rattle.rv32_layout.proofs.labels.note_label_places.Goals as goal

pub loop-n-init : goal.loop-n-init
loop-n-init c = record {
  at_is = sym (place_none c.args.ways.now c.args.items.now);
  known = λ l n s lt. absurd (omega arith);
  room = c.requires.room;
}

pub note-requires : goal.note-requires
note-requires c l is =
    let items : List Item = c.args.items.now in
    let n : ℕ = c.loop-n.n in
    let x : Item = c.index-items-n.result in
    let here : slice_get items n ≡ Some x = slice_get_read items (length items) n x refl
    c.loop-n-test.true c.index-items-n.is in
    c.loop-n.invariant.room n l (here ∙ ap (λ i. Some i) is)

pub overflow_add-at : goal.overflow_add-at
overflow_add-at c =
    let items : List Item = c.args.items.now in
    let ways : List Way = c.args.ways.now in
    let n : ℕ = c.loop-n.n in
    let x : Item = c.index-items-n.result in
    let here : slice_get items n ≡ Some x = slice_get_read items (length items) n x refl
    c.loop-n-test.true c.index-items-n.is in
    let w = c.width-at.ensures ∙ ap (λ v. width v x) c.way_of.ensures in
    let next = place_behind ways items n x here in
    let total = place_le ways items (n + 1) in
    record { fits = omega (arith, w, c.loop-n.invariant.at_is) }

pub loop-n-preserved : goal.loop-n-preserved
loop-n-preserved c =
    let items : List Item = c.args.items.now in
    let ways : List Way = c.args.ways.now in
    let n : ℕ = c.loop-n.n in
    let x : Item = c.index-items-n.result in
    let here : slice_get items n ≡ Some x = slice_get_read items (length items) n x refl
    c.loop-n-test.true c.index-items-n.is in
    let inv = c.loop-n.invariant in
    let w = c.width-at.ensures ∙ ap (λ v. width v x) c.way_of.ensures in
    let next = place_behind ways items n x here in
    record {
      at_is = omega (arith, w, inv.at_is);
      known = place_noted items ways n x c.loop-n.at c.loop-n.spots c.note.new.self here
          c.in_ok-note.ensures.noted inv.at_is inv.known;
      room = λ k l r. c.in_ok-note.ensures.room l (inv.room k l r);
    }
