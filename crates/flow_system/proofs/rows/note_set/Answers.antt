use Rattle.std.proofs.Common.{rules, arith, ◌<◌, length, refl}
use Rattle.std.proofs.lemmas.Option.{slice_get_within, slice_get_read}
use Rattle.flow_system.proofs.Numbered.{set_noted, none_noted}
use Rattle.flow_system.proofs.rows.note_set.Goals as goal

pub index_mut-requires : goal.index_mut-requires
index_mut-requires c = omega (
  arith,
  slice_get_within c.args.sets.now c.in-Some.at c.args.place
      ((c.number.ensures c.in-Some.at).0 c.in-Some.is),
)

pub returns-in_ok-note_in_row-in-Some : goal.returns-in_ok-note_in_row-in-Some
returns-in_ok-note_in_row-in-Some c =
    let lt : c.in-Some.at < length c.args.rows.now.items
    = omega (
      arith,
      slice_get_within c.args.sets.now c.in-Some.at c.args.place
          ((c.number.ensures c.in-Some.at).0 c.in-Some.is),
    ) in
    set_noted _ _ _ c.number.result c.number.ensures _ _ _ _ c.in-Some.is
    (slice_get_read c.args.rows.now.items (length c.args.rows.now.items) c.in-Some.at
    c.index_mut.result.now refl lt (search rules)) c.in_ok-note_in_row-in-Some.ensures

pub returns-in-None : goal.returns-in-None
returns-in-None c = none_noted _ _ _ c.number.result c.number.ensures _ c.in-None.is
