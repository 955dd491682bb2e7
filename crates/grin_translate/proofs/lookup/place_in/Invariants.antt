use Rattle.std.proofs.Common.{◌≡◌, ◌+◌, drop}
use Rattle.grin_translate.specs.Tags.{first_index_where, same_thunk_kind}
use Rattle.grin_translate.proofs.lookup.place_in.Given as goal

abbrev pub invariant-loop-at : goal.invariant-loop-at
invariant-loop-at l = first_index_where (same_thunk_kind l.delay) l.list ≡ l.at + first_index_where
    (same_thunk_kind l.delay) (drop l.at l.list)
