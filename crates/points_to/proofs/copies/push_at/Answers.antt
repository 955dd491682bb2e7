use Rattle.std.proofs.Common.{◌≡◌, ◌++◌, ◌∷◌, [], ℕ, slice_set, slice_get}
use Rattle.std.specs.Prelude.{◌⊎◌}
use Rattle.points_to.specs.Held.{In}
use Rattle.seq.specs.Lists.{or_empty}
use Rattle.seq.proofs.Lists.{get_is}
use Rattle.points_to.proofs.Sets.{on_ok}
use Rattle.points_to.proofs.CopiesSound.{row_put}
use Rattle.points_to.proofs.copies.push_at.Goals as goal

pub returns : goal.returns
returns c =
    let rows = c.args.rows.now.items in
    let n = c.args.n in
    let old = c.index_mut.result.now in
    let new = c.push.new.self in
    on_ok c.push.result (new ≡ old ++ c.args.g ∷ [])
    ((m h : ℕ) → In h (or_empty (slice_get (slice_set rows n new) m))
    → In h (or_empty (slice_get rows m)) ⊎ ((m ≡ n) × (h ≡ c.args.g)))
    (λ e. row_put rows n c.args.g old new c.requires
    (get_is rows n old c.requires c.index_mut.ensures.value) e) c.push.ensures.ok
