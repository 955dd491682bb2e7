use Rattle.std.proofs.Common.{ℕ, ◌<◌, length, get_or, slice_set, refl, sym, subst, ◌∙◌, arith}
use Rattle.seq.specs.Lists.{In}
use Rattle.seq.proofs.Lists.{length_set}
use Rattle.unification.proofs.Joins.{more_moved, others_stay}
use Rattle.unification.proofs.Basics.{read_at, get_in}
use Rattle.unification.proofs.classes.relabel.Goals as goal

pub index_mut-requires : goal.index_mut-requires
index_mut-requires c =
    let xs = c.args.moved.now in
    let k = c.loop-i.i-index in
    let l : get_or xs k 0 < length c.args.class.now.items
    = c.requires (get_or xs k 0) (get_in xs k (get_or xs k 0) (read_at xs k c.loop-i-test.true))
    in
    omega (arith, l, c.loop-i.invariant.length, c.loop-i.class.ok.0)

pub loop-i-preserved : goal.loop-i-preserved
loop-i-preserved c =
    let xs = c.args.moved.now in
    let k = c.loop-i.i-index in
    let before = c.loop-i.class.items in
    let within : (i : ℕ) → In i xs → i < length before
    = λ i h. subst (λ n. i < n) (sym c.loop-i.invariant.length) (c.requires i h) in
    record {
      length = length_set before (get_or xs k 0) c.args.to ∙ c.loop-i.invariant.length;
      moved = more_moved xs before (slice_set before (get_or xs k 0) c.args.to)
          c.args.class.now.items k c.args.to c.loop-i-test.true within refl
          c.loop-i.invariant.moved;
      others = others_stay xs before (slice_set before (get_or xs k 0) c.args.to)
          c.args.class.now.items k c.args.to c.loop-i-test.true within refl
          c.loop-i.invariant.others;
    }
