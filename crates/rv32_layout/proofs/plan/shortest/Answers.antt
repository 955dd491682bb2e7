use Rattle.std.proofs.Common.{◌≡◌, ℕ, suc, ◌+◌, List, [], ◌∷◌, length, length-append, Some, slice_get, refl, sym, ap, ◌∙◌, subst, arith}
use Rattle.std.proofs.lemmas.Option.{slice_get_read, slice_get_within}
use Rattle.rv32_items.specs.declared.Item.{Item}
use Rattle.rv32_layout.specs.declared.form.Way.{Way}
use Rattle.rv32_layout.specs.Forms.{width, shortest}
use Rattle.rv32_layout.specs.Places.{place, goal as goal_of}
use Rattle.rv32_layout.proofs.Counts.{place_none, place_le, place_here, place_behind}
use Rattle.rv32_layout.proofs.Shorter.{ShortensFirst, one_shorter}
use Rattle.rv32_layout.proofs.Table.{has_target, target_is}
use Rattle.rv32_layout.proofs.plan.shortest.Goals as goal

pub loop-n-init : goal.loop-n-init
loop-n-init c = record {
  at_is = sym (place_none c.args.ways.now c.args.items.now);
  count = ap length c.in_ok-shortest.ensures.items;
  shortens = λ k i lt e. absurd (omega arith);
}

pub overflow_add-end : goal.overflow_add-end
overflow_add-end c =
    let items : List Item = c.args.items.now in
    let ways : List Way = c.args.ways.now in
    let n : ℕ = c.loop-n.n in
    let x : Item = c.index-items-n.result in
    let here : slice_get items n ≡ Some x = slice_get_read items (length items) n x refl
    c.loop-n-test.true c.index-items-n.is in
    let w = c.width.ensures ∙ ap (λ v. width v x) c.way_of.ensures in
    let next = place_behind ways items n x here in
    let total = place_le ways items (n + 1) in
    record { fits = omega (arith, w, c.loop-n.invariant.at_is) }

pub target-to-requires : goal.target-to-requires
target-to-requires c =
    let items : List Item = c.args.items.now in
    let n : ℕ = c.loop-n.n in
    let x : Item = c.index-items-n.result in
    let here : slice_get items n ≡ Some x = slice_get_read items (length items) n x refl
    c.loop-n-test.true c.index-items-n.is in
    has_target items c.args.ways.now c.args.spots.now c.requires.known c.requires.labels n x here

pub shortest-requires : goal.shortest-requires
shortest-requires c =
    let items : List Item = c.args.items.now in
    let ways : List Way = c.args.ways.now in
    let n : ℕ = c.loop-n.n in
    let x : Item = c.index-items-n.result in
    let here : slice_get items n ≡ Some x = slice_get_read items (length items) n x refl
    c.loop-n-test.true c.index-items-n.is in
    let to = target_is items ways c.args.spots.now c.requires.known c.requires.labels n x here
    c.target-to.result c.target-to.ensures in
    let w = c.width.ensures ∙ ap (λ v. width v x) c.way_of.ensures in
    let next = place_behind ways items n x here in
    let first = place_le ways items n in
    let total = place_le ways items (n + 1) in
    let there = place_le ways items (goal_of items x) in (
      omega (arith, c.loop-n.invariant.at_is),
      (omega (arith, w, c.loop-n.invariant.at_is), omega (arith, to)),
    )

pub loop-n-preserved : goal.loop-n-preserved
loop-n-preserved c =
    let items : List Item = c.args.items.now in
    let ways : List Way = c.args.ways.now in
    let n : ℕ = c.loop-n.n in
    let x : Item = c.index-items-n.result in
    let here : slice_get items n ≡ Some x = slice_get_read items (length items) n x refl
    c.loop-n-test.true c.index-items-n.is in
    let inv = c.loop-n.invariant in
    let to = target_is items ways c.args.spots.now c.requires.known c.requires.labels n x here
    c.target-to.result c.target-to.ensures in
    let w = c.width.ensures ∙ ap (λ v. width v x) c.way_of.ensures in
    let next = place_behind ways items n x here in
    let end : c.loop-n.at + c.width.result ≡ place ways items (suc n)
    = omega (arith, w, inv.at_is, place_here ways items n x here) in
    let old : List Way = c.loop-n.shortest.items in
    let way : Way = c.shortest.result in
    let is = c.shortest.ensures ∙ (λ j. shortest (inv.at_is j) (end j) (to j) x) in
    let shorter = one_shorter items ways old n x way here inv.count inv.shortens is in
    record {
      at_is = omega (arith, w, inv.at_is);
      count = ap length c.in_ok-push.ensures.items ∙ length-append old (way ∷ []) ∙ ap (λ k. k + 1)
          inv.count;
      shortens = subst (λ ways'. ShortensFirst items ways ways' (n + 1))
          (sym c.in_ok-push.ensures.items) shorter;
    }

pub returns : goal.returns
returns c n i e = c.loop-n.invariant.shortens n i
    (let lt = slice_get_within c.args.items.now n i e in omega arith) e
