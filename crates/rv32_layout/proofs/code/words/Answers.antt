use Rattle.std.proofs.Common.{◌≡◌, ℕ, ◌+◌, List, [], ◌++◌, length, Some, slice_get, refl, sym, ap, ◌∙◌, subst, arith}
use Rattle.std.proofs.lemmas.Option.{slice_get_read}
use Rattle.rv32_items.specs.declared.Item.{Item}
use Rattle.rv32_layout.specs.declared.form.Way.{Way}
use Rattle.rv32_layout.specs.Forms.{width, instructions, CanGo}
use Rattle.rv32_layout.specs.Places.{place, code, goal as goal_of, way_at, Encode, AppendsInstructions}
use Rattle.rv32_layout.proofs.Counts.{place_none, code_none, place_le, place_behind, code_behind}
use Rattle.rv32_layout.proofs.Table.{has_target, target_is}
use Rattle.rv32_layout.proofs.code.words.Goals as goal

goes_by : (way way' : Way) (at at' to to' : ℕ) (x : Item) → way ≡ way' → at ≡ at' → to ≡ to'
    → CanGo way' at' to' x → CanGo way at to x
goes_by way way' at at' to to' x ew ea et h =
    subst (λ v. CanGo v at to x) (sym ew)
    (subst (λ a. CanGo way' a to x) (sym ea) (subst (λ t. CanGo way' at' t x) (sym et) h))

put_by : (ways : List Way) (items : List Item) (i : ℕ) (x : Item) → slice_get items i ≡ Some x
    → (way : Way) (at to : ℕ) (old new : List ℕ) → way ≡ way_at ways i → at ≡ place ways items i
    → to ≡ place ways items (goal_of items x) → Encode (code ways items i) old
    → AppendsInstructions (instructions way at to x) old new → Encode (code ways items (i + 1)) new
put_by ways items i x here way at to old new ew ea et h puts =
    let same : code ways items i ++ instructions way at to x ≡ code ways items (i + 1)
    = (λ k. code ways items i ++ instructions (ew k) (ea k) (et k) x) ∙ sym
    (code_behind ways items i x here) in
    subst (λ is. Encode is new) same (puts (code ways items i) h)

pub loop-n-init : goal.loop-n-init
loop-n-init c =
    let items : List Item = c.args.items.now in
    let ways : List Way = c.args.plan.now.ways.items in
    record {
      at_is = sym (place_none ways items);
      words_are = subst (λ ws. Encode (code ways items 0) ws) (sym c.in_ok-words.ensures.items)
          (subst (λ is. Encode is []) (sym (code_none ways items)) tt);
    }

pub target-to-requires : goal.target-to-requires
target-to-requires c =
    let items : List Item = c.args.items.now in
    let n : ℕ = c.loop-n.n in
    let x : Item = c.index-items-n.result in
    let here : slice_get items n ≡ Some x = slice_get_read items (length items) n x refl
    c.loop-n-test.true c.index-items-n.is in
    has_target items c.args.plan.now.ways.items c.args.plan.now.spots c.requires.plan.known
    c.requires.labels n x here

pub put-requires-clause-room : goal.put-requires-clause-room
put-requires-clause-room c =
    let items : List Item = c.args.items.now in
    let ways : List Way = c.args.plan.now.ways.items in
    let n : ℕ = c.loop-n.n in
    let x : Item = c.index-items-n.result in
    let here : slice_get items n ≡ Some x = slice_get_read items (length items) n x refl
    c.loop-n-test.true c.index-items-n.is in
    let to = target_is items ways c.args.plan.now.spots c.requires.plan.known c.requires.labels n x
    here c.target-to.result c.target-to.ensures in
    let first = place_le ways items n in
    let there = place_le ways items (goal_of items x) in
    (omega (arith, c.loop-n.invariant.at_is), omega (arith, to))

pub put-requires-clause-reach : goal.put-requires-clause-reach
put-requires-clause-reach c =
    let items : List Item = c.args.items.now in
    let ways : List Way = c.args.plan.now.ways.items in
    let n : ℕ = c.loop-n.n in
    let x : Item = c.index-items-n.result in
    let here : slice_get items n ≡ Some x = slice_get_read items (length items) n x refl
    c.loop-n-test.true c.index-items-n.is in
    let to = target_is items ways c.args.plan.now.spots c.requires.plan.known c.requires.labels n x
    here c.target-to.result c.target-to.ensures in
    let way : c.way_of-way.result ≡ way_at ways n = c.way_of-way.ensures ∙ ap (λ ws. way_at ws n)
    c.deref.ensures.value in
    goes_by c.way_of-way.result (way_at ways n) c.loop-n.at (place ways items n) c.target-to.result
    (place ways items (goal_of items x)) x way c.loop-n.invariant.at_is to
    (c.requires.plan.go n x here)

pub overflow_add-at : goal.overflow_add-at
overflow_add-at c =
    let items : List Item = c.args.items.now in
    let ways : List Way = c.args.plan.now.ways.items in
    let n : ℕ = c.loop-n.n in
    let x : Item = c.index-items-n.result in
    let here : slice_get items n ≡ Some x = slice_get_read items (length items) n x refl
    c.loop-n-test.true c.index-items-n.is in
    let way : c.way_of-way.result ≡ way_at ways n = c.way_of-way.ensures ∙ ap (λ ws. way_at ws n)
    c.deref.ensures.value in
    let w = c.width-at.ensures ∙ ap (λ v. width v x) way in
    let next = place_behind ways items n x here in
    let total = place_le ways items (n + 1) in
    record { fits = omega (arith, w, c.loop-n.invariant.at_is) }

pub loop-n-preserved : goal.loop-n-preserved
loop-n-preserved c =
    let items : List Item = c.args.items.now in
    let ways : List Way = c.args.plan.now.ways.items in
    let n : ℕ = c.loop-n.n in
    let x : Item = c.index-items-n.result in
    let here : slice_get items n ≡ Some x = slice_get_read items (length items) n x refl
    c.loop-n-test.true c.index-items-n.is in
    let to = target_is items ways c.args.plan.now.spots c.requires.plan.known c.requires.labels n x
    here c.target-to.result c.target-to.ensures in
    let inv = c.loop-n.invariant in
    let way : c.way_of-way.result ≡ way_at ways n = c.way_of-way.ensures ∙ ap (λ ws. way_at ws n)
    c.deref.ensures.value in
    let w = c.width-at.ensures ∙ ap (λ v. width v x) way in
    let next = place_behind ways items n x here in
    record {
      at_is = omega (arith, w, inv.at_is);
      words_are = put_by ways items n x here c.way_of-way.result c.loop-n.at c.target-to.result
          c.loop-n.words.items c.put.new.words.items way inv.at_is to inv.words_are
          c.in_ok-put.ensures;
    }
