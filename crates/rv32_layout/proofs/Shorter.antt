-- By the shortest ways less item is longer, and each gets to its goal again.
use Rattle.std.proofs.Common.{◌≡◌, ℕ, zero, suc, ◌+◌, ◌<◌, ◌≤◌, Bool, true, false, List, [], ◌∷◌, ◌++◌, length, Option, Some, None, slice_get, inl, inr, refl, sym, ap, ◌∙◌, subst, arith}
use Rattle.std.specs.Prelude.{nat_le, nat_lt, ◌&&◌, if◌then◌else◌}
use Rattle.std.proofs.lemmas.Bool.{leb-true, ltb-true, lt-ltb, le-leb, and_parts, cases_eq, cases_lt}
use Rattle.std.proofs.lemmas.Option.{same_Some}
use Rattle.rv32_items.specs.declared.Item.{Item}
use Rattle.rv32_items.specs.declared.Item.TheVariants.{Label, Plain, Branch, Jump}
use Rattle.rv32_layout.specs.declared.form.Way.{Way}
use Rattle.rv32_layout.specs.declared.form.Way.TheVariants.{ByBranch, ByJump, ByAddress}
use Rattle.rv32_layout.specs.Forms.{Within, reaches, branch_range, jump_range, width, branch_width, jump_width, BranchGoes, JumpGoes, CanGo}
use Rattle.rv32_layout.specs.Places.{way_at, width_in, place, goal, shortest_at, AllReachTargets, NoLonger, Shortens}
use Rattle.rv32_layout.proofs.Counts.{place_here, places_rise, shrinks}

-- ---- less item is longer

reaches_within : (range before at end to : ℕ) → end ≡ at + (before + 1)
    → Within range (at + before) to → reaches range before at end to ≡ true
reaches_within range before at end to e w = both (nat_lt (to + 1) (end + range))
    (nat_le (at + before) (to + range)) (on w.0) (back w.1)
  where
    both : (a b : Bool) → a ≡ true → b ≡ true → (a && b) ≡ true
    both a b ea eb = λ k. ea k && eb k

    on : to < at + before + range → nat_lt (to + 1) (end + range) ≡ true
    on h = lt-ltb (to + 1) (end + range) (omega arith)

    back : at + before ≤ to + range → nat_le (at + before) (to + range) ≡ true
    back h = le-leb (at + before) (to + range) h

branch_no_longer : (w : Way) (at end to : ℕ) → end ≡ at + branch_width w → BranchGoes w at to
    → branch_width
    (if reaches branch_range 0 at end to then ByBranch else if reaches jump_range 1 at end to
    then ByJump else ByAddress) ≤ branch_width w
branch_no_longer ByBranch at end to e h =
    let r = reaches_within branch_range 0 at end to (omega arith) (omega arith, omega arith) in
    let same : branch_width
    (if reaches branch_range 0 at end to then ByBranch else if reaches jump_range 1 at end to
    then ByJump else ByAddress) ≡ 1 = ap
    (λ b. branch_width
    (if b then ByBranch else if reaches jump_range 1 at end to then ByJump else ByAddress)) r in
    omega arith
branch_no_longer ByJump at end to e h =
    let r = reaches_within jump_range 1 at end to (omega arith) (omega arith, omega arith) in
    at_most (reaches branch_range 0 at end to) (reaches jump_range 1 at end to) r
  where
    at_most : (b c : Bool) → c ≡ true → branch_width
        (if b then ByBranch else if c then ByJump else ByAddress) ≤ 2
    at_most true c ec = omega arith
    at_most false true ec = omega arith
    at_most false false ec = cc
branch_no_longer ByAddress at end to e h = at_most (reaches branch_range 0 at end to)
    (reaches jump_range 1 at end to)
  where
    at_most : (b c : Bool) → branch_width (if b then ByBranch else if c then ByJump else ByAddress)
        ≤ 3
    at_most true c = omega arith
    at_most false true = omega arith
    at_most false false = omega arith

jump_no_longer : (w : Way) (at end to : ℕ) → end ≡ at + jump_width w → JumpGoes w at to
    → jump_width (if reaches jump_range 0 at end to then ByJump else ByAddress) ≤ jump_width w
jump_no_longer ByAddress at end to e h = at_most (reaches jump_range 0 at end to)
  where
    at_most : (b : Bool) → jump_width (if b then ByJump else ByAddress) ≤ 2
    at_most true = omega arith
    at_most false = omega arith
jump_no_longer ByJump at end to e h =
    let r = reaches_within jump_range 0 at end to (omega arith) (omega arith, omega arith) in
    let same : jump_width (if reaches jump_range 0 at end to then ByJump else ByAddress) ≡ 1
    = ap (λ b. jump_width (if b then ByJump else ByAddress)) r in
    omega arith
jump_no_longer ByBranch at end to e h =
    let r = reaches_within jump_range 0 at end to (omega arith) (omega arith, omega arith) in
    let same : jump_width (if reaches jump_range 0 at end to then ByJump else ByAddress) ≡ 1
    = ap (λ b. jump_width (if b then ByJump else ByAddress)) r in
    omega arith

-- the shortest way of an item that gets to its goal
shortest_no_longer : (items : List Item) (ways : List Way) (n : ℕ) (i : Item)
    → slice_get items n ≡ Some i → CanGo (way_at ways n) (place ways items n)
    (place ways items (goal items i)) i → width (shortest_at ways items n i) i ≤ width
    (way_at ways n) i
shortest_no_longer items ways n (Label l) e go = omega arith
shortest_no_longer items ways n (Plain i) e go = omega arith
shortest_no_longer items ways n (Branch cond left right l) e go =
    let i = Branch cond left right l in
    branch_no_longer (way_at ways n) (place ways items n) (place ways items (suc n))
    (place ways items (goal items i)) (place_here ways items n i e) go
shortest_no_longer items ways n (Jump link l) e go =
    let i = Jump link l in
    jump_no_longer (way_at ways n) (place ways items n) (place ways items (suc n))
    (place ways items (goal items i)) (place_here ways items n i e) go

pub no_longer : (items : List Item) (old new : List Way) → AllReachTargets items old
    → Shortens items old new → NoLonger items old new
no_longer items old new go shortens n = at (slice_get items n) refl
  where
    at : (o : Option Item) → slice_get items n ≡ o → width_in (way_at new n) o ≤ width_in
        (way_at old n) o
    at None e = omega arith
    at (Some i) e =
        let s = ap (λ w. width w i) (shortens n i e) in
        let h = shortest_no_longer items old n i e (go n i e) in
        omega arith

-- ---- each gets to its goal

in_reach : (items : List Item) (old new : List Way) → NoLonger items old new
    → (n g range before : ℕ) → before < range → place new items (suc n) ≡ place new items n +
    (before + 1) → reaches range before (place old items n) (place old items (suc n))
    (place old items g) ≡ true → Within range (place new items n + before) (place new items g)
in_reach items old new less n g range before small p e =
    let t = and_parts (nat_lt (place old items g + 1) (place old items (suc n) + range))
    (nat_le (place old items n + before) (place old items g + range)) e in
    let on = ltb-true (place old items g + 1) (place old items (suc n) + range) t.0 in
    let back = leb-true (place old items n + before) (place old items g + range) t.1 in
    elim (cases_lt n g) [
      | inl lt ↦
          let s = shrinks items old new less (suc n) g (omega arith) in
          let r = places_rise new items (suc n) g (omega arith) in
          (omega arith, omega arith)
      | inr ge ↦
          let s = shrinks items old new less g n ge in
          let r = places_rise new items g n ge in
          (omega arith, omega arith)
    ]

module _ (items : List Item) (old new : List Way) (less : NoLonger items old new) (n g : ℕ) where
  branch_goes : (b1 b2 : Bool) → reaches branch_range 0 (place old items n)
      (place old items (suc n)) (place old items g) ≡ b1
      → reaches jump_range 1 (place old items n) (place old items (suc n)) (place old items g) ≡ b2
      → place new items (suc n) ≡ place new items n + branch_width
      (if b1 then ByBranch else if b2 then ByJump else ByAddress)
      → BranchGoes (if b1 then ByBranch else if b2 then ByJump else ByAddress) (place new items n)
      (place new items g)
  branch_goes true b2 e1 e2 p =
      let r = in_reach items old new less n g branch_range 0 (omega arith) (omega arith) e1
      in (omega arith, omega arith)
  branch_goes false true e1 e2 p = in_reach items old new less n g jump_range 1 (omega arith) p e2
  branch_goes false false e1 e2 p = tt

  jump_goes : (b1 : Bool) → reaches jump_range 0 (place old items n) (place old items (suc n))
      (place old items g) ≡ b1 → place new items (suc n) ≡ place new items n + jump_width
      (if b1 then ByJump else ByAddress) → JumpGoes (if b1 then ByJump else ByAddress)
      (place new items n) (place new items g)
  jump_goes true e1 p = let r = in_reach items old new less n g jump_range 0 (omega arith) p e1
      in (omega arith, omega arith)
  jump_goes false e1 p = tt

item_goes : (items : List Item) (old new : List Way) → NoLonger items old new → (n : ℕ) (i : Item)
    → slice_get items n ≡ Some i → place new items (suc n) ≡ place new items n + width
    (shortest_at old items n i) i → CanGo (shortest_at old items n i) (place new items n)
    (place new items (goal items i)) i
item_goes items old new less n (Label l) e p = tt
item_goes items old new less n (Plain i) e p = tt
item_goes items old new less n (Branch cond left right l) e p
    = branch_goes items old new less n (goal items (Branch cond left right l)) _ _ refl refl p
item_goes items old new less n (Jump link l) e p = jump_goes items old new less n
    (goal items (Jump link l)) _ refl p

pub all_go : (items : List Item) (old new : List Way) → NoLonger items old new
    → Shortens items old new → AllReachTargets items new
all_go items old new less shortens n i e =
    let way = shortens n i e in
    let p = place_here new items n i e ∙ ap (λ w. place new items n + width w i) way in
    subst (λ w. CanGo w (place new items n) (place new items (goal items i)) i) (sym way)
    (item_goes items old new less n i e p)

-- the longest ways go everywhere
pub long_go : (items : List Item) → AllReachTargets items []
long_go items n (Label l) e = tt
long_go items n (Plain i) e = tt
long_go items n (Branch cond left right l) e = tt
long_go items n (Jump link l) e = tt

-- ---- one way more

way_kept : (ways : List Way) (w : Way) (n : ℕ) → n < length ways
    → way_at (ways ++ w ∷ []) n ≡ way_at ways n
way_kept [] w n h = absurd (omega arith)
way_kept (v ∷ ways) w zero h = refl
way_kept (v ∷ ways) w (suc n) h = way_kept ways w n (omega arith)

way_put : (ways : List Way) (w : Way) (n : ℕ) → length ways ≡ n → way_at (ways ++ w ∷ []) n ≡ w
way_put [] w zero e = refl
way_put [] w (suc n) e = absurd (omega arith)
way_put (v ∷ ways) w zero e = absurd (omega arith)
way_put (v ∷ ways) w (suc n) e = way_put ways w n (omega arith)

abbrev pub ShortensFirst : List Item → (old new : List Way) → ℕ → Type 0
ShortensFirst items old new n = (k : ℕ) (i : Item) → k < n → slice_get items k ≡ Some i
    → way_at new k ≡ shortest_at old items k i

pub one_shorter : (items : List Item) (old new : List Way) (n : ℕ) (x : Item) (w : Way)
    → slice_get items n ≡ Some x → length new ≡ n → ShortensFirst items old new n
    → w ≡ shortest_at old items n x → ShortensFirst items old (new ++ w ∷ []) (n + 1)
one_shorter items old new n x w here count before is k i lt e = elim (cases_eq n k) [
  | inl same ↦
      let item : x ≡ i = same_Some _ _ (sym here ∙ ap (λ j. slice_get items j) same ∙ e) in
      ap (λ j. way_at (new ++ w ∷ []) j) (sym same) ∙ way_put new w n count ∙ is ∙
      (λ j. shortest_at old items (same j) (item j))
  | inr ne ↦ way_kept new w k (omega arith) ∙ before k i (omega arith) e
]
