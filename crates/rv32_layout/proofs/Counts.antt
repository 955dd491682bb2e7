-- How many words stand before an item, and where its instructions are in the code.
use Rattle.std.proofs.Common.{◌≡◌, ℕ, zero, suc, ◌+◌, ◌<◌, ◌≤◌, List, [], ◌∷◌, ◌++◌, length, drop, Option, Some, None, slice_get, true, inl, inr, refl, sym, ap, ◌∙◌, subst, append_assoc, length-append, arith}
use Rattle.std.proofs.lemmas.Bool.{cases_eq}
use Rattle.std.proofs.lemmas.List.{append-nil}
use Rattle.rv32_isa.specs.declared.instr.Instr.{Instr}
use Rattle.rv32_items.specs.declared.Item.{Item}
use Rattle.rv32_items.specs.declared.Item.TheVariants.{Label, Plain, Branch, Jump}
use Rattle.rv32_items.specs.Placed.{size, size_of, is_instruction}
use Rattle.rv32_layout.specs.declared.form.Way.{Way}
use Rattle.rv32_layout.specs.declared.form.Way.TheVariants.{ByBranch, ByJump, ByAddress}
use Rattle.rv32_layout.specs.Forms.{instructions, width, branch_code, branch_width, jump_code, jump_width}
use Rattle.rv32_layout.specs.Places.{way_at, width_in, place, code, code_at, NoLonger}

pub place_none : (ways : List Way) (items : List Item) → place ways items 0 ≡ 0
unfolding place
place_none ways items = refl

pub place_more : (ways : List Way) (items : List Item) (n : ℕ)
    → place ways items (suc n) ≡ place ways items n + width_in (way_at ways n) (slice_get items n)
unfolding place
place_more ways items n = refl

pub code_none : (ways : List Way) (items : List Item) → code ways items 0 ≡ []
unfolding code
code_none ways items = refl

pub code_more : (ways : List Way) (items : List Item) (n : ℕ)
    → code ways items (suc n) ≡ code ways items n ++ code_at ways items n (slice_get items n)
unfolding code
code_more ways items n = refl

-- ---- widths

branch_width_le : (w : Way) → (1 ≤ branch_width w) × (branch_width w ≤ 3)
branch_width_le ByBranch = (omega arith, omega arith)
branch_width_le ByJump = (omega arith, omega arith)
branch_width_le ByAddress = (omega arith, omega arith)

jump_width_le : (w : Way) → (1 ≤ jump_width w) × (jump_width w ≤ 3)
jump_width_le ByBranch = (omega arith, omega arith)
jump_width_le ByJump = (omega arith, omega arith)
jump_width_le ByAddress = (omega arith, omega arith)

pub width_le : (w : Way) (i : Item) → width w i ≤ size i
width_le w (Label l) = omega arith
width_le w (Plain i) = omega arith
width_le w (Branch cond left right l) = (branch_width_le w).1
width_le w (Jump link l) = (jump_width_le w).1

pub width_some : (w : Way) (i : Item) → is_instruction (Some i) ≡ true → 1 ≤ width w i
width_some w (Label l) h = cc
width_some w (Plain i) h = omega arith
width_some w (Branch cond left right l) h = (branch_width_le w).0
width_some w (Jump link l) h = (jump_width_le w).0

-- ---- places, where items go these ways

module _ (ways : List Way) (items : List Item) where
  abbrev size_in : Option Item → ℕ
  size_in None = 0
  size_in (Some i) = size i

  width_in_le : (w : Way) (o : Option Item) → width_in w o ≤ size_in o
  width_in_le w None = omega arith
  width_in_le w (Some i) = width_le w i

  size_before : (is : List Item) (n : ℕ) → size_of (drop n is) ≡ size_in (slice_get is n) + size_of
      (drop (suc n) is)
  size_before [] zero = refl
  size_before (i ∷ is) zero = refl
  size_before [] (suc n) = refl
  size_before (i ∷ is) (suc n) = size_before is n

  place_leaves : (n : ℕ) → place ways items n + size_of (drop n items) ≤ size_of items
  place_leaves zero = let e = place_none ways items in omega arith
  place_leaves (suc n) =
      let e = place_more ways items n in
      let b = size_before items n in
      let w = width_in_le (way_at ways n) (slice_get items n) in
      let h = place_leaves n in
      omega arith

  pub place_le : (n : ℕ) → place ways items n ≤ size_of items
  place_le n = let e = place_leaves n in omega arith

  pub places_rise : (m n : ℕ) → m ≤ n → place ways items m ≤ place ways items n
  places_rise m zero h =
      let e : 0 ≡ m = omega arith in
      let P : ℕ → Type 0 = λ k. place ways items k ≤ place ways items 0 in
      subst P e (omega arith)
  places_rise m (suc n) h = elim (cases_eq (suc n) m) [
    | inl e ↦ let P : ℕ → Type 0 = λ k. place ways items k ≤ place ways items (suc n)
        in subst P e (omega arith)
    | inr ne ↦ let r = places_rise m n (omega arith) in let p = place_more ways items n
        in omega arith
  ]

-- by ways that are no longer, no distance is longer
pub shrinks : (items : List Item) (old new : List Way) → NoLonger items old new → (m n : ℕ) → m ≤ n
    → place new items n + place old items m ≤ place old items n + place new items m
shrinks items old new less m zero h =
    let e : 0 ≡ m = omega arith in
    let P : ℕ → Type 0 = λ k. place new items 0 + place old items k ≤ place old items 0 + place new
    items k in
    subst P e (omega arith)
shrinks items old new less m (suc n) h = elim (cases_eq (suc n) m) [
  | inl e ↦
      let P : ℕ → Type 0 = λ k. place new items (suc n) + place old items k ≤ place old items
      (suc n) + place new items k in
      subst P e (omega arith)
  | inr ne ↦
      let r = shrinks items old new less m n (omega arith) in
      let b = place_more old items n in
      let p = place_more new items n in
      let w = less n in
      omega arith
]

-- ---- the code

branch_length : (w : Way) (at to : ℕ) (i : Item) → (cond : _) (left right : ℕ)
    → length (branch_code w at to cond left right) ≡ branch_width w
branch_length ByBranch at to i cond left right = refl
branch_length ByJump at to i cond left right = refl
branch_length ByAddress at to i cond left right = refl

jump_length : (w : Way) (at to link : ℕ) → length (jump_code w at to link) ≡ jump_width w
jump_length ByBranch at to link = refl
jump_length ByJump at to link = refl
jump_length ByAddress at to link = refl

instructions_length : (w : Way) (at to : ℕ) (i : Item) → length (instructions w at to i) ≡ width w i
instructions_length w at to (Label l) = refl
instructions_length w at to (Plain i) = refl
instructions_length w at to (Branch cond left right l)
    = branch_length w at to (Label 0) cond left right
instructions_length w at to (Jump link l) = jump_length w at to link

code_at_length : (ways : List Way) (items : List Item) (n : ℕ) (o : Option Item)
    → length (code_at ways items n o) ≡ width_in (way_at ways n) o
code_at_length ways items n None = refl
code_at_length ways items n (Some i) = instructions_length (way_at ways n) _ _ i

pub code_length : (ways : List Way) (items : List Item) (n : ℕ)
    → length (code ways items n) ≡ place ways items n
code_length ways items zero = let c = ap length (code_none ways items) in let p
    = place_none ways items in omega arith
code_length ways items (suc n) =
    let c = ap length (code_more ways items n) ∙ length-append (code ways items n)
    (code_at ways items n (slice_get items n)) in
    let p = place_more ways items n in
    let a = code_at_length ways items n (slice_get items n) in
    let h = code_length ways items n in
    omega arith

-- the code up to an item, its instructions, and the rest
pub code_split : (ways : List Way) (items : List Item) (n m : ℕ) → n < m → (rest : List Instr)
    × (code ways items m ≡ code ways items n ++ (code_at ways items n (slice_get items n) ++ rest))
code_split ways items n zero h = absurd (omega arith)
code_split ways items n (suc m) h = elim (cases_eq n m) [
  | inl e ↦
      let here = code_at ways items n (slice_get items n) in (
        [],
        ap (λ k. code ways items (suc k)) (sym e) ∙ code_more ways items n ∙ ap
            (λ x. code ways items n ++ x) (sym (append-nil here)),
      )
  | inr ne ↦
      let r = code_split ways items n m (omega arith) in
      let more = code_at ways items m (slice_get items m) in
      let here = code_at ways items n (slice_get items n) in (
        r.0 ++ more,
        code_more ways items m ∙ ap (λ x. x ++ more) r.1
            ∙ append_assoc (code ways items n) (here ++ r.0) more ∙ ap (λ x. code ways items n ++ x)
            (append_assoc here r.0 more),
      )
]

-- ---- behind the item that is read

module _ (ways : List Way) (items : List Item) (n : ℕ) (x : Item) (e : slice_get items n ≡ Some x)
  where
    more : n + 1 ≡ suc n
    more = omega arith

    pub place_here : place ways items (suc n) ≡ place ways items n + width (way_at ways n) x
    place_here = place_more ways items n ∙ ap (λ o. place ways items n + width_in (way_at ways n) o) e

    pub place_behind : place ways items (n + 1) ≡ place ways items n + width (way_at ways n) x
    place_behind = ap (place ways items) more ∙ place_here

    pub code_behind : code ways items (n + 1) ≡ code ways items n ++ code_at ways items n (Some x)
    code_behind = ap (code ways items) more ∙ code_more ways items n ∙ ap
        (λ o. code ways items n ++ code_at ways items n o) e
