-- Where items stand: addresses rise, and nothing begins within an item.
use Rattle.std.proofs.Common.{◌≡◌, ◌≢◌, ℕ, zero, suc, ◌+◌, ◌^◌, ◌<◌, ◌≤◌, Bool, true, false, nat_eq, ◌||◌, List, [], ◌∷◌, map, length, Option, Some, None, slice_get, unwrap_or, inl, inr, refl, sym, ap, ◌∙◌, subst, arith}
use Rattle.std.specs.Prelude.{if◌then◌else◌}
use Rattle.std.proofs.lemmas.Bool.{cases_eq, cases_order, eqb-true, eq-eqb, ne_eqb, true≢false, or_cases, or_right}
use Rattle.std.proofs.lemmas.Option.{same_Some, slice_get_within}
use Rattle.seq.proofs.Lists.{some_at as there}
use Rattle.rv32_steps.specs.Trace.{is_one_of, procedure_from}
use Rattle.rv32_items.specs.declared.Item.{Item}
use Rattle.rv32_items.specs.declared.Item.TheVariants.{Label, Plain, Branch, Jump}
use Rattle.rv32_items.specs.Course.{Layout, label_from, address_from}
use Rattle.rv32_items.specs.Placed.{is_instruction, times, AddressesRise}
use Rattle.rv32_items.specs.Flows.{begins_procedure}
use Rattle.rv32_items.specs.Laws.{address_of, addresses_of}
use Rattle.rv32_items.proofs.Stands.{stands}

-- ---- tests and lists

pub not_true : (b : Bool) → (b ≡ true → ⊥) → b ≡ false
not_true true h = absurd (h refl)
not_true false h = refl

-- the first item at an address is there, and none before it is
pub address_first : (m : ℕ) (items : List Item) (lay : Layout) (a t : ℕ)
    → address_from m items lay a ≡ Some t → (lay.address t ≡ a)
    × ((q : ℕ) → m ≤ q → q < t → lay.address q ≢ a)
address_first m [] lay a t h = cc
address_first m (i ∷ items) lay a t h = go (nat_eq (lay.address m) a) refl h
    (λ r. address_first (suc m) items lay a t r)
  where
    go : (b : Bool) → nat_eq (lay.address m) a ≡ b →
        (if b then Some m else address_from (suc m) items lay a) ≡ Some t
        → (address_from (suc m) items lay a ≡ Some t → (lay.address t ≡ a)
        × ((q : ℕ) → suc m ≤ q → q < t → lay.address q ≢ a)) → (lay.address t ≡ a)
        × ((q : ℕ) → m ≤ q → q < t → lay.address q ≢ a)
    go true e h rest =
        let s : m ≡ t = cc in (
          ap (λ k. lay.address k) (sym s) ∙ eqb-true (lay.address m) a e,
          λ q ge lt here. omega arith,
        )
    go false e h rest =
        let r = rest h in (
          r.0,
          λ q ge lt here. elim (cases_eq q m) [
            | inl same ↦ true≢false
                (sym (eq-eqb (lay.address m) a (ap (λ k. lay.address k) (sym same) ∙ here)) ∙ e)
            | inr other ↦ r.1 q (omega arith) lt here
          ],
        )

-- a label that is found stands there
pub label_there : (m : ℕ) (items : List Item) (l t : ℕ) → label_from m items l ≡ Some t → (k : ℕ)
    × ((t ≡ m + k) × (slice_get items k ≡ Some (Label l)))
label_there m [] l t h = cc
label_there m (Label j ∷ items) l t h = go (nat_eq j l) refl h
    (λ r. label_there (suc m) items l t r)
  where
    go : (b : Bool) → nat_eq j l ≡ b → (if b then Some m else label_from (suc m) items l) ≡ Some t
        → (label_from (suc m) items l ≡ Some t → (k : ℕ)
        × ((t ≡ suc m + k) × (slice_get items k ≡ Some (Label l)))) → (k : ℕ)
        × ((t ≡ m + k) × (slice_get (Label j ∷ items) k ≡ Some (Label l)))
    go true e h rest = let s : m ≡ t = cc in
        (0, (omega arith, ap (λ n. Some (Label n)) (eqb-true j l e)))
    go false e h rest = let r = rest h in (suc r.0, (omega (arith, r.1.0), r.1.1))
label_there m (Plain i ∷ items) l t h = let r = label_there (suc m) items l t h
    in (suc r.0, (omega (arith, r.1.0), r.1.1))
label_there m (Branch c a b k ∷ items) l t h = let r = label_there (suc m) items l t h
    in (suc r.0, (omega (arith, r.1.0), r.1.1))
label_there m (Jump j k ∷ items) l t h = let r = label_there (suc m) items l t h
    in (suc r.0, (omega (arith, r.1.0), r.1.1))

one_there : (f : ℕ → ℕ) (bs : List ℕ) (c : ℕ) → is_one_of (map f bs) c ≡ true → (b : ℕ)
    × ((is_one_of bs b ≡ true) × (f b ≡ c))
one_there f [] c h = absurd (true≢false (sym h))
one_there f (b ∷ bs) c h = elim (or_cases (nat_eq c (f b)) (is_one_of (map f bs) c) h) [
  | inl e ↦ (b, (ap (λ t. t || is_one_of bs b) (eq-eqb b b refl), sym (eqb-true c (f b) e)))
  | inr e ↦ let r = one_there f bs c e in
      (r.0, (or_right (nat_eq r.0 b) (is_one_of bs r.0) r.1.0, r.1.1))
]

pub not_one : (f : ℕ) (bs : List ℕ) (a : ℕ) → is_one_of bs a ≡ false → procedure_from f bs a ≡ []
not_one f [] a h = refl
not_one f (b ∷ bs) a h = go (nat_eq a b) refl h (λ r. not_one (suc f) bs a r)
  where
    go : (t : Bool) → nat_eq a b ≡ t → t || is_one_of bs a ≡ false
        → (is_one_of bs a ≡ false → procedure_from (suc f) bs a ≡ [])
        → (if t then f ∷ [] else procedure_from (suc f) bs a) ≡ []
    go true e h rest = absurd (true≢false h)
    go false e h rest = rest h

-- ---- addresses

module _ (items : List Item) (lay : Layout) (rises : AddressesRise items lay) where
  up : (n : ℕ) (i : Item) → slice_get items n ≡ Some i → lay.address n ≤ lay.address (suc n)
  up n (Label l) e = let h = rises.labels n l e in omega arith
  up n (Plain i) e = let h = rises.rises n (ap is_instruction e) in omega arith
  up n (Branch c a b l) e = let h = rises.rises n (ap is_instruction e) in omega arith
  up n (Jump k l) e = let h = rises.rises n (ap is_instruction e) in omega arith

  pub addresses_rise : (m n : ℕ) → m ≤ n → n ≤ length items → lay.address m ≤ lay.address n
  addresses_rise m zero h top =
      let e : 0 ≡ m = omega arith in
      let P : ℕ → Type 0 = λ k. lay.address k ≤ lay.address 0 in
      subst P e (omega arith)
  addresses_rise m (suc n) h top = elim (cases_eq (suc n) m) [
    | inl e ↦ let P : ℕ → Type 0 = λ k. lay.address k ≤ lay.address (suc n)
        in subst P e (omega arith)
    | inr ne ↦
        let x = there items n (omega arith) in
        let step = up n x.0 x.1 in
        let r = addresses_rise m n (omega arith) (omega arith) in
        omega arith
  ]

  pub below_top : (n : ℕ) → n ≤ length items → lay.address n < 2 ^ 32
  below_top n h =
      let r = addresses_rise n (length items) h (omega arith) in
      let l = rises.last in
      let b = rises.below in
      omega arith

  module _ (begins : List ℕ) (stand : (b : ℕ) → is_one_of begins b ≡ true → times b items ≡ 1)
      (behind : (n : ℕ) → begins_procedure begins (slice_get items n) ≡ true
      → is_instruction (slice_get items (suc n)) ≡ true) where
    -- something begins at an address
    pub record Begins (c : ℕ) : Type 0 where
      pub item : ℕ
      pub label : ℕ
      pub is : is_one_of begins label ≡ true
      pub here : slice_get items item ≡ Some (Label label)
      pub at : lay.address item ≡ c

    pub begin_at : (c : ℕ) → is_one_of (addresses_of lay items begins) c ≡ true → Begins c
    begin_at c h =
        let b = one_there (address_of lay items) begins c h in
        let s = stands b.0 items (stand b.0 b.1.0) in
        record {
          item = s.0;
          label = b.0;
          is = b.1.0;
          here = s.1.1.here;
          at = ap (λ o. lay.address (unwrap_or o 0)) (sym s.1.0) ∙ b.1.1;
        }

    -- where something begins, its label takes no word, and the instruction behind it does
    room : (t l : ℕ) → slice_get items t ≡ Some (Label l) → is_one_of begins l ≡ true
        → (lay.address t + 4 ≤ lay.address (suc (suc t))) × (suc (suc t) ≤ length items)
    room t l e is =
        let i = behind t (ap (begins_procedure begins) e ∙ is) in
        let r = rises.rises (suc t) i in
        let z = rises.labels t l e in
        (omega arith, in_list (slice_get items (suc t)) refl i)
      where
        in_list : (o : Option Item) → slice_get items (suc t) ≡ o → is_instruction o ≡ true
            → suc (suc t) ≤ length items
        in_list None e i = absurd (true≢false (sym i))
        in_list (Some x) e i = let lt = slice_get_within items (suc t) x e in omega arith

    -- nothing begins within an item
    pub none_within : (n : ℕ) (i : Item) → slice_get items n ≡ Some i → (c : ℕ) → lay.address n < c
        → c < lay.address (suc n) → is_one_of (addresses_of lay items begins) c ≡ false
    none_within n i e c lo hi = not_true _ (λ h.
        let b = begin_at c h in
        let top = slice_get_within items n i e in
        let there = slice_get_within items b.item (Label b.label) b.here in
        elim (cases_order b.item n) [
          | inl same ↦ let a = ap (λ k. lay.address k) same in omega (arith, b.at)
          | inr (inl before) ↦ let r = addresses_rise b.item n (omega arith) (omega arith)
              in omega (arith, b.at)
          | inr (inr later) ↦ let r = addresses_rise (suc n) b.item (omega arith) (omega arith)
              in omega (arith, b.at)
        ])

    -- nor at an instruction that is not right behind a beginning
    pub none_at : (n : ℕ) (i : Item) → slice_get items n ≡ Some i → is_instruction (Some i) ≡ true
        → ((q : ℕ) → suc q ≡ n → begins_procedure begins (slice_get items q) ≡ false)
        → is_one_of (addresses_of lay items begins) (lay.address n) ≡ false
    none_at n i e is fresh = not_true _ (λ h.
        let b = begin_at (lay.address n) h in
        let top = slice_get_within items n i e in
        let there = slice_get_within items b.item (Label b.label) b.here in
        let r = rises.rises n (ap is_instruction e ∙ is) in
        let two = room b.item b.label b.here b.is in
        elim (cases_order b.item n) [
          | inl same ↦ not_both i is
              (same_Some _ _ (sym e ∙ ap (λ k. slice_get items k) (sym same) ∙ b.here))
          | inr (inl before) ↦ elim (cases_eq (suc b.item) n) [
            | inl next ↦ true≢false
                (sym (ap (begins_procedure begins) b.here ∙ b.is) ∙ fresh b.item next)
            | inr far ↦ let up = addresses_rise (suc (suc b.item)) n (omega arith) (omega arith)
                in omega (arith, b.at, two.0)
          ]
          | inr (inr later) ↦ let up = addresses_rise (suc n) b.item (omega arith) (omega arith)
              in omega (arith, b.at)
        ])
      where
        not_both : (i : Item) → is_instruction (Some i) ≡ true → {l : ℕ} → i ≡ Label l → ⊥
        not_both i is e = true≢false (sym is ∙ ap (λ x. is_instruction (Some x)) e)

    -- two beginnings at one address are one
    one_begin : (t n l k : ℕ) → slice_get items t ≡ Some (Label l) → is_one_of begins l ≡ true
        → slice_get items n ≡ Some (Label k) → is_one_of begins k ≡ true
        → lay.address t ≡ lay.address n → t ≡ n
    one_begin t n l k et lt en ln same = elim (cases_order t n) [
      | inl e ↦ e
      | inr (inl before) ↦ absurd (apart t n l k et lt en before same)
      | inr (inr later) ↦ absurd (apart n t k l en ln et later (sym same))
    ]
      where
        apart : (t n l k : ℕ) → slice_get items t ≡ Some (Label l) → is_one_of begins l ≡ true
            → slice_get items n ≡ Some (Label k) → t < n → lay.address t ≡ lay.address n → ⊥
        apart t n l k et lt en before same =
            let two = room t l et lt in
            let i = behind t (ap (begins_procedure begins) et ∙ lt) in
            let top = slice_get_within items n (Label k) en in
            elim (cases_eq (suc t) n) [
              | inl next ↦ true≢false
                  (sym i ∙ ap is_instruction (ap (λ q. slice_get items q) next ∙ en))
              | inr far ↦ let up = addresses_rise (suc (suc t)) n (omega arith) (omega arith)
                  in omega (arith, two.0)
            ]

    -- the procedure whose label stands at an item, by that label and by its address
    pub begin_is : (n l : ℕ) → slice_get items n ≡ Some (Label l) → is_one_of begins l ≡ true
        → procedure_from 0 (addresses_of lay items begins) (lay.address n) ≡ procedure_from 0 begins
        l
    begin_is n l e is = among 0 begins (λ b h. h)
      where
        same_test : (b : ℕ) → is_one_of begins b ≡ true
            → nat_eq (lay.address n) (address_of lay items b) ≡ nat_eq l b
        same_test b h =
            let s = stands b items (stand b h) in
            let at : address_of lay items b ≡ lay.address s.0
            = ap (λ o. lay.address (unwrap_or o 0)) s.1.0 in
            elim (cases_eq l b) [
              | inl same ↦
                  let here : slice_get items n ≡ Some (Label b) = e ∙ ap (λ k. Some (Label k)) same
                  in
                  let item : n ≡ s.0 = s.1.1.once n here in
                  eq-eqb (lay.address n) (address_of lay items b)
                  (ap (λ k. lay.address k) item ∙ sym at) ∙ sym (eq-eqb l b same)
              | inr other ↦
                  ne_eqb (lay.address n) (address_of lay items b) (λ meets.
                  let item = one_begin n s.0 l b e is s.1.1.here h (meets ∙ at) in
                  let labels : Label l ≡ Label b = same_Some _ _
                  (sym e ∙ ap (λ k. slice_get items k) item ∙ s.1.1.here) in
                  let same : l ≡ b = cc in
                  other same)
                  ∙ sym (ne_eqb l b other)
            ]

        among : (f : ℕ) (bs : List ℕ) →
            ((b : ℕ) → is_one_of bs b ≡ true → is_one_of begins b ≡ true)
            → procedure_from f (map (address_of lay items) bs) (lay.address n) ≡ procedure_from f bs
            l
        among f [] all = refl
        among f (b ∷ bs) all =
            let first = same_test b (all b (ap (λ t. t || is_one_of bs b) (eq-eqb b b refl))) in
            ap (λ t. if t then f ∷ [] else procedure_from (suc f) (map (address_of lay items) bs)
            (lay.address n)) first
            ∙ ap (λ r. if nat_eq l b then f ∷ [] else r)
            (among (suc f) bs (λ k h. all k (or_right (nat_eq k b) (is_one_of bs k) h)))
