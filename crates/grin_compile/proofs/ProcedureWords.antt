-- The words of each procedure, by the addresses at which the procedures begin.
use Rattle.std.proofs.Common.{◌≡◌, ℕ, zero, suc, ◌+◌, ◌*◌, ◌<◌, ◌≤◌, ◌||◌, min, Bool, true, false, nat_eq, nat_lt, List, [], ◌∷◌, ◌++◌, map, length, Some, slice_get, slice_index_or, inl, inr, refl, sym, ap, ◌∙◌, subst, arith}
use Rattle.std.specs.Prelude.{if◌then◌else◌, unwrap_or}
use Rattle.std.proofs.lemmas.Bool.{true≢false, cases_lt, eqb-true}
use Rattle.std.proofs.lemmas.Bool.Decides.{nat_tests}
use Rattle.std.proofs.lemmas.Option.{slice_get_within}
use Rattle.seq.specs.Lists.{sum_of}
use Rattle.rv32_steps.specs.Trace.{is_one_of, procedure_from}
use Rattle.rv32_items.specs.declared.Item.{Item}
use Rattle.rv32_items.specs.declared.Item.TheVariants.{Label}
use Rattle.rv32_items.specs.Course.{Layout}
use Rattle.rv32_items.specs.Placed.{times, Placed}
use Rattle.rv32_items.specs.Flows.{begins_procedure, HasStructuredFlow}
use Rattle.rv32_items.specs.Laws.{address_of, addresses_of}
use Rattle.rv32_items.proofs.Stands.{stands}
use Rattle.rv32_items.proofs.Addresses.{begin_at}
use Rattle.grin_compile.specs.Limits.{greatest}
use Rattle.grin_compile.specs.Words.{next_address, procedures_end, words_from, start_words, code_words, entered_words, most_steps}
use Rattle.grin_compile.proofs.NextAddress.{next_within}
use Rattle.grin_compile.proofs.WordsLeft.{end_at, end_before, end_by, left_in, stops_within, rise}

-- ---- the next address

-- it is no earlier than what is no later than each address behind a, and than the end
next_least : (bs : List ℕ) (end a x : ℕ) → x ≤ end →
    ((b : ℕ) → is_one_of bs b ≡ true → a < b → x ≤ b)
    → x ≤ next_address bs end a
next_least [] end a x top all = top
next_least (b ∷ bs) end a x top all =
    go (nat_lt a b) refl
    (next_least bs end a x top
    (λ c is lt. all c (or_right (nat_eq c b) (is_one_of bs c) is) lt))
  where
    or_right : (s t : Bool) → t ≡ true → (s || t) ≡ true
    or_right true t h = refl
    or_right false t h = h

    first : is_one_of (b ∷ bs) b ≡ true
    first = let h : nat_eq b b ≡ true = grind (arith, nat_tests) in ap (λ t. t || is_one_of bs b) h

    go : (t : Bool) → nat_lt a b ≡ t → x ≤ next_address bs end a
        → x ≤ (if t then min b (next_address bs end a) else next_address bs end a)
    go true e rest =
        let lt : a < b = grind (arith, nat_tests) in
        let here = all b first lt in
        omega (arith, here, rest)
    go false e rest = rest

-- ---- the words of one procedure

-- what is said of the procedure that is found is what is said of its label
found : (of : ℕ → ℕ) (f : ℕ) (before bs : List ℕ) (l : ℕ) → is_one_of bs l ≡ true
    → length before ≡ f
    → sum_of (map (λ k. slice_index_or (before ++ map of bs) k 0) (procedure_from f bs l)) ≡ of l +
    0
found of f before [] l is many = absurd (true≢false (sym is))
found of f before (b ∷ bs) l is many = go (nat_eq l b) refl is
    (λ r. found of (suc f) (before ++ of b ∷ []) bs l r (omega (arith, many, added before)))
  where
    added : (xs : List ℕ) → length (xs ++ of b ∷ []) ≡ suc (length xs)
    added [] = refl
    added (x ∷ xs) = omega (arith, added xs)

    at : (xs ys : List ℕ) → slice_index_or (xs ++ of b ∷ ys) (length xs) 0 ≡ of b
    at [] ys = refl
    at (x ∷ xs) ys = at xs ys

    moved : (xs ys : List ℕ) → (xs ++ of b ∷ []) ++ ys ≡ xs ++ of b ∷ ys
    moved [] ys = refl
    moved (x ∷ xs) ys = ap (λ zs. x ∷ zs) (moved xs ys)

    go : (t : Bool) → nat_eq l b ≡ t → (t || is_one_of bs l) ≡ true
        → (is_one_of bs l ≡ true → sum_of
        (map (λ k. slice_index_or ((before ++ of b ∷ []) ++ map of bs) k 0)
        (procedure_from (suc f) bs l)) ≡ of l + 0)
        → sum_of (map (λ k. slice_index_or (before ++ of b ∷ map of bs) k 0)
        (if t then f ∷ [] else procedure_from (suc f) bs l)) ≡ of l + 0
    go true e h rest =
        let same : l ≡ b = eqb-true l b e in
        let here : slice_index_or (before ++ of b ∷ map of bs) f 0 ≡ of b = subst
        (λ n. slice_index_or (before ++ of b ∷ map of bs) n 0 ≡ of b) many (at before (map of bs))
        in
        ap (λ v. v + 0) (here ∙ ap of (sym same))
    go false e h rest =
        subst (λ xs. sum_of (map (λ k. slice_index_or xs k 0) (procedure_from (suc f) bs l)) ≡ of l
        + 0)
        (moved before (map of bs)) (rest h)

mapped : (f g : ℕ → ℕ) (xs : List ℕ) → map f (map g xs) ≡ map (λ x. f (g x)) xs
mapped f g [] = refl
mapped f g (x ∷ xs) = ap (λ ys. f (g x) ∷ ys) (mapped f g xs)

-- ---- all of them

greatest_of : (f : ℕ → ℕ) (xs : List ℕ) (most : ℕ) → ((x : ℕ) → is_one_of xs x ≡ true → f x ≤ most)
    → greatest (map f xs) ≤ most
greatest_of f [] most all = omega arith
greatest_of f (x ∷ xs) most all =
    omega (
      arith,
      all x first,
      greatest_of f xs most
          (λ y is. all y (or_right (nat_eq y x) (is_one_of xs y) is)),
    )
  where
    or_right : (s t : Bool) → t ≡ true → (s || t) ≡ true
    or_right true t h = refl
    or_right false t h = h

    first : is_one_of (x ∷ xs) x ≡ true
    first = let h : nat_eq x x ≡ true = grind (arith, nat_tests) in ap (λ t. t || is_one_of xs x) h

one_at_most : (ws : List ℕ) (f : ℕ) → slice_index_or ws f 0 ≤ greatest ws
one_at_most [] f = omega arith
one_at_most (w ∷ ws) zero = omega arith
one_at_most (w ∷ ws) (suc f) = omega (arith, one_at_most ws f)

-- entries have no more words than each one has at most
pub few_entered : (ws fs : List ℕ) → entered_words ws fs ≤ greatest ws * length fs
few_entered ws [] = omega arith
few_entered ws (f ∷ fs) =
    let product : greatest ws * suc (length fs) ≡ greatest ws + greatest ws * length fs
    = omega arith in
    omega (arith, one_at_most ws f, few_entered ws fs, product)

pub more_entered : (ws fs gs : List ℕ) → entered_words ws fs ≤ entered_words ws (fs ++ gs)
more_entered ws [] gs = omega arith
more_entered ws (f ∷ fs) gs = omega (arith, more_entered ws fs gs)

module _ (items : List Item) (words : List ℕ) (placed : Placed items words) (begins : List ℕ)
    (stand : (b : ℕ) → is_one_of begins b ≡ true → times b items ≡ 1)
    (flows : HasStructuredFlow begins items)
    (stops_at : placed.lay.address flows.stops ≡ procedures_end words) where
  abbrev lay : Layout
  lay = placed.lay

  abbrev addresses : List ℕ
  addresses = addresses_of lay items begins

  -- from an item on, what stands to the end of its procedure stands before the next address behind
  -- this one
  to_next : (n a : ℕ) → n ≤ flows.stops → a ≤ lay.address n
      → ((q : ℕ) → begins_procedure begins (slice_get items q) ≡ true → a < lay.address q → n ≤ q)
      → left_in items words placed begins stand flows n ≤ 4 * words_from words addresses a
  to_next n a le up later =
      let e = end_at items words placed begins stand flows n in
      let before = end_before items words placed begins stand flows n le in
      let top = rise items words placed begins stand flows e flows.stops before
      (omega (arith, stops_within items words placed begins stand flows)) in
      let next = next_least addresses (procedures_end words) a (lay.address e)
      (omega (arith, top, stops_at))
      (λ b is lt. by_begin b is lt) in
      omega (arith, next, up, placed.rises.fours e, placed.rises.fours n)
    where
      by_begin : (b : ℕ) → is_one_of addresses b ≡ true → a < b
          → lay.address (end_at items words placed begins stand flows n) ≤ b
      by_begin b is lt =
          let h = begin_at items lay placed.rises begins stand flows.instruction_behind b is in
          let begin : begins_procedure begins (slice_get items h.item) ≡ true
          = ap (begins_procedure begins) h.here
          ∙ h.is in
          let le = later h.item begin (omega (arith, h.at, lt)) in
          let within = end_by items words placed begins stand flows n h.item le begin in
          let r = rise items words placed begins stand flows
          (end_at items words placed begins stand flows n) h.item within
          (omega (arith, slice_get_within items h.item (Label h.label) h.here)) in
          omega (arith, r, h.at)

  -- the words of a procedure are those from its label on to its end
  pub weighs : (n l : ℕ) → slice_get items n ≡ Some (Label l) → is_one_of begins l ≡ true
      → left_in items words placed begins stand flows (suc n) ≤ 4 * sum_of
      (map (λ f. slice_index_or (code_words words addresses) f 0) (procedure_from 0 begins l))
  weighs n l e is =
      let s = stands l items (stand l is) in
      let same : n ≡ s.0 = s.1.1.once n e in
      let at : address_of lay items l ≡ lay.address n = ap (λ o. lay.address (unwrap_or o 0)) s.1.0
      ∙ ap (λ k. lay.address k) (sym same) in
      let stays = placed.rises.labels n l e in
      let begin : begins_procedure begins (slice_get items n) ≡ true
      = ap (begins_procedure begins) e ∙ is in
      let lt = flows.procedures_before n begin in
      let h = to_next (suc n) (lay.address n) lt (omega (arith, stays)) (λ q b less. later q b less)
      in
      let one = found (λ b. words_from words addresses (address_of lay items b)) 0 [] begins l is
      refl in
      let are = mapped (words_from words addresses) (address_of lay items) begins in
      let w : words_from words addresses (address_of lay items l) ≡ words_from words addresses
      (lay.address n) = ap
      (words_from words addresses) at in
      let sum : sum_of
      (map (λ f. slice_index_or (code_words words addresses) f 0) (procedure_from 0 begins l)) ≡
      words_from words addresses (address_of lay items l) + 0 =
      ap (λ ws. sum_of (map (λ f. slice_index_or ws f 0) (procedure_from 0 begins l))) are ∙ one in
      omega (arith, h, w, sum)
    where
      later : (q : ℕ) → begins_procedure begins (slice_get items q) ≡ true
          → lay.address n < lay.address q → suc n ≤ q
      later q b less = elim (cases_lt n q) [
        | inl lt ↦ omega arith
        | inr ge ↦ let r = rise items words placed begins stand flows q n ge
            (omega (arith, slice_get_within items n (Label l) e)) in absurd (omega (arith, r, less))
      ]

  -- what stands before the first procedure
  pub starts_with : left_in items words placed begins stand flows 0 ≤ 4 * start_words words
      addresses
  starts_with = to_next 0 65536 (omega arith) (omega (arith, placed.rises.first, placed.at_first))
      (λ q b less. omega arith)

  -- no more than the words of the code
  pub few_steps : 9 ≤ length words → ((a : ℕ) → is_one_of addresses a ≡ true → 65536 ≤ a)
      → most_steps words addresses ≤ length words
  few_steps nine lows =
      let start = next_within addresses (procedures_end words) 65536 in
      omega (
        arith,
        start,
        nine,
        greatest_of (words_from words addresses) addresses (length words)
            (λ a is. let n = next_within addresses (procedures_end words) a
            in omega (arith, n, lows a is)),
      )
