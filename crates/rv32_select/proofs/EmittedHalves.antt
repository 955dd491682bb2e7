-- Items of arms that are looked for by halves, which were put behind others.
use Rattle.std.proofs.Common.{◌≡◌, ℕ, zero, suc, ◌+◌, ◌<◌, ◌≤◌, Bool, List, [], ◌∷◌, ◌++◌, map, length, take, drop, drop-cons, get_or, None, Some, inl, refl, sym, ap, ◌∙◌, subst, arith, append_assoc, take-append-drop}
use Rattle.std.specs.Prelude.{Option}
use Rattle.std.proofs.lemmas.Grind.{common_steps}
use Rattle.parallel_move.specs.declared.Spot.{Spot}
use Rattle.low_code.specs.declared.program.Operand.{Operand}
use Rattle.low_code.specs.declared.program.LowArm.{LowArm}
use Rattle.low_code.specs.declared.program.LowTest.{LowTest}
use Rattle.low_code.specs.Tree.{Code, choose, Program, code_of, arm_of, arms_before}
use Rattle.low_code.proofs.TreeOf.{arm_of-parts}
use Rattle.register_alloc.specs.Assignment.{Assignment}
use Rattle.rv32_items.specs.declared.Cond.TheVariants.{Geu}
use Rattle.rv32_items.specs.declared.Item.{Item}
use Rattle.rv32_items.specs.declared.Item.TheVariants.{Label}
use Rattle.rv32_select.specs.declared.source.Continuation.{Continuation}
use Rattle.rv32_select.specs.Emit.{compare_items}
use Rattle.rv32_select.specs.Halves.{SearchedArm, IsBelowBound, last_test, Halves, one, two}
use Rattle.rv32_select.specs.IsSelected.{source, continued_by_jump, Emits, EmitsEach}
use Rattle.rv32_select.specs.Writable.{OperandPlaced, TestsPlaced, Placed, ArmsPlaced, ArmPlaced, BlocksPlaced}
use Rattle.rv32_select.specs.Emitting.{Emitted, TestsAscend, AreSought, Searched, one_arm}
use Rattle.rv32_select.proofs.Emitted.{arm_placed}
use Rattle.rv32_select.proofs.Weight.{arm_weight, block_weight, arm_block_lighter}
use Rattle.seq.specs.Lists.{sum_of}
use Rattle.seq.proofs.Lists.{drop_past}

-- ---- numbers that rise

abbrev one_test : Operand → ℕ → List LowTest
one_test word number = record { left = word; right = number } ∷ []

abbrev right_of : List LowTest → ℕ
right_of [] = 0
right_of (t ∷ ts) = t.right

rises_low : (word : Operand) (low : ℕ) (high : Option ℕ) (xs rest : List LowArm) (t : LowArm)
    (bound : ℕ) → TestsAscend word low high (xs ++ t ∷ rest)
    → t.tests ≡ record { left = word; right = bound } ∷ [] → low ≤ bound
rises_low word low high [] rest t bound h e =
    let is : h.0 ≡ bound = ap right_of (sym h.1 ∙ e) in
    let le = h.2 in
    omega (arith, is, le)
rises_low word low high (x ∷ xs) rest t bound h e =
    let more = rises_low word (suc h.0) high xs rest t bound h.4 e in
    let le = h.2 in
    omega (arith, more, le)

pub rises_apart : (word : Operand) (low : ℕ) (high : Option ℕ) (xs rest : List LowArm) (t : LowArm)
    (bound : ℕ) → TestsAscend word low high (xs ++ t ∷ rest)
    → t.tests ≡ record { left = word; right = bound } ∷ []
    → TestsAscend word low (Some bound) xs × TestsAscend word bound high (t ∷ rest)
rises_apart word low high [] rest t bound h e =
    let is : h.0 ≡ bound = ap right_of (sym h.1 ∙ e) in
    (tt, (h.0, h.1, omega (arith, is), h.3, h.4))
rises_apart word low high (x ∷ xs) rest t bound h e =
    let more = rises_apart word (suc h.0) high xs rest t bound h.4 e in
    let le = rises_low word (suc h.0) high xs rest t bound h.4 e in
    ((h.0, h.1, h.2, omega (arith, le), more.0), more.1)

same_test : (word : Operand) (number : ℕ) (x : LowTest) → x.left ≡ word → x.right ≡ number
    → x ∷ [] ≡ one_test word number
same_test word number x l r = λ i. record { left = l i; right = r i } ∷ []

-- a test that stands alone
pub alone_test : (tests xs : List LowTest) (d : LowTest) (word : Operand) (n : ℕ) → xs ≡ tests
    → n ≡ length xs → n ≡ 1 → (get_or xs 0 d).left ≡ word
    → tests ≡ record { left = word; right = (get_or xs 0 d).right } ∷ []
alone_test tests [] d word n e count single is = absurd (omega (arith, count, single))
alone_test tests (x ∷ []) d word n e count single is = sym e ∙ same_test word x.right x is refl
alone_test tests (x ∷ (y ∷ xs)) d word n e count single is = absurd (omega (arith, count, single))

pub first_right : (tests xs : List LowTest) (d : LowTest) → xs ≡ tests → (x : LowTest)
    → tests ≡ x ∷ [] → (get_or xs 0 d).right ≡ x.right
first_right tests xs d e x is = ap (λ (ys : List LowTest). (get_or ys 0 d).right) (e ∙ is)

-- one arm more, and none
pub rises_on : (word : Operand) (ts : List LowArm) (i : ℕ) (t : LowArm) (number low : ℕ)
    → i < length ts → t ≡ get_or ts i t → t.tests ≡ record { left = word; right = number } ∷ []
    → low ≤ number → TestsAscend word (number + 1) None (drop (i + 1) ts)
    → TestsAscend word low None (drop i ts)
rises_on word ts i t number low lt is test le h =
    let front : drop i ts ≡ t ∷ drop (suc i) ts = drop-cons ts i t lt ∙ ap
    (λ x. x ∷ drop (suc i) ts) (sym is) in
    let next : i + 1 ≡ suc i = omega arith in
    let over : number + 1 ≡ suc number = omega arith in
    let rest : TestsAscend word (suc number) None (drop (suc i) ts)
    = subst (λ x. TestsAscend word x None (drop (suc i) ts)) over
    (subst (λ x. TestsAscend word (number + 1) None (drop x ts)) next h) in
    subst (TestsAscend word low None) (sym front) (number, test, le, tt, rest)

pub rises_all : (word : Operand) (ts : List LowArm) (i low : ℕ) → length ts ≤ i
    → TestsAscend word low None (drop i ts)
rises_all word ts i low over = subst (TestsAscend word low None) (sym (drop_past ts i over)) tt

-- the first of some arms has one test
pub at_first : (ts : List LowArm) (d : LowArm) → 1 ≤ length ts
    → get_or ts 0 d ≡ get_or ts 0 (get_or ts 0 d)
at_first [] d some = absurd (omega (arith, some))
at_first (t ∷ ts) d some = refl

pub first_test : (word : Operand) (low : ℕ) (high : Option ℕ) (ts : List LowArm) (t : LowArm)
    → 1 ≤ length ts → t ≡ get_or ts 0 t → TestsAscend word low high ts → (number : ℕ)
    × ((t.tests ≡ record { left = word; right = number } ∷ [])
    × ((low ≤ number) × IsBelowBound number high))
first_test word low high [] t some e h = absurd (omega (arith, some))
first_test word low high (x ∷ ts) t some e h =
    (h.0, (ap (λ (y : LowArm). y.tests) e ∙ h.1, (h.2, h.3)))

pub first_counts : (word : Operand) (low : ℕ) (high : Option ℕ) (ts : List LowArm) (t : LowArm)
    → 1 ≤ length ts → t ≡ get_or ts 0 t → TestsAscend word low high ts → 1 ≤ length t.tests
first_counts word low high ts t some e h =
    let test = first_test word low high ts t some e h in
    subst (λ xs. 1 ≤ length xs) (sym test.1.0) (omega arith)

-- and a block that is lighter than all
pub first_light : (ts : List LowArm) (t : LowArm) → 1 ≤ length ts → t ≡ get_or ts 0 t
    → block_weight t.block < 1 + sum_of (map arm_weight ts)
first_light [] t some e = absurd (omega (arith, some))
first_light (x ∷ ts) t some e = let own = arm_block_lighter x in let same
    = ap (λ (y : LowArm). block_weight y.block) e in omega (arith, own, same)

pub only_arm : (ts : List LowArm) (t : LowArm) → length ts ≡ 1 → t ≡ get_or ts 0 t → ts ≡ t ∷ []
only_arm [] t n e = absurd (omega (arith, n))
only_arm (x ∷ []) t n e = ap (λ y. y ∷ []) (sym e)
only_arm (x ∷ (y ∷ ts)) t n e = absurd (omega (arith, n))

-- ---- arms in two parts, of which the second begins with an arm for the bound

weights_append : (xs ys : List LowArm) → sum_of (map arm_weight (xs ++ ys)) ≡ sum_of
    (map arm_weight xs) + sum_of (map arm_weight ys)
weights_append [] ys = omega arith
weights_append (x ∷ xs) ys = let more = weights_append xs ys in omega (arith, more)

some_weight : (ts : List LowArm) → 1 ≤ length ts → 1 ≤ sum_of (map arm_weight ts)
some_weight [] h = absurd (omega (arith, h))
some_weight (t ∷ ts) h = let own = arm_block_lighter t in omega (arith, own)

drop_some : (k : ℕ) (ts : List LowArm) → k < length ts → 1 ≤ length (drop k ts)
drop_some zero ts lt = omega (arith, lt)
drop_some (suc k) [] lt = absurd (omega (arith, lt))
drop_some (suc k) (t ∷ ts) lt = drop_some k ts (omega (arith, lt))

rises_drop : (word : Operand) (low : ℕ) (high : Option ℕ) (k : ℕ) (ts : List LowArm)
    → TestsAscend word low high ts → (low' : ℕ) × TestsAscend word low' high (drop k ts)
rises_drop word low high zero ts h = (low, h)
rises_drop word low high (suc k) [] h = (low, tt)
rises_drop word low high (suc k) (t ∷ ts) h = rises_drop word (suc h.0) high k ts h.4

pub back_some : (ts ys : List LowArm) (k : ℕ) → ys ≡ drop k ts → k < length ts → 1 ≤ length ys
back_some ts ys k back lt = subst (λ zs. 1 ≤ length zs) (sym back) (drop_some k ts lt)

pub back_counts : (word : Operand) (low : ℕ) (high : Option ℕ) (ts ys : List LowArm) (k : ℕ)
    (t : LowArm) → ys ≡ drop k ts → t ≡ get_or ys 0 t → k < length ts → TestsAscend word low high ts
    → 1 ≤ length t.tests
back_counts word low high ts ys k t back is lt h =
    let r = rises_drop word low high k ts h in
    first_counts word r.0 high ys t (back_some ts ys k back lt) is
    (subst (TestsAscend word r.0 high) (sym back) r.1)

pub record InTwo (word : Operand) (low bound : ℕ) (high : Option ℕ) (ts xs ys : List LowArm)
    : Type 0 where
  pub whole : ts ≡ xs ++ ys
  pub below : TestsAscend word low (Some bound) xs
  pub above : TestsAscend word bound high ys
  pub some : (1 ≤ length xs) × (1 ≤ length ys)
  pub lighter : (sum_of (map arm_weight xs) < sum_of (map arm_weight ts))
      × (sum_of (map arm_weight ys) < sum_of (map arm_weight ts))

length_take : (k : ℕ) (ts : List LowArm) → 1 ≤ k → 1 ≤ length ts → 1 ≤ length (take k ts)
length_take zero ts a b = absurd (omega (arith, a))
length_take (suc k) [] a b = absurd (omega (arith, b))
length_take (suc k) (t ∷ ts) a b = omega arith

pub in_two : (word : Operand) (low : ℕ) (high : Option ℕ) (ts xs ys : List LowArm) (k bound : ℕ)
    (t : LowArm) → xs ≡ take k ts → ys ≡ drop k ts → t ≡ get_or ys 0 t → 1 ≤ k → k < length ts
    → ((x : LowTest) → t.tests ≡ x ∷ [] → bound ≡ x.right) → TestsAscend word low high ts
    → InTwo word low bound high ts xs ys
in_two word low high ts xs ys k bound t front back is some lt number h =
    let whole : ts ≡ xs ++ ys = sym (take-append-drop k ts) ∙ ap (λ zs. zs ++ drop k ts) (sym front)
    ∙ ap (λ zs. xs ++ zs) (sym back) in
    by_back ys whole (drop_some k ts lt) back is
  where
    some_front : 1 ≤ length xs
    some_front = subst (λ zs. 1 ≤ length zs) (sym front) (length_take k ts some (omega (arith, lt)))

    by_back : (zs : List LowArm) → ts ≡ xs ++ zs → 1 ≤ length (drop k ts) → zs ≡ drop k ts
        → t ≡ get_or zs 0 t → InTwo word low bound high ts xs zs
    by_back [] e more d is' = absurd (let n = ap length d in omega (arith, more, n))
    by_back (z ∷ zs) e more d is' =
        let split = subst (TestsAscend word low high) e h in
        let test = test_of xs zs low split in
        let bound_is : bound ≡ test.0 = number (record { left = word; right = test.0 })
        (ap (λ (y : LowArm). y.tests) is' ∙ test.1) in
        let both = rises_apart word low high xs zs z bound split
        (test.1 ∙ ap (one_test word) (sym bound_is)) in
        let weights = ap (λ us. sum_of (map arm_weight us)) e in
        let sum = weights_append xs (z ∷ zs) in
        let front_weight = some_weight xs some_front in
        let back_weight = some_weight (z ∷ zs) (omega arith) in
        record {
          whole = e;
          below = both.0;
          above = both.1;
          some = (some_front, omega arith);
          lighter =
              (omega (arith, weights, sum, back_weight), omega (arith, weights, sum, front_weight));
        }
      where
        test_of : (us zs : List LowArm) (low : ℕ) → TestsAscend word low high (us ++ z ∷ zs)
            → (number : ℕ) × (z.tests ≡ record { left = word; right = number } ∷ [])
        test_of [] zs low h = (h.0, h.1)
        test_of (u ∷ us) zs low h = test_of us zs (suc h.0) h.4

-- ---- what is placed

module _ (l : Program) (a : Assignment) where
  pub all_placed : (ts : List LowArm) (c : Code) → ArmsPlaced l a (arms_before (map arm_of ts) c)
      → BlocksPlaced l a ts × Placed l a c
  all_placed [] c h = (tt, h)
  all_placed (t ∷ ts) c h =
      let p : ArmPlaced l a (arm_of t) = (h.0, h.1) in
      let more = all_placed ts c h.2 in
      (((arm_placed l a t p).1, more.0), more.1)

  pub word_placed : (word : Operand) (low : ℕ) (high : Option ℕ) (ts : List LowArm) (c : Code)
      → 1 ≤ length ts → TestsAscend word low high ts
      → ArmsPlaced l a (arms_before (map arm_of ts) c) → OperandPlaced l a word
  word_placed word low high [] c some rises h = absurd (omega (arith, some))
  word_placed word low high (t ∷ ts) c some rises h =
      let p : ArmPlaced l a (arm_of t) = (h.0, h.1) in
      let tests : TestsPlaced l a (record { left = word; right = rises.0 } ∷ [])
      = subst (TestsPlaced l a) rises.1 (arm_placed l a t p).0 in
      tests.0

  pub first_sought : (ts : List LowArm) (t : LowArm) → 1 ≤ length ts → t ≡ get_or ts 0 t
      → BlocksPlaced l a ts → Placed l a (code_of t.block)
  first_sought [] t some e h = absurd (omega (arith, some))
  first_sought (x ∷ ts) t some e h = subst (λ (y : LowArm). Placed l a (code_of y.block)) (sym e)
      h.0

  pub blocks_apart : (xs ys : List LowArm) → BlocksPlaced l a (xs ++ ys) → BlocksPlaced l a xs
      × BlocksPlaced l a ys
  blocks_apart [] ys h = (tt, h)
  blocks_apart (x ∷ xs) ys h = let more = blocks_apart xs ys h.1 in ((h.0, more.0), more.1)

-- ---- what is emitted

module _ (l : Program) (a : Assignment) (cells stack words saved : ℕ) (framed : Bool) where
  sought_append : (word : Operand) (to : List Spot) (way : Continuation) (xs ys : List LowArm)
      (ss zs : List SearchedArm) → AreSought l a cells stack words saved framed word to way xs ss
      → AreSought l a cells stack words saved framed word to way ys zs
      → AreSought l a cells stack words saved framed word to way (xs ++ ys) (ss ++ zs)
  sought_append word to way [] ys [] zs h k = k
  sought_append word to way [] ys (s ∷ ss) zs h k = absurd h
  sought_append word to way (x ∷ xs) ys [] zs h k = absurd h
  sought_append word to way (x ∷ xs) ys (s ∷ ss) zs h k
      = (h.0, h.1, sought_append word to way xs ys ss zs h.2 k)

  pub searched_one : (miss : ℕ) (word : Operand) (to : List Spot) (way : Continuation) (low : ℕ)
      (high : Option ℕ) (ts : List LowArm) (t : LowArm) (number : ℕ) (old c1 new : List Item)
      (n m : ℕ) → ts ≡ t ∷ []
      → ((number' : ℕ) ×
      ((t.tests ≡ record { left = word; right = number' } ∷ [])
      × ((low ≤ number') × IsBelowBound number' high)))
      → ((x : LowTest) → t.tests ≡ x ∷ [] → number ≡ x.right)
      → c1 ≡ old ++ last_test miss (source l a word) low high number
      → Emitted l a cells stack words saved framed to way (code_of t.block) c1 n new m
      → Searched l a cells stack words saved framed miss word to way low high ts old n new m
  searched_one miss word to way low high ts t number old c1 new n m is test number_is tested e =
      let same : number ≡ test.0 = number_is (record { left = word; right = test.0 }) test.1.0 in
      let x : SearchedArm = record { number = test.0; first = n; next = m; block = e.items } in
      let tests = last_test miss (source l a word) low high test.0 in
      record {
        all = x ∷ [];
        items = tests ++ e.items;
        is = e.is ∙ ap (λ y. y ++ e.items)
            (tested ∙ ap (λ b. old ++ last_test miss (source l a word) low high b) same) ∙
            append_assoc old tests e.items;
        arms = subst (λ us. AreSought l a cells stack words saved framed word to way us (x ∷ []))
            (sym is) (test.1.0, e.emits, tt);
        halves = one x refl refl refl test.1.1.0 test.1.1.1 refl;
      }

  pub searched_two : (miss : ℕ) (word : Operand) (to : List Spot) (way : Continuation)
      (low bound : ℕ) (high : Option ℕ) (ts xs ys : List LowArm) (old c1 c2 c3 new : List Item)
      (n label k i m : ℕ) → ts ≡ xs ++ ys → label ≡ n → k ≡ suc n
      → c1 ≡ old ++ compare_items Geu label (source l a word) bound
      → Searched l a cells stack words saved framed miss word to way low (Some bound) xs c1 k c2
      i → c3 ≡ c2 ++ Label label ∷ [] → Searched l a cells stack words saved framed miss word to
      way bound high ys c3 i new m
      → Searched l a cells stack words saved framed miss word to way low high ts old n new m
  searched_two miss word to way low bound high ts xs ys old c1 c2 c3 new n label k i m whole is next
      compared x behind y =
      let test = compare_items Geu n (source l a word) bound in
      let first : Halves miss (source l a word) low (Some bound) x.all (suc n) i x.items
      = subst (λ z. Halves miss (source l a word) low (Some bound) x.all z i x.items) next
      x.halves in
      let compared' : c1 ≡ old ++ test = compared ∙ ap
      (λ z. old ++ compare_items Geu z (source l a word) bound) is in
      let all : new ≡ (((old ++ test) ++ x.items) ++ Label n ∷ []) ++ y.items =
      y.is ∙ ap (λ z. z ++ y.items)
      (behind ∙ (λ i. c2 ++ Label (is i) ∷ []) ∙ ap (λ z. z ++ Label n ∷ [])
      (x.is ∙ ap (λ z. z ++ x.items) compared')) in
      let shape : (((old ++ test) ++ x.items) ++ Label n ∷ []) ++ y.items ≡ old
      ++ ((test ++ (x.items ++ Label n ∷ [])) ++ y.items) = grind (arith, common_steps) in
      record {
        all = x.all ++ y.all;
        items = (test ++ (x.items ++ Label n ∷ [])) ++ y.items;
        is = all ∙ shape;
        arms = subst
            (λ us. AreSought l a cells stack words saved framed word to way us (x.all ++ y.all))
            (sym whole) (sought_append word to way xs ys x.all y.all x.arms y.arms);
        halves = two bound x.all y.all i x.items y.items refl first y.halves refl;
      }

  each_made : (word : Operand) (to : List Spot) (way way' : Continuation)
      → way' ≡ continued_by_jump way → (ts : List LowArm) (ss : List SearchedArm) (c : Code)
      (k m : ℕ) (rest : List Item) → AreSought l a cells stack words saved framed word to way' ts ss
      → Emits l a cells stack words saved framed to way c k m rest
      → EmitsEach l a cells stack words saved framed word to way (arms_before (map arm_of ts) c) ss
      k m rest
  each_made word to way way' w [] [] c k m rest h e = (refl, e)
  each_made word to way way' w [] (s ∷ ss) c k m rest h e = absurd h
  each_made word to way way' w (t ∷ ts) [] c k m rest h e = absurd h
  each_made word to way way' w (t ∷ ts) (s ∷ ss) c k m rest h e =
      let own : Emits l a cells stack words saved framed to (continued_by_jump way)
      (code_of t.block) s.first s.next s.block = subst
      (λ z. Emits l a cells stack words saved framed to z (code_of t.block) s.first s.next
      s.block) w h.1 in
      subst (λ p. EmitsEach l a cells stack words saved framed word to way
      (one_arm p (arms_before (map arm_of ts) c)) (s ∷ ss) k m rest) (sym (arm_of-parts t))
      (s, ss, refl, h.0, own, each_made word to way way' w ts ss c k m rest h.2 e)

  pub choice_made : (word : Operand) (to : List Spot) (way way' : Continuation) (ts : List LowArm)
      (c : Code) (old c1 c2 new : List Item) (n label k i m : ℕ) → label ≡ n → k ≡ suc n
      → way' ≡ continued_by_jump way
      → Searched l a cells stack words saved framed label word to way' 0 None ts old k c1 i
      → c2 ≡ c1 ++ Label label ∷ [] → Emitted l a cells stack words saved framed to way c c2 i
      new m
      → Emitted l a cells stack words saved framed to way (choose (arms_before (map arm_of ts) c))
      old n new m
  choice_made word to way way' ts c old c1 c2 new n label k i m is next w x behind e =
      let halves : Halves n (source l a word) 0 None x.all (suc n) i x.items
      = subst (λ z. Halves n (source l a word) 0 None x.all z i x.items) next
      (subst (λ z. Halves z (source l a word) 0 None x.all k i x.items) is x.halves) in
      let all : new ≡ ((old ++ x.items) ++ Label n ∷ []) ++ e.items
      = e.is ∙ ap (λ z. z ++ e.items)
      (behind ∙ (λ i. c1 ++ Label (is i) ∷ []) ∙ ap (λ z. z ++ Label n ∷ []) x.is) in
      let shape : ((old ++ x.items) ++ Label n ∷ []) ++ e.items ≡ old
      ++ ((x.items ++ Label n ∷ []) ++ e.items) = grind (arith, common_steps) in
      record {
        items = (x.items ++ Label n ∷ []) ++ e.items;
        is = all ∙ shape;
        emits = inl (
          word,
          x.all,
          i,
          x.items,
          e.items,
          halves,
          each_made word to way way' w ts x.all c i m e.items x.arms e.emits,
          refl,
        );
      }
