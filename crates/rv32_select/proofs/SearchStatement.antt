-- Choices by halves: the machine comes to the block of the number that the word is.
use Rattle.std.proofs.Common.{◌≡◌, ◌≢◌, ℕ, suc, ◌+◌, ◌^◌, ◌<◌, ◌≤◌, List, [], ◌∷◌, ◌++◌, length, Bool, true, false, not, Some, None, ◌⊎◌, inl, inr, refl, sym, ap, ◌∙◌, subst, arith, length-append}
use Rattle.std.specs.Prelude.{Option, nat_eq, nat_lt, slice_get, if◌then◌else◌}
use Rattle.std.proofs.lemmas.Bool.Decides.{nat_tests}
use Rattle.seq.specs.Lists.{is_among}
use Rattle.seq.proofs.Truth.{two_ways}
use Rattle.seq.proofs.Counted.{among_left, among_right}
use Rattle.parallel_move.specs.declared.Spot.{Spot}
use Rattle.low_code.specs.declared.program.Operand.{Operand}
use Rattle.low_code.specs.declared.program.LowTest.{LowTest}
use Rattle.low_code.specs.Tree.{Code, choose, Arms, otherwise, arm, Procedure, Program}
use Rattle.low_code.specs.Formed.{uses, arms_uses, used_by, used_by_tests, variables}
use Rattle.low_code.specs.Literals.{IsSmall, TestsSmall}
use Rattle.low_code.specs.Values.{Word, Env, World, need, and_then}
use Rattle.low_code.specs.Run.{Calls, code, arms, number_in, holds}
use Rattle.register_alloc.specs.Fits.{slots_of}
use Rattle.register_alloc.specs.Assignment.{Assignment, place_of, words_at}
use Rattle.rv32_items.specs.declared.Cond.TheVariants.{Ne, Geu}
use Rattle.rv32_items.specs.declared.Item.{Item}
use Rattle.rv32_items.specs.declared.Item.TheVariants.{Label}
use Rattle.rv32_items.specs.Course.{Layout, label_from}
use Rattle.rv32_select.specs.declared.source.Continuation.{Continuation}
use Rattle.rv32_select.specs.Emit.{compare_items, test_items}
use Rattle.rv32_select.specs.Halves.{SearchedArm, IsBelowBound, is_alone, Halves, one, two}
use Rattle.rv32_select.specs.IsSelected.{source, continued_by_jump, first_label, ByHalves, EmitsEach}
use Rattle.rv32_select.proofs.Courses.{Stands, front, back, stays}
use Rattle.rv32_select.proofs.Straight.{Data, at}
use Rattle.rv32_select.proofs.Relation.{bases, Stood, Ran, ran_on, quiet, Does', does_after, does_map, Given, Needed}
use Rattle.rv32_select.proofs.PlaceFacts.{IsOwn, ArmsFine, ProcedureFine, Setting}
use Rattle.rv32_select.proofs.BlockFacts.{room, Block, Simulates, Ready}
use Rattle.rv32_select.proofs.OneBound.{cut, ready_at}
use Rattle.rv32_select.proofs.Stops.{passes_label}
use Rattle.rv32_select.proofs.EmittedLabels.{each_up}
use Rattle.rv32_select.proofs.JoinStatement.{stood_weaken}
use Rattle.rv32_select.proofs.HalvesFacts.{AllOf, all_front, all_back, all_map, IsUp, StartsFrom, IsWord, IsFrom, IsBelow, some_sought, halves_up, halves_from, low_word, numbers_from, numbers_below}
use Rattle.rv32_select.proofs.ChoiceStatement.{ArmsNeed, ArmsSimulates, one_test}
use Rattle.rv32_select.proofs.FurtherArms.{further_given, further_ready, further_registers}

differ : (x y : ℕ) → x ≢ y → nat_eq x y ≡ false
differ x y ne = elim (two_ways (nat_eq x y))
    [ inl t ↦ let same : x ≡ y = grind (arith, nat_tests) in absurd (ne same) | inr t ↦ t ]

less : (x y : ℕ) → nat_lt x y ≡ true → x < y
less x y t = grind (arith, nat_tests)

not_less : (x y : ℕ) → nat_lt x y ≡ false → y ≤ x
not_less x y t = grind (arith, nat_tests)

-- between bounds that leave one number, two are the same
alone_same : (low : ℕ) (high : Option ℕ) (x v : ℕ) → is_alone low high ≡ true → low ≤ x
    → IsBelowBound x high → low ≤ v → IsBelowBound v high → nat_eq v x ≡ true
alone_same low None x v e a b c d = absurd (cc)
alone_same low (Some high) x v e a b c d =
    let next : suc low ≡ high = grind (arith, nat_tests) in
    let same : v ≡ x = omega (arith, next, a, b, c, d) in
    grind (arith, nat_tests)

module _ (l : Program) (a : Assignment) (cells stack : ℕ) (lay : Layout) (items : List Item)
    (begins : List ℕ) (s : Setting l a cells stack lay items begins) (calls_n : Calls) (n : ℕ)
    (f : ℕ) (q : Procedure) (pf : ProcedureFine l a f q) (framed : Bool) (j m : ℕ) (outer : List ℕ)
    (d0 : Data) (u : ℕ) where
  -- ---- the search

  module _ (c0 : Code) (env : Env) (Must : ℕ → Word → Type 0) (w : World) (v : ℕ) where
    -- the machine comes to an item, with what is needed there
    abbrev Comes : (pos p : ℕ) → Data → Type 0
    Comes pos p d = (e : Data) ×
        (Ran lay items begins (at (bases stack) lay items p d) (m ∷ outer) w
        (at (bases stack) lay items pos e) (m ∷ outer) w
        × Stood l a cells stack lay framed f j pf.slots d0 (lay.address m) (Needed c0 env Must) e w)

    comes_on : (pos p' p : ℕ) (d' d : Data) → Ran lay items begins (at (bases stack) lay items p d)
        (m ∷ outer) w (at (bases stack) lay items p' d') (m ∷ outer) w → Comes pos p' d'
        → Comes pos p d
    comes_on pos p' p d' d ran h = (h.0, (ran_on lay items begins ran h.1.0, h.1.1))

    -- it comes to the block of the first number that the word is, and else to the item t
    abbrev Lands : List SearchedArm → (t p : ℕ) → Data → Type 0
    Lands [] t p d = Comes t p d
    Lands (x ∷ xs) t p d =
        ((nat_eq v x.number ≡ true) × ((pos : ℕ) × (Stands items pos x.block × Comes pos p d)))
        ⊎ ((nat_eq v x.number ≡ false) × Lands xs t p d)

    lands_on : (xs : List SearchedArm) (t p' p : ℕ) (d' d : Data)
        → Ran lay items begins (at (bases stack) lay items p d) (m ∷ outer) w
        (at (bases stack) lay items p' d') (m ∷ outer) w → Lands xs t p' d' → Lands xs t p d
    lands_on [] t p' p d' d ran h = comes_on t p' p d' d ran h
    lands_on (x ∷ xs) t p' p d' d ran (inl h) = inl
        (h.0, (h.1.0, (h.1.1.0, comes_on h.1.0 p' p d' d ran h.1.1.1)))
    lands_on (x ∷ xs) t p' p d' d ran (inr h) = inr (h.0, lands_on xs t p' p d' d ran h.1)

    abbrev IsOther : SearchedArm → Type 0
    IsOther x = nat_eq v x.number ≡ false

    lands_behind : (xs ys : List SearchedArm) (t p : ℕ) (d : Data) → AllOf IsOther xs
        → Lands ys t p d → Lands (xs ++ ys) t p d
    lands_behind [] ys t p d none h = h
    lands_behind (x ∷ xs) ys t p d none h = inr (none.0, lands_behind xs ys t p d none.1 h)

    none_here : (ys : List SearchedArm) (t p : ℕ) (d : Data) → AllOf IsOther ys → Comes t p d
        → Lands ys t p d
    none_here [] t p d none h = h
    none_here (y ∷ ys) t p d none h = inr (none.0, none_here ys t p d none.1 h)

    lands_before : (xs ys : List SearchedArm) (t p : ℕ) (d : Data) → AllOf IsOther ys
        → Lands xs t p d → Lands (xs ++ ys) t p d
    lands_before [] ys t p d none h = none_here ys t p d none h
    lands_before (x ∷ xs) ys t p d none (inl h) = inl h
    lands_before (x ∷ xs) ys t p d none (inr h) = inr (h.0, lands_before xs ys t p d none h.1)

    module _ (scope later : List ℕ) (word : Operand) (miss t : ℕ)
        (to_miss : label_from 0 items miss ≡ Some t)
        (scoped : (y : ℕ) (z : Word) → env y ≡ Some z → is_among y scope ≡ true)
        (owned : (y : ℕ) → is_among y scope ≡ true
        → IsOwn l a f (slots_of (place_of a) (variables q)) (place_of a y))
        (must : (y : ℕ) (z : Word) → Must y z → (is_among y scope ≡ true)
        × (is_among y later ≡ true))
        (incl : (y : ℕ) → is_among y (used_by word) ≡ true → is_among y (uses c0) ≡ true)
        (small : IsSmall word)
        (is_number : number_in l (words_at a) env word ≡ Some v) where
      -- the last test, or none
      last_lands : (x : SearchedArm) (alone : Bool) (p : ℕ) (d : Data)
          → Stands items p
          ((if alone then [] else test_items miss (source l a word) x.number) ++ x.block)
          → (alone ≡ true → nat_eq v x.number ≡ true) → x.number < 2 ^ 32
          → Stood l a cells stack lay framed f j pf.slots d0 (lay.address m) (Needed c0 env Must) d
          w → Lands (x ∷ []) t p d
      last_lands x true p d stands same lt st =
          inl (
            same refl,
            (
              p,
              (
                stands,
                (
                  d,
                  (
                    quiet lay items begins w w
                        (stays lay items w.input (at (bases stack) lay items p d) (m ∷ outer)) refl
                        refl refl
                        refl refl,
                    st,
                  ),
                ),
              ),
            ),
          )
      last_lands x false p d stands same lt st =
          let test = test_items miss (source l a word) x.number in
          let T = one_test l a cells stack lay items begins s calls_n n f q pf framed j m outer d0 u
          Ne c0 scope later env Must miss p t (record { left = word; right = x.number }) d w v
          (front items p test x.block stands) to_miss st scoped owned must incl
          ((small, lt), tt) is_number in
          elim (two_ways (nat_eq v x.number)) [
            | inl e ↦ inl (
              e,
              (
                p + length test,
                (back items p test x.block stands, (T.to', (T.same (ap not e), T.stood))),
              ),
            )
            | inr e ↦ inr (e, (T.far, (T.other (ap not e), T.stood_far')))
          ]

      search : (low : ℕ) (high : Option ℕ) (all : List SearchedArm) (b b' : ℕ) (xs : List Item)
          → Halves miss (source l a word) low high all b b' xs → (p : ℕ) (d : Data)
          → Stands items p xs → low ≤ v → IsBelowBound v high → length l.procs ≤ b
          → AllOf IsUp all → AllOf IsWord all → Stood l a cells stack lay framed f j pf.slots d0
          (lay.address m) (Needed c0 env Must) d w → Lands all t p d
      search low high all b b' xs (one x is first next from below made) p d stands le lt above ups
          words st =
          subst (λ ys. Lands ys t p d) (sym is)
          (last_lands x (is_alone low high) p d (subst (λ ys. Stands items p ys) made stands)
          (λ e. alone_same low high x.number v e from below le lt)
          (subst (AllOf IsWord) is words).0 st)
      search low high all b b' xs (two bound lower upper k ys zs both first second made) p d stands
          le lt above ups words st =
          let ups' = subst (AllOf IsUp) both ups in
          let words' = subst (AllOf IsWord) both words in
          let test = compare_items Geu b (source l a word) bound in
          let parts = cut items p (test ++ (ys ++ Label b ∷ [])) zs xs made stands in
          let behind = back items p test (ys ++ Label b ∷ []) parts.first in
          let place = p + length test + length ys in
          let label_here = (back items (p + length test) ys (Label b ∷ []) behind).0 in
          let up = halves_up miss (source l a word) low (Some bound) lower (suc b) k ys first
          (all_front IsUp lower upper ups') in
          let T = one_test l a cells stack lay items begins s calls_n n f q pf framed j m outer d0 u
          Geu c0 scope later env Must b p place (record { left = word; right = bound }) d w v
          (front items p test (ys ++ Label b ∷ []) parts.first) (s.once place b label_here) st
          scoped owned must incl (
            (
              small,
              low_word miss (source l a word) bound high upper k b' zs second
                  (all_back IsWord lower upper words'),
            ),
            tt,
          ) is_number in
          subst (λ ss. Lands ss t p d) (sym both)
          (elim (two_ways (nat_lt v bound)) [
            | inl e ↦
                let v_below = less v bound e in
                lands_before lower upper t p d
                (all_map (IsFrom bound) IsOther upper
                (λ x z. let le' : bound ≤ x.number = z
                in differ v x.number (λ e'. omega (arith, le', v_below, e')))
                (numbers_from miss (source l a word) bound high upper k b' zs second))
                (lands_on lower t (p + length test) p T.to' d (T.same (ap not e))
                (search low (Some bound) lower (suc b) k ys first (p + length test) T.to'
                (front items (p + length test) ys (Label b ∷ []) behind) le v_below
                (omega (arith, above)) (all_front IsUp lower upper ups')
                (all_front IsWord lower upper words') T.stood))
            | inr e ↦
                let v_from = not_less v bound e in
                let pass = passes_label l a cells stack lay items begins s b place T.far (m ∷ outer)
                w above label_here in
                let end : suc place ≡ p + length (test ++ (ys ++ Label b ∷ [])) = let y
                = length-append test (ys ++ Label b ∷ []) in let z
                = length-append ys (Label b ∷ []) in omega (arith, y, z) in
                let ran = ran_on lay items begins (T.other (ap not e))
                (subst (λ y. Ran lay items begins (at (bases stack) lay items place T.far)
                (m ∷ outer) w (at (bases stack) lay items y T.far) (m ∷ outer) w) end pass) in
                lands_behind lower upper t p d
                (all_map (IsBelow (Some bound)) IsOther lower
                (λ x z. let lt' : x.number < bound = z
                in differ v x.number (λ e'. omega (arith, lt', v_from, e')))
                (numbers_below miss (source l a word) low (Some bound) lower (suc b) k ys
                first))
                (lands_on upper t (p + length (test ++ (ys ++ Label b ∷ []))) p T.far d ran
                (search bound high upper k b' zs second (p + length (test ++ (ys ++ Label b ∷ [])))
                T.far parts.more v_from lt (omega (arith, above, up))
                (all_back IsUp lower upper ups') (all_back IsWord lower upper words')
                T.stood_far'))
          ])

  -- ---- the arms

  module _ (to : List Spot) (way : Continuation) (Must : ℕ → Word → Type 0) (scope later : List ℕ)
      (env : Env) (top : ℕ) (under : Option ℕ) (w : World) where
    -- the blocks of arms are simulated, wherever they stand
    abbrev pub EachSimulates : Arms → Type 0
    EachSimulates (otherwise c) = (k k' : ℕ) (block : List Item) (p : ℕ) (d : Data)
        → Block l a cells stack lay items begins f q framed pf.slots j m outer d0 u n c to way Must
        k k' block p scope later env top under d w → Simulates l a cells stack lay items begins f q
        framed pf.slots j m outer d0 u n calls_n c to way Must p env top under d w
    EachSimulates (arm ts c as') =
        ((k k' : ℕ) (block : List Item) (p : ℕ) (d : Data)
        → Block l a cells stack lay items begins f q framed pf.slots j m outer d0 u n c to
        (continued_by_jump way) Must k k' block p scope later env top under d w
        → Simulates l a cells stack lay items begins f q framed pf.slots j m outer d0 u n
        calls_n c to (continued_by_jump way) Must p env top under d w)
        × EachSimulates as'

    each_word : (word : Operand) (as' : Arms) (all : List SearchedArm) (k k' : ℕ) (rest : List Item)
        → EmitsEach l a cells stack (words_at a f) (slots_of (place_of a) (variables q)) framed word
        to way as' all k k' rest → ArmsFine l a f pf.slots (slots_of (place_of a) (variables q))
        scope as' later → AllOf IsWord all
    each_word word (otherwise c) all k k' rest h fine = subst (AllOf IsWord) (sym h.0) tt
    each_word word (arm ts c as') all k k' rest h fine
        = subst (AllOf IsWord) (sym h.2)
        ((subst TestsSmall h.3 fine.0).0.1, each_word word as' h.1 k k' rest h.5 fine.1.1)

    module _ (as0 : Arms) (k0 k0' : ℕ) (block : List Item) (p : ℕ) (d : Data)
        (b : Block l a cells stack lay items begins f q framed pf.slots j m outer d0 u n
        (choose as0) to way Must k0 k0' block p scope later env top under d w) (word : Operand)
        (v miss t : ℕ)
        (is_number : number_in l (words_at a) env word ≡ Some v)
        (label_here : slice_get items t ≡ Some (Label miss)) (above : first_label l ≤ miss)
      where
        -- what is needed for arms is needed for all
        abbrev Narrows : (Needs : ℕ → Word → Type 0) → Type 0
        Narrows Needs = (y : ℕ) (z : Word) → Needs y z → Needed (choose as0) env Must y z

        -- one test, of which it is known whether it holds
        tested : (ts : List LowTest) (number' : ℕ) (holds' : Bool)
            → ts ≡ record { left = word; right = number' } ∷ [] → nat_eq v number' ≡ holds'
            → holds l (words_at a) env ts ≡ Some holds'
        tested ts number' holds' e is =
            ap (λ x. holds l (words_at a) env x) e ∙ ap
            (λ r. and_then r
            (λ z. elim (nat_eq z number') [ true ↦ Some true | false ↦ Some false ])) is_number ∙
            by_same (nat_eq v number') is
          where
            by_same : (z : Bool) → z ≡ holds' → elim z [ true ↦ Some true | false ↦ Some false ] ≡
                Some holds'
            by_same true e = ap Some e
            by_same false e = ap Some e

        arms_done : (as' : Arms) (all : List SearchedArm) (k k' : ℕ) (rest : List Item)
            → EmitsEach l a cells stack (words_at a f) (slots_of (place_of a) (variables q)) framed
            word to way as' all k k' rest → EachSimulates as'
            → Lands (choose as0) env Must w v all t p d
            → Stands items (suc t) rest → Ready l a cells stack lay items begins way
            (suc t + length rest) → first_label l ≤ k → AllOf (StartsFrom (first_label l)) all
            → ArmsFine l a f pf.slots (slots_of (place_of a) (variables q)) scope as' later
            → Narrows
            (ArmsNeed l a cells stack lay items begins s calls_n n f q pf framed j m outer d0 u
            as' env Must)
            → Does' lay items begins l.width cells
            (Given l a cells stack lay items framed f j pf.slots d0 m outer to way Must)
            (at (bases stack) lay items p d) (m ∷ outer) w
            (arms l (words_at a) (room l a cells stack lay items begins) calls_n env top under as'
            w)
        unfolding arms
        arms_done (otherwise c) all k k' rest h done lands stands ready le from fine narrow =
            let come : Comes (choose as0) env Must w v t p d
            = subst (λ ss. Lands (choose as0) env Must w v ss t p d) h.0 lands in
            let pass = passes_label l a cells stack lay items begins s miss t come.0 (m ∷ outer) w
            (let le' = above in omega (arith, le')) label_here in
            does_after lay items begins l.width cells
            (Given l a cells stack lay items framed f j pf.slots d0 m outer to way Must)
            (code l (words_at a) (room l a cells stack lay items begins) calls_n env top under c
            w) (ran_on lay items begins come.1.0 pass)
            (done k k' rest (suc t) come.0 (record {
              emits = h.1;
              stands = stands;
              ready = ready;
              above = le;
              fine = fine;
              scoped = b.scoped;
              owned = b.owned;
              must = b.must;
              clear = b.clear;
              to_own = b.to_own;
              to_differ = b.to_differ;
              in_registers = b.in_registers;
              stood = stood_weaken l a cells stack lay framed f j pf.slots d0 (lay.address m)
                  (Needed (choose as0) env Must) (Needed c env Must) come.0 w narrow come.1.1;
              base = b.base;
              left = b.left;
              top_is = b.top_is;
              under_is = b.under_is;
            }))
        arms_done (arm ts c as') all k k' rest h done lands stands ready le from fine narrow =
            elim (subst (λ ss. Lands (choose as0) env Must w v ss t p d) h.2 lands) [
              | inl here ↦
                  let come = here.1.1.1 in
                  by_holds (holds l (words_at a) env ts) true (tested ts h.0.number true h.3 here.0)
                  (does_after lay items begins l.width cells
                  (Given l a cells stack lay items framed f j pf.slots d0 m outer to way Must)
                  (code l (words_at a) (room l a cells stack lay items begins) calls_n env top
                  under c w) come.1.0
                  (does_map lay items begins l.width cells
                  (Given l a cells stack lay items framed f j pf.slots d0 m outer to
                  (continued_by_jump way) Must)
                  (Given l a cells stack lay items framed f j pf.slots d0 m outer to way Must)
                  (at (bases stack) lay items here.1.0 come.0) (m ∷ outer) w
                  (code l (words_at a) (room l a cells stack lay items begins) calls_n env top under
                  c
                  w) (further_given l a cells stack lay items begins s calls_n n f q pf framed j m
                  outer d0 u to way Must)
                  (done.0 h.0.first h.0.next h.0.block here.1.0 come.0 (record {
                    emits = h.4;
                    stands = here.1.1.0;
                    ready = further_ready l a cells stack lay items begins s calls_n n f q pf framed
                        j
                        m outer d0 u way (p + length block) (here.1.0 + length h.0.block) b.ready;
                    above = (subst (AllOf (StartsFrom (first_label l))) h.2 from).0;
                    fine = fine.1.0;
                    scoped = b.scoped;
                    owned = b.owned;
                    must = b.must;
                    clear = b.clear;
                    to_own = b.to_own;
                    to_differ = b.to_differ;
                    in_registers = further_registers l a cells stack lay items begins s calls_n n f
                        q
                        pf framed j m outer d0 u way to b.in_registers;
                    stood = stood_weaken l a cells stack lay framed f j pf.slots d0 (lay.address m)
                        (Needed (choose as0) env Must) (Needed c env Must) come.0 w weaken_code
                        come.1.1;
                    base = b.base;
                    left = b.left;
                    top_is = b.top_is;
                    under_is = λ y z. let is = b.under_is y z in (is.0, ap continued_by_jump is.1);
                  }))))
              | inr other ↦
                  by_holds (holds l (words_at a) env ts) false
                  (tested ts h.0.number false h.3 other.0)
                  (arms_done as' h.1 k k' rest h.5 done.1 other.1 stands ready le
                  (subst (AllOf (StartsFrom (first_label l))) h.2 from).1 fine.1.1 weaken_arms)
            ]
          where
            weaken_code : (y : ℕ) (z : Word) → Needed c env Must y z
                → Needed (choose as0) env Must y z
            weaken_code y z (inl x) = narrow y z
                (inl (
                  among_right y (used_by_tests ts) (uses c ++ arms_uses as')
                      (among_left y (uses c) (arms_uses as') x.0),
                  x.1,
                ))
            weaken_code y z (inr x) = narrow y z (inr x)

            weaken_arms : (y : ℕ) (z : Word) → ArmsNeed l a cells stack lay items begins s calls_n n
                f
                q pf framed j m outer d0 u as' env Must y z → Needed (choose as0) env Must y z
            weaken_arms y z (inl x) = narrow y z
                (inl (
                  among_right y (used_by_tests ts) (uses c ++ arms_uses as')
                      (among_right y (uses c) (arms_uses as') x.0),
                  x.1,
                ))
            weaken_arms y z (inr x) = narrow y z (inr x)

            by_holds : (r : Option Bool) (holds' : Bool) → r ≡ Some holds'
                → Does' lay items begins l.width cells
                (Given l a cells stack lay items framed f j pf.slots d0 m outer to way Must)
                (at (bases stack) lay items p d) (m ∷ outer) w
                (elim holds' [
                  | true ↦ code l (words_at a) (room l a cells stack lay items begins) calls_n env
                      top under c w
                  | false ↦ arms l (words_at a)
                      (room l a cells stack lay items begins) calls_n env top under as' w
                ])
                → Does' lay items begins l.width cells
                (Given l a cells stack lay items framed f j pf.slots d0 m outer to way Must)
                (at (bases stack) lay items p d) (m ∷ outer) w
                (need r w
                (λ yes. elim yes [
                  | true ↦ code l (words_at a) (room l a cells stack lay items begins) calls_n env
                      top under c w
                  | false ↦ arms l (words_at a)
                      (room l a cells stack lay items begins) calls_n env top under as' w
                ]))
            by_holds r holds' e x =
                subst (λ z. Does' lay items begins l.width cells
                (Given l a cells stack lay items framed f j pf.slots d0 m outer to way Must)
                (at (bases stack) lay items p d) (m ∷ outer) w
                (need z w
                (λ yes. elim yes [
                  | true ↦ code l (words_at a) (room l a cells stack lay items begins) calls_n env
                      top under c w
                  | false ↦ arms l (words_at a)
                      (room l a cells stack lay items begins) calls_n env top under as' w
                ]))) (sym e) x

    -- a choice by halves
    pub searched : (as' : Arms) (k k' : ℕ) (block : List Item) (p : ℕ) (d : Data)
        → Block l a cells stack lay items begins f q framed pf.slots j m outer d0 u n (choose as')
        to way Must k k' block p scope later env top under d w
        → ByHalves l a
        (λ word all i rest. EmitsEach l a cells stack (words_at a f)
        (slots_of (place_of a) (variables q)) framed word to way as' all i k' rest) k block
        → EachSimulates as'
        → ArmsSimulates l a cells stack lay items begins s calls_n n f q pf framed j m outer d0 u
        as' to way Must p env top under d w
    unfolding arms
    searched (otherwise c) k k' block p d b h done = absurd
        (some_sought k (source l a h.0) 0 None h.1 (suc k) h.2 h.3 h.5 h.6.0)
    searched (arm ts c as') k k' block p d b h done
        = by_number (number_in l (words_at a) env h.0) refl
      where
        by_number : (r : Option ℕ) → number_in l (words_at a) env h.0 ≡ r
            → ArmsSimulates l a cells stack lay items begins s calls_n n f q pf framed j m outer d0
            u (arm ts c as') to way Must p env top under d w
        by_number None e =
            let none : holds l (words_at a) env ts ≡ None
            = ap (λ x. holds l (words_at a) env x) h.6.3 ∙ ap
            (λ r. and_then r
            (λ z. elim (nat_eq z h.6.0.number) [ true ↦ Some true | false ↦ Some false ])) e in
            subst (λ z. Does' lay items begins l.width cells
            (Given l a cells stack lay items framed f j pf.slots d0 m outer to way Must)
            (at (bases stack) lay items p d) (m ∷ outer) w
            (need z w
            (λ yes. elim yes [
              | true ↦ code l (words_at a) (room l a cells stack lay items begins) calls_n env top
                  under c w
              | false ↦ arms l (words_at a) (room l a cells stack lay items begins)
                  calls_n env top under as' w
            ]))) (sym none) tt
        by_number (Some v) e =
            let word = h.0 in
            let parts = cut items p (h.3 ++ Label k ∷ []) h.4 block h.7 b.stands in
            let t = p + length h.3 in
            let label_here = (back items p h.3 (Label k ∷ []) parts.first).0 in
            let end : suc t ≡ p + length (h.3 ++ Label k ∷ []) = let y
            = length-append h.3 (Label k ∷ []) in omega (arith, y) in
            let le = b.above in
            let ups = each_up l a cells stack (words_at a f) (slots_of (place_of a) (variables q))
            framed word (arm ts c as') to way h.1 h.2 k' h.4 h.6 in
            let up = halves_up k (source l a word) 0 None h.1 (suc k) h.2 h.3 h.5 ups.0 in
            let tests = subst TestsSmall h.6.3 b.fine.0 in
            let lands = search (choose (arm ts c as')) env Must w v scope later word k t
            (s.once t k label_here) b.scoped b.owned b.must
            (λ y z. among_left y (used_by_tests ts) (uses c ++ arms_uses as')
            (subst (λ x. is_among y (used_by_tests x) ≡ true) (sym h.6.3)
            (among_left y (used_by word) [] z))) tests.0.0 e
            0 None h.1 (suc k) h.2 h.3 h.5 p d (front items p h.3 (Label k ∷ []) parts.first)
            (omega arith) tt (omega (arith, le)) ups.0
            (each_word word (arm ts c as') h.1 h.2 k' h.4 h.6 b.fine) b.stood in
            arms_done (arm ts c as') k k' block p d b word v k t e label_here b.above (arm ts c as')
            h.1 h.2 k' h.4 h.6 done lands
            (subst (λ x. Stands items x h.4) (sym end) parts.more)
            (ready_at l a cells stack lay items begins way (p + length block)
            (suc t + length h.4) (let all = parts.end in omega (arith, all, end)) b.ready)
            (omega (arith, le, up))
            (all_map (StartsFrom (suc k)) (StartsFrom (first_label l)) h.1
            (λ x z. let from : suc k ≤ x.first = z in omega (arith, from, le))
            (halves_from k (source l a word) 0 None h.1 (suc k) h.2 h.3 h.5 ups.0))
            b.fine (λ y z x. x)
