-- Choices that a comparison decides: one branch on its two words, while a run computes its result
-- and tests it.
use Rattle.std.proofs.Common.{◌≡◌, ℕ, suc, ◌+◌, ◌<◌, ◌≤◌, List, [], ◌∷◌, ◌++◌, length, cond, Bool, true, false, not, Some, None, inl, inr, refl, sym, ap, ◌∙◌, subst, arith, length-append}
use Rattle.std.specs.Prelude.{Option, nat_eq, nat_lt, ◌||◌, if◌then◌else◌, slice_get}
use Rattle.std.proofs.lemmas.Bool.Decides.{nat_tests}
use Rattle.seq.proofs.Truth.{two_ways}
use Rattle.seq.specs.Lists.{is_among}
use Rattle.seq.proofs.Counted.{among_left, among_right, not_among_left, not_among_right}
use Rattle.parallel_move.specs.declared.Spot.{Spot}
use Rattle.low_code.specs.declared.program.Operand.{Operand}
use Rattle.low_code.specs.declared.program.Operand.TheVariants.{Var, Num, Cell}
use Rattle.low_code.specs.declared.program.PrimOp.{PrimOp}
use Rattle.low_code.specs.declared.program.LowTest.{LowTest}
use Rattle.low_code.specs.Tree.{Code, prim, choose, Arms, arm, Procedure, Program}
use Rattle.low_code.specs.Formed.{uses, arms_uses, used_by, used_by_tests, variables}
use Rattle.low_code.specs.Arithmetic.{arithmetic}
use Rattle.low_code.specs.Values.{Word, number, Env, World, Answer, with_var, need, and_then, number_of}
use Rattle.low_code.specs.Run.{Calls, code, arms, number_in, holds}
use Rattle.register_alloc.specs.Fits.{slots_of}
use Rattle.register_alloc.specs.Assignment.{Assignment, place_of, words_at}
use Rattle.rv32_items.specs.declared.Cond.{Cond}
use Rattle.rv32_items.specs.declared.Item.{Item}
use Rattle.rv32_items.specs.declared.Item.TheVariants.{Label}
use Rattle.rv32_items.specs.Course.{Layout, kind_of}
use Rattle.rv32_machine.specs.Arithmetic.{is_taken}
use Rattle.rv32_select.specs.declared.source.Continuation.{Continuation}
use Rattle.rv32_select.specs.declared.source.Continuation.TheVariants.{Returns}
use Rattle.rv32_select.specs.Emit.{branch_items}
use Rattle.rv32_select.specs.Decides.{compares, is_var, tests_result, decides, tested, condition, other_condition}
use Rattle.rv32_select.specs.IsSelected.{source, continued_by_jump, first_label, Passed, Emits, EmitsArms}
use Rattle.rv32_select.proofs.Arithmetic.{condition_tells, other_tells}
use Rattle.rv32_select.proofs.Courses.{Stands, front, back}
use Rattle.rv32_select.proofs.Straight.{Data, at}
use Rattle.rv32_select.proofs.Relation.{bases, Stood, Ran, ran_on, Does', does_after, does_map, Given, Needed}
use Rattle.rv32_select.proofs.PlaceFacts.{IsOwn, ProcedureFine, Setting}
use Rattle.rv32_select.proofs.BlockFacts.{room, Ready, InRegisters, Entry, Block, Simulates, still_scoped}
use Rattle.rv32_select.proofs.OneBound.{Cut, cut, ready_at}
use Rattle.rv32_select.proofs.Stops.{passes_label}
use Rattle.rv32_select.proofs.EmittedLabels.{emits_up, arms_up}
use Rattle.rv32_select.proofs.JoinStatement.{stood_weaken}
use Rattle.rv32_select.proofs.ChoiceStatement.{ArmsNeed, ArmsBlock, ArmsSimulates, OneBranch, one_branch}
use Rattle.rv32_select.proofs.FurtherArms.{further_given, further_ready, further_registers}

-- ---- what it is that a comparison decides a choice

is_that : (x : ℕ) (o : Operand) → is_var x o ≡ true → o ≡ Var x
is_that x (Var y) e = let same : y ≡ x = grind (arith, nat_tests) in ap (λ z. Var z) same
is_that x (Num k) e = absurd (cc)
is_that x (Cell i) e = absurd (cc)

both_true : (p q : Bool) → (if p then q else false) ≡ true → (p ≡ true) × (q ≡ true)
both_true true q h = (refl, h)
both_true false q h = absurd (cc)

not_true : (p : Bool) → not p ≡ true → p ≡ false
not_true true h = absurd (cc)
not_true false h = refl

pub record Decided (g : PrimOp) (x : ℕ) (ts : List LowTest) (c : Code) (as' : Arms) : Type 0 where
  pub comparison : compares g ≡ true
  pub result : tests_result x ts ≡ true
  pub few : tested ts < 2
  pub not_first : is_among x (uses c) ≡ false
  pub not_others : is_among x (arms_uses as') ≡ false

tested_few : (x : ℕ) (ts : List LowTest) → tests_result x ts ≡ true → tested ts < 2
tested_few x [] e = absurd (cc)
tested_few x (t ∷ []) e = let lt = (both_true (is_var x t.left) (nat_lt t.right 2) e).1
    in grind (arith, nat_tests)
tested_few x (t ∷ (r ∷ ts)) e = absurd (cc)

pub decided : (g : PrimOp) (x : ℕ) (ts : List LowTest) (c : Code) (as' : Arms)
    → decides g x (choose (arm ts c as')) ≡ true → Decided g x ts c as'
decided g x ts c as' e =
    let one = both_true (compares g) _ e in
    let two = both_true (tests_result x ts) (not (is_among x (uses c ++ arms_uses as'))) one.1 in
    let none = not_true (is_among x (uses c ++ arms_uses as')) two.1 in
    record {
      comparison = one.0;
      result = two.0;
      few = tested_few x ts two.0;
      not_first = not_among_left x (uses c) (arms_uses as') none;
      not_others = not_among_right x (uses c) (arms_uses as') none;
    }

-- a variable that is used elsewhere has the word that it had
pub still_there : (x y : ℕ) (r v : Word) (env : Env) (used : List ℕ) → is_among x used ≡ false
    → is_among y used ≡ true → with_var x r env y ≡ Some v → env y ≡ Some v
still_there x y r v env used none h e = elim (two_ways (nat_eq y x)) [
  | inl t ↦
      let same : y ≡ x = grind (arith, nat_tests) in
      let no : false ≡ true = sym none ∙ subst (λ z. is_among z used ≡ true) same h in
      absurd (cc)
  | inr t ↦ sym (ap (λ b. cond b (Some r) (env y)) t) ∙ e
]

module _ (l : Program) (a : Assignment) where
  -- the one test of a result
  pub result_held : (x r : ℕ) (ts : List LowTest) (env : Env) → tests_result x ts ≡ true
      → env x ≡ Some (number r) → holds l (words_at a) env ts ≡ Some (nat_eq r (tested ts))
  result_held x r [] env e is = absurd (cc)
  result_held x r (t ∷ []) env e is =
      let that = is_that x t.left (both_true (is_var x t.left) (nat_lt t.right 2) e).0 in
      let known : number_in l (words_at a) env t.left ≡ Some r
      = ap (number_in l (words_at a) env) that ∙ ap (λ o. and_then o number_of) is in
      ap (λ o. and_then o (λ k. elim (nat_eq k t.right) [ true ↦ Some true | false ↦ Some false ]))
      known ∙ by_test (nat_eq r t.right)
    where
      by_test : (b : Bool) → elim b [ true ↦ Some true | false ↦ Some false ] ≡ Some b
      by_test true = refl
      by_test false = refl
  result_held x r (t ∷ (t' ∷ ts)) env e is = absurd (cc)

module _ (l : Program) (a : Assignment) (cells stack : ℕ) (lay : Layout) (items : List Item)
    (begins : List ℕ) (s : Setting l a cells stack lay items begins) (calls_n : Calls) (n : ℕ)
    (f : ℕ) (q : Procedure) (pf : ProcedureFine l a f q) (framed : Bool) (j m : ℕ) (outer : List ℕ)
    (d0 : Data) (u : ℕ) where
  -- a part of a block where a variable is bound to which no place is given
  bound_entry : {Emitted Fitting Emitted' Fitting' : Type 0} {Needs Needs' : ℕ → Word → Type 0}
      (to : List Spot) (way way' : Continuation) (Must : ℕ → Word → Type 0) (k k' : ℕ)
      (block piece : List Item) (p p' : ℕ) (scope later : List ℕ) (env : Env) (top : ℕ)
      (under : Option ℕ) (d d' : Data) (w : World) (x : ℕ) (v : Word)
      → Entry l a cells stack lay items begins f q framed pf.slots j m outer d0 u n framed Emitted
      Fitting Needs to way Must k block p scope later env top under d w
      → Emitted' → Stands items p' piece → Ready l a cells stack lay items begins way'
      (p' + length piece) → first_label l ≤ k' → Fitting'
      → IsOwn l a f (slots_of (place_of a) (variables q)) (place_of a x)
      → InRegisters l a cells stack lay items begins f q framed pf.slots j m outer d0 u n way' to
      → Stood l a cells stack lay framed f j pf.slots d0 (lay.address m) Needs' d' w
      → ((z : ℕ) → under ≡ Some z → (z ≡ u) × (way' ≡ Returns))
      → Entry l a cells stack lay items begins f q framed pf.slots j m outer d0 u n framed Emitted'
      Fitting' Needs' to way' Must k' piece p' (x ∷ scope) later (with_var x v env) top under d'
      w
  bound_entry to way way' Must k k' block piece p p' scope later env top under d d' w x v b emits
      stands ready above fine own registers stood under_is = record {
        emits = emits;
        stands = stands;
        ready = ready;
        above = above;
        fine = fine;
        scoped = still_scoped (x ∷ []) (v ∷ []) scope env (with_var x v env) refl b.scoped;
        owned = λ y in_scope. by_test y (nat_eq y x) refl in_scope own b.owned;
        must = λ y z h. let both = b.must y z h in
            (or_right (nat_eq y x) (is_among y scope) both.0, both.1);
        clear = b.clear;
        to_own = b.to_own;
        to_differ = b.to_differ;
        in_registers = registers;
        stood = stood;
        base = b.base;
        left = b.left;
        top_is = b.top_is;
        under_is = under_is;
      }
    where
      or_right : (p r : Bool) → r ≡ true → p || r ≡ true
      or_right true r h = refl
      or_right false r h = h

      by_test : (y : ℕ) (t : Bool) → nat_eq y x ≡ t → t || is_among y scope ≡ true
          → IsOwn l a f (slots_of (place_of a) (variables q)) (place_of a x)
          → ((y : ℕ) → is_among y scope ≡ true → IsOwn l a f (slots_of (place_of a) (variables q))
          (place_of a y)) → IsOwn l a f (slots_of (place_of a) (variables q)) (place_of a y)
      by_test y true t h own owned = let same : x ≡ y = grind (arith, nat_tests)
          in subst (λ z. IsOwn l a f (slots_of (place_of a) (variables q)) (place_of a z)) same own
      by_test y false t h own owned = owned y h

  module _ (g : PrimOp) (x : ℕ) (o o' : Operand) (ts : List LowTest) (c : Code) (as' : Arms)
      (to : List Spot) (way : Continuation) (Must : ℕ → Word → Type 0) (k k' : ℕ)
      (block : List Item) (p : ℕ) (scope later : List ℕ) (env : Env) (top : ℕ) (under : Option ℕ)
      (d : Data) (w : World)
      (b : Block l a cells stack lay items begins f q framed pf.slots j m outer d0 u n
      (prim g x o o' (choose (arm ts c as'))) to way Must k k' block p scope later env top under
      d w) (is : Decided g x ts c as') where
    -- what is needed behind the branch was needed before it
    code_needs : (r : Word) (y : ℕ) (v : Word) → Needed c (with_var x r env) Must y v
        → Needed (prim g x o o' (choose (arm ts c as'))) env Must y v
    code_needs r y v (inl z) =
        inl (
          among_right y (used_by o) (used_by o' ++ (used_by_tests ts ++ (uses c ++ arms_uses as')))
              (among_right y (used_by o') (used_by_tests ts ++ (uses c ++ arms_uses as'))
              (among_right y (used_by_tests ts) (uses c ++ arms_uses as')
              (among_left y (uses c) (arms_uses as') z.0))),
          still_there x y r v env (uses c) is.not_first z.0 z.1,
        )
    code_needs r y v (inr z) = inr z

    arms_need : (r : Word) (y : ℕ) (v : Word) → ArmsNeed l a cells stack lay items begins s calls_n
        n f q pf framed j m outer d0 u as' (with_var x r env) Must y v
        → Needed (prim g x o o' (choose (arm ts c as'))) env Must y v
    arms_need r y v (inl z) =
        inl (
          among_right y (used_by o) (used_by o' ++ (used_by_tests ts ++ (uses c ++ arms_uses as')))
              (among_right y (used_by o') (used_by_tests ts ++ (uses c ++ arms_uses as'))
              (among_right y (used_by_tests ts) (uses c ++ arms_uses as')
              (among_right y (uses c) (arms_uses as') z.0))),
          still_there x y r v env (arms_uses as') is.not_others z.0 z.1,
        )
    arms_need r y v (inr z) = inr z

    -- the choice, where the result is known
    choice_runs : (r : ℕ) → code l (words_at a) (room l a cells stack lay items begins) calls_n
        (with_var x (number r) env) top under (choose (arm ts c as')) w
        ≡ need (holds l (words_at a) (with_var x (number r) env) ts) w
        (λ yes. elim yes [
          | true ↦ code l (words_at a) (room l a cells stack lay items begins) calls_n
              (with_var x (number r) env) top under c w
          | false ↦ arms l (words_at a)
              (room l a cells stack lay items begins) calls_n (with_var x (number r) env) top under
              as' w
        ])
    unfolding code arms
    choice_runs r = refl

    result_is : (r : ℕ) → holds l (words_at a) (with_var x (number r) env) ts ≡ Some
        (nat_eq r (tested ts))
    result_is r =
        let t : nat_eq x x ≡ true = grind (arith, nat_tests) in
        result_held l a x r ts (with_var x (number r) env) is.result
        (ap (λ z. cond z (Some (number r)) (env x)) t)

    -- the items: a branch, a block that it passes, and what stands behind that
    module _ (cond : Cond) (inner rest : List Item)
        (e : block ≡ (branch_items cond k (source l a o) (source l a o') ++ (inner ++ Label k ∷ []))
        ++ rest) where
      parts : Cut items p
          (branch_items cond k (source l a o) (source l a o') ++ (inner ++ Label k ∷ [])) rest block
      parts = cut items p
          (branch_items cond k (source l a o) (source l a o') ++ (inner ++ Label k ∷ [])) rest block
          e b.stands

      behind_branch : Stands items (p + length (branch_items cond k (source l a o) (source l a o')))
          (inner ++ Label k ∷ [])
      behind_branch = back items p (branch_items cond k (source l a o) (source l a o'))
          (inner ++ Label k ∷ []) parts.first

      label_here : slice_get items
          (p + length (branch_items cond k (source l a o) (source l a o')) + length inner) ≡ Some
          (Label k)
      label_here =
          (back items (p + length (branch_items cond k (source l a o) (source l a o'))) inner
          (Label k ∷ []) behind_branch).0

      branched : (v v' : ℕ) → number_in l (words_at a) env o ≡ Some v
          → number_in l (words_at a) env o' ≡ Some v'
          → OneBranch l a cells stack lay items begins s calls_n n f q pf framed j m outer d0 u cond
          (prim g x o o' (choose (arm ts c as'))) env Must k p
          (p + length (branch_items cond k (source l a o) (source l a o')) + length inner) o o'
          d w v v'
      branched v v' i i' =
          one_branch l a cells stack lay items begins s calls_n n f q pf framed j m outer d0 u cond
          (prim g x o o' (choose (arm ts c as'))) scope later env Must k p
          (p + length (branch_items cond k (source l a o) (source l a o')) + length inner) o o'
          d w v v'
          (front items p (branch_items cond k (source l a o) (source l a o'))
          (inner ++ Label k ∷ []) parts.first)
          (s.once (p + length (branch_items cond k (source l a o) (source l a o')) + length inner) k
          label_here) b.stood b.scoped b.owned b.must
          (λ y z. among_left y (used_by o)
          (used_by o' ++ (used_by_tests ts ++ (uses c ++ arms_uses as'))) z)
          (λ y z. among_right y (used_by o)
          (used_by o' ++ (used_by_tests ts ++ (uses c ++ arms_uses as')))
          (among_left y (used_by o') (used_by_tests ts ++ (uses c ++ arms_uses as')) z))
          b.fine.0 b.fine.1.0 i i'

      -- into the block, and past it
      goes_in : (d' : Data) (r : Answer) → Ran lay items begins (at (bases stack) lay items p d)
          (m ∷ outer) w
          (at (bases stack) lay items
          (p + length (branch_items cond k (source l a o) (source l a o'))) d') (m ∷ outer) w
          → Does' lay items begins l.width cells
          (Given l a cells stack lay items framed f j pf.slots d0 m outer to
          (continued_by_jump way) Must)
          (at (bases stack) lay items
          (p + length (branch_items cond k (source l a o) (source l a o'))) d') (m ∷ outer) w r
          → Does' lay items begins l.width cells
          (Given l a cells stack lay items framed f j pf.slots d0 m outer to way Must)
          (at (bases stack) lay items p d) (m ∷ outer) w r
      goes_in d' r ran done =
          does_after lay items begins l.width cells
          (Given l a cells stack lay items framed f j pf.slots d0 m outer to way Must) r ran
          (does_map lay items begins l.width cells
          (Given l a cells stack lay items framed f j pf.slots d0 m outer to
          (continued_by_jump way) Must)
          (Given l a cells stack lay items framed f j pf.slots d0 m outer to way Must)
          (at (bases stack) lay items
          (p + length (branch_items cond k (source l a o) (source l a o'))) d') (m ∷ outer) w r
          (further_given l a cells stack lay items begins s calls_n n f q pf framed j m outer d0 u
          to way Must) done)

      goes_past : (d' : Data) (r : Answer) → Ran lay items begins (at (bases stack) lay items p d)
          (m ∷ outer) w
          (at (bases stack) lay items
          (p + length (branch_items cond k (source l a o) (source l a o')) + length inner) d')
          (m ∷ outer) w
          → Does' lay items begins l.width cells
          (Given l a cells stack lay items framed f j pf.slots d0 m outer to way Must)
          (at (bases stack) lay items
          (p + length
          (branch_items cond k (source l a o) (source l a o') ++ (inner ++ Label k ∷ []))) d')
          (m ∷ outer) w r
          → Does' lay items begins l.width cells
          (Given l a cells stack lay items framed f j pf.slots d0 m outer to way Must)
          (at (bases stack) lay items p d) (m ∷ outer) w r
      goes_past d' r ran done =
          let test = branch_items cond k (source l a o) (source l a o') in
          let place = p + length test + length inner in
          let pass = passes_label l a cells stack lay items begins s k place d' (m ∷ outer) w
          (let le = b.above in omega arith) label_here in
          let behind : suc place ≡ p + length
          (branch_items cond k (source l a o) (source l a o') ++ (inner ++ Label k ∷ []))
          = let y = length-append test (inner ++ Label k ∷ []) in let z
          = length-append inner (Label k ∷ []) in omega arith in
          does_after lay items begins l.width cells
          (Given l a cells stack lay items framed f j pf.slots d0 m outer to way Must) r
          (ran_on lay items begins ran
          (subst (λ y. Ran lay items begins (at (bases stack) lay items place d') (m ∷ outer) w
          (at (bases stack) lay items y d') (m ∷ outer) w) behind pass)) done

    -- whatever the two words are
    by_words :
        ((v v' : ℕ) → number_in l (words_at a) env o ≡ Some v
        → number_in l (words_at a) env o' ≡ Some v' → (t : Bool)
        → nat_eq (arithmetic g v v') (tested ts) ≡ t
        → Does' lay items begins l.width cells
        (Given l a cells stack lay items framed f j pf.slots d0 m outer to way Must)
        (at (bases stack) lay items p d) (m ∷ outer) w
        (elim t [
          | true ↦ code l (words_at a) (room l a cells stack lay items begins) calls_n
              (with_var x (number (arithmetic g v v')) env) top under c w
          | false ↦ arms l
              (words_at a) (room l a cells stack lay items begins) calls_n
              (with_var x (number (arithmetic g v v')) env) top under as' w
        ]))
        → Simulates l a cells stack lay items begins f q framed pf.slots j m outer d0 u n calls_n
        (prim g x o o' (choose (arm ts c as'))) to way Must p env top under d w
    unfolding code
    by_words each = go (number_in l (words_at a) env o) refl (number_in l (words_at a) env o') refl
      where
        go : (r : Option ℕ) → number_in l (words_at a) env o ≡ r → (r' : Option ℕ)
            → number_in l (words_at a) env o' ≡ r'
            → Does' lay items begins l.width cells
            (Given l a cells stack lay items framed f j pf.slots d0 m outer to way Must)
            (at (bases stack) lay items p d) (m ∷ outer) w
            (need r w
            (λ v. need r' w
            (λ v'. code l (words_at a) (room l a cells stack lay items begins) calls_n
            (with_var x (number (arithmetic g v v')) env) top under (choose (arm ts c as')) w)))
        go None i r' i' = tt
        go (Some v) i None i' = tt
        go (Some v) i (Some v') i' =
            let r = arithmetic g v v' in
            let runs = choice_runs r ∙ ap
            (λ y. need y w
            (λ yes. elim yes [
              | true ↦ code l (words_at a) (room l a cells stack lay items begins) calls_n
                  (with_var x (number (arithmetic g v v')) env) top under c w
              | false ↦ arms l
                  (words_at a) (room l a cells stack lay items begins) calls_n
                  (with_var x (number (arithmetic g v v')) env) top under as' w
            ])) (result_is r) in
            subst (λ y. Does' lay items begins l.width cells
            (Given l a cells stack lay items framed f j pf.slots d0 m outer to way Must)
            (at (bases stack) lay items p d) (m ∷ outer) w y) (sym runs)
            (each v v' i i' (nat_eq (arithmetic g v v') (tested ts)) refl)

    own : IsOwn l a f (slots_of (place_of a) (variables q)) (place_of a x)
    own = b.fine.1.1.0.1.0

    -- the first arm first
    pub decided_first :
        (h : Passed (branch_items (other_condition g (tested ts)) k (source l a o) (source l a o'))
        (Emits l a cells stack (words_at a f) (slots_of (place_of a) (variables q)) framed to
        (continued_by_jump way) c)
        (EmitsArms l a cells stack (words_at a f) (slots_of (place_of a) (variables q)) framed to
        way as') k k' block)
        → ((v : Word) (d' : Data) → Block l a cells stack lay items begins f q framed pf.slots j m
        outer d0 u n c to (continued_by_jump way) Must (suc k) h.0 h.1
        (p + length
        (branch_items (other_condition g (tested ts)) k (source l a o) (source l a o')))
        (x ∷ scope) later (with_var x v env) top under d' w
        → Simulates l a cells stack lay items begins f q framed pf.slots j m outer d0 u n calls_n c
        to (continued_by_jump way) Must
        (p + length
        (branch_items (other_condition g (tested ts)) k (source l a o) (source l a o')))
        (with_var x v env) top under d' w)
        → ((v : Word) (d' : Data) → ArmsBlock l a cells stack lay items begins s calls_n n f q pf
        framed j m outer d0 u as' to way Must h.0 k' h.3.0
        (p + length
        (branch_items (other_condition g (tested ts)) k (source l a o) (source l a o')
        ++ (h.1 ++ Label k ∷ []))) (x ∷ scope) later (with_var x v env) top under d' w
        → ArmsSimulates l a cells stack lay items begins s calls_n n f q pf framed j m outer d0 u
        as' to way Must
        (p + length
        (branch_items (other_condition g (tested ts)) k (source l a o) (source l a o')
        ++ (h.1 ++ Label k ∷ []))) (with_var x v env) top under d' w)
        → Simulates l a cells stack lay items begins f q framed pf.slots j m outer d0 u n calls_n
        (prim g x o o' (choose (arm ts c as'))) to way Must p env top under d w
    decided_first h block_done more = by_words each
      where
        P : Cut items p
            (branch_items (other_condition g (tested ts)) k (source l a o) (source l a o')
            ++ (h.1 ++ Label k ∷ [])) h.3.0 block
        P = parts (other_condition g (tested ts)) h.1 h.3.0 h.3.1

        T : (v v' : ℕ) → number_in l (words_at a) env o ≡ Some v
            → number_in l (words_at a) env o' ≡ Some v'
            → OneBranch l a cells stack lay items begins s calls_n n f q pf framed j m outer d0 u
            (other_condition g (tested ts)) (prim g x o o' (choose (arm ts c as'))) env Must k p
            (p + length
            (branch_items (other_condition g (tested ts)) k (source l a o) (source l a o')) +
            length h.1) o o' d w v v'
        T = branched (other_condition g (tested ts)) h.1 h.3.0 h.3.1

        taken : (v v' : ℕ) (i : number_in l (words_at a) env o ≡ Some v)
            (i' : number_in l (words_at a) env o' ≡ Some v')
            → is_taken (kind_of (other_condition g (tested ts))) v v' ≡ not
            (nat_eq (arithmetic g v v') (tested ts))
        taken v v' i i' = let t = T v v' i i' in other_tells g v v' (tested ts) is.comparison
            t.left_small t.right_small is.few

        each : (v v' : ℕ) → number_in l (words_at a) env o ≡ Some v
            → number_in l (words_at a) env o' ≡ Some v' → (t : Bool)
            → nat_eq (arithmetic g v v') (tested ts) ≡ t
            → Does' lay items begins l.width cells
            (Given l a cells stack lay items framed f j pf.slots d0 m outer to way Must)
            (at (bases stack) lay items p d) (m ∷ outer) w
            (elim t [
              | true ↦ code l (words_at a) (room l a cells stack lay items begins) calls_n
                  (with_var x (number (arithmetic g v v')) env) top under c w
              | false ↦ arms l
                  (words_at a) (room l a cells stack lay items begins) calls_n
                  (with_var x (number (arithmetic g v v')) env) top under as' w
            ])
        each v v' i i' true e =
            let t = T v v' i i' in
            let r = number (arithmetic g v v') in
            let place = p + length
            (branch_items (other_condition g (tested ts)) k (source l a o) (source l a o')) in
            goes_in (other_condition g (tested ts)) h.1 h.3.0 h.3.1 t.to'
            (code l (words_at a) (room l a cells stack lay items begins) calls_n
            (with_var x (number (arithmetic g v v')) env) top under c w)
            (t.same (taken v v' i i' ∙ ap not e))
            (block_done r t.to'
            (bound_entry to way (continued_by_jump way) Must k (suc k) block h.1 p place scope
            later env top under d t.to' w x r b h.2
            (front items place h.1 (Label k ∷ [])
            (behind_branch (other_condition g (tested ts)) h.1 h.3.0 h.3.1))
            (further_ready l a cells stack lay items begins s calls_n n f q pf framed j m outer d0 u
            way (p + length block) (place + length h.1) b.ready)
            (let le = b.above in omega arith) b.fine.1.1.1.1.0 own
            (further_registers l a cells stack lay items begins s calls_n n f q pf framed j m outer
            d0 u way to b.in_registers)
            (stood_weaken l a cells stack lay framed f j pf.slots d0 (lay.address m)
            (Needed (prim g x o o' (choose (arm ts c as'))) env Must)
            (Needed c (with_var x r env) Must) t.to' w (code_needs r) t.stood)
            (λ z y. let is = b.under_is z y in (is.0, ap continued_by_jump is.1))))
        each v v' i i' false e =
            let t = T v v' i i' in
            let r = number (arithmetic g v v') in
            let place = p + length
            (branch_items (other_condition g (tested ts)) k (source l a o) (source l a o')
            ++ (h.1 ++ Label k ∷ [])) in
            goes_past (other_condition g (tested ts)) h.1 h.3.0 h.3.1 t.far
            (arms l (words_at a) (room l a cells stack lay items begins) calls_n
            (with_var x (number (arithmetic g v v')) env) top under as' w)
            (t.other (taken v v' i i' ∙ ap not e))
            (more r t.far
            (bound_entry to way way Must k h.0 block h.3.0 p place scope later env top under d
            t.far w x r b h.3.2 P.more
            (ready_at l a cells stack lay items begins way (p + length block) (place + length h.3.0)
            P.end b.ready)
            (let le = b.above in let up = emits_up l a cells stack (words_at a f)
            (slots_of (place_of a) (variables q)) framed c to (continued_by_jump way) (suc k)
            h.0 h.1 h.2 in omega arith) b.fine.1.1.1.1.1 own b.in_registers
            (stood_weaken l a cells stack lay framed f j pf.slots d0 (lay.address m)
            (Needed (prim g x o o' (choose (arm ts c as'))) env Must)
            (ArmsNeed l a cells stack lay items begins s calls_n n f q pf framed j m outer d0 u
            as' (with_var x r env) Must) t.far w (arms_need r) t.stood_far')
            b.under_is))

    -- the first arm behind the others
    pub decided_last :
        (h : Passed (branch_items (condition g (tested ts)) k (source l a o) (source l a o'))
        (EmitsArms l a cells stack (words_at a f) (slots_of (place_of a) (variables q)) framed to
        (continued_by_jump way) as')
        (Emits l a cells stack (words_at a f) (slots_of (place_of a) (variables q)) framed to way c)
        k k' block)
        → ((v : Word) (d' : Data) → ArmsBlock l a cells stack lay items begins s calls_n n f q pf
        framed j m outer d0 u as' to (continued_by_jump way) Must (suc k) h.0 h.1
        (p + length (branch_items (condition g (tested ts)) k (source l a o) (source l a o')))
        (x ∷ scope) later (with_var x v env) top under d' w
        → ArmsSimulates l a cells stack lay items begins s calls_n n f q pf framed j m outer d0 u
        as' to (continued_by_jump way) Must
        (p + length (branch_items (condition g (tested ts)) k (source l a o) (source l a o')))
        (with_var x v env) top under d' w)
        → ((v : Word) (d' : Data) → Block l a cells stack lay items begins f q framed pf.slots j m
        outer d0 u n c to way Must h.0 k' h.3.0
        (p + length
        (branch_items (condition g (tested ts)) k (source l a o) (source l a o')
        ++ (h.1 ++ Label k ∷ []))) (x ∷ scope) later (with_var x v env) top under d' w
        → Simulates l a cells stack lay items begins f q framed pf.slots j m outer d0 u n calls_n c
        to way Must
        (p + length
        (branch_items (condition g (tested ts)) k (source l a o) (source l a o')
        ++ (h.1 ++ Label k ∷ []))) (with_var x v env) top under d' w)
        → Simulates l a cells stack lay items begins f q framed pf.slots j m outer d0 u n calls_n
        (prim g x o o' (choose (arm ts c as'))) to way Must p env top under d w
    decided_last h others_done more = by_words each
      where
        P : Cut items p
            (branch_items (condition g (tested ts)) k (source l a o) (source l a o')
            ++ (h.1 ++ Label k ∷ [])) h.3.0 block
        P = parts (condition g (tested ts)) h.1 h.3.0 h.3.1

        T : (v v' : ℕ) → number_in l (words_at a) env o ≡ Some v
            → number_in l (words_at a) env o' ≡ Some v'
            → OneBranch l a cells stack lay items begins s calls_n n f q pf framed j m outer d0 u
            (condition g (tested ts)) (prim g x o o' (choose (arm ts c as'))) env Must k p
            (p + length
            (branch_items (condition g (tested ts)) k (source l a o) (source l a o')) + length
            h.1) o o' d w v v'
        T = branched (condition g (tested ts)) h.1 h.3.0 h.3.1

        taken : (v v' : ℕ) (i : number_in l (words_at a) env o ≡ Some v)
            (i' : number_in l (words_at a) env o' ≡ Some v')
            → is_taken (kind_of (condition g (tested ts))) v v' ≡ nat_eq (arithmetic g v v')
            (tested ts)
        taken v v' i i' = let t = T v v' i i' in condition_tells g v v' (tested ts) is.comparison
            t.left_small t.right_small is.few

        each : (v v' : ℕ) → number_in l (words_at a) env o ≡ Some v
            → number_in l (words_at a) env o' ≡ Some v' → (t : Bool)
            → nat_eq (arithmetic g v v') (tested ts) ≡ t
            → Does' lay items begins l.width cells
            (Given l a cells stack lay items framed f j pf.slots d0 m outer to way Must)
            (at (bases stack) lay items p d) (m ∷ outer) w
            (elim t [
              | true ↦ code l (words_at a) (room l a cells stack lay items begins) calls_n
                  (with_var x (number (arithmetic g v v')) env) top under c w
              | false ↦ arms l
                  (words_at a) (room l a cells stack lay items begins) calls_n
                  (with_var x (number (arithmetic g v v')) env) top under as' w
            ])
        each v v' i i' false e =
            let t = T v v' i i' in
            let r = number (arithmetic g v v') in
            let place = p + length
            (branch_items (condition g (tested ts)) k (source l a o) (source l a o')) in
            goes_in (condition g (tested ts)) h.1 h.3.0 h.3.1 t.to'
            (arms l (words_at a) (room l a cells stack lay items begins) calls_n
            (with_var x (number (arithmetic g v v')) env) top under as' w)
            (t.same (taken v v' i i' ∙ e))
            (others_done r t.to'
            (bound_entry to way (continued_by_jump way) Must k (suc k) block h.1 p place scope
            later env top under d t.to' w x r b h.2
            (front items place h.1 (Label k ∷ [])
            (behind_branch (condition g (tested ts)) h.1 h.3.0 h.3.1))
            (further_ready l a cells stack lay items begins s calls_n n f q pf framed j m outer d0 u
            way (p + length block) (place + length h.1) b.ready)
            (let le = b.above in omega arith) b.fine.1.1.1.1.1 own
            (further_registers l a cells stack lay items begins s calls_n n f q pf framed j m outer
            d0 u way to b.in_registers)
            (stood_weaken l a cells stack lay framed f j pf.slots d0 (lay.address m)
            (Needed (prim g x o o' (choose (arm ts c as'))) env Must)
            (ArmsNeed l a cells stack lay items begins s calls_n n f q pf framed j m outer d0 u
            as' (with_var x r env) Must) t.to' w (arms_need r) t.stood)
            (λ z y. let is = b.under_is z y in (is.0, ap continued_by_jump is.1))))
        each v v' i i' true e =
            let t = T v v' i i' in
            let r = number (arithmetic g v v') in
            let place = p + length
            (branch_items (condition g (tested ts)) k (source l a o) (source l a o')
            ++ (h.1 ++ Label k ∷ [])) in
            goes_past (condition g (tested ts)) h.1 h.3.0 h.3.1 t.far
            (code l (words_at a) (room l a cells stack lay items begins) calls_n
            (with_var x (number (arithmetic g v v')) env) top under c w)
            (t.other (taken v v' i i' ∙ e))
            (more r t.far
            (bound_entry to way way Must k h.0 block h.3.0 p place scope later env top under d
            t.far w x r b h.3.2 P.more
            (ready_at l a cells stack lay items begins way (p + length block) (place + length h.3.0)
            P.end b.ready)
            (let le = b.above in let up = arms_up l a cells stack (words_at a f)
            (slots_of (place_of a) (variables q)) framed as' to (continued_by_jump way) (suc k)
            h.0 h.1 h.2 in omega arith) b.fine.1.1.1.1.0 own b.in_registers
            (stood_weaken l a cells stack lay framed f j pf.slots d0 (lay.address m)
            (Needed (prim g x o o' (choose (arm ts c as'))) env Must)
            (Needed c (with_var x r env) Must) t.far w (code_needs r) t.stood_far')
            b.under_is))
