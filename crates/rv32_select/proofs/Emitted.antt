-- Items of statements, ends and arms that were put behind others.
use Rattle.std.proofs.Common.{◌≡◌, ℕ, suc, ◌+◌, ◌<◌, ◌≤◌, List, [], ◌∷◌, ◌++◌, map, length, refl, sym, ap, ◌∙◌, append_assoc, append-nil, arith, drop, drop-cons, get_or, subst, inr}
use Rattle.std.specs.Prelude.{nat_eq, Bool, true, false, if◌then◌else◌}
use Rattle.std.proofs.lemmas.List.{length-map}
use Rattle.std.proofs.lemmas.Bool.Decides.{nat_tests}
use Rattle.std.proofs.lemmas.Grind.{common_steps}
use Rattle.std.specs.declared.boxed.Box.{Box}
use Rattle.std.specs.declared.alloc.Global.{Global}
use Rattle.seq.proofs.Lists.{drop_past}
use Rattle.parallel_move.specs.declared.Spot.{Spot}
use Rattle.low_code.specs.declared.program.PrimOp.{PrimOp}
use Rattle.low_code.specs.declared.program.Operand.{Operand}
use Rattle.low_code.specs.declared.program.LowStmt.{LowStmt}
use Rattle.low_code.specs.declared.program.LowEnd.{LowEnd}
use Rattle.low_code.specs.declared.program.LowEnd.TheVariants.{Give, Tail, Choose, Fail}
use Rattle.low_code.specs.declared.program.LowArm.{LowArm}
use Rattle.low_code.specs.declared.program.LowTest.{LowTest}
use Rattle.low_code.specs.declared.program.LowBlock.{LowBlock}
use Rattle.low_code.specs.declared.program.Low.{Low}
use Rattle.low_code.specs.Tree.{Code, prim, choose, Arms, Program, procedure_of, program_of, before_of, end_of, code_of, arm_of, all_before, arms_before}
use Rattle.low_code.proofs.TreeOf.{end_of-Give, end_of-Tail, end_of-Choose, end_of-Fail, arm_of-parts, code_of-parts}
use Rattle.register_alloc.specs.Assignment.{Assignment, place_of}
use Rattle.rv32_items.specs.declared.Item.{Item}
use Rattle.rv32_items.specs.declared.Item.TheVariants.{Label, Jump}
use Rattle.rv32_select.specs.declared.source.Source.{Source}
use Rattle.rv32_select.specs.declared.decides.Comparison.{Comparison}
use Rattle.rv32_select.specs.declared.source.Continuation.{Continuation}
use Rattle.rv32_select.specs.Emit.{plain, moves_code, number_moves, prim_code, branch_items, match_items}
use Rattle.rv32_select.specs.IsSelected.{source, sources, continued_by_jump, way_out, tests_items, no_alternative, waits, has_one, last_of, first_arm_goes_last, Then, Emits, EmitsArms, EmitsLast, EmitsDecided, EmitsDecidedFirst, EmitsDecidedLast}
use Rattle.rv32_select.specs.Decides.{decides_code, decides, decided, tested, condition, other_condition}
use Rattle.rv32_select.specs.Writable.{OperandPlaced, OperandsPlaced, TestsPlaced, Placed, ArmsPlaced, ArmPlaced}
use Rattle.rv32_select.specs.Emitting.{EmitsParallelMoves, TailCalled, Emitted, EmittedArms, EmittedLast, EmittedDecidedFirst, EmittedDecidedLast, Before, ArmsBefore, one_arm}
use Rattle.rv32_select.proofs.EmittedStatements.{set_placed, prim_placed, load_placed, save_placed, take_placed, put_placed, get_placed, call_placed, join_placed, undecided, set_done, prim_done, load_done, save_done, take_done, put_done, get_done, call_done, join_made}
use Rattle.rv32_select.proofs.ResultSpots.{take_asks, few_results, result_spots_are, results_taken, called_by}

-- ---- arms
pub arm_placed : (l : Program) (a : Assignment) (t : LowArm) → ArmPlaced l a (arm_of t)
    → TestsPlaced l a t.tests × Placed l a (code_of t.block)
arm_placed l a t h = subst (ArmPlaced l a) (arm_of-parts t) h

pub both_true : (p q : Bool) → (if p then q else false) ≡ true → p ≡ true
both_true true q h = refl
both_true false q h = absurd (cc)

-- one test alone
pub single : (tests xs : List LowTest) (d : LowTest) → xs ≡ tests → has_one tests ≡ true
    → tests ≡ get_or xs 0 d ∷ []
single [] xs d e h = absurd (cc)
single (x ∷ []) xs d e h = ap (λ ys. get_or ys 0 d ∷ []) (sym e)
single (x ∷ (y ∷ ys)) xs d e h = absurd (cc)

-- the rule for arms, of the first of which has_one and waits are known
last_is : (ts : List (List LowTest × Code)) (c : Code) → last_of (arms_before ts c) ≡ c
last_is [] c = refl
last_is (t ∷ ts) c = last_is ts c

pub rule_is : (way : Continuation) (first : LowArm) (rest : List LowArm) (c : Code)
    → first_arm_goes_last way (arms_before (map arm_of (first ∷ rest)) c) ≡
    (if has_one first.tests then waits way (code_of first.block) c else false)
rule_is way first rest c =
    let parts : first_arm_goes_last way (one_arm (arm_of first) (arms_before (map arm_of rest) c)) ≡
    first_arm_goes_last way
    (one_arm (first.tests, code_of first.block) (arms_before (map arm_of rest) c))
    = ap (λ p. first_arm_goes_last way (one_arm p (arms_before (map arm_of rest) c)))
    (arm_of-parts first) in
    parts ∙ ap (λ d. if has_one first.tests then waits way (code_of first.block) d else false)
    (last_is (map arm_of rest) c)

pub first_last_placed : (l : Program) (a : Assignment) (first : LowArm) (t : LowTest)
    (rest : List LowArm) (c : Code) → first.tests ≡ t ∷ []
    → ArmsPlaced l a (arms_before (map arm_of (first ∷ rest)) c)
    → OperandPlaced l a t.left ×
    (ArmsPlaced l a (arms_before (map arm_of rest) c) × Placed l a (code_of first.block))
first_last_placed l a first t rest c one h =
    let p : ArmPlaced l a (arm_of first) = (h.0, h.1) in
    let parts = arm_placed l a first p in
    let tests : TestsPlaced l a (t ∷ []) = subst (TestsPlaced l a) one parts.0 in
    (tests.0, (h.2, parts.1))

pub first_placed : (l : Program) (a : Assignment) (first : LowArm) (rest : List LowArm) (c : Code)
    → ArmsPlaced l a (arms_before (map arm_of (first ∷ rest)) c)
    → ArmsPlaced l a (arms_before (map arm_of rest) c) × Placed l a (code_of first.block)
first_placed l a first rest c h =
    let p : ArmPlaced l a (arm_of first) = (h.0, h.1) in
    (h.2, (arm_placed l a first p).1)

-- an end that is a choice with a first arm
pub choice_is : (e : LowEnd) (arms items rest : List LowArm) (first : LowArm)
    (b : Box LowBlock Global) (block : LowBlock) → e ≡ Choose arms b → items ≡ arms
    → block ≡ b.value → items ≡ first ∷ rest → end_of e ≡ choose
    (arms_before (map arm_of (first ∷ rest)) (code_of block))
choice_is e arms items rest first b block is are same all =
    ap end_of is ∙ end_of-Choose arms b ∙
    (λ i. choose (arms_before (map arm_of ((sym are ∙ all) i)) (code_of (sym same i))))

pub choice_none : (e : LowEnd) (arms items : List LowArm) (b : Box LowBlock Global)
    → e ≡ Choose arms b → items ≡ arms → length items ≡ 0
    → end_of e ≡ choose (arms_before [] (code_of b.value))
choice_none e arms [] b is are none = ap end_of is ∙ end_of-Choose arms b ∙ ap
    (λ ts. choose (arms_before (map arm_of ts) (code_of b.value))) (sym are)
choice_none e arms (t ∷ ts) b is are none = absurd (omega (arith, none))

pub arm_made : (l : Program) (a : Assignment) (cells stack words saved : ℕ) (framed : Bool)
    (to : List Spot) (way way' : Continuation) (t : LowArm) (old c1 mid new : List Item)
    (n label k m : ℕ) → label ≡ n → k ≡ suc n → way' ≡ continued_by_jump way → c1 ≡ old
    ++ tests_items l a label t.tests
    → Emitted l a cells stack words saved framed to way' (code_of t.block) c1 k mid m → new ≡ mid
    ++ Label label ∷ []
    → ArmsBefore l a cells stack words saved framed to way (one_arm (arm_of t)) old n new m
arm_made l a cells stack words saved framed to way way' t old c1 mid new n label k m is next w
    tested e then' =
    let block : Emits l a cells stack words saved framed to (continued_by_jump way)
    (code_of t.block) (suc n) m e.items = rw (sym w, sym next) e.emits in
    let tests = tests_items l a n t.tests in
    let all : new ≡ ((old ++ tests) ++ e.items) ++ Label n ∷ []
    = then' ∙ (λ i. mid ++ Label (is i) ∷ []) ∙ ap (λ x. x ++ Label n ∷ [])
    (e.is ∙ ap (λ x. x ++ e.items) (tested ∙ ap (λ x. old ++ tests_items l a x t.tests) is)) in
    let shape : ((old ++ tests) ++ e.items) ++ Label n ∷ [] ≡ old
    ++ (tests ++ (e.items ++ Label n ∷ [])) = grind (arith, common_steps) in
    subst (λ p. ArmsBefore l a cells stack words saved framed to way (one_arm p) old n new m)
    (sym (arm_of-parts t)) (record {
      items = tests ++ (e.items ++ Label n ∷ []);
      is = all ∙ shape;
      placed = λ as' h. h.2;
      emits = λ as' j rest h. (m, e.items, block, (rest, refl, h));
    })

-- ---- lists of statements and of arms
module _ (l : Program) (a : Assignment) (cells stack words saved : ℕ) (framed : Bool) where
  -- items that, before those of the rest, are those of the whole
  pub record Towards (whole rest : Code → Code) (old : List Item) (n : ℕ) (new : List Item) (m : ℕ)
      : Type 0 where
    pub items : List Item
    pub is : new ≡ old ++ items
    pub placed : (c : Code) → Placed l a (whole c) → Placed l a (rest c)
    -- whether the statement before the rest decides this one
    pub pending : Code → Bool
    pub settles : (c : Code) → ((x : ℕ) → decides_code x c ≡ false) → pending c ≡ false
    pub emits : (to : List Spot) (way : Continuation) (c : Code) (k : ℕ) (more : List Item)
        → pending (rest c) ≡ false → Emits l a cells stack words saved framed to way (rest c) m k
        more → Emits l a cells stack words saved framed to way (whole c) n k (items ++ more)

  pub none_yet : (whole : Code → Code) (old : List Item) (n : ℕ) → Towards whole whole old n old n
  none_yet whole old n = record {
    items = [];
    is = sym (append-nil old);
    placed = λ c h. h;
    pending = λ c. false;
    settles
        = λ c h. refl;
    emits = λ to way c k more free h. h;
  }

  pub one_more : (whole : Code → Code) (s : LowStmt) (rest : List LowStmt) (old mid new : List Item)
      (n k m : ℕ) → Towards whole (all_before (map before_of (s ∷ rest))) old n mid k
      → Before l a cells stack words saved framed (before_of s) mid k new m
      → Towards whole (all_before (map before_of rest)) old n new m
  one_more whole s rest old mid new n k m t b = record {
    items = t.items ++ b.items;
    is = b.is ∙ ap (λ x. x ++ b.items) t.is ∙ append_assoc old t.items b.items;
    placed = λ c h. b.placed (all_before (map before_of rest) c) (t.placed c h);
    pending = λ c. decided (before_of s c);
    settles = b.before_choice;
    emits = λ to way c j more free h.
        let next = all_before (map before_of rest) c in
        let first = t.emits to way c j (b.items ++ more)
        (t.settles (before_of s next) (λ x. b.no_choice x next))
        (b.emits to way next j more free h) in
        rw (append_assoc t.items b.items more) first;
  }

  -- what is known within a block of which so many statements are left: whether the last one decides
  -- the end
  pub record Within (items : List LowStmt) (i left : ℕ) (end : Code) (old : List Item) (n : ℕ)
      (new : List Item) (m : ℕ) : Type 0 where
    pub towards : Towards (all_before (map before_of items))
        (all_before (map before_of (drop i items))) old n new m
    pub count : left + i ≡ length items
    pub settled : left ≡ 0 → towards.pending end ≡ false

  pub within_none : (items : List LowStmt) (left : ℕ) (end : Code) (old : List Item) (n : ℕ)
      → left ≡ length items → Within items 0 left end old n old n
  unfolding none_yet
  within_none items left end old n e = record {
    towards = none_yet (all_before (map before_of items)) old n;
    count
        = omega (arith, e);
    settled = λ z. refl;
  }

  pub within_more : (items : List LowStmt) (i left left' : ℕ) (s : LowStmt) (end : Code)
      (old mid new : List Item) (n k m : ℕ) (is_last : Bool) → i < length items
      → s ≡ get_or items i s → left' + 1 ≡ left → is_last ≡ nat_eq left' 0
      → (is_last ≡ true → decided (before_of s end) ≡ false) → Within items i left end old n mid k
      → Before l a cells stack words saved framed (before_of s) mid k new m
      → Within items (i + 1) left' end old n new m
  unfolding one_more
  within_more items i left left' s end old mid new n k m is_last lt is down last free t b =
      let front : drop i items ≡ s ∷ drop (suc i) items
      = drop-cons items i s lt ∙ ap (λ x. x ∷ drop (suc i) items) (sym is) in
      let next : suc i ≡ i + 1 = omega arith in
      let before = subst
      (λ ss. Towards (all_before (map before_of items)) (all_before (map before_of ss)) old n
      mid k) front t.towards in
      let all = one_more (all_before (map before_of items)) s (drop (suc i) items) old mid new n k m
      before b in
      subst (λ x. Within items x left' end old n new m) next (record {
        towards = all;
        count = let c = t.count in omega (arith, c, down);
        settled = λ z. free
            (last ∙ (let zero' : nat_eq left' 0 ≡ true = grind (arith, nat_tests) in zero'));
      })

  pub block_made : (b : LowBlock) (items : List LowStmt) (i left : ℕ) (to : List Spot)
      (way : Continuation) (old mid new : List Item) (n k m : ℕ) → items ≡ b.stmts
      → length items ≤ i → Within items i left (end_of b.last) old n mid k
      → Emitted l a cells stack words saved framed to way (end_of b.last) mid k new m
      → Emitted l a cells stack words saved framed to way (code_of b) old n new m
  block_made b items i left to way old mid new n k m is over t e =
      let none = drop_past items i over in
      let count = t.count in
      let settled : t.towards.pending (all_before (map before_of (drop i items)) (end_of b.last)) ≡
      false =
      ap (λ ss. t.towards.pending (all_before (map before_of ss) (end_of b.last))) none ∙ t.settled
      (omega (arith, count, over)) in
      let last : Emits l a cells stack words saved framed to way
      (all_before (map before_of (drop i items)) (end_of b.last)) k m e.items = rw none e.emits
      in
      let whole = t.towards.emits to way (end_of b.last) m e.items settled last in
      rw (code_of-parts b) (record {
        items = t.towards.items ++ e.items;
        is = e.is ∙ ap (λ x. x ++ e.items) t.towards.is ∙ append_assoc old t.towards.items e.items;
        emits = subst
            (λ ss. Emits l a cells stack words saved framed to way
            (all_before (map before_of ss) (end_of b.last)) n m (t.towards.items ++ e.items)) is
            whole;
      })

  -- the last statement, that decides the end
  last_left : (items : List LowStmt) (i left left' : ℕ) (s : LowStmt) (c : Comparison) (end : Code)
      → i < length items → s ≡ get_or items i s → left + i ≡ length items → left' + 1 ≡ left
      → left' ≡ 0 → before_of s ≡ prim c.operation c.variable c.left c.right
      → all_before (map before_of (drop i items)) end ≡ prim c.operation c.variable c.left c.right
      end
  last_left items i left left' s c end lt at count down none same =
      let over : length items ≤ suc i = omega (arith, count, down, none) in
      let front : drop i items ≡ s ∷ [] = drop-cons items i s lt ∙ ap (λ x. x ∷ drop (suc i) items)
      (sym at) ∙ ap (λ ss. s ∷ ss) (drop_past items (suc i) over) in
      ap (λ ss. all_before (map before_of ss) end) front ∙ ap (λ g. g end) same

  pub decided_placed : (b : LowBlock) (items : List LowStmt) (i left left' : ℕ) (s : LowStmt)
      (c : Comparison) (old new : List Item) (n m : ℕ) → items ≡ b.stmts → i < length items
      → s ≡ get_or items i s → left' + 1 ≡ left → left' ≡ 0
      → before_of s ≡ prim c.operation c.variable c.left c.right
      → Within items i left (end_of b.last) old n new m → Placed l a (code_of b)
      → (OperandPlaced l a c.left × OperandPlaced l a c.right) × Placed l a (end_of b.last)
  decided_placed b items i left left' s c old new n m e lt at down none same t h =
      let parts : Placed l a (all_before (map before_of items) (end_of b.last))
      = subst (λ ss. Placed l a (all_before (map before_of ss) (end_of b.last))) (sym e)
      (subst (Placed l a) (code_of-parts b) h) in
      let here : Placed l a (prim c.operation c.variable c.left c.right (end_of b.last))
      = subst (Placed l a)
      (last_left items i left left' s c (end_of b.last) lt at t.count down none same)
      (t.towards.placed (end_of b.last) parts) in
      ((here.1, here.2), here.3)

  pub decided_made : (b : LowBlock) (items : List LowStmt) (i left left' : ℕ) (s : LowStmt)
      (c : Comparison) (to : List Spot) (way : Continuation) (old mid new : List Item) (n k m : ℕ)
      → items ≡ b.stmts → i < length items → s ≡ get_or items i s → left' + 1 ≡ left → left' ≡ 0
      → before_of s ≡ prim c.operation c.variable c.left c.right
      → Within items i left (end_of b.last) old n mid k
      → Emitted l a cells stack words saved framed to way
      (prim c.operation c.variable c.left c.right (end_of b.last)) mid k new m
      → Emitted l a cells stack words saved framed to way (code_of b) old n new m
  decided_made b items i left left' s c to way old mid new n k m is lt at down none same t e =
      let rest = last_left items i left left' s c (end_of b.last) lt at t.count down none same in
      let settled = ap t.towards.pending rest ∙ t.towards.settles
      (prim c.operation c.variable c.left c.right (end_of b.last)) (λ x. refl) in
      let last : Emits l a cells stack words saved framed to way
      (all_before (map before_of (drop i items)) (end_of b.last)) k m e.items = rw rest e.emits
      in
      let whole = t.towards.emits to way (end_of b.last) m e.items settled last in
      rw (code_of-parts b) (record {
        items = t.towards.items ++ e.items;
        is = e.is ∙ ap (λ x. x ++ e.items) t.towards.is ∙ append_assoc old t.towards.items e.items;
        emits = subst
            (λ ss. Emits l a cells stack words saved framed to way
            (all_before (map before_of ss) (end_of b.last)) n m (t.towards.items ++ e.items)) is
            whole;
      })

  -- the statement at hand is placed, and so is the end
  pub stmt_placed : (b : LowBlock) (items : List LowStmt) (i left : ℕ) (old new : List Item)
      (n m : ℕ) (s : LowStmt) → items ≡ b.stmts → i < length items → s ≡ get_or items i s
      → Within items i left (end_of b.last) old n new m
      → Placed l a (code_of b) → (c : Code) × Placed l a (before_of s c)
  stmt_placed b items i left old new n m s e lt is t h =
      let parts : Placed l a (all_before (map before_of items) (end_of b.last))
      = subst (λ ss. Placed l a (all_before (map before_of ss) (end_of b.last))) (sym e)
      (subst (Placed l a) (code_of-parts b) h) in
      let front : drop i items ≡ s ∷ drop (suc i) items
      = drop-cons items i s lt ∙ ap (λ x. x ∷ drop (suc i) items) (sym is) in
      let here : Placed l a
      (before_of s (all_before (map before_of (drop (suc i) items)) (end_of b.last)))
      = subst (λ ss. Placed l a (all_before (map before_of ss) (end_of b.last))) front
      (t.towards.placed (end_of b.last) parts) in
      (all_before (map before_of (drop (suc i) items)) (end_of b.last), here)

  pub last_placed : (b : LowBlock) (items : List LowStmt) (i left : ℕ) (old new : List Item)
      (n m : ℕ) → items ≡ b.stmts → length items ≤ i
      → Within items i left (end_of b.last) old n new m
      → Placed l a (code_of b) → Placed l a (end_of b.last)
  last_placed b items i left old new n m e over t h =
      let parts : Placed l a (all_before (map before_of items) (end_of b.last))
      = subst (λ ss. Placed l a (all_before (map before_of ss) (end_of b.last))) (sym e)
      (subst (Placed l a) (code_of-parts b) h) in
      subst (λ ss. Placed l a (all_before (map before_of ss) (end_of b.last)))
      (drop_past items i over) (t.towards.placed (end_of b.last) parts)

  pub record TowardsArms (to : List Spot) (way : Continuation) (whole rest : Code → Arms)
      (old : List Item) (n : ℕ) (new : List Item) (m : ℕ) : Type 0 where
    pub items : List Item
    pub is : new ≡ old ++ items
    pub placed : (c : Code) → ArmsPlaced l a (whole c) → ArmsPlaced l a (rest c)
    pub emits : (c : Code) (k : ℕ) (more : List Item)
        → EmitsArms l a cells stack words saved framed to way (rest c) m k more
        → EmitsArms l a cells stack words saved framed to way (whole c) n k (items ++ more)

  pub no_arm_yet : (to : List Spot) (way : Continuation) (whole : Code → Arms) (old : List Item)
      (n : ℕ) → TowardsArms to way whole whole old n old n
  no_arm_yet to way whole old n = record
      { items = []; is = sym (append-nil old); placed = λ c h. h; emits = λ c k more h. h }

  pub one_more_arm : (to : List Spot) (way : Continuation) (whole : Code → Arms) (s : LowArm)
      (rest : List LowArm) (old mid new : List Item) (n k m : ℕ)
      → TowardsArms to way whole (arms_before (map arm_of (s ∷ rest))) old n mid k
      → ArmsBefore l a cells stack words saved framed to way (one_arm (arm_of s)) mid k new m
      → TowardsArms to way whole (arms_before (map arm_of rest)) old n new m
  one_more_arm to way whole s rest old mid new n k m t b = record {
    items = t.items ++ b.items;
    is = b.is ∙ ap (λ x. x ++ b.items) t.is ∙ append_assoc old t.items b.items;
    placed = λ c h. b.placed (arms_before (map arm_of rest) c) (t.placed c h);
    emits = λ c j more h.
        let first = t.emits c j (b.items ++ more)
        (b.emits (arms_before (map arm_of rest) c) j more h) in
        rw (append_assoc t.items b.items more) first;
  }

  pub arm_added : (to : List Spot) (way : Continuation) (whole : Code → Arms) (items : List LowArm)
      (i : ℕ) (s : LowArm) (old mid new : List Item) (n k m : ℕ) → i < length items
      → s ≡ get_or items i s → TowardsArms to way whole (arms_before (map arm_of (drop i items)))
      old n mid k
      → ArmsBefore l a cells stack words saved framed to way (one_arm (arm_of s)) mid k new m
      → TowardsArms to way whole (arms_before (map arm_of (drop (i + 1) items))) old n new m
  arm_added to way whole items i s old mid new n k m lt is t b =
      let front : drop i items ≡ s ∷ drop (suc i) items
      = drop-cons items i s lt ∙ ap (λ x. x ∷ drop (suc i) items) (sym is) in
      let next : suc i ≡ i + 1 = omega arith in
      subst (λ x. TowardsArms to way whole (arms_before (map arm_of (drop x items))) old n new m)
      next
      (one_more_arm to way whole s (drop (suc i) items) old mid new n k m
      (subst (λ ss. TowardsArms to way whole (arms_before (map arm_of ss)) old n mid k) front t)
      b)

  pub arms_made : (to : List Spot) (way : Continuation) (whole : Code → Arms) (c : Code)
      (items : List LowArm) (i : ℕ) (old mid new : List Item) (n k m : ℕ) → length items ≤ i
      → TowardsArms to way whole (arms_before (map arm_of (drop i items))) old n mid k
      → Emitted l a cells stack words saved framed to way c mid k new m
      → EmittedArms l a cells stack words saved framed to way (whole c) old n new m
  arms_made to way whole c items i old mid new n k m over t e =
      let last : EmitsArms l a cells stack words saved framed to way
      (arms_before (map arm_of (drop i items)) c) k m e.items
      = rw (drop_past items i over) e.emits in
      record {
        items = t.items ++ e.items;
        is = e.is ∙ ap (λ x. x ++ e.items) t.is ∙ append_assoc old t.items e.items;
        emits = t.emits c m e.items last;
      }

  -- the first arm, behind the others
  pub first_last_made : (to : List Spot) (way way' : Continuation) (first : LowArm) (t : LowTest)
      (rest : List LowArm) (c : Code) (old c1 c2 c3 new : List Item) (n label k i m : ℕ)
      → first.tests ≡ t ∷ [] → label ≡ n → k ≡ suc n → way' ≡ continued_by_jump way
      → c1 ≡ old ++ match_items label (source l a t.left) t.right
      → EmittedArms l a cells stack words saved framed to way' (arms_before (map arm_of rest) c)
      c1 k c2 i → c3 ≡ c2 ++ Label label ∷ []
      → Emitted l a cells stack words saved framed to way (code_of first.block) c3 i new m
      → EmittedLast l a cells stack words saved framed to way
      (arms_before (map arm_of (first ∷ rest)) c) old n new m
  first_last_made to way way' first t rest c old c1 c2 c3 new n label k i m one is next w matched
      others labelled e =
      let arms' : EmitsArms l a cells stack words saved framed to (continued_by_jump way)
      (arms_before (map arm_of rest) c) (suc n) i others.items
      = rw (sym w, sym next) others.emits in
      let test = match_items n (source l a t.left) t.right in
      let all : new ≡ (((old ++ test) ++ others.items) ++ Label n ∷ []) ++ e.items =
      e.is ∙ ap (λ x. x ++ e.items)
      (labelled ∙ (λ i. c2 ++ Label (is i) ∷ []) ∙ ap (λ x. x ++ Label n ∷ [])
      (others.is ∙ ap (λ x. x ++ others.items)
      (matched ∙ ap (λ x. old ++ match_items x (source l a t.left) t.right) is))) in
      let shape : (((old ++ test) ++ others.items) ++ Label n ∷ []) ++ e.items ≡ old
      ++ ((test ++ (others.items ++ Label n ∷ [])) ++ e.items) = grind (arith, common_steps) in
      subst (λ p. EmittedLast l a cells stack words saved framed to way
      (one_arm p (arms_before (map arm_of rest) c)) old n new m) (sym (arm_of-parts first))
      (record {
        items = (test ++ (others.items ++ Label n ∷ [])) ++ e.items;
        is = all ∙ shape;
        emits = (t, one, i, others.items, arms', (e.items, refl, e.emits));
      })

  pub arm_at_placed : (to : List Spot) (way : Continuation) (items : List LowArm) (i : ℕ) (c : Code)
      (old new : List Item) (n m : ℕ) (s : LowArm) → i < length items → s ≡ get_or items i s
      → TowardsArms to way (arms_before (map arm_of items))
      (arms_before (map arm_of (drop i items))) old n new m
      → ArmsPlaced l a (arms_before (map arm_of items) c) → ArmPlaced l a (arm_of s)
  arm_at_placed to way items i c old new n m s lt is t h =
      let front : drop i items ≡ s ∷ drop (suc i) items
      = drop-cons items i s lt ∙ ap (λ x. x ∷ drop (suc i) items) (sym is) in
      let here : ArmsPlaced l a (arms_before (map arm_of (s ∷ drop (suc i) items)) c)
      = subst (λ ss. ArmsPlaced l a (arms_before (map arm_of ss) c)) front (t.placed c h) in
      (here.0, here.1)

  pub otherwise_placed : (to : List Spot) (way : Continuation) (items : List LowArm) (i : ℕ)
      (c : Code) (old new : List Item) (n m : ℕ) → length items ≤ i
      → TowardsArms to way (arms_before (map arm_of items))
      (arms_before (map arm_of (drop i items))) old n new m
      → ArmsPlaced l a (arms_before (map arm_of items) c) → Placed l a c
  otherwise_placed to way items i c old new n m over t h =
      subst (λ ss. ArmsPlaced l a (arms_before (map arm_of ss) c)) (drop_past items i over)
      (t.placed c h)

  -- a choice, by where its first arm stands
  pub last_made : (to : List Spot) (way : Continuation) (as' : Arms) (old new : List Item) (n m : ℕ)
      → first_arm_goes_last way as' ≡ true → EmittedLast l a cells stack words saved framed to way
      as' old n new m → Emitted l a cells stack words saved framed to way (choose as') old n new m
  last_made to way as' old new n m e t = record {
    items = t.items;
    is = t.is;
    emits = inr
        (subst (λ r. elim r as (λ x. Type 0) [
          | true ↦ EmitsLast l a cells stack words saved framed to way as' n m t.items
          | false ↦
              EmitsArms l a cells stack words saved framed to way as' n m t.items
        ]) (sym e) t.emits);
  }

  pub in_order_made : (to : List Spot) (way : Continuation) (as' : Arms) (old new : List Item)
      (n m : ℕ) → first_arm_goes_last way as' ≡ false
      → EmittedArms l a cells stack words saved framed to way as' old n new m
      → Emitted l a cells stack words saved framed to way (choose as') old n new m
  in_order_made to way as' old new n m e t = record {
    items = t.items;
    is = t.is;
    emits = inr
        (subst (λ r. elim r as (λ x. Type 0) [
          | true ↦ EmitsLast l a cells stack words saved framed to way as' n m t.items
          | false ↦
              EmitsArms l a cells stack words saved framed to way as' n m t.items
        ]) (sym e) t.emits);
  }

  -- arms of which the first and the others are known, by the rule
  pub last_chosen : (to : List Spot) (way : Continuation) (arms rest : List LowArm) (first : LowArm)
      (c : Code) (r : Bool) (old new : List Item) (n m : ℕ) → arms ≡ first ∷ rest
      → r ≡ (if has_one first.tests then waits way (code_of first.block) c else false) → r ≡ true
      → EmittedLast l a cells stack words saved framed to way
      (arms_before (map arm_of (first ∷ rest)) c) old n new m
      → Emitted l a cells stack words saved framed to way
      (choose (arms_before (map arm_of arms) c)) old n new m
  last_chosen to way arms rest first c r old new n m all e t h =
      subst (λ ts. Emitted l a cells stack words saved framed to way
      (choose (arms_before (map arm_of ts) c)) old n new m) (sym all)
      (last_made to way (arms_before (map arm_of (first ∷ rest)) c) old new n m
      (rule_is way first rest c ∙ sym e ∙ t) h)

  pub order_chosen : (to : List Spot) (way : Continuation) (arms rest : List LowArm)
      (first : LowArm) (c : Code) (r : Bool) (old new : List Item) (n m : ℕ) → arms ≡ first ∷ rest
      → r ≡ (if has_one first.tests then waits way (code_of first.block) c else false) → r ≡ false
      → EmittedArms l a cells stack words saved framed to way (arms_before (map arm_of arms) c) old
      n new m → Emitted l a cells stack words saved framed to way
      (choose (arms_before (map arm_of arms) c)) old n new m
  order_chosen to way arms rest first c r old new n m all e t h =
      let rule = ap (λ ts. first_arm_goes_last way (arms_before (map arm_of ts) c)) all ∙ rule_is
      way first rest c ∙ sym e ∙ t in
      in_order_made to way (arms_before (map arm_of arms) c) old new n m rule h

  -- a choice that a comparison decides
  pub decided_first_made : (to : List Spot) (way way' : Continuation) (first : LowArm)
      (rest : List LowArm) (c : Code) (f : PrimOp) (left right : Source) (number : ℕ)
      (old c1 c2 c3 new : List Item) (n label k i m : ℕ) → label ≡ n → k ≡ suc n
      → way' ≡ continued_by_jump way → number ≡ tested first.tests
      → c1 ≡ old ++ branch_items (other_condition f number) label left right
      → Emitted l a cells stack words saved framed to way' (code_of first.block) c1 k c2 i
      → c3 ≡ c2 ++ Label label ∷ []
      → EmittedArms l a cells stack words saved framed to way (arms_before (map arm_of rest) c) c3 i
      new m → EmittedDecidedFirst l a cells stack words saved framed f left right to way
      (arms_before (map arm_of (first ∷ rest)) c) old n new m
  decided_first_made to way way' first rest c f left right number old c1 c2 c3 new n label k i m is
      next w which branched inner labelled e =
      let block : Emits l a cells stack words saved framed to (continued_by_jump way)
      (code_of first.block) (suc n) i inner.items = rw (sym w, sym next) inner.emits in
      let test = branch_items (other_condition f (tested first.tests)) n left right in
      let all : new ≡ (((old ++ test) ++ inner.items) ++ Label n ∷ []) ++ e.items =
      e.is ∙ ap (λ x. x ++ e.items)
      (labelled ∙ (λ i. c2 ++ Label (is i) ∷ []) ∙ ap (λ x. x ++ Label n ∷ [])
      (inner.is ∙ ap (λ x. x ++ inner.items)
      (branched ∙ (λ i. old ++ branch_items (other_condition f (which i)) (is i) left right))))
      in
      let shape : (((old ++ test) ++ inner.items) ++ Label n ∷ []) ++ e.items ≡ old
      ++ ((test ++ (inner.items ++ Label n ∷ [])) ++ e.items) = grind (arith, common_steps) in
      subst (λ p. EmittedDecidedFirst l a cells stack words saved framed f left right to way
      (one_arm p (arms_before (map arm_of rest) c)) old n new m) (sym (arm_of-parts first))
      (record {
        items = (test ++ (inner.items ++ Label n ∷ [])) ++ e.items;
        is = all ∙ shape;
        emits = (i, inner.items, block, (e.items, refl, e.emits));
      })

  pub decided_last_made : (to : List Spot) (way way' : Continuation) (first : LowArm)
      (rest : List LowArm) (c : Code) (f : PrimOp) (left right : Source) (number : ℕ)
      (old c1 c2 c3 new : List Item) (n label k i m : ℕ) → label ≡ n → k ≡ suc n
      → way' ≡ continued_by_jump way → number ≡ tested first.tests
      → c1 ≡ old ++ branch_items (condition f number) label left right
      → EmittedArms l a cells stack words saved framed to way' (arms_before (map arm_of rest) c)
      c1 k c2 i → c3 ≡ c2 ++ Label label ∷ []
      → Emitted l a cells stack words saved framed to way (code_of first.block) c3 i new m
      → EmittedDecidedLast l a cells stack words saved framed f left right to way
      (arms_before (map arm_of (first ∷ rest)) c) old n new m
  decided_last_made to way way' first rest c f left right number old c1 c2 c3 new n label k i m is
      next w which branched others labelled e =
      let arms' : EmitsArms l a cells stack words saved framed to (continued_by_jump way)
      (arms_before (map arm_of rest) c) (suc n) i others.items
      = rw (sym w, sym next) others.emits in
      let test = branch_items (condition f (tested first.tests)) n left right in
      let all : new ≡ (((old ++ test) ++ others.items) ++ Label n ∷ []) ++ e.items =
      e.is ∙ ap (λ x. x ++ e.items)
      (labelled ∙ (λ i. c2 ++ Label (is i) ∷ []) ∙ ap (λ x. x ++ Label n ∷ [])
      (others.is ∙ ap (λ x. x ++ others.items)
      (branched ∙ (λ i. old ++ branch_items (condition f (which i)) (is i) left right)))) in
      let shape : (((old ++ test) ++ others.items) ++ Label n ∷ []) ++ e.items ≡ old
      ++ ((test ++ (others.items ++ Label n ∷ [])) ++ e.items) = grind (arith, common_steps) in
      subst (λ p. EmittedDecidedLast l a cells stack words saved framed f left right to way
      (one_arm p (arms_before (map arm_of rest) c)) old n new m) (sym (arm_of-parts first))
      (record {
        items = (test ++ (others.items ++ Label n ∷ [])) ++ e.items;
        is = all ∙ shape;
        emits = (i, others.items, arms', (e.items, refl, e.emits));
      })

  -- a comparison and its choice
  decided_choice : (to : List Spot) (way : Continuation) (as' : Arms) (f : PrimOp) (x : ℕ)
      (b d : Operand) (left right : Source) (n m : ℕ) (items : List Item) → left ≡ source l a b
      → right ≡ source l a d → decides f x (choose as') ≡ true
      → EmitsDecided l a cells stack words saved framed f left right to way (choose as') n m items
      → Emits l a cells stack words saved framed to way (prim f x b d (choose as')) n m items
  decided_choice to way as' f x b d left right n m items from and is h =
      let there : EmitsDecided l a cells stack words saved framed f (source l a b) (source l a d) to
      way (choose as') n m items = rw (sym from, sym and) h in
      subst (λ r. elim r as (λ y. Type 0) [
        | true ↦ EmitsDecided l a cells stack words saved framed f (source l a b) (source l a d)
            to way (choose as') n m items
        | false ↦ Then
            (plain (prim_code f (place_of a x) (source l a b) (source l a d)))
            (Emits l a cells stack words saved framed to way (choose as') n m) items
      ]) (sym is) there

  pub decided_last_chosen : (to : List Spot) (way : Continuation) (first : LowArm)
      (rest : List LowArm) (c : Code) (f : PrimOp) (x : ℕ) (b d : Operand) (left right : Source)
      (r : Bool) (old new : List Item) (n m : ℕ) → left ≡ source l a b → right ≡ source l a d
      → r ≡ (if has_one first.tests then waits way (code_of first.block) c else false) → r ≡ true
      → decides f x (choose (arms_before (map arm_of (first ∷ rest)) c)) ≡ true
      → EmittedDecidedLast l a cells stack words saved framed f left right to way
      (arms_before (map arm_of (first ∷ rest)) c) old n new m
      → Emitted l a cells stack words saved framed to way
      (prim f x b d (choose (arms_before (map arm_of (first ∷ rest)) c))) old n new m
  decided_last_chosen to way first rest c f x b d left right r old new n m from and e t is h =
      let as' = arms_before (map arm_of (first ∷ rest)) c in
      record {
        items = h.items;
        is = h.is;
        emits = decided_choice to way as' f x b d left right n m h.items from and is
            (subst (λ r. elim r as (λ y. Type 0) [
              | true ↦ EmitsDecidedLast l a cells stack words saved framed f left right to way as'
                  n m h.items
              | false ↦ EmitsDecidedFirst l a cells stack words saved framed f left
                  right to way as' n m h.items
            ]) (sym (rule_is way first rest c ∙ sym e ∙ t))
            h.emits);
      }

  pub decided_first_chosen : (to : List Spot) (way : Continuation) (first : LowArm)
      (rest : List LowArm) (c : Code) (f : PrimOp) (x : ℕ) (b d : Operand) (left right : Source)
      (r : Bool) (old new : List Item) (n m : ℕ) → left ≡ source l a b → right ≡ source l a d
      → r ≡ (if has_one first.tests then waits way (code_of first.block) c else false) → r ≡ false
      → decides f x (choose (arms_before (map arm_of (first ∷ rest)) c)) ≡ true
      → EmittedDecidedFirst l a cells stack words saved framed f left right to way
      (arms_before (map arm_of (first ∷ rest)) c) old n new m
      → Emitted l a cells stack words saved framed to way
      (prim f x b d (choose (arms_before (map arm_of (first ∷ rest)) c))) old n new m
  decided_first_chosen to way first rest c f x b d left right r old new n m from and e t is h =
      let as' = arms_before (map arm_of (first ∷ rest)) c in
      record {
        items = h.items;
        is = h.is;
        emits = decided_choice to way as' f x b d left right n m h.items from and is
            (subst (λ r. elim r as (λ y. Type 0) [
              | true ↦ EmitsDecidedLast l a cells stack words saved framed f left right to way as'
                  n m h.items
              | false ↦ EmitsDecidedFirst l a cells stack words saved framed f left
                  right to way as' n m h.items
            ]) (sym (rule_is way first rest c ∙ sym e ∙ t))
            h.emits);
      }

  -- where a comparison decides the end of a block, that is a choice with an arm
  pub not_decided : (f : PrimOp) (x : ℕ) (end c : Code) → decides_code x c ≡ false → end ≡ c
      → decides f x end ≡ true → ⊥
  not_decided f x end c none is h = let free : decides f x end ≡ false
      = ap (decides f x) is ∙ undecided f x c none in let both : false ≡ true = sym free ∙ h
      in absurd (cc)

  -- ---- ends
  pub give_made : (e : LowEnd) (as' : List Operand) (to : List Spot) (way : Continuation)
      (old mid new : List Item) (n : ℕ) → e ≡ Give as'
      → EmitsParallelMoves to (sources l a as') old mid → new ≡ mid ++ way_out framed words way
      → Emitted l a cells stack words saved framed to way (end_of e) old n new n
  give_made e as' to way old mid new n is s out =
      let piece = plain (moves_code s.steps ++ number_moves to (sources l a as')) in
      rw (ap end_of is ∙ end_of-Give as') (record {
        items = piece ++ way_out framed words way;
        is = out ∙ ap (λ x. x ++ way_out framed words way) s.is ∙ append_assoc old piece
            (way_out framed words way);
        emits = (refl, s.steps, s.order, refl);
      })

  pub tail_placed : (e : LowEnd) (f site : ℕ) (as' : List Operand) → e ≡ Tail f site as'
      → Placed l a (end_of e) → (f < length l.procs) × (site < length a.saves)
      × OperandsPlaced l a as'
  tail_placed e f site as' is h = subst (Placed l a) (ap end_of is ∙ end_of-Tail f site as') h

  pub give_placed : (e : LowEnd) (as' : List Operand) → e ≡ Give as' → Placed l a (end_of e)
      → OperandsPlaced l a as'
  give_placed e as' is h = subst (Placed l a) (ap end_of is ∙ end_of-Give as') h

  pub tail_made : (e : LowEnd) (f site : ℕ) (as' : List Operand) (to : List Spot)
      (way : Continuation) (old new : List Item) (n : ℕ) → e ≡ Tail f site as'
      → TailCalled l a framed words f as' old new → Emitted l a cells stack words saved framed to
      way (end_of e) old n new n
  tail_made e f site as' to way old new n is t = rw (ap end_of is ∙ end_of-Tail f site as')
      (record { items = _; is = t.is; emits = (refl, t.steps, t.order, refl) })

  pub choose_placed : (e : LowEnd) (arms : List LowArm) (b : Box LowBlock Global)
      → e ≡ Choose arms b → Placed l a (end_of e) → ArmsPlaced l a
      (arms_before (map arm_of arms) (code_of b.value))
  choose_placed e arms b is h = subst (Placed l a) (ap end_of is ∙ end_of-Choose arms b) h

  pub choose_made : (e : LowEnd) (arms : List LowArm) (b : Box LowBlock Global) (to : List Spot)
      (way : Continuation) (old new : List Item) (n m : ℕ) → e ≡ Choose arms b
      → Emitted l a cells stack words saved framed to way
      (choose (arms_before (map arm_of arms) (code_of b.value))) old n new m
      → Emitted l a cells stack words saved framed to way (end_of e) old n new m
  choose_made e arms b to way old new n m is t = rw (ap end_of is ∙ end_of-Choose arms b) t

  pub fail_made : (e : LowEnd) (to : List Spot) (way : Continuation) (old new : List Item) (n : ℕ)
      → e ≡ Fail → new ≡ old ++ Jump 5 (no_alternative l) ∷ []
      → Emitted l a cells stack words saved framed to way (end_of e) old n new n
  fail_made e to way old new n is put' = rw (ap end_of is ∙ end_of-Fail)
      (record { items = Jump 5 (no_alternative l) ∷ []; is = put'; emits = (refl, refl) })

pub chosen_placed : (l : Program) (a : Assignment) (e : LowEnd) (arms items : List LowArm)
    (b : Box LowBlock Global) (block : LowBlock) → e ≡ Choose arms b → items ≡ arms
    → block ≡ b.value → Placed l a (end_of e) → ArmsPlaced l a
    (arms_before (map arm_of items) (code_of block))
chosen_placed l a e arms items b block is are same h =
    let p : ArmsPlaced l a (arms_before (map arm_of arms) (code_of b.value))
    = subst (Placed l a) (ap end_of is ∙ end_of-Choose arms b) h in
    subst (λ c. ArmsPlaced l a (arms_before (map arm_of items) (code_of c))) (sym same)
    (subst (λ ts. ArmsPlaced l a (arms_before (map arm_of ts) (code_of b.value))) (sym are) p)

pub called_there : (low : Low) (a : Assignment) (e : LowEnd) (f site : ℕ) (as' : List Operand)
    → e ≡ Tail f site as' → Placed (program_of low) a (end_of e) → f < length low.procs
called_there low a e f site as' is h =
    let p : (f < length (program_of low).procs) × (site < length a.saves)
    × OperandsPlaced (program_of low) a as' = subst (Placed (program_of low) a)
    (ap end_of is ∙ end_of-Tail f site as') h in
    let same : length (program_of low).procs ≡ length low.procs = length-map low.procs procedure_of
    in
    omega (arith, p.0, same)

pub ruleset emitted = (
  set_placed,
  prim_placed,
  load_placed,
  save_placed,
  take_placed,
  put_placed,
  get_placed,
  call_placed,
  join_placed,
  set_done,
  prim_done,
  load_done,
  save_done,
  take_done,
  put_done,
  get_done,
  call_done,
  join_made,
  take_asks,
  few_results,
  result_spots_are,
  results_taken,
  called_by,
  arm_placed,
  arm_made,
  give_placed,
  give_made,
  tail_placed,
  tail_made,
  choose_placed,
  choose_made,
  fail_made,
  none_yet,
  no_arm_yet,
)
