-- Choices: tests of words, and the arm that is taken.
use Rattle.std.proofs.Common.{◌≡◌, ◌≢◌, ℕ, suc, ◌+◌, ◌^◌, ◌<◌, List, [], ◌∷◌, ◌++◌, length, Bool, true, false, not, Some, None, ◌⊎◌, inl, inr, refl, sym, ap, ◌∙◌, subst, arith, length-append}
use Rattle.std.specs.Prelude.{Option, nat_eq, slice_get}
use Rattle.rv32_machine.specs.Arithmetic.{is_taken}
use Rattle.rv32_machine.specs.Steps.{set_reg}
use Rattle.rv32_steps.specs.Straight.{register_value}
use Rattle.parallel_move.specs.declared.Spot.{Spot}
use Rattle.parallel_move.specs.declared.Spot.TheVariants.{Reg, Slot, Scratch}
use Rattle.low_code.specs.declared.program.Operand.{Operand}
use Rattle.low_code.specs.declared.program.Operand.TheVariants.{Num}
use Rattle.low_code.specs.declared.program.LowTest.{LowTest}
use Rattle.low_code.specs.Tree.{Code, choose, Arms, otherwise, arm, Procedure, Program}
use Rattle.low_code.specs.Formed.{uses, arms_uses, used_by, used_by_tests, variables}
use Rattle.low_code.specs.Values.{Word, number, Env, World, need, and_then}
use Rattle.low_code.specs.Run.{Calls, code, arms, operand, number_in, holds}
use Rattle.register_alloc.specs.Fits.{slots_of}
use Rattle.register_alloc.specs.Assignment.{Assignment, place_of, words_at}
use Rattle.rv32_items.specs.declared.Cond.{Cond}
use Rattle.rv32_items.specs.declared.Cond.TheVariants.{Eq, Ne}
use Rattle.rv32_items.specs.declared.Item.{Item}
use Rattle.rv32_items.specs.declared.Item.TheVariants.{Label, Branch}
use Rattle.rv32_items.specs.Course.{Layout, Point, label_from, kind_of}
use Rattle.rv32_select.specs.declared.source.Continuation.{Continuation}
use Rattle.rv32_select.specs.Emit.{plain, held as held_in, hold, branch_items, test_items, compare_items, match_items}
use Rattle.rv32_select.specs.IsSelected.{source, tests_items, continued_by_jump, Then, Emits, EmitsArms}
use Rattle.low_code.specs.Literals.{IsSmall, TestsSmall}
use Rattle.rv32_select.proofs.Courses.{Goes, Stands, front, back, stays}
use Rattle.rv32_select.proofs.Straight.{Data, with_reg, does_on, at}
use Rattle.rv32_select.proofs.JumpStretches.{with_regs, branches, goes_on}
use Rattle.rv32_select.proofs.FrameViews.{spots, kept_on, in_frame}
use Rattle.rv32_select.proofs.OperandsRead.{IsPlace, holds as held_by, held_stays, held_not_seven, read_same}
use Rattle.rv32_select.proofs.Computed.{hold_kept, hold_seen}
use Rattle.rv32_select.proofs.Relation.{bases, home_kept, Stood, Ran, ran_on, quiet, Does', does_after, does_map, Given, Needed}
use Rattle.rv32_select.proofs.PlaceFacts.{IsOwn, ArmsFine, ProcedureFine, Setting}
use Rattle.rv32_select.proofs.BlockFacts.{room, Entry, Block, Simulates, world_kept}
use Rattle.rv32_select.proofs.OneBound.{Cut, cut, ready_at, plain_ran, operand_read}
use Rattle.rv32_select.proofs.WordStatements.{stood_same, number_there}
use Rattle.rv32_select.proofs.Stops.{good_far, passes_label}
use Rattle.rv32_select.proofs.BlockEnds.{world_same}
use Rattle.rv32_select.proofs.EmittedLabels.{emits_up, arms_up}
use Rattle.rv32_select.proofs.JoinStatement.{stood_weaken}
use Rattle.seq.specs.Lists.{is_among}
use Rattle.seq.proofs.Counted.{among_left, among_right}
use Rattle.rv32_select.proofs.FurtherArms.{held_or_not, further_given, further_ready, further_registers}

module _ (l : Program) (a : Assignment) (cells stack : ℕ) (lay : Layout) (items : List Item)
    (begins : List ℕ) (s : Setting l a cells stack lay items begins) (calls_n : Calls) (n : ℕ)
    (f : ℕ) (q : Procedure) (pf : ProcedureFine l a f q) (framed : Bool) (j m : ℕ) (outer : List ℕ)
    (d0 : Data) (u : ℕ) where
  -- what is needed where the arms of a choice begin
  abbrev pub ArmsNeed : Arms → Env → (Must : ℕ → Word → Type 0) → ℕ → Word → Type 0
  ArmsNeed as' env Must x v = ((is_among x (arms_uses as') ≡ true) × (env x ≡ Some v)) ⊎ Must x v

  -- the arms of a choice in the items
  abbrev pub ArmsBlock : (as' : Arms) (to : List Spot) (way : Continuation)
      (Must : ℕ → Word → Type 0) (k k' : ℕ) (block : List Item) (pos : ℕ) (scope later : List ℕ)
      (env : Env) (top : ℕ) (under : Option ℕ) (d : Data) (w : World) → Type 0
  ArmsBlock as' to way Must k k' block pos scope later env top under d w =
      Entry l a cells stack lay items begins f q framed pf.slots j m outer d0 u n framed
      (EmitsArms l a cells stack (words_at a f) (slots_of (place_of a) (variables q)) framed to
      way as' k k' block)
      (ArmsFine l a f pf.slots (slots_of (place_of a) (variables q)) scope as' later)
      (ArmsNeed as' env Must) to way Must k block pos scope later env top under d w

  abbrev pub ArmsSimulates : (as' : Arms) (to : List Spot) (way : Continuation)
      (Must : ℕ → Word → Type 0) (pos : ℕ) (env : Env) (top : ℕ) (under : Option ℕ) (d : Data)
      (w : World) → Type 0
  ArmsSimulates as' to way Must pos env top under d w =
      Does' lay items begins l.width cells
      (Given l a cells stack lay items framed f j pf.slots d0 m outer to way Must)
      (at (bases stack) lay items pos d) (m ∷ outer) w
      (arms l (words_at a) (room l a cells stack lay items begins) calls_n env top under as' w)

  -- what stands in this frame stands behind a branch that is taken
  pub stood_far : (p : ℕ) (Needs : ℕ → Word → Type 0) (d : Data) (w : World)
      → ((y : ℕ) (v : Word) → Needs y v → IsOwn l a f (slots_of (place_of a) (variables q))
      (place_of a y))
      → Stood l a cells stack lay framed f j pf.slots d0 (lay.address m) Needs d w
      → Stood l a cells stack lay framed f j pf.slots d0 (lay.address m) Needs
      (with_regs d (lay.far p d.regs)) w
  stood_far p Needs d w owned st =
      let d' = with_regs d (lay.far p d.regs) in
      let far = λ (r : ℕ) (z0 : r ≢ 0) (z7 : r ≢ 7). s.rises.far_keeps p r d.regs z0 z7 in
      let world = world_same l a cells stack lay d d' w st.world
      (good_far items lay (bases stack) s.rises p d st.world.good)
      (far 3 (omega arith) (omega arith)) (far 4 (omega arith) (omega arith)) refl refl in
      stood_same l a cells stack lay framed f j pf.slots (slots_of (place_of a) (variables q)) d0
      (lay.address m) Needs Needs d d' w w pf.enough st world
      (home_kept l a cells stack lay framed j (lay.address m) d d'
      (far 1 (omega arith) (omega arith)) refl st.home) (far 2 (omega arith) (omega arith)) refl
      (λ t. refl) seen (λ y v h. (h, owned y v h))
    where
      seen : (t : Spot) → IsPlace lay.code (bases stack) j pf.slots t
          → spots lay.code (bases stack) j pf.slots (with_regs d (lay.far p d.regs)) t ≡ spots
          lay.code (bases stack) j pf.slots d t
      seen (Reg r) o = let lo = o.0.0 in s.rises.far_keeps p r d.regs (omega arith) (omega arith)
      seen (Slot k) o = refl
      seen Scratch o = absurd (o.1 refl)

  -- ---- tests
  -- where tests hold the machine is behind them, and else at the label
  TestsDone : (c0 : Code) (env : Env) (Must : ℕ → Word → Type 0) (next p t : ℕ) (ts : List LowTest)
      (d : Data) (w : World) → Bool → Type 0
  TestsDone c0 env Must next p t ts d w true =
      (e : Data) ×
      (Ran lay items begins (at (bases stack) lay items p d) (m ∷ outer) w
      (at (bases stack) lay items (p + length (tests_items l a next ts)) e) (m ∷ outer) w
      × Stood l a cells stack lay framed f j pf.slots d0 (lay.address m) (Needed c0 env Must) e
      w)
  TestsDone c0 env Must next p t ts d w false =
      (e : Data) ×
      (Ran lay items begins (at (bases stack) lay items p d) (m ∷ outer) w
      (at (bases stack) lay items t e) (m ∷ outer) w
      × Stood l a cells stack lay framed f j pf.slots d0 (lay.address m) (Needed c0 env Must) e
      w)

  -- a branch on two words
  pub record OneBranch (cond : Cond) (c0 : Code) (env : Env) (Must : ℕ → Word → Type 0)
      (next p t : ℕ) (o o' : Operand) (d : Data) (w : World) (g h : ℕ) : Type 0 where
    pub to' : Data
    pub stood : Stood l a cells stack lay framed f j pf.slots d0 (lay.address m)
        (Needed c0 env Must) to' w
    pub same : is_taken (kind_of cond) g h ≡ false → Ran lay items begins
        (at (bases stack) lay items p d) (m ∷ outer) w
        (at (bases stack) lay items
        (p + length (branch_items cond next (source l a o) (source l a o'))) to') (m ∷ outer) w
    pub left_small : g < 2 ^ 32
    pub right_small : h < 2 ^ 32
    pub far : Data
    pub stood_far' : Stood l a cells stack lay framed f j pf.slots d0 (lay.address m)
        (Needed c0 env Must) far w
    pub other : is_taken (kind_of cond) g h ≡ true → Ran lay items begins
        (at (bases stack) lay items p d) (m ∷ outer) w (at (bases stack) lay items t far)
        (m ∷ outer) w

  pub one_branch : (cond : Cond) (c0 : Code) (scope later : List ℕ) (env : Env)
      (Must : ℕ → Word → Type 0) (next p t : ℕ) (o o' : Operand) (d : Data) (w : World) (g h : ℕ)
      → Stands items p (branch_items cond next (source l a o) (source l a o'))
      → label_from 0 items next ≡ Some t
      → Stood l a cells stack lay framed f j pf.slots d0 (lay.address m) (Needed c0 env Must) d w
      → ((y : ℕ) (v : Word) → env y ≡ Some v → is_among y scope ≡ true)
      → ((y : ℕ) → is_among y scope ≡ true → IsOwn l a f (slots_of (place_of a) (variables q))
      (place_of a y)) →
      ((y : ℕ) (v : Word) → Must y v → (is_among y scope ≡ true) × (is_among y later ≡ true))
      → ((y : ℕ) → is_among y (used_by o) ≡ true → is_among y (uses c0) ≡ true)
      → ((y : ℕ) → is_among y (used_by o') ≡ true → is_among y (uses c0) ≡ true) → IsSmall o
      → IsSmall o'
      → number_in l (words_at a) env o ≡ Some g → number_in l (words_at a) env o' ≡ Some h
      → OneBranch cond c0 env Must next p t o o' d w g h
  one_branch cond c0 scope later env Must next p t o o' d w g h stands to_label st scoped owned must
      incl incl' small small' e e' =
      let left = source l a o in
      let right = source l a o' in
      let r = operand_read l a cells stack lay items begins s calls_n n f q pf framed j m outer d0 u
      c0 scope env Must d w o (number g) st scoped owned incl small
      (number_there (operand l (words_at a) env o) g e) in
      let r' = operand_read l a cells stack lay items begins s calls_n n f q pf framed j m outer d0
      u c0 scope env Must d w o' (number h) st scoped owned incl' small'
      (number_there (operand l (words_at a) env o') h e') in
      let one = held_by lay.code (bases stack) j pf.slots 5 left d st.world.good st.frame
      (omega arith) (omega arith) r.0 in
      let e1 = with_reg (with_reg d 7 one.seven) 5 one.own in
      let k1 = hold_kept lay.code (bases stack) j pf.slots 5 left d one (omega arith) in
      let two = held_by lay.code (bases stack) j pf.slots 6 right e1 one.does.good
      (in_frame lay.code (bases stack) j pf.slots st.frame k1) (omega arith) (omega arith) r'.0
      in
      let e2 = with_reg (with_reg e1 7 two.seven) 6 two.own in
      let k2 = kept_on lay.code (bases stack) j pf.slots k1
      (hold_kept lay.code (bases stack) j pf.slots 6 right e1 two (omega arith)) in
      let left_is : register_value e2.regs (held_in 5 left) ≡ g =
      held_stays lay.code (bases stack) j pf.slots (set_reg e1.regs 7 two.seven) 5 0 6 two.own left
      r.0 (omega arith) (omega arith) (omega arith)
      ∙ held_stays lay.code (bases stack) j pf.slots e1.regs 5 0 7 two.seven left r.0 (omega arith)
      (omega arith) (omega arith)
      ∙ one.value_is' ∙ r.1 in
      let right_is : register_value e2.regs (held_in 6 right) ≡ h =
      two.value_is' ∙ read_same lay.code (bases stack) j pf.slots right d e1 r'.0
      (hold_seen lay.code (bases stack) j pf.slots 5 left d one (omega arith) (omega arith)) ∙
      r'.1 in
      let is = hold 5 left ++ hold 6 right in
      let branch = Branch cond (held_in 5 left) (held_in 6 right) next in
      let s1 = front items p (plain is) (branch ∷ []) stands in
      let s2 : Stands items (p + length (plain is)) (branch ∷ [])
      = back items p (plain is) (branch ∷ []) stands in
      let ran = plain_ran l a cells stack lay items begins is p d e2 (m ∷ outer) w st.world.good
      (does_on lay.code (bases stack) one.does two.does) s1 in
      let pb = p + length (plain is) in
      let world = world_kept l a cells stack lay j pf.slots d e2 w st.world two.does.good k2 in
      let seen = λ (y : Spot) (z : IsPlace lay.code (bases stack) j pf.slots y). hold_seen lay.code
      (bases stack) j pf.slots 6 right e1 two (omega arith) (omega arith) y z ∙ hold_seen
      lay.code (bases stack) j pf.slots 5 left d one (omega arith) (omega arith) y z in
      let st2 = stood_same l a cells stack lay framed f j pf.slots
      (slots_of (place_of a) (variables q)) d0 (lay.address m) (Needed c0 env Must)
      (Needed c0 env Must) d e2 w w pf.enough st world
      (home_kept l a cells stack lay framed j (lay.address m) d e2 k2.link refl st.home)
      k2.frame k2.words (λ y. refl) seen (λ y v z. (z, owned_of y v z)) in
      let compare : is_taken (kind_of cond) (register_value e2.regs (held_in 5 left))
      (register_value e2.regs (held_in 6 right)) ≡ is_taken (kind_of cond) g h
      = λ i. is_taken (kind_of cond) (left_is i) (right_is i) in
      let behind : suc pb ≡ p + length (branch_items cond next left right) = let y
      = length-append (plain is) (branch ∷ []) in omega arith in
      record {
        to' = e2;
        stood = st2;
        same = λ z.
            let step = goes_on (bases stack) lay items pb next (held_in 5 left) (held_in 6 right)
            cond e2 w.input (m ∷ outer) s2.0 (compare ∙ z) in
            ran_on lay items begins ran
            (quiet lay items begins w w
            (subst (λ y. Goes lay items 1 w.input (at (bases stack) lay items pb e2) (m ∷ outer)
            [] [] w.input (at (bases stack) lay items y e2) (m ∷ outer)) behind step) refl refl
            refl refl refl);
        left_small = subst (λ z. z < 2 ^ 32) left_is
            (two.does.good.small (held_in 5 left)
            (held_not_seven lay.code (bases stack) j pf.slots 5 left r.0 (omega arith)));
        right_small = subst (λ z. z < 2 ^ 32) right_is
            (two.does.good.small (held_in 6 right)
            (held_not_seven lay.code (bases stack) j pf.slots 6 right r'.0 (omega arith)));
        far = with_regs e2 (lay.far pb e2.regs);
        stood_far' = stood_far pb (Needed c0 env Must) e2 w owned_of st2;
        other = λ z.
            let step = branches (bases stack) lay items pb t next (held_in 5 left) (held_in 6 right)
            cond e2 w.input (m ∷ outer) s2.0 to_label (compare ∙ z) in
            ran_on lay items begins ran (quiet lay items begins w w step refl refl refl refl refl);
      }
    where
      owned_of : (y : ℕ) (v : Word) → Needed c0 env Must y v
          → IsOwn l a f (slots_of (place_of a) (variables q)) (place_of a y)
      owned_of y v (inl z) = owned y (scoped y v z.1)
      owned_of y v (inr z) = owned y (must y v z).0

  -- one test
  abbrev pub OneTest : (cond : Cond) (c0 : Code) (env : Env) (Must : ℕ → Word → Type 0)
      (next p t : ℕ) (x : LowTest) (d : Data) (w : World) (k : ℕ) → Type 0
  OneTest cond c0 env Must next p t x d w k = OneBranch cond c0 env Must next p t x.left
      (Num x.right) d w k x.right

  pub one_test : (cond : Cond) (c0 : Code) (scope later : List ℕ) (env : Env)
      (Must : ℕ → Word → Type 0) (next p t : ℕ) (x : LowTest) (d : Data) (w : World) (k : ℕ)
      → Stands items p (compare_items cond next (source l a x.left) x.right)
      → label_from 0 items next ≡ Some t
      → Stood l a cells stack lay framed f j pf.slots d0 (lay.address m) (Needed c0 env Must) d w
      → ((y : ℕ) (v : Word) → env y ≡ Some v → is_among y scope ≡ true)
      → ((y : ℕ) → is_among y scope ≡ true → IsOwn l a f (slots_of (place_of a) (variables q))
      (place_of a y)) →
      ((y : ℕ) (v : Word) → Must y v → (is_among y scope ≡ true) × (is_among y later ≡ true))
      → ((y : ℕ) → is_among y (used_by x.left) ≡ true → is_among y (uses c0) ≡ true)
      → TestsSmall (x ∷ []) → number_in l (words_at a) env x.left ≡ Some k
      → OneTest cond c0 env Must next p t x d w k
  one_test cond c0 scope later env Must next p t x d w k stands to_label st scoped owned must incl
      small e =
      one_branch cond c0 scope later env Must next p t x.left (Num x.right) d w k x.right stands
      to_label st scoped owned must incl (λ y z. absurd (cc)) small.0.0 small.0.1 e refl

  tests_done : (c0 : Code) (scope later : List ℕ) (env : Env) (Must : ℕ → Word → Type 0)
      (next t : ℕ) (ts : List LowTest) (p : ℕ) (d : Data) (w : World)
      → Stands items p (tests_items l a next ts) → label_from 0 items next ≡ Some t
      → Stood l a cells stack lay framed f j pf.slots d0 (lay.address m) (Needed c0 env Must) d w
      → ((y : ℕ) (v : Word) → env y ≡ Some v → is_among y scope ≡ true)
      → ((y : ℕ) → is_among y scope ≡ true → IsOwn l a f (slots_of (place_of a) (variables q))
      (place_of a y)) →
      ((y : ℕ) (v : Word) → Must y v → (is_among y scope ≡ true) × (is_among y later ≡ true))
      → ((y : ℕ) → is_among y (used_by_tests ts) ≡ true → is_among y (uses c0) ≡ true)
      → TestsSmall ts → (b : Bool) → holds l (words_at a) env ts ≡ Some b
      → TestsDone c0 env Must next p t ts d w b
  unfolding TestsDone
  tests_done c0 scope later env Must next t [] p d w stands to_label st scoped owned must incl small
      true e =
      let none : p ≡ p + 0 = omega arith in
      let ran = quiet lay items begins w w
      (stays lay items w.input (at (bases stack) lay items p d) (m ∷ outer)) refl refl refl refl
      refl in (
        d,
        (
          subst
              (λ y. Ran lay items begins (at (bases stack) lay items p d) (m ∷ outer) w
              (at (bases stack) lay items y d) (m ∷ outer) w) none ran,
          st,
        ),
      )
  tests_done c0 scope later env Must next t [] p d w stands to_label st scoped owned must incl small
      false e = absurd (cc)
  tests_done c0 scope later env Must next t (x ∷ ts) p d w stands to_label st scoped owned must incl
      small b e =
      by_number
      (λ d' p' st' stands' e'. tests_done c0 scope later env Must next t ts p' d' w stands'
      to_label st' scoped owned must
      (λ y h. incl y (among_right y (used_by x.left) (used_by_tests ts) h)) small.1 b e')
      (number_in l (words_at a) env x.left) refl e
    where
      by_same :
          ((d' : Data) (p' : ℕ) → Stood l a cells stack lay framed f j pf.slots d0 (lay.address m)
          (Needed c0 env Must) d' w → Stands items p' (tests_items l a next ts)
          → holds l (words_at a) env ts ≡ Some b → TestsDone c0 env Must next p' t ts d' w b)
          → (k : ℕ) → OneTest Ne c0 env Must next p t x d w k → (z : Bool) → nat_eq k x.right ≡ z
          → elim z [ true ↦ holds l (words_at a) env ts | false ↦ Some false ] ≡ Some b
          → TestsDone c0 env Must next p t (x ∷ ts) d w b
      by_same more k T false z e' = last b e'
        where
          last : (b : Bool) → Some false ≡ Some b → TestsDone c0 env Must next p t (x ∷ ts) d w b
          last false e = (T.far, (T.other (ap not z), T.stood_far'))
          last true e = absurd (cc)
      by_same more k T true z e' =
          let first = test_items next (source l a x.left) x.right in
          let rest = tests_items l a next ts in
          joined b (more T.to' (p + length (test_items next (source l a x.left) x.right)) T.stood
          (back items p (test_items next (source l a x.left) x.right) (tests_items l a next ts)
          stands) e')
        where
          joined : (b : Bool) → TestsDone c0 env Must next
              (p + length (test_items next (source l a x.left) x.right)) t ts T.to' w b
              → TestsDone c0 env Must next p t (x ∷ ts) d w b
          joined false h = (h.0, (ran_on lay items begins (T.same (ap not z)) h.1.0, h.1.1))
          joined true h =
              let first = test_items next (source l a x.left) x.right in
              let rest = tests_items l a next ts in
              let end : p + length first + length rest ≡ p + length (first ++ rest) = let y
              = length-append first rest in omega arith in (
                h.0,
                (
                  subst
                      (λ y. Ran lay items begins (at (bases stack) lay items p d) (m ∷ outer) w
                      (at (bases stack) lay items y h.0) (m ∷ outer) w) end
                      (ran_on lay items begins (T.same (ap not z)) h.1.0),
                  h.1.1,
                ),
              )

      by_number :
          ((d' : Data) (p' : ℕ) → Stood l a cells stack lay framed f j pf.slots d0 (lay.address m)
          (Needed c0 env Must) d' w → Stands items p' (tests_items l a next ts)
          → holds l (words_at a) env ts ≡ Some b → TestsDone c0 env Must next p' t ts d' w b)
          → (r : Option ℕ) → number_in l (words_at a) env x.left ≡ r
          → and_then r
          (λ k. elim (nat_eq k x.right)
          [ true ↦ holds l (words_at a) env ts | false ↦ Some false ]) ≡ Some b
          → TestsDone c0 env Must next p t (x ∷ ts) d w b
      by_number more None e1 e2 = absurd (cc)
      by_number more (Some k) e1 e2 =
          let T = one_test Ne c0 scope later env Must next p t x d w k
          (front items p (test_items next (source l a x.left) x.right) (tests_items l a next ts)
          stands) to_label st scoped owned must
          (λ y h. incl y (among_left y (used_by x.left) (used_by_tests ts) h)) (small.0, tt) e1
          in
          by_same more k T (nat_eq k x.right) refl e2

  -- the items of an arm and the arms behind it, and those of arms and the first behind them
  abbrev pub InOrder : (ts : List LowTest) (c : Code) (as' : Arms) (to : List Spot)
      (way : Continuation) (k k' : ℕ) (block : List Item) → Type 0
  InOrder ts c as' to way k k' block =
      (i : ℕ) × (inner : List Item) × Emits l a cells stack (words_at a f)
      (slots_of (place_of a) (variables q)) framed to (continued_by_jump way) c (suc k) i inner
      × Then (tests_items l a k ts ++ (inner ++ Label k ∷ []))
      (EmitsArms l a cells stack (words_at a f) (slots_of (place_of a) (variables q)) framed to
      way as' i k') block

  abbrev pub Turned : (t : LowTest) (c : Code) (as' : Arms) (to : List Spot) (way : Continuation)
      (k k' : ℕ) (block : List Item) → Type 0
  Turned t c as' to way k k' block =
      (i : ℕ) × (others : List Item) × EmitsArms l a cells stack (words_at a f)
      (slots_of (place_of a) (variables q)) framed to (continued_by_jump way) as' (suc k) i
      others
      × Then (match_items k (source l a t.left) t.right ++ (others ++ Label k ∷ []))
      (Emits l a cells stack (words_at a f) (slots_of (place_of a) (variables q)) framed to way
      c i k') block

  module _ (ts : List LowTest) (c : Code) (as' : Arms) (to : List Spot) (way : Continuation)
      (Must : ℕ → Word → Type 0) (k k' : ℕ) (block : List Item) (p : ℕ) (scope later : List ℕ)
      (env : Env) (top : ℕ) (under : Option ℕ) (d : Data) (w : World)
      (b : ArmsBlock (arm ts c as') to way Must k k' block p scope later env top under d w)
      (h : InOrder ts c as' to way k k' block) where
    tests : List Item
    tests = tests_items l a k ts

    parts : Cut items p (tests_items l a k ts ++ (h.1 ++ Label k ∷ [])) h.3.0 block
    parts = cut items p (tests_items l a k ts ++ (h.1 ++ Label k ∷ [])) h.3.0 block h.3.1 b.stands

    behind_tests : Stands items (p + length (tests_items l a k ts)) (h.1 ++ Label k ∷ [])
    behind_tests = back items p (tests_items l a k ts) (h.1 ++ Label k ∷ []) parts.first

    label_here : slice_get items (p + length (tests_items l a k ts) + length h.1) ≡ Some (Label k)
    label_here = (back items (p + length (tests_items l a k ts)) h.1 (Label k ∷ []) behind_tests).0

    pub arm_simulated :
        ((d' : Data) → Block l a cells stack lay items begins f q framed pf.slots j m outer d0 u n c
        to (continued_by_jump way) Must (suc k) h.0 h.1 (p + length (tests_items l a k ts)) scope
        later env top under d' w
        → Simulates l a cells stack lay items begins f q framed pf.slots j m outer d0 u n calls_n c
        to (continued_by_jump way) Must (p + length (tests_items l a k ts)) env top under d' w)
        → ((d' : Data) → ArmsBlock as' to way Must h.0 k' h.3.0
        (p + length (tests_items l a k ts ++ (h.1 ++ Label k ∷ []))) scope later env top under
        d' w
        → ArmsSimulates as' to way Must (p + length (tests_items l a k ts ++ (h.1 ++ Label k ∷ [])))
        env top under d' w)
        → ArmsSimulates (arm ts c as') to way Must p env top under d w
    unfolding arms TestsDone
    arm_simulated block_done more = by_holds (holds l (words_at a) env ts) refl
      where
        c0 : Code
        c0 = choose (arm ts c as')

        G : List Word → World → Point → List ℕ → Type 0
        G = Given l a cells stack lay items framed f j pf.slots d0 m outer to way Must

        taken : holds l (words_at a) env ts ≡ Some true
            → Does' lay items begins l.width cells
            (Given l a cells stack lay items framed f j pf.slots d0 m outer to way Must)
            (at (bases stack) lay items p d) (m ∷ outer) w
            (code l (words_at a) (room l a cells stack lay items begins) calls_n env top under c w)
        taken e =
            let T = tests_done (choose (arm ts c as')) scope later env Must k
            (p + length (tests_items l a k ts) + length h.1) ts p d w
            (front items p (tests_items l a k ts) (h.1 ++ Label k ∷ []) parts.first)
            (s.once (p + length (tests_items l a k ts) + length h.1) k label_here) b.stood b.scoped
            b.owned b.must (λ y h. among_left y (used_by_tests ts) (uses c ++ arms_uses as') h)
            b.fine.0 true e in
            let weaker = λ (y : ℕ) (v : Word) (h : Needed c env Must y v). weaken_code y v h in
            let done = block_done T.0 (record {
              emits = h.2;
              stands = front items (p + length (tests_items l a k ts)) h.1 (Label k ∷ [])
                  behind_tests;
              ready = further_ready l a cells stack lay items begins s calls_n n f q pf framed j m
                  outer d0 u way (p + length block)
                  (p + length (tests_items l a k ts) + length h.1) b.ready;
              above = let le = b.above in omega arith;
              fine = b.fine.1.0;
              scoped = b.scoped;
              owned = b.owned;
              must = b.must;
              clear = b.clear;
              to_own = b.to_own;
              to_differ = b.to_differ;
              in_registers = further_registers l a cells stack lay items begins s calls_n n f q pf
                  framed j m outer d0 u way to b.in_registers;
              stood = stood_weaken l a cells stack lay framed f j pf.slots d0 (lay.address m)
                  (Needed (choose (arm ts c as')) env Must) (Needed c env Must) T.0 w weaken_code
                  T.1.1;
              base = b.base;
              left = b.left;
              top_is = b.top_is;
              under_is = λ v z. let is = b.under_is v z in (is.0, ap continued_by_jump is.1);
            }) in
            does_after lay items begins l.width cells
            (Given l a cells stack lay items framed f j pf.slots d0 m outer to way Must)
            (code l (words_at a) (room l a cells stack lay items begins) calls_n env top under c
            w) T.1.0
            (does_map lay items begins l.width cells
            (Given l a cells stack lay items framed f j pf.slots d0 m outer to
            (continued_by_jump way) Must)
            (Given l a cells stack lay items framed f j pf.slots d0 m outer to way Must)
            (at (bases stack) lay items (p + length (tests_items l a k ts)) T.0) (m ∷ outer) w
            (code l (words_at a) (room l a cells stack lay items begins) calls_n env top under c w)
            (further_given l a cells stack lay items begins s calls_n n f q pf framed j m outer d0 u
            to way Must) done)
          where
            weaken_code : (y : ℕ) (v : Word) → Needed c env Must y v
                → Needed (choose (arm ts c as')) env Must y v
            weaken_code y v (inl h) = inl (
              among_right y (used_by_tests ts) (uses c ++ arms_uses as')
                  (among_left y (uses c) (arms_uses as') h.0),
              h.1,
            )
            weaken_code y v (inr h) = inr h

        passed : holds l (words_at a) env ts ≡ Some false
            → Does' lay items begins l.width cells
            (Given l a cells stack lay items framed f j pf.slots d0 m outer to way Must)
            (at (bases stack) lay items p d) (m ∷ outer) w
            (arms l (words_at a) (room l a cells stack lay items begins) calls_n env top under as'
            w)
        passed e =
            let place = p + length (tests_items l a k ts) + length h.1 in
            let T = tests_done (choose (arm ts c as')) scope later env Must k
            (p + length (tests_items l a k ts) + length h.1) ts p d w
            (front items p (tests_items l a k ts) (h.1 ++ Label k ∷ []) parts.first)
            (s.once (p + length (tests_items l a k ts) + length h.1) k label_here) b.stood b.scoped
            b.owned b.must (λ y h. among_left y (used_by_tests ts) (uses c ++ arms_uses as') h)
            b.fine.0 false e in
            let pass = passes_label l a cells stack lay items begins s k place T.0 (m ∷ outer) w
            (let le = b.above in omega arith) label_here in
            let behind : suc place ≡ p + length (tests_items l a k ts ++ (h.1 ++ Label k ∷ []))
            = let y = length-append (tests_items l a k ts) (h.1 ++ Label k ∷ []) in let z
            = length-append h.1 (Label k ∷ []) in omega arith in
            let ran = ran_on lay items begins T.1.0
            (subst (λ y. Ran lay items begins (at (bases stack) lay items place T.0) (m ∷ outer)
            w (at (bases stack) lay items y T.0) (m ∷ outer) w) behind pass) in
            does_after lay items begins l.width cells
            (Given l a cells stack lay items framed f j pf.slots d0 m outer to way Must)
            (arms l (words_at a) (room l a cells stack lay items begins) calls_n env top under
            as' w) ran
            (more T.0 (record {
              emits = h.3.2;
              stands = parts.more;
              ready = ready_at l a cells stack lay items begins way (p + length block)
                  (p + length (tests_items l a k ts ++ (h.1 ++ Label k ∷ [])) + length h.3.0)
                  parts.end b.ready;
              above = let le = b.above in let up = emits_up l a cells stack (words_at a f)
                  (slots_of (place_of a) (variables q)) framed c to (continued_by_jump way) (suc k)
                  h.0 h.1 h.2 in omega arith;
              fine = b.fine.1.1;
              scoped = b.scoped;
              owned = b.owned;
              must = b.must;
              clear = b.clear;
              to_own = b.to_own;
              to_differ = b.to_differ;
              in_registers = b.in_registers;
              stood = stood_weaken l a cells stack lay framed f j pf.slots d0 (lay.address m)
                  (Needed (choose (arm ts c as')) env Must) (ArmsNeed as' env Must) T.0 w
                  weaken_arms T.1.1;
              base = b.base;
              left = b.left;
              top_is = b.top_is;
              under_is = b.under_is;
            }))
          where
            weaken_arms : (y : ℕ) (v : Word) → ArmsNeed as' env Must y v
                → Needed (choose (arm ts c as')) env Must y v
            weaken_arms y v (inl h) = inl (
              among_right y (used_by_tests ts) (uses c ++ arms_uses as')
                  (among_right y (uses c) (arms_uses as') h.0),
              h.1,
            )
            weaken_arms y v (inr h) = inr h

        by_holds : (r : Option Bool) → holds l (words_at a) env ts ≡ r
            → Does' lay items begins l.width cells
            (Given l a cells stack lay items framed f j pf.slots d0 m outer to way Must)
            (at (bases stack) lay items p d) (m ∷ outer) w
            (need r w
            (λ yes. elim yes [
              | true ↦ code l (words_at a) (room l a cells stack lay items begins) calls_n env top
                  under c w
              | false ↦ arms l (words_at a) (room l a cells stack lay items begins)
                  calls_n env top under as' w
            ]))
        by_holds None e = tt
        by_holds (Some true) e = taken e
        by_holds (Some false) e = passed e

  -- one test that holds or not
  module _ (t : LowTest) (c : Code) (as' : Arms) (to : List Spot) (way : Continuation)
      (Must : ℕ → Word → Type 0) (k k' : ℕ) (block : List Item) (p : ℕ) (scope later : List ℕ)
      (env : Env) (top : ℕ) (under : Option ℕ) (d : Data) (w : World)
      (b : Block l a cells stack lay items begins f q framed pf.slots j m outer d0 u n
      (choose (arm (t ∷ []) c as')) to way Must k k' block p scope later env top under d w)
      (h : Turned t c as' to way k k' block) where
    turned_parts : Cut items p (match_items k (source l a t.left) t.right ++ (h.1 ++ Label k ∷ []))
        h.3.0 block
    turned_parts = cut items p (match_items k (source l a t.left) t.right ++ (h.1 ++ Label k ∷ []))
        h.3.0 block h.3.1 b.stands

    behind_match : Stands items (p + length (match_items k (source l a t.left) t.right))
        (h.1 ++ Label k ∷ [])
    behind_match = back items p (match_items k (source l a t.left) t.right) (h.1 ++ Label k ∷ [])
        turned_parts.first

    last_label : slice_get items
        (p + length (match_items k (source l a t.left) t.right) + length h.1) ≡ Some (Label k)
    last_label =
        (back items (p + length (match_items k (source l a t.left) t.right)) h.1 (Label k ∷ [])
        behind_match).0

    pub turned_simulated :
        ((d' : Data) → Block l a cells stack lay items begins f q framed pf.slots j m outer d0 u n c
        to way Must h.0 k' h.3.0
        (p + length (match_items k (source l a t.left) t.right ++ (h.1 ++ Label k ∷ []))) scope
        later env top under d' w
        → Simulates l a cells stack lay items begins f q framed pf.slots j m outer d0 u n calls_n c
        to way Must
        (p + length (match_items k (source l a t.left) t.right ++ (h.1 ++ Label k ∷ []))) env
        top under d' w)
        → ((d' : Data) → ArmsBlock as' to (continued_by_jump way) Must (suc k) h.0 h.1
        (p + length (match_items k (source l a t.left) t.right)) scope later env top under d' w
        → ArmsSimulates as' to (continued_by_jump way) Must
        (p + length (match_items k (source l a t.left) t.right)) env top under d' w)
        → ArmsSimulates (arm (t ∷ []) c as') to way Must p env top under d w
    unfolding arms
    turned_simulated block_done more = by_holds (holds l (words_at a) env (t ∷ [])) refl
      where
        tested : (number' : ℕ) → number_in l (words_at a) env t.left ≡ Some number'
            → OneTest Eq (choose (arm (t ∷ []) c as')) env Must k p
            (p + length (match_items k (source l a t.left) t.right) + length h.1) t d w number'
        tested number' e =
            one_test Eq (choose (arm (t ∷ []) c as')) scope later env Must k p
            (p + length (match_items k (source l a t.left) t.right) + length h.1) t d w number'
            (front items p (match_items k (source l a t.left) t.right) (h.1 ++ Label k ∷ [])
            turned_parts.first)
            (s.once (p + length (match_items k (source l a t.left) t.right) + length h.1) k
            last_label) b.stood b.scoped b.owned b.must
            (λ y z. among_left y (used_by_tests (t ∷ [])) (uses c ++ arms_uses as')
            (among_left y (used_by t.left) [] z)) b.fine.0 e

        held : holds l (words_at a) env (t ∷ []) ≡ Some true
            → Does' lay items begins l.width cells
            (Given l a cells stack lay items framed f j pf.slots d0 m outer to way Must)
            (at (bases stack) lay items p d) (m ∷ outer) w
            (code l (words_at a) (room l a cells stack lay items begins) calls_n env top under c w)
        held e =
            let is = held_or_not (number_in l (words_at a) env t.left) t.right true e in
            let T = tested is.0 is.1.0 in
            let place = p + length (match_items k (source l a t.left) t.right) + length h.1 in
            let pass = passes_label l a cells stack lay items begins s k place T.far (m ∷ outer) w
            (let le = b.above in omega arith) last_label in
            let behind : suc place ≡ p + length
            (match_items k (source l a t.left) t.right ++ (h.1 ++ Label k ∷ [])) = let y
            = length-append (match_items k (source l a t.left) t.right) (h.1 ++ Label k ∷ [])
            in let z = length-append h.1 (Label k ∷ []) in omega arith in
            let ran = ran_on lay items begins (T.other is.1.1)
            (subst (λ y. Ran lay items begins (at (bases stack) lay items place T.far)
            (m ∷ outer) w (at (bases stack) lay items y T.far) (m ∷ outer) w) behind pass) in
            does_after lay items begins l.width cells
            (Given l a cells stack lay items framed f j pf.slots d0 m outer to way Must)
            (code l (words_at a) (room l a cells stack lay items begins) calls_n env top under c
            w) ran
            (block_done T.far (record {
              emits = h.3.2;
              stands = turned_parts.more;
              ready = ready_at l a cells stack lay items begins way (p + length block)
                  (p + length (match_items k (source l a t.left) t.right ++ (h.1 ++ Label k ∷ [])) +
                  length h.3.0) turned_parts.end b.ready;
              above = let le = b.above in let up = arms_up l a cells stack (words_at a f)
                  (slots_of (place_of a) (variables q)) framed as' to (continued_by_jump way)
                  (suc k) h.0 h.1 h.2 in omega arith;
              fine = b.fine.1.0;
              scoped = b.scoped;
              owned = b.owned;
              must = b.must;
              clear = b.clear;
              to_own = b.to_own;
              to_differ = b.to_differ;
              in_registers = b.in_registers;
              stood = stood_weaken l a cells stack lay framed f j pf.slots d0 (lay.address m)
                  (Needed (choose (arm (t ∷ []) c as')) env Must) (Needed c env Must) T.far w
                  weaken_code T.stood_far';
              base = b.base;
              left = b.left;
              top_is = b.top_is;
              under_is = b.under_is;
            }))
          where
            weaken_code : (y : ℕ) (v : Word) → Needed c env Must y v
                → Needed (choose (arm (t ∷ []) c as')) env Must y v
            weaken_code y v (inl z) = inl (
              among_right y (used_by_tests (t ∷ [])) (uses c ++ arms_uses as')
                  (among_left y (uses c) (arms_uses as') z.0),
              z.1,
            )
            weaken_code y v (inr z) = inr z

        not_held : holds l (words_at a) env (t ∷ []) ≡ Some false
            → Does' lay items begins l.width cells
            (Given l a cells stack lay items framed f j pf.slots d0 m outer to way Must)
            (at (bases stack) lay items p d) (m ∷ outer) w
            (arms l (words_at a) (room l a cells stack lay items begins) calls_n env top under as'
            w)
        not_held e =
            let is = held_or_not (number_in l (words_at a) env t.left) t.right false e in
            let T = tested is.0 is.1.0 in
            let done = more T.to' (record {
              emits = h.2;
              stands = front items (p + length (match_items k (source l a t.left) t.right)) h.1
                  (Label k ∷ []) behind_match;
              ready = further_ready l a cells stack lay items begins s calls_n n f q pf framed j m
                  outer d0 u way (p + length block)
                  (p + length (match_items k (source l a t.left) t.right) + length h.1) b.ready;
              above = let le = b.above in omega arith;
              fine = b.fine.1.1;
              scoped = b.scoped;
              owned = b.owned;
              must = b.must;
              clear = b.clear;
              to_own = b.to_own;
              to_differ = b.to_differ;
              in_registers = further_registers l a cells stack lay items begins s calls_n n f q pf
                  framed j m outer d0 u way to b.in_registers;
              stood = stood_weaken l a cells stack lay framed f j pf.slots d0 (lay.address m)
                  (Needed (choose (arm (t ∷ []) c as')) env Must) (ArmsNeed as' env Must) T.to' w
                  weaken_arms T.stood;
              base = b.base;
              left = b.left;
              top_is = b.top_is;
              under_is = λ v z. let is = b.under_is v z in (is.0, ap continued_by_jump is.1);
            }) in
            does_after lay items begins l.width cells
            (Given l a cells stack lay items framed f j pf.slots d0 m outer to way Must)
            (arms l (words_at a) (room l a cells stack lay items begins) calls_n env top under
            as' w) (T.same is.1.1)
            (does_map lay items begins l.width cells
            (Given l a cells stack lay items framed f j pf.slots d0 m outer to
            (continued_by_jump way) Must)
            (Given l a cells stack lay items framed f j pf.slots d0 m outer to way Must)
            (at (bases stack) lay items (p + length (match_items k (source l a t.left) t.right))
            T.to') (m ∷ outer) w
            (arms l (words_at a) (room l a cells stack lay items begins) calls_n env top under as'
            w) (further_given l a cells stack lay items begins s calls_n n f q pf framed j m outer
            d0 u to way Must) done)
          where
            weaken_arms : (y : ℕ) (v : Word) → ArmsNeed as' env Must y v
                → Needed (choose (arm (t ∷ []) c as')) env Must y v
            weaken_arms y v (inl z) = inl (
              among_right y (used_by_tests (t ∷ [])) (uses c ++ arms_uses as')
                  (among_right y (uses c) (arms_uses as') z.0),
              z.1,
            )
            weaken_arms y v (inr z) = inr z

        by_holds : (r : Option Bool) → holds l (words_at a) env (t ∷ []) ≡ r
            → Does' lay items begins l.width cells
            (Given l a cells stack lay items framed f j pf.slots d0 m outer to way Must)
            (at (bases stack) lay items p d) (m ∷ outer) w
            (need r w
            (λ yes. elim yes [
              | true ↦ code l (words_at a) (room l a cells stack lay items begins) calls_n env top
                  under c w
              | false ↦ arms l (words_at a) (room l a cells stack lay items begins)
                  calls_n env top under as' w
            ]))
        by_holds None e = tt
        by_holds (Some true) e = held e
        by_holds (Some false) e = not_held e

  pub turned_arm : (ts : List LowTest) (t : LowTest) (c : Code) (as' : Arms) (to : List Spot)
      (way : Continuation) (Must : ℕ → Word → Type 0) (k k' : ℕ) (block : List Item) (p : ℕ)
      (scope later : List ℕ) (env : Env) (top : ℕ) (under : Option ℕ) (d : Data) (w : World)
      → ts ≡ t ∷ [] → Block l a cells stack lay items begins f q framed pf.slots j m outer d0 u n
      (choose (arm ts c as')) to way Must k k' block p scope later env top under d w
      → (h : Turned t c as' to way k k' block)
      → ((d' : Data) → Block l a cells stack lay items begins f q framed pf.slots j m outer d0 u n c
      to way Must h.0 k' h.3.0
      (p + length (match_items k (source l a t.left) t.right ++ (h.1 ++ Label k ∷ []))) scope
      later env top under d' w
      → Simulates l a cells stack lay items begins f q framed pf.slots j m outer d0 u n calls_n c to
      way Must (p + length (match_items k (source l a t.left) t.right ++ (h.1 ++ Label k ∷ [])))
      env top under d' w)
      → ((d' : Data) → ArmsBlock as' to (continued_by_jump way) Must (suc k) h.0 h.1
      (p + length (match_items k (source l a t.left) t.right)) scope later env top under d' w
      → ArmsSimulates as' to (continued_by_jump way) Must
      (p + length (match_items k (source l a t.left) t.right)) env top under d' w)
      → ArmsSimulates (arm ts c as') to way Must p env top under d w
  turned_arm ts t c as' to way Must k k' block p scope later env top under d w e b h block_done more
      =
      subst (λ x. Block l a cells stack lay items begins f q framed pf.slots j m outer d0 u n
      (choose (arm x c as')) to way Must k k' block p scope later env top under d w
      → ArmsSimulates (arm x c as') to way Must p env top under d w) (sym e)
      (λ b'. turned_simulated t c as' to way Must k k' block p scope later env top under d w b' h
      block_done more) b

  -- a choice whose arms stand in order
  pub arms_block : (as' : Arms) (to : List Spot) (way : Continuation) (Must : ℕ → Word → Type 0)
      (k k' : ℕ) (block : List Item) (p : ℕ) (scope later : List ℕ) (env : Env) (top : ℕ)
      (under : Option ℕ) (d : Data) (w : World)
      → Block l a cells stack lay items begins f q framed pf.slots j m outer d0 u n (choose as') to
      way Must k k' block p scope later env top under d w
      → EmitsArms l a cells stack (words_at a f) (slots_of (place_of a) (variables q)) framed to way
      as' k k' block → ArmsBlock as' to way Must k k' block p scope later env top under d w
  arms_block as' to way Must k k' block p scope later env top under d w b h = record {
    emits = h;
    stands = b.stands;
    ready = b.ready;
    above = b.above;
    fine = b.fine;
    scoped = b.scoped;
    owned = b.owned;
    must = b.must;
    clear = b.clear;
    to_own = b.to_own;
    to_differ = b.to_differ;
    in_registers = b.in_registers;
    stood = b.stood;
    base = b.base;
    left = b.left;
    top_is = b.top_is;
    under_is = b.under_is;
  }

  -- a choice is its arms
  pub choice : (as' : Arms) (to : List Spot) (way : Continuation) (Must : ℕ → Word → Type 0)
      (k k' : ℕ) (block : List Item) (p : ℕ) (scope later : List ℕ) (env : Env) (top : ℕ)
      (under : Option ℕ) (d : Data) (w : World)
      → ArmsSimulates as' to way Must p env top under d w
      → Simulates l a cells stack lay items begins f q framed pf.slots j m outer d0 u n calls_n
      (choose as') to way Must p env top under d w
  unfolding code
  choice as' to way Must k k' block p scope later env top under d w h = h

  -- the last arm is its block
  pub last_arm : (c : Code) (to : List Spot) (way : Continuation) (Must : ℕ → Word → Type 0)
      (k k' : ℕ) (block : List Item) (p : ℕ) (scope later : List ℕ) (env : Env) (top : ℕ)
      (under : Option ℕ) (d : Data) (w : World)
      → Simulates l a cells stack lay items begins f q framed pf.slots j m outer d0 u n calls_n c to
      way Must p env top under d w → ArmsSimulates (otherwise c) to way Must p env top under d w
  unfolding arms
  last_arm c to way Must k k' block p scope later env top under d w h = h
