-- A program for which instructions can be selected is one whose items can be written.
use Rattle.std.proofs.Common.{◌≡◌, ℕ, zero, suc, ◌+◌, ◌*◌, ◌^◌, ◌<◌, ◌≤◌, true, false, List, [], ◌∷◌, ◌++◌, map, length, inl, inr, Some, None, Option, refl, sym, ap, ◌∙◌, subst, arith}
use Rattle.std.specs.Prelude.{◌||◌, slice_get}
use Rattle.std.proofs.Math.Nat.{mul-le-mul}
use Rattle.std.proofs.lemmas.Bool.Decides.{nat_tests}
use Rattle.parallel_move.specs.declared.Spot.{Spot}
use Rattle.parallel_move.specs.declared.Spot.TheVariants.{Reg, Slot, Scratch}
use Rattle.parallel_move.specs.Moves.{same}
use Rattle.parallel_move.proofs.Origins.{differ}
use Rattle.low_code.specs.declared.program.Operand.{Operand}
use Rattle.low_code.specs.declared.program.Operand.TheVariants.{Var, Num, Cell}
use Rattle.low_code.specs.declared.program.LowTest.{LowTest}
use Rattle.low_code.specs.Tree.{Code, set, prim, load, save, take, put, get, call, join, give, tail, choose, fail, Arms, otherwise, arm, Procedure, Program}
use Rattle.low_code.specs.Formed.{OperandInScope, OperandsInScope, TestsInScope, Scoped, ArmsScoped, Site, calls_in, arms_calls, binds, arms_binds, variables, all_variables, CallsInRange, AllCallsInRange, IsStartWellFormed}
use Rattle.low_code.specs.Size.{code_size, arms_size}
use Rattle.register_alloc.specs.Assignment.{Assignment, place_of, saves_at, words_at}
use Rattle.register_alloc.specs.Live.{EachBinding, EachBindingOfArms}
use Rattle.register_alloc.specs.Fits.{words_of_frame, IsPlace, IsSlot, IsRegister, Apart, ClearOf, Ascending}
use Rattle.rv32_select.specs.Emit.{argument_spot, argument_spots}
use Rattle.rv32_select.specs.Ranges.{IsSpot, AreSpots, AreRegisters, is_spot_in, AllSpotsDiffer, AreTargets}
use Rattle.rv32_select.specs.Writable.{HasPlace, HavePlaces, OperandPlaced, OperandsPlaced, TestsPlaced, Placed, ArmsPlaced, ProcedurePlaced, CanWrite}
use Rattle.rv32_select.specs.Selectable.{Selectable}
use Rattle.rv32_select.proofs.Among.{Within, within_cons, within_append, within_left, within_right, within_tail, within_head, variables_within, sites_within, site_among}
use Rattle.register_alloc.proofs.NotLater.{scoped_at}
use Rattle.seq.specs.Lists.{is_among}
use Rattle.seq.proofs.Counted.{among_later, among_first}
use Rattle.rv32_select.proofs.FittingPlaces.{size_at}

spot_of : (s : Spot) → IsPlace s → IsSpot s
spot_of (Reg r) h = ((let lt = h.1 in grind (arith, nat_tests)), λ e. cc)
spot_of (Slot k) h = (refl, λ e. cc)
spot_of Scratch h = absurd h

-- ---- lists of calls

abbrev EachCall : (Site → Type 0) → List Site → Type 0
EachCall P [] = Unit {0}
EachCall P (s ∷ ss) = P s × EachCall P ss

each_call : (P : Site → Type 0) (ss : List Site) →
    ((k : ℕ) (s : Site) → slice_get ss k ≡ Some s → P s) → EachCall P ss
each_call P [] h = tt
each_call P (s ∷ ss) h = (h zero s refl, each_call P ss (λ k t e. h (suc k) t e))

each_split : (P : Site → Type 0) (a b : List Site) → EachCall P (a ++ b) → EachCall P a
    × EachCall P b
each_split P [] b h = (tt, h)
each_split P (s ∷ a) b h = let more = each_split P a b h.1 in ((h.0, more.0), more.1)

in_range_at : (n : ℕ) (ss : List Site) (k : ℕ) (s : Site) → CallsInRange n ss
    → slice_get ss k ≡ Some s → s.1 < n
in_range_at n [] k s h e = cc
in_range_at n (t ∷ ss) zero s h e = let is : t ≡ s = cc in subst (λ u. u.1 < n) is h.0
in_range_at n (t ∷ ss) (suc k) s h e = in_range_at n ss k s h.1 e

calls_at : (n : ℕ) (qs : List Procedure) (f : ℕ) (q : Procedure) → AllCallsInRange n qs
    → slice_get qs f ≡ Some q → CallsInRange n (calls_in q.body)
calls_at n [] f q h e = cc
calls_at n (p ∷ qs) zero q h e = let is : p ≡ q = cc
    in subst (λ r. CallsInRange n (calls_in r.body)) is h.0
calls_at n (p ∷ qs) (suc f) q h e = calls_at n qs f q h.1 e

-- ---- registers that are saved

are_registers : (rs : List ℕ) → ((r : ℕ) → is_among r rs ≡ true → r < 32) → AreRegisters rs
are_registers [] h = tt
are_registers (r ∷ rs) h =
    (h r (among_first r rs), are_registers rs (λ q m. h q (among_later q r rs m)))

ascending_few : (r : ℕ) (rs : List ℕ) → Ascending (r ∷ rs) → AreRegisters (r ∷ rs)
    → r + length (r ∷ rs) ≤ 32
ascending_few r [] a h = let lt = h.0 in omega (arith, lt)
ascending_few r (q ∷ rs) a h = let more = ascending_few q rs a.1 h.1 in let lt = a.0
    in omega (arith, more, lt)

few_registers : (rs : List ℕ) → Ascending rs → AreRegisters rs
    → ((r : ℕ) → is_among r rs ≡ true → 8 ≤ r) → length rs ≤ 24
few_registers [] a h l = omega arith
few_registers (r ∷ rs) a h l = let few = ascending_few r rs a h in let low = l r (among_first r rs)
    in omega (arith, few, low)

module _ (l : Program) (a : Assignment) (cells stack : ℕ) (s : Selectable l a cells stack) where
  abbrev all : List ℕ
  all = all_variables l.procs

  abbrev globals : ℕ
  globals = length l.globals

  has_place : (x : ℕ) → is_among x all ≡ true → HasPlace l a x
  has_place x h = (s.fits.covers.variables x h, spot_of (place_of a x) (s.fits.places x h))

  have_places : (xs : List ℕ) → Within xs all → HavePlaces l a xs
  have_places [] w = tt
  have_places (x ∷ xs) w =
      (has_place x (within_head x xs all w), have_places xs (within_tail x xs all w))

  operand_placed : (scope : List ℕ) (b : Operand) → Within scope all
      → OperandInScope globals scope b → OperandPlaced l a b
  operand_placed scope (Var x) w k = has_place x (w x k)
  operand_placed scope (Num n) w k = tt
  operand_placed scope (Cell i) w k = tt

  operands_placed : (scope : List ℕ) (bs : List Operand) → Within scope all
      → OperandsInScope globals scope bs → OperandsPlaced l a bs
  operands_placed scope [] w k = tt
  operands_placed scope (b ∷ bs) w k =
      (operand_placed scope b w k.0, operands_placed scope bs w k.1)

  tests_placed : (scope : List ℕ) (ts : List LowTest) → Within scope all
      → TestsInScope globals scope ts → TestsPlaced l a ts
  tests_placed scope [] w k = tt
  tests_placed scope (t ∷ ts) w k = (operand_placed scope t.left w k.0, tests_placed scope ts w k.1)

  -- places of variables that are bound together
  apart_from : (x : ℕ) (xs : List ℕ) → ClearOf (place_of a) x xs
      → is_spot_in (place_of a x) (map (place_of a) xs) ≡ false
  apart_from x [] h = refl
  apart_from x (y ∷ xs) h =
      let e = differ (place_of a x) (place_of a y) (λ p. h.0 (sym p)) in
      ap (λ b. b || is_spot_in (place_of a x) (map (place_of a) xs)) e ∙ apart_from x xs h.1

  different : (scope xs : List ℕ) (c : Code) (later : List ℕ) → Apart (place_of a) scope xs c later
      → AllSpotsDiffer (map (place_of a) xs)
  different scope [] c later h = tt
  different scope (x ∷ xs) c later h = (apart_from x xs h.1.0, different scope xs c later h.1.1)

  -- ---- blocks

  abbrev CallOk : Site → Type 0
  CallOk t = (t.1 < length l.procs) × (t.0 < length a.saves) × AreRegisters (saves_at a t.0)
      × (length (saves_at a t.0) ≤ 24)

  call_ok : (f : ℕ) (q : Procedure) → slice_get l.procs f ≡ Some q → (k : ℕ) (t : Site)
      → slice_get (calls_in q.body) k ≡ Some t → CallOk t
  call_ok f q e k t there =
      let site = t.0 in
      let called = t.1 in
      let range : (r : ℕ) → is_among r (saves_at a site) ≡ true → (8 ≤ r) × (r < 32) = λ r m.
      let is = (s.fits.saved f k site called r q e there).0 m in s.fits.changed called r is.1.1.1 in
      let registers = are_registers (saves_at a site) (λ r m. (range r m).1) in (
        in_range_at (length l.procs) (calls_in q.body) k t
            (calls_at (length l.procs) l.procs f q s.formed.calls_in_range e) there,
        s.fits.covers.sites site
            (sites_within l.procs f q e site (site_among (calls_in q.body) k site called there)),
        registers,
        few_registers (saves_at a site) (s.fits.ascending site) registers (λ r m. (range r m).0),
      )

  fits_heap : (n : ℕ) → n ≤ 25165824 → 4 * l.width * n < 2 ^ 32
  fits_heap n h =
      let width : 4 * l.width ≤ 56 = omega (arith, s.width.1) in
      let most : 4 * l.width * n ≤ 56 * 25165824 = mul-le-mul width h in
      omega (arith, most)

  mutual
    placed : (scope : List ℕ) (c : Code) (later : List ℕ) → Within scope all → Within (binds c) all
        → EachCall CallOk (calls_in c) → code_size c ≤ 25165824 → Scoped globals scope c
        → EachBinding (Apart (place_of a)) scope c later → Placed l a c
    placed scope (set x b c) later w v k n h e =
        let x_in = within_head x (binds c) all v in (
          has_place x x_in,
          operand_placed scope b w h.0,
          placed (x ∷ scope) c later (within_cons x scope all x_in w)
              (within_tail x (binds c) all v) k (omega (arith, n)) h.1 e.1,
        )
    placed scope (prim f x b d c) later w v k n h e =
        let x_in = within_head x (binds c) all v in (
          has_place x x_in,
          operand_placed scope b w h.0,
          operand_placed scope d w h.1,
          placed (x ∷ scope) c later (within_cons x scope all x_in w)
              (within_tail x (binds c) all v) k (omega (arith, n)) h.2 e.1,
        )
    placed scope (load x b i c) later w v k n h e =
        let x_in = within_head x (binds c) all v in (
          has_place x x_in,
          operand_placed scope b w h.0,
          placed (x ∷ scope) c later (within_cons x scope all x_in w)
              (within_tail x (binds c) all v) k (omega (arith, n)) h.1 e.1,
        )
    placed scope (save b i d c) later w v k n h e = (
      operand_placed scope b w h.0,
      operand_placed scope d w h.1,
      placed scope c later w v k (omega (arith, n)) h.2 e,
    )
    placed scope (take xs c) later w v k n h e =
        let xs_in = within_left xs (binds c) all v in (
          have_places xs xs_in,
          fits_heap (length xs) (omega (arith, n)),
          placed (xs ++ scope) c later (within_append xs scope all xs_in w)
              (within_right xs (binds c) all v) k (omega (arith, n)) h e.1,
        )
    placed scope (put b c) later w v k n h e =
        (operand_placed scope b w h.0, placed scope c later w v k (omega (arith, n)) h.1 e)
    placed scope (get x c) later w v k n h e =
        let x_in = within_head x (binds c) all v in (
          has_place x x_in,
          placed (x ∷ scope) c later (within_cons x scope all x_in w)
              (within_tail x (binds c) all v) k (omega (arith, n)) h e.1,
        )
    placed scope (call f site as' xs c) later w v k n h e =
        let xs_in = within_left xs (binds c) all v in (
          (
            k.0.0,
            k.0.1,
            k.0.2,
            k.0.3,
            operands_placed scope as' w h.0,
            (have_places xs xs_in, different scope xs c later e.0),
          ),
          placed (xs ++ scope) c later (within_append xs scope all xs_in w)
              (within_right xs (binds c) all v) k.1 (omega (arith, n)) h.1 e.1,
        )
    placed scope (join xs b c) later w v k n h e =
        let calls = each_split CallOk (calls_in b) (calls_in c) k in
        let rest = within_right (binds b) (xs ++ binds c) all v in
        let xs_in = within_left xs (binds c) all rest in (
          (have_places xs xs_in, different scope xs c later e.1.0),
          placed scope b _ w (within_left (binds b) (xs ++ binds c) all v) calls.0
              (omega (arith, n)) h.0 e.0,
          placed (xs ++ scope) c later (within_append xs scope all xs_in w)
              (within_right xs (binds c) all rest) calls.1 (omega (arith, n)) h.1 e.1.1,
        )
    placed scope (give as') later w v k n h e = operands_placed scope as' w h
    placed scope (tail f site as') later w v k n h e = (k.0.0, k.0.1, operands_placed scope as' w h)
    placed scope (choose as') later w v k n h e = arms_placed scope as' later w v k
        (omega (arith, n)) h e
    placed scope fail later w v k n h e = tt

    arms_placed : (scope : List ℕ) (as' : Arms) (later : List ℕ) → Within scope all
        → Within (arms_binds as') all → EachCall CallOk (arms_calls as') → arms_size as' ≤ 25165824
        → ArmsScoped globals scope as' → EachBindingOfArms (Apart (place_of a)) scope as' later
        → ArmsPlaced l a as'
    arms_placed scope (otherwise c) later w v k n h e = placed scope c later w v k n h e
    arms_placed scope (arm ts c as') later w v k n h e =
        let calls = each_split CallOk (calls_in c) (arms_calls as') k in (
          tests_placed scope ts w h.0,
          placed scope c later w (within_left (binds c) (arms_binds as') all v) calls.0
              (omega (arith, n)) h.1 e.0,
          arms_placed scope as' later w (within_right (binds c) (arms_binds as') all v) calls.1
              (omega (arith, n)) h.2 e.1,
        )

  -- ---- arguments

  -- where all places are slots, they come in registers from x8 on
  above : (k i : ℕ) (xs : List ℕ) → k < i → ((x : ℕ) → is_among x xs ≡ true → IsSlot (place_of a x))
      → is_spot_in (Reg (8 + k)) (argument_spots i (map (place_of a) xs)) ≡ false
  above k i [] lt h = refl
  above k i (x ∷ xs) lt h = go (place_of a x) refl
      (above k (suc i) xs (omega arith) (λ y m. h y (among_later y x xs m)))
    where
      go : (p : Spot) → place_of a x ≡ p → is_spot_in (Reg (8 + k))
          (argument_spots (suc i) (map (place_of a) xs)) ≡ false
          → is_spot_in (Reg (8 + k)) (argument_spots i (map (place_of a) (x ∷ xs))) ≡ false
      go (Slot j) e rest =
          let at : argument_spot i (place_of a x) ≡ Reg (8 + i) = ap (argument_spot i) e in
          let no : same (Reg (8 + k)) (Reg (8 + i)) ≡ false = grind (arith, nat_tests) in
          ap (λ t. same (Reg (8 + k)) t || is_spot_in (Reg (8 + k))
          (argument_spots (suc i) (map (place_of a) xs))) at
          ∙ ap (λ b. b || is_spot_in (Reg (8 + k)) (argument_spots (suc i) (map (place_of a) xs)))
          no ∙ rest
      go (Reg r) e rest = absurd (subst IsSlot e (h x (among_first x xs)))
      go Scratch e rest = absurd (subst IsSlot e (h x (among_first x xs)))

  numbered : (i : ℕ) (xs : List ℕ) → i + length xs ≤ 16
      → ((x : ℕ) → is_among x xs ≡ true → IsSlot (place_of a x))
      → AreSpots (argument_spots i (map (place_of a) xs))
      × AllSpotsDiffer (argument_spots i (map (place_of a) xs))
  numbered i [] n h = (tt, tt)
  numbered i (x ∷ xs) n h = go (place_of a x) refl
      (numbered (suc i) xs (omega (arith, n)) (λ y m. h y (among_later y x xs m)))
    where
      go : (p : Spot) → place_of a x ≡ p → AreSpots (argument_spots (suc i) (map (place_of a) xs))
          × AllSpotsDiffer (argument_spots (suc i) (map (place_of a) xs))
          → AreSpots (argument_spots i (map (place_of a) (x ∷ xs)))
          × AllSpotsDiffer (argument_spots i (map (place_of a) (x ∷ xs)))
      go (Slot j) e more =
          let slots = λ (y : ℕ) (m : is_among y xs ≡ true). h y (among_later y x xs m) in
          let at : argument_spot i (place_of a x) ≡ Reg (8 + i) = ap (argument_spot i) e in
          let here : IsSpot (Reg (8 + i)) =
          ((let lt : 8 + i < 32 = omega (arith, n) in grind (arith, nat_tests)), λ e. cc) in
          let all_different : AllSpotsDiffer
          (Reg (8 + i) ∷ argument_spots (suc i) (map (place_of a) xs))
          = (above i (suc i) xs (omega arith) slots, more.1) in (
            (subst IsSpot (sym at) here, more.0),
            subst (λ t. AllSpotsDiffer (t ∷ argument_spots (suc i) (map (place_of a) xs))) (sym at)
                all_different,
          )
      go (Reg r) e more = absurd (subst IsSlot e (h x (among_first x xs)))
      go Scratch e more = absurd (subst IsSlot e (h x (among_first x xs)))

  -- where all are registers, they come in these
  in_places : (i : ℕ) (xs : List ℕ) → ((x : ℕ) → is_among x xs ≡ true → IsRegister (place_of a x))
      → argument_spots i (map (place_of a) xs) ≡ map (place_of a) xs
  in_places i [] h = refl
  in_places i (x ∷ xs) h =
      (λ j. here (place_of a x) (h x (among_first x xs)) j ∷ in_places (suc i) xs
      (λ y m. h y (among_later y x xs m)) j)
    where
      here : (p : Spot) → IsRegister p → argument_spot i p ≡ p
      here (Reg r) k = refl
      here (Slot j) k = absurd k
      here Scratch k = absurd k

  are_spots : (xs : List ℕ) → HavePlaces l a xs → AreSpots (map (place_of a) xs)
  are_spots [] h = tt
  are_spots (x ∷ xs) h = (h.0.1, are_spots xs h.1)

  arguments : (f : ℕ) (q : Procedure) → slice_get l.procs f ≡ Some q
      → AreTargets (argument_spots 0 (map (place_of a) q.params))
  arguments f q e =
      let params_in : Within q.params all = λ y m. variables_within l.procs f q e y
      (within_left q.params (binds q.body) (variables q) (λ z k. k) y m) in
      elim s.fits.parameters [
        | inl slots ↦
            let few = s.few_params f q e in
            let n = numbered 0 q.params (omega (arith, few)) (λ x m. slots x (params_in x m)) in
            record { spots = n.0; different = n.1 }
        | inr regs ↦
            let same_spots = in_places 0 q.params (λ x m. regs f x q e m) in
            let places : AreTargets (map (place_of a) q.params) = record {
              spots = are_spots q.params (have_places q.params params_in);
              different = different [] q.params q.body [] (s.fits.apart f q e).0;
            } in
            subst AreTargets (sym same_spots) places
      ]

  procedure_placed : (f : ℕ) (q : Procedure) → slice_get l.procs f ≡ Some q → ProcedurePlaced l a q
  procedure_placed f q e =
      let vars = variables_within l.procs f q e in
      let params_in : Within q.params all = λ y m. vars y
      (within_left q.params (binds q.body) (variables q) (λ z k. k) y m) in
      let binds_in : Within (binds q.body) all = λ y m. vars y
      (within_right q.params (binds q.body) (variables q) (λ z k. k) y m) in
      record {
        few_params = s.few_params f q e;
        few_results = s.few_results f q e;
        params = have_places q.params params_in;
        bound = have_places (variables q) vars;
        slots = let h = s.frames f in let w : words_at a f ≡ words_of_frame a q
            = s.fits.frames f q e in omega (arith, h, w);
        arguments = arguments f q e;
        body = placed q.params q.body [] params_in binds_in
            (each_call CallOk (calls_in q.body) (call_ok f q e))
            (omega (arith, size_at l.procs f q e, s.size))
            (scoped_at globals l.procs f q s.formed.scoped e) (s.fits.apart f q e).1;
      }

  start_there : l.start < length l.procs
  start_there = go (slice_get l.procs l.start) refl
    where
      inside : (qs : List Procedure) (f : ℕ) (q : Procedure) → slice_get qs f ≡ Some q
          → f < length qs
      inside [] f q e = cc
      inside (p ∷ qs) zero q e = omega arith
      inside (p ∷ qs) (suc f) q e = let more = inside qs f q e in omega (arith, more)

      go : (o : Option Procedure) → slice_get l.procs l.start ≡ o → l.start < length l.procs
      go None e = absurd (subst (λ o. IsStartWellFormed l o l.argument) e s.formed.starts)
      go (Some q) e = inside l.procs l.start q e

  pub can_write : CanWrite l a cells
  can_write = (
    record {
      width = s.width;
      procedures = procedure_placed;
      few_procedures = s.procedures;
      frames = s.fits.covers.frames;
      masks = s.fits.covers.masks;
      words = λ f. let h = s.frames f in omega (arith, h);
      start = start_there;
    },
    s.few_cells.1,
  )
