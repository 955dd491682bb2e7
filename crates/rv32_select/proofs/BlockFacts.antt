-- A block of a procedure in the items, what is known where it begins, and how what is needed is
-- kept where variables are bound.
use Rattle.std.proofs.Common.{◌≡◌, ◌≢◌, ℕ, ◌+◌, ◌*◌, ◌≤◌, List, [], ◌∷◌, ◌++◌, map, length, get_or, cond, Bool, true, false, Some, ◌⊎◌, inl, inr, refl, sym, ap, ◌∙◌, subst, arith, ◌-◌}
use Rattle.std.specs.Prelude.{Option, nat_eq, ◌||◌, slice_get}
use Rattle.std.proofs.lemmas.Bool.Decides.{nat_tests}
use Rattle.seq.proofs.Truth.{two_ways}
use Rattle.parallel_move.specs.declared.Spot.{Spot}
use Rattle.parallel_move.specs.declared.Spot.TheVariants.{Reg, Slot, Scratch}
use Rattle.parallel_move.specs.Moves.{Values}
use Rattle.low_code.specs.Tree.{Code, Procedure, Program}
use Rattle.low_code.specs.Formed.{uses, variables}
use Rattle.low_code.specs.Values.{Word, Env, World, Room, with_var, with_vars}
use Rattle.low_code.specs.Run.{Calls, code}
use Rattle.register_alloc.specs.Live.{IsLive}
use Rattle.register_alloc.specs.Fits.{Apart, ClearOf, slots_of}
use Rattle.register_alloc.specs.Assignment.{Assignment, place_of, words_at}
use Rattle.rv32_items.specs.declared.Item.{Item}
use Rattle.rv32_items.specs.declared.Item.TheVariants.{Label}
use Rattle.rv32_items.specs.Course.{Layout, label_from, address_from}
use Rattle.rv32_select.specs.declared.source.Continuation.{Continuation}
use Rattle.rv32_select.specs.declared.source.Continuation.TheVariants.{Returns, Follows, Jumps}
use Rattle.rv32_select.specs.Emit.{argument_spots, result_spots}
use Rattle.rv32_select.specs.IsSelected.{Emits, first_label, is_lasting}
use Rattle.limits.specs.Limits.{stack_end}
use Rattle.rv32_select.proofs.Courses.{Stands}
use Rattle.rv32_select.proofs.Straight.{Data, Good, at}
use Rattle.rv32_select.proofs.FrameViews.{spots, Outside, Kept}
use Rattle.rv32_select.proofs.OperandsRead.{IsPlace}
use Rattle.rv32_select.proofs.Gathering.{AllPlaces}
use Rattle.rv32_select.proofs.Relation.{bases, regs_of, word_of, AllHold, HoldsCells, HoldsWorld, Keeps, Home, Stood, Back, Does', Given, Needed, HasBase}
use Rattle.rv32_select.proofs.PlaceFacts.{NotAmong, AllApart, IsOwn, AllOwn, Binds, Fine}
use Rattle.seq.specs.Lists.{is_among}
use Rattle.seq.proofs.Counted.{among_left, among_right}

pub or_true : (x y : Bool) → x || y ≡ true → (x ≡ true) ⊎ (y ≡ true)
or_true true y e = inl refl
or_true false y e = inr e

-- a variable that is bound has its word at its place, and every other one the word that it had
pub bound_word : (width : ℕ) (place : ℕ → Spot) (xs : List ℕ) (vs : List Word) (env env' : Env)
    (u : Values) (y : ℕ) (v : Word) → with_vars xs vs env ≡ Some env'
    → AllHold width (map place xs) vs u → env' y ≡ Some v → (u (place y) ≡ word_of width v)
    ⊎ (env y ≡ Some v)
bound_word width place [] [] env env' u y v e h is = let same : env ≡ env' = cc
    in inr (ap (λ (f : Env). f y) same ∙ is)
bound_word width place [] (w ∷ vs) env env' u y v e h is = absurd (cc)
bound_word width place (x ∷ xs) [] env env' u y v e h is = absurd (cc)
bound_word width place (x ∷ xs) (w ∷ vs) env env' u y v e h is
    = elim (bound_word width place xs vs (with_var x w env) env' u y v e h.1 is) [
      | inl k ↦ inl k
      | inr k ↦ elim (two_ways (nat_eq y x)) [
        | inl t ↦
            let same : y ≡ x = grind (arith, nat_tests) in
            let two : Some w ≡ Some v = sym (ap (λ b. cond b (Some w) (env y)) t) ∙ k in
            let word : w ≡ v = cc in
            inl (ap (λ z. u (place z)) same ∙ h.0 ∙ ap (word_of width) word)
        | inr t ↦ inr (sym (ap (λ b. cond b (Some w) (env y)) t) ∙ k)
      ]
    ]

-- a variable in scope stays so
pub still_scoped : (xs : List ℕ) (vs : List Word) (scope : List ℕ) (env env' : Env)
    → with_vars xs vs env ≡ Some env' →
    ((y : ℕ) (v : Word) → env y ≡ Some v → is_among y scope ≡ true) → (y : ℕ) (v : Word)
    → env' y ≡ Some v → is_among y (xs ++ scope) ≡ true
still_scoped [] [] scope env env' e h y v is = let same : env ≡ env' = cc
    in h y v (ap (λ (f : Env). f y) same ∙ is)
still_scoped [] (w ∷ vs) scope env env' e h y v is = absurd (cc)
still_scoped (x ∷ xs) [] scope env env' e h y v is = absurd (cc)
still_scoped (x ∷ xs) (w ∷ vs) scope env env' e h y v is =
    moved (is_among y xs) (still_scoped xs vs (x ∷ scope) (with_var x w env) env' e first y v is)
  where
    first : (y : ℕ) (v : Word) → with_var x w env y ≡ Some v → is_among y (x ∷ scope) ≡ true
    first y v k = by_test (nat_eq y x) k
      where
        by_test : (t : Bool) → cond t (Some w) (env y) ≡ Some v → t || is_among y scope ≡ true
        by_test true e = refl
        by_test false e = h y v e

    moved : (t : Bool) → is_among y (xs ++ (x ∷ scope)) ≡ true
        → nat_eq y x || is_among y (xs ++ scope) ≡ true
    moved t k = middle xs k
      where
        middle : (zs : List ℕ) → is_among y (zs ++ (x ∷ scope)) ≡ true
            → nat_eq y x || is_among y (zs ++ scope) ≡ true
        middle [] k = k
        middle (z ∷ zs) k = swap (nat_eq y z) (nat_eq y x) (is_among y (zs ++ (x ∷ scope)))
            (is_among y (zs ++ scope)) k (middle zs)
          where
            swap : (p q r s : Bool) → p || r ≡ true → (r ≡ true → q || s ≡ true)
                → q || (p || s) ≡ true
            swap true true r s k h = refl
            swap true false r s k h = refl
            swap false q r s k h = h k

module _ (l : Program) (a : Assignment) where
  abbrev place : ℕ → Spot
  place x = place_of a x

  -- a live variable's place is none of those of variables that are bound there
  pub apart_not_among : (scope xs : List ℕ) (c : Code) (later : List ℕ) (y : ℕ)
      → Apart (place_of a) scope xs c later → IsLive scope c later y
      → NotAmong (place_of a y) (map (place_of a) xs)
  apart_not_among scope [] c later y h live = tt
  apart_not_among scope (x ∷ xs) c later y h live =
      (h.0 y live, apart_not_among scope xs c later y h.1.1 live)

  pub clear_different : (x : ℕ) (ys : List ℕ) → ClearOf (place_of a) x ys
      → NotAmong (place_of a x) (map (place_of a) ys)
  clear_different x [] h = tt
  clear_different x (y ∷ ys) h = ((λ e. h.0 (sym e)), clear_different x ys h.1)

  pub apart_different : (scope xs : List ℕ) (c : Code) (later : List ℕ)
      → Apart (place_of a) scope xs c later → AllApart (map (place_of a) xs)
  apart_different scope [] c later h = tt
  apart_different scope (x ∷ xs) c later h =
      (clear_different x xs h.1.0, apart_different scope xs c later h.1.1)

  pub own_place : (lay : Layout) (stack f j slots saved : ℕ) (s : Spot) → saved ≤ slots
      → IsOwn l a f saved s → IsPlace lay.code (bases stack) j slots s
  own_place lay stack f j slots saved (Reg r) le h = ((h.0, h.1.0), λ e. absurd (cc))
  own_place lay stack f j slots saved (Slot k) le h = (omega arith, λ e. absurd (cc))
  own_place lay stack f j slots saved Scratch le h = absurd h

  pub own_places : (lay : Layout) (stack f j slots saved : ℕ) (ss : List Spot) → saved ≤ slots
      → AllOwn l a f saved ss → AllPlaces lay.code (bases stack) j slots ss
  own_places lay stack f j slots saved [] le h = tt
  own_places lay stack f j slots saved (s ∷ ss) le h
      = (
        own_place lay stack f j slots saved s le h.0,
        own_places lay stack f j slots saved ss le h.1,
      )

  pub free_own : (f saved : ℕ) (ss : List Spot) → AllOwn l a f 0 ss → AllOwn l a f saved ss
  free_own f saved [] h = tt
  free_own f saved (Reg r ∷ ss) h = (h.0, free_own f saved ss h.1)
  free_own f saved (Slot k ∷ ss) h = let none = h.0 in absurd (omega arith)
  free_own f saved (Scratch ∷ ss) h = absurd h.0

  -- a register that the procedure leaves is none of its own
  pub kept_not_own : (f saved r : ℕ) (ss : List Spot) → Keeps l a f r → AllOwn l a f saved ss
      → NotAmong (Reg r) ss
  kept_not_own f saved r [] k h = tt
  kept_not_own f saved r (s ∷ ss) k h = (by_spot s h.0, kept_not_own f saved r ss k h.1)
    where
      by_spot : (s : Spot) → IsOwn l a f saved s → Reg r ≢ s
      by_spot (Reg x) o e = let same : r ≡ x = cc in o.1.1 (subst (λ y. Keeps l a f y) same k)
      by_spot (Slot x) o e = absurd (cc)
      by_spot Scratch o e = absurd o

  pub own_at : (f saved y : ℕ) (xs : List ℕ) → AllOwn l a f saved (map (place_of a) xs)
      → is_among y xs ≡ true → IsOwn l a f saved (place_of a y)
  own_at f saved y [] h e = absurd (cc)
  own_at f saved y (x ∷ xs) h e = elim (or_true (nat_eq y x) (is_among y xs) e) [
    | inl t ↦ let same : x ≡ y = grind (arith, nat_tests)
        in subst (λ z. IsOwn l a f saved (place_of a z)) same h.0
    | inr t ↦ own_at f saved y xs h.1 t
  ]

-- what code has done where only places change: those of these spots have these words
pub record Changed (l : Program) (stack j slots : ℕ) (lay : Layout) (to : List Spot)
    (vs : List Word) (d d' : Data) : Type 0 where
  pub held : AllHold l.width to vs (spots lay.code (bases stack) j slots d')
  pub others : (s : Spot) → IsPlace lay.code (bases stack) j slots s → NotAmong s to
      → spots lay.code (bases stack) j slots d' s ≡ spots lay.code (bases stack) j slots d s
  pub sp : d'.regs 2 ≡ d.regs 2
  pub words : length d'.stack ≡ length d.stack
  pub outside : (t : ℕ) → Outside lay.code (bases stack) j slots t
      → get_or d'.stack t 0 ≡ get_or d.stack t 0

module _ (l : Program) (a : Assignment) (cells stack : ℕ) (lay : Layout) where
  pub world_kept : (j slots : ℕ) (d d' : Data) (w : World) → HoldsWorld l a cells stack lay d w
      → Good lay.code (bases stack) d' → Kept lay.code (bases stack) j slots d d'
      → HoldsWorld l a cells stack lay d' w
  world_kept j slots d d' w h g k = record {
    good = g;
    cells_are = subst (λ x. HoldsCells l.width x w.cells) (sym k.heap) h.cells_are;
    next = k.next ∙ h.next;
    end = k.end ∙ h.end;
    room = h.room;
    globals = h.globals;
    input = h.input;
    heap_words = ap length k.heap ∙ h.heap_words;
    stack_words = ap (λ n. 4 * n) k.words ∙ h.stack_words;
  }

  module _ (framed : Bool) (f j slots saved : ℕ) (d0 : Data) (link : ℕ) where
    pub stood_changed : (Needs Needs' : ℕ → Word → Type 0) (to : List Spot) (vs : List Word)
        (d d' : Data) (w w' : World) → Stood l a cells stack lay framed f j slots d0 link Needs d w
        → HoldsWorld l a cells stack lay d' w' → Changed l stack j slots lay to vs d d'
        → Home l a cells stack lay framed j link d' → AllOwn l a f saved to
        → ((y : ℕ) (v : Word) → Needs' y v → spots lay.code (bases stack) j slots d' (place_of a y)
        ≡ word_of l.width v) → Stood l a cells stack lay framed f j slots d0 link Needs' d' w'
    stood_changed Needs Needs' to vs d d' w w' st world ch home own vars = record {
      world = world;
      frame = record {
        sp = ch.sp ∙ st.frame.sp;
        room = let r = st.frame.room in let n = ch.words
            in omega arith;
      };
      home = home;
      vars = vars;
      untouched = record {
        above = λ t h. ch.outside t (inr h) ∙ st.untouched.above t h;
        others = λ r k. ch.others (Reg r) ((k.low, k.high), λ e. absurd (cc))
            (kept_not_own l a f saved r to k own) ∙ st.untouched.others r k;
      };
    }

    -- variables are bound
    pub stood_bound : (c0 c : Code) (xs : List ℕ) (vs : List Word) (scope later : List ℕ)
        (env env' : Env) (Must : ℕ → Word → Type 0) (d d' : Data) (w w' : World)
        → saved ≤ slots
        → Stood l a cells stack lay framed f j slots d0 link (Needed c0 env Must) d w
        → HoldsWorld l a cells stack lay d' w' → Changed l stack j slots lay
        (map (place_of a) xs) vs d d' → Home l a cells stack lay framed j link d'
        → with_vars xs vs env ≡ Some env' → Binds l a f slots saved scope xs c later
        → ((y : ℕ) → is_among y (uses c) ≡ true → is_among y (uses c0) ≡ true)
        → ((y : ℕ) (v : Word) → env y ≡ Some v → is_among y scope ≡ true)
        → ((y : ℕ) (v : Word) → Must y v → (is_among y scope ≡ true) × (is_among y later ≡ true))
        → ((y : ℕ) → is_among y scope ≡ true → IsOwn l a f saved (place_of a y))
        → Stood l a cells stack lay framed f j slots d0 link (Needed c env' Must) d' w'
    stood_bound c0 c xs vs scope later env env' Must d d' w w' le st world ch home bind binds incl
        scoped must owned =
        stood_changed (Needed c0 env Must) (Needed c env' Must) (map (place_of a) xs) vs d d' w w'
        st world ch home binds.1 vars
      where
        kept : (y : ℕ) (v : Word) → is_among y scope ≡ true → IsLive scope c later y
            → Needed c0 env Must y v → spots lay.code (bases stack) j slots d' (place_of a y) ≡
            word_of l.width v
        kept y v in_scope live need =
            ch.others (place_of a y)
            (own_place l a lay stack f j slots saved (place_of a y) le (owned y in_scope))
            (apart_not_among l a scope xs c later y binds.0 live) ∙ st.vars y v need

        vars : (y : ℕ) (v : Word) → Needed c env' Must y v
            → spots lay.code (bases stack) j slots d' (place_of a y) ≡ word_of l.width v
        vars y v (inl h) = elim
            (bound_word l.width (place_of a) xs vs env env'
            (spots lay.code (bases stack) j slots d') y v bind ch.held h.1) [
              | inl k ↦ k
              | inr k ↦
                  let in_scope = scoped y v k in
                  kept y v in_scope (in_scope, among_left y (uses c) later h.0)
                  (inl (incl y h.0, k))
            ]
        vars y v (inr h) = let m = must y v h in kept y v m.0
            (m.0, among_right y (uses c) later m.1) (inr h)

-- ---- a block in the items

module _ (l : Program) (a : Assignment) (cells stack : ℕ) (lay : Layout) (items : List Item)
    (begins : List ℕ) where
  abbrev pub room : Room
  room = record { cells = Some cells; stack = Some stack }

  -- the item behind a block
  abbrev pub Ready : Continuation → ℕ → Type 0
  Ready Returns p = Unit {0}
  Ready (Follows n) p = slice_get items p ≡ Some (Label n)
  Ready (Jumps n) p = (t : ℕ) × (slice_get items t ≡ Some (Label n))

  -- what a call of a procedure does from its label on, where at most n units are left
  abbrev pub CallsSimulated : Calls → ℕ → Type 0
  CallsSimulated calls n =
      (f : ℕ) (q : Procedure) (t m : ℕ) (outer : List ℕ) (vs : List Word) (under bound : ℕ)
      (w : World) (d : Data)
      → slice_get l.procs f ≡ Some q → label_from 0 items f ≡ Some t
      → HoldsWorld l a cells stack lay d w → HasBase (is_lasting a) (stack_end - stack) d
      → d.regs 2 ≡ (bases stack).stack + 4 * bound → 4 * (bound + under) ≡ stack
      → d.regs 1 ≡ lay.address m → address_from 0 items lay (lay.address m) ≡ Some m
      → AllHold l.width (argument_spots 0 (map (place_of a) q.params)) vs (regs_of d) → w.left ≤ n
      → Does' lay items begins l.width cells
      (λ rs w' p calls'. (d' : Data) ×
      ((p ≡ at (bases stack) lay items m d') ×
      ((calls' ≡ outer) ×
      (Back l a cells stack lay f bound d (result_spots 10 q.results) rs d' w'
      × (length rs ≡ q.results)))))
      (at (bases stack) lay items t d) (m ∷ outer) w (calls f vs under w)

  module _ (f : ℕ) (q : Procedure) (framed : Bool) (slots j m : ℕ) (outer : List ℕ) (d0 : Data)
      (u n : ℕ) where
    -- a procedure returns its results in their registers
    abbrev pub InRegisters : Continuation → List Spot → Type 0
    InRegisters Returns to = to ≡ result_spots 10 q.results
    InRegisters (Follows n) to = Unit {0}
    InRegisters (Jumps n) to = Unit {0}

    -- what is known where a block or the arms of a choice begin, which have their own items,
    -- fitting places and needs;
    -- the frame begins at the j-th word of the stack, over u words; m is the item to which the
    -- procedure returns
    pub record Entry (here : Bool) (Emitted Fitting : Type 0) (Needs : ℕ → Word → Type 0)
        (to : List Spot) (way : Continuation) (Must : ℕ → Word → Type 0) (k : ℕ) (block : List Item)
        (pos : ℕ) (scope later : List ℕ) (env : Env) (top : ℕ) (under : Option ℕ) (d : Data)
        (w : World) : Type 0 where
      pub emits : Emitted
      pub stands : Stands items pos block
      pub ready : Ready way (pos + length block)
      pub above : first_label l ≤ k
      pub fine : Fitting
      pub scoped : (x : ℕ) (v : Word) → env x ≡ Some v → is_among x scope ≡ true
      pub owned : (x : ℕ) → is_among x scope ≡ true
          → IsOwn l a f (slots_of (place_of a) (variables q)) (place_of a x)
      pub must : (x : ℕ) (v : Word) → Must x v → (is_among x scope ≡ true)
          × (is_among x later ≡ true)
      pub clear : (x : ℕ) (v : Word) → Must x v → NotAmong (place_of a x) to
      pub to_own : AllOwn l a f (slots_of (place_of a) (variables q)) to
      pub to_differ : AllApart to
      pub in_registers : InRegisters way to
      pub stood : Stood l a cells stack lay here f j slots d0 (lay.address m) Needs d w
      pub base : HasBase (is_lasting a) (stack_end - stack) d0
      pub left : w.left ≤ n
      pub top_is : top ≡ 1 + slots + u
      pub under_is : (v : ℕ) → under ≡ Some v → (v ≡ u) × (way ≡ Returns)

    -- a block whose items are said so, where the return address is in the frame or isn't
    abbrev pub Opened : (here : Bool) (Emitted : Type 0) (c : Code) (to : List Spot)
        (way : Continuation) (Must : ℕ → Word → Type 0) (k : ℕ) (block : List Item) (pos : ℕ)
        (scope later : List ℕ) (env : Env) (top : ℕ) (under : Option ℕ) (d : Data) (w : World)
        → Type 0
    Opened here Emitted c to way Must k block pos scope later env top under d w =
        Entry here Emitted (Fine l a f slots (slots_of (place_of a) (variables q)) scope c later)
        (Needed c env Must) to way Must k block pos scope later env top under d w

    abbrev pub Block : (c : Code) (to : List Spot) (way : Continuation) (Must : ℕ → Word → Type 0)
        (k k' : ℕ) (block : List Item) (pos : ℕ) (scope later : List ℕ) (env : Env) (top : ℕ)
        (under : Option ℕ) (d : Data) (w : World) → Type 0
    Block c to way Must k k' block pos scope later env top under d w =
        Opened framed
        (Emits l a cells stack (words_at a f) (slots_of (place_of a) (variables q)) framed to
        way c k k' block) c to way Must k block pos scope later env top under d w

    -- the machine does for the block what its run does
    abbrev pub Simulates : Calls → (c : Code) (to : List Spot) (way : Continuation)
        (Must : ℕ → Word → Type 0) (pos : ℕ) (env : Env) (top : ℕ) (under : Option ℕ) (d : Data)
        (w : World) → Type 0
    Simulates calls c to way Must pos env top under d w =
        Does' lay items begins l.width cells
        (Given l a cells stack lay items framed f j slots d0 m outer to way Must)
        (at (bases stack) lay items pos d) (m ∷ outer) w
        (code l (words_at a) room calls env top under c w)
