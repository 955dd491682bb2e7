-- Operations, loads and stores of words.
use Rattle.std.proofs.Common.{◌≡◌, ℕ, ◌+◌, ◌*◌, ◌<◌, ◌≤◌, List, [], ◌∷◌, ◌++◌, length, get_or, set as set_at, Some, None, inl, inr, refl, sym, ap, ◌∙◌, subst, arith, Bool}
use Rattle.std.specs.Prelude.{Option, slice_get, slice_set}
use Rattle.std.proofs.lemmas.Option.{slice_get_within}
use Rattle.std.proofs.Math.ListN.{length-set}
use Rattle.parallel_move.specs.declared.Spot.{Spot}
use Rattle.parallel_move.specs.declared.Spot.TheVariants.{Reg}
use Rattle.low_code.specs.declared.program.Operand.{Operand}
use Rattle.low_code.specs.declared.program.PrimOp.{PrimOp}
use Rattle.low_code.specs.Tree.{Code, prim, load, save, Procedure, Program}
use Rattle.low_code.specs.Formed.{uses, used_by, variables}
use Rattle.low_code.specs.Arithmetic.{arithmetic}
use Rattle.low_code.specs.Values.{Word, number, cell, Env, World, with_var, need, and_then, number_of, cell_of}
use Rattle.low_code.specs.Run.{Calls, code, operand, number_in, cell_in, with_word}
use Rattle.register_alloc.specs.Fits.{slots_of}
use Rattle.register_alloc.specs.Assignment.{Assignment, place_of, words_at}
use Rattle.rv32_items.specs.declared.Item.{Item}
use Rattle.rv32_items.specs.Course.{Layout}
use Rattle.rv32_select.specs.declared.source.Continuation.{Continuation}
use Rattle.rv32_select.specs.Emit.{plain, prim_code, load_code, save_code}
use Rattle.rv32_select.specs.IsSelected.{source, Then, Emits}
use Rattle.limits.specs.Limits.{heap_start}
use Rattle.rv32_select.proofs.Courses.{Goes}
use Rattle.rv32_select.proofs.Straight.{Data, at, block as stretch, plain_length}
use Rattle.rv32_select.proofs.FrameViews.{spots}
use Rattle.rv32_select.proofs.OperandsRead.{read, IsPlace, Sets}
use Rattle.rv32_select.proofs.Computed.{sets_load, sets_prim, stores_word}
use Rattle.rv32_select.proofs.Relation.{bases, word_of, HoldsCells, HoldsWorld, Home, home_kept, Stood, quiet, Does', does_after, Given, Needed}
use Rattle.rv32_select.proofs.CellWords.{cell_inside, cells_stored}
use Rattle.rv32_select.proofs.PlaceFacts.{IsOwn, ProcedureFine, Setting}
use Rattle.rv32_select.proofs.BlockFacts.{room, Block, Simulates, own_place}
use Rattle.rv32_select.proofs.OneBound.{cut, ready_at, operand_read, one_bound}
use Rattle.seq.proofs.Counted.{among_left, among_right}

pub number_there : (r : Option Word) (k : ℕ) → and_then r number_of ≡ Some k → r ≡ Some (number k)
number_there None k e = absurd (cc)
number_there (Some (number n)) k e = let same : n ≡ k = cc in ap (λ x. Some (number x)) same
number_there (Some (cell i)) k e = absurd (cc)

pub cell_there : (r : Option Word) (k : ℕ) → and_then r cell_of ≡ Some k → r ≡ Some (cell k)
cell_there None k e = absurd (cc)
cell_there (Some (number n)) k e = absurd (cc)
cell_there (Some (cell i)) k e = let same : i ≡ k = cc in ap (λ x. Some (cell x)) same

module _ (l : Program) (a : Assignment) (cells stack : ℕ) (lay : Layout) where
  -- the data of a run's state where the places, the frame and the words of the stack are as before
  pub stood_same : (framed : Bool) (f j slots saved : ℕ) (d0 : Data) (link : ℕ)
      (Needs Needs' : ℕ → Word → Type 0) (d d' : Data) (w w' : World) → saved ≤ slots
      → Stood l a cells stack lay framed f j slots d0 link Needs d w
      → HoldsWorld l a cells stack lay d' w'
      → Home l a cells stack lay framed j link d' → d'.regs 2 ≡ d.regs 2
      → length d'.stack ≡ length d.stack → ((t : ℕ) → get_or d'.stack t 0 ≡ get_or d.stack t 0)
      → ((s : Spot) → IsPlace lay.code (bases stack) j slots s
      → spots lay.code (bases stack) j slots d' s ≡ spots lay.code (bases stack) j slots d s)
      → ((y : ℕ) (v : Word) → Needs' y v → Needs y v × IsOwn l a f saved (place_of a y))
      → Stood l a cells stack lay framed f j slots d0 link Needs' d' w'
  stood_same framed f j slots saved d0 link Needs Needs' d d' w w' le st world home sp len words
      same needs = record {
        world = world;
        frame = record { sp = sp ∙ st.frame.sp; room = let r = st.frame.room in omega arith };
        home = home;
        vars = λ y v h. let k = needs y v h in same (place_of a y)
            (own_place l a lay stack f j slots saved (place_of a y) le k.1) ∙ st.vars y v k.0;
        untouched = record {
          above = λ t h. words t ∙ st.untouched.above t h;
          others = λ r k. same (Reg r) ((k.low, k.high), λ e. absurd (cc)) ∙ st.untouched.others r
              k;
        };
      }

module _ (l : Program) (a : Assignment) (cells stack : ℕ) (lay : Layout) (items : List Item)
    (begins : List ℕ) (s : Setting l a cells stack lay items begins) (calls_n : Calls) (n : ℕ)
    (f : ℕ) (q : Procedure) (pf : ProcedureFine l a f q) (framed : Bool) (j m : ℕ) (outer : List ℕ)
    (d0 : Data) (u : ℕ) where
  -- a variable gets the result of an operation
  pub prim_simulated : (p : PrimOp) (x : ℕ) (o o' : Operand) (c : Code) (to : List Spot)
      (way : Continuation) (Must : ℕ → Word → Type 0) (k k' : ℕ) (block : List Item) (pos : ℕ)
      (scope later : List ℕ) (env : Env) (top : ℕ) (under : Option ℕ) (d : Data) (w : World)
      → Block l a cells stack lay items begins f q framed pf.slots j m outer d0 u n
      (prim p x o o' c) to way Must k k' block pos scope later env top under d w
      → Then (plain (prim_code p (place_of a x) (source l a o) (source l a o')))
      (Emits l a cells stack (words_at a f) (slots_of (place_of a) (variables q)) framed to way
      c k k') block
      → ((v : Word) (rest : List Item) (pos' : ℕ) (d' : Data)
      → Block l a cells stack lay items begins f q framed pf.slots j m outer d0 u n c to way
      Must k k' rest pos' (x ∷ scope) later (with_var x v env) top under d' w
      → Simulates l a cells stack lay items begins f q framed pf.slots j m outer d0 u n calls_n c to
      way Must pos' (with_var x v env) top under d' w)
      → Simulates l a cells stack lay items begins f q framed pf.slots j m outer d0 u n calls_n
      (prim p x o o' c) to way Must pos env top under d w
  unfolding code
  prim_simulated p x o o' c to way Must k k' block pos scope later env top under d w b emits more
      = go (number_in l (words_at a) env o) refl (number_in l (words_at a) env o') refl
    where
      go : (r : Option ℕ) → number_in l (words_at a) env o ≡ r → (r' : Option ℕ)
          → number_in l (words_at a) env o' ≡ r'
          → Does' lay items begins l.width cells
          (Given l a cells stack lay items framed f j pf.slots d0 m outer to way Must)
          (at (bases stack) lay items pos d) (m ∷ outer) w
          (need r w
          (λ g. need r' w
          (λ h. code l (words_at a) (room l a cells stack lay items begins) calls_n
          (with_var x (number (arithmetic p g h)) env) top under c w)))
      go None e r' e' = tt
      go (Some g) e None e' = tt
      go (Some g) e (Some h) e' =
          let is = prim_code p (place_of a x) (source l a o) (source l a o') in
          let rest = emits.0 in
          let one = operand_read l a cells stack lay items begins s calls_n n f q pf framed j m
          outer d0 u (prim p x o o' c) scope env Must d w o (number g) b.stood b.scoped b.owned
          (λ y h. among_left y (used_by o) (used_by o' ++ uses c) h) b.fine.0
          (number_there (operand l (words_at a) env o) g e) in
          let two = operand_read l a cells stack lay items begins s calls_n n f q pf framed j m
          outer d0 u (prim p x o o' c) scope env Must d w o' (number h) b.stood b.scoped b.owned
          (λ y h. among_right y (used_by o) (used_by o' ++ uses c)
          (among_left y (used_by o') (uses c) h)) b.fine.1.0
          (number_there (operand l (words_at a) env o') h e') in
          let t = own_place l a lay stack f j pf.slots (slots_of (place_of a) (variables q))
          (place_of a x) pf.enough b.fine.1.1.0.1.0 in
          let sets = sets_prim lay.code (bases stack) j pf.slots p (place_of a x) (source l a o)
          (source l a o') d b.stood.world.good b.stood.frame t one.0 two.0 in
          let result : arithmetic p (read lay.code (bases stack) j pf.slots d (source l a o))
          (read lay.code (bases stack) j pf.slots d (source l a o')) ≡ arithmetic p g h
          = λ i. arithmetic p (one.1 i) (two.1 i) in
          one_bound l a cells stack lay items begins s calls_n n f q pf framed j m outer d0 u
          (prim p x o o' c) c is x (number (arithmetic p g h)) to way Must k k' block rest pos
          scope later env top under d w b emits.1 emits.2
          (subst (λ y. Sets lay.code (bases stack) j pf.slots is d (place_of a x) y) result sets)
          b.fine.1.1.0 b.fine.1.1.1
          (λ y h. among_right y (used_by o) (used_by o' ++ uses c)
          (among_right y (used_by o') (uses c) h))
          (λ d' b'. more (number (arithmetic p g h)) rest (pos + length (plain is)) d' b')

  -- where a word of a cell stands
  pub word_inside : (d : Data) (w : World) (i k : ℕ) (ws : List Word) (v : Word)
      → HoldsWorld l a cells stack lay d w → slice_get w.cells i ≡ Some ws → slice_get ws k ≡ Some v
      → (k < 512) × (l.width * i + k < length d.heap)
  word_inside d w i k ws v h e e' =
      let full = h.cells_are.full i ws e in
      let k_lt : k < l.width = let x = slice_get_within ws k v e' in omega arith in
      let i_lt = slice_get_within w.cells i ws e in
      let few = s.width_small in
      let enough = h.room in
      let words = h.heap_words in
      let inside = cell_inside l.width i k cells (omega arith) k_lt in
      (omega arith, omega arith)

  pub cell_address : (i : ℕ) (r : ℕ) → r ≡ word_of l.width (cell i)
      → r ≡ (bases stack).heap + 4 * (l.width * i)
  cell_address i r e = e ∙
      (let same : heap_start + 4 * l.width * i ≡ heap_start + 4 * (l.width * i) = omega arith
      in same)

  -- a variable gets a word of a cell
  pub load_simulated : (x : ℕ) (o : Operand) (index : ℕ) (c : Code) (to : List Spot)
      (way : Continuation) (Must : ℕ → Word → Type 0) (k k' : ℕ) (block : List Item) (pos : ℕ)
      (scope later : List ℕ) (env : Env) (top : ℕ) (under : Option ℕ) (d : Data) (w : World)
      → Block l a cells stack lay items begins f q framed pf.slots j m outer d0 u n
      (load x o index c) to way Must k k' block pos scope later env top under d w
      → ((v : Word) (rest : List Item) (pos' : ℕ) (d' : Data)
      → Block l a cells stack lay items begins f q framed pf.slots j m outer d0 u n c to way
      Must k k' rest pos' (x ∷ scope) later (with_var x v env) top under d' w
      → Simulates l a cells stack lay items begins f q framed pf.slots j m outer d0 u n calls_n c to
      way Must pos' (with_var x v env) top under d' w)
      → Simulates l a cells stack lay items begins f q framed pf.slots j m outer d0 u n calls_n
      (load x o index c) to way Must pos env top under d w
  unfolding code
  load_simulated x o index c to way Must k k' block pos scope later env top under d w b more
      = by_cell (cell_in l (words_at a) env o) refl
    where
      by_word : (i : ℕ) → cell_in l (words_at a) env o ≡ Some i → (ws : List Word)
          → slice_get w.cells i ≡ Some ws → (r : Option Word) → slice_get ws index ≡ r
          → Does' lay items begins l.width cells
          (Given l a cells stack lay items framed f j pf.slots d0 m outer to way Must)
          (at (bases stack) lay items pos d) (m ∷ outer) w
          (need r w
          (λ v. code l (words_at a) (room l a cells stack lay items begins) calls_n
          (with_var x v env) top under c w))
      by_word i e ws e' None e'' = tt
      by_word i e ws e' (Some v) e'' =
          let is = load_code (place_of a x) (source l a o) index in
          let rest = b.emits.0 in
          let one = operand_read l a cells stack lay items begins s calls_n n f q pf framed j m
          outer d0 u (load x o index c) scope env Must d w o (cell i) b.stood b.scoped b.owned
          (λ y h. among_left y (used_by o) (uses c) h) b.fine.0
          (cell_there (operand l (words_at a) env o) i e) in
          let t = own_place l a lay stack f j pf.slots (slots_of (place_of a) (variables q))
          (place_of a x) pf.enough b.fine.1.0.1.0 in
          let inside = word_inside d w i index ws v b.stood.world e' e'' in
          let sets = sets_load lay.code (bases stack) j pf.slots (place_of a x) (source l a o) index
          (l.width * i) d b.stood.world.good b.stood.frame t one.0
          (cell_address i (read lay.code (bases stack) j pf.slots d (source l a o)) one.1)
          inside.0 inside.1 in
          one_bound l a cells stack lay items begins s calls_n n f q pf framed j m outer d0 u
          (load x o index c) c is x v to way Must k k' block rest pos scope later env top under
          d w b b.emits.1 b.emits.2
          (subst (λ y. Sets lay.code (bases stack) j pf.slots is d (place_of a x) y)
          (b.stood.world.cells_are.words i index ws v e' e'') sets) b.fine.1.0 b.fine.1.1
          (λ y h. among_right y (used_by o) (uses c) h)
          (λ d' b'. more v rest (pos + length (plain is)) d' b')

      by_words : (i : ℕ) → cell_in l (words_at a) env o ≡ Some i → (r : Option (List Word))
          → slice_get w.cells i ≡ r
          → Does' lay items begins l.width cells
          (Given l a cells stack lay items framed f j pf.slots d0 m outer to way Must)
          (at (bases stack) lay items pos d) (m ∷ outer) w
          (need r w
          (λ ws. need (slice_get ws index) w
          (λ v. code l (words_at a) (room l a cells stack lay items begins) calls_n
          (with_var x v env) top under c w)))
      by_words i e None e' = tt
      by_words i e (Some ws) e' = by_word i e ws e' (slice_get ws index) refl

      by_cell : (r : Option ℕ) → cell_in l (words_at a) env o ≡ r
          → Does' lay items begins l.width cells
          (Given l a cells stack lay items framed f j pf.slots d0 m outer to way Must)
          (at (bases stack) lay items pos d) (m ∷ outer) w
          (need r w
          (λ i. need (slice_get w.cells i) w
          (λ ws. need (slice_get ws index) w
          (λ v. code l (words_at a) (room l a cells stack lay items begins) calls_n
          (with_var x v env) top under c w))))
      by_cell None e = tt
      by_cell (Some i) e = by_words i e (slice_get w.cells i) refl

  -- a word of a cell becomes an operand
  pub save_simulated : (o : Operand) (index : ℕ) (o' : Operand) (c : Code) (to : List Spot)
      (way : Continuation) (Must : ℕ → Word → Type 0) (k k' : ℕ) (block : List Item) (pos : ℕ)
      (scope later : List ℕ) (env : Env) (top : ℕ) (under : Option ℕ) (d : Data) (w : World)
      → Block l a cells stack lay items begins f q framed pf.slots j m outer d0 u n
      (save o index o' c) to way Must k k' block pos scope later env top under d w
      → ((w' : World) (rest : List Item) (pos' : ℕ) (d' : Data)
      → Block l a cells stack lay items begins f q framed pf.slots j m outer d0 u n c to way
      Must k k' rest pos' scope later env top under d' w'
      → Simulates l a cells stack lay items begins f q framed pf.slots j m outer d0 u n calls_n c to
      way Must pos' env top under d' w')
      → Simulates l a cells stack lay items begins f q framed pf.slots j m outer d0 u n calls_n
      (save o index o' c) to way Must pos env top under d w
  unfolding code
  save_simulated o index o' c to way Must k k' block pos scope later env top under d w b more
      = by_cell (cell_in l (words_at a) env o) refl
    where
      stored : (i : ℕ) → cell_in l (words_at a) env o ≡ Some i → (ws : List Word)
          → slice_get w.cells i ≡ Some ws → (old : Word) → slice_get ws index ≡ Some old
          → (r : Option Word) → operand l (words_at a) env o' ≡ r
          → Does' lay items begins l.width cells
          (Given l a cells stack lay items framed f j pf.slots d0 m outer to way Must)
          (at (bases stack) lay items pos d) (m ∷ outer) w
          (need r w
          (λ v. code l (words_at a) (room l a cells stack lay items begins) calls_n env top
          under c (with_word i index v ws w)))
      stored i e ws e' old e'' None e3 = tt
      stored i e ws e' old e'' (Some v) e3 =
          let c0 = save o index o' c in
          let is = save_code (source l a o) index (source l a o') in
          let rest = b.emits.0 in
          let w' = with_word i index v ws w in
          let one = operand_read l a cells stack lay items begins s calls_n n f q pf framed j m
          outer d0 u c0 scope env Must d w o (cell i) b.stood b.scoped b.owned
          (λ y h. among_left y (used_by o) (used_by o' ++ uses c) h) b.fine.0
          (cell_there (operand l (words_at a) env o) i e) in
          let two = operand_read l a cells stack lay items begins s calls_n n f q pf framed j m
          outer d0 u c0 scope env Must d w o' v b.stood b.scoped b.owned
          (λ y h. among_right y (used_by o) (used_by o' ++ uses c)
          (among_left y (used_by o') (uses c) h)) b.fine.1.0 e3 in
          let inside = word_inside d w i index ws old b.stood.world e' e'' in
          let z = stores_word lay.code (bases stack) j pf.slots (source l a o) (source l a o') index
          (l.width * i) d b.stood.world.good b.stood.frame one.0 two.0
          (cell_address i (read lay.code (bases stack) j pf.slots d (source l a o)) one.1)
          inside.0 inside.1 in
          let heap_is : z.to.heap ≡ set_at d.heap (l.width * i + index) (word_of l.width v)
          = z.heap ∙ ap (set_at d.heap (l.width * i + index)) two.1 in
          let h = b.stood.world in
          let same_length = length-set w.cells i (slice_set ws index v) in
          let world : HoldsWorld l a cells stack lay z.to w' = record {
            good = z.does.good;
            cells_are = subst (λ x. HoldsCells l.width x w'.cells) (sym heap_is)
                (cells_stored l.width d.heap w.cells i index ws old v h.cells_are e' e'' inside.1);
            next = z.others 3 (omega arith) ∙ h.next ∙ ap (λ x. heap_start + 4 * l.width * x)
                (sym same_length);
            end = z.others 4 (omega arith) ∙ h.end;
            room = let r = h.room in omega arith;
            globals = let r = h.globals in omega arith;
            input = h.input;
            heap_words = ap length heap_is ∙ length-set d.heap (l.width * i + index)
                (word_of l.width v) ∙ h.heap_words;
            stack_words = ap (λ x. 4 * length x) z.stack ∙ h.stack_words;
          } in
          let parts = cut items pos (plain is) rest block b.emits.1 b.stands in
          let goes = stretch (bases stack) lay items pos w.input (m ∷ outer) h.good z.does
          parts.first in
          let count : pos + length is ≡ pos + length (plain is)
          = ap (λ x. pos + x) (sym (plain_length is)) in
          let ran = quiet lay items begins w w'
          (subst (λ x. Goes lay items (length is) w.input (at (bases stack) lay items pos d)
          (m ∷ outer) [] [] w.input (at (bases stack) lay items x z.to) (m ∷ outer)) count goes)
          refl refl refl refl refl in
          does_after lay items begins l.width cells
          (Given l a cells stack lay items framed f j pf.slots d0 m outer to way Must)
          (code l (words_at a) (room l a cells stack lay items begins) calls_n env top under c
          w') ran
          (more w' rest (pos + length (plain is)) z.to (record {
            emits = b.emits.2;
            stands = parts.more;
            ready = ready_at l a cells stack lay items begins way (pos + length block)
                (pos + length (plain is) + length rest) parts.end b.ready;
            above = b.above;
            fine = b.fine.1.1;
            scoped = b.scoped;
            owned = b.owned;
            must = b.must;
            clear = b.clear;
            to_own = b.to_own;
            to_differ = b.to_differ;
            in_registers = b.in_registers;
            stood = stood_same l a cells stack lay framed f j pf.slots
                (slots_of (place_of a) (variables q)) d0 (lay.address m) (Needed c0 env Must)
                (Needed c env Must) d z.to w w' pf.enough b.stood world
                (home_kept l a cells stack lay framed j (lay.address m) d z.to
                (z.others 1 (omega arith)) (ap (λ x. get_or x j 0) z.stack) b.stood.home)
                (z.others 2 (omega arith)) (ap length z.stack) (λ t. ap (λ x. get_or x t 0) z.stack)
                z.same needs;
            base = b.base;
            left = b.left;
            top_is = b.top_is;
            under_is = b.under_is;
          }))
        where
          needs : (y : ℕ) (v : Word) → Needed c env Must y v
              → Needed (save o index o' c) env Must y v
              × IsOwn l a f (slots_of (place_of a) (variables q)) (place_of a y)
          needs y v (inl h) = (
            inl (
              among_right y (used_by o) (used_by o' ++ uses c)
                  (among_right y (used_by o') (uses c) h.0),
              h.1,
            ),
            b.owned y (b.scoped y v h.1),
          )
          needs y v (inr h) = (inr h, b.owned y (b.must y v h).0)

      by_word : (i : ℕ) → cell_in l (words_at a) env o ≡ Some i → (ws : List Word)
          → slice_get w.cells i ≡ Some ws → (r : Option Word) → slice_get ws index ≡ r
          → Does' lay items begins l.width cells
          (Given l a cells stack lay items framed f j pf.slots d0 m outer to way Must)
          (at (bases stack) lay items pos d) (m ∷ outer) w
          (need r w
          (λ old. need (operand l (words_at a) env o') w
          (λ v. code l (words_at a) (room l a cells stack lay items begins) calls_n env top
          under c (with_word i index v ws w))))
      by_word i e ws e' None e'' = tt
      by_word i e ws e' (Some old) e'' = stored i e ws e' old e'' (operand l (words_at a) env o')
          refl

      by_words : (i : ℕ) → cell_in l (words_at a) env o ≡ Some i → (r : Option (List Word))
          → slice_get w.cells i ≡ r
          → Does' lay items begins l.width cells
          (Given l a cells stack lay items framed f j pf.slots d0 m outer to way Must)
          (at (bases stack) lay items pos d) (m ∷ outer) w
          (need r w
          (λ ws. need (slice_get ws index) w
          (λ old. need (operand l (words_at a) env o') w
          (λ v. code l (words_at a) (room l a cells stack lay items begins) calls_n env top
          under c (with_word i index v ws w)))))
      by_words i e None e' = tt
      by_words i e (Some ws) e' = by_word i e ws e' (slice_get ws index) refl

      by_cell : (r : Option ℕ) → cell_in l (words_at a) env o ≡ r
          → Does' lay items begins l.width cells
          (Given l a cells stack lay items framed f j pf.slots d0 m outer to way Must)
          (at (bases stack) lay items pos d) (m ∷ outer) w
          (need r w
          (λ i. need (slice_get w.cells i) w
          (λ ws. need (slice_get ws index) w
          (λ old. need (operand l (words_at a) env o') w
          (λ v. code l (words_at a) (room l a cells stack lay items begins) calls_n env top
          under c (with_word i index v ws w))))))
      by_cell None e = tt
      by_cell (Some i) e = by_words i e (slice_get w.cells i) refl
