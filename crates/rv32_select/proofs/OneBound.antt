-- Statements that bind one variable or change a word of a cell.
use Rattle.std.proofs.Common.{◌≡◌, ℕ, ◌+◌, ◌*◌, ◌%◌, ◌^◌, ◌<◌, ◌≤◌, List, [], ◌∷◌, ◌++◌, length, cond, Bool, true, false, Some, None, inl, refl, sym, ap, ◌∙◌, subst, arith, length-append}
use Rattle.std.specs.Prelude.{Option, nat_eq, nat_lt, ◌||◌}
use Rattle.std.proofs.lemmas.Bool.Decides.{nat_tests}
use Rattle.std.proofs.Math.Nat.{mul-le-mul_left}
use Rattle.rv32_isa.specs.declared.instr.Instr.{Instr}
use Rattle.parallel_move.specs.declared.Spot.{Spot}
use Rattle.low_code.specs.declared.program.Operand.{Operand}
use Rattle.low_code.specs.declared.program.Operand.TheVariants.{Var, Num, Cell}
use Rattle.low_code.specs.Tree.{Code, set, Procedure, Program}
use Rattle.low_code.specs.Formed.{uses, used_by, variables}
use Rattle.low_code.specs.Values.{Word, number, cell, Env, World, with_var, need}
use Rattle.low_code.specs.Run.{Calls, code, operand}
use Rattle.register_alloc.specs.Fits.{slots_of}
use Rattle.register_alloc.specs.Assignment.{Assignment, place_of, words_at}
use Rattle.rv32_items.specs.declared.Item.{Item}
use Rattle.rv32_items.specs.Course.{Layout, Point}
use Rattle.rv32_select.specs.declared.source.Continuation.{Continuation}
use Rattle.rv32_select.specs.Emit.{plain, set_code}
use Rattle.rv32_select.specs.IsSelected.{source, Emits}
use Rattle.limits.specs.Limits.{heap_start}
use Rattle.low_code.specs.Literals.{IsSmall}
use Rattle.rv32_select.proofs.Courses.{Stands, front, back, Goes}
use Rattle.rv32_select.proofs.Straight.{Data, Good, Does, plain_length, at, block}
use Rattle.rv32_select.proofs.OperandsRead.{read, Readable, Sets, sets_source}
use Rattle.rv32_select.proofs.Relation.{bases, word_of, HoldsWorld, home_kept, Stood, Ran, quiet, Does', does_after, Given, Needed}
use Rattle.rv32_select.proofs.PlaceFacts.{IsOwn, Binds, Fine, ProcedureFine, Setting}
use Rattle.rv32_select.proofs.BlockFacts.{room, Ready, Block, Simulates, Changed, own_place, world_kept, stood_bound, still_scoped}
use Rattle.seq.specs.Lists.{is_among}
use Rattle.seq.proofs.Counted.{among_left, among_right}

-- a piece of items, and what stands behind it
pub record Cut (items : List Item) (pos : ℕ) (piece rest block : List Item) : Type 0 where
  pub first : Stands items pos piece
  pub more : Stands items (pos + length piece) rest
  pub end : pos + length block ≡ pos + length piece + length rest

pub cut : (items : List Item) (pos : ℕ) (piece rest block : List Item) → block ≡ piece ++ rest
    → Stands items pos block → Cut items pos piece rest block
cut items pos piece rest block e h =
    let both = subst (λ x. Stands items pos x) e h in
    record {
      first = front items pos piece rest both;
      more = back items pos piece rest both;
      end = ap (λ x. pos + length x) e ∙
          (let both_lengths = length-append piece rest in omega arith);
    }

module _ (l : Program) (a : Assignment) (cells stack : ℕ) (lay : Layout) (items : List Item)
    (begins : List ℕ) where
  pub ready_at : (way : Continuation) (p r : ℕ) → p ≡ r
      → Ready l a cells stack lay items begins way p → Ready l a cells stack lay items begins way r
  ready_at way p r e h = subst (λ x. Ready l a cells stack lay items begins way x) e h

  -- plain instructions that stand at an item, beside a run that stays
  pub plain_ran : (is : List Instr) (pos : ℕ) (d d' : Data) (calls : List ℕ) (w : World)
      → Good lay.code (bases stack) d → Does lay.code (bases stack) is d d'
      → Stands items pos (plain is)
      → Ran lay items begins (at (bases stack) lay items pos d) calls w
      (at (bases stack) lay items (pos + length (plain is)) d') calls w
  plain_ran is pos d d' calls w g does stands =
      let goes = block (bases stack) lay items pos w.input calls g does stands in
      let count : pos + length is ≡ pos + length (plain is)
      = ap (λ n. pos + n) (sym (plain_length is)) in
      quiet lay items begins w w
      (subst (λ n. Goes lay items (length is) w.input (at (bases stack) lay items pos d) calls
      [] [] w.input (at (bases stack) lay items n d') calls) count goes) refl refl refl refl
      refl

  -- the words of cells are below the stack
  pub cell_small : (d : Data) (w : World) → HoldsWorld l a cells stack lay d w → (i : ℕ)
      → i < length w.cells → heap_start + 4 * l.width * i < 2 ^ 32
  cell_small d w h i lt =
      let room = h.room in
      let words = h.heap_words in
      let below = h.good.laid.heap_below in
      let top = h.good.top in
      let most : 4 * l.width * i ≤ 4 * l.width * cells
      = mul-le-mul_left (4 * l.width) (let x : i ≤ cells = omega arith in x) in
      let same : 4 * l.width * cells ≡ 4 * (l.width * cells) = omega arith in
      omega arith

module _ (l : Program) (a : Assignment) (cells stack : ℕ) (lay : Layout) (items : List Item)
    (begins : List ℕ) (s : Setting l a cells stack lay items begins) (calls_n : Calls) (n : ℕ)
    (f : ℕ) (q : Procedure) (pf : ProcedureFine l a f q) (framed : Bool) (j m : ℕ) (outer : List ℕ)
    (d0 : Data) (u : ℕ) where
  abbrev saved : ℕ
  saved = slots_of (place_of a) (variables q)

  -- an operand is read as its word
  pub operand_read : (c0 : Code) (scope : List ℕ) (env : Env) (Must : ℕ → Word → Type 0) (d : Data)
      (w : World) (o : Operand) (v : Word) → Stood l a cells stack lay framed f j pf.slots d0
      (lay.address m) (Needed c0 env Must) d w
      → ((x : ℕ) (v : Word) → env x ≡ Some v → is_among x scope ≡ true)
      → ((x : ℕ) → is_among x scope ≡ true → IsOwn l a f (slots_of (place_of a) (variables q))
      (place_of a x))
      → ((x : ℕ) → is_among x (used_by o) ≡ true → is_among x (uses c0) ≡ true) → IsSmall o
      → operand l (words_at a) env o ≡ Some v
      → Readable lay.code (bases stack) j pf.slots (source l a o)
      × (read lay.code (bases stack) j pf.slots d (source l a o) ≡ word_of l.width v)
  operand_read c0 scope env Must d w (Var x) v st scoped owned incl small e =
      let itself : is_among x (x ∷ []) ≡ true = let t : nat_eq x x ≡ true = grind (arith, nat_tests)
      in ap (λ b. b || false) t in (
        own_place l a lay stack f j pf.slots (slots_of (place_of a) (variables q)) (place_of a x)
            pf.enough (owned x (scoped x v e)),
        st.vars x v (inl (incl x itself, e)),
      )
  operand_read c0 scope env Must d w (Num k) v st scoped owned incl small e =
      let same : number k ≡ v = cc in
      (small, ap (word_of l.width) same)
  operand_read c0 scope env Must d w (Cell i) v st scoped owned incl small e
      = by_test (nat_lt i (length l.globals)) refl e
    where
      by_test : (t : Bool) → nat_lt i (length l.globals) ≡ t → cond t (Some (cell i)) None ≡ Some v
          → Readable lay.code (bases stack) j pf.slots (source l a (Cell i))
          × (read lay.code (bases stack) j pf.slots d (source l a (Cell i)) ≡ word_of l.width v)
      by_test false t e = absurd (cc)
      by_test true t e =
          let lt : i < length l.globals = grind (arith, nat_tests) in
          let globals = st.world.globals in
          let small = cell_small l a cells stack lay items begins d w st.world i (omega arith) in
          let same : cell i ≡ v = cc in
          let word : (heap_start + 4 * l.width * i) % 2 ^ 32 ≡ heap_start + 4 * l.width * i
          = omega arith in
          (omega arith, word ∙ ap (word_of l.width) same)

  pub changed_by : {is : List Instr} {d : Data} {t : Spot} (v : Word)
      (z : Sets lay.code (bases stack) j pf.slots is d t (word_of l.width v))
      → Changed l stack j pf.slots lay (t ∷ []) (v ∷ []) d z.to
  changed_by v z = record {
    held = (z.here, tt);
    others = λ p o ne. z.others p o ne.0;
    sp = z.keeps.frame;
    words
        = z.keeps.words;
    outside = z.keeps.outside;
  }

  -- code that puts a word at the place of a variable, and then the rest of the block
  pub one_bound : (c0 c : Code) (is : List Instr) (x : ℕ) (v : Word) (to : List Spot)
      (way : Continuation) (Must : ℕ → Word → Type 0) (k k' : ℕ) (block rest : List Item) (pos : ℕ)
      (scope later : List ℕ) (env : Env) (top : ℕ) (under : Option ℕ) (d : Data) (w : World)
      → (b : Block l a cells stack lay items begins f q framed pf.slots j m outer d0 u n c0 to way
      Must k k' block pos scope later env top under d w)
      → block ≡ plain is ++ rest → Emits l a cells stack (words_at a f)
      (slots_of (place_of a) (variables q)) framed to way c k k' rest
      → Sets lay.code (bases stack) j pf.slots is d (place_of a x) (word_of l.width v)
      → Binds l a f pf.slots (slots_of (place_of a) (variables q)) scope (x ∷ []) c later
      → Fine l a f pf.slots (slots_of (place_of a) (variables q)) (x ∷ scope) c later
      → ((y : ℕ) → is_among y (uses c) ≡ true → is_among y (uses c0) ≡ true)
      → ((d' : Data) → Block l a cells stack lay items begins f q framed pf.slots j m outer d0 u n c
      to way Must k k' rest (pos + length (plain is)) (x ∷ scope) later (with_var x v env) top
      under d' w
      → Simulates l a cells stack lay items begins f q framed pf.slots j m outer d0 u n calls_n c to
      way Must (pos + length (plain is)) (with_var x v env) top under d' w)
      → Does' lay items begins l.width cells
      (Given l a cells stack lay items framed f j pf.slots d0 m outer to way Must)
      (at (bases stack) lay items pos d) (m ∷ outer) w
      (code l (words_at a) (room l a cells stack lay items begins) calls_n (with_var x v env)
      top under c w)
  one_bound c0 c is x v to way Must k k' block rest pos scope later env top under d w b e emits sets
      binds fine incl more =
      let parts = cut items pos (plain is) rest block e b.stands in
      let ch = changed_by v sets in
      let stood = stood_bound l a cells stack lay framed f j pf.slots
      (slots_of (place_of a) (variables q)) d0 (lay.address m) c0 c (x ∷ []) (v ∷ []) scope
      later env (with_var x v env) Must d sets.to w w pf.enough b.stood
      (world_kept l a cells stack lay j pf.slots d sets.to w b.stood.world sets.does.good
      sets.keeps) ch
      (home_kept l a cells stack lay framed j (lay.address m) d sets.to sets.keeps.link
      (sets.keeps.outside j (inl (omega arith))) b.stood.home) refl binds incl b.scoped b.must
      b.owned in
      let ran = plain_ran l a cells stack lay items begins is pos d sets.to (m ∷ outer) w
      b.stood.world.good sets.does parts.first in
      does_after lay items begins l.width cells
      (Given l a cells stack lay items framed f j pf.slots d0 m outer to way Must)
      (code l (words_at a) (room l a cells stack lay items begins) calls_n (with_var x v env)
      top under c w) ran
      (more sets.to (record {
        emits = emits;
        stands = parts.more;
        ready = ready_at l a cells stack lay items begins way (pos + length block)
            (pos + length (plain is) + length rest) parts.end b.ready;
        above = b.above;
        fine = fine;
        scoped = still_scoped (x ∷ []) (v ∷ []) scope env (with_var x v env) refl b.scoped;
        owned = λ y in_scope. by_test y (nat_eq y x) refl in_scope binds.1.0 b.owned;
        must = λ y z h. let both = b.must y z h in
            (or_right (nat_eq y x) (is_among y scope) both.0, both.1);
        clear = b.clear;
        to_own = b.to_own;
        to_differ = b.to_differ;
        in_registers = b.in_registers;
        stood = stood;
        base = b.base;
        left = b.left;
        top_is = b.top_is;
        under_is = b.under_is;
      }))
    where
      or_right : (p r : Bool) → r ≡ true → p || r ≡ true
      or_right true r h = refl
      or_right false r h = h

      by_test : (y : ℕ) (t : Bool) → nat_eq y x ≡ t → t || is_among y scope ≡ true
          → IsOwn l a f (slots_of (place_of a) (variables q)) (place_of a x)
          → ((y : ℕ) → is_among y scope ≡ true → IsOwn l a f (slots_of (place_of a) (variables q))
          (place_of a y)) → IsOwn l a f (slots_of (place_of a) (variables q)) (place_of a y)
      by_test y true t h own owned = let same : x ≡ y = grind (arith, nat_tests)
          in subst (λ z. IsOwn l a f (slots_of (place_of a) (variables q)) (place_of a z)) same own
      by_test y false t h own owned = owned y h

  -- a variable gets an operand
  pub set_simulated : (x : ℕ) (o : Operand) (c : Code) (to : List Spot) (way : Continuation)
      (Must : ℕ → Word → Type 0) (k k' : ℕ) (block : List Item) (pos : ℕ) (scope later : List ℕ)
      (env : Env) (top : ℕ) (under : Option ℕ) (d : Data) (w : World)
      → Block l a cells stack lay items begins f q framed pf.slots j m outer d0 u n (set x o c) to
      way Must k k' block pos scope later env top under d w
      → ((v : Word) (rest : List Item) (pos' : ℕ) (d' : Data)
      → Block l a cells stack lay items begins f q framed pf.slots j m outer d0 u n c to way
      Must k k' rest pos' (x ∷ scope) later (with_var x v env) top under d' w
      → Simulates l a cells stack lay items begins f q framed pf.slots j m outer d0 u n calls_n c to
      way Must pos' (with_var x v env) top under d' w)
      → Simulates l a cells stack lay items begins f q framed pf.slots j m outer d0 u n calls_n
      (set x o c) to way Must pos env top under d w
  unfolding code
  set_simulated x o c to way Must k k' block pos scope later env top under d w b more
      = go (operand l (words_at a) env o) refl
    where
      G : List Word → World → Point → List ℕ → Type 0
      G = Given l a cells stack lay items framed f j pf.slots d0 m outer to way Must

      go : (r : Option Word) → operand l (words_at a) env o ≡ r
          → Does' lay items begins l.width cells
          (Given l a cells stack lay items framed f j pf.slots d0 m outer to way Must)
          (at (bases stack) lay items pos d) (m ∷ outer) w
          (need r w
          (λ v. code l (words_at a) (room l a cells stack lay items begins) calls_n
          (with_var x v env) top under c w))
      go None e = tt
      go (Some v) e =
          let is = set_code (place_of a x) (source l a o) in
          let rest = b.emits.0 in
          let r = operand_read (set x o c) scope env Must d w o v b.stood b.scoped b.owned
          (λ y h. among_left y (used_by o) (uses c) h) b.fine.0 e in
          let t = own_place l a lay stack f j pf.slots (slots_of (place_of a) (variables q))
          (place_of a x) pf.enough b.fine.1.0.1.0 in
          let sets = sets_source lay.code (bases stack) j pf.slots (place_of a x) (source l a o) d
          b.stood.world.good b.stood.frame t r.0 in
          one_bound (set x o c) c is x v to way Must k k' block rest pos scope later env top under d
          w b b.emits.1 b.emits.2
          (subst (λ y. Sets lay.code (bases stack) j pf.slots is d (place_of a x) y) r.1 sets)
          b.fine.1.0 b.fine.1.1 (λ y h. among_right y (used_by o) (uses c) h)
          (λ d' b'. more v rest (pos + length (plain is)) d' b')
