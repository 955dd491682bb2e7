-- Taking cells.
use Rattle.std.proofs.Common.{◌≡◌, ℕ, suc, ◌+◌, ◌*◌, ◌^◌, ◌<◌, ◌≤◌, List, [], ◌∷◌, ◌++◌, map, length, replicate, Bool, true, false, Some, None, inl, inr, refl, sym, ap, ◌∙◌, subst, arith, length-append}
use Rattle.std.specs.Prelude.{Option, nat_eq, nat_lt}
use Rattle.std.proofs.lemmas.Bool.Decides.{nat_tests}
use Rattle.std.proofs.lemmas.List.{length-replicate}
use Rattle.std.proofs.Math.Nat.{mul-le-mul_left}
use Rattle.parallel_move.specs.declared.Spot.{Spot}
use Rattle.parallel_move.specs.Moves.{Values}
use Rattle.low_code.specs.Tree.{Code, take, Procedure, Program}
use Rattle.low_code.specs.Formed.{variables}
use Rattle.low_code.specs.Values.{Word, Env, World, with_vars, need, stops, heap_full as heap_full'}
use Rattle.low_code.specs.Run.{Calls, code, places as cell_places, with_cells, empty_cell}
use Rattle.register_alloc.specs.Fits.{slots_of}
use Rattle.register_alloc.specs.Assignment.{Assignment, place_of, words_at}
use Rattle.rv32_items.specs.declared.Item.{Item}
use Rattle.rv32_items.specs.Course.{Layout}
use Rattle.rv32_select.specs.declared.source.Continuation.{Continuation}
use Rattle.rv32_select.specs.Emit.{take_items}
use Rattle.limits.specs.Limits.{heap_start}
use Rattle.rv32_select.proofs.Courses.{stays}
use Rattle.rv32_select.proofs.Straight.{Data, at}
use Rattle.rv32_select.proofs.FrameViews.{spots}
use Rattle.rv32_select.proofs.TakenCells.{AllAt}
use Rattle.rv32_select.proofs.RoomTaken.{Takes, takes}
use Rattle.rv32_select.proofs.Relation.{bases, AllHold, HoldsCells, HoldsWorld, home_kept, ran_on, quiet, Does', does_after, Given}
use Rattle.rv32_select.proofs.CellWords.{cells_taken}
use Rattle.rv32_select.proofs.PlaceFacts.{IsOwn, AllOwn, ProcedureFine, Setting}
use Rattle.rv32_select.proofs.BlockFacts.{room, Block, Simulates, Changed, or_true, own_places, apart_different, stood_bound, still_scoped}
use Rattle.rv32_select.proofs.OneBound.{Cut, cut, ready_at}
use Rattle.seq.specs.Lists.{is_among}
use Rattle.seq.proofs.Counted.{among_right}
use Rattle.rv32_select.proofs.ProcedureEntry.{places_many}

-- cells from the n-th on are at spots, as words
at_are_words : (width : ℕ) (place : ℕ → Spot) (xs : List ℕ) (n : ℕ) (u : Values)
    → AllAt (4 * width) (map place xs) (heap_start + 4 * width * n) u
    → AllHold width (map place xs) (cell_places n xs) u
at_are_words width place [] n u h = tt
at_are_words width place (x ∷ xs) n u h =
    let next : heap_start + 4 * width * n + 4 * width ≡ heap_start + 4 * width * suc n = omega arith
    in (
      h.0,
      at_are_words width place xs (suc n) u
          (subst (λ y. AllAt (4 * width) (map place xs) y u) next h.1),
    )

pub scope_owned : (l : Program) (a : Assignment) (f saved : ℕ) (xs scope : List ℕ)
    → AllOwn l a f saved (map (place_of a) xs) →
    ((y : ℕ) → is_among y scope ≡ true → IsOwn l a f saved (place_of a y)) → (y : ℕ)
    → is_among y (xs ++ scope) ≡ true → IsOwn l a f saved (place_of a y)
scope_owned l a f saved [] scope own owned y h = owned y h
scope_owned l a f saved (x ∷ xs) scope own owned y h
    = elim (or_true (nat_eq y x) (is_among y (xs ++ scope)) h) [
      | inl e ↦ let same : x ≡ y = grind (arith, nat_tests)
          in subst (λ z. IsOwn l a f saved (place_of a z)) same own.0
      | inr e ↦ scope_owned l a f saved xs scope own.1 owned y e
    ]

module _ (l : Program) (a : Assignment) (cells stack : ℕ) (lay : Layout) (items : List Item)
    (begins : List ℕ) (s : Setting l a cells stack lay items begins) (calls_n : Calls) (n : ℕ)
    (f : ℕ) (q : Procedure) (pf : ProcedureFine l a f q) (framed : Bool) (j m : ℕ) (outer : List ℕ)
    (d0 : Data) (u : ℕ) where
  pub take_simulated : (xs : List ℕ) (c : Code) (to : List Spot) (way : Continuation)
      (Must : ℕ → Word → Type 0) (k k' : ℕ) (block : List Item) (p : ℕ) (scope later : List ℕ)
      (env : Env) (top : ℕ) (under : Option ℕ) (d : Data) (w : World)
      → Block l a cells stack lay items begins f q framed pf.slots j m outer d0 u n (take xs c) to
      way Must k k' block p scope later env top under d w
      → ((env' : Env) (rest : List Item) (p' : ℕ) (d' : Data) (w' : World)
      → Block l a cells stack lay items begins f q framed pf.slots j m outer d0 u n c to way
      Must k k' rest p' (xs ++ scope) later env' top under d' w'
      → Simulates l a cells stack lay items begins f q framed pf.slots j m outer d0 u n calls_n c to
      way Must p' env' top under d' w')
      → Simulates l a cells stack lay items begins f q framed pf.slots j m outer d0 u n calls_n
      (take xs c) to way Must p env top under d w
  unfolding code
  take_simulated xs c to way Must k k' block p scope later env top under d w b more
      = by_room (nat_lt cells (length w.cells + length xs)) refl
    where
      h : HoldsWorld l a cells stack lay d w
      h = b.stood.world

      size_is : length (map (place_of a) xs) ≡ length xs
      size_is = places_many (place_of a) xs

      product : 4 * l.width * length (map (place_of a) xs) ≡ 4 * l.width * length xs
      product = ap (λ y. 4 * l.width * y) size_is

      -- the heap ends below 2 ^ 31
      ends_low : heap_start + 4 * l.width * cells < 2 ^ 31
      ends_low =
          let words = h.heap_words in
          let below = h.good.laid.heap_below in
          let same : 4 * l.width * cells ≡ 4 * (l.width * cells) = omega arith in
          omega arith

      own : AllOwn l a f (slots_of (place_of a) (variables q)) (map (place_of a) xs)
      own = b.fine.1.0.1

      parts : Cut items p (take_items (4 * l.width) (1 + length l.procs) (map (place_of a) xs))
          b.emits.0 block
      parts = cut items p (take_items (4 * l.width) (1 + length l.procs) (map (place_of a) xs))
          b.emits.0 block b.emits.1 b.stands

      taking : Takes l a cells stack lay items begins s j pf.slots (m ∷ outer) w (4 * l.width)
          (map (place_of a) xs)
          (take_items (4 * l.width) (1 + length l.procs) (map (place_of a) xs)) p d
      taking =
          let low = ends_low in
          let next = h.next in
          let few = b.fine.0 in
          let wide = s.width_some in
          let most : 4 * l.width * length w.cells ≤ 4 * l.width * cells
          = mul-le-mul_left (4 * l.width) h.room in
          let same = product in
          takes l a cells stack lay items begins s j pf.slots (m ∷ outer) w (4 * l.width)
          (map (place_of a) xs) p d (omega arith) (omega arith) parts.first h.good b.stood.frame
          (own_places l a lay stack f j pf.slots (slots_of (place_of a) (variables q))
          (map (place_of a) xs) pf.enough own)
          (apart_different l a scope xs c later b.fine.1.0.0) (omega arith)

      with_room : length w.cells + length xs ≤ cells → (env' : Env)
          → with_vars xs (cell_places (length w.cells) xs) env ≡ Some env' →
          Does' lay items begins l.width cells
          (Given l a cells stack lay items framed f j pf.slots d0 m outer to way Must)
          (at (bases stack) lay items p d) (m ∷ outer) w
          (code l (words_at a) (room l a cells stack lay items begins) calls_n env' top under c
          (with_cells (replicate (length xs) (empty_cell l (words_at a))) w))
      with_room fits env' bind =
          let same = product in
          let w' = with_cells (replicate (length xs) (empty_cell l (words_at a))) w in
          let most : 4 * l.width * (length w.cells + length xs) ≤ 4 * l.width * cells
          = mul-le-mul_left (4 * l.width) fits in
          let total : 4 * l.width * (length w.cells + length xs) ≡ 4 * l.width * length w.cells + 4
          * l.width * length xs = omega arith in
          let next = h.next in
          let end = h.end in
          let made = taking.enough (omega arith) in
          let len : length w'.cells ≡ length w.cells + length xs
          = length-append w.cells (replicate (length xs) (empty_cell l (words_at a))) ∙ ap
          (λ y. length w.cells + y) (length-replicate (length xs) (empty_cell l (words_at a)))
          in
          let behind : made.to.regs 3 ≡ heap_start + 4 * l.width * (length w.cells + length xs)
          = made.next ∙ omega arith in
          let world : HoldsWorld l a cells stack lay made.to w' = record {
            good = made.good;
            cells_are = subst (λ y. HoldsCells l.width y w'.cells) (sym made.heap)
                (cells_taken l.width d.heap w.cells (length xs) h.cells_are);
            next = behind ∙ ap (λ y. heap_start + 4 * l.width * y) (sym len);
            end = made.end ∙ end;
            room = omega arith;
            globals = let g = h.globals in omega arith;
            input = h.input;
            heap_words = ap length made.heap ∙ h.heap_words;
            stack_words = ap (λ y. 4 * y) made.words ∙ h.stack_words;
          } in
          let ch : Changed l stack j pf.slots lay (map (place_of a) xs)
          (cell_places (length w.cells) xs) d made.to = record {
            held = at_are_words l.width (place_of a) xs (length w.cells)
                (spots lay.code (bases stack) j pf.slots made.to)
                (subst (λ y. AllAt (4 * l.width) (map (place_of a) xs) y
                (spots lay.code (bases stack) j pf.slots made.to)) next made.each);
            others = made.others;
            sp = made.sp;
            words = made.words;
            outside = made.outside;
          } in
          let stood = stood_bound l a cells stack lay framed f j pf.slots
          (slots_of (place_of a) (variables q)) d0 (lay.address m) (take xs c) c xs
          (cell_places (length w.cells) xs) scope later env env' Must d made.to w w' pf.enough
          b.stood world ch
          (home_kept l a cells stack lay framed j (lay.address m) d made.to made.link
          (made.outside j (inl (omega arith))) b.stood.home) bind b.fine.1.0 (λ y e. e) b.scoped
          b.must b.owned in
          let p' = p + length (take_items (4 * l.width) (1 + length l.procs) (map (place_of a) xs))
          in
          let taken = quiet lay items begins w w'
          (stays lay items w.input (at (bases stack) lay items p' made.to) (m ∷ outer)) refl
          refl refl refl refl in
          does_after lay items begins l.width cells
          (Given l a cells stack lay items framed f j pf.slots d0 m outer to way Must)
          (code l (words_at a) (room l a cells stack lay items begins) calls_n env' top under c
          w') (ran_on lay items begins made.ran taken)
          (more env' b.emits.0 p' made.to w' (record {
            emits = b.emits.2;
            stands = parts.more;
            ready = ready_at l a cells stack lay items begins way (p + length block)
                (p' + length b.emits.0) parts.end b.ready;
            above = b.above;
            fine = b.fine.1.1;
            scoped = still_scoped xs (cell_places (length w.cells) xs) scope env env' bind b.scoped;
            owned = scope_owned l a f (slots_of (place_of a) (variables q)) xs scope own b.owned;
            must = λ y z e. let both = b.must y z e in (among_right y xs scope both.0, both.1);
            clear = b.clear;
            to_own = b.to_own;
            to_differ = b.to_differ;
            in_registers = b.in_registers;
            stood = stood;
            base = b.base;
            left = b.left;
            top_is = b.top_is;
            under_is = b.under_is;
          }))

      by_vars : length w.cells + length xs ≤ cells → (r : Option Env)
          → with_vars xs (cell_places (length w.cells) xs) env ≡ r →
          Does' lay items begins l.width cells
          (Given l a cells stack lay items framed f j pf.slots d0 m outer to way Must)
          (at (bases stack) lay items p d) (m ∷ outer) w
          (need r w
          (λ env'. code l (words_at a) (room l a cells stack lay items begins) calls_n env' top
          under c (with_cells (replicate (length xs) (empty_cell l (words_at a))) w)))
      by_vars fits None e = tt
      by_vars fits (Some env') e = with_room fits env' e

      by_room : (t : Bool) → nat_lt cells (length w.cells + length xs) ≡ t →
          Does' lay items begins l.width cells
          (Given l a cells stack lay items framed f j pf.slots d0 m outer to way Must)
          (at (bases stack) lay items p d) (m ∷ outer) w (elim t [
            | true ↦ stops heap_full' w
            | false ↦ need (with_vars xs (cell_places (length w.cells) xs) env) w
                (λ env'. code l (words_at a) (room l a cells stack lay items begins) calls_n env'
                top under c (with_cells (replicate (length xs) (empty_cell l (words_at a))) w))
          ])
      by_room false e = by_vars (grind (arith, nat_tests))
          (with_vars xs (cell_places (length w.cells) xs) env) refl
      by_room true e =
          let over : cells < length w.cells + length xs = grind (arith, nat_tests) in
          let same = product in
          let next = h.next in
          let end = h.end in
          let wide = s.width_some in
          let more_cells : 4 * l.width * suc cells ≤ 4 * l.width * (length w.cells + length xs)
          = mul-le-mul_left (4 * l.width)
          (let y : suc cells ≤ length w.cells + length xs = omega arith in y) in
          let one_more : 4 * l.width * suc cells ≡ 4 * l.width * cells + 4 * l.width = omega arith
          in
          let total : 4 * l.width * (length w.cells + length xs) ≡ 4 * l.width * length w.cells + 4
          * l.width * length xs = omega arith in
          taking.full (omega arith)
