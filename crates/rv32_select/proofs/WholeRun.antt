-- From the first item on the machine does what the run of the program does.
use Rattle.std.proofs.Common.{◌≡◌, ◌≢◌, ℕ, zero, suc, ◌+◌, ◌*◌, ◌/◌, ◌%◌, ◌^◌, ◌<◌, ◌≤◌, List, [], ◌∷◌, ◌++◌, map, length, get_or, replicate, Bool, true, false, Some, None, refl, sym, ap, ◌∙◌, subst, arith, length-append, ◌-◌}
use Rattle.std.specs.Prelude.{Option, nat_eq, nat_lt, if◌then◌else◌, slice_get}
use Rattle.std.proofs.lemmas.Bool.Decides.{nat_tests}
use Rattle.std.proofs.lemmas.List.{length-replicate, length-map}
use Rattle.std.proofs.Math.Nat.{mul-le-mul_left}
use Rattle.headline.specs.Carries.{IsBytes}
use Rattle.rv32_isa.specs.declared.instr.Instr.{Instr}
use Rattle.rv32_machine.specs.Steps.{set_reg}
use Rattle.rv32_steps.proofs.Words.{zeros_are_words}
use Rattle.parallel_move.specs.declared.Spot.{Spot}
use Rattle.parallel_move.specs.declared.Spot.TheVariants.{Reg, Slot, Scratch}
use Rattle.low_code.specs.Tree.{Procedure, Program}
use Rattle.low_code.specs.Values.{Word, cell, World, Answer, gives, stops, no_alternative, out_of_units, missing, heap_full as heap_full', stack_full as stack_full'}
use Rattle.low_code.specs.Run.{ended, end_of, calls, global_cell, start_world, start_words, run_in, limited}
use Rattle.register_alloc.specs.Assignment.{Assignment, place_of, words_at}
use Rattle.rv32_items.specs.declared.Item.{Item}
use Rattle.rv32_items.specs.declared.Item.TheVariants.{Jump}
use Rattle.rv32_items.specs.Course.{Layout, label_from}
use Rattle.rv32_items.specs.Placed.{is_instruction}
use Rattle.rv32_select.specs.declared.source.Source.TheVariants.{Number}
use Rattle.rv32_select.specs.Emit.{plain, load_constant, room_items, globals_code, start_items, argument_spots, number_moves, result_spots, exit_with, base_at_start}
use Rattle.rv32_select.specs.IsSelected.{sources, start_argument, is_lasting}
use Rattle.limits.specs.Limits.{heap_start, stack_end}
use Rattle.low_code.specs.Literals.{TagsSmall}
use Rattle.rv32_select.proofs.Courses.{Stands, front, back}
use Rattle.rv32_select.proofs.Leaves.{leaves_on}
use Rattle.rv32_select.proofs.Straight.{Data, words, with_reg, Good, Does, does_nothing, does_on, at}
use Rattle.rv32_select.proofs.NumberParts.{does_number}
use Rattle.rv32_select.proofs.JumpStretches.{jumped, calls_to, comes_back}
use Rattle.rv32_select.proofs.Relation.{bases, regs_of, AllHold, HoldsCells, HoldsWorld, Back, Ran, Ends, ran_on, ends_on, quiet, Does', HasBase, Keeps, base_kept, base_same}
use Rattle.rv32_select.proofs.PlaceFacts.{AllFree, Setting, Free}
use Rattle.rv32_select.proofs.BlockFacts.{room}
use Rattle.rv32_select.proofs.OneBound.{plain_ran}
use Rattle.rv32_select.proofs.Stops.{Tested, tested, exits_here}
use Rattle.rv32_select.proofs.BlockEnds.{good_jumped, jumped_reg}
use Rattle.rv32_select.proofs.CallStatement.{behind_call}
use Rattle.rv32_select.proofs.Simulation.{calls_simulated}
use Rattle.rv32_select.proofs.StartUp.{globals_done, start_data}
use Rattle.rv32_select.proofs.Outcomes.{Outcome}
use Rattle.rv32_machine.proofs.Registers.{set_there, set_here}

-- what the start-up asks
pub record Started (l : Program) (a : Assignment) (cells stack : ℕ) (items : List Item)
    : Type 0 where
  pub start : Procedure
  pub is_start : slice_get l.procs l.start ≡ Some start
  pub stands : Stands items 0
      (start_items stack_end heap_start (heap_start + 4 * l.width * cells) (4 * l.width)
      (1 + length l.procs) l.globals ++
      (plain (number_moves (argument_spots 0 (map (place_of a) start.params))
      (sources l a (start_argument l.argument)) ++ base_at_start (is_lasting a) (stack_end - stack))
      ++ Jump 1 l.start ∷ exit_with 0))
  pub argument : (i : ℕ) → l.argument ≡ Some i → i < length l.globals
  pub tags : TagsSmall l.globals
  pub few : length l.globals ≤ 131072

zeros_read : (n t : ℕ) → ◌≡◌ {A = ℕ} (get_or (replicate n 0) t 0) 0
zeros_read zero t = refl
zeros_read (suc n) zero = refl
zeros_read (suc n) (suc t) = zeros_read n t

no_cells : (width n : ℕ) → HoldsCells width (replicate n 0) []
no_cells width n = record {
  full = λ i ws e. absurd (cc);
  words = λ i k ws v e e'. absurd (cc);
  zeros
      = λ t le. zeros_read n t;
}

module _ (l : Program) (a : Assignment) (cells stack : ℕ) (lay : Layout) (items : List Item)
    (begins : List ℕ) (s : Setting l a cells stack lay items begins)
    (z : Started l a cells stack items) where
  d0 : Data
  d0 = start_data l.width cells stack

  -- the heap and the stack are apart
  product_small : l.width * cells ≤ 112000000
  product_small =
      let narrow = s.width_small in
      let few = s.cells_few in
      let most : l.width * cells ≤ l.width * 8000000 = mul-le-mul_left l.width few in
      omega arith

  good_start : Good lay.code (bases stack) (start_data l.width cells stack)
  good_start =
      let product = product_small in
      let few = s.stack_few in
      let four = s.stack_four in
      let heap : length (words (start_data l.width cells stack)).heap ≡ l.width * cells
      = length-replicate (l.width * cells) 0 in
      let words_are : length (start_data l.width cells stack).stack ≡ stack / 4
      = length-replicate (stack / 4) 0 in
      let low = s.below in
      record {
        small = λ r ne. by_zero (nat_eq r 0);
        laid = record {
          fixed = s.rises.fixed;
          code_below = low;
          heap_below = omega arith;
          heap_four = refl;
          stack_four = omega arith;
          heap_words = zeros_are_words (l.width * cells);
          stack_words = zeros_are_words (stack / 4);
        };
        top = omega arith;
      }
    where
      by_zero : (t : Bool) → (if t then 0 else 0) < 2 ^ 32
      by_zero true = omega arith
      by_zero false = omega arith

  -- the argument of the start
  record Argument (d : Data) : Type 0 where
    pub to : Data
    pub does : Does lay.code (bases stack)
        (number_moves (argument_spots 0 (map (place_of a) z.start.params))
        (sources l a (start_argument l.argument))) d to
    pub hold : AllHold l.width (argument_spots 0 (map (place_of a) z.start.params))
        (start_words l.argument) (regs_of to)
    pub low : (r : ℕ) → r < 5 → to.regs r ≡ d.regs r
    pub heap : to.heap ≡ d.heap
    pub stack' : to.stack ≡ d.stack

  no_sources : (ss : List Spot) → number_moves ss [] ≡ []
  no_sources [] = refl
  no_sources (s ∷ ss) = refl

  argument_done : (d : Data) → Good lay.code (bases stack) d → length l.globals ≤ cells → Argument d
  argument_done d g room = by_argument (argument_spots 0 (map (place_of a) z.start.params))
      (s.fine l.start z.start z.is_start).arguments l.argument refl
    where
      made : (o : Option ℕ) → l.argument ≡ o → (to : Data)
          → Does lay.code (bases stack)
          (number_moves (argument_spots 0 (map (place_of a) z.start.params))
          (sources l a (start_argument o))) d to → AllHold l.width
          (argument_spots 0 (map (place_of a) z.start.params)) (start_words o) (regs_of to)
          → ((r : ℕ) → r < 5 → to.regs r ≡ d.regs r) → to.heap ≡ d.heap → to.stack ≡ d.stack
          → Argument d
      made o e to does hold low heap stack' = record {
        to = to;
        does = subst
            (λ x. Does lay.code (bases stack)
            (number_moves (argument_spots 0 (map (place_of a) z.start.params))
            (sources l a (start_argument x))) d to) (sym e) does;
        hold = subst
            (λ x. AllHold l.width (argument_spots 0 (map (place_of a) z.start.params))
            (start_words x) (regs_of to)) (sym e) hold;
        low = low;
        heap = heap;
        stack' = stack';
      }

      word : (i : ℕ) → i < length l.globals →
          ((heap_start + 4 * l.width * i) % 2 ^ 32 ≡ heap_start + 4 * l.width * i)
          × (heap_start + 4 * l.width * i < 2 ^ 32)
      word i lt =
          let product = product_small in
          let most : 4 * l.width * i ≤ 4 * l.width * cells
          = mul-le-mul_left (4 * l.width) (let x : i ≤ cells = omega arith in x) in
          let same : 4 * l.width * cells ≡ 4 * (l.width * cells) = omega arith in
          (omega arith, omega arith)

      none_holds : (ss : List Spot) (d : Data) → AllHold l.width ss [] (regs_of d)
      none_holds [] d = tt
      none_holds (s ∷ ss) d = tt

      one_spot : (ss : List Spot) → AllFree l a l.start ss → (i : ℕ) → i < length l.globals
          → (to : Data) ×
          (Does lay.code (bases stack)
          (number_moves ss (Number ((heap_start + 4 * l.width * i) % 2 ^ 32) ∷ [])) d to
          × (AllHold l.width ss (cell i ∷ []) (regs_of to)
          × (((r : ℕ) → r < 5 → to.regs r ≡ d.regs r)
          × ((to.heap ≡ d.heap) × (to.stack ≡ d.stack)))))
      one_spot [] o i lt =
          (d, (does_nothing lay.code (bases stack) d g, (tt, ((λ r x. refl), (refl, refl)))))
      one_spot (Reg r ∷ ss) o i lt =
          let is = word i lt in
          let lo = o.0.0 in
          let n = (heap_start + 4 * l.width * i) % 2 ^ 32 in
          let does = does_number lay.code (bases stack) r n d g (omega arith) (omega arith) in
          let to = with_reg d r n in
          let whole = does_on lay.code (bases stack) does
          (subst (λ x. Does lay.code (bases stack) x to to) (sym (no_sources ss))
          (does_nothing lay.code (bases stack) to does.good)) in (
            to,
            (
              whole,
              (
                (set_here d.regs r n ∙ is.0, none_holds ss to),
                ((λ q x. set_there d.regs r n q (omega arith)), (refl, refl)),
              ),
            ),
          )
      one_spot (Slot k ∷ ss) o i lt = let none = o.0 in absurd (omega arith)
      one_spot (Scratch ∷ ss) o i lt = absurd o.0

      by_argument : (ss : List Spot) → AllFree l a l.start
          (argument_spots 0 (map (place_of a) z.start.params)) → (o : Option ℕ) → l.argument ≡ o
          → Argument d
      by_argument ss free None e =
          made None e d
          (subst (λ x. Does lay.code (bases stack) x d d)
          (sym (no_sources (argument_spots 0 (map (place_of a) z.start.params))))
          (does_nothing lay.code (bases stack) d g))
          (none_holds (argument_spots 0 (map (place_of a) z.start.params)) d) (λ r x. refl) refl
          refl
      by_argument ss free (Some i) e =
          let one = one_spot (argument_spots 0 (map (place_of a) z.start.params)) free i
          (z.argument i e) in
          made (Some i) e one.0 one.1.0 one.1.1.0 one.1.1.1.0 one.1.1.1.1.0 one.1.1.1.1.1

  -- ---- from the start to the end

  -- what a call of the start does becomes what the whole run does
  outcome_of : (t pj : ℕ) (d : Data) (d1 : Data) (w0 : World) (x : Answer)
      → Stands items (suc pj) (exit_with 0) → end_of x ≢ ended missing
      → Ran lay items begins (at (bases stack) lay items 0 (start_data l.width cells stack)) [] w0
      (at (bases stack) lay items t d) (suc pj ∷ []) w0
      → Does' lay items begins l.width cells
      (λ rs w' p calls'. (d' : Data) ×
      ((p ≡ at (bases stack) lay items (suc pj) d')
      × ((calls' ≡ []) ×
      (Back l a cells stack lay l.start (stack / 4) d1 (result_spots 10 z.start.results) rs d'
      w' × (length rs ≡ z.start.results)))))
      (at (bases stack) lay items t d) (suc pj ∷ []) w0 x
      → Outcome lay items begins l.width cells w0.input
      (at (bases stack) lay items 0 (start_data l.width cells stack)) w0 x
  outcome_of t pj d d1 w0 (gives rs w) exit there ran h =
      let given = h.1.1.1 in
      let back = given.1.1.1.0 in
      let ends = exits_here l a cells stack lay items begins s 0 (suc pj) given.0 [] w (omega arith)
      exit back.world.good (λ ne. (back.world.room, back.world.next)) in
      let here = subst (λ p. Ends lay items begins l.width cells p h.1.0 w w 0) (sym given.1.0)
      (subst (λ c. Ends lay items begins l.width cells (at (bases stack) lay items (suc pj) given.0)
      c w w 0)
      (sym given.1.1.0) ends) in
      ends_on lay items begins l.width cells ran
      (ends_on lay items begins l.width cells h.1.1.0 here)
  outcome_of t pj d d1 w0 (stops no_alternative w) exit there ran h
      = (ends_on lay items begins l.width cells ran h.0, leaves_on lay items ran.way h.1)
  outcome_of t pj d d1 w0 (stops heap_full' w) exit there ran h
      = ends_on lay items begins l.width cells ran h
  outcome_of t pj d d1 w0 (stops stack_full' w) exit there ran h
      = ends_on lay items begins l.width cells ran h
  outcome_of t pj d d1 w0 (stops out_of_units w) exit there ran h
      = (h.0, (h.1.0, (ran_on lay items begins ran h.1.1.0, h.1.1.1)))
  outcome_of t pj d d1 w0 (stops missing w) exit there ran h = absurd (there refl)

  -- the pieces of the start-up
  abbrev numbers : List Instr
  numbers = load_constant 2 stack_end ++
      (load_constant 3 heap_start ++ load_constant 4 (heap_start + 4 * l.width * cells))

  abbrev room_piece : List Item
  room_piece = room_items (4 * l.width * length l.globals) (1 + length l.procs)

  abbrev globals_piece : List Instr
  globals_piece = globals_code (4 * l.width) l.globals

  abbrev start_piece : List Item
  start_piece = start_items stack_end heap_start (heap_start + 4 * l.width * cells) (4 * l.width)
      (1 + length l.procs) l.globals

  abbrev argument_code : List Instr
  argument_code = number_moves (argument_spots 0 (map (place_of a) z.start.params))
      (sources l a (start_argument l.argument)) ++ base_at_start (is_lasting a) (stack_end - stack)

  abbrev numbered : Data
  numbered = with_reg
      (with_reg (with_reg (start_data l.width cells stack) 2 stack_end) 3 heap_start) 4
      (heap_start + 4 * l.width * cells)

  heap_small : heap_start + 4 * l.width * cells < 2 ^ 31
  heap_small =
      let product = product_small in
      let same : 4 * l.width * cells ≡ 4 * (l.width * cells) = omega arith in
      omega arith

  globals_small : 4 * l.width * length l.globals ≤ 7340032
  globals_small =
      let few = z.few in
      let narrow = s.width_small in
      let most : l.width * length l.globals ≤ l.width * 131072 = mul-le-mul_left l.width few in
      let same : 4 * l.width * length l.globals ≡ 4 * (l.width * length l.globals) = omega arith in
      omega arith

  numbers_done : Does lay.code (bases stack) numbers (start_data l.width cells stack) numbered
  numbers_done =
      let small = heap_small in
      let two = does_number lay.code (bases stack) 2 stack_end (start_data l.width cells stack)
      good_start (omega arith) (omega arith) in
      let d1 = with_reg (start_data l.width cells stack) 2 stack_end in
      let three = does_number lay.code (bases stack) 3 heap_start d1 two.good (omega arith)
      (omega arith) in
      let four = does_number lay.code (bases stack) 4 (heap_start + 4 * l.width * cells)
      (with_reg d1 3 heap_start) three.good (omega arith) (omega arith) in
      does_on lay.code (bases stack) two (does_on lay.code (bases stack) three four)

  at_start : Stands items 0 start_piece
  at_start = front items 0 start_piece (plain argument_code ++ Jump 1 l.start ∷ exit_with 0)
      z.stands

  at_first_call : Stands items (0 + length start_piece)
      (plain argument_code ++ Jump 1 l.start ∷ exit_with 0)
  at_first_call = back items 0 start_piece (plain argument_code ++ Jump 1 l.start ∷ exit_with 0)
      z.stands

  at_room : Stands items (0 + length (plain numbers)) (room_piece ++ plain globals_piece)
  at_room = back items 0 (plain numbers) (room_piece ++ plain globals_piece) at_start

  numbers_ran : (w0 : World) → Ran lay items begins
      (at (bases stack) lay items 0 (start_data l.width cells stack)) [] w0
      (at (bases stack) lay items (0 + length (plain numbers)) numbered) [] w0
  numbers_ran w0 = plain_ran l a cells stack lay items begins numbers 0
      (start_data l.width cells stack) numbered [] w0 good_start numbers_done
      (front items 0 (plain numbers) (room_piece ++ plain globals_piece) at_start)

  room_test : (w0 : World) → Tested l a cells stack lay items begins s
      (4 * l.width * length l.globals) (0 + length (plain numbers)) numbered [] w0
  room_test w0 =
      let few = globals_small in
      let small = heap_small in
      tested l a cells stack lay items begins s (4 * l.width * length l.globals)
      (0 + length (plain numbers)) numbered [] w0
      (front items (0 + length (plain numbers)) room_piece (plain globals_piece) at_room)
      numbers_done.good (omega arith) (omega arith)

  -- no room for the globals
  no_room : (w0 : World) → cells < length l.globals
      → Ends lay items begins l.width cells
      (at (bases stack) lay items 0 (start_data l.width cells stack)) [] w0
      w0 4
  no_room w0 over =
      let wide = s.width_some in
      let more : 4 * l.width * suc cells ≤ 4 * l.width * length l.globals
      = mul-le-mul_left (4 * l.width) (let x : suc cells ≤ length l.globals = omega arith in x)
      in
      let one_more : 4 * l.width * suc cells ≡ 4 * l.width * cells + 4 * l.width = omega arith in
      ends_on lay items begins l.width cells (numbers_ran w0) ((room_test w0).full (omega arith))

  -- the stack's base goes to x27, if it lasts there
  record BaseSet (t : Bool) (d : Data) : Type 0 where
    pub to : Data
    pub does : Does lay.code (bases stack) (base_at_start t (stack_end - stack)) d to
    pub low : (r : ℕ) → r < 5 → to.regs r ≡ d.regs r
    pub free : (r : ℕ) → 8 ≤ r → Free l a l.start r → to.regs r ≡ d.regs r
    pub heap : to.heap ≡ d.heap
    pub stack' : to.stack ≡ d.stack
    pub has : HasBase t (stack_end - stack) to

  base_set : (t : Bool) → is_lasting a ≡ t → (d : Data) → Good lay.code (bases stack) d
      → BaseSet t d
  base_set true e d g = record {
    to = with_reg d 27 (stack_end - stack);
    does = does_number lay.code (bases stack) 27 (stack_end - stack) d g (omega arith)
        (omega arith);
    low = λ r lt. set_there d.regs 27 (stack_end - stack) r (omega arith);
    free = λ r le f. set_there d.regs 27 (stack_end - stack) r
        (λ same. f (subst (Keeps l a l.start) (sym same) (base_kept l a l.start e)));
    heap = refl;
    stack' = refl;
    has = refl;
  }
  base_set false e d g = record {
    to = d;
    does = does_nothing lay.code (bases stack) d g;
    low = λ r lt. refl;
    free
        = λ r le f. refl;
    heap = refl;
    stack' = refl;
    has = tt;
  }

  -- the call of the start
  record FirstCall (input : List ℕ) (n : ℕ) : Type 0 where
    pub to : Data
    pub place : ℕ
    pub found : label_from 0 items l.start ≡ Some place
    pub ran : Ran lay items begins (at (bases stack) lay items 0 (start_data l.width cells stack))
        [] (start_world l (words_at a) input n) (at (bases stack) lay items place to)
        (suc (0 + length start_piece + length (plain argument_code)) ∷ [])
        (start_world l (words_at a) input n)
    pub world : HoldsWorld l a cells stack lay to (start_world l (words_at a) input n)
    pub base : HasBase (is_lasting a) (stack_end - stack) to
    pub sp : to.regs 2 ≡ (bases stack).stack + 4 * (stack / 4)
    pub link : to.regs 1 ≡ lay.address (suc (0 + length start_piece + length (plain argument_code)))
    pub hold : AllHold l.width (argument_spots 0 (map (place_of a) z.start.params))
        (start_words l.argument) (regs_of to)

  jump_stands : Stands items (0 + length start_piece + length (plain argument_code))
      (Jump 1 l.start ∷ exit_with 0)
  jump_stands = back items (0 + length start_piece) (plain argument_code)
      (Jump 1 l.start ∷ exit_with 0) at_first_call

  first_called : (input : List ℕ) (n : ℕ) → IsBytes input → length l.globals ≤ cells
      → FirstCall input n
  first_called input n bytes fits =
      let w0 = start_world l (words_at a) input n in
      let few = s.stack_few in
      let four = s.stack_four in
      let test = room_test w0 in
      let wide = s.width_some in
      let most : 4 * l.width * length l.globals ≤ 4 * l.width * cells
      = mul-le-mul_left (4 * l.width) fits in
      let ran2 = test.enough (omega arith) in
      let keeps = test.keeps 0 0 in
      let heap_is : test.to.heap ≡ replicate (l.width * cells) 0 = keeps.heap in
      let empty : HoldsCells l.width test.to.heap []
      = subst (λ x. HoldsCells l.width x []) (sym heap_is) (no_cells l.width (l.width * cells))
      in
      let none : heap_start ≡ heap_start + 4 * l.width * 0 = omega arith in
      let heap_len : length test.to.heap ≡ l.width * cells
      = ap length heap_is ∙ length-replicate (l.width * cells) 0 in
      let G = globals_done l lay cells stack s.width_some s.width_small l.globals [] test.to
      test.good z.tags empty (keeps.next ∙ none) heap_len (omega arith) in
      let p2 = 0 + length (plain numbers) + length room_piece in
      let s4 : Stands items (0 + length (plain numbers) + length room_piece) (plain globals_piece)
      = back items (0 + length (plain numbers)) room_piece (plain globals_piece) at_room in
      let ran3 = plain_ran l a cells stack lay items begins globals_piece p2 test.to G.to [] w0
      test.good G.does s4 in
      let end : p2 + length (plain globals_piece) ≡ 0 + length start_piece = let x
      = length-append (plain numbers) (room_piece ++ plain globals_piece) in let y
      = length-append room_piece (plain globals_piece) in omega arith in
      let A' = argument_done G.to G.does.good fits in
      let B = base_set (is_lasting a) refl A'.to A'.does.good in
      let A = B in
      let ran4 = plain_ran l a cells stack lay items begins argument_code (0 + length start_piece)
      G.to A.to [] w0 G.does.good (does_on lay.code (bases stack) A'.does B.does)
      (front items (0 + length start_piece) (plain argument_code) (Jump 1 l.start ∷ exit_with 0)
      at_first_call) in
      let pj = 0 + length start_piece + length (plain argument_code) in
      let there = s.procedures l.start z.start z.is_start in
      let label = (subst (λ x. Stands items there.place x) there.emits.is there.stands).0 in
      let found = s.once there.place l.start label in
      let step = calls_to (bases stack) lay items pj there.place l.start A.to input [] jump_stands.0
      found in
      let ran3' = subst
      (λ y. Ran lay items begins (at (bases stack) lay items p2 test.to) [] w0
      (at (bases stack) lay items y G.to) [] w0) end ran3 in
      let d4 = jumped (bases stack) lay items pj 1 A.to in
      let jump_reg = λ (r : ℕ) (z0 : r ≢ 0) (z7 : r ≢ 7) (z1 : r ≢ 1). jumped_reg l a cells stack
      lay items begins s pj 1 r A.to z0 z7 z1 in
      let stack_len : length A.to.stack ≡ stack / 4
      = ap length (A.stack' ∙ A'.stack' ∙ G.stack' ∙ test.stack') ∙ length-replicate (stack / 4)
      0 in
      let many : length w0.cells ≡ length l.globals
      = length-map l.globals (global_cell l (words_at a)) in
      record {
        to = d4;
        place = there.place;
        found = found;
        ran = ran_on lay items begins (numbers_ran w0)
            (ran_on lay items begins ran2
            (ran_on lay items begins ran3'
            (ran_on lay items begins ran4
            (quiet lay items begins w0 w0 step refl refl refl refl refl))));
        world = record {
          good = good_jumped l a cells stack lay items begins s pj 1 (Jump 1 l.start) A.to
              jump_stands.0 A.does.good;
          cells_are = subst (λ x. HoldsCells l.width x w0.cells) (sym (A.heap ∙ A'.heap))
              G.cells_are;
          next = jump_reg 3 (omega arith) (omega arith) (omega arith) ∙ A.low 3 (omega arith) ∙
              A'.low 3 (omega arith) ∙ G.next ∙ ap (λ x. heap_start + 4 * l.width * x)
              (let x : 0 + length l.globals ≡ length w0.cells = omega arith in x);
          end = jump_reg 4 (omega arith) (omega arith) (omega arith) ∙ A.low 4 (omega arith) ∙
              A'.low 4 (omega arith) ∙ G.four ∙ keeps.end;
          room = omega arith;
          globals = omega arith;
          input = bytes;
          heap_words = ap length (A.heap ∙ A'.heap) ∙ G.words ∙ heap_len;
          stack_words = omega arith;
        };
        base = base_same (is_lasting a) (stack_end - stack) A.to d4
            (jump_reg 27 (omega arith) (omega arith) (omega arith)) B.has;
        sp = jump_reg 2 (omega arith) (omega arith) (omega arith) ∙ A.low 2 (omega arith) ∙ A'.low 2
            (omega arith) ∙ G.two ∙ keeps.frame ∙
            (let x : stack_end ≡ (bases stack).stack + 4 * (stack / 4) = omega arith in x);
        link = s.rises.far_keeps pj 1 (set_reg A.to.regs 1 (lay.address (suc pj))) (omega arith)
            (omega arith) ∙ set_here A.to.regs 1 (lay.address (suc pj));
        hold = regs_hold (argument_spots 0 (map (place_of a) z.start.params))
            (start_words l.argument) A'.to d4 (s.fine l.start z.start z.is_start).arguments
            (λ r lo f. jump_reg r (omega arith) (omega arith) (omega arith) ∙ B.free r lo f)
            A'.hold;
      }
    where
      regs_hold : (ss : List Spot) (vs : List Word) (d d' : Data) → AllFree l a l.start ss
          → ((r : ℕ) → 8 ≤ r → Free l a l.start r → d'.regs r ≡ d.regs r)
          → AllHold l.width ss vs (regs_of d) → AllHold l.width ss vs (regs_of d')
      regs_hold [] vs d d' o e h = tt
      regs_hold (x ∷ ss) [] d d' o e h = tt
      regs_hold (Reg r ∷ ss) (v ∷ vs) d d' o e h =
          (e r o.0.0 o.0.1.1 ∙ h.0, regs_hold ss vs d d' o.1 e h.1)
      regs_hold (Slot k ∷ ss) (v ∷ vs) d d' o e h = let none = o.0 in absurd (omega arith)
      regs_hold (Scratch ∷ ss) (v ∷ vs) d d' o e h = absurd o.0

  pub whole_run : (input : List ℕ) (n : ℕ) → IsBytes input
      → end_of (limited l (words_at a) cells stack input n) ≢ ended missing
      → Outcome lay items begins l.width cells input
      (at (bases stack) lay items 0 (start_data l.width cells stack))
      (start_world l (words_at a) input n) (limited l (words_at a) cells stack input n)
  unfolding run_in
  whole_run input n bytes there = by_room (nat_lt cells (length l.globals)) refl there
    where
      by_room : (b : Bool) → nat_lt cells (length l.globals) ≡ b
          → end_of (elim b [
            | true ↦ stops heap_full' (start_world l (words_at a) input n)
            | false ↦ calls l
                (words_at a) (room l a cells stack lay items begins) n l.start
                (start_words l.argument) 0 (start_world l (words_at a) input n)
          ]) ≢ ended missing
          → Outcome lay items begins l.width cells input
          (at (bases stack) lay items 0 (start_data l.width cells stack))
          (start_world l (words_at a) input n)
          (elim b [
            | true ↦ stops heap_full' (start_world l (words_at a) input n)
            | false ↦ calls
                l (words_at a) (room l a cells stack lay items begins) n l.start
                (start_words l.argument) 0 (start_world l (words_at a) input n)
          ])
      by_room true e there = no_room (start_world l (words_at a) input n) (grind (arith, nat_tests))
      by_room false e there =
          let fits : length l.globals ≤ cells = grind (arith, nat_tests) in
          let C = first_called input n bytes fits in
          let w0 = start_world l (words_at a) input n in
          let four = s.stack_four in
          let pj = 0 + length start_piece + length (plain argument_code) in
          let back_found = comes_back lay items s.rises pj (ap is_instruction jump_stands.0)
          (behind_call l a cells stack lay items begins s pj 1 l.start jump_stands.0) in
          let done_by = calls_simulated l a cells stack lay items begins s n l.start z.start C.place
          (suc pj) [] (start_words l.argument) 0 (stack / 4) w0 C.to z.is_start C.found C.world
          C.base C.sp (omega arith) C.link back_found C.hold (omega arith) in
          outcome_of C.place pj C.to C.to w0
          (calls l (words_at a) (room l a cells stack lay items begins) n l.start
          (start_words l.argument) 0 w0) jump_stands.1 there C.ran done_by
