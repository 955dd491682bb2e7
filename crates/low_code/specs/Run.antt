-- What blocks, procedures and programs of low code do.
use Rattle.std.specs.Prelude.{◌≢◌, ℕ, suc, zero, ◌+◌, ◌*◌, ◌-◌, ◌%◌, ◌^◌, Bool, true, false, cond, nat_eq, nat_lt, max, List, [], ◌∷◌, ◌++◌, map, length, replicate, Option, Some, None, slice_get, slice_set}
use Rattle.headline.specs.Carries.{IsBytes}
use Rattle.low_code.specs.declared.program.Operand.{Operand}
use Rattle.low_code.specs.declared.program.Operand.TheVariants.{Var, Num, Cell}
use Rattle.low_code.specs.declared.program.LowTest.{LowTest}
use Rattle.low_code.specs.Tree.{Code, set, prim, load, save, take, put, get, call, join, give, tail, choose, fail, Arms, otherwise, arm, Procedure, Program}
use Rattle.low_code.specs.Arithmetic.{arithmetic}
use Rattle.low_code.specs.Values.{Word, number, cell, Env, World, Stop, no_alternative, out_of_units, missing, heap_full, stack_full, Room, is_over, Answer, gives, stops, then_do, need, and_then, each, with_var, with_vars, no_vars, number_of, cell_of}

-- a call of a procedure with words, over frames of so many words
abbrev pub Calls : Type 0
Calls = ℕ → List Word → ℕ → World → Answer

abbrev pub written : ℕ → World → World
written k w = record w { out = w.out ++ k % 256 ∷ [] }

-- the next byte of the input, or all ones at its end
abbrev pub next_byte : List ℕ → ℕ
next_byte [] = 2 ^ 32 - 1
next_byte (b ∷ bs) = b

abbrev pub byte_taken : List ℕ → World → World
byte_taken [] w = w
byte_taken (b ∷ bs) w = record w { input = bs; used = w.used + 1 }

-- a word of a cell becomes v
abbrev pub with_word : (a k : ℕ) → Word → List Word → World → World
with_word a k v c w = record w { cells = slice_set w.cells a (slice_set c k v) }

abbrev pub with_cells : List (List Word) → World → World
with_cells cs w = record w { cells = w.cells ++ cs }

-- one unit spent, at the entry of a procedure
abbrev pub spent : (f frames left : ℕ) → World → World
spent f frames left w =
    record w { left = left; frames = max w.frames frames; entered = w.entered ++ f ∷ [] }

abbrev pub spend : ℕ → World → (ℕ → Answer) → Answer
spend zero w k = stops out_of_units w
spend (suc m) w k = k m

-- the places of new cells, from the first free one
abbrev pub places : ℕ → List ℕ → List Word
places a [] = []
places a (x ∷ xs) = cell a ∷ places (suc a) xs

abbrev pub start_words : Option ℕ → List Word
start_words None = []
start_words (Some i) = cell i ∷ []

-- stops where so much is more than a limit, and else goes on
abbrev pub within_limit : Option ℕ → ℕ → Answer → Answer → Answer
within_limit limit k full a = elim (is_over k limit) [ true ↦ full | false ↦ a ]

-- a procedure gives as many words as it says
abbrev pub with_result_count : ℕ → Answer → Answer
with_result_count n a =
    then_do a (λ vs w. cond (nat_eq (length vs) n) (gives vs w) (stops missing w))

module _ (p : Program) (frame_words : ℕ → ℕ) where
  abbrev pub operand : Env → Operand → Option Word
  operand env (Var x) = env x
  operand env (Num k) = Some (number k)
  operand env (Cell i) = cond (nat_lt i (length p.globals)) (Some (cell i)) None

  abbrev pub operands : Env → List Operand → Option (List Word)
  operands env = each (operand env)

  abbrev pub number_in : Env → Operand → Option ℕ
  number_in env a = and_then (operand env a) number_of

  abbrev pub cell_in : Env → Operand → Option ℕ
  cell_in env a = and_then (operand env a) cell_of

  -- whether the tests hold: they are looked at in order, up to the first that fails
  abbrev pub holds : Env → List LowTest → Option Bool
  holds env [] = Some true
  holds env (t ∷ ts) = and_then (number_in env t.left) (λ k.
      elim (nat_eq k t.right) [ true ↦ holds env ts | false ↦ Some false ])

  abbrev pub empty_cell : List Word
  empty_cell = replicate p.width (number 0)

  module _ (room : Room) where
    module _ (calls : Calls) where
      unfoldable mutual
        -- a block of a procedure whose frame ends the first `top` words of frames; `under` words
        -- lie under it, and inside a join, where no tail call may stand, none are said
        pub code : Env → (top : ℕ) → (under : Option ℕ) → Code → World → Answer
        code env top under (set x a c) w =
            need (operand env a) w (λ v. code (with_var x v env) top under c w)
        code env top under (prim f x a b c) w =
            need (number_in env a) w (λ m. need (number_in env b) w (λ n.
            code (with_var x (number (arithmetic f m n)) env) top under c w))
        code env top under (load x a k c) w =
            need (cell_in env a) w (λ i. need (slice_get w.cells i) w (λ ws.
            need (slice_get ws k) w (λ v. code (with_var x v env) top under c w)))
        code env top under (save a k b c) w = need (cell_in env a) w (λ i.
            need (slice_get w.cells i) w (λ ws. need (slice_get ws k) w (λ old.
            need (operand env b) w (λ v. code env top under c (with_word i k v ws w)))))
        code env top under (take xs c) w =
            within_limit room.cells (length w.cells + length xs) (stops heap_full w)
            (need (with_vars xs (places (length w.cells) xs) env) w (λ env'.
            code env' top under c (with_cells (replicate (length xs) empty_cell) w)))
        code env top under (put a c) w =
            need (number_in env a) w (λ k. code env top under c (written k w))
        code env top under (get x c) w =
            code (with_var x (number (next_byte w.input)) env) top under c (byte_taken w.input w)
        code env top under (call f site as' xs c) w =
            need (operands env as') w (λ vs. then_do (calls f vs top w) (λ rs w'.
            need (with_vars xs rs env) w' (λ env'. code env' top under c w')))
        code env top under (join xs b c) w = then_do (code env top None b w) (λ rs w'.
            need (with_vars xs rs env) w' (λ env'. code env' top under c w'))
        code env top under (give as') w = need (operands env as') w (λ vs. gives vs w)
        code env top under (tail f site as') w =
            need under w (λ u. need (operands env as') w (λ vs. calls f vs u w))
        code env top under (choose as') w = arms env top under as' w
        code env top under fail w = stops no_alternative w

        pub arms : Env → (top : ℕ) → (under : Option ℕ) → Arms → World → Answer
        arms env top under (otherwise c) w = code env top under c w
        arms env top under (arm ts c as') w = need (holds env ts) w (λ yes.
            elim yes [ true ↦ code env top under c w | false ↦ arms env top under as' w ])

      -- the entry of a procedure, over frames of so many words: its own has to fit
      abbrev pub body : (f under left : ℕ) → Procedure → Env → World → Answer
      body f under left q env w =
          within_limit room.stack (4 * (under + frame_words f))
          (stops stack_full (spent f (under + frame_words f) left w))
          (with_result_count q.results (code env (under + frame_words f) (Some under)
          q.body (spent f (under + frame_words f) left w)))

    -- calls, where at most n units are left
    unfoldable pub calls : ℕ → Calls
    calls zero f vs under w = stops out_of_units w
    calls (suc n) f vs under w = spend w.left w (λ m. need (slice_get p.procs f) w (λ q.
        need (with_vars q.params vs no_vars) w (λ env. body (calls n) f under m q env w)))

  -- the cell of a global: its tag, then zeros
  abbrev pub global_cell : ℕ → List Word
  global_cell t = slice_set empty_cell 0 (number t)

  abbrev pub start_world : List ℕ → ℕ → World
  start_world input n = record {
    cells = map global_cell p.globals;
    input = input;
    used = 0;
    out = [];
    left = n;
    frames = 0;
    entered = [];
  }

  -- the run of the program on an input, in some room, with n units: the globals take their cells,
  -- then the start is called
  unfoldable pub run_in : Room → List ℕ → ℕ → Answer
  run_in room input n =
      within_limit room.cells (length p.globals) (stops heap_full (start_world input n))
      (calls room n p.start (start_words p.argument) 0 (start_world input n))

  -- the run without limits
  abbrev pub run : List ℕ → ℕ → Answer
  run = run_in (record { cells = None; stack = None })

  -- the run with room for so many cells and so many bytes of frames
  abbrev pub limited : (cells stack : ℕ) → List ℕ → ℕ → Answer
  limited cells stack = run_in (record { cells = Some cells; stack = Some stack })

-- how a run ends: as the start gives its words, or earlier
pub data RunEnd : Type 0 where
  done : RunEnd
  ended : Stop → RunEnd

abbrev pub end_of : Answer → RunEnd
end_of (gives vs w) = done
end_of (stops s w) = ended s

abbrev pub world_of : Answer → World
world_of (gives vs w) = w
world_of (stops s w) = w

-- no run of the program is missing
abbrev pub NeverMissing : Program → Type 0
NeverMissing p =
    (frame_words : ℕ → ℕ) (i : List ℕ) → IsBytes i → (n : ℕ)
    → end_of (run p frame_words i n) ≢ ended missing
