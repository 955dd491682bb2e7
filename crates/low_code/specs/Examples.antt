-- A small program with what its runs do, computed from the definitions.
use Rattle.std.specs.Prelude.{◌≡◌, ℕ, List, [], ◌∷◌, Some}
use Rattle.low_code.specs.declared.program.Operand.TheVariants.{Var, Num}
use Rattle.low_code.specs.declared.program.PrimOp.TheVariants.{Add}
use Rattle.low_code.specs.Tree.{Code, prim, load, save, take, put, get, call, join, give, tail, choose, fail, otherwise, arm, Program}
use Rattle.low_code.specs.Values.{no_alternative, out_of_units, missing, heap_full, stack_full, Answer}
use Rattle.low_code.specs.Run.{run, limited, done, ended, end_of, world_of}

-- the start stores the next byte in a new cell and calls `writes_byte` on it; of the word that it
-- gives it writes C where that is the letter B, and else D; then it goes on as `writes_byte`
abbrev pub start : Code
start = get 1 (take (2 ∷ []) (save (Var 2) 1 (Var 1) (call 1 0 (Var 2 ∷ []) (3 ∷ [])
    (join (4 ∷ []) (choose (arm (record { left = Var 3; right = 66 } ∷ [])
    (give (Num 67 ∷ [])) (otherwise (give (Num 68 ∷ [])))))
    (put (Var 4) (tail 1 1 (Var 2 ∷ [])))))))

-- writes the byte in a cell, and gives it
abbrev pub writes_byte : Code
writes_byte = load 11 (Var 10) 1 (put (Var 11) (give (Var 11 ∷ [])))

abbrev pub letters_program : Code → Program
letters_program first = record {
  procs =
      record { params = 0 ∷ []; results = 1; body = first }
      ∷ record { params = 10 ∷ []; results = 1; body = writes_byte } ∷ [];
  start = 0;
  argument = Some 0;
  globals = 3 ∷ [];
  width = 3;
}

-- a run over frames of two words each
abbrev pub run_letters : Code → List ℕ → ℕ → Answer
run_letters first input n = run (letters_program first) (λ f. 2) input n

-- a tail call where none may stand
abbrev pub misplaced_tail_call : Code
misplaced_tail_call = join (4 ∷ []) (tail 1 1 (Var 0 ∷ [])) (give (Var 4 ∷ []))

-- the second test would meet a cell, but the first one fails
abbrev pub second_test_skipped : Code
second_test_skipped =
    choose (arm (record { left = Num 1; right = 2 } ∷ record { left = Var 0; right = 0 } ∷ [])
    (give (Num 1 ∷ [])) (otherwise (give (Num 2 ∷ []))))

-- a word of the global cell, which has three
abbrev pub loads_global_word : ℕ → Code
loads_global_word k = load 1 (Var 0) k (give (Var 1 ∷ []))

abbrev pub run_with_limits : (cells stack : ℕ) → Answer
run_with_limits cells stack = limited (letters_program start) (λ f. 2) cells stack (66 ∷ []) 3

-- adds 1 to all ones, which is no byte
abbrev pub increments_past_byte : Code
increments_past_byte = get 1 (prim Add 2 (Var 1) (Num 1) (put (Var 2) (give (Var 2 ∷ []))))

pub record Examples : Type 0 where
  pub writes : (world_of (run_letters start (66 ∷ 65 ∷ []) 3)).out ≡ 66 ∷ 67 ∷ 66 ∷ []
  pub takes_one_byte : (world_of (run_letters start (66 ∷ 65 ∷ []) 3)).used ≡ 1
  pub is_done : end_of (run_letters start (66 ∷ []) 3) ≡ done
  pub needs_three_units : end_of (run_letters start (66 ∷ []) 2) ≡ ended out_of_units
  pub two_frames_at_once : (world_of (run_letters start (66 ∷ []) 3)).frames ≡ 4
  pub enters : (world_of (run_letters start [] 3)).entered ≡ 0 ∷ 1 ∷ 1 ∷ []
  pub at_the_inputs_end : (world_of (run_letters start [] 3)).out ≡ 255 ∷ 68 ∷ 255 ∷ []
  pub tail_ends_its_procedure : (world_of (run_letters (tail 1 0 (Var 0 ∷ [])) [] 2)).frames ≡ 2
  pub no_tail_in_a_join : end_of (run_letters misplaced_tail_call [] 9) ≡ ended missing
  pub later_tests_unseen : end_of (run_letters second_test_skipped [] 1) ≡ done
  pub sums_wrap : (world_of (run_letters increments_past_byte [] 1)).out ≡ 0 ∷ []
  pub last_word : end_of (run_letters (loads_global_word 2) [] 1) ≡ done
  pub index_at_the_width : end_of (run_letters (loads_global_word 3) [] 1) ≡ ended missing
  pub cell_is_no_byte : end_of (run_letters (put (Var 0) (give (Num 1 ∷ []))) [] 1) ≡ ended missing
  pub cell_is_no_number : end_of (run_letters (prim Add 1 (Var 0) (Num 1) (give (Var 1 ∷ []))) [] 1)
      ≡ ended missing
  pub too_few_results : end_of (run_letters (give []) [] 1) ≡ ended missing
  pub too_many_arguments : end_of (run_letters (tail 1 0 (Num 1 ∷ Num 2 ∷ [])) [] 2) ≡ ended missing
  pub fails : end_of (run_letters fail [] 1) ≡ ended no_alternative
  pub room_for_all : run_with_limits 2 16 ≡ run_letters start (66 ∷ []) 3
  pub heap_is_full : end_of (run_with_limits 1 16) ≡ ended heap_full
  pub full_at_once : end_of (run_with_limits 0 16) ≡ ended heap_full
  pub before_the_start : (world_of (run_with_limits 0 16)).entered ≡ []
  pub stack_is_full : end_of (run_with_limits 2 15) ≡ ended stack_full
  pub entered_as_it_is_full : (world_of (run_with_limits 2 15)).entered ≡ 0 ∷ 1 ∷ []
