-- The generated texts: numbers drawn by a linear congruence choose the functions of a program
-- and what they are given.
use Rattle.std.specs.Prelude.{ℕ, zero, suc, ◌+◌, ◌*◌, ◌/◌, ◌%◌, ◌^◌}
use Rattle.std.specs.Prelude.{List, [], ◌++◌, codes, decimal}
use Rattle.generator.specs.declared.draws.DrawnRound.{DrawnRound}

-- ---- draws

-- the state that follows a state, and the number that is drawn of a state
abbrev pub next : (state : ℕ) → ℕ
next state = (1103515245 * state + 12345) % 2 ^ 31

abbrev pub drawn : (state : ℕ) → ℕ
drawn state = state / 65536

-- Four draws in order: the kind of a function, the number in it, and the two numbers that it
-- is given.
abbrev pub round_from : (state : ℕ) → DrawnRound
round_from state = record {
  kind = drawn (next state) % 4;
  number = drawn (next (next state)) % 1000;
  left = drawn (next (next (next state))) % 1000;
  right = drawn (next (next (next (next state)))) % 1000;
}

abbrev pub after_round : (state : ℕ) → ℕ
after_round state = next (next (next (next state)))

-- the state before round n, counted from 0; before the first it is the seed
abbrev pub state_at : (seed n : ℕ) → ℕ
state_at seed zero = seed
state_at seed (suc n) = after_round (state_at seed n)

-- ---- lines

-- a piece, and a number after it
abbrev pub named : (piece : List ℕ) → ℕ → List ℕ
named piece number = piece ++ decimal number

-- the function j after a piece, and the number c after another
unfoldable pub called : (front : List ℕ) (j : ℕ) (middle : List ℕ) (c : ℕ) → List ℕ
called front j middle c = named front j ++ named middle c

-- the body of a function of x and y that calls function j and has the number c in it
abbrev pub body : (kind j c : ℕ) → List ℕ
body zero j c = called (codes "add (f") j (codes " x y) ") c
body (suc zero) j c = called (codes "f") j (codes " y (sub x ") c ++ codes ")"
body (suc (suc zero)) j c =
    called (codes "case lt x y of { 1 -> f") j (codes " x ") c
    ++ called (codes "; _ -> f") j (codes " y ") c ++ codes " }"
body (suc (suc (suc _))) j c = called (codes "mul (f") j (codes " ") c ++ codes " x) 3"

-- function j + 1
unfoldable pub function_line : DrawnRound → (j : ℕ) → List ℕ
function_line r j =
    named (codes "f") (suc j) ++ codes " x y = " ++ body r.kind j r.number ++ codes ";\n"

-- list j + 1: what function j + 1 gives, and list j after it
unfoldable pub list_line : DrawnRound → (j : ℕ) → List ℕ
list_line r j =
    named (codes "m") (suc j) ++ named (codes " = Cons (f") (suc j)
    ++ named (codes " ") r.left ++ named (codes " ") r.right
    ++ named (codes ") m") j ++ codes ";\n"

-- the lines of a round
abbrev pub round_lines : DrawnRound → (j : ℕ) → List ℕ
round_lines r j = function_line r j ++ list_line r j

-- the lines of the first n rounds
abbrev pub rounds : (seed n : ℕ) → List ℕ
rounds seed zero = []
rounds seed (suc n) = rounds seed n ++ round_lines (round_from (state_at seed n)) n

unfoldable pub first_lines : List ℕ
first_lines = codes "data Nil 0;\ndata Cons 2;\nf0 x y = add x y;\nm0 = Nil;\n"

-- list k is what the program prints
abbrev pub last_line : (k : ℕ) → List ℕ
last_line k = named (codes "main = m") k ++ codes ";\n"

-- the text of a seed, of so many rounds
abbrev pub generated : (seed size : ℕ) → List ℕ
generated seed size = first_lines ++ rounds seed size ++ last_line size
