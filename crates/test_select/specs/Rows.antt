-- Small programs of low code that were written by hand.
use Rattle.std.specs.Prelude.{◌≡◌, ℕ, ◌≤◌, List, [], ◌∷◌, length, Some, None}
use Rattle.low_code.specs.declared.program.PrimOp.TheVariants.{Add, Sub, Quot, Rem, Lt}
use Rattle.low_code.specs.declared.program.Operand.TheVariants.{Var, Num}
use Rattle.low_code.specs.declared.program.LowTest.{LowTest}
use Rattle.low_code.specs.Tree.{Code, prim, load, save, take, put, get, call, join, give, tail, choose, fail, otherwise, arm, arms_before, Procedure, Program}
use Rattle.low_code.specs.Formed.{Formed, variables}
use Rattle.low_code.specs.Size.{AtMostTwoTests, program_size, calls_of}

-- ---- how small they are

abbrev pub AreFew : List Procedure → Type 0
AreFew [] = Unit {0}
AreFew (q ∷ qs) =
    ((length q.params ≤ 16) × (q.results ≤ 13) × (length (variables q) ≤ 1000)) × AreFew qs

pub record IsRow (l : Program) : Type 0 where
  pub formed : Formed l
  pub few : AreFew l.procs
  pub width : l.width ≡ 3
  pub tests : AtMostTwoTests l
  pub size : program_size l ≤ 1000
  pub calls : calls_of l ≤ 1000
  pub procedures : length l.procs ≤ 1000
  pub globals : length l.globals ≤ 1000

-- ---- the programs

-- the rest of a block where a variable is a number, and otherwise another
abbrev pub where_is : (x k : ℕ) → Code → Code → Code
where_is x k c d = choose (arm (record { left = Var x; right = k } ∷ []) c (otherwise d))

abbrev pub procedure : (params : List ℕ) → (results : ℕ) → Code → Procedure
procedure xs n c = record { params = xs; results = n; body = c }

-- a program whose start is its first procedure, without an argument, and which has no globals
abbrev pub program : List Procedure → Program
program qs = record { procs = qs; start = 0; argument = None; globals = []; width = 3 }

-- writes its input
abbrev pub echo : Procedure
echo = procedure [] 0 (get 0 (where_is 0 4294967295 (give []) (put (Var 0) (tail 0 0 []))))

-- writes x, and has no alternative
abbrev pub stuck : Procedure
stuck = procedure [] 0 (put (Num 120) fail)

-- writes a before each cell that it takes
abbrev pub takes : Procedure
takes = procedure [] 0 (put (Num 97) (take (0 ∷ []) (tail 0 0 [])))

-- writes b before each call of itself
abbrev pub nests : Procedure
nests = procedure [] 0 (put (Num 98) (call 0 0 [] [] (give [])))

-- writes A for each a of its input, and for each other byte what a call gives
abbrev pub mark : Procedure
mark = procedure [] 0
    (get 0 (where_is 0 4294967295 (give [])
    (join (1 ∷ []) (where_is 0 97 (give (Num 65 ∷ [])) (call 1 0 [] (2 ∷ []) (give (Var 2 ∷ []))))
    (put (Var 1) (tail 0 1 [])))))

abbrev pub other : Procedure
other = procedure [] 1 (give (Num 63 ∷ []))

-- writes whether a byte is less than a
abbrev pub less : Procedure
less = procedure [] 0
    (get 0 (prim Lt 1 (Var 0) (Num 97)
    (where_is 1 1 (put (Num 60) (give [])) (put (Num 62) (give [])))))

-- an arm that gives a letter where the first variable is a number
abbrev pub letter : (k c : ℕ) → List LowTest × Code
letter k c = (record { left = Var 0; right = k } ∷ [], give (Num c ∷ []))

-- gives A to I for the numbers from 0 to 8, and a question mark for each other one
abbrev pub which : Code
which = choose (arms_before (letter 0 65 ∷ letter 1 66 ∷ letter 2 67 ∷ letter 3 68
    ∷ letter 4 69 ∷ letter 5 70 ∷ letter 6 71 ∷ letter 7 72 ∷ letter 8 73 ∷ [])
    (give (Num 63 ∷ [])))

-- writes a letter for each byte of its input
abbrev pub letters : Procedure
letters = procedure [] 0
    (get 0 (where_is 0 4294967295 (give [])
    (join (1 ∷ []) which (put (Var 1) (tail 0 0 [])))))

-- makes a list of the numbers from 10 to 1 behind a list, adds them up, writes the sum, and a mark
-- where it is 55
abbrev pub main : Procedure
main = procedure (0 ∷ []) 0
    (call 1 0 (Num 10 ∷ Var 0 ∷ []) (1 ∷ []) (call 2 1 (Var 1 ∷ []) (2 ∷ [])
    (join (3 ∷ []) (where_is 2 55 (give (Num 33 ∷ [])) (give (Num 63 ∷ [])))
    (call 3 2 (Var 2 ∷ []) [] (put (Var 3) (give []))))))

-- the numbers from one down to 1 before a list
abbrev pub count : Procedure
count = procedure (5 ∷ 6 ∷ []) 1
    (where_is 5 0 (give (Var 6 ∷ []))
    (take (7 ∷ []) (save (Var 7) 0 (Num 1) (save (Var 7) 1 (Var 5) (save (Var 7) 2 (Var 6)
    (prim Sub 8 (Var 5) (Num 1) (tail 1 3 (Var 8 ∷ Var 7 ∷ []))))))))

-- the sum of a list
abbrev pub sum : Procedure
sum = procedure (9 ∷ []) 1
    (load 10 (Var 9) 0 (where_is 10 0 (give (Num 0 ∷ []))
    (load 11 (Var 9) 1 (load 12 (Var 9) 2 (call 2 4 (Var 12 ∷ []) (13 ∷ [])
    (prim Add 14 (Var 11) (Var 13) (give (Var 14 ∷ []))))))))

-- writes a number's digits
abbrev pub show : Procedure
show = procedure (15 ∷ []) 0
    (prim Lt 16 (Var 15) (Num 10) (where_is 16 1 (tail 4 5 (Var 15 ∷ []))
    (prim Quot 17 (Var 15) (Num 10) (call 3 6 (Var 17 ∷ []) []
    (prim Rem 18 (Var 15) (Num 10) (tail 4 7 (Var 18 ∷ [])))))))

-- writes a digit
abbrev pub digit : Procedure
digit = procedure (19 ∷ []) 0 (prim Add 20 (Var 19) (Num 48) (put (Var 20) (give [])))

-- the list that has nothing is the one global, with the tag 0
abbrev pub sums : Program
sums = record {
  procs = main ∷ count ∷ sum ∷ show ∷ digit ∷ [];
  start = 0;
  argument = Some 0;
  globals = 0 ∷ [];
  width = 3;
}
