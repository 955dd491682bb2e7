-- Programs of low code that were written by hand, whose places are asked for.
use Rattle.std.specs.Prelude.{◌≡◌, ℕ, ◌≤◌, true, List, [], ◌∷◌, length, Some}
use Rattle.low_code.specs.declared.program.PrimOp.TheVariants.{Add}
use Rattle.low_code.specs.declared.program.Operand.TheVariants.{Var, Num}
use Rattle.low_code.specs.Tree.{Code, set, prim, take, call, join, give, tail, choose, otherwise, arm, Procedure, Program}
use Rattle.low_code.specs.Formed.{Formed, all_variables, all_sites}
use Rattle.seq.specs.Lists.{is_among}

-- each procedure takes at most 16 words and gives at most 13
abbrev pub AreFew : List Procedure → Type 0
AreFew [] = Unit {0}
AreFew (q ∷ qs) = ((length q.params ≤ 16) × (q.results ≤ 13)) × AreFew qs

-- a formed program with this last variable, a site 0 and so many procedures
pub record IsAsked (l : Program) (last procedures : ℕ) : Type 0 where
  pub formed : Formed l
  pub few : AreFew l.procs
  pub variable : is_among last (all_variables l.procs) ≡ true
  pub site : is_among 0 (all_sites l.procs) ≡ true
  pub many : procedures ≤ length l.procs

-- a program that starts on the one global
abbrev pub program : List Procedure → Program
program qs = record { procs = qs; start = 0; argument = Some 0; globals = 1 ∷ []; width = 3 }

-- a program of one procedure with a parameter x0
abbrev pub one : Code → Program
one c = program (record { params = 0 ∷ []; results = 1; body = c } ∷ [])

-- f x0 = let x1 = 7, x2 x3 x5 = g x0 in give x2 x1
abbrev pub caller : Procedure
caller = record {
  params = 0 ∷ [];
  results = 2;
  body = set 1 (Num 7) (call 1 0 (Var 0 ∷ []) (2 ∷ 3 ∷ 5 ∷ []) (give (Var 2 ∷ Var 1 ∷ [])));
}

-- g x4 gives x4, 0, 0
abbrev pub called : Procedure
called = record { params = 4 ∷ []; results = 3; body = give (Var 4 ∷ Num 0 ∷ Num 0 ∷ []) }

-- 25 variables that are live at once
abbrev pub crowded : Code
crowded =
    take
    (1 ∷ 2 ∷ 3 ∷ 4 ∷ 5 ∷ 6 ∷ 7 ∷ 8 ∷ 9 ∷ 10 ∷ 11 ∷ 12
    ∷ 13 ∷ 14 ∷ 15 ∷ 16 ∷ 17 ∷ 18 ∷ 19 ∷ 20 ∷ 21 ∷ 22 ∷ 23 ∷ 24 ∷ [])
    (tail 0 0
    (Var 0 ∷ Var 1 ∷ Var 2 ∷ Var 3 ∷ Var 4 ∷ Var 5 ∷ Var 6 ∷ Var 7 ∷ Var 8
    ∷ Var 9 ∷ Var 10 ∷ Var 11 ∷ Var 12 ∷ Var 13 ∷ Var 14 ∷ Var 15 ∷ Var 16
    ∷ Var 17 ∷ Var 18 ∷ Var 19 ∷ Var 20 ∷ Var 21 ∷ Var 22 ∷ Var 23 ∷ Var 24 ∷ []))

-- a call of itself whose targets are a used one and a dead one, beside x0, which is used after it
abbrev pub dead_target : Code
dead_target = call 0 0 (Var 0 ∷ []) (1 ∷ 2 ∷ []) (prim Add 3 (Var 0) (Var 1) (give (Var 3 ∷ [])))

-- x1 is used in the first arm, x2 in the other, and x3 after the join
abbrev pub choice : Code
choice =
    choose
    (arm (record { left = Var 0; right = 1 } ∷ [])
    (set 5 (Var 1) (set 6 (Var 5) (give (Var 6 ∷ []))))
    (otherwise (set 7 (Num 1) (set 8 (Var 2) (give (Var 8 ∷ []))))))

abbrev pub arms : Code
arms =
    set 1 (Num 1) (set 2 (Num 2) (set 3 (Num 3)
    (join (9 ∷ []) (set 4 (Num 4) choice) (prim Add 10 (Var 9) (Var 3) (tail 0 0 (Var 10 ∷ []))))))
