-- How large low code is: what bounds the instructions that are made from it.
use Rattle.std.specs.Prelude.{ℕ, ◌+◌, ◌≤◌, List, [], ◌∷◌, length}
use Rattle.low_code.specs.Tree.{Code, set, prim, load, save, take, put, get, call, join, give, tail, choose, fail, Arms, otherwise, arm, Procedure, Program}
use Rattle.low_code.specs.Formed.{calls_in}

abbrev mutual
  -- a statement, an end of a block, a variable where it is bound and an operand that is not in a
  -- test count one each; a put and a get eight on top of that; an arm three
  pub code_size : Code → ℕ
  code_size (set x a c) = 3 + code_size c
  code_size (prim f x a b c) = 4 + code_size c
  code_size (load x a k c) = 3 + code_size c
  code_size (save a k b c) = 3 + code_size c
  code_size (take xs c) = 1 + length xs + code_size c
  code_size (put a c) = 10 + code_size c
  code_size (get x c) = 10 + code_size c
  code_size (call f site as' xs c) = 1 + length as' + length xs + code_size c
  code_size (join xs b c) = 1 + length xs + code_size b + code_size c
  code_size (give as') = 1 + length as'
  code_size (tail f site as') = 1 + length as'
  code_size (choose as') = 1 + arms_size as'
  code_size fail = 1

  pub arms_size : Arms → ℕ
  arms_size (otherwise c) = code_size c
  arms_size (arm ts c as') = 3 + code_size c + arms_size as'

-- the same of procedures, with 1 for each parameter
abbrev pub sizes : List Procedure → ℕ
sizes [] = 0
sizes (q ∷ qs) = length q.params + code_size q.body + sizes qs

-- the size of a whole program
abbrev pub program_size : Program → ℕ
program_size l = sizes l.procs

-- the number of calls, tail calls included
abbrev pub calls_from : List Procedure → ℕ
calls_from [] = 0
calls_from (q ∷ qs) = length (calls_in q.body) + calls_from qs

abbrev pub calls_of : Program → ℕ
calls_of l = calls_from l.procs

abbrev mutual
  -- no arm of a block has more than two tests
  pub FewTests : Code → Type 0
  FewTests (set x a c) = FewTests c
  FewTests (prim f x a b c) = FewTests c
  FewTests (load x a k c) = FewTests c
  FewTests (save a k b c) = FewTests c
  FewTests (take xs c) = FewTests c
  FewTests (put a c) = FewTests c
  FewTests (get x c) = FewTests c
  FewTests (call f site as' xs c) = FewTests c
  FewTests (join xs b c) = FewTests b × FewTests c
  FewTests (give as') = Unit {0}
  FewTests (tail f site as') = Unit {0}
  FewTests (choose as') = ArmsFewTests as'
  FewTests fail = Unit {0}

  pub ArmsFewTests : Arms → Type 0
  ArmsFewTests (otherwise c) = FewTests c
  ArmsFewTests (arm ts c as') = (length ts ≤ 2) × FewTests c × ArmsFewTests as'

abbrev pub AllFewTests : List Procedure → Type 0
AllFewTests [] = Unit {0}
AllFewTests (q ∷ qs) = FewTests q.body × AllFewTests qs

abbrev pub AtMostTwoTests : Program → Type 0
AtMostTwoTests l = AllFewTests l.procs
