-- The variables and calls of low code, and when low code is formed.
use Rattle.std.specs.Prelude.{◌≡◌, ℕ, ◌<◌, true, false, List, [], ◌∷◌, ◌++◌, length, Option, Some, None, slice_get}
use Rattle.low_code.specs.declared.program.Operand.{Operand}
use Rattle.low_code.specs.declared.program.Operand.TheVariants.{Var, Num, Cell}
use Rattle.low_code.specs.declared.program.LowTest.{LowTest}
use Rattle.low_code.specs.Literals.{LiteralsAreWords}
use Rattle.low_code.specs.Tree.{Code, set, prim, load, save, take, put, get, call, join, give, tail, choose, fail, Arms, otherwise, arm, Procedure, Program}
use Rattle.seq.specs.Lists.{is_among}

-- no number twice
abbrev pub Distinct : List ℕ → Type 0
Distinct [] = Unit {0}
Distinct (x ∷ xs) = (is_among x xs ≡ false) × Distinct xs

abbrev pub used_by : Operand → List ℕ
used_by (Var x) = x ∷ []
used_by (Num k) = []
used_by (Cell i) = []

abbrev pub used_by_all : List Operand → List ℕ
used_by_all [] = []
used_by_all (a ∷ as') = used_by a ++ used_by_all as'

abbrev pub used_by_tests : List LowTest → List ℕ
used_by_tests [] = []
used_by_tests (t ∷ ts) = used_by t.left ++ used_by_tests ts

abbrev mutual
  -- the variables that a block uses
  pub uses : Code → List ℕ
  uses (set x a c) = used_by a ++ uses c
  uses (prim f x a b c) = used_by a ++ (used_by b ++ uses c)
  uses (load x a k c) = used_by a ++ uses c
  uses (save a k b c) = used_by a ++ (used_by b ++ uses c)
  uses (take xs c) = uses c
  uses (put a c) = used_by a ++ uses c
  uses (get x c) = uses c
  uses (call f site as' xs c) = used_by_all as' ++ uses c
  uses (join xs b c) = uses b ++ uses c
  uses (give as') = used_by_all as'
  uses (tail f site as') = used_by_all as'
  uses (choose as') = arms_uses as'
  uses fail = []

  pub arms_uses : Arms → List ℕ
  arms_uses (otherwise c) = uses c
  arms_uses (arm ts c as') = used_by_tests ts ++ (uses c ++ arms_uses as')

abbrev mutual
  -- the variables that a block binds
  pub binds : Code → List ℕ
  binds (set x a c) = x ∷ binds c
  binds (prim f x a b c) = x ∷ binds c
  binds (load x a k c) = x ∷ binds c
  binds (save a k b c) = binds c
  binds (take xs c) = xs ++ binds c
  binds (put a c) = binds c
  binds (get x c) = x ∷ binds c
  binds (call f site as' xs c) = xs ++ binds c
  binds (join xs b c) = binds b ++ (xs ++ binds c)
  binds (give as') = []
  binds (tail f site as') = []
  binds (choose as') = arms_binds as'
  binds fail = []

  pub arms_binds : Arms → List ℕ
  arms_binds (otherwise c) = binds c
  arms_binds (arm ts c as') = binds c ++ arms_binds as'

-- a call: its site and the procedure
abbrev pub Site : Type 0
Site = ℕ × ℕ

abbrev mutual
  -- the calls of a block, tail calls included
  pub calls_in : Code → List Site
  calls_in (set x a c) = calls_in c
  calls_in (prim f x a b c) = calls_in c
  calls_in (load x a k c) = calls_in c
  calls_in (save a k b c) = calls_in c
  calls_in (take xs c) = calls_in c
  calls_in (put a c) = calls_in c
  calls_in (get x c) = calls_in c
  calls_in (call f site as' xs c) = (site, f) ∷ calls_in c
  calls_in (join xs b c) = calls_in b ++ calls_in c
  calls_in (give as') = []
  calls_in (tail f site as') = (site, f) ∷ []
  calls_in (choose as') = arms_calls as'
  calls_in fail = []

  pub arms_calls : Arms → List Site
  arms_calls (otherwise c) = calls_in c
  arms_calls (arm ts c as') = calls_in c ++ arms_calls as'

-- an operand is a variable in scope, a number, or one of so many globals
abbrev pub OperandInScope : ℕ → List ℕ → Operand → Type 0
OperandInScope globals scope (Var x) = is_among x scope ≡ true
OperandInScope globals scope (Num k) = Unit {0}
OperandInScope globals scope (Cell i) = i < globals

abbrev pub OperandsInScope : ℕ → List ℕ → List Operand → Type 0
OperandsInScope globals scope [] = Unit {0}
OperandsInScope globals scope (a ∷ as') =
    OperandInScope globals scope a × OperandsInScope globals scope as'

abbrev pub TestsInScope : ℕ → List ℕ → List LowTest → Type 0
TestsInScope globals scope [] = Unit {0}
TestsInScope globals scope (t ∷ ts) =
    OperandInScope globals scope t.left × TestsInScope globals scope ts

abbrev mutual
  -- each variable is bound before its uses on every way, and globals are in range
  pub Scoped : ℕ → List ℕ → Code → Type 0
  Scoped globals scope (set x a c) = OperandInScope globals scope a × Scoped globals (x ∷ scope) c
  Scoped globals scope (prim f x a b c) =
      OperandInScope globals scope a × OperandInScope globals scope b × Scoped globals (x ∷ scope) c
  Scoped globals scope (load x a k c) =
      OperandInScope globals scope a × Scoped globals (x ∷ scope) c
  Scoped globals scope (save a k b c) =
      OperandInScope globals scope a × OperandInScope globals scope b × Scoped globals scope c
  Scoped globals scope (take xs c) = Scoped globals (xs ++ scope) c
  Scoped globals scope (put a c) = OperandInScope globals scope a × Scoped globals scope c
  Scoped globals scope (get x c) = Scoped globals (x ∷ scope) c
  Scoped globals scope (call f site as' xs c) =
      OperandsInScope globals scope as' × Scoped globals (xs ++ scope) c
  Scoped globals scope (join xs b c) = Scoped globals scope b × Scoped globals (xs ++ scope) c
  Scoped globals scope (give as') = OperandsInScope globals scope as'
  Scoped globals scope (tail f site as') = OperandsInScope globals scope as'
  Scoped globals scope (choose as') = ArmsScoped globals scope as'
  Scoped globals scope fail = Unit {0}

  pub ArmsScoped : ℕ → List ℕ → Arms → Type 0
  ArmsScoped globals scope (otherwise c) = Scoped globals scope c
  ArmsScoped globals scope (arm ts c as') =
      TestsInScope globals scope ts × Scoped globals scope c × ArmsScoped globals scope as'

-- the variables of a procedure
abbrev pub variables : Procedure → List ℕ
variables q = q.params ++ binds q.body

abbrev pub all_variables : List Procedure → List ℕ
all_variables [] = []
all_variables (q ∷ qs) = variables q ++ all_variables qs

abbrev pub sites_of : List Site → List ℕ
sites_of [] = []
sites_of (s ∷ ss) = s.0 ∷ sites_of ss

abbrev pub all_sites : List Procedure → List ℕ
all_sites [] = []
all_sites (q ∷ qs) = sites_of (calls_in q.body) ++ all_sites qs

abbrev pub AllScoped : ℕ → List Procedure → Type 0
AllScoped globals [] = Unit {0}
AllScoped globals (q ∷ qs) = Scoped globals q.params q.body × AllScoped globals qs

abbrev pub CallsInRange : ℕ → List Site → Type 0
CallsInRange n [] = Unit {0}
CallsInRange n (s ∷ ss) = (s.1 < n) × CallsInRange n ss

abbrev pub AllCallsInRange : ℕ → List Procedure → Type 0
AllCallsInRange n [] = Unit {0}
AllCallsInRange n (q ∷ qs) = CallsInRange n (calls_in q.body) × AllCallsInRange n qs

-- the start has one parameter where there is an argument, which is a global, and none otherwise
abbrev pub IsStartWellFormed : Program → Option Procedure → Option ℕ → Type 0
IsStartWellFormed p None a = ⊥
IsStartWellFormed p (Some q) None = q.params ≡ []
IsStartWellFormed p (Some q) (Some i) = (length q.params ≡ 1) × (i < length p.globals)

-- no variable and no site of a call stands twice in a program, uses come below what binds them,
-- each procedure and global that is named is there, and literals are words
pub record Formed (p : Program) : Type 0 where
  pub variables_once : Distinct (all_variables p.procs)
  pub sites_once : Distinct (all_sites p.procs)
  pub scoped : AllScoped (length p.globals) p.procs
  pub calls_in_range : AllCallsInRange (length p.procs) p.procs
  pub starts : IsStartWellFormed p (slice_get p.procs p.start) p.argument
  pub literals : LiteralsAreWords p
