-- Small programs with what they print, computed from the definitions.
use Rattle.std.specs.Prelude.{◌≡◌, ℕ, List, [], ◌∷◌, Some, codes, pos, negsuc}
use Rattle.arity_check.specs.declared.normal.Bound.{Bound}
use Rattle.arity_check.specs.declared.normal.Flat.{Flat}
use Rattle.arity_check.specs.declared.normal.Flat.TheVariants.{Int, Con, Prim, Apply, Call, Part}
use Rattle.arity_check.specs.declared.normal.Var.TheVariants.{Local, Global}
use Rattle.arity_check.specs.declared.normal.PrimOp.TheVariants.{Add, Sub, Quot, Rem}
use Rattle.arity_check.specs.Program.{Program, Function, Term, App, Let, Case, NoMore, OnCon, OnInt, OnAny}
use Rattle.core_meaning.specs.Printing.{Done, Unaccepted, Going, printed}

-- a program after `data Nil 0; data Cons 2;`, so that Nil is the constructor 0 and Cons the
-- constructor 1
abbrev pub list_program : List Function → ℕ → Program
list_program funs main = record {
  cons =
      record { name = codes "Nil"; fields = 0 } ∷ (record { name = codes "Cons"; fields = 2 } ∷ []);
  funs = funs;
  main = main;
}

abbrev pub fun : List ℕ → ℕ → Term → Function
fun name params body = record { name = name; params = params; body = body }

abbrev pub set : ℕ → Flat → Bound
set local flat = record { local = local; flat = flat }

-- main = Nil;
abbrev pub empty : Program
empty = list_program (fun (codes "main") 0 (App (Con 0 [])) ∷ []) 0

-- main = Cons 72 (Cons 105 Nil);
abbrev pub greeting : Program
greeting = list_program
    (fun (codes "main") 0
    (Let (set 0 (Int (pos 72)) ∷ (set 1 (Int (pos 105)) ∷ (set 2 (Con 0 [])
    ∷ (set 3 (Con 1 (Local 1 ∷ (Local 2 ∷ []))) ∷ []))))
    (App (Con 1 (Local 0 ∷ (Local 3 ∷ [])))))
    ∷ []) 0

-- main = let c = Cons 46 c in c;
abbrev pub endless_dots : Program
endless_dots = list_program
    (fun (codes "main") 0
    (Let (set 0 (Int (pos 46)) ∷ (set 1 (Con 1 (Local 0 ∷ (Local 1 ∷ []))) ∷ []))
    (App (Apply (Local 1) [])))
    ∷ []) 0

-- take n xs = case n of {
--     0 -> Nil; m -> case xs of { Nil -> Nil; Cons h t -> Cons h (take (sub m 1) t) } };
-- from n = Cons n (from (add n 1));
-- main = take 3 (from 65);
abbrev pub take_three : Program
take_three = list_program
    (fun (codes "take") 2
    (Case (App (Apply (Local 0) []))
    (OnInt (pos 0) (App (Con 0 []))
    (OnAny (Some 2)
    (Case (App (Apply (Local 1) []))
    (OnCon 0 [] (App (Con 0 []))
    (OnCon 1 (3 ∷ (4 ∷ []))
    (Let (set 5 (Int (pos 1)) ∷ (set 6 (Prim Sub (Local 2) (Local 5))
    ∷ (set 7 (Call 0 (Local 6 ∷ (Local 4 ∷ []))) ∷ [])))
    (App (Con 1 (Local 3 ∷ (Local 7 ∷ [])))))
    NoMore)))
    NoMore)))
    ∷ (fun (codes "from") 1
    (Let (set 1 (Int (pos 1)) ∷ (set 2 (Prim Add (Local 0) (Local 1))
    ∷ (set 3 (Call 1 (Local 2 ∷ [])) ∷ [])))
    (App (Con 1 (Local 0 ∷ (Local 3 ∷ [])))))
    ∷ (fun (codes "main") 0
    (Let (set 0 (Int (pos 3)) ∷ (set 1 (Int (pos 65)) ∷ (set 2 (Call 1 (Local 1 ∷ [])) ∷ [])))
    (App (Call 0 (Local 0 ∷ (Local 2 ∷ [])))))
    ∷ []))) 2

-- twice x = Cons x (Cons x Nil);
-- main = twice (add 32 33);
abbrev pub shared : Program
shared = list_program
    (fun (codes "twice") 1
    (Let (set 1 (Con 0 []) ∷ (set 2 (Con 1 (Local 0 ∷ (Local 1 ∷ []))) ∷ []))
    (App (Con 1 (Local 0 ∷ (Local 2 ∷ [])))))
    ∷ (fun (codes "main") 0
    (Let (set 0 (Int (pos 32)) ∷ (set 1 (Int (pos 33))
    ∷ (set 2 (Prim Add (Local 0) (Local 1)) ∷ []))) (App (Call 0 (Local 2 ∷ []))))
    ∷ [])) 1

-- bad = case 1 of { 2 -> Nil };
abbrev pub bad : Function
bad = fun (codes "bad") 0 (Case (App (Int (pos 1))) (OnInt (pos 2) (App (Con 0 [])) NoMore))

-- second a b = b;
-- main = second bad Nil;
abbrev pub unneeded_argument : Program
unneeded_argument = list_program
    (bad
    ∷ (fun (codes "second") 2 (App (Apply (Local 1) []))
    ∷ (fun (codes "main") 0 (Let (set 0 (Con 0 []) ∷ []) (App (Call 1 (Global 0 ∷ (Local 0 ∷ [])))))
    ∷ []))) 2

-- main = Cons 65 bad;
abbrev pub unaccepted_tail : Program
unaccepted_tail = list_program
    (bad
    ∷ (fun (codes "main") 0
    (Let (set 0 (Int (pos 65)) ∷ []) (App (Con 1 (Local 0 ∷ (Global 0 ∷ [])))))
    ∷ [])) 1

-- id x = x;
-- main = Cons (id id 66) Nil;
abbrev pub one_argument_too_many : Program
one_argument_too_many = list_program
    (fun (codes "id") 1 (App (Apply (Local 0) []))
    ∷ (fun (codes "main") 0
    (Let (set 0 (Part 0 []) ∷ (set 1 (Call 0 (Local 0 ∷ [])) ∷ (set 2 (Int (pos 66))
    ∷ (set 3 (Apply (Local 1) (Local 2 ∷ [])) ∷ (set 4 (Con 0 []) ∷ [])))))
    (App (Con 1 (Local 3 ∷ (Local 4 ∷ [])))))
    ∷ [])) 1

-- k x y = x;
-- main = case k 65 of { p -> Cons (p Nil) Nil };
abbrev pub partial_application : Program
partial_application = list_program
    (fun (codes "k") 2 (App (Apply (Local 0) []))
    ∷ (fun (codes "main") 0
    (Case (Let (set 0 (Int (pos 65)) ∷ []) (App (Part 0 (Local 0 ∷ []))))
    (OnAny (Some 1)
    (Let (set 2 (Con 0 []) ∷ (set 3 (Apply (Local 1) (Local 2 ∷ [])) ∷ (set 4 (Con 0 []) ∷ [])))
    (App (Con 1 (Local 3 ∷ (Local 4 ∷ [])))))
    NoMore))
    ∷ [])) 1

-- main = Cons (quot -2147483648 -1) (Cons (quot 7 0) (Cons (rem 7 0) Nil));
abbrev pub divisions : Program
divisions = list_program
    (fun (codes "main") 0
    (Let
    (set 0 (Int (negsuc 2147483647))
    ∷ (set 1 (Int (negsuc 0)) ∷ (set 2 (Prim Quot (Local 0) (Local 1))
    ∷ (set 3 (Int (pos 7)) ∷ (set 4 (Int (pos 0)) ∷ (set 5 (Prim Quot (Local 3) (Local 4))
    ∷ (set 6 (Int (pos 7)) ∷ (set 7 (Int (pos 0)) ∷ (set 8 (Prim Rem (Local 6) (Local 7))
    ∷ (set 9 (Con 0 []) ∷ (set 10 (Con 1 (Local 8 ∷ (Local 9 ∷ [])))
    ∷ (set 11 (Con 1 (Local 5 ∷ (Local 10 ∷ []))) ∷ []))))))))))))
    (App (Con 1 (Local 2 ∷ (Local 11 ∷ [])))))
    ∷ []) 0

-- main = main;
abbrev pub itself : Program
itself = list_program (fun (codes "main") 0 (App (Apply (Global 0) [])) ∷ []) 0

-- main = Cons (add Nil 1) Nil;
abbrev pub number_expected : Program
number_expected = list_program
    (fun (codes "main") 0
    (Let (set 0 (Con 0 []) ∷ (set 1 (Int (pos 1)) ∷ (set 2 (Prim Add (Local 0) (Local 1))
    ∷ (set 3 (Con 0 []) ∷ []))))
    (App (Con 1 (Local 2 ∷ (Local 3 ∷ [])))))
    ∷ []) 0

-- main xs = xs;
abbrev pub echo : Program
echo = list_program (fun (codes "main") 1 (App (Apply (Local 0) [])) ∷ []) 0

-- what the programs print on an input with so many units, their ends, cells, depths and bytes taken
pub record Examples : Type 0 where
  pub empty_ends : printed empty [] 2
      ≡ record { out = []; end = Done; cells = 1; depth = 2; used = 0 }
  pub empty_costs_two : printed empty [] 1
      ≡ record { out = []; end = Going; cells = 1; depth = 0; used = 0 }
  pub greeting_ends : printed greeting [] 4
      ≡ record { out = codes "Hi"; end = Done; cells = 5; depth = 2; used = 0 }
  pub dots_go_on : printed endless_dots [] 6
      ≡ record { out = codes "....."; end = Going; cells = 3; depth = 2; used = 0 }
  pub three_end : printed take_three [] 100
      ≡ record { out = codes "ABC"; end = Done; cells = 25; depth = 4; used = 0 }
  pub shared_ends : printed shared [] 10
      ≡ record { out = codes "AA"; end = Done; cells = 6; depth = 2; used = 0 }
  pub unneeded_ends : printed unneeded_argument [] 10
      ≡ record { out = []; end = Done; cells = 3; depth = 2; used = 0 }
  pub bad_tail_ends : printed unaccepted_tail [] 10
      ≡ record { out = codes "A"; end = Unaccepted; cells = 3; depth = 2; used = 0 }
  pub one_more_ends : printed one_argument_too_many [] 20
      ≡ record { out = codes "B"; end = Done; cells = 6; depth = 4; used = 0 }
  pub one_fewer_ends : printed partial_application [] 20
      ≡ record { out = codes "A"; end = Done; cells = 6; depth = 2; used = 0 }
  pub divisions_end : printed divisions [] 20
      ≡ record { out = 0 ∷ (255 ∷ (7 ∷ [])); end = Done; cells = 13; depth = 2; used = 0 }
  pub itself_goes_on : printed itself [] 50
      ≡ record { out = []; end = Going; cells = 1; depth = 50; used = 0 }
  pub no_number_ends : printed number_expected [] 10
      ≡ record { out = []; end = Unaccepted; cells = 5; depth = 2; used = 0 }
  pub echo_of_nothing : printed echo [] 20
      ≡ record { out = []; end = Done; cells = 2; depth = 3; used = 0 }
  pub echo_of_three : printed echo (codes "abc") 20
      ≡ record { out = codes "abc"; end = Done; cells = 8; depth = 3; used = 3 }
  pub echo_within_five : printed echo (codes "abc") 5
      ≡ record { out = codes "a"; end = Going; cells = 4; depth = 3; used = 1 }
