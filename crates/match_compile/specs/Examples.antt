-- Small texts of equations with what they become and put out, computed from the definitions.
use Rattle.std.specs.Prelude.{◌≡◌, ℕ, false, List, [], ◌∷◌, codes, pos}
use Rattle.core_reader.specs.declared.syntax.Binder.{Binder}
use Rattle.core_reader.specs.declared.syntax.Pattern.TheVariants as pattern
use Rattle.core_reader.specs.Grammar.{name_id}
use Rattle.core_reader.specs.Tree.{Term, Terms, NoTerms, AndTerm, Expr, App, Case, NoAlts, AndAlt, Function}
use Rattle.core_reader.specs.Tree as core
use Rattle.arity_check.specs.declared.normal.Con as constructors
use Rattle.arity_check.specs.declared.normal.Var.TheVariants as var
use Rattle.arity_check.specs.declared.normal.Flat.TheVariants as flat
use Rattle.arity_check.specs.Program as normal
use Rattle.core_meaning.specs.Forcing.{Done, Unaccepted}
use Rattle.match_compile.specs.Source.{Pats, NoPats, AndPat, Equation, Source}
use Rattle.match_compile.specs.Source as pat
use Rattle.match_compile.specs.Sizes.{source_size, tests, most_equations, is_simple, is_plain}
use Rattle.match_compile.specs.Form.{Forms, Any, Is, Has, NoForms, AndForm, Row, Rows, Equations}
use Rattle.match_compile.specs.ByEquations.{printed}
use Rattle.match_compile.specs.Translated.{translated}

abbrev pub binder : ℕ → Binder
binder x = record { name = name_id x; at = 0 }

abbrev pub equation : ℕ → Pats → Expr → Equation
equation name pats body = record { name = name; at = 0; pats = pats; body = body }

abbrev pub function : ℕ → List Binder → Expr → Function
function name params body = record { name = name; at = 0; params = params; body = body }

abbrev pub app : Term → Terms → Expr
app head args = App (record { head = head; args = args })

abbrev pub name : ℕ → Term
name x = core.Name x 0

abbrev pub nil : Expr
nil = app (core.Con 0 0) NoTerms

abbrev pub pair : Term → Term → Terms
pair a b = AndTerm a (AndTerm b NoTerms)

-- equations after `data Nil 0; data Cons 2;`
abbrev pub source : List (List ℕ) → List Equation → Source
source names equations = record {
  names = codes "Nil" ∷ (codes "Cons" ∷ names);
  constructors =
      record { name = 0; fields = 0; at = 0 } ∷ (record { name = 1; fields = 2; at = 0 } ∷ []);
  equations = equations;
}

abbrev pub nil_pat : pat.Pat
nil_pat = pat.Con (binder 0) NoPats

abbrev pub cons_pat : (x xs : ℕ) → pat.Pat
cons_pat x xs =
    pat.Con (binder 1)
    (AndPat (pat.Name (binder x)) (AndPat (pat.Name (binder xs)) NoPats))

abbrev pub two : pat.Pat → pat.Pat → Pats
two p q = AndPat p (AndPat q NoPats)

-- zip Nil ys = Nil;
-- zip (Cons x xs) Nil = Nil;
-- zip (Cons x xs) (Cons y ys) = Cons (add x y) (zip xs ys);
abbrev pub zip_text : Source
zip_text =
    source
    (codes "zip" ∷ (codes "ys" ∷ (codes "x" ∷ (codes "xs" ∷ (codes "y" ∷ (codes "add" ∷ []))))))
    (equation 2 (two nil_pat (pat.Name (binder 3))) nil
    ∷ (equation 2 (two (cons_pat 4 5) nil_pat) nil
    ∷ (equation 2 (two (cons_pat 4 5) (cons_pat 6 3)) (app (core.Con 1 0)
    (pair (core.Bracket (name 7) (pair (name 4) (name 6)) 0)
    (core.Bracket (name 2) (pair (name 5) (name 3)) 0)))
    ∷ [])))

-- f Nil 1 = Nil; f x y = x;
abbrev pub mixed_text : Source
mixed_text =
    source (codes "f" ∷ (codes "x" ∷ (codes "y" ∷ [])))
    (equation 2 (two nil_pat (pat.Int (pos 1) 0)) nil
    ∷ (equation 2 (two (pat.Name (binder 3)) (pat.Name (binder 4))) (app (name 3) NoTerms) ∷ []))

-- f (Cons x xs) 1 = x; f (Cons y xs) 2 = y;
abbrev pub renamed_text : Source
renamed_text =
    source (codes "f" ∷ (codes "x" ∷ (codes "xs" ∷ (codes "y" ∷ []))))
    (equation 2 (two (cons_pat 3 4) (pat.Int (pos 1) 0)) (app (name 3) NoTerms)
    ∷ (equation 2 (two (cons_pat 5 4) (pat.Int (pos 2) 0)) (app (name 5) NoTerms) ∷ []))

-- ---- a normal form: f Nil 1 = Nil; f x y = Cons 66 Nil; bad = case 1 of { 2 -> Nil }; and main

abbrev pub cons : List constructors.Con
cons =
    record { name = codes "Nil"; fields = 0 } ∷ (record { name = codes "Cons"; fields = 2 } ∷ [])

abbrev pub row : Forms → normal.Term → Row
row pats body = record { pats = pats; body = body }

abbrev pub rows : ℕ → List Row → Rows
rows params rs = record { name = codes "f"; params = params; rows = rs }

abbrev pub nil_form : normal.Term
nil_form = normal.App (flat.Con 0 [])

-- Cons 66 Nil, where the locals from n on are free
abbrev pub a_list : ℕ → normal.Term
a_list n =
    normal.Let (record { local = 2; flat = flat.Int (pos 66) }
    ∷ (record { local = 3; flat = flat.Con 0 [] } ∷ []))
    (normal.App (flat.Con 1 (var.Local 2 ∷ (var.Local 3 ∷ []))))

abbrev pub with_main : normal.Term → Equations
with_main body = record {
  cons = cons;
  funs =
      rows 2 (row (AndForm (Has 0 NoForms) (AndForm (Is (pos 1)) NoForms)) nil_form
      ∷ (row (AndForm Any (AndForm Any NoForms)) (a_list 2) ∷ []))
      ∷ (rows 0 (row NoForms (normal.Case (normal.App (flat.Int (pos 1)))
      (normal.OnInt (pos 2) nil_form normal.NoMore)) ∷ [])
      ∷ (rows 0 (row NoForms body ∷ []) ∷ []));
  main = 2;
}

-- main = let xs = Nil in f xs bad;
abbrev pub forces_bad : Equations
forces_bad =
    with_main (normal.Let (record { local = 0; flat = flat.Con 0 [] } ∷ [])
    (normal.App (flat.Call 0 (var.Local 0 ∷ (var.Global 1 ∷ [])))))

-- main = let x = 1 in f x bad;
abbrev pub leaves_bad : Equations
leaves_bad =
    with_main (normal.Let (record { local = 0; flat = flat.Int (pos 1) } ∷ [])
    (normal.App (flat.Call 0 (var.Local 0 ∷ (var.Global 1 ∷ [])))))

pub record Examples : Type 0 where
  pub size : source_size zip_text ≡ 28
  pub tests : tests zip_text ≡ 5
  pub most : most_equations zip_text ≡ 3
  pub simple : is_simple zip_text.equations ≡ false
  pub plain : is_plain mixed_text.equations ≡ false
  pub leaves : (printed leaves_bad [] 9).out ≡ codes "B"
  pub leaves_end : (printed leaves_bad [] 9).end ≡ Done
  pub forces : (printed forces_bad [] 9).end ≡ Unaccepted
  -- zip match'p0 match'p1 = case match'p0 of { Nil -> Nil; Cons x xs -> case match'p1 of { Nil ->
  --     Nil; Cons y ys -> Cons (add x y) (zip xs ys) } };
  pub zip : (translated zip_text).functions
      ≡ function 2 (binder 12 ∷ (binder 13 ∷ [])) (Case (app (name 12) NoTerms)
      (AndAlt (pattern.Con (binder 0) []) nil
      (AndAlt (pattern.Con (binder 1) (binder 4 ∷ (binder 5 ∷ [])))
      (Case (app (name 13) NoTerms) (AndAlt (pattern.Con (binder 0) []) nil
      (AndAlt (pattern.Con (binder 1) (binder 6 ∷ (binder 3 ∷ []))) (app (core.Con 1 0)
      (pair (core.Bracket (name 7) (pair (name 4) (name 6)) 0)
      (core.Bracket (name 2) (pair (name 5) (name 3)) 0))) NoAlts))) NoAlts)))
      ∷ []
  -- f match'p0 match'p1 = case match'p0 of { Nil -> case match'p1 of { 1 -> Nil; _ -> match'1
  --     match'p0 match'p1 }; _ -> match'1 match'p0 match'p1 }; match'1 x y = x;
  pub mixed : (translated mixed_text).functions
      ≡ function 2 (binder 8 ∷ (binder 9 ∷ [])) (Case (app (name 8) NoTerms)
      (AndAlt (pattern.Con (binder 0) []) (Case (app (name 9) NoTerms)
      (AndAlt (pattern.Int (pos 1) 0) nil
      (AndAlt (pattern.Default (binder 5)) (app (name 7) (pair (name 8) (name 9))) NoAlts)))
      (AndAlt (pattern.Default (binder 5)) (app (name 7) (pair (name 8) (name 9))) NoAlts)))
      ∷ (function 7 (binder 3 ∷ (binder 4 ∷ [])) (app (name 3) NoTerms) ∷ [])
  -- f match'p0 match'p1 = case match'p0 of { Cons match'q0 xs -> case match'p1 of { 1 -> match'q0;
  --     2 -> match'q0 } };
  pub renamed : (translated renamed_text).functions
      ≡ function 2 (binder 9 ∷ (binder 10 ∷ [])) (Case (app (name 9) NoTerms)
      (AndAlt (pattern.Con (binder 1) (binder 11 ∷ (binder 4 ∷ [])))
      (Case (app (name 10) NoTerms) (AndAlt (pattern.Int (pos 1) 0) (app (name 11) NoTerms)
      (AndAlt (pattern.Int (pos 2) 0) (app (name 11) NoTerms) NoAlts))) NoAlts))
      ∷ []
