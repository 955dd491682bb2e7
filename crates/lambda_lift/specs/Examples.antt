-- Small texts with lambdas, with what they put out and what they are lifted to, computed from the
-- definitions.
use Rattle.std.specs.Prelude.{◌≡◌, ℕ, List, [], ◌∷◌, codes, pos}
use Rattle.core_reader.specs.declared.syntax.Binder.{Binder}
use Rattle.core_reader.specs.declared.syntax.Pattern.TheVariants as pattern
use Rattle.core_reader.specs.Tree as core
use Rattle.core_reader.specs.Grammar.{name_id}
use Rattle.lambda_reader.specs.Tree.{NoTerms, AndTerm, NoBinds, AndValue, AndFunction, Expr, App, Let, Case, NoAlts, AndAlt, Function, Program}
use Rattle.lambda_reader.specs.Tree as tree
use Rattle.lambda_lift.specs.Lifted.{lifted}
use Rattle.lambda_lift.specs.Meaning.{printed}

abbrev pub binder : ℕ → Binder
binder x = record { name = name_id x; at = 0 }

abbrev pub function : ℕ → List Binder → Expr → Function
function name params body = record { name = name; at = 0; params = params; body = body }

abbrev pub lifted_function : ℕ → List Binder → core.Expr → core.Function
lifted_function name params body = record { name = name; at = 0; params = params; body = body }

abbrev pub app : core.Term → core.Terms → core.Expr
app head args = core.App (record { head = head; args = args })

abbrev pub names : List (List ℕ)
names =
    codes "Nil" ∷ (codes "Cons" ∷ (codes "main" ∷ (codes "x" ∷ (codes "y" ∷ (codes "f" ∷ (codes
    "g" ∷ (codes "ev" ∷ (codes "od" ∷ (codes "n" ∷ (codes "sub" ∷ (codes "z" ∷ [])))))))))))

-- a program after `data Nil 0; data Cons 2;`
abbrev pub program : List Function → Program
program functions = record {
  names = names;
  constructors =
      record { name = 0; fields = 0; at = 0 } ∷ (record { name = 1; fields = 2; at = 0 } ∷ []);
  functions = functions;
}

-- main = (\x -> Cons x Nil) 65;
abbrev pub single_lambda_text : Program
single_lambda_text =
    program (function 2 [] (App (tree.Lambda (binder 3 ∷ []) (App (tree.Con 1 0) (AndTerm
    (tree.Name 3 0) (AndTerm (tree.Con 0 0) NoTerms))) 0) (AndTerm (tree.Int (pos 65) 0)
    NoTerms)) ∷ [])

-- main = let y = 66; g x = Cons y x in g Nil;
abbrev pub captured_text : Program
captured_text =
    program (function 2 [] (Let (AndValue (binder 4) (tree.Int (pos 66) 0) NoTerms (AndFunction
    (binder 6) (binder 3 ∷ []) (App (tree.Con 1 0) (AndTerm (tree.Name 4 0) (AndTerm (tree.Name
    3 0) NoTerms))) NoBinds)) (App (tree.Name 6 0) (AndTerm (tree.Con 0 0) NoTerms))) ∷ [])

-- main = let ev n = case n of { 0 -> Cons 69 Nil; z -> od (sub n 1) }; od n = case n of { 0 ->
--     Cons 79 Nil; z -> ev (sub n 1) } in ev 3;
abbrev pub mutual_text : Program
mutual_text =
    program (function 2 [] (Let (AndFunction (binder 7) (binder 9 ∷ []) (Case (App (tree.Name 9
    0) NoTerms) (AndAlt (pattern.Int (pos 0) 0) (App (tree.Con 1 0) (AndTerm (tree.Int (pos 69)
    0) (AndTerm (tree.Con 0 0) NoTerms))) (AndAlt (pattern.Default (binder 11)) (App (tree.Name
    8 0) (AndTerm (tree.Bracket (tree.Name 10 0) (AndTerm (tree.Name 9 0) (AndTerm (tree.Int
    (pos 1) 0) NoTerms)) 0) NoTerms)) NoAlts))) (AndFunction (binder 8) (binder 9 ∷ []) (Case
    (App (tree.Name 9 0) NoTerms) (AndAlt (pattern.Int (pos 0) 0) (App (tree.Con 1 0) (AndTerm
    (tree.Int (pos 79) 0) (AndTerm (tree.Con 0 0) NoTerms))) (AndAlt (pattern.Default (binder
    11)) (App (tree.Name 7 0) (AndTerm (tree.Bracket (tree.Name 10 0) (AndTerm (tree.Name 9 0)
    (AndTerm (tree.Int (pos 1) 0) NoTerms)) 0) NoTerms)) NoAlts))) NoBinds)) (App (tree.Name 7
    0) (AndTerm (tree.Int (pos 3) 0) NoTerms))) ∷ [])

-- main = let f f = f in f (Cons 65 Nil);
abbrev pub self_application_text : Program
self_application_text =
    program (function 2 [] (Let (AndFunction (binder 5) (binder 5 ∷ []) (App (tree.Name 5 0)
    NoTerms) NoBinds) (App (tree.Name 5 0) (AndTerm (tree.Bracket (tree.Con 1 0) (AndTerm
    (tree.Int (pos 65) 0) (AndTerm (tree.Con 0 0) NoTerms)) 0) NoTerms))) ∷ [])

-- f x = x; main = let f = 66; g y = Cons f y in g Nil;
abbrev pub shadowed_function_text : Program
shadowed_function_text =
    program (function 5 (binder 3 ∷ []) (App (tree.Name 3 0) NoTerms) ∷ (function 2 [] (Let
    (AndValue (binder 5) (tree.Int (pos 66) 0) NoTerms (AndFunction (binder 6) (binder 4 ∷ [])
    (App (tree.Con 1 0) (AndTerm (tree.Name 5 0) (AndTerm (tree.Name 4 0) NoTerms))) NoBinds))
    (App (tree.Name 6 0) (AndTerm (tree.Con 0 0) NoTerms))) ∷ []))

-- main = (\x -> (\y -> Cons x (Cons y Nil))) 65 66;
abbrev pub nested_text : Program
nested_text =
    program (function 2 [] (App (tree.Lambda (binder 3 ∷ []) (App (tree.Lambda (binder 4 ∷ [])
    (App (tree.Con 1 0) (AndTerm (tree.Name 3 0) (AndTerm (tree.Bracket (tree.Con 1 0) (AndTerm
    (tree.Name 4 0) (AndTerm (tree.Con 0 0) NoTerms)) 0) NoTerms))) 0) NoTerms) 0) (AndTerm
    (tree.Int (pos 65) 0) (AndTerm (tree.Int (pos 66) 0) NoTerms))) ∷ [])

pub record Examples : Type 0 where
  pub lone : (printed single_lambda_text [] 9).out ≡ codes "A"
  pub captured : (printed captured_text [] 9).out ≡ codes "B"
  pub mutual_group : (printed mutual_text [] 30).out ≡ codes "O"
  pub own_name : (printed self_application_text [] 9).out ≡ codes "A"
  pub hidden : (printed shadowed_function_text [] 9).out ≡ codes "B"
  pub nested : (printed nested_text [] 9).out ≡ codes "AB"
  -- main = (lift'0) 65; lift'0 x = Cons x Nil;
  pub lone_is_lifted : (lifted single_lambda_text).functions
      ≡ lifted_function 2 [] (app (core.Bracket (core.Name 12 0) core.NoTerms 0)
      (core.AndTerm (core.Int (pos 65) 0) core.NoTerms))
      ∷ (lifted_function 12 (binder 3 ∷ []) (app (core.Con 1 0)
      (core.AndTerm (core.Name 3 0) (core.AndTerm (core.Con 0 0) core.NoTerms)))
      ∷ [])
  -- main = let y = 66; g = lift'0 y in g Nil; lift'0 y x = Cons y x;
  pub captured_is_lifted : (lifted captured_text).functions
      ≡ lifted_function 2 [] (core.Let
      (record {
        binder = binder 4;
        app = record { head = core.Int (pos 66) 0; args = core.NoTerms };
      }
      ∷ (record {
        binder = binder 6;
        app = record {
          head = core.Name 12 0;
          args = core.AndTerm (core.Name 4 0) core.NoTerms;
        };
      }
      ∷ [])) (app (core.Name 6 0) (core.AndTerm (core.Con 0 0) core.NoTerms)))
      ∷ (lifted_function 12 (binder 4 ∷ (binder 3 ∷ [])) (app (core.Con 1 0)
      (core.AndTerm (core.Name 4 0) (core.AndTerm (core.Name 3 0) core.NoTerms)))
      ∷ [])
