-- What a text with lambdas means, without lifting: evaluation by need, where a lambda or a local
-- function is a value that holds its environment.
use Rattle.std.specs.Prelude.{ℕ, zero, suc, ◌+◌, ◌==◌, nat_lt, true, false, List, [], ◌∷◌, ◌++◌, length, take, codes, Option, Some, None, if◌then◌else◌, slice_get}
use Rattle.std.specs.List.{count_by, position_or_len}
use Rattle.core_reader.specs.declared.syntax.Binder.{Binder}
use Rattle.core_reader.specs.declared.syntax.Pattern.TheVariants as pattern
use Rattle.lambda_reader.specs.Tree.{Term, Terms, NoTerms, AndTerm, Group, NoBinds, AndValue, AndFunction, Expr, App, Let, Case, Alts, NoAlts, AndAlt, Function, Program}
use Rattle.lambda_reader.specs.Tree as tree
use Rattle.arity_check.specs.declared.meaning.Meaning.{Meaning}
use Rattle.arity_check.specs.declared.meaning.Meaning.TheVariants.{Local, Primitive, Unbound}
use Rattle.arity_check.specs.declared.meaning.Meaning.TheVariants as stands
use Rattle.arity_check.specs.Scope.{Scope, is_named, con_number, binds, binds_all}
use Rattle.arity_check.specs.declared.normal.PrimOp.{PrimOp}
use Rattle.core_meaning.specs.Heap.{ValueOf, Int, Con, Part, Call, Apply, Prim, Global, Input, BindingOf, Known, Waiting, HeapOf}
use Rattle.core_meaning.specs.Forcing as forcing
use Rattle.core_meaning.specs.Forcing.{StateOf, AnswerOf, DelayedEvaluatorOf, PrintedRun, Gives, NoAlternative, and_then, is_con, is_int, fields_of, append}
use Rattle.core_meaning.specs.Told.{meaning_end}
use Rattle.headline.specs.Carries as told
use Rattle.lambda_lift.specs.Headers.{names_of, binders_of, program_headers, means}
use Rattle.lambda_lift.specs.Free.{free}

-- a function of the text, by its number, or a lambda or local function, where each local has the
-- name that its environment says
pub data Fun : Type 0 where
  Top : (number : ℕ) → Fun
  Closure : (params : List Binder) (body : Expr) (env : Scope) → Fun

abbrev pub Binding : Type 0
Binding = BindingOf Fun

abbrev pub Heap : Type 0
Heap = HeapOf Fun

abbrev pub Value : Type 0
Value = ValueOf Fun

abbrev pub State : Type 0
State = StateOf Fun

abbrev pub Answer : Type 0
Answer = AnswerOf Fun

-- ---- the normal form of an application, made where it is evaluated

-- new bindings, and then a form
pub record Flat : Type 0 where
  pub news : Heap
  pub form : Binding

-- the new bindings and the names of the first arguments, and those of the others behind one more
-- binding
pub record SplitArguments : Type 0 where
  pub first : Heap
  pub names : List ℕ
  pub second : Heap
  pub others : List ℕ

-- arguments: how many, and how they are arranged from a name on, so many of them being the first
pub record Arguments : Type 0 where
  pub many : ℕ
  pub arranged : ℕ → ℕ → SplitArguments

abbrev pub nothing : SplitArguments
nothing = record { first = []; names = []; second = []; others = [] }

-- one more argument, of which these are the new bindings and the name
abbrev pub argument_count : Option Arguments → ℕ
argument_count None = 0
argument_count (Some xs) = xs.many

abbrev pub split_arguments : Option Arguments → ℕ → ℕ → SplitArguments
split_arguments None n k = nothing
split_arguments (Some xs) n k = xs.arranged n k

-- the name of an argument, with the bindings that it makes from the name n on
pub record Named : Type 0 where
  pub news : Heap
  pub name : ℕ

abbrev pub named : ℕ → Option ℕ → Flat → Named
named n (Some a) f = record { news = []; name = a }
named n None f = record { news = f.news ++ f.form ∷ []; name = n + length f.news }

-- an argument and the others, so many of them being the first
abbrev pub next : (ℕ → Named) → Option Arguments → ℕ → ℕ → SplitArguments
next argument rest n zero =
    let a : Named = argument (suc n) in
    let r : SplitArguments = split_arguments rest (suc n + length a.news) (argument_count rest) in
    record {
      first = [];
      names = [];
      second = a.news ++ r.first;
      others = a.name ∷ r.names;
    }
next argument rest n (suc k) =
    let a : Named = argument n in
    let r : SplitArguments = split_arguments rest (n + length a.news) k in
    record {
      first = a.news ++ r.first;
      names = a.name ∷ r.names;
      second = r.second;
      others = r.others;
    }

-- a new binding of a form, and then the application of its name to arguments
abbrev pub applied : ℕ → Binding → Arguments → Flat
applied n form xs =
    let r : SplitArguments = xs.arranged (suc n) xs.many in
    record { news = form ∷ r.first; form = Waiting (Apply n r.names) }

-- a bracket: with arguments inside and outside it has a binding of its own
abbrev pub apply_bracket : ℕ → Option Arguments → Option Arguments
    → (Option Arguments → Flat) → Flat
apply_bracket n None outer go = go outer
apply_bracket n (Some inner) None go = go (Some inner)
apply_bracket n (Some inner) (Some outer) go =
    let f : Flat = go (Some inner) in
    let g : Flat = applied (n + length f.news) f.form outer in
    record { news = f.news ++ g.news; form = g.form }

-- where all arguments have names
abbrev pub apply_to_names : ℕ → Option Arguments → (List ℕ → Binding) → Flat
apply_to_names n None form = record { news = []; form = form [] }
apply_to_names n (Some xs) form =
    let r : SplitArguments = xs.arranged n xs.many in record { news = r.first; form = form r.names }

-- a function that has parameters: fewer names are a part, as many a call, and more are given to
-- what the call gives
abbrev pub apply_function : Fun → ℕ → ℕ → Option Arguments → Flat
apply_function f params n None = record { news = []; form = Known (Part f []) }
apply_function f params n (Some xs) =
    let r : SplitArguments = xs.arranged n params in
    if nat_lt xs.many params then record { news = r.first; form = Known (Part f r.names) }
    else (if xs.many == params then record { news = r.first; form = Waiting (Call f r.names) }
    else record {
      news = r.first ++ Waiting (Call f r.names) ∷ r.second;
      form = Waiting (Apply (n + length r.first) r.others);
    })

-- In a program that breaks no rule an operation has two operands, and each name stands for
-- something.
abbrev pub operation : PrimOp → List ℕ → Binding
operation op (a ∷ b ∷ []) = Waiting (Prim op a b)
operation op xs = Known (Part (Top 0) xs)

module _ (c : Program) where
  -- the name of the function f without parameters
  abbrev pub global : ℕ → ℕ
  global f = count_by (λ (g : Function). length g.params == 0) (take f c.functions)

  abbrev pub itself_as : Meaning → Option ℕ
  itself_as (Local a) = Some a
  itself_as (stands.Function f params) = if params == 0 then Some (global f) else None
  itself_as (Primitive op) = None
  itself_as Unbound = None

  -- the name that an argument is by itself: that of a local, or of a function without parameters
  abbrev pub itself : Scope → Term → Option ℕ
  itself env (tree.Name x at) = itself_as (means c env x)
  itself env (tree.Bracket head NoTerms at) = itself env head
  itself env (tree.Bracket head (AndTerm a xs) at) = None
  itself env (tree.Con d at) = None
  itself env (tree.Int k at) = None
  itself env (tree.Lambda params body at) = None

  abbrev pub number_of : ℕ → ℕ
  number_of d = elim (con_number (program_headers c) d) [ Some k ↦ k | None ↦ 0 ]

  abbrev pub name_with : ℕ → Meaning → Option Arguments → Flat
  name_with n (Local a) xs = apply_to_names n xs (λ as'. Waiting (Apply a as'))
  name_with n (stands.Function f zero) xs =
      apply_to_names n xs (λ as'. Waiting (Apply (global f) as'))
  name_with n (stands.Function f (suc k)) xs = apply_function (Top f) (suc k) n xs
  name_with n (Primitive op) xs = apply_to_names n xs (operation op)
  name_with n Unbound xs = apply_to_names n xs (λ as'. Known (Part (Top 0) as'))

  -- A lambda is a value. With arguments it is as a function, where it has no free names, and else
  -- as a bracket.
  abbrev pub lambda_with : Scope → ℕ → List Binder → Expr → Option Arguments → Flat
  lambda_with env n params body None =
      record { news = []; form = Known (Part (Closure params body env) []) }
  lambda_with env n params body (Some xs) =
      elim (free c env params body) [
        | [] ↦ apply_function (Closure params body env) (length params) n (Some xs)
        | x ∷ more ↦ applied n (Known (Part (Closure params body env) [])) xs
      ]

  abbrev mutual
    -- the application of a head to arguments, with new bindings from the name n on
    pub flat : Scope → ℕ → Term → Option Arguments → Flat
    flat env n (tree.Name x at) xs = name_with n (means c env x) xs
    flat env n (tree.Con d at) xs = apply_to_names n xs (λ as'. Known (Con (number_of d) as'))
    flat env n (tree.Int k at) None = record { news = []; form = Known (Int k) }
    flat env n (tree.Int k at) (Some xs) = applied n (Known (Int k)) xs
    flat env n (tree.Bracket head args at) xs =
        apply_bracket n (arguments env args) xs (λ xs. flat env n head xs)
    flat env n (tree.Lambda params body at) xs = lambda_with env n params body xs

    pub arguments : Scope → Terms → Option Arguments
    arguments env NoTerms = None
    arguments env (AndTerm a xs) =
        Some (record {
          many = suc (argument_count (arguments env xs));
          arranged =
              next (λ n. named n (itself env a) (flat env n a None)) (arguments env xs);
        })

  -- the members of a group, each with its new bindings, from the name n on
  abbrev pub members : Scope → ℕ → Group → List Flat
  members env n NoBinds = []
  members env n (AndValue b head args rest) =
      let f : Flat = flat env n head (arguments env args) in
      f ∷ members env (n + length f.news + 1) rest
  members env n (AndFunction b params body rest) =
      record { news = []; form = Known (Part (Closure params body env) []) }
      ∷ members env (n + 1) rest

  -- all their bindings, and the names of their binders: a member's stands behind its new ones
  abbrev pub bindings_of : List Flat → Heap
  bindings_of [] = []
  bindings_of (f ∷ fs) = f.news ++ (f.form ∷ bindings_of fs)

  abbrev pub places_of : ℕ → List Flat → List ℕ
  places_of n [] = []
  places_of n (f ∷ fs) = (n + length f.news) ∷ places_of (n + length f.news + 1) fs

  abbrev pub with_all : List Binder → List ℕ → Scope → Scope
  with_all bs as' env = binds_all (program_headers c) (names_of bs) as' env

  -- The environment in the group, whose members begin at the name n. How many new bindings there
  -- are does not hang on the names in it.
  abbrev pub in_group : Scope → ℕ → Group → Scope
  in_group env n group =
      let bs : List Binder = binders_of group in
      with_all bs (places_of n (members (with_all bs (names_of bs) env) n group)) env

  -- the number of parameters of a function
  abbrev pub arity : Fun → ℕ
  arity (Top f) = elim (slice_get c.functions f) [ Some g ↦ length g.params | None ↦ 0 ]
  arity (Closure params body env) = length params

  module _ (onward : DelayedEvaluatorOf Fun) where
    -- a form that stands for an expression is done without a unit of its own, but for a call
    abbrev pub does : Binding → ℕ → State → Answer
    does (Known v) d s = Gives v s
    does (Waiting (Call f xs)) d s = onward (Call f xs) d s
    does (Waiting (Apply a xs)) d s = forcing.apply arity NoAlternative onward a xs d s
    does (Waiting (Prim op a b)) d s = forcing.prim arity NoAlternative onward op a b d s
    does (Waiting (Global f)) d s = onward (Global f) d s
    does (Waiting Input) d s = onward Input d s

    abbrev mutual
      -- the value of an expression
      pub eval : Expr → Scope → ℕ → State → Answer
      eval (App head args) env d s =
          let f : Flat = flat env (length s.heap) head (arguments env args) in
          does f.form d (append s f.news)
      eval (Let group body) env d s =
          let inner : Scope = in_group env (length s.heap) group in
          eval body inner d (append s (bindings_of (members inner (length s.heap) group)))
      eval (Case tested alts) env d s =
          and_then (eval tested env (suc d) s) (λ v s. select alts v env d s)

      -- the first alternative that accepts a value
      pub select : Alts → Value → Scope → ℕ → State → Answer
      select NoAlts v env d s = NoAlternative s
      select (AndAlt (pattern.Con k fields) body rest) v env d s =
          elim (is_con (number_of k.name.0) v) [
            | true ↦ eval body (with_all fields (fields_of v) env) d s
            | false ↦ select rest v env d s
          ]
      select (AndAlt (pattern.Int k at) body rest) v env d s =
          elim (is_int k v) [ true ↦ eval body env d s | false ↦ select rest v env d s ]
      select (AndAlt (pattern.Default x) body rest) v env d s =
          elim (is_named (program_headers c) (codes "_") x.name.0) [
            | true ↦ eval body env d s
            | false ↦ eval body (binds (program_headers c) x.name.0 (length s.heap) env) d
                (append s (Known v ∷ []))
          ]

    abbrev pub enter_top : Option Function → List ℕ → ℕ → State → Answer
    enter_top None xs d s = NoAlternative s
    enter_top (Some f) xs d s = eval f.body (with_all f.params xs []) d s

    -- a body is evaluated where its parameters have these names
    abbrev pub enter : Fun → List ℕ → ℕ → State → Answer
    enter (Top f) xs d s = enter_top (slice_get c.functions f) xs d s
    enter (Closure params body env) xs d s = eval body (with_all params xs env) d s

  -- ---- the program

  -- the first constructor and the first function of a name
  abbrev pub con_named : List ℕ → ℕ
  con_named name = position_or_len (λ d. is_named (program_headers c) name d.name) c.constructors

  abbrev pub main : ℕ
  main =
      position_or_len (λ (f : Function). is_named (program_headers c) (codes "main") f.name)
      c.functions

  abbrev pub globals : List Function → ℕ → Heap
  globals [] f = []
  globals (g ∷ gs) f =
      (if length g.params == 0 then Waiting (Global (Top f)) ∷ [] else []) ++ globals gs (suc f)

  -- what the text puts out on the input i within n units
  abbrev pub printed : List ℕ → ℕ → PrintedRun
  printed i n =
      forcing.printed arity NoAlternative
      (con_named (codes "Nil")) (con_named (codes "Cons")) enter
      (globals c.functions 0) (Top main) (global main) i n

-- the same as a meaning tells it
abbrev pub meaning_of_lambdas : Program → told.Meaning
meaning_of_lambdas c i n =
    let r : PrintedRun = printed c i n in
    record { out = r.out; end = meaning_end r.end; cells = r.cells; depth = r.depth; used = r.used }
