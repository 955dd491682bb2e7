-- Which names are free, and what is lifted, hangs on the names of a text alone.
use Rattle.std.proofs.Common.{◌≡◌, ℕ, suc, ◌+◌, Bool, true, false, cond, nat_eq, List, [], ◌∷◌, ◌++◌, length, nat_lt, refl, sym, ap, ◌∙◌, Option}
use Rattle.std.specs.Prelude.{codes}
use Rattle.core_reader.specs.declared.syntax.Binder.{Binder}
use Rattle.core_reader.specs.Tree as core
use Rattle.lambda_reader.specs.Tree.{Term, Terms, NoTerms, AndTerm, Group, NoBinds, AndValue, AndFunction, Expr, App, Let, Case, Alts, NoAlts, AndAlt, Function, Program}
use Rattle.lambda_reader.specs.Tree as tree
use Rattle.arity_check.specs.declared.meaning.Meaning.{Meaning}
use Rattle.arity_check.specs.declared.meaning.Meaning.TheVariants as stands
use Rattle.arity_check.specs.Scope.{Scope, primitives, unless_primitive, is_named, primitive_from, function_from, found_in, binds, binds_all}
use Rattle.lambda_lift.specs.Headers.{program_headers, names_of, binders_of, bound_by, within, stands_for_local, is_local}
use Rattle.lambda_lift.specs.Free.{uses, without_repeats, free}
use Rattle.lambda_lift.specs.Abstractions.{Abstraction, in_term, in_terms, in_group, in_expr, in_alts, in_functions, count_term, count_terms, count_group, count, abstractions}
use Rattle.lambda_lift.specs.Lifted.{arguments, parameters, lift_term, lift_terms, lift_group, lift, lift_alts, lifted_function, lifted_functions, lifted_bodies, lifted, lifted_names}
use Rattle.lambda_lift.specs.Gathered.{program_of_names}
use Rattle.lambda_lift.specs.Broadest.{earlier_place_if, exceeds_parameter_limit, too_broad}
use Rattle.lambda_lift.proofs.Gathers.{filter_same}

module _ (c : Program) where
  abbrev d : Program
  d = program_of_names c.names

  no_local : (fs : List core.Function) (f x : ℕ) → stands_for_local c
      (function_from (program_headers c) fs f x) ≡ false
  no_local [] f x = refl
  no_local (g ∷ gs) f x = by (nat_eq g.name x) (no_local gs (f + 1) x)
    where
      by : (same : Bool) → stands_for_local c (function_from (program_headers c) gs (f + 1) x) ≡
          false → stands_for_local c
          (cond same (stands.Function f (length g.params))
          (function_from (program_headers c) gs (f + 1) x)) ≡ false
      by true e = refl
      by false e = e

  found_same : (s : Scope) (x : ℕ) → stands_for_local d (found_in (program_headers d) s x) ≡
      stands_for_local c (found_in (program_headers c) s x)
  found_same [] x = sym (no_local (program_headers c).functions 0 x)
  found_same (b ∷ s) x = by (nat_eq b.0 x) (found_same s x)
    where
      by : (same : Bool) → stands_for_local d (found_in (program_headers d) s x) ≡ stands_for_local
          c (found_in (program_headers c) s x)
          → stands_for_local d (cond same (stands.Local b.1) (found_in (program_headers d) s x)) ≡
          stands_for_local c (cond same (stands.Local b.1) (found_in (program_headers c) s x))
      by true e = refl
      by false e = e

  unless_same : (p m n : Meaning) → stands_for_local d m ≡ stands_for_local c n
      → stands_for_local d (unless_primitive p m) ≡ stands_for_local c (unless_primitive p n)
  unless_same (stands.Primitive op) m n e = refl
  unless_same (stands.Local y) m n e = e
  unless_same (stands.Function f k) m n e = e
  unless_same stands.Unbound m n e = e

  prims_same : (qs : List _) (x : ℕ) → primitive_from (program_headers d) qs x ≡ primitive_from
      (program_headers c) qs x
  prims_same [] x = refl
  prims_same (q ∷ qs) x = ap
      (λ m. cond (is_named (program_headers c) q.0 x) (stands.Primitive q.1) m) (prims_same qs x)

  pub local_same : (s : Scope) (x : ℕ) → is_local d s x ≡ is_local c s x
  local_same s x = by (is_named (program_headers c) (codes "_") x)
    where
      inner : stands_for_local d
          (unless_primitive (primitive_from (program_headers d) primitives x)
          (found_in (program_headers d) s x)) ≡ stands_for_local c
          (unless_primitive (primitive_from (program_headers c) primitives x)
          (found_in (program_headers c) s x))
      inner = ap (λ p. stands_for_local d (unless_primitive p (found_in (program_headers d) s x)))
          (prims_same primitives x) ∙ unless_same (primitive_from (program_headers c) primitives x)
          (found_in (program_headers d) s x) (found_in (program_headers c) s x) (found_same s x)

      by : (nameless : Bool) → stands_for_local d
          (cond nameless stands.Unbound
          (unless_primitive (primitive_from (program_headers d) primitives x)
          (found_in (program_headers d) s x))) ≡ stands_for_local c
          (cond nameless stands.Unbound
          (unless_primitive (primitive_from (program_headers c) primitives x)
          (found_in (program_headers c) s x)))
      by true = refl
      by false = inner

  pub free_same : (s : Scope) (params : List Binder) (e : Expr)
      → free d s params e ≡ free c s params e
  free_same s params e = ap without_repeats
      (filter_same (is_local d s) (is_local c s) (local_same s) (uses (names_of params) e))

  all_same : (xs ys : List ℕ) (s : Scope) → binds_all (program_headers d) xs ys s ≡ binds_all
      (program_headers c) xs ys s
  all_same [] ys s = refl
  all_same (x ∷ xs) [] s = refl
  all_same (x ∷ xs) (y ∷ ys) s = all_same xs ys (binds (program_headers c) x y s)

  within_same : (bs : List Binder) (s : Scope) → within d bs s ≡ within c bs s
  within_same bs s = all_same (names_of bs) (names_of bs) s

  -- ---- the lambdas and local functions

  mutual
    term_same : (s : Scope) (t : Term) → in_term d s t ≡ in_term c s t
    term_same s (tree.Name x at) = refl
    term_same s (tree.Con k at) = refl
    term_same s (tree.Int k at) = refl
    term_same s (tree.Bracket head args at) = λ i. term_same s head i ++ terms_same s args i
    term_same s (tree.Lambda params body at) = ap
        (λ w. record { scope = s; params = params; body = body; at = at } ∷ w)
        (ap (λ w. in_expr d w body) (within_same params s) ∙ expr_same (within c params s) body)

    terms_same : (s : Scope) (ts : Terms) → in_terms d s ts ≡ in_terms c s ts
    terms_same s NoTerms = refl
    terms_same s (AndTerm a xs) = λ i. term_same s a i ++ terms_same s xs i

    group_same : (s : Scope) (g : Group) → in_group d s g ≡ in_group c s g
    group_same s NoBinds = refl
    group_same s (AndValue b head args rest) = λ i. term_same s head i
        ++ (terms_same s args i ++ group_same s rest i)
    group_same s (AndFunction b params body rest) =
        let inner : in_expr d (within d params s) body ≡ in_expr c (within c params s) body
        = ap (λ w. in_expr d w body) (within_same params s) ∙ expr_same (within c params s) body
        in
        λ i. record { scope = s; params = params; body = body; at = b.at } ∷
        (inner i ++ group_same s rest i)

    expr_same : (s : Scope) (e : Expr) → in_expr d s e ≡ in_expr c s e
    expr_same s (App head args) = λ i. term_same s head i ++ terms_same s args i
    expr_same s (Let group body) =
        ap (λ w. in_group d w group ++ in_expr d w body) (within_same (binders_of group) s)
        ∙ (λ i. group_same (within c (binders_of group) s) group i
        ++ expr_same (within c (binders_of group) s) body i)
    expr_same s (Case tested alts) = λ i. expr_same s tested i ++ alts_same s alts i

    alts_same : (s : Scope) (xs : Alts) → in_alts d s xs ≡ in_alts c s xs
    alts_same s NoAlts = refl
    alts_same s (AndAlt p body rest) =
        let inner : in_expr d (within d (bound_by p) s) body ≡ in_expr c (within c (bound_by p) s)
        body = ap (λ w. in_expr d w body) (within_same (bound_by p) s) ∙ expr_same
        (within c (bound_by p) s) body in
        λ i. inner i ++ alts_same s rest i

  pub functions_same : (fs : List Function) → in_functions d fs ≡ in_functions c fs
  functions_same [] = refl
  functions_same (f ∷ fs) =
      let inner : in_expr d (within d f.params []) f.body ≡ in_expr c (within c f.params []) f.body
      = ap (λ w. in_expr d w f.body) (within_same f.params []) ∙ expr_same
      (within c f.params []) f.body in
      λ i. inner i ++ functions_same fs i

  pub abstractions_same : in_functions d c.functions ≡ abstractions c
  abstractions_same = functions_same c.functions

  -- ---- what is lifted

  mutual
    lift_term_same : (s : Scope) (k : ℕ) (t : Term) → lift_term d s k t ≡ lift_term c s k t
    lift_term_same s k (tree.Name x at) = refl
    lift_term_same s k (tree.Con n at) = refl
    lift_term_same s k (tree.Int n at) = refl
    lift_term_same s k (tree.Bracket head args at) =
        ap (λ n. core.Bracket (lift_term d s k head) (lift_terms d s (k + n) args) at)
        (ap length (term_same s head))
        ∙ (λ i. core.Bracket (lift_term_same s k head i)
        (lift_terms_same s (k + count_term c s head) args i) at)
    lift_term_same s k (tree.Lambda params body at)
        = ap (λ xs. core.Bracket (core.Name (length c.names + k) at) (arguments at xs) at)
        (free_same s params body)

    lift_terms_same : (s : Scope) (k : ℕ) (ts : Terms) → lift_terms d s k ts ≡ lift_terms c s k ts
    lift_terms_same s k NoTerms = refl
    lift_terms_same s k (AndTerm a xs) =
        ap (λ n. core.AndTerm (lift_term d s k a) (lift_terms d s (k + n) xs))
        (ap length (term_same s a))
        ∙ (λ i. core.AndTerm (lift_term_same s k a i)
        (lift_terms_same s (k + count_term c s a) xs i))

  abbrev core_app : core.Term → core.Terms → core.Application
  core_app head args = record { head = head; args = args }

  app_same : (s : Scope) (k : ℕ) (head : Term) (args : Terms)
      → core_app (lift_term d s k head) (lift_terms d s (k + count_term d s head) args) ≡ core_app
      (lift_term c s k head) (lift_terms c s (k + count_term c s head) args)
  app_same s k head args =
      ap (λ n. core_app (lift_term d s k head) (lift_terms d s (k + n) args))
      (ap length (term_same s head))
      ∙ (λ i. core_app (lift_term_same s k head i)
      (lift_terms_same s (k + count_term c s head) args i))

  lift_group_same : (s : Scope) (k : ℕ) (g : Group) → lift_group d s k g ≡ lift_group c s k g
  lift_group_same s k NoBinds = refl
  lift_group_same s k (AndValue b head args rest) =
      let n : count_term d s head + count_terms d s args ≡ count_term c s head + count_terms c s
      args = λ i. length (term_same s head i) + length (terms_same s args i) in
      λ i. record { binder = b; app = app_same s k head args i } ∷
      (ap (λ n. lift_group d s (k + n) rest) n ∙ lift_group_same s
      (k + (count_term c s head + count_terms c s args)) rest) i
  lift_group_same s k (AndFunction b params body rest) =
      let inner : in_expr d (within d params s) body ≡ in_expr c (within c params s) body
      = ap (λ w. in_expr d w body) (within_same params s) ∙ expr_same (within c params s) body
      in
      let e = free_same s params body in
      λ i. record {
        binder = b;
        app = core_app (core.Name (length c.names + k) b.at)
            (arguments b.at (e i));
      }
      ∷ (ap (λ (xs : List Abstraction). lift_group d s (k + suc (length xs)) rest) inner ∙
      lift_group_same s (k + suc (count c (within c params s) body)) rest) i

  mutual
    lift_same : (s : Scope) (k : ℕ) (e : Expr) → lift d s k e ≡ lift c s k e
    lift_same s k (App head args) = ap core.App (app_same s k head args)
    lift_same s k (Let group body) =
        let inner : Scope = within c (binders_of group) s in
        ap (λ w. core.Let (lift_group d w k group) (lift d w (k + count_group d w group) body))
        (within_same (binders_of group) s)
        ∙ ap (λ n. core.Let (lift_group d inner k group) (lift d inner (k + n) body))
        (ap length (group_same inner group))
        ∙ (λ i. core.Let (lift_group_same inner k group i)
        (lift_same inner (k + count_group c inner group) body i))
    lift_same s k (Case tested alts) =
        ap (λ n. core.Case (lift d s k tested) (lift_alts d s (k + n) alts))
        (ap length (expr_same s tested))
        ∙ (λ i. core.Case (lift_same s k tested i) (lift_alts_same s (k + count c s tested) alts i))

    lift_alts_same : (s : Scope) (k : ℕ) (xs : Alts) → lift_alts d s k xs ≡ lift_alts c s k xs
    lift_alts_same s k NoAlts = refl
    lift_alts_same s k (AndAlt p body rest) =
        let inner : Scope = within c (bound_by p) s in
        ap (λ w. core.AndAlt p (lift d w k body) (lift_alts d s (k + count d w body) rest))
        (within_same (bound_by p) s)
        ∙ ap (λ n. core.AndAlt p (lift d inner k body) (lift_alts d s (k + n) rest))
        (ap length (expr_same inner body))
        ∙ (λ i. core.AndAlt p (lift_same inner k body i)
        (lift_alts_same s (k + count c inner body) rest i))

  made_same : (k : ℕ) (a : Abstraction) → lifted_function d k a ≡ lifted_function c k a
  made_same k a =
      let body : lift d (within d a.params a.scope) (suc k) a.body ≡ lift c
      (within c a.params a.scope) (suc k) a.body =
      ap (λ w. lift d w (suc k) a.body) (within_same a.params a.scope) ∙ lift_same
      (within c a.params a.scope) (suc k) a.body in
      λ i. record {
        name = length c.names + k;
        at = a.at;
        params
            = parameters a.at (free_same a.scope a.params a.body i) ++ a.params;
        body = body i;
      }

  all_made_same : (k : ℕ) (xs : List Abstraction) → lifted_functions d k xs ≡ lifted_functions c k
      xs
  all_made_same k [] = refl
  all_made_same k (a ∷ rest) = λ i. made_same k a i ∷ all_made_same (suc k) rest i

  bodies_same : (k : ℕ) (fs : List Function) → lifted_bodies d k fs ≡ lifted_bodies c k fs
  bodies_same k [] = refl
  bodies_same k (f ∷ fs) =
      let inner : Scope = within c f.params [] in
      let body : lift d (within d f.params []) k f.body ≡ lift c inner k f.body
      = ap (λ w. lift d w k f.body) (within_same f.params []) ∙ lift_same inner k f.body in
      let n : count d (within d f.params []) f.body ≡ count c inner f.body
      = ap length
      (ap (λ w. in_expr d w f.body) (within_same f.params []) ∙ expr_same inner f.body) in
      λ i. record { name = f.name; at = f.at; params = f.params; body = body i } ∷
      (ap (λ n. lifted_bodies d (k + n) fs) n ∙ bodies_same (k + count c inner f.body) fs) i

  -- the lifted program, by the names alone
  pub lifted_same : (names : List (List ℕ)) (fs : List core.Function)
      → names ≡ c.names ++ lifted_names 0 (length (in_functions d c.functions))
      → fs ≡ lifted_bodies d 0 c.functions ++ lifted_functions d 0 (in_functions d c.functions)
      → record { names = names; constructors = c.constructors; functions = fs } ≡ lifted c
  lifted_same names fs e f =
      let all = functions_same c.functions in
      let g : lifted_bodies d 0 c.functions ++ lifted_functions d 0 (in_functions d c.functions) ≡
      lifted_bodies c 0 c.functions ++ lifted_functions c 0 (abstractions c) =
      (λ i. bodies_same 0 c.functions i ++ lifted_functions d 0 (all i)) ∙ ap
      (λ w. lifted_bodies c 0 c.functions ++ w) (all_made_same 0 (abstractions c)) in
      λ i. record {
        names = (e ∙ ap (λ xs. c.names ++ lifted_names 0 (length xs)) all) i;
        constructors
            = c.constructors;
        functions = (f ∙ g) i;
      }

  -- which of them are too broad
  broad_same : (first : Option ℕ) (xs : List Abstraction)
      → too_broad d first xs ≡ too_broad c first xs
  unfolding too_broad
  broad_same first [] = refl
  broad_same first (a ∷ rest) =
      let same : exceeds_parameter_limit d a ≡ exceeds_parameter_limit c a
      = ap (λ (xs : List ℕ). nat_lt 12 (length xs + length a.params))
      (free_same a.scope a.params a.body) in
      ap (λ b. too_broad d (earlier_place_if b a.at first) rest) same ∙ broad_same
      (earlier_place_if (exceeds_parameter_limit c a) a.at first) rest

  pub all_broad_same : (first : Option ℕ) → too_broad d first (in_functions d c.functions) ≡
      too_broad c first (abstractions c)
  all_broad_same first = ap (too_broad d first) (functions_same c.functions) ∙ broad_same first
      (abstractions c)
