-- The lifted program is readable: its names have texts of their kinds, and it is not too large.
use Rattle.std.proofs.Common.{◌≡◌, ℕ, zero, suc, ◌+◌, ◌*◌, ◌%◌, ◌-◌, ◌<◌, ◌≤◌, ◌^◌, Bool, true, false, cond, List, [], ◌∷◌, ◌++◌, length, refl, sym, ap, subst, ◌∙◌, arith, length-append, Some, None}
use Rattle.std.specs.Prelude.{◌||◌, nat_lt, All, codes, decimal, filter, not, ◌==◌, slice_get, sum_by}
use Rattle.std.proofs.lemmas.List.{length-map}
use Rattle.std.proofs.lemmas.Bool.{and_parts, and_from, lt-ltb}
use Rattle.std.proofs.lemmas.List.Sums.{sum_by-cons, sum_by-append}
use Rattle.std.proofs.lemmas.List.Elements.{All-nil, All-cons, All-head, All-tail, All-append, All-map, All-weaker, All-filter}
use Rattle.std.proofs.lemmas.Fmt.{decimal_by_steps}
use Rattle.seq.specs.Lists.{is_among, AllOf}
use Rattle.core_reader.specs.declared.syntax.Binder.{Binder}
use Rattle.core_reader.specs.declared.syntax.Pattern.{Pattern}
use Rattle.core_reader.specs.declared.syntax.Pattern.TheVariants as pattern
use Rattle.core_reader.specs.declared.look.TokenKind.TheVariants.{Lower}
use Rattle.core_reader.specs.Bytes.{is_lower, is_upper, is_digit, is_inner}
use Rattle.core_reader.specs.TokensOf.{every}
use Rattle.core_reader.specs.Grammar as core-grammar
use Rattle.core_reader.specs.Grammar.{name_id}
use Rattle.core_reader.specs.Tree as core
use Rattle.core_reader.specs.Size as core-size
use Rattle.core_reader.specs.Readable as core-readable
use Rattle.core_reader.specs.Readable.{IsName, IsConstructor, IsTextAt, IsNamed, IsBound, ReadablePattern, ReadableData}
use Rattle.lambda_reader.specs.Tree.{Term, Terms, NoTerms, AndTerm, Group, NoBinds, AndValue, AndFunction, Expr, App, Let, Case, Alts, NoAlts, AndAlt, Function, Program}
use Rattle.lambda_reader.specs.Tree as tree
use Rattle.lambda_reader.specs.Grammar.{HasParameter, IsGroup, IsNonemptyAlts}
use Rattle.lambda_reader.specs.Size.{term_size, terms_size, group_size, expr_size, alts_size, function_size}
use Rattle.lambda_reader.specs.Readable.{ReadableTerm, ReadableTerms, ReadableGroup, ReadableExpr, ReadableAlts, ReadableFunction, IsReadable}
use Rattle.arity_check.specs.Scope.{Scope}
use Rattle.lambda_lift.specs.Headers.{names_of, bound_by, binders_of, within, is_local}
use Rattle.lambda_lift.specs.Free.{uses_term, uses_terms, uses_group, uses, uses_alts, without_repeats, free}
use Rattle.lambda_lift.specs.Abstractions.{Abstraction, in_term, in_terms, in_group, in_expr, in_alts, in_functions, count_term, count_terms, count_group, count, abstractions}
use Rattle.lambda_lift.specs.Lifted.{arguments, parameters, applied, lift_term, lift_terms, lift_group, lift, lift_alts, lifted_function, lifted_functions, lifted_bodies, lifted_names, lifted, HasNoLiftedName}
use Rattle.lambda_lift.proofs.Grown.{functions_joined}
use Rattle.lambda_lift.proofs.NewNames.{all_different}

-- ---- names

get_front : (xs ys : List (List ℕ)) (i : ℕ) (w : List ℕ) → slice_get xs i ≡ Some w
    → slice_get (xs ++ ys) i ≡ Some w
get_front [] ys i w e = absurd cc
get_front (x ∷ xs) ys zero w e = e
get_front (x ∷ xs) ys (suc i) w e = get_front xs ys i w e

get_back : (xs ys : List (List ℕ)) (i : ℕ) → slice_get (xs ++ ys) (length xs + i) ≡ slice_get ys i
get_back [] ys i = let e : 0 + i ≡ i = omega arith in ap (slice_get ys) e
get_back (x ∷ xs) ys i = let e : length (x ∷ xs) + i ≡ suc (length xs + i) = omega arith
    in ap (slice_get (x ∷ (xs ++ ys))) e ∙ get_back xs ys i

get_new : (m n k : ℕ) → k < n → slice_get (lifted_names m n) k ≡ Some
    (codes "lift'" ++ decimal (m + k))
get_new m zero k l = absurd (omega arith)
get_new m (suc n) zero l = ap (λ i. Some (codes "lift'" ++ decimal i)) (omega arith)
get_new m (suc n) (suc k) l = let e : suc m + k ≡ m + suc k = omega arith
    in get_new (suc m) n k (omega arith) ∙ ap (λ i. Some (codes "lift'" ++ decimal i)) e

every_joined : (xs ys : List ℕ) → every is_inner xs ≡ true → every is_inner ys ≡ true
    → every is_inner (xs ++ ys) ≡ true
every_joined [] ys e f = f
every_joined (x ∷ xs) ys e f = let r = and_parts (is_inner x) (every is_inner xs) e
    in and_from (is_inner x) (every is_inner (xs ++ ys)) r.0 (every_joined xs ys r.1 f)

or_digit : (a b d e : Bool) → d ≡ true → (a || b || d || e) ≡ true
or_digit true b d e h = refl
or_digit false true d e h = refl
or_digit false false true e h = refl
or_digit false false false e h = absurd cc

digit_inner : (d : ℕ) → d < 10 → is_inner (48 + d) ≡ true
digit_inner d l =
    let digit = and_from (nat_lt 47 (48 + d)) (nat_lt (48 + d) 58)
    (lt-ltb 47 (48 + d) (omega arith)) (lt-ltb (48 + d) 58 (omega arith)) in
    or_digit (is_lower (48 + d)) (is_upper (48 + d)) (is_digit (48 + d)) ((48 + d) == 39) digit

decimal_inner : (n : ℕ) → n < 2 ^ 64 → every is_inner (decimal n) ≡ true
decimal_inner = decimal_by_steps (λ n ds. every is_inner ds ≡ true)
    (λ n l. and_from (is_inner (48 + n)) true (digit_inner n l) refl)
    (λ n ds l h. every_joined ds ((48 + n % 10) ∷ []) h
    (and_from (is_inner (48 + n % 10)) true (digit_inner (n % 10) (omega arith)) refl))

name_kind : (ds : List ℕ) → every is_inner ds ≡ true → IsName (codes "lift'" ++ ds)
name_kind ds e = (ap (λ b. cond b (Some Lower) None) e, refl)

first_all : (P : ℕ → Type 0) (xs : List ℕ) → All P xs → All P (without_repeats xs)
first_all P [] h = h
first_all P (x ∷ xs) h = All-cons P x (filter (λ y. not (y == x)) (without_repeats xs))
    (All-head P x xs h)
    (All-filter (λ y. not (y == x)) P (without_repeats xs) (first_all P xs (All-tail P x xs h)))

-- ---- what is used has a name

use_by : (P : ℕ → Type 0) (x : ℕ) (b : Bool) → P x → All P (cond b [] (x ∷ []))
use_by P x true h = All-nil P
use_by P x false h = All-cons P x [] h (All-nil P)

module _ (names : List (List ℕ)) where
  abbrev P : ℕ → Type 0
  P = IsNamed names

  mutual
    used_term : (inside : List ℕ) (t : Term) → ReadableTerm names t → All P (uses_term inside t)
    used_term inside (tree.Name x at) h = use_by P x (is_among x inside) h
    used_term inside (tree.Con k at) h = All-nil P
    used_term inside (tree.Int k at) h = All-nil P
    used_term inside (tree.Bracket head args at) h = All-append P (uses_term inside head)
        (uses_terms inside args) (used_term inside head h.0) (used_terms inside args h.1)
    used_term inside (tree.Lambda params body at) h = used (names_of params ++ inside) body h.2

    used_terms : (inside : List ℕ) (ts : Terms) → ReadableTerms names ts
        → All P (uses_terms inside ts)
    used_terms inside NoTerms h = All-nil P
    used_terms inside (AndTerm a xs) h = All-append P (uses_term inside a) (uses_terms inside xs)
        (used_term inside a h.0) (used_terms inside xs h.1)

    used_group : (inside : List ℕ) (g : Group) → ReadableGroup names g → All P (uses_group inside g)
    used_group inside NoBinds h = All-nil P
    used_group inside (AndValue b head args rest) h =
        All-append P (uses_term inside head) (uses_terms inside args ++ uses_group inside rest)
        (used_term inside head h.1)
        (All-append P (uses_terms inside args) (uses_group inside rest) (used_terms inside args h.2)
        (used_group inside rest h.3))
    used_group inside (AndFunction b params body rest) h
        = All-append P (uses (names_of params ++ inside) body) (uses_group inside rest)
        (used (names_of params ++ inside) body h.3) (used_group inside rest h.4)

    used : (inside : List ℕ) (e : Expr) → ReadableExpr names e → All P (uses inside e)
    used inside (App head args) h = All-append P (uses_term inside head) (uses_terms inside args)
        (used_term inside head h.0) (used_terms inside args h.1)
    used inside (Let group body) h =
        let more : List ℕ = names_of (binders_of group) ++ inside in
        All-append P (uses_group more group) (uses more body) (used_group more group h.1)
        (used more body h.2)
    used inside (Case tested alts) h = All-append P (uses inside tested) (uses_alts inside alts)
        (used inside tested h.1) (used_alts inside alts h.2)

    used_alts : (inside : List ℕ) (xs : Alts) → ReadableAlts names xs → All P (uses_alts inside xs)
    used_alts inside NoAlts h = All-nil P
    used_alts inside (AndAlt p body rest) h = All-append P
        (uses (names_of (bound_by p) ++ inside) body) (uses_alts inside rest)
        (used (names_of (bound_by p) ++ inside) body h.1) (used_alts inside rest h.2)

-- ---- what is lifted

some_length : (bs : List Binder) → HasParameter bs → 1 ≤ length bs
some_length [] h = absurd h
some_length (b ∷ bs) h = omega arith

both_of : {X : Type 0} (P : X → Type 0) (xs ys : List X) → AllOf P (xs ++ ys) → AllOf P xs
    × AllOf P ys
both_of P [] ys h = (tt, h)
both_of P (x ∷ xs) ys h = let w = both_of P xs ys h.1 in ((h.0, w.0), w.1)

module _ (c : Program) (n : ℕ) where
  abbrev all : List (List ℕ)
  all = c.names ++ lifted_names 0 n

  -- an abstraction has few free names and parameters
  abbrev Fits : Abstraction → Type 0
  Fits a = length (free c a.scope a.params a.body) + length a.params ≤ 12

  abbrev FunctionFits : core.Function → Type 0
  FunctionFits = core-readable.ReadableFunction all

  front : (Kind : List ℕ → Type 0) (x : ℕ) → IsTextAt c.names Kind x → IsTextAt all Kind x
  front Kind x h = (h.0, get_front c.names (lifted_names 0 n) x h.0 h.1, h.2)

  binders_front : (bs : List Binder) → All (IsBound c.names) bs → All (IsBound all) bs
  binders_front bs h = All-weaker (IsBound c.names) (IsBound all) (λ b g. front IsName b.name.0 g)
      bs h

  pattern_front : (p : Pattern) → ReadablePattern c.names p → ReadablePattern all p
  pattern_front (pattern.Con k fields) h =
      (front IsConstructor k.name.0 h.0, binders_front fields h.1)
  pattern_front (pattern.Int k at) h = h
  pattern_front (pattern.Default x) h = front IsName x.name.0 h

  new_named : n ≤ 2 ^ 32 → (k : ℕ) → k < n → IsNamed all (length c.names + k)
  new_named small k l =
      let e : 0 + k ≡ k = omega arith in (
        codes "lift'" ++ decimal k,
        get_back c.names (lifted_names 0 n) k ∙ get_new 0 n k l ∙ ap
            (λ i. Some (codes "lift'" ++ decimal i)) e,
        name_kind (decimal k) (decimal_inner k (omega (arith, small, l))),
      )

  -- the functions that were made, and how large they are with the piece
  record Made (k : ℕ) (xs : List Abstraction) (size old : ℕ) : Type 0 where
    functions : All FunctionFits (lifted_functions c k xs)
    small : size + sum_by core-size.function_size (lifted_functions c k xs) ≤ 27 * old

  made_none : (k old : ℕ) → Made k [] old old
  made_none k old = record { functions = All-nil FunctionFits; small = omega arith }

  made_both : (k j : ℕ) (xs ys : List Abstraction) (size size' old old' : ℕ) → j ≡ k + length xs
      → Made k xs size old → Made j ys size' old' → Made k (xs ++ ys) (size + size') (old + old')
  made_both k j xs ys size size' old old' e v w =
      let split : lifted_functions c k (xs ++ ys) ≡ lifted_functions c k xs
      ++ lifted_functions c j ys = functions_joined c k xs ys ∙ sym
      (ap (λ i. lifted_functions c k xs ++ lifted_functions c i ys) e) in
      let sums : sum_by core-size.function_size (lifted_functions c k (xs ++ ys)) ≡ sum_by
      core-size.function_size (lifted_functions c k xs) + sum_by core-size.function_size
      (lifted_functions c j ys) =
      ap (sum_by core-size.function_size) split ∙ sum_by-append core-size.function_size
      (lifted_functions c k xs) (lifted_functions c j ys) in
      record {
        functions = subst (All FunctionFits) (sym split)
            (All-append FunctionFits (lifted_functions c k xs) (lifted_functions c j ys) v.functions
            w.functions);
        small = omega (arith, v.small, w.small, sums);
      }

  made_more : (k : ℕ) (xs : List Abstraction) (size size' old old' : ℕ)
      → size' ≤ size + 27 * (old' - old) → old ≤ old' → Made k xs size old → Made k xs size' old'
  made_more k xs size size' old old' h g w = record
      { functions = w.functions; small = omega (arith, w.small, h, g) }

  arguments_named : (at : ℕ) (xs : List ℕ) → All (IsNamed all) xs
      → core-readable.ReadableTerms all (arguments at xs)
  arguments_named at [] h = tt
  arguments_named at (x ∷ xs) h =
      (All-head (IsNamed all) x xs h, arguments_named at xs (All-tail (IsNamed all) x xs h))

  arguments_size : (at : ℕ) (xs : List ℕ) → core-size.terms_size (arguments at xs) ≡ length xs
  arguments_size at [] = refl
  arguments_size at (x ∷ xs) = omega (arith, arguments_size at xs)

  free_named : (s : Scope) (params : List Binder) (e : Expr) → ReadableExpr c.names e
      → All (IsNamed all) (free c s params e)
  free_named s params e h =
      All-weaker (IsNamed c.names) (IsNamed all) (λ x g. front IsName x g) (free c s params e)
      (first_all (IsNamed c.names) (filter (is_local c s) (uses (names_of params) e))
      (All-filter (is_local c s) (IsNamed c.names) (uses (names_of params) e)
      (used c.names (names_of params) e h)))

  group_some : (s : Scope) (k : ℕ) (g : Group) → IsGroup g
      → core-grammar.IsGroup (lift_group c s k g)
  group_some s k NoBinds h = h
  group_some s k (AndValue b head args rest) h = tt
  group_some s k (AndFunction b params body rest) h = tt

  alts_some : (s : Scope) (k : ℕ) (xs : Alts) → IsNonemptyAlts xs
      → core-grammar.IsNonemptyAlts (lift_alts c s k xs)
  alts_some s k NoAlts h = h
  alts_some s k (AndAlt p e xs) h = tt

  -- a lambda or a local function, where its body is done
  abstraction_made : n ≤ 2 ^ 32 → (s : Scope) (k : ℕ) (params : List Binder) (body : Expr) (at : ℕ)
      → k < n → HasParameter params → All (IsBound c.names) params → ReadableExpr c.names body
      → Fits (record { scope = s; params = params; body = body; at = at })
      → core-readable.ReadableExpr all (lift c (within c params s) (suc k) body)
      → Made (suc k) (in_expr c (within c params s) body)
      (core-size.expr_size (lift c (within c params s) (suc k) body)) (expr_size body)
      → Made k (record { scope = s; params = params; body = body; at = at } ∷ in_expr c
      (within c params s) body) (1 + core-size.terms_size (arguments at (free c s params body)))
      (length params + expr_size body)
  abstraction_made small s k params body at l some bound readable fits lifted w =
      let xs : List ℕ = free c s params body in
      let f : core.Function = lifted_function c k
      (record { scope = s; params = params; body = body; at = at }) in
      let rest : List core.Function = lifted_functions c (suc k)
      (in_expr c (within c params s) body) in
      let own : FunctionFits f = (
        new_named small k l,
        All-append (IsBound all) (parameters at xs) params
            (All-map (IsBound all) (λ x. record { name = name_id x; at = at }) xs
            (free_named s params body readable)) (binders_front params bound),
        lifted,
      ) in
      let many : length (parameters at xs ++ params) ≡ length xs + length params
      = length-append (parameters at xs) params ∙ ap (λ m. m + length params)
      (length-map xs (λ x. record { name = name_id x; at = at })) in
      record {
        functions = All-cons FunctionFits f rest own w.functions;
        small = omega (
          arith,
          w.small,
          many,
          fits,
          some_length params some,
          arguments_size at xs,
          sum_by-cons core-size.function_size f rest,
        );
      }

  module _ (small : n ≤ 2 ^ 32) where
    mutual
      of_term : (s : Scope) (k : ℕ) (t : Term) → ReadableTerm c.names t → k + count_term c s t ≤ n
          → AllOf Fits (in_term c s t) → core-readable.ReadableTerm all (lift_term c s k t)
          × Made k (in_term c s t) (core-size.term_size (lift_term c s k t)) (term_size t)
      of_term s k (tree.Name x at) h l f = (front IsName x h, made_none k 1)
      of_term s k (tree.Con x at) h l f = (front IsConstructor x h, made_none k 1)
      of_term s k (tree.Int x at) h l f = (h, made_none k 1)
      of_term s k (tree.Bracket head args at) h l f =
          let fits = both_of Fits (in_term c s head) (in_terms c s args) f in
          let sum : count_term c s (tree.Bracket head args at) ≡ count_term c s head + count_terms c
          s args = length-append (in_term c s head) (in_terms c s args) in
          let v = of_term s k head h.0 (omega (arith, l, sum)) fits.0 in
          let w = of_terms s (k + count_term c s head) args h.1 (omega (arith, l, sum)) fits.1 in (
            (v.0, w.0),
            made_both k (k + count_term c s head) (in_term c s head) (in_terms c s args)
                _ _ _ _ refl v.1 w.1,
          )
      of_term s k (tree.Lambda params body at) h l f =
          let w = of_expr (within c params s) (suc k) body h.2 (omega (arith, l)) f.1 in (
            (
              new_named small k (omega (arith, l)),
              arguments_named at (free c s params body)
                  (free_named s params body h.2),
            ),
            abstraction_made small s k params body at
                (omega (arith, l)) h.0 h.1 h.2 f.0 w.0 w.1,
          )

      of_terms : (s : Scope) (k : ℕ) (ts : Terms) → ReadableTerms c.names ts
          → k + count_terms c s ts ≤ n → AllOf Fits (in_terms c s ts)
          → core-readable.ReadableTerms all (lift_terms c s k ts)
          × Made k (in_terms c s ts) (core-size.terms_size (lift_terms c s k ts)) (terms_size ts)
      of_terms s k NoTerms h l f = (tt, made_none k 0)
      of_terms s k (AndTerm a xs) h l f =
          let fits = both_of Fits (in_term c s a) (in_terms c s xs) f in
          let sum : count_terms c s (AndTerm a xs) ≡ count_term c s a + count_terms c s xs
          = length-append (in_term c s a) (in_terms c s xs) in
          let v = of_term s k a h.0 (omega (arith, l, sum)) fits.0 in
          let w = of_terms s (k + count_term c s a) xs h.1 (omega (arith, l, sum)) fits.1 in (
            (v.0, w.0),
            made_both k (k + count_term c s a) (in_term c s a) (in_terms c s xs) _ _ _ _
                refl v.1 w.1,
          )

      of_group : (s : Scope) (k : ℕ) (g : Group) → ReadableGroup c.names g
          → k + count_group c s g ≤ n → AllOf Fits (in_group c s g)
          → All (core-readable.ReadableBind all) (lift_group c s k g)
          × Made k (in_group c s g) (sum_by core-size.bind_size (lift_group c s k g))
          (group_size g)
      of_group s k NoBinds h l f = (All-nil (core-readable.ReadableBind all), made_none k 0)
      of_group s k (AndValue b head args rest) h l f =
          let fits = both_of Fits (in_term c s head) (in_terms c s args ++ in_group c s rest) f in
          let fits' = both_of Fits (in_terms c s args) (in_group c s rest) fits.1 in
          let j : ℕ = k + count_term c s head in
          let i : ℕ = k + (count_term c s head + count_terms c s args) in
          let sum : count_group c s (AndValue b head args rest) ≡ count_term c s head +
          (count_terms c s args + count_group c s rest) =
          length-append (in_term c s head) (in_terms c s args ++ in_group c s rest) ∙ ap
          (λ m. count_term c s head + m) (length-append (in_terms c s args) (in_group c s rest))
          in
          let u = of_term s k head h.1 (omega (arith, l, sum)) fits.0 in
          let v = of_terms s j args h.2 (omega (arith, l, sum)) fits'.0 in
          let w = of_group s i rest h.3 (omega (arith, l, sum)) fits'.1 in
          let member : core.Bind = record {
            binder = b;
            app = record
                { head = lift_term c s k head; args = lift_terms c s j args };
          } in
          let sums = sum_by-cons core-size.bind_size member (lift_group c s i rest) in
          let made = made_both k j (in_term c s head) (in_terms c s args ++ in_group c s rest) _ _ _
          _ refl u.1
          (made_both j i (in_terms c s args) (in_group c s rest) _ _ _ _ (omega arith) v.1 w.1)
          in (
            All-cons (core-readable.ReadableBind all) member (lift_group c s i rest)
                (front IsName b.name.0 h.0, (u.0, v.0)) w.0,
            made_more k _ _ _ _ _ (omega (arith, sums)) (omega arith) made,
          )
      of_group s k (AndFunction b params body rest) h l f =
          let inner : Scope = within c params s in
          let i : ℕ = k + suc (count c inner body) in
          let fits = both_of Fits (in_expr c inner body) (in_group c s rest) f.1 in
          let sum : count_group c s (AndFunction b params body rest) ≡ suc
          (count c inner body + count_group c s rest)
          = ap suc (length-append (in_expr c inner body) (in_group c s rest)) in
          let v = of_expr inner (suc k) body h.3 (omega (arith, l, sum)) fits.0 in
          let w = of_group s i rest h.4 (omega (arith, l, sum)) fits.1 in
          let own = abstraction_made small s k params body b.at (omega (arith, l, sum)) h.1 h.2 h.3
          f.0 v.0 v.1 in
          let made = made_both k i
          (record { scope = s; params = params; body = body; at = b.at } ∷ in_expr c inner body)
          (in_group c s rest) _ _ _ _ (omega arith) own w.1 in
          let member : core.Bind = record { binder = b; app = applied c s k params body b.at } in
          let sums = sum_by-cons core-size.bind_size member (lift_group c s i rest) in (
            All-cons (core-readable.ReadableBind all) member (lift_group c s i rest) (
              front IsName b.name.0 h.0,
              (
                new_named small k (omega (arith, l, sum)),
                arguments_named b.at (free c s params body) (free_named s params body h.3),
              ),
            ) w.0,
            made_more k _ _ _ _ _ (omega (arith, sums)) (omega arith) made,
          )

      of_expr : (s : Scope) (k : ℕ) (e : Expr) → ReadableExpr c.names e → k + count c s e ≤ n
          → AllOf Fits (in_expr c s e) → core-readable.ReadableExpr all (lift c s k e)
          × Made k (in_expr c s e) (core-size.expr_size (lift c s k e)) (expr_size e)
      of_expr s k (App head args) h l f =
          let fits = both_of Fits (in_term c s head) (in_terms c s args) f in
          let sum : count c s (App head args) ≡ count_term c s head + count_terms c s args
          = length-append (in_term c s head) (in_terms c s args) in
          let v = of_term s k head h.0 (omega (arith, l, sum)) fits.0 in
          let w = of_terms s (k + count_term c s head) args h.1 (omega (arith, l, sum)) fits.1 in (
            (v.0, w.0),
            made_both k (k + count_term c s head) (in_term c s head) (in_terms c s args)
                _ _ _ _ refl v.1 w.1,
          )
      of_expr s k (Let group body) h l f =
          let inner : Scope = within c (binders_of group) s in
          let fits = both_of Fits (in_group c inner group) (in_expr c inner body) f in
          let sum : count c s (Let group body) ≡ count_group c inner group + count c inner body
          = length-append (in_group c inner group) (in_expr c inner body) in
          let v = of_group inner k group h.1 (omega (arith, l, sum)) fits.0 in
          let w = of_expr inner (k + count_group c inner group) body h.2 (omega (arith, l, sum))
          fits.1 in (
            (group_some inner k group h.0, v.0, w.0),
            made_both k (k + count_group c inner group) (in_group c inner group)
                (in_expr c inner body) _ _ _ _ refl v.1 w.1,
          )
      of_expr s k (Case tested alts) h l f =
          let fits = both_of Fits (in_expr c s tested) (in_alts c s alts) f in
          let sum : count c s (Case tested alts) ≡ count c s tested + length (in_alts c s alts)
          = length-append (in_expr c s tested) (in_alts c s alts) in
          let v = of_expr s k tested h.1 (omega (arith, l, sum)) fits.0 in
          let w = of_alts s (k + count c s tested) alts h.2 (omega (arith, l, sum)) fits.1 in (
            (alts_some s (k + count c s tested) alts h.0, v.0, w.0),
            made_both k (k + count c s tested) (in_expr c s tested) (in_alts c s alts) _ _ _ _
                refl v.1 w.1,
          )

      of_alts : (s : Scope) (k : ℕ) (xs : Alts) → ReadableAlts c.names xs
          → k + length (in_alts c s xs) ≤ n → AllOf Fits (in_alts c s xs)
          → core-readable.ReadableAlts all (lift_alts c s k xs)
          × Made k (in_alts c s xs) (core-size.alts_size (lift_alts c s k xs)) (alts_size xs)
      of_alts s k NoAlts h l f = (tt, made_none k 0)
      of_alts s k (AndAlt p body rest) h l f =
          let inner : Scope = within c (bound_by p) s in
          let fits = both_of Fits (in_expr c inner body) (in_alts c s rest) f in
          let sum : length (in_alts c s (AndAlt p body rest)) ≡ count c inner body + length
          (in_alts c s rest) = length-append (in_expr c inner body) (in_alts c s rest) in
          let v = of_expr inner k body h.1 (omega (arith, l, sum)) fits.0 in
          let w = of_alts s (k + count c inner body) rest h.2 (omega (arith, l, sum)) fits.1 in
          let made = made_both k (k + count c inner body) (in_expr c inner body) (in_alts c s rest)
          _ _ _ _ refl v.1 w.1 in
          ((pattern_front p h.0, v.0, w.0), made_more k _ _ _ _ _ (omega arith) (omega arith) made)

    of_functions : (k : ℕ) (fs : List Function) → All (ReadableFunction c.names) fs
        → k + length (in_functions c fs) ≤ n → AllOf Fits (in_functions c fs)
        → All FunctionFits (lifted_bodies c k fs) × Made k (in_functions c fs)
        (sum_by core-size.function_size (lifted_bodies c k fs)) (sum_by function_size fs)
    of_functions k [] h l f = (All-nil FunctionFits, made_none k 0)
    of_functions k (g ∷ fs) h l f =
        let inner : Scope = within c g.params [] in
        let own = All-head (ReadableFunction c.names) g fs h in
        let fits = both_of Fits (in_expr c inner g.body) (in_functions c fs) f in
        let sum : length (in_functions c (g ∷ fs)) ≡ count c inner g.body + length
        (in_functions c fs) = length-append (in_expr c inner g.body) (in_functions c fs) in
        let v = of_expr inner k g.body own.2 (omega (arith, l, sum)) fits.0 in
        let w = of_functions (k + count c inner g.body) fs
        (All-tail (ReadableFunction c.names) g fs h) (omega (arith, l, sum)) fits.1 in
        let made = made_both k (k + count c inner g.body) (in_expr c inner g.body)
        (in_functions c fs) _ _ _ _ refl v.1 w.1 in
        let new : core.Function = record
        { name = g.name; at = g.at; params = g.params; body = lift c inner k g.body } in
        let rest : List core.Function = lifted_bodies c (k + count c inner g.body) fs in
        let sums = sum_by-cons core-size.function_size new rest in
        let sums' = sum_by-cons function_size g fs in (
          All-cons FunctionFits new rest
              (front IsName g.name own.0, binders_front g.params own.1, v.0) w.0,
          made_more k _ _ _ _ _ (omega (arith, sums, sums')) (omega (arith, sums')) made,
        )

-- ---- the program

mutual
  few_terms : (c : Program) (s : Scope) (names : List (List ℕ)) (ts : Terms)
      → ReadableTerms names ts → count_terms c s ts ≤ terms_size ts
  few_terms c s names NoTerms h = omega arith
  few_terms c s names (AndTerm a xs) h = let e = length-append (in_term c s a) (in_terms c s xs)
      in omega (arith, e, few_term c s names a h.0, few_terms c s names xs h.1)

  few_term : (c : Program) (s : Scope) (names : List (List ℕ)) (t : Term) → ReadableTerm names t
      → count_term c s t ≤ term_size t
  few_term c s names (tree.Name x at) h = omega arith
  few_term c s names (tree.Con x at) h = omega arith
  few_term c s names (tree.Int x at) h = omega arith
  few_term c s names (tree.Bracket head args at) h = let e
      = length-append (in_term c s head) (in_terms c s args)
      in omega (arith, e, few_term c s names head h.0, few_terms c s names args h.1)
  few_term c s names (tree.Lambda params body at) h
      = omega (arith, some_length params h.0, few c (within c params s) names body h.2)

  few_group : (c : Program) (s : Scope) (names : List (List ℕ)) (g : Group) → ReadableGroup names g
      → count_group c s g ≤ group_size g
  few_group c s names NoBinds h = omega arith
  few_group c s names (AndValue b head args rest) h =
      let e = length-append (in_term c s head) (in_terms c s args ++ in_group c s rest) in
      let d = length-append (in_terms c s args) (in_group c s rest) in
      omega (
        arith,
        e,
        d,
        few_term c s names head h.1,
        few_terms c s names args h.2,
        few_group c s names rest h.3,
      )
  few_group c s names (AndFunction b params body rest) h =
      let e = length-append (in_expr c (within c params s) body) (in_group c s rest) in
      omega (arith, e, few c (within c params s) names body h.3, few_group c s names rest h.4)

  few : (c : Program) (s : Scope) (names : List (List ℕ)) (e : Expr) → ReadableExpr names e
      → count c s e ≤ expr_size e
  few c s names (App head args) h = let e = length-append (in_term c s head) (in_terms c s args)
      in omega (arith, e, few_term c s names head h.0, few_terms c s names args h.1)
  few c s names (Let group body) h =
      let inner : Scope = within c (binders_of group) s in
      let e = length-append (in_group c inner group) (in_expr c inner body) in
      omega (arith, e, few_group c inner names group h.1, few c inner names body h.2)
  few c s names (Case tested alts) h = let e = length-append (in_expr c s tested) (in_alts c s alts)
      in omega (arith, e, few c s names tested h.1, few_alts c s names alts h.2)

  few_alts : (c : Program) (s : Scope) (names : List (List ℕ)) (xs : Alts) → ReadableAlts names xs
      → length (in_alts c s xs) ≤ alts_size xs
  few_alts c s names NoAlts h = omega arith
  few_alts c s names (AndAlt p body rest) h =
      let inner : Scope = within c (bound_by p) s in
      let e = length-append (in_expr c inner body) (in_alts c s rest) in
      omega (arith, e, few c inner names body h.1, few_alts c s names rest h.2)

few_functions : (c : Program) (names : List (List ℕ)) (fs : List Function)
    → All (ReadableFunction names) fs → length (in_functions c fs) ≤ sum_by function_size fs
few_functions c names [] h = omega arith
few_functions c names (f ∷ fs) h =
    let own = All-head (ReadableFunction names) f fs h in
    let e = length-append (in_expr c (within c f.params []) f.body) (in_functions c fs) in
    omega (
      arith,
      e,
      sum_by-cons function_size f fs,
      few c (within c f.params []) names f.body own.2,
      few_functions c names fs (All-tail (ReadableFunction names) f fs h),
    )

pub few_abstractions : (c : Program) → IsReadable c → length (abstractions c) ≤ 1048576
few_abstractions c h = omega (arith, few_functions c c.names c.functions h.functions, h.size)

pub lifted_readable : (c : Program) → IsReadable c → HasNoLiftedName c
    → AllOf (λ a. length (free c a.scope a.params a.body) + length a.params ≤ 12) (abstractions c)
    → core-readable.IsReadable (lifted c)
lifted_readable c h unreserved fits =
    let n : ℕ = length (abstractions c) in
    let few = few_abstractions c h in
    let small : n ≤ 2 ^ 32 = omega arith in
    let w = of_functions c n small 0 c.functions h.functions (omega arith) fits in
    let more : List (List ℕ) = lifted_names 0 n in
    let sums = sum_by-append core-size.function_size (lifted_bodies c 0 c.functions)
    (lifted_functions c 0 (abstractions c)) in
    record {
      different = all_different c.names n small h.different unreserved;
      constructors = All-weaker (ReadableData c.names) (ReadableData (c.names ++ more))
          (λ d g. (front c n IsConstructor d.name g.0, g.1)) c.constructors h.constructors;
      functions = All-append (FunctionFits c n) (lifted_bodies c 0 c.functions)
          (lifted_functions c 0 (abstractions c)) w.0 w.1.functions;
      size = omega (arith, sums, w.1.small, h.size);
    }
