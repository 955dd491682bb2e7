-- The functions of the lifted program: the text's own, and then the lifted ones.
use Rattle.std.proofs.Common.{◌≡◌, ℕ, zero, suc, ◌+◌, ◌≤◌, ◌<◌, Bool, true, false, cond, nat_eq, List, [], ◌∷◌, ◌++◌, map, length, Option, Some, None, slice_get, codes, refl, sym, ap, ◌∙◌, subst, arith, length-append}
use Rattle.std.specs.Prelude.{decimal}
use Rattle.std.specs.Str.{bytes_eq}
use Rattle.seq.specs.Lists.{AllOf}
use Rattle.seq.proofs.Lists.{get_right, get_within, length_map, some_is, none_is_some}
use Rattle.seq.proofs.Order.{eq_self, eq_false}
use Rattle.core_reader.specs.Tree as core
use Rattle.lambda_reader.specs.Tree.{Term, Terms, NoTerms, AndTerm, Group, NoBinds, AndValue, AndFunction, Expr, App, Let, Case, Alts, NoAlts, AndAlt, Function, Program}
use Rattle.lambda_reader.specs.Tree as tree
use Rattle.lambda_reader.specs.Grammar.{HasParameter}
use Rattle.arity_check.specs.declared.meaning.Meaning.{Meaning}
use Rattle.arity_check.specs.declared.meaning.Meaning.TheVariants.{Local, Primitive, Unbound}
use Rattle.arity_check.specs.declared.meaning.Meaning.TheVariants as stands
use Rattle.arity_check.specs.declared.normal.PrimOp.{PrimOp}
use Rattle.arity_check.specs.Scope as scope
use Rattle.arity_check.specs.Scope.{Scope, is_named, primitives, primitive_from, unless_primitive, function_from, found_in}
use Rattle.lambda_lift.specs.Headers.{bound_by, binders_of, function_header, program_headers, within}
use Rattle.lambda_lift.specs.Free.{free}
use Rattle.lambda_lift.specs.Abstractions as inside
use Rattle.lambda_lift.specs.Abstractions.{Abstraction, in_term, in_terms, in_expr, in_alts, in_functions, abstractions, count}
use Rattle.lambda_lift.specs.Lifted.{lifted_name, lifted_names, parameters, lift, lifted_function, lifted_functions, lifted_bodies, lifted}
use Rattle.lambda_lift.proofs.Fits.{Fits, FitsTerm, FitsTerms, FitsGroup, FitsAlts}
use Rattle.lambda_lift.proofs.Matching.{HasTop, Same, SameFunction, SameNothing, AgreeBelow}
use Rattle.lambda_lift.proofs.Standing.{Located, located_left, located_right}
use Rattle.lambda_lift.proofs.Texts.{FunctionFits, ProgramFits}

get_front : {X : Type 0} (xs ys : List X) (i : ℕ) → i < length xs
    → slice_get (xs ++ ys) i ≡ slice_get xs i
get_front [] ys i lt = absurd (omega (arith, lt))
get_front (x ∷ xs) ys zero lt = refl
get_front (x ∷ xs) ys (suc i) lt = get_front xs ys i (omega (arith, lt))

-- ---- each lambda and each local function has a parameter

abbrev pub HasSome : List Abstraction → Type 0
HasSome xs = AllOf (λ a. HasParameter a.params) xs

some_both : (xs ys : List Abstraction) → HasSome xs → HasSome ys → HasSome (xs ++ ys)
some_both [] ys h k = k
some_both (x ∷ xs) ys h k = (h.0, some_both xs ys h.1 k)

module _ (c : Program) (N : ℕ) where
  mutual
    some_term : (s : Scope) (V : ℕ → Type 0) (a : Term) → FitsTerm N V a → HasSome (in_term c s a)
    some_term s V (tree.Name x at) f = tt
    some_term s V (tree.Con d at) f = tt
    some_term s V (tree.Int k at) f = tt
    some_term s V (tree.Bracket head args at) f = some_both (in_term c s head) (in_terms c s args)
        (some_term s V head f.0) (some_terms s V args f.1)
    some_term s V (tree.Lambda params body at) f = (f.0, some_expr (within c params s) _ body f.2)

    some_terms : (s : Scope) (V : ℕ → Type 0) (xs : Terms) → FitsTerms N V xs
        → HasSome (in_terms c s xs)
    some_terms s V NoTerms f = tt
    some_terms s V (AndTerm a xs) f = some_both (in_term c s a) (in_terms c s xs)
        (some_term s V a f.0) (some_terms s V xs f.1)

    some_group : (s : Scope) (V : ℕ → Type 0) (g : Group) → FitsGroup N V g
        → HasSome (inside.in_group c s g)
    some_group s V NoBinds f = tt
    some_group s V (AndValue b head args rest) f =
        some_both (in_term c s head) (in_terms c s args ++ inside.in_group c s rest)
        (some_term s V head f.0)
        (some_both (in_terms c s args) (inside.in_group c s rest) (some_terms s V args f.1)
        (some_group s V rest f.2))
    some_group s V (AndFunction b params body rest) f = (
      f.0,
      some_both (in_expr c (within c params s) body) (inside.in_group c s rest)
          (some_expr (within c params s) _ body f.2) (some_group s V rest f.3),
    )

    some_expr : (s : Scope) (V : ℕ → Type 0) (e : Expr) → Fits N V e → HasSome (in_expr c s e)
    some_expr s V (App head args) f = some_both (in_term c s head) (in_terms c s args)
        (some_term s V head f.0) (some_terms s V args f.1)
    some_expr s V (Let group body) f =
        let s' = within c (binders_of group) s in
        some_both (inside.in_group c s' group) (in_expr c s' body) (some_group s' _ group f.1)
        (some_expr s' _ body f.2)
    some_expr s V (Case tested alts) f = some_both (in_expr c s tested) (in_alts c s alts)
        (some_expr s V tested f.0) (some_alts s V alts f.1)

    some_alts : (s : Scope) (V : ℕ → Type 0) (xs : Alts) → FitsAlts N V xs
        → HasSome (in_alts c s xs)
    some_alts s V NoAlts f = tt
    some_alts s V (AndAlt p body rest) f =
        some_both (in_expr c (within c (bound_by p) s) body) (in_alts c s rest)
        (some_expr (within c (bound_by p) s) _ body f.1) (some_alts s V rest f.2)

  pub some_functions : (fs : List Function) → AllOf (FunctionFits N) fs
      → HasSome (in_functions c fs)
  some_functions [] h = tt
  some_functions (f ∷ fs) h = some_both (in_expr c (within c f.params []) f.body)
      (in_functions c fs) (some_expr (within c f.params []) _ f.body h.0.body)
      (some_functions fs h.1)

-- ---- the names of lifted functions

lifted_name_at : (k n i : ℕ) → i < n → slice_get (lifted_names k n) i ≡ Some
    (codes "lift'" ++ decimal (k + i))
lifted_name_at k zero i lt = absurd (omega (arith, lt))
lifted_name_at k (suc n) zero lt = let e : k ≡ k + 0 = omega arith
    in ap (λ j. Some (codes "lift'" ++ decimal j)) e
lifted_name_at k (suc n) (suc i) lt = let e : suc k + i ≡ k + suc i = omega arith
    in lifted_name_at (suc k) n i (omega (arith, lt)) ∙ ap (λ j. Some (codes "lift'" ++ decimal j))
    e

pub named_as : (q : core.Program) (x : ℕ) (text bytes : List ℕ) → slice_get q.names x ≡ Some text
    → is_named q bytes x ≡ bytes_eq text bytes
named_as q x text bytes e = ap
    (λ (o : Option (List ℕ)). elim o [ Some b ↦ bytes_eq b bytes | None ↦ false ]) e

no_primitive : (q : core.Program) (x : ℕ) (text : List ℕ) → slice_get q.names x ≡ Some text
    → (qs : List (List ℕ × PrimOp)) → AllOf (λ a. bytes_eq text a.0 ≡ false) qs
    → primitive_from q qs x ≡ Unbound
no_primitive q x text e [] h = refl
no_primitive q x text e (a ∷ qs) h = ap (λ b. cond b (Primitive a.1) (primitive_from q qs x))
    (named_as q x text a.0 e ∙ h.0) ∙ no_primitive q x text e qs h.1

-- no word of Core begins so
no_word : (rest : List ℕ) → AllOf
    (λ (a : List ℕ × PrimOp). bytes_eq (codes "lift'" ++ rest) a.0 ≡ false) primitives
no_word rest = (refl, (refl, (refl, (refl, (refl, (refl, (refl, tt)))))))

module _ (c : Program) (fits : ProgramFits c) where
  pub bodies_long : (k : ℕ) (fs : List Function) → length (lifted_bodies c k fs) ≡ length fs
  bodies_long k [] = refl
  bodies_long k (f ∷ fs) = ap suc (bodies_long (k + count c (within c f.params []) f.body) fs)

  pub lifted_long : (k : ℕ) (as' : List Abstraction)
      → length (lifted_functions c k as') ≡ length as'
  lifted_long k [] = refl
  lifted_long k (a ∷ as') = ap suc (lifted_long (suc k) as')

  pub lifted_at : (as' : List Abstraction) (n k : ℕ) (a : Abstraction) → slice_get as' k ≡ Some a
      → slice_get (lifted_functions c n as') k ≡ Some (lifted_function c (n + k) a)
  lifted_at [] n k a e = none_is_some e
  lifted_at (b ∷ as') n zero a e = let z : n ≡ n + 0 = omega arith
      in (λ i. Some (lifted_function c (z i) (some_is e i)))
  lifted_at (b ∷ as') n (suc k) a e = let z : suc n + k ≡ n + suc k = omega arith
      in lifted_at as' (suc n) k a e ∙ ap (λ j. Some (lifted_function c j a)) z

  pub lambdas : (k : ℕ) (a : Abstraction) → slice_get (abstractions c) k ≡ Some a
      → slice_get (lifted c).functions (length c.functions + k) ≡ Some (lifted_function c k a)
  lambdas k a e =
      let z : 0 + k ≡ k = omega arith in
      let r = get_right (lifted_bodies c 0 c.functions) (lifted_functions c 0 (abstractions c)) k _
      (lifted_at (abstractions c) 0 k a e ∙ ap (λ j. Some (lifted_function c j a)) z) in
      subst (λ n. slice_get (lifted c).functions (n + k) ≡ Some (lifted_function c k a))
      (bodies_long 0 c.functions) r

  -- ---- a text's function

  pub record BodyAt (k i : ℕ) (fs : List Function) (f : Function) : Type 0 where
    pub number : ℕ
    pub is : slice_get (lifted_bodies c k fs) i ≡ Some
        (record {
          name = f.name;
          at = f.at;
          params = f.params;
          body
              = lift c (within c f.params []) number f.body;
        })
    pub located : Located (abstractions c) (in_expr c (within c f.params []) f.body) number

  pub body_at : (fs : List Function) (k i : ℕ) (f : Function)
      → Located (abstractions c) (in_functions c fs) k → slice_get fs i ≡ Some f → BodyAt k i fs f
  body_at [] k i f l e = none_is_some e
  body_at (g ∷ fs) k zero f l e =
      let s : g ≡ f = some_is e in
      subst (λ f. BodyAt k zero (g ∷ fs) f) s
      (record {
        number = k;
        is = refl;
        located = located_left _
            (in_expr c (within c g.params []) g.body) (in_functions c fs) k l;
      })
  body_at (g ∷ fs) k (suc i) f l e =
      let r = body_at fs (k + count c (within c g.params []) g.body) i f
      (located_right _ (in_expr c (within c g.params []) g.body) (in_functions c fs) k l) e in
      record { number = r.number; is = r.is; located = r.located }

  -- ---- what names stand for

  pub agree_named : (bytes : List ℕ) (x : ℕ) → x < length c.names
      → is_named (lifted c) bytes x ≡ is_named (program_headers c) bytes x
  agree_named bytes x lt = ap
      (λ (o : Option (List ℕ)). elim o [ Some b ↦ bytes_eq b bytes | None ↦ false ])
      (get_front c.names (lifted_names 0 (length (abstractions c))) x lt)

  no_lifted : (as' : List Abstraction) (k f x : ℕ) → x < length c.names
      → function_from (lifted c) (lifted_functions c k as') f x ≡ Unbound
  no_lifted [] k f x lt = refl
  no_lifted (a ∷ as') k f x lt =
      ap (λ b. cond b (stands.Function f (length (lifted_function c k a).params))
      (function_from (lifted c) (lifted_functions c (suc k) as') (f + 1) x))
      (eq_false (lifted_name c k) x (λ e. omega (arith, e, lt))) ∙ no_lifted as' (suc k) (f + 1)
      x lt

  from_bodies : (fs : List Function) (k f x : ℕ) (more : List core.Function)
      → function_from (lifted c) more (f + length fs) x ≡ Unbound
      → function_from (lifted c) (lifted_bodies c k fs ++ more) f x ≡ function_from
      (program_headers c) (map function_header fs) f x
  from_bodies [] k f x more e = let z : f ≡ f + 0 = omega arith
      in ap (λ j. function_from (lifted c) more j x) z ∙ e
  from_bodies (g ∷ fs) k f x more e =
      let z : f + suc (length fs) ≡ f + 1 + length fs = omega arith in
      ap (λ m. cond (nat_eq g.name x) (stands.Function f (length g.params)) m)
      (from_bodies fs (k + count c (within c g.params []) g.body) (f + 1) x more
      (ap (λ j. function_from (lifted c) more j x) (sym z) ∙ e))

  pub agree : AgreeBelow (lifted c) (program_headers c) (length c.names)
  agree = record {
    named = agree_named;
    functions = λ x lt. from_bodies c.functions 0 0 x (lifted_functions c 0 (abstractions c))
        (no_lifted (abstractions c) 0 (0 + length c.functions) x lt);
  }

  pub found : (Good : ℕ → ℕ → Type 0) (x : ℕ) → Same c Good
      (function_from (program_headers c) (program_headers c).functions 0 x)
      (function_from (program_headers c) (program_headers c).functions 0 x)
  found Good x = by c.functions 0
      (λ i f e. let z : i ≡ 0 + i = omega arith in subst (λ j. slice_get c.functions j ≡ Some f) z
      e)
    where
      test : (b : Bool) (f k : ℕ) (m : Meaning) → HasTop c f k → Same c Good m m
          → Same c Good (cond b (stands.Function f k) m) (cond b (stands.Function f k) m)
      test true f k m h r = SameFunction h
      test false f k m h r = r

      by : (fs : List Function) (f : ℕ) →
          ((i : ℕ) (g : Function) → slice_get fs i ≡ Some g
          → slice_get c.functions (f + i) ≡ Some g)
          → Same c Good (function_from (program_headers c) (map function_header fs) f x)
          (function_from (program_headers c) (map function_header fs) f x)
      by [] f at = SameNothing
      by (g ∷ fs) f at =
          let z : f + 0 ≡ f = omega arith in
          test (nat_eq g.name x) f (length g.params) _
          (record {
            function = g;
            is = subst (λ j. slice_get c.functions j ≡ Some g) z
                (at 0 g refl);
            params = refl;
          })
          (by fs (f + 1)
          (λ i h e. let w : f + suc i ≡ f + 1 + i = omega arith
          in subst (λ j. slice_get c.functions j ≡ Some h) w (at (suc i) h e)))

  -- ---- the name of a lifted function stands for it

  past_bodies : (fs : List Function) (k f x : ℕ) (more : List core.Function)
      → AllOf (FunctionFits (length c.names)) fs → length c.names ≤ x
      → function_from (lifted c) (lifted_bodies c k fs ++ more) f x ≡ function_from (lifted c) more
      (f + length fs) x
  past_bodies [] k f x more h le = let z : f ≡ f + 0 = omega arith
      in ap (λ j. function_from (lifted c) more j x) z
  past_bodies (g ∷ fs) k f x more h le =
      let z : f + 1 + length fs ≡ f + suc (length fs) = omega arith in
      ap (λ b. cond b (stands.Function f (length g.params))
      (function_from (lifted c)
      (lifted_bodies c (k + count c (within c g.params []) g.body) fs ++ more) (f + 1) x))
      (eq_false g.name x (λ e. let n = h.0.name in omega (arith, e, le, n)))
      ∙ past_bodies fs (k + count c (within c g.params []) g.body) (f + 1) x more h.1 le ∙ ap
      (λ j. function_from (lifted c) more j x) z

  lifted_from : (as' : List Abstraction) (n f k x : ℕ) (a : Abstraction) → slice_get as' k ≡ Some a
      → x ≡ lifted_name c (n + k) → function_from (lifted c) (lifted_functions c n as') f x ≡
      stands.Function (f + k) (length (lifted_function c (n + k) a).params)
  lifted_from [] n f k x a e ex = none_is_some e
  lifted_from (b ∷ as') n f zero x a e ex =
      let z : f ≡ f + 0 = omega arith in
      let same : lifted_name c n ≡ x = omega (arith, ex) in
      ap (λ t. cond t (stands.Function f (length (lifted_function c n b).params))
      (function_from (lifted c) (lifted_functions c (suc n) as') (f + 1) x))
      (ap (λ y. nat_eq (lifted_name c n) y) (sym same) ∙ eq_self (lifted_name c n))
      ∙ (λ i. stands.Function (z i)
      (length (parameters (some_is e i).at
      (free c (some_is e i).scope (some_is e i).params (some_is e i).body)
      ++ (some_is e i).params)))
  lifted_from (b ∷ as') n f (suc k) x a e ex =
      let z : f + 1 + k ≡ f + suc k = omega arith in
      ap (λ t. cond t (stands.Function f (length (lifted_function c n b).params))
      (function_from (lifted c) (lifted_functions c (suc n) as') (f + 1) x))
      (eq_false (lifted_name c n) x (λ i. omega (arith, i, ex)))
      ∙ lifted_from as' (suc n) (f + 1) k x a e (omega (arith, ex)) ∙ ap
      (λ j. stands.Function j
      (length (parameters a.at (free c a.scope a.params a.body) ++ a.params))) z

  past_scope : (t : Scope) (x : ℕ) → AllOf (λ b. b.0 < length c.names) t → length c.names ≤ x
      → found_in (lifted c) t x ≡ function_from (lifted c) (lifted c).functions 0 x
  past_scope [] x h le = refl
  past_scope (b ∷ t) x h le = ap (λ d. cond d (Local b.1) (found_in (lifted c) t x))
      (eq_false b.0 x (λ e. let l = h.0 in omega (arith, e, l, le))) ∙ past_scope t x h.1 le

  pub calls : (t : Scope) → AllOf (λ b. b.0 < length c.names) t → (k : ℕ) (a : Abstraction)
      → slice_get (abstractions c) k ≡ Some a
      → scope.means (lifted c) t (lifted_name c k) ≡ stands.Function (length c.functions + k)
      (length (free c a.scope a.params a.body) + length a.params)
  calls t h k a e =
      let x = lifted_name c k in
      let le : length c.names ≤ x = omega arith in
      let text : List ℕ = codes "lift'" ++ decimal (0 + k) in
      let is : slice_get (lifted c).names x ≡ Some text
      = get_right c.names (lifted_names 0 (length (abstractions c))) k text
      (lifted_name_at 0 (length (abstractions c)) k (get_within (abstractions c) k a e)) in
      let nameless : is_named (lifted c) (codes "_") x ≡ false
      = named_as (lifted c) x text (codes "_") is in
      let prim : primitive_from (lifted c) primitives x ≡ Unbound
      = no_primitive (lifted c) x text is primitives (no_word (decimal (0 + k))) in
      let z : 0 + k ≡ k = omega arith in
      let w : 0 + length c.functions + k ≡ length c.functions + k = omega arith in
      let many : length (parameters a.at (free c a.scope a.params a.body) ++ a.params) ≡ length
      (free c a.scope a.params a.body) + length a.params
      = length-append (parameters a.at (free c a.scope a.params a.body)) a.params ∙ ap
      (λ n. n + length a.params) (length_map _ (free c a.scope a.params a.body)) in
      let there : found_in (lifted c) t x ≡ stands.Function (length c.functions + k)
      (length (free c a.scope a.params a.body) + length a.params) =
      past_scope t x h le ∙ past_bodies c.functions 0 0 x (lifted_functions c 0 (abstractions c))
      fits.functions le
      ∙ lifted_from (abstractions c) 0 (0 + length c.functions) k x a e (ap (lifted_name c) (sym z))
      ∙ (λ i. stands.Function (w i) (many i)) in
      (λ i. cond (nameless i) Unbound (unless_primitive (prim i) (there i)))

  -- no lifted function is `main`
  pub not_main : (as' : List Abstraction) (n : ℕ) → n + length as' ≤ length (abstractions c)
      → AllOf (λ (f : core.Function). is_named (lifted c) (codes "main") f.name ≡ false)
      (lifted_functions c n as')
  not_main [] n le = tt
  not_main (a ∷ as') n le =
      let text : List ℕ = codes "lift'" ++ decimal (0 + n) in
      let is : slice_get (lifted c).names (lifted_name c n) ≡ Some text
      = get_right c.names (lifted_names 0 (length (abstractions c))) n text
      (lifted_name_at 0 (length (abstractions c)) n (omega (arith, le))) in (
        named_as (lifted c) (lifted_name c n) text (codes "main") is,
        not_main as' (suc n) (omega (arith, le)),
      )
