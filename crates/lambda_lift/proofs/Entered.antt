-- Entering a function of the text and the function that stands for it does the same.
use Rattle.std.proofs.Common.{◌≡◌, ℕ, zero, suc, ◌+◌, ◌<◌, Bool, true, false, cond, nat_eq, List, [], ◌∷◌, ◌++◌, map, length, Option, Some, None, slice_get, codes, refl, sym, ap, ◌∙◌, subst, arith, inl, inr, length-append}
use Rattle.std.specs.Prelude.{◌⊎◌}
use Rattle.std.specs.List.{range_with_len}
use Rattle.std.proofs.lemmas.List.FromFn.{length-range_with_len}
use Rattle.seq.specs.Lists.{is_among, AllOf}
use Rattle.seq.proofs.Lists.{length_map, map_append}
use Rattle.seq.proofs.Truth.{not_both, or_cases, neither_left, neither_right}
use Rattle.seq.proofs.Counted.{among_first, among_later}
use Rattle.seq.proofs.Order.{eq_from, eq_true}
use Rattle.core_reader.specs.declared.syntax.Binder.{Binder}
use Rattle.core_reader.specs.Tree as core
use Rattle.lambda_reader.specs.Tree.{Expr, Function, Program}
use Rattle.arity_check.specs.declared.meaning.Meaning.{Meaning}
use Rattle.arity_check.specs.declared.meaning.Meaning.TheVariants.{Local, Primitive, Unbound}
use Rattle.arity_check.specs.declared.meaning.Meaning.TheVariants as stands
use Rattle.arity_check.specs.Program as normal
use Rattle.arity_check.specs.Scope as scope
use Rattle.arity_check.specs.Scope.{Scope, is_named, primitives, primitive_from, unless_primitive, function_from, found_in, binds, binds_all}
use Rattle.arity_check.specs.Normal.{Pairwise, IsNormal, IsFunction}
use Rattle.core_meaning.specs.Forcing.{StateOf, AnswerOf, DelayedEvaluatorOf, NoAlternative}
use Rattle.core_meaning.specs.ByNeed as by_need
use Rattle.core_meaning.specs.Evaluation.{parameters}
use Rattle.core_meaning.specs.WellFormed.{FunOk}
use Rattle.lambda_lift.specs.Headers.{names_of, program_headers, means, within, is_local, stands_for_local}
use Rattle.lambda_lift.specs.Free.{uses, free}
use Rattle.lambda_lift.specs.Abstractions.{Abstraction, in_expr, abstractions}
use Rattle.lambda_lift.specs.Lifted as lifted
use Rattle.lambda_lift.specs.Lifted.{lift, lifted_function}
use Rattle.lambda_lift.specs.Meaning as meaning
use Rattle.lambda_lift.specs.Meaning.{Fun, Top, Closure, with_all, arity}
use Rattle.lambda_lift.proofs.Fits.{Among, And, Below, Fits, used_expr, more, from_expr, filter_among, among_filter, among_first_times, first_times_among}
use Rattle.lambda_lift.proofs.Matching.{HasTop, Same, same_more, SameLocal, SamePrimitive, SameNothing, Sees, sees_all, sees_nothing, means_from}
use Rattle.lambda_lift.proofs.Scopes.{binds_all_alike, free_alike}
use Rattle.lambda_lift.proofs.Standing.{number_in, local_name, fronts, Located, located_first, located_rest, Lifts, Stands, AsTop, AsClosure}
use Rattle.lambda_lift.proofs.Environments.{At, parameters_at, front_at}
use Rattle.lambda_lift.proofs.Evaluated.{Ground, AnswerLike, StateLike, SameOnward, eval_like}

range_split : (a n m : ℕ) → range_with_len a (n + m) ≡ range_with_len a n
    ++ range_with_len (a + n) m
range_split a zero m = let e : 0 + m ≡ m = omega arith in let f : a ≡ a + 0 = omega arith
    in ap (range_with_len a) e ∙ ap (λ z. range_with_len z m) f
range_split a (suc n) m =
    let e : suc n + m ≡ suc (n + m) = omega arith in
    let f : a + 1 + n ≡ a + suc n = omega arith in
    ap (range_with_len a) e ∙ ap (λ xs. a ∷ xs)
    (range_split (a + 1) n m ∙ ap (λ z. range_with_len (a + 1) n ++ range_with_len z m) f)

binds_append : (q : core.Program) (xs ys as' bs : List ℕ) (s : Scope) → length as' ≡ length xs
    → binds_all q (xs ++ ys) (as' ++ bs) s ≡ binds_all q ys bs (binds_all q xs as' s)
binds_append q [] ys [] bs s e = refl
binds_append q [] ys (a ∷ as') bs s e = absurd (omega (arith, e))
binds_append q (x ∷ xs) ys [] bs s e = absurd (omega (arith, e))
binds_append q (x ∷ xs) ys (a ∷ as') bs s e = binds_append q xs ys as' bs (binds q x a s)
    (omega (arith, e))

names_parameters : (at : ℕ) (xs : List ℕ) → names_of (lifted.parameters at xs) ≡ xs
names_parameters at [] = refl
names_parameters at (x ∷ xs) = ap (λ ys. x ∷ ys) (names_parameters at xs)

module _ (c : Program) (p : normal.Program) where
  -- the normal form of a function of the lifted program
  pub record Code (i : ℕ) (f : core.Function) : Type 0 where
    pub function : normal.Function
    pub is : slice_get p.funs i ≡ Some function
    pub related : IsFunction (lifted.lifted c) f function
    pub ok : FunOk p function

  -- a function of the text, and its lambdas
  pub record TopAt (i : ℕ) (f : Function) : Type 0 where
    pub number : ℕ
    pub is : slice_get (lifted.lifted c).functions i ≡ Some
        (record {
          name = f.name;
          at = f.at;
          params = f.params;
          body
              = lift c (within c f.params []) number f.body;
        })
    pub located : Located (abstractions c) (in_expr c (within c f.params []) f.body) number
    pub below : Below (length c.names) (names_of f.params)
    pub fits : Fits (length c.names) (λ x. Unit {0}) f.body

  pub record Bodies : Type 0 where
    pub code : (i : ℕ) (f : core.Function) → slice_get (lifted.lifted c).functions i ≡ Some f
        → Code i f
    pub tops : (i : ℕ) (f : Function) → slice_get c.functions i ≡ Some f → TopAt i f
    pub lambdas : (k : ℕ) (a : Abstraction) → slice_get (abstractions c) k ≡ Some a
        → slice_get (lifted.lifted c).functions (length c.functions + k) ≡ Some
        (lifted_function c k a)
    pub found : (x : ℕ) → Same c (λ y a. ⊥)
        (function_from (program_headers c) (program_headers c).functions 0 x)
        (function_from (program_headers c) (program_headers c).functions 0 x)

  module _ (ground : Ground c p) (bodies : Bodies) where
    -- ---- the parameters of a lifted function that stand for free names

    found_past : (q : core.Program) (xs ys : List ℕ) (s : Scope) (x : ℕ) → is_among x xs ≡ false
        → found_in q (binds_all q xs ys s) x ≡ found_in q s x
    found_past q [] ys s x e = refl
    found_past q (z ∷ xs) [] s x e = refl
    found_past q (z ∷ xs) (y ∷ ys) s x e = found_past q xs ys (binds q z y s) x
        (neither_right (nat_eq x z) (is_among x xs) e) ∙ past (is_named q (codes "_") z)
      where
        other : (b : Bool) → nat_eq z x ≡ b → cond b (Local y) (found_in q s x) ≡ found_in q s x
        other false f = refl
        other true f = absurd
            (not_both (nat_eq x z) (eq_true x z (sym (eq_from z x f)))
            (neither_left (nat_eq x z) (is_among x xs) e))

        past : (b : Bool) → found_in q (cond b s ((z, y) ∷ s)) x ≡ found_in q s x
        past true = refl
        past false = other (nat_eq z x) refl

    record FoundAt (q : core.Program) (Good : ℕ → ℕ → Type 0) (s : Scope) (x a : ℕ) : Type 0 where
      local : ℕ
      is : found_in q s x ≡ Local local
      good : Good local a

    found_bound : (q : core.Program) (Good : ℕ → ℕ → Type 0) (name : ℕ → ℕ) (xs ys : List ℕ)
        (s : Scope) (x : ℕ) → ((z : ℕ) → Among xs z → is_named q (codes "_") z ≡ false)
        → Pairwise Good ys (map name xs) → Among xs x
        → FoundAt q Good (binds_all q xs ys s) x (name x)
    found_bound q Good name [] ys s x n g h = absurd cc
    found_bound q Good name (z ∷ xs) [] s x n g h = absurd g
    found_bound q Good name (z ∷ xs) (y ∷ ys) s x n g h =
        by (is_among x xs) refl
        (found_bound q Good name xs ys (binds q z y s) x (λ w i. n w (among_later w z xs i))
        g.1)
      where
        first : is_among x xs ≡ false → (nat_eq x z ≡ true) ⊎ Among xs x → x ≡ z
        first e (inl f) = eq_from x z f
        first e (inr a) = not_both (is_among x xs) a e

        by : (b : Bool) → is_among x xs ≡ b →
            (Among xs x → FoundAt q Good (binds_all q xs ys (binds q z y s)) x (name x))
            → FoundAt q Good (binds_all q xs ys (binds q z y s)) x (name x)
        by true e later = later e
        by false e later =
            let same : x ≡ z = first e (or_cases (nat_eq x z) (is_among x xs) h) in
            let named : is_named q (codes "_") z ≡ false = n z (among_first z xs) in
            let here : found_in q (binds q z y s) x ≡ Local y =
            ap (λ b. found_in q (cond b s ((z, y) ∷ s)) x) named ∙ ap
            (λ b. cond b (Local y) (found_in q s x)) (eq_true z x (sym same)) in
            record {
              local = y;
              is = found_past q xs ys (binds q z y s) x e ∙ here;
              good
                  = subst (λ w. Good y (name w)) (sym same) g.0;
            }

    -- what stands for a local is found in the environment
    found_cases : (env : Scope) (x : ℕ) → ((a : ℕ) × (found_in (program_headers c) env x ≡ Local a))
        ⊎ (found_in (program_headers c) env x ≡ function_from (program_headers c)
        (program_headers c).functions 0 x)
    found_cases [] x = inr refl
    found_cases (b ∷ env) x = by (nat_eq b.0 x) (found_cases env x)
      where
        by : (t : Bool) → ((a : ℕ) × (found_in (program_headers c) env x ≡ Local a))
            ⊎ (found_in (program_headers c) env x ≡ function_from (program_headers c)
            (program_headers c).functions 0 x)
            → ((a : ℕ) × (cond t (Local b.1) (found_in (program_headers c) env x) ≡ Local a))
            ⊎ (cond t (Local b.1) (found_in (program_headers c) env x) ≡ function_from
            (program_headers c) (program_headers c).functions 0 x)
        by true h = inl (b.1, refl)
        by false h = h

    local_same : (Good : ℕ → ℕ → Type 0) (y : ℕ) (nameless : Bool) (prim m : Meaning)
        → stands_for_local c (cond nameless Unbound (unless_primitive prim m)) ≡ true
        → Good y (number_in (cond nameless Unbound (unless_primitive prim m)))
        → Same c Good (cond nameless Unbound (unless_primitive prim (Local y)))
        (cond nameless Unbound (unless_primitive prim m))
    local_same Good y true prim m e g = absurd cc
    local_same Good y false (Primitive op) m e g = absurd cc
    local_same Good y false (Local z) m e g = is_it m e g
      where
        is_it : (m : Meaning) → stands_for_local c m ≡ true → Good y (number_in m)
            → Same c Good (Local y) m
        is_it (Local a) e g = SameLocal g
        is_it (stands.Function f k) e g = absurd cc
        is_it (Primitive op) e g = absurd cc
        is_it Unbound e g = absurd cc
    local_same Good y false (stands.Function f k) m e g = is_it m e g
      where
        is_it : (m : Meaning) → stands_for_local c m ≡ true → Good y (number_in m)
            → Same c Good (Local y) m
        is_it (Local a) e g = SameLocal g
        is_it (stands.Function f k) e g = absurd cc
        is_it (Primitive op) e g = absurd cc
        is_it Unbound e g = absurd cc
    local_same Good y false Unbound m e g = is_it m e g
      where
        is_it : (m : Meaning) → stands_for_local c m ≡ true → Good y (number_in m)
            → Same c Good (Local y) m
        is_it (Local a) e g = SameLocal g
        is_it (stands.Function f k) e g = absurd cc
        is_it (Primitive op) e g = absurd cc
        is_it Unbound e g = absurd cc

    other_same : (Good : ℕ → ℕ → Type 0) (nameless : Bool) (prim m n : Meaning)
        → stands_for_local c (cond nameless Unbound (unless_primitive prim m)) ≡ false
        → ((a : ℕ) × (m ≡ Local a)) ⊎ (m ≡ n) → Same c Good n n
        → Same c Good (cond nameless Unbound (unless_primitive prim n))
        (cond nameless Unbound (unless_primitive prim m))
    other_same Good true prim m n e h k = SameNothing
    other_same Good false (Primitive op) m n e h k = SamePrimitive
    other_same Good false (Local z) m n e (inl h) k
        = absurd (not_both true refl (sym (ap (stands_for_local c) h.1) ∙ e))
    other_same Good false (Local z) m n e (inr h) k = subst (λ m. Same c Good n m) (sym h) k
    other_same Good false (stands.Function f j) m n e (inl h) k
        = absurd (not_both true refl (sym (ap (stands_for_local c) h.1) ∙ e))
    other_same Good false (stands.Function f j) m n e (inr h) k
        = subst (λ m. Same c Good n m) (sym h) k
    other_same Good false Unbound m n e (inl h) k = absurd
        (not_both true refl (sym (ap (stands_for_local c) h.1) ∙ e))
    other_same Good false Unbound m n e (inr h) k = subst (λ m. Same c Good n m) (sym h) k

    -- the parameters for the free names of a lambda stand for what the names stand for around it
    sees_free : (Good : ℕ → ℕ → Type 0) (params : List Binder) (body : Expr) (env : Scope)
        (ys : List ℕ) → Fits (length c.names) (λ x. Unit {0}) body
        → Below (length c.names) (free c env params body)
        → length ys ≡ length (free c env params body)
        → Pairwise Good ys (fronts c env (free c env params body))
        → Sees c (lifted.lifted c) ground.agree (Among (uses (names_of params) body)) Good
        (binds_all (lifted.lifted c) (free c env params body) ys []) env
    sees_free Good params body env ys fits below long g
        = record { names = here; below = all_below (free c env params body) ys [] below tt }
      where
        q : core.Program
        q = lifted.lifted c

        all_below : (xs ys : List ℕ) (s : Scope) → Below (length c.names) xs
            → AllOf (λ b. b.0 < length c.names) s → AllOf (λ b. b.0 < length c.names)
            (binds_all (lifted.lifted c) xs ys s)
        all_below [] ys s h k = k
        all_below (x ∷ xs) [] s h k = k
        all_below (x ∷ xs) (y ∷ ys) s h k = all_below xs ys (binds (lifted.lifted c) x y s) h.1
            (by (is_named (lifted.lifted c) (codes "_") x))
          where
            by : (b : Bool) → AllOf (λ b. b.0 < length c.names) (cond b s ((x, y) ∷ s))
            by true = k
            by false = (h.0, k)

        -- none of the free names is `_`
        named : (z : ℕ) → Among (free c env params body) z
            → is_named (lifted.lifted c) (codes "_") z ≡ false
        named z a =
            let u = filter_among (is_local c env) z (uses (names_of params) body)
            (first_times_among z _ a) in
            let lt = (from_expr (length c.names) (λ x. Unit {0}) (names_of params) body z fits
            u.0).below in
            ground.agree.named (codes "_") z lt ∙ by (is_named (program_headers c) (codes "_") z)
            refl u.1
          where
            by : (b : Bool) → is_named (program_headers c) (codes "_") z ≡ b
                → stands_for_local c
                (cond b Unbound
                (unless_primitive (primitive_from (program_headers c) primitives z)
                (found_in (program_headers c) env z))) ≡ true → b ≡ false
            by true i h = absurd cc
            by false i h = refl

        here : (x : ℕ) → Among (uses (names_of params) body) x → x < length c.names
            → Same c Good
            (scope.means (lifted.lifted c)
            (binds_all (lifted.lifted c) (free c env params body) ys []) x) (means c env x)
        here x a lt = by (is_local c env x) refl
          where
            both_named : Same c Good
                (cond (is_named (program_headers c) (codes "_") x) Unbound
                (unless_primitive (primitive_from (program_headers c) primitives x)
                (found_in (lifted.lifted c)
                (binds_all (lifted.lifted c) (free c env params body) ys []) x))) (means c env x)
                → Same c Good
                (scope.means (lifted.lifted c)
                (binds_all (lifted.lifted c) (free c env params body) ys []) x) (means c env x)
            both_named h = means_from c (lifted.lifted c) ground.agree Good x lt _ _ h

            by : (b : Bool) → is_local c env x ≡ b → Same c Good
                (scope.means (lifted.lifted c)
                (binds_all (lifted.lifted c) (free c env params body) ys []) x) (means c env x)
            by true e =
                let among = among_first_times x _
                (among_filter (is_local c env) x (uses (names_of params) body) a e) in
                let f = found_bound (lifted.lifted c) Good (local_name c env)
                (free c env params body) ys [] x named g among in
                both_named
                (subst (λ m. Same c Good
                (cond (is_named (program_headers c) (codes "_") x) Unbound
                (unless_primitive (primitive_from (program_headers c) primitives x) m))
                (means c env x)) (sym f.is)
                (local_same Good f.local (is_named (program_headers c) (codes "_") x)
                (primitive_from (program_headers c) primitives x)
                (found_in (program_headers c) env x) e f.good))
            by false e =
                let none : is_among x (free c env params body) ≡ false
                = not_there (is_among x (free c env params body)) refl in
                let f : found_in (lifted.lifted c)
                (binds_all (lifted.lifted c) (free c env params body) ys []) x ≡ function_from
                (program_headers c) (program_headers c).functions 0 x
                = found_past (lifted.lifted c) (free c env params body) ys [] x none ∙
                ground.agree.functions x lt in
                both_named
                (subst (λ m. Same c Good
                (cond (is_named (program_headers c) (codes "_") x) Unbound
                (unless_primitive (primitive_from (program_headers c) primitives x) m))
                (means c env x)) (sym f)
                (other_same Good (is_named (program_headers c) (codes "_") x)
                (primitive_from (program_headers c) primitives x)
                (found_in (program_headers c) env x) _ e (found_cases env x)
                (same_more c (λ y a. ⊥) Good (λ y a h. absurd h) _ _ (bodies.found x))))
              where
                not_there : (b : Bool) → is_among x (free c env params body) ≡ b → b ≡ false
                not_there false i = refl
                not_there true i = absurd
                    (not_both (is_local c env x)
                    (filter_among (is_local c env) x (uses (names_of params) body)
                    (first_times_among x _ i)).1 e)

    module _ (onward : DelayedEvaluatorOf Fun) (onward' : DelayedEvaluatorOf ℕ)
        (on : SameOnward c p ground onward onward') where
      enters_code : {i : ℕ} {f : core.Function} (code : Code i f) (go : AnswerOf Fun) (xs : List ℕ)
          (d : ℕ) (τ : StateOf ℕ) → AnswerLike c p ground go
          (by_need.eval 0 NoAlternative p onward' code.function.body (parameters xs) d τ)
          → AnswerLike c p ground go (by_need.enter 0 NoAlternative p onward' i xs d τ)
      enters_code code go xs d τ h = subst
          (λ o. AnswerLike c p ground go (by_need.enter_body 0 NoAlternative p onward' o xs d τ))
          (sym code.is) h

      top_like : (i k : ℕ) (top : HasTop c i k) (xs : List ℕ) → length xs ≡ k
          → (d : ℕ) (σ : StateOf Fun) (τ : StateOf ℕ) → StateLike c p ground σ τ
          → AnswerLike c p ground (meaning.enter c onward (Top i) xs d σ)
          (by_need.enter 0 NoAlternative p onward' i xs d τ)
      top_like i k top xs n d σ τ st =
          let f = top.function in
          let t = bodies.tops i f top.is in
          let code = bodies.code i _ t.is in
          let names = names_of f.params in
          let q = lifted.lifted c in
          let long : length f.params ≡ length xs = top.params ∙ sym n in
          let named : length names ≡ length xs = length_map _ f.params ∙ long in
          let good = parameters_at [] xs 0 (length xs) refl (omega arith) in
          let ρ = parameters xs in
          let sees0 = sees_nothing c q ground.agree (At ρ (length xs)) (λ x. Unit {0})
          (λ x lt. same_more c (λ y a. ⊥) (At ρ (length xs)) (λ y a h. absurd h) _ _
          (bodies.found x)) in
          let sees = sees_all c q ground.agree (At ρ (length xs)) names
          (range_with_len 0 (length xs)) xs (λ x. Unit {0}) [] [] t.below
          (length-range_with_len 0 (length xs) ∙ sym named) good sees0 in
          let body = subst
          (λ j. IsNormal q (binds_all q names (range_with_len 0 j) []) j
          (lift c (within c f.params []) t.number f.body) code.function.body code.related.after)
          long code.related.body in
          let alike = binds_all_alike c names names xs [] [] refl (sym named) tt in
          subst (λ o. AnswerLike c p ground (meaning.enter_top c onward o xs d σ)
          (by_need.enter 0 NoAlternative p onward' i xs d τ)) (sym top.is)
          (enters_code code _ xs d τ
          (eval_like c p ground onward onward' on f.body (within c f.params []) _
          (with_all c f.params xs []) ρ (And (λ x. Unit {0}) names) t.number (length xs)
          (length xs) code.related.after code.function.body _
          (more (length c.names) _ _ (λ x v. inl v) f.body t.fits) t.located alike sees
          (omega arith) body code.ok d σ τ st))

      closure_like : (s env : Scope) (params : List Binder) (body : Expr) (front : List ℕ) (i k : ℕ)
          → Lifts c s env params body k → front ≡ fronts c env (free c env params body)
          → i ≡ length c.functions + k → (xs : List ℕ) → length xs ≡ length params
          → (d : ℕ) (σ : StateOf Fun) (τ : StateOf ℕ) → StateLike c p ground σ τ
          → AnswerLike c p ground (meaning.enter c onward (Closure params body env) xs d σ)
          (by_need.enter 0 NoAlternative p onward' i (front ++ xs) d τ)
      closure_like s env params body front i k lifts ef ei xs n d σ τ st =
          let q = lifted.lifted c in
          let fs = free c env params body in
          let gs = free c s params body in
          let same : fs ≡ gs = free_alike c s env params body lifts.alike in
          let here = bodies.lambdas k _ (located_first _ _ _ k lifts.located) in
          let code = bodies.code (length c.functions + k) _ here in
          let names = names_of params in
          let many : length front ≡ length fs = ap length ef ∙ length_map _ fs in
          let named : length names ≡ length xs = length_map _ params ∙ sym n in
          let size = length fs + length xs in
          let ρ = parameters (front ++ xs) in
          let all_names : names_of (lifted.parameters lifts.at gs ++ params) ≡ fs ++ names
          = map_append _ (lifted.parameters lifts.at gs) params ∙ ap (λ ys. ys ++ names)
          (names_parameters lifts.at gs ∙ sym same) in
          let all_long : length (lifted.parameters lifts.at gs ++ params) ≡ size
          = length-append (lifted.parameters lifts.at gs) params ∙
          (let a : length (lifted.parameters lifts.at gs) ≡ length gs = length_map _ gs in let b
          = ap length same in omega (arith, a, b, n)) in
          let t0 = binds_all q fs (range_with_len 0 (length fs)) [] in
          let t = binds_all q names (range_with_len (length fs) (length xs)) t0 in
          let lower : length fs ≡ 0 + length fs = omega arith in
          let scope_is : binds_all q (names_of (lifted.parameters lifts.at gs ++ params))
          (range_with_len 0 (length (lifted.parameters lifts.at gs ++ params))) [] ≡ t =
          (λ j. binds_all q (all_names j) (range_with_len 0 (all_long j)) []) ∙ ap
          (λ ys. binds_all q (fs ++ names) ys [])
          (range_split 0 (length fs) (length xs) ∙ ap
          (λ z. range_with_len 0 (length fs) ++ range_with_len z (length xs)) (sym lower))
          ∙ binds_append q fs names (range_with_len 0 (length fs))
          (range_with_len (length fs) (length xs)) [] (length-range_with_len 0 (length fs)) in
          let related = code.related.body in
          let body' : IsNormal q t size (lift c (within c params s) (suc k) body) code.function.body
          code.related.after =
          subst (λ z. IsNormal q z size (lift c (within c params s) (suc k) body) code.function.body
          code.related.after) scope_is
          (subst (λ z. IsNormal q
          (binds_all q (names_of (lifted.parameters lifts.at gs ++ params))
          (range_with_len 0 (length (lifted.parameters lifts.at gs ++ params))) []) z
          (lift c (within c params s) (suc k) body) code.function.body code.related.after)
          all_long related) in
          let first : Pairwise (At ρ size) (range_with_len 0 (length fs)) (fronts c env fs) =
          subst (λ ys. Pairwise (At ρ size) (range_with_len 0 (length fs)) ys) ef
          (front_at front xs size (length fs) many (omega (arith, many))) in
          let sees0 = sees_free (At ρ size) params body env (range_with_len 0 (length fs))
          lifts.fits (free_below params body env lifts.fits)
          (length-range_with_len 0 (length fs)) first in
          let last = parameters_at front xs (length fs) size many refl in
          let sees = sees_all c q ground.agree (At ρ size) names
          (range_with_len (length fs) (length xs)) xs (Among (uses names body)) t0 env
          lifts.below (length-range_with_len (length fs) (length xs) ∙ sym named) last sees0 in
          let alike = binds_all_alike c names names xs s env refl (sym named) lifts.alike in
          subst (λ i. AnswerLike c p ground
          (meaning.enter c onward (Closure params body env) xs d σ)
          (by_need.enter 0 NoAlternative p onward' i (front ++ xs) d τ)) (sym ei)
          (enters_code code _ (front ++ xs) d τ
          (eval_like c p ground onward onward' on body (within c params s) t
          (with_all c params xs env) ρ (And (Among (uses names body)) names) (suc k) size size
          code.related.after code.function.body _
          (used_expr (length c.names) (λ x. Unit {0}) names body lifts.fits)
          (located_rest _ _ _ k lifts.located) alike sees (omega arith) body' code.ok d σ τ st))
        where
          below_all : (N : ℕ) (xs : List ℕ) → ((x : ℕ) → Among xs x → x < N) → Below N xs
          below_all N [] h = tt
          below_all N (x ∷ xs) h =
              (h x (among_first x xs), below_all N xs (λ z a. h z (among_later z x xs a)))

          free_below : (params : List Binder) (body : Expr) (env : Scope)
              → Fits (length c.names) (λ x. Unit {0}) body
              → Below (length c.names) (free c env params body)
          free_below params body env f = below_all (length c.names) (free c env params body) (λ x a.
              (from_expr (length c.names) (λ x. Unit {0}) (names_of params) body x f
              (filter_among (is_local c env) x (uses (names_of params) body)
              (first_times_among x _ a)).0).below)

      pub entered : (f : Fun) (front : List ℕ) (i : ℕ) → Stands c f front i → (xs : List ℕ)
          → length xs ≡ arity c f → (d : ℕ) (σ : StateOf Fun) (τ : StateOf ℕ)
          → StateLike c p ground σ τ
          → AnswerLike c p ground (meaning.enter c onward f xs d σ)
          (by_need.enter 0 NoAlternative p onward' i (front ++ xs) d τ)
      entered f front i (AsTop {k = k} top) xs n d σ τ st
          = top_like i k top xs
          (n ∙ ap (λ (o : Option Function). elim o [ Some g ↦ length g.params | None ↦ 0 ]) top.is ∙
          top.params) d σ τ st
      entered f front i
          (AsClosure {s = s} {env = env} {params = params} {body = body} k lifts ef ei) xs n d σ τ
          st = closure_like s env params body front i k lifts ef ei xs n d σ τ st
