-- The normal form of an application of the lifted program has the same new bindings, and then the
-- same
-- form, as the text's own meaning makes.
use Rattle.std.proofs.Common.{◌≡◌, ℕ, zero, suc, ◌+◌, ◌≤◌, ◌<◌, true, false, List, [], ◌∷◌, ◌++◌, length, inl, inr, Option, Some, None, slice_get, refl, sym, ap, ◌∙◌, subst, arith, length-append}
use Rattle.std.specs.Prelude.{ℤ}
use Rattle.seq.proofs.Lists.{some_is, none_is_some, append_nil, is_empty}
use Rattle.seq.specs.Lists.{is_among}
use Rattle.seq.proofs.Counted.{among_first, among_later}
use Rattle.seq.proofs.Order.{no_zero}
use Rattle.seq.proofs.Truth.{not_both}
use Rattle.core_reader.specs.declared.syntax.Binder.{Binder}
use Rattle.core_reader.specs.Tree as core
use Rattle.lambda_reader.specs.Tree.{Term, Terms, NoTerms, AndTerm, Expr, Program}
use Rattle.lambda_reader.specs.Tree as tree
use Rattle.lambda_reader.specs.Grammar.{HasParameter}
use Rattle.arity_check.specs.declared.normal.Var.{Var}
use Rattle.arity_check.specs.declared.normal.Var.TheVariants as var
use Rattle.arity_check.specs.declared.normal.Bound.{Bound}
use Rattle.arity_check.specs.declared.normal.Flat.TheVariants as flat
use Rattle.arity_check.specs.declared.normal.Flat as normal
use Rattle.arity_check.specs.declared.meaning.Meaning.{Meaning}
use Rattle.arity_check.specs.declared.meaning.Meaning.TheVariants.{Local}
use Rattle.arity_check.specs.declared.meaning.Meaning.TheVariants as stands
use Rattle.arity_check.specs.Standing.{count}
use Rattle.arity_check.specs.Scope as scope
use Rattle.arity_check.specs.Scope.{Scope}
use Rattle.arity_check.specs.Normal as form
use Rattle.arity_check.specs.Normal.{append, bound, HasTerm, IsFlat, Number, Constructor, Named, NumberApplied, BracketApplied, LoneHead, LoneBracket, IsNamed, OfPrimitive, OfLocal, OfGlobal, Called, Partial, Exceeded, AreArgs, NoArgs, AndArg, IsArg, Itself, New}
use Rattle.core_meaning.specs.Heap.{Int, Con, Part, Known}
use Rattle.lambda_lift.specs.Headers.{names_of, means, within, is_local, stands_for_local}
use Rattle.lambda_lift.specs.Free.{uses, free}
use Rattle.lambda_lift.specs.Abstractions.{Abstraction, in_term, in_terms, in_expr, abstractions, count_term}
use Rattle.lambda_lift.specs.Lifted as lifted
use Rattle.lambda_lift.specs.Lifted.{lifted_name, lift_term, lift_terms}
use Rattle.lambda_lift.specs.Meaning.{Fun, Closure, Flat, Arguments, nothing, argument_count, split_arguments, Named as ANamed, named, next, applied, apply_bracket, apply_function, itself_as, itself, number_of, lambda_with, arguments, arity}
use Rattle.lambda_lift.specs.Meaning as meaning
use Rattle.lambda_lift.proofs.Fits.{Among, And, Below, Fits, FitsTerm, FitsTerms, more, from_expr, filter_among, first_times_among}
use Rattle.lambda_lift.proofs.Matching.{Same, SameLocal, SameFunction, SamePrimitive, SameNothing}
use Rattle.lambda_lift.proofs.Scopes.{Alike, free_alike}
use Rattle.lambda_lift.proofs.Standing.{abstraction, number_in, Located, located_left, located_right, located_first, local_name, fronts, Stands, AsClosure}
use Rattle.lambda_lift.proofs.AppliedForms.{count_append, head_of, rest_of, is_some, count_arguments, some_length, is_function, function_in, params_in, NameLike, LocalLike, GlobalLike, NamesLike, FormLike, IntLike, ConLike, PartLike, NewsLike, FlatLike, Placed, as_many_news, news_append, placed_left, placed_right, ArrangedLike, ArgsLike, as_many_args, all_args, no_args, with_names_like, applied_like, function_like, named_like}

module _ (c : Program) (Good : ℕ → ℕ → Type 0) where
  module _ (t : Scope) where
    module _ (s env : Scope) (V : ℕ → Type 0)
        (sees : (x : ℕ) → V x → x < length c.names → Same c Good (scope.means (lifted.lifted c) t x)
        (means c env x)) (alike : Alike s env)
        (calls : (k : ℕ) (a : Abstraction) → slice_get (abstractions c) k ≡ Some a
        → scope.means (lifted.lifted c) t (lifted_name c k) ≡ stands.Function
        (length c.functions + k) (length (free c a.scope a.params a.body) + length a.params))
      where
        abbrev ItselfLike : Option Var → Option ℕ → Type 0
        ItselfLike None None = Unit {0}
        ItselfLike None (Some a) = ⊥
        ItselfLike (Some x) None = ⊥
        ItselfLike (Some x) (Some a) = NameLike c Good x a

        itself_meaning : {M M' : Meaning} → Same c Good M M'
            → ItselfLike (form.itself_as M) (itself_as c M')
        itself_meaning (SameLocal g) = LocalLike g
        itself_meaning (SameFunction {f = f} {k = zero} top) = GlobalLike top refl
        itself_meaning (SameFunction {f = f} {k = suc k} top) = rw (no_zero k) tt
        itself_meaning SamePrimitive = tt
        itself_meaning SameNothing = tt

        -- ---- the names that are free in a lambda

        -- a name that is local has a number
        abbrev pub IsLocal : ℕ → Type 0
        IsLocal x = (y : ℕ) × (scope.means (lifted.lifted c) t x ≡ Local y)
            × Good y (local_name c env x)

        local_names : {m : ℕ} {args : core.Terms} {news : List Bound} {ys : List Var} (at : ℕ)
            (xs : List ℕ) → ((x : ℕ) → Among xs x → IsLocal x) → args ≡ lifted.arguments at xs
            → AreArgs (lifted.lifted c) t m args news ys → (news ≡ [])
            × NamesLike c Good ys (fronts c env xs)
        local_names at [] h e NoArgs = (refl, tt)
        local_names at [] h e (AndArg news1 news2 a b is)
            = absurd (not_both true refl (ap is_some e))
        local_names at (x ∷ xs) h e NoArgs = absurd (not_both true refl (sym (ap is_some e)))
        local_names {m = m} at (x ∷ xs) h e (AndArg {a = a} {as' = as'} news1 news2 d b is) =
            let l = h x (among_first x xs) in
            let one : (news1 ≡ []) × NameLike c Good _ (local_name c env x)
            = arg d (ap (head_of a) e) (ap (form.itself_as) l.1) l.2 in
            let more = local_names {m = m + length news1} at xs (λ z i. h z (among_later z x xs i))
            (ap rest_of e) b in
            (is ∙ ap (λ w. w ++ news2) one.0 ∙ more.0, (one.1, more.1))
          where
            arg : {m : ℕ} {a : core.Term} {news : List Bound} {v : Var} {y : ℕ}
                → IsArg (lifted.lifted c) t m a news v → a ≡ core.Name x at
                → form.itself_as (scope.means (lifted.lifted c) t x) ≡ Some (var.Local y)
                → Good y (local_name c env x) → (news ≡ []) × NameLike c Good v (local_name c env x)
            arg {v = v} {y = y} (Itself i) e m g = let same : var.Local y ≡ v
                = some_is (sym m ∙ ap (form.itself (lifted.lifted c) t) (sym e) ∙ i)
                in (refl, subst (λ v. NameLike c Good v (local_name c env x)) same (LocalLike g))
            arg (New t' i w u v) e m g = none_is_some
                (sym i ∙ ap (form.itself (lifted.lifted c) t) e ∙ m)

        local_is : (x : ℕ) → V x → x < length c.names → is_local c env x ≡ true → IsLocal x
        local_is x v lt e = by (sees x v lt) refl refl
          where
            by : {M M' : Meaning} → Same c Good M M' → scope.means (lifted.lifted c) t x ≡ M
                → means c env x ≡ M' → IsLocal x
            by (SameLocal {y = y} {a = a} g) i j = (y, i, subst (Good y) (sym (ap number_in j)) g)
            by (SameFunction top) i j = absurd
                (not_both true refl (sym e ∙ ap (stands_for_local c) j))
            by SamePrimitive i j = absurd (not_both true refl (sym e ∙ ap (stands_for_local c) j))
            by SameNothing i j = absurd (not_both true refl (sym e ∙ ap (stands_for_local c) j))

        -- the free names of a lambda are locals
        pub free_locals : (params : List Binder) (body : Expr)
            → Fits (length c.names) (And V (names_of params)) body → (x : ℕ)
            → Among (free c env params body) x → IsLocal x
        free_locals params body f x h =
            let used = filter_among (is_local c env) x (uses (names_of params) body)
            (first_times_among x _ h) in
            let u = from_expr (length c.names) (And V (names_of params)) (names_of params) body x f
            used.0 in
            local_is x (by u.name u.free) u.below used.1
          where
            by : And V (names_of params) x → is_among x (names_of params) ≡ false → V x
            by (inl v) n = v
            by (inr a) n = not_both (is_among x (names_of params)) a n

        -- ---- a lambda

        lone : {h : core.Term} {m at : ℕ} {args : core.Terms} {news : List Bound}
            {form' : normal.Flat} → IsFlat (lifted.lifted c) t m (core.Bracket h core.NoTerms at)
            args
            news form' → IsFlat (lifted.lifted c) t m h args news form'
        lone (LoneHead d) = d
        lone (LoneBracket d) = d

        lone_bracket : {h : core.Term} {inner : core.Terms} {m at : ℕ} {news : List Bound}
            {form' : normal.Flat} → IsFlat (lifted.lifted c) t m (core.Bracket h inner at)
            core.NoTerms news form' → IsFlat (lifted.lifted c) t m h inner news form'
        lone_bracket (LoneHead d) = d
        lone_bracket (LoneBracket d) = d

        named_of : {m x at : ℕ} {args : core.Terms} {news : List Bound} {form' : normal.Flat}
            → IsFlat (lifted.lifted c) t m (core.Name x at) args news form'
            → IsNamed (lifted.lifted c) t m (scope.means (lifted.lifted c) t x) args news form'
        named_of (Named d) = d

        -- a function that is given fewer names than it has parameters, all of them locals
        partial_of : {m g K : ℕ} {M : Meaning} {args : core.Terms} {news : List Bound}
            {form' : normal.Flat} (at : ℕ) (f : Fun) (fs : List ℕ)
            → ((x : ℕ) → Among fs x → IsLocal x) → Stands c f (fronts c env fs) g → 0 < arity c f
            → args ≡ lifted.arguments at fs → length fs < K
            → IsNamed (lifted.lifted c) t m M args news form' → M ≡ stands.Function g K
            → FlatLike c Good (record { news = []; form = Known (Part f []) }) news form'
        partial_of at f fs l st pos ea less (OfPrimitive a) e
            = absurd (not_both true refl (sym (ap is_function e)))
        partial_of at f fs l st pos ea less (OfLocal a) e
            = absurd (not_both true refl (sym (ap is_function e)))
        partial_of at f fs l st pos ea less (OfGlobal a) e = let z = ap params_in e
            in absurd (omega (arith, z, less))
        partial_of at f fs l st pos ea less (Called long a) e =
            let z = ap params_in e in
            let many = as_many_args c Good t a in
            let n : count _ ≡ length fs = ap count ea ∙ count_arguments at fs in
            absurd (omega (arith, z, less, long, many, n))
        partial_of at f fs l st pos ea less (Partial {g = g'} {xs = xs} few a) e =
            let r = local_names at fs l ea a in
            record {
              news = subst (λ w. NewsLike c Good [] w) (sym r.0) tt;
              form = PartLike (fronts c env fs) (fronts c env fs)
                  (subst (Stands c f (fronts c env fs)) (sym (ap function_in e)) st) pos r.1
                  (sym (append_nil (fronts c env fs)));
            }
        partial_of at f fs l st pos ea less
            (Exceeded first rest news1 news2 xs split some long a b is) e =
            let z = ap params_in e in
            let many = as_many_args c Good t a in
            let n : count first + count rest ≡ length fs
            = sym (count_append first rest) ∙ ap count (sym split ∙ ea) ∙ count_arguments at fs in
            absurd (omega (arith, z, less, long, many, n))

        -- a lambda or a local function that is given the names that are free in it
        pub closure_like : (params : List Binder) (body : Expr) (at at' k m : ℕ) (news : List Bound)
            (form' : normal.Flat) → HasParameter params → Below (length c.names) (names_of params)
            → Fits (length c.names) (And V (names_of params)) body
            → Located (abstractions c)
            (abstraction s params body at ∷ in_expr c (within c params s) body) k
            → IsFlat (lifted.lifted c) t m (core.Name (lifted_name c k) at')
            (lifted.arguments at' (free c s params body)) news form'
            → FlatLike c Good
            (record { news = []; form = Known (Part (Closure params body env) []) })
            news form'
        closure_like params body at at' k m news form' some below fits l d =
            let same : free c env params body ≡ free c s params body
            = free_alike c s env params body alike in
            let st : Stands c (Closure params body env) (fronts c env (free c env params body))
            (length c.functions + k) = AsClosure k
            (record {
              at = at;
              located = l;
              alike = alike;
              some = some;
              below = below;
              fits
                  = more (length c.names) _ _ (λ x h. tt) body fits;
            }) refl refl in
            let pos = some_length params some in
            let long = ap length same in
            partial_of at' (Closure params body env) (free c env params body)
            (free_locals params body fits) st pos (ap (lifted.arguments at') (sym same))
            (omega (arith, pos, long)) (named_of d) (calls k _ (located_first _ _ _ k l))

        -- the text's side, by the free names
        lambda_at : ℕ → List Binder → Expr → List ℕ → Option Arguments → Flat
        lambda_at n params body fs None = record
            { news = []; form = Known (Part (Closure params body env) []) }
        lambda_at n params body [] (Some xs) = apply_function (Closure params body env)
            (length params) n (Some xs)
        lambda_at n params body (x ∷ more) (Some xs) = applied n
            (Known (Part (Closure params body env) [])) xs

        lambda_is : (n : ℕ) (params : List Binder) (body : Expr) (xs : Option Arguments)
            → lambda_at n params body (free c env params body) xs ≡ lambda_with c env n params body
            xs
        unfolding lambda_at
        lambda_is n params body None = refl
        lambda_is n params body (Some xs) = by (free c env params body)
          where
            by : (fs : List ℕ) → lambda_at n params body fs (Some xs) ≡ elim fs [
              | [] ↦ apply_function (Closure params body env) (length params) n (Some xs)
              | x ∷ more
                  ↦ applied n (Known (Part (Closure params body env) [])) xs
            ]
            by [] = refl
            by (x ∷ more) = refl

        lambda_like : (params : List Binder) (body : Expr) (at k m n : ℕ) (fs : List ℕ)
            (args : core.Terms) (xs : Option Arguments) (news : List Bound) (form' : normal.Flat)
            → ((x : ℕ) → Among fs x → IsLocal x) → Stands c (Closure params body env)
            (fronts c env fs) (length c.functions + k) → HasParameter params
            → scope.means (lifted.lifted c) t (lifted_name c k) ≡ stands.Function
            (length c.functions + k) (length fs + length params) → ArgsLike c Good t args xs
            → IsFlat (lifted.lifted c) t m
            (core.Bracket (core.Name (lifted_name c k) at) (lifted.arguments at fs) at) args news
            form' → Placed c Good m n (length news)
            → FlatLike c Good (lambda_at n params body fs xs) news form'
        unfolding lambda_at
        lambda_like params body at k m n fs core.NoTerms (Some xs) news form' l st some is h d p
            = absurd h.shape
        lambda_like params body at k m n fs (core.AndTerm a as') None news form' l st some is h d p
            = absurd h.shape
        lambda_like params body at k m n fs core.NoTerms None news form' l st some is h d p =
            let pos = some_length params some in
            partial_of at (Closure params body env) fs l st pos refl (omega (arith, pos))
            (named_of (lone_bracket d)) is
        lambda_like params body at k m n [] (core.AndTerm a as') (Some xs) news form' l st some is h
            d
            p = by (length params) refl
          where
            by : (j : ℕ) → length params ≡ j → FlatLike c Good
                (apply_function (Closure params body env) (length params) n (Some xs)) news form'
            by zero e = let pos = some_length params some in absurd (omega (arith, pos, e))
            by (suc j) e =
                let is' : scope.means (lifted.lifted c) t (lifted_name c k) ≡ stands.Function
                (length c.functions + k) (suc j) = is ∙ ap
                (stands.Function (length c.functions + k)) (omega (arith, e)) in
                subst (λ j. FlatLike c Good (apply_function (Closure params body env) j n (Some xs))
                news
                form') (sym e)
                (function_like c Good t (Closure params body env) (length c.functions + k) j m n
                (core.AndTerm a as') (Some xs) news form' st e h
                (subst (λ M. IsNamed (lifted.lifted c) t m M (core.AndTerm a as') news form') is'
                (named_of (lone d))) p)
        lambda_like params body at k m n (x ∷ more) (core.AndTerm a as') (Some xs) news form' l st
            some is h (BracketApplied inner news1 news2 d b e) p =
            let pos = some_length params some in
            let f = partial_of at (Closure params body env) (x ∷ more) l st pos refl
            (omega (arith, pos)) (named_of d) is in
            let none : length news1 ≡ 0 = sym (as_many_news c Good [] news1 f.news) in
            let g = applied_like c Good t {n = n} (Known (Part (Closure params body env) [])) xs h
            f.form b
            (placed_right c Good m n (m + length news1) n news1 news2 news e refl
            (omega (arith, none))
            p) in
            let same : news ≡ news2 = e ∙ ap (λ w. w ++ news2) (is_empty news1 none) in
            record {
              news = subst
                  (λ w. NewsLike c Good
                  (applied n (Known (Part (Closure params body env) [])) xs).news w)
                  (sym same) g.news;
              form = g.form;
            }

        -- ---- a bracket, a number, a constructor

        bracket_like : (head : core.Term) (inner : core.Terms) (at : ℕ)
            (go : ℕ → Option Arguments → Flat)
            → ((args : core.Terms) (xs : Option Arguments) (m n : ℕ) (news : List Bound)
            (form' : normal.Flat) → ArgsLike c Good t args xs
            → IsFlat (lifted.lifted c) t m head args news form' → Placed c Good m n (length news)
            → FlatLike c Good (go n xs) news form')
            → (args : core.Terms) (ins xs : Option Arguments) (m n : ℕ) (news : List Bound)
            (form' : normal.Flat) → ArgsLike c Good t inner ins → ArgsLike c Good t args xs
            → IsFlat (lifted.lifted c) t m (core.Bracket head inner at) args news form'
            → Placed c Good m n (length news)
            → FlatLike c Good (apply_bracket n ins xs (go n)) news form'
        bracket_like head core.NoTerms at go ih args None xs m n news form' i h d p
            = ih args xs m n news form' h (lone d) p
        bracket_like head core.NoTerms at go ih args (Some ins) xs m n news form' i h d p
            = absurd i.shape
        bracket_like head (core.AndTerm a as') at go ih args None xs m n news form' i h d p
            = absurd i.shape
        bracket_like head (core.AndTerm a as') at go ih core.NoTerms (Some ins) None m n news form'
            i
            h d p = ih (core.AndTerm a as') (Some ins) m n news form' i (lone_bracket d) p
        bracket_like head (core.AndTerm a as') at go ih core.NoTerms (Some ins) (Some xs) m n news
            form' i h d p = absurd h.shape
        bracket_like head (core.AndTerm a as') at go ih (core.AndTerm b bs) (Some ins) None m n news
            form' i h d p = absurd h.shape
        bracket_like head (core.AndTerm a as') at go ih (core.AndTerm b bs) (Some ins) (Some xs) m n
            news form' i h (BracketApplied inner news1 news2 d w e) p =
            let f = ih (core.AndTerm a as') (Some ins) m n news1 inner i d
            (placed_left c Good m n news1 news2 news e p) in
            let l = as_many_news c Good (go n (Some ins)).news news1 f.news in
            let g = applied_like c Good t {n = n + length (go n (Some ins)).news}
            (go n (Some ins)).form xs h
            f.form w (placed_right c Good m n (m + length news1) (n + length (go n (Some ins)).news)
            news1 news2 news e refl (omega (arith, l)) p) in
            let fs = (go n (Some ins)).news in
            let gs = (applied (n + length (go n (Some ins)).news) (go n (Some ins)).form xs).news in
            record {
              news = subst (λ w. NewsLike c Good (fs ++ gs) w) (sym e)
                  (news_append c Good fs gs news1 news2 f.news g.news);
              form = g.form;
            }

        number_like : (j : ℤ) (at : ℕ) (args : core.Terms) (xs : Option Arguments) (m n : ℕ)
            (news : List Bound) (form' : normal.Flat) → ArgsLike c Good t args xs
            → IsFlat (lifted.lifted c) t m (core.Int j at) args news form'
            → Placed c Good m n (length news)
            → FlatLike c Good (meaning.flat c env n (tree.Int j at) xs) news form'
        number_like j at core.NoTerms None m n news form' h Number p
            = record { news = tt; form = IntLike }
        number_like j at core.NoTerms (Some xs) m n news form' h d p = absurd h.shape
        number_like j at (core.AndTerm a as') None m n news form' h d p = absurd h.shape
        number_like j at (core.AndTerm a as') (Some xs) m n news form' h (NumberApplied d) p
            = applied_like c Good t (Known (Int j)) xs h IntLike d p

        con_like : (d at : ℕ) (args : core.Terms) (xs : Option Arguments) (m n : ℕ)
            (news : List Bound) (form' : normal.Flat) → ArgsLike c Good t args xs
            → IsFlat (lifted.lifted c) t m (core.Con d at) args news form'
            → Placed c Good m n (length news)
            → FlatLike c Good (meaning.flat c env n (tree.Con d at) xs) news form'
        con_like d at args xs m n news form' h (Constructor {number = number} {xs = ys} e a) p =
            let same : number_of c d ≡ number = ap
            (λ (o : Option ℕ). elim o [ Some k ↦ k | None ↦ 0 ]) e in
            with_names_like c Good t args xs m n news ys (λ as'. Known (Con (number_of c d) as'))
            (flat.Con number) h a p
            (λ as' l. subst (λ k. FormLike c Good (Known (Con k as')) (flat.Con number ys))
            (sym same)
            (ConLike l))

        -- ---- arguments

        pub record NamedLike (a : ANamed) (bs : List Bound) (x : Var) : Type 0 where
          pub news : NewsLike c Good a.news bs
          pub name : NameLike c Good x a.name

        arg_like : (a : core.Term) (o : Option ℕ) (f : Flat) (m n : ℕ) (news : List Bound) (x : Var)
            → ItselfLike (form.itself (lifted.lifted c) t a) o
            → ((news : List Bound) (form' : normal.Flat)
            → IsFlat (lifted.lifted c) t m a core.NoTerms news form'
            → Placed c Good m n (length news)
            → FlatLike c Good f news form')
            → IsArg (lifted.lifted c) t m a news x → Placed c Good m n (length news)
            → NamedLike (named n o f) news x
        arg_like a None f m n news x i ih (Itself e) p = absurd (subst (λ o. ItselfLike o None) e i)
        arg_like a (Some b) f m n news x i ih (Itself e) p
            = record { news = tt; name = subst (λ o. ItselfLike o (Some b)) e i }
        arg_like a (Some b) f m n news x i ih (New t' e d is is') p
            = absurd (subst (λ o. ItselfLike o (Some b)) e i)
        arg_like a None f m n news x i ih (New {news = inner} {form = form'} t' e d is is') p =
            let r = ih inner form' d (placed_left c Good m n inner (bound t' form' ∷ []) news is' p)
            in
            let l = as_many_news c Good f.news inner r.news in
            let long : length news ≡ length inner + 1
            = ap length is' ∙ length-append inner (bound t' form' ∷ []) in
            record {
              news = subst (λ w. NewsLike c Good (f.news ++ f.form ∷ []) w) (sym is')
                  (news_append c Good f.news (f.form ∷ []) inner (bound t' form' ∷ []) r.news
                  (r.form, tt));
              name = LocalLike
                  (p.at (length inner) t' (n + length f.news) (omega (arith, long)) is
                  (omega (arith, l)));
            }

        nothing_like : (first rest : core.Terms) (k m m' n : ℕ) (news1 news2 : List Bound)
            (xs1 xs2 : List Var) → core.NoTerms ≡ append first rest
            → AreArgs (lifted.lifted c) t m first news1 xs1
            → AreArgs (lifted.lifted c) t m' rest news2 xs2
            → ArrangedLike c Good nothing news1 xs1 news2 xs2
        nothing_like core.NoTerms core.NoTerms k m m' n news1 news2 xs1 xs2 e a b =
            no_args c Good t (λ news1 xs1. ArrangedLike c Good nothing news1 xs1 news2 xs2) a
            (no_args c Good t (λ news2 xs2. ArrangedLike c Good nothing [] [] news2 xs2) b
            (record { first = tt; names = tt; second = tt; others = tt }))
        nothing_like core.NoTerms (core.AndTerm x xs) k m m' n news1 news2 xs1 xs2 e a b
            = absurd (not_both true refl (sym (ap is_some e)))
        nothing_like (core.AndTerm x xs) rest k m m' n news1 news2 xs1 xs2 e a b
            = absurd (not_both true refl (sym (ap is_some e)))

        module _ (a : core.Term) (as' : core.Terms) (argument : ℕ → ANamed)
            (others : Option Arguments)
            (one : (m n : ℕ) (news : List Bound) (x : Var) → IsArg (lifted.lifted c) t m a news x
            → Placed c Good m n (length news) → NamedLike (argument n) news x)
            (more : ArgsLike c Good t as' others)
          where
            next_first : (b : core.Term) (bs rest : core.Terms) (k m m' n : ℕ)
                (news1 news2 : List Bound) (xs1 xs2 : List Var)
                → core.AndTerm a as' ≡ core.AndTerm b (append bs rest) → count bs ≤ k
                → (HasTerm rest → k ≡ count bs)
                → AreArgs (lifted.lifted c) t m (core.AndTerm b bs) news1 xs1
                → AreArgs (lifted.lifted c) t m' rest news2 xs2 → Placed c Good m n (length news1)
                → Placed c Good m' (suc n + length news1) (length news2)
                → ArrangedLike c Good (next argument others n (suc k)) news1 xs1 news2 xs2
            next_first b bs rest k m m' n news1 news2 xs1 xs2 e le exact
                (AndArg {x = x} {xs = ys} news11 news12 d w is) v p p' =
                let r = one m n news11 x
                (subst (λ z. IsArg (lifted.lifted c) t m z news11 x) (sym (ap (head_of a) e)) d)
                (placed_left c Good m n news11 news12 news1 is p) in
                let l = as_many_news c Good (argument n).news news11 r.news in
                let long : length news1 ≡ length news11 + length news12
                = ap length is ∙ length-append news11 news12 in
                let same : suc n + length news1 ≡ suc (n + length (argument n).news) + length news12
                = omega (arith, long, l) in
                let q = more.arranged bs rest k (m + length news11) m'
                (n + length (argument n).news)
                news12 news2 ys xs2 (ap rest_of e) le exact w v
                (placed_right c Good m n (m + length news11) (n + length (argument n).news) news11
                news12
                news1 is refl (omega (arith, l)) p)
                (subst (λ j. Placed c Good m' j (length news2)) same p') in
                let fs = (argument n).news in
                let gs = (split_arguments others (n + length (argument n).news) k).first in
                record {
                  first = subst (λ z. NewsLike c Good (fs ++ gs) z) (sym is)
                      (news_append c Good fs gs news11 news12 r.news q.first);
                  names = (r.name, q.names);
                  second
                      = q.second;
                  others = q.others;
                }

            next_second : (b : core.Term) (bs : core.Terms) (m' n : ℕ) (news2 : List Bound)
                (xs2 : List Var) → core.AndTerm a as' ≡ core.AndTerm b bs
                → AreArgs (lifted.lifted c) t m' (core.AndTerm b bs) news2 xs2
                → Placed c Good m' (suc n + 0) (length news2)
                → ArrangedLike c Good (next argument others n zero) [] [] news2 xs2
            next_second b bs m' n news2 xs2 e (AndArg {x = x} {xs = ys} news21 news22 d w is) p0 =
                let z : suc n + 0 ≡ suc n = omega arith in
                let p : Placed c Good m' (suc n) (length news2)
                = subst (λ j. Placed c Good m' j (length news2)) z p0
                in
                let r = one m' (suc n) news21 x
                (subst (λ z. IsArg (lifted.lifted c) t m' z news21 x) (sym (ap (head_of a) e)) d)
                (placed_left c Good m' (suc n) news21 news22 news2 is p) in
                let l = as_many_news c Good (argument (suc n)).news news21 r.news in
                let le : count as' ≤ argument_count others = let i = more.many in omega (arith, i)
                in
                let q = all_args c Good t as' others (m' + length news21)
                (suc n + length (argument (suc n)).news) (argument_count others) news22 ys more le
                (subst (λ z. AreArgs (lifted.lifted c) t (m' + length news21) z news22 ys)
                (sym (ap rest_of e)) w)
                (placed_right c Good m' (suc n) (m' + length news21)
                (suc n + length (argument (suc n)).news) news21 news22 news2 is refl
                (omega (arith, l)) p) in
                let fs = (argument (suc n)).news in
                let gs = (split_arguments others (suc n + length (argument (suc n)).news)
                (argument_count others)).first in
                record {
                  first = tt;
                  names = tt;
                  second
                      = subst (λ z. NewsLike c Good (fs ++ gs) z) (sym is)
                      (news_append c Good fs gs news21 news22 r.news q.news);
                  others = (r.name, q.names);
                }

            next_like : (first rest : core.Terms) (k m m' n : ℕ) (news1 news2 : List Bound)
                (xs1 xs2 : List Var) → core.AndTerm a as' ≡ append first rest → count first ≤ k
                → (HasTerm rest → k ≡ count first)
                → AreArgs (lifted.lifted c) t m first news1 xs1
                → AreArgs (lifted.lifted c) t m' rest news2 xs2 → Placed c Good m n (length news1)
                → Placed c Good m' (suc n + length news1) (length news2)
                → ArrangedLike c Good (next argument others n k) news1 xs1 news2 xs2
            next_like core.NoTerms core.NoTerms k m m' n news1 news2 xs1 xs2 e le exact v w p p'
                = absurd (not_both true refl (ap is_some e))
            next_like core.NoTerms (core.AndTerm b bs) zero m m' n news1 news2 xs1 xs2 e le exact v
                w p
                p' =
                no_args c Good t
                (λ news1 xs1. Placed c Good m' (suc n + length news1) (length news2)
                → ArrangedLike c Good (next argument others n zero) news1 xs1 news2 xs2) v
                (λ p'. next_second b bs m' n news2 xs2 e w p') p'
            next_like core.NoTerms (core.AndTerm b bs) (suc k) m m' n news1 news2 xs1 xs2 e le exact
                v w
                p p' = let z = exact tt in absurd (omega (arith, z))
            next_like (core.AndTerm b bs) rest zero m m' n news1 news2 xs1 xs2 e le exact v w p p'
                = absurd (omega (arith, le))
            next_like (core.AndTerm b bs) rest (suc k) m m' n news1 news2 xs1 xs2 e le exact v w p
                p'
                = next_first b bs rest k m m' n news1 news2 xs1 xs2 e (omega (arith, le))
                (λ h. let z = exact h in omega (arith, z)) v w p p'

        -- ---- terms

        lift_itself : (a : Term) (k : ℕ) → FitsTerm (length c.names) V a
            → Located (abstractions c) (in_term c s a) k
            → ItselfLike (form.itself (lifted.lifted c) t (lift_term c s k a)) (itself c env a)
        lift_itself (tree.Name x at) k f l = itself_meaning (sees x f.0 f.1)
        lift_itself (tree.Con d at) k f l = tt
        lift_itself (tree.Int j at) k f l = tt
        lift_itself (tree.Bracket head NoTerms at) k f l
            = lift_itself head k f.0 (located_left _ (in_term c s head) [] k l)
        lift_itself (tree.Bracket head (AndTerm a xs) at) k f l = tt
        lift_itself (tree.Lambda params body at) k f l
            = by (free c s params body) (calls k _ (located_first _ _ _ k l))
          where
            by : (fs : List ℕ) → scope.means (lifted.lifted c) t (lifted_name c k) ≡ stands.Function
                (length c.functions + k) (length (free c s params body) + length params)
                → ItselfLike
                (form.itself (lifted.lifted c) t
                (core.Bracket (core.Name (lifted_name c k) at) (lifted.arguments at fs) at)) None
            by (x ∷ xs) e = tt
            by [] e = rw e
                (no (length (free c s params body) + length params)
                (let pos = some_length params f.0 in omega (arith, pos)))
              where
                no : (j : ℕ) → 0 < j → ItselfLike
                    (form.itself_as (stands.Function (length c.functions + k) j)) None
                no zero lt = absurd (omega (arith, lt))
                no (suc j) lt = rw (no_zero j) tt

        mutual
          pub flat_like : (a : Term) (k : ℕ) (args : core.Terms) (xs : Option Arguments) (m n : ℕ)
              (news : List Bound) (form' : normal.Flat) → FitsTerm (length c.names) V a
              → Located (abstractions c) (in_term c s a) k → ArgsLike c Good t args xs
              → IsFlat (lifted.lifted c) t m (lift_term c s k a) args news form'
              → Placed c Good m n (length news)
              → FlatLike c Good (meaning.flat c env n a xs) news form'
          flat_like (tree.Name x at) k args xs m n news form' f l h d p
              = named_like c Good t m n args xs news form' (sees x f.0 f.1) h (named_of d) p
          flat_like (tree.Con d at) k args xs m n news form' f l h w p
              = con_like d at args xs m n news form' h w p
          flat_like (tree.Int j at) k args xs m n news form' f l h d p
              = number_like j at args xs m n news form' h d p
          flat_like (tree.Bracket head inner at) k args xs m n news form' f l h d p =
              bracket_like (lift_term c s k head) (lift_terms c s (k + count_term c s head) inner)
              at
              (λ n xs. meaning.flat c env n head xs)
              (λ args xs m n news form' h d p. flat_like head k args xs m n news form' f.0
              (located_left _ (in_term c s head) (in_terms c s inner) k l) h d p)
              args (arguments c env inner) xs m n news form'
              (args_like inner (k + count_term c s head) f.1
              (located_right _ (in_term c s head) (in_terms c s inner) k l)) h d p
          flat_like (tree.Lambda params body at) k args xs m n news form' f l h d p =
              let same : free c env params body ≡ free c s params body
              = free_alike c s env params body alike in
              let st : Stands c (Closure params body env) (fronts c env (free c env params body))
              (length c.functions + k) = AsClosure k
              (record {
                at = at;
                located = l;
                alike = alike;
                some = f.0;
                below = f.1;
                fits
                    = more (length c.names) _ _ (λ x h. tt) body f.2;
              }) refl refl in
              let d' = subst
              (λ fs. IsFlat (lifted.lifted c) t m
              (core.Bracket (core.Name (lifted_name c k) at) (lifted.arguments at fs) at) args
              news form') (sym same) d in
              let e' = calls k _ (located_first _ _ _ k l) ∙ ap
              (λ fs. stands.Function (length c.functions + k) (length fs + length params))
              (sym same) in
              subst (λ r. FlatLike c Good r news form') (lambda_is n params body xs)
              (lambda_like params body at k m n (free c env params body) args xs news form'
              (free_locals params body f.2) st f.0 e' h d' p)

          pub args_like : (xs : Terms) (k : ℕ) → FitsTerms (length c.names) V xs
              → Located (abstractions c) (in_terms c s xs) k
              → ArgsLike c Good t (lift_terms c s k xs) (arguments c env xs)
          args_like NoTerms k f l = record {
            shape = tt;
            many = refl;
            arranged = λ first rest j m m' n news1 news2 xs1 xs2 e le
                exact a b p p'. nothing_like first rest j m m' n news1 news2 xs1 xs2 e a b;
          }
          args_like (AndTerm a xs) k f l =
              let ih = args_like xs (k + count_term c s a) f.1
              (located_right _ (in_term c s a) (in_terms c s xs) k l) in
              let la = located_left _ (in_term c s a) (in_terms c s xs) k l in
              record {
                shape = tt;
                many = let i = ih.many in omega (arith, i);
                arranged = next_like (lift_term c s k a) (lift_terms c s (k + count_term c s a) xs)
                    (λ n. named n (itself c env a) (meaning.flat c env n a None))
                    (arguments c env xs)
                    (λ m n news x d p. arg_like (lift_term c s k a) (itself c env a)
                    (meaning.flat c env n a None) m n news x (lift_itself a k f.0 la)
                    (λ news form' d p. flat_like a k core.NoTerms None m n news form' f.0 la
                    (record {
                      shape = tt;
                      many = refl;
                      arranged
                          = λ first rest j m m' n news1 news2 xs1 xs2 e le exact a b p p'.
                          nothing_like
                          first rest j m m' n news1 news2 xs1 xs2 e a b;
                    }) d p) d p) ih;
              }
