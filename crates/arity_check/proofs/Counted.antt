-- How many new bindings an application has depends on what names stand for, and not on the numbers
-- of the locals.
use Rattle.std.proofs.Common.{◌≡◌, ℕ, suc, ◌+◌, Bool, true, false, List, [], ◌∷◌, ◌++◌, length, refl, sym, ap, ◌∙◌, subst, arith, Some, None, length-append}
use Rattle.std.specs.Prelude.{◌==◌, codes, if◌then◌else◌}
use Rattle.core_reader.specs.Tree.{Program, Term, Terms, NoTerms, AndTerm, Name, Con, Int, Bracket}
use Rattle.arity_check.specs.declared.normal.Flat.{Flat}
use Rattle.arity_check.specs.declared.normal.Flat.TheVariants as flat
use Rattle.arity_check.specs.declared.normal.Var.{Var}
use Rattle.arity_check.specs.declared.normal.Bound.{Bound}
use Rattle.arity_check.specs.Scope.{Scope, Meaning, Local, Function, Primitive, Unbound, means, found_in, is_named, binds, binds_all, primitives, primitive_from, unless_primitive}
use Rattle.arity_check.specs.Normal.{itself, itself_as, bound, IsFlat, Number, Constructor, Named, IsNamed, OfPrimitive, OfLocal, OfGlobal, Called, Partial, Exceeded, NumberApplied, BracketApplied, LoneHead, LoneBracket, IsApplied, Applied, AreArgs, NoArgs, AndArg, IsArg, Itself, New}
use Rattle.arity_check.proofs.Single.{size, size_append, size_pos, split_one, args_size}

pub data SameKind : Meaning → Meaning → Type 0 where
  Locals : {x y : ℕ} → SameKind (Local x) (Local y)
  Same : {m : Meaning} → SameKind m m

abbrev pub Alike : Program → Scope → Scope → Type 0
Alike p s s' = (x : ℕ) → SameKind (found_in p s x) (found_in p s' x)

alike_means : (p : Program) (s s' : Scope) → Alike p s s' → (x : ℕ)
    → SameKind (means p s x) (means p s' x)
alike_means p s s' a x = go (is_named p (codes "_") x) (primitive_from p primitives x)
  where
    under : (m : Meaning) → SameKind (unless_primitive m (found_in p s x))
        (unless_primitive m (found_in p s' x))
    under (Primitive op) = Same
    under (Local y) = a x
    under (Function f n) = a x
    under Unbound = a x

    go : (b : Bool) (m : Meaning) → SameKind
        (if b then Unbound else unless_primitive m (found_in p s x))
        (if b then Unbound else unless_primitive m (found_in p s' x))
    go true m = Same
    go false m = under m

alike_binds : (p : Program) (s s' : Scope) (x y y' : ℕ) → Alike p s s'
    → Alike p (binds p x y s) (binds p x y' s')
alike_binds p s s' x y y' a = go (is_named p (codes "_") x)
  where
    at : (q : ℕ) (b : Bool) → SameKind (if b then Local y else found_in p s q)
        (if b then Local y' else found_in p s' q)
    at q true = Locals
    at q false = a q

    go : (b : Bool) → Alike p (if b then s else (x, y) ∷ s) (if b then s' else (x, y') ∷ s')
    go true = a
    go false = λ q. at q (x == q)

pub alike_all : (p : Program) (xs ys ys' : List ℕ) (s s' : Scope) → length ys ≡ length ys'
    → Alike p s s' → Alike p (binds_all p xs ys s) (binds_all p xs ys' s')
alike_all p [] ys ys' s s' e a = a
alike_all p (x ∷ xs) [] [] s s' e a = a
alike_all p (x ∷ xs) [] (y' ∷ ys') s s' e a = absurd (omega (arith, e))
alike_all p (x ∷ xs) (y ∷ ys) [] s s' e a = absurd (omega (arith, e))
alike_all p (x ∷ xs) (y ∷ ys) (y' ∷ ys') s s' e a = alike_all p xs ys ys' (binds p x y s)
    (binds p x y' s') (omega (arith, e)) (alike_binds p s s' x y y' a)

-- an argument is itself in both scopes, or in none
clash_as : (m m' : Meaning) (x : Var) → SameKind m m' → itself_as m ≡ Some x → itself_as m' ≡ None
    → ⊥
clash_as (Local y) (Local y') x Locals a b = cc
clash_as m m' x Same a b = cc

clash : (p : Program) (s s' : Scope) → Alike p s s' → (a : Term) (x : Var) → itself p s a ≡ Some x
    → itself p s' a ≡ None → ⊥
clash p s s' al (Name f at) x a b = clash_as _ _ x (alike_means p s s' al f) a b
clash p s s' al (Bracket head NoTerms at) x a b = clash p s s' al head x a b
clash p s s' al (Bracket head (AndTerm c cs) at) x a b = cc
clash p s s' al (Con c at) x a b = cc
clash p s s' al (Int k at) x a b = cc

added : (xs ys zs xs' ys' zs' : List Bound) → zs ≡ xs ++ ys → zs' ≡ xs' ++ ys'
    → length xs ≡ length xs' → length ys ≡ length ys' → length zs ≡ length zs'
added xs ys zs xs' ys' zs' a b c d = ap length a ∙ length-append xs ys ∙ omega
    (arith, c, d, length-append xs' ys', ap length b)

module _ (p : Program) (s s' : Scope) (al : Alike p s s') (al' : Alike p s' s) where
  mutual
    pub flat_count : {n n' : ℕ} {head : Term} {args : Terms} {news news' : List Bound}
        {form form' : Flat} → IsFlat p s n head args news form
        → IsFlat p s' n' head args news' form' → length news ≡ length news'
    flat_count Number Number = refl
    flat_count (Constructor e a) (Constructor e' a') = args_count a a'
    flat_count (Named {f = f} a) (Named a') = named_count (alike_means p s s' al f) a a'
    flat_count (NumberApplied a) (NumberApplied a') = applied_count a a'
    flat_count (BracketApplied inner news1 news2 a b is)
        (BracketApplied inner' news1' news2' a' b' is')
        = added news1 news2 _ news1' news2' _ is is' (flat_count a a') (applied_count b b')
    flat_count (LoneHead a) (LoneHead a') = flat_count a a'
    flat_count (LoneHead a) (LoneBracket a') = flat_count a a'
    flat_count (LoneBracket a) (LoneHead a') = flat_count a a'
    flat_count (LoneBracket a) (LoneBracket a') = flat_count a a'

    named_count : {n n' : ℕ} {m m' : Meaning} {args : Terms} {news news' : List Bound}
        {form form' : Flat} → SameKind m m' → IsNamed p s n m args news form
        → IsNamed p s' n' m' args news' form' → length news ≡ length news'
    named_count Locals (OfLocal a) (OfLocal a') = args_count a a'
    named_count Same (OfPrimitive a) (OfPrimitive a') = args_count a a'
    named_count Same (OfLocal a) (OfLocal a') = args_count a a'
    named_count Same (OfGlobal a) (OfGlobal a') = args_count a a'
    named_count Same (Called k a) (Called k' a') = args_count a a'
    named_count Same (Called k a) (Partial k' a') = args_count a a'
    named_count Same (Partial k a) (Called k' a') = args_count a a'
    named_count Same (Partial k a) (Partial k' a') = args_count a a'
    named_count Same (Called k a) (Exceeded first rest news1 news2 xs es h k' a' b is)
        = absurd (omega (
          arith,
          k,
          k',
          args_size p s a,
          args_size p s' a',
          ap size es,
          size_append first rest,
          size_pos rest h,
        ))
    named_count Same (Partial k a) (Exceeded first rest news1 news2 xs es h k' a' b is)
        = absurd (omega (
          arith,
          k,
          k',
          args_size p s a,
          args_size p s' a',
          ap size es,
          size_append first rest,
          size_pos rest h,
        ))
    named_count Same (Exceeded first rest news1 news2 xs es h k a b is) (Called k' a')
        = absurd (omega (
          arith,
          k,
          k',
          args_size p s a,
          args_size p s' a',
          ap size es,
          size_append first rest,
          size_pos rest h,
        ))
    named_count Same (Exceeded first rest news1 news2 xs es h k a b is) (Partial k' a')
        = absurd (omega (
          arith,
          k,
          k',
          args_size p s a,
          args_size p s' a',
          ap size es,
          size_append first rest,
          size_pos rest h,
        ))
    named_count {n' = n'} {form' = form'} Same
        (Exceeded {g = g} first rest news1 news2 xs es h k a b is)
        (Exceeded first' rest' news1' news2' xs' es' h' k' a' b' is') =
        let sp = split_one first rest first' rest' (sym es ∙ es')
        (omega (arith, k, k', args_size p s a, args_size p s' a')) in
        added news1 news2 _ news1' news2' _ is is'
        (args_count a (subst (λ q. AreArgs p s' n' q news1' xs') (sym sp.0) a'))
        (applied_count b
        (subst (λ q. IsApplied p s' (n' + length news1') (flat.Call g xs') q news2' form')
        (sym sp.1) b'))

    applied_count : {n n' : ℕ} {f f' : Flat} {args : Terms} {news news' : List Bound}
        {form form' : Flat} → IsApplied p s n f args news form
        → IsApplied p s' n' f' args news' form' → length news ≡ length news'
    applied_count (Applied a) (Applied a') = ap suc (args_count a a')

    args_count : {n n' : ℕ} {args : Terms} {news news' : List Bound} {xs xs' : List Var}
        → AreArgs p s n args news xs → AreArgs p s' n' args news' xs' → length news ≡ length news'
    args_count NoArgs NoArgs = refl
    args_count (AndArg news1 news2 a b is) (AndArg news1' news2' a' b' is')
        = added news1 news2 _ news1' news2' _ is is' (arg_count a a') (args_count b b')

    arg_count : {n n' : ℕ} {a : Term} {news news' : List Bound} {x x' : Var} → IsArg p s n a news x
        → IsArg p s' n' a news' x' → length news ≡ length news'
    arg_count (Itself e) (Itself e') = refl
    arg_count {a = a} (Itself e) (New t e' b is is') = absurd (clash p s s' al a _ e e')
    arg_count {a = a} (New t e b is is') (Itself e') = absurd (clash p s' s al' a _ e' e)
    arg_count (New {news = xs} {form = f} t e a is js) (New {news = ys} {form = g} t' e' a' is' js')
        = added xs (bound t f ∷ []) _ ys (bound t' g ∷ []) _ js js' (flat_count a a') refl
