-- The normal form of an application has little more than the application has heads and arguments.
use Rattle.std.proofs.Common.{◌≡◌, ℕ, ◌≤◌, ◌+◌, ◌*◌, List, [], ◌∷◌, ◌++◌, length, ap, arith}
use Rattle.std.specs.Prelude.{sum_by}
use Rattle.std.proofs.lemmas.List.Sums.{sum_by-cons}
use Rattle.core_reader.specs.Tree.{Program, Term, Terms, NoTerms, AndTerm, Name, Con, Int, Bracket, Bind}
use Rattle.core_reader.specs.Size.{term_size, terms_size, bind_size}
use Rattle.arity_check.specs.declared.normal.Flat.{Flat}
use Rattle.arity_check.specs.declared.normal.Flat.TheVariants as flat
use Rattle.arity_check.specs.declared.normal.Var.{Var}
use Rattle.arity_check.specs.declared.normal.Bound.{Bound}
use Rattle.arity_check.specs.declared.meaning.Meaning.{Meaning}
use Rattle.arity_check.specs.Scope.{Scope}
use Rattle.arity_check.specs.Normal.{append, HasTerm, IsFlat, Number, Constructor, Named, IsNamed, OfPrimitive, OfLocal, OfGlobal, Called, Partial, Exceeded, NumberApplied, BracketApplied, LoneHead, LoneBracket, IsApplied, Applied, AreArgs, NoArgs, AndArg, IsArg, Itself, New, IsGroup, NoMembers, AndMember}

-- the variables that stand in a form
abbrev pub form_words : Flat → ℕ
form_words (flat.Int k) = 0
form_words (flat.Con c xs) = length xs
form_words (flat.Part f xs) = length xs
form_words (flat.Call f xs) = length xs
form_words (flat.Apply x xs) = 1 + length xs
form_words (flat.Prim op x y) = 2

-- new bindings, each with the variables of its form
abbrev pub cost : List Bound → ℕ
cost [] = 0
cost (b ∷ bs) = 1 + form_words b.flat + cost bs

pub cost_append : (xs ys : List Bound) → cost (xs ++ ys) ≡ cost xs + cost ys
cost_append [] ys = omega arith
cost_append (x ∷ xs) ys = omega (arith, cost_append xs ys)

terms_append : (as' bs : Terms) → terms_size (append as' bs) ≡ terms_size as' + terms_size bs
terms_append NoTerms bs = omega arith
terms_append (AndTerm a as') bs = omega (arith, terms_append as' bs)

pub some_size : (a : Term) → 1 ≤ term_size a
some_size (Name x at) = omega arith
some_size (Con c at) = omega arith
some_size (Int k at) = omega arith
some_size (Bracket head args at) = omega (arith, some_size head)

module _ (p : Program) (s : Scope) where
  mutual
    pub flat_cost : {n : ℕ} {head : Term} {args : Terms} {news : List Bound} {form : Flat}
        → IsFlat p s n head args news form → cost news + form_words form + 4 ≤ 5 *
        (term_size head + terms_size args)
    flat_cost Number = omega arith
    flat_cost (Constructor e a) = omega (arith, args_cost a)
    flat_cost (Named a) = named_cost a
    flat_cost (NumberApplied a) = omega (arith, applied_cost a tt)
    flat_cost (BracketApplied inner news1 news2 a b is)
        = omega (arith, flat_cost a, applied_cost b tt, ap cost is, cost_append news1 news2)
    flat_cost (LoneHead a) = omega (arith, flat_cost a)
    flat_cost (LoneBracket a) = omega (arith, flat_cost a)

    named_cost : {n : ℕ} {m : Meaning} {args : Terms} {news : List Bound} {form : Flat}
        → IsNamed p s n m args news form → cost news + form_words form + 4 ≤ 5 *
        (1 + terms_size args)
    named_cost (OfPrimitive a) = omega (arith, args_cost a)
    named_cost (OfLocal a) = omega (arith, args_cost a)
    named_cost (OfGlobal a) = omega (arith, args_cost a)
    named_cost (Called k a) = omega (arith, args_cost a)
    named_cost (Partial k a) = omega (arith, args_cost a)
    named_cost (Exceeded first rest news1 news2 xs es h k a b is)
        = omega (
          arith,
          args_cost a,
          applied_cost b h,
          ap cost is,
          cost_append news1 news2,
          ap terms_size es,
          terms_append first rest,
        )

    applied_cost : {n : ℕ} {inner : Flat} {args : Terms} {news : List Bound} {form : Flat}
        → IsApplied p s n inner args news form → HasTerm args
        → cost news + form_words form ≤ form_words inner + 5 * terms_size args
    applied_cost (Applied a) h = omega (arith, args_cost a, some_args a h)

    some_args : {n : ℕ} {args : Terms} {news : List Bound} {xs : List Var}
        → AreArgs p s n args news xs → HasTerm args → 1 ≤ length xs
    some_args NoArgs h = absurd h
    some_args (AndArg news1 news2 a b is) h = omega arith

    args_cost : {n : ℕ} {args : Terms} {news : List Bound} {xs : List Var}
        → AreArgs p s n args news xs → cost news + 3 * length xs ≤ 5 * terms_size args
    args_cost NoArgs = omega arith
    args_cost (AndArg news1 news2 a b is) = omega
        (arith, arg_cost a, args_cost b, ap cost is, cost_append news1 news2)

    arg_cost : {n : ℕ} {a : Term} {news : List Bound} {x : Var} → IsArg p s n a news x
        → cost news + 3 ≤ 5 * term_size a
    arg_cost (Itself {a = a} e) = omega (arith, some_size a)
    arg_cost (New {news = news} {form = form} t e a is group)
        = omega (
          arith,
          flat_cost a,
          ap cost group,
          cost_append news (record { local = t; flat = form } ∷ []),
        )

  pub group_cost : {n : ℕ} {binds : List Bind} {group : List Bound} {xs : List ℕ}
      → IsGroup p s n binds group xs → cost group ≤ 5 * sum_by bind_size binds
  group_cost NoMembers = omega arith
  group_cost (AndMember {b = b} {bs = bs} news bounds form t a is g e)
      = omega (
        arith,
        flat_cost a,
        group_cost g,
        ap cost e,
        cost_append news (record { local = t; flat = form } ∷ bounds),
        sum_by-cons bind_size b bs,
      )
