-- Which function of the lifted program stands for a function, a lambda or a local function of the
-- text, and
-- which names it is given first.
use Rattle.std.proofs.Common.{◌≡◌, ℕ, suc, ◌+◌, List, [], ◌∷◌, ◌++◌, map, length, Some, slice_get, refl, sym, subst, arith}
use Rattle.seq.proofs.Lists.{get_left, get_right}
use Rattle.core_reader.specs.declared.syntax.Binder.{Binder}
use Rattle.lambda_reader.specs.Tree.{Expr, Program}
use Rattle.lambda_reader.specs.Grammar.{HasParameter}
use Rattle.arity_check.specs.declared.meaning.Meaning.{Meaning}
use Rattle.arity_check.specs.declared.meaning.Meaning.TheVariants.{Local, Primitive, Unbound}
use Rattle.arity_check.specs.declared.meaning.Meaning.TheVariants as stands
use Rattle.arity_check.specs.Scope.{Scope}
use Rattle.lambda_lift.specs.Headers.{names_of, means, within}
use Rattle.lambda_lift.specs.Free.{free}
use Rattle.lambda_lift.specs.Abstractions.{Abstraction, in_expr, abstractions}
use Rattle.lambda_lift.specs.Meaning.{Fun, Top, Closure}
use Rattle.lambda_lift.proofs.Fits.{Below, Fits}
use Rattle.lambda_lift.proofs.Matching.{HasTop}
use Rattle.lambda_lift.proofs.Scopes.{Alike}

abbrev pub abstraction : Scope → List Binder → Expr → ℕ → Abstraction
abstraction s params body at = record { scope = s; params = params; body = body; at = at }

-- these items stand in a list from a place on
pub record Located {X : Type 0} (whole part : List X) (k : ℕ) : Type 0 where
  pub at : (i : ℕ) (x : X) → slice_get part i ≡ Some x → slice_get whole (k + i) ≡ Some x

pub located_left : {X : Type 0} (whole xs ys : List X) (k : ℕ) → Located whole (xs ++ ys) k
    → Located whole xs k
located_left whole xs ys k l = record { at = λ i x e. l.at i x (get_left xs ys i x e) }

pub located_right : {X : Type 0} (whole xs ys : List X) (k : ℕ) → Located whole (xs ++ ys) k
    → Located whole ys (k + length xs)
located_right whole xs ys k l = record {
  at = λ i x e. let same : k + length xs + i ≡ k + (length xs + i) = omega arith
      in subst (λ n. slice_get whole n ≡ Some x) (sym same)
      (l.at (length xs + i) x (get_right xs ys i x e));
}

pub located_first : {X : Type 0} (whole : List X) (x : X) (ys : List X) (k : ℕ)
    → Located whole (x ∷ ys) k → slice_get whole k ≡ Some x
located_first whole x ys k l = let same : k + 0 ≡ k = omega arith
    in subst (λ n. slice_get whole n ≡ Some x) same (l.at 0 x refl)

pub located_rest : {X : Type 0} (whole : List X) (x : X) (ys : List X) (k : ℕ)
    → Located whole (x ∷ ys) k → Located whole ys (suc k)
located_rest whole x ys k l = record {
  at = λ i y e. let same : k + suc i ≡ suc k + i = omega arith
      in subst (λ n. slice_get whole n ≡ Some y) same (l.at (suc i) y e);
}

abbrev pub number_in : Meaning → ℕ
number_in (Local a) = a
number_in (stands.Function f k) = 0
number_in (Primitive op) = 0
number_in Unbound = 0

module _ (c : Program) where
  -- the name that the environment gives a local
  abbrev pub local_name : Scope → ℕ → ℕ
  local_name env x = number_in (means c env x)

  abbrev pub fronts : Scope → List ℕ → List ℕ
  fronts env xs = map (local_name env) xs

  -- a text's lambda or local function that stands at number k, in a scope with the same names as
  -- its
  -- environment
  pub record Lifts (s env : Scope) (params : List Binder) (body : Expr) (k : ℕ) : Type 0 where
    pub at : ℕ
    pub located : Located (abstractions c)
        (abstraction s params body at ∷ in_expr c (within c params s) body) k
    pub alike : Alike s env
    pub some : HasParameter params
    pub below : Below (length c.names) (names_of params)
    pub fits : Fits (length c.names) (λ x. Unit {0}) body

  pub data Stands : Fun → List ℕ → ℕ → Type 0 where
    AsTop : {f k : ℕ} → HasTop c f k → Stands (Top f) [] f
    AsClosure : {s env : Scope} {params : List Binder} {body : Expr} {front : List ℕ} {g : ℕ}
        (k : ℕ) → Lifts s env params body k
        → front ≡ fronts env (free c env params body) → g ≡ length c.functions + k
        → Stands (Closure params body env) front g
