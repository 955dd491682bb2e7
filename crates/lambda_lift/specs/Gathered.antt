-- The free names of a lambda, gathered one use after the other. A device of the proofs.
use Rattle.std.specs.Prelude.{ℕ, Bool, ◌&&◌, not, nat_lt, cond, List, [], ◌∷◌, ◌++◌, map, length}
use Rattle.seq.specs.Lists.{is_among}
use Rattle.core_reader.specs.declared.syntax.Binder.{Binder}
use Rattle.core_reader.specs.Grammar.{name_id}
use Rattle.lambda_reader.specs.Tree.{Group, NoBinds, AndValue, AndFunction, Program}
use Rattle.lambda_reader.specs.Code.{Application}
use Rattle.arity_check.specs.Scope.{Scope}
use Rattle.lambda_lift.specs.Headers.{is_local}
use Rattle.lambda_lift.specs.Free.{uses_term, uses_terms}

-- A text's names alone, as a program that declares nothing. Which names are free and what a body is
-- lifted to hangs on the names alone.
abbrev pub program_of_names : List (List ℕ) → Program
program_of_names names = record { names = names; constructors = []; functions = [] }

-- the names of locals, and locals that have their binders' numbers
abbrev pub scope_names : Scope → List ℕ
scope_names s = map (λ b. b.0) s

abbrev pub scope_of_binders : List Binder → Scope
scope_of_binders bs = map (λ b. (b.name.0, b.name.0)) bs

-- whether a use adds a name to those that were gathered, of which there are so many at most
abbrev pub is_new : (ℕ → Bool) → ℕ → List ℕ → ℕ → Bool
is_new test limit found x = test x && (nat_lt (length found) limit && not (is_among x found))

abbrev pub with_free_name : (ℕ → Bool) → ℕ → List ℕ → ℕ → List ℕ
with_free_name test limit found x = cond (is_new test limit found x) (found ++ x ∷ []) found

unfoldable pub collected_free_names : (ℕ → Bool) → ℕ → List ℕ → List ℕ → List ℕ
collected_free_names test limit found [] = found
collected_free_names test limit found (x ∷ xs) =
    collected_free_names test limit (with_free_name test limit found x) xs

-- the uses of locals of this scope, behind names that were gathered
abbrev pub collected_in_scope : List (List ℕ) → Scope → ℕ → List ℕ → List ℕ → List ℕ
collected_in_scope names s limit found xs =
    collected_free_names (is_local (program_of_names names) s) limit found xs

-- the uses in an application
abbrev pub uses_in_application : List ℕ → Application → List ℕ
uses_in_application inside app = uses_term inside app.head ++ uses_terms inside app.args

-- the binder of a group's first member, if there is one
abbrev pub first_binder : Group → Binder
first_binder NoBinds = record { name = name_id 0; at = 0 }
first_binder (AndValue b head args rest) = b
first_binder (AndFunction b params body rest) = b
