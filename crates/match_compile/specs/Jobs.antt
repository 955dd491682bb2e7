-- Rows of equations on their way: what is left to be matched, and that a value that is known
-- decides the tests of its name.
use Rattle.std.specs.Prelude.{◌≡◌, ℕ, suc, ◌==◌, Bool, true, false, cond, List, [], ◌∷◌, ◌++◌, length, Some, slice_get}
use Rattle.arity_check.specs.Program as normal
use Rattle.core_meaning.specs.Heap.{Value, Known}
use Rattle.core_meaning.specs.Evaluation.{State, Answer, NoAlternative, DelayedEvaluator, is_con, fields_of, is_int, parameters, eval}
use Rattle.match_compile.specs.Form.{Form, Any, Is, Has, Forms, NoForms, AndForm, Equations}
use Rattle.match_compile.specs.ByEquations.{without_bodies, match, within}

-- the name of a value, and the form that it is to be matched with
abbrev pub MatchTask : Type 0
MatchTask = ℕ × Form

-- a body, the names that are bound, and what is left
pub record MatchAttempt : Type 0 where
  pub body : normal.Term
  pub bound : List ℕ
  pub tasks : List MatchTask

abbrev pub attempt : normal.Term → List ℕ → List MatchTask → MatchAttempt
attempt body bound tasks = record { body = body; bound = bound; tasks = tasks }

-- forms for these names
abbrev pub tasks_of : List ℕ → Forms → List MatchTask
tasks_of as' NoForms = []
tasks_of [] (AndForm f fs) = []
tasks_of (a ∷ as') (AndForm f fs) = (a, f) ∷ tasks_of as' fs

abbrev pub count : Forms → ℕ
count NoForms = 0
count (AndForm f fs) = suc (count fs)

module _ (q : Equations) (onward : DelayedEvaluator) where
  abbrev pub meets : List MatchTask → List ℕ → ℕ → State → (List ℕ → State → Answer)
      → (State → Answer) → Answer
  meets [] bound d s go fails = go bound s
  meets (j ∷ js) bound d s go fails =
      match q onward j.1 j.0 bound d s (λ bound s. meets js bound d s go fails) fails

  -- the first attempt whose tasks are met gives the body
  abbrev pub attempts : List MatchAttempt → ℕ → State → Answer
  attempts [] d s = NoAlternative s
  attempts (r ∷ rs) d s =
      meets r.tasks r.bound d s
      (λ xs s. eval (without_bodies q) onward r.body (parameters xs) d s) (λ s. attempts rs d s)

-- ---- where a value is known

abbrev pub kept_by : Bool → MatchAttempt → List MatchAttempt
kept_by true r = r ∷ []
kept_by false r = []

-- an attempt whose first task is this form at a name of the value
abbrev pub decided_by : Value → MatchAttempt → Form → List MatchTask → List MatchAttempt
decided_by v r Any js = r ∷ []
decided_by v r (Is k) js = kept_by (is_int k v) (attempt r.body r.bound js)
decided_by v r (Has k fs) js =
    kept_by (is_con k v) (attempt r.body r.bound (tasks_of (fields_of v) fs ++ js))

abbrev pub known_first : ℕ → Value → MatchAttempt → List MatchTask → List MatchAttempt
known_first a v r [] = r ∷ []
known_first a v r (j ∷ js) = cond (j.0 == a) (decided_by v r j.1 js) (r ∷ [])

abbrev pub attempts_with_value : ℕ → Value → List MatchAttempt → List MatchAttempt
attempts_with_value a v [] = []
attempts_with_value a v (r ∷ rs) = known_first a v r r.tasks ++ attempts_with_value a v rs

-- a form for as many fields as the value has, where it is one of the constructor
abbrev pub FormFits : Value → Form → Type 0
FormFits v Any = Unit {0}
FormFits v (Is k) = Unit {0}
FormFits v (Has k fs) = is_con k v ≡ true → length (fields_of v) ≡ count fs

abbrev pub TaskFits : ℕ → Value → List MatchTask → Type 0
TaskFits a v [] = Unit {0}
TaskFits a v (j ∷ js) = j.0 ≡ a → FormFits v j.1

abbrev pub AttemptsFit : ℕ → Value → List MatchAttempt → Type 0
AttemptsFit a v [] = Unit {0}
AttemptsFit a v (r ∷ rs) = TaskFits a v r.tasks × AttemptsFit a v rs

-- A value that is known decides the tests of its name that come first, whatever was tried before.
abbrev pub KnownValueSpecialises : Type 0
KnownValueSpecialises =
    (q : Equations) (n a : ℕ) (v : Value) (rs : List MatchAttempt) (d : ℕ) (s : State)
    → AttemptsFit a v rs → slice_get s.heap a ≡ Some (Known v)
    → attempts q (within q n) rs d s ≡ attempts q (within q n) (attempts_with_value a v rs) d s
