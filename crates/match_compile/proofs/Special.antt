-- A value that is known decides the tests of its name.
use Rattle.std.proofs.Common.{◌≡◌, ℕ, suc, Bool, true, false, cond, List, [], ◌∷◌, ◌++◌, length, Some, refl, sym, ap, ◌∙◌, arith}
use Rattle.std.specs.Prelude.{◌==◌, slice_get}
use Rattle.seq.proofs.Order.{eq_from}
use Rattle.core_meaning.specs.Heap.{Value, Known}
use Rattle.core_meaning.specs.Evaluation.{State, Answer, Gives, NoAlternative, OutOfBound, and_then, DelayedEvaluator, is_con, fields_of, is_int, parameters, force_binding, force, eval}
use Rattle.match_compile.specs.Form.{Form, Any, Is, Has, Forms, NoForms, AndForm, Equations}
use Rattle.match_compile.specs.ByEquations.{without_bodies, match, matches, within}
use Rattle.match_compile.specs.Stays.{answer_state, KeepsKnownValues}
use Rattle.match_compile.specs.Jobs.{MatchTask, MatchAttempt, attempt, tasks_of, count, meets, attempts, kept_by, decided_by, known_first, attempts_with_value, FormFits, TaskFits, AttemptsFit, KnownValueSpecialises}
use Rattle.match_compile.proofs.Kept.{Stays, same, on, force_stays, known_stays}

-- some of the attempts whose first task is at the name are decided
pub data SomeDecided (a : ℕ) (v : Value) : List MatchAttempt → List MatchAttempt → Type 0 where
  NoneDecided : SomeDecided a v [] []
  OneStays : {r : MatchAttempt} {rs rs' : List MatchAttempt} → SomeDecided a v rs rs'
      → SomeDecided a v (r ∷ rs) (r ∷ rs')
  OneDecided : {r : MatchAttempt} {rs rs' out : List MatchAttempt} (f : Form) (js : List MatchTask)
      → r.tasks ≡ (a, f) ∷ js → FormFits v f → out ≡ decided_by v r f js ++ rs'
      → SomeDecided a v rs rs' → SomeDecided a v (r ∷ rs) out

-- two ways on that agree from here on
abbrev Agree : State → (State → Answer) → (State → Answer) → Type 0
Agree s c c' = (t : State) → KeepsKnownValues s t → c t ≡ c' t

agree_on : (s t : State) (c c' : State → Answer) → KeepsKnownValues s t → Agree s c c'
    → Agree t c c'
agree_on s t c c' k g u l = g u (on s t u k l)

then_agrees : (s : State) (r : Answer) (go go' : Value → State → Answer)
    → KeepsKnownValues s (answer_state r) → ((v : Value) → Agree s (go v) (go' v))
    → and_then r go ≡ and_then r go'
then_agrees s (Gives v t) go go' k g = g v t k
then_agrees s (NoAlternative t) go go' k g = refl
then_agrees s (OutOfBound t) go go' k g = refl

-- one of two answers
abbrev choose : Bool → Answer → Answer → Answer
choose b x y = elim b [ true ↦ x | false ↦ y ]

cases_agree : (b : Bool) (x x' y y' : Answer) → x ≡ x' → y ≡ y' → choose b x y ≡ choose b x' y'
cases_agree true x x' y y' e f = e
cases_agree false x x' y y' e f = f

module _ (q : Equations) (onward : DelayedEvaluator) (goes : (t : _) (d : ℕ) → Stays (onward t d))
  where
    mutual
      match_agrees : (f : Form) (a : ℕ) (bound : List ℕ) (d : ℕ) (s : State)
          (go go' : List ℕ → State → Answer) (fails fails' : State → Answer)
          → ((xs : List ℕ) → Agree s (go xs) (go' xs)) → Agree s fails fails'
          → match q onward f a bound d s go fails ≡ match q onward f a bound d s go' fails'
      match_agrees Any a bound d s go go' fails fails' g f = g (bound ++ a ∷ []) s (same s)
      match_agrees (Is k) a bound d s go go' fails fails' g f =
          then_agrees s (force (without_bodies q) onward a (suc d) s)
          (λ v s. elim (is_int k v) [ true ↦ go bound s | false ↦ fails s ])
          (λ v s. elim (is_int k v) [ true ↦ go' bound s | false ↦ fails' s ])
          (force_stays q onward goes a (suc d) s)
          (λ v t l. cases_agree (is_int k v) (go bound t) (go' bound t) (fails t) (fails' t)
          (g bound t l) (f t l))
      match_agrees (Has k fs) a bound d s go go' fails fails' g f =
          then_agrees s (force (without_bodies q) onward a (suc d) s)
          (λ v s. elim (is_con k v)
          [ true ↦ matches q onward fs (fields_of v) bound d s go fails | false ↦ fails s ])
          (λ v s. elim (is_con k v)
          [ true ↦ matches q onward fs (fields_of v) bound d s go' fails' | false ↦ fails' s ])
          (force_stays q onward goes a (suc d) s)
          (λ v t l. cases_agree (is_con k v) (matches q onward fs (fields_of v) bound d t go fails)
          (matches q onward fs (fields_of v) bound d t go' fails') (fails t) (fails' t)
          (matches_agree fs (fields_of v) bound d t go go' fails fails'
          (λ xs. agree_on s t (go xs) (go' xs) l (g xs)) (agree_on s t fails fails' l f)) (f t l))

      matches_agree : (fs : Forms) (as' bound : List ℕ) (d : ℕ) (s : State)
          (go go' : List ℕ → State → Answer) (fails fails' : State → Answer)
          → ((xs : List ℕ) → Agree s (go xs) (go' xs)) → Agree s fails fails'
          → matches q onward fs as' bound d s go fails ≡ matches q onward fs as' bound d s go'
          fails'
      matches_agree NoForms as' bound d s go go' fails fails' g f = g bound s (same s)
      matches_agree (AndForm p ps) [] bound d s go go' fails fails' g f = f s (same s)
      matches_agree (AndForm p ps) (a ∷ as') bound d s go go' fails fails' g f =
          match_agrees p a bound d s (λ xs t. matches q onward ps as' xs d t go fails)
          (λ xs t. matches q onward ps as' xs d t go' fails') fails fails'
          (λ xs t l. matches_agree ps as' xs d t go go' fails fails'
          (λ ys. agree_on s t (go ys) (go' ys) l (g ys)) (agree_on s t fails fails' l f)) f

    meets_agrees : (js : List MatchTask) (bound : List ℕ) (d : ℕ) (s : State)
        (go : List ℕ → State → Answer) (fails fails' : State → Answer) → Agree s fails fails'
        → meets q onward js bound d s go fails ≡ meets q onward js bound d s go fails'
    meets_agrees [] bound d s go fails fails' f = refl
    meets_agrees (j ∷ js) bound d s go fails fails' f =
        match_agrees j.1 j.0 bound d s (λ xs t. meets q onward js xs d t go fails)
        (λ xs t. meets q onward js xs d t go fails') fails fails'
        (λ xs t l. meets_agrees js xs d t go fails fails' (agree_on s t fails fails' l f)) f

    -- forms for fields are tasks before the others
    pub fields_first : (fs : Forms) (as' : List ℕ) (js : List MatchTask) (bound : List ℕ) (d : ℕ)
        (s : State) (go : List ℕ → State → Answer) (fails : State → Answer) → length as' ≡ count fs
        → matches q onward fs as' bound d s (λ xs t. meets q onward js xs d t go fails) fails ≡
        meets
        q onward (tasks_of as' fs ++ js) bound d s go fails
    fields_first NoForms as' js bound d s go fails e = refl
    fields_first (AndForm f fs) [] js bound d s go fails e = absurd (omega (arith, e))
    fields_first (AndForm f fs) (a ∷ as') js bound d s go fails e =
        match_agrees f a bound d s
        (λ xs t. matches q onward fs as' xs d t (λ xs t. meets q onward js xs d t go fails) fails)
        (λ xs t. meets q onward (tasks_of as' fs ++ js) xs d t go fails) fails fails
        (λ xs t l. fields_first fs as' js xs d t go fails (omega (arith, e))) (λ t l. refl)

    abbrev pub body_of : MatchAttempt → ℕ → List ℕ → State → Answer
    body_of r d xs s = eval (without_bodies q) onward r.body (parameters xs) d s

    pub known_value : (a d : ℕ) (v : Value) (s : State) (go : Value → State → Answer)
        → slice_get s.heap a ≡ Some (Known v) → and_then (force (without_bodies q) onward a d s) go
        ≡
        go v s
    known_value a d v s go e = ap
        (λ b. and_then (force_binding (without_bodies q) onward b a d s) go)
        e

    kept_on : (b : Bool) (r : MatchAttempt) (rest : List MatchAttempt) (d : ℕ) (s : State)
        → choose b
        (meets q onward r.tasks r.bound d s (body_of r d) (λ s. attempts q onward rest d s))
        (attempts q onward rest d s) ≡ attempts q onward (kept_by b r ++ rest) d s
    kept_on true r rest d s = refl
    kept_on false r rest d s = refl

    fitting : (b : Bool) (r : MatchAttempt) (fs : Forms) (as' : List ℕ) (js : List MatchTask)
        (d : ℕ)
        (s : State) (fails : State → Answer) → (b ≡ true → length as' ≡ count fs)
        → choose b
        (matches q onward fs as' r.bound d s
        (λ xs t. meets q onward js xs d t (body_of r d) fails) fails) (fails s) ≡ choose b
        (meets q onward (tasks_of as' fs ++ js) r.bound d s (body_of r d) fails) (fails s)
    fitting true r fs as' js d s fails e = fields_first fs as' js r.bound d s (body_of r d) fails
        (e refl)
    fitting false r fs as' js d s fails e = refl

    -- an attempt whose first task is at the name
    one_decided : (a : ℕ) (v : Value) (r : MatchAttempt) (f : Form) (js : List MatchTask)
        (rest : List MatchAttempt) (d : ℕ) (s : State) → r.tasks ≡ (a, f) ∷ js → FormFits v f
        → slice_get s.heap a ≡ Some (Known v)
        → meets q onward ((a, f) ∷ js) r.bound d s (body_of r d) (λ s. attempts q onward rest d s) ≡
        attempts q onward (decided_by v r f js ++ rest) d s
    one_decided a v r Any js rest d s is fit e = ap
        (λ ts. meets q onward ts r.bound d s (body_of r d) (λ s. attempts q onward rest d s))
        (sym is)
    one_decided a v r (Is k) js rest d s is fit e =
        known_value a (suc d) v s
        (λ v s. elim (is_int k v) [
          | true ↦ meets q onward js r.bound d s (body_of r d) (λ s. attempts q onward rest d s)
          | false ↦ attempts q onward rest d s
        ]) e
        ∙ kept_on (is_int k v) (attempt r.body r.bound js) rest d s
    one_decided a v r (Has k fs) js rest d s is fit e =
        known_value a (suc d) v s
        (λ v s. elim (is_con k v) [
          | true ↦ matches q onward fs (fields_of v) r.bound d s
              (λ xs t. meets q onward js xs d t (body_of r d) (λ s. attempts q onward rest d s))
              (λ s. attempts q onward rest d s)
          | false ↦ attempts q onward rest d s
        ]) e
        ∙ fitting (is_con k v) r fs (fields_of v) js d s (λ s. attempts q onward rest d s) fit
        ∙ kept_on (is_con k v) (attempt r.body r.bound (tasks_of (fields_of v) fs ++ js)) rest d s

    pub some_decided : (a : ℕ) (v : Value) (rs rs' : List MatchAttempt) → SomeDecided a v rs rs'
        → (d : ℕ) (s : State) → slice_get s.heap a ≡ Some (Known v)
        → attempts q onward rs d s ≡ attempts q onward rs' d s
    some_decided a v rs rs' NoneDecided d s e = refl
    some_decided a v rs rs' (OneStays {r = r} {rs = ss} {rs' = ss'} h) d s e =
        meets_agrees r.tasks r.bound d s (body_of r d) (λ s. attempts q onward ss d s)
        (λ s. attempts q onward ss' d s) (λ t l. some_decided a v ss ss' h d t (l.1 a v e))
    some_decided a v rs rs' (OneDecided {r = r} {rs = ss} {rs' = ss'} f js is fit out h) d s e =
        meets_agrees r.tasks r.bound d s (body_of r d) (λ s. attempts q onward ss d s)
        (λ s. attempts q onward ss' d s) (λ t l. some_decided a v ss ss' h d t (l.1 a v e))
        ∙ ap (λ ts. meets q onward ts r.bound d s (body_of r d) (λ s. attempts q onward ss' d s)) is
        ∙ one_decided a v r f js ss' d s is fit e
        ∙ ap (λ w. attempts q onward w d s) (sym out)

-- all that begin at the name
first_decided : (a : ℕ) (v : Value) (r : MatchAttempt) (ts : List MatchTask)
    (rs rs' : List MatchAttempt) → r.tasks ≡ ts → TaskFits a v ts → SomeDecided a v rs rs'
    → SomeDecided a v (r ∷ rs) (known_first a v r ts ++ rs')
first_decided a v r [] rs rs' is fit h = OneStays h
first_decided a v r (j ∷ js) rs rs' is fit h = go (j.0 == a) refl
  where
    go : (b : Bool) → (j.0 == a) ≡ b → SomeDecided a v (r ∷ rs)
        (cond b (decided_by v r j.1 js) (r ∷ []) ++ rs')
    go false e = OneStays h
    go true e =
        let at : j.0 ≡ a = eq_from j.0 a e in
        OneDecided j.1 js (is ∙ ap (λ (b : ℕ). (b, j.1) ∷ js) at) (fit at) refl h

all_decided : (a : ℕ) (v : Value) (rs : List MatchAttempt) → AttemptsFit a v rs
    → SomeDecided a v rs (attempts_with_value a v rs)
all_decided a v [] fit = NoneDecided
all_decided a v (r ∷ rs) fit = first_decided a v r r.tasks rs (attempts_with_value a v rs) refl
    fit.0 (all_decided a v rs fit.1)

pub specialises : KnownValueSpecialises
specialises q n a v rs d s fit e = some_decided q (within q n) (known_stays q n) a v rs
    (attempts_with_value a v rs) (all_decided a v rs fit) d s e
