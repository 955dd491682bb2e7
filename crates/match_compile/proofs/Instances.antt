-- Equations on their way whose names are locals, in an environment; and what they become where a
-- local
-- has a value.
use Rattle.std.proofs.Common.{◌≡◌, ℕ, zero, suc, ◌+◌, ◌≤◌, ◌<◌, Bool, true, false, cond, List, [], ◌∷◌, ◌++◌, map, length, refl, sym, ap, ◌∙◌, subst, arith}
use Rattle.std.specs.Prelude.{◌==◌, ℤ}
use Rattle.std.specs.List.{range_with_len}
use Rattle.seq.specs.Lists.{AllOf, In, here, there}
use Rattle.seq.proofs.Lists.{map_append, map_push, all_append, append_again}
use Rattle.seq.proofs.Order.{eq_self, eq_false, eq_from}
use Rattle.arity_check.specs.Program as normal
use Rattle.core_meaning.specs.Heap.{Value, Env, with_local, with_locals}
use Rattle.core_meaning.specs.Evaluation.{State, DelayedEvaluator, is_con, is_int, fields_of, parameters, eval}
use Rattle.match_compile.specs.Form.{Form, Any, Is, Has, Forms, NoForms, AndForm, Equations}
use Rattle.match_compile.specs.ByEquations.{without_bodies}
use Rattle.match_compile.specs.Jobs.{MatchTask, MatchAttempt, attempt, tasks_of, meets, attempts, kept_by, decided_by, known_first, attempts_with_value}
use Rattle.match_compile.specs.Decides.{TestKind, Integer, Constructor, IsTestOfKind, with_names_bound, settled, AttemptsLeftOver, NoneLeft, Stays, Goes, FormOk, FormsOk}
use Rattle.match_compile.proofs.Special.{SomeDecided, NoneDecided, OneStays, OneDecided}

-- ---- environments

local_here : (env : Env) (x a : ℕ) → with_local env x a x ≡ a
local_here env x a = rw (eq_self x) refl

local_other : (env : Env) (x a y : ℕ) → y < x → with_local env x a y ≡ env y
local_other env x a y lt = rw (eq_false y x (λ e. omega (arith, e, lt))) refl

pub locals_before : (len m : ℕ) (as' : List ℕ) (env : Env) (y : ℕ) → y < m
    → with_locals env (range_with_len m len) as' y ≡ env y
locals_before zero m as' env y lt = refl
locals_before (suc len) m [] env y lt = refl
locals_before (suc len) m (a ∷ as') env y lt = locals_before len (m + 1) as' (with_local env m a) y
    (omega (arith, lt)) ∙ local_other env m a y lt

pub locals_are : (len m : ℕ) (as' : List ℕ) (env : Env) → length as' ≡ len
    → map (with_locals env (range_with_len m len) as') (range_with_len m len) ≡ as'
locals_are zero m [] env e = refl
locals_are zero m (a ∷ as') env e = absurd (omega (arith, e))
locals_are (suc len) m [] env e = absurd (omega (arith, e))
locals_are (suc len) m (a ∷ as') env e =
    let first : with_locals (with_local env m a) (range_with_len (m + 1) len) as' m ≡ a
    = locals_before len (m + 1) as' (with_local env m a) m (omega arith) ∙ local_here env m a in
    let rest = locals_are len (m + 1) as' (with_local env m a) (omega (arith, e)) in
    λ i. first i ∷ rest i

-- ---- instances

abbrev pub at : Env → MatchTask → MatchTask
at env j = (env j.0, j.1)

abbrev pub instance : Env → MatchAttempt → MatchAttempt
instance env r = attempt r.body (map env r.bound) (map (at env) r.tasks)

abbrev pub instances : Env → List MatchAttempt → List MatchAttempt
instances env rs = map (instance env) rs

-- names below n, with forms that have all their fields
abbrev pub TasksOk : (many : ℕ → ℕ) (n : ℕ) → List MatchTask → Type 0
TasksOk many n = AllOf (λ j. (j.0 < n) × FormOk many j.1)

pub record RowOk (many : ℕ → ℕ) (n : ℕ) (r : MatchAttempt) : Type 0 where
  pub bound : AllOf (λ x. x < n) r.bound
  pub tasks : TasksOk many n r.tasks

abbrev pub Below : ℕ → Env → Env → Type 0
Below n env env' = (y : ℕ) → y < n → env' y ≡ env y

names_same : (n : ℕ) (env env' : Env) → Below n env env' → (xs : List ℕ) → AllOf (λ x. x < n) xs
    → map env' xs ≡ map env xs
names_same n env env' b [] h = refl
names_same n env env' b (x ∷ xs) h = λ i. b x h.0 i ∷ names_same n env env' b xs h.1 i

module _ (many : ℕ → ℕ) where
  tasks_same : (n : ℕ) (env env' : Env) → Below n env env' → (js : List MatchTask)
      → TasksOk many n js → map (at env') js ≡ map (at env) js
  tasks_same n env env' b [] h = refl
  tasks_same n env env' b (j ∷ js) h = λ i. (b j.0 h.0.0 i, j.1) ∷ tasks_same n env env' b js h.1 i

  instance_same : (n : ℕ) (env env' : Env) → Below n env env' → (r : MatchAttempt) → RowOk many n r
      → instance env' r ≡ instance env r
  instance_same n env env' b r ok = λ i. attempt r.body (names_same n env env' b r.bound ok.bound i)
      (tasks_same n env env' b r.tasks ok.tasks i)

  -- ---- rows stay in order

  names_more : (n m : ℕ) → n ≤ m → (xs : List ℕ) → AllOf (λ x. x < n) xs → AllOf (λ x. x < m) xs
  names_more n m le [] h = tt
  names_more n m le (x ∷ xs) h = (let lt = h.0 in omega (arith, le, lt), names_more n m le xs h.1)

  tasks_more : (n m : ℕ) → n ≤ m → (js : List MatchTask) → TasksOk many n js → TasksOk many m js
  tasks_more n m le [] h = tt
  tasks_more n m le (j ∷ js) h =
      ((let lt = h.0.0 in omega (arith, le, lt), h.0.1), tasks_more n m le js h.1)

  row_more : (n m : ℕ) → n ≤ m → (r : MatchAttempt) → RowOk many n r → RowOk many m r
  row_more n m le r h = record
      { bound = names_more n m le r.bound h.bound; tasks = tasks_more n m le r.tasks h.tasks }

  pub rows_more : (n m : ℕ) → n ≤ m → (rs : List MatchAttempt) → AllOf (RowOk many n) rs
      → AllOf (RowOk many m) rs
  rows_more n m le [] h = tt
  rows_more n m le (r ∷ rs) h = (row_more n m le r h.0, rows_more n m le rs h.1)

  settled_by_ok : (n : ℕ) (body : normal.Term) (bound : List ℕ) (js : List MatchTask)
      → AllOf (λ x. x < n) bound → TasksOk many n js → RowOk many n (with_names_bound body bound js)
  settled_by_ok n body bound [] b h = record { bound = b; tasks = tt }
  settled_by_ok n body bound ((a, Any) ∷ js) b h = settled_by_ok n body (bound ++ a ∷ []) js
      (all_append (λ x. x < n) bound (a ∷ []) b (h.0.0, tt)) h.1
  settled_by_ok n body bound ((a, Is k) ∷ js) b h = record { bound = b; tasks = h }
  settled_by_ok n body bound ((a, Has c fs) ∷ js) b h = record { bound = b; tasks = h }

  pub settled_ok : (n : ℕ) (rs : List MatchAttempt) → AllOf (RowOk many n) rs
      → AllOf (RowOk many n) (map settled rs)
  settled_ok n [] h = tt
  settled_ok n (r ∷ rs) h =
      (settled_by_ok n r.body r.bound r.tasks h.0.bound h.0.tasks, settled_ok n rs h.1)

  pub tasks_ok : (n : ℕ) (xs : List ℕ) (fs : Forms) → AllOf (λ x. x < n) xs → FormsOk many fs
      → TasksOk many n (tasks_of xs fs)
  tasks_ok n xs NoForms b h = tt
  tasks_ok n [] (AndForm f fs) b h = tt
  tasks_ok n (x ∷ xs) (AndForm f fs) b h = ((b.0, h.0), tasks_ok n xs fs b.1 h.1)

  kept_ok : (n : ℕ) (b : Bool) (r : MatchAttempt) → RowOk many n r
      → AllOf (RowOk many n) (kept_by b r)
  kept_ok n true r h = (h, tt)
  kept_ok n false r h = tt

  decided_ok : (n : ℕ) (w : Value) → AllOf (λ x. x < n) (fields_of w)
      → (r : MatchAttempt) (f : Form) (js : List MatchTask) → RowOk many n r → FormOk many f
      → TasksOk many n js → AllOf (RowOk many n) (decided_by w r f js)
  decided_ok n w b r Any js h g t = (h, tt)
  decided_ok n w b r (Is k) js h g t = kept_ok n (is_int k w) (attempt r.body r.bound js)
      (record { bound = h.bound; tasks = t })
  decided_ok n w b r (Has k fs) js h g t =
      kept_ok n (is_con k w) (attempt r.body r.bound (tasks_of (fields_of w) fs ++ js))
      (record {
        bound = h.bound;
        tasks = all_append (λ j. (j.0 < n) × FormOk many j.1)
            (tasks_of (fields_of w) fs) js (tasks_ok n (fields_of w) fs b g.1) t;
      })

  first_ok : (n y : ℕ) (w : Value) → AllOf (λ x. x < n) (fields_of w)
      → (r : MatchAttempt) (ts : List MatchTask) → RowOk many n r → TasksOk many n ts
      → AllOf (RowOk many n) (known_first y w r ts)
  first_ok n y w b r [] h t = (h, tt)
  first_ok n y w b r (j ∷ js) h t = by (j.0 == y)
    where
      by : (c : Bool) → AllOf (RowOk many n) (cond c (decided_by w r j.1 js) (r ∷ []))
      by true = decided_ok n w b r j.1 js h t.0.1 t.1
      by false = (h, tt)

  pub known_ok : (n y : ℕ) (w : Value) → AllOf (λ x. x < n) (fields_of w) → (rs : List MatchAttempt)
      → AllOf (RowOk many n) rs → AllOf (RowOk many n) (attempts_with_value y w rs)
  known_ok n y w b [] h = tt
  known_ok n y w b (r ∷ rs) h = all_append (RowOk many n) (known_first y w r r.tasks)
      (attempts_with_value y w rs) (first_ok n y w b r r.tasks h.0 h.0.tasks)
      (known_ok n y w b rs h.1)

  pub left_ok : (n y : ℕ) (seen : List TestKind) (rs left : List MatchAttempt)
      → AttemptsLeftOver y seen rs left → AllOf (RowOk many n) rs → AllOf (RowOk many n) left
  left_ok n y seen rs left NoneLeft h = tt
  left_ok n y seen rs left (Stays l) h = (h.0, left_ok n y seen _ _ l h.1)
  left_ok n y seen rs left (Goes f js k is kind at l) h = left_ok n y seen _ left l h.1

  -- ---- where a value is known

  -- a value whose fields are locals stands for one with the names that they have
  pub record StandsFor (env : Env) (w v : Value) : Type 0 where
    pub int : (k : ℤ) → is_int k w ≡ is_int k v
    pub con : (c : ℕ) → is_con c w ≡ is_con c v
    pub fields : map env (fields_of w) ≡ fields_of v
    pub fit : (c : ℕ) → is_con c v ≡ true → length (fields_of v) ≡ many c

  pub tasks_at : (env : Env) (xs : List ℕ) (fs : Forms)
      → map (at env) (tasks_of xs fs) ≡ tasks_of (map env xs) fs
  tasks_at env xs NoForms = refl
  tasks_at env [] (AndForm f fs) = refl
  tasks_at env (x ∷ xs) (AndForm f fs) = λ i. (env x, f) ∷ tasks_at env xs fs i

  kept_at : (env : Env) (b c : Bool) (r r' : MatchAttempt) → b ≡ c → instance env r ≡ r'
      → instances env (kept_by b r) ≡ kept_by c r'
  kept_at env true c r r' e f = subst (λ c. instances env (r ∷ []) ≡ kept_by c r') e (λ i. f i ∷ [])
  kept_at env false c r r' e f = subst (λ c. ◌≡◌ {A = List MatchAttempt} [] (kept_by c r')) e refl

  module _ (n : ℕ) (env env' : Env) (below : Below n env env') (y : ℕ) (w v : Value)
      (stands : StandsFor env' w v) where
    stays_there : (r : MatchAttempt) (rs rs' : List MatchAttempt) → RowOk many n r
        → SomeDecided (env y) v rs rs' → SomeDecided (env y) v (instance env r ∷ rs)
        (instance env' r ∷ rs')
    stays_there r rs rs' ok h = subst (λ z. SomeDecided (env y) v (instance env r ∷ rs) (z ∷ rs'))
        (sym (instance_same n env env' below r ok)) (OneStays h)

    test_there : (r : MatchAttempt) (f : Form) (js : List MatchTask) (rs rs' : List MatchAttempt)
        → r.tasks ≡ (y, f) ∷ js → RowOk many n r → FormOk many f → TasksOk many n js
        → SomeDecided (env y) v rs rs'
        → SomeDecided (env y) v (instance env r ∷ rs) (instances env' (decided_by w r f js) ++ rs')
    test_there r Any js rs rs' is ok g t h = stays_there r rs rs' ok h
    test_there r (Is k) js rs rs' is ok g t h =
        OneDecided (Is k) (map (at env) js) (ap (map (at env)) is) tt
        (ap (λ z. z ++ rs')
        (kept_at env' (is_int k w) (is_int k v) (attempt r.body r.bound js)
        (attempt r.body (map env r.bound) (map (at env) js)) (stands.int k)
        (instance_same n env env' below (attempt r.body r.bound js)
        (record { bound = ok.bound; tasks = t })))) h
    test_there r (Has k fs) js rs rs' is ok g t h =
        let tasks : map (at env') (tasks_of (fields_of w) fs ++ js) ≡ tasks_of (fields_of v) fs
        ++ map (at env) js =
        map_append (at env') (tasks_of (fields_of w) fs) js ∙
        (λ i. (tasks_at env' (fields_of w) fs ∙ ap (λ z. tasks_of z fs) stands.fields) i
        ++ tasks_same n env env' below js t i) in
        OneDecided (Has k fs) (map (at env) js) (ap (map (at env)) is)
        (λ e. stands.fit k e ∙ sym g.0)
        (ap (λ z. z ++ rs')
        (kept_at env' (is_con k w) (is_con k v)
        (attempt r.body r.bound (tasks_of (fields_of w) fs ++ js))
        (attempt r.body (map env r.bound) (tasks_of (fields_of v) fs ++ map (at env) js))
        (stands.con k)
        (λ i. attempt r.body (names_same n env env' below r.bound ok.bound i) (tasks i)))) h

    first_there : (r : MatchAttempt) (ts : List MatchTask) (rs rs' : List MatchAttempt)
        → r.tasks ≡ ts → RowOk many n r → TasksOk many n ts → SomeDecided (env y) v rs rs'
        → SomeDecided (env y) v (instance env r ∷ rs) (instances env' (known_first y w r ts) ++ rs')
    first_there r [] rs rs' is ok t h = stays_there r rs rs' ok h
    first_there r (j ∷ js) rs rs' is ok t h = by (j.0 == y) refl
      where
        by : (b : Bool) → (j.0 == y) ≡ b → SomeDecided (env y) v (instance env r ∷ rs)
            (instances env' (cond b (decided_by w r j.1 js) (r ∷ [])) ++ rs')
        by true e = test_there r j.1 js rs rs'
            (is ∙ ap (λ (z : ℕ). (z, j.1) ∷ js) (eq_from j.0 y e)) ok t.0.1 t.1 h
        by false e = stays_there r rs rs' ok h

    pub rows_there : (rs behind : List MatchAttempt) → AllOf (RowOk many n) rs
        → SomeDecided (env y) v behind behind → SomeDecided (env y) v (instances env rs ++ behind)
        (instances env' (attempts_with_value y w rs) ++ behind)
    rows_there [] behind ok h = h
    rows_there (r ∷ rs) behind ok h =
        subst (λ z. SomeDecided (env y) v (instance env r ∷ (instances env rs ++ behind)) z)
        (sym (again r rs behind))
        (first_there r r.tasks (instances env rs ++ behind)
        (instances env' (attempts_with_value y w rs) ++ behind) refl ok.0 ok.0.tasks
        (rows_there rs behind ok.1 h))
      where
        again : (r : MatchAttempt) (rs behind : List MatchAttempt)
            → instances env' (attempts_with_value y w (r ∷ rs))
            ++ behind ≡ instances env' (known_first y w r r.tasks)
            ++ (instances env' (attempts_with_value y w rs) ++ behind)
        again r rs behind = ap (λ z. z ++ behind)
            (map_append (instance env') (known_first y w r r.tasks) (attempts_with_value y w rs)) ∙
            append_again (instances env' (known_first y w r r.tasks))
            (instances env' (attempts_with_value y w rs)) behind

  -- ---- where a value is of none of some kinds

  abbrev pub accepts : TestKind → Value → Bool
  accepts (Integer k) v = is_int k v
  accepts (Constructor c) v = is_con c v

  abbrev pub OfNone : List TestKind → Value → Type 0
  OfNone seen v = (h : TestKind) → In h seen → accepts h v ≡ false

  pub of_none_more : (seen : List TestKind) (h : TestKind) (v : Value) → accepts h v ≡ false
      → OfNone seen v → OfNone (h ∷ seen) v
  of_none_more seen h v e o k here = e
  of_none_more seen h v e o k (there i) = o k i

  module _ (env : Env) (y : ℕ) (v : Value) where
    leaves_there : (seen : List TestKind) → OfNone seen v
        → (r : MatchAttempt) (f : Form) (js : List MatchTask) (k : TestKind)
        (rs rs' : List MatchAttempt) → r.tasks ≡ (y, f) ∷ js → IsTestOfKind f k → In k seen
        → SomeDecided (env y) v rs rs' → SomeDecided (env y) v (instance env r ∷ rs) rs'
    leaves_there seen o r Any js k rs rs' is kind i h = absurd kind
    leaves_there seen o r (Is j) js k rs rs' is kind i h =
        let e : is_int j v ≡ false = subst (λ z. accepts z v ≡ false) kind (o k i) in
        OneDecided (Is j) (map (at env) js) (ap (map (at env)) is) tt
        (ap (λ b. kept_by b (attempt r.body (map env r.bound) (map (at env) js)) ++ rs')
        (sym e)) h
    leaves_there seen o r (Has c fs) js k rs rs' is kind i h =
        let e : is_con c v ≡ false = subst (λ z. accepts z v ≡ false) kind (o k i) in
        OneDecided (Has c fs) (map (at env) js) (ap (map (at env)) is)
        (λ t. let z : true ≡ false = sym t ∙ e in absurd cc)
        (ap (λ b. kept_by b
        (attempt r.body (map env r.bound) (tasks_of (fields_of v) fs ++ map (at env) js))
        ++ rs') (sym e)) h

    pub rows_left : (seen : List TestKind) → OfNone seen v → (rs left behind : List MatchAttempt)
        → AttemptsLeftOver y seen rs left → SomeDecided (env y) v behind behind
        → SomeDecided (env y) v (instances env rs ++ behind) (instances env left ++ behind)
    rows_left seen o rs left behind NoneLeft h = h
    rows_left seen o rs left behind (Stays {r = r} {rs = ss} {left = l} g) h
        = OneStays (rows_left seen o ss l behind g h)
    rows_left seen o rs left behind (Goes {r = r} {rs = ss} f js k is kind i g) h =
        leaves_there seen o r f js k (instances env ss ++ behind) (instances env left ++ behind) is
        kind i (rows_left seen o ss left behind g h)

-- nothing is decided
pub all_stay : (a : ℕ) (v : Value) (rs : List MatchAttempt) → SomeDecided a v rs rs
all_stay a v [] = NoneDecided
all_stay a v (r ∷ rs) = OneStays (all_stay a v rs)

-- ---- settled rows

module _ (q : Equations) (onward : DelayedEvaluator) where
  settled_first : (env : Env) (rest : List MatchAttempt) (d : ℕ) (s : State) (body : normal.Term)
      (bound : List ℕ) (js : List MatchTask)
      → attempts q onward (instance env (with_names_bound body bound js) ∷ rest) d s ≡ attempts q
      onward (instance env (attempt body bound js) ∷ rest) d s
  settled_first env rest d s body bound [] = refl
  settled_first env rest d s body bound ((a, Any) ∷ js) =
      settled_first env rest d s body (bound ++ a ∷ []) js
      ∙ ap (λ w. attempts q onward (attempt body w (map (at env) js) ∷ rest) d s)
      (map_push env bound a)
  settled_first env rest d s body bound ((a, Is k) ∷ js) = refl
  settled_first env rest d s body bound ((a, Has c fs) ∷ js) = refl

  pub settled_rows : (env : Env) (rs behind : List MatchAttempt) (d : ℕ) (s : State)
      → attempts q onward (instances env (map settled rs) ++ behind) d s ≡ attempts q onward
      (instances env rs ++ behind) d s
  settled_rows env [] behind d s = refl
  settled_rows env (r ∷ rs) behind d s =
      settled_first env (instances env (map settled rs) ++ behind) d s r.body r.bound r.tasks
      ∙ ap (λ fails. meets q onward (map (at env) r.tasks) (map env r.bound) d s
      (λ xs t. eval (without_bodies q) onward r.body (parameters xs) d t) fails)
      (λ i t. settled_rows env rs behind d t i)
