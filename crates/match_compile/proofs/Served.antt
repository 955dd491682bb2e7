-- An entry of a function of equations does what the function that serves it does, with those behind
-- it.
use Rattle.std.proofs.Common.{◌≡◌, ℕ, zero, suc, ◌+◌, ◌≤◌, ◌<◌, max, List, [], ◌∷◌, ◌++◌, map, length, Some, None, refl, sym, ap, ◌∙◌, subst, arith}
use Rattle.std.specs.Prelude.{slice_get, codes}
use Rattle.std.specs.List.{range_with_len}
use Rattle.seq.specs.Lists.{AllOf}
use Rattle.seq.proofs.Lists.{map_append, map_get, append_nil}
use Rattle.arity_check.specs.Program.{Program, Function}
use Rattle.core_meaning.specs.Heap.{Delayed, Call}
use Rattle.core_meaning.specs.ByNeed as by_need
use Rattle.core_meaning.specs.Evaluation as core
use Rattle.core_meaning.specs.Evaluation.{State, Answer, NoAlternative, OutOfBound, DelayedEvaluator, params, global, parameters, eval, enter_body}
use Rattle.match_compile.specs.Form.{Row, Equations}
use Rattle.match_compile.specs.ByEquations.{without_bodies, as_function, rows_of, tries, enter, within}
use Rattle.match_compile.specs.Jobs.{MatchAttempt, attempt, tasks_of, meets, attempts}
use Rattle.match_compile.specs.Decides.{way, pending_attempts, Serves, ByOne, ByMore, fields, IsFun, RowFits, AreServed}
use Rattle.match_compile.proofs.Kept.{Stays, known_stays}
use Rattle.match_compile.proofs.Special.{fields_first}
use Rattle.match_compile.proofs.Beside as both
use Rattle.match_compile.proofs.Beside.{Pace, Ahead, Behind, Together, Fits, extra, units}
use Rattle.match_compile.proofs.Instances.{instances, RowOk, settled_ok, tasks_ok, tasks_at, settled_rows}
use Rattle.match_compile.proofs.Chosen.{decides_beside, range_below}

-- ---- parameters

shifted : (len m : ℕ) (f g : ℕ → ℕ) → ((x : ℕ) → f (x + 1) ≡ g x)
    → map f (range_with_len (m + 1) len) ≡ map g (range_with_len m len)
shifted zero m f g h = refl
shifted (suc len) m f g h = λ i. h m i ∷ shifted len (m + 1) f g h i

pub parameters_are : (xs : List ℕ) → map (parameters xs) (range_with_len 0 (length xs)) ≡ xs
parameters_are [] = refl
parameters_are (a ∷ xs) =
    let next : (x : ℕ) → parameters (a ∷ xs) (x + 1) ≡ parameters xs x = λ x. let e : x + 1 ≡ suc x
    = omega arith in ap (parameters (a ∷ xs)) e in
    let rest = shifted (length xs) 0 (parameters (a ∷ xs)) (parameters xs) next ∙ parameters_are xs
    in
    λ i. a ∷ rest i

all_left : {X : Type 0} (P : X → Type 0) (xs ys : List X) → AllOf P (xs ++ ys) → AllOf P xs
all_left P [] ys h = tt
all_left P (x ∷ xs) ys h = (h.0, all_left P xs ys h.1)

all_right : {X : Type 0} (P : X → Type 0) (xs ys : List X) → AllOf P (xs ++ ys) → AllOf P ys
all_right P [] ys h = h
all_right P (x ∷ xs) ys h = all_right P xs ys h.1

-- ---- equations from the top

abbrev start : List ℕ → Row → MatchAttempt
start args g = attempt g.body [] (tasks_of args g.pats)

abbrev starts : List ℕ → List Row → List MatchAttempt
starts args gs = map (start args) gs

way_starts : (many : ℕ → ℕ) (width : ℕ) (args : List ℕ)
    → map (parameters args) (range_with_len 0 width) ≡ args → (gs : List Row)
    → instances (parameters args) (map (way width) gs) ≡ starts args gs
way_starts many width args e [] = refl
way_starts many width args e (g ∷ gs) =
    let same = tasks_at many (parameters args) (range_with_len 0 width) g.pats ∙ ap
    (λ z. tasks_of z g.pats) e in
    λ i. attempt g.body [] (same i) ∷ way_starts many width args e gs i

module _ (q : Equations) where
  ways_ok : (width : ℕ) (gs : List Row) → AllOf (RowFits q width) gs
      → AllOf (RowOk (fields q) width) (pending_attempts width gs)
  ways_ok width gs h = settled_ok (fields q) width (map (way width) gs) (each gs h)
    where
      each : (gs : List Row) → AllOf (RowFits q width) gs
          → AllOf (RowOk (fields q) width) (map (way width) gs)
      each [] h = tt
      each (g ∷ gs) h = (
        record {
          bound = tt;
          tasks = tasks_ok (fields q) width (range_with_len 0 width) g.pats
              (range_below width 0 width (omega arith)) h.0.forms;
        },
        each gs h.1,
      )

  tries_start : (onward : DelayedEvaluator) → ((t : Delayed) (d : ℕ) → Stays (onward t d))
      → (width : ℕ) (args : List ℕ) → length args ≡ width → (gs : List Row)
      → AllOf (RowFits q width) gs → (d : ℕ) (s : State)
      → tries q onward gs args d s ≡ attempts q onward (starts args gs) d s
  tries_start onward goes width args long [] h d s = refl
  tries_start onward goes width args long (g ∷ gs) h d s =
      let go : List ℕ → State → Answer = λ xs t. eval (without_bodies q) onward g.body
      (parameters xs) d t in
      fields_first q onward goes g.pats args [] [] d s go (λ t. tries q onward gs args d t)
      (long ∙ sym h.0.many)
      ∙ ap (λ w. meets q onward w [] d s go (λ t. tries q onward gs args d t))
      (append_nil (tasks_of args g.pats))
      ∙ ap (λ fails. meets q onward (tasks_of args g.pats) [] d s go fails)
      (λ i t. tries_start onward goes width args long gs h.1 d t i)

-- ---- paces

-- the second may enter so many functions where the first enters one
abbrev pub Allows : Pace → ℕ → Type 0
Allows (Ahead k) more = more ≤ k
Allows Behind more = Unit {0}
Allows Together more = more ≡ 0

entry_fits : (pace : Pace) (more spare u u' : ℕ) → Allows pace more
    → Fits pace (extra pace + spare) u u' → Fits pace (more + spare) u u'
entry_fits (Ahead k) more spare u u' le f = omega (arith, le, f)
entry_fits Behind more spare u u' le f = f
entry_fits Together more spare u u' le f = f

fewer : (pace : Pace) (more : ℕ) → Allows pace (suc more) → Allows pace more
fewer (Ahead k) more le = omega (arith, le)
fewer Behind more le = tt
fewer Together more e = absurd (omega (arith, e))

spent_second : (pace : Pace) (more spare u u' : ℕ) → Allows pace (suc more)
    → Fits pace (suc spare) u (suc u') → Fits pace spare u u'
spent_second (Ahead k) more spare u u' le f = omega (arith, f)
spent_second Behind more spare u u' le f = omega (arith, f)
spent_second Together more spare u u' e f = absurd (omega (arith, e))

module _ (q : Equations) (p : Program)
    (counts : (f : ℕ) → IsFun q f → params p f ≡ params (without_bodies q) f)
    (same_global : (f : ℕ) → IsFun q f → params (without_bodies q) f ≡ 0
    → global p f ≡ global (without_bodies q) f) (pace : Pace) where
  abbrev pub Answers : (n m spare : ℕ) → Answer → Answer → Type 0
  Answers n m spare = both.Answers (params (without_bodies q)) (params p) (fields q) (IsFun q)
      counts pace n m spare

  abbrev pub Beside : (n m spare : ℕ) → State → ℕ → Type 0
  Beside n m spare = both.Beside (params (without_bodies q)) (params p) (fields q) (IsFun q) counts
      pace n m spare

  abbrev pub SameOnward : (n m : ℕ) → Type 0
  SameOnward n m = both.SameOnward (params (without_bodies q)) (params p) (fields q) (IsFun q)
      counts pace n m (within q n) (core.within p m)

  -- the second spends a unit alone
  second_spends : (n m more spare small d e u : ℕ) → Allows pace (suc more)
      → (r : Answer) (s : State) (t : Delayed) → Beside n m (suc spare) s u
      → ((m' u' e' : ℕ) → Beside n m' spare s u' → Answers n m' small r
      (core.proceed p (core.within p m') t d (units s u' e')))
      → Answers n m small r (core.within p m t d (units s u e))
  second_spends n zero more spare small d e u le r s t k h = no_fuel pace le k.fits k.second
    where
      no_fuel : (pace : Pace) → Allows pace (suc more) → Fits pace (suc spare) s.left u → u ≤ 0
          → both.Answers (params (without_bodies q)) (params p) (fields q) (IsFun q) counts pace n
          zero small r (OutOfBound (units s u e))
      no_fuel (Ahead j) le f z = absurd (omega (arith, f, z))
      no_fuel Behind le f z = both.SecondEnds tt
      no_fuel Together e f z = absurd (omega (arith, e))
  second_spends n (suc m) more spare small d e zero le r s t k h = no_units pace le k.fits
    where
      no_units : (pace : Pace) → Allows pace (suc more) → Fits pace (suc spare) s.left 0
          → both.Answers (params (without_bodies q)) (params p) (fields q) (IsFun q) counts pace n
          (suc m) small r (OutOfBound (units s zero e))
      no_units (Ahead j) le f = absurd (omega (arith, f))
      no_units Behind le f = both.SecondEnds tt
      no_units Together e f = absurd (omega (arith, e))
  second_spends n (suc m) more spare small d e (suc u) le r s t k h =
      both.wider (params (without_bodies q)) (params p) (fields q) (IsFun q) counts pace n n m
      (suc m) small small (omega arith) (omega arith) (omega arith)
      (h m u (max e d)
      (record {
        heap = k.heap;
        fits = spent_second pace more spare s.left u le k.fits;
        first
            = k.first;
        second = let f = k.second in omega (arith, f);
      }))

  module _ (n : ℕ) (on : (m : ℕ) → SameOnward n m) (width : ℕ) (args : List ℕ)
      (long : length args ≡ width) (d : ℕ) where
    args_are : map (parameters args) (range_with_len 0 width) ≡ args
    args_are = subst (λ w. map (parameters args) (range_with_len 0 w) ≡ args) long
        (parameters_are args)

    enters : (m g : ℕ) (f : Function) → slice_get p.funs g ≡ Some f
        → (small : ℕ) (r : Answer) (s : State) (u e : ℕ)
        → Answers n m small r (eval p (core.within p m) f.body (parameters args) d (units s u e))
        → Answers n m small r
        (enter_body p (core.within p m) (slice_get p.funs g) args d (units s u e))
    enters m g f is small r s u e a = subst
        (λ o. Answers n m small r (enter_body p (core.within p m) o args d (units s u e))) (sym is)
        a

    pub served_beside : (more : ℕ) (gs : List Row) (g : ℕ)
        → Serves (params (without_bodies q)) (fields q) (IsFun q) p width more gs g
        → AllOf (RowFits q width) gs → Allows pace more
        → (m spare : ℕ) (s : State) (u e : ℕ) → Beside n m (more + spare) s u
        → Answers n m spare (attempts q (within q n) (starts args gs) d s)
        (enter_body p (core.within p m) (slice_get p.funs g) args d (units s u e))
    served_beside zero gs g (ByOne f is dec) fit le m spare s u e k =
        let same : attempts q (within q n)
        (instances (parameters args) (pending_attempts width gs) ++ []) d s ≡ attempts q
        (within q n) (starts args gs) d s =
        settled_rows q (within q n) (parameters args) (map (way width) gs) [] d s ∙ ap
        (λ w. attempts q (within q n) w d s)
        (append_nil (instances (parameters args) (map (way width) gs)) ∙ way_starts (fields q)
        width args args_are gs) in
        enters m g f is spare (attempts q (within q n) (starts args gs) d s) s u e
        (subst (λ z. Answers n m spare z
        (eval p (core.within p m) f.body (parameters args) d (units s u e))) same
        (decides_beside q p (fields q) (IsFun q) counts same_global pace n m (within q n)
        (core.within p m) (on m) (known_stays q n) width args [] d (0 + spare) spare
        (omega arith) None refl width (pending_attempts width gs) f.body dec
        (ways_ok q width gs fit) (omega arith) (parameters args) args_are s u e k))
    served_beside (suc more) gs g (ByMore g' here there f is dec rest cut) fit le m spare s u e k =
        let fits : AllOf (RowFits q width) (here ++ there) = subst (AllOf (RowFits q width)) cut fit
        in
        let tried : attempts q (within q n)
        (instances (parameters args) (pending_attempts width here) ++ starts args there) d s ≡
        attempts q (within q n) (starts args gs) d s =
        settled_rows q (within q n) (parameters args) (map (way width) here) (starts args there) d s
        ∙ ap (λ w. attempts q (within q n) w d s)
        (ap (λ w. w ++ starts args there) (way_starts (fields q) width args args_are here) ∙ sym
        (map_append (start args) here there) ∙ ap (starts args) (sym cut)) in
        enters m g f is spare (attempts q (within q n) (starts args gs) d s) s u e
        (subst (λ z. Answers n m spare z
        (eval p (core.within p m) f.body (parameters args) d (units s u e))) tried
        (decides_beside q p (fields q) (IsFun q) counts same_global pace n m (within q n)
        (core.within p m) (on m) (known_stays q n) width args (starts args there) d
        (suc more + spare) spare (omega arith) (Some g')
        (λ s u e k. second_spends n m more (more + spare) spare d e u le
        (attempts q (within q n) (starts args there) d s) s (Call g' args)
        (both.besides (params (without_bodies q)) (params p) (fields q) (IsFun q) counts pace n n m
        m (suc more + spare) (suc (more + spare)) s u (omega arith) (omega arith) (omega arith)
        k)
        (λ m' u' e' k'. served_beside more there g' rest
        (all_right (RowFits q width) here there fits) (fewer pace more le) m' spare s u' e' k'))
        width (pending_attempts width here) f.body dec
        (ways_ok q width here (all_left (RowFits q width) here there fits)) (omega arith)
        (parameters args) args_are s u e k))

  -- an entry of a function of the equations
  module _ (most : ℕ) (is_served : AreServed q most p)
      (allows : (more : ℕ) → more < most → Allows pace more) where
    pub same_nil : core.nil p ≡ core.nil (without_bodies q)
    same_nil = ap (core.con_named (codes "Nil")) is_served.same_cons

    pub same_cons : core.cons p ≡ core.cons (without_bodies q)
    same_cons = ap (core.con_named (codes "Cons")) is_served.same_cons

    params_are : (f : ℕ) (i : IsFun q f) → params (without_bodies q) f ≡ i.rows.params
    params_are f i = ap (core.params_of (without_bodies q))
        (map_get as_function q.funs f i.rows i.is)

    pub entered : both.Entered (params (without_bodies q)) (params p) (fields q) (IsFun q) counts
        pace (core.nil (without_bodies q)) (core.cons (without_bodies q)) (core.nil p) (core.cons p)
        same_nil same_cons is_served.no_fields is_served.two_fields (enter q)
        (by_need.enter 0 NoAlternative p)
    entered n on m f i args long spare d s u e k =
        let width : length args ≡ i.rows.params = long ∙ params_are f i in
        let served = is_served.served f i in
        let allowed = allows served.more served.below in
        let k' : Beside n m (served.more + spare) s u
        = record {
          heap = k.heap;
          fits = entry_fits pace served.more spare s.left u allowed
              k.fits;
          first = k.first;
          second = k.second;
        } in
        let tried : attempts q (within q n) (starts args i.rows.rows) d s ≡ enter q (within q n) f
        args d s =
        sym (tries_start q (within q n) (known_stays q n) i.rows.params args width i.rows.rows
        (is_served.fits f i) d s) ∙ ap (λ o. tries q (within q n) (rows_of o) args d s)
        (sym i.is) in
        subst (λ z. Answers n m spare z
        (enter_body p (core.within p m) (slice_get p.funs f) args d (units s u e))) tried
        (served_beside n on i.rows.params args width d served.more i.rows.rows f served.serves
        (is_served.fits f i) allowed m spare s u e k')
