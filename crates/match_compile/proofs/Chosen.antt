-- A term that decides between equations does what trying them does.
use Rattle.std.proofs.Common.{◌≡◌, ℕ, zero, suc, ◌+◌, ◌≤◌, ◌<◌, Bool, true, false, List, [], ◌∷◌, ◌++◌, map, length, Option, Some, None, refl, sym, ap, ◌∙◌, subst, arith}
use Rattle.std.specs.Prelude.{◌==◌, ℤ, pos, negsuc, slice_get, slice_index_or}
use Rattle.std.specs.List.{range_with_len}
use Rattle.seq.specs.Lists.{AllOf, In, here, there}
use Rattle.seq.proofs.Lists.{some_is}
use Rattle.seq.proofs.Order.{eq_from}
use Rattle.arity_check.specs.declared.normal.Var.TheVariants as var
use Rattle.arity_check.specs.Program.{Program, Term, Branches}
use Rattle.core_meaning.specs.Heap.{Value, Int, Con, Delayed, Call, Known, Env, with_locals}
use Rattle.core_meaning.specs.Evaluation.{State, Answer, Gives, NoAlternative, DelayedEvaluator, and_then, is_con, is_int, fields_of, parameters, params, global, names, force, eval, select}
use Rattle.match_compile.specs.Form.{Form, Any, Is, Has, Equations}
use Rattle.match_compile.specs.ByEquations.{without_bodies, matches}
use Rattle.match_compile.specs.Jobs.{MatchTask, MatchAttempt, meets, attempts, attempts_with_value}
use Rattle.match_compile.specs.Alike.{LocalPairs, LocalsCorrespond}
use Rattle.match_compile.specs.Decides.{TestKind, Integer, Constructor, IsTest, settled, AttemptsLeftOver, Decides, ByBody, ByCase, Chooses, OnConstructor, OnInteger, Others, OnNext, NoOther}
use Rattle.match_compile.proofs.Kept.{Stays}
use Rattle.match_compile.proofs.Special.{some_decided, known_value}
use Rattle.match_compile.proofs.Forced.{Leaves, force_leaves}
use Rattle.match_compile.proofs.Beside as both
use Rattle.match_compile.proofs.Beside.{Pace, units}
use Rattle.match_compile.proofs.Evaluated.{Agree, eval_beside}
use Rattle.match_compile.proofs.Instances.{at, instances, RowOk, Below, rows_more, settled_ok, known_ok, left_ok, StandsFor, rows_there, OfNone, of_none_more, rows_left, all_stay, settled_rows, locals_before, locals_are}

names_at : (p : Program) (env : Env) (xs : List ℕ) → names p env (map var.Local xs) ≡ map env xs
names_at p env [] = refl
names_at p env (x ∷ xs) = λ i. env x ∷ names_at p env xs i

pub range_below : (len m n : ℕ) → m + len ≤ n → AllOf (λ x. x < n) (range_with_len m len)
range_below zero m n le = tt
range_below (suc len) m n le = (omega (arith, le), range_below len (m + 1) n (omega (arith, le)))

-- the first locals have the same names
same_first : (len m : ℕ) (env env' : Env) → ((y : ℕ) → y < m + len → env' y ≡ env y)
    → map env' (range_with_len m len) ≡ map env (range_with_len m len)
same_first zero m env env' h = refl
same_first (suc len) m env env' h = λ i. h m (omega arith) i ∷ same_first len (m + 1) env env'
    (λ y lt. h y (omega (arith, lt))) i

-- names of a body are those of the locals that they stand for
agree_bound : (bound : List ℕ) (env : Env) (ps : LocalPairs)
    → ((x y : ℕ) → LocalsCorrespond ps x y → slice_get bound x ≡ Some y)
    → Agree (parameters (map env bound)) env ps
agree_bound bound env ps h x y l = go bound x (h x y l)
  where
    go : (bound : List ℕ) (x : ℕ) → slice_get bound x ≡ Some y
        → env y ≡ slice_index_or (map env bound) x 0
    go [] x e = absurd cc
    go (b ∷ bs) zero e = ap env (sym (some_is e))
    go (b ∷ bs) (suc x) e = go bs x e

module _ (q : Equations) (onward : DelayedEvaluator) where
  abbrev body_at : MatchAttempt → ℕ → List ℕ → State → Answer
  body_at r d xs s = eval (without_bodies q) onward r.body (parameters xs) d s

  -- what follows the force of a first test
  abbrev after_force : Form → List MatchTask → List ℕ → ℕ → (List ℕ → State → Answer)
      → (State → Answer) → Value → State → Answer
  after_force Any js bound d go fails v s = fails s
  after_force (Is k) js bound d go fails v s = elim (is_int k v)
      [ true ↦ meets q onward js bound d s go fails | false ↦ fails s ]
  after_force (Has k fs) js bound d go fails v s =
      elim (is_con k v) [
        | true ↦ matches q onward fs (fields_of v) bound d s
            (λ xs t. meets q onward js xs d t go fails) fails
        | false ↦ fails s
      ]

  pub first_forces : (f : Form) → IsTest f → (a : ℕ) (js : List MatchTask) (bound : List ℕ) (d : ℕ)
      (s : State) (go : List ℕ → State → Answer) (fails : State → Answer)
      → meets q onward ((a, f) ∷ js) bound d s go fails ≡ and_then
      (force (without_bodies q) onward a (suc d) s) (after_force f js bound d go fails)
  first_forces Any test a js bound d s go fails = absurd test
  first_forces (Is k) test a js bound d s go fails = refl
  first_forces (Has k fs) test a js bound d s go fails = refl

number_is : (a b : ℤ) → is_int {F = ℕ} a (Int b) ≡ true → a ≡ b
number_is (pos a) (pos b) h = ap pos (eq_from a b h)
number_is (pos a) (negsuc b) h = absurd cc
number_is (negsuc a) (pos b) h = absurd cc
number_is (negsuc a) (negsuc b) h = ap negsuc (eq_from a b h)

in_none : (h : TestKind) (hs : List TestKind) → In h hs → hs ≡ [] → ⊥
in_none h hs here e = absurd cc
in_none h hs (there i) e = absurd cc

-- one way in the first, and two in the second
one_of : (P : Answer → Type 0) (b : Bool) (x y : Answer) → (b ≡ true → P x) → (b ≡ false → P y)
    → P (elim b [ true ↦ x | false ↦ y ])
one_of P true x y f g = f refl
one_of P false x y f g = g refl

leaves_value : (a : ℕ) (r : Answer) (v : Value) (s : State) → r ≡ Gives v s → Leaves a r
    → slice_get s.heap a ≡ Some (Known v)
leaves_value a r v s e l = subst (Leaves a) e l

module _ (q : Equations) (p : Program) (many : ℕ → ℕ) (IsFun : ℕ → Type 0)
    (counts : (f : ℕ) → IsFun f → params p f ≡ params (without_bodies q) f)
    (same_global : (f : ℕ) → IsFun f → params (without_bodies q) f ≡ 0
    → global p f ≡ global (without_bodies q) f) where
  abbrev ValueOk : Value → Type 0
  ValueOk = both.ValueOk (params (without_bodies q)) (params p) many IsFun counts

  con_stands : (env : Env) (c : ℕ) (xs : List ℕ) (v : Value) → ValueOk v → is_con c v ≡ true
      → map env xs ≡ fields_of v → StandsFor many env (Con c xs) v
  con_stands env c xs v both.OkInt is e = absurd cc
  con_stands env c xs v (both.OkCon {c = k} {xs = ys} len) is e = record {
    int = λ i. refl;
    con = λ j. ap (λ z. z == j) (sym (eq_from k c is));
    fields = e;
    fit = λ j t. len ∙ ap many (eq_from k j t);
  }
  con_stands env c xs v (both.OkPart f lt) is e = absurd cc

  int_stands : (env : Env) (k : ℤ) (v : Value) → ValueOk v → is_int k v ≡ true
      → StandsFor many env (Int k) v
  int_stands env k v (both.OkInt {k = j}) is = record {
    int = λ i. ap (λ z. is_int {F = ℕ} i (Int z)) (number_is k j is);
    con = λ c. refl;
    fields = refl;
    fit = λ c t. absurd cc;
  }
  int_stands env k v (both.OkCon len) is = absurd cc
  int_stands env k v (both.OkPart f lt) is = absurd cc

  con_long : (c : ℕ) (v : Value) → ValueOk v → is_con c v ≡ true → length (fields_of v) ≡ many c
  con_long c v both.OkInt e = absurd cc
  con_long c v (both.OkCon {c = k} h) e = h ∙ ap many (eq_from k c e)
  con_long c v (both.OkPart is lt) e = absurd cc

  module _ (pace : Pace) (n m : ℕ) (onward onward' : DelayedEvaluator)
      (on : both.SameOnward (params (without_bodies q)) (params p) many IsFun counts pace n m onward
      onward') (goes : (t : Delayed) (d : ℕ) → Stays (onward t d)) where
    abbrev pub Answers : (spare : ℕ) → Answer → Answer → Type 0
    Answers = both.Answers (params (without_bodies q)) (params p) many IsFun counts pace n m

    abbrev pub Beside : (spare : ℕ) → State → ℕ → Type 0
    Beside = both.Beside (params (without_bodies q)) (params p) many IsFun counts pace n m

    -- What stands behind the equations of a function of so many parameters with these arguments.
    module _ (width : ℕ) (args : List ℕ) (behind : List MatchAttempt) (d spare small : ℕ)
        (le : small ≤ spare) where
      -- where none is left, nothing is behind them, or the next function does what is
      abbrev pub After : Option ℕ → Type 0
      After None = behind ≡ []
      After (Some g) = (s : State) (u e : ℕ) → Beside spare s u
          → Answers small (attempts q onward behind d s) (onward' (Call g args) d (units s u e))

      module _ (next : Option ℕ) (after : After next) where
        abbrev tried : Env → List MatchAttempt → State → Answer
        tried env rs s = attempts q onward (instances env rs ++ behind) d s

        -- what is left of the equations where the local has a value
        known_there : (from y : ℕ) (rs : List MatchAttempt) → AllOf (RowOk many from) rs
            → (env env' : Env) → Below from env env' → (w v : Value) → StandsFor many env' w v
            → (s : State) → slice_get s.heap (env y) ≡ Some (Known v)
            → tried env rs s ≡ tried env' (map settled (attempts_with_value y w rs)) s
        known_there from y rs ok env env' below w v stands s known =
            some_decided q onward goes (env y) v (instances env rs ++ behind)
            (instances env' (attempts_with_value y w rs) ++ behind)
            (rows_there many from env env' below y w v stands rs behind ok
            (all_stay (env y) v behind)) d s known
            ∙ sym (settled_rows q onward env' (attempts_with_value y w rs) behind d s)

        others : (y : ℕ) (rs left : List MatchAttempt) (seen : List TestKind)
            → AttemptsLeftOver y seen rs left → (env : Env) (v : Value) → OfNone many seen v
            → (s : State) → slice_get s.heap (env y) ≡ Some (Known v)
            → tried env rs s ≡ tried env left s
        others y rs left seen l env v none s known =
            some_decided q onward goes (env y) v (instances env rs ++ behind)
            (instances env left ++ behind)
            (rows_left many env y v seen none rs left behind l (all_stay (env y) v behind)) d s
            known

        mutual
          pub decides_beside : (from : ℕ) (rs : List MatchAttempt) (t : Term)
              → Decides (params (without_bodies q)) many IsFun width next from rs t
              → AllOf (RowOk many from) rs → width ≤ from
              → (env : Env) → map env (range_with_len 0 width) ≡ args → (s : State) (u e : ℕ)
              → Beside spare s u → Answers small (tried env rs s)
              (eval p onward' t env d (units s u e))
          decides_beside from rs t (ByBody {r = r} {rs = ss} ps none linked alike) ok wide env is s
              u e k =
              subst (λ ts. Answers small
              (meets q onward (map (at env) ts) (map env r.bound) d s (body_at q onward r d)
              (λ s. tried env ss s)) (eval p onward' t env d (units s u e))) (sym none)
              (both.wider (params (without_bodies q)) (params p) many IsFun counts pace n n m m
              spare small (omega arith) (omega arith) le
              (eval_beside (without_bodies q) p many IsFun counts same_global pace n m onward
              onward' on (parameters (map env r.bound)) env ps r.body t alike
              (agree_bound r.bound env ps linked) spare d s u e k))
          decides_beside from rs t (ByCase {y = y} {r = r} {rs = ss} {bs = bs} f js first test ch)
              ok wide env is s u e k =
              let go : Value → State → Answer = after_force q onward f (map (at env) js)
              (map env r.bound) d (body_at q onward r d) (λ s. tried env ss s) in
              let forces : (s : State) → tried env rs s ≡ and_then
              (force (without_bodies q) onward (env y) (suc d) s) go =
              λ s. ap (λ ts. meets q onward (map (at env) ts) (map env r.bound) d s
              (body_at q onward r d) (λ s. tried env ss s)) first
              ∙ first_forces q onward f test (env y) (map (at env) js) (map env r.bound) d s
              (body_at q onward r d) (λ s. tried env ss s) in
              subst (λ z. Answers small z (eval p onward' t env d (units s u e))) (sym (forces s))
              (both.then_after (params (without_bodies q)) (params p) many IsFun counts pace n m
              spare small go (λ v s. select p onward' bs v env d s)
              (both.force_beside (params (without_bodies q)) (params p) many IsFun counts pace n m
              onward onward' on (env y) (suc d) spare s u e k)
              (λ v s' u e gives g k.
              let known = leaves_value (env y) (force (without_bodies q) onward (env y) (suc d) s) v
              s' gives (force_leaves q onward goes (env y) (suc d) s) in
              subst (λ z. Answers small z (select p onward' bs v env d (units s' u e)))
              (forces s' ∙ known_value q onward goes (env y) (suc d) v s' go known)
              (chooses_beside from y rs [] bs ch ok wide env is v g
              (λ h i. absurd (in_none h [] i refl)) s' u e known k)))

          pub chooses_beside : (from y : ℕ) (rs : List MatchAttempt) (seen : List TestKind)
              (bs : Branches) → Chooses (params (without_bodies q)) many IsFun width next from y rs
              seen bs → AllOf (RowOk many from) rs → width ≤ from
              → (env : Env) → map env (range_with_len 0 width) ≡ args → (v : Value) → ValueOk v
              → OfNone many seen v → (s : State) (u e : ℕ)
              → slice_get s.heap (env y) ≡ Some (Known v) → Beside spare s u
              → Answers small (tried env rs s) (select p onward' bs v env d (units s u e))
          chooses_beside from y rs seen bs
              (OnConstructor {m = first} {c = c} {xs = xs} {e = t} {bs = cs} far xs_is dec rest) ok
              wide env is v g none s u e known k =
              one_of (Answers small (tried env rs s)) (is_con c v)
              (eval p onward' t (with_locals env xs (fields_of v)) d (units s u e))
              (select p onward' cs v env d (units s u e))
              (λ i.
              let env' : Env = with_locals env xs (fields_of v) in
              let same : map env' xs ≡ fields_of v = subst
              (λ w. map (with_locals env w (fields_of v)) w ≡ fields_of v) (sym xs_is)
              (locals_are (many c) first (fields_of v) env (con_long c v g i)) in
              let below : Below first env env' = λ z lt. subst
              (λ w. with_locals env w (fields_of v) z ≡ env z) (sym xs_is)
              (locals_before (many c) first (fields_of v) env z lt) in
              let fields : AllOf (λ x. x < first + many c) xs
              = subst (AllOf (λ x. x < first + many c)) (sym xs_is)
              (range_below (many c) first (first + many c) (omega arith)) in
              let ok' = settled_ok many (first + many c) (attempts_with_value y (Con c xs) rs)
              (known_ok many (first + many c) y (Con c xs) fields rs
              (rows_more many from (first + many c) (omega (arith, far)) rs ok)) in
              let is' : map env' (range_with_len 0 width) ≡ args
              = same_first width 0 env env' (λ z lt. below z (omega (arith, lt, wide, far))) ∙
              is in
              subst (λ z. Answers small z (eval p onward' t env' d (units s u e)))
              (sym (known_there first y rs (rows_more many from first far rs ok) env env' below
              (Con c xs) v (con_stands env' c xs v g i same) s known))
              (decides_beside (first + many c) (map settled (attempts_with_value y (Con c xs) rs)) t
              dec ok' (omega (arith, wide, far)) env' is' s u e k))
              (λ i. chooses_beside from y rs (Constructor c ∷ seen) cs rest ok wide env is v g
              (of_none_more many seen (Constructor c) v i none) s u e known k)
          chooses_beside from y rs seen bs
              (OnInteger {m = first} {k = i} {e = t} {bs = cs} far dec rest) ok wide env is v g none
              s u e known k =
              one_of (Answers small (tried env rs s)) (is_int i v)
              (eval p onward' t env d (units s u e)) (select p onward' cs v env d (units s u e))
              (λ h.
              let ok' = rows_more many from first far rs ok in
              subst (λ z. Answers small z (eval p onward' t env d (units s u e)))
              (sym (known_there first y rs ok' env env (λ z lt. refl) (Int i) v
              (int_stands env i v g h) s known))
              (decides_beside first (map settled (attempts_with_value y (Int i) rs)) t dec
              (settled_ok many first (attempts_with_value y (Int i) rs)
              (known_ok many first y (Int i) tt rs ok')) (omega (arith, wide, far)) env is s u e
              k))
              (λ h. chooses_beside from y rs (Integer i ∷ seen) cs rest ok wide env is v g
              (of_none_more many seen (Integer i) v h none) s u e known k)
          chooses_beside from y rs seen bs (Others {m = first} {left = left} {e = t} far l dec) ok
              wide env is v g none s u e known k =
              subst (λ z. Answers small z (eval p onward' t env d (units s u e)))
              (sym (others y rs left seen l env v none s known))
              (decides_beside first left t dec
              (left_ok many first y seen rs left l (rows_more many from first far rs ok))
              (omega (arith, wide, far)) env is s u e k)
          chooses_beside from y rs seen bs (OnNext {g = f} l next_is) ok wide env is v g none s u e
              known k =
              subst (λ z. Answers small z
              (onward' (Call f (names p env (map var.Local (range_with_len 0 width)))) d
              (units s u e))) (sym (others y rs [] seen l env v none s known))
              (subst (λ w. Answers small (attempts q onward behind d s)
              (onward' (Call f w) d (units s u e)))
              (sym (names_at p env (range_with_len 0 width) ∙ is))
              (subst After next_is after s u e k))
          chooses_beside from y rs seen bs (NoOther l next_is) ok wide env is v g none s u e known k
              =
              subst (λ z. Answers small z (NoAlternative (units s u e)))
              (sym (others y rs [] seen l env v none s known ∙ ap (λ w. attempts q onward w d s)
              (subst After next_is after))) both.NeitherAccepts
