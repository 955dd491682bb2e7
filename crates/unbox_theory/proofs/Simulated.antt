-- The two programs run side by side.
--
-- The procedures that may give a bare number are a set that is closed under the calls at their
-- ends. A call of a member gives the number alone, and its tag is put back where the old program
-- would have had it.
use Rattle.std.proofs.Common.{◌≡◌, ◌≢◌, ℕ, suc, ◌+◌, ◌≤◌, Bool, true, false, cond, ◌&&◌, List, [], ◌∷◌, ◌++◌, length, Some, refl, sym, ap, ◌∙◌, subst, arith}
use Rattle.std.specs.Prelude.{ℤ}
use Rattle.seq.proofs.Truth.{neither_left, neither_right, and_left}
use Rattle.grin_syntax.specs.declared.program.VarId.{VarId}
use Rattle.grin_syntax.specs.declared.program.ProcId.{ProcId}
use Rattle.grin_syntax.specs.declared.program.Cell.{Cell}
use Rattle.grin_syntax.specs.declared.program.Shape.{Shape}
use Rattle.grin_syntax.specs.declared.program.Val.{Val}
use Rattle.grin_syntax.specs.declared.program.Val.TheVariants.{Vector, One}
use Rattle.grin_syntax.specs.declared.program.Word.{Word}
use Rattle.grin_syntax.specs.declared.program.Target.{Target}
use Rattle.grin_syntax.specs.declared.program.Target.TheVariants as to
use Rattle.grin_syntax.specs.Tree.{Code, end, store, bind, Act, leaf, unit, fetch, fetch_word, update, eval, apply, call, prim, read, write, case, nested, fail, Arms, no_arm, arm, Procedure, Program}
use Rattle.grin_syntax.specs.Binders.{numbers_of, target_vars, shape_vars, cell_vars, act_vars, code_vars, arms_vars, procs_vars}
use Rattle.grin_syntax.specs.Formed.{Formed}
use Rattle.grin_meaning.specs.Values.{Datum, number, tag, Value, words, Env, HeapCell, World, missing, and_then, gives, stops, need, Binding, with_vars, one_each, fits, fit_of, word_of, bindings_of}
use Rattle.grin_meaning.specs.Run.{Calls, act_by, places, cells_of, require_if_checked, nth_or_zero}
use Rattle.grin_meaning.specs.Checks.{has_block, is_given, fills, all_fill, is_bound_well}
use Rattle.grin_meaning.specs.Ready.{EachAct, EachCode, EachArms, NoNodeTarget, EveryBodyIsOfKind, inlined_kind, vectorised_kind}
use Rattle.grin_meaning.specs.Follows.{Same, same, HoldsInEveryState}
use Rattle.grin_meaning.specs.Keeps.{world_of, Keeps}
use Rattle.grin_meaning.specs.Looking.{checked_run, CheckedRunsNeverMissing}
use Rattle.grin_meaning.proofs.Back.{CallsBack}
use Rattle.grin_meaning.proofs.Names.{Any, any_act, any_val, any_cells}
use Rattle.grin_meaning.proofs.Beside.{Beside, beside, Likewise, free, no_deeper}
use Rattle.grin_meaning.proofs.Rules.{Relation, Plan, Here, CallsFollow, Setting, h, ActFollows, CodeFollows, ArmsFollow, Given, BindsToo, FitsToo, act_more, end_follows, nested_follows, bind_follows, store_follows, case_follows, no_arm_follows, arm_follows, unit_follows, call_follows, fail_follows}
use Rattle.grin_meaning.proofs.Procedures.{BodiesFollow, no_more, one_more, side_by_side, run_follows}
use Rattle.grin_meaning.proofs.Plain.{Has, vars_have, word_has, words_have, value_has, cells_have, all_fill_too, IsPlain, On, having, leaf_follows, same_is}
use Rattle.grin_meaning.proofs.OneSided.{Alone, right_follows}
use Rattle.grin_meaning.proofs.KeptBy.{likewise_kept, looking_kept}
use Rattle.grin_meaning.proofs.LooksBack.{look_agrees}
use Rattle.flow_system.specs.Tables.{tables}
use Rattle.flow_system.specs.System.{system}
use Rattle.flow_system.specs.Solution.{Solution, Solves}
use Rattle.flow_system.specs.Covers.{StateIsCovered}
use Rattle.flow_system.proofs.Covered.{covers}
use Rattle.flow_system.proofs.Starting.{formed_is_started}
use Rattle.unbox_theory.specs.Ends.{Procedures, is_int, act_calls, code_calls, arms_calls, IntAct, IntCode, IntArms}
use Rattle.unbox_theory.specs.Members.{ActClosed, CodeClosed, ArmsClosed, ProcedureClosed, ProceduresClosed, Closed}
use Rattle.unbox_theory.specs.Unboxing.{number_word, tag_and_zeros, boxed_vector, boxed, bound, unbox_act, unbox_code, unbox_arms, unboxed_procedure, unboxed_from, unboxed}
use Rattle.unbox_theory.proofs.Numbers.{Bare, Number, Gives, EndGives, number_bare, bare_number, given_too, IntValue, int_value, zero_data, zero_bindings, beside_number, value_stands, value_fills, beside_each, binds_number, nothing_binds, one_binds, none_binds, single_binds, swapped, apart_by}
use Rattle.seq.specs.Lists.{times}
use Rattle.seq.proofs.Counted.{times_append}
use Rattle.grin_meaning.proofs.Paired.{nothing}

-- ---- bound once

abbrev Once : List ℕ → Type 0
Once xs = (x : ℕ) → times x xs ≤ 1

pub once_left : (xs ys : List ℕ) → Once (xs ++ ys) → Once xs
once_left xs ys h x = let e : times x (xs ++ ys) ≡ times x xs + times x ys = times_append x xs ys
    in let k : times x (xs ++ ys) ≤ 1 = h x in omega (arith, e, k)

pub once_right : (xs ys : List ℕ) → Once (xs ++ ys) → Once ys
once_right xs ys h x = let e : times x (xs ++ ys) ≡ times x xs + times x ys = times_append x xs ys
    in let k : times x (xs ++ ys) ≤ 1 = h x in omega (arith, e, k)

module _ (g : Program) (A : Solution) (M : Procedures) where
  abbrev procs : List Procedure
  procs = unboxed_from M 0 g.procs

  -- looking runs, in states that lie in the solution
  abbrev plan : Plan
  plan = record {
    looks = true;
    K = no_deeper;
    P = StateIsCovered g A;
    Args = λ f. Same;
    Result
        = λ f. Gives (M f);
    g = g;
    procs = procs;
  }

  -- the ends of what gives numbers alone, and of what has no call of a member among its ends
  abbrev Ends : Bool → Act → Type 0
  Ends true o = IntAct M A o
  Ends false o = act_calls M o ≡ false

  abbrev CodeEnds : Bool → Code → Type 0
  CodeEnds true b = IntCode M A b
  CodeEnds false b = code_calls M b ≡ false

  abbrev ArmsEnd : Bool → Arms → Type 0
  ArmsEnd true as' = IntArms M A as'
  ArmsEnd false as' = arms_calls M as' ≡ false

  case_ends : (bare : Bool) (v : Val) (as' : Arms) → Ends bare (case v as') → ArmsEnd bare as'
  unfolding IntAct act_calls
  case_ends true v as' l = l
  case_ends false v as' l = l

  nested_ends : (bare : Bool) (b : Code) → Ends bare (nested b) → CodeEnds bare b
  unfolding IntAct act_calls
  nested_ends true b l = l
  nested_ends false b l = l

  end_ends : (bare : Bool) (o : Act) → CodeEnds bare (end o) → Ends bare o
  unfolding IntAct act_calls
  end_ends true o l = l
  end_ends false o l = l

  store_ends : (bare : Bool) (cs : List Cell) (b : Code) → CodeEnds bare (store cs b)
      → CodeEnds bare b
  unfolding IntAct act_calls
  store_ends true cs b l = l
  store_ends false cs b l = l

  bind_ends : (bare : Bool) (t : Target) (o : Act) (b : Code) → CodeEnds bare (bind t o b)
      → CodeEnds bare b
  unfolding IntAct act_calls
  bind_ends true t o b l = l
  bind_ends false t o b l = l

  arm_ends : (bare : Bool) (s : Shape) (b : Code) (as' : Arms) → ArmsEnd bare (arm s b as')
      → CodeEnds bare b
  unfolding IntAct act_calls
  arm_ends true s b as' l = l.0
  arm_ends false s b as' l = neither_left (code_calls M b) (arms_calls M as') l

  later_ends : (bare : Bool) (s : Shape) (b : Code) (as' : Arms) → ArmsEnd bare (arm s b as')
      → ArmsEnd bare as'
  unfolding IntAct act_calls
  later_ends true s b as' l = l.1
  later_ends false s b as' l = neither_right (code_calls M b) (arms_calls M as') l

  -- ---- operations that call nothing, beside calls that are always missing

  abbrev stalled : Calls
  stalled = λ f xs d w. stops missing w

  abbrev quiet_plan : Plan
  quiet_plan = record {
    looks = true;
    K = no_deeper;
    P = StateIsCovered g A;
    Args = λ f. Same;
    Result = λ f. Same;
    g
        = g;
    procs = procs;
  }

  abbrev quiet : Setting
  quiet = side_by_side quiet_plan stalled stalled (record { by = λ f xs d w e. e })
      (record { by = λ f xs xs' d d' w b a nest _. free })

  pl : IsPlain quiet_plan
  pl = record
      { heaps_are = λ h. h; same_heaps = λ c. same; args = λ f xs. same; results = λ f v v' u. u }

  abbrev R : Relation
  R = λ c. Has Any

  abbrev Silent : Act → Type 0
  Silent (leaf (eval a)) = ⊥
  Silent (leaf (apply v a)) = ⊥
  Silent (leaf (call f ws)) = ⊥
  Silent (case v as') = ⊥
  Silent (nested b) = ⊥
  Silent _ = Unit {0}

  module _ (c c' : Calls) (cb : CallsBack (StateIsCovered g A) c) (cf : CallsFollow plan c c') where
    abbrev it : Setting
    it = side_by_side plan c c' cb cf

    abbrev quietly : Here plan R → Here quiet_plan R
    quietly x = record {
      env = x.env;
      env' = x.env';
      d = x.d;
      d' = x.d';
      w = x.w;
      b = x.b;
      related
          = x.related;
      known = x.known;
      nest = x.nest;
    }

    silent : (o : Act) → Silent o → ActFollows it R Same o o
    unfolding act_by
    silent (leaf (unit v)) l = record {
      by = λ x. (leaf_follows quiet pl (having Any) (unit v) (any_act (leaf (unit v)))).by
          (quietly x);
    }
    silent (leaf (fetch a)) l = record {
      by = λ x. (leaf_follows quiet pl (having Any) (fetch a) (any_act (leaf (fetch a)))).by
          (quietly x);
    }
    silent (leaf (fetch_word a i)) l = record {
      by = λ x.
          (leaf_follows quiet pl (having Any) (fetch_word a i) (any_act (leaf (fetch_word a i)))).by
          (quietly x);
    }
    silent (leaf (update a v)) l = record {
      by = λ x.
          (leaf_follows quiet pl (having Any) (update a v) (any_act (leaf (update a v)))).by
          (quietly x);
    }
    silent (leaf (prim q a b)) l = record {
      by = λ x.
          (leaf_follows quiet pl (having Any) (prim q a b) (any_act (leaf (prim q a b)))).by
          (quietly x);
    }
    silent (leaf read) l = record
        { by = λ x. (leaf_follows quiet pl (having Any) read (any_act (leaf read))).by (quietly x) }
    silent (leaf (write a)) l = record {
      by = λ x. (leaf_follows quiet pl (having Any) (write a) (any_act (leaf (write a)))).by
          (quietly x);
    }
    silent (leaf fail) l = fail_follows it
    silent (leaf (eval a)) l = absurd l
    silent (leaf (apply v a)) l = absurd l
    silent (leaf (call f ws)) l = absurd l
    silent (case v as') l = absurd l
    silent (nested b) l = absurd l

    -- ---- ends

    unit_bare : (v : Val) → is_int A v ≡ true → ActFollows it R Bare (leaf (unit v))
        (leaf (unit (One (number_word v))))
    unit_bare v e = unit_follows it v (One (number_word v)) (λ x y q seen.
        let n : IntValue g A (record { env = x.env; heap = x.w.cells }) x.known v y
        = int_value g A (record { env = x.env; heap = x.w.cells }) x.known v y e q in
        let has : word_of g x.env' (number_word v) ≡ Some (nth_or_zero n.ds 0)
        = word_has g Any x.env x.env' x.related (number_word v) (any_val (One (number_word v)))
        (nth_or_zero n.ds 0) n.has in (
          λ l. refl,
          words (nth_or_zero n.ds 0 ∷ []),
          ap (λ o. and_then o (λ d. Some (words (d ∷ [])))) has,
          record { ds = n.ds; boxed = n.boxed; alone = refl },
        ))

    call_as : (b : Bool) (f : ProcId) (ws : List Word) → M f.0 ≡ b
        → ActFollows it R (Gives b) (leaf (call f ws)) (leaf (call f ws))
    call_as b f ws e = subst (λ q. ActFollows it R (Gives q) (leaf (call f ws)) (leaf (call f ws)))
        e
        (call_follows it f ws ws
        (λ x xs q.
        (xs, words_have g Any x.env x.env' x.related ws (any_val (Vector ws)) xs q, same)))

    call_bare : (f : ProcId) (ws : List Word) → M f.0 ≡ true
        → ActFollows it R Bare (leaf (call f ws)) (leaf (call f ws))
    call_bare f ws e = act_more it (leaf (call f ws)) (leaf (call f ws)) (λ k env env' r. r)
        number_bare (call_as true f ws e)

    -- ---- what is bound as it is

    same_well : (t : Target) (o : Act) (v : Value) → is_bound_well g t o v ≡ true
        → is_bound_well (h it) t (unbox_act M false o) v ≡ true
    unfolding unbox_act
    same_well t (leaf (unit y)) v e = e
    same_well t (leaf (fetch a)) v e = e
    same_well t (leaf (fetch_word a i)) v e = e
    same_well t (leaf (update a y)) v e = e
    same_well t (leaf (eval a)) v e = e
    same_well t (leaf (apply y a)) v e = e
    same_well t (leaf (call f ws)) v e = e
    same_well t (leaf (prim q a b)) v e = e
    same_well t (leaf read) v e = e
    same_well t (leaf (write a)) v e = e
    same_well t (case y as') v e = e
    same_well t (nested b) v e = e
    same_well t (leaf fail) v e = e

    binds_same : (t : Target) (o : Act) (x : Here plan R) (y : Given it R Same t o x)
        → BindsToo it R t (unbox_act M false o) x.env x.env' y.w.cells y.v' y.bs
    binds_same t o x y = on y.values
      where
        on : {v' : Value} → Same y.v v' → BindsToo it R t (unbox_act M false o) x.env x.env'
            y.w.cells v' y.bs
        on same = record {
          seen = λ l. same_well t o y.v (y.seen l);
          bs' = y.bs;
          binds = y.binds;
          related
              = vars_have Any y.bs x.env x.env' x.related;
        }

    -- ---- what is bound as a number

    -- the number is there, its tag and its zeros are not yet
    abbrev Before : VarId → List VarId → Relation
    Before x zs = λ cells env env'. Has Any env (with_vars (beside_number x zs) env')

    gave_tag : (k : ℕ) (env : Env) (d : ℕ) (w : World)
        → act_by (h it) c' true env (suc d) (leaf (unit (tag_and_zeros k))) w ≡ gives
        (words (tag 0 ∷ zero_data k)) w
    unfolding act_by
    gave_tag k env d w =
        ap (λ o. need o w
        (λ x. require_if_checked true (fills (h it) env (tag_and_zeros k)) w (gives x w)))
        (value_stands (h it) env k)
        ∙ ap (λ b. require_if_checked true b w (gives (words (tag 0 ∷ zero_data k)) w))
        (value_fills (h it) env k)

    tag_alone : (x : VarId) (zs : List VarId) (y : Here plan (Before x zs))
        → Alone it R (to.Vector (x ∷ zs)) (leaf (unit (tag_and_zeros (length zs)))) y.env y.env'
        y.d' y.w.cells (beside y.b)
    tag_alone x zs y = record {
      v' = words (tag 0 ∷ zero_data (length zs));
      bs' = beside_number x zs;
      gave = gave_tag (length zs) y.env' y.d' (beside y.b);
      seen = λ l. refl;
      binds = beside_each x zs;
      related = y.related;
    }

    well_number : (y : VarId) (o : Act) (k : ℤ) → is_bound_well (h it) (to.One y) o
        (words (number k ∷ [])) ≡ true
    well_number y o k = go (has_block o)
      where
        go : (b : Bool) → (cond b true true && true) ≡ true
        go true = refl
        go false = refl

    vector_number : {U V : Value → Value → Type 0} (x y : VarId) (zs : List VarId) (o o' : Act)
        (b b' : Code) → x.0 ≢ y.0 → ActFollows it R U o o' → CodeFollows it R V b b'
        → ((s : Here plan R) (u : Given it R U (to.Vector (x ∷ y ∷ zs)) o s) → Number u.v u.v')
        → CodeFollows it R V (bind (to.Vector (x ∷ y ∷ zs)) o b)
        (boxed_vector (x ∷ y ∷ zs) o' b')
    vector_number {U} {V} x y zs o o' b b' apart f k number'
        = bind_follows it (to.Vector (x ∷ y ∷ zs)) (to.One y) o o' b
        (bind (to.Vector (x ∷ zs)) (leaf (unit (tag_and_zeros (length zs)))) b') f
        (right_follows it (to.Vector (x ∷ zs)) (leaf (unit (tag_and_zeros (length zs)))) b b' k
        (tag_alone x zs)) (λ s u. binds s u (number' s u))
      where
        binds : (s : Here plan R) (u : Given it R U (to.Vector (x ∷ y ∷ zs)) o s) → Number u.v u.v'
            → BindsToo it (Before x zs) (to.One y) o' s.env s.env' u.w.cells u.v' u.bs
        binds s u n =
            let bs : u.bs ≡ (x.0, words (tag 0 ∷ [])) ∷ (y.0, words (number n.k ∷ [])) ∷
            zero_bindings zs = binds_number g x y zs (x ∷ y ∷ zs) u.bs refl n.boxed n.zero_rest
            u.binds in
            record {
              seen = λ l. subst (λ v. is_bound_well (h it) (to.One y) o' v ≡ true) (sym n.alone)
                  (well_number y o' n.k);
              bs' = (y.0, words (number n.k ∷ [])) ∷ [];
              binds = ap (bindings_of (h it) (to.One y)) n.alone;
              related = subst
                  (λ bs. Has Any (with_vars bs s.env)
                  (with_vars (beside_number x zs)
                  (with_vars ((y.0, words (number n.k ∷ [])) ∷ []) s.env'))) (sym bs)
                  (vars_have Any (zero_bindings zs) _ _
                  (swapped x.0 y.0 (words (tag 0 ∷ [])) (words (number n.k ∷ [])) s.env s.env'
                  apart s.related));
            }

    -- where the target can't take a number with its tag, something is missing
    nowhere : {U V : Value → Value → Type 0} (t : Target) (o o' : Act) (b b' : Code)
        → ActFollows it R U o o' → CodeFollows it R V b b'
        → ((s : Here plan R) (u : Given it R U t o s) → ⊥)
        → CodeFollows it R V (bind t o b) (bind t o' b')
    nowhere t o o' b b' f k never = bind_follows it t t o o' b b' f k (λ s u. absurd (never s u))

    boxed_follows : {U V : Value → Value → Type 0} (t : Target) (o o' : Act) (b b' : Code)
        → NoNodeTarget t → Once (target_vars t) → ActFollows it R U o o' → CodeFollows it R V b b'
        → ((s : Here plan R) (u : Given it R U t o s) → Number u.v u.v')
        → CodeFollows it R V (bind t o b) (boxed t o' b')
    boxed_follows to.Nothing o o' b b' l n f k number'
        = nowhere to.Nothing o o' b b' f k (λ s u. nothing_binds g u.bs (number' s u).boxed u.binds)
    boxed_follows (to.Node x) o o' b b' l n f k number' = absurd l
    boxed_follows (to.One x) o o' b b' l n f k number'
        = nowhere (to.One x) o o' b b' f k (λ s u. one_binds g x u.bs (number' s u).boxed u.binds)
    boxed_follows (to.Vector []) o o' b b' l n f k number'
        = nowhere (to.Vector []) o o' b b' f k
        (λ s u. none_binds g u.bs (number' s u).boxed u.binds)
    boxed_follows (to.Vector (x ∷ [])) o o' b b' l n f k number'
        = nowhere (to.Vector (x ∷ [])) o o' b b' f k
        (λ s u. single_binds g x u.bs (number' s u).boxed u.binds)
    boxed_follows (to.Vector (x ∷ y ∷ zs)) o o' b b' l n f k number'
        = vector_number x y zs o o' b b' (apart_by x.0 y.0 (numbers_of zs) n) f k number'

    -- a call of a member, or a block with one among its ends
    member_follows : {V : Value → Value → Type 0} (t : Target) (o : Act) (b b' : Code)
        → NoNodeTarget t → Once (target_vars t) → act_calls M o ≡ true
        → ActFollows it R Bare o (unbox_act M true o) → CodeFollows it R V b b'
        → CodeFollows it R V (bind t o b) (boxed t (unbox_act M true o) b')
    unfolding act_calls unbox_act
    member_follows t (leaf (call q ws)) b b' l n e f k
        = boxed_follows t (leaf (call q ws)) (leaf (call q ws)) b b' l n (call_as true q ws e) k
        (λ s u. u.values)
    member_follows t (case v as') b b' l n e f k = boxed_follows t (case v as')
        (case v (unbox_arms M true as')) b b' l n f k
        (λ s u. bare_number g u.v u.v' u.values (and_left (is_given g u.v) _ (u.seen refl)))
    member_follows t (nested q) b b' l n e f k = boxed_follows t (nested q)
        (nested (unbox_code M true q)) b b' l n f k
        (λ s u. bare_number g u.v u.v' u.values (and_left (is_given g u.v) _ (u.seen refl)))
    member_follows t (leaf (unit v)) b b' l n e f k = cc
    member_follows t (leaf (fetch a)) b b' l n e f k = cc
    member_follows t (leaf (fetch_word a i)) b b' l n e f k = cc
    member_follows t (leaf (update a v)) b b' l n e f k = cc
    member_follows t (leaf (eval a)) b b' l n e f k = cc
    member_follows t (leaf (apply v a)) b b' l n e f k = cc
    member_follows t (leaf (prim q x y)) b b' l n e f k = cc
    member_follows t (leaf read) b b' l n e f k = cc
    member_follows t (leaf (write a)) b b' l n e f k = cc
    member_follows t (leaf fail) b b' l n e f k = cc

    bound_follows : {V : Value → Value → Type 0} (t : Target) (o : Act) (b b' : Code) (q : Bool)
        → act_calls M o ≡ q → (act_calls M o ≡ true → IntAct M A o) → NoNodeTarget t
        → Once (target_vars t)
        → ((q : Bool) → Ends q o → ActFollows it R (EndGives q) o (unbox_act M q o))
        → CodeFollows it R V b b' → CodeFollows it R V (bind t o b)
        (bound q t (unbox_act M q o) b')
    bound_follows t o b b' true e closed l n f k = member_follows t o b b' l n e (f true (closed e))
        k
    bound_follows t o b b' false e closed l n f k = bind_follows it t t o (unbox_act M false o) b b'
        (f false e) k (binds_same t o)

    -- ---- blocks

    cells_same : {w : World} (b : Beside no_deeper w) → b.cells ≡ w.cells
    cells_same b = same_is b.heaps

    heaps_by : (k k' : List HeapCell) → k' ≡ k → Same k k'
    heaps_by k k' e = subst (Same k) (sym e) same

    store_like : {V : Value → Value → Type 0} (cs : List Cell) (b b' : Code)
        → CodeFollows it R V b b' → CodeFollows it R V (store cs b) (store cs b')
    store_like cs b b' f = store_follows it cs cs b b' f (λ x y.
        let bs : List Binding = places (length x.w.cells) cs in
        let had : Has Any (with_vars bs x.env) (with_vars bs x.env')
        = vars_have Any bs x.env x.env' x.related in
        let many : length x.w.cells ≡ length x.b.cells = ap length (sym (cells_same x.b)) in
        record {
          hs' = y.hs;
          cells = subst (λ k. cells_of g (with_vars (places k cs) x.env') cs ≡ Some y.hs) many
              (cells_have g Any (with_vars bs x.env) (with_vars bs x.env') had cs (any_cells cs)
              y.hs y.cells);
          seen = λ l. subst (λ k. all_fill g (with_vars (places k cs) x.env') cs ≡ true) many
              (all_fill_too g Any (with_vars bs x.env) (with_vars bs x.env') had cs (any_cells cs)
              y.hs y.cells ∙ y.seen l);
          heaps = heaps_by _ _ (ap (λ c. c ++ y.hs) (cells_same x.b));
          related = subst (λ k. Has Any (with_vars bs x.env) (with_vars (places k cs) x.env')) many
              had;
        })

    arm_like : {V : Value → Value → Type 0} (q : Shape) (b b' : Code) (as' bs' : Arms)
        → CodeFollows it R V b b' → ArmsFollow it (On R) V as' bs'
        → ArmsFollow it (On R) V (arm q b as') (arm q b' bs')
    arm_like q b b' as' bs' f k = arm_follows it q q b b' as' bs' f k
        (λ v v' x bs e known. on x.w.cells x.env x.env' bs x.related.0 x.related.1 e)
        (λ v v' x e. (sym (ap (fit_of g q) (sym (same_is x.related.0))) ∙ e, x.related))
      where
        on : (cells : List HeapCell) (env env' : Env) (bs : List Binding) {v v' : Value} → Same v v'
            → R cells env env' → fit_of g q v ≡ fits bs → FitsToo it R q env env' cells v' bs
        on cells env env' bs same r e = record
            { bs' = bs; fit = e; related = vars_have Any bs env env' r }

    case_like : {V : Value → Value → Type 0} (v : Val) (as' bs' : Arms)
        → ArmsFollow it (On R) V as' bs' → ActFollows it R V (case v as') (case v bs')
    case_like v as' bs' f = case_follows it v v as' bs' f
        (λ x y e. (y, value_has g Any x.env x.env' x.related v (any_val v) y e, (same, x.related)))

    -- ---- all pieces

    mutual
      unfolding unbox_act act_calls IntAct EachAct act_vars ActClosed

      act_like : (bare : Bool) (o : Act) → Ends bare o → EachAct inlined_kind o
          → EachAct vectorised_kind o → Once (act_vars o) → ActClosed A M o
          → ActFollows it R (EndGives bare) o (unbox_act M bare o)
      act_like bare (case v as') l i u n k = case_like v as' (unbox_arms M bare as')
          (arms_like bare as' (case_ends bare v as' l) i.2 u.2 n k)
      act_like bare (nested b) l i u n k = nested_follows it b (unbox_code M bare b)
          (code_like bare b (nested_ends bare b l) i.1 u.1 n k)
      act_like true (leaf (unit v)) l i u n k = unit_bare v l
      act_like false (leaf (unit v)) l i u n k = silent (leaf (unit v)) tt
      act_like true (leaf (call f ws)) l i u n k = call_bare f ws l
      act_like false (leaf (call f ws)) l i u n k = call_as false f ws l
      act_like bare (leaf fail) l i u n k = fail_follows it
      act_like bare (leaf (eval a)) l i u n k = absurd i
      act_like bare (leaf (apply v a)) l i u n k = absurd i.0
      act_like true (leaf (fetch a)) l i u n k = absurd l
      act_like true (leaf (fetch_word a j)) l i u n k = absurd l
      act_like true (leaf (update a v)) l i u n k = absurd l
      act_like true (leaf (prim q a b)) l i u n k = absurd l
      act_like true (leaf read) l i u n k = absurd l
      act_like true (leaf (write a)) l i u n k = absurd l
      act_like false (leaf (fetch a)) l i u n k = silent (leaf (fetch a)) tt
      act_like false (leaf (fetch_word a j)) l i u n k = silent (leaf (fetch_word a j)) tt
      act_like false (leaf (update a v)) l i u n k = silent (leaf (update a v)) tt
      act_like false (leaf (prim q a b)) l i u n k = silent (leaf (prim q a b)) tt
      act_like false (leaf read) l i u n k = silent (leaf read) tt
      act_like false (leaf (write a)) l i u n k = silent (leaf (write a)) tt

      code_like : (bare : Bool) (b : Code) → CodeEnds bare b → EachCode inlined_kind b
          → EachCode vectorised_kind b → Once (code_vars b) → CodeClosed A M b
          → CodeFollows it R (EndGives bare) b (unbox_code M bare b)
      code_like bare (end o) l i u n k = end_follows it o (unbox_act M bare o)
          (act_like bare o (end_ends bare o l) i u n k)
      code_like bare (store cs b) l i u n k = store_like cs b (unbox_code M bare b)
          (code_like bare b (store_ends bare cs b l) i.1 u.1
          (once_right (cell_vars cs) (code_vars b) n) k)
      code_like bare (bind t o b) l i u n k =
          bound_follows t o b (unbox_code M bare b) (act_calls M o) refl k.0 u.0
          (once_left (target_vars t) (act_vars o ++ code_vars b) n)
          (λ q e. act_like q o e i.1 u.1
          (once_left (act_vars o) (code_vars b)
          (once_right (target_vars t) (act_vars o ++ code_vars b) n)) k.1)
          (code_like bare b (bind_ends bare t o b l) i.2 u.2
          (once_right (act_vars o) (code_vars b)
          (once_right (target_vars t) (act_vars o ++ code_vars b) n)) k.2)

      arms_like : (bare : Bool) (as' : Arms) → ArmsEnd bare as' → EachArms inlined_kind as'
          → EachArms vectorised_kind as' → Once (arms_vars as') → ArmsClosed A M as'
          → ArmsFollow it (On R) (EndGives bare) as' (unbox_arms M bare as')
      arms_like bare no_arm l i u n k = no_arm_follows it no_arm
      arms_like bare (arm s b as') l i u n k = arm_like s b (unbox_code M bare b) as'
          (unbox_arms M bare as')
          (code_like bare b (arm_ends bare s b as' l) i.1 u.1
          (once_left (code_vars b) (arms_vars as')
          (once_right (shape_vars s) (code_vars b ++ arms_vars as') n)) k.0)
          (arms_like bare as' (later_ends bare s b as' l) i.2 u.2
          (once_right (code_vars b) (arms_vars as')
          (once_right (shape_vars s) (code_vars b ++ arms_vars as') n)) k.1)

    enters_same : {xs xs' : List Datum} (q : Procedure) (bs : List Binding) → Same xs xs'
        → one_each q.params xs ≡ Some bs
        → (bs' : List Binding) × (one_each q.params xs' ≡ Some bs')
        × Has Any (with_vars bs nothing) (with_vars bs' nothing)
    enters_same q bs same e = (bs, e, λ y v _ k. k)

    body_ends : (f : ℕ) (q : Procedure) → ProcedureClosed A M f q → (b : Bool) → M f ≡ b
        → CodeEnds b q.body
    body_ends f q k true e = k.ints e
    body_ends f q k false e = go (code_calls M q.body) refl
      where
        go : (b : Bool) → code_calls M q.body ≡ b → code_calls M q.body ≡ false
        go true c = let m : M f ≡ true = k.member c in cc
        go false c = c

    bodies_like : (f : ℕ) (qs : List Procedure) → EveryBodyIsOfKind inlined_kind qs
        → EveryBodyIsOfKind vectorised_kind qs → Once (procs_vars qs) → ProceduresClosed A M f qs
        → BodiesFollow it f qs (unboxed_from M f qs)
    bodies_like f [] i u n k = no_more
    bodies_like f (q ∷ qs) i u n k = one_more {f = f} {q = q} {r = unboxed_procedure M f q}
        (record {
          R = R;
          V = EndGives (M f);
          enters = λ heap xs xs' bs a e known. enters_same q bs a e;
          body = code_like (M f) q.body (body_ends f q k.0 (M f) refl) i.0 u.0
              (once_right (numbers_of q.params) (code_vars q.body)
              (once_left (numbers_of q.params ++ code_vars q.body) (procs_vars qs) n)) k.0.blocks;
          given = given_too g (M f);
        }) (bodies_like (suc f) qs i.1 u.1
        (once_right (numbers_of q.params ++ code_vars q.body) (procs_vars qs) n) k.1)

  module _ (formed : Formed g) (never : CheckedRunsNeverMissing g)
      (solves : Solves (tables g) (system g) A) (closed : Closed A g M)
      (inlined : EveryBodyIsOfKind inlined_kind g.procs)
      (vectors : EveryBodyIsOfKind vectorised_kind g.procs) where
    all_lie : (i : List ℕ) (n : ℕ) → HoldsInEveryState (StateIsCovered g A)
        (world_of (checked_run g i n)).seen
    all_lie i n = subst (λ a. HoldsInEveryState (StateIsCovered g A) (world_of a).seen)
        (sym (look_agrees g i n (never i n)))
        ((covers g A (formed_is_started g formed) solves).passed i n)

    goes_likewise : (i : List ℕ) (n : ℕ) → Likewise no_deeper (Gives (M g.start.0))
        (checked_run g i n) (checked_run (unboxed M g) i n)
    goes_likewise i n = run_follows plan
        (λ c c' cb cf. bodies_like c c' cb cf 0 g.procs inlined vectors formed.variables_once
        closed) i n same same (all_lie i n)

    pub unboxed_kept : CheckedRunsNeverMissing (unboxed M g) × Keeps g (unboxed M g)
    unboxed_kept = looking_kept g (unboxed M g) never
        (λ i n. likewise_kept no_deeper (Gives (M g.start.0)) (checked_run g i n)
        (checked_run (unboxed M g) i n) (goes_likewise i n))
