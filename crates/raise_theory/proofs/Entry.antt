-- Where a procedure begins: the parameters, and those that stand in their place, take related
-- arguments.
use Rattle.std.proofs.Common.{◌≡◌, ℕ, suc, ◌+◌, ◌<◌, ◌≤◌, Bool, true, false, cond, nat_eq, List, [], ◌∷◌, ◌++◌, length, Option, Some, None, refl, sym, ap, ◌∙◌, subst, arith}
use Rattle.seq.proofs.Order.{eq_from, eq_self}
use Rattle.grin_syntax.specs.declared.program.VarId.{VarId}
use Rattle.grin_syntax.specs.Binders.{numbers_of}
use Rattle.grin_syntax.specs.Formed.{InScope}
use Rattle.grin_syntax.specs.Fresh.{variables}
use Rattle.grin_syntax.proofs.Counted.{fresh}
use Rattle.grin_meaning.specs.Values.{Datum, Value, words, Env, HeapCell, and_then, Binding, with_vars, one_each}
use Rattle.raise_theory.specs.Raising.{Raising, Decisions, fields_of, raised_params, decided}
use Rattle.raise_theory.specs.Decided.{new_params}
use Rattle.pass_ground.proofs.Tests.{never_both, times_vars}
use Rattle.pass_ground.proofs.Bound.{names_of, vars_out, vars_in, vars_append, one_each_names}
use Rattle.raise_theory.proofs.Facts.{fresh_in}
use Rattle.raise_theory.proofs.Related.{EachIs, each_same, Held, ArgsFor, FieldsOf}
use Rattle.seq.specs.Lists.{times}
use Rattle.seq.proofs.Counted.{counts, one_at}
use Rattle.grin_meaning.proofs.Bindings.{named, named_below}

-- ---- variables in a row

pub row_each : (k : ℕ) (ds : List Datum) (env : Env) → EachIs (with_vars (named k ds) env) k ds
row_each k [] env = tt
row_each k (d ∷ ds) env =
    let env1 : Env = λ z. cond (nat_eq z k) (Some (words (d ∷ []))) (env z) in (
      named_below (suc k) ds env1 k (omega arith) ∙ ap (λ b. cond b (Some (words (d ∷ []))) (env k))
          (eq_self k),
      row_each (suc k) ds env1,
    )

row_more : (k : ℕ) (ds rest : List Datum) (ys : List VarId) (cs : List Binding)
    → one_each ys rest ≡ Some cs → one_each (variables k (length ds) ++ ys) (ds ++ rest) ≡ Some
    (named k ds ++ cs)
row_more k [] rest ys cs e = e
row_more k (d ∷ ds) rest ys cs e = ap (λ o. and_then o (λ bs. Some ((k, words (d ∷ [])) ∷ bs)))
    (row_more (suc k) ds rest ys cs e)

-- ---- the parameters that stand in place of others are among these and the new ones

params_few : (y : ℕ) (ds : Decisions) (xs : List VarId)
    → times y (numbers_of (raised_params ds xs)) ≤ times y (numbers_of xs) + times y
    (numbers_of (new_params ds))
params_few y [] xs = omega arith
params_few y (d ∷ ds) [] = omega arith
params_few y (None ∷ ds) (x ∷ xs) = let h : times y (numbers_of (raised_params ds xs)) ≤ times y
    (numbers_of xs) + times y (numbers_of (new_params ds)) = params_few y ds xs in omega arith
params_few y (Some r ∷ ds) (x ∷ xs) =
    let h : times y (numbers_of (raised_params ds xs)) ≤ times y (numbers_of xs) + times y
    (numbers_of (new_params ds)) = params_few y ds xs in
    let e : times y (numbers_of (fields_of r ++ raised_params ds xs)) ≡ times y
    (numbers_of (fields_of r)) + times y (numbers_of (raised_params ds xs))
    = times_vars y (fields_of r) (raised_params ds xs) in
    let f : times y (numbers_of (fields_of r ++ new_params ds)) ≡ times y (numbers_of (fields_of r))
    + times y (numbers_of (new_params ds)) = times_vars y (fields_of r) (new_params ds) in
    omega (arith, h, e, f)

-- ---- what is bound

-- a first word is there, and the others
record FirstBound (x : VarId) (xs : List VarId) (d : Datum) (ds : List Datum) (bs : List Binding)
    : Type 0 where
  pub cs : List Binding
  pub others : one_each xs ds ≡ Some cs
  pub all : bs ≡ (x.0, words (d ∷ [])) ∷ cs

first_bound : (x : VarId) (xs : List VarId) (d : Datum) (ds : List Datum) (bs : List Binding)
    → one_each (x ∷ xs) (d ∷ ds) ≡ Some bs → FirstBound x xs d ds bs
first_bound x xs d ds bs e = go (one_each xs ds) refl e
  where
    go : (o : Option (List Binding)) → one_each xs ds ≡ o
        → and_then o (λ cs. Some ((x.0, words (d ∷ [])) ∷ cs)) ≡ Some bs → FirstBound x xs d ds bs
    go None q k = cc
    go (Some cs) q k = record { cs = cs; others = q; all = cc }

module _ (F : List HeapCell) where
  pub record Enters (ds : Decisions) (xs : List VarId) (bs : List Binding) (ws : List Datum)
      : Type 0 where
    pub bs' : List Binding
    pub binds : one_each (raised_params ds xs) ws ≡ Some bs'
    pub same : (env env' : Env) (y : ℕ) (v : Value) → InScope (numbers_of xs) y
        → decided ds xs y ≡ None → with_vars bs env y ≡ Some v → with_vars bs' env' y ≡ Some v
    pub fields : (env env' : Env) (y : ℕ) (r : Raising) (v : Value) → decided ds xs y ≡ Some r
        → with_vars bs env y ≡ Some v → FieldsOf F r v (with_vars bs' env')

  abbrev Once : Decisions → List VarId → Type 0
  Once ds xs = (y : ℕ) → times y (numbers_of xs) + times y (numbers_of (new_params ds)) ≤ 1

  abbrev plus : ℕ → Datum → Env → Env
  plus x d env = λ y. cond (nat_eq y x) (Some (words (d ∷ []))) (env y)

  in_others : (x : VarId) (xs : List VarId) (y : ℕ) → nat_eq x.0 y ≡ false
      → InScope (numbers_of (x ∷ xs)) y → InScope (numbers_of xs) y
  in_others x xs y e i = go (nat_eq y x.0) refl i
    where
      go : (b : Bool) → nat_eq y x.0 ≡ b → 0 < counts b + times y (numbers_of xs)
          → InScope (numbers_of xs) y
      go true q k = never_both (ap (λ z. nat_eq z y) (sym (eq_from y x.0 q)) ∙ eq_self y) e
      go false q k = omega (arith, k)

  -- nothing is decided: the arguments are the same
  enters_all : (xs : List VarId) (ws ws' : List Datum) (bs : List Binding) → ws' ≡ ws
      → one_each xs ws ≡ Some bs → Enters [] xs bs ws'
  enters_all xs ws ws' bs q e = record {
    bs' = bs;
    binds = ap (one_each xs) q ∙ e;
    same = λ env env' y v i n h. sym
        (vars_in bs env env' y (subst (λ l. 0 < times y l) (sym (one_each_names xs ws bs e)) i)) ∙
        h;
    fields = λ env env' y r v n h. cc;
  }

  enters_none : (d : Option Raising) (ds : Decisions) (ws : List Datum) (bs : List Binding)
      → ws ≡ [] → Enters (d ∷ ds) [] bs ws
  enters_none d ds ws bs q = record {
    bs' = [];
    binds = ap (one_each []) q;
    same = λ env env' y v i n h. absurd (omega (arith, i));
    fields = λ env env' y r v n h. cc;
  }

  enters_stays : (x : VarId) (xs : List VarId) (d : Datum) (es : List Datum) (ds : Decisions)
      (bs cs : List Binding) (ws rest : List Datum) → Once (None ∷ ds) (x ∷ xs)
      → one_each xs es ≡ Some cs → bs ≡ (x.0, words (d ∷ [])) ∷ cs → ws ≡ d ∷ rest
      → Enters ds xs cs rest → Enters (None ∷ ds) (x ∷ xs) bs ws
  enters_stays x xs d es ds bs cs ws rest once others all q k = record {
    bs' = (x.0, words (d ∷ [])) ∷ k.bs';
    binds = ap (one_each (x ∷ raised_params ds xs)) q ∙ ap
        (λ o. and_then o (λ l. Some ((x.0, words (d ∷ [])) ∷ l))) k.binds;
    same = λ env env' y v i n h. same env env' y v i (nat_eq x.0 y) refl n
        (subst (λ l. with_vars l env y ≡ Some v) all h);
    fields = λ env env' y r v n h. fields env env' y r v (nat_eq x.0 y) n
        (subst (λ l. with_vars l env y ≡ Some v) all h);
  }
    where
      not_later : times x.0 (names_of cs) ≡ 0
      not_later =
          let o : times x.0 (x.0 ∷ numbers_of xs) + times x.0 (numbers_of (new_params ds)) ≤ 1
          = once x.0 in
          let e : counts (nat_eq x.0 x.0) ≡ 1 = one_at x.0 in
          let m : times x.0 (numbers_of xs) ≡ 0 = omega (arith, o, e) in
          ap (times x.0) (one_each_names xs es cs others) ∙ m

      not_later' : times x.0 (names_of k.bs') ≡ 0
      not_later' =
          let o : times x.0 (x.0 ∷ numbers_of xs) + times x.0 (numbers_of (new_params ds)) ≤ 1
          = once x.0 in
          let e : counts (nat_eq x.0 x.0) ≡ 1 = one_at x.0 in
          let few : times x.0 (numbers_of (raised_params ds xs)) ≤ times x.0 (numbers_of xs) + times
          x.0 (numbers_of (new_params ds)) = params_few x.0 ds xs in
          let m : times x.0 (numbers_of (raised_params ds xs)) ≡ 0 = omega (arith, o, e, few) in
          ap (times x.0) (one_each_names (raised_params ds xs) rest k.bs' k.binds) ∙ m

      own : (cs : List Binding) (env : Env) → times x.0 (names_of cs) ≡ 0
          → with_vars cs (plus x.0 d env) x.0 ≡ Some (words (d ∷ []))
      own cs env z = vars_out cs (plus x.0 d env) x.0 z ∙ ap
          (λ b. cond b (Some (words (d ∷ []))) (env x.0)) (eq_self x.0)

      same : (env env' : Env) (y : ℕ) (v : Value) → InScope (numbers_of (x ∷ xs)) y → (b : Bool)
          → nat_eq x.0 y ≡ b → cond b None (decided ds xs y) ≡ None
          → with_vars cs (plus x.0 d env) y ≡ Some v → with_vars k.bs' (plus x.0 d env') y ≡ Some v
      same env env' y v i true e n h =
          let is : x.0 ≡ y = eq_from x.0 y e in
          let val : Some (words (d ∷ [])) ≡ Some v = sym (own cs env not_later) ∙ ap
          (with_vars cs (plus x.0 d env)) is ∙ h in
          ap (with_vars k.bs' (plus x.0 d env')) (sym is) ∙ own k.bs' env' not_later' ∙ val
      same env env' y v i false e n h = k.same (plus x.0 d env) (plus x.0 d env') y v
          (in_others x xs y e i) n h

      fields : (env env' : Env) (y : ℕ) (r : Raising) (v : Value) (b : Bool)
          → cond b None (decided ds xs y) ≡ Some r → with_vars cs (plus x.0 d env) y ≡ Some v
          → FieldsOf F r v (with_vars k.bs' (plus x.0 d env'))
      fields env env' y r v true n h = cc
      fields env env' y r v false n h = k.fields (plus x.0 d env) (plus x.0 d env') y r v n h

  enters_fields : (x : VarId) (xs : List VarId) (r : Raising) (d : Datum) (es : List Datum)
      (ds : Decisions) (bs cs : List Binding) (ws rest : List Datum) (held : Held F r d)
      → Once (Some r ∷ ds) (x ∷ xs) → one_each xs es ≡ Some cs → bs ≡ (x.0, words (d ∷ [])) ∷ cs
      → ws ≡ held.y.node.fields ++ rest → Enters ds xs cs rest → Enters (Some r ∷ ds) (x ∷ xs) bs ws
  enters_fields x xs r d es ds bs cs ws rest held once others all q k = record {
    bs' = row ++ k.bs';
    binds = ap (one_each (fields_of r ++ raised_params ds xs)) q
        ∙ subst (λ n. one_each (variables r.first.0 n ++ raised_params ds xs) (fs ++ rest) ≡ Some
        (row ++ k.bs')) held.many
        (row_more r.first.0 fs rest (raised_params ds xs) k.bs' k.binds);
    same = λ env env' y v i n h. same env env' y v i (nat_eq x.0 y) refl n
        (subst (λ l. with_vars l env y ≡ Some v) all h);
    fields = λ env env' y s v n h. fields env env' y s v (nat_eq x.0 y) refl n
        (subst (λ l. with_vars l env y ≡ Some v) all h);
  }
    where
      fs : List Datum
      fs = held.y.node.fields

      row : List Binding
      row = named r.first.0 fs

      not_later : times x.0 (names_of cs) ≡ 0
      not_later =
          let o : times x.0 (x.0 ∷ numbers_of xs) + times x.0
          (numbers_of (fields_of r ++ new_params ds)) ≤ 1 = once x.0 in
          let e : counts (nat_eq x.0 x.0) ≡ 1 = one_at x.0 in
          let m : times x.0 (numbers_of xs) ≡ 0 = omega (arith, o, e) in
          ap (times x.0) (one_each_names xs es cs others) ∙ m

      own : (env : Env) → with_vars cs (plus x.0 d env) x.0 ≡ Some (words (d ∷ []))
      own env = vars_out cs (plus x.0 d env) x.0 not_later ∙ ap
          (λ b. cond b (Some (words (d ∷ []))) (env x.0)) (eq_self x.0)

      -- the fields aren't bound again
      apart : (j : ℕ) → r.first.0 ≤ j → j < r.first.0 + length fs → times j (names_of k.bs') ≡ 0
      apart j le lt =
          let lt' : j < r.first.0 + r.fields = subst (λ n. j < r.first.0 + n) held.many lt in
          let one : 1 ≤ fresh j r.first.0 r.fields = fresh_in j r.first.0 r.fields le lt' in
          let o : times j (x.0 ∷ numbers_of xs) + times j
          (numbers_of (fields_of r ++ new_params ds)) ≤ 1 = once j in
          let e : times j (numbers_of (fields_of r ++ new_params ds)) ≡ times j
          (numbers_of (fields_of r)) + times j (numbers_of (new_params ds))
          = times_vars j (fields_of r) (new_params ds) in
          let few : times j (numbers_of (raised_params ds xs)) ≤ times j (numbers_of xs) + times j
          (numbers_of (new_params ds)) = params_few j ds xs in
          let m : times j (numbers_of (raised_params ds xs)) ≡ 0 = omega (arith, one, o, e, few) in
          ap (times j) (one_each_names (raised_params ds xs) rest k.bs' k.binds) ∙ m

      split : (env' : Env) → with_vars (row ++ k.bs') env' ≡ with_vars k.bs' (with_vars row env')
      split env' = vars_append row k.bs' env'

      same : (env env' : Env) (y : ℕ) (v : Value) → InScope (numbers_of (x ∷ xs)) y → (b : Bool)
          → nat_eq x.0 y ≡ b → cond b (Some r) (decided ds xs y) ≡ None
          → with_vars cs (plus x.0 d env) y ≡ Some v → with_vars (row ++ k.bs') env' y ≡ Some v
      same env env' y v i true e n h = cc
      same env env' y v i false e n h = ap (λ u. u y) (split env') ∙ k.same (plus x.0 d env)
          (with_vars row env') y v (in_others x xs y e i) n h

      fields : (env env' : Env) (y : ℕ) (s : Raising) (v : Value) (b : Bool) → nat_eq x.0 y ≡ b
          → cond b (Some r) (decided ds xs y) ≡ Some s → with_vars cs (plus x.0 d env) y ≡ Some v
          → FieldsOf F s v (with_vars (row ++ k.bs') env')
      fields env env' y s v true e n h =
          let is : x.0 ≡ y = eq_from x.0 y e in
          let r_is : r ≡ s = cc in
          let val : Some (words (d ∷ [])) ≡ Some v = sym (own env) ∙ ap
          (with_vars cs (plus x.0 d env)) is ∙ h in
          let v_is : v ≡ words (d ∷ []) = cc in
          let each : EachIs (with_vars k.bs' (with_vars row env')) r.first.0 fs
          = each_same (with_vars row env') _ r.first.0 fs
          (λ j le lt. vars_out k.bs' (with_vars row env') j (apart j le lt))
          (row_each r.first.0 fs env') in
          subst (λ t. FieldsOf F t v (with_vars (row ++ k.bs') env')) r_is
          (subst (FieldsOf F r v) (sym (split env'))
          (record { x = d; is = v_is; held = held; each = each }))
      fields env env' y s v false e n h = subst (FieldsOf F s v) (sym (split env'))
          (k.fields (plus x.0 d env) (with_vars row env') y s v n h)

  pub enters : (ds : Decisions) (xs : List VarId) (ws ws' : List Datum) (bs : List Binding)
      → Once ds xs → ArgsFor F ds ws ws' → one_each xs ws ≡ Some bs → Enters ds xs bs ws'
  enters [] xs ws ws' bs once a e = enters_all xs ws ws' bs a e
  enters (d ∷ ds) [] [] ws' bs once a e = enters_none d ds ws' bs a
  enters (d ∷ ds) [] (w ∷ ws) ws' bs once a e = cc
  enters (d ∷ ds) (x ∷ xs) [] ws' bs once a e = cc
  enters (None ∷ ds) (x ∷ xs) (w ∷ ws) ws' bs once a e =
      let f : FirstBound x xs w ws bs = first_bound x xs w ws bs e in
      enters_stays x xs w ws ds bs f.cs ws' a.0 once f.others f.all a.1
      (enters ds xs ws a.0 f.cs (λ y. less y (once y)) a.2 f.others)
    where
      less : (y : ℕ) → times y (numbers_of (x ∷ xs)) + times y (numbers_of (new_params ds)) ≤ 1
          → times y (numbers_of xs) + times y (numbers_of (new_params ds)) ≤ 1
      less y h = omega (arith, h)
  enters (Some r ∷ ds) (x ∷ xs) (w ∷ ws) ws' bs once a e =
      let f : FirstBound x xs w ws bs = first_bound x xs w ws bs e in
      enters_fields x xs r w ws ds bs f.cs ws' a.1 a.0 once f.others f.all a.2
      (enters ds xs ws a.1 f.cs (λ y. less y (once y)) a.3 f.others)
    where
      less : (y : ℕ) → times y (numbers_of (x ∷ xs)) + times y
          (numbers_of (fields_of r ++ new_params ds)) ≤ 1
          → times y (numbers_of xs) + times y (numbers_of (new_params ds)) ≤ 1
      less y h = let e : times y (numbers_of (fields_of r ++ new_params ds)) ≡ times y
          (numbers_of (fields_of r)) + times y (numbers_of (new_params ds))
          = times_vars y (fields_of r) (new_params ds) in omega (arith, e, h)
