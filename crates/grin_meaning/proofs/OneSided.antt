-- Steps that one of two programs takes alone, and blocks that are put in another block's place.
use Rattle.std.proofs.Common.{◌≡◌, ℕ, suc, List, [], ◌∷◌, ◌++◌, Bool, true, false, cond, Option, Some, None, slice_get, refl, sym, ap, ◌∙◌, subst}
use Rattle.seq.proofs.Truth.{false_not_true}
use Rattle.grin_syntax.specs.declared.program.Shape.{Shape}
use Rattle.grin_syntax.specs.declared.program.Target.{Target}
use Rattle.grin_syntax.specs.declared.program.Val.{Val}
use Rattle.grin_syntax.specs.Tree.{Code, bind, Act, leaf, unit, fetch, fetch_word, update, eval, apply, call, prim, read, write, case, nested, fail, Arms, no_arm, arm}
use Rattle.grin_meaning.specs.Values.{Value, Env, HeapCell, World, missing, Answer, gives, stops, then_do, need, and_then, Binding, with_vars, MatchOutcome, fits, fits_not, unclear, fit_of, word_of, value_of, bindings_of}
use Rattle.grin_meaning.specs.Run.{act_by, code_by, arms_by, require_if_checked, choose, with_state_seen, place_of, apply_arithmetic}
use Rattle.grin_meaning.specs.Checks.{is_bound_well}
use Rattle.grin_meaning.proofs.Back.{code_by_back, every_last}
use Rattle.grin_meaning.proofs.Beside.{beside, free, Seen, Sim, need_first}
use Rattle.grin_meaning.proofs.Rules.{Relation, Here, Setting, h, ActFollows, CodeFollows, ArmsFollow}
use Rattle.grin_meaning.specs.Pieces.{HasNoEffect}

pub data Still (w : World) : Answer → Type 0 where
  there : (v : Value) → Still w (gives v w)
  lacks : (u : World) → Still w (stops missing u)

need_still : {A : Type 0} (o : Option A) (w : World) (k : A → Answer) → ((a : A) → Still w (k a))
    → Still w (need o w k)
need_still None w k f = lacks w
need_still (Some a) w k f = f a

looking_still : (looks b : Bool) (w : World) (a : Answer) → Still w a
    → Still w (require_if_checked looks b w a)
looking_still false b w a f = f
looking_still true true w a f = f
looking_still true false w a f = lacks w

module _ (s : Setting) where
  open s use {plan, c, c', back as cb, follow as cf, plan.{looks, K, P, Args, Result, g, procs}}

  still : (env : Env) (d : ℕ) (o : Act) (w : World) → HasNoEffect o
      → Still w (act_by g c looks env d o w)
  unfolding act_by
  still env d (leaf (unit v)) w l = need_still (value_of g env v) w _
      (λ y. looking_still looks _ w _ (there y))
  still env d (leaf (fetch a)) w l = need_still (and_then (word_of g env a) place_of) w _
      (λ i. need_still (slice_get w.cells i) w _ (λ y. there _))
  still env d (leaf (fetch_word a k)) w l = need_still (and_then (word_of g env a) place_of) w _
      (λ i. need_still (slice_get w.cells i) w _ (λ y. there _))
  still env d (leaf (prim q a b)) w l = need_still (word_of g env a) w _
      (λ x. need_still (word_of g env b) w _ (λ y. need_still (apply_arithmetic q x y) w _ there))
  still env d (leaf (update a v)) w l = absurd l
  still env d (leaf (eval a)) w l = absurd l
  still env d (leaf (apply v a)) w l = absurd l
  still env d (leaf (call f ws)) w l = absurd l
  still env d (leaf read) w l = absurd l
  still env d (leaf (write a)) w l = absurd l
  still env d (case v as') w l = absurd l
  still env d (nested b) w l = absurd l
  still env d (leaf fail) w l = absurd l

  looked_first : {A : Type 0} (V : Value → Value → Type 0) (looks b : Bool) (o : Option A)
      (w : World) (k : A → Answer) (a' : Answer) →
      ((a : A) → o ≡ Some a → Seen looks b → Sim P K V (k a) a')
      → Sim P K V (require_if_checked looks b w (need o w k)) a'
  looked_first V false b o w k a' f = need_first P K V o w k a'
      (λ a e. f a e (λ l. false_not_true l))
  looked_first V true true o w k a' f = need_first P K V o w k a' (λ a e. f a e (λ l. refl))
  looked_first V true false o w k a' f = λ _. free

  -- the first binds alone
  pub left_follows : {R R' : Relation} {V : Value → Value → Type 0} (t : Target) (o : Act)
      (b b' : Code) → HasNoEffect o → CodeFollows s R' V b b'
      → ((x : Here plan R) (v : Value) (bs : List Binding)
      → act_by g c looks x.env (suc x.d) o x.w ≡ gives v x.w
      → Seen looks (is_bound_well g t o v) → bindings_of g t v ≡ Some bs
      → P (record { env = with_vars bs x.env; heap = x.w.cells })
      → R' x.w.cells (with_vars bs x.env) x.env') → CodeFollows s R V (bind t o b) b'
  unfolding act_by
  left_follows {R} {R'} {V} t o b b' l f r = record {
    by = λ x. go x (act_by g c looks x.env (suc x.d) o x.w) refl
        (still x.env (suc x.d) o x.w l);
  }
    where
      go : (x : Here plan R) (a : Answer) → act_by g c looks x.env (suc x.d) o x.w ≡ a → Still x.w a
          → Sim P K V
          (then_do a
          (λ v w. require_if_checked looks (is_bound_well g t o v) w
          (need (bindings_of g t v) w
          (λ bs. code_by g c looks (with_vars bs x.env) x.d b
          (with_state_seen (with_vars bs x.env) w)))))
          (code_by (h s) c' looks x.env' x.d' b' (beside x.b))
      go x a e (lacks u) = λ _. free
      go x a e (there v) = looked_first V looks (is_bound_well g t o v) (bindings_of g t v) x.w _ _
          (λ bs q seen all.
          let env : Env = with_vars bs x.env in
          let at : P (record { env = env; heap = x.w.cells })
          = every_last P x.w.seen _
          (code_by_back P g c cb looks env x.d b (with_state_seen env x.w) all) in
          f.by (record {
            env = env;
            env' = x.env';
            d = x.d;
            d' = x.d';
            w = with_state_seen env x.w;
            b = record {
              cells = x.b.cells;
              seen = x.b.seen;
              depth = x.b.depth;
              heaps = x.b.heaps;
              deep
                  = x.b.deep;
            };
            related = r x v bs e seen q at;
            known = at;
            nest = x.nest;
          }) all)

  -- what the second binds alone
  pub record Alone (R' : Relation) (t' : Target) (o' : Act) (env env' : Env) (d' : ℕ)
      (cells : List HeapCell) (w' : World) : Type 0 where
    pub v' : Value
    pub bs' : List Binding
    pub gave : act_by (h s) c' looks env' (suc d') o' w' ≡ gives v' w'
    pub seen : Seen looks (is_bound_well (h s) t' o' v')
    pub binds : bindings_of (h s) t' v' ≡ Some bs'
    pub related : R' cells env (with_vars bs' env')

  looked_on : {A : Type 0} (looks b : Bool) (o : Option A) (a : A) (w : World) (k : A → Answer)
      → Seen looks b → o ≡ Some a → require_if_checked looks b w (need o w k) ≡ k a
  looked_on false b o a w k seen e = ap (λ q. need q w k) e
  looked_on true b o a w k seen e = ap (λ q. cond q (need o w k) (stops missing w)) (seen refl) ∙ ap
      (λ q. need q w k) e

  -- the second binds alone
  pub right_follows : {R R' : Relation} {V : Value → Value → Type 0} (t' : Target) (o' : Act)
      (b b' : Code) → CodeFollows s R' V b b' →
      ((x : Here plan R) → Alone R' t' o' x.env x.env' x.d' x.w.cells (beside x.b))
      → CodeFollows s R V b (bind t' o' b')
  unfolding act_by
  right_follows {R} {R'} {V} t' o' b b' f r = record { by = λ x. go x (r x) }
    where
      go : (x : Here plan R) → Alone R' t' o' x.env x.env' x.d' x.w.cells (beside x.b)
          → Sim P K V (code_by g c looks x.env x.d b x.w)
          (code_by (h s) c' looks x.env' x.d' (bind t' o' b') (beside x.b))
      go x y =
          let env' : Env = with_vars y.bs' x.env' in
          let rest : Value → World → Answer = λ v w. require_if_checked looks
          (is_bound_well (h s) t' o' v) w
          (need (bindings_of (h s) t' v) w
          (λ bs. code_by (h s) c' looks (with_vars bs x.env') x.d' b'
          (with_state_seen (with_vars bs x.env') w))) in
          let same : then_do (act_by (h s) c' looks x.env' (suc x.d') o' (beside x.b)) rest ≡
          code_by (h s) c' looks env' x.d' b' (with_state_seen env' (beside x.b))
          = ap (λ a. then_do a rest) y.gave ∙ looked_on looks (is_bound_well (h s) t' o' y.v')
          (bindings_of (h s) t' y.v') y.bs' (beside x.b) _ y.seen y.binds in
          subst (Sim P K V (code_by g c looks x.env x.d b x.w)) (sym same) (f.by (record {
            env = x.env;
            env' = env';
            d = x.d;
            d' = x.d';
            w = x.w;
            b = record {
              cells = x.b.cells;
              seen = x.b.seen
                  ++ record { env = env'; heap = x.b.cells } ∷ [];
              depth = x.b.depth;
              heaps
                  = x.b.heaps;
              deep = x.b.deep;
            };
            related = y.related;
            known = x.known;
            nest = x.nest;
          }))

  -- an alternative of the first that never fits
  pub arm_left : {U U' : Value → Value → Relation} {V : Value → Value → Type 0} (q : Shape)
      (b : Code) (as' bs' : Arms) →
      ((v v' : Value) (x : Here plan (U v v')) (bs : List Binding) → fit_of g q v ≡ fits bs → ⊥)
      → ((v v' : Value) (x : Here plan (U v v')) → fit_of g q v ≡ fits_not
      → U' v v' x.w.cells x.env x.env') → ArmsFollow s U' V as' bs'
      → ArmsFollow s U V (arm q b as') bs'
  unfolding act_by
  arm_left {U} {U'} {V} q b as' bs' never not f = record
      { by = λ v v' x. go v v' x (fit_of g q v) refl }
    where
      go : (v v' : Value) (x : Here plan (U v v')) (o : MatchOutcome) → fit_of g q v ≡ o
          → Sim P K V
          (choose o x.w
          (λ bs. code_by g c looks (with_vars bs x.env) x.d b
          (with_state_seen (with_vars bs x.env) x.w)) (arms_by g c looks x.env x.d v as' x.w))
          (arms_by (h s) c' looks x.env' x.d' v' bs' (beside x.b))
      go v v' x (fits bs) e = absurd (never v v' x bs e)
      go v v' x unclear e = λ _. free
      go v v' x fits_not e = f.by v v'
          (record {
            env = x.env;
            env' = x.env';
            d = x.d;
            d' = x.d';
            w = x.w;
            b = x.b;
            related
                = not v v' x e;
            known = x.known;
            nest = x.nest;
          })

  -- an alternative of the second that does not fit
  pub arm_right : {U : Value → Value → Relation} {V : Value → Value → Type 0} (q : Shape) (b : Code)
      (as' bs' : Arms) → ((v v' : Value) (x : Here plan (U v v')) → fit_of (h s) q v' ≡ fits_not)
      → ArmsFollow s U V as' bs' → ArmsFollow s U V as' (arm q b bs')
  unfolding act_by
  arm_right {U} {V} q b as' bs' not f = record {
    by = λ v v' x. subst
        (λ o. Sim P K V (arms_by g c looks x.env x.d v as' x.w)
        (choose o (beside x.b)
        (λ bs. code_by (h s) c' looks (with_vars bs x.env') x.d' b
        (with_state_seen (with_vars bs x.env') (beside x.b)))
        (arms_by (h s) c' looks x.env' x.d' v' bs' (beside x.b)))) (sym (not v v' x)) (f.by v v' x);
  }

  -- the alternatives of the first become a block of the second
  pub record ArmsBecome (U : Value → Relation) (V : Value → Value → Type 0) (as' : Arms) (b' : Code)
      : Type 0 where
    pub by : (v : Value) (x : Here plan (U v)) → Sim P K V (arms_by g c looks x.env x.d v as' x.w)
        (code_by (h s) c' looks x.env' x.d' b' (beside x.b))

  pub case_becomes : {R : Relation} {U : Value → Relation} {V : Value → Value → Type 0} (v : Val)
      (as' : Arms) (b' : Code) → ArmsBecome U V as' b'
      → ((x : Here plan R) (y : Value) → value_of g x.env v ≡ Some y → U y x.w.cells x.env x.env')
      → ActFollows s R V (case v as') (nested b')
  unfolding act_by
  case_becomes {V = V} v as' b' f on = record {
    by = λ x. need_first P K V (value_of g x.env v) x.w _ _
        (λ y e. f.by y
        (record {
          env = x.env;
          env' = x.env';
          d = x.d;
          d' = x.d';
          w = x.w;
          b = x.b;
          related
              = on x y e;
          known = x.known;
          nest = x.nest;
        }));
  }

  -- this alternative, or a later one
  pub arm_taken : {U U' : Value → Relation} {R' : Relation} {V : Value → Value → Type 0} (q : Shape)
      (b : Code) (as' : Arms) (b' : Code) → CodeFollows s R' V b b' → ArmsBecome U' V as' b'
      → ((v : Value) (x : Here plan (U v)) (bs : List Binding) → fit_of g q v ≡ fits bs
      → P (record { env = with_vars bs x.env; heap = x.w.cells })
      → R' x.w.cells (with_vars bs x.env) x.env')
      → ((v : Value) (x : Here plan (U v)) → fit_of g q v ≡ fits_not → U' v x.w.cells x.env x.env')
      → ArmsBecome U V (arm q b as') b'
  unfolding act_by
  arm_taken {U} {U'} {R'} {V} q b as' b' f k fit not
      = record { by = λ v x. go v x (fit_of g q v) refl }
    where
      go : (v : Value) (x : Here plan (U v)) (o : MatchOutcome) → fit_of g q v ≡ o
          → Sim P K V
          (choose o x.w
          (λ bs. code_by g c looks (with_vars bs x.env) x.d b
          (with_state_seen (with_vars bs x.env) x.w)) (arms_by g c looks x.env x.d v as' x.w))
          (code_by (h s) c' looks x.env' x.d' b' (beside x.b))
      go v x (fits bs) e = λ all.
          let env : Env = with_vars bs x.env in
          let at : P (record { env = env; heap = x.w.cells })
          = every_last P x.w.seen _
          (code_by_back P g c cb looks env x.d b (with_state_seen env x.w) all) in
          f.by (record {
            env = env;
            env' = x.env';
            d = x.d;
            d' = x.d';
            w = with_state_seen env x.w;
            b = record {
              cells = x.b.cells;
              seen = x.b.seen;
              depth = x.b.depth;
              heaps = x.b.heaps;
              deep
                  = x.b.deep;
            };
            related = fit v x bs e at;
            known = at;
            nest = x.nest;
          }) all
      go v x unclear e = λ _. free
      go v x fits_not e = k.by v
          (record {
            env = x.env;
            env' = x.env';
            d = x.d;
            d' = x.d';
            w = x.w;
            b = x.b;
            related
                = not v x e;
            known = x.known;
            nest = x.nest;
          })

  -- where none is left
  pub none_taken : {U : Value → Relation} {V : Value → Value → Type 0} (b' : Code)
      → ArmsBecome U V no_arm b'
  unfolding act_by
  none_taken b' = record { by = λ v x _. free }
