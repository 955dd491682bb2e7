-- A nested block whose value is bound, against a block into which it is spliced.
use Rattle.std.proofs.Common.{◌≡◌, ℕ, suc, List, [], ◌∷◌, ◌++◌, length, Bool, true, false, Option, Some, None, refl, ap, subst}
use Rattle.grin_syntax.specs.declared.program.Cell.{Cell}
use Rattle.grin_syntax.specs.declared.program.Target.{Target}
use Rattle.grin_syntax.specs.Tree.{Code, end, store, bind, Act, nested}
use Rattle.grin_meaning.specs.Values.{Value, Env, HeapCell, State, World, Answer, gives, stops, then_do, need, Binding, with_vars, bindings_of}
use Rattle.grin_meaning.specs.Checks.{all_fill, is_bound_well}
use Rattle.grin_meaning.specs.Run.{act_by, code_by, require_if_checked, with_state_seen, places, cells_of, with_cells}
use Rattle.grin_meaning.specs.Keeps.{world_of}
use Rattle.grin_meaning.specs.Follows.{HoldsInEveryState}
use Rattle.grin_meaning.proofs.Back.{then_back, code_by_back, every_last}
use Rattle.grin_meaning.proofs.Beside.{Compared, Beside, beside, Likewise, Seen, Sim, then_sim, looked_need_sim, need_looked_sim}
use Rattle.grin_meaning.proofs.Rules.{Relation, Here, Setting, h, ActFollows, CodeFollows, Stored, StoresToo, BindsToo, rest, rest_back, enter}

then_need : {A : Type 0} (o : Option A) (w : World) (k : A → Answer) (r : Value → World → Answer)
    → need o w (λ a. then_do (k a) r) ≡ then_do (need o w k) r
then_need None w k r = refl
then_need (Some a) w k r = refl

then_looking : (looks b : Bool) (w : World) (a : Answer) (r : Value → World → Answer)
    → require_if_checked looks b w (then_do a r) ≡ then_do (require_if_checked looks b w a) r
then_looking false b w a r = refl
then_looking true true w a r = refl
then_looking true false w a r = refl

then_then : (a : Answer) (k r : Value → World → Answer)
    → then_do a (λ v w. then_do (k v w) r) ≡ then_do (then_do a k) r
then_then (gives v w) k r = refl
then_then (stops s w) k r = refl

sim_first : (P : State → Type 0) (K : Compared) {V : Value → Value → Type 0} {a b a' : Answer}
    → a ≡ b → (HoldsInEveryState P (world_of a).seen → Likewise K V a a')
    → HoldsInEveryState P (world_of b).seen → Likewise K V b a'
sim_first P K {V} {a} {b} {a'} e f = subst
    (λ x. HoldsInEveryState P (world_of x).seen → Likewise K V x a') e f

module _ (s : Setting) (down : (d d' : ℕ) → s.plan.K.Deep d' d → s.plan.K.Deep d' (suc d)) where
  open s use {plan, c, c', back as cb, follow as cf, plan.{looks, K, P, Args, Result, g, procs}}

  -- The block b of the first, inside of which its variables are env0 and more; t takes its value,
  -- and b2 goes on with env0.
  --     S relates the variables of the second to those inside and to env0
  pub record SplicesFollow (S : Env → Relation) (V : Value → Value → Type 0) (t : Target) (on : Act)
      (b2 b b' : Code) : Type 0 where
    pub by : (env0 : Env) (x : Here plan (S env0)) → Sim P K V
        (then_do (code_by g c looks x.env (suc x.d) b x.w) (rest s t on b2 env0 x.d))
        (code_by (h s) c' looks x.env' x.d' b' (beside x.b))

  pub splice_follows : {R : Relation} {S : Env → Relation} {V : Value → Value → Type 0} (t : Target)
      (b b2 b' : Code) → SplicesFollow S V t (nested b) b2 b b'
      → ((cells : List HeapCell) (env env' : Env) → R cells env env' → S env cells env env')
      → CodeFollows s R V (bind t (nested b) b2) b'
  unfolding act_by
  splice_follows t b b2 b' f r = record {
    by = λ x. f.by x.env
        (record {
          env = x.env;
          env' = x.env';
          d = x.d;
          d' = x.d';
          w = x.w;
          b = x.b;
          related
              = r x.w.cells x.env x.env' x.related;
          known = x.known;
          nest = x.nest;
        });
  }

  -- its last operation is bound
  pub splice_end : {S : Env → Relation} {R R' : Relation} {U V : Value → Value → Type 0}
      (t t' : Target) (on o o' : Act) (b2 b2' : Code) → ActFollows s R U o o'
      → CodeFollows s R' V b2 b2'
      → ((env0 : Env) (cells : List HeapCell) (env env' : Env) → S env0 cells env env'
      → R cells env env')
      → ((env0 : Env) (x : Here plan (S env0)) (v v' : Value) (w : World) (n : Beside K w)
      (bs : List Binding) → act_by g c looks x.env (suc x.d) o x.w ≡ gives v w → U v v'
      → Seen looks (is_bound_well g t on v) → bindings_of g t v ≡ Some bs
      → P (record { env = with_vars bs env0; heap = w.cells })
      → BindsToo s R' t' o' env0 x.env' w.cells v' bs)
      → SplicesFollow S V t on b2 (end o) (bind t' o' b2')
  unfolding act_by
  splice_end {S} {R} {R'} {U} {V} t t' on o o' b2 b2' f k r binds = record {
    by = λ env0 x. then_sim P K U V _ _ _ _ (rest_back s t on b2 env0 x.d)
        (f.by (record {
          env = x.env;
          env' = x.env';
          d = suc x.d;
          d' = suc x.d';
          w = x.w;
          b = x.b;
          related
              = r env0 x.w.cells x.env x.env' x.related;
          known = x.known;
          nest = K.up x.nest;
        }))
        (λ v v' w n gave u. looked_need_sim P K V looks (is_bound_well g t on v)
        (is_bound_well (h s) t' o' v') (bindings_of g t v) (bindings_of (h s) t' v') w
        (beside n) _ _ (λ bs e seen all.
        let at : P (record { env = with_vars bs env0; heap = w.cells })
        = every_last P w.seen _
        (code_by_back P g c cb looks (with_vars bs env0) x.d b2
        (with_state_seen (with_vars bs env0) w) all) in
        let y : BindsToo s R' t' o' env0 x.env' w.cells v' bs
        = binds env0 x v v' w n bs gave u seen e at in (
          y.seen,
          y.bs',
          y.binds,
          enter s R' V b2 b2' k (with_vars bs env0) (with_vars y.bs' x.env')
              x.d x.d' w n x.nest (λ _. y.related) all,
        )));
  }

  -- inside, a block goes on in a state that the run passes through
  inside : (S : Env → Relation) (V : Value → Value → Type 0) (t : Target) (on : Act)
      (b2 b b' : Code) → SplicesFollow S V t on b2 b b'
      → (env0 env env' : Env) (d d' : ℕ) (w : World) (n : Beside K w) → K.Deep d' d
      → (P (record { env = env; heap = w.cells }) → S env0 w.cells env env')
      → Sim P K V
      (then_do (code_by g c looks env (suc d) b (with_state_seen env w))
      (rest s t on b2 env0 d))
      (code_by (h s) c' looks env' d' b' (with_state_seen env' (beside n)))
  inside S V t on b2 b b' f env0 env env' d d' w n nest r = λ all.
      let at : P (record { env = env; heap = w.cells })
      = every_last P w.seen _
      (then_back P (code_by g c looks env (suc d) b (with_state_seen env w))
      (with_state_seen env w) (rest s t on b2 env0 d)
      (code_by_back P g c cb looks env (suc d) b (with_state_seen env w))
      (rest_back s t on b2 env0 d) all) in
      f.by env0 (record {
        env = env;
        env' = env';
        d = d;
        d' = d';
        w = with_state_seen env w;
        b = record {
          cells = n.cells;
          seen = n.seen ++ record { env = env'; heap = n.cells } ∷ [];
          depth
              = n.depth;
          heaps = n.heaps;
          deep = n.deep;
        };
        related = r at;
        known = at;
        nest = nest;
      }) all

  at_inside : (t : Target) (on : Act) (b2 b : Code) (env0 env : Env) (d : ℕ) (w : World)
      → HoldsInEveryState P
      (world_of
      (then_do (code_by g c looks env (suc d) b (with_state_seen env w))
      (rest s t on b2 env0 d))).seen → P (record { env = env; heap = w.cells })
  at_inside t on b2 b env0 env d w all =
      every_last P w.seen _
      (then_back P (code_by g c looks env (suc d) b (with_state_seen env w))
      (with_state_seen env w) (rest s t on b2 env0 d)
      (code_by_back P g c cb looks env (suc d) b (with_state_seen env w))
      (rest_back s t on b2 env0 d) all)

  pub splice_store : {S S' : Env → Relation} {V : Value → Value → Type 0} (t : Target) (on : Act)
      (b2 : Code) (cs cs' : List Cell) (b b' : Code) → SplicesFollow S' V t on b2 b b'
      → ((env0 : Env) (x : Here plan (S env0)) (y : Stored s (S env0) cs x)
      → StoresToo s (S env0) (S' env0) cs cs' x y.hs)
      → SplicesFollow S V t on b2 (store cs b) (store cs' b')
  unfolding act_by
  splice_store {S} {S'} {V} t on b2 cs cs' b b' k stores = record {
    by = λ env0 x.
        let env : Env = with_vars (places (length x.w.cells) cs) x.env in
        let env' : Env = with_vars (places (length x.b.cells) cs') x.env' in
        let r : Value → World → Answer = rest s t on b2 env0 x.d in
        let first : List HeapCell → Answer = λ hs. code_by g c looks env (suc x.d) b
        (with_state_seen env (with_cells hs x.w)) in
        sim_first P K
        (λ i. then_need (cells_of g env cs) x.w
        (λ hs. require_if_checked looks (all_fill g env cs) x.w (first hs)) r i)
        (sim_first P K
        (λ i. need (cells_of g env cs) x.w
        (λ hs. then_looking looks (all_fill g env cs) x.w (first hs) r i))
        (need_looked_sim P K V looks (all_fill g env cs) (all_fill (h s) env' cs')
        (cells_of g env cs) (cells_of (h s) env' cs') x.w (beside x.b)
        (λ hs. then_do (first hs) r) _ (λ hs e seen all.
        let at : P (record { env = env; heap = x.w.cells ++ hs })
        = at_inside t on b2 b env0 env x.d (with_cells hs x.w) all in
        let y : StoresToo s (S env0) (S' env0) cs cs' x hs
        = stores env0 x (record { hs = hs; cells = e; seen = seen; next = at }) in (
          y.seen,
          y.hs',
          y.cells,
          inside S' V t on b2 b b' k env0 env env' x.d x.d'
              (with_cells hs x.w)
              (record {
                cells = x.b.cells ++ y.hs';
                seen = x.b.seen;
                depth = x.b.depth;
                heaps
                    = y.heaps;
                deep = x.b.deep;
              }) x.nest (λ _. y.related) all,
        ))));
  }

  pub splice_bind : {S S' : Env → Relation} {R : Relation} {U V : Value → Value → Type 0}
      (t : Target) (on : Act) (b2 : Code) (u u' : Target) (o o' : Act) (b b' : Code)
      → ActFollows s R U o o' → SplicesFollow S' V t on b2 b b'
      → ((env0 : Env) (cells : List HeapCell) (env env' : Env) → S env0 cells env env'
      → R cells env env')
      → ((env0 : Env) (x : Here plan (S env0)) (v v' : Value) (w : World) (n : Beside K w)
      (bs : List Binding) → U v v' → Seen looks (is_bound_well g u o v)
      → bindings_of g u v ≡ Some bs
      → P (record { env = with_vars bs x.env; heap = w.cells })
      → BindsToo s (S' env0) u' o' x.env x.env' w.cells v' bs)
      → SplicesFollow S V t on b2 (bind u o b) (bind u' o' b')
  unfolding act_by
  splice_bind {S} {S'} {R} {U} {V} t on b2 u u' o o' b b' f k r binds = record {
    by = λ env0 x.
        let after : Value → World → Answer = rest s t on b2 env0 x.d in
        let first : Value → World → Answer = rest s u o b x.env (suc x.d) in
        let body : World → List Binding → Answer = λ w bs. code_by g c looks (with_vars bs x.env)
        (suc x.d) b (with_state_seen (with_vars bs x.env) w) in
        sim_first P K (then_then (act_by g c looks x.env (suc (suc x.d)) o x.w) first after)
        (then_sim P K U V _ _ (λ v w. then_do (first v w) after) _
        (λ v w. then_back P (first v w) w after (rest_back s u o b x.env (suc x.d) v w)
        (rest_back s t on b2 env0 x.d))
        (f.by (record {
          env = x.env;
          env' = x.env';
          d = suc (suc x.d);
          d' = suc x.d';
          w = x.w;
          b
              = x.b;
          related = r env0 x.w.cells x.env x.env' x.related;
          known = x.known;
          nest
              = K.up (down x.d x.d' x.nest);
        }))
        (λ v v' w n gave y. sim_first P K
        (then_looking looks (is_bound_well g u o v) w (need (bindings_of g u v) w (body w))
        after)
        (sim_first P K
        (ap (require_if_checked looks (is_bound_well g u o v) w)
        (then_need (bindings_of g u v) w (body w) after))
        (looked_need_sim P K V looks (is_bound_well g u o v) (is_bound_well (h s) u' o' v')
        (bindings_of g u v) (bindings_of (h s) u' v') w (beside n)
        (λ bs. then_do (body w bs) after) _ (λ bs e seen all.
        let at : P (record { env = with_vars bs x.env; heap = w.cells })
        = at_inside t on b2 b env0 (with_vars bs x.env) x.d w all in
        let z : BindsToo s (S' env0) u' o' x.env x.env' w.cells v' bs
        = binds env0 x v v' w n bs y seen e at in (
          z.seen,
          z.bs',
          z.binds,
          inside S' V t on b2 b b' k env0 (with_vars bs x.env)
              (with_vars z.bs' x.env') x.d x.d' w n x.nest (λ _. z.related) all,
        ))))));
  }
