-- A block whose value something waits for, against the block into which it is spliced.
use Rattle.std.proofs.Common.{◌≡◌, ℕ, zero, suc, ◌+◌, ◌≤◌, Bool, true, false, cond, not, ◌&&◌, List, [], ◌∷◌, ◌++◌, length, Option, Some, None, refl, sym, ap, ◌∙◌, subst, arith}
use Rattle.seq.specs.Lists.{times}
use Rattle.seq.proofs.Counted.{times_append}
use Rattle.seq.proofs.Truth.{and_left}
use Rattle.grin_syntax.specs.declared.program.Cell.{Cell}
use Rattle.grin_syntax.specs.declared.program.Target.{Target}
use Rattle.grin_syntax.specs.declared.program.Target.TheVariants as to
use Rattle.grin_syntax.specs.Tree.{Code, end, store, bind, Act, nested, Procedure, Program}
use Rattle.grin_syntax.specs.Binders.{target_vars, cell_vars}
use Rattle.grin_syntax.specs.Formed.{Scope, InScope, with_target}
use Rattle.grin_meaning.specs.Values.{Value, Env, HeapCell, World, Answer, gives, stops, then_do, need, Binding, with_vars, bindings_of}
use Rattle.grin_meaning.specs.Checks.{has_block, is_node_target, is_fetch, not_delayed, is_given, all_fill, is_bound_well}
use Rattle.grin_meaning.specs.Run.{Calls, act_by, code_by, require_if_checked, with_state_seen, places, cells_of, with_cells}
use Rattle.grin_meaning.specs.Follows.{Same, same}
use Rattle.grin_meaning.specs.Names.{CellsOk}
use Rattle.grin_meaning.specs.Ready.{NoNodeTarget}
use Rattle.grin_meaning.specs.Spliced.{spliced}
use Rattle.grin_meaning.proofs.Back.{CallsBack}
use Rattle.grin_meaning.proofs.Beside.{no_deeper, Beside, beside, Seen, Sim, then_sim, looked_need_sim, need_looked_sim}
use Rattle.grin_meaning.proofs.Rules.{Relation, Plan, Setting, CallsFollow, ActFollows, CodeFollows, BindsToo, rest, enter, store_follows, bind_follows}
use Rattle.grin_meaning.proofs.Procedures.{side_by_side}
use Rattle.grin_meaning.proofs.Plain.{Has, cells_have, all_fill_too, same_is}
use Rattle.grin_meaning.proofs.Bodies.{AnyState, every_any}
use Rattle.grin_meaning.proofs.Following.{is_same}
use Rattle.pass_ground.proofs.Bound.{names_of, vars_out, vars_in, bound_names, places_names}
use Rattle.pass_flat.proofs.Loops.{splice_again}

-- ---- what waits goes inwards

then_need : {A : Type 0} (o : Option A) (w : World) (k : A → Answer) (r : Value → World → Answer)
    → need o w (λ a. then_do (k a) r) ≡ then_do (need o w k) r
then_need None w k r = refl
then_need (Some a) w k r = refl

then_looking : (looks b : Bool) (w : World) (a : Answer) (r : Value → World → Answer)
    → require_if_checked looks b w (then_do a r) ≡ then_do (require_if_checked looks b w a) r
then_looking false b w a r = refl
then_looking true true w a r = refl
then_looking true false w a r = refl

then_then : (a : Answer) (k r : Value → World → Answer)
    → then_do a (λ v w. then_do (k v w) r) ≡ then_do (then_do a k) r
then_then (gives v w) k r = refl
then_then (stops s w) k r = refl

abbrev Sims : Answer → Answer → Type 0
Sims = Sim AnyState no_deeper Same

sim_first : {a b a' : Answer} → a ≡ b → Sims a a' → Sims b a'
sim_first {a} {b} {a'} e f = subst (λ x. Sims x a') e f

-- ---- variables

-- the second has of these variables what the first has
abbrev pub Still : List ℕ → Env → Env → Type 0
Still ws e e' = (y : ℕ) → InScope ws y → e' y ≡ e y

-- none of these variables is in the scope
abbrev pub Apart : List ℕ → List ℕ → Type 0
Apart ws xs = (y : ℕ) → times y ws + times y xs ≤ 1

still_bound : (ws xs : List ℕ) (bs : List Binding) (e : Env) → names_of bs ≡ xs → Apart ws xs
    → Still ws e (with_vars bs e)
still_bound ws xs bs e n apart y i = vars_out bs e y
    (ap (times y) n ∙ (let a : times y ws + times y xs ≤ 1 = apart y in omega (arith, a, i)))

has_still : (ws : List ℕ) (e e' e'' : Env) → Has (InScope ws) e e' → Still ws e' e''
    → Has (InScope ws) e e''
has_still ws e e' e'' h s y v i k = s y i ∙ h y v i k

pub has_more : (xs ws : List ℕ) (bs : List Binding) (e e' : Env) → names_of bs ≡ xs
    → Has (InScope ws) e e' → Has (InScope (xs ++ ws)) (with_vars bs e) (with_vars bs e')
has_more xs ws bs e e' n h y v i k = go (times y (names_of bs)) refl
  where
    both : times y (xs ++ ws) ≡ times y xs + times y ws
    both = times_append y xs ws

    here : times y (names_of bs) ≡ times y xs
    here = ap (times y) n

    go : (m : ℕ) → times y (names_of bs) ≡ m → with_vars bs e' y ≡ Some v
    go zero q = vars_out bs e' y q ∙ h y v (omega (arith, both, here, q, i))
        (sym (vars_out bs e y q) ∙ k)
    go (suc m) q = sym (vars_in bs e e' y (omega (arith, q))) ∙ k

in_more : (xs ws : List ℕ) (y : ℕ) → InScope ws y → InScope (xs ++ ws) y
in_more xs ws y i = let e : times y (xs ++ ws) ≡ times y xs + times y ws = times_append y xs ws
    in omega (arith, e, i)

pub target_words : (t : Target) (scope : Scope) → NoNodeTarget t
    → (with_target t scope).words ≡ target_vars t ++ scope.words
target_words to.Nothing scope n = refl
target_words (to.Node x) scope n = absurd n
target_words (to.One x) scope n = refl
target_words (to.Vector xs) scope n = refl

no_node : (t : Target) → NoNodeTarget t → is_node_target t ≡ false
no_node to.Nothing n = refl
no_node (to.Node x) n = absurd n
no_node (to.One x) n = refl
no_node (to.Vector xs) n = refl

module _ (g : Program) where
  -- what a nested block gives may be given by any operation
  pub well_inside : (t : Target) (b : Code) (o : Act) (v : Value) → NoNodeTarget t
      → is_bound_well g t (nested b) v ≡ true → is_bound_well g t o v ≡ true
  well_inside t b o v n h =
      let given : is_given g v ≡ true = and_left (is_given g v)
      (cond (is_node_target t && true) (not_delayed g v) true) h in
      (λ i. cond (has_block o) (given i) true && cond (no_node t n i && not (is_fetch o))
      (not_delayed g v) true) ∙ both (has_block o)
    where
      both : (b : Bool) → (cond b true true && true) ≡ true
      both true = refl
      both false = refl

module _ (g : Program) (procs : List Procedure) where
  abbrev pub plan : Plan
  plan = record {
    looks = true;
    K = no_deeper;
    P = AnyState;
    Args = λ f. Same;
    Result = λ f. Same;
    g
        = g;
    procs = procs;
  }

  module _ (c c' : Calls) (cb : CallsBack AnyState c) (cf : CallsFollow plan c c') where
    abbrev pub it : Setting
    it = side_by_side plan c c' cb cf

    abbrev h : Program
    h = record g { procs = procs }

    -- the second has the variables in scope
    abbrev pub R : List ℕ → Relation
    R ws = λ cells. Has (InScope ws)

    -- what the second does with the value of a bound operation
    abbrev goes_on : Target → Act → Code → Env → ℕ → Value → World → Answer
    goes_on t o b env d v w = require_if_checked true (is_bound_well h t o v) w
        (need (bindings_of h t v) w
        (λ bs. code_by h c' true (with_vars bs env) d b (with_state_seen (with_vars bs env) w)))

    -- what waits for a value in the first: the second binds the value, by whatever operation, and
    -- goes on, whatever else it has than the variables in scope
    pub record Waits (ws : List ℕ) (kf : Value → World → Answer) (t : Target) (k : Code)
        (env' : Env) (d' : ℕ) : Type 0 where
      pub on : (v : Value) (w : World) (n : Beside no_deeper w) (e : Env) (o : Act)
          → Still ws env' e → Sims (kf v w) (goes_on t o k e d' v (beside n))

    -- it waits on, with more variables
    waits_on : (ws xs : List ℕ) (kf : Value → World → Answer) (t : Target) (k : Code) (env' e : Env)
        (d' : ℕ) → Still ws env' e → Waits ws kf t k env' d' → Waits (xs ++ ws) kf t k e d'
    waits_on ws xs kf t k env' e d' s p = record
        { on = λ v w n e2 o s2. p.on v w n e2 o (λ y i. s2 y (in_more xs ws y i) ∙ s y i) }

    waits_same : (ws vs : List ℕ) (kf : Value → World → Answer) (t : Target) (k : Code) (e : Env)
        (d' : ℕ) → ws ≡ vs → Waits ws kf t k e d' → Waits vs kf t k e d'
    waits_same ws vs kf t k e d' q p = subst (λ l. Waits l kf t k e d') q p

    -- a block inside, where these variables are in scope, and a block to splice
    pub record SplicesTo (ws : List ℕ) (b b' : Code) : Type 0 where
      pub by : (t : Target) (k : Code) (kf : Value → World → Answer) (env env' : Env) (d d' : ℕ)
          (w : World) (n : Beside no_deeper w) → Has (InScope ws) env env' → suc d' ≤ d
          → Waits ws kf t k env' d'
          → Sims (then_do (code_by g c true env d b w) kf)
          (code_by h c' true env' d' (spliced b' t k) (beside n))

    same_too : {v v' : Value} (kf : Value → World → Answer) (w : World) (k : Value → Answer)
        → Same v v' → Sims (kf v w) (k v) → Sims (kf v w) (k v')
    same_too kf w k same s = s

    -- ---- its last operation

    pub splices_end : (ws : List ℕ) (o o' : Act) → ActFollows it (R ws) Same o o'
        → SplicesTo ws (end o) (end o')
    unfolding act_by spliced
    splices_end ws o o' f = record {
      by = λ t k kf env env' d d' w n has nest wait. then_sim AnyState no_deeper Same Same _ _ kf _
          (λ v w all. every_any w.seen)
          (f.by (record {
            env = env;
            env' = env';
            d = d;
            d' = suc d';
            w = w;
            b = n;
            related = has;
            known
                = tt;
            nest = nest;
          }))
          (λ v v' w n gave u. same_too kf w (λ v. goes_on t o' k env' d' v (beside n)) u
          (wait.on v w n env' o' (λ y i. refl)));
    }

    pub splices_nested : (ws : List ℕ) (b b' : Code) → SplicesTo ws b b'
        → SplicesTo ws (end (nested b)) b'
    unfolding act_by
    splices_nested ws b b' f = record {
      by = λ t k kf env env' d d' w n has nest wait. f.by t k kf env env' d d' w n has nest
          wait;
    }

    -- ---- a bound value, in whose block something waits

    bound_inside : (ws : List ℕ) (u : Target) (o o' : Act) (b b' : Code) (t : Target) (k : Code)
        (kf : Value → World → Answer) (env env' : Env) (d d' : ℕ) (v : Value) (w : World)
        (n : Beside no_deeper w)
        → Apart ws (target_vars u) → (is_bound_well g u o v ≡ true → is_bound_well g u o' v ≡ true)
        → SplicesTo (target_vars u ++ ws) b b'
        → Has (InScope ws) env env' → suc d' ≤ d → Waits ws kf t k env' d'
        → Sims (then_do (rest it u o b env d v w) kf)
        (goes_on u o' (spliced b' t k) env' d' v (beside n))
    bound_inside ws u o o' b b' t k kf env env' d d' v w n apart well f has nest wait =
        let body : List Binding → Answer = λ bs. code_by g c true (with_vars bs env) d b
        (with_state_seen (with_vars bs env) w) in
        sim_first (then_looking true (is_bound_well g u o v) w (need (bindings_of g u v) w body) kf)
        (sim_first
        (ap (require_if_checked true (is_bound_well g u o v) w)
        (then_need (bindings_of g u v) w body kf))
        (looked_need_sim AnyState no_deeper Same true (is_bound_well g u o v)
        (is_bound_well h u o' v) (bindings_of g u v) (bindings_of h u v) w (beside n)
        (λ bs. then_do (body bs) kf) _ (λ bs e seen all. (
          (λ l. well (seen l)),
          bs,
          e,
          f.by t k kf (with_vars bs env) (with_vars bs env') d d'
              (with_state_seen (with_vars bs env) w)
              (record {
                cells = n.cells;
                seen = n.seen
                    ++ record { env = with_vars bs env'; heap = n.cells } ∷ [];
                depth = n.depth;
                heaps
                    = n.heaps;
                deep = n.deep;
              })
              (has_more (target_vars u) ws bs env env' (bound_names g u v bs e) has) nest
              (waits_on ws (target_vars u) kf t k env' (with_vars bs env') d'
              (still_bound ws (target_vars u) bs env' (bound_names g u v bs e) apart) wait) all,
        ))))

    pub splices_bind : (ws : List ℕ) (u : Target) (o o' : Act) (b b' : Code)
        → Apart ws (target_vars u) →
        ((v : Value) → is_bound_well g u o v ≡ true → is_bound_well g u o' v ≡ true)
        → ActFollows it (R ws) Same o o' → SplicesTo (target_vars u ++ ws) b b'
        → SplicesTo ws (bind u o b) (bind u o' b')
    unfolding act_by spliced
    splices_bind ws u o o' b b' apart well f k = record {
      by = λ t m kf env env' d d' w n has nest wait. sim_first
          (then_then (act_by g c true env (suc d) o w) (rest it u o b env d) kf)
          (then_sim AnyState no_deeper Same Same _ _ (λ v w. then_do (rest it u o b env d v w) kf) _
          (λ v w all. every_any w.seen)
          (f.by (record {
            env = env;
            env' = env';
            d = suc d;
            d' = suc d';
            w = w;
            b = n;
            related = has;
            known
                = tt;
            nest = omega (arith, nest);
          }))
          (λ v v' w n gave s. same_too (λ v w. then_do (rest it u o b env d v w) kf) w
          (λ v. goes_on u o' (spliced b' t m) env' d' v (beside n)) s
          (bound_inside ws u o o' b b' t m kf env env' d d' v w n apart (well v) k has nest wait)));
    }

    -- a nested block in a nested block
    pub splices_within : (ws : List ℕ) (u : Target) (b1 b1' b b' : Code) → NoNodeTarget u
        → Apart ws (target_vars u) → SplicesTo ws b1 b1' → SplicesTo (target_vars u ++ ws) b b'
        → SplicesTo ws (bind u (nested b1) b) (spliced b1' u b')
    unfolding act_by
    splices_within ws u b1 b1' b b' none apart f k = record {
      by = λ t m kf env env' d d' w n has nest wait. sim_first
          (then_then (code_by g c true env (suc d) b1 w) (rest it u (nested b1) b env d) kf)
          (subst (λ x. Sims
          (then_do (code_by g c true env (suc d) b1 w)
          (λ v w. then_do (rest it u (nested b1) b env d v w) kf))
          (code_by h c' true env' d' x (beside n))) (sym (splice_again b1' u b' t m))
          (f.by u (spliced b' t m) (λ v w. then_do (rest it u (nested b1) b env d v w) kf) env env'
          (suc d) d' w n has (omega (arith, nest)) (record {
            on = λ v w n e o s.
                bound_inside ws u (nested b1) o b b' t m kf env e d d' v w n apart
                (well_inside g u b1 o v none) k (has_still ws env env' e has s) nest
                (record { on = λ v w n e2 o2 s2. wait.on v w n e2 o2 (λ y i. s2 y i ∙ s y i) });
          })));
    }

    -- ---- groups of cells

    stores_alike : (ws : List ℕ) (cs : List Cell) (env env' : Env) (w : World)
        (n : Beside no_deeper w) (hs : List HeapCell) → CellsOk (InScope (cell_vars cs ++ ws)) cs
        → Has (InScope ws) env env'
        → cells_of g (with_vars (places (length w.cells) cs) env) cs ≡ Some hs
        → Seen true (all_fill g (with_vars (places (length w.cells) cs) env) cs)
        → Seen true (all_fill h (with_vars (places (length n.cells) cs) env') cs)
        × (cells_of h (with_vars (places (length n.cells) cs) env') cs ≡ Some hs)
        × Has (InScope (cell_vars cs ++ ws)) (with_vars (places (length w.cells) cs) env)
        (with_vars (places (length n.cells) cs) env')
    stores_alike ws cs env env' w n hs ok has e seen =
        let bs : List Binding = places (length w.cells) cs in
        let had : Has (InScope (cell_vars cs ++ ws)) (with_vars bs env) (with_vars bs env')
        = has_more (cell_vars cs) ws bs env env' (places_names (length w.cells) cs) has in
        let many : length w.cells ≡ length n.cells = ap length (sym (same_is n.heaps)) in (
          (λ l. subst (λ k. all_fill g (with_vars (places k cs) env') cs ≡ true) many
              (all_fill_too g (InScope (cell_vars cs ++ ws)) (with_vars bs env) (with_vars bs env')
              had cs ok hs e ∙ seen l)),
          subst (λ k. cells_of g (with_vars (places k cs) env') cs ≡ Some hs) many
              (cells_have g (InScope (cell_vars cs ++ ws)) (with_vars bs env) (with_vars bs env')
              had cs ok hs e),
          subst (λ k. Has (InScope (cell_vars cs ++ ws)) (with_vars bs env)
              (with_vars (places k cs) env')) many had,
        )

    pub code_store : (ws : List ℕ) (cs : List Cell) (b b' : Code)
        → CellsOk (InScope (cell_vars cs ++ ws)) cs
        → CodeFollows it (R (cell_vars cs ++ ws)) Same b b'
        → CodeFollows it (R ws) Same (store cs b) (store cs b')
    code_store ws cs b b' ok k = store_follows it cs cs b b' k (λ x y.
        let s = stores_alike ws cs x.env x.env' x.w x.b y.hs ok x.related y.cells y.seen in
        record {
          hs' = y.hs;
          cells = s.1;
          seen = s.0;
          heaps
              = is_same _ _ (ap (λ l. l ++ y.hs) (same_is x.b.heaps));
          related = s.2;
        })

    pub splices_store : (ws : List ℕ) (cs : List Cell) (b b' : Code) → Apart ws (cell_vars cs)
        → CellsOk (InScope (cell_vars cs ++ ws)) cs → SplicesTo (cell_vars cs ++ ws) b b'
        → SplicesTo ws (store cs b) (store cs b')
    unfolding act_by spliced
    splices_store ws cs b b' apart ok f = record {
      by = λ t k kf env env' d d' w n has nest wait.
          let env1 : Env = with_vars (places (length w.cells) cs) env in
          let env2 : Env = with_vars (places (length n.cells) cs) env' in
          let first : List HeapCell → Answer = λ hs. code_by g c true env1 d b
          (with_state_seen env1 (with_cells hs w)) in
          sim_first
          (then_need (cells_of g env1 cs) w
          (λ hs. require_if_checked true (all_fill g env1 cs) w (first hs)) kf)
          (sim_first
          (λ i. need (cells_of g env1 cs) w
          (λ hs. then_looking true (all_fill g env1 cs) w (first hs) kf i))
          (need_looked_sim AnyState no_deeper Same true (all_fill g env1 cs) (all_fill h env2 cs)
          (cells_of g env1 cs) (cells_of h env2 cs) w (beside n) (λ hs. then_do (first hs) kf) _
          (λ hs e seen all.
          let s = stores_alike ws cs env env' w n hs ok has e seen in (
            s.0,
            hs,
            s.1,
            f.by t k kf env1 env2 d d' (with_state_seen env1 (with_cells hs w))
                (record {
                  cells = n.cells ++ hs;
                  seen = n.seen
                      ++ record { env = env2; heap = n.cells ++ hs } ∷ [];
                  depth = n.depth;
                  heaps
                      = is_same _ _ (ap (λ l. l ++ hs) (same_is n.heaps));
                  deep = n.deep;
                }) s.2 nest
                (waits_on ws (cell_vars cs) kf t k env' env2 d'
                (still_bound ws (cell_vars cs) (places (length n.cells) cs) env'
                (places_names (length n.cells) cs) apart) wait) all,
          ))));
    }

    -- ---- where nothing waits

    pub code_nested : (ws : List ℕ) (b b' : Code) → CodeFollows it (R ws) Same b b'
        → CodeFollows it (R ws) Same (end (nested b)) b'
    unfolding act_by
    code_nested ws b b' f = record { by = λ x. f.by x }

    pub code_bind : (ws : List ℕ) (t : Target) (o o' : Act) (b b' : Code)
        → ((v : Value) → is_bound_well g t o v ≡ true → is_bound_well g t o' v ≡ true)
        → ActFollows it (R ws) Same o o'
        → CodeFollows it (R (target_vars t ++ ws)) Same b b'
        → CodeFollows it (R ws) Same (bind t o b) (bind t o' b')
    code_bind ws t o o' b b' well f k = bind_follows it {R = R ws} {R' = R (target_vars t ++ ws)} t
        t o o' b b' f k (λ x y. on x.env x.env' y.w.cells y.bs y.values y.seen y.binds x.related)
      where
        on : (env env' : Env) (cells : List HeapCell) (bs : List Binding) {v v' : Value} → Same v v'
            → Seen true (is_bound_well g t o v) → bindings_of g t v ≡ Some bs
            → Has (InScope ws) env env' → BindsToo it (R (target_vars t ++ ws)) t o' env env' cells
            v' bs
        on env env' cells bs (same {a = v}) l e has
            = record {
              seen = λ q. well v (l q);
              bs' = bs;
              binds = e;
              related
                  = has_more (target_vars t) ws bs env env' (bound_names g t v bs e) has;
            }

    -- a nested block that is bound
    pub code_within : (ws : List ℕ) (t : Target) (b1 b1' b b' : Code) → NoNodeTarget t
        → SplicesTo ws b1 b1' → CodeFollows it (R (target_vars t ++ ws)) Same b b'
        → CodeFollows it (R ws) Same (bind t (nested b1) b) (spliced b1' t b')
    unfolding act_by
    code_within ws t b1 b1' b b' none f k = record {
      by = λ x. f.by t b' (rest it t (nested b1) b x.env x.d) x.env x.env' (suc x.d) x.d' x.w x.b
          x.related (let l : x.d' ≤ x.d = x.nest in omega (arith, l)) (record {
            on = λ v w n e o s. looked_need_sim AnyState no_deeper Same true
                (is_bound_well g t (nested b1) v) (is_bound_well h t o v) (bindings_of g t v)
                (bindings_of h t v) w (beside n) _ _ (λ bs q seen all. (
                  (λ l. well_inside g t b1 o v none (seen l)),
                  bs,
                  q,
                  enter it (R (target_vars t ++ ws)) Same b b' k (with_vars bs x.env) (with_vars bs e) x.d
                      x.d' w n x.nest
                      (λ _. has_more (target_vars t) ws bs x.env e (bound_names g t v bs q)
                      (has_still ws x.env x.env' e x.related s)) all,
                ));
          });
    }
