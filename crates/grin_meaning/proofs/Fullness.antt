-- Nodes stay full in a run.
use Rattle.std.proofs.Common.{◌≡◌, ℕ, ℤ, zero, suc, Bool, true, false, cond, nat_eq, nat_le, ◌≤◌, List, [], ◌∷◌, ◌++◌, map, length, take, length-take, Option, Some, None, slice_get, slice_set, refl, ap, ◌∙◌, arith}
use Rattle.std.specs.Prelude.{IfSome}
use Rattle.std.proofs.lemmas.Bool.Decides.{nat_tests}
use Rattle.grin_syntax.specs.declared.program.VarId.{VarId}
use Rattle.grin_syntax.specs.declared.program.GlobalCell.{GlobalCell}
use Rattle.grin_syntax.specs.declared.program.Cell.{Cell}
use Rattle.grin_syntax.specs.declared.program.PrimOp.{PrimOp}
use Rattle.grin_syntax.specs.declared.program.Target.{Target}
use Rattle.grin_syntax.specs.declared.program.Target.TheVariants.{Nothing, Node as NodeTarget, One as OneTarget, Vector as VectorTarget}
use Rattle.grin_syntax.specs.declared.program.Shape.{Shape}
use Rattle.grin_syntax.specs.declared.program.Shape.TheVariants.{Node as NodeShape, Int, Else}
use Rattle.grin_syntax.specs.declared.program.Val as V
use Rattle.grin_syntax.specs.declared.program.Val.TheVariants.{NodeVar, Node as NodeVal, Vector as VectorVal, One as OneVal}
use Rattle.grin_syntax.specs.Tree.{Code, end, store, bind, Act, leaf, unit, fetch, fetch_word, update, eval, apply, call, prim, read, write, case, nested, fail, Arms, no_arm, arm, Program}
use Rattle.grin_syntax.specs.Formed.{AllOf, GlobalFormed, Formed}
use Rattle.grin_meaning.specs.Values.{Datum, number, tag, cell, Node, Value, node, words, Env, HeapCell, State, World, missing, Answer, gives, stops, then_do, need, and_then, Binding, with_vars, one_each, padded, MatchOutcome, fits, fits_not, unclear, fields_fit, number_fit, fit_of, fields_of, made_node, as_node, word_of, words_of, value_of, node_of, bindings_of}
use Rattle.grin_meaning.specs.Run.{Calls, act_by, code_by, arms_by, calls_by, run_by, require_if_checked, require_value_if_checked, choose, byte_or_end, after_read, spend, spent, with_state_seen, places, place_of, number_of, apply_arithmetic, cells_of, with_cells, with_node, eval_cell, updated, apply_node, apply_part, is_fun_kind, is_part_kind, is_evaluated, part_from, start_words, start_world}
use Rattle.grin_meaning.specs.Checks.{is_given, fills, all_fill, is_bound_well}
use Rattle.grin_meaning.specs.Keeps.{world_of}
use Rattle.grin_meaning.specs.Follows.{HoldsInEveryState}
use Rattle.grin_meaning.specs.Full.{FullNode, FullValue, FullCell, FullState, NodesHaveAllFields}

pub if_and : {A B : Type 0} (P : A → Type 0) (Q : B → Type 0) (o : Option A) (k : A → Option B)
    → IfSome o P → ((a : A) → P a → IfSome (k a) Q) → IfSome (and_then o k) Q
if_and P Q None k h f = tt
if_and P Q (Some a) k h f = f a h

any_if : {A : Type 0} (o : Option A) → IfSome o (λ a. Unit {0})
any_if None = tt
any_if (Some a) = tt

all_set : (P : HeapCell → Type 0) (hs : List HeapCell) (a : ℕ) (c : HeapCell) → AllOf P hs → P c
    → AllOf P (slice_set hs a c)
all_set P [] a c h k = tt
all_set P (x ∷ hs) zero c h k = (k, h.1)
all_set P (x ∷ hs) (suc a) c h k = (h.0, all_set P hs a c h.1 k)

all_both : (P : HeapCell → Type 0) (hs ks : List HeapCell) → AllOf P hs → AllOf P ks
    → AllOf P (hs ++ ks)
all_both P [] ks h k = k
all_both P (x ∷ hs) ks h k = (h.0, all_both P hs ks h.1 k)

pub every_and : (P : State → Type 0) (ss : List State) (s : State) → HoldsInEveryState P ss → P s
    → HoldsInEveryState P (ss ++ s ∷ [])
every_and P [] s h k = (k, tt)
every_and P (x ∷ ss) s h k = (h.0, every_and P ss s h.1 k)

if_get : (P : HeapCell → Type 0) (hs : List HeapCell) (a : ℕ) → AllOf P hs
    → IfSome (slice_get hs a) P
if_get P [] a h = tt
if_get P (x ∷ hs) zero h = h.0
if_get P (x ∷ hs) (suc a) h = if_get P hs a h.1

module _ (p : Program) where
  abbrev EnvFull : Env → Type 0
  EnvFull env = (x : ℕ) → IfSome (env x) (FullValue p)

  abbrev BindingsFull : List Binding → Type 0
  BindingsFull = AllOf (λ b. FullValue p b.1)

  record WorldFull (w : World) : Type 0 where
    cells : AllOf (FullCell p) w.cells
    seen : HoldsInEveryState (FullState p) w.seen

  abbrev AnswerFull : Answer → Type 0
  AnswerFull (gives v w) = FullValue p v × WorldFull w
  AnswerFull (stops s w) = WorldFull w

  -- ---- variables and values

  bound_full : (y : ℕ) (b : Binding) (o : Option Value) (t : Bool) → FullValue p b.1
      → IfSome o (FullValue p) → IfSome (cond t (Some b.1) o) (FullValue p)
  bound_full y b o true h k = h
  bound_full y b o false h k = k

  vars_full : (bs : List Binding) (env : Env) → BindingsFull bs → EnvFull env
      → EnvFull (with_vars bs env)
  vars_full [] env h f = f
  vars_full (b ∷ bs) env h f = vars_full bs _ h.1
      (λ y. bound_full y b (env y) (nat_eq y b.0) h.0 (f y))

  words_bound_full : (xs : List VarId) (ds : List Datum) → IfSome (one_each xs ds) BindingsFull
  words_bound_full [] [] = tt
  words_bound_full [] (d ∷ ds) = tt
  words_bound_full (x ∷ xs) [] = tt
  words_bound_full (x ∷ xs) (d ∷ ds) = if_and BindingsFull BindingsFull (one_each xs ds) _
      (words_bound_full xs ds) (λ bs h. (tt, h))

  places_full : (a : ℕ) (cs : List Cell) → BindingsFull (places a cs)
  places_full a [] = tt
  places_full a (c ∷ cs) = (tt, places_full (suc a) cs)

  made_full : (t : ℕ) (ds : List Datum) → IfSome (made_node p t ds) (FullNode p)
  made_full t ds = go (fields_of p t) refl
    where
      same : (k : ℕ) → nat_eq k (length ds) ≡ true → k ≡ length ds
      same k e = grind (arith, nat_tests)

      on : (k : ℕ) → fields_of p t ≡ Some k → (b : Bool) → nat_eq k (length ds) ≡ b
          → IfSome (cond b (Some (record { tag = t; fields = ds })) None) (FullNode p)
      on k e false q = tt
      on k e true q = e ∙ ap Some (same k q)

      go : (o : Option ℕ) → fields_of p t ≡ o → IfSome
          (and_then o
          (λ k. cond (nat_eq k (length ds)) (Some (record { tag = t; fields = ds })) None))
          (FullNode p)
      go None e = tt
      go (Some k) e = on k e (nat_eq k (length ds)) refl

  pub as_node_full : (v : Value) → FullValue p v → IfSome (as_node p v) (FullNode p)
  as_node_full (node n) h = h
  as_node_full (words []) h = tt
  as_node_full (words (number k ∷ ds)) h = tt
  as_node_full (words (cell a ∷ ds)) h = tt
  as_node_full (words (tag t ∷ ds)) h = go (fields_of p t) refl
    where
      on : (k : ℕ) → fields_of p t ≡ Some k → (b : Bool) → nat_le k (length ds) ≡ b
          → IfSome (cond b (Some (record { tag = t; fields = take k ds })) None) (FullNode p)
      on k e false q = tt
      on k e true q = let le : k ≤ length ds = grind (arith, nat_tests)
          in e ∙ ap Some (omega (arith, length-take k ds))

      go : (o : Option ℕ) → fields_of p t ≡ o → IfSome
          (and_then o
          (λ k. cond (nat_le k (length ds)) (Some (record { tag = t; fields = take k ds })) None))
          (FullNode p)
      go None e = tt
      go (Some k) e = on k e (nat_le k (length ds)) refl

  target_full : (t : Target) (v : Value) → FullValue p v → IfSome (bindings_of p t v) BindingsFull
  target_full Nothing (words []) h = tt
  target_full Nothing (words (d ∷ ds)) h = tt
  target_full Nothing (node n) h = tt
  target_full (NodeTarget x) v h = if_and (FullNode p) BindingsFull (as_node p v) _
      (as_node_full v h) (λ n k. (k, tt))
  target_full (OneTarget x) (words []) h = tt
  target_full (OneTarget x) (words (d ∷ [])) h = (tt, tt)
  target_full (OneTarget x) (words (d ∷ (e ∷ ds))) h = tt
  target_full (OneTarget x) (node n) h = tt
  target_full (VectorTarget xs) (words ds) h = words_bound_full xs ds
  target_full (VectorTarget xs) (node n) h = words_bound_full xs
      (padded (length xs) (tag n.tag ∷ n.fields))

  abbrev FitFull : MatchOutcome → Type 0
  FitFull (fits bs) = BindingsFull bs
  FitFull fits_not = Unit {0}
  FitFull unclear = Unit {0}

  fields_fit_full : (xs : List VarId) (ds : List Datum) → FitFull (fields_fit xs ds)
  fields_fit_full [] ds = tt
  fields_fit_full (x ∷ xs) ds = go (one_each (x ∷ xs) ds) (words_bound_full (x ∷ xs) ds)
    where
      go : (o : Option (List Binding)) → IfSome o BindingsFull
          → FitFull (elim o [ None ↦ unclear | Some bs ↦ fits bs ])
      go None h = tt
      go (Some bs) h = h

  cond_fit : (b : Bool) (f : MatchOutcome) → FitFull f → FitFull (cond b f fits_not)
  cond_fit true f h = h
  cond_fit false f h = tt

  number_fit_full : (k : ℤ) (ds : List Datum) → FitFull (number_fit k ds)
  number_fit_full k [] = tt
  number_fit_full k (number i ∷ ds) = cond_fit _ (fits []) tt
  number_fit_full k (tag t ∷ ds) = tt
  number_fit_full k (cell a ∷ ds) = tt

  fit_full : (s : Shape) (v : Value) → FitFull (fit_of p s v)
  fit_full (NodeShape t xs) v = go (as_node p v)
    where
      go : (o : Option Node) → FitFull
          (elim o [
            | None ↦ unclear
            | Some n ↦ cond (nat_eq n.tag t.0) (fields_fit xs n.fields)
                fits_not
          ])
      go None = tt
      go (Some n) = cond_fit (nat_eq n.tag t.0) _ (fields_fit_full xs n.fields)
  fit_full (Int k) v = go (as_node p v)
    where
      go : (o : Option Node) → FitFull
          (elim o [
            | None ↦ unclear
            | Some n ↦ cond (nat_eq n.tag 0) (number_fit k n.fields)
                fits_not
          ])
      go None = tt
      go (Some n) = cond_fit (nat_eq n.tag 0) _ (number_fit_full k n.fields)
  fit_full Else v = tt

  module _ (env : Env) (full : EnvFull env) where
    value_full : (v : V.Val) → IfSome (value_of p env v) (FullValue p)
    value_full (NodeVar x) = full x.0
    value_full (NodeVal t ws) = if_and (λ ds. Unit {0}) (FullValue p) (words_of p env ws) _
        (any_if (words_of p env ws))
        (λ ds _. if_and (FullNode p) (FullValue p) (made_node p t.0 ds) _ (made_full t.0 ds)
        (λ n h. h))
    value_full (VectorVal ws) = if_and (λ ds. Unit {0}) (FullValue p) (words_of p env ws) _
        (any_if (words_of p env ws)) (λ ds _. tt)
    value_full (OneVal w) = if_and (λ d. Unit {0}) (FullValue p) (word_of p env w) _
        (any_if (word_of p env w)) (λ d _. tt)

    node_full : (v : V.Val) → IfSome (node_of p env v) (FullNode p)
    node_full v = if_and (FullValue p) (FullNode p) (value_of p env v) _ (value_full v)
        (λ x h. as_node_full x h)

    cells_full : (cs : List Cell) → IfSome (cells_of p env cs) (AllOf (FullCell p))
    cells_full [] = tt
    cells_full (c ∷ cs) = if_and (FullCell p) (AllOf (FullCell p))
        (and_then (node_of p env c.val) (λ n. Some (record { site = c.site.0; node = n }))) _
        (if_and (FullNode p) (FullCell p) (node_of p env c.val) _ (node_full c.val) (λ n h. h))
        (λ x h. if_and (AllOf (FullCell p)) (AllOf (FullCell p)) (cells_of p env cs) _
        (cells_full cs) (λ xs k. (h, k)))

  -- ---- answers

  need_full : {A : Type 0} (P : A → Type 0) (o : Option A) (w : World) (k : A → Answer)
      → WorldFull w → IfSome o P → ((a : A) → P a → AnswerFull (k a)) → AnswerFull (need o w k)
  need_full P None w k f h r = f
  need_full P (Some a) w k f h r = r a h

  need_any : {A : Type 0} (o : Option A) (w : World) (k : A → Answer) → WorldFull w
      → ((a : A) → AnswerFull (k a)) → AnswerFull (need o w k)
  need_any None w k f r = f
  need_any (Some a) w k f r = r a

  then_full : (a : Answer) (k : Value → World → Answer) → AnswerFull a
      → ((v : Value) (w : World) → FullValue p v → WorldFull w → AnswerFull (k v w))
      → AnswerFull (then_do a k)
  then_full (gives v w) k h r = r v w h.0 h.1
  then_full (stops s w) k h r = h

  cond_full : (b : Bool) (x y : Answer) → AnswerFull x → AnswerFull y → AnswerFull (cond b x y)
  cond_full true x y hx hy = hx
  cond_full false x y hx hy = hy

  looking_full : (looks b : Bool) (w : World) (a : Answer) → WorldFull w → AnswerFull a
      → AnswerFull (require_if_checked looks b w a)
  looking_full false b w a f h = h
  looking_full true b w a f h = cond_full b a (stops missing w) h f

  given_full : (looks : Bool) (a : Answer) → AnswerFull a
      → AnswerFull (require_value_if_checked looks (is_given p) a)
  given_full false a h = h
  given_full true a h = then_full a _ h
      (λ v w k f. cond_full (is_given p v) (gives v w) (stops missing w) (k, f) f)

  choose_full : (f : MatchOutcome) (w : World) (k : List Binding → Answer) (x : Answer)
      → WorldFull w → FitFull f → ((bs : List Binding) → BindingsFull bs → AnswerFull (k bs))
      → AnswerFull x → AnswerFull (choose f w k x)
  choose_full (fits bs) w k x f h r hx = r bs h
  choose_full fits_not w k x f h r hx = hx
  choose_full unclear w k x f h r hx = f

  spend_full : (l : ℕ) (w : World) (k : ℕ → Answer) → WorldFull w → ((m : ℕ) → AnswerFull (k m))
      → AnswerFull (spend l w k)
  spend_full zero w k f r = f
  spend_full (suc m) w k f r = r m

  passing_full : (env : Env) (w : World) → EnvFull env → WorldFull w
      → WorldFull (with_state_seen env w)
  passing_full env w e f = record {
    cells = f.cells;
    seen = every_and (FullState p) w.seen _ f.seen
        (record { variables = e; cells = f.cells });
  }

  with_node_full : (a : ℕ) (n : Node) (c : HeapCell) (w : World) → FullNode p n → WorldFull w
      → WorldFull (with_node a n c w)
  with_node_full a n c w h f = record
      { cells = all_set (FullCell p) w.cells a _ f.cells h; seen = f.seen }

  record CallsFull (c : Calls) : Type 0 where
    by : (f : ℕ) (xs : List Datum) (d : ℕ) (w : World) → WorldFull w → AnswerFull (c f xs d w)

  module _ (c : Calls) (cf : CallsFull c) where
    updated_full : (a : ℕ) (v : Value) (w : World) → FullValue p v → WorldFull w
        → AnswerFull (updated p c a v w)
    updated_full a v w h f = need_full (FullNode p) (as_node p v) w _ f (as_node_full v h)
        (λ n k. need_any (slice_get w.cells a) w _ f (λ x.
        cond_full (is_evaluated p n) _ _ (k, with_node_full a n x w k f) f))

    eval_full : (d a : ℕ) (w : World) → WorldFull w → AnswerFull (eval_cell p c d a w)
    eval_full d a w f = need_full (FullCell p) (slice_get w.cells a) w _ f
        (if_get (FullCell p) w.cells a f.cells)
        (λ x h. need_any (slice_get p.tags x.node.tag) w _ f (λ t.
        cond_full (is_fun_kind t.kind) _ _
        (need_any t.proc w _ f
        (λ q. then_full (c q.0 x.node.fields (suc d) w) _ (cf.by q.0 x.node.fields (suc d) w f)
        (λ v w' k f'. updated_full a v w' k f')))
        (h, f)))

    part_full : (d : ℕ) (n : Node) (x : Datum) (q r : ℕ) (w : World) → WorldFull w
        → AnswerFull (apply_part p c d n x q r w)
    part_full d n x q zero w f = f
    part_full d n x q (suc zero) w f = cf.by q (n.fields ++ x ∷ []) d w f
    part_full d n x q (suc (suc r)) w f = need_any (part_from 0 p.tags q (suc r)) w _ f
        (λ t. need_full (FullNode p) (made_node p t (n.fields ++ x ∷ [])) w _ f
        (made_full t (n.fields ++ x ∷ [])) (λ m h. (h, f)))

    apply_full : (d : ℕ) (n : Node) (x : Datum) (w : World) → WorldFull w
        → AnswerFull (apply_node p c d n x w)
    apply_full d n x w f = need_any (slice_get p.tags n.tag) w _ f
        (λ t. cond_full (is_part_kind t.kind) _ _
        (need_any t.proc w _ f (λ q. part_full d n x q.0 t.missing w f)) f)

    read_full : (i : List ℕ) (w : World) → WorldFull w
        → AnswerFull (gives (words (number (byte_or_end i) ∷ [])) (after_read i w))
    read_full [] w f = (tt, f)
    read_full (k ∷ rest) w f = (tt, record { cells = f.cells; seen = f.seen })

    on_numbers_full : (q : PrimOp) (x y : Datum) → IfSome (apply_arithmetic q x y) (FullValue p)
    on_numbers_full q (number a) (number b) = tt
    on_numbers_full q (number a) (tag t) = tt
    on_numbers_full q (number a) (cell b) = tt
    on_numbers_full q (tag t) y = tt
    on_numbers_full q (cell a) y = tt

    module _ (looks : Bool) where
      mutual
        unfolding act_by

        act_full : (env : Env) (d : ℕ) (o : Act) (w : World) → EnvFull env → WorldFull w
            → AnswerFull (act_by p c looks env d o w)
        act_full env d (leaf (unit v)) w e f = need_full (FullValue p) (value_of p env v) w _ f
            (value_full env e v) (λ x h. looking_full looks (fills p env v) w _ f (h, f))
        act_full env d (leaf (fetch a)) w e f = need_any (and_then (word_of p env a) place_of) w _ f
            (λ i. need_full (FullCell p) (slice_get w.cells i) w _ f
            (if_get (FullCell p) w.cells i f.cells) (λ x h. (h, f)))
        act_full env d (leaf (fetch_word a k)) w e f
            = need_any (and_then (word_of p env a) place_of) w _ f
            (λ i. need_any (slice_get w.cells i) w _ f (λ x. (tt, f)))
        act_full env d (leaf (update a v)) w e f = need_any (and_then (word_of p env a) place_of) w
            _ f (λ i. need_any (slice_get w.cells i) w _ f
            (λ x. need_full (FullNode p) (node_of p env v) w _ f (node_full env e v) (λ n h.
            looking_full looks (fills p env v) w _ f (tt, with_node_full i n x w h f))))
        act_full env d (leaf (eval a)) w e f = need_any (and_then (word_of p env a) place_of) w _ f
            (λ i. eval_full d i w f)
        act_full env d (leaf (apply v a)) w e f = need_any (node_of p env v) w _ f
            (λ n. need_any (word_of p env a) w _ f (λ x. apply_full d n x w f))
        act_full env d (leaf (call q ws)) w e f = need_any (words_of p env ws) w _ f
            (λ xs. cf.by q.0 xs d w f)
        act_full env d (leaf (prim q a b)) w e f = need_any (word_of p env a) w _ f
            (λ x. need_any (word_of p env b) w _ f
            (λ y. need_full (FullValue p) (apply_arithmetic q x y) w _ f (on_numbers_full q x y)
            (λ v h. (h, f))))
        act_full env d (leaf read) w e f = read_full w.input w f
        act_full env d (leaf (write a)) w e f = need_any (and_then (word_of p env a) number_of) w _
            f (λ k. (tt, record { cells = f.cells; seen = f.seen }))
        act_full env d (case v as') w e f = need_any (value_of p env v) w _ f
            (λ x. arms_full env d x as' w e f)
        act_full env d (nested b) w e f = code_full env d b w e f
        act_full env d (leaf fail) w e f = f

        code_full : (env : Env) (d : ℕ) (b : Code) (w : World) → EnvFull env → WorldFull w
            → AnswerFull (code_by p c looks env d b w)
        code_full env d (end o) w e f = act_full env d o w e f
        code_full env d (store cs b) w e f =
            let env' : Env = with_vars (places (length w.cells) cs) env in
            let e' : EnvFull env' = vars_full (places (length w.cells) cs) env
            (places_full (length w.cells) cs) e in
            need_full (AllOf (FullCell p)) (cells_of p env' cs) w _ f (cells_full env' e' cs)
            (λ hs h. looking_full looks (all_fill p env' cs) w _ f
            (code_full env' d b (with_state_seen env' (with_cells hs w)) e'
            (passing_full env' (with_cells hs w) e'
            (record { cells = all_both (FullCell p) w.cells hs f.cells h; seen = f.seen }))))
        code_full env d (bind t o b) w e f = then_full (act_by p c looks env (suc d) o w) _
            (act_full env (suc d) o w e f)
            (λ v w' h f'. looking_full looks (is_bound_well p t o v) w' _ f'
            (need_full BindingsFull (bindings_of p t v) w' _ f' (target_full t v h) (λ bs k.
            let e' : EnvFull (with_vars bs env) = vars_full bs env k e
            in code_full (with_vars bs env) d b (with_state_seen (with_vars bs env) w') e'
            (passing_full (with_vars bs env) w' e' f'))))

        arms_full : (env : Env) (d : ℕ) (v : Value) (as' : Arms) (w : World) → EnvFull env
            → WorldFull w → AnswerFull (arms_by p c looks env d v as' w)
        arms_full env d v no_arm w e f = f
        arms_full env d v (arm s b as') w e f = choose_full (fit_of p s v) w _ _ f (fit_full s v)
            (λ bs k. let e' : EnvFull (with_vars bs env) = vars_full bs env k e
            in code_full (with_vars bs env) d b (with_state_seen (with_vars bs env) w) e'
            (passing_full (with_vars bs env) w e' f))
            (arms_full env d v as' w e f)

  calls_full : (looks : Bool) (n : ℕ) → CallsFull (calls_by p looks n)
  unfolding calls_by
  calls_full looks zero = record { by = λ q xs d w f. f }
  calls_full looks (suc n) = record {
    by = λ q xs d w f. spend_full w.left w _ f
        (λ m. need_any (slice_get p.procs q) w _ f
        (λ r. need_full BindingsFull (one_each r.params xs) w _ f (words_bound_full r.params xs)
        (λ bs k.
        let env : Env = with_vars bs (λ y. None) in
        let e : EnvFull env = vars_full bs (λ y. None) k (λ y. tt) in
        given_full looks _
        (code_full (calls_by p looks n) (calls_full looks n) looks env d r.body
        (with_state_seen env (spent q d m w)) e
        (passing_full env (spent q d m w) e (record { cells = f.cells; seen = f.seen }))))));
  }

  globals_full : (gs : List GlobalCell) → AllOf (GlobalFormed p) gs
      → AllOf (FullCell p)
      (map (λ c. record { site = c.site.0; node = record { tag = c.tag.0; fields = [] } }) gs)
  globals_full [] h = tt
  globals_full (c ∷ gs) h =
      (ap (λ o. and_then o (λ i. Some i.fields)) h.0.1 ∙ ap Some h.0.2, globals_full gs h.1)

  run_full : (looks : Bool) (i : List ℕ) (n : ℕ) → Formed p → AnswerFull (run_by p looks i n)
  unfolding run_by
  run_full looks i n f = (calls_full looks n).by p.start.0 (start_words p.argument) 0
      (start_world p i n) (record { cells = globals_full p.globals f.globals; seen = tt })

world_full : (p : Program) (a : Answer) → AnswerFull p a → WorldFull p (world_of a)
world_full p (gives v w) h = h.1
world_full p (stops s w) h = h

pub nodes_full : NodesHaveAllFields
nodes_full g f looks i n = let h : WorldFull g (world_of (run_by g looks i n))
    = world_full g (run_by g looks i n) (run_full g looks i n f)
    in record { passed = h.seen; at_end = h.cells }
