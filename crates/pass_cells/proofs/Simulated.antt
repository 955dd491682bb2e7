-- A program whose fetches of remembered words give way to the words does the same.
use Rattle.std.proofs.Common.{◌≡◌, ℕ, suc, ◌≤◌, Bool, true, false, cond, nat_eq, List, [], ◌∷◌, ◌++◌, length, map, Option, Some, None, slice_get, refl, sym, ap, ◌∙◌, subst, arith}
use Rattle.seq.specs.Lists.{times}
use Rattle.seq.proofs.Counted.{times_append}
use Rattle.seq.proofs.Truth.{not_true}
use Rattle.seq.proofs.Lists.{length_map}
use Rattle.grin_syntax.specs.declared.program.Cell.{Cell}
use Rattle.grin_syntax.specs.declared.program.GlobalCell.{GlobalCell}
use Rattle.grin_syntax.specs.declared.program.Shape.{Shape}
use Rattle.grin_syntax.specs.declared.program.Shape.TheVariants as shape
use Rattle.grin_syntax.specs.declared.program.Target.{Target}
use Rattle.grin_syntax.specs.declared.program.Word as W
use Rattle.grin_syntax.specs.declared.program.Word.TheVariants.{Lit, Var, Global, TagWord}
use Rattle.grin_syntax.specs.declared.program.Val as V
use Rattle.grin_syntax.specs.declared.program.Val.TheVariants.{NodeVar, Node as Node', Vector, One}
use Rattle.grin_syntax.specs.Tree.{Code, end, store, bind, Act, Leaf, leaf, unit, fetch, fetch_word, update, eval, apply, call, prim, read, write, case, nested, fail, Arms, no_arm, arm, Procedure, Program}
use Rattle.grin_syntax.specs.Binders.{numbers_of, target_vars, shape_vars, cell_vars, act_vars, code_vars, arms_vars, procs_vars}
use Rattle.grin_syntax.specs.Formed.{AllOf, ArgumentKnown, Formed}
use Rattle.numbers.specs.Numbers.{same_number}
use Rattle.grin_meaning.specs.Values.{Datum, number, tag, cell, only_word, gives, bindings_of, words, Node, Value, Env, HeapCell, World, Binding, with_vars, one_each, fits, fits_not, fit_of, as_node, word_of, value_of, node_fit, number_fit, int_fit, and_then}
use Rattle.grin_meaning.specs.Run.{Calls, act_by, calls_by, run_by, require_if_checked, places, cells_of, place_of, node_word, start_words, start_world, global_cells}
use Rattle.grin_meaning.specs.Checks.{is_given, is_bound_well, all_fill}
use Rattle.grin_meaning.specs.Follows.{Same, same, HoldsInEveryState}
use Rattle.grin_meaning.specs.Keeps.{Keeps, world_of}
use Rattle.grin_meaning.specs.Looking.{checked_run, CheckedRunsNeverMissing}
use Rattle.grin_meaning.specs.Names.{WordOk, WordsOk, ValOk, CellsOk, ActOk}
use Rattle.grin_meaning.specs.Ready.{EachAct, EachCode, EachArms, IsInlined, IsVectorised, inlined_kind, vectorised_kind}
use Rattle.grin_meaning.specs.Rewritten.{rewritten_procedure}
use Rattle.grin_meaning.proofs.Back.{CallsBack, calls_by_back}
use Rattle.grin_meaning.proofs.Beside.{beside, no_deeper, Likewise, gives_too, Seen, need_first, need_is}
use Rattle.grin_meaning.proofs.Rules.{Relation, Plan, Setting, Here, CallsFollow, ActFollows, CodeFollows, ArmsFollow, BindsToo, FitsToo, act_more, end_follows, nested_follows, bind_follows, store_follows, case_follows, no_arm_follows, arm_follows}
use Rattle.grin_meaning.proofs.Procedures.{BodiesFollow, no_more, one_more, second, at, run_too}
use Rattle.grin_meaning.proofs.Plain.{Has, IsPlain, having, leaf_follows, vars_have, word_has, value_has, cells_have, all_fill_too, same_is}
use Rattle.grin_meaning.proofs.KeptBy.{likewise_kept, looking_kept}
use Rattle.grin_meaning.proofs.Paired.{nothing}
use Rattle.pass_ground.specs.Uses.{words_use}
use Rattle.pass_ground.proofs.Bound.{names_of, vars_out, bound_names, places_names, one_each_names}
use Rattle.pass_cells.specs.Shown.{val_words, cells_words, act_shown, code_shown, arms_shown}
use Rattle.pass_cells.specs.Memory.{Memory, other, lost, holds, KnownCellContents, none, told, remembered_word_of, word_at, after_act, after_store}
use Rattle.pass_cells.specs.Remembered.{word_or_fetch, told_act, told_code, told_arms, is_own_cell_variable, remembered_body, remembered}
use Rattle.pass_cells.proofs.Invariant.{all_words, Clear, clear_front, clear_back, Invariant, CallsGood, calls_good, kept_seen}
use Rattle.pass_cells.proofs.Frames.{Below, StateInHeap, all_there}
use Rattle.pass_cells.proofs.Own.{Unbound, IsOwn, AllKnown, Known, acts_known, known_bound, target_free}
use Rattle.pass_cells.proofs.Stores.{stores_known}

-- ---- all variables matter

abbrev Any : ℕ → Type 0
Any x = Unit {0}

word_any : (a : W.Word) → WordOk Any a
word_any (Lit k) = tt
word_any (Var x) = tt
word_any (Global i) = tt
word_any (TagWord t) = tt

words_any : (ws : List W.Word) → WordsOk Any ws
words_any [] = tt
words_any (a ∷ ws) = (word_any a, words_any ws)

val_any : (v : V.Val) → ValOk Any v
val_any (NodeVar x) = tt
val_any (Node' t ws) = words_any ws
val_any (Vector ws) = words_any ws
val_any (One a) = word_any a

cells_any : (cs : List Cell) → CellsOk Any cs
cells_any [] = tt
cells_any (c ∷ cs) = (val_any c.val, cells_any cs)

leaf_any : (l : Leaf) → ActOk Any (leaf l)
unfolding ActOk
leaf_any (unit v) = val_any v
leaf_any (fetch a) = word_any a
leaf_any (fetch_word a k) = word_any a
leaf_any (update a v) = (word_any a, val_any v)
leaf_any (eval a) = word_any a
leaf_any (apply v a) = (val_any v, word_any a)
leaf_any (call f ws) = words_any ws
leaf_any (prim q a b) = (word_any a, word_any b)
leaf_any read = tt
leaf_any (write a) = word_any a
leaf_any fail = tt

-- ---- each variable is bound once

abbrev Once : List ℕ → Type 0
Once vs = (y : ℕ) → times y vs ≤ 1

once_left : (xs ys : List ℕ) → Once (xs ++ ys) → Once xs
once_left xs ys h y = let e = times_append y xs ys in let o : times y (xs ++ ys) ≤ 1 = h y
    in omega (arith, e, o)

once_right : (xs ys : List ℕ) → Once (xs ++ ys) → Once ys
once_right xs ys h y = let e = times_append y xs ys in let o : times y (xs ++ ys) ≤ 1 = h y
    in omega (arith, e, o)

unbound_left : (xs ys : List ℕ) (env : Env) → Unbound (xs ++ ys) env → Unbound xs env
unbound_left xs ys env h y lt = h y (let e = times_append y xs ys in omega (arith, e, lt))

unbound_right : (xs ys : List ℕ) (env : Env) → Unbound (xs ++ ys) env → Unbound ys env
unbound_right xs ys env h y lt = h y (let e = times_append y xs ys in omega (arith, e, lt))

-- others are bound
unbound_past : (xs ys : List ℕ) (bs : List Binding) (env : Env) → names_of bs ≡ xs → Once (xs ++ ys)
    → Unbound ys env → Unbound ys (with_vars bs env)
unbound_past xs ys bs env e once h y lt = vars_out bs env y
    (subst (λ l. times y l ≡ 0) (sym e)
    (let a = times_append y xs ys in let o : times y (xs ++ ys) ≤ 1 = once y
    in omega (arith, a, o, lt))) ∙ h y lt

-- a pattern without variables binds none
none_bound : (g : Program) (s : Shape) (v : Value) (bs : List Binding) → shape_vars s ≡ []
    → fit_of g s v ≡ fits bs → bs ≡ []
none_bound g (shape.Node t []) v bs n e = go (as_node g v) e
  where
    at : (b : Bool) → cond b (fits []) fits_not ≡ fits bs → bs ≡ []
    at true q = cc
    at false q = cc

    go : (o : Option Node) → node_fit t.0 [] o ≡ fits bs → bs ≡ []
    go None q = cc
    go (Some m) q = at (nat_eq m.tag t.0) q
none_bound g (shape.Node t (x ∷ xs)) v bs n e = cc
none_bound g (shape.Int k) v bs n e = go (as_node g v) e
  where
    test : (b : Bool) → cond b (fits []) fits_not ≡ fits bs → bs ≡ []
    test true q = cc
    test false q = cc

    number_in : (ds : List Datum) → number_fit k ds ≡ fits bs → bs ≡ []
    number_in [] q = cc
    number_in (number i ∷ ds) q = test (same_number k i) q
    number_in (tag t ∷ ds) q = cc
    number_in (cell a ∷ ds) q = cc

    at : (m : Node) (b : Bool) → cond b (number_fit k m.fields) fits_not ≡ fits bs → bs ≡ []
    at m true q = number_in m.fields q
    at m false q = cc

    go : (o : Option Node) → int_fit k o ≡ fits bs → bs ≡ []
    go None q = cc
    go (Some m) q = at m (nat_eq m.tag 0) q
none_bound g shape.Else v bs n e = cc

module _ (g : Program) (procs : List Procedure) where
  abbrev plan : Plan
  plan = record {
    looks = true;
    K = no_deeper;
    P = StateInHeap g;
    Args = λ f. Same;
    Result = λ f. Same;
    g
        = g;
    procs = procs;
  }

  plain : IsPlain plan
  plain = record
      { heaps_are = λ h. h; same_heaps = λ c. same; args = λ f xs. same; results = λ f v v' u. u }

  -- the same variables, and what is remembered is so; those that the rest of a piece binds aren't
  -- bound
  record Remembers (own : ℕ → Bool) (T : KnownCellContents) (vs : List ℕ) (c : List HeapCell)
      (env env' : Env) : Type 0 where
    same : Has Any env env'
    known : AllKnown g own env c T []
    new : Unbound vs env

  module _ (c c' : Calls) (cb : CallsBack (StateInHeap g) c) (cf : CallsFollow plan c c')
      (cg : (k : Invariant g) → CallsGood g k c) (own : ℕ → Bool) where
    abbrev st : Setting
    st = record { plan = plan; c = c; c' = c'; back = cb; follow = cf }

    abbrev Acts : KnownCellContents → List ℕ → Act → Act → Type 0
    Acts T vs = ActFollows st (Remembers own T vs) Same

    abbrev Codes : KnownCellContents → Code → Code → Type 0
    Codes T b b' = CodeFollows st (Remembers own T (code_vars b)) Same b b'

    leaf_goes : (T : KnownCellContents) (vs : List ℕ) (l : Leaf) → Acts T vs (leaf l) (leaf l)
    leaf_goes T vs l = act_more st (leaf l) (leaf l) (λ c env env' r. r.same) (λ v v' u. u)
        (leaf_follows st plain (having Any) l (leaf_any l))

    told_is : (env : Env) (cells : List HeapCell) (z : ℕ) (m : Memory) (i j : ℕ) (w : W.Word)
        (y : HeapCell) → told m i ≡ Some w → Known g own env cells z m []
        → and_then (and_then (env z) only_word) place_of ≡ Some j → slice_get cells j ≡ Some y
        → word_of g env w ≡ Some (node_word y.node i)
    told_is env cells z other i j w y t k p q = cc
    told_is env cells z lost i j w y t k p q = cc
    told_is env cells z (holds ws) i j w y t k p q =
        let a : word_at ws i ≡ w = cc in
        let here : Some k.at.a ≡ Some j = sym
        (ap (λ o. and_then (and_then o only_word) place_of) k.at.bound) ∙ p in
        let place : k.at.a ≡ j = cc in
        let both : Some k.at.heap.y ≡ Some y = sym k.at.heap.there ∙ ap (slice_get cells) place ∙ q
        in
        let is : k.at.heap.y ≡ y = cc in
        ap (word_of g env) (sym a) ∙ k.at.heap.holds i ∙ ap (λ y. Some (node_word y.node i)) is

    fetch_told : (T : KnownCellContents) (vs : List ℕ) (a : W.Word) (i : ℕ) (w : W.Word)
        → remembered_word_of T a i ≡ Some w → Acts T vs (leaf (fetch_word a i))
        (leaf (unit (One w)))
    unfolding act_by
    fetch_told T vs (Lit k) i w t = cc
    fetch_told T vs (Global k) i w t = cc
    fetch_told T vs (TagWord k) i w t = cc
    fetch_told T vs (Var z) i w t = record {
      by = λ x. need_first (StateInHeap g) no_deeper Same
          (and_then (word_of g x.env (Var z)) place_of) x.w _ _
          (λ j e. need_first (StateInHeap g) no_deeper Same (slice_get x.w.cells j) x.w _ _
          (λ y q all.
          let is : word_of g x.env w ≡ Some (node_word y.node i)
          = told_is x.env x.w.cells z.0 (T z.0) i j w y t (x.related.known z.0) e q in
          let too : word_of g x.env' w ≡ Some (node_word y.node i)
          = word_has g Any x.env x.env' x.related.same w (word_any w) (node_word y.node i) is in
          subst (Likewise no_deeper Same (gives (words (node_word y.node i ∷ [])) x.w))
          (need_is (value_of g x.env' (One w)) (words (node_word y.node i ∷ [])) (beside x.b)
          (λ v. require_if_checked true true (beside x.b) (gives v (beside x.b)))
          (ap (λ o. and_then o (λ d. Some (words (d ∷ [])))) too))
          (gives_too x.b same)));
    }

    fetch_goes : (T : KnownCellContents) (vs : List ℕ) (a : W.Word) (i : ℕ)
        → Acts T vs (leaf (fetch_word a i)) (word_or_fetch a i (remembered_word_of T a i))
    fetch_goes T vs a i = go (remembered_word_of T a i) refl
      where
        go : (o : Option W.Word) → remembered_word_of T a i ≡ o
            → Acts T vs (leaf (fetch_word a i)) (word_or_fetch a i o)
        go None q = leaf_goes T vs (fetch_word a i)
        go (Some w) q = fetch_told T vs a i w q

    bound_well : (T : KnownCellContents) (o : Act) (t : Target) (v : Value)
        → is_bound_well g t (told_act own T o) v ≡ is_bound_well g t o v
    unfolding told_act
    bound_well T (leaf (unit u)) t v = refl
    bound_well T (leaf (fetch a)) t v = refl
    bound_well T (leaf (fetch_word a i)) t v = go (remembered_word_of T a i)
      where
        go : (o : Option W.Word) → is_bound_well g t (word_or_fetch a i o) v ≡ is_bound_well g t
            (leaf (fetch_word a i)) v
        go None = refl
        go (Some w) = refl
    bound_well T (leaf (update a u)) t v = refl
    bound_well T (leaf (eval a)) t v = refl
    bound_well T (leaf (apply u a)) t v = refl
    bound_well T (leaf (call f ws)) t v = refl
    bound_well T (leaf (prim q a b)) t v = refl
    bound_well T (leaf read) t v = refl
    bound_well T (leaf (write a)) t v = refl
    bound_well T (case u as') t v = refl
    bound_well T (nested b) t v = refl
    bound_well T (leaf fail) t v = refl

    bind_goes : (T : KnownCellContents) (t : Target) (o : Act) (b : Code)
        → Once (target_vars t ++ (act_vars o ++ code_vars b)) → EachAct inlined_kind o
        → Clear (IsOwn g own) (act_shown o) → Acts T (act_vars o) o (told_act own T o)
        → Codes (after_act o T) b (told_code own (after_act o T) b)
        → CodeFollows st (Remembers own T (target_vars t ++ (act_vars o ++ code_vars b))) Same
        (bind t o b) (bind t (told_act own T o) (told_code own (after_act o T) b))
    bind_goes T t o b once l s f k = bind_follows st t t o (told_act own T o) b
        (told_code own (after_act o T) b)
        (act_more st o (told_act own T o)
        (λ c env env' r. record {
          same = r.same;
          known = r.known;
          new = unbound_left (act_vars o) (code_vars b) env
              (unbound_right (target_vars t) (act_vars o ++ code_vars b) env r.new);
        }) (λ v v' u. u)
        f) k
        (λ x y. on x y.v y.w y.bs y.values y.gave y.seen y.binds)
      where
        later : Once (target_vars t ++ code_vars b)
        later y = let e = times_append y (target_vars t) (act_vars o ++ code_vars b) in let e2
            = times_append y (act_vars o) (code_vars b) in let e3
            = times_append y (target_vars t) (code_vars b) in let h
            : times y (target_vars t ++ (act_vars o ++ code_vars b)) ≤ 1 = once y
            in omega (arith, e, e2, e3, h)

        on : (x : Here plan (Remembers own T (target_vars t ++ (act_vars o ++ code_vars b))))
            (v : Value) (w : World) (bs : List Binding) {v' : Value} → Same v v'
            → act_by g c true x.env (suc x.d) o x.w ≡ gives v w → Seen true (is_bound_well g t o v)
            → bindings_of g t v ≡ Some bs → BindsToo st
            (Remembers own (after_act o T) (code_vars b)) t (told_act own T o) x.env x.env'
            w.cells v' bs
        on x v w bs same gave seen binds =
            let names : names_of bs ≡ target_vars t = bound_names g t v bs binds in
            record {
              seen = λ q. bound_well T o t v ∙ seen q;
              bs' = bs;
              binds = binds;
              related = record {
                same = vars_have Any bs x.env x.env' x.related.same;
                known = λ z. known_bound g own bs x.env w.cells z (after_act o T z) (all_words v)
                    (subst (λ l. Unbound l x.env) (sym names)
                    (unbound_left (target_vars t) (act_vars o ++ code_vars b) x.env x.related.new))
                    (target_free g own t v bs binds)
                    (acts_known g own c cg x.env (suc x.d) o x.w w v T [] l s gave x.related.known
                    z);
                new = unbound_past (target_vars t) (code_vars b) bs x.env names later
                    (unbound_right (act_vars o) (code_vars b) x.env
                    (unbound_right (target_vars t) (act_vars o ++ code_vars b) x.env
                    x.related.new));
              };
            }

    store_goes : (T : KnownCellContents) (cs : List Cell) (b : Code)
        → Once (cell_vars cs ++ code_vars b) → Clear (IsOwn g own) (cells_words cs)
        → Codes (after_store own cs T) b (told_code own (after_store own cs T) b)
        → CodeFollows st (Remembers own T (cell_vars cs ++ code_vars b)) Same (store cs b)
        (store cs (told_code own (after_store own cs T) b))
    store_goes T cs b once s k = store_follows st cs cs b (told_code own (after_store own cs T) b) k
        (λ x y.
        let bs : List Binding = places (length x.w.cells) cs in
        let cells_are : x.b.cells ≡ x.w.cells = same_is x.b.heaps in
        let many : length x.w.cells ≡ length x.b.cells = ap length (sym cells_are) in
        let had : Has Any (with_vars bs x.env) (with_vars bs x.env')
        = vars_have Any bs x.env x.env' x.related.same in
        let hold : Remembers own (after_store own cs T) (code_vars b) (x.w.cells ++ y.hs)
        (with_vars bs x.env) (with_vars bs x.env') = record {
          same = had;
          known = stores_known g own x.env x.w.cells y.hs cs T
              (unbound_left (cell_vars cs) (code_vars b) x.env x.related.new)
              (once_left (cell_vars cs) (code_vars b) once) s x.known.heap x.known.variables y.cells
              (y.seen refl) x.related.known;
          new = unbound_past (cell_vars cs) (code_vars b) bs x.env
              (places_names (length x.w.cells) cs) once
              (unbound_right (cell_vars cs) (code_vars b) x.env x.related.new);
        } in
        record {
          hs' = y.hs;
          cells = subst (λ k. cells_of g (with_vars (places k cs) x.env') cs ≡ Some y.hs) many
              (cells_have g Any (with_vars bs x.env) (with_vars bs x.env') had cs (cells_any cs)
              y.hs y.cells);
          seen = λ l. subst (λ k. all_fill g (with_vars (places k cs) x.env') cs ≡ true) many
              (all_fill_too g Any (with_vars bs x.env) (with_vars bs x.env') had cs (cells_any cs)
              y.hs y.cells ∙ y.seen l);
          heaps = subst (λ c. Same (x.w.cells ++ y.hs) (c ++ y.hs)) (sym cells_are) same;
          related = subst
              (λ k. Remembers own (after_store own cs T) (code_vars b) (x.w.cells ++ y.hs)
              (with_vars bs x.env) (with_vars (places k cs) x.env')) many hold;
        })

    -- over one value in both
    abbrev Over : KnownCellContents → List ℕ → Value → Value → Relation
    Over T vs v v' c env env' = Same v v' × Remembers own T vs c env env'

    arm_goes : (T : KnownCellContents) (q : Shape) (b : Code) (as' : Arms) → shape_vars q ≡ []
        → Codes T b (told_code own T b) → ArmsFollow st (Over T (arms_vars as')) Same as'
        (told_arms own T as')
        → ArmsFollow st (Over T (shape_vars q ++ (code_vars b ++ arms_vars as'))) Same (arm q b as')
        (arm q (told_code own T b) (told_arms own T as'))
    arm_goes T q b as' n f k = arm_follows st q q b (told_code own T b) as' (told_arms own T as') f
        k
        (λ v v' x bs e known. fit x v bs x.related.0 e)
        (λ v v' x e. (
          sym (ap (fit_of g q) (sym (same_is x.related.0))) ∙ e,
          (
            x.related.0,
            record {
              same = x.related.1.same;
              known = x.related.1.known;
              new
                  = unbound_right (code_vars b) (arms_vars as') x.env
                  (unbound_right (shape_vars q) (code_vars b ++ arms_vars as') x.env x.related.1.new);
            },
          ),
        ))
      where
        fit : {v v' : Value}
            (x : Here plan (Over T (shape_vars q ++ (code_vars b ++ arms_vars as')) v v'))
            (u : Value) (bs : List Binding) → Same u v' → fit_of g q u ≡ fits bs
            → FitsToo st (Remembers own T (code_vars b)) q x.env x.env' x.w.cells v' bs
        fit x u bs same e = subst
            (λ l. FitsToo st (Remembers own T (code_vars b)) q x.env x.env' x.w.cells u l)
            (sym (none_bound g q u bs n e)) (record {
              bs' = [];
              fit = e ∙ ap fits (none_bound g q u bs n e);
              related = record {
                same = x.related.1.same;
                known = x.related.1.known;
                new
                    = unbound_left (code_vars b) (arms_vars as') x.env
                    (unbound_right (shape_vars q) (code_vars b ++ arms_vars as') x.env x.related.1.new);
              };
            })

    mutual
      unfolding told_act act_vars EachAct act_shown

      act_goes : (o : Act) (T : KnownCellContents) → Once (act_vars o) → EachAct inlined_kind o
          → EachAct vectorised_kind o → Clear (IsOwn g own) (act_shown o)
          → Acts T (act_vars o) o (told_act own T o)
      act_goes (leaf (fetch_word a i)) T once l n s = fetch_goes T [] a i
      act_goes (case v as') T once l n s = case_follows st v v as' (told_arms own T as')
          (arms_go as' T once l.2 n.2 (clear_back (IsOwn g own) (val_words v) (arms_shown as') s))
          (λ x y e.
          (y, value_has g Any x.env x.env' x.related.same v (val_any v) y e, (same, x.related)))
      act_goes (nested b) T once l n s = nested_follows st b (told_code own T b)
          (code_goes b T once l.1 n.1 s)
      act_goes (leaf (unit v)) T once l n s = leaf_goes T [] (unit v)
      act_goes (leaf (fetch a)) T once l n s = leaf_goes T [] (fetch a)
      act_goes (leaf (update a v)) T once l n s = leaf_goes T [] (update a v)
      act_goes (leaf (eval a)) T once l n s = leaf_goes T [] (eval a)
      act_goes (leaf (apply v a)) T once l n s = leaf_goes T [] (apply v a)
      act_goes (leaf (call f ws)) T once l n s = leaf_goes T [] (call f ws)
      act_goes (leaf (prim q a b)) T once l n s = leaf_goes T [] (prim q a b)
      act_goes (leaf read) T once l n s = leaf_goes T [] read
      act_goes (leaf (write a)) T once l n s = leaf_goes T [] (write a)
      act_goes (leaf fail) T once l n s = leaf_goes T [] fail

      code_goes : (b : Code) (T : KnownCellContents) → Once (code_vars b) → EachCode inlined_kind b
          → EachCode vectorised_kind b → Clear (IsOwn g own) (code_shown b)
          → Codes T b (told_code own T b)
      code_goes (end o) T once l n s = end_follows st o (told_act own T o) (act_goes o T once l n s)
      code_goes (store cs b) T once l n s = store_goes T cs b once
          (clear_front (IsOwn g own) (cells_words cs) (code_shown b) s)
          (code_goes b (after_store own cs T) (once_right (cell_vars cs) (code_vars b) once) l.1 n.1
          (clear_back (IsOwn g own) (cells_words cs) (code_shown b) s))
      code_goes (bind t o b) T once l n s = bind_goes T t o b once l.1
          (clear_front (IsOwn g own) (act_shown o) (code_shown b) s)
          (act_goes o T
          (once_left (act_vars o) (code_vars b)
          (once_right (target_vars t) (act_vars o ++ code_vars b) once)) l.1 n.1
          (clear_front (IsOwn g own) (act_shown o) (code_shown b) s))
          (code_goes b (after_act o T)
          (once_right (act_vars o) (code_vars b)
          (once_right (target_vars t) (act_vars o ++ code_vars b) once)) l.2 n.2
          (clear_back (IsOwn g own) (act_shown o) (code_shown b) s))

      arms_go : (as' : Arms) (T : KnownCellContents) → Once (arms_vars as')
          → EachArms inlined_kind as' → EachArms vectorised_kind as'
          → Clear (IsOwn g own) (arms_shown as') → ArmsFollow st (Over T (arms_vars as')) Same as'
          (told_arms own T as')
      arms_go no_arm T once l n s = no_arm_follows st no_arm
      arms_go (arm q b as') T once l n s = arm_goes T q b as' n.0
          (code_goes b T
          (once_left (code_vars b) (arms_vars as')
          (once_right (shape_vars q) (code_vars b ++ arms_vars as') once)) l.1 n.1
          (clear_front (IsOwn g own) (code_shown b) (arms_shown as') s))
          (arms_go as' T
          (once_right (code_vars b) (arms_vars as')
          (once_right (shape_vars q) (code_vars b ++ arms_vars as') once)) l.2 n.2
          (clear_back (IsOwn g own) (code_shown b) (arms_shown as') s))

-- ---- programs

no_fields : (n : ℕ) (cs : List GlobalCell) → AllOf {A = HeapCell}
    (λ h. AllOf (Below n) h.node.fields)
    (map (λ c. record { site = c.site.0; node = record { tag = c.tag.0; fields = [] } }) cs)
no_fields n [] = tt
no_fields n (c ∷ cs) = (tt, no_fields n cs)

module _ (g : Program) (formed : Formed g) (inlined : IsInlined g) (vectorised : IsVectorised g)
  where
    abbrev procs : List Procedure
    procs = map (rewritten_procedure remembered_body) g.procs

    many_globals : length (global_cells g) ≡ length g.globals
    many_globals = length_map _ g.globals

    starts_there : (o : Option ℕ) → ArgumentKnown g o
        → AllOf (Below (length (global_cells g))) (start_words o)
    starts_there None h = tt
    starts_there (Some i) h = ((let l = many_globals in omega (arith, l, h)), tt)

    -- each cell that a state mentions is there
    each_there : (i : List ℕ) (n : ℕ) → HoldsInEveryState (StateInHeap g)
        (world_of (checked_run g i n)).seen
    unfolding run_by
    each_there i n = kept_seen g (all_there g) (length (global_cells g)) (checked_run g i n)
        ((calls_good g (all_there g) inlined true n).by g.start.0 (start_words g.argument) 0
        (start_world g i n) (starts_there g.argument formed.argument)
        (record {
          heap = record {
            globals = (let l = many_globals in omega (arith, l));
            fields
                = no_fields (length (global_cells g)) g.globals;
          };
          seen = tt;
        }))

    enters_same : (q : Procedure) (c : List HeapCell) {xs xs' : List Datum} (bs : List Binding)
        → Once (numbers_of q.params ++ code_vars q.body) → Same xs xs'
        → one_each q.params xs ≡ Some bs
        → (bs' : List Binding) × (one_each q.params xs' ≡ Some bs')
        × Remembers g procs (is_own_cell_variable q.body) none (code_vars q.body) c
        (with_vars bs nothing) (with_vars bs' nothing)
    enters_same q c {xs} bs once same e = (
      bs,
      e,
      record {
        same = λ y v k h. h;
        known = λ x. tt;
        new = unbound_past (numbers_of q.params) (code_vars q.body) bs nothing
            (one_each_names q.params xs bs e) once (λ y lt. refl);
      },
    )

    given_same : {v v' : Value} → Same v v' → Seen true (is_given g v) → Seen true (is_given g v')
        × Same v v'
    given_same same seen = (seen, same)

    shown_clear : (b : Code) → Clear (IsOwn g (is_own_cell_variable b)) (code_shown b)
    shown_clear b = record { by = λ y h. not_true (words_use y (code_shown b)) h }

    bodies_go : (n : ℕ)
        (cf : CallsFollow (plan g procs) (calls_by g true n)
        (calls_by (second (plan g procs)) true n)) (f : ℕ) (qs : List Procedure)
        → Once (procs_vars qs) → AllOf (λ q. EachCode inlined_kind q.body) qs
        → AllOf (λ q. EachCode vectorised_kind q.body) qs
        → BodiesFollow (at (plan g procs) n cf) f qs (map (rewritten_procedure remembered_body) qs)
    bodies_go n cf f [] once ls ns = no_more
    bodies_go n cf f (q ∷ qs) once ls ns = one_more {f = f} {q = q}
        {r = rewritten_procedure remembered_body q} (record {
          R = Remembers g procs (is_own_cell_variable q.body) none (code_vars q.body);
          V = Same;
          enters = λ c xs xs' bs a e known. enters_same q c bs
              (once_left (numbers_of q.params ++ code_vars q.body) (procs_vars qs) once) a e;
          body = code_goes g procs (calls_by g true n) (calls_by (second (plan g procs)) true n)
              (calls_by_back (StateInHeap g) g true n) cf (λ k. calls_good g k inlined true n)
              (is_own_cell_variable q.body) q.body none
              (once_right (numbers_of q.params) (code_vars q.body)
              (once_left (numbers_of q.params ++ code_vars q.body) (procs_vars qs) once)) ls.0 ns.0
              (shown_clear q.body);
          given = λ v v' u seen. given_same u seen;
        }) (bodies_go n cf (suc f) qs
        (once_right (numbers_of q.params ++ code_vars q.body) (procs_vars qs) once) ls.1 ns.1)

    goes_likewise : (i : List ℕ) (n : ℕ) → Likewise no_deeper Same (checked_run g i n)
        (checked_run (remembered g) i n)
    goes_likewise i n = run_too (plan g procs)
        (λ n cf. bodies_go n cf 0 g.procs formed.variables_once inlined vectorised) i n same same
        (each_there i n)

    pub remembered_kept : CheckedRunsNeverMissing g → CheckedRunsNeverMissing (remembered g)
        × Keeps g (remembered g)
    remembered_kept never = looking_kept g (remembered g) never
        (λ i n. likewise_kept no_deeper Same (checked_run g i n) (checked_run (remembered g) i n)
        (goes_likewise i n))
