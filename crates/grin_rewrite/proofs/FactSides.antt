-- A program and what becomes of it by what is known at each place run side by side, where words
-- alone change but for cases.
use Rattle.std.proofs.Common.{◌≡◌, ℕ, suc, ◌+◌, ◌≤◌, ◌&&◌, Bool, true, false, cond, not, List, [], ◌∷◌, ◌++◌, length, Option, Some, None, slice_get, slice_set, refl, sym, ap, ◌∙◌, subst, arith}
use Rattle.seq.proofs.Lists.{none_is_some}
use Rattle.seq.proofs.Truth.{and_left}
use Rattle.seq.specs.Lists.{times}
use Rattle.seq.proofs.Counted.{times_append}
use Rattle.grin_syntax.specs.declared.program.Cell.{Cell}
use Rattle.grin_syntax.specs.declared.program.Shape.{Shape}
use Rattle.grin_syntax.specs.declared.program.Target.{Target}
use Rattle.grin_syntax.specs.declared.program.Target.TheVariants as to
use Rattle.grin_syntax.specs.declared.program.Val.{Val}
use Rattle.grin_syntax.specs.declared.program.Val.TheVariants.{NodeVar, Node as Node', Vector, One}
use Rattle.grin_syntax.specs.declared.program.Word.{Word}
use Rattle.grin_syntax.specs.Tree.{Code, store, bind, Act, Leaf, leaf, unit, fetch, fetch_word, update, eval, apply, call, prim, read, write, fail, case, nested, Arms, no_arm, arm, Procedure, Program}
use Rattle.grin_syntax.specs.Binders.{numbers_of, target_vars, shape_vars, cell_vars, act_vars, code_vars, arms_vars, procs_vars}
use Rattle.grin_syntax.specs.Formed.{AllOf, Scope, with_word_variables, with_target, params_scope, ValFormed, ActFormed, CodeFormed, ArmsFormed, ProcedureFormed, Formed}
use Rattle.grin_meaning.specs.Values.{Datum, cell, Node, Value, words, Env, HeapCell, State, World, missing, Answer, gives, stops, need, and_then, Binding, with_vars, one_each, as_node, word_of, words_of, value_of, node_of, bindings_of}
use Rattle.grin_meaning.specs.Run.{Calls, act_by, require_if_checked, places, cells_of, place_of}
use Rattle.grin_meaning.specs.Checks.{is_none_or, is_filled, fills, all_fill, has_block, is_fetch, is_node_target, not_delayed, is_given, is_bound_well}
use Rattle.grin_meaning.specs.Ready.{EachAct, EachCode, EachArms, PieceKind, EveryBodyIsOfKind, Inlined, NoNodeTarget}
use Rattle.grin_meaning.specs.Rewritten.{rewritten}
use Rattle.grin_meaning.specs.Follows.{Same, same, HoldsInEveryState}
use Rattle.grin_meaning.specs.Keeps.{world_of, Keeps}
use Rattle.grin_meaning.specs.Looking.{checked_run, CheckedRunsNeverMissing}
use Rattle.grin_meaning.proofs.Back.{CallsBack}
use Rattle.grin_meaning.proofs.Names.{Any}
use Rattle.grin_meaning.proofs.Beside.{beside, no_deeper, Likewise, free, gives_too, stops_too, Seen}
use Rattle.grin_meaning.proofs.Rules.{Relation, Plan, Here, CallsFollow, Setting, h, ActFollows, CodeFollows, BindsToo, CellToo, Stored, StoresToo, unit_follows, fetch_follows, fetch_word_follows, update_follows, call_follows, prim_follows, read_follows, write_follows, fail_follows, end_follows, nested_follows, store_follows, bind_follows}
use Rattle.grin_meaning.proofs.Procedures.{BodiesFollow, no_more, one_more, side_by_side, run_follows}
use Rattle.grin_meaning.proofs.Plain.{Has, then_has, same_is}
use Rattle.grin_meaning.proofs.Scopes.{Once, once_left, once_words, target_adds}
use Rattle.grin_meaning.proofs.Bindings.{keys}
use Rattle.grin_meaning.proofs.Following.{is_same}
use Rattle.grin_meaning.proofs.KeptBy.{likewise_kept, looking_kept}
use Rattle.grin_meaning.proofs.Paired.{nothing}
use Rattle.grin_rewrite.specs.WithFacts.{WithFacts, walk_act, walk_code}
use Rattle.grin_rewrite.specs.ByWords.{words_by, val_by, cells_by, leaf_by}
use Rattle.grin_rewrite.proofs.Sides.{looking}
use Rattle.grin_rewrite.proofs.Walked.{Relating, code_walked}
use Rattle.grin_rewrite.proofs.FactText.{ByWords, procs_by, change, Places, new_val_formed, act_formed}

-- ---- words that stand for what the words did, in the second of two environments

module _ (g : Program) (word : Word → Word) (env env' : Env) (has : Has Any env env')
    (stands : (a : Word) (d : Datum) → word_of g env a ≡ Some d → word_of g env' (word a) ≡ Some d)
  where
    pub words_too : (ws : List Word) (ds : List Datum) → words_of g env ws ≡ Some ds
        → words_of g env' (words_by word ws) ≡ Some ds
    words_too [] ds e = e
    words_too (a ∷ ws) ds e = then_has (word_of g env a) (word_of g env' (word a)) _ _ ds (stands a)
        (λ d. then_has (words_of g env ws) (words_of g env' (words_by word ws)) _ _ ds (words_too ws)
        (λ es q. q)) e

    pub value_too : (v : Val) (y : Value) → value_of g env v ≡ Some y
        → value_of g env' (val_by word v) ≡ Some y
    value_too (NodeVar x) y e = has x.0 y tt e
    value_too (Node' t ws) y e = then_has (words_of g env ws) (words_of g env' (words_by word ws)) _ _
        y (words_too ws) (λ ds q. q) e
    value_too (Vector ws) y e = then_has (words_of g env ws) (words_of g env' (words_by word ws)) _ _
        y (words_too ws) (λ ds q. q) e
    value_too (One a) y e = then_has (word_of g env a) (word_of g env' (word a)) _ _ y (stands a)
        (λ d q. q) e

    pub node_too : (v : Val) (n : Node) → node_of g env v ≡ Some n
        → node_of g env' (val_by word v) ≡ Some n
    node_too v n e = then_has (value_of g env v) (value_of g env' (val_by word v)) (as_node g)
        (as_node g) n (value_too v) (λ y q. q) e

    pub cells_too : (cs : List Cell) (hs : List HeapCell) → cells_of g env cs ≡ Some hs
        → cells_of g env' (cells_by word cs) ≡ Some hs
    cells_too [] hs e = e
    cells_too (c ∷ cs) hs e = then_has (and_then (node_of g env c.val) _)
        (and_then (node_of g env' (val_by word c.val)) _) _ _ hs
        (λ b. then_has (node_of g env c.val) (node_of g env' (val_by word c.val)) _ _ b
        (node_too c.val) (λ n q. q))
        (λ b. then_has (cells_of g env cs) (cells_of g env' (cells_by word cs)) _ _ hs (cells_too cs)
        (λ bs q. q)) e

    -- what is filled stays so, where it is there
    pub fills_too : (v : Val) (y : Value) → value_of g env v ≡ Some y
        → fills g env' (val_by word v) ≡ fills g env v
    fills_too (NodeVar x) y e = refl
    fills_too (Node' t ws) y e = refl
    fills_too (One a) y e = refl
    fills_too (Vector ws) y e = go (words_of g env ws) refl e
      where
        go : (o : Option (List Datum)) → words_of g env ws ≡ o
            → and_then o (λ ds. Some (words ds)) ≡ Some y
            → is_none_or (words_of g env' (words_by word ws)) (is_filled g) ≡ is_none_or
            (words_of g env ws) (is_filled g)
        go None q e = none_is_some e
        go (Some ds) q e = ap (λ o. is_none_or o (is_filled g)) (words_too ws ds q ∙ sym q)

    pub node_fills : (v : Val) (n : Node) → node_of g env v ≡ Some n
        → fills g env' (val_by word v) ≡ fills g env v
    node_fills v n e = go (value_of g env v) refl e
      where
        go : (o : Option Value) → value_of g env v ≡ o → and_then o (as_node g) ≡ Some n
            → fills g env' (val_by word v) ≡ fills g env v
        go None q e = none_is_some e
        go (Some y) q e = fills_too v y q

    pub all_fill_too : (cs : List Cell) (hs : List HeapCell) → cells_of g env cs ≡ Some hs
        → all_fill g env' (cells_by word cs) ≡ all_fill g env cs
    all_fill_too [] hs e = refl
    all_fill_too (c ∷ cs) hs e = here (value_of g env c.val) refl e (all_fill_too cs)
      where
        more : (y : Value) → value_of g env c.val ≡ Some y → (o : Option (List HeapCell))
            → cells_of g env cs ≡ o → (q : Option HeapCell)
            → and_then q (λ b. and_then o (λ bs. Some (b ∷ bs))) ≡ Some hs
            → ((ks : List HeapCell) → cells_of g env cs ≡ Some ks
            → all_fill g env' (cells_by word cs) ≡ all_fill g env cs)
            → all_fill g env' (cells_by word (c ∷ cs)) ≡ all_fill g env (c ∷ cs)
        more y k None r None e f = none_is_some e
        more y k None r (Some b) e f = none_is_some e
        more y k (Some ks) r q e f = λ i. fills_too c.val y k i && f ks r i

        here : (o : Option Value) → value_of g env c.val ≡ o
            → and_then
            (and_then (and_then o (as_node g)) (λ n. Some (record { site = c.site.0; node = n })))
            (λ b. and_then (cells_of g env cs) (λ bs. Some (b ∷ bs))) ≡ Some hs
            → ((ks : List HeapCell) → cells_of g env cs ≡ Some ks
            → all_fill g env' (cells_by word cs) ≡ all_fill g env cs)
            → all_fill g env' (cells_by word (c ∷ cs)) ≡ all_fill g env (c ∷ cs)
        here None k e f = none_is_some e
        here (Some y) k e f = more y k (cells_of g env cs) refl _ e f

pub places_stay : (word : Word → Word) (n : ℕ) (cs : List Cell)
    → places n (cells_by word cs) ≡ places n cs
places_stay word n [] = refl
places_stay word n (c ∷ cs) = ap (λ bs. (c.var.0, words (cell n ∷ [])) ∷ bs) (places_stay word _ cs)

places_keys : (cs : List Cell) (a : ℕ) → keys (places a cs) ≡ cell_vars cs
places_keys [] a = refl
places_keys (c ∷ cs) a = ap (λ xs. c.var.0 ∷ xs) (places_keys cs (suc a))

-- ---- what the second of two operations gives

-- a unit gives its value
abbrev pub Gave : Program → Env → Act → Value → Type 0
Gave g env (leaf (unit u)) v = value_of g env u ≡ Some v
Gave g env _ v = Unit {0}

module _ (s : Setting) where
  open s use {plan, c', plan.{looks, K, g}}

  -- with what is known of the second value
  like_also : {V : Value → Value → Type 0} {Q : Value → Type 0} {a a' : Answer}
      → ((v : Value) (w : World) → a' ≡ gives v w → Q v) → Likewise K V a a'
      → Likewise K (λ v v'. V v v' × Q v') a a'
  like_also q free = free
  like_also q (gives_too {v} {v'} b u) = gives_too b (u, q v' (beside b) refl)
  like_also q (stops_too b) = stops_too b

  value_is : {y z : Value} {w w' : World} → gives y w ≡ gives z w' → y ≡ z
  value_is e = cc

  never_gives : {A : Type 0} {z : Value} {w w' : World} → stops missing w ≡ gives z w' → A
  never_gives e = cc

  looked_gives : (looks b : Bool) (y z : Value) (w w' : World)
      → require_if_checked looks b w (gives y w) ≡ gives z w' → y ≡ z
  looked_gives false b y z w w' e = value_is e
  looked_gives true true y z w w' e = value_is e
  looked_gives true false y z w w' e = never_gives e

  gave : (env : Env) (d : ℕ) (o : Act) (w w' : World) (v : Value)
      → act_by (h s) c' looks env d o w ≡ gives v w' → Gave (h s) env o v
  unfolding act_by
  gave env d (leaf (unit u)) w w' v e = go (value_of (h s) env u) refl e
    where
      go : (o : Option Value) → value_of (h s) env u ≡ o
          → need o w (λ y. require_if_checked looks (fills (h s) env u) w (gives y w)) ≡ gives v w'
          → value_of (h s) env u ≡ Some v
      go None q e = never_gives e
      go (Some y) q e = q ∙ ap Some (looked_gives looks (fills (h s) env u) y v w w' e)
  gave env d (leaf _) w w' v e = tt
  gave env d (case u as') w w' v e = tt
  gave env d (nested b) w w' v e = tt

  -- where these are the second's variables
  abbrev With : Relation → Env → Relation
  With R there = λ cells env env'. R cells env env' × (env' ≡ there)

  abbrev GaveToo : Act → Env → Value → Value → Type 0
  GaveToo o' there = λ v v'. Same v v' × Gave (h s) there o' v'

  -- a statement, by what the second operation gave
  pub bind_gave : {R R' : Relation} {V : Value → Value → Type 0} (t : Target) (o o' : Act)
      (b b' : Code) → ActFollows s R Same o o' → CodeFollows s R' V b b'
      → ((x : Here plan R) (v v' : Value) (cells : List HeapCell) (bs : List Binding) → Same v v'
      → Gave (h s) x.env' o' v' → Seen looks (is_bound_well g t o v)
      → bindings_of g t v ≡ Some bs → BindsToo s R' t o' x.env x.env' cells v' bs)
      → CodeFollows s R V (bind t o b) (bind t o' b')
  bind_gave {R} {R'} {V} t o o' b b' f k on = record {
    by = λ x. (at x.env').by
        (record {
          env = x.env;
          env' = x.env';
          d = x.d;
          d' = x.d';
          w = x.w;
          b = x.b;
          related
              = (x.related, refl);
          known = x.known;
          nest = x.nest;
        });
  }
    where
      plainly : (there : Env) → Here plan (With R there) → Here plan R
      plainly there y = record {
        env = y.env;
        env' = y.env';
        d = y.d;
        d' = y.d';
        w = y.w;
        b = y.b;
        related
            = y.related.0;
        known = y.known;
        nest = y.nest;
      }

      gives_it : (there : Env) → ActFollows s (With R there) (GaveToo o' there) o o'
      gives_it there = record {
        by = λ y all. like_also
            (λ v w e. subst (λ q. Gave (h s) q o' v) y.related.1
            (gave y.env' y.d' o' (beside y.b) w v e)) (f.by (plainly there y) all);
      }

      at : (there : Env) → CodeFollows s (With R there) V (bind t o b) (bind t o' b')
      at there = bind_follows s {R = With R there} {R' = R'} {U = GaveToo o' there} {V = V} t t o o'
          b b' (gives_it there) k
          (λ y z. on (plainly there y) z.v z.v' z.w.cells z.bs z.values.0
          (subst (λ q. Gave (h s) q o' z.v') (sym y.related.1) z.values.1) z.seen z.binds)

-- ---- what a case gives

no_node : (t : Target) → NoNodeTarget t → is_node_target t ≡ false
no_node (to.Node x) n = absurd n
no_node to.Nothing n = refl
no_node (to.One x) n = refl
no_node (to.Vector xs) n = refl

-- any operation may give it
well_given : (g : Program) (t : Target) (v : Val) (as' : Arms) (o : Act) (y : Value)
    → NoNodeTarget t → is_bound_well g t (case v as') y ≡ true → is_bound_well g t o y ≡ true
well_given g t v as' o y n h =
    let given : is_given g y ≡ true = and_left (is_given g y)
    (cond (is_node_target t && true) (not_delayed g y) true) h in
    (λ i. cond (has_block o) (given i) true && cond (no_node t n i && not (is_fetch o))
    (not_delayed g y) true) ∙ both (has_block o)
  where
    both : (b : Bool) → (cond b true true && true) ≡ true
    both true = refl
    both false = refl

-- ---- variables once

pub once_last : (scope : Scope) (xs bs : List ℕ) → Once scope (xs ++ bs) → Once scope bs
once_last scope xs bs once y = let o : times y scope.nodes + times y scope.words + times y
    (xs ++ bs) ≤ 1 = once y in let e : times y (xs ++ bs) ≡ times y xs + times y bs
    = times_append y xs bs in omega (arith, o, e)

pub once_target : (t : Target) (scope : Scope) (bs : List ℕ) → Once scope (target_vars t ++ bs)
    → Once (with_target t scope) bs
once_target t scope bs once y =
    let a : times y (with_target t scope).nodes + times y (with_target t scope).words ≡ times y
    (target_vars t) + (times y scope.nodes + times y scope.words) = target_adds t scope y in
    let e : times y (target_vars t ++ bs) ≡ times y (target_vars t) + times y bs
    = times_append y (target_vars t) bs in
    let o : times y scope.nodes + times y scope.words + times y (target_vars t ++ bs) ≤ 1 = once y
    in
    omega (arith, a, e, o)

-- ---- the two programs

module _ {F : Type 0} (R : WithFacts F) (word : F → Word → Word) (g : Program) (start : F)
    (K : PieceKind) (p : Places R word g start K) (P : State → Type 0) where
  abbrev procs : List Procedure
  procs = procs_by R word start g.procs

  abbrev pub plan : Plan
  plan = looking g P procs

  -- a piece at a place of which this is known
  pub record Good (f : F) (scope : Scope) (is_formed is_of_kind : Type 0) (xs : List ℕ)
      : Type 0 where
    pub place : p.Place f scope
    pub formed : is_formed
    pub kind : is_of_kind
    pub once : Once scope xs

  module _ (H : F → Relation) (s : Setting) where
    -- each alternative does what becomes of it, where what its pattern tells is known
    pub data ArmsGo (f : F) (v : Val) : Arms → Arms → Type 0 where
      none_goes : ArmsGo f v no_arm no_arm
      more_go : (s' : Shape) (b b' : Code) (as' bs' : Arms) → K.pattern (shape_vars s')
          → CodeFollows s (H (R.inside f v s')) Same b b' → ArmsGo f v as' bs'
          → ArmsGo f v (arm s' b as') (arm s' b' bs')

  -- what is known of the variables of both programs
  pub record Holding : Type 1 where
    pub Holds : F → Relation
    pub has : (f : F) (c : List HeapCell) (env env' : Env) → Holds f c env env' → Has Any env env'
    pub begins : (c : List HeapCell) (env : Env) → Holds start c env env
    -- words stand for what the words did
    pub words : (f : F) (s : State) (env' : Env) → P s → Holds f s.heap s.env env'
        → (a : Word) (d : Datum) → word_of g s.env a ≡ Some d → word_of g env' (word f a) ≡ Some d
    -- new variables are bound alike, by cells and by a statement
    pub stored : (f : F) (scope : Scope) (bs : List Binding) (c c' : List HeapCell) (env env' : Env)
        → p.Place f scope → Once scope (keys bs) → Holds f c env env'
        → Holds f c' (with_vars bs env) (with_vars bs env')
    pub bound : (f : F) (scope : Scope) (t : Target) (o : Act) (v : Value) (bs : List Binding)
        (c c' : List HeapCell) (env env' : Env) → p.Place f scope → Once scope (target_vars t)
        → K.target t → ActFormed g scope o → Gave g env' o v → bindings_of g t v ≡ Some bs
        → Holds f c env env' → Holds (R.after f t o) c' (with_vars bs env) (with_vars bs env')
    pub inlined : (o : Act) → K.operation o → Inlined o
    pub no_nodes : (t : Target) → K.target t → NoNodeTarget t
    -- cases
    pub cases : (c c' : Calls) (cb : CallsBack P c) (cf : CallsFollow plan c c') (f : F)
        (scope : Scope) (v : Val) (as' bs' : Arms) → p.Place f scope
        → ((x : Here plan (Holds f)) (y : Value) → value_of g x.env v ≡ Some y
        → value_of g x.env' (R.value_becomes f v) ≡ Some y)
        → ArmsGo Holds (side_by_side plan c c' cb cf) f (R.value_becomes f v) as' bs'
        → ActFollows (side_by_side plan c c' cb cf) (Holds f) Same (case v as')
        (R.case_becomes f (R.value_becomes f v) bs')

  module _ (by : ByWords R word) (a : Holding) (c c' : Calls) (cb : CallsBack P c)
      (cf : CallsFollow plan c c') where
    abbrev st : Setting
    st = side_by_side plan c c' cb cf

    abbrev H : F → Relation
    H = a.Holds

    -- ---- operations without blocks

    module _ (f : F) where
      abbrev kw : Word → Word
      kw = word f

      abbrev kv : Val → Val
      kv = val_by (word f)

      abbrev at : Here plan (H f) → State
      at x = record { env = x.env; heap = x.w.cells }

      has_it : (x : Here plan (H f)) → Has Any x.env x.env'
      has_it x = a.has f x.w.cells x.env x.env' x.related

      word_goes : (u : Word) (x : Here plan (H f)) (d : Datum) → word_of g x.env u ≡ Some d
          → word_of g x.env' (kw u) ≡ Some d
      word_goes u x d e = a.words f (at x) x.env' x.known x.related u d e

      value_goes : (v : Val) (x : Here plan (H f)) (y : Value) → value_of g x.env v ≡ Some y
          → value_of g x.env' (kv v) ≡ Some y
      value_goes v x y e = value_too g kw x.env x.env' (has_it x) (λ u d. word_goes u x d) v y e

      abbrev cell_goes : (x : Here plan (H f)) (u : Word) (i : ℕ) (y : HeapCell)
          → and_then (word_of g x.env u) place_of ≡ Some i → slice_get x.w.cells i ≡ Some y
          → CellToo st (kw u) x.env' x.b.cells
      cell_goes x u i y e q = record {
        i' = i;
        y' = y;
        place = then_has (word_of g x.env u) (word_of g x.env' (kw u)) place_of place_of i
            (word_goes u x) (λ d h. h) e;
        there = ap (λ cells. slice_get cells i) (same_is x.b.heaps) ∙ q;
      }

      unit_goes : (v : Val) → ActFollows st (H f) Same (leaf (unit v)) (leaf (unit (kv v)))
      unit_goes v = unit_follows st v (kv v) (λ x y e seen. (
        λ l. fills_too g kw x.env x.env' (has_it x) (λ u d. word_goes u x d) v y e ∙ seen l,
        y,
        value_goes v x y e,
        same,
      ))

      update_goes : (u : Word) (v : Val) → ActFollows st (H f) Same (leaf (update u v))
          (leaf (update (kw u) (kv v)))
      update_goes u v = update_follows st u (kw u) v (kv v) same (λ x i y e q. (
        cell_goes x u i y e q,
        λ m made seen. record {
          n' = m;
          made = node_too g kw x.env x.env' (has_it x) (λ u d. word_goes u x d) v m made;
          seen = λ l. node_fills g kw x.env x.env' (has_it x) (λ u d. word_goes u x d) v m made ∙
              seen l;
          heaps = is_same _ _
              (ap (λ cells. slice_set cells i (record { site = y.site; node = m }))
              (same_is x.b.heaps));
        },
      ))

      leaf_goes : (l : Leaf) → EachAct K (leaf l) → ActFollows st (H f) Same (leaf l)
          (leaf (leaf_by kw l))
      unfolding EachAct
      leaf_goes (unit v) k = unit_goes v
      leaf_goes (update u v) k = update_goes u v
      leaf_goes (fetch u) k = fetch_follows st u (kw u) (λ x i y e q. (cell_goes x u i y e q, same))
      leaf_goes (fetch_word u n) k = fetch_word_follows st u (kw u) n n
          (λ x i y e q. (cell_goes x u i y e q, same))
      leaf_goes (eval u) k = absurd (a.inlined (leaf (eval u)) k)
      leaf_goes (apply v u) k = absurd (a.inlined (leaf (apply v u)) k.0)
      leaf_goes (call q ws) k = call_follows st q ws (words_by kw ws)
          (λ x xs e.
          (xs, words_too g kw x.env x.env' (has_it x) (λ u d. word_goes u x d) ws xs e, same))
      leaf_goes (prim q u v) k = prim_follows st q u v (kw u) (kw v) (word_goes u) (word_goes v)
          (λ k. same)
      leaf_goes read k = read_follows st (λ k. same)
      leaf_goes (write u) k = write_follows st u (kw u) (word_goes u) same
      leaf_goes fail k = fail_follows st

      leaf_bound : (l : Leaf) (t : Target) (y : Value) → is_bound_well g t (leaf l) y ≡ true
          → is_bound_well g t (leaf (leaf_by kw l)) y ≡ true
      leaf_bound (fetch u) t y e = e
      leaf_bound _ t y e = e

    -- ---- statements

    stores_too : (f : F) (scope : Scope) (cs : List Cell) → p.Place f scope
        → Once scope (cell_vars cs) → (x : Here plan (H f)) (y : Stored st (H f) cs x)
        → StoresToo st (H f) (H f) cs (cells_by (word f) cs) x y.hs
    stores_too f scope cs place once x y =
        let cs' : List Cell = cells_by (word f) cs in
        let bs : List Binding = places (length x.w.cells) cs in
        let hold : H f (x.w.cells ++ y.hs) (with_vars bs x.env) (with_vars bs x.env')
        = a.stored f scope bs x.w.cells (x.w.cells ++ y.hs) x.env x.env' place
        (subst (Once scope) (sym (places_keys cs (length x.w.cells))) once) x.related in
        let there : State = record { env = with_vars bs x.env; heap = x.w.cells ++ y.hs } in
        let all : Has Any (with_vars bs x.env) (with_vars bs x.env')
        = a.has f (x.w.cells ++ y.hs) (with_vars bs x.env) (with_vars bs x.env') hold in
        let bound : bs ≡ places (length x.b.cells) cs'
        = ap (λ k. places k cs) (ap length (sym (same_is x.b.heaps))) ∙ sym
        (places_stay (word f) (length x.b.cells) cs) in
        record {
          hs' = y.hs;
          cells = subst (λ l. cells_of g (with_vars l x.env') cs' ≡ Some y.hs) bound
              (cells_too g (word f) there.env (with_vars bs x.env') all
              (a.words f there (with_vars bs x.env') y.next hold) cs y.hs y.cells);
          seen = λ l. subst (λ l. all_fill g (with_vars l x.env') cs' ≡ true) bound
              (all_fill_too g (word f) there.env (with_vars bs x.env') all
              (a.words f there (with_vars bs x.env') y.next hold) cs y.hs y.cells ∙ y.seen l);
          heaps = is_same (x.w.cells ++ y.hs) (x.b.cells ++ y.hs)
              (ap (λ c. c ++ y.hs) (same_is x.b.heaps));
          related = subst (λ l. H f (x.w.cells ++ y.hs) (with_vars bs x.env) (with_vars l x.env'))
              bound hold;
        }

    -- what becomes of an operation is bound as well, and follows it
    record Goes (f : F) (o o' : Act) : Type 0 where
      bound_well : (t : Target) (y : Value) → K.target t → is_bound_well g t o y ≡ true
          → is_bound_well g t o' y ≡ true
      follows : ActFollows st (H f) Same o o'

    binds_too : (f : F) (scope : Scope) (t : Target) (o o' : Act) → p.Place f scope
        → Once scope (target_vars t) → K.target t → ActFormed g scope o' → Goes f o o'
        → (x : Here plan (H f)) {v v' : Value} (cells : List HeapCell) (bs : List Binding)
        → Same v v' → Gave g x.env' o' v' → is_bound_well g t o v ≡ true
        → bindings_of g t v ≡ Some bs → BindsToo st (H (R.after f t o')) t o' x.env x.env' cells
        v' bs
    binds_too f scope t o o' place once kind formed goes x cells bs (same {a = v}) given seen binds
        = record {
          seen = λ _. goes.bound_well t v kind seen;
          bs' = bs;
          binds = binds;
          related = a.bound f scope t o' v bs x.w.cells cells x.env x.env' place once kind formed given
              binds x.related;
        }

    -- ---- all pieces

    go_relating : Relating R
    unfolding ActFormed EachAct act_vars
    go_relating = record {
      act = λ f scope o o'. Good f scope (ActFormed g scope o) (EachAct K o) (act_vars o)
          → Goes f o o';
      code = λ f scope b b'. Good f scope (CodeFormed g scope b) (EachCode K b) (code_vars b)
          → CodeFollows st (H f) Same b b';
      arms = λ f scope v as' bs'. Good f scope (ValFormed g scope v × ArmsFormed g scope as')
          (EachArms K as') (arms_vars as') → ArmsGo H st f v as' bs';
      leafs = λ f scope l q. subst (Goes f (leaf l)) (sym (by.leafs f l))
          (record { bound_well = λ t y k e. leaf_bound f l t y e; follows = leaf_goes f l q.kind });
      cases = λ f scope v as' bs' go q. record {
        bound_well = λ t y k e. well_given g t v as' (R.case_becomes f (R.value_becomes f v) bs') y
            (a.no_nodes t k) e;
        follows = a.cases c c' cb cf f scope v as' bs' q.place
            (λ x y e. subst (λ u. value_of g x.env' u ≡ Some y) (sym (by.values f v))
            (value_goes f v x y e))
            (go (record {
              place = q.place;
              formed =
                  (new_val_formed R word g start K by p f scope q.place v q.formed.0, q.formed.1);
              kind = q.kind.2;
              once = q.once;
            }));
      };
      blocks = λ f scope b b' go q. record {
        bound_well = λ t y k e. e;
        follows = nested_follows st b b'
            (go (record { place = q.place; formed = q.formed; kind = q.kind.1; once = q.once }));
      };
      ends = λ f scope o o' go q. end_follows st o o'
          (go (record
          { place = q.place; formed = q.formed; kind = q.kind; once = q.once })).follows;
      stores = λ f scope cs b b' go q. subst
          (λ cs'. CodeFollows st (H f) Same (store cs b) (store cs' b')) (sym (by.cells f cs))
          (store_follows st {R = H f} {R' = H f} cs (cells_by (word f) cs) b b'
          (go (record {
            place = p.stores f scope (cell_vars cs) q.place;
            formed = q.formed.1;
            kind
                = q.kind.1;
            once = once_words scope (cell_vars cs) (code_vars b) q.once;
          }))
          (stores_too f scope cs q.place (once_left scope (cell_vars cs) (code_vars b) q.once)));
      binds = λ f scope t o b b' go later q.
          let o' : Act = walk_act R f o in
          let formed : ActFormed g scope o' = act_formed R word g start K by p o f scope q.place
          q.kind.1 q.formed.0 in
          let goes : Goes f o o' = go
          (record {
            place = q.place;
            formed = q.formed.0;
            kind = q.kind.1;
            once
                = once_left scope (act_vars o) (code_vars b)
                (once_last scope (target_vars t) (act_vars o ++ code_vars b) q.once);
          }) in
          bind_gave st {R = H f} {R' = H (R.after f t o')} t o o' b b' goes.follows
          (later (record {
            place = p.after f scope t o' formed q.place;
            formed = q.formed.1;
            kind = q.kind.2;
            once = once_last (with_target t scope) (act_vars o) (code_vars b)
                (once_target t scope (act_vars o ++ code_vars b) q.once);
          }))
          (λ x v v' cells bs e given seen binds. binds_too f scope t o o' q.place
          (once_left scope (target_vars t) (act_vars o ++ code_vars b) q.once) q.kind.0 formed
          goes x cells bs e given (seen refl) binds);
      none_left = λ f scope v q. none_goes;
      more = λ f scope v s b b' as' bs' go later q. more_go s b b' as' bs' q.kind.0
          (go (record {
            place = p.stores (R.inside f v s) scope (shape_vars s)
                (p.inside f scope v s q.formed.0 q.formed.1.0 q.place);
            formed = q.formed.1.1;
            kind = q.kind.1;
            once = once_left (with_word_variables (shape_vars s) scope) (code_vars b)
                (arms_vars as')
                (once_words scope (shape_vars s) (code_vars b ++ arms_vars as') q.once);
          }))
          (later (record {
            place = q.place;
            formed = (q.formed.0, q.formed.1.2);
            kind = q.kind.2;
            once
                = once_last scope (code_vars b) (arms_vars as')
                (once_last scope (shape_vars s) (code_vars b ++ arms_vars as') q.once);
          }));
    }

    -- ---- procedures

    enters_too : (q : Procedure) (cells : List HeapCell) (bs : List Binding) {xs xs' : List Datum}
        → Same xs xs' → one_each q.params xs ≡ Some bs → (bs' : List Binding)
        × (one_each q.params xs' ≡ Some bs') × H start cells (with_vars bs nothing)
        (with_vars bs' nothing)
    enters_too q cells bs same e = (bs, e, a.begins cells (with_vars bs nothing))

    given_too : {v v' : Value} → Same v v' → Seen true (is_given g v) → Seen true (is_given g v')
        × Same v v'
    given_too same seen = (seen, same)

    body_goes : (q : Procedure) → ProcedureFormed g q → EachCode K q.body
        → Once (params_scope q) (code_vars q.body) → CodeFollows st (H start) Same q.body
        (walk_code R start q.body)
    unfolding go_relating
    body_goes q formed kind once = code_walked R go_relating q.body start (params_scope q)
        (record { place = p.begins (params_scope q); formed = formed; kind = kind; once = once })

    pub bodies_go : (i : ℕ) (qs : List Procedure) → AllOf (ProcedureFormed g) qs
        → EveryBodyIsOfKind K qs → ((y : ℕ) → times y (procs_vars qs) ≤ 1)
        → BodiesFollow st i qs (procs_by R word start qs)
    bodies_go i [] formed kind once = no_more
    bodies_go i (q ∷ qs) formed kind once = one_more {f = i} {q = q} {r = change R word start q}
        (record {
          R = H start;
          V = Same;
          enters = λ cells xs xs' bs a e known. enters_too q cells bs a e;
          body = body_goes q formed.0 kind.0 (λ y. first y (once y));
          given = λ v v' u seen. given_too u seen;
        }) (bodies_go (suc i) qs formed.1 kind.1 (λ y. later y (once y)))
      where
        first : (y : ℕ) → times y ((numbers_of q.params ++ code_vars q.body) ++ procs_vars qs) ≤ 1
            → 0 + times y (numbers_of q.params) + times y (code_vars q.body) ≤ 1
        first y o =
            let e : times y ((numbers_of q.params ++ code_vars q.body) ++ procs_vars qs) ≡ times y
            (numbers_of q.params ++ code_vars q.body) + times y (procs_vars qs)
            = times_append y (numbers_of q.params ++ code_vars q.body) (procs_vars qs) in
            let k : times y (numbers_of q.params ++ code_vars q.body) ≡ times y
            (numbers_of q.params) + times y (code_vars q.body)
            = times_append y (numbers_of q.params) (code_vars q.body) in
            omega (arith, o, e, k)

        later : (y : ℕ) → times y ((numbers_of q.params ++ code_vars q.body) ++ procs_vars qs) ≤ 1
            → times y (procs_vars qs) ≤ 1
        later y o = let e : times y ((numbers_of q.params ++ code_vars q.body) ++ procs_vars qs) ≡
            times y (numbers_of q.params ++ code_vars q.body) + times y (procs_vars qs)
            = times_append y (numbers_of q.params ++ code_vars q.body) (procs_vars qs)
            in omega (arith, o, e)

  module _ (by : ByWords R word) (a : Holding) (formed : Formed g)
      (kind : EveryBodyIsOfKind K g.procs) (never : CheckedRunsNeverMissing g)
      (passed : (i : List ℕ) (n : ℕ) → HoldsInEveryState P (world_of (checked_run g i n)).seen)
    where
      goes_likewise : (i : List ℕ) (n : ℕ) → Likewise no_deeper Same (checked_run g i n)
          (checked_run (rewritten (walk_code R start) g) i n)
      goes_likewise i n = run_follows plan
          (λ c c' cb cf. bodies_go by a c c' cb cf 0 g.procs formed.procedures kind
          formed.variables_once) i n same same (passed i n)

      pub walked_kept : CheckedRunsNeverMissing (rewritten (walk_code R start) g)
          × Keeps g (rewritten (walk_code R start) g)
      walked_kept = looking_kept g (rewritten (walk_code R start) g) never
          (λ i n. likewise_kept no_deeper Same (checked_run g i n)
          (checked_run (rewritten (walk_code R start) g) i n) (goes_likewise i n))
