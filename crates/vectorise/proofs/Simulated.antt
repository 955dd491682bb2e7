-- A vectorised program does what the program does, with no deeper nesting.
--
-- A node is related to a vector of its tag, its fields and zeros. A scope in the new program has a
-- run of variables for each node variable of the old one, and the words of a pattern are words of
-- the vector that was looked at.
use Rattle.std.proofs.Common.{◌≡◌, ℕ, zero, suc, ◌+◌, ◌<◌, ◌≤◌, Bool, true, false, cond, not, ◌&&◌, List, [], ◌∷◌, ◌++◌, map, length, Option, Some, None, slice_get, slice_set, refl, sym, ap, ◌∙◌, subst, arith}
use Rattle.std.proofs.lemmas.List.{length-map}
use Rattle.seq.proofs.Lists.{all_get}
use Rattle.seq.proofs.Truth.{and_from, and_left, and_right}
use Rattle.grin_syntax.specs.declared.program.Tag.{Tag}
use Rattle.grin_syntax.specs.declared.program.TagKind.{TagKind}
use Rattle.grin_syntax.specs.declared.program.TagKind.TheVariants as kind
use Rattle.grin_syntax.specs.declared.program.Cell.{Cell}
use Rattle.grin_syntax.specs.declared.program.Target.{Target}
use Rattle.grin_syntax.specs.declared.program.Target.TheVariants as to
use Rattle.grin_syntax.specs.declared.program.Word as W
use Rattle.grin_syntax.specs.Tree.{Code, end, store, bind, Act, leaf, unit, fetch, fetch_word, update, eval, apply, call, prim, read, write, case, nested, fail, Arms, no_arm, arm, Procedure, Program}
use Rattle.grin_syntax.specs.Binders.{numbers_of, target_vars, shape_vars, cell_vars, act_vars, code_vars, arms_vars, procs_vars}
use Rattle.grin_syntax.specs.Formed.{AllOf, Scope, InScope, with_word_variables, with_target, params_scope, WordFormed, CellFormed, ActFormed, CodeFormed, ArmsFormed, ProcedureFormed, Formed}
use Rattle.grin_syntax.specs.Fresh.{past_vars, past_target, past_cells, past_act, past_code, past_arms, past_procs}
use Rattle.grin_meaning.specs.Values.{Datum, Node, Value, node, words, Env, HeapCell, and_then, Binding, with_vars, one_each, as_node, word_of, value_of, bindings_of}
use Rattle.grin_meaning.specs.Run.{Calls, places, cells_of, place_of, is_fun_kind, is_some_and}
use Rattle.grin_meaning.specs.Checks.{has_block, is_fetch, is_node_target, is_delayed, not_delayed, is_given, fills, all_fill, is_bound_well}
use Rattle.grin_meaning.specs.Ready.{value_fields, most_value_fields, EachAct, EachCode, EachArms, EveryBodyIsOfKind, inlined_kind}
use Rattle.grin_meaning.specs.Rewritten.{rewritten_procedure}
use Rattle.grin_meaning.specs.Keeps.{Keeps}
use Rattle.grin_meaning.specs.Looking.{checked_run, CheckedRunsNeverMissing}
use Rattle.grin_meaning.specs.Follows.{Same, same}
use Rattle.grin_meaning.specs.Full.{FullNode, FullCell, FullState}
use Rattle.grin_meaning.proofs.Back.{CallsBack}
use Rattle.grin_meaning.proofs.Fullness.{nodes_full}
use Rattle.grin_meaning.proofs.Beside.{no_deeper, Beside, Likewise}
use Rattle.grin_meaning.proofs.Rules.{Relation, Plan, Here, Setting, CallsFollow, ActFollows, CodeFollows, ArmsFollow, act_more, Given, BindsToo, Stored, StoresToo, CellToo, unit_follows, fetch_follows, update_follows, call_follows, prim_follows, read_follows, write_follows, fail_follows, nested_follows, end_follows, store_follows, bind_follows, case_follows, no_arm_follows, arm_follows}
use Rattle.grin_meaning.proofs.Procedures.{BodyFollows, BodiesFollow, no_more, one_more, side_by_side, run_follows}
use Rattle.grin_meaning.proofs.KeptBy.{likewise_kept, looking_kept}
use Rattle.vectorise.specs.Known.{Layout, layout_of, Table, table_of, room, as_word, as_words, field_words}
use Rattle.vectorise.specs.Vectors.{wide_val, returned_val, wide_target, without_binders, wide_cells, wide_act, wide_code, wide_arms, vectorised}
use Rattle.vectorise.specs.Whole.{NoVector, NoVectorTarget, UsesWholeNodes, whole_node_kind}
use Rattle.vectorise.proofs.Noted.{in_left, IsPlain, TargetKnown, ActKnown, CodeKnown, ArmsKnown, ProcedureKnown, all_known, once_target, once_two, once_third}
use Rattle.vectorise.proofs.Scoped.{WordIn, params_carry, all_counts, most_value_most, target_carries, target_below, cells_carry, cells_below, fields_carry, fields_below, fields_formed}
use Rattle.vectorise.proofs.Standing.{Stand, Held, reorder, places_stand, params_stand}
use Rattle.vectorise.proofs.Vals.{vector_of, Stands, some_and}
use Rattle.vectorise.proofs.Steps.{Gives, gives_nothing, gives_number, gives_node, gives_vector, given_too, Goes, goes_nothing, goes_number, goes_node, goes_vector, word_goes, words_go, unit_goes, Wide, wide_goes, Made, node_goes, cells_go, target_goes, bare_fits, bare_not, pattern_goes}
use Rattle.grin_meaning.proofs.Plain.{same_is}
use Rattle.seq.specs.Lists.{times}
use Rattle.grin_meaning.proofs.Scopes.{Once, once_left, once_words}
use Rattle.grin_meaning.proofs.Fields.{fields_fit}
use Rattle.seq.proofs.Counted.{times_append}
use Rattle.grin_meaning.proofs.Following.{is_same}
use Rattle.grin_meaning.proofs.Paired.{nothing}

-- ---- cells and heaps

-- ---- how many fields

value_fit : (ts : List Tag) (t k : ℕ) → and_then (slice_get ts t) (λ i. Some i.fields) ≡ Some k
    → is_some_and (slice_get ts t) (λ i. is_fun_kind i.kind) ≡ false → k ≤ most_value_fields ts
value_fit [] t k e d = cc
value_fit (x ∷ ts) zero k e d = let h : x.fields ≡ k = cc in let v
    : value_fields x.kind x.fields ≡ x.fields = whole x.kind d in omega (arith, h, v)
  where
    whole : (q : TagKind) → is_fun_kind q ≡ false → value_fields q x.fields ≡ x.fields
    whole kind.Con d = refl
    whole kind.Part d = refl
    whole kind.Fun d = cc
value_fit (x ∷ ts) (suc t) k e d = let h : k ≤ most_value_fields ts = value_fit ts t k e d
    in omega (arith, h)

-- ---- where a variable stands once

once_middle : (scope : Scope) (xs os bs : List ℕ) → Once scope (xs ++ (os ++ bs)) → Once scope os
once_middle scope xs os bs once y =
    let o : times y scope.nodes + times y scope.words + times y (xs ++ (os ++ bs)) ≤ 1 = once y in
    let e : times y (xs ++ (os ++ bs)) ≡ times y xs + times y (os ++ bs)
    = times_append y xs (os ++ bs) in
    let f : times y (os ++ bs) ≡ times y os + times y bs = times_append y os bs in
    omega (arith, o, e, f)

target_new : (scope : Scope) (xs ys : List ℕ) → Once scope (xs ++ ys) → (y : ℕ) → InScope xs y
    → times y scope.nodes + times y scope.words ≡ 0
target_new scope xs ys once y i = let o : times y scope.nodes + times y scope.words + times y
    (xs ++ ys) ≤ 1 = once y in let e : times y (xs ++ ys) ≡ times y xs + times y ys
    = times_append y xs ys in omega (arith, o, e, i)

module _ (g : Program) (formed : Formed g) (never : CheckedRunsNeverMissing g)
    (inlined : EveryBodyIsOfKind inlined_kind g.procs) (whole : UsesWholeNodes g) where
  abbrev l : Layout
  l = layout_of g

  abbrev K : Table
  K = table_of g

  abbrev procs : List Procedure
  procs = map (rewritten_procedure (wide_code l K)) g.procs

  same_count : length procs ≡ length g.procs
  same_count = length-map g.procs (rewritten_procedure (wide_code l K))

  few : l.most_value ≤ l.most
  few = most_value_most g.tags

  -- the tag of a number stands for values of one field
  some_value : 0 < l.most_value
  some_value =
      let n = formed.number_tag in
      let e : 1 ≤ most_value_fields g.tags = value_fit g.tags 0 1
      (ap (λ o. and_then o (λ i. Some i.fields)) n.1 ∙ ap Some n.4)
      (ap (λ o. is_some_and o (λ i. is_fun_kind i.kind)) n.1 ∙ ap is_fun_kind n.2) in
      omega (arith, e)

  node_fits : (n : Node) → FullNode g n → length n.fields ≤ l.most
  node_fits n f = fields_fit g.tags n.tag (length n.fields) f

  value_fits : (n : Node) → FullNode g n → not_delayed g (node n) ≡ true
      → length n.fields ≤ l.most_value
  value_fits n f d = value_fit g.tags n.tag (length n.fields) f (not_true (is_delayed g n.tag) d)
    where
      not_true : (b : Bool) → not b ≡ true → b ≡ false
      not_true false h = refl
      not_true true h = cc

  abbrev plan : Plan
  plan = record {
    looks = true;
    K = no_deeper;
    P = FullState g;
    Args = λ f. Same;
    Result
        = λ f. Gives g l.most_value;
    g = g;
    procs = procs;
  }

  abbrev St : Scope → Relation
  St scope = λ c. Stand l K g procs same_count scope

  abbrev Holds : Scope → List ℕ → Type 0
  Holds = Held l K g procs same_count

  -- ---- the side conditions

  is_node_gone : (f : Bool) (t : Target) → is_node_target (wide_target l f t) ≡ false
  is_node_gone f to.Nothing = refl
  is_node_gone f (to.Node x) = refl
  is_node_gone f (to.One x) = refl
  is_node_gone f (to.Vector xs) = refl

  block_stays : (o : Act) → has_block (wide_act l K o) ≡ has_block o
  unfolding wide_act
  block_stays (case v as') = refl
  block_stays (nested b) = refl
  block_stays (leaf l) = refl

  bound_too : (t : Target) (o : Act) {v v' : Value} → Gives g l.most_value v v'
      → is_bound_well g t o v ≡ true → is_bound_well g (wide_target l (is_fetch o) t)
      (wide_act l K o) v' ≡ true
  bound_too t o {v} {v'} u h = and_from (cond (has_block (wide_act l K o)) (is_given g v') true)
      (cond (is_node_target (wide_target l (is_fetch o) t) && not (is_fetch (wide_act l K o)))
      (not_delayed g v') true)
      (ap (λ b. cond b (is_given g v') true) (block_stays o) ∙ of_block (has_block o)
      (and_left (cond (has_block o) (is_given g v) true)
      (cond (is_node_target t && not (is_fetch o)) (not_delayed g v) true) h))
      (ap (λ b. cond (b && not (is_fetch (wide_act l K o))) (not_delayed g v') true)
      (is_node_gone (is_fetch o) t))
    where
      of_block : (b : Bool) → cond b (is_given g v) true ≡ true → cond b (is_given g v') true ≡ true
      of_block true h = given_too g l.most_value some_value u h
      of_block false h = refl

  -- what an operation gives; a fetch gives the node itself
  abbrev Given' : Act → Value → Value → Type 0
  Given' o v v' = Gives g l.most_value v v' × (is_fetch o ≡ true → v' ≡ v)

  not_same : {A : Type 0} {n : Node} {ds : List Datum} → words ds ≡ node n → A
  not_same h = cc

  -- the value of a bound operation goes to its target
  goes_to : (t : Target) (o : Act) {v v' : Value} (bs : List Binding) → NoVectorTarget t
      → Gives g l.most_value v v' → (is_fetch o ≡ true → v' ≡ v) → is_bound_well g t o v ≡ true
      → bindings_of g t v ≡ Some bs → Goes l K g procs same_count (is_fetch o) v v'
  goes_to t o {v} {v'} bs wt u there w e = go (is_fetch o) refl u refl there
    where
      well : is_fetch o ≡ false → (t : Target) → NoVectorTarget t → is_bound_well g t o v ≡ true
          → (n : Node) → v ≡ node n → bindings_of g t v ≡ Some bs → not_delayed g v ≡ true
      well q (to.Node x) wt w n r e = ap (λ b. cond (true && not b) (not_delayed g v) true) (sym q)
          ∙ and_right (cond (has_block o) (is_given g v) true)
          (cond (true && not (is_fetch o)) (not_delayed g v) true) w
      well q to.Nothing wt w n r e = nothing_node (sym (ap (bindings_of g to.Nothing) r) ∙ e)
        where
          nothing_node : {A : Type 0} → ◌≡◌ {A = Option (List Binding)} None (Some bs) → A
          nothing_node h = cc
      well q (to.One x) wt w n r e = one_node (sym (ap (bindings_of g (to.One x)) r) ∙ e)
        where
          one_node : {A : Type 0} → ◌≡◌ {A = Option (List Binding)} None (Some bs) → A
          one_node h = cc
      well q (to.Vector xs) wt w n r e = absurd wt

      go : (b : Bool) → is_fetch o ≡ b → {v0 v1 : Value} → Gives g l.most_value v0 v1 → v ≡ v0
          → (is_fetch o ≡ true → v1 ≡ v0) → Goes l K g procs same_count (is_fetch o) v0 v1
      go b q gives_nothing r there = goes_nothing
      go b q (gives_number i) r there = goes_number i
      go true q (gives_node {n} f) r there = goes_node
          (subst (λ b. length n.fields ≤ room l b) (sym q) (node_fits n f))
      go false q (gives_node {n} f) r there = goes_node
          (subst (λ b. length n.fields ≤ room l b) (sym q)
          (value_fits n f (sym (ap (not_delayed g) r) ∙ well q t wt w n r e)))
      go true q (gives_vector {n} f) r there = not_same (there q)
      go false q (gives_vector {n} f) r there =
          let le : length n.fields ≤ l.most_value = value_fits n f
          (sym (ap (not_delayed g) r) ∙ well q t wt w n r e) in
          subst (λ b. Goes l K g procs same_count b (node n) (words (vector_of l.most_value n)))
          (sym q) (goes_vector le)

  module _ (c c' : Calls) (cb : CallsBack (FullState g) c) (cf : CallsFollow plan c c') where
    abbrev it : Setting
    it = side_by_side plan c c' cb cf

    abbrev Results : Value → Value → Type 0
    Results = Gives g l.most_value

    -- over the value of a case: the same node, whose fields these words stand for
    abbrev On : Scope → List W.Word → Value → Value → Relation
    On scope ws y y' c env env' = Stand l K g procs same_count scope env env'
        × (as_node g y' ≡ as_node g y) ×
        ((n : Node) → as_node g y ≡ Some n → Stands g env' ws n.fields)

    same_cells : {w : _} (b : Beside no_deeper w) → b.cells ≡ w.cells
    same_cells b = same_is b.heaps

    -- the cell of a word
    abbrev cell_too : (scope : Scope) (x : Here plan (St scope)) (a : W.Word) → WordFormed g scope a
        → (i : ℕ) (y : HeapCell) → and_then (word_of g x.env a) place_of ≡ Some i
        → slice_get x.w.cells i ≡ Some y → CellToo it (as_word K a) x.env' x.b.cells
    cell_too scope x a f i y e q = record {
      i' = i;
      y' = y;
      place = (let z : (d : Datum) × (word_of g x.env a ≡ Some d) × (place_of d ≡ Some i)
          = some_and g (word_of g x.env a) place_of i e in
          ap (λ o. and_then o place_of)
          (word_goes l K g procs same_count scope x.env x.env' x.related a f z.0 z.1) ∙ z.2);
      there = ap (λ c. slice_get c i) (same_cells x.b) ∙ q;
    }

    record GoodAct (scope : Scope) (scope' : List ℕ) (o : Act) : Type 0 where
      held : Holds scope scope'
      formed_act : ActFormed g scope o
      inlined_act : EachAct inlined_kind o
      whole_act : EachAct whole_node_kind o
      known_act : ActKnown l K o
      once_act : Once scope (act_vars o)
      past : past_act o ≤ l.base

    record GoodCode (scope : Scope) (scope' : List ℕ) (b : Code) : Type 0 where
      held : Holds scope scope'
      formed_code : CodeFormed g scope b
      inlined_code : EachCode inlined_kind b
      whole_code : EachCode whole_node_kind b
      known_code : CodeKnown l K b
      once_code : Once scope (code_vars b)
      past : past_code b ≤ l.base

    record GoodArms (scope : Scope) (scope' : List ℕ) (ws : List W.Word) (as' : Arms) : Type 0 where
      held : Holds scope scope'
      formed_words : AllOf (WordIn l K g procs same_count scope') ws
      formed_arms : ArmsFormed g scope as'
      inlined_arms : EachArms inlined_kind as'
      whole_arms : EachArms whole_node_kind as'
      known_arms : ArmsKnown l K ws as'
      once_arms : Once scope (arms_vars as')
      past : past_arms as' ≤ l.base

    not_fetched : {A : Type 0} → false ≡ true → A
    not_fetched h = cc

    stores_too : (scope : Scope) (scope' : List ℕ) (cs : List Cell) → Holds scope scope'
        → AllOf (CellFormed g (with_word_variables (cell_vars cs) scope)) cs
        → AllOf (λ c. NoVector c.val) cs → AllOf (λ c. IsPlain l K c.var.0) cs
        → Once scope (cell_vars cs) → past_cells cs ≤ l.base
        → (x : Here plan (St scope)) (y : Stored it (St scope) cs x)
        → StoresToo it (St scope) (St (with_word_variables (cell_vars cs) scope)) cs
        (wide_cells l K cs) x y.hs
    stores_too scope scope' cs held f w k once past x y =
        let many : length x.w.cells ≡ length x.b.cells = ap length (sym (same_cells x.b)) in
        let scope1 : Scope = with_word_variables (cell_vars cs) scope in
        let env1 : Env = with_vars (places (length x.w.cells) cs) x.env in
        let env1' : Env = with_vars (places (length x.b.cells) (wide_cells l K cs)) x.env' in
        let st1 : Stand l K g procs same_count scope1 env1 env1'
        = subst (λ a. Stand l K g procs same_count scope1 env1
        (with_vars (places a (wide_cells l K cs)) x.env')) many
        (places_stand l K g procs same_count cs (length x.w.cells) scope scope' x.env x.env'
        past k once held x.related) in
        let r : (cells_of g env1' (wide_cells l K cs) ≡ Some y.hs)
        × (all_fill g env1' (wide_cells l K cs) ≡ true)
        = cells_go l K g procs same_count scope1 env1 env1' st1 y.next.variables cs f w y.hs
        y.cells in
        record {
          hs' = y.hs;
          cells = r.0;
          seen = λ _. r.1;
          heaps = is_same (x.w.cells ++ y.hs) (x.b.cells ++ y.hs)
              (ap (λ c. c ++ y.hs) (same_cells x.b));
          related = st1;
        }

    binds_too : (scope : Scope) (scope' : List ℕ) (t : Target) (o : Act) → Holds scope scope'
        → NoVectorTarget t → TargetKnown l K (is_fetch o) t → past_target t ≤ l.base
        → ((y : ℕ) → InScope (target_vars t) y → times y scope.nodes + times y scope.words ≡ 0)
        → (x : Here plan (St scope)) (y : Given it (St scope) (Given' o) t o x)
        → BindsToo it (St (with_target t scope)) (wide_target l (is_fetch o) t) (wide_act l K o)
        x.env x.env' y.w.cells y.v' y.bs
    binds_too scope scope' t o held w k past new x y =
        let u : Goes l K g procs same_count (is_fetch o) y.v y.v'
        = goes_to t o y.bs w y.values.0 y.values.1 (y.seen refl) y.binds in
        let z : (bs' : List Binding) ×
        (bindings_of g (wide_target l (is_fetch o) t) y.v' ≡ Some bs')
        × Stand l K g procs same_count (with_target t scope) (with_vars y.bs x.env)
        (with_vars bs' x.env')
        = target_goes l K g procs same_count few (is_fetch o) t scope scope' x.env x.env' y.bs w k
        past new held x.related u y.binds in
        record {
          seen = λ _. bound_too t o y.values.0 (y.seen refl);
          bs' = z.0;
          binds = z.1;
          related
              = z.2;
        }

    mutual
      unfolding wide_act ActFormed EachAct ActKnown act_vars past_act

      act_goes : (o : Act) (scope : Scope) (scope' : List ℕ) → GoodAct scope scope' o
          → ActFollows it (St scope) (Given' o) o (wide_act l K o)
      act_goes (case v as') scope scope' q = act_more it (case v as')
          (case (wide_val l K v) (wide_arms l K as')) (λ c e e' r. r) (λ a a' u. (u, not_fetched))
          (case_follows it {R = St scope} {U = On scope (field_words l K v)} v (wide_val l K v) as'
          (wide_arms l K as')
          (arms_goes (field_words l K v) as' scope scope' (record {
            held = q.held;
            formed_words = fields_formed l K g procs same_count few scope scope' q.held.carries v
                q.formed_act.0;
            formed_arms = q.formed_act.1;
            inlined_arms = q.inlined_act.2;
            whole_arms = q.whole_act.2;
            known_arms = q.known_act;
            once_arms = q.once_act;
            past = q.past;
          }))
          (λ x y e. let z : Wide l K g procs same_count scope x.env x.env' x.related
          x.known.variables v y = wide_goes l K g procs same_count scope x.env x.env' x.related
          x.known.variables v q.formed_act.0 q.whole_act.1 y e in
          (z.y', z.value, (x.related, z.node_same, λ n r. (z.fine n r).1))))
      act_goes (nested b) scope scope' q = act_more it (nested b) (nested (wide_code l K b))
          (λ c e e' r. r) (λ a a' u. (u, not_fetched)) (nested_follows it b (wide_code l K b)
          (code_goes b scope scope'
          (record {
            held = q.held;
            formed_code = q.formed_act;
            inlined_code
                = q.inlined_act.1;
            whole_code = q.whole_act.1;
            known_code = q.known_act;
            once_code
                = q.once_act;
            past = q.past;
          })))
      act_goes (leaf (unit v)) scope scope' q = unit_follows it v (returned_val l K v)
          (λ x y e seen.
          let u : (y' : Value) × (value_of g x.env' (returned_val l K v) ≡ Some y') × Results y y'
          × (fills g x.env' (returned_val l K v) ≡ true)
          = unit_goes l K g procs same_count scope x.env x.env' x.related x.known.variables few
          v q.formed_act q.whole_act.0 q.whole_act.1 y e in
          (λ _. u.3, u.0, u.1, (u.2, not_fetched)))
      act_goes (leaf (fetch a)) scope scope' q = fetch_follows it a (as_word K a) (λ x i y e r. (
        cell_too scope x a q.formed_act i y e r,
        (gives_node (all_get (FullCell g) x.w.cells i y x.known.cells r), λ _. refl),
      ))
      act_goes (leaf (fetch_word a i)) scope scope' q = absurd q.whole_act
      act_goes (leaf (update a v)) scope scope' q = update_follows it a (as_word K a) v
          (wide_val l K v) (gives_nothing, not_fetched) (λ x i y e r. (
            cell_too scope x a q.formed_act.0 i y e r,
            λ n m seen.
                let z : Made l K g procs same_count scope x.env x.env' x.related x.known.variables v n
                = node_goes l K g procs same_count scope x.env x.env' x.related x.known.variables v
                q.formed_act.1 q.whole_act.1 n m in
                record {
                  n' = n;
                  made = z.made;
                  seen = λ _. z.filled;
                  heaps = is_same _ _
                      (ap (λ c. slice_set c i (record { site = y.site; node = n })) (same_cells x.b));
                },
          ))
      act_goes (leaf (eval a)) scope scope' q = absurd q.inlined_act
      act_goes (leaf (apply v a)) scope scope' q = absurd q.inlined_act.0
      act_goes (leaf (call f ws)) scope scope' q = act_more it (leaf (call f ws))
          (leaf (call f (as_words K ws))) (λ c e e' r. r) (λ a a' u. (u, not_fetched))
          (call_follows it f ws (as_words K ws) (λ x xs e. (
            xs,
            words_go l K g procs same_count scope x.env x.env' x.related ws q.formed_act.1 xs e,
            same,
          )))
      act_goes (leaf (prim f a b)) scope scope' q = prim_follows it f a b (as_word K a)
          (as_word K b)
          (λ x. word_goes l K g procs same_count scope x.env x.env' x.related a q.formed_act.0)
          (λ x. word_goes l K g procs same_count scope x.env x.env' x.related b q.formed_act.1)
          (λ k. (gives_number k, not_fetched))
      act_goes (leaf read) scope scope' q = read_follows it (λ k. (gives_number k, not_fetched))
      act_goes (leaf (write a)) scope scope' q = write_follows it a (as_word K a)
          (λ x. word_goes l K g procs same_count scope x.env x.env' x.related a q.formed_act)
          (gives_nothing, not_fetched)
      act_goes (leaf fail) scope scope' q = fail_follows it

      code_goes : (b : Code) (scope : Scope) (scope' : List ℕ) → GoodCode scope scope' b
          → CodeFollows it (St scope) Results b (wide_code l K b)
      code_goes (end o) scope scope' q = end_follows it o (wide_act l K o)
          (act_more it o (wide_act l K o) (λ c e e' r. r) (λ a a' u. u.0)
          (act_goes o scope scope'
          (record {
            held = q.held;
            formed_act = q.formed_code;
            inlined_act
                = q.inlined_code;
            whole_act = q.whole_code;
            known_act = q.known_code;
            once_act
                = q.once_code;
            past = q.past;
          })))
      code_goes (store cs b) scope scope' q =
          let scope1 : Scope = with_word_variables (cell_vars cs) scope in
          let scope1' : List ℕ = cell_vars (wide_cells l K cs) ++ scope' in
          store_follows it {R = St scope} {R' = St scope1} cs (wide_cells l K cs) b
          (wide_code l K b)
          (code_goes b scope1 scope1' (record {
            held = record {
              carries = cells_carry l K g procs same_count few cs scope scope' q.known_code.0
                  q.held.carries;
              below = cells_below l K g procs same_count few cs scope scope'
                  (omega (arith, q.past)) q.held.below;
            };
            formed_code = q.formed_code.1;
            inlined_code = q.inlined_code.1;
            whole_code = q.whole_code.1;
            known_code = q.known_code.1;
            once_code = once_words scope (cell_vars cs) (code_vars b) q.once_code;
            past = omega (arith, q.past);
          }))
          (stores_too scope scope' cs q.held q.formed_code.0 q.whole_code.0 q.known_code.0
          (once_left scope (cell_vars cs) (code_vars b) q.once_code) (omega (arith, q.past)))
      code_goes (bind t o b) scope scope' q =
          let f : Bool = is_fetch o in
          bind_follows it {R = St scope} {R' = St (with_target t scope)} t (wide_target l f t) o
          (wide_act l K o) b (wide_code l K b)
          (act_goes o scope scope' (record {
            held = q.held;
            formed_act = q.formed_code.0;
            inlined_act = q.inlined_code.1;
            whole_act = q.whole_code.1;
            known_act = q.known_code.1;
            once_act = once_middle scope (target_vars t) (act_vars o) (code_vars b) q.once_code;
            past = omega (arith, q.past);
          }))
          (code_goes b (with_target t scope) (target_vars (wide_target l f t) ++ scope') (record {
            held = record {
              carries = target_carries l K g procs same_count f t scope scope' q.known_code.0
                  q.held.carries;
              below = target_below l K g procs same_count few f t scope scope'
                  (omega (arith, q.past)) q.held.below;
            };
            formed_code = q.formed_code.1;
            inlined_code = q.inlined_code.2;
            whole_code = q.whole_code.2;
            known_code = q.known_code.2;
            once_code = once_target t scope (act_vars o) (code_vars b) q.once_code;
            past = omega (arith, q.past);
          }))
          (binds_too scope scope' t o q.held q.whole_code.0 q.known_code.0 (omega (arith, q.past))
          (target_new scope (target_vars t) (act_vars o ++ code_vars b) q.once_code))

      arms_goes : (ws : List W.Word) (as' : Arms) (scope : Scope) (scope' : List ℕ)
          → GoodArms scope scope' ws as' → ArmsFollow it (On scope ws) Results as'
          (wide_arms l K as')
      arms_goes ws no_arm scope scope' q = no_arm_follows it no_arm
      arms_goes ws (arm p b as') scope scope' q = arm_follows it {U = On scope ws}
          {U' = On scope ws} {R' = St (with_word_variables (shape_vars p) scope)} p
          (without_binders p) b (wide_code l K b) as' (wide_arms l K as')
          (code_goes b (with_word_variables (shape_vars p) scope) scope' (record {
            held = record {
              carries = fields_carry l K g procs same_count ws p scope scope' q.formed_words
                  q.known_arms.0 q.held.carries;
              below
                  = fields_below l K g procs same_count (shape_vars p) scope scope' q.held.below;
            };
            formed_code = q.formed_arms.1;
            inlined_code = q.inlined_arms.1;
            whole_code = q.whole_arms.1;
            known_code = q.known_arms.1;
            once_code = once_words scope (shape_vars p) (code_vars b)
                (once_two scope (shape_vars p) (code_vars b) (arms_vars as') q.once_arms);
            past = omega (arith, q.past);
          }))
          (arms_goes ws as' scope scope' (record {
            held = q.held;
            formed_words = q.formed_words;
            formed_arms = q.formed_arms.2;
            inlined_arms = q.inlined_arms.2;
            whole_arms = q.whole_arms.2;
            known_arms = q.known_arms.2;
            once_arms = once_third scope (shape_vars p) (code_vars b) (arms_vars as') q.once_arms;
            past = omega (arith, q.past);
          }))
          (λ v v' x bs e known. record {
            bs' = [];
            fit = bare_fits l K g procs same_count p v v' bs x.related.1 e;
            related = pattern_goes l K g procs same_count p v bs ws scope x.env x.env' x.related.2
                q.known_arms.0
                (λ y i. (let z : times y scope.nodes + times y scope.words ≡ 0
                = target_new scope (shape_vars p) (code_vars b ++ arms_vars as') q.once_arms y i
                in omega (arith, z))) e x.related.0;
          })
          (λ v v' x e. (bare_not l K g procs same_count p v v' x.related.1 e, x.related))

    -- ---- procedures

    abbrev none : Scope
    none = record { nodes = []; words = [] }

    none_held : Holds none []
    none_held = record {
      carries = record
          { words = λ x h. absurd (omega (arith, h)); nodes = λ x h. absurd (omega (arith, h)) };
      below = λ u z o. omega arith;
    }

    nothing_stands : Stand l K g procs same_count none nothing nothing
    nothing_stands = record
        { nodes = λ x h. absurd (omega (arith, h)); words = λ x h. absurd (omega (arith, h)) }

    params_held : (q : Procedure) → AllOf (λ x. IsPlain l K x.0) q.params
        → past_vars q.params ≤ l.base → Holds (params_scope q) (numbers_of q.params)
    params_held q plain past = record {
      carries = params_carry l K g procs same_count q plain;
      below = λ u z o.
          (let h : times u (numbers_of q.params) ≤ times z (numbers_of q.params)
          = all_counts l u z q.params o past in omega (arith, h));
    }

    enters_too : (q : Procedure) → AllOf (λ x. IsPlain l K x.0) q.params
        → past_vars q.params ≤ l.base → Once none (numbers_of q.params)
        → {xs xs' : List Datum} (bs : List Binding) → Same xs xs' → one_each q.params xs ≡ Some bs
        → (bs' : List Binding) × (one_each q.params xs' ≡ Some bs')
        × Stand l K g procs same_count (params_scope q) (with_vars bs nothing)
        (with_vars bs' nothing)
    enters_too q plain past once bs (same {a = xs}) e = (
      bs,
      e,
      reorder l K g procs same_count (with_word_variables (numbers_of q.params) none)
          (params_scope q) (with_vars bs nothing) (with_vars bs nothing) (λ y h. h)
          (λ y h. in_left y (numbers_of q.params) [] h)
          (params_stand l K g procs same_count q.params xs bs none [] nothing nothing past plain
          once e none_held nothing_stands),
    )

    body_goes : (f : ℕ) (q : Procedure) → ProcedureFormed g q → EachCode inlined_kind q.body
        → EachCode whole_node_kind q.body → ProcedureKnown l K g q
        → Once none (numbers_of q.params ++ code_vars q.body) → past_vars q.params ≤ l.base
        → past_code q.body ≤ l.base
        → BodyFollows it f q (rewritten_procedure (wide_code l K) q)
    body_goes f q fq iq wq kq once pq pb = record {
      R = St (params_scope q);
      V = Results;
      enters = λ c xs xs' bs a e known. enters_too q kq.0 pq
          (once_left none (numbers_of q.params) (code_vars q.body) once) bs a e;
      body = code_goes q.body (params_scope q) (numbers_of q.params) (record {
        held = params_held q kq.0 pq;
        formed_code = fq;
        inlined_code = iq;
        whole_code = wq;
        known_code = kq.1;
        once_code = λ y.
            (let o : times y [] + times y [] + times y (numbers_of q.params ++ code_vars q.body) ≤ 1
            = once y in let e : times y (numbers_of q.params ++ code_vars q.body) ≡ times y
            (numbers_of q.params) + times y (code_vars q.body)
            = times_append y (numbers_of q.params) (code_vars q.body) in omega (arith, o, e));
        past = pb;
      });
      given = λ v v' u seen. (λ e. given_too g l.most_value some_value u (seen e), u);
    }

    bodies_go : (f : ℕ) (qs : List Procedure) → AllOf (ProcedureFormed g) qs
        → EveryBodyIsOfKind inlined_kind qs → EveryBodyIsOfKind whole_node_kind qs
        → AllOf (ProcedureKnown l K g) qs
        → ((y : ℕ) → times y (procs_vars qs) ≤ 1) → past_procs qs ≤ l.base
        → BodiesFollow it f qs (map (rewritten_procedure (wide_code l K)) qs)
    bodies_go f [] fq iq wq kq once past = no_more
    bodies_go f (q ∷ qs) fq iq wq kq once past = one_more {f = f} {q = q}
        {r = rewritten_procedure (wide_code l K) q}
        (body_goes f q fq.0 iq.0 wq.0 kq.0 here (omega (arith, past)) (omega (arith, past)))
        (bodies_go (suc f) qs fq.1 iq.1 wq.1 kq.1 later (omega (arith, past)))
      where
        here : Once none (numbers_of q.params ++ code_vars q.body)
        here y = let o : times y ((numbers_of q.params ++ code_vars q.body) ++ procs_vars qs) ≤ 1
            = once y in let e : times y ((numbers_of q.params ++ code_vars q.body) ++ procs_vars qs)
            ≡ times y (numbers_of q.params ++ code_vars q.body) + times y (procs_vars qs)
            = times_append y (numbers_of q.params ++ code_vars q.body) (procs_vars qs)
            in omega (arith, o, e)

        later : (y : ℕ) → times y (procs_vars qs) ≤ 1
        later y = let o : times y ((numbers_of q.params ++ code_vars q.body) ++ procs_vars qs) ≤ 1
            = once y in let e : times y ((numbers_of q.params ++ code_vars q.body) ++ procs_vars qs)
            ≡ times y (numbers_of q.params ++ code_vars q.body) + times y (procs_vars qs)
            = times_append y (numbers_of q.params ++ code_vars q.body) (procs_vars qs)
            in omega (arith, o, e)

  -- ---- the whole program

  goes_likewise : (i : List ℕ) (n : ℕ) → Likewise no_deeper (Gives g l.most_value)
      (checked_run g i n) (checked_run (vectorised g) i n)
  goes_likewise i n = run_follows plan
      (λ c c' cb cf. bodies_go c c' cb cf 0 g.procs formed.procedures inlined whole
      (all_known g formed) formed.variables_once (omega arith)) i n
      same same (nodes_full g formed true i n).passed

  pub vectorised_kept : CheckedRunsNeverMissing (vectorised g) × Keeps g (vectorised g)
  vectorised_kept = looking_kept g (vectorised g) never
      (λ i n. likewise_kept no_deeper (Gives g l.most_value) (checked_run g i n)
      (checked_run (vectorised g) i n) (goes_likewise i n))
