-- The blocks of a procedure do the same in both programs.
use Rattle.std.proofs.Common.{◌≡◌, ℕ, true, false, cond, not, nat_eq, ◌≤◌, Bool, List, [], ◌∷◌, ◌++◌, map, length, Option, Some, None, slice_get, slice_set, refl, sym, ap, ◌∙◌, subst}
use Rattle.std.specs.Prelude.{ℤ, pos}
use Rattle.numbers.specs.Numbers.{same_number}
use Rattle.grin_syntax.specs.declared.program.Cell.{Cell}
use Rattle.grin_syntax.specs.declared.program.PrimOp.{PrimOp}
use Rattle.grin_syntax.specs.declared.program.ProcId.{ProcId}
use Rattle.grin_syntax.specs.declared.program.Shape.{Shape}
use Rattle.grin_syntax.specs.declared.program.Shape.TheVariants as shape
use Rattle.grin_syntax.specs.declared.program.Target.{Target}
use Rattle.grin_syntax.specs.declared.program.Target.TheVariants as to
use Rattle.grin_syntax.specs.declared.program.Val.{Val}
use Rattle.grin_syntax.specs.declared.program.Word.{Word}
use Rattle.grin_syntax.specs.Tree.{Code, end, store, bind, Act, leaf, unit, fetch, fetch_word, update, eval, apply, call, prim, read, write, case, nested, fail, Arms, no_arm, arm, Procedure, Program}
use Rattle.grin_syntax.specs.Binders.{target_vars, shape_vars}
use Rattle.grin_syntax.specs.Formed.{AllOf}
use Rattle.grin_meaning.specs.Values.{Datum, number, tag, cell, Node, Value, node, words, Env, HeapCell, World, gives, need, and_then, Binding, with_vars, fits, fits_not, number_fit, node_fit, int_fit, fit_of, word_of, as_node}
use Rattle.grin_meaning.specs.Run.{Calls, act_by, places, cells_of, place_of, number_of, apply_arithmetic, node_word}
use Rattle.grin_meaning.specs.Checks.{all_fill, has_block, is_fetch}
use Rattle.grin_meaning.specs.Follows.{Same, same}
use Rattle.grin_meaning.specs.Ready.{NoNodeVar}
use Rattle.grin_meaning.specs.Rewritten.{rewritten_procedure}
use Rattle.grin_meaning.proofs.Back.{CallsBack}
use Rattle.grin_meaning.proofs.Beside.{Compared, as_deep, Beside, beside, free, gives_too, Sim, need_sim}
use Rattle.grin_meaning.proofs.Rules.{Relation, Plan, Here, Setting, CallsFollow, ActFollows, CodeFollows, ArmsFollow, Given, BindsToo, FitsToo, CellToo, Stored, nested_follows, end_follows, bind_follows, store_follows, case_follows, no_arm_follows, arm_follows, unit_follows, fetch_word_follows, update_follows, call_follows, read_follows, fail_follows}
use Rattle.grin_meaning.proofs.Procedures.{side_by_side}
use Rattle.flow_system.specs.declared.fact.Element.TheVariants.{Cell as cell_of}
use Rattle.flow_system.specs.Tables.{tables}
use Rattle.flow_system.specs.Solution.{Solution, StandsFor}
use Rattle.flow_system.specs.Covers.{site_at, StateIsCovered}
use Rattle.flow_system.proofs.Lying.{from_some, place_lies}
use Rattle.flow_system.proofs.Covered.{site_is}
use Rattle.pass_ground.proofs.Bound.{names_of, bound_names}
use Rattle.std.proofs.lemmas.List.{append-nil}
use Rattle.seq.proofs.Lists.{some_is, none_is_some}
use Rattle.dead_store.specs.Kept.{rank, stays_at, kept_with}
use Rattle.dead_store.specs.Without.{without_word, without_val, kept_cells, store_if_any, without_act, without_code, without_arms}
use Rattle.dead_store.proofs.Renaming.{f, node_to, value_to, bindings_to, word_renamed, bindings_renamed, fit_renamed, number_renamed, bound_renamed}
use Rattle.dead_store.proofs.Heaps.{Begins, cell_to, kept_append, kept_fewer, kept_get, kept_set, rank_length, stays_get}
use Rattle.dead_store.proofs.Related.{Related, related_bind, GlobalsStay, word_too, words_too, value_too, node_too, fills_too, node_fills, cells_too, all_fill_too, VarFine, made_sites, places_related}
use Rattle.dead_store.proofs.OneStores.{store_left}
use Rattle.dead_store.proofs.Fine.{WordStays, IsThere, CellFine, ActFine, CodeFine, ArmsFine}

-- ---- a pattern without variables binds nothing

no_variables : (P : ℕ → Type 0) (g : Program) (s : Shape) (v : Value) (bs : List Binding)
    → shape_vars s ≡ [] → fit_of g s v ≡ fits bs → AllOf P (names_of bs)
no_variables P g (shape.Node t (x ∷ xs)) v bs h e = absurd cc
no_variables P g (shape.Node t []) v bs h e = go (as_node g v) e
  where
    by_tag : (b : Bool) → cond b (fits []) fits_not ≡ fits bs → AllOf P (names_of bs)
    by_tag true q = let none : [] ≡ bs = cc in subst (λ l. AllOf P (names_of l)) none tt
    by_tag false q = cc

    go : (o : Option Node) → node_fit t.0 [] o ≡ fits bs → AllOf P (names_of bs)
    go None q = cc
    go (Some n) q = by_tag (nat_eq n.tag t.0) q
no_variables P g (shape.Int k) v bs h e = go (as_node g v) e
  where
    at : (b : Bool) → cond b (fits []) fits_not ≡ fits bs → AllOf P (names_of bs)
    at true q = let none : [] ≡ bs = cc in subst (λ l. AllOf P (names_of l)) none tt
    at false q = cc

    on : (ds : List Datum) (b : Bool) → cond b (number_fit k ds) fits_not ≡ fits bs
        → AllOf P (names_of bs)
    on ds false q = cc
    on [] true q = cc
    on (number j ∷ ds) true q = at (same_number k j) q
    on (tag j ∷ ds) true q = cc
    on (cell j ∷ ds) true q = cc

    go : (o : Option Node) → int_fit k o ≡ fits bs → AllOf P (names_of bs)
    go None q = cc
    go (Some n) q = on n.fields (nat_eq n.tag 0) q
no_variables P g shape.Else v bs h e = let none : [] ≡ bs = cc
    in subst (λ l. AllOf P (names_of l)) none tt

-- ---- what is looked at of an operation stays

block_stays : (stays gone : ℕ → Bool) (o : Act) → has_block (without_act stays gone o) ≡ has_block o
unfolding without_act
block_stays stays gone (leaf (unit v)) = refl
block_stays stays gone (leaf (fetch a)) = refl
block_stays stays gone (leaf (fetch_word a i)) = refl
block_stays stays gone (leaf (update a v)) = refl
block_stays stays gone (leaf (eval a)) = refl
block_stays stays gone (leaf (apply v a)) = refl
block_stays stays gone (leaf (call p ws)) = refl
block_stays stays gone (leaf (prim p a b)) = refl
block_stays stays gone (leaf read) = refl
block_stays stays gone (leaf (write a)) = refl
block_stays stays gone (case v as') = refl
block_stays stays gone (nested b) = refl
block_stays stays gone (leaf fail) = refl

fetch_stays : (stays gone : ℕ → Bool) (o : Act) → is_fetch (without_act stays gone o) ≡ is_fetch o
unfolding without_act
fetch_stays stays gone (leaf (unit v)) = refl
fetch_stays stays gone (leaf (fetch a)) = refl
fetch_stays stays gone (leaf (fetch_word a i)) = refl
fetch_stays stays gone (leaf (update a v)) = refl
fetch_stays stays gone (leaf (eval a)) = refl
fetch_stays stays gone (leaf (apply v a)) = refl
fetch_stays stays gone (leaf (call p ws)) = refl
fetch_stays stays gone (leaf (prim p a b)) = refl
fetch_stays stays gone (leaf read) = refl
fetch_stays stays gone (leaf (write a)) = refl
fetch_stays stays gone (case v as') = refl
fetch_stays stays gone (nested b) = refl
fetch_stays stays gone (leaf fail) = refl

fine_vars : (stays gone : ℕ → Bool) (F : List HeapCell) (cs : List Cell)
    → AllOf (λ c. (gone c.var.0 ≡ not (stays c.site.0)) × NoNodeVar c.val) cs
    → AllOf (VarFine stays gone F) cs × AllOf (λ c. NoNodeVar c.val) cs
fine_vars stays gone F [] h = (tt, tt)
fine_vars stays gone F (c ∷ cs) h = let r = fine_vars stays gone F cs h.1
    in ((h.0.0, r.0), (h.0.1, r.1))

module _ (g : Program) (A : Solution) (stays gone : ℕ → Bool) (F : List HeapCell) where
  -- the second heap has the cells of the first that stay, renamed by the heap at the end
  abbrev pub compared : Compared
  compared = record {
    Deep = as_deep.Deep;
    start = as_deep.start;
    up = as_deep.up;
    greater = as_deep.greater;
    at_most = as_deep.at_most;
    Heaps = λ c c'. c' ≡ kept_with stays (f stays F) c;
    fewer = λ {c} e. subst (λ l. length l ≤ length c) (sym e) (kept_fewer stays (f stays F) c);
  }

  abbrev pub V : Value → Value → Type 0
  V v v' = Same (value_to stays F v) v'

  abbrev pub procs : List Procedure
  procs = map (rewritten_procedure (without_code stays gone)) g.procs

  -- looking runs, in states that lie in the solution and whose heaps begin the one at the end
  abbrev pub plan : Plan
  plan = record {
    looks = true;
    K = compared;
    P = λ s. StateIsCovered g A s × Begins s.heap F;
    Args
        = λ p xs xs'. Same (map (f stays F) xs) xs';
    Result = λ p. V;
    g = g;
    procs = procs;
  }

  abbrev after : Program
  after = record g { procs = procs }

  module _ (globals : GlobalsStay stays gone F g) (c c' : Calls) (cb : CallsBack plan.P c)
      (cf : CallsFollow plan c c') where
    abbrev pub R : Relation
    R = λ cells env env'. Related stays gone F env env'

    -- over the values of a case
    abbrev pub RV : Value → Value → Relation
    RV = λ v v' cells env env'. V v v' × R cells env env'

    abbrev pub it : Setting
    it = side_by_side plan c c' cb cf

    abbrev ActLike : Act → Act → Type 0
    ActLike = ActFollows it R V

    abbrev CodeLike : Code → Code → Type 0
    CodeLike = CodeFollows it R V

    -- ---- the cell of a word that stays

    place_becomes : (i : ℕ) (d d' : Datum) → place_of d ≡ Some i → stays_at stays F i ≡ true
        → d' ≡ f stays F d → place_of d' ≡ Some (rank stays F i)
    place_becomes i (number k) d' e s q = none_is_some e
    place_becomes i (tag t) d' e s q = none_is_some e
    place_becomes i (cell a) d' e s q =
        let same_place : a ≡ i = some_is e in
        ap place_of
        (q ∙ ap (λ b. cond b (cell (rank stays F a)) (number (pos 0)))
        (ap (stays_at stays F) same_place ∙ s)) ∙ ap (λ j. Some (rank stays F j)) same_place

    place_there : (x : Here plan R) (a : Word) (i : ℕ)
        → and_then (word_of g x.env a) place_of ≡ Some i → stays_at stays F i ≡ true
        → and_then (word_of after x.env' (without_word gone a)) place_of ≡ Some (rank stays F i)
    place_there x a i e s = go (word_of g x.env a) refl e
      where
        go : (o : Option Datum) → word_of g x.env a ≡ o → and_then o place_of ≡ Some i
            → and_then (word_of after x.env' (without_word gone a)) place_of ≡ Some (rank stays F i)
        go None q e = none_is_some e
        go (Some d) q e = ap (λ o. and_then o place_of)
            (word_too stays gone F g procs globals x.env x.env' x.related a d q) ∙ place_becomes i d
            (f stays F d) e s refl

    its_site_stays : (x : Here plan R) (a : Word) → WordStays A g stays a → (i : ℕ) (y : HeapCell)
        → and_then (word_of g x.env a) place_of ≡ Some i → slice_get x.w.cells i ≡ Some y
        → stays y.site ≡ true
    its_site_stays x a ok i y e q = ok y.site
        (subst (λ s. StandsFor (tables g) A a (cell_of s)) (site_is x.w.cells i at.0 y at.1 q) at.2)
      where
        at : (s : ℕ) × (site_at x.w.cells i ≡ Some s) × StandsFor (tables g) A a (cell_of s)
        at = from_some
            (λ i. (s : ℕ) × (site_at x.w.cells i ≡ Some s) × StandsFor (tables g) A a (cell_of s))
            (and_then (word_of g x.env a) place_of) i
            (place_lies g x.w.cells A x.known.0.globals x.env x.known.0.variables a) e

    cell_too : (x : Here plan R) (a : Word) (i : ℕ) (y : HeapCell) → stays y.site ≡ true
        → and_then (word_of g x.env a) place_of ≡ Some i → slice_get x.w.cells i ≡ Some y
        → (and_then (word_of after x.env' (without_word gone a)) place_of ≡ Some (rank stays F i))
        × (slice_get x.b.cells (rank stays F i) ≡ Some (cell_to stays (f stays F) y))
    cell_too x a i y s e q = (
      place_there x a i e (stays_get stays x.w.cells F i y x.known.1 q ∙ s),
      ap (λ l. slice_get l (rank stays F i)) x.b.heaps ∙ kept_get stays (f stays F) x.w.cells F i y
          x.known.1 q s,
    )

    abbrev cell_at : (x : Here plan R) (a : Word) (i : ℕ) (y : HeapCell) → stays y.site ≡ true
        → and_then (word_of g x.env a) place_of ≡ Some i → slice_get x.w.cells i ≡ Some y
        → CellToo it (without_word gone a) x.env' x.b.cells
    cell_at x a i y s e q =
        let t = cell_too x a i y s e q in
        record { i' = rank stays F i; y' = cell_to stays (f stays F) y; place = t.0; there = t.1 }

    -- ---- operations without blocks

    unit_like : (v : Val) → NoNodeVar v → ActLike (leaf (unit v)) (leaf (unit (without_val gone v)))
    unit_like v ok = unit_follows it v (without_val gone v) (λ x y e seen. (
      λ l. fills_too stays gone F g procs globals x.env x.env' x.related v y e (seen l),
      value_to stays F y,
      value_too stays gone F g procs globals x.env x.env' x.related v ok y e,
      same,
    ))

    fetch_like : (a : Word) (k : ℕ) → WordStays A g stays a
        → ActLike (leaf (fetch_word a k)) (leaf (fetch_word (without_word gone a) k))
    fetch_like a k ok = fetch_word_follows it a (without_word gone a) k k (λ x i y e q. (
      cell_at x a i y (its_site_stays x a ok i y e q) e q,
      subst (λ d. Same (words (f stays F (node_word y.node k) ∷ [])) (words (d ∷ [])))
          (sym (word_renamed stays F y.node k)) same,
    ))

    update_like : (a : Word) (v : Val) → WordStays A g stays a → NoNodeVar v
        → ActLike (leaf (update a v)) (leaf (update (without_word gone a) (without_val gone v)))
    update_like a v ok okv = update_follows it a (without_word gone a) v (without_val gone v) same
        (λ x i y e q.
        let s : stays y.site ≡ true = its_site_stays x a ok i y e q in (
          cell_at x a i y s e q,
          λ n m seen. record {
            n' = node_to stays F n;
            made = node_too stays gone F g procs globals x.env x.env' x.related v okv n m;
            seen = λ l. node_fills stays gone F g procs globals x.env x.env' x.related v n m
                (seen l);
            heaps = ap
                (λ l. slice_set l (rank stays F i)
                (record { site = y.site; node = node_to stays F n })) x.b.heaps ∙ sym
                (kept_set stays (f stays F) x.w.cells F i y n x.known.1 q s);
          },
        ))

    call_like : (p : ProcId) (ws : List Word) → ActLike (leaf (call p ws))
        (leaf (call p (map (without_word gone) ws)))
    call_like p ws = call_follows it p ws (map (without_word gone) ws)
        (λ x xs e. (
          map (f stays F) xs,
          words_too stays gone F g procs globals x.env x.env' x.related ws xs e,
          same,
        ))

    numbers_like : (p : PrimOp) (y z : Datum) (w : World) (b : Beside compared w)
        → Sim plan.P compared V (need (apply_arithmetic p y z) w (λ v. gives v w))
        (need (apply_arithmetic p (f stays F y) (f stays F z)) (beside b) (λ v. gives v (beside b)))
    numbers_like p (number i) (number j) w b = λ _. gives_too b same
    numbers_like p (number i) (tag t) w b = λ _. free
    numbers_like p (number i) (cell a) w b = λ _. free
    numbers_like p (tag t) z w b = λ _. free
    numbers_like p (cell a) z w b = λ _. free

    prim_like : (p : PrimOp) (a b : Word) → ActLike (leaf (prim p a b))
        (leaf (prim p (without_word gone a) (without_word gone b)))
    unfolding act_by
    prim_like p a b = record {
      by = λ x. need_sim plan.P compared V (word_of g x.env a)
          (word_of after x.env' (without_word gone a)) x.w (beside x.b) _ _ (λ y e. (
            f stays F y,
            word_too stays gone F g procs globals x.env x.env' x.related a y e,
            need_sim plan.P compared V (word_of g x.env b) (word_of after x.env' (without_word gone b))
                x.w (beside x.b) _ _ (λ z e'. (
                  f stays F z,
                  word_too stays gone F g procs globals x.env x.env' x.related b z e',
                  numbers_like p y z x.w x.b,
                )),
          ));
    }

    number_there : (x : Here plan R) (a : Word) (k : ℤ)
        → and_then (word_of g x.env a) number_of ≡ Some k
        → and_then (word_of after x.env' (without_word gone a)) number_of ≡ Some k
    number_there x a k e = go (word_of g x.env a) refl e
      where
        go : (o : Option Datum) → word_of g x.env a ≡ o → and_then o number_of ≡ Some k
            → and_then (word_of after x.env' (without_word gone a)) number_of ≡ Some k
        go None q e = none_is_some e
        go (Some d) q e = ap (λ o. and_then o number_of)
            (word_too stays gone F g procs globals x.env x.env' x.related a d q) ∙ number_renamed
            stays F d k e

    write_like : (a : Word) → ActLike (leaf (write a)) (leaf (write (without_word gone a)))
    unfolding act_by
    write_like a = record {
      by = λ x. need_sim plan.P compared V (and_then (word_of g x.env a) number_of)
          (and_then (word_of after x.env' (without_word gone a)) number_of) x.w (beside x.b) _ _
          (λ k e. (
            k,
            number_there x a k e,
            λ _. gives_too
                (record {
                  cells = x.b.cells;
                  seen = x.b.seen;
                  depth = x.b.depth;
                  heaps = x.b.heaps;
                  deep
                      = x.b.deep;
                }) same,
          ));
    }

    -- ---- stores

    abbrev kept_of : List HeapCell → List HeapCell
    kept_of = kept_with stays (f stays F)

    -- the variables of a group, once its cells are made
    group_related : (cs : List Cell) → AllOf (CellFine A g stays gone) cs
        → (x : Here plan R) (y : Stored it R cs x)
        → Related stays gone F (with_vars (places (length x.w.cells) cs) x.env)
        (with_vars (places (length x.b.cells) (kept_cells stays gone cs)) x.env')
    group_related cs ok x y =
        let e0 : Env = with_vars (places (length x.w.cells) cs) x.env in
        let many : rank stays F (length x.w.cells) ≡ length x.b.cells
        = rank_length stays (f stays F) x.w.cells F x.known.1 ∙ ap length (sym x.b.heaps) in
        subst (λ k. Related stays gone F e0
        (with_vars (places k (kept_cells stays gone cs)) x.env')) many
        (places_related stays gone F g e0 cs x.w.cells y.hs (length x.w.cells) x.env x.env' refl
        (made_sites stays gone F g e0 cs y.hs y.cells) y.next.1 (fine_vars stays gone F cs ok).0
        x.related)

    group_there : (cs : List Cell) → AllOf (CellFine A g stays gone) cs
        → (x : Here plan R) (y : Stored it R cs x)
        → cells_of after (with_vars (places (length x.b.cells) (kept_cells stays gone cs)) x.env')
        (kept_cells stays gone cs) ≡ Some (kept_of y.hs)
    group_there cs ok x y = cells_too stays gone F g procs globals
        (with_vars (places (length x.w.cells) cs) x.env)
        (with_vars (places (length x.b.cells) (kept_cells stays gone cs)) x.env')
        (group_related cs ok x y) cs (fine_vars stays gone F cs ok).1 y.hs y.cells

    group_kept : (x : Here plan R) (hs : List HeapCell) → x.b.cells
        ++ kept_of hs ≡ kept_of (x.w.cells ++ hs)
    group_kept x hs = ap (λ l. l ++ kept_of hs) x.b.heaps ∙ sym
        (kept_append stays (f stays F) x.w.cells hs)

    store_like : (cs : List Cell) (b b' : Code) → AllOf (CellFine A g stays gone) cs → CodeLike b b'
        → CodeLike (store cs b) (store_if_any (kept_cells stays gone cs) b')
    store_like cs b b' ok k = go (kept_cells stays gone cs) refl
      where
        go : (ks : List Cell) → kept_cells stays gone cs ≡ ks
            → CodeLike (store cs b) (store_if_any ks b')
        go [] q = store_left it {R = R} {R' = R} {V = V} cs b b' k (λ x y.
            let none : kept_of y.hs ≡ [] = some_is
            (sym (group_there cs ok x y) ∙ ap
            (λ l. cells_of after (with_vars (places (length x.b.cells) l) x.env') l) q) in
            record {
              heaps = sym (append-nil x.b.cells) ∙ ap (λ l. x.b.cells ++ l) (sym none) ∙ group_kept
                  x y.hs;
              related = subst
                  (λ l. Related stays gone F (with_vars (places (length x.w.cells) cs) x.env)
                  (with_vars (places (length x.b.cells) l) x.env')) q (group_related cs ok x y);
            })
        go (c1 ∷ ks) q = store_follows it {R = R} {R' = R} {V = V} cs (c1 ∷ ks) b b' k
            (λ x y. record {
              hs' = kept_of y.hs;
              cells = subst
                  (λ l. cells_of after (with_vars (places (length x.b.cells) l) x.env') l ≡ Some
                  (kept_of y.hs)) q (group_there cs ok x y);
              seen = λ l. subst
                  (λ l. all_fill after (with_vars (places (length x.b.cells) l) x.env') l ≡ true) q
                  (all_fill_too stays gone F g procs globals
                  (with_vars (places (length x.w.cells) cs) x.env)
                  (with_vars (places (length x.b.cells) (kept_cells stays gone cs)) x.env')
                  (group_related cs ok x y) cs y.hs y.cells (y.seen l));
              heaps = group_kept x y.hs;
              related = subst
                  (λ l. Related stays gone F (with_vars (places (length x.w.cells) cs) x.env)
                  (with_vars (places (length x.b.cells) l) x.env')) q (group_related cs ok x y);
            })

    -- ---- what targets and patterns bind

    binds : (t : Target) (o o' : Act) → has_block o' ≡ has_block o → is_fetch o' ≡ is_fetch o
        → AllOf (IsThere A g stays gone) (target_vars t)
        → (x : Here plan R) (y : Given it R V t o x)
        → BindsToo it R t o' x.env x.env' y.w.cells y.v' y.bs
    binds t o o' m n ok x y = go y.values
      where
        names : AllOf (IsThere A g stays gone) (names_of y.bs)
        names = subst (AllOf (IsThere A g stays gone)) (sym (bound_names g t y.v y.bs y.binds)) ok

        go : {v' : Value} → Same (value_to stays F y.v) v'
            → BindsToo it R t o' x.env x.env' y.w.cells v' y.bs
        go same = record {
          seen = λ l. bound_renamed stays F g t o o' y.v m n (y.seen l);
          bs' = bindings_to stays F y.bs;
          binds = bindings_renamed stays F g t y.v y.bs y.binds;
          related = related_bind stays gone F y.bs x.env x.env' names x.related;
        }

    bind_like : (t : Target) (o o' : Act) (b b' : Code) → has_block o' ≡ has_block o
        → is_fetch o' ≡ is_fetch o → AllOf (IsThere A g stays gone) (target_vars t) → ActLike o o'
        → CodeLike b b' → CodeLike (bind t o b) (bind t o' b')
    bind_like t o o' b b' m n ok u k = bind_follows it {R = R} {R' = R} {U = V} {V = V} t t o o' b
        b' u k (binds t o o' m n ok)

    case_like : (v : Val) (as' bs' : Arms) → NoNodeVar v → ArmsFollow it RV V as' bs'
        → ActLike (case v as') (case (without_val gone v) bs')
    case_like v as' bs' ok k = case_follows it {R = R} {U = RV} {V = V} v (without_val gone v) as'
        bs' k (λ x y e. (
          value_to stays F y,
          value_too stays gone F g procs globals x.env x.env' x.related v ok y e,
          (same, x.related),
        ))

    fits_too : (s : Shape) → shape_vars s ≡ [] → (cells : List HeapCell) (env env' : Env)
        (v : Value) (bs : List Binding) {v' : Value} → V v v' → R cells env env'
        → fit_of g s v ≡ fits bs → FitsToo it R s env env' cells v' bs
    fits_too s none cells env env' v bs same r e = record {
      bs' = bindings_to stays F bs;
      fit = fit_renamed stays F g s v (fits bs) e tt;
      related = related_bind stays gone F bs env env'
          (no_variables (IsThere A g stays gone) g s v bs none e) r;
    }

    fits_neither : (s : Shape) (v : Value) {v' : Value} → V v v' → fit_of g s v ≡ fits_not
        → fit_of g s v' ≡ fits_not
    fits_neither s v same e = fit_renamed stays F g s v fits_not e tt

    arm_like : (s : Shape) (b b' : Code) (as' bs' : Arms) → shape_vars s ≡ [] → CodeLike b b'
        → ArmsFollow it RV V as' bs' → ArmsFollow it RV V (arm s b as') (arm s b' bs')
    arm_like s b b' as' bs' none k m = arm_follows it {U = RV} {U' = RV} {R' = R} {V = V} s s b b'
        as' bs' k m
        (λ v v' x bs e at. fits_too s none x.w.cells x.env x.env' v bs x.related.0 x.related.1 e)
        (λ v v' x e. (fits_neither s v x.related.0 e, x.related))

    -- ---- pieces

    mutual
      unfolding without_act ActFine

      act_like : (o : Act) → ActFine A g stays gone o → ActLike o (without_act stays gone o)
      act_like (leaf (unit v)) ok = unit_like v ok
      act_like (leaf (fetch a)) ok = absurd ok
      act_like (leaf (fetch_word a i)) ok = fetch_like a i ok
      act_like (leaf (update a v)) ok = update_like a v ok.0 ok.1
      act_like (leaf (eval a)) ok = absurd ok
      act_like (leaf (apply v a)) ok = absurd ok
      act_like (leaf (call p ws)) ok = call_like p ws
      act_like (leaf (prim p a b)) ok = prim_like p a b
      act_like (leaf read) ok = read_follows it {R = R} {V = V} (λ k. same)
      act_like (leaf (write a)) ok = write_like a
      act_like (case v as') ok = case_like v as' (without_arms stays gone as') ok.0
          (arms_like as' ok.1)
      act_like (nested b) ok = nested_follows it {R = R} {V = V} b (without_code stays gone b)
          (code_like b ok)
      act_like (leaf fail) ok = fail_follows it {R = R} {V = V}

      pub code_like : (b : Code) → CodeFine A g stays gone b
          → CodeLike b (without_code stays gone b)
      code_like (end o) ok = end_follows it {R = R} {V = V} o (without_act stays gone o)
          (act_like o ok)
      code_like (store cs b) ok = store_like cs b (without_code stays gone b) ok.0
          (code_like b ok.1)
      code_like (bind t o b) ok = bind_like t o (without_act stays gone o) b
          (without_code stays gone b) (block_stays stays gone o) (fetch_stays stays gone o) ok.0
          (act_like o ok.1) (code_like b ok.2)

      arms_like : (as' : Arms) → ArmsFine A g stays gone as'
          → ArmsFollow it RV V as' (without_arms stays gone as')
      arms_like no_arm ok = no_arm_follows it {U = RV} {V = V} no_arm
      arms_like (arm s b as') ok = arm_like s b (without_code stays gone b) as'
          (without_arms stays gone as') ok.0 (code_like b ok.1) (arms_like as' ok.2)
