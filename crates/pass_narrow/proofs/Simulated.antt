-- A program without words that nobody reads does what the program does.
--
-- Words that nobody reads are left out of the relation. For cells the new heap is the old one
-- without some, and a cell is renamed to its number among those that stay. Which number that is
-- depends on the heap at the end of the run; the heap of each earlier moment is a beginning of it.
use Rattle.std.proofs.Common.{◌≡◌, ℕ, suc, Bool, true, false, cond, ◌&&◌, List, [], ◌∷◌, map, length, Option, Some, None, refl, sym, ap, ◌∙◌, subst, slice_get}
use Rattle.seq.proofs.Lists.{none_is_some, some_is}
use Rattle.seq.proofs.Truth.{and_left, and_right, true_not_false}
use Rattle.grin_syntax.specs.declared.program.Cell.{Cell}
use Rattle.grin_syntax.specs.declared.program.Tag.{Tag}
use Rattle.grin_syntax.specs.declared.program.VarId.{VarId}
use Rattle.grin_syntax.specs.declared.program.Shape.{Shape}
use Rattle.grin_syntax.specs.declared.program.Target.{Target}
use Rattle.grin_syntax.specs.declared.program.Target.TheVariants as to
use Rattle.grin_syntax.specs.declared.program.Word as W
use Rattle.grin_syntax.specs.declared.program.Val as V
use Rattle.grin_syntax.specs.declared.program.Val.TheVariants.{NodeVar, Node, Vector, One}
use Rattle.grin_syntax.specs.Tree.{Code, end, store, bind, Act, Leaf, leaf, unit, fetch, fetch_word, update, eval, apply, call, prim, read, write, case, nested, fail, Arms, no_arm, arm, Procedure, Program}
use Rattle.grin_syntax.specs.Formed.{Formed}
use Rattle.grin_meaning.specs.Values.{Datum, Value, words, Env, HeapCell, and_then, Binding, with_vars, one_each, value_of, words_of, bindings_of}
use Rattle.grin_meaning.specs.Run.{Calls}
use Rattle.grin_meaning.specs.Checks.{has_block, is_fetch, is_given, is_bound_well, fills, is_filled, is_none_or}
use Rattle.grin_meaning.specs.Follows.{Same, same, HoldsInEveryState}
use Rattle.grin_meaning.specs.Names.{ActOk}
use Rattle.grin_meaning.specs.Rewritten.{rewritten_procedure}
use Rattle.grin_meaning.specs.Keeps.{Keeps, world_of}
use Rattle.grin_meaning.specs.Looking.{checked_run, CheckedRunsNeverMissing}
use Rattle.grin_meaning.proofs.Back.{CallsBack}
use Rattle.grin_meaning.proofs.Beside.{no_deeper, Likewise, Seen}
use Rattle.grin_meaning.proofs.Rules.{Plan, Here, Setting, CallsFollow, ActFollows, CodeFollows, ArmsFollow, BindsToo, unit_follows, nested_follows, end_follows, fail_follows, bind_follows}
use Rattle.grin_meaning.proofs.Procedures.{BodiesFollow, no_more, one_more, side_by_side, run_follows}
use Rattle.grin_meaning.proofs.Plain.{Has, IsPlain, On, having, words_have, leaf_follows, store_same, bind_same, case_same, no_arm_same, arm_same}
use Rattle.grin_meaning.proofs.KeptBy.{likewise_kept, looking_kept}
use Rattle.copy_prop.specs.Copied.{SameHeaps}
use Rattle.copy_prop.proofs.EndHeaps.{same_end_heaps}
use Rattle.grin_meaning.proofs.LooksBack.{look_agrees}
use Rattle.grin_meaning.proofs.Paired.{nothing}
use Rattle.flow_system.specs.Tables.{tables}
use Rattle.flow_system.specs.System.{system}
use Rattle.flow_system.specs.Solution.{Solution, Solves}
use Rattle.flow_system.specs.Covers.{StateIsCovered}
use Rattle.flow_system.proofs.Covered.{covers}
use Rattle.flow_system.proofs.Starting.{formed_is_started}
use Rattle.copy_prop.specs.Lean.{used_in_word, used_in_words, used_in_val, used_in_cells, used_in_act, used_in_code, used_in_arms}
use Rattle.copy_prop.proofs.LeanSimulated.{Covers, covers_left, covers_right, word_covered, words_covered, val_covered, cells_covered, bound_well}
use Rattle.pass_narrow.specs.Picked.{picked, stay}
use Rattle.pass_narrow.specs.Narrow.{WordSelection, picked_val, picked_target, act_fits, code_fits, arms_fit, word_selection, narrow_act, narrow_code, narrow_arms, narrow}
use Rattle.pass_narrow.proofs.Picks.{words_picked, MayGo, given_picked, filled_picked, Used, StillBound, bound_picked}
use Rattle.pass_narrow.proofs.Tagged.{may_go_holds}

pub still_has_block : (count : ℕ) (A : Solution) (p : WordSelection) (o : Act)
    → has_block (narrow_act count A p o) ≡ has_block o
unfolding narrow_act
still_has_block count A p (leaf l) = refl
still_has_block count A p (case v as') = refl
still_has_block count A p (nested b) = refl

still_fetch : (count : ℕ) (A : Solution) (p : WordSelection) (o : Act)
    → is_fetch (narrow_act count A p o) ≡ is_fetch o
unfolding narrow_act
still_fetch count A p (leaf (unit v)) = refl
still_fetch count A p (leaf (fetch a)) = refl
still_fetch count A p (leaf (fetch_word a i)) = refl
still_fetch count A p (leaf (prim f a b)) = refl
still_fetch count A p (leaf (update a v)) = refl
still_fetch count A p (leaf (eval a)) = refl
still_fetch count A p (leaf (apply v a)) = refl
still_fetch count A p (leaf (call f ws)) = refl
still_fetch count A p (leaf read) = refl
still_fetch count A p (leaf (write a)) = refl
still_fetch count A p (case v as') = refl
still_fetch count A p (nested b) = refl
still_fetch count A p (leaf fail) = refl

module _ (g : Program) (A : Solution) (formed : Formed g) (procs : List Procedure) where
  abbrev count : ℕ
  count = length g.tags

  -- looking runs, in states that lie in the solution
  abbrev pub plan : Plan
  plan = record {
    looks = true;
    K = no_deeper;
    P = StateIsCovered g A;
    Args = λ f. Same;
    Result = λ f. Same;
    g
        = g;
    procs = procs;
  }

  plain : IsPlain plan
  plain = record
      { heaps_are = λ h. h; same_heaps = λ c. same; args = λ f xs. same; results = λ f v v' u. u }

  -- the second gives what stays of the words that the first gives
  pub data Picks (bs : List Bool) : Value → Value → Type 0 where
    picks : {ds : List Datum} → MayGo g bs ds → Picks bs (words ds) (words (picked bs ds))

  abbrev pub Gives : WordSelection → Value → Value → Type 0
  Gives None = Same
  Gives (Some bs) = Picks bs

  -- the ends of a piece allow it
  abbrev pub ActFits : WordSelection → Act → Type 0
  ActFits None o = Unit {0}
  ActFits (Some bs) o = act_fits count A bs o ≡ true

  abbrev pub CodeFits : WordSelection → Code → Type 0
  CodeFits None b = Unit {0}
  CodeFits (Some bs) b = code_fits count A bs b ≡ true

  abbrev pub ArmsFit : WordSelection → Arms → Type 0
  ArmsFit None as' = Unit {0}
  ArmsFit (Some bs) as' = arms_fit count A bs as' ≡ true

  first_tag : (i : Tag) × (slice_get g.tags 0 ≡ Some i)
  first_tag = (formed.number_tag.0, formed.number_tag.1)

  module _ (c c' : Calls) (cb : CallsBack (StateIsCovered g A) c) (cf : CallsFollow plan c c') where
    abbrev it : Setting
    it = side_by_side plan c c' cb cf

    abbrev Acts : (ℕ → Type 0) → WordSelection → Act → Act → Type 0
    Acts Ok p = ActFollows it (λ heap. Has Ok) (Gives p)

    abbrev Codes : (ℕ → Type 0) → WordSelection → Code → Code → Type 0
    Codes Ok p = CodeFollows it (λ heap. Has Ok) (Gives p)

    abbrev ManyArms : (ℕ → Type 0) → WordSelection → Arms → Arms → Type 0
    ManyArms Ok p = ArmsFollow it (On (λ heap. Has Ok)) (Gives p)

    -- ---- units

    vector_goes : (Ok : ℕ → Type 0) (bs : List Bool) (ws : List W.Word)
        → act_fits count A bs (leaf (unit (Vector ws))) ≡ true
        → Covers Ok (used_in_words (picked bs ws)) → ActFollows it (λ heap. Has Ok) (Picks bs)
        (leaf (unit (Vector ws))) (leaf (unit (Vector (picked bs ws))))
    unfolding act_fits
    vector_goes Ok bs ws fit cov = unit_follows it (Vector ws) (Vector (picked bs ws))
        (λ x y e seen. on x y (words_of g x.env ws) refl e seen)
      where
        on : (x : Here plan (λ heap. Has Ok)) (y : Value) (o : Option (List Datum))
            → words_of g x.env ws ≡ o → and_then o (λ ds. Some (words ds)) ≡ Some y
            → Seen true (fills g x.env (Vector ws))
            → Seen true (fills g x.env' (Vector (picked bs ws))) × (y' : Value)
            × (value_of g x.env' (Vector (picked bs ws)) ≡ Some y') × Picks bs y y'
        on x y None q e seen = none_is_some e
        on x y (Some ds) q e seen =
            let may : MayGo g bs ds = may_go_holds g A (record { env = x.env; heap = x.w.cells })
            x.known bs ws ds q fit in
            let there : words_of g x.env' (picked bs ws) ≡ Some (picked bs ds)
            = words_have g Ok x.env x.env' x.related (picked bs ws)
            (words_covered Ok (picked bs ws) cov) (picked bs ds)
            (words_picked g x.env bs ws ds q) in (
              (λ l. ap (λ o. is_none_or o (is_filled g)) there ∙ filled_picked g first_tag bs ds may
                  (sym (ap (λ o. is_none_or o (is_filled g)) q) ∙ seen l)),
              words (picked bs ds),
              ap (λ o. and_then o (λ ds. Some (words ds))) there,
              subst (λ v. Picks bs v (words (picked bs ds))) (some_is e) (picks may),
            )

    unit_goes : (Ok : ℕ → Type 0) (bs : List Bool) (v : V.Val)
        → act_fits count A bs (leaf (unit v)) ≡ true
        → Covers Ok (used_in_val (picked_val (Some bs) v))
        → ActFollows it (λ heap. Has Ok) (Picks bs) (leaf (unit v))
        (leaf (unit (picked_val (Some bs) v)))
    unfolding act_fits
    unit_goes Ok bs (NodeVar x) fit cov = true_not_false (sym fit)
    unit_goes Ok bs (Node t ws) fit cov = true_not_false (sym fit)
    unit_goes Ok bs (One a) fit cov = true_not_false (sym fit)
    unit_goes Ok bs (Vector ws) fit cov = vector_goes Ok bs ws fit cov

    -- ---- what is bound

    well_picked : (xs ys : List VarId) (o o' : Act) (bs : List Bool) (ds : List Datum)
        → has_block o' ≡ has_block o → MayGo g bs ds
        → is_bound_well g (to.Vector xs) o (words ds) ≡ true
        → is_bound_well g (to.Vector ys) o' (words (picked bs ds)) ≡ true
    well_picked xs ys o o' bs ds alike may h = ap
        (λ b. cond b (is_given g (words (picked bs ds))) true && true) alike ∙ go (has_block o)
        (and_left (cond (has_block o) (is_given g (words ds)) true) true h)
      where
        go : (b : Bool) → cond b (is_given g (words ds)) true ≡ true
            → (cond b (is_given g (words (picked bs ds))) true && true) ≡ true
        go true h = λ i. given_picked g first_tag bs ds may h i && true
        go false h = refl

    binds_picked : (xs : List VarId) (used : List ℕ) (o o' : Act) → has_block o' ≡ has_block o
        → (cells : List HeapCell) (env env' : Env) (bs : List Binding) {v v' : Value}
        → Picks (stay used xs) v v' → Has (Used used) env env'
        → Seen true (is_bound_well g (to.Vector xs) o v) → bindings_of g (to.Vector xs) v ≡ Some bs
        → BindsToo it (λ heap. Has (Used used)) (to.Vector (picked (stay used xs) xs)) o' env
        env' cells v' bs
    binds_picked xs used o o' alike cells env env' bs (picks {ds = ds} may) has seen e =
        let z : StillBound used xs ds bs env env' = bound_picked used xs ds bs env env' e has in
        record {
          seen = λ l. well_picked xs (picked (stay used xs) xs) o o' (stay used xs) ds alike
              may (seen l);
          bs' = z.0;
          binds = z.1;
          related = z.2;
        }

    module _ (Ok : ℕ → Type 0) (p : WordSelection) (t : Target) (o : Act) (b b' : Code) where
      abbrev after : WordSelection → Code
      after q = bind (picked_target q t) (narrow_act count A q o) b'

      -- all that it gives stays
      bind_whole :
          ((Ok' : ℕ → Type 0) → Covers Ok' (used_in_act (narrow_act count A None o))
          → Acts Ok' None o (narrow_act count A None o))
          → ((Ok' : ℕ → Type 0) → Covers Ok' (used_in_code b') → Codes Ok' p b b')
          → Covers Ok (used_in_code (after None))
          → Codes Ok p (bind t o b) (after None)
      unfolding used_in_act
      bind_whole f k cov = bind_same it plain (having Ok) t o (narrow_act count A None o) b b'
          (λ v seen l. bound_well g t o (narrow_act count A None o) v
          (still_has_block count A None o) (still_fetch count A None o) ∙ seen l)
          (f Ok (covers_right Ok (used_in_code b') (used_in_act (narrow_act count A None o)) cov))
          (k Ok (covers_left Ok (used_in_code b') (used_in_act (narrow_act count A None o))
          cov))

    -- some words of a vector go
    bind_picked : (Ok : ℕ → Type 0) (p : WordSelection) (xs : List VarId) (o : Act) (b b' : Code)
        → ((q : WordSelection) (Ok' : ℕ → Type 0) → ActFits q o
        → Covers Ok' (used_in_act (narrow_act count A q o))
        → Acts Ok' q o (narrow_act count A q o))
        → ((Ok' : ℕ → Type 0) → Covers Ok' (used_in_code b') → Codes Ok' p b b')
        → (q : Bool) → act_fits count A (stay (used_in_code b') xs) o ≡ q
        → Covers Ok
        (used_in_code
        (after Ok p (to.Vector xs) o b b' (cond q (Some (stay (used_in_code b') xs)) None)))
        → Codes Ok p (bind (to.Vector xs) o b)
        (after Ok p (to.Vector xs) o b b' (cond q (Some (stay (used_in_code b') xs)) None))
    unfolding used_in_act
    bind_picked Ok p xs o b b' f k false e cov = bind_whole Ok p (to.Vector xs) o b b'
        (λ Ok' c. f None Ok' tt c) k cov
    bind_picked Ok p xs o b b' f k true e cov =
        let used : List ℕ = used_in_code b' in
        let bs : List Bool = stay used xs in
        let o' : Act = narrow_act count A (Some bs) o in
        bind_follows it {R = λ heap. Has Ok} {R' = λ heap. Has (Used used)} {U = Picks bs}
        {V = Gives p} (to.Vector xs) (to.Vector (picked bs xs)) o o' b b'
        (f (Some bs) Ok e (covers_right Ok used (used_in_act o') cov))
        (k (Used used) (λ x h. h))
        (λ x y. binds_picked xs used o o' (still_has_block count A (Some bs) o) y.w.cells x.env
        x.env' y.bs y.values
        (λ z v u has. x.related z v (covers_left Ok used (used_in_act o') cov z u) has) y.seen
        y.binds)

    bind_goes : (Ok : ℕ → Type 0) (p : WordSelection) (t : Target) (o : Act) (b b' : Code)
        → ((q : WordSelection) (Ok' : ℕ → Type 0) → ActFits q o
        → Covers Ok' (used_in_act (narrow_act count A q o))
        → Acts Ok' q o (narrow_act count A q o))
        → ((Ok' : ℕ → Type 0) → Covers Ok' (used_in_code b') → Codes Ok' p b b')
        → Covers Ok
        (used_in_code (after Ok p t o b b' (word_selection count A t o (used_in_code b'))))
        → Codes Ok p (bind t o b)
        (after Ok p t o b b' (word_selection count A t o (used_in_code b')))
    bind_goes Ok p to.Nothing o b b' f k cov = bind_whole Ok p to.Nothing o b b'
        (λ Ok' c. f None Ok' tt c) k cov
    bind_goes Ok p (to.Node x) o b b' f k cov = bind_whole Ok p (to.Node x) o b b'
        (λ Ok' c. f None Ok' tt c) k cov
    bind_goes Ok p (to.One x) o b b' f k cov = bind_whole Ok p (to.One x) o b b'
        (λ Ok' c. f None Ok' tt c) k cov
    bind_goes Ok p (to.Vector xs) o b b' f k cov = bind_picked Ok p xs o b b' f k
        (act_fits count A (stay (used_in_code b') xs) o) refl cov

    -- ---- all pieces

    case_fits : (p : WordSelection) (v : V.Val) (as' : Arms) → ActFits p (case v as')
        → ArmsFit p as'
    unfolding act_fits
    case_fits None v as' h = tt
    case_fits (Some bs) v as' h = h

    nested_fits : (p : WordSelection) (b : Code) → ActFits p (nested b) → CodeFits p b
    unfolding act_fits
    nested_fits None b h = tt
    nested_fits (Some bs) b h = h

    end_fits : (p : WordSelection) (o : Act) → CodeFits p (end o) → ActFits p o
    unfolding act_fits
    end_fits None o h = tt
    end_fits (Some bs) o h = h

    store_fits : (p : WordSelection) (cs : List Cell) (b : Code) → CodeFits p (store cs b)
        → CodeFits p b
    unfolding act_fits
    store_fits None cs b h = tt
    store_fits (Some bs) cs b h = h

    bind_fits : (p : WordSelection) (t : Target) (o : Act) (b : Code) → CodeFits p (bind t o b)
        → CodeFits p b
    unfolding act_fits
    bind_fits None t o b h = tt
    bind_fits (Some bs) t o b h = h

    first_fits : (p : WordSelection) (s : Shape) (b : Code) (as' : Arms) → ArmsFit p (arm s b as')
        → CodeFits p b
    unfolding act_fits
    first_fits None s b as' h = tt
    first_fits (Some bs) s b as' h = and_left (code_fits count A bs b) (arms_fit count A bs as') h

    others_fit : (p : WordSelection) (s : Shape) (b : Code) (as' : Arms) → ArmsFit p (arm s b as')
        → ArmsFit p as'
    unfolding act_fits
    others_fit None s b as' h = tt
    others_fit (Some bs) s b as' h = and_right (code_fits count A bs b) (arms_fit count A bs as') h

    -- an operation without a block that is no unit
    leaf_goes : (p : WordSelection) (l : Leaf) (Ok : ℕ → Type 0)
        → ((bs : List Bool) → act_fits count A bs (leaf l) ≡ true → ⊥) → ActFits p (leaf l)
        → ActOk Ok (leaf l) → Acts Ok p (leaf l) (leaf l)
    leaf_goes None l Ok never fit ok = leaf_follows it plain (having Ok) l ok
    leaf_goes (Some bs) l Ok never fit ok = absurd (never bs fit)

    fail_goes : (p : WordSelection) (Ok : ℕ → Type 0) → Acts Ok p (leaf fail) (leaf fail)
    fail_goes p Ok = fail_follows it

    whole_unit : (p : WordSelection) (v : V.Val) (Ok : ℕ → Type 0) → ActFits p (leaf (unit v))
        → Covers Ok (used_in_val (picked_val p v)) → Acts Ok p (leaf (unit v))
        (leaf (unit (picked_val p v)))
    unfolding ActOk
    whole_unit None v Ok fit cov = leaf_follows it plain (having Ok) (unit v) (val_covered Ok v cov)
    whole_unit (Some bs) v Ok fit cov = unit_goes Ok bs v fit cov

    mutual
      unfolding narrow_act used_in_act ActOk act_fits

      act_goes : (o : Act) (p : WordSelection) (Ok : ℕ → Type 0) → ActFits p o
          → Covers Ok (used_in_act (narrow_act count A p o)) → Acts Ok p o (narrow_act count A p o)
      act_goes (case v as') p Ok fit cov = case_same it plain (having Ok) v as'
          (narrow_arms count A p as')
          (val_covered Ok v
          (covers_left Ok (used_in_val v) (used_in_arms (narrow_arms count A p as')) cov))
          (arms_go as' p Ok (case_fits p v as' fit)
          (covers_right Ok (used_in_val v) (used_in_arms (narrow_arms count A p as')) cov))
      act_goes (nested b) p Ok fit cov = nested_follows it b (narrow_code count A p b)
          (code_goes b p Ok (nested_fits p b fit) cov)
      act_goes (leaf (unit v)) p Ok fit cov = whole_unit p v Ok fit cov
      act_goes (leaf fail) p Ok fit cov = fail_goes p Ok
      act_goes (leaf (fetch a)) p Ok fit cov = leaf_goes p (fetch a) Ok
          (λ bs h. true_not_false (sym h)) fit (word_covered Ok a cov)
      act_goes (leaf (fetch_word a i)) p Ok fit cov
          = leaf_goes p (fetch_word a i) Ok (λ bs h. true_not_false (sym h)) fit
          (word_covered Ok a cov)
      act_goes (leaf (update a v)) p Ok fit cov = leaf_goes p (update a v) Ok
          (λ bs h. true_not_false (sym h)) fit (
            word_covered Ok a (covers_left Ok (used_in_word a) (used_in_val v) cov),
            val_covered Ok v (covers_right Ok (used_in_word a) (used_in_val v) cov),
          )
      act_goes (leaf (eval a)) p Ok fit cov = leaf_goes p (eval a) Ok
          (λ bs h. true_not_false (sym h)) fit (word_covered Ok a cov)
      act_goes (leaf (apply v a)) p Ok fit cov = leaf_goes p (apply v a) Ok
          (λ bs h. true_not_false (sym h)) fit (
            val_covered Ok v (covers_left Ok (used_in_val v) (used_in_word a) cov),
            word_covered Ok a (covers_right Ok (used_in_val v) (used_in_word a) cov),
          )
      act_goes (leaf (call f ws)) p Ok fit cov = leaf_goes p (call f ws) Ok
          (λ bs h. true_not_false (sym h)) fit (words_covered Ok ws cov)
      act_goes (leaf (prim f a b)) p Ok fit cov = leaf_goes p (prim f a b) Ok
          (λ bs h. true_not_false (sym h)) fit (
            word_covered Ok a (covers_left Ok (used_in_word a) (used_in_word b) cov),
            word_covered Ok b (covers_right Ok (used_in_word a) (used_in_word b) cov),
          )
      act_goes (leaf read) p Ok fit cov = leaf_goes p read Ok (λ bs h. true_not_false (sym h)) fit
          tt
      act_goes (leaf (write a)) p Ok fit cov = leaf_goes p (write a) Ok
          (λ bs h. true_not_false (sym h)) fit (word_covered Ok a cov)

      code_goes : (b : Code) (p : WordSelection) (Ok : ℕ → Type 0) → CodeFits p b
          → Covers Ok (used_in_code (narrow_code count A p b))
          → Codes Ok p b (narrow_code count A p b)
      code_goes (end o) p Ok fit cov = end_follows it o (narrow_act count A p o)
          (act_goes o p Ok (end_fits p o fit) cov)
      code_goes (store cs b) p Ok fit cov = store_same it plain (having Ok) cs b
          (narrow_code count A p b)
          (cells_covered Ok cs
          (covers_right Ok (used_in_code (narrow_code count A p b)) (used_in_cells cs) cov))
          (code_goes b p Ok (store_fits p cs b fit)
          (covers_left Ok (used_in_code (narrow_code count A p b)) (used_in_cells cs) cov))
      code_goes (bind t o b) p Ok fit cov = bind_goes Ok p t o b (narrow_code count A p b)
          (λ q Ok' fits c. act_goes o q Ok' fits c)
          (λ Ok' c. code_goes b p Ok' (bind_fits p t o b fit) c) cov

      arms_go : (as' : Arms) (p : WordSelection) (Ok : ℕ → Type 0) → ArmsFit p as'
          → Covers Ok (used_in_arms (narrow_arms count A p as'))
          → ManyArms Ok p as' (narrow_arms count A p as')
      arms_go no_arm p Ok fit cov = no_arm_same it plain (having Ok)
      arms_go (arm s b as') p Ok fit cov = arm_same it plain (having Ok) s b
          (narrow_code count A p b) as' (narrow_arms count A p as')
          (code_goes b p Ok (first_fits p s b as' fit)
          (covers_left Ok (used_in_code (narrow_code count A p b))
          (used_in_arms (narrow_arms count A p as')) cov))
          (arms_go as' p Ok (others_fit p s b as' fit)
          (covers_right Ok (used_in_code (narrow_code count A p b))
          (used_in_arms (narrow_arms count A p as')) cov))

    -- ---- procedures

    abbrev Anything : ℕ → Type 0
    Anything x = Unit {0}

    enters_too : (q : Procedure) {xs xs' : List Datum} (bs : List Binding) → Same xs xs'
        → one_each q.params xs ≡ Some bs
        → (bs' : List Binding) × (one_each q.params xs' ≡ Some bs')
        × Has Anything (with_vars bs nothing) (with_vars bs' nothing)
    enters_too q bs (same {a = xs}) e = (bs, e, λ x v ok h. h)

    given_too : {v v' : Value} → Same v v' → Seen true (is_given g v) → Seen true (is_given g v')
        × Same v v'
    given_too same seen = (seen, same)

    pub bodies_go : (f : ℕ) (qs : List Procedure) → BodiesFollow it f qs
        (map (rewritten_procedure (narrow_code count A None)) qs)
    bodies_go f [] = no_more
    bodies_go f (q ∷ qs) = one_more {f = f} {q = q}
        {r = rewritten_procedure (narrow_code count A None) q} (record {
          R = λ heap. Has Anything;
          V = Same;
          enters = λ heap xs xs' bs a e known. enters_too q bs a e;
          body = code_goes q.body None Anything tt (λ x h. tt);
          given = λ v v' u seen. given_too u seen;
        }) (bodies_go (suc f) qs)

-- ---- the whole program

module _ (g : Program) (A : Solution) (formed : Formed g) (never : CheckedRunsNeverMissing g)
    (solves : Solves (tables g) (system g) A) where
  abbrev bodies : List Procedure
  bodies = map (rewritten_procedure (narrow_code (length g.tags) A None)) g.procs

  all_lie : (i : List ℕ) (n : ℕ) → HoldsInEveryState (StateIsCovered g A)
      (world_of (checked_run g i n)).seen
  all_lie i n = subst (λ a. HoldsInEveryState (StateIsCovered g A) (world_of a).seen)
      (sym (look_agrees g i n (never i n)))
      ((covers g A (formed_is_started g formed) solves).passed i n)

  goes_likewise : (i : List ℕ) (n : ℕ) → Likewise no_deeper Same (checked_run g i n)
      (checked_run (narrow A g) i n)
  goes_likewise i n = run_follows (plan g A formed bodies)
      (λ c c' cb cf. bodies_go g A formed bodies c c' cb cf 0 g.procs) i n same same (all_lie i n)

  pub narrow_kept : CheckedRunsNeverMissing (narrow A g) × Keeps g (narrow A g)
  narrow_kept = looking_kept g (narrow A g) never
      (λ i n. likewise_kept no_deeper Same (checked_run g i n) (checked_run (narrow A g) i n)
      (goes_likewise i n))

  pub narrow_heaps : SameHeaps g (narrow A g)
  narrow_heaps i n = same_end_heaps g (narrow A g) i n Same (goes_likewise i n) (never i n)
      (narrow_kept.0 i n)
