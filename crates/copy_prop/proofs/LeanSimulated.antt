-- A program without its idle statements does the same.
use Rattle.std.proofs.Common.{◌≡◌, ℕ, suc, Bool, true, false, cond, not, ◌&&◌, List, [], ◌∷◌, ◌++◌, map, Some, refl, sym, ap, ◌∙◌}
use Rattle.seq.proofs.Truth.{not_both, and_left, and_right}
use Rattle.grin_syntax.specs.declared.program.Cell.{Cell}
use Rattle.grin_syntax.specs.declared.program.Target.{Target}
use Rattle.grin_syntax.specs.declared.program.Word as W
use Rattle.grin_syntax.specs.declared.program.Word.TheVariants.{Lit, Var, Global, TagWord}
use Rattle.grin_syntax.specs.declared.program.Val as V
use Rattle.grin_syntax.specs.declared.program.Val.TheVariants.{NodeVar, Node, Vector, One}
use Rattle.grin_syntax.specs.Tree.{Code, end, store, bind, Act, leaf, unit, fetch, fetch_word, update, eval, apply, call, prim, read, write, case, nested, fail, Arms, no_arm, arm, Procedure, Program}
use Rattle.grin_syntax.specs.Binders.{target_vars}
use Rattle.grin_meaning.specs.Values.{Datum, Value, Binding, with_vars, one_each}
use Rattle.grin_meaning.specs.Run.{Calls}
use Rattle.grin_meaning.specs.Checks.{has_block, is_fetch, is_node_target, not_delayed, is_given, is_bound_well}
use Rattle.grin_meaning.specs.Follows.{Same, same}
use Rattle.grin_meaning.specs.Names.{WordOk, WordsOk, ValOk, CellsOk, ActOk}
use Rattle.grin_meaning.specs.Rewritten.{rewritten_procedure}
use Rattle.grin_meaning.specs.Keeps.{Keeps}
use Rattle.grin_meaning.specs.Looking.{checked_run, CheckedRunsNeverMissing}
use Rattle.grin_meaning.proofs.Back.{CallsBack}
use Rattle.grin_meaning.proofs.Beside.{no_deeper, Likewise, Seen}
use Rattle.grin_meaning.proofs.Rules.{Plan, Setting, CallsFollow, ActFollows, CodeFollows, ArmsFollow, nested_follows, end_follows}
use Rattle.grin_meaning.proofs.Procedures.{BodiesFollow, no_more, one_more, side_by_side, run_follows}
use Rattle.grin_meaning.proofs.Plain.{Has, IsPlain, On, having, leaf_follows, store_same, bind_same, case_same, no_arm_same, arm_same}
use Rattle.grin_meaning.proofs.Bodies.{AnyState, every_any}
use Rattle.grin_meaning.proofs.KeptBy.{likewise_kept, looking_kept}
use Rattle.copy_prop.proofs.EndHeaps.{same_end_heaps}
use Rattle.grin_meaning.proofs.OneSided.{left_follows}
use Rattle.copy_prop.specs.Copied.{SameHeaps}
use Rattle.copy_prop.specs.Lean.{used_in_word, used_in_words, used_in_val, used_in_cells, used_in_act, used_in_code, used_in_arms, has_no_effect, is_idle, unless, without_idle_act, without_idle_code, without_idle_arms, lean}
use Rattle.copy_prop.proofs.Used.{none_absent}
use Rattle.copy_prop.proofs.Bound.{others_stay, names_target}
use Rattle.seq.specs.Lists.{is_among}
use Rattle.grin_meaning.specs.Pieces.{HasNoEffect}
use Rattle.seq.proofs.Counted.{among_first, among_left, among_right}
use Rattle.grin_meaning.proofs.Paired.{nothing}
use Rattle.grin_meaning.proofs.Bindings.{keys}

-- ---- what a piece uses is of some kind

abbrev pub Covers : (ℕ → Type 0) → List ℕ → Type 0
Covers Ok ys = (x : ℕ) → is_among x ys ≡ true → Ok x

pub covers_left : (Ok : ℕ → Type 0) (xs ys : List ℕ) → Covers Ok (xs ++ ys) → Covers Ok xs
covers_left Ok xs ys c x h = c x (among_left x xs ys h)

pub covers_right : (Ok : ℕ → Type 0) (xs ys : List ℕ) → Covers Ok (xs ++ ys) → Covers Ok ys
covers_right Ok xs ys c x h = c x (among_right x xs ys h)

module _ (Ok : ℕ → Type 0) where
  pub word_covered : (a : W.Word) → Covers Ok (used_in_word a) → WordOk Ok a
  word_covered (Var x) c = c x.0 (among_first x.0 [])
  word_covered (Lit k) c = tt
  word_covered (Global i) c = tt
  word_covered (TagWord t) c = tt

  pub words_covered : (ws : List W.Word) → Covers Ok (used_in_words ws) → WordsOk Ok ws
  words_covered [] c = tt
  words_covered (a ∷ ws) c = (
    word_covered a (covers_left Ok (used_in_word a) (used_in_words ws) c),
    words_covered ws (covers_right Ok (used_in_word a) (used_in_words ws) c),
  )

  pub val_covered : (v : V.Val) → Covers Ok (used_in_val v) → ValOk Ok v
  val_covered (NodeVar x) c = c x.0 (among_first x.0 [])
  val_covered (Node t ws) c = words_covered ws c
  val_covered (Vector ws) c = words_covered ws c
  val_covered (One a) c = word_covered a c

  pub cells_covered : (cs : List Cell) → Covers Ok (used_in_cells cs) → CellsOk Ok cs
  cells_covered [] c = tt
  cells_covered (x ∷ cs) c = (
    val_covered x.val (covers_left Ok (used_in_val x.val) (used_in_cells cs) c),
    cells_covered cs (covers_right Ok (used_in_val x.val) (used_in_cells cs) c),
  )

-- ---- operations stay what they are

still_is : (o : Act) → has_no_effect o ≡ true → HasNoEffect o
still_is (leaf (unit v)) h = tt
still_is (leaf (fetch a)) h = tt
still_is (leaf (fetch_word a i)) h = tt
still_is (leaf (prim p a b)) h = tt
still_is (leaf _) h = cc
still_is (case v as') h = cc
still_is (nested b) h = cc

pub still_has_block : (o : Act) → has_block (without_idle_act o) ≡ has_block o
unfolding without_idle_act
still_has_block (leaf l) = refl
still_has_block (case v as') = refl
still_has_block (nested b) = refl

pub still_fetch : (o : Act) → is_fetch (without_idle_act o) ≡ is_fetch o
unfolding without_idle_act
still_fetch (leaf l) = refl
still_fetch (case v as') = refl
still_fetch (nested b) = refl

pub bound_well : (g : Program) (t : Target) (o o' : Act) (v : Value) → has_block o' ≡ has_block o
    → is_fetch o' ≡ is_fetch o → is_bound_well g t o' v ≡ is_bound_well g t o v
bound_well g t o o' v h k = λ i. cond (h i) (is_given g v) true && cond
    (is_node_target t && not (k i)) (not_delayed g v) true

module _ (g : Program) where
  abbrev procs : List Procedure
  procs = map (rewritten_procedure without_idle_code) g.procs

  abbrev plan : Plan
  plan = record {
    looks = true;
    K = no_deeper;
    P = AnyState;
    Args = λ f. Same;
    Result = λ f. Same;
    g
        = g;
    procs = procs;
  }

  plain : IsPlain plan
  plain = record
      { heaps_are = λ h. h; same_heaps = λ c. same; args = λ f xs. same; results = λ f v v' u. u }

  module _ (c c' : Calls) (cb : CallsBack AnyState c) (cf : CallsFollow plan c c') where
    abbrev it : Setting
    it = side_by_side plan c c' cb cf

    abbrev Acts : (ℕ → Type 0) → Act → Act → Type 0
    Acts Ok = ActFollows it (λ heap. Has Ok) Same

    abbrev Codes : (ℕ → Type 0) → Code → Code → Type 0
    Codes Ok = CodeFollows it (λ heap. Has Ok) Same

    abbrev ManyArms : (ℕ → Type 0) → Arms → Arms → Type 0
    ManyArms Ok = ArmsFollow it (On (λ heap. Has Ok)) Same

    -- a statement that stays, or is left out
    bind_goes : (Ok : ℕ → Type 0) (t : Target) (o : Act) (b : Code)
        → ((Ok' : ℕ → Type 0) → Covers Ok' (used_in_act (without_idle_act o))
        → Acts Ok' o (without_idle_act o)) →
        ((Ok' : ℕ → Type 0) → Covers Ok' (used_in_code (without_idle_code b))
        → Codes Ok' b (without_idle_code b))
        → (q : Bool) → is_idle t o (used_in_code (without_idle_code b)) ≡ q
        → Covers Ok
        (used_in_code (unless q (bind t (without_idle_act o)) (without_idle_code b)))
        → Codes Ok (bind t o b) (unless q (bind t (without_idle_act o)) (without_idle_code b))
    unfolding used_in_act
    bind_goes Ok t o b f k false e cov = bind_same it plain (having Ok) t o (without_idle_act o) b
        (without_idle_code b)
        (λ v seen l. bound_well g t o (without_idle_act o) v (still_has_block o) (still_fetch o) ∙
        seen l)
        (f Ok (covers_right Ok (used_in_code (without_idle_code b))
        (used_in_act (without_idle_act o)) cov))
        (k Ok (covers_left Ok (used_in_code (without_idle_code b))
        (used_in_act (without_idle_act o)) cov))
    bind_goes Ok t o b f k true e cov =
        left_follows it
        {R' = λ heap. Has (λ x. is_among x (used_in_code (without_idle_code b)) ≡ true)} t o b
        (without_idle_code b) (still_is o (and_left (has_no_effect o) _ e))
        (k (λ x. is_among x (used_in_code (without_idle_code b)) ≡ true) (λ x h. h))
        (λ x v bs gave seen binds known y u used has. x.related y u (cov y used)
        (sym (others_stay bs x.env y
        (here y used bs (is_among y (keys bs)) refl (names_target g t v bs binds))) ∙ has))
      where
        here : (y : ℕ) → is_among y (used_in_code (without_idle_code b)) ≡ true
            → (bs : List Binding) (z : Bool) → is_among y (keys bs) ≡ z → keys bs ≡ target_vars t
            → is_among y (keys bs) ≡ false
        here y used bs false s n = s
        here y used bs true s n = absurd
            (not_both _ used
            (none_absent y (target_vars t) (used_in_code (without_idle_code b))
            (and_right (has_no_effect o) _ e) (ap (is_among y) (sym n) ∙ s)))

    mutual
      unfolding without_idle_act used_in_act ActOk

      act_goes : (o : Act) (Ok : ℕ → Type 0) → Covers Ok (used_in_act (without_idle_act o))
          → Acts Ok o (without_idle_act o)
      act_goes (case v as') Ok cov = case_same it plain (having Ok) v as' (without_idle_arms as')
          (val_covered Ok v
          (covers_left Ok (used_in_val v) (used_in_arms (without_idle_arms as')) cov))
          (arms_goes as' Ok
          (covers_right Ok (used_in_val v) (used_in_arms (without_idle_arms as')) cov))
      act_goes (nested b) Ok cov = nested_follows it b (without_idle_code b) (code_goes b Ok cov)
      act_goes (leaf (unit v)) Ok cov = leaf_follows it plain (having Ok) (unit v)
          (val_covered Ok v cov)
      act_goes (leaf (fetch a)) Ok cov = leaf_follows it plain (having Ok) (fetch a)
          (word_covered Ok a cov)
      act_goes (leaf (fetch_word a i)) Ok cov = leaf_follows it plain (having Ok) (fetch_word a i)
          (word_covered Ok a cov)
      act_goes (leaf (update a v)) Ok cov = leaf_follows it plain (having Ok) (update a v) (
        word_covered Ok a (covers_left Ok (used_in_word a) (used_in_val v) cov),
        val_covered Ok v (covers_right Ok (used_in_word a) (used_in_val v) cov),
      )
      act_goes (leaf (eval a)) Ok cov = leaf_follows it plain (having Ok) (eval a)
          (word_covered Ok a cov)
      act_goes (leaf (apply v a)) Ok cov = leaf_follows it plain (having Ok) (apply v a) (
        val_covered Ok v (covers_left Ok (used_in_val v) (used_in_word a) cov),
        word_covered Ok a (covers_right Ok (used_in_val v) (used_in_word a) cov),
      )
      act_goes (leaf (call f ws)) Ok cov = leaf_follows it plain (having Ok) (call f ws)
          (words_covered Ok ws cov)
      act_goes (leaf (prim p a b)) Ok cov = leaf_follows it plain (having Ok) (prim p a b) (
        word_covered Ok a (covers_left Ok (used_in_word a) (used_in_word b) cov),
        word_covered Ok b (covers_right Ok (used_in_word a) (used_in_word b) cov),
      )
      act_goes (leaf read) Ok cov = leaf_follows it plain (having Ok) read tt
      act_goes (leaf (write a)) Ok cov = leaf_follows it plain (having Ok) (write a)
          (word_covered Ok a cov)
      act_goes (leaf fail) Ok cov = leaf_follows it plain (having Ok) fail tt

      code_goes : (b : Code) (Ok : ℕ → Type 0) → Covers Ok (used_in_code (without_idle_code b))
          → Codes Ok b (without_idle_code b)
      code_goes (end o) Ok cov = end_follows it o (without_idle_act o) (act_goes o Ok cov)
      code_goes (store cs b) Ok cov = store_same it plain (having Ok) cs b (without_idle_code b)
          (cells_covered Ok cs
          (covers_right Ok (used_in_code (without_idle_code b)) (used_in_cells cs) cov))
          (code_goes b Ok
          (covers_left Ok (used_in_code (without_idle_code b)) (used_in_cells cs) cov))
      code_goes (bind t o b) Ok cov = bind_goes Ok t o b (λ Ok' cov'. act_goes o Ok' cov')
          (λ Ok' cov'. code_goes b Ok' cov') (is_idle t o (used_in_code (without_idle_code b))) refl
          cov

      arms_goes : (as' : Arms) (Ok : ℕ → Type 0) → Covers Ok (used_in_arms (without_idle_arms as'))
          → ManyArms Ok as' (without_idle_arms as')
      arms_goes no_arm Ok cov = no_arm_same it plain (having Ok)
      arms_goes (arm s b as') Ok cov = arm_same it plain (having Ok) s b (without_idle_code b) as'
          (without_idle_arms as')
          (code_goes b Ok
          (covers_left Ok (used_in_code (without_idle_code b))
          (used_in_arms (without_idle_arms as')) cov))
          (arms_goes as' Ok
          (covers_right Ok (used_in_code (without_idle_code b))
          (used_in_arms (without_idle_arms as')) cov))

    abbrev Anything : ℕ → Type 0
    Anything x = Unit {0}

    enters_too : (q : Procedure) {xs xs' : List Datum} (bs : List Binding) → Same xs xs'
        → one_each q.params xs ≡ Some bs
        → (bs' : List Binding) × (one_each q.params xs' ≡ Some bs')
        × Has Anything (with_vars bs nothing) (with_vars bs' nothing)
    enters_too q bs (same {a = xs}) e = (bs, e, λ x v ok h. h)

    given_too : {v v' : Value} → Same v v' → Seen true (is_given g v) → Seen true (is_given g v')
        × Same v v'
    given_too same seen = (seen, same)

    bodies_go : (f : ℕ) (qs : List Procedure) → BodiesFollow it f qs
        (map (rewritten_procedure without_idle_code) qs)
    bodies_go f [] = no_more
    bodies_go f (q ∷ qs) = one_more {f = f} {q = q} {r = rewritten_procedure without_idle_code q}
        (record {
          R = λ heap. Has Anything;
          V = Same;
          enters = λ heap xs xs' bs a e known. enters_too q bs a e;
          body = code_goes q.body Anything (λ x h. tt);
          given = λ v v' u seen. given_too u seen;
        }) (bodies_go (suc f) qs)

  goes_likewise : (i : List ℕ) (n : ℕ) → Likewise no_deeper Same (checked_run g i n)
      (checked_run (lean g) i n)
  goes_likewise i n = run_follows plan (λ c c' cb cf. bodies_go c c' cb cf 0 g.procs) i n same same
      (every_any _)

  pub lean_kept : CheckedRunsNeverMissing g → CheckedRunsNeverMissing (lean g) × Keeps g (lean g)
  lean_kept never = looking_kept g (lean g) never
      (λ i n. likewise_kept no_deeper Same (checked_run g i n) (checked_run (lean g) i n)
      (goes_likewise i n))

  pub lean_heaps : CheckedRunsNeverMissing g → SameHeaps g (lean g)
  lean_heaps never i n = same_end_heaps g (lean g) i n Same (goes_likewise i n) (never i n)
      ((lean_kept never).0 i n)
