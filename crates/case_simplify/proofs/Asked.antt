-- What is asked of the rule: what is known speaks of variables in scope, and a case does what
-- becomes of it, by what its alternatives do.
use Rattle.std.proofs.Common.{◌≡◌, true, Some, refl, ◌∙◌, subst}
use Rattle.seq.proofs.Lists.{none_is_some, some_is}
use Rattle.seq.proofs.Truth.{and_left, and_right}
use Rattle.grin_syntax.specs.declared.program.TagId.{TagId}
use Rattle.grin_syntax.specs.declared.program.Shape.{Shape}
use Rattle.grin_syntax.specs.declared.program.Word as W
use Rattle.grin_syntax.specs.declared.program.Val as V
use Rattle.grin_syntax.specs.declared.program.Val.TheVariants.{One}
use Rattle.grin_syntax.specs.Tree.{Code, end, store, bind, Act, leaf, unit, case, nested, fail, Arms, no_arm, arm, Program, as_act}
use Rattle.grin_syntax.specs.Formed.{Scope, with_word_variables, ActFormed, CodeFormed, ArmsFormed}
use Rattle.grin_meaning.specs.Values.{Value, fit_of}
use Rattle.grin_meaning.specs.Run.{Calls, act_by}
use Rattle.grin_meaning.specs.Follows.{Same, same}
use Rattle.grin_meaning.proofs.Names.{Any, any_val}
use Rattle.grin_meaning.proofs.Back.{CallsBack}
use Rattle.grin_meaning.proofs.Rules.{Relation, Plan, Setting, CallsFollow, ActFollows, CodeFollows, ArmsFollow, case_follows, no_arm_follows, arm_follows}
use Rattle.grin_meaning.proofs.Procedures.{side_by_side}
use Rattle.grin_meaning.proofs.Plain.{word_has, value_has}
use Rattle.grin_meaning.proofs.OneSided.{ArmsBecome, case_becomes, arm_taken, none_taken}
use Rattle.grin_meaning.proofs.Bodies.{AnyState}
use Rattle.grin_meaning.proofs.Bindings.{keys}
use Rattle.grin_rewrite.proofs.KeptByWords.{Kept}
use Rattle.grin_rewrite.proofs.FactText.{Patterns, Places, CasesKeep}
use Rattle.grin_rewrite.proofs.FactSides.{plan, ArmsGo, none_goes, more_go, Holding}
use Rattle.grin_rewrite.proofs.FactSound.{FactsAreSound, inlined_vectors}
use Rattle.grin_rewrite.proofs.SameWords.{words_stay}
use Rattle.case_simplify.specs.Known.{Tag, Facts, nothing_known, known_first_word, known_second_word, facts_in_alternative}
use Rattle.case_simplify.specs.Choice.{Verdict, Takes, Passes, Open, verdict, by_verdict, selected_block}
use Rattle.case_simplify.specs.Simple.{returns_val, all_arms_return, simple_case, simplifying}
use Rattle.case_simplify.proofs.Cases.{gives_val_is, case_by, case_has}
use Rattle.case_simplify.proofs.Held.{Says, says}
use Rattle.case_simplify.proofs.Scoped.{Inside, inside_words, noted_inside, after_inside}
use Rattle.case_simplify.proofs.Knowing.{Knowing, OnOne, knowing_on, bound, fits_knowing, fits_both}

-- ---- both programs

abbrev pub unchanged : Facts → W.Word → W.Word
unchanged facts a = a

module _ (g : Program) where
  -- a failure, or the block of an alternative, takes the place of a case
  block_formed : (scope : Scope) (b : Code) → CodeFormed g scope b → ActFormed g scope (as_act b)
  unfolding ActFormed
  block_formed scope (end o) h = h
  block_formed scope (store cs b) h = h
  block_formed scope (bind t o b) h = h

  fail_formed : (scope : Scope) → CodeFormed g scope (end (leaf fail))
  unfolding ActFormed
  fail_formed scope = tt

  -- patterns bind nothing, so an alternative is well formed where its case stands
  split_formed : (scope : Scope) (s : Shape) (b : Code) (as' : Arms)
      → Patterns inlined_vectors (arm s b as') × ArmsFormed g scope (arm s b as')
      → CodeFormed g scope b × (Patterns inlined_vectors as' × ArmsFormed g scope as')
  unfolding ActFormed
  split_formed scope s b as' h =
      (subst (λ xs. CodeFormed g (with_word_variables xs scope) b) h.0.0 h.1.1, (h.0.1, h.1.2))

  pub places : Places simplifying unchanged g nothing_known inlined_vectors
  unfolding ActFormed
  places = record {
    Place = Inside;
    begins = λ scope y k e. none_is_some e;
    stores = λ facts scope xs. inside_words facts xs scope;
    after = λ facts scope t o f. after_inside g facts t o scope;
    inside = λ facts scope v s fv fs. noted_inside g scope facts v s fv;
    words = λ facts scope at a f. f;
    cases = λ facts scope v as' fv k h. case_has (ActFormed g scope) (CodeFormed g scope)
        (λ bs. Patterns inlined_vectors bs × ArmsFormed g scope bs) (block_formed scope)
        (fail_formed scope) (split_formed scope) facts v as' (k, h) (fv, h);
  }

  abbrev pub sides : Plan
  sides = plan simplifying unchanged g nothing_known inlined_vectors places AnyState

  module _ (c c' : Calls) (cb : CallsBack AnyState c) (cf : CallsFollow sides c c') where
    abbrev it : Setting
    it = side_by_side sides c c' cb cf

    abbrev Going : Facts → V.Val → Arms → Arms → Type 0
    Going = ArmsGo simplifying unchanged g nothing_known inlined_vectors places AnyState (Knowing g)
        it

    abbrev OnBoth : Facts → V.Val → Value → Value → Relation
    OnBoth facts v y y' c env env' = Same y y' × OnOne g facts v y c env env'

    abbrev never : Relation
    never c env env' = ⊥

    same_fit : (s : Shape) {y y' : Value} → Same y y' → fit_of g s y' ≡ fit_of g s y
    same_fit s same = refl

    -- a case that stays
    case_stays : (facts : Facts) (v : V.Val) {as' bs' : Arms} → Going facts v as' bs'
        → ArmsFollow it (OnBoth facts v) Same as' bs'
    case_stays facts v none_goes = no_arm_follows it no_arm
    case_stays facts v (more_go s b b' as' bs' bare f k)
        = arm_follows it {U = OnBoth facts v} {U' = OnBoth facts v}
        {R' = Knowing g (facts_in_alternative v s facts)} s s b b' as' bs' f (case_stays facts v k)
        (λ y y' x bs e known. fits_both g facts v s x.w.cells x.env x.env' bs bare AnyState
        sides.procs c c' cb cf x.related.0 x.related.1 e)
        (λ y y' x e. (same_fit s x.related.0 ∙ e, x.related))

    -- a case that becomes an alternative
    takes_one : (facts : Facts) (v : V.Val) (t : TagId) → known_first_word facts v ≡ Some (Tag t)
        → {as' bs' : Arms} → Going facts v as' bs' → (b' : Code)
        → selected_block t (known_second_word facts v) bs' ≡ Some b'
        → ArmsBecome it (OnOne g facts v) Same as' b'
    takes_one facts v t known none_goes d e = none_taken it d
    takes_one facts v t known (more_go s b b' as' bs' bare f k) d e
        = go (takes_one facts v t known k d) (verdict t (known_second_word facts v) s) refl e
      where
        go : (selected_block t (known_second_word facts v) bs' ≡ Some d
            → ArmsBecome it (OnOne g facts v) Same as' d) → (r : Verdict)
            → verdict t (known_second_word facts v) s ≡ r
            → by_verdict r b' (selected_block t (known_second_word facts v) bs') ≡ Some d
            → ArmsBecome it (OnOne g facts v) Same (arm s b as') d
        go later Takes r e = subst (λ k. ArmsBecome it (OnOne g facts v) Same (arm s b as') k)
            (some_is e)
            (arm_taken it {U = OnOne g facts v} {U' = λ y. never}
            {R' = Knowing g (facts_in_alternative v s facts)} s b as' b' f
            (record { by = λ y x. absurd x.related })
            (λ y x bs f known. fits_knowing g facts v s x.w.cells x.env x.env' bs bare y x.related
            f)
            (λ y x f. subst (λ r. Says g r (fit_of g s y)) r
            (says g x.env v y x.related.1 facts x.related.0.1 t known s bare) f))
        go later Passes r e = arm_taken it {U = OnOne g facts v} {U' = OnOne g facts v} {R' = never}
            s b as' d (record { by = λ x. absurd x.related }) (later e)
            (λ y x bs f p. subst (λ r. Says g r (fit_of g s y)) r
            (says g x.env v y x.related.1 facts x.related.0.1 t known s bare) bs f)
            (λ y x f. x.related)
        go later Open r e = none_is_some e

    -- a case that becomes a unit
    gives_one : (facts : Facts) (v u : V.Val) {as' bs' : Arms} → Going facts v as' bs'
        → all_arms_return u bs' ≡ true → ArmsBecome it (OnOne g facts v) Same as'
        (end (leaf (unit u)))
    gives_one facts v u none_goes e = none_taken it (end (leaf (unit u)))
    gives_one facts v u (more_go s b b' as' bs' bare f k) e
        = arm_taken it {U = OnOne g facts v} {U' = OnOne g facts v}
        {R' = Knowing g (facts_in_alternative v s facts)} s b as' (end (leaf (unit u)))
        (subst (CodeFollows it (Knowing g (facts_in_alternative v s facts)) Same b)
        (gives_val_is u b' (and_left (returns_val u b') (all_arms_return u bs') e)) f)
        (gives_one facts v u k (and_right (returns_val u b') (all_arms_return u bs') e))
        (λ y x bs f known. fits_knowing g facts v s x.w.cells x.env x.env' bs bare y x.related f)
        (λ y x f. x.related)

    as_act_follows : {R : Relation} (o : Act) (b : Code) → ActFollows it R Same o (nested b)
        → ActFollows it R Same o (as_act b)
    unfolding act_by
    as_act_follows o (end o') f = record { by = λ x. f.by x }
    as_act_follows o (store cs b) f = f
    as_act_follows o (bind t o' b) f = f

    becomes : (facts : Facts) (v : V.Val) (as' : Arms) (b : Code)
        → ArmsBecome it (OnOne g facts v) Same as' b
        → ActFollows it (Knowing g facts) Same (case v as') (as_act b)
    becomes facts v as' b f = as_act_follows (case v as') b
        (case_becomes it {R = Knowing g facts} {U = OnOne g facts v} v as' b f
        (λ x y e. (x.related, e)))

    pub case_goes : (facts : Facts) (v : V.Val) (as' bs' : Arms) → Going facts v as' bs'
        → ActFollows it (Knowing g facts) Same (case v as') (simple_case facts v bs')
    case_goes facts v as' bs' k = case_by facts v bs'
        (ActFollows it (Knowing g facts) Same (case v as'))
        (λ t b q e. becomes facts v as' b (takes_one facts v t q k b e))
        (λ u e q. becomes facts v as' (end (leaf (unit u))) (gives_one facts v u k q))
        (λ n q. case_follows it {R = Knowing g facts} {U = OnBoth facts v} v v as' bs'
        (case_stays facts v k)
        (λ x y e. (
          y,
          value_has g Any x.env x.env' x.related.0 v (any_val v) y e,
          (same, (x.related, e)),
        )))

  -- ---- the whole rule

  cases_keep : (q : Kept) → CasesKeep simplifying unchanged q
  cases_keep q facts v v' as' bs' h k = case_has (q.act (case v as'))
      (λ b. q.act (case v as') (as_act b)) (q.arms as') (λ b h. h) (q.fails v as')
      (λ s b bs h. (q.takes v as' s b bs h, q.passes as' s b bs h)) facts v' bs' k
      (q.cases v v' as' bs' h k)

  holding : Holding simplifying unchanged g nothing_known inlined_vectors places AnyState
  unfolding places
  holding = record {
    Holds = Knowing g;
    has = λ facts c env env' r. r.0;
    begins = λ c env. ((λ x v _ k. k), (λ x k h. none_is_some h));
    words = λ facts s env' p r a d. word_has g Any s.env env' r.0 a (any_val (One a)) d;
    stored = λ facts scope bs c c' env env' at once. knowing_on g facts scope (keys bs) c c' bs env
        env' at once refl;
    bound = bound g;
    inlined = λ o h. h;
    no_nodes = λ t n. n;
    cases = λ c c' cb cf facts scope v as' bs' at same. case_goes c c' cb cf facts v as' bs';
  }

  pub sound : FactsAreSound simplifying unchanged g nothing_known AnyState
  sound = record {
    by = words_stay simplifying (λ facts l. refl) (λ facts v. refl) (λ facts cs. refl);
    cases
        = cases_keep;
    places = places;
    holding = holding;
  }
