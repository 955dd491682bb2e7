-- What is asked of the rule: that what is known at a place speaks of the program and its variables,
-- and that a word, what is bound and a case do what they did.
use Rattle.std.proofs.Common.{◌≡◌, ℕ, Bool, true, false, cond, List, length, Option, Some, None, refl, ◌∙◌, subst, sym, ap}
use Rattle.seq.proofs.Lists.{none_is_some}
use Rattle.grin_syntax.specs.declared.program.Word.{Word}
use Rattle.grin_syntax.specs.declared.program.Word.TheVariants.{Lit, Var, Global, TagWord}
use Rattle.grin_syntax.specs.Tree.{Arms, no_arm, arm, Program, case}
use Rattle.grin_syntax.specs.Formed.{Scope, WordFormed, ActFormed, Formed}
use Rattle.grin_syntax.specs.declared.program.Shape.{Shape}
use Rattle.grin_syntax.specs.declared.program.Val.{Val}
use Rattle.grin_meaning.specs.Values.{Datum, Value, Env, HeapCell, State, fit_of, word_of, value_of}
use Rattle.grin_meaning.specs.Run.{Calls}
use Rattle.grin_meaning.specs.Follows.{Same, same}
use Rattle.grin_meaning.proofs.Names.{Any}
use Rattle.grin_meaning.proofs.Back.{CallsBack}
use Rattle.grin_meaning.proofs.Rules.{Plan, Here, Setting, CallsFollow, ActFollows, ArmsFollow, case_follows, no_arm_follows, arm_follows}
use Rattle.grin_meaning.proofs.Procedures.{side_by_side}
use Rattle.grin_meaning.proofs.Plain.{word_has}
use Rattle.grin_meaning.proofs.OneSided.{arm_left}
use Rattle.grin_meaning.proofs.Bindings.{keys}
use Rattle.flow_system.specs.Solution.{Solution}
use Rattle.pass_ground.specs.OpenUpdates.{tag_variable}
use Rattle.grin_rewrite.proofs.KeptByWords.{FewerArms, none, keeps, leaves, Kept, fewer_kept}
use Rattle.grin_rewrite.proofs.FactText.{fewer_formed, Places, CasesKeep}
use Rattle.grin_rewrite.proofs.FactSides.{plan, value_too, ArmsGo, none_goes, more_go, Holding}
use Rattle.grin_rewrite.proofs.FactSound.{FactsAreSound, inlined_vectors}
use Rattle.case_simplify.specs.declared.known.Known.{Known}
use Rattle.case_simplify.specs.declared.known.Known.TheVariants.{Tag, Number}
use Rattle.case_simplify.specs.Known.{Facts, nothing_known, facts_in_alternative}
use Rattle.case_simplify.proofs.Held.{datum_of}
use Rattle.case_simplify.proofs.Scoped.{Inside, inside_words, noted_inside, after_inside}
use Rattle.case_simplify.proofs.Knowing.{Knowing, OnOne, knowing_on, bound, fits_both}
use Rattle.pass_known.specs.Told.{only_tag, or_else, told_of, literal_of, literal_or, known_word, known_val}
use Rattle.pass_known.specs.Needed.{arm_may_match, tags_left_after, needed_arms, tags_at}
use Rattle.pass_known.specs.Known.{literals_for_known}
use Rattle.pass_known.proofs.Sound.{Sound, AllSound, nothing_sound, noted_sound, after_sound}
use Rattle.pass_known.proofs.Soles.{IsOnlyTag, is_only_tag}
use Rattle.pass_known.proofs.Fitting.{Left, left_after, never_taken}
use Rattle.pass_known.proofs.Tells.{Tells, told_datum}

-- alternatives that are not needed go
pub needed_fewer : (left : Option (List ℕ)) (as' : Arms) → FewerArms as' (needed_arms left as')
needed_fewer left no_arm = none
needed_fewer left (arm s b as') = go (arm_may_match left s)
    (needed_fewer (tags_left_after left s) as') (needed_fewer left as')
  where
    go : (c : Bool) → FewerArms as' (needed_arms (tags_left_after left s) as')
        → FewerArms as' (needed_arms left as') → FewerArms (arm s b as')
        (cond c (arm s b (needed_arms (tags_left_after left s) as')) (needed_arms left as'))
    go true h k = keeps s b as' (needed_arms (tags_left_after left s) as') h
    go false h k = leaves s b as' (needed_arms left as') k

literal_is : (g : Program) (env : Env) (k : Known) → word_of g env (literal_of k) ≡ Some
    (datum_of g k)
literal_is g env (Tag t) = refl
literal_is g env (Number k) = refl

module _ (g : Program) (A : Solution) (formed : Formed g) where
  abbrev count : ℕ
  count = length g.tags

  only_sound : (x : ℕ) (k : Known) → only_tag count A x ≡ Some k → Sound g k
  only_sound x k e = let o : IsOnlyTag count A x k = is_only_tag count A x k e
      in subst (Sound g) o.is o.below

  told_sound : (facts : Facts) → AllSound g facts → (x : ℕ) (k : Known)
      → told_of count A facts x ≡ Some k → Sound g k
  told_sound facts h x k e = go (facts x) refl e
    where
      go : (o : Option Known) → facts x ≡ o → or_else o (only_tag count A x) ≡ Some k → Sound g k
      go None q e = only_sound x k e
      go (Some j) q e = h x k (q ∙ e)

  word_formed : (facts : Facts) (scope : Scope) → AllSound g facts → (a : Word)
      → WordFormed g scope a → WordFormed g scope (known_word count A facts a)
  word_formed facts scope sound (Lit k) f = f
  word_formed facts scope sound (Global i) f = f
  word_formed facts scope sound (TagWord t) f = f
  word_formed facts scope sound (Var x) f = go (told_of count A facts x.0) refl
    where
      literal_formed : (k : Known) → Sound g k → WordFormed g scope (literal_of k)
      literal_formed (Tag t) s = s
      literal_formed (Number k) s = tt

      go : (o : Option Known) → told_of count A facts x.0 ≡ o → WordFormed g scope (literal_or x o)
      go None q = f
      go (Some k) q = literal_formed k (told_sound facts sound x.0 k q)

  -- what is known at a place speaks of variables in scope, and of tags of the program
  places : Places (literals_for_known count A) (known_word count A) g nothing_known inlined_vectors
  unfolding ActFormed
  places = record {
    Place = λ facts scope. Inside facts scope × AllSound g facts;
    begins = λ scope. ((λ y k e. none_is_some e), nothing_sound g);
    stores = λ facts scope xs h. (inside_words facts xs scope h.0, h.1);
    after = λ facts scope t o f h.
        (after_inside g facts t o scope h.0, after_sound g scope facts t o f h.1);
    inside = λ facts scope v s fv fs h.
        (noted_inside g scope facts v s fv h.0, noted_sound g formed facts v s fs h.1);
    words = λ facts scope h. word_formed facts scope h.1;
    cases = λ facts scope v as' fv k h. (fv, fewer_formed g scope (needed_fewer _ as') h);
  }

  -- ---- words

  abbrev sides : Plan
  sides = plan (literals_for_known count A) (known_word count A) g nothing_known inlined_vectors
      places (Tells g A)

  word_too : (facts : Facts) (s : State) (env' : Env) → Tells g A s
      → Knowing g facts s.heap s.env env' → (a : Word) (d : Datum) → word_of g s.env a ≡ Some d
      → word_of g env' (known_word count A facts a) ≡ Some d
  word_too facts s env' tells r (Lit k) d e = e
  word_too facts s env' tells r (Global i) d e = e
  word_too facts s env' tells r (TagWord t) d e = e
  word_too facts s env' tells r (Var x) d e = go (told_of count A facts x.0) refl
    where
      go : (o : Option Known) → told_of count A facts x.0 ≡ o
          → word_of g env' (literal_or x o) ≡ Some d
      go None q = word_has g Any s.env env' r.0 (Var x) tt d e
      go (Some k) q = literal_is g env' k ∙ ap Some
          (sym (told_datum g A s tells facts r.1 x k d q e))

  -- ---- cases

  module _ (c c' : Calls) (cb : CallsBack (Tells g A) c) (cf : CallsFollow sides c c') where
    abbrev st : Setting
    st = side_by_side sides c c' cb cf

    abbrev Going : Facts → Val → Arms → Arms → Type 0
    Going = ArmsGo (literals_for_known count A) (known_word count A) g nothing_known inlined_vectors
        places (Tells g A) (Knowing g) st

    -- over the value of the case
    abbrev OnBoth : Facts → Val → Option (List ℕ) → Value → Value → List HeapCell → Env → Env
        → Type 0
    OnBoth facts v left y y' cells env env' = Same y y' × OnOne g facts v y cells env env'
        × Left g left y

    same_fit : (s : Shape) {y y' : Value} → Same y y' → fit_of g s y' ≡ fit_of g s y
    same_fit s same = refl

    -- an alternative that stays, or one that no run takes
    arms_follow : (facts : Facts) (v : Val) (left : Option (List ℕ)) {as' bs' : Arms}
        → Going facts v as' bs' → ArmsFollow st (OnBoth facts v left) Same as'
        (needed_arms left bs')
    arms_follow facts v left none_goes = no_arm_follows st no_arm
    arms_follow facts v left (more_go s b b' as' bs' bare f k)
        = go (arm_may_match left s) refl (arms_follow facts v (tags_left_after left s) k)
        (arms_follow facts v left k)
      where
        go : (t : Bool) → arm_may_match left s ≡ t → ArmsFollow st
            (OnBoth facts v (tags_left_after left s)) Same as'
            (needed_arms (tags_left_after left s) bs')
            → ArmsFollow st (OnBoth facts v left) Same as' (needed_arms left bs')
            → ArmsFollow st (OnBoth facts v left) Same (arm s b as')
            (cond t (arm s b' (needed_arms (tags_left_after left s) bs'))
            (needed_arms left bs'))
        go true e next same_left = arm_follows st {U = OnBoth facts v left}
            {U' = OnBoth facts v (tags_left_after left s)}
            {R' = Knowing g (facts_in_alternative v s facts)} s s b b' as'
            (needed_arms (tags_left_after left s) bs') f next
            (λ y y' x bs e known. fits_both g facts v s x.w.cells x.env x.env' bs bare (Tells g A)
            sides.procs c c' cb cf x.related.0 x.related.1 e)
            (λ y y' x e. (
              same_fit s x.related.0 ∙ e,
              (x.related.0, x.related.1, left_after g left s y bare e x.related.2),
            ))
        go false e next same_left = arm_left st {U = OnBoth facts v left} {U' = OnBoth facts v left}
            s b as' (needed_arms left bs')
            (λ y y' x bs q. never_taken g left s y bs bare e q x.related.2) (λ y y' x q. x.related)
            same_left

    case_goes : (facts : Facts) (v : Val) (as' bs' : Arms)
        → ((x : Here sides (Knowing g facts)) (y : Value) → value_of g x.env v ≡ Some y
        → value_of g x.env' (known_val count A facts v) ≡ Some y)
        → Going facts (known_val count A facts v) as' bs'
        → ActFollows st (Knowing g facts) Same (case v as')
        (case (known_val count A facts v)
        (needed_arms (tags_at count A (tag_variable (known_val count A facts v))) bs'))
    case_goes facts v as' bs' goes k =
        let v' : Val = known_val count A facts v in
        let left : Option (List ℕ) = tags_at count A (tag_variable v') in
        case_follows st {R = Knowing g facts} {U = OnBoth facts v' left} v v' as'
        (needed_arms left bs') (arms_follow facts v' left k)
        (λ x y e.
        let s : State = record { env = x.env; heap = x.w.cells } in
        let there : value_of g x.env v' ≡ Some y = value_too g (known_word count A facts) x.env
        x.env (λ z u ok h. h) (word_too facts s x.env x.known ((λ z u ok h. h), x.related.1)) v
        y e in
        (y, goes x y e, (same, (x.related, there), x.known.values v' y there)))

  -- ---- the whole rule

  cases_keep : (q : Kept) → CasesKeep (literals_for_known count A) (known_word count A) q
  cases_keep q facts v v' as' bs' h k =
      let left : Option (List ℕ) = tags_at count A (tag_variable v') in
      q.cases v v' as' (needed_arms left bs') h
      (q.again as' bs' (needed_arms left bs') k (fewer_kept q (needed_fewer left bs')))

  holding : Holding (literals_for_known count A) (known_word count A) g nothing_known
      inlined_vectors places (Tells g A)
  unfolding places
  holding = record {
    Holds = Knowing g;
    has = λ facts c env env' r. r.0;
    begins = λ c env. ((λ x v _ k. k), (λ x k h. none_is_some h));
    words = word_too;
    stored = λ facts scope bs c c' env env' at once r. knowing_on g facts scope (keys bs) c c' bs
        env env' at.0 once refl r;
    bound = λ facts scope t o v bs c c' env env' at. bound g facts scope t o v bs c c' env env'
        at.0;
    inlined = λ o h. h;
    cases = λ c c' cb cf facts scope v as' bs' at. case_goes c c' cb cf facts v as' bs';
    no_nodes = λ t n. n;
  }

  pub sound : FactsAreSound (literals_for_known count A) (known_word count A) g nothing_known
      (Tells g A)
  sound = record {
    by = record { leafs = λ facts l. refl; values = λ facts v. refl; cells = λ facts cs. refl };
    cases = cases_keep;
    places = places;
    holding = holding;
  }
