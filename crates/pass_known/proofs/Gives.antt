-- In a program of known words nothing that is told is named, and no more updates are open.
use Rattle.std.proofs.Common.{◌≡◌, ℕ, ◌≤◌, Bool, true, false, cond, List, [], ◌∷◌, Option, Some, None, refl, arith}
use Rattle.grin_syntax.specs.declared.program.VarId.{VarId}
use Rattle.grin_syntax.specs.declared.program.Val.{Val}
use Rattle.grin_syntax.specs.declared.program.Val.TheVariants.{Vector, One}
use Rattle.grin_syntax.specs.declared.program.Word.{Word}
use Rattle.grin_syntax.specs.declared.program.Word.TheVariants.{Lit, Var, Global, TagWord}
use Rattle.grin_syntax.specs.Tree.{Arms, no_arm, arm, Procedure}
use Rattle.grin_syntax.specs.Formed.{AllOf, params_scope}
use Rattle.grin_meaning.specs.Names.{WordOk}
use Rattle.grin_meaning.specs.Ready.{EachAct, EachCode, EachArms, EveryBodyIsOfKind, vectorised_kind}
use Rattle.flow_system.specs.Solution.{Solution}
use Rattle.pass_ground.specs.OpenUpdates.{variable_of, tag_variable, one_if_some}
use Rattle.grin_rewrite.proofs.NamedByWords.{val_ok, cells_ok, leaf_ok}
use Rattle.grin_rewrite.proofs.Walked.{Relating, code_walked}
use Rattle.grin_rewrite.proofs.KeptByWords.{FewerArms, none, keeps, leaves}
use Rattle.grin_rewrite.proofs.FactText.{procs_by}
use Rattle.case_simplify.specs.declared.known.Known.{Known}
use Rattle.case_simplify.specs.declared.known.Known.TheVariants.{Tag, Number}
use Rattle.case_simplify.specs.Known.{Facts, nothing_known}
use Rattle.pass_known.specs.Told.{told_of, literal_of, literal_or, known_word, known_val}
use Rattle.pass_known.specs.Needed.{arm_may_match, tags_left_after, needed_arms, AllArmsNeeded}
use Rattle.pass_known.specs.Known.{literals_for_known}
use Rattle.pass_known.specs.KnownWords.{Untold, KnownAct, KnownCode, KnownArms}
use Rattle.pass_known.proofs.Asked.{needed_fewer}

module _ (count : ℕ) (A : Solution) where
  -- ---- nothing that is told is named

  module _ (facts : Facts) where
    abbrev Ok : ℕ → Type 0
    Ok = Untold count A facts

    word_untold : (a : Word) → WordOk Ok (known_word count A facts a)
    word_untold (Lit k) = tt
    word_untold (Global i) = tt
    word_untold (TagWord t) = tt
    word_untold (Var x) = go (told_of count A facts x.0) refl
      where
        literal_ok : (k : Known) → WordOk Ok (literal_of k)
        literal_ok (Tag t) = tt
        literal_ok (Number k) = tt

        go : (o : Option Known) → told_of count A facts x.0 ≡ o → WordOk Ok (literal_or x o)
        go None e = e
        go (Some k) e = literal_ok k

    fewer_known : (v : Val) {as' bs' : Arms} → FewerArms as' bs' → KnownArms count A facts v as'
        → KnownArms count A facts v bs'
    unfolding KnownAct
    fewer_known v none h = tt
    fewer_known v (keeps s b as' bs' k) h = (h.0, fewer_known v k h.1)
    fewer_known v (leaves s b as' bs' k) h = fewer_known v k h.1

  -- each alternative that stays is needed
  arms_needed : (as' : Arms) (left : Option (List ℕ)) → AllArmsNeeded left (needed_arms left as')
  arms_needed no_arm left = tt
  arms_needed (arm s b as') left = go (arm_may_match left s) refl
      (arms_needed as' (tags_left_after left s)) (arms_needed as' left)
    where
      go : (c : Bool) → arm_may_match left s ≡ c → AllArmsNeeded (tags_left_after left s)
          (needed_arms (tags_left_after left s) as') → AllArmsNeeded left (needed_arms left as')
          → AllArmsNeeded left
          (cond c (arm s b (needed_arms (tags_left_after left s) as')) (needed_arms left as'))
      go true e h k = (e, h)
      go false e h k = k

  untold_relating : Relating (literals_for_known count A)
  unfolding KnownAct EachAct
  untold_relating = record {
    act = λ facts scope o o'. EachAct vectorised_kind o → KnownAct count A facts o';
    code = λ facts scope b b'. EachCode vectorised_kind b → KnownCode count A facts b';
    arms = λ facts scope v as' bs'. EachArms vectorised_kind as' → KnownArms count A facts v bs';
    leafs = λ facts scope l n. leaf_ok (known_word count A facts) (Untold count A facts)
        (word_untold facts) l n;
    cases = λ facts scope v as' bs' h n. (
      val_ok (known_word count A facts) (Untold count A facts) (word_untold facts) v n.1,
      arms_needed bs' _,
      fewer_known facts (known_val count A facts v) (needed_fewer _ bs')
          (h n.2),
    );
    blocks = λ facts scope b b' h n. h n.1;
    ends = λ facts scope o o' h. h;
    stores = λ facts scope cs b b' h n. (
      cells_ok (known_word count A facts) (Untold count A facts) (word_untold facts) cs n.0,
      h n.1,
    );
    binds = λ facts scope t o b b' h k n. (h n.1, k n.2);
    none_left = λ facts scope v n. tt;
    more = λ facts scope v s b b' as' bs' h k n. (h n.1, k n.2);
  }

  pub procs_untold : (qs : List Procedure) → EveryBodyIsOfKind vectorised_kind qs
      → AllOf (λ q. KnownCode count A nothing_known q.body)
      (procs_by (literals_for_known count A) (known_word count A) nothing_known qs)
  unfolding untold_relating
  procs_untold [] n = tt
  procs_untold (q ∷ qs) n = (
    code_walked (literals_for_known count A) untold_relating q.body nothing_known
        (params_scope q) n.0,
    procs_untold qs n.1,
  )

  -- ---- updates without a literal tag

  abbrev pub opens : Val → ℕ
  opens v = one_if_some (tag_variable v)

  some_one : (o : Option VarId) → one_if_some o ≤ 1
  some_one None = omega arith
  some_one (Some x) = omega arith

  word_open : (facts : Facts) (a : Word) → one_if_some (variable_of (known_word count A facts a)) ≤
      one_if_some (variable_of a)
  word_open facts (Var x) = some_one (variable_of (known_word count A facts (Var x)))
  word_open facts _ = omega arith

  pub fewer_open : (facts : Facts) (v : Val) → opens (known_val count A facts v) ≤ opens v
  fewer_open facts (Vector (a ∷ ws)) = word_open facts a
  fewer_open facts (One a) = word_open facts a
  fewer_open facts _ = omega arith
