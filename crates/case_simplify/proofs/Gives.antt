-- What is simplified is simple.
use Rattle.std.proofs.Common.{◌≡◌, ℕ, ℤ, Bool, true, false, cond, nat_eq, List, [], ◌∷◌, map, Option, Some, None, refl, sym, ap, ◌∙◌, subst, arith}
use Rattle.std.proofs.lemmas.Bool.Decides.{nat_tests}
use Rattle.seq.proofs.Lists.{none_is_some}
use Rattle.seq.proofs.Truth.{true_not_false}
use Rattle.seq.proofs.Order.{eq_from}
use Rattle.grin_syntax.specs.declared.program.VarId.{VarId}
use Rattle.grin_syntax.specs.declared.program.TagId.{TagId}
use Rattle.grin_syntax.specs.declared.program.Shape.{Shape}
use Rattle.grin_syntax.specs.declared.program.Shape.TheVariants as shape
use Rattle.grin_syntax.specs.declared.program.Word as W
use Rattle.grin_syntax.specs.declared.program.Word.TheVariants.{Var}
use Rattle.grin_syntax.specs.declared.program.Val as V
use Rattle.grin_syntax.specs.Tree.{Code, end, store, bind, Act, leaf, case, nested, Arms, no_arm, arm, Procedure, as_act}
use Rattle.grin_syntax.specs.Formed.{AllOf}
use Rattle.grin_meaning.specs.Values.{and_then}
use Rattle.grin_meaning.specs.Rewritten.{rewritten_procedure}
use Rattle.numbers.specs.Numbers.{same_number}
use Rattle.grin_rewrite.specs.WithFacts.{walk_act}
use Rattle.case_simplify.specs.Known.{Known, Tag, Number, Facts, nothing_known, note, told, first_word, second_word, known_first_word, known_second_word, note_word, known_after, facts_in_alternative}
use Rattle.case_simplify.specs.Choice.{Verdict, Takes, Passes, Open, number_verdict, verdict, by_verdict, selected_block}
use Rattle.case_simplify.specs.Simple.{simple_case, simple_act, simple_code, simple_arms}
use Rattle.case_simplify.specs.Simplified.{IsUndecidedAt, IsUndecided, SimpleAct, SimpleCode, SimpleArms}
use Rattle.case_simplify.proofs.Held.{same_number_is}
use Rattle.case_simplify.proofs.Cases.{identity_found, case_by, taken_has}

-- ---- the alternative that is taken tells nothing new

note_same : (facts : Facts) (x : VarId) (k : Known) → facts x.0 ≡ Some k → note x k facts ≡ facts
note_same facts x k e = λ i y. here y (nat_eq y x.0) refl i
  where
    here : (y : ℕ) (b : Bool) → nat_eq y x.0 ≡ b → cond b (Some k) (facts y) ≡ facts y
    here y true q = let s : y ≡ x.0 = grind (arith, nat_tests) in sym (ap facts s ∙ e)
    here y false q = refl

note_word_same : (facts : Facts) (o : Option W.Word) (k : Known) → and_then o (told facts) ≡ Some k
    → note_word o k facts ≡ facts
note_word_same facts (Some (Var x)) k e = note_same facts x k e
note_word_same facts _ k e = refl

takes_if : (b : Bool) → cond b Takes Passes ≡ Takes → b ≡ true
takes_if true e = refl
takes_if false e = cc

takes_both : (b : Bool) (r : Verdict) → cond b r Passes ≡ Takes → (b ≡ true) × (r ≡ Takes)
takes_both true r e = (refl, e)
takes_both false r e = absurd cc

number_takes : (k : ℤ) (o : Option Known) → number_verdict k o ≡ Takes → o ≡ Some (Number k)
number_takes k (Some (Number i)) e = ap (λ j. Some (Number j))
    (sym (same_number_is k i (takes_if (same_number k i) e)))
number_takes k _ e = absurd cc

noted_same : (facts : Facts) (v : V.Val) (t : TagId) (s : Shape)
    → known_first_word facts v ≡ Some (Tag t) → verdict t (known_second_word facts v) s ≡ Takes
    → facts_in_alternative v s facts ≡ facts
noted_same facts v t (shape.Node u xs) known e =
    note_word_same facts (first_word v) (Tag u)
    (known ∙ ap (λ k. Some (Tag (record { 0 = k })))
    (eq_from t.0 u.0 (takes_if (nat_eq t.0 u.0) e)))
noted_same facts v t (shape.Int k) known e =
    let z : (nat_eq t.0 0 ≡ true) × (number_verdict k (known_second_word facts v) ≡ Takes)
    = takes_both (nat_eq t.0 0) (number_verdict k (known_second_word facts v)) e in
    ap (note_word (second_word v) (Number k))
    (note_word_same facts (first_word v) (Tag (record { 0 = 0 }))
    (known ∙ ap (λ j. Some (Tag (record { 0 = j }))) (eq_from t.0 0 z.0)))
    ∙ note_word_same facts (second_word v) (Number k)
    (number_takes k (known_second_word facts v) z.1)
noted_same facts v t shape.Else known e = refl

-- ---- the shape

act_shape : (facts : Facts) (b : Code) → SimpleCode facts b → SimpleAct facts (as_act b)
unfolding SimpleAct
act_shape facts (end o) h = h
act_shape facts (store cs b) h = h
act_shape facts (bind t o b) h = h

module _ (facts : Facts) (v : V.Val) where
  taken_simple : (t : TagId) → known_first_word facts v ≡ Some (Tag t) → (as' : Arms)
      → SimpleArms facts v as' → (b : Code) → selected_block t (known_second_word facts v) as' ≡
      Some b → SimpleCode facts b
  unfolding SimpleAct
  taken_simple t known = taken_has (SimpleCode facts) (SimpleArms facts v) tt t
      (known_second_word facts v)
      (λ s b as' h. ((λ q. subst (λ k. SimpleCode k b) (noted_same facts v t s known q) h.0), h.1))

  left_open : (t : TagId) (second : Option Known) (as' : Arms) → selected_block t second as' ≡ None
      → IsUndecided t second as'
  left_open t second no_arm e = none_is_some (sym e)
  left_open t second (arm s b as') e = go (left_open t second as') (verdict t second s) e
    where
      go : (selected_block t second as' ≡ None → IsUndecided t second as') → (r : Verdict)
          → by_verdict r b (selected_block t second as') ≡ None
          → IsUndecidedAt r (IsUndecided t second as')
      go later Takes e = none_is_some (sym e)
      go later Passes e = later e
      go later Open e = tt

  case_shape : (as' : Arms) → SimpleArms facts v as' → SimpleAct facts (simple_case facts v as')
  unfolding SimpleAct
  case_shape as' h = case_by facts v as' (SimpleAct facts)
      (λ t b k e. act_shape facts b (taken_simple t k as' h b e)) (λ u e q. tt)
      (λ n q. (
        (λ t k. left_open t (known_second_word facts v) as' (n t k)),
        (λ f. true_not_false (sym (identity_found v as' f) ∙ q)),
        h,
      ))

mutual
  unfolding walk_act SimpleAct

  act_simple : (o : Act) (facts : Facts) → SimpleAct facts (simple_act facts o)
  act_simple (case v as') facts = case_shape facts v (simple_arms facts v as')
      (arms_simple v as' facts)
  act_simple (nested b) facts = code_simple b facts
  act_simple (leaf l) facts = tt

  code_simple : (b : Code) (facts : Facts) → SimpleCode facts (simple_code facts b)
  code_simple (end o) facts = act_simple o facts
  code_simple (store cs b) facts = code_simple b facts
  code_simple (bind t o b) facts =
      (act_simple o facts, code_simple b (known_after t (simple_act facts o) facts))

  arms_simple : (v : V.Val) (as' : Arms) (facts : Facts)
      → SimpleArms facts v (simple_arms facts v as')
  arms_simple v no_arm facts = tt
  arms_simple v (arm s b as') facts =
      (code_simple b (facts_in_alternative v s facts), arms_simple v as' facts)

pub procs_simple : (qs : List Procedure) → AllOf (λ q. SimpleCode nothing_known q.body)
    (map (rewritten_procedure (simple_code nothing_known)) qs)
procs_simple [] = tt
procs_simple (q ∷ qs) = (code_simple q.body nothing_known, procs_simple qs)
