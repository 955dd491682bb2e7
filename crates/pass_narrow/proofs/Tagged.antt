-- A word that a solution allows to go stands for no tag, in states that lie in the solution.
use Rattle.std.proofs.Common.{◌≡◌, ℕ, Bool, true, false, nat_eq, List, [], ◌∷◌, length, Option, Some, None, slice_get, refl, sym, ap, ◌∙◌, subst, arith}
use Rattle.std.proofs.lemmas.Bool.Decides.{nat_tests}
use Rattle.seq.proofs.Lists.{none_is_some, some_is, get_within}
use Rattle.seq.proofs.Truth.{true_not_false, not_true, not_both}
use Rattle.seq.proofs.Member.{none_in}
use Rattle.seq.specs.Lists.{In}
use Rattle.grin_syntax.specs.declared.program.Word as W
use Rattle.grin_syntax.specs.declared.program.Word.TheVariants.{Lit, Var, Global, TagWord}
use Rattle.grin_syntax.specs.declared.program.GlobalCell.{GlobalCell}
use Rattle.grin_syntax.specs.Tree.{Program}
use Rattle.grin_meaning.specs.Values.{Datum, number, tag, cell, Value, node, words, State, and_then, only_word, word_of, words_of}
use Rattle.flow_system.specs.declared.fact.Place.TheVariants.{Var as var}
use Rattle.flow_system.specs.Solution.{Solution, At}
use Rattle.flow_system.specs.Covers.{StateIsCovered, ValueIn}
use Rattle.flow_system.proofs.Lying.{from_some}
use Rattle.update_special.specs.Updates.{may_have_tag, tags_of}
use Rattle.update_special.proofs.Special.{tag_listed}
use Rattle.pass_narrow.specs.Picked.{picked, first_satisfies, no_tag_left, is_no_tag, is_no_number_tag, may_go}
use Rattle.pass_narrow.proofs.Picks.{words_picked, NoTag, NoNumberTag, FirstIs, MayGo}

module _ (g : Program) (A : Solution) (s : State) (lies : StateIsCovered g A s) where
  abbrev count : ℕ
  count = length g.tags

  none_is : (ts : List ℕ) → no_tag_left ts ≡ true → ts ≡ []
  none_is [] e = refl
  none_is (t ∷ ts) e = true_not_false (sym e)

  -- a variable that holds a tag has it in its set
  stands : (x t : ℕ) → and_then (s.env x) only_word ≡ Some (tag t) → may_have_tag A x t ≡ true
  stands x t e = go (s.env x) refl e
    where
      one : (ds : List Datum) → s.env x ≡ Some (words ds) → only_word (words ds) ≡ Some (tag t)
          → may_have_tag A x t ≡ true
      one [] q e = none_is_some e
      one (d ∷ d' ∷ ds) q e = none_is_some e
      one (d ∷ []) q e =
          let at : ValueIn g s.heap (At A (var x)) (words (tag t ∷ []))
          = from_some (ValueIn g s.heap (At A (var x))) (s.env x) (words (tag t ∷ []))
          (lies.variables x) (q ∙ ap (λ d. Some (words (d ∷ []))) (some_is e)) in
          at.0.there

      go : (o : Option Value) → s.env x ≡ o → and_then o only_word ≡ Some (tag t)
          → may_have_tag A x t ≡ true
      go None q e = none_is_some e
      go (Some (node m)) q e = none_is_some e
      go (Some (words ds)) q e = one ds q e

  no_tag : (a : W.Word) (d : Datum) → word_of g s.env a ≡ Some d → is_no_tag count A a ≡ true
      → NoTag g d
  no_tag (Lit k) d e h = λ t i q there. (let r : number k ≡ tag t = some_is e ∙ q in cc)
  no_tag (TagWord u) d e h = true_not_false (sym h)
  no_tag (Global k) d e h = λ t i q there. go (slice_get g.globals k) t q e
    where
      go : (o : Option GlobalCell) (t : ℕ) → d ≡ tag t → and_then o (λ c. Some (cell k)) ≡ Some d
          → ⊥
      go None t q e = none_is_some e
      go (Some c) t q e = let r : cell k ≡ tag t = some_is e ∙ q in cc
  no_tag (Var x) d e h = λ t i q there. none_in (subst (In t) (none_is (tags_of count A x.0) h)
      (tag_listed g A s lies x (record { tag = t; fields = [] })
      (record { there = e ∙ ap Some q; known = get_within g.tags t i there })))

  no_number_tag : (a : W.Word) (d : Datum) → word_of g s.env a ≡ Some d
      → is_no_number_tag count A a ≡ true → NoNumberTag g d
  no_number_tag (Lit k) d e h = λ q. (let r : number k ≡ tag 0 = some_is e ∙ q in cc)
  no_number_tag (TagWord u) d e h = λ q.
      (let r : tag u.0 ≡ tag 0 = some_is e ∙ q in let z : u.0 ≡ 0 = cc in let n
      : nat_eq u.0 0 ≡ true = grind (arith, nat_tests)
      in not_both (nat_eq u.0 0) n (not_true (nat_eq u.0 0) h))
  no_number_tag (Global k) d e h = λ q. go (slice_get g.globals k) q e
    where
      go : (o : Option GlobalCell) → d ≡ tag 0 → and_then o (λ c. Some (cell k)) ≡ Some d → ⊥
      go None q e = none_is_some e
      go (Some c) q e = let r : cell k ≡ tag 0 = some_is e ∙ q in cc
  no_number_tag (Var x) d e h = λ q. not_both (may_have_tag A x.0 0) (stands x.0 0 (e ∙ ap Some q))
      (not_true (may_have_tag A x.0 0) h)

  first_holds : (f : W.Word → Bool) (P : Datum → Type 0)
      → ((a : W.Word) (d : Datum) → word_of g s.env a ≡ Some d → f a ≡ true → P d)
      → (ws : List W.Word) (ds : List Datum) → words_of g s.env ws ≡ Some ds
      → first_satisfies f ws ≡ true → FirstIs g P ds
  first_holds f P each [] ds e h = subst (FirstIs g P) (some_is e) tt
  first_holds f P each (a ∷ ws) ds e h = go (word_of g s.env a) refl (words_of g s.env ws) e
    where
      go : (o : Option Datum) → word_of g s.env a ≡ o → (q : Option (List Datum))
          → and_then o (λ d. and_then q (λ ds. Some (d ∷ ds))) ≡ Some ds → FirstIs g P ds
      go None p q e = none_is_some e
      go (Some d) p None e = none_is_some e
      go (Some d) p (Some es) e = subst (FirstIs g P) (some_is e) (each a d p h)

  pub may_go_holds : (bs : List Bool) (ws : List W.Word) (ds : List Datum)
      → words_of g s.env ws ≡ Some ds → may_go count A bs ws ≡ true → MayGo g bs ds
  may_go_holds [] ws ds e h = tt
  may_go_holds (false ∷ bs) ws ds e h = first_holds (is_no_tag count A) (NoTag g) no_tag
      (picked (false ∷ bs) ws) (picked (false ∷ bs) ds) (words_picked g s.env (false ∷ bs) ws ds e)
      h
  may_go_holds (true ∷ []) ws ds e h = first_holds (is_no_number_tag count A) (NoNumberTag g)
      no_number_tag ws ds e h
  may_go_holds (true ∷ false ∷ bs) ws ds e h = first_holds (is_no_number_tag count A)
      (NoNumberTag g) no_number_tag ws ds e h
  may_go_holds (true ∷ true ∷ bs) ws ds e h = tt
