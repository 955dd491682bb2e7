-- Candidates for the tags of a value, by what kind of value it is.
use Rattle.std.proofs.Common.{◌≡◌, ℕ, Bool, true, false, ◌||◌, nat_eq, List, [], ◌∷◌, map, Some, None, slice_get, refl, sym, subst, inl, inr, ⊎_elim, arith}
use Rattle.std.specs.Prelude.{◌⊎◌, ◌↔◌}
use Rattle.std.specs.List.Sorted.{IsStrictlyIncreasing}
use Rattle.std.proofs.lemmas.Bool.Decides.{nat_tests}
use Rattle.grin_syntax.specs.declared.program.TagId.{TagId}
use Rattle.grin_syntax.specs.declared.program.VarId.{VarId}
use Rattle.grin_syntax.specs.declared.program.Word as W
use Rattle.grin_syntax.specs.declared.program.Word.TheVariants.{TagWord}
use Rattle.grin_syntax.specs.declared.program.Val as V
use Rattle.grin_syntax.specs.declared.program.Val.TheVariants.{NodeVar, Node, Vector, One}
use Rattle.grin_syntax.specs.Tree.{Program}
use Rattle.flow_system.specs.declared.fact.Element.TheVariants.{Tag as tag}
use Rattle.flow_system.specs.declared.fact.Place.TheVariants.{Var as var}
use Rattle.flow_system.specs.declared.fact.Part.TheVariants.{Tags as tags, Word as word}
use Rattle.flow_system.specs.Solution.{Solution, among, At}
use Rattle.inline_theory.specs.Applications.{word_has}
use Rattle.seq.specs.Lists.{In, here}
use Rattle.seq.proofs.Member.{none_in}
use Rattle.seq.proofs.Truth.{and_left, or_from}
use Rattle.apply_inline.specs.Applied.{Candidates}

same : (t t' : ℕ) → nat_eq t t' ≡ true → In t (t' ∷ [])
same t t' e = let s : t ≡ t' = grind (arith, nat_tests) in subst (λ u. In u (t' ∷ [])) (sym s) here

pub one_ascends : (t : ℕ) → IsStrictlyIncreasing (t ∷ [])
one_ascends t k lt = absurd (omega arith)

or_cases : (a b : Bool) → (a || b) ≡ true → a ≡ true ⊎ b ≡ true
or_cases true b e = inl refl
or_cases false b e = inr e

module _ (p : Program) (A : Solution) where
  pub own_tag : (w : W.Word) (t : TagId) (ts : List TagId) → w ≡ TagWord t → ts ≡ t ∷ [] → (s : ℕ)
      → word_has p A s w ≡ true → In s (map (λ t. t.0) ts)
  own_tag w t ts e f s h = subst (λ l. In s (map (λ t. t.0) l)) (sym f)
      (same s t.0 (subst (λ w. word_has p A s w ≡ true) e h))

  pub of_node : (v : V.Val) (t : TagId) (ws : List W.Word) (ts : List TagId) → v ≡ Node t ws
      → ts ≡ t ∷ [] → Candidates p A v (map (λ t. t.0) ts)
  of_node v t ws ts e f = subst (λ v. Candidates p A v (map (λ t. t.0) ts)) (sym e)
      (subst (λ l. Candidates p A (Node t ws) (map (λ t. t.0) l)) (sym f) (record {
        ascending = one_ascends t.0;
        all = λ s h. same s t.0 h;
        fitting = λ s i m is. refl;
      }))

  pub of_variable : (v : V.Val) (x : VarId) (ts : List ℕ) → v ≡ NodeVar x → IsStrictlyIncreasing ts
      → ((t : ℕ) → In t ts ↔ (At A (var x.0) tags (tag t) ⊎ At A (var x.0) (word 0) (tag t)))
      → Candidates p A v ts
  of_variable v x ts e up exact = subst (λ v. Candidates p A v ts) (sym e) (record {
    ascending = up;
    all = λ t h. (exact t).1
        (⊎_elim (λ a. inl (record { there = a })) (λ b. inr (record { there = b }))
        (or_cases (among (tag t) (A (var x.0) tags)) (among (tag t) (A (var x.0) (word 0))) h));
    fitting = λ t i m is. sym
        (or_from (among (tag t) (A (var x.0) tags)) (among (tag t) (A (var x.0) (word 0)))
        (⊎_elim (λ a. inl a.there) (λ b. inr b.there) ((exact t).0 m)));
  })

  pub of_word : (v : V.Val) (a : W.Word) (ts : List ℕ) → v ≡ One a → IsStrictlyIncreasing ts
      → ((t : ℕ) → word_has p A t a ≡ true → In t ts) → Candidates p A v ts
  of_word v a ts e up all = subst (λ v. Candidates p A v ts) (sym e) (record {
    ascending = up;
    all = λ t h. all t (and_left (word_has p A t a) _ h);
    fitting = λ t i m is. rw is refl;
  })

  pub of_words : (v : V.Val) (ws : List W.Word) (a : W.Word) (ts : List ℕ) → v ≡ Vector ws
      → slice_get ws 0 ≡ Some a → IsStrictlyIncreasing ts
      → ((t : ℕ) → word_has p A t a ≡ true → In t ts) → Candidates p A v ts
  of_words v [] a ts e f up all = cc
  of_words v (b ∷ ws) a ts e f up all = subst (λ v. Candidates p A v ts) (sym e) (record {
    ascending = up;
    all = λ t h. all t
        (subst (λ c. word_has p A t c ≡ true) (let s : b ≡ a = cc in s)
        (and_left (word_has p A t b) _ h));
    fitting = λ t i m is. rw is refl;
  })

  pub of_no_words : (v : V.Val) (ws : List W.Word) → v ≡ Vector ws → slice_get ws 0 ≡ None
      → Candidates p A v []
  of_no_words v [] e f = subst (λ v. Candidates p A v []) (sym e)
      (record {
        ascending = λ k lt. absurd (omega arith);
        all = λ t h. cc;
        fitting
            = λ t i m is. none_in m;
      })
  of_no_words v (b ∷ ws) e f = cc
