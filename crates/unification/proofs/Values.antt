-- What terms stand for under a substitution, and trees that respect terms.
use Rattle.std.proofs.Common.{◌≡◌, ◌<◌, ℕ, zero, suc, List, [], ◌∷◌, Option, Some, None, refl, sym, ap, ◌∙◌, arith}
use Rattle.seq.specs.Lists.{In, here, there}
use Rattle.unification.specs.declared.term.Symbol.{Symbol}
use Rattle.unification.specs.declared.term.Term.{Term}
use Rattle.unification.specs.Classes.{RespectsStructure, PairsAreEqual}
use Rattle.unification.specs.Solutions.{Substitution, Solves}
use Rattle.unification.specs.Terms.{symbol_of, arguments_of, AreEarlier, tree_below, tree, equations}
use Rattle.unification.specs.Trees.{Tree, Trees, Open, Made, AndTree, substituted, all_substituted, trees}

pub trees_same : (f g : ℕ → Tree) (xs : List ℕ) → ((x : ℕ) → In x xs → f x ≡ g x)
    → trees f xs ≡ trees g xs
trees_same f g [] h = refl
trees_same f g (x ∷ xs) h =
    ap (λ t. AndTree t (trees f xs)) (h x here) ∙ ap (AndTree (g x))
    (trees_same f g xs (λ y i. h y (there i)))

pub under_trees : (σ : Substitution) (f : ℕ → Tree) (xs : List ℕ)
    → all_substituted σ (trees f xs) ≡ trees (λ x. substituted σ (f x)) xs
under_trees σ f [] = refl
under_trees σ f (x ∷ xs) = ap (AndTree (substituted σ (f x))) (under_trees σ f xs)

module _ (terms : List Term) where
  -- a term by what it is
  pub made_below : (n i : ℕ) (s : Symbol) → symbol_of terms i ≡ Some s
      → tree_below terms (suc n) i ≡ Made s (trees (tree_below terms n) (arguments_of terms i))
  made_below n i s e = ap
      (λ (o : Option Symbol). elim o
      [ Some s ↦ Made s (trees (tree_below terms n) (arguments_of terms i)) | None ↦ Open i ]) e

  pub open_below : (n i : ℕ) → symbol_of terms i ≡ None → tree_below terms n i ≡ Open i
  open_below zero i e = refl
  open_below (suc n) i e = ap
      (λ (o : Option Symbol). elim o
      [ Some s ↦ Made s (trees (tree_below terms n) (arguments_of terms i)) | None ↦ Open i ]) e

  -- by cases of what a term is
  pub either : (P : Type 0) (i : ℕ) → ((s : Symbol) → symbol_of terms i ≡ Some s → P)
      → (symbol_of terms i ≡ None → P) → P
  either P i some none = go (symbol_of terms i) refl
    where
      go : (o : Option Symbol) → symbol_of terms i ≡ o → P
      go (Some s) e = some s e
      go None e = none e

  pub same_below : AreEarlier terms → (n m i : ℕ) → i < n → i < m
      → tree_below terms n i ≡ tree_below terms m i
  same_below earlier zero m i h k = absurd (omega arith)
  same_below earlier (suc n) zero i h k = absurd (omega arith)
  same_below earlier (suc n) (suc m) i h k = either
      (tree_below terms (suc n) i ≡ tree_below terms (suc m) i) i
      (λ s e. made_below n i s e
      ∙ ap (Made s) (trees_same (tree_below terms n) (tree_below terms m) (arguments_of terms i)
      (λ x j. let lt : x < i = earlier i x j in same_below earlier n m x (omega arith)
      (omega arith)))
      ∙ sym (made_below m i s e))
      (λ e. open_below (suc n) i e ∙ sym (open_below (suc m) i e))

  pub made_tree : AreEarlier terms → (i : ℕ) (s : Symbol) → symbol_of terms i ≡ Some s
      → tree terms i ≡ Made s (trees (tree terms) (arguments_of terms i))
  made_tree earlier i s e = made_below i i s e
      ∙ ap (Made s) (trees_same (tree_below terms i) (tree terms) (arguments_of terms i)
      (λ x j. let lt : x < i = earlier i x j in same_below earlier i (suc x) x lt (omega arith)))

  -- what terms are under a substitution
  pub value_respects : AreEarlier terms → (τ : Substitution)
      → RespectsStructure terms (λ i. substituted τ (tree terms i))
  value_respects earlier τ i s e = ap (substituted τ) (made_tree earlier i s e)
      ∙ ap (Made s) (under_trees τ (tree terms) (arguments_of terms i))

  pub value_open : (τ : Substitution) (i : ℕ) → symbol_of terms i ≡ None
      → substituted τ (tree terms i) ≡ τ i
  value_open τ i e = ap (substituted τ) (open_below (suc i) i e)

  -- Trees that respect terms are what a substitution that puts them for variables makes of the
  -- terms.
  pub value_below : AreEarlier terms → (v : ℕ → Tree) (σ : Substitution) → RespectsStructure terms v
      → (b : ℕ) → ((i : ℕ) → i < b → symbol_of terms i ≡ None → σ i ≡ v i)
      → (n i : ℕ) → i < n → i < b → substituted σ (tree_below terms n i) ≡ v i
  value_below earlier v σ r b h zero i k l = absurd (omega arith)
  value_below earlier v σ r b h (suc n) i k l = either
      (substituted σ (tree_below terms (suc n) i) ≡ v i) i
      (λ s e. ap (substituted σ) (made_below n i s e)
      ∙ ap (Made s) (under_trees σ (tree_below terms n) (arguments_of terms i)
      ∙ trees_same (λ x. substituted σ (tree_below terms n x)) v (arguments_of terms i)
      (λ x j. let lt : x < i = earlier i x j in value_below earlier v σ r b h n x (omega arith)
      (omega arith)))
      ∙ sym (r i s e))
      (λ e. ap (substituted σ) (open_below (suc n) i e) ∙ h i l e)

  -- solutions are trees that are equal
  pub solves_equal : (τ : Substitution) (pairs : List (ℕ × ℕ)) → Solves τ (equations terms pairs)
      → PairsAreEqual (λ i. substituted τ (tree terms i)) pairs
  solves_equal τ [] s = tt
  solves_equal τ (p ∷ ps) s = (s.0, solves_equal τ ps s.1)

  pub equal_solves : (σ : Substitution) (v : ℕ → Tree) (pairs : List (ℕ × ℕ))
      → ((p : ℕ × ℕ) → In p pairs → (substituted σ (tree terms p.0) ≡ v p.0)
      × (substituted σ (tree terms p.1) ≡ v p.1))
      → PairsAreEqual v pairs → Solves σ (equations terms pairs)
  equal_solves σ v [] h e = tt
  equal_solves σ v (p ∷ ps) h e =
      let q = h p here in
      (q.0 ∙ e.0 ∙ sym q.1, equal_solves σ v ps (λ y i. h y (there i)) e.1)
