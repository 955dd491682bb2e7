-- A walk over items, each of which adds to what was met before it.
use Rattle.std.proofs.Common.{◌≡◌, ℕ, ◌+◌, ◌<◌, ◌≤◌, List, [], ◌∷◌, ◌++◌, length, drop, get_or, sym, ap, ◌∙◌}
use Rattle.std.proofs.lemmas.List.{drop_more, drop_all}

module _ {O X A : Type 0} (G : O → List X → O) (all : List A → List X) where
  pub one_more : (one : A → List X) → ((o : O) (xs ys : List X) → G o (xs ++ ys) ≡ G (G o xs) ys)
      → ((a : A) (as' : List A) → all (a ∷ as') ≡ one a ++ all as')
      → (items : List A) (i : ℕ) (x : A) → i < length items → x ≡ get_or items i x → (o o' w : O)
      → o' ≡ G o (one x) → G o (all (drop i items)) ≡ w → G o' (all (drop (i + 1) items)) ≡ w
  one_more one glue step items i x l is o o' w e h =
      let rest = drop (i + 1) items in
      let d : drop i items ≡ x ∷ rest = drop_more items i x l ∙ ap (λ y. y ∷ rest) (sym is) in
      ap (λ q. G q (all rest)) e ∙ sym (glue o (one x) (all rest)) ∙ ap (G o) (sym (step x rest)) ∙
      ap (λ t. G o (all t)) (sym d) ∙ h

  pub no_more : ((o : O) → G o [] ≡ o) → all [] ≡ [] → (items : List A) (i : ℕ) → length items ≤ i
      → (o w : O) → G o (all (drop i items)) ≡ w → o ≡ w
  no_more nothing none items i l o w h = sym (nothing o) ∙ ap (G o) (sym none) ∙ ap
      (λ t. G o (all t)) (sym (drop_all i items l)) ∙ h

-- two pieces, one behind the other
pub two : {O X : Type 0} (G : O → List X → O) →
    ((o : O) (xs ys : List X) → G o (xs ++ ys) ≡ G (G o xs) ys) → (xs ys : List X) (o o' w : O)
    → o' ≡ G o xs → w ≡ G o' ys → w ≡ G o (xs ++ ys)
two G glue xs ys o o' w a b = b ∙ ap (λ q. G q ys) a ∙ sym (glue o xs ys)
