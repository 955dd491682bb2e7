-- Trees of classes, piece by piece.
use Rattle.std.proofs.Common.{◌≡◌, ◌<◌, ◌≤◌, ◌+◌, ℕ, suc, List, [], ◌∷◌, ◌++◌, length, Option, Some, None, refl, sym, ap, ◌∙◌, subst, ⊎_elim, arith, length-append}
use Rattle.seq.specs.Lists.{In, here, there}
use Rattle.seq.proofs.Lists.{append_nil, append_again}
use Rattle.seq.proofs.Member.{none_in, in_left, in_right, in_split}
use Rattle.unification.specs.declared.classes.Classes.{Classes}
use Rattle.unification.specs.declared.pieces.Piece.{Piece}
use Rattle.unification.specs.declared.pieces.Piece.TheVariants as piece
use Rattle.unification.specs.declared.term.Symbol.{Symbol}
use Rattle.unification.specs.declared.term.Term.{Term}
use Rattle.unification.specs.Pieces.{tree_count, pieces, pieces_all, head_piece}
use Rattle.unification.specs.Shown.{class_of, kept_of, ClassStandsForTree, ClassesStandForTrees, free, made, none, and, ShowsTrees}
use Rattle.unification.specs.Terms.{symbol_of, AreEarlier}
use Rattle.unification.specs.Trees.{Tree, Trees, Open, Made, AndTree, trees}
use Rattle.unification.specs.Walks.{kept_arguments}
use Rattle.unification.proofs.Pairing.{no_arguments}
use Rattle.unification.proofs.Solving.{stands_one, symbol_within}

many_trees : (v : ℕ → Tree) (xs : List ℕ) → tree_count (trees v xs) ≡ length xs
many_trees v [] = refl
many_trees v (x ∷ xs) = ap suc (many_trees v xs)

pub pieces_append : (v : ℕ → Tree) (xs ys : List ℕ)
    → pieces_all (trees v (xs ++ ys)) ≡ pieces_all (trees v ys) ++ pieces_all (trees v xs)
pieces_append v [] ys = sym (append_nil (pieces_all (trees v ys)))
pieces_append v (x ∷ xs) ys = ap (λ ps. ps ++ pieces (v x)) (pieces_append v xs ys) ∙ append_again
    (pieces_all (trees v ys)) (pieces_all (trees v xs)) (pieces (v x))

module _ (terms : List Term) (c : Classes) where
  pub first_made : (r : ℕ) (s : Symbol) → symbol_of terms (kept_of c r) ≡ Some s
      → head_piece terms c r ≡ piece.Made s (length (kept_arguments terms c r))
  first_made r s e = ap
      (λ (o : Option Symbol). elim o
      [ Some s ↦ piece.Made s (length (kept_arguments terms c r)) | None ↦ piece.Open r ]) e

  pub first_open : (r : ℕ) → symbol_of terms (kept_of c r) ≡ None
      → head_piece terms c r ≡ piece.Open r
  first_open r e = ap
      (λ (o : Option Symbol). elim o
      [ Some s ↦ piece.Made s (length (kept_arguments terms c r)) | None ↦ piece.Open r ]) e

  module _ (earlier : AreEarlier terms) where
    pub argument_in_terms : (r x : ℕ) → In x (kept_arguments terms c r) → x < length terms
    argument_in_terms r x h = go (symbol_of terms (kept_of c r)) refl
      where
        go : (o : Option Symbol) → symbol_of terms (kept_of c r) ≡ o → x < length terms
        go (Some s) e =
            let l : kept_of c r < length terms = symbol_within terms (kept_of c r) s e in
            let k : x < kept_of c r = earlier (kept_of c r) x h in
            omega (arith, k, l)
        go None e = none_in (subst (In x) (no_arguments terms (kept_of c r) e) h)

    module _ (v : ℕ → Tree) (sh : ShowsTrees terms c v) where
      all_are : (xs : List ℕ) (ts : Trees) → ((x : ℕ) → In x xs → x < length terms)
          → ClassesStandForTrees terms c xs ts → ts ≡ trees v xs
      all_are [] ts h none = refl
      all_are (x ∷ xs) ts h (and {t = t} {ts = us} a as')
          = ap (λ y. AndTree y us) (stands_one terms c a (sh x (h x here))) ∙ ap (AndTree (v x))
          (all_are xs us (λ y i. h y (there i)) as')

      of_class : (r : ℕ) (t : Tree) → ClassStandsForTree terms c r t
          → pieces t ≡ head_piece terms c r ∷ pieces_all (trees v (kept_arguments terms c r))
      of_class r t (free e) = ap (λ p. p ∷ []) (sym (first_open r e)) ∙ ap
          (λ xs. head_piece terms c r ∷ pieces_all (trees v xs))
          (sym (no_arguments terms (kept_of c r) e))
      of_class r t (made {s = s} {ts = ts} e a) =
          ap (λ us. piece.Made s (tree_count us) ∷ pieces_all us)
          (all_are (kept_arguments terms c r) ts (argument_in_terms r) a)
          ∙ ap (λ n. piece.Made s n ∷ pieces_all (trees v (kept_arguments terms c r)))
          (many_trees v (kept_arguments terms c r))
          ∙ ap (λ p. p ∷ pieces_all (trees v (kept_arguments terms c r))) (sym (first_made r s e))

      pub of_term : (x : ℕ) → x < length terms → pieces (v x) ≡ head_piece terms c (class_of c x) ∷
          pieces_all (trees v (kept_arguments terms c (class_of c x)))
      of_term x l = of_class (class_of c x) (v x) (sh x l)

      -- the term whose turn it is, and those behind it
      module _ (row : List Piece) (left rest : List ℕ) (x : ℕ) (whole : List Piece)
          (l : x < length terms) (e : left ≡ rest ++ x ∷ [])
          (w : row ++ pieces_all (trees v left) ≡ whole) where
        begun_with : pieces_all (trees v left) ≡ head_piece terms c (class_of c x) ∷
            (pieces_all (trees v (kept_arguments terms c (class_of c x)))
            ++ pieces_all (trees v rest))
        begun_with = ap (λ xs. pieces_all (trees v xs)) e ∙ pieces_append v rest (x ∷ []) ∙ ap
            (λ ps. ps ++ pieces_all (trees v rest)) (of_term x l)

        pub one_written : (more : List Piece) (next : List ℕ) → more ≡ row
            ++ head_piece terms c (class_of c x) ∷ [] → next ≡ rest
            ++ kept_arguments terms c (class_of c x) → more ++ pieces_all (trees v next) ≡ whole
        one_written more next em en =
            ap (λ ps. ps ++ pieces_all (trees v next)) em
            ∙ append_again row (head_piece terms c (class_of c x) ∷ []) (pieces_all (trees v next))
            ∙ ap (λ xs. row ++ head_piece terms c (class_of c x) ∷ pieces_all (trees v xs)) en
            ∙ ap (λ ps. row ++ head_piece terms c (class_of c x) ∷ ps)
            (pieces_append v rest (kept_arguments terms c (class_of c x)))
            ∙ ap (λ ps. row ++ ps) (sym begun_with) ∙ w

        pub too_many : (room : ℕ) → room ≤ length row → room < length whole
        too_many room k =
            let a : length (row ++ pieces_all (trees v left)) ≡ length row + length
            (pieces_all (trees v left)) = length-append row (pieces_all (trees v left)) in
            let b : length (row ++ pieces_all (trees v left)) ≡ length whole = ap length w in
            let d : length (pieces_all (trees v left)) ≡ suc
            (length (pieces_all (trees v (kept_arguments terms c (class_of c x)))
            ++ pieces_all (trees v rest))) = ap length begun_with in
            omega (arith, a, b, d, k)

    pub still_below : (left rest : List ℕ) (x r : ℕ) (next : List ℕ) → left ≡ rest ++ x ∷ []
        → next ≡ rest ++ kept_arguments terms c r → ((y : ℕ) → In y left → y < length terms)
        → (y : ℕ) → In y next → y < length terms
    still_below left rest x r next e en h y i = ⊎_elim
        (λ k. h y (subst (In y) (sym e) (in_left rest (x ∷ []) k)))
        (λ k. argument_in_terms r y k)
        (in_split rest (kept_arguments terms c r) (subst (In y) en i))

    pub last_below : (left rest : List ℕ) (x : ℕ) → left ≡ rest ++ x ∷ []
        → ((y : ℕ) → In y left → y < length terms) → x < length terms
    last_below left rest x e h = h x (subst (In x) (sym e) (in_right rest (x ∷ []) here))
