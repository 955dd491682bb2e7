-- The trees of a function stand for its equations.
use Rattle.std.proofs.Common.{◌≡◌, ℕ, suc, ◌+◌, List, [], ◌∷◌, ◌++◌, length, refl, sym, subst, append_assoc, length-append, arith, Option, Some, None}
use Rattle.std.proofs.lemmas.List.{map-append}
use Rattle.match_compile.specs.Source.{Equation}
use Rattle.match_compile.specs.Parts.{count}
use Rattle.match_compile.specs.Trees.{pending_patterns_at, places_from, Tree, IsTree, max_chained_cases, insert}
use Rattle.match_compile.specs.Decisions.{Decision, row_of, begun, grown, decided, HasHeadOfFirst, DecidesEquations, DecideAllEquations, NoneLeft, More}
use Rattle.match_compile.specs.Laws.{TreesCoverEquations}
use Rattle.match_compile.proofs.Inserted.{alone_is, settled_is, inserted}

-- an equation goes into the tree, or begins another
pub by_insert : (P : List Decision → Type 0) (d : Decision) (k : ℕ) (e : Equation)
    (es : List Equation) (o : Option (Tree × ℕ)) →
    ((t : Tree × ℕ) → o ≡ Some t → P (decided (grown d t) (suc k) es))
    → P (d ∷ decided (begun k e) (suc k) es)
    → P (elim o
    [ Some t ↦ decided (grown d t) (suc k) es | None ↦ d ∷ decided (begun k e) (suc k) es ])
by_insert P d k e es (Some t) f g = f t refl
by_insert P d k e es None f g = g

first_stays : (es : List Equation) (d : Decision) (e : Equation) (t : Tree × ℕ)
    → HasHeadOfFirst es d → HasHeadOfFirst (es ++ e ∷ []) (grown d t)
first_stays [] d e t f = absurd f
first_stays (g ∷ es) d e t f = f

one_more : (j : ℕ) (seen : List Equation) (d : Decision) (e : Equation) (t : Tree × ℕ)
    → DecidesEquations j seen d → insert max_chained_cases d.tree d.free (row_of e) ≡ Some t
    → DecidesEquations j (seen ++ e ∷ []) (grown d t)
one_more j seen d e t is i = record {
  number = is.number;
  first = first_stays seen d e t is.first;
  tree =
      subst (λ rs. IsTree rs t.0) (sym (map-append row_of seen (e ∷ [])))
      (inserted max_chained_cases d.tree d.free (row_of e)
      (settled_is e.body [] (pending_patterns_at (places_from 0 e.pats) e.pats)) is.tree t i);
}

one : (k : ℕ) (e : Equation) → DecidesEquations k (e ∷ []) (begun k e)
one k e = record {
  number = refl;
  first = (refl, refl);
  tree = alone_is (count e.pats) (row_of e)
      (settled_is e.body [] (pending_patterns_at (places_from 0 e.pats) e.pats));
}

longer : (k j : ℕ) (seen : List Equation) (e : Equation) → k ≡ j + length seen
    → suc k ≡ j + length (seen ++ e ∷ [])
longer k j seen e len = omega (arith, len, length-append seen (e ∷ []))

next : (k : ℕ) → suc k ≡ k + 1
next k = omega arith

stand : (d : Decision) (j k : ℕ) (seen es : List Equation) → DecidesEquations j seen d
    → k ≡ j + length seen → DecideAllEquations j (seen ++ es) (decided d k es)
stand d j k seen [] is len = More is NoneLeft
stand d j k seen (e ∷ es) is len =
    by_insert (DecideAllEquations j (seen ++ e ∷ es)) d k e es
    (insert max_chained_cases d.tree d.free (row_of e))
    (λ t i. subst (λ w. DecideAllEquations j w (decided (grown d t) (suc k) es))
    (append_assoc seen (e ∷ []) es)
    (stand (grown d t) j (suc k) (seen ++ e ∷ []) es (one_more j seen d e t is i)
    (longer k j seen e len)))
    (More is (subst (λ m. DecideAllEquations m (e ∷ es) (decided (begun k e) (suc k) es)) len
    (stand (begun k e) k (suc k) (e ∷ []) es (one k e) (next k))))

pub trees_stand : TreesCoverEquations
trees_stand k [] = NoneLeft
trees_stand k (e ∷ es) = stand (begun k e) k (suc k) (e ∷ []) es (one k e) (next k)
