-- Terms that are put behind others, and places below a number.
use Rattle.std.proofs.Common.{◌≡◌, ◌<◌, ◌+◌, ℕ, suc, List, [], ◌∷◌, ◌++◌, length, get_or, take, Option, Some, None, slice_get, refl, sym, subst, ⊎_elim, arith}
use Rattle.std.proofs.lemmas.List.{take_more}
use Rattle.seq.specs.Lists.{In, here, there}
use Rattle.seq.proofs.Member.{none_in}
use Rattle.unification.specs.declared.term.Term.{Term}
use Rattle.unification.specs.Terms.{AreEarlier, PairsAreBelow, arguments_in}
use Rattle.unification.proofs.Basics.{at_pushed}
use Rattle.unification.proofs.Pairing.{below_join, below_one}

pub earlier_none : AreEarlier []
earlier_none i x h = none_in h

pub earlier_put : (terms new : List Term) (t : Term) → new ≡ terms ++ t ∷ [] → AreEarlier terms
    → ((x : ℕ) → In x (arguments_in (Some t)) → x < length terms) → AreEarlier new
earlier_put terms new t e before below i x h = go (slice_get (terms ++ t ∷ []) i) refl
    (subst (λ l. In x (arguments_in (slice_get l i))) e h)
  where
    go : (o : Option Term) → slice_get (terms ++ t ∷ []) i ≡ o → In x (arguments_in o) → x < i
    go None q k = none_in k
    go (Some u) q k = ⊎_elim
        (λ a. before i x (subst (λ o. In x (arguments_in o)) (sym a) k))
        (λ b. subst (λ n. x < n) (sym b.0)
        (below x (subst (λ v. In x (arguments_in (Some v))) b.1 k)))
        (at_pushed terms t u i q)

pub below_at : (xs : List ℕ) (n : ℕ) → ((k : ℕ) → k < length xs → get_or xs k 0 < n) → (i : ℕ)
    → In i xs → i < n
below_at (x ∷ xs) n h i here = h 0 (omega arith)
below_at (x ∷ xs) n h i (there k) = below_at xs n (λ j l. h (suc j) (omega arith)) i k
below_at [] n h i k = none_in k

pub pairs_more : (n : ℕ) (ps : List (ℕ × ℕ)) (i : ℕ) (d : ℕ × ℕ) → i < length ps
    → (get_or ps i d).0 < n → (get_or ps i d).1 < n → PairsAreBelow n (take i ps)
    → PairsAreBelow n (take (i + 1) ps)
pairs_more n ps i d l a b h = subst (PairsAreBelow n) (sym (take_more ps i d l))
    (below_join n (take i ps) (get_or ps i d ∷ []) h (below_one n (get_or ps i d) a b))
