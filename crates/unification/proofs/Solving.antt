-- Classes that stand for trees are the most general solution.
use Rattle.std.proofs.Common.{◌≡◌, ◌<◌, ◌≤◌, ℕ, zero, suc, List, [], ◌∷◌, length, take, Option, Some, None, slice_get, refl, sym, ap, ◌∙◌, subst, inl, inr, arith}
use Rattle.std.specs.Prelude.{◌⊎◌}
use Rattle.seq.specs.Lists.{In, here, there}
use Rattle.seq.proofs.Lists.{some_is, none_is_some, get_within}
use Rattle.seq.proofs.Member.{none_in}
use Rattle.seq.proofs.Order.{lt_or_le}
use Rattle.unification.specs.declared.classes.Classes.{Classes}
use Rattle.unification.specs.declared.term.Symbol.{Symbol}
use Rattle.unification.specs.declared.term.Term.{Term}
use Rattle.unification.specs.Classes.{IsPartition, AreSingletons, RespectsStructure, ClassTermsAreEqual, PairsAreEqual, SolvesClassesAndPairs, EqualsKeptTerm, IsMergingState, MergingProgresses, IsUnsatisfiable}
use Rattle.unification.specs.Shown.{class_of, kept_of, ClassStandsForTree, ClassesStandForTrees, free, made, none, and, IsSolved}
use Rattle.unification.specs.Solutions.{Substitution, Solves, AreUnsolvable, IsFirstUnsolved}
use Rattle.unification.specs.Terms.{symbol_of, symbol_in, arguments_of, AreEarlier, PairsAreBelow, tree, equation, equations}
use Rattle.unification.specs.Trees.{Tree, Trees, Open, Made, AndTree, substituted, all_substituted, trees}
use Rattle.unification.specs.Walks.{HasNoFiniteSolution}
use Rattle.unification.proofs.Joins.{single_partition}
use Rattle.unification.proofs.Values.{either, value_respects, value_open, value_below, solves_equal, equal_solves}

module _ (terms : List Term) where
  pub symbol_within : (i : ℕ) (s : Symbol) → symbol_of terms i ≡ Some s → i < length terms
  symbol_within i s e = go (slice_get terms i) refl e
    where
      go : (o : Option Term) → slice_get terms i ≡ o → symbol_in o ≡ Some s → i < length terms
      go None q e = none_is_some e
      go (Some t) q e = get_within terms i t q

  -- a class stands for one tree
  mutual
    pub stands_one : (c : Classes) {r : ℕ} {t u : Tree} → ClassStandsForTree terms c r t
        → ClassStandsForTree terms c r u → t ≡ u
    stands_one c (free e) (free f) = refl
    stands_one c (free e) (made f a) = none_is_some (sym e ∙ f)
    stands_one c (made e a) (free f) = none_is_some (sym f ∙ e)
    stands_one c (made {s = s} {ts = ts} e a) (made {s = s'} {ts = us} f b)
        = ap (λ x. Made x ts) (some_is (sym e ∙ f)) ∙ ap (Made s') (all_one c a b)

    pub all_one : (c : Classes) {xs : List ℕ} {ts us : Trees} → ClassesStandForTrees terms c xs ts
        → ClassesStandForTrees terms c xs us → ts ≡ us
    all_one c none none = refl
    all_one c (and {t = t} {ts = ts} a as') (and {t = u} {ts = us} b bs)
        = ap (λ x. AndTree x ts) (stands_one c a b) ∙ ap (AndTree u) (all_one c as' bs)

  pub single_under_way : (c : Classes) (pairs : List (ℕ × ℕ)) → AreSingletons (length terms) c
      → PairsAreBelow (length terms) pairs → IsMergingState terms c pairs
  single_under_way c pairs s b = record {
    partition = single_partition (length terms) c s;
    below = b;
    linked = λ i q l e. subst (EqualsKeptTerm terms c pairs q i)
        (sym (ap (kept_of c) (s.alone i l) ∙ s.kept i l))
        (record { symbol = e; same = λ v f. refl });
  }

  single_fits : (c : Classes) (pairs : List (ℕ × ℕ)) (v : ℕ → Tree) → AreSingletons (length terms) c
      → PairsAreEqual v pairs → SolvesClassesAndPairs (length terms) c pairs v
  single_fits c pairs v s e = record { joined = λ i l. ap v (s.alone i l); equal = e }

  module _ (earlier : AreEarlier terms) (pairs : List (ℕ × ℕ)) (start : Classes)
      (s : AreSingletons (length terms) start) where
    -- a solution, as trees that fit
    of_solution : (τ : Substitution) → Solves τ (equations terms pairs)
        → SolvesClassesAndPairs (length terms) start pairs (λ i. substituted τ (tree terms i))
    of_solution τ q = single_fits start pairs (λ i. substituted τ (tree terms i)) s
        (solves_equal terms τ pairs q)

    pub none_solves : IsUnsatisfiable terms start pairs → AreUnsolvable (equations terms pairs)
    none_solves h τ q = h (λ i. substituted τ (tree terms i)) (value_respects terms earlier τ)
        (of_solution τ q)

    module _ (c : Classes) (ad : MergingProgresses terms start pairs c []) where
      pub none_solves_joined : HasNoFiniteSolution terms c → AreUnsolvable (equations terms pairs)
      none_solves_joined h τ q = h (λ i. substituted τ (tree terms i))
          (value_respects terms earlier τ)
          ((ad.after (λ i. substituted τ (tree terms i)) (value_respects terms earlier τ)
          (of_solution τ q)).joined)

      module _ (below : PairsAreBelow (length terms) pairs)
          (found : (i : ℕ) → i < length terms → (t : Tree)
          × ClassStandsForTree terms c (class_of c i) t) where
        p : IsPartition (length terms) c
        p = ad.under_way.partition

        -- what each term stands for
        abbrev choose : (i : ℕ) → (i < length terms) ⊎ (length terms ≤ i) → Tree
        choose i (inl l) = (found i l).0
        choose i (inr l) = Open i

        abbrev w : ℕ → Tree
        w i = choose i (lt_or_le i (length terms))

        its_tree : (i : ℕ) → i < length terms → ClassStandsForTree terms c (class_of c i) (w i)
        its_tree i l = go (lt_or_le i (length terms))
          where
            go : (o : (i < length terms) ⊎ (length terms ≤ i))
                → ClassStandsForTree terms c (class_of c i) (choose i o)
            go (inl k) = (found i k).1
            go (inr k) = absurd (omega (arith, l, k))

        beyond : (i : ℕ) → length terms ≤ i → w i ≡ Open i
        beyond i l = go (lt_or_le i (length terms))
          where
            go : (o : (i < length terms) ⊎ (length terms ≤ i)) → choose i o ≡ Open i
            go (inl k) = absurd (omega (arith, l, k))
            go (inr k) = refl

        w_joined : ClassTermsAreEqual (length terms) c w
        w_joined i l = stands_one c
            (subst (λ r. ClassStandsForTree terms c r (w (class_of c i))) (p.flat i l)
            (its_tree (class_of c i) (p.within i l))) (its_tree i l)

        w_fits : SolvesClassesAndPairs (length terms) c [] w
        w_fits = record { joined = w_joined; equal = tt }

        argument_within : (k x : ℕ) → k < length terms → In x (arguments_of terms k)
            → x < length terms
        argument_within k x l h = let j : x < k = earlier k x h in omega (arith, j, l)

        w_all : (xs : List ℕ) (ts : Trees) → ((x : ℕ) → In x xs → x < length terms)
            → ClassesStandForTrees terms c xs ts → ts ≡ trees w xs
        w_all [] ts h none = refl
        w_all (x ∷ xs) ts h (and {t = t} {ts = us} a as')
            = ap (λ y. AndTree y us) (stands_one c a (its_tree x (h x here))) ∙ ap (AndTree (w x))
            (w_all xs us (λ y i. h y (there i)) as')

        w_made : (r : ℕ) (t : Tree) (q : Symbol) → kept_of c r < length terms
            → symbol_of terms (kept_of c r) ≡ Some q → ClassStandsForTree terms c r t
            → t ≡ Made q (trees w (arguments_of terms (kept_of c r)))
        w_made r t q l e (free f) = none_is_some (sym f ∙ e)
        w_made r t q l e (made {s = q'} {ts = ts} f a)
            = ap (λ x. Made x ts) (some_is (sym f ∙ e)) ∙ ap (Made q)
            (w_all (arguments_of terms (kept_of c r)) ts
            (λ x h. argument_within (kept_of c r) x l h) a)

        w_respects : RespectsStructure terms w
        w_respects i q e =
            let l : i < length terms = symbol_within i q e in
            let k = ad.under_way.linked i q l e in
            w_made (class_of c i) (w i) q (p.kept (class_of c i) (p.within i l) (p.flat i l)).0
            k.symbol (its_tree i l)
            ∙ ap (Made q) (sym (k.same w w_fits))

        -- what is put for variables
        abbrev put : ℕ → Option Symbol → Tree
        put i None = w i
        put i (Some q) = Open i

        abbrev σ : Substitution
        σ i = put i (symbol_of terms i)

        put_open : (i : ℕ) → symbol_of terms i ≡ None → σ i ≡ w i
        put_open i e = ap (put i) e

        values : (i : ℕ) → i < length terms → substituted σ (tree terms i) ≡ w i
        values i l = value_below terms earlier w σ w_respects (length terms) (λ j k e. put_open j e)
            (suc i) i (omega arith) l

        solves : Solves σ (equations terms pairs)
        solves = equal_solves terms σ w pairs
            (λ q h. let b = below q h in (values q.0 b.0, values q.1 b.1))
            (ad.before w w_fits).equal

        -- each solution is had from this one
        module _ (τ : Substitution) (q : Solves τ (equations terms pairs)) where
          v_respects : RespectsStructure terms (λ i. substituted τ (tree terms i))
          v_respects = value_respects terms earlier τ

          v_joined : ClassTermsAreEqual (length terms) c (λ i. substituted τ (tree terms i))
          v_joined =
              (ad.after (λ i. substituted τ (tree terms i)) v_respects (of_solution τ q)).joined

          root_open : (r : ℕ) → r < length terms → class_of c r ≡ r
              → symbol_of terms (kept_of c r) ≡ None → symbol_of terms r ≡ None
          root_open r l e f = either terms (symbol_of terms r ≡ None) r
              (λ x g. none_is_some
              (sym f ∙ ap (λ k. symbol_of terms (kept_of c k)) (sym e) ∙
              (ad.under_way.linked r x l g).symbol))
              (λ g. g)

          mutual
            had : {r : ℕ} {t : Tree} → r < length terms → class_of c r ≡ r
                → ClassStandsForTree terms c r t → substituted τ (tree terms r) ≡ substituted τ t
            had {r = r} l e (free f) = value_open terms τ r (root_open r l e f)
            had {r = r} l e (made {s = x} {ts = ts} f a) =
                let k = p.kept r l e in
                ap (λ i. substituted τ (tree terms i)) (sym k.1) ∙ v_joined (kept_of c r) k.0 ∙
                v_respects (kept_of c r) x f
                ∙ ap (Made x) (all_had (λ y h. argument_within (kept_of c r) y k.0 h) a)

            all_had : {xs : List ℕ} {ts : Trees} → ((x : ℕ) → In x xs → x < length terms)
                → ClassesStandForTrees terms c xs ts
                → trees (λ i. substituted τ (tree terms i)) xs ≡ all_substituted τ ts
            all_had h none = refl
            all_had h (and {x = x} {t = t} {xs = xs} {ts = ts} a as') =
                let l : x < length terms = h x here in
                ap (λ y. AndTree y (trees (λ i. substituted τ (tree terms i)) xs))
                (sym (v_joined x l) ∙ had (p.within x l) (p.flat x l) a)
                ∙ ap (AndTree (substituted τ t)) (all_had (λ y i. h y (there i)) as')

          from_open : (i : ℕ) → symbol_of terms i ≡ None → (i < length terms) ⊎ (length terms ≤ i)
              → τ i ≡ substituted τ (w i)
          from_open i e (inl l) = sym (value_open terms τ i e) ∙ sym (v_joined i l) ∙ had
              (p.within i l) (p.flat i l) (its_tree i l)
          from_open i e (inr l) = ap (substituted τ) (sym (beyond i l))

          general : (i : ℕ) → τ i ≡ substituted τ (σ i)
          general i = either terms (τ i ≡ substituted τ (σ i)) i
              (λ x e. ap (λ o. substituted τ (put i o)) (sym e))
              (λ e. from_open i e (lt_or_le i (length terms)) ∙ ap (substituted τ)
              (sym (put_open i e)))

        pub solved : IsSolved terms pairs c
        solved = record {
          classes = record { classes = p.classes; keeps = p.keeps; within = p.within };
          solution = σ;
          general = record { solves = solves; general = λ τ q. (τ, general τ q) };
          shows = λ i l. subst (ClassStandsForTree terms c (class_of c i)) (sym (values i l))
              (its_tree i l);
        }

-- equations in halves
pub equations_taken : (terms : List Term) (pairs : List (ℕ × ℕ)) (k : ℕ)
    → equations terms (take k pairs) ≡ take k (equations terms pairs)
equations_taken terms [] zero = refl
equations_taken terms [] (suc k) = refl
equations_taken terms (q ∷ pairs) zero = refl
equations_taken terms (q ∷ pairs) (suc k) = ap (λ l. equation terms q ∷ l)
    (equations_taken terms pairs k)

pub below_taken : (n k : ℕ) (pairs : List (ℕ × ℕ)) → PairsAreBelow n pairs
    → PairsAreBelow n (take k pairs)
below_taken n k pairs h q i = h q (in_taken k pairs i)
  where
    in_taken : {X : Type 0} {x : X} (k : ℕ) (xs : List X) → In x (take k xs) → In x xs
    in_taken zero [] i = none_in i
    in_taken zero (y ∷ xs) i = none_in i
    in_taken (suc k) [] i = none_in i
    in_taken (suc k) (y ∷ xs) here = here
    in_taken (suc k) (y ∷ xs) (there i) = there (in_taken k xs i)

-- a list that has no solution has an equation
pub some_equation : (terms : List Term) (pairs : List (ℕ × ℕ))
    → AreUnsolvable (equations terms pairs) → 0 < length pairs
some_equation terms [] h = absurd (h Open tt)
some_equation terms (q ∷ pairs) h = omega arith

pub first_is : (terms : List Term) (pairs : List (ℕ × ℕ)) (i j : ℕ) → j ≡ suc i → (σ : Substitution)
    × Solves σ (equations terms (take i pairs)) → AreUnsolvable (equations terms (take j pairs))
    → IsFirstUnsolved (equations terms pairs) i
first_is terms pairs i j e s h = record {
  before = s.0;
  solves = subst (Solves s.0) (equations_taken terms pairs i) s.1;
  none = subst AreUnsolvable (equations_taken terms pairs (suc i))
      (subst (λ k. AreUnsolvable (equations terms (take k pairs))) e h);
}
