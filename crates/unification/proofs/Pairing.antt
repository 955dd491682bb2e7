-- Two classes become one, with the arguments of their kept terms in pairs: the same trees fit.
--
-- Terms are in classes, and pairs of terms wait to be made equal. Joining two classes puts the
-- arguments of their terms on the list of pairs; the trees that solve the whole stay the same.
-- Once no pair waits, a walk looks for a class that contains itself. Without one each class stands
-- for a tree, and these trees are a solution of which all others are instances.
use Rattle.std.proofs.Common.{◌≡◌, ◌<◌, ◌≤◌, ◌+◌, ℕ, suc, List, [], ◌∷◌, ◌++◌, length, get_or, take, min, Option, Some, None, slice_get, refl, sym, ap, ◌∙◌, subst, ⊎_elim, arith, length-append, length-take}
use Rattle.std.proofs.lemmas.List.{take_more}
use Rattle.std.specs.Prelude.{if◌then◌else◌, ◌==◌, ◌⊎◌}
use Rattle.seq.specs.Lists.{In, here, there}
use Rattle.seq.proofs.Lists.{some_is, none_is_some}
use Rattle.seq.proofs.Member.{none_in, one_in, in_left, in_right, in_split}
use Rattle.seq.proofs.Order.{same_or_not}
use Rattle.unification.specs.declared.classes.Classes.{Classes}
use Rattle.unification.specs.declared.term.Symbol.{Symbol}
use Rattle.unification.specs.declared.term.Term.{Term}
use Rattle.unification.specs.declared.term.Term.TheVariants as term
use Rattle.unification.specs.Classes.{preferred, ClassesAreMerged, RespectsStructure, PairsAreEqual, SolvesClassesAndPairs, EqualsKeptTerm, IsMergingState, paired, ArgumentsArePaired, CannotBeEqual, total, arguments_kept, work, MergingProgresses, IsUnsatisfiable}
use Rattle.unification.specs.Shown.{class_of, kept_of}
use Rattle.unification.specs.Terms.{symbol_of, arguments_of, arguments_in, symbol_in, AreEarlier, PairsAreBelow}
use Rattle.unification.specs.Trees.{Tree, Trees, Made, AndTree, trees}
use Rattle.unification.proofs.Basics.{if_same, if_not}
use Rattle.unification.proofs.Joins.{moved_same, moved_not, preferred_some, preferred_none}
use Rattle.unification.proofs.Totals.{from_zero, total_more, total_given}
use Rattle.unification.proofs.Values.{either}

pub equal_join : (v : ℕ → Tree) (ps qs : List (ℕ × ℕ)) → PairsAreEqual v ps → PairsAreEqual v qs
    → PairsAreEqual v (ps ++ qs)
equal_join v [] qs e f = f
equal_join v (p ∷ ps) qs e f = (e.0, equal_join v ps qs e.1 f)

pub equal_left : (v : ℕ → Tree) (ps qs : List (ℕ × ℕ)) → PairsAreEqual v (ps ++ qs)
    → PairsAreEqual v ps
equal_left v [] qs e = tt
equal_left v (p ∷ ps) qs e = (e.0, equal_left v ps qs e.1)

pub equal_right : (v : ℕ → Tree) (ps qs : List (ℕ × ℕ)) → PairsAreEqual v (ps ++ qs)
    → PairsAreEqual v qs
equal_right v [] qs e = e
equal_right v (p ∷ ps) qs e = equal_right v ps qs e.1

-- two lists of arguments
pub head_same : {t u : Tree} {ts us : Trees} → AndTree t ts ≡ AndTree u us → t ≡ u
head_same e = cc

pub rest_same : {t u : Tree} {ts us : Trees} → AndTree t ts ≡ AndTree u us → ts ≡ us
rest_same e = cc

pub symbol_same : {s t : Symbol} {ts us : Trees} → Made s ts ≡ Made t us → s ≡ t
symbol_same e = cc

pub arguments_same : {s t : Symbol} {ts us : Trees} → Made s ts ≡ Made t us → ts ≡ us
arguments_same e = cc

pub paired_trees : (v : ℕ → Tree) (xs ys : List ℕ) → length xs ≡ length ys
    → PairsAreEqual v (paired xs ys) → trees v xs ≡ trees v ys
paired_trees v [] [] l e = refl
paired_trees v [] (y ∷ ys) l e = absurd (omega arith)
paired_trees v (x ∷ xs) [] l e = absurd (omega arith)
paired_trees v (x ∷ xs) (y ∷ ys) l e = ap (λ t. AndTree t (trees v xs)) e.0 ∙ ap (AndTree (v y))
    (paired_trees v xs ys (omega arith) e.1)

pub trees_paired : (v : ℕ → Tree) (xs ys : List ℕ) → trees v xs ≡ trees v ys
    → PairsAreEqual v (paired xs ys)
trees_paired v [] ys e = tt
trees_paired v (x ∷ xs) [] e = absurd (cc)
trees_paired v (x ∷ xs) (y ∷ ys) e = (head_same e, trees_paired v xs ys (rest_same e))

pub trees_length : (v : ℕ → Tree) (xs ys : List ℕ) → trees v xs ≡ trees v ys → length xs ≡ length ys
trees_length v [] [] e = refl
trees_length v [] (y ∷ ys) e = absurd (cc)
trees_length v (x ∷ xs) [] e = absurd (cc)
trees_length v (x ∷ xs) (y ∷ ys) e = ap suc (trees_length v xs ys (rest_same e))

pub length_paired : (xs ys : List ℕ) → length xs ≡ length ys → length (paired xs ys) ≡ length xs
length_paired [] ys e = refl
length_paired (x ∷ xs) [] e = absurd (omega arith)
length_paired (x ∷ xs) (y ∷ ys) e = ap suc (length_paired xs ys (omega arith))

pub paired_push : (xs ys : List ℕ) (x y : ℕ) → length xs ≡ length ys
    → paired (xs ++ x ∷ []) (ys ++ y ∷ []) ≡ paired xs ys ++ (x, y) ∷ []
paired_push [] [] x y e = refl
paired_push [] (b ∷ ys) x y e = absurd (omega arith)
paired_push (a ∷ xs) [] x y e = absurd (omega arith)
paired_push (a ∷ xs) (b ∷ ys) x y e = ap (λ l. (a, b) ∷ l) (paired_push xs ys x y (omega arith))

pub paired_more : (xs ys : List ℕ) (k : ℕ) → k < length xs → k < length ys
    → paired (take (k + 1) xs) (take (k + 1) ys) ≡ paired (take k xs) (take k ys)
    ++ (get_or xs k 0, get_or ys k 0) ∷ []
paired_more xs ys k lx ly =
    ap (λ l. paired l (take (k + 1) ys)) (take_more xs k 0 lx)
    ∙ ap (paired (take k xs ++ get_or xs k 0 ∷ [])) (take_more ys k 0 ly)
    ∙ paired_push (take k xs) (take k ys) (get_or xs k 0) (get_or ys k 0)
    (let p : length (take k xs) ≡ min k (length xs) = length-take k xs in let q
    : length (take k ys) ≡ min k (length ys) = length-take k ys in omega (arith, lx, ly, p, q))

pub paired_below : (n : ℕ) (xs ys : List ℕ) → ((x : ℕ) → In x xs → x < n)
    → ((y : ℕ) → In y ys → y < n) → PairsAreBelow n (paired xs ys)
paired_below n [] ys h k p i = none_in i
paired_below n (x ∷ xs) [] h k p i = none_in i
paired_below n (x ∷ xs) (y ∷ ys) h k p here = (h x here, k y here)
paired_below n (x ∷ xs) (y ∷ ys) h k p (there i) = paired_below n xs ys (λ z j. h z (there j))
    (λ z j. k z (there j)) p i

pub below_join : (n : ℕ) (ps qs : List (ℕ × ℕ)) → PairsAreBelow n ps → PairsAreBelow n qs
    → PairsAreBelow n (ps ++ qs)
below_join n ps qs h k p i = ⊎_elim (h p) (k p) (in_split ps qs i)

pub below_left : (n : ℕ) (ps qs : List (ℕ × ℕ)) → PairsAreBelow n (ps ++ qs) → PairsAreBelow n ps
below_left n ps qs h p i = h p (in_left ps qs i)

pub below_one : (n : ℕ) (q : ℕ × ℕ) → q.0 < n → q.1 < n → PairsAreBelow n (q ∷ [])
below_one n q h k p i = subst (λ x. (x.0 < n) × (x.1 < n)) (sym (one_in q i)) (h, k)

pub below_last : (n : ℕ) (ps : List (ℕ × ℕ)) (q : ℕ × ℕ) → PairsAreBelow n (ps ++ q ∷ [])
    → (q.0 < n) × (q.1 < n)
below_last n ps q h = h q (in_right ps (q ∷ []) here)

module _ (terms : List Term) where
  pub no_arguments : (i : ℕ) → symbol_of terms i ≡ None → arguments_of terms i ≡ []
  no_arguments i e = go (slice_get terms i) e
    where
      go : (o : Option Term) → symbol_in o ≡ None → arguments_in o ≡ []
      go None e = refl
      go (Some term.Variable) e = refl
      go (Some (term.Made s xs)) e = none_is_some (sym e)

  -- the arguments of two terms, in pairs
  pub none_paired : (old new : List (ℕ × ℕ)) (x y : ℕ) → new ≡ old → (symbol_of terms x ≡ None)
      ⊎ (symbol_of terms y ≡ None) → ArgumentsArePaired terms old new x y
  none_paired old new x y e o = record {
    below = λ h. subst (PairsAreBelow (length terms)) (sym e) h;
    before = λ v h. subst (PairsAreEqual v) e h;
    after = λ v r q h. subst (PairsAreEqual v) (sym e) h;
    same = λ s t p q. ⊎_elim (λ n. none_is_some (sym n ∙ p)) (λ n. none_is_some (sym n ∙ q)) o;
    few = λ s p. let l : length new ≡ length old = ap length e in omega (arith, l);
    none = λ p. e;
  }

  pub all_paired : AreEarlier terms → (old new : List (ℕ × ℕ)) (x y : ℕ) (s t : Symbol)
      → x < length terms → y < length terms → symbol_of terms x ≡ Some s
      → symbol_of terms y ≡ Some t → s ≡ t
      → length (arguments_of terms x) ≡ length (arguments_of terms y) → new ≡ old
      ++ paired (arguments_of terms x) (arguments_of terms y)
      → ArgumentsArePaired terms old new x y
  all_paired earlier old new x y s t lx ly sx sy st ll e = record {
    below = λ h. subst (PairsAreBelow (length terms)) (sym e)
        (below_join (length terms) old (paired (arguments_of terms x) (arguments_of terms y)) h
        (paired_below (length terms) (arguments_of terms x) (arguments_of terms y) (within x lx)
        (within y ly)));
    before = λ v h. equal_left v old (paired (arguments_of terms x) (arguments_of terms y))
        (subst (PairsAreEqual v) e h);
    after = λ v r q h. subst (PairsAreEqual v) (sym e)
        (equal_join v old (paired (arguments_of terms x) (arguments_of terms y)) h
        (trees_paired v (arguments_of terms x) (arguments_of terms y)
        (arguments_same (sym (r x s sx) ∙ q ∙ r y t sy))));
    same = λ s' t' p q. (
      some_is (sym p ∙ sx) ∙ st ∙ some_is (sym sy ∙ q),
      λ v h. paired_trees v (arguments_of terms x) (arguments_of terms y) ll
          (equal_right v old (paired (arguments_of terms x) (arguments_of terms y))
          (subst (PairsAreEqual v) e h)),
    );
    few = λ t' p. few;
    none = λ p. none_is_some (sym p ∙ sy);
  }
    where
      within : (i : ℕ) → i < length terms → (z : ℕ) → In z (arguments_of terms i) → z < length terms
      within i l z j = let h : z < i = earlier i z j in omega (arith, h, l)

      few : length new ≤ length old + length (arguments_of terms x)
      few =
          let k : length new ≡ length
          (old ++ (paired (arguments_of terms x) (arguments_of terms y))) = ap length e in
          let j : length (old ++ (paired (arguments_of terms x) (arguments_of terms y))) ≡ length
          old + length (paired (arguments_of terms x) (arguments_of terms y))
          = length-append old (paired (arguments_of terms x) (arguments_of terms y)) in
          let m : length (paired (arguments_of terms x) (arguments_of terms y)) ≡ length
          (arguments_of terms x) = length_paired (arguments_of terms x) (arguments_of terms y)
          ll in
          omega (arith, k, j, m)

  pub other_symbol : (x y : ℕ) (s t : Symbol) → symbol_of terms x ≡ Some s
      → symbol_of terms y ≡ Some t → (s ≡ t → ⊥) → CannotBeEqual terms x y
  other_symbol x y s t sx sy ne v r q = ne (symbol_same (sym (r x s sx) ∙ q ∙ r y t sy))

  pub other_length : (x y : ℕ) (s t : Symbol) → symbol_of terms x ≡ Some s
      → symbol_of terms y ≡ Some t →
      (length (arguments_of terms x) ≡ length (arguments_of terms y) → ⊥) → CannotBeEqual terms x y
  other_length x y s t sx sy ne v r q = ne
      (trees_length v (arguments_of terms x) (arguments_of terms y)
      (arguments_same (sym (r x s sx) ∙ q ∙ r y t sy)))

  -- lists of pairs for which the same trees fit
  module _ (c : Classes) where
    pub under_way_by : (ps qs : List (ℕ × ℕ)) →
        ((v : ℕ → Tree) → SolvesClassesAndPairs (length terms) c qs v
        → SolvesClassesAndPairs (length terms) c ps v) → PairsAreBelow (length terms) qs
        → IsMergingState terms c ps → IsMergingState terms c qs
    under_way_by ps qs h b u = record {
      partition = u.partition;
      below = b;
      linked = λ i s l e. let k = u.linked i s l e in record
          { symbol = k.symbol; same = λ v f. k.same v (h v f) };
    }

    pub advances_by : (c' : Classes) (ps qs rs : List (ℕ × ℕ))
        → ((v : ℕ → Tree) → SolvesClassesAndPairs (length terms) c qs v
        → SolvesClassesAndPairs (length terms) c ps v)
        → ((v : ℕ → Tree) → SolvesClassesAndPairs (length terms) c ps v
        → SolvesClassesAndPairs (length terms) c qs v) → MergingProgresses terms c qs c' rs
        → MergingProgresses terms c ps c' rs
    advances_by c' ps qs rs h k a = record {
      under_way = a.under_way;
      before = λ v f. h v (a.before v f);
      after = λ v r f. a.after v r (k v f);
    }

    pub none_by : (ps qs : List (ℕ × ℕ)) →
        ((v : ℕ → Tree) → SolvesClassesAndPairs (length terms) c ps v
        → SolvesClassesAndPairs (length terms) c qs v) → IsUnsatisfiable terms c qs
        → IsUnsatisfiable terms c ps
    none_by ps qs k h v r f = h v r (k v f)

    pub stays : (ps : List (ℕ × ℕ)) → IsMergingState terms c ps → MergingProgresses terms c ps c ps
    stays ps u = record { under_way = u; before = λ v f. f; after = λ v r f. f }

    pub goes_on : (c' c'' : Classes) (ps qs rs : List (ℕ × ℕ)) → MergingProgresses terms c ps c' qs
        → MergingProgresses terms c' qs c'' rs → MergingProgresses terms c ps c'' rs
    goes_on c' c'' ps qs rs a b = record {
      under_way = b.under_way;
      before = λ v f. a.before v (b.before v f);
      after = λ v r f. b.after v r (a.after v r f);
    }

    pub none_on : (c' : Classes) (ps qs : List (ℕ × ℕ)) → MergingProgresses terms c ps c' qs
        → IsUnsatisfiable terms c' qs → IsUnsatisfiable terms c ps
    none_on c' ps qs a h v r f = h v r (a.after v r f)

    -- a pair, and the classes of its terms
    pub fits_with : (ps : List (ℕ × ℕ)) (p q : ℕ × ℕ)
        → ((v : ℕ → Tree) → SolvesClassesAndPairs (length terms) c ps v → v p.0 ≡ v p.1
        → v q.0 ≡ v q.1)
        → (v : ℕ → Tree) → SolvesClassesAndPairs (length terms) c (ps ++ p ∷ []) v
        → SolvesClassesAndPairs (length terms) c (ps ++ q ∷ []) v
    fits_with ps p q h v f =
        let before : SolvesClassesAndPairs (length terms) c ps v
        = record { joined = f.joined; equal = equal_left v ps (p ∷ []) f.equal } in
        record {
          joined = f.joined;
          equal = equal_join v ps (q ∷ []) before.equal
              (h v before (equal_right v ps (p ∷ []) f.equal).0, tt);
        }

    module _ (ps : List (ℕ × ℕ)) (p : ℕ × ℕ) (a b : ℕ) (u : IsMergingState terms c (ps ++ p ∷ []))
        (ea : a ≡ class_of c p.0) (eb : b ≡ class_of c p.1) where
      places : (p.0 < length terms) × (p.1 < length terms)
      places = below_last (length terms) ps p u.below

      first : (v : ℕ → Tree) → SolvesClassesAndPairs (length terms) c ps v → v a ≡ v p.0
      first v f = ap v ea ∙ f.joined p.0 places.0

      second : (v : ℕ → Tree) → SolvesClassesAndPairs (length terms) c ps v → v b ≡ v p.1
      second v f = ap v eb ∙ f.joined p.1 places.1

      pub to_roots : (v : ℕ → Tree) → SolvesClassesAndPairs (length terms) c (ps ++ p ∷ []) v
          → SolvesClassesAndPairs (length terms) c (ps ++ (a, b) ∷ []) v
      to_roots = fits_with ps p (a, b) (λ v f e. first v f ∙ e ∙ sym (second v f))

      pub from_roots : (v : ℕ → Tree) → SolvesClassesAndPairs (length terms) c (ps ++ (a, b) ∷ []) v
          → SolvesClassesAndPairs (length terms) c (ps ++ p ∷ []) v
      from_roots = fits_with ps (a, b) p (λ v f e. sym (first v f) ∙ e ∙ second v f)

      pub to_turned : (v : ℕ → Tree) → SolvesClassesAndPairs (length terms) c (ps ++ p ∷ []) v
          → SolvesClassesAndPairs (length terms) c (ps ++ (b, a) ∷ []) v
      to_turned = fits_with ps p (b, a) (λ v f e. second v f ∙ sym e ∙ sym (first v f))

      pub from_turned : (v : ℕ → Tree) → SolvesClassesAndPairs (length terms) c (ps ++ (b, a) ∷ [])
          v → SolvesClassesAndPairs (length terms) c (ps ++ p ∷ []) v
      from_turned = fits_with ps (b, a) p (λ v f e. sym (first v f) ∙ sym e ∙ second v f)

      roots_within : (a < length terms) × (b < length terms)
      roots_within = (
        subst (λ k. k < length terms) (sym ea) (u.partition.within p.0 places.0),
        subst (λ k. k < length terms) (sym eb) (u.partition.within p.1 places.1),
      )

      pub roots_under_way : IsMergingState terms c (ps ++ (a, b) ∷ [])
      roots_under_way = under_way_by (ps ++ p ∷ []) (ps ++ (a, b) ∷ []) from_roots
          (below_join (length terms) ps ((a, b) ∷ [])
          (below_left (length terms) ps (p ∷ []) u.below)
          (below_one (length terms) (a, b) roots_within.0 roots_within.1)) u

      pub turned_under_way : IsMergingState terms c (ps ++ (b, a) ∷ [])
      turned_under_way = under_way_by (ps ++ p ∷ []) (ps ++ (b, a) ∷ []) from_turned
          (below_join (length terms) ps ((b, a) ∷ [])
          (below_left (length terms) ps (p ∷ []) u.below)
          (below_one (length terms) (b, a) roots_within.1 roots_within.0)) u

      pub are_roots : (class_of c a ≡ a) × (class_of c b ≡ b)
      are_roots = (
        ap (class_of c) ea ∙ u.partition.flat p.0 places.0 ∙ sym ea,
        ap (class_of c) eb ∙ u.partition.flat p.1 places.1 ∙ sym eb,
      )

      -- the terms of the pair are of one class already
      pub one_class : a ≡ b → MergingProgresses terms c (ps ++ p ∷ []) c ps
      one_class e = record {
        under_way = under_way_by (ps ++ p ∷ []) ps more
            (below_left (length terms) ps (p ∷ []) u.below) u;
        before = more;
        after = λ v r f. record { joined = f.joined; equal = equal_left v ps (p ∷ []) f.equal };
      }
        where
          more : (v : ℕ → Tree) → SolvesClassesAndPairs (length terms) c ps v
              → SolvesClassesAndPairs (length terms) c (ps ++ p ∷ []) v
          more v f = record {
            joined = f.joined;
            equal = equal_join v ps (p ∷ []) f.equal (sym (first v f) ∙ ap v e ∙ second v f, tt);
          }

  -- two classes become one
  module _ (c : Classes) (a b : ℕ) (ps : List (ℕ × ℕ))
      (u : IsMergingState terms c (ps ++ (a, b) ∷ [])) (ra : class_of c a ≡ a)
      (rb : class_of c b ≡ b) where
    both_below : (a < length terms) × (b < length terms)
    both_below = below_last (length terms) ps (a, b) u.below

    kept_a : (kept_of c a < length terms) × (class_of c (kept_of c a) ≡ a)
    kept_a = u.partition.kept a both_below.0 ra

    kept_b : (kept_of c b < length terms) × (class_of c (kept_of c b) ≡ b)
    kept_b = u.partition.kept b both_below.1 rb

    module _ (v : ℕ → Tree) (f : SolvesClassesAndPairs (length terms) c (ps ++ (a, b) ∷ []) v) where
      same_roots : v a ≡ v b
      same_roots = (equal_right v ps ((a, b) ∷ []) f.equal).0

      same_kept : v (kept_of c a) ≡ v (kept_of c b)
      same_kept = sym (f.joined (kept_of c a) kept_a.0) ∙ ap v kept_a.1 ∙ same_roots ∙ sym
          (ap v kept_b.1) ∙ f.joined (kept_of c b) kept_b.0

    pub differ_none : CannotBeEqual terms (kept_of c a) (kept_of c b)
        → IsUnsatisfiable terms c (ps ++ (a, b) ∷ [])
    differ_none d v r f = d v r (same_kept v f)

    module _ (c' : Classes) (qs : List (ℕ × ℕ)) (ne : a ≡ b → ⊥)
        (pp : ArgumentsArePaired terms ps qs (kept_of c a) (kept_of c b))
        (j : ClassesAreMerged terms c c' a b) where
      of_a : (i : ℕ) → i < length terms → class_of c i ≡ a → class_of c' i ≡ b
      of_a i l e = j.classes i l ∙ moved_same a b (class_of c i) e

      of_other : (i : ℕ) → i < length terms → (class_of c i ≡ a → ⊥) → class_of c' i ≡ class_of c i
      of_other i l q = j.classes i l ∙ moved_not a b (class_of c i) q

      fits_before : (v : ℕ → Tree) → SolvesClassesAndPairs (length terms) c' qs v
          → SolvesClassesAndPairs (length terms) c (ps ++ (a, b) ∷ []) v
      fits_before v f =
          let e : v b ≡ v a = ap v (sym (of_a a both_below.0 ra)) ∙ f.joined a both_below.0 in
          record {
            joined = λ i l. ⊎_elim
                (λ (q : class_of c i ≡ a). ap v q ∙ sym e ∙ ap v (sym (of_a i l q)) ∙ f.joined i l)
                (λ (q : class_of c i ≡ a → ⊥). ap v (sym (of_other i l q)) ∙ f.joined i l)
                (same_or_not (class_of c i) a);
            equal = equal_join v ps ((a, b) ∷ []) (pp.before v f.equal) (sym e, tt);
          }

      fits_after : (v : ℕ → Tree) → RespectsStructure terms v
          → SolvesClassesAndPairs (length terms) c (ps ++ (a, b) ∷ []) v
          → SolvesClassesAndPairs (length terms) c' qs v
      fits_after v r f = record {
        joined = λ i l. ⊎_elim
            (λ (q : class_of c i ≡ a). ap v (of_a i l q) ∙ sym (same_roots v f) ∙ ap v (sym q) ∙
            f.joined i l)
            (λ (q : class_of c i ≡ a → ⊥). ap v (of_other i l q) ∙ f.joined i l)
            (same_or_not (class_of c i) a);
        equal = pp.after v r (same_kept v f) (equal_left v ps ((a, b) ∷ []) f.equal);
      }

      -- from the kept term of class a to the one that is kept
      from_a : (i : ℕ) (s : Symbol) → EqualsKeptTerm terms c (ps ++ (a, b) ∷ []) s i (kept_of c a)
          → EqualsKeptTerm terms c' qs s i (preferred terms (kept_of c b) (kept_of c a))
      from_a i s k = either terms
          (EqualsKeptTerm terms c' qs s i (preferred terms (kept_of c b) (kept_of c a)))
          (kept_of c b)
          (λ t e.
          let m = pp.same s t k.symbol e in
          subst (EqualsKeptTerm terms c' qs s i)
          (sym (preferred_some terms (kept_of c b) (kept_of c a) t e)) (record {
            symbol = e ∙ ap Some (sym m.0);
            same = λ v f. k.same v (fits_before v f) ∙ m.1 v f.equal;
          }))
          (λ e. subst (EqualsKeptTerm terms c' qs s i)
          (sym (preferred_none terms (kept_of c b) (kept_of c a) e))
          (record { symbol = k.symbol; same = λ v f. k.same v (fits_before v f) }))

      linked : (i : ℕ) (s : Symbol) → i < length terms → symbol_of terms i ≡ Some s
          → EqualsKeptTerm terms c' qs s i (kept_of c' (class_of c' i))
      linked i s l e = ⊎_elim
          (λ (q : class_of c i ≡ a). subst (EqualsKeptTerm terms c' qs s i)
          (sym (ap (kept_of c') (of_a i l q) ∙ j.kept))
          (from_a i s
          (subst (λ r. EqualsKeptTerm terms c (ps ++ (a, b) ∷ []) s i (kept_of c r)) q
          (u.linked i s l e))))
          (λ (q : class_of c i ≡ a → ⊥). ⊎_elim
          (λ (z : class_of c i ≡ b).
          let k : EqualsKeptTerm terms c (ps ++ (a, b) ∷ []) s i (kept_of c b)
          = subst (λ r. EqualsKeptTerm terms c (ps ++ (a, b) ∷ []) s i (kept_of c r)) z
          (u.linked i s l e) in
          subst (EqualsKeptTerm terms c' qs s i)
          (sym (ap (kept_of c') (of_other i l q ∙ z) ∙ j.kept ∙ preferred_some terms
          (kept_of c b) (kept_of c a) s k.symbol))
          (record { symbol = k.symbol; same = λ v f. k.same v (fits_before v f) }))
          (λ (z : class_of c i ≡ b → ⊥).
          let k = u.linked i s l e in
          subst (EqualsKeptTerm terms c' qs s i)
          (sym (ap (kept_of c') (of_other i l q) ∙ j.others (class_of c i) z))
          (record { symbol = k.symbol; same = λ v f. k.same v (fits_before v f) }))
          (same_or_not (class_of c i) b))
          (same_or_not (class_of c i) a)

      pub joined_advances : MergingProgresses terms c (ps ++ (a, b) ∷ []) c' qs
      joined_advances = record {
        under_way = record {
          partition = j.partition;
          below = pp.below (below_left (length terms) ps ((a, b) ∷ []) u.below);
          linked = linked;
        };
        before = fits_before;
        after = fits_after;
      }

      -- what is still to be done
      abbrev f : ℕ → ℕ
      f = arguments_kept terms c

      abbrev g : ℕ → ℕ
      g = arguments_kept terms c'

      counted : (d : Classes) (r : ℕ) → class_of d r ≡ r
          → arguments_kept terms d r ≡ length (arguments_of terms (kept_of d r))
      counted d r e = ap (λ x. if x == r then length (arguments_of terms (kept_of d r)) else 0) e ∙
          if_same r (length (arguments_of terms (kept_of d r))) 0

      uncounted : (d : Classes) (r : ℕ) → (class_of d r ≡ r → ⊥) → arguments_kept terms d r ≡ 0
      uncounted d r q = if_not (class_of d r) r (length (arguments_of terms (kept_of d r))) 0 q

      elsewhere : (r : ℕ) → r < length terms → (r ≡ a → ⊥) → (r ≡ b → ⊥) → g r ≡ f r
      elsewhere r l na nb = ⊎_elim
          (λ (q : class_of c r ≡ a). uncounted c' r (λ e. nb (sym e ∙ of_a r l q)) ∙ sym
          (uncounted c r (λ e. na (sym e ∙ q))))
          (λ (q : class_of c r ≡ a → ⊥).
          ap (λ x. if x == r then length (arguments_of terms (kept_of c' r)) else 0)
          (of_other r l q)
          ∙ ap (λ k. if class_of c r == r then length (arguments_of terms k) else 0)
          (j.others r nb))
          (same_or_not (class_of c r) a)

      f_a : f a ≡ length (arguments_of terms (kept_of c a))
      f_a = counted c a ra

      g_a : g a ≡ 0
      g_a = uncounted c' a (λ e. ne (sym e ∙ of_a a both_below.0 ra))

      f_b : f b ≡ length (arguments_of terms (kept_of c b))
      f_b = counted c b rb

      g_b : g b ≡ length (arguments_of terms (preferred terms (kept_of c b) (kept_of c a)))
      g_b = counted c' b (of_other b both_below.1 (λ e. ne (sym e ∙ rb)) ∙ rb) ∙ ap
          (λ k. length (arguments_of terms k)) j.kept

      pub joined_work : work terms c' qs ≤ work terms c ps
      joined_work = either terms (work terms c' qs ≤ work terms c ps) (kept_of c b)
          (λ s e.
          let few : length qs ≤ length ps + length (arguments_of terms (kept_of c a)) = pp.few s e
          in
          let same_b : g b ≡ f b = g_b ∙ ap (λ k. length (arguments_of terms k))
          (preferred_some terms (kept_of c b) (kept_of c a) s e) ∙ sym f_b in
          let sum : total f (length terms) ≡ total g (length terms) + length
          (arguments_of terms (kept_of c a)) = total_more f g (length terms) a
          (length (arguments_of terms (kept_of c a))) both_below.0
          (λ r l q. ⊎_elim (λ (z : r ≡ b). ap f z ∙ sym same_b ∙ ap g (sym z))
          (λ (z : r ≡ b → ⊥). sym (elsewhere r l q z)) (same_or_not r b))
          (from_zero f_a g_a) in
          omega (arith, few, sum))
          (λ e.
          let still : length qs ≡ length ps = ap length (pp.none e) in
          let sum : total f (length terms) ≡ total g (length terms)
          = total_given f g (length terms) a b (length (arguments_of terms (kept_of c a)))
          both_below.0 both_below.1 ne elsewhere f_a g_a
          (f_b ∙ ap length (no_arguments (kept_of c b) e))
          (g_b ∙ ap (λ k. length (arguments_of terms k))
          (preferred_none terms (kept_of c b) (kept_of c a) e)) in
          omega (arith, still, sum))
