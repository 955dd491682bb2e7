-- The walk over classes, step by step.
use Rattle.std.proofs.Common.{◌≡◌, ◌<◌, ◌≤◌, ◌+◌, ℕ, suc, List, [], ◌∷◌, ◌++◌, length, get_or, Option, Some, slice_get, slice_set, refl, sym, ap, ◌∙◌, subst, ⊎_elim, inl, inr, arith}
use Rattle.std.specs.Prelude.{◌⊎◌}
use Rattle.seq.specs.Lists.{In, here, there}
use Rattle.seq.proofs.Lists.{some_is, none_is_some, some_at, get_is, get_within, get_left, get_last, get_set, length_set}
use Rattle.seq.proofs.Member.{none_in}
use Rattle.seq.proofs.Order.{same_or_not}
use Rattle.unification.specs.declared.classes.Classes.{Classes}
use Rattle.unification.specs.declared.term.Term.{Term}
use Rattle.unification.specs.declared.walk.VisitMark.{VisitMark}
use Rattle.unification.specs.declared.walk.VisitMark.TheVariants.{Unseen, Entered, Done}
use Rattle.unification.specs.declared.walk.Walk.{Walk}
use Rattle.unification.specs.Classes.{IsPartition, RespectsStructure, ClassTermsAreEqual}
use Rattle.unification.specs.Shown.{class_of, kept_of, ClassStandsForTree, ClassesStandForTrees, free, made, none, and}
use Rattle.unification.specs.Terms.{AreEarlier}
use Rattle.unification.specs.Trees.{Tree, Trees, Open, Made, NoTrees, AndTree, trees}
use Rattle.unification.specs.Walks.{mark_of, kept_arguments, size, sizes, IsOnPath, IsDepthFirstWalk, visits_left_of, remaining_visits, WalkExtends, IsAtArgument, IsNextArgument, WalkSteps, HasNoFiniteSolution, NothingVisited, EntersClass, enters, stays}
use Rattle.unification.proofs.Basics.{set_other, at_pushed, get_in, read_at}
use Rattle.unification.proofs.Pairing.{no_arguments}
use Rattle.unification.proofs.Totals.{total_more}
use Rattle.unification.proofs.Values.{either}

-- marks are different
unseen_entered : {X : Type 0} {k : ℕ} → ◌≡◌ {A = Option VisitMark} (Some Unseen) (Some (Entered k))
    → X
unseen_entered e = absurd (cc)

unseen_done : {X : Type 0} → ◌≡◌ {A = Option VisitMark} (Some Unseen) (Some Done) → X
unseen_done e = absurd (cc)

entered_done : {X : Type 0} {k : ℕ} → ◌≡◌ {A = Option VisitMark} (Some (Entered k)) (Some Done) → X
entered_done e = absurd (cc)

entered_same : {j k : ℕ} → ◌≡◌ {A = Option VisitMark} (Some (Entered j)) (Some (Entered k)) → j ≡ k
entered_same e = cc

-- a mark that is read
pub mark_is : (w : Walk) (i : ℕ) (x m : VisitMark) → i < length w.marks.items
    → x ≡ get_or w.marks.items i x → x ≡ m → mark_of w i ≡ Some m
mark_is w i x m l e q = get_is w.marks.items i x l e ∙ ap Some q

-- the last item of a list, and those before it
before_last : {X : Type 0} (xs ys : List X) (x y : X) (a : ℕ) → ys ≡ xs ++ x ∷ []
    → slice_get xs a ≡ Some y → slice_get ys a ≡ Some y
before_last xs ys x y a e h = ap (λ l. slice_get l a) e ∙ get_left xs (x ∷ []) a y h

at_last : {X : Type 0} (xs ys : List X) (x : X) → ys ≡ xs ++ x ∷ []
    → slice_get ys (length xs) ≡ Some x
at_last xs ys x e = ap (λ l. slice_get l (length xs)) e ∙ get_last xs x

one_of : {X : Type 0} (xs ys : List X) (x y : X) (a : ℕ) → ys ≡ xs ++ x ∷ []
    → slice_get ys a ≡ Some y → (slice_get xs a ≡ Some y) ⊎ ((a ≡ length xs) × (y ≡ x))
one_of xs ys x y a e h = at_pushed xs x y a (sym (ap (λ l. slice_get l a) e) ∙ h)

-- an argument is smaller than the whole
in_sizes : (v : ℕ → Tree) (xs : List ℕ) (x : ℕ) → In x xs → size (v x) ≤ sizes (trees v xs)
in_sizes v [] x h = none_in h
in_sizes v (y ∷ xs) x here = omega arith
in_sizes v (y ∷ xs) x (there h) = let l : size (v x) ≤ sizes (trees v xs) = in_sizes v xs x h
    in omega (arith, l)

module _ (terms : List Term) (c : Classes) (earlier : AreEarlier terms)
    (p : IsPartition (length terms) c) where
  pub argument_below : (r x : ℕ) → r < length terms → class_of c r ≡ r
      → In x (kept_arguments terms c r) → x < length terms
  argument_below r x l e h =
      let k : kept_of c r < length terms = (p.kept r l e).0 in
      let j : x < kept_of c r = earlier (kept_of c r) x h in
      omega (arith, k, j)

  pub smaller_argument : (v : ℕ → Tree) → RespectsStructure terms v
      → ClassTermsAreEqual (length terms) c v → (r x : ℕ) → r < length terms → class_of c r ≡ r
      → In x (kept_arguments terms c r)
      → size (v (class_of c x)) < size (v r)
  smaller_argument v rs jo r x l e h = either terms (size (v (class_of c x)) < size (v r))
      (kept_of c r)
      (λ s q.
      let k = p.kept r l e in
      let whole : v r ≡ Made s (trees v (kept_arguments terms c r))
      = sym (ap v k.1) ∙ jo (kept_of c r) k.0 ∙ rs (kept_of c r) s q in
      let part : v (class_of c x) ≡ v x = jo x (argument_below r x l e h) in
      let le : size (v x) ≤ sizes (trees v (kept_arguments terms c r))
      = in_sizes v (kept_arguments terms c r) x h in
      let es : size (v r) ≡ suc (sizes (trees v (kept_arguments terms c r))) = ap size whole in
      let ep : size (v (class_of c x)) ≡ size (v x) = ap size part in
      omega (arith, le, es, ep))
      (λ q. none_in (subst (In x) (no_arguments terms (kept_of c r) q) h))

  -- arguments that are done
  all_stand : (xs : List ℕ) →
      ((j x : ℕ) → slice_get xs j ≡ Some x → (t : Tree)
      × ClassStandsForTree terms c (class_of c x) t) → (ts : Trees)
      × ClassesStandForTrees terms c xs ts
  all_stand [] h = (NoTrees, none)
  all_stand (x ∷ xs) h =
      let t = h 0 x refl in
      let ts = all_stand xs (λ j y e. h (suc j) y e) in
      (AndTree t.0 ts.0, and t.1 ts.1)

  stands : (r : ℕ) →
      ((j x : ℕ) → slice_get (kept_arguments terms c r) j ≡ Some x → (t : Tree)
      × ClassStandsForTree terms c (class_of c x) t) → (t : Tree) × ClassStandsForTree terms c r t
  stands r h = either terms ((t : Tree) × ClassStandsForTree terms c r t) (kept_of c r)
      (λ s e. let ts = all_stand (kept_arguments terms c r) h in (Made s ts.0, made e ts.1))
      (λ e. (Open r, free e))

  -- a walk whose mark of one class is another
  module _ (w w' : Walk) (i : ℕ) (m : VisitMark) (iw : IsDepthFirstWalk terms c w)
      (li : i < length terms) (em : w'.marks.items ≡ slice_set w.marks.items i m) where
    new_mark : mark_of w' i ≡ Some m
    new_mark = ap (λ l. slice_get l i) em ∙ get_set w.marks.items i m
        (subst (λ k. i < k) (sym iw.marks) li)

    other_mark : (r : ℕ) → (r ≡ i → ⊥) → mark_of w' r ≡ mark_of w r
    other_mark r q = ap (λ l. slice_get l r) em ∙ set_other w.marks.items i r m q

    many_marks : length w'.marks.items ≡ length terms
    many_marks = ap length em ∙ length_set w.marks.items i m ∙ iw.marks

    -- a class that is entered stays so, where what is done stays done
    still_entered : (r : ℕ) → (r ≡ i → ⊥) →
        ((q : ℕ) → mark_of w q ≡ Some Done → mark_of w' q ≡ Some Done) → IsOnPath terms c w r
        → IsOnPath terms c w' r
    still_entered r ne keep e = record {
      within = e.within;
      root = e.root;
      first = e.first;
      few = e.few;
      mark = other_mark r ne ∙ e.mark;
      done = λ j x l at. keep (class_of c x) (e.done j x l at);
    }

    fewer_looks : (d : ℕ) → visits_left_of (length (kept_arguments terms c i)) (mark_of w i) ≡
        visits_left_of (length (kept_arguments terms c i)) (Some m) + d → 0 < d
        → remaining_visits terms c w' < remaining_visits terms c w
    fewer_looks d e l =
        let sum : remaining_visits terms c w ≡ remaining_visits terms c w' + d = total_more
        (λ r. visits_left_of (length (kept_arguments terms c r)) (mark_of w r))
        (λ r. visits_left_of (length (kept_arguments terms c r)) (mark_of w' r)) (length terms)
        i d li
        (λ r k q. ap (visits_left_of (length (kept_arguments terms c r))) (sym (other_mark r q)))
        (e ∙ ap (λ o. visits_left_of (length (kept_arguments terms c i)) o + d) (sym new_mark)) in
        omega (arith, sum, l)

  -- the class that was entered last is done
  module _ (w w' : Walk) (top first : ℕ) (at : IsAtArgument terms c w top first)
      (all : length (kept_arguments terms c top) ≤ first)
      (em : w'.marks.items ≡ slice_set w.marks.items top Done)
      (ep : w.path.items ≡ w'.path.items ++ top ∷ []) where
    top_entered : IsOnPath terms c w top
    top_entered = at.walk.path (length w'.path.items) top
        (at_last w'.path.items w.path.items top ep)

    top_first : top_entered.first ≡ first
    top_first = entered_same (sym top_entered.mark ∙ at.mark)

    now_done : mark_of w' top ≡ Some Done
    now_done = new_mark w w' top Done at.walk top_entered.within em

    other : (r : ℕ) → (r ≡ top → ⊥) → mark_of w' r ≡ mark_of w r
    other = other_mark w w' top Done at.walk top_entered.within em

    keep_done : (q : ℕ) → mark_of w q ≡ Some Done → mark_of w' q ≡ Some Done
    keep_done q d = ⊎_elim (λ z. ap (mark_of w') z ∙ now_done) (λ z. other q z ∙ d)
        (same_or_not q top)

    top_stands : (t : Tree) × ClassStandsForTree terms c top t
    top_stands = stands top (λ j x e.
        let l : j < length (kept_arguments terms c top)
        = get_within (kept_arguments terms c top) j x e in
        at.walk.done (class_of c x)
        (top_entered.done j x
        (let same : top_entered.first ≡ first = top_first in omega (arith, l, same, all)) e))

    not_top : (a r : ℕ) → slice_get w'.path.items a ≡ Some r → r ≡ top → ⊥
    not_top a r e z =
        let l : a < length w'.path.items = get_within w'.path.items a r e in
        let same : a ≡ length w'.path.items = at.walk.distinct a (length w'.path.items) top
        (before_last w'.path.items w.path.items top top a ep (e ∙ ap Some z))
        (at_last w'.path.items w.path.items top ep) in
        absurd (omega (arith, l, same))

    up : (a r : ℕ) → slice_get w'.path.items a ≡ Some r → slice_get w.path.items a ≡ Some r
    up a r e = before_last w'.path.items w.path.items top r a ep e

    pub leaves : WalkSteps terms c w w'
    leaves = record {
      walk = record {
        marks = many_marks w w' top Done at.walk top_entered.within em;
        done = λ r d. ⊎_elim
            (λ (z : r ≡ top). subst (λ q. (t : Tree) × ClassStandsForTree terms c q t) (sym z)
            top_stands)
            (λ (z : r ≡ top → ⊥). at.walk.done r (sym (other r z) ∙ d))
            (same_or_not r top);
        path = λ a r e. still_entered w w' top Done at.walk top_entered.within em r (not_top a r e)
            keep_done (at.walk.path a r (up a r e));
        entered = λ r k e.
            let ne : r ≡ top → ⊥ = λ z. entered_done (sym e ∙ ap (mark_of w') z ∙ now_done) in
            let a = at.walk.entered r k (sym (other r ne) ∙ e) in
            ⊎_elim (λ h. (a.0, h)) (λ h. absurd (ne h.1))
            (one_of w'.path.items w.path.items top r a.0 ep a.1);
        distinct = λ a b r e f. at.walk.distinct a b r (up a r e) (up b r f);
        smaller = λ v rs jo a b r q l e f. at.walk.smaller v rs jo a b r q l (up a r e) (up b q f);
      };
      goes = record {
        done = keep_done;
        unseen = λ r e. let ne : r ≡ top → ⊥ = λ z. unseen_done
            (sym e ∙ ap (mark_of w') z ∙ now_done) in sym (other r ne) ∙ e;
      };
      less = fewer_looks w w' top Done at.walk top_entered.within em
          (visits_left_of (length (kept_arguments terms c top)) (mark_of w top)) (omega arith)
          (subst (λ o. 0 < visits_left_of (length (kept_arguments terms c top)) o) (sym at.mark)
          (let few : top_entered.first ≤ length (kept_arguments terms c top) = top_entered.few
          in let same : top_entered.first ≡ first = top_first in omega (arith, few, same)));
    }

  -- a class is entered that is smaller than all on the path
  module _ (w w' : Walk) (next : ℕ) (iw : IsDepthFirstWalk terms c w) (ln : next < length terms)
      (rn : class_of c next ≡ next) (un : mark_of w next ≡ Some Unseen)
      (under : (v : ℕ → Tree) → RespectsStructure terms v → ClassTermsAreEqual (length terms) c v
      → (a r : ℕ) → slice_get w.path.items a ≡ Some r → size (v next) < size (v r))
      (em : w'.marks.items ≡ slice_set w.marks.items next (Entered 0))
      (ep : w'.path.items ≡ w.path.items ++ next ∷ []) where
    now_entered : mark_of w' next ≡ Some (Entered 0)
    now_entered = new_mark w w' next (Entered 0) iw ln em

    others : (r : ℕ) → (r ≡ next → ⊥) → mark_of w' r ≡ mark_of w r
    others = other_mark w w' next (Entered 0) iw ln em

    keeps_done : (q : ℕ) → mark_of w q ≡ Some Done → mark_of w' q ≡ Some Done
    keeps_done q d = others q (λ z. unseen_done (sym un ∙ ap (mark_of w) (sym z) ∙ d)) ∙ d

    not_next : (a r : ℕ) → slice_get w.path.items a ≡ Some r → r ≡ next → ⊥
    not_next a r e z = unseen_entered (sym un ∙ ap (mark_of w) (sym z) ∙ (iw.path a r e).mark)

    parts : (a r : ℕ) → slice_get w'.path.items a ≡ Some r → (slice_get w.path.items a ≡ Some r)
        ⊎ ((a ≡ length w.path.items) × (r ≡ next))
    parts a r e = one_of w.path.items w'.path.items next r a ep e

    pub enters_class : WalkSteps terms c w w'
    enters_class = record {
      walk = record {
        marks = many_marks w w' next (Entered 0) iw ln em;
        done = λ r d. iw.done r
            (sym (others r (λ z. entered_done (sym now_entered ∙ ap (mark_of w') (sym z) ∙ d))) ∙
            d);
        path = λ a r e. ⊎_elim
            (λ h. still_entered w w' next (Entered 0) iw ln em r (not_next a r h) keeps_done
            (iw.path a r h))
            (λ h. subst (IsOnPath terms c w') (sym h.1) (record {
              within = ln;
              root = rn;
              first = 0;
              few = omega arith;
              mark = now_entered;
              done = λ j x l e. absurd (omega (arith, l));
            }))
            (parts a r e);
        entered = λ r k e. ⊎_elim
            (λ (z : r ≡ next).
            (length w.path.items, at_last w.path.items w'.path.items next ep ∙ ap Some (sym z)))
            (λ (z : r ≡ next → ⊥). let a = iw.entered r k (sym (others r z) ∙ e)
            in (a.0, before_last w.path.items w'.path.items next r a.0 ep a.1))
            (same_or_not r next);
        distinct = λ a b r e f. ⊎_elim
            (λ h. ⊎_elim (λ k. iw.distinct a b r h k) (λ k. absurd (not_next a r h k.1))
            (parts b r f))
            (λ h. ⊎_elim (λ k. absurd (not_next b r k h.1)) (λ k. h.0 ∙ sym k.0) (parts b r f))
            (parts a r e);
        smaller = λ v rs jo a b r q l e f. ⊎_elim
            (λ h. ⊎_elim
            (λ k. iw.smaller v rs jo a b r q l h k)
            (λ k. subst (λ x. size (v x) < size (v r)) (sym k.1) (under v rs jo a r h))
            (parts b q f))
            (λ h. ⊎_elim
            (λ k. let m : b < length w.path.items = get_within w.path.items b q k
            in absurd (let same : a ≡ length w.path.items = h.0 in omega (arith, l, m, same)))
            (λ k. absurd
            (let same : a ≡ length w.path.items = h.0 in let too : b ≡ length w.path.items = k.0
            in omega (arith, l, same, too)))
            (parts b q f))
            (parts a r e);
      };
      goes = record {
        done = keeps_done;
        unseen = λ r e. let ne : r ≡ next → ⊥ = λ z. unseen_entered
            (sym e ∙ ap (mark_of w') z ∙ now_entered) in sym (others r ne) ∙ e;
      };
      less = fewer_looks w w' next (Entered 0) iw ln em 1
          (ap (visits_left_of (length (kept_arguments terms c next))) un ∙ (omega arith))
          (omega arith);
    }

  -- the class that was entered last
  pub top_entered_at : (w : Walk) (top : ℕ) (front : List ℕ) → IsDepthFirstWalk terms c w
      → w.path.items ≡ front ++ top ∷ [] → IsOnPath terms c w top
  top_entered_at w top front iw e = iw.path (length front) top (at_last front w.path.items top e)

  pub top_within : (w : Walk) (top : ℕ) (front : List ℕ) → IsDepthFirstWalk terms c w
      → w.path.items ≡ front ++ top ∷ [] → top < length w.marks.items
  top_within w top front iw e = subst (λ k. top < k) (sym iw.marks)
      (top_entered_at w top front iw e).within

  pub top_seen : (w : Walk) (top : ℕ) (front : List ℕ) → IsDepthFirstWalk terms c w
      → w.path.items ≡ front ++ top ∷ [] → mark_of w top ≡ Some Unseen → HasNoFiniteSolution terms c
  top_seen w top front iw e un v rs jo = unseen_entered
      (sym un ∙ (top_entered_at w top front iw e).mark)

  pub top_not_done : (w : Walk) (top : ℕ) (front : List ℕ) → IsDepthFirstWalk terms c w
      → w.path.items ≡ front ++ top ∷ [] → mark_of w top ≡ Some Done → HasNoFiniteSolution terms c
  top_not_done w top front iw e dn v rs jo = entered_done
      (sym (top_entered_at w top front iw e).mark ∙ dn)

  pub argument_read : (w : Walk) (top first : ℕ) (xs : List ℕ) → IsAtArgument terms c w top first
      → xs ≡ kept_arguments terms c top → first < length xs
      → slice_get (kept_arguments terms c top) first ≡ Some (get_or xs first 0)
  argument_read w top first xs at e l = ap (λ ys. slice_get ys first) (sym e) ∙ read_at xs first l

  pub argument_read_below : (w : Walk) (top first : ℕ) (xs : List ℕ)
      → IsAtArgument terms c w top first → xs ≡ kept_arguments terms c top → first < length xs
      → get_or xs first 0 < length terms
  argument_read_below w top first xs at e l =
      let t = top_entered_at w top at.front at.walk at.last in
      argument_below top (get_or xs first 0) t.within t.root
      (get_in (kept_arguments terms c top) first (get_or xs first 0)
      (argument_read w top first xs at e l))

  -- at an argument of the class that was entered last
  module _ (w w' : Walk) (top first next : ℕ) (at : IsAtArgument terms c w top first)
      (nx : IsNextArgument terms c top first next) where
    last_at : slice_get w.path.items (length at.front) ≡ Some top
    last_at = at_last at.front w.path.items top at.last

    its_top : IsOnPath terms c w top
    its_top = at.walk.path (length at.front) top last_at

    its_first : its_top.first ≡ first
    its_first = entered_same (sym its_top.mark ∙ at.mark)

    argument_in : In nx.argument (kept_arguments terms c top)
    argument_in = get_in (kept_arguments terms c top) first nx.argument nx.at

    first_below : first < length (kept_arguments terms c top)
    first_below = get_within (kept_arguments terms c top) first nx.argument nx.at

    argument_within : nx.argument < length terms
    argument_within = argument_below top nx.argument its_top.within its_top.root argument_in

    pub next_within : next < length terms
    next_within = subst (λ k. k < length terms) (sym nx.class)
        (p.within nx.argument argument_within)

    pub next_root : class_of c next ≡ next
    next_root = ap (class_of c) nx.class ∙ p.flat nx.argument argument_within ∙ sym nx.class

    under_top : (v : ℕ → Tree) → RespectsStructure terms v → ClassTermsAreEqual (length terms) c v
        → size (v next) < size (v top)
    under_top v rs jo = subst (λ x. size (v x) < size (v top)) (sym nx.class)
        (smaller_argument v rs jo top nx.argument its_top.within its_top.root argument_in)

    -- where a class stands on the path
    up_to_last : (a r : ℕ) → slice_get w.path.items a ≡ Some r → ((a < length at.front) ⊎ (r ≡ top))
    up_to_last a r e = ⊎_elim
        (λ h. inl (get_within at.front a r h))
        (λ h. inr h.1)
        (one_of at.front w.path.items top r a at.last e)

    under_all : (v : ℕ → Tree) → RespectsStructure terms v → ClassTermsAreEqual (length terms) c v
        → (a r : ℕ) → slice_get w.path.items a ≡ Some r → size (v next) < size (v r)
    under_all v rs jo a r e = ⊎_elim
        (λ h.
        let k : size (v top) < size (v r) = at.walk.smaller v rs jo a (length at.front) r top h e
        last_at in
        let m : size (v next) < size (v top) = under_top v rs jo in
        omega (arith, k, m))
        (λ h. subst (λ x. size (v next) < size (v x)) (sym h) (under_top v rs jo))
        (up_to_last a r e)

    pub next_entered : mark_of w next ≡ Some Unseen
        → w'.marks.items ≡ slice_set w.marks.items next (Entered 0) → w'.path.items ≡ w.path.items
        ++ next ∷ [] → WalkSteps terms c w w'
    next_entered un em ep = enters_class w w' next at.walk next_within next_root un under_all em ep

    -- it stands on the path
    pub next_within_itself : (k : ℕ) → mark_of w next ≡ Some (Entered k)
        → HasNoFiniteSolution terms c
    next_within_itself k e v rs jo =
        let a = at.walk.entered next k e in
        let l : size (v next) < size (v next) = under_all v rs jo a.0 next a.1 in
        absurd (omega (arith, l))

    -- it is done already
    module _ (dn : mark_of w next ≡ Some Done)
        (em : w'.marks.items ≡ slice_set w.marks.items top (Entered (first + 1)))
        (ep : w'.path.items ≡ w.path.items) where
      more : mark_of w' top ≡ Some (Entered (first + 1))
      more = new_mark w w' top (Entered (first + 1)) at.walk its_top.within em

      rest : (r : ℕ) → (r ≡ top → ⊥) → mark_of w' r ≡ mark_of w r
      rest = other_mark w w' top (Entered (first + 1)) at.walk its_top.within em

      still_done : (q : ℕ) → mark_of w q ≡ Some Done → mark_of w' q ≡ Some Done
      still_done q d = rest q (λ z. entered_done (sym at.mark ∙ ap (mark_of w) (sym z) ∙ d)) ∙ d

      same_path : (a r : ℕ) → slice_get w'.path.items a ≡ Some r → slice_get w.path.items a ≡ Some r
      same_path a r e = sym (ap (λ l. slice_get l a) ep) ∙ e

      up_to_first : (j x : ℕ) → j < first + 1 → slice_get (kept_arguments terms c top) j ≡ Some x
          → mark_of w (class_of c x) ≡ Some Done
      up_to_first j x l e = ⊎_elim
          (λ (z : j ≡ first). subst (λ y. mark_of w (class_of c y) ≡ Some Done)
          (some_is (sym nx.at ∙ ap (slice_get (kept_arguments terms c top)) (sym z) ∙ e))
          (sym (ap (mark_of w) nx.class) ∙ dn))
          (λ (z : j ≡ first → ⊥). its_top.done j x
          (let same : its_top.first ≡ first = its_first in below l z same) e)
          (same_or_not j first)
        where
          below : {j k : ℕ} → j < first + 1 → (j ≡ first → ⊥) → k ≡ first → j < k
          below l z same = omega (arith, l, z, same)

      pub next_done : WalkSteps terms c w w'
      next_done = record {
        walk = record {
          marks = many_marks w w' top (Entered (first + 1)) at.walk its_top.within em;
          done = λ r d. at.walk.done r
              (sym (rest r (λ z. entered_done (sym more ∙ ap (mark_of w') (sym z) ∙ d))) ∙ d);
          path = λ a r e. ⊎_elim
              (λ (z : r ≡ top). subst (IsOnPath terms c w') (sym z) (record {
                within = its_top.within;
                root = its_top.root;
                first = first + 1;
                few = let l : first < length (kept_arguments terms c top) = first_below
                    in omega (arith, l);
                mark = more;
                done = λ j x l f. still_done (class_of c x) (up_to_first j x l f);
              }))
              (λ (z : r ≡ top → ⊥). still_entered w w' top (Entered (first + 1)) at.walk
              its_top.within em r z still_done (at.walk.path a r (same_path a r e)))
              (same_or_not r top);
          entered = λ r k e. ⊎_elim
              (λ (z : r ≡ top). (
                length at.front,
                ap (λ l. slice_get l (length at.front)) ep ∙ last_at ∙ ap Some
                    (sym z),
              ))
              (λ (z : r ≡ top → ⊥). let a = at.walk.entered r k (sym (rest r z) ∙ e)
              in (a.0, ap (λ l. slice_get l a.0) ep ∙ a.1))
              (same_or_not r top);
          distinct = λ a b r e f. at.walk.distinct a b r (same_path a r e) (same_path b r f);
          smaller = λ v rs jo a b r q l e f. at.walk.smaller v rs jo a b r q l (same_path a r e)
              (same_path b q f);
        };
        goes = record {
          done = still_done;
          unseen = λ r e. let ne : r ≡ top → ⊥ = λ z. unseen_entered
              (sym e ∙ ap (mark_of w') z ∙ more) in sym (rest r ne) ∙ e;
        };
        less = fewer_looks w w' top (Entered (first + 1)) at.walk its_top.within em 1
            (ap (visits_left_of (length (kept_arguments terms c top))) at.mark ∙
            (let l : first < length (kept_arguments terms c top) = first_below
            in omega (arith, l))) (omega arith);
      }

  -- the whole walk of a class
  pub goes_further : (w w' w'' : Walk) → WalkExtends w w' → WalkExtends w' w'' → WalkExtends w w''
  goes_further w w' w'' g h = record {
    done = λ r d. h.done r (g.done r d);
    unseen = λ r d. g.unseen r (h.unseen r d);
  }

  pub fresh_walk : (w : Walk) → NothingVisited (length terms) w → IsDepthFirstWalk terms c w
  fresh_walk w f = record {
    marks = f.marks;
    done = λ r d. unseen_done
        (sym (f.unseen r (subst (λ k. r < k) f.marks (get_within w.marks.items r Done d))) ∙ d);
    path = λ a r e. nowhere a r e;
    entered = λ r k d. unseen_entered
        (sym (f.unseen r (subst (λ k. r < k) f.marks (get_within w.marks.items r (Entered k) d))) ∙
        d);
    distinct = λ a b r e h. nowhere a r e;
    smaller = λ v rs jo a b r q l e h. nowhere a r e;
  }
    where
      nowhere : {X : Type 0} (a r : ℕ) → slice_get w.path.items a ≡ Some r → X
      nowhere a r e = none_is_some (sym (ap (λ l. slice_get l a) f.path) ∙ e)

  pub begun : (w w' : Walk) (r : ℕ) → IsDepthFirstWalk terms c w → w.path.items ≡ []
      → r < length terms → class_of c r ≡ r → EntersClass w w' r → IsDepthFirstWalk terms c w'
      × WalkExtends w w' × (mark_of w' r ≡ Some Unseen → ⊥)
  begun w w' r iw ep l e (enters un em en) =
      let s = enters_class w w' r iw l e un
      (λ v rs jo a q h. none_is_some (sym (ap (λ x. slice_get x a) ep) ∙ h)) em en in
      (s.walk, s.goes, λ d. unseen_entered (sym d ∙ new_mark w w' r (Entered 0) iw l em))
  begun w w' r iw ep l e (stays un ew) = (
    subst (IsDepthFirstWalk terms c) (sym ew) iw,
    subst (WalkExtends w) (sym ew) (record { done = λ q d. d; unseen = λ q d. d }),
    λ d. un (ap (λ x. mark_of x r) (sym ew) ∙ d),
  )

  pub all_done : (w : Walk) (r : ℕ) → IsDepthFirstWalk terms c w → w.path.items ≡ []
      → r < length terms → (mark_of w r ≡ Some Unseen → ⊥) → mark_of w r ≡ Some Done
  all_done w r iw ep l un =
      let m = some_at w.marks.items r (subst (λ k. r < k) (sym iw.marks) l) in
      go m.0 m.1
    where
      go : (m : VisitMark) → mark_of w r ≡ Some m → mark_of w r ≡ Some Done
      go Unseen e = absurd (un e)
      go (Entered k) e = let a = iw.entered r k e in none_is_some
          (sym (ap (λ x. slice_get x a.0) ep) ∙ a.1)
      go Done e = e
