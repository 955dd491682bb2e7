-- An alternative that is not needed is never taken.
use Rattle.std.proofs.Common.{◌≡◌, ℕ, Bool, true, false, cond, not, nat_eq, List, [], ◌∷◌, filter, length, Option, Some, None, refl, sym, ap, ◌∙◌, subst}
use Rattle.std.specs.List.{list_any}
use Rattle.seq.proofs.Lists.{some_is}
use Rattle.seq.proofs.Member.{none_in}
use Rattle.seq.proofs.Order.{eq_self}
use Rattle.seq.proofs.Truth.{true_not_false, or_left, or_right}
use Rattle.seq.specs.Lists.{In, here, there}
use Rattle.grin_syntax.specs.declared.program.VarId.{VarId}
use Rattle.grin_syntax.specs.declared.program.Shape.{Shape}
use Rattle.grin_syntax.specs.declared.program.Shape.TheVariants as shape
use Rattle.grin_syntax.specs.declared.program.Val.{Val}
use Rattle.grin_syntax.specs.Tree.{Program}
use Rattle.grin_syntax.specs.Binders.{shape_vars, numbers_of}
use Rattle.grin_meaning.specs.Values.{Node, Value, State, and_then, Binding, fits, fits_not, fit_of, as_node, value_of}
use Rattle.flow_system.specs.Solution.{Solution}
use Rattle.flow_system.specs.Covers.{StateIsCovered}
use Rattle.pass_ground.specs.OpenUpdates.{tag_variable}
use Rattle.update_special.specs.Updates.{tags_of}
use Rattle.pass_ground.proofs.OpenUpdates.{tag_there}
use Rattle.update_special.proofs.Special.{tag_listed}
use Rattle.case_simplify.proofs.Held.{NodeFits, node_fits, node_fits_not, IntFits, int_fits}
use Rattle.pass_known.specs.Needed.{any_tag_left, pattern_may_match, without, tags_left_by, arm_may_match, tags_left_after, if_nonempty, tags_at}

in_any : (x : ℕ) (xs : List ℕ) → In x xs → list_any (λ u. nat_eq u x) xs ≡ true
in_any x [] h = none_in h
in_any x (y ∷ ys) here = or_left (nat_eq x x) (list_any (λ u. nat_eq u x) ys) (eq_self x)
in_any x (y ∷ ys) (there m) = or_right (nat_eq y x) (list_any (λ u. nat_eq u x) ys) (in_any x ys m)

in_filter : (p : ℕ → Bool) (x : ℕ) (xs : List ℕ) → p x ≡ true → In x xs → In x (filter p xs)
in_filter p x [] e h = none_in h
in_filter p x (y ∷ ys) e here = subst (λ b. In x (cond b (x ∷ filter p ys) (filter p ys))) (sym e)
    here
in_filter p x (y ∷ ys) e (there m) = go (p y) (in_filter p x ys e m)
  where
    go : (b : Bool) → In x (filter p ys) → In x (cond b (y ∷ filter p ys) (filter p ys))
    go true later = there later
    go false later = later

module _ (g : Program) where
  -- the value has one of the tags that are left, and there are such
  pub record Among (tags : List ℕ) (y : Value) : Type 0 where
    pub tag : (n : Node) → as_node g y ≡ Some n → In n.tag tags
    pub some : tags ≡ [] → ⊥

  abbrev pub Left : Option (List ℕ) → Value → Type 0
  Left None y = Unit {0}
  Left (Some tags) y = Among tags y

  no_vars : {A : Type 0} (x : VarId) (xs : List VarId) → numbers_of (x ∷ xs) ≡ [] → A
  no_vars x xs h = cc

  not_empty : {t : ℕ} (ts : List ℕ) → In t ts → ts ≡ [] → ⊥
  not_empty {t} ts h e = none_in (subst (In t) e h)

  among_after : (tags : List ℕ) (s : Shape) (y : Value) → shape_vars s ≡ []
      → fit_of g s y ≡ fits_not → Among tags y → Among (tags_left_by tags s) y
  among_after tags (shape.Node t (x ∷ xs)) y b e h = no_vars x xs b
  among_after tags (shape.Node t []) y b e h =
      let f : (n : Node) × (as_node g y ≡ Some n) × (nat_eq n.tag t.0 ≡ false)
      = node_fits_not g t y e in
      record {
        tag = λ m q. stays m (h.tag m q)
            (ap (λ (k : Node). nat_eq k.tag t.0) (some_is (sym q ∙ f.1)) ∙ f.2);
        some = not_empty _ (stays f.0 (h.tag f.0 f.1) f.2);
      }
    where
      stays : (m : Node) → In m.tag tags → nat_eq m.tag t.0 ≡ false → In m.tag (without t.0 tags)
      stays m i e = in_filter (λ u. not (nat_eq u t.0)) m.tag tags (ap not e) i
  among_after tags (shape.Int k) y b e h = h
  among_after tags shape.Else y b e h = cc

  pub left_after : (left : Option (List ℕ)) (s : Shape) (y : Value) → shape_vars s ≡ []
      → fit_of g s y ≡ fits_not → Left left y → Left (tags_left_after left s) y
  left_after None s y b e h = tt
  left_after (Some tags) s y b e h = among_after tags s y b e h

  none_any : (tags : List ℕ) → any_tag_left tags ≡ false → tags ≡ []
  none_any [] e = refl
  none_any (t ∷ ts) e = true_not_false e

  never_among : (tags : List ℕ) (s : Shape) (y : Value) (bs : List Binding) → shape_vars s ≡ []
      → pattern_may_match tags s ≡ false → fit_of g s y ≡ fits bs → Among tags y → ⊥
  never_among tags (shape.Node t (x ∷ xs)) y bs b n e h = no_vars x xs b
  never_among tags (shape.Node t []) y bs b n e h =
      let f : NodeFits g t.0 y bs = node_fits g t y bs e in
      true_not_false (sym (in_any t.0 tags (subst (λ k. In k tags) f.tagged (h.tag f.n f.is))) ∙ n)
  never_among tags (shape.Int k) y bs b n e h =
      let f : IntFits g k y bs = int_fits g k y bs e in
      true_not_false (sym (in_any 0 tags (subst (λ k. In k tags) f.tagged (h.tag f.n f.is))) ∙ n)
  never_among tags shape.Else y bs b n e h = h.some (none_any tags n)

  pub never_taken : (left : Option (List ℕ)) (s : Shape) (y : Value) (bs : List Binding)
      → shape_vars s ≡ [] → arm_may_match left s ≡ false → fit_of g s y ≡ fits bs → Left left y → ⊥
  never_taken None s y bs b n e h = true_not_false n
  never_taken (Some tags) s y bs b n e h = never_among tags s y bs b n e h

  -- where the solution covers the state, the value of a case has one of its tags
  pub at_first : (A : Solution) (s : State) → StateIsCovered g A s → (v : Val) (y : Value)
      → value_of g s.env v ≡ Some y → Left (tags_at (length g.tags) A (tag_variable v)) y
  at_first A s lies v y at = go (tag_variable v) refl
    where
      by_list : (x : VarId) (ts : List ℕ) → tag_variable v ≡ Some x
          → tags_of (length g.tags) A x.0 ≡ ts → Left (if_nonempty ts) y
      by_list x [] e q = tt
      by_list x (t ∷ ts) e q = record {
        tag = λ n is. subst (In n.tag) q
            (tag_listed g A s lies x n
            (tag_there g s.env v x n e (ap (λ o. and_then o (as_node g)) at ∙ is)));
        some = λ z. not_empty (t ∷ ts) here z;
      }

      go : (o : Option VarId) → tag_variable v ≡ o → Left (tags_at (length g.tags) A o) y
      go None e = tt
      go (Some x) e = by_list x (tags_of (length g.tags) A x.0) e refl
