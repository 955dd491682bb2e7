-- In a program in its order each case tests for values first.
use Rattle.std.proofs.Common.{◌≡◌, Bool, true, false, cond, ◌||◌, List, [], ◌∷◌, refl, sym, ◌∙◌}
use Rattle.seq.proofs.Truth.{true_not_false}
use Rattle.grin_syntax.specs.declared.program.Cell.{Cell}
use Rattle.grin_syntax.specs.declared.program.Shape.{Shape}
use Rattle.grin_syntax.specs.Tree.{Code, Leaf, leaf, unit, fetch, fetch_word, update, eval, apply, call, prim, read, write, fail, Arms, no_arm, arm, Procedure}
use Rattle.grin_syntax.specs.Formed.{AllOf, params_scope}
use Rattle.grin_meaning.specs.Ready.{EachAct, EachCode, EachArms, EveryBodyIsOfKind}
use Rattle.grin_rewrite.proofs.Walked.{Relating, code_walked}
use Rattle.grin_rewrite.proofs.FactText.{procs_by}
use Rattle.pass_order.specs.Order.{is_else, is_delayed_call, behind_values, values_first, ordering}
use Rattle.pass_order.specs.Ordered.{ValuesStandFirst, values_first_kind}
use Rattle.pass_order.proofs.Kept.{unchanged}
use Rattle.pass_order.proofs.Moved.{Moves, in_order}

one_of : (a b : Bool) → (a || b) ≡ true → b ≡ false → a ≡ true
one_of true b e f = refl
one_of false b e f = true_not_false (sym e ∙ f)

no_first : (a b : Bool) → (a || b) ≡ false → a ≡ false
no_first true b e = e
no_first false b e = refl

module _ (delayed : List Bool) where
  behind_stands : (s : Shape) (b : Code) (as' : Arms) → ValuesStandFirst delayed as'
      → ValuesStandFirst delayed (behind_values delayed s b as')
  behind_stands s b no_arm h = ((λ e. tt), tt)
  behind_stands s b (arm u c as') h =
      go (is_delayed_call delayed u || is_else u) refl (behind_stands s b as' h.1)
    where
      go : (k : Bool) → (is_delayed_call delayed u || is_else u) ≡ k
          → ValuesStandFirst delayed (behind_values delayed s b as')
          → ValuesStandFirst delayed
          (cond k (arm s b (arm u c as')) (arm u c (behind_values delayed s b as')))
      go true e later = (
        (λ k f.
            let is_call = one_of (is_delayed_call delayed u) (is_else u) e f in (is_call, h.0 is_call)),
        h,
      )
      go false e later = (
        (λ k. true_not_false
            (sym k ∙ no_first (is_delayed_call delayed u) (is_else u) e)),
        later,
      )

  stand_first : (as' : Arms) → ValuesStandFirst delayed (values_first delayed as')
  stand_first no_arm = tt
  stand_first (arm s b as') = go (is_delayed_call delayed s) refl (stand_first as')
    where
      go : (k : Bool) → is_delayed_call delayed s ≡ k
          → ValuesStandFirst delayed (values_first delayed as')
          → ValuesStandFirst delayed (cond k (behind_values delayed s b (values_first delayed as'))
          (arm s b (values_first delayed as')))
      go true e h = behind_stands s b (values_first delayed as') h
      go false e h = ((λ k. true_not_false (sym k ∙ e)), h)

  -- ---- all pieces

  leaf_stands : (l : Leaf) → EachAct (values_first_kind delayed) (leaf l)
  unfolding EachAct
  leaf_stands (unit v) = (tt, tt)
  leaf_stands (update a v) = (tt, tt)
  leaf_stands (apply v a) = (tt, tt)
  leaf_stands (fetch a) = tt
  leaf_stands (fetch_word a i) = tt
  leaf_stands (eval a) = tt
  leaf_stands (call f ws) = tt
  leaf_stands (prim f a b) = tt
  leaf_stands read = tt
  leaf_stands (write a) = tt
  leaf_stands fail = tt

  each_moved : Moves delayed
  unfolding EachAct
  each_moved = record {
    arms = λ as' bs'. EachArms (values_first_kind delayed) as'
        → EachArms (values_first_kind delayed) bs';
    same = λ as' h. h;
    more = λ s b as' bs' k h. (h.0, h.1, k h.2);
    swaps = λ s u b c as' a h. (h.2.0, h.2.1, (h.0, h.1, h.2.2));
    again = λ as' bs' cs' h k e. k (h e);
  }

  arms_stand : (as' : Arms) → EachArms (values_first_kind delayed) as'
      → EachArms (values_first_kind delayed) (values_first delayed as')
  unfolding each_moved
  arms_stand as' = in_order delayed each_moved as'

  any_cells : (cs : List Cell) → AllOf {A = Cell} (λ c. Unit {0}) cs
  any_cells [] = tt
  any_cells (c ∷ cs) = (tt, any_cells cs)

  each_relating : Relating (ordering delayed)
  unfolding EachAct
  each_relating = record {
    act = λ f scope o o'. EachAct (values_first_kind delayed) o';
    code = λ f scope b b'. EachCode (values_first_kind delayed) b';
    arms = λ f scope v as' bs'. EachArms (values_first_kind delayed) bs';
    leafs = λ f scope l. leaf_stands l;
    cases = λ f scope v as' bs' h. (stand_first bs', tt, arms_stand bs' h);
    blocks = λ f scope b b' h. (tt, h);
    ends = λ f scope o o' h. h;
    stores = λ f scope cs b b' h. (any_cells cs, h);
    binds = λ f scope t o b b' h k. (tt, h, k);
    none_left = λ f scope v. tt;
    more = λ f scope v s b b' as' bs' h k. (tt, h, k);
  }

  pub bodies_stand : (qs : List Procedure) → EveryBodyIsOfKind (values_first_kind delayed)
      (procs_by (ordering delayed) unchanged tt qs)
  unfolding each_relating
  bodies_stand [] = tt
  bodies_stand (q ∷ qs) =
      (code_walked (ordering delayed) each_relating q.body tt (params_scope q), bodies_stand qs)
