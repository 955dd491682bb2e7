-- Alternatives in another order: relations that hold where two of them change places, which no
-- value
-- fits both, hold between all alternatives and the same in their order.
use Rattle.std.proofs.Common.{◌≡◌, Bool, true, false, cond, ◌||◌, List, refl}
use Rattle.grin_syntax.specs.declared.program.Shape.{Shape}
use Rattle.grin_syntax.specs.Tree.{Code, Arms, no_arm, arm}
use Rattle.pass_order.specs.Order.{is_else, is_delayed_call, behind_values, values_first}

module _ (delayed : List Bool) where
  -- the first pattern fits delayed calls alone, and the second one others alone
  pub record Apart (s u : Shape) : Type 0 where
    pub call : is_delayed_call delayed s ≡ true
    pub value : (is_delayed_call delayed u || is_else u) ≡ false

  pub record Moves : Type 1 where
    pub arms : Arms → Arms → Type 0
    pub same : (as' : Arms) → arms as' as'
    pub more : (s : Shape) (b : Code) (as' bs' : Arms) → arms as' bs'
        → arms (arm s b as') (arm s b bs')
    pub swaps : (s u : Shape) (b c : Code) (as' : Arms) → Apart s u
        → arms (arm s b (arm u c as')) (arm u c (arm s b as'))
    pub again : (as' bs' cs' : Arms) → arms as' bs' → arms bs' cs' → arms as' cs'

  module _ (m : Moves) where
    behind : (s : Shape) (b : Code) (as' : Arms) → is_delayed_call delayed s ≡ true
        → m.arms (arm s b as') (behind_values delayed s b as')
    behind s b no_arm e = m.same (arm s b no_arm)
    behind s b (arm u c as') e = go (is_delayed_call delayed u || is_else u) refl (behind s b as' e)
      where
        go : (k : Bool) → (is_delayed_call delayed u || is_else u) ≡ k
            → m.arms (arm s b as') (behind_values delayed s b as')
            → m.arms (arm s b (arm u c as'))
            (cond k (arm s b (arm u c as')) (arm u c (behind_values delayed s b as')))
        go true q h = m.same (arm s b (arm u c as'))
        go false q h = m.again (arm s b (arm u c as')) (arm u c (arm s b as'))
            (arm u c (behind_values delayed s b as'))
            (m.swaps s u b c as' (record { call = e; value = q }))
            (m.more u c (arm s b as') (behind_values delayed s b as') h)

    pub in_order : (as' : Arms) → m.arms as' (values_first delayed as')
    in_order no_arm = m.same no_arm
    in_order (arm s b as') = go (is_delayed_call delayed s) refl (in_order as')
      where
        go : (k : Bool) → is_delayed_call delayed s ≡ k → m.arms as' (values_first delayed as')
            → m.arms (arm s b as') (cond k (behind_values delayed s b (values_first delayed as'))
            (arm s b (values_first delayed as')))
        go true q h = m.again (arm s b as') (arm s b (values_first delayed as'))
            (behind_values delayed s b (values_first delayed as'))
            (m.more s b as' (values_first delayed as') h)
            (behind s b (values_first delayed as') q)
        go false q h = m.more s b as' (values_first delayed as') h
