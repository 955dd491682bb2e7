-- The shape of a program in the order of its tests.
use Rattle.std.specs.Prelude.{ℕ, ◌≡◌, ◌≤◌, Bool, true, false, List}
use Rattle.grin_syntax.specs.Tree.{Act, case, Arms, no_arm, arm, Program}
use Rattle.grin_meaning.specs.Ready.{PieceKind, any_kind, EveryBodyIsOfKind}
use Rattle.grin_meaning.specs.Slim.{Slim}
use Rattle.pass_ground.specs.Vectors.{StaysVectorForm}
use Rattle.pass_ground.specs.OpenUpdates.{updates_with_variable_tag}
use Rattle.pass_order.specs.Order.{delayed_tags, is_else, is_delayed_call, ordered}

module _ (delayed : List Bool) where
  -- up to an else, all of these are for delayed calls
  abbrev pub AreDelayedCalls : Arms → Type 0
  AreDelayedCalls no_arm = Unit {0}
  AreDelayedCalls (arm s b as') =
      is_else s ≡ false → (is_delayed_call delayed s ≡ true) × AreDelayedCalls as'

  -- up to an else, no alternative for a value stands behind one for a delayed call
  abbrev pub ValuesStandFirst : Arms → Type 0
  ValuesStandFirst no_arm = Unit {0}
  ValuesStandFirst (arm s b as') =
      (is_delayed_call delayed s ≡ true → AreDelayedCalls as') × ValuesStandFirst as'

  abbrev pub TestsValuesFirst : Act → Type 0
  TestsValuesFirst (case v as') = ValuesStandFirst as'
  TestsValuesFirst _ = Unit {0}

  abbrev pub values_first_kind : PieceKind
  values_first_kind = record any_kind { operation = TestsValuesFirst }

-- h is g in that order. So each of its cases tests for values first, and h is as good an input for
-- a pass as g, with no more updates without a literal tag, and no larger.
pub record Ordered (g h : Program) : Type 0 where
  pub stays : StaysVectorForm g h
  pub made : h ≡ ordered g
  pub tests : EveryBodyIsOfKind (values_first_kind (delayed_tags g.tags)) h.procs
  pub no_more_open : updates_with_variable_tag h ≤ updates_with_variable_tag g
  pub slim : (size most : ℕ) → Slim size most g → Slim size most h
