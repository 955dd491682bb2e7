-- What a plan holds: ways that lead each item to its goal, and where labels stand then.
use Rattle.std.specs.Prelude.{◌≡◌, List, length}
use Rattle.rv32_items.specs.declared.Item.{Item}
use Rattle.rv32_layout.specs.declared.plan.LayoutPlan.{LayoutPlan}
use Rattle.rv32_layout.specs.Places.{place, AllReachTargets}
use Rattle.rv32_layout.specs.Spots.{KnowsLabelSpots, HasRoom}

pub record IsLayoutPlan (items : List Item) (plan : LayoutPlan) : Type 0 where
  pub go : AllReachTargets items plan.ways.items
  pub known : KnowsLabelSpots items plan.ways.items (length items) plan.spots
  pub len : plan.len ≡ place plan.ways.items items (length items)
  pub room : HasRoom items plan.spots
