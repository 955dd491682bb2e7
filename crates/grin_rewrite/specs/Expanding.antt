-- A rule by which an operation becomes a case over the tags of a value, with one operation for
-- each.
use Rattle.std.specs.Prelude.{ℕ, List, [], ◌∷◌, Option, Some, None}
use Rattle.grin_syntax.specs.declared.program.Val.{Val}
use Rattle.grin_syntax.specs.declared.program.Shape.{Shape}
use Rattle.grin_syntax.specs.declared.program.Shape.TheVariants.{Node as NodeShape}
use Rattle.grin_syntax.specs.Tags.{tag_id}
use Rattle.grin_syntax.specs.Tree.{Code, end, Act, Leaf, leaf, case, Arms, no_arm, arm}

-- the value whose tag decides, the tags that it may have, and the operation for each of them
pub record Expansion : Type 0 where
  pub value : Val
  pub tags : List ℕ
  pub each : ℕ → Leaf

abbrev pub alternative : (ℕ → Leaf) → ℕ → Shape × Code
alternative f t = (NodeShape (tag_id t) [], end (leaf (f t)))

abbrev pub alternatives : (ℕ → Leaf) → List ℕ → Arms
alternatives f [] = no_arm
alternatives f (t ∷ ts) = arm (NodeShape (tag_id t) []) (end (leaf (f t))) (alternatives f ts)

-- an operation that is not expanded stays
abbrev pub expanded : Leaf → Option Expansion → Act
expanded l None = leaf l
expanded l (Some x) = case x.value (alternatives x.each x.tags)
