-- What is no update stays.
use Rattle.std.proofs.Common.{◌≡◌, ℕ, Bool, refl}
use Rattle.grin_syntax.specs.declared.program.Op.{Op}
use Rattle.grin_syntax.specs.declared.program.Op.TheVariants.{Update}
use Rattle.grin_syntax.specs.declared.program.Val.{Val}
use Rattle.grin_syntax.specs.declared.program.Word.{Word}
use Rattle.grin_syntax.specs.Tree.{Leaf, leaf, update, act_of, IsLeaf}
use Rattle.flow_system.specs.Solution.{Solution}
use Rattle.grin_rewrite.specs.Rewriting.{rewrite_act}
use Rattle.grin_rewrite.proofs.Leaves.{op_of, stays}
use Rattle.dead_store.specs.Unread.{read_leaf}

pub other_stays : (A : Solution) (fetched : ℕ → Bool) (op : Op) → IsLeaf (act_of op)
    → ((a : Word) (v : Val) → op ≡ Update a v → ⊥) → act_of op ≡ rewrite_act (read_leaf A fetched)
    (act_of op)
other_stays A fetched op h differs = stays (read_leaf A fetched) op h go
  where
    go : (l : Leaf) → op ≡ op_of l → read_leaf A fetched l ≡ leaf l
    go (update a v) e = absurd (differs a v e)
    go _ e = refl
