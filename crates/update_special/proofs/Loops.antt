-- What is no update stays, and what has few tags becomes a case.
use Rattle.std.proofs.Common.{◌≡◌, ℕ, true, cond, nat_le, List, [], map, length, Some, None, refl, sym, ap, ◌∙◌}
use Rattle.grin_syntax.specs.declared.program.Word.{Word}
use Rattle.grin_syntax.specs.declared.program.Val.{Val}
use Rattle.grin_syntax.specs.declared.program.Alt.{Alt}
use Rattle.grin_syntax.specs.declared.program.Op.{Op}
use Rattle.grin_syntax.specs.declared.program.Op.TheVariants.{Case, Update}
use Rattle.grin_syntax.specs.Tree.{Leaf, leaf, update, act_of, arm_of, IsLeaf}
use Rattle.grin_rewrite.specs.Rewriting.{rewrite_act}
use Rattle.grin_rewrite.specs.Expanding.{alternative, expanded}
use Rattle.grin_rewrite.proofs.Expanded.{case_over}
use Rattle.grin_rewrite.proofs.Leaves.{op_of, stays}
use Rattle.update_special.specs.Updates.{max_case_tags, over_tags, if_few, update_leaf}

-- what is no update stays
pub other_stays : (T : ℕ → List ℕ) (op : Op) → IsLeaf (act_of op)
    → ((a : Word) (v : Val) → op ≡ Update a v → ⊥) → act_of op ≡ rewrite_act (update_leaf T)
    (act_of op)
other_stays T op h differs = stays (update_leaf T) op h go
  where
    go : (l : Leaf) → op ≡ op_of l → update_leaf T l ≡ leaf l
    go (update a v) e = absurd (differs a v e)
    go _ e = refl

-- the case over the tags of an update
pub over_few : (a : Word) (v : Val) (ts : List ℕ) (alts : List Alt)
    → nat_le (length ts) max_case_tags ≡ true → map arm_of alts ≡ map
    (alternative (over_tags a v []).each) ts → act_of (Case v alts) ≡ expanded (update a v)
    (if_few a v ts)
over_few a v ts alts e h = case_over (update a v) (over_tags a v ts) alts h ∙ sym
    (ap (λ b. expanded (update a v) (cond b (Some (over_tags a v ts)) None)) e)
