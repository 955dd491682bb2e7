-- The words that stand for the cells that a piece of a program reads: the operands of its fetches,
-- and of its updates where these count as reads.
use Rattle.std.specs.Prelude.{Bool, cond, List, [], ◌∷◌, ◌++◌}
use Rattle.grin_syntax.specs.declared.program.Word as W
use Rattle.grin_syntax.specs.Tree.{Code, end, store, bind, Act, leaf, fetch, fetch_word, update, case, nested, Arms, no_arm, arm, Procedure}

module _ (updates_count : Bool) where
  abbrev pub update_reads : W.Word → List W.Word
  update_reads a = cond updates_count (a ∷ []) []

  unfoldable mutual
    pub act_reads : Act → List W.Word
    act_reads (leaf (fetch a)) = a ∷ []
    act_reads (leaf (fetch_word a i)) = a ∷ []
    act_reads (leaf (update a v)) = update_reads a
    act_reads (case v as') = arms_reads as'
    act_reads (nested b) = code_reads b
    act_reads _ = []

    pub code_reads : Code → List W.Word
    code_reads (end o) = act_reads o
    code_reads (store cs b) = code_reads b
    code_reads (bind t o b) = act_reads o ++ code_reads b

    pub arms_reads : Arms → List W.Word
    arms_reads no_arm = []
    arms_reads (arm s b as') = code_reads b ++ arms_reads as'

  abbrev pub reads_of : List Procedure → List W.Word
  reads_of [] = []
  reads_of (q ∷ qs) = code_reads q.body ++ reads_of qs
