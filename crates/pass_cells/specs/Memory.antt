-- What is remembered of the cells that a procedure stored and whose variables it shows to nobody.
use Rattle.std.specs.Prelude.{ℕ, zero, suc, pos, Bool, cond, nat_eq, List, [], ◌∷◌, Option, Some, None}
use Rattle.grin_syntax.specs.declared.program.Cell.{Cell}
use Rattle.grin_syntax.specs.declared.program.Word as W
use Rattle.grin_syntax.specs.declared.program.Word.TheVariants.{Lit, Var, TagWord}
use Rattle.grin_syntax.specs.declared.program.Val as V
use Rattle.grin_syntax.specs.declared.program.Val.TheVariants.{NodeVar, Node, Vector, One}
use Rattle.grin_syntax.specs.Tree.{Act, leaf, update, case, nested}
use Rattle.pass_ground.specs.Uses.{words_use}
use Rattle.pass_ground.specs.Updated.{arms_updated, code_updated}

-- of a variable: it stands for no such cell; for one of which it isn't known what it holds; or for
-- one that holds these words, and zeros after them
pub data Memory : Type 0 where
  other : Memory
  lost : Memory
  holds : List W.Word → Memory

abbrev pub KnownCellContents : Type 0
KnownCellContents = ℕ → Memory

abbrev pub none : KnownCellContents
none x = other

abbrev pub with_memory : ℕ → Memory → KnownCellContents → KnownCellContents
with_memory x m T = λ y. cond (nat_eq y x) m (T y)

-- what a cell holds after this is put into it
abbrev pub stored_contents : V.Val → Memory
stored_contents (Node t ws) = holds (TagWord t ∷ ws)
stored_contents (Vector ws) = holds ws
stored_contents (One a) = holds (a ∷ [])
stored_contents (NodeVar x) = lost

-- ---- how it changes

abbrev pub contents_forgotten : Memory → Memory
contents_forgotten other = other
contents_forgotten _ = lost

-- the cells of these words are updated
abbrev pub forget : List W.Word → KnownCellContents → KnownCellContents
forget ws T = λ y. cond (words_use y ws) (contents_forgotten (T y)) (T y)

abbrev pub contents_replaced : Memory → Memory → Memory
contents_replaced other m = other
contents_replaced _ m = m

-- the cell of a word gets another node
abbrev pub after_update : W.Word → V.Val → KnownCellContents → KnownCellContents
after_update (Var x) v T = with_memory x.0 (contents_replaced (T x.0) (stored_contents v)) T
after_update _ v T = T

-- behind a bound operation
abbrev pub after_act : Act → KnownCellContents → KnownCellContents
after_act (leaf (update a v)) T = after_update a v T
after_act (case v as') T = forget (arms_updated as') T
after_act (nested b) T = forget (code_updated b) T
after_act _ T = T

-- behind a group of cells; of those in own, what they hold is remembered
abbrev pub after_store : (ℕ → Bool) → List Cell → KnownCellContents → KnownCellContents
after_store own [] T = T
after_store own (c ∷ cs) T =
    after_store own cs (cond (own c.var.0) (with_memory c.var.0 (stored_contents c.val) T) T)

-- ---- what it tells

abbrev pub word_at : List W.Word → ℕ → W.Word
word_at [] i = Lit (pos 0)
word_at (a ∷ ws) zero = a
word_at (a ∷ ws) (suc i) = word_at ws i

abbrev pub told : Memory → ℕ → Option W.Word
told (holds ws) i = Some (word_at ws i)
told _ i = None

-- word i of the cell of a word
abbrev pub remembered_word_of : KnownCellContents → W.Word → ℕ → Option W.Word
remembered_word_of T (Var x) i = told (T x.0) i
remembered_word_of T _ i = None
