-- Where the variables of a piece are used: the uses in the order of the text, and the sizes of the
-- pieces in it.
use Rattle.std.specs.Prelude.{◌≡◌, Bool, ℕ, suc, ◌+◌, List, [], ◌∷◌, ◌++◌, length, slice_index_or}
use Rattle.seq.specs.Lists.{is_among}
use Rattle.grin_syntax.specs.declared.program.Word as W
use Rattle.grin_syntax.specs.declared.program.Word.TheVariants.{Var}
use Rattle.grin_syntax.specs.declared.program.Val as V
use Rattle.grin_syntax.specs.declared.program.Val.TheVariants.{NodeVar, Node, Vector, One}
use Rattle.grin_syntax.specs.declared.program.Cell.{Cell}
use Rattle.grin_syntax.specs.Tree.{Code, end, store, bind, Act, leaf, unit, fetch, fetch_word, update, eval, apply, call, prim, read, write, case, nested, fail, Arms, no_arm, arm}
use Rattle.variable_uses.specs.Stands.{ListSegmentAt}
pub use Rattle.fetch_passes.specs.declared.notes.Size.{Size}
pub use Rattle.fetch_passes.specs.declared.notes.Place.{Place}

-- the variables that are used, and the sizes of pieces as they begin
pub record Trace : Type 0 where
  pub used : List ℕ
  pub sizes : List Size

abbrev pub nothing : Trace
nothing = record { used = []; sizes = [] }

abbrev pub joined_traces : Trace → Trace → Trace
joined_traces s t = record { used = s.used ++ t.used; sizes = s.sizes ++ t.sizes }

-- how many uses a piece has, and how many pieces are in it
abbrev pub size_of : Trace → Size
size_of t = record { uses = length t.used; pieces = length t.sizes }

-- a piece with its own size in front
abbrev pub with_own_size : Trace → Trace
with_own_size t = record { used = t.used; sizes = size_of t ∷ t.sizes }

abbrev pub only : List ℕ → Trace
only us = record { used = us; sizes = [] }

-- ---- the variables that are used

abbrev pub word_used : W.Word → List ℕ
word_used (Var y) = y.0 ∷ []
word_used _ = []

abbrev pub words_used : List W.Word → List ℕ
words_used [] = []
words_used (a ∷ ws) = word_used a ++ words_used ws

abbrev pub val_used : V.Val → List ℕ
val_used (NodeVar y) = y.0 ∷ []
val_used (Node t ws) = words_used ws
val_used (Vector ws) = words_used ws
val_used (One a) = word_used a

abbrev pub cells_used : List Cell → List ℕ
cells_used [] = []
cells_used (c ∷ cs) = val_used c.val ++ cells_used cs

unfoldable mutual
  -- an operation, without its own size
  pub act_trace : Act → Trace
  act_trace (leaf (unit v)) = only (val_used v)
  act_trace (leaf (fetch a)) = only (word_used a)
  act_trace (leaf (fetch_word a i)) = only (word_used a)
  act_trace (leaf (update a v)) = only (word_used a ++ val_used v)
  act_trace (leaf (eval a)) = only (word_used a)
  act_trace (leaf (apply v a)) = only (val_used v ++ word_used a)
  act_trace (leaf (call f ws)) = only (words_used ws)
  act_trace (leaf (prim f a b)) = only (word_used a ++ word_used b)
  act_trace (leaf read) = nothing
  act_trace (leaf (write a)) = only (word_used a)
  act_trace (case v as') = joined_traces (with_own_size (only (val_used v))) (arms_trace as')
  act_trace (nested b) = code_trace b
  act_trace (leaf fail) = nothing

  -- the operations of a block and its stores, each with its size
  pub code_trace : Code → Trace
  code_trace (end o) = with_own_size (act_trace o)
  code_trace (store cs b) = joined_traces (with_own_size (only (cells_used cs))) (code_trace b)
  code_trace (bind t o b) = joined_traces (with_own_size (act_trace o)) (code_trace b)

  -- the alternatives, each with its size
  pub arms_trace : Arms → Trace
  arms_trace no_arm = nothing
  arms_trace (arm s b as') = joined_traces (with_own_size (code_trace b)) (arms_trace as')

-- ---- places in what is noted of a procedure

-- a piece begins at a place
pub record Here (n : Trace) (p : Place) (t : Trace) : Type 0 where
  pub used : ListSegmentAt n.used p.at t.used
  pub sizes : ListSegmentAt n.sizes p.piece t.sizes

abbrev pub size_at : List Size → ℕ → Size
size_at ss i = slice_index_or ss i (record { uses = 0; pieces = 0 })

-- the place inside the piece that begins here, and the one after it
abbrev pub inside : (here next : Place) → Type 0
inside here next = (next.at ≡ here.at) × (next.piece ≡ suc here.piece)

pub record IsPlaceAfterPiece (n : Trace) (here next : Place) : Type 0 where
  pub at : next.at ≡ here.at + (size_at n.sizes here.piece).uses
  pub piece : next.piece ≡ suc (here.piece + (size_at n.sizes here.piece).pieces)

-- x is used between two positions just where it is in whatever stands there
abbrev pub Answers : Trace → (x from to : ℕ) → Bool → Type 0
Answers n x from to used =
    (us : List ℕ) → ListSegmentAt n.used from us → to ≡ from + length us → used ≡ is_among x us
