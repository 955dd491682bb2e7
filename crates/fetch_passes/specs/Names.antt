-- What stands for the variables of a program whose fetches are split.
use Rattle.std.specs.Prelude.{ℕ, pos, Bool, true, false, cond, nat_eq, List, [], ◌∷◌, ◌++◌, map}
use Rattle.grin_syntax.specs.declared.program.VarId.{VarId}
use Rattle.grin_syntax.specs.declared.program.Word as W
use Rattle.grin_syntax.specs.declared.program.Word.TheVariants.{Lit, Var}
use Rattle.grin_syntax.specs.declared.program.Val as V
use Rattle.grin_syntax.specs.declared.program.Val.TheVariants.{NodeVar, Node, Vector, One}
use Rattle.grin_syntax.specs.declared.program.Cell.{Cell}
use Rattle.grin_syntax.specs.Fresh.{variable}
pub use Rattle.fetch_passes.specs.declared.names.Replacement.{Replacement}
pub use Rattle.fetch_passes.specs.declared.names.DeferredField.{DeferredField}

abbrev pub Names : Type 0
Names = List Replacement

-- the word that stands for x by the last of these, else w
abbrev pub stands : Names → W.Word → VarId → W.Word
stands [] w x = w
stands (k ∷ ks) w x = stands ks (cond (nat_eq k.var.0 x.0) k.word w) x

-- the word that a word becomes
abbrev pub as_word : Names → W.Word → W.Word
as_word ks (Var x) = stands ks (Var x) x
as_word ks w = w

abbrev pub as_words : Names → List W.Word → List W.Word
as_words ks ws = map (as_word ks) ws

abbrev pub as_val : Names → V.Val → V.Val
as_val ks (NodeVar x) = NodeVar x
as_val ks (Node t ws) = Node t (as_words ks ws)
as_val ks (Vector ws) = Vector (as_words ks ws)
as_val ks (One a) = One (as_word ks a)

abbrev pub as_cells : Names → List Cell → List Cell
as_cells ks cs = map {A = Cell} (λ c. record c { val = as_val ks c.val }) cs

-- a variable that waits is not bound, and 0 stands for it
abbrev pub hidden_as_zero : DeferredField → Replacement
hidden_as_zero p = record { var = p.var; word = Lit (pos 0) }

abbrev pub with_hidden : List DeferredField → Names → Names
with_hidden ps ks = ks ++ map hidden_as_zero ps

-- with a new variable for x, where it is used
abbrev pub named_if : Bool → VarId → ℕ → Names → Names
named_if true x n ks = ks ++ record { var = x; word = Var (variable n) } ∷ []
named_if false x n ks = ks
