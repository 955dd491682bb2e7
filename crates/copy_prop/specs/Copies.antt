-- Copies: a unit of words to as many variables. Each variable is a copy of its word.
use Rattle.std.specs.Prelude.{ℕ, zero, suc, pos, List, [], ◌∷◌, length, Option, Some, None}
use Rattle.grin_syntax.specs.declared.program.VarId.{VarId}
use Rattle.grin_syntax.specs.declared.program.Word as W
use Rattle.grin_syntax.specs.declared.program.Word.TheVariants.{Lit, TagWord}
use Rattle.grin_syntax.specs.declared.program.Val as V
use Rattle.grin_syntax.specs.declared.program.Val.TheVariants.{NodeVar, Node, Vector, One}
use Rattle.grin_syntax.specs.declared.program.Target.{Target}
use Rattle.grin_syntax.specs.declared.program.Target.TheVariants as to
use Rattle.grin_syntax.specs.Tree.{Act, leaf, unit}
use Rattle.grin_meaning.specs.Values.{and_then}
pub use Rattle.copy_prop.specs.declared.copies.Alias.{Alias}

-- a word for each variable, where there are as many
abbrev pub zipped_aliases : List VarId → List W.Word → Option (List Alias)
zipped_aliases [] [] = Some []
zipped_aliases [] (w ∷ ws) = None
zipped_aliases (x ∷ xs) [] = None
zipped_aliases (x ∷ xs) (w ∷ ws) =
    and_then (zipped_aliases xs ws) (λ as'. Some (record { var = x; word = w } ∷ as'))

-- so many words at least, with zeros at the end
abbrev pub zeros_after : ℕ → List W.Word → List W.Word
zeros_after zero ws = ws
zeros_after (suc n) [] = Lit (pos 0) ∷ zeros_after n []
zeros_after (suc n) (w ∷ ws) = w ∷ zeros_after n ws

-- what the words of a value are given to
abbrev pub of_words : List VarId → V.Val → Option (List Alias)
of_words xs (One w) = zipped_aliases xs (w ∷ [])
of_words xs (Vector ws) = zipped_aliases xs ws
of_words xs (Node t ws) = None
of_words xs (NodeVar y) = None

-- a vector takes a node too: its tag, its fields and then zeros
abbrev pub copies_of_node_or_words : List VarId → V.Val → Option (List Alias)
copies_of_node_or_words xs (Node t ws) =
    zipped_aliases xs (zeros_after (length xs) (TagWord t ∷ ws))
copies_of_node_or_words xs (One w) = of_words xs (One w)
copies_of_node_or_words xs (Vector ws) = of_words xs (Vector ws)
copies_of_node_or_words xs (NodeVar y) = None

abbrev pub copies_of_val : Target → V.Val → Option (List Alias)
copies_of_val (to.One x) v = of_words (x ∷ []) v
copies_of_val (to.Vector xs) v = copies_of_node_or_words xs v
copies_of_val to.Nothing v = None
copies_of_val (to.Node x) v = None

-- what a statement copies, where it is a copy
abbrev pub copies_of : Target → Act → Option (List Alias)
copies_of t (leaf (unit v)) = copies_of_val t v
copies_of t _ = None
