-- What is known of the variables at a place of a program: the tag or the number that each holds.
use Rattle.std.specs.Prelude.{List, [], ◌∷◌, Option, Some, None, slice_get}
use Rattle.grin_syntax.specs.declared.program.VarId.{VarId}
use Rattle.grin_syntax.specs.declared.program.Word as W
use Rattle.grin_syntax.specs.declared.program.Word.TheVariants.{Lit, Var, Global, TagWord}
use Rattle.grin_syntax.specs.declared.program.Val as V
use Rattle.grin_syntax.specs.declared.program.Val.TheVariants.{NodeVar, Node, Vector, One}
use Rattle.grin_syntax.specs.declared.program.Target.{Target}
use Rattle.grin_syntax.specs.declared.program.Target.TheVariants as to
use Rattle.grin_syntax.specs.declared.program.Shape.{Shape}
use Rattle.grin_syntax.specs.declared.program.Shape.TheVariants as shape
use Rattle.grin_syntax.specs.Tags.{tag_id}
use Rattle.grin_syntax.specs.Tree.{Act, leaf, unit}
use Rattle.grin_meaning.specs.Values.{and_then}
pub use Rattle.case_simplify.specs.declared.known.Known.{Known}
pub use Rattle.case_simplify.specs.declared.known.Known.TheVariants.{Tag, Number}
use Rattle.grin_rewrite.specs.Table.{Facts as FactsOf}
pub use Rattle.grin_rewrite.specs.Table.{nothing_known, note, facts_of}

abbrev pub Facts : Type 0
Facts = FactsOf Known

-- what is known of a word
abbrev pub told : Facts → W.Word → Option Known
told facts (Lit k) = Some (Number k)
told facts (TagWord t) = Some (Tag t)
told facts (Var x) = facts x.0
told facts (Global i) = None

-- the words of a value; those of a node are its tag and its fields
abbrev pub words_in : V.Val → List W.Word
words_in (NodeVar x) = []
words_in (Node t ws) = TagWord t ∷ ws
words_in (Vector ws) = ws
words_in (One w) = w ∷ []

-- the word of a value that holds its tag, and the one after it
abbrev pub first_word : V.Val → Option W.Word
first_word v = slice_get (words_in v) 0

abbrev pub second_word : V.Val → Option W.Word
second_word v = slice_get (words_in v) 1

abbrev pub known_first_word : Facts → V.Val → Option Known
known_first_word facts v = and_then (first_word v) (told facts)

abbrev pub known_second_word : Facts → V.Val → Option Known
known_second_word facts v = and_then (second_word v) (told facts)

-- where the word is a variable
abbrev pub note_word : Option W.Word → Known → Facts → Facts
note_word (Some (Var x)) k facts = note x k facts
note_word _ k facts = facts

-- ---- copies

-- what is known of a word is known of a variable too
abbrev pub note_known : VarId → Option Known → Facts → Facts
note_known x None facts = facts
note_known x (Some k) facts = note x k facts

-- each variable is given a word
abbrev pub note_copies : List VarId → List W.Word → Facts → Facts
note_copies [] ws facts = facts
note_copies (x ∷ xs) [] facts = facts
note_copies (x ∷ xs) (w ∷ ws) facts = note_copies xs ws (note_known x (told facts w) facts)

-- the variables of a target that are given a word each
abbrev pub word_vars : Target → List VarId
word_vars to.Nothing = []
word_vars (to.Node x) = []
word_vars (to.One x) = x ∷ []
word_vars (to.Vector xs) = xs

-- What is known after a statement: of the words that a unit gives, and so of the variables that are
-- given them.
abbrev pub known_after : Target → Act → Facts → Facts
known_after t (leaf (unit v)) facts = note_copies (word_vars t) (words_in v) facts
known_after t _ facts = facts

-- ---- cases

-- What is known in an alternative of a case on v: a pattern tells the tag, and that of an integer
-- the number too.
abbrev pub facts_in_alternative : V.Val → Shape → Facts → Facts
facts_in_alternative v (shape.Node t xs) facts = note_word (first_word v) (Tag t) facts
facts_in_alternative v (shape.Int k) facts =
    note_word (second_word v) (Number k) (note_word (first_word v) (Tag (tag_id 0)) facts)
facts_in_alternative v shape.Else facts = facts
