-- A program whose fetches of words that are remembered give way to these words.
use Rattle.std.specs.Prelude.{ℕ, Bool, not, Option, Some, None}
use Rattle.grin_syntax.specs.declared.program.Shape.{Shape}
use Rattle.grin_syntax.specs.declared.program.Word as W
use Rattle.grin_syntax.specs.declared.program.Val.TheVariants.{One}
use Rattle.grin_syntax.specs.Tree.{Code, end, store, bind, Act, leaf, unit, fetch_word, case, nested, Arms, no_arm, arm, Program}
use Rattle.grin_meaning.specs.Rewritten.{rewritten}
use Rattle.pass_ground.specs.Uses.{words_use}
use Rattle.pass_cells.specs.Shown.{code_shown}
use Rattle.pass_cells.specs.Memory.{KnownCellContents, none, after_act, after_store, remembered_word_of}

abbrev pub word_or_fetch : W.Word → ℕ → Option W.Word → Act
word_or_fetch a i None = leaf (fetch_word a i)
word_or_fetch a i (Some w) = leaf (unit (One w))

module _ (own : ℕ → Bool) where
  unfoldable mutual
    pub told_act : KnownCellContents → Act → Act
    told_act T (leaf (fetch_word a i)) = word_or_fetch a i (remembered_word_of T a i)
    told_act T (case v as') = case v (told_arms T as')
    told_act T (nested b) = nested (told_code T b)
    told_act T o = o

    pub told_code : KnownCellContents → Code → Code
    told_code T (end o) = end (told_act T o)
    told_code T (store cs b) = store cs (told_code (after_store own cs T) b)
    told_code T (bind t o b) = bind t (told_act T o) (told_code (after_act o T) b)

    pub told_arms : KnownCellContents → Arms → Arms
    told_arms T no_arm = no_arm
    told_arms T (arm s b as') = arm s (told_code T b) (told_arms T as')

  abbrev pub told_arm : KnownCellContents → Shape × Code → Shape × Code
  told_arm T a = (a.0, told_code T a.1)

-- a variable is nowhere but the cell of fetches and updates
abbrev pub is_own_cell_variable : Code → ℕ → Bool
is_own_cell_variable b x = not (words_use x (code_shown b))

abbrev pub remembered_body : Code → Code
remembered_body b = told_code (is_own_cell_variable b) none b

abbrev pub remembered : Program → Program
remembered g = rewritten remembered_body g
