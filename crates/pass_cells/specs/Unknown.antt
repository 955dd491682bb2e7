-- The shape of a program that fetches no word that is remembered.
use Rattle.std.specs.Prelude.{ℕ, ◌≡◌, Bool, None}
use Rattle.grin_syntax.specs.Tree.{Code, end, store, bind, Act, leaf, fetch_word, case, nested, Arms, no_arm, arm, Program}
use Rattle.grin_syntax.specs.Formed.{AllOf}
use Rattle.grin_meaning.specs.Slim.{Slim}
use Rattle.pass_ground.specs.Vectors.{StaysVectorForm}
use Rattle.pass_ground.specs.OpenUpdates.{updates_with_variable_tag}
use Rattle.pass_cells.specs.Memory.{KnownCellContents, none, after_act, after_store, remembered_word_of}
use Rattle.pass_cells.specs.Remembered.{is_own_cell_variable, remembered}

-- no word that a piece fetches is remembered on the way to its fetch
module _ (own : ℕ → Bool) where
  unfoldable mutual
    pub ActUnknown : KnownCellContents → Act → Type 0
    ActUnknown T (leaf (fetch_word a i)) = remembered_word_of T a i ≡ None
    ActUnknown T (case v as') = ArmsUnknown T as'
    ActUnknown T (nested b) = CodeUnknown T b
    ActUnknown T _ = Unit {0}

    pub CodeUnknown : KnownCellContents → Code → Type 0
    CodeUnknown T (end o) = ActUnknown T o
    CodeUnknown T (store cs b) = CodeUnknown (after_store own cs T) b
    CodeUnknown T (bind t o b) = ActUnknown T o × CodeUnknown (after_act o T) b

    pub ArmsUnknown : KnownCellContents → Arms → Type 0
    ArmsUnknown T no_arm = Unit {0}
    ArmsUnknown T (arm s b as') = CodeUnknown T b × ArmsUnknown T as'

abbrev pub FetchesOnlyUnknown : Program → Type 0
FetchesOnlyUnknown p = AllOf (λ q. CodeUnknown (is_own_cell_variable q.body) none q.body) p.procs

-- h is g with remembered words in place of their fetches, and fetches none that is. It is as good
-- an input for a pass as g, with as many updates without a literal tag, and no larger
pub record RefetchesNothing (g h : Program) : Type 0 where
  pub stays : StaysVectorForm g h
  pub made : h ≡ remembered g
  pub unknown : FetchesOnlyUnknown h
  pub same_open : updates_with_variable_tag h ≡ updates_with_variable_tag g
  pub slim : (size most : ℕ) → Slim size most g → Slim size most h
