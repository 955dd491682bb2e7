-- What the images of a text that `link`, `lift` or `match` wrote do.
use Rattle.std.specs.Prelude.{◌≡◌, ℕ, List, [], ◌∷◌, true, ◌||◌}
use Rattle.seq.specs.Lists.{In}
use Rattle.core_reader.specs.Tree as tree
use Rattle.arity_check.specs.Normal.{IsNormalForm}
use Rattle.arity_check.specs.Program.{Program}
use Rattle.core_meaning.specs.Told.{core_program_meaning}
use Rattle.core_link.specs.Module.{Module, IsModuleText}
use Rattle.core_link.specs.Laws.{SplitsAtHeader}
use Rattle.lambda_lift.specs.Meaning.{meaning_of_lambdas}
use Rattle.match_compile.specs.Source.{Source, Equation}
use Rattle.match_compile.specs.Translated.{translated}
use Rattle.match_compile.specs.Sizes.{most_equations, functions, is_simple, is_plain}
use Rattle.match_compile.specs.Form.{Equations, IsFormOf}
use Rattle.match_compile.specs.ByEquations.{equations_meaning}
use Rattle.match_compile.specs.Within.{Within, SameWithinSameUnits}
use Rattle.elf32.specs.Image.{Image}
use Rattle.elf32.specs.Rules.{Loads}
use Rattle.headline.specs.Carries.{Meaning, Carries, KeepsPace}
use Rattle.rv32_steps.specs.Seen.{observed_image}
use Rattle.grin_compile.specs.Limits.{HeapIsExceeded, StackIsExceeded, largest_frame, whole_words}
use Rattle.grin_compile.specs.Words.{most_steps}
use Rattle.text_commands.specs.Text.{IsAccepted}
use Rattle.text_commands.specs.Linking.{IsLinkedText}
use Rattle.text_commands.specs.Lifting.{IsLiftedText}
use Rattle.text_commands.specs.Matching.{IsMatchedText}
use Rattle.grin_driver.specs.Outcome.{IsImageOf}

-- an image of a text, with so many cells and so many bytes of stack
module _ (text : List ℕ) (cells stack : ℕ) (file : List ℕ) (from : IsImageOf text cells stack file)
  where
    -- Whatever it loads as carries a meaning, up to the heap and the stack that it was given, and
    -- keeps pace with it.
    abbrev pub ImageDoes : Meaning → Type 0
    ImageDoes told =
        (image : Image) → Loads file image
        → Carries (HeapIsExceeded cells)
        (StackIsExceeded (largest_frame from.made.frames) (whole_words stack))
        told (observed_image image)
        × KeepsPace (most_steps from.made.code from.made.addresses) told (observed_image image)

-- each image of a text does so
abbrev pub ImagesDo : (text : List ℕ) → Meaning → Type 0
ImagesDo text told =
    (cells stack : ℕ) (file : List ℕ) (from : IsImageOf text cells stack file)
    → ImageDoes text cells stack file from told

-- ---- modules

-- Let an image be made of the text that was written for modules. It does what the program does that
-- they are together. For one module without imports it does what the program does that stands
-- behind its header, where `check` accepts that.
pub record LinkedImagesKeepMeaning : Type 0 where
  pub together : (texts : List (List ℕ)) (written : List ℕ) (linked : IsLinkedText texts written)
      → (p : Program) → IsNormalForm linked.program p → ImagesDo written (core_program_meaning p)
  pub alone : (text written : List ℕ) (linked : IsLinkedText (text ∷ []) written)
      → (m : Module) → IsModuleText text m → m.imports ≡ []
      → (rest : List ℕ) (c : tree.Program) (p : Program)
      → SplitsAtHeader text rest m → IsAccepted rest c p → ImagesDo written (core_program_meaning p)

-- ---- lambdas

-- Let an image be made of the text that was written for one with lambdas and local functions. It
-- does what that means without lifting.
abbrev pub LiftedImagesKeepMeaning : Type 0
LiftedImagesKeepMeaning =
    (text written : List ℕ) (h : IsLiftedText text written)
    → ImagesDo written (meaning_of_lambdas h.source)

-- ---- equations

-- The program is what equations become, and puts out what they do: it needs no more units for one
-- of theirs than the largest function has equations, and the same where each function is simple, or
-- one equation of names alone.
pub record StandsForEquations (c : Source) (p : Program) : Type 0 where
  pub normal : IsNormalForm (translated c) p
  pub equations : Equations
  pub form : IsFormOf c equations
  pub within : Within (most_equations c) (equations_meaning equations) (core_program_meaning p)
  pub in_step : ((es : List Equation) → In es (functions c.equations)
      → (is_simple es || is_plain es) ≡ true)
      → SameWithinSameUnits (equations_meaning equations) (core_program_meaning p)

-- Let an image be made of the text that was written for equations. It does what a program does that
-- stands for them.
abbrev pub MatchedImagesKeepMeaning : Type 0
MatchedImagesKeepMeaning =
    (text written : List ℕ) (h : IsMatchedText text written)
    → (cells stack : ℕ) (file : List ℕ) (from : IsImageOf written cells stack file)
    → (p : Program) × StandsForEquations h.source p
    × ImageDoes written cells stack file from (core_program_meaning p)
