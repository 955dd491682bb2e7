-- No image of a text that `types` wrote ends for want of an alternative.
use Rattle.std.specs.Prelude.{◌≢◌, ℕ, List}
use Rattle.elf32.specs.Image.{Image}
use Rattle.elf32.specs.Rules.{Loads}
use Rattle.headline.specs.Carries.{IsBytes, exits}
use Rattle.rv32_steps.specs.Seen.{observed_image}
use Rattle.text_commands.specs.Typing.{IsTypedText}
use Rattle.grin_driver.specs.Outcome.{IsImageOf}

-- Let an image be made of the text that was written for one with types. Whatever it loads as never
-- exits with 3: on no input, and after no number of steps.
abbrev pub TypedNeverExits : Type 0
TypedNeverExits =
    (text written : List ℕ) → IsTypedText text written
    → (cells stack : ℕ) (file : List ℕ) → IsImageOf written cells stack file
    → (image : Image) → Loads file image
    → (i : List ℕ) → IsBytes i → (m : ℕ) → (observed_image image i m).finish ≢ exits 3
