-- What more room changes of an image: nothing, where its run was not full.
use Rattle.std.specs.Prelude.{◌≡◌, ◌⊎◌, ℕ, ◌≤◌, List}
use Rattle.headline.specs.Carries.{IsBytes, exits}
use Rattle.arity_check.specs.Program as core
use Rattle.grin_syntax.specs.Tree.{Program}
use Rattle.flow_system.specs.Solution.{Solution}
use Rattle.low_code.specs.Tree as low
use Rattle.rv32_steps.specs.Seen.{observed_machine}
use Rattle.grin_compile.specs.Limits.{heap_bytes}
use Rattle.grin_compile.specs.Code.{image_start_state}
use Rattle.grin_compile.specs.Made.{IsImageOf}

-- Two images of the same low code with the same frames, of which the second one has at least as
-- many cells and as much stack. Where the first one has exited with 0 or 3, so does the second one,
-- and it has written the same bytes and read as many.
abbrev pub MoreRoomRunsSame : Type 0
MoreRoomRunsSame =
    (p : core.Program) (A : Solution) (g : Program) (l : low.Program) (frames : List ℕ)
    (cells cells' stack stack' : ℕ) (code addresses file code' addresses' file' : List ℕ)
    → IsImageOf p A g l frames cells stack code addresses file
    → IsImageOf p A g l frames cells' stack' code' addresses' file'
    → cells ≤ cells' → stack ≤ stack' → (i : List ℕ) → IsBytes i → (m exit : ℕ)
    → (exit ≡ 0) ⊎ (exit ≡ 3) →
    let seen = observed_machine (image_start_state code (heap_bytes g cells) stack) i m in
    seen.finish ≡ exits exit
    → (m' : ℕ)
    × (observed_machine (image_start_state code' (heap_bytes g cells') stack') i m' ≡ seen)
