-- The value of the option that waits for it.
use Rattle.std.proofs.Common.{◌≡◌, ℕ, List, [], ◌∷◌, false, refl, sym, ap, ◌∙◌, arith}
use Rattle.std.specs.Prelude.{◌==◌}
use Rattle.std.specs.List.{slice_index}
use Rattle.std.specs.Option.{option_map}
use Rattle.command_line.specs.Parts.{begins_with_dash}
use Rattle.command_line.specs.Walk.{Any, before}
use Rattle.command_line.proofs.arguments.Walk.step.Goals as goal

first_byte : (text : List ℕ) → begins_with_dash text ≡ (slice_index text 0 == 45)
first_byte [] = refl
first_byte (b ∷ bs) = refl

pub returns-in_ok-with_setting-in-Value : goal.returns-in_ok-with_setting-in-Value
returns-in_ok-with_setting-in-Value c =
    let no_dash : begins_with_dash c.args.text.now ≡ false =
    first_byte c.args.text.now
    ∙ sym (c.starts_with.ensures.byte (omega arith) (omega arith) (λ w o m. m))
    ∙ c.if-starts_with.false in
    rw c.in-Value.is
    (rw no_dash (ap (option_map (before Any)) c.in_ok-with_setting-in-Value.ensures))
