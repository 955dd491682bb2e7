-- Behind the end of a reader.
use Rattle.std.specs.Prelude.{◌≡◌, ℕ, List, [], ◌++◌, Option, Some, None, IfSome}
use Rattle.std.specs.Option.{ForSome}
use Rattle.std.proofs.Common.{refl, ap, ◌∙◌}
use Rattle.std.specs.Io.KnownBytes.{prepend_known}

-- where no byte was read ahead and the reader is at its end, nothing is left
pub end_left : (ahead : List ℕ) (remaining : Option (List ℕ)) → ahead ≡ []
    → ForSome remaining (λ bytes. bytes ≡ [])
    → IfSome (prepend_known ahead remaining) (λ bytes. bytes ≡ [])
end_left ahead None empty end = tt
end_left ahead (Some bytes) empty end = ap (λ l. l ++ bytes) empty ∙ end bytes refl
