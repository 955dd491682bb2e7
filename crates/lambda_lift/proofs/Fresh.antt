-- The names of a lifted program are different, where it breaks no rule and no name is one of the
-- new ones.
use Rattle.std.proofs.Common.{ℕ, ◌≤◌, List, length, arith}
use Rattle.seq.proofs.Lists.{some_at}
use Rattle.seq.proofs.Order.{not_below}
use Rattle.core_reader.specs.Different.{AreDistinct}
use Rattle.arity_check.specs.Accepted as check
use Rattle.arity_check.specs.Broken.{TooManyFunctions}
use Rattle.lambda_reader.specs.Tree.{Program}
use Rattle.lambda_reader.specs.Programs.{IsSourceText}
use Rattle.lambda_reader.specs.Readable.{IsReadable}
use Rattle.lambda_reader.specs.Reserved.{HasReserved, Stands}
use Rattle.lambda_lift.specs.Rules.{ReservedLift, IsUnbroken}
use Rattle.lambda_lift.specs.Abstractions.{abstractions}
use Rattle.lambda_lift.specs.Lifted.{lifted, HasNoLiftedName}
use Rattle.lambda_lift.proofs.NewNames.{text_free, not_lifted, all_different}

none_reserved : (text : List ℕ) → IsUnbroken text → (at : ℕ) → HasReserved text at → ⊥
none_reserved text ok at (Stands {piece = piece} i t e r)
    = ok.lifted 62 piece.at (ReservedLift i t e r)

-- the functions are few
pub few_lifted : (c : Program) → check.BreaksNoRule (lifted c) → length (lifted c).functions ≤ 4096
few_lifted c ok = not_below 4096 (length (lifted c).functions)
    (λ lt. let f = some_at (lifted c).functions 4096 lt in ok 31 f.0.at (TooManyFunctions f.1))

pub different : (c : Program) → IsReadable c → HasNoLiftedName c → length (abstractions c) ≤ 4096
    → AreDistinct (lifted c).names
different c h free few = all_different c.names (length (abstractions c)) (omega (arith, few))
    h.different free

-- of a text that breaks no rule
pub none_lifted : (text : List ℕ) (c : Program) → IsSourceText text c → IsUnbroken text
    → HasNoLiftedName c
none_lifted text c t ok = not_lifted (length (abstractions c)) c.names
    (text_free text c t (none_reserved text ok))
