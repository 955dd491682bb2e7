-- What lifting keeps.
use Rattle.std.specs.Prelude.{◌≡◌, ℕ, List}
use Rattle.lambda_reader.specs.Tree as tree
use Rattle.lambda_reader.specs.Programs.{IsSourceText}
use Rattle.arity_check.specs.Accepted as check
use Rattle.arity_check.specs.Normal.{IsNormalForm}
use Rattle.arity_check.specs.Program.{Program}
use Rattle.core_meaning.specs.Printing as core
use Rattle.lambda_reader.specs.Readable.{IsReadable}
use Rattle.lambda_lift.specs.Rules.{IsUnbroken}
use Rattle.lambda_lift.specs.Lifted.{lifted, HasNoLiftedName}
use Rattle.lambda_lift.specs.Meaning.{printed}

-- Of a readable tree whose names are none of the new ones, let the lifted program break none of the
-- rules of Core. Evaluation by need of its normal form and the tree's own meaning put out the same
-- on all inputs and within all units, with as many bindings, at the same depth.
abbrev pub LiftingTreesPreservesMeaning : Type 0
LiftingTreesPreservesMeaning =
    (c : tree.Program) (p : Program) → IsReadable c → HasNoLiftedName c
    → check.BreaksNoRule (lifted c) → IsNormalForm (lifted c) p
    → (i : List ℕ) (n : ℕ) → core.printed p i n ≡ printed c i n

-- Of a text that breaks no rule, let the lifted program break none of those of Core. Evaluation by
-- need of its normal form and the text's own meaning put out the same on all inputs and within all
-- units, with as many bindings, at the same depth.
abbrev pub LiftingPreservesMeaning : Type 0
LiftingPreservesMeaning =
    (text : List ℕ) (c : tree.Program) (p : Program) → IsSourceText text c → IsUnbroken text
    → check.BreaksNoRule (lifted c) → IsNormalForm (lifted c) p
    → (i : List ℕ) (n : ℕ) → core.printed p i n ≡ printed c i n
