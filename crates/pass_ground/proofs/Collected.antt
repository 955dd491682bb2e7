-- The walk over a program that collects the words whose cells are updated.
use Rattle.std.proofs.Common.{refl}
use Rattle.pass_ground.specs.Updated.{act_updated, code_updated, arms_updated}
use Rattle.pass_ground.proofs.Walked.{Folds}

pub updated : Folds act_updated code_updated arms_updated
unfolding act_updated
updated = record
    { of_end = λ o. refl; of_bind = λ t o b. refl; of_none = refl; of_arm = λ s b as'. refl }
