-- What the passes take.
use Rattle.arity_check.specs.Program as core
use Rattle.grin_syntax.specs.Tree.{Program}
use Rattle.pass_ground.specs.Vectors.{IsVectorForm}
use Rattle.stage_names.specs.declared.PassName.TheVariants.{Vectorise}
use Rattle.grin_stages.specs.Stage.{IsStage}
use Rattle.grin_stages.proofs.Stages.{from_pass}

-- the stage with vectors is of vectors
pub of_vectors : (p : core.Program) (h : Program) → IsStage p Vectorise h → IsVectorForm h
of_vectors p h stage =
    let wide = (from_pass p Vectorise h tt stage).shape in
    record { formed = wide.formed; ready = wide.ready; vectorised = wide.vectorised }
