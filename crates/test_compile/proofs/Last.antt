-- The last stage of a program can be lowered where it is slim.
use Rattle.std.proofs.Common.{◌≡◌, ℕ, ◌≤◌, length, arith}
use Rattle.arity_check.specs.Accepted.{IsValid}
use Rattle.arity_check.specs.Program as core
use Rattle.grin_syntax.specs.Tree.{Program}
use Rattle.grin_meaning.specs.Slim.{Slim}
use Rattle.pass_ground.specs.Vectors.{IsVectorForm, NarrowTargets, StaysVectorForm}
use Rattle.vectorised_form.specs.Laws.{VectoriseTakesInlined}
use Rattle.flow_system.specs.Solution.{Solution}
use Rattle.inline_theory.specs.Applications.{inlined}
use Rattle.grin_translate.specs.Translation.{tr}
use Rattle.stage_names.specs.declared.PassName.TheVariants.{Vectorise, Simplify, Fetch, Copy, Update, Unbox, Raise, Flat, Known, Cells, Dead}
use Rattle.grin_stages.specs.Stage.{IsLeastOfTranslation, IsStage}
use Rattle.grin_stages.proofs.Stages.{from_pass}
use Rattle.grin_compile.specs.Lowerable.{IsLowerable}
use Rattle.grin_compile.proofs.Narrow.{narrow}
use Rattle.grin_compile.proofs.Staged.{taken_by}

-- the solution by which a stage is inlined
record InlinedBy (p : core.Program) (a : Program) : Type 0 where
  pub solution : Solution
  pub least : IsLeastOfTranslation p solution
  pub is : a ≡ inlined solution (tr p)

-- what the layers below ask of a stage, but for its size
record CanBeLowered (h : Program) : Type 0 where
  pub of_vectors : IsVectorForm h
  pub narrow : NarrowTargets 14 h

next_one : (g h : Program) → CanBeLowered g → StaysVectorForm g h → CanBeLowered h
next_one g h can stays = record
    { of_vectors = stays.of_vectors; narrow = stays.narrow 14 can.narrow }

-- a pass that makes targets of one variable
splitting_one : (g h : Program) → CanBeLowered g → IsVectorForm h
    → ((most : ℕ) → 1 ≤ most → NarrowTargets most g → NarrowTargets most h) → CanBeLowered h
splitting_one g h can vectors narrow = record
    { of_vectors = vectors; narrow = narrow 14 (omega arith) can.narrow }

module _ (taken : VectoriseTakesInlined) (p : core.Program) (valid : IsValid p) where
  vectorised : (h : Program) → IsStage p Vectorise h → CanBeLowered h
  vectorised h stage =
      let from = from_pass p Vectorise h tt stage in
      let wide = from.shape in
      let given = taken_by taken p valid from.g from.stage in
      record {
        of_vectors = record
            { formed = wide.formed; ready = wide.ready; vectorised = wide.vectorised };
        narrow = narrow from.g h given.1 given.2 wide;
      }

  simplified : (h : Program) → IsStage p Simplify h → CanBeLowered h
  simplified h stage = let from = from_pass p Simplify h tt stage
      in next_one from.g h (vectorised from.g from.stage) from.shape.stays

  fetched : (h : Program) → IsStage p Fetch h → CanBeLowered h
  fetched h stage = let from = from_pass p Fetch h tt stage
      in splitting_one from.g h (simplified from.g from.stage) from.shape.of_vectors
      from.shape.narrow

  copied : (h : Program) → IsStage p Copy h → CanBeLowered h
  copied h stage = let from = from_pass p Copy h tt stage
      in next_one from.g h (fetched from.g from.stage) from.shape.stays

  updated : (h : Program) → IsStage p Update h → CanBeLowered h
  updated h stage = let from = from_pass p Update h tt stage
      in next_one from.g h (copied from.g from.stage) from.shape.stays

  unboxed : (h : Program) → IsStage p Unbox h → CanBeLowered h
  unboxed h stage = let from = from_pass p Unbox h tt stage
      in next_one from.g h (updated from.g from.stage) from.shape.stays

  raised : (h : Program) → IsStage p Raise h → CanBeLowered h
  raised h stage = let from = from_pass p Raise h tt stage
      in splitting_one from.g h (unboxed from.g from.stage) from.shape.of_vectors from.shape.narrow

  flat : (h : Program) → IsStage p Flat h → CanBeLowered h
  flat h stage = let from = from_pass p Flat h tt stage
      in next_one from.g h (raised from.g from.stage) from.shape.stays

  known : (h : Program) → IsStage p Known h → CanBeLowered h
  known h stage = let from = from_pass p Known h tt stage
      in next_one from.g h (flat from.g from.stage) from.shape.stays

  own : (h : Program) → IsStage p Cells h → CanBeLowered h
  own h stage = let from = from_pass p Cells h tt stage
      in next_one from.g h (known from.g from.stage) from.shape.stays

  dead : (h : Program) → IsStage p Dead h → CanBeLowered h
  dead h stage = let from = from_pass p Dead h tt stage
      in next_one from.g h (own from.g from.stage) from.shape.stays

  pub lowerable : (h : Program) → IsStage p Dead h → (size largest : ℕ) → size ≤ 131072
      → largest ≤ size → length h.procs ≤ size → length h.globals ≤ 4096
      → Slim size largest h → IsLowerable h
  lowerable h stage size largest fits largest_fits procs globals slim =
      let can = dead h stage in
      record {
        formed = can.of_vectors.formed;
        ready = can.of_vectors.ready;
        vectorised = can.of_vectors.vectorised;
        narrow = can.narrow;
        size = size;
        largest = largest;
        slim = slim;
        fits = fits;
        largest_fits = largest_fits;
        few_procs = procs;
        few_globals = globals;
      }
