use Rattle.std.proofs.Common.{◌≡◌, length, map, Some, get_or, slice_get, ap, subst, arith}
use Rattle.std.proofs.lemmas.List.{length-map}
use Rattle.std.proofs.lemmas.Option.{slice_get-get_or}
use Rattle.arity_check.specs.Program.{program}
use Rattle.grin_syntax.specs.Tree.{Program, program_of}
use Rattle.grin_compile.specs.Passed.{SlimBeside}
use Rattle.grin_compile.specs.Stages.{passes, IsLastStageWith}
use Rattle.grin_compile.proofs.Passed.{as_many}
use Rattle.grin_compile.proofs.Stepped.{are_stages}
use Rattle.grin_compile.proofs.Staged.{taken_by, small_program, small_largest, first_is_slim, later_formed, has_last}
use Rattle.grin_compile.proofs.stages.all_stages.Goals as goal

pub later_stages-requires : goal.later_stages-requires
later_stages-requires c = taken_by c.vectorise_takes_inlined.ensures (program c.args.p.now)
    c.requires.valid _ c.in_ok-inlined.ensures.stages.applied

pub last_slim-last-requires-clause-program : goal.last_slim-last-requires-clause-program
last_slim-last-requires-clause-program c =
    small_program c.expanded_size_is_unique.ensures (program c.args.p.now)
    c.in_ok-inlined.ensures.fits _ c.in_ok-inlined.ensures.stages.applied _ c.sizes_of.ensures

pub last_slim-last-requires-clause-largest : goal.last_slim-last-requires-clause-largest
last_slim-last-requires-clause-largest c =
    small_largest c.expanded_size_is_unique.ensures (program c.args.p.now)
    c.in_ok-inlined.ensures.fits _ c.in_ok-inlined.ensures.stages.applied _ c.sizes_of.ensures

pub last_slim-last-requires-clause-some : goal.last_slim-last-requires-clause-some
last_slim-last-requires-clause-some c =
    let stages = c.in_ok-inlined.ensures.stages in
    let hs = map program_of c.in_ok-later.later.items in
    let are = are_stages (program c.args.p.now) passes (program_of c.in_ok-inlined.inlined.applied)
    hs stages.meaning c.in_ok-later.ensures in
    omega (
      arith,
      as_many _ passes _ hs are,
      length-map c.in_ok-later.later.items program_of,
      ap length c.as_slice.ensures.value,
    )

pub last_slim-last-requires-clause-slim : goal.last_slim-last-requires-clause-slim
last_slim-last-requires-clause-slim c g there =
    let stages = c.in_ok-inlined.ensures.stages in
    let a = program_of c.in_ok-inlined.inlined.applied in
    let hs = map program_of c.in_ok-later.later.items in
    let are = are_stages (program c.args.p.now) passes a hs stages.meaning c.in_ok-later.ensures in
    first_is_slim c.expanded_size_is_unique.ensures (program c.args.p.now)
    c.in_ok-inlined.ensures.fits a stages.applied _ c.sizes_of.ensures
    c.vectorised_is_slim.ensures hs are g
    (subst (λ l. slice_get (map program_of l) 0 ≡ Some g) c.as_slice.ensures.value there)

pub returns-clause-stages : goal.returns-clause-stages
returns-clause-stages c =
    let stages = c.in_ok-inlined.ensures.stages in
    let a = program_of c.in_ok-inlined.inlined.applied in
    let later = c.in_ok-later.later.items in
    let hs = map program_of later in
    let are = are_stages (program c.args.p.now) passes a hs stages.meaning c.in_ok-later.ensures in
    let at = c.last_slim-last.result in
    let within = c.last_slim-last.ensures.within in
    let there : slice_get hs at ≡ Some (get_or hs at a)
    = slice_get-get_or hs at a
    (omega (arith, within, length-map later program_of, ap length c.as_slice.ensures.value)) in
    let last =
    subst (λ l. (g : Program) → slice_get (map program_of l) at ≡ Some g
    → IsLastStageWith (SlimBeside c.sizes_of.result) (map program_of l) g)
    c.as_slice.ensures.value c.last_slim-last.ensures.last _ there in
    let taken = c.vectorise_takes_inlined.ensures in
    record {
      translated = stages.translated;
      evaluated = stages.evaluated;
      later = has_last c.expanded_size_is_unique.ensures (program c.args.p.now)
          c.in_ok-inlined.ensures.fits a stages.applied _ c.sizes_of.ensures
          taken c.requires.valid hs are _ last;
      formed = (
        stages.formed.0,
        (
          stages.formed.1.0,
          (
            stages.formed.1.1.0,
            later_formed taken (program c.args.p.now) c.requires.valid a
                stages.applied hs are,
          ),
        ),
      );
    }
