use Rattle.std.proofs.Common.{rules}
use Rattle.arity_check.specs.Program.{program}
use Rattle.points_to.specs.Found.{found}
use Rattle.grin_stages.specs.Stage.{IsLeastOfTranslation, HasExpandedSize}
use Rattle.grin_stages.proofs.Stages.{least_of, size_of, analysis_of}
use Rattle.grin_stages.proofs.pipeline.analyse.Goals as goal

pub returns-then-size-gt-LARGEST_PROGRAM-clause-refused
    : goal.returns-then-size-gt-LARGEST_PROGRAM-clause-refused
returns-then-size-gt-LARGEST_PROGRAM-clause-refused c =
    let p = program c.args.p.now in
    let least : IsLeastOfTranslation p (found c.in_ok-flow.flow)
    = least_of _ _ _ _ _ c.in_ok-translation.ensures c.in_ok-system.ensures.tables
    c.in_ok-system.ensures.inclusions c.in_ok-flow.ensures in (
      size_of p c.requires _ _ c.expanded_size-size.result
          (c.valid_translations_are_formed.ensures.formed p c.requires) c.in_ok-translation.ensures
          least c.expanded_size-size.ensures,
      search rules,
    )

pub returns-clause-analysed : goal.returns-clause-analysed
returns-clause-analysed c =
    let p = program c.args.p.now in
    let formed = c.valid_translations_are_formed.ensures.formed p c.requires in
    let least : IsLeastOfTranslation p (found c.in_ok-flow.flow)
    = least_of _ _ _ _ _ c.in_ok-translation.ensures c.in_ok-system.ensures.tables
    c.in_ok-system.ensures.inclusions c.in_ok-flow.ensures in
    let expanded : HasExpandedSize p c.expanded_size-size.result
    = size_of p c.requires _ _ c.expanded_size-size.result formed c.in_ok-translation.ensures
    least c.expanded_size-size.ensures in
    let known = analysis_of p c.requires (found c.in_ok-flow.flow) c.expanded_size-size.result
    formed least expanded (search rules) in
    record {
      is_translation = c.in_ok-translation.ensures;
      least = least;
      analysed
          = known.1;
      never_missing = known.2;
      fits = known.0;
    }
