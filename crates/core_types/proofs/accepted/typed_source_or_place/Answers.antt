use Rattle.std.proofs.Common.{subst}
use Rattle.core_types.specs.declared.rules.Verdict.TheVariants as verdict
use Rattle.core_types.specs.Source.{Source}
use Rattle.core_types.specs.SourceOf.{source_of}
use Rattle.core_types.specs.Refused.{IsVerdict}
use Rattle.core_types.proofs.Checked.{source_caused}
use Rattle.core_types.proofs.accepted.typed_source_or_place.Goals as goal

pub returns-in-Broken-clause-refused : goal.returns-in-Broken-clause-refused
returns-in-Broken-clause-refused c =
    let s : Source = source_of c.args.source in
    let judged : IsVerdict s (verdict.Broken c.in-Broken.fault)
    = subst (IsVerdict s) c.in-Broken.is c.in_ok-verdict.ensures in
    source_caused s c.in-Broken.fault judged.0
