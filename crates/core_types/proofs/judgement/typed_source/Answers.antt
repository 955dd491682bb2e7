use Rattle.std.proofs.Common.{refl, subst}
use Rattle.core_types.specs.declared.rules.Verdict.TheVariants as verdict
use Rattle.core_types.specs.Source.{Source}
use Rattle.core_types.specs.SourceOf.{source_of}
use Rattle.core_types.specs.Typing.{constraints}
use Rattle.core_types.specs.Refused.{IsVerdict}
use Rattle.core_types.proofs.Checked.{source_caused}
use Rattle.core_types.proofs.Unsolved.{pair_there}
use Rattle.core_types.proofs.judgement.typed_source.Goals as goal

pub returns-in-Broken-clause-refused : goal.returns-in-Broken-clause-refused
returns-in-Broken-clause-refused c =
    let s : Source = source_of c.args.source in
    let judged : IsVerdict s (verdict.Broken c.in-Broken.fault)
    = subst (IsVerdict s) c.in-Broken.is c.in_ok-verdict.ensures in
    (source_caused s c.in-Broken.fault judged.0, judged.1)

pub sides-requires-clause-sound : goal.sides-requires-clause-sound
sides-requires-clause-sound c =
    let s : Source = source_of c.args.source in
    let judged : IsVerdict s (verdict.Mismatch c.in-Mismatch.found)
    = subst (IsVerdict s) c.in-Mismatch.is c.in_ok-verdict.ensures in
    judged.1.sound

pub sides-requires-clause-stands : goal.sides-requires-clause-stands
sides-requires-clause-stands c =
    let s : Source = source_of c.args.source in
    let judged : IsVerdict s (verdict.Mismatch c.in-Mismatch.found)
    = subst (IsVerdict s) c.in-Mismatch.is c.in_ok-verdict.ensures in
    (constraints s, judged.1.stands)

pub sides-requires-clause-within : goal.sides-requires-clause-within
sides-requires-clause-within c =
    let s : Source = source_of c.args.source in
    let m = c.in-Mismatch.found in
    let judged : IsVerdict s (verdict.Mismatch m) = subst (IsVerdict s) c.in-Mismatch.is
    c.in_ok-verdict.ensures in
    pair_there m.builder.nodes (constraints s) m.builder.pairs.items m.number judged.1.constraint
    judged.1.stands.pairs judged.1.first.is

pub sides-requires-clause-solvable : goal.sides-requires-clause-solvable
sides-requires-clause-solvable c =
    let s : Source = source_of c.args.source in
    let judged : IsVerdict s (verdict.Mismatch c.in-Mismatch.found)
    = subst (IsVerdict s) c.in-Mismatch.is c.in_ok-verdict.ensures in
    (judged.1.before, judged.1.solves)

pub returns-in_ok-tys-in-Mismatch-clause-refused : goal.returns-in_ok-tys-in-Mismatch-clause-refused
returns-in_ok-tys-in-Mismatch-clause-refused c =
    let s : Source = source_of c.args.source in
    let m = c.in-Mismatch.found in
    let judged : IsVerdict s (verdict.Mismatch m) = subst (IsVerdict s) c.in-Mismatch.is
    c.in_ok-verdict.ensures in
    let h = judged.1 in (
      judged.0,
      record {
        number = m.number;
        constraint = h.constraint;
        first = h.first;
        place = h.place;
        sides = c.in_ok-tys-in-Mismatch.ensures (constraints s) h.constraint h.stands h.first.is;
      },
      refl,
    )
