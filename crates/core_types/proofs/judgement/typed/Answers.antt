use Rattle.std.proofs.Common.{◌≡◌, sym, subst, None}
use Rattle.core_types.specs.Source.{Source}
use Rattle.core_types.specs.SourceOf.{source_of}
use Rattle.core_types.specs.Refused.{IsCause, mismatch_in}
use Rattle.core_types.proofs.Checked.{unread_caused, unread_fits, typed_text, unbroken_text, refused_text}
use Rattle.core_types.proofs.judgement.typed.Goals as goal

pub returns-in-Err-clause-refused : goal.returns-in-Err-clause-refused
returns-in-Err-clause-refused c =
    subst (λ f. IsCause c.args.text.now f × (mismatch_in f ≡ None)) (sym c.from.ensures) (
      unread_caused c.args.text.now c.in-Err.refusal c.in-Err.ensures.refused,
      unread_fits c.in-Err.refusal,
    )

pub returns-in-Ok-clause-typed : goal.returns-in-Ok-clause-typed
returns-in-Ok-clause-typed c =
    let s : Source = source_of c.in-Ok.source in
    let read = c.in-Ok.ensures in
    typed_text c.args.text.now s read.found read.unbroken read.readable c.typed_source.result
    c.typed_source.ensures.typed

pub returns-in-Ok-clause-unbroken : goal.returns-in-Ok-clause-unbroken
returns-in-Ok-clause-unbroken c =
    let s : Source = source_of c.in-Ok.source in
    let read = c.in-Ok.ensures in
    unbroken_text c.args.text.now s read.found read.unbroken c.typed_source.result
    c.typed_source.ensures.unbroken

pub returns-in-Ok-clause-refused : goal.returns-in-Ok-clause-refused
returns-in-Ok-clause-refused c =
    let s : Source = source_of c.in-Ok.source in
    let read = c.in-Ok.ensures in
    refused_text c.args.text.now s read.found read.unbroken c.typed_source.result
    c.typed_source.ensures.refused
