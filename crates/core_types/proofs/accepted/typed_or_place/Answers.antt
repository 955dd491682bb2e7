use Rattle.std.proofs.lemmas.Result.{err_from_is_err_and}
use Rattle.core_types.specs.Source.{Source}
use Rattle.core_types.specs.SourceOf.{source_of}
use Rattle.core_types.proofs.Checked.{unread_caused, typed_text, unbroken_text, caused_text}
use Rattle.core_types.proofs.accepted.typed_or_place.Goals as goal

pub returns-in_err-source-clause-refused : goal.returns-in_err-source-clause-refused
returns-in_err-source-clause-refused c =
    let q = err_from_is_err_and c.from_residual.result c.from_residual.ensures.1 in
    rw (q.1, q.2)
    (unread_caused c.args.text.now c.in_err-source.field-0.0 c.in_err-source.ensures.refused)

pub returns-clause-typed : goal.returns-clause-typed
returns-clause-typed c =
    let s : Source = source_of c.in_ok-source.source in
    let read = c.in_ok-source.ensures in
    typed_text c.args.text.now s read.found read.unbroken read.readable
    c.typed_source_or_place.result c.typed_source_or_place.ensures.typed

pub returns-clause-unbroken : goal.returns-clause-unbroken
returns-clause-unbroken c =
    let s : Source = source_of c.in_ok-source.source in
    let read = c.in_ok-source.ensures in
    unbroken_text c.args.text.now s read.found read.unbroken c.typed_source_or_place.result
    c.typed_source_or_place.ensures.unbroken

pub returns-clause-refused : goal.returns-clause-refused
returns-clause-refused c =
    let s : Source = source_of c.in_ok-source.source in
    let read = c.in_ok-source.ensures in
    caused_text c.args.text.now s read.found read.unbroken c.typed_source_or_place.result
    c.typed_source_or_place.ensures.refused
