use Rattle.std.proofs.Common.{map, sym, ap, subst, ◌∙◌, None}
use Rattle.std.proofs.lemmas.Result.{err_from_is_err_and}
use Rattle.core_reader.specs.Readable as core
use Rattle.lambda_reader.specs.Code.{program, function}
use Rattle.lambda_lift.specs.Abstractions.{in_functions}
use Rattle.lambda_lift.specs.Lifted.{lifted, HasNoLiftedName}
use Rattle.lambda_lift.specs.Gathered.{program_of_names}
use Rattle.lambda_lift.specs.Broadest.{too_broad}
use Rattle.lambda_lift.specs.Choosing.{program_of_parts}
use Rattle.lambda_lift.proofs.Answered.{unread_cause, refused, unbroken, free, readable}
use Rattle.lambda_lift.proofs.lifter.lift.Goals as goal

pub returns-in_err-found-clause-refused : goal.returns-in_err-found-clause-refused
returns-in_err-found-clause-refused c =
    let q = err_from_is_err_and c.from_residual.result c.from_residual.ensures.1 in
    rw (q.1, q.2)
    (unread_cause c.args.text.now c.in_err-found.field-0.0 c.in_err-found.ensures.refused)

pub returns-in-Some-clause-refused : goal.returns-in-Some-clause-refused
returns-in-Some-clause-refused c =
    let read = c.in_ok-found.ensures in
    let f = c.in_ok-found.found in
    let first = c.in_ok-too_broad.ensures ∙ ap
    (λ fs. too_broad (program_of_names c.in_ok-words.words) None
    (in_functions (program_of_names c.in_ok-words.words) (map function fs))) c.as_slice.ensures
    in
    refused c.args.text.now (program f.program) read.found read.unbroken f.reserved read.reserved
    c.in_ok-words.words c.in_ok-words.ensures c.in_ok-too_broad.too_broad first
    c.in-Some.refusal (sym c.in-Some.is ∙ c.earliest_refusal.ensures)

pub lifted-requires-clause-free : goal.lifted-requires-clause-free
lifted-requires-clause-free c =
    let read = c.in_ok-found.ensures in
    let f = c.in_ok-found.found in
    let first = c.in_ok-too_broad.ensures ∙ ap
    (λ fs. too_broad (program_of_names c.in_ok-words.words) None
    (in_functions (program_of_names c.in_ok-words.words) (map function fs))) c.as_slice.ensures
    in
    subst (λ ns. HasNoLiftedName (program_of_parts ns f.program.constructors f.program.functions))
    (sym c.in_ok-words.ensures)
    (free c.args.text.now (program f.program) read.found read.unbroken f.reserved read.reserved
    c.in_ok-words.words c.in_ok-words.ensures c.in_ok-too_broad.too_broad first
    (sym c.in-None.is ∙ c.earliest_refusal.ensures))

pub returns-in_ok-core-in-None-clause-unbroken : goal.returns-in_ok-core-in-None-clause-unbroken
returns-in_ok-core-in-None-clause-unbroken c =
    let read = c.in_ok-found.ensures in
    let f = c.in_ok-found.found in
    let first = c.in_ok-too_broad.ensures ∙ ap
    (λ fs. too_broad (program_of_names c.in_ok-words.words) None
    (in_functions (program_of_names c.in_ok-words.words) (map function fs))) c.as_slice.ensures
    in
    unbroken c.args.text.now (program f.program) read.found read.unbroken f.reserved read.reserved
    c.in_ok-words.words c.in_ok-words.ensures c.in_ok-too_broad.too_broad first
    (sym c.in-None.is ∙ c.earliest_refusal.ensures)

pub returns-in_ok-core-in-None-clause-readable : goal.returns-in_ok-core-in-None-clause-readable
returns-in_ok-core-in-None-clause-readable c =
    let read = c.in_ok-found.ensures in
    let f = c.in_ok-found.found in
    let first = c.in_ok-too_broad.ensures ∙ ap
    (λ fs. too_broad (program_of_names c.in_ok-words.words) None
    (in_functions (program_of_names c.in_ok-words.words) (map function fs))) c.as_slice.ensures
    in
    subst core.IsReadable
    (sym (c.in_ok-core-in-None.ensures ∙ ap
    (λ ns. lifted (program_of_parts ns f.program.constructors f.program.functions))
    c.in_ok-words.ensures))
    (readable c.args.text.now (program f.program) read.found read.unbroken f.reserved read.reserved
    c.in_ok-words.words c.in_ok-words.ensures c.in_ok-too_broad.too_broad first
    (sym c.in-None.is ∙ c.earliest_refusal.ensures) read.readable)
