-- A text without a `+` before it is read as its digits write.
use Rattle.std.proofs.Common.{◌≢◌, get_or, arith, sym, ◌∙◌}
use Rattle.std.proofs.lemmas.Str.Parse.{parse_plain}
use Rattle.std.proofs.lemmas.Str.Pattern.{starts_char}
use Rattle.command_line.proofs.Digits.{digits, none_read, number_read}
use Rattle.command_line.proofs.number.number_within.Goals as goal

pub returns-in_err-number : goal.returns-in_err-number
returns-in_err-number c =
    let text = c.args.text.now in
    let no_plus : get_or text 0 0 ≢ 43 = λ plus. cc
    ((starts_char 43 text c.starts_with.result c.starts_with.ensures.cases (omega arith)
    (omega arith)).1 plus) in
    let read = parse_plain digits 64 text c.parse.result c.parse.ensures.value.0 no_plus in
    c.from_residual.ensures ∙ none_read c.args.least c.args.most text c.parse.result read
    (sym c.ok.ensures.value ∙ c.in_err-number.was) (omega arith)

pub returns : goal.returns
returns c =
    let text = c.args.text.now in
    let no_plus : get_or text 0 0 ≢ 43 = λ plus. cc
    ((starts_char 43 text c.starts_with.result c.starts_with.ensures.cases (omega arith)
    (omega arith)).1 plus) in
    let read = parse_plain digits 64 text c.parse.result c.parse.ensures.value.0 no_plus in
    number_read c.args.least c.args.most c.in_ok-number.number text c.parse.result read
    (sym c.ok.ensures.value ∙ c.in_ok-number.was) (omega arith) (omega arith) (omega arith)
