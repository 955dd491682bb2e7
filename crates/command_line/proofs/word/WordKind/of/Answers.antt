-- What `strip_prefix` says of a dash tells what the text is.
use Rattle.std.proofs.Common.{arith, None, Some}
use Rattle.std.proofs.lemmas.Bool.Decides.{nat_tests}
use Rattle.std.proofs.lemmas.Str.Pattern.{strip_prefix_char}
use Rattle.command_line.proofs.Words.{plain_word, unknown_word}
use Rattle.command_line.proofs.word.WordKind.of.Goals as goal

pub returns-in_default : goal.returns-in_default
returns-in_default c =
    plain_word c.args.text.now
    (strip_prefix_char 45 c.args.text.now None c.in_default.ensures.cases (omega arith))

pub returns-in_default-strip_prefix : goal.returns-in_default-strip_prefix
returns-in_default-strip_prefix c =
    let dashed = c.in-Some.dashed.now in
    unknown_word c.args.text.now dashed
    (strip_prefix_char 45 c.args.text.now (Some c.in-Some.dashed) c.in-Some.ensures.cases
    (omega arith)) (grind (arith, nat_tests))
    (strip_prefix_char 45 dashed None c.in_default-strip_prefix.ensures.cases (omega arith))
