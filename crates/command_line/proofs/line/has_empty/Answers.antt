-- A word is empty where its text is.
use Rattle.std.proofs.Common.{string_bytes, rules, tests}
use Rattle.std.proofs.lemmas.Iterator.{YieldsList-from_slice}
use Rattle.std.proofs.lemmas.Iterator.Search.{any_from_yields_List}
use Rattle.command_line.specs.Commands.{is_empty}
use Rattle.command_line.proofs.Lists.{list_any_map}
use Rattle.command_line.proofs.line.has_empty.Goals as goal

pub returns : goal.returns
returns c =
    rw (list_any_map is_empty string_bytes c.args.words.now)
    (any_from_yields_List (λ w. is_empty (string_bytes w)) _ _ _ c.any.ensures.ran
    (YieldsList-from_slice c.args.words.now cc) (λ x b q k. search (rules, tests)))
