use Rattle.command_line.proofs.Said.{parts_are_said}
use Rattle.command_line.proofs.laws.parsing_matches_grammar.Goals as goal

pub returns : goal.returns
returns c = parts_are_said
