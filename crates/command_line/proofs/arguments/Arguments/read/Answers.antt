-- A walk from the start gathers the parts of the whole line.
use Rattle.std.proofs.Common.{◌+◌, map, string_bytes, drop, sym, ap, ◌∙◌}
use Rattle.std.specs.Option.{option_and_then}
use Rattle.std.proofs.lemmas.List.{at_drop_more}
use Rattle.command_line.specs.Walk.{no_options, walk_seen, walked}
use Rattle.command_line.proofs.Walks.{finished, walk_gathers}
use Rattle.command_line.proofs.arguments.Arguments.read.Goals as goal

pub loop-word-init : goal.loop-word-init
loop-word-init c = walk_gathers (map string_bytes c.args.words.now) no_options

pub loop-word-preserved : goal.loop-word-preserved
loop-word-preserved c =
    let words = c.args.words.now in
    let i = c.loop-word.word-index in
    let place = walk_seen c.loop-word.walk in
    let texts = map string_bytes (drop (i + 1) words) in
    let completed = option_and_then (λ p. finished p texts) in
    ap completed c.in_ok-walk.ensures
    ∙ ap (λ text. completed (walked place text))
    (c.as_str.ensures.value ∙ ap string_bytes c.word-item.is)
    ∙ sym (at_drop_more (λ l. finished place (map string_bytes l)) words i c.word-item.result
    c.loop-word-test.true)
    ∙ c.loop-word.invariant
