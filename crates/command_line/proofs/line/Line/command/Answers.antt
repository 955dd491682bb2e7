-- The line is the program's name, the command's and the words behind it.
use Rattle.std.proofs.Common.{◌≡◌, ◌∷◌, map, string_bytes, false, sym, ap, ◌∙◌}
use Rattle.std.specs.List.{list_any}
use Rattle.command_line.specs.Commands.{is_empty}
use Rattle.command_line.proofs.line.Line.command.Goals as goal

pub returns : goal.returns
returns c =
    let first : c.self.inside.words.items ≡ c.in_ok-words.field-0-0.now ∷ c.in_ok-words.words.now
    = sym c.as_slice.ensures.value ∙ c.in_ok-words.ensures.cases.0 in
    let second : c.in_ok-words.words.now ≡ c.in_ok-name.name.now ∷ c.in_ok-name.words.now
    = c.in_ok-name.ensures.cases.0 in
    let line : c.args.self.now ≡ string_bytes c.in_ok-words.field-0-0.now ∷ string_bytes
    c.in_ok-name.name.now ∷ map string_bytes c.in_ok-name.words.now =
    sym c.self.view_is ∙ ap (map string_bytes)
    (first ∙ ap (λ rest. c.in_ok-words.field-0-0.now ∷ rest) second) in
    let full : list_any is_empty (map string_bytes (c.in_ok-name.name.now ∷ c.in_ok-name.words.now))
    ≡ false =
    ap (λ words. list_any is_empty (map string_bytes words)) (sym second) ∙
    (sym c.has_empty.ensures ∙ c.if-has_empty.false) in
    rw (line, full, ← c.as_str.ensures.value) c.read.ensures
