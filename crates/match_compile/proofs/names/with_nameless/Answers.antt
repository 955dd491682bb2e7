use Rattle.std.proofs.Common.{ℕ, Bool, true, false, List, ◌++◌, ◌∷◌, [], length, nat_lt, sym, ap, ◌∙◌}
use Rattle.std.specs.List.{position_or_len}
use Rattle.match_compile.specs.Translated.{is_nameless}
use Rattle.match_compile.proofs.NewNames.{with_nameless_is}
use Rattle.match_compile.proofs.names.with_nameless.Goals as goal

abbrev has : List (List ℕ) → Bool
has ns = nat_lt (position_or_len is_nameless ns) (length ns)

pub returns-then-has_nameless : goal.returns-then-has_nameless
returns-then-has_nameless c = sym
    (with_nameless_is c.args.names.items true
    (sym (c.has_nameless.ensures ∙ ap has c.as_slice.ensures.value) ∙ c.if-has_nameless.true))

pub returns : goal.returns
returns c =
    c.in_ok-push.ensures.items ∙ ap (λ t. c.args.names.items ++ t ∷ []) c.in_ok-text.ensures
    ∙ sym (with_nameless_is c.args.names.items false
    (sym (c.has_nameless.ensures ∙ ap has c.as_slice.ensures.value) ∙ c.if-has_nameless.false))
