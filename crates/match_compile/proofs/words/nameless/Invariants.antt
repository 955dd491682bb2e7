use Rattle.std.proofs.Common.{◌≡◌, ◌+◌, drop}
use Rattle.std.specs.List.{position_or_len}
use Rattle.match_compile.specs.Translated.{is_nameless}
use Rattle.match_compile.proofs.words.nameless.Given as goal

abbrev pub invariant-names : goal.invariant-names
invariant-names l = position_or_len is_nameless (drop l.k l.names) + l.k ≡ position_or_len
    is_nameless l.names
