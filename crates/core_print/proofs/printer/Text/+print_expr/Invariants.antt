use Rattle.std.proofs.Common.{◌≡◌, ◌++◌, codes, drop, map}
use Rattle.core_reader.specs.Tree.{alternative, alts_of}
use Rattle.core_print.specs.Canonical.{alts_text}
use Rattle.core_print.proofs.printer.Text.+print_expr.Given as goal

abbrev pub invariant-alts-loop-alt : goal.invariant-alts-loop-alt
invariant-alts-loop-alt l = l.self ++ alts_text l.names l.lead
    (alts_of (map alternative (drop l.alt-index l.alts))) ≡ l.fn.self
    ++ alts_text l.names (codes " { ") (alts_of (map alternative l.alts))
