use Rattle.std.proofs.Common.{◌≡◌, ◌++◌, drop, map}
use Rattle.core_reader.specs.Tree.{application, term, terms_of}
use Rattle.core_print.specs.Canonical.{app_text, terms_text}
use Rattle.core_print.proofs.printer.Text.+print_app.Given as goal

abbrev pub invariant-app-loop-atom : goal.invariant-app-loop-atom
invariant-app-loop-atom l = l.self ++ terms_text l.names
    (terms_of (map term (drop l.atom-index l.atom-items))) ≡ l.fn.self
    ++ app_text l.names (application l.app)
