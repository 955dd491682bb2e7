-- The lines of the words that are left complete the listing.
use Rattle.std.proofs.Common.{◌≡◌, ◌+◌, ◌*◌, ◌++◌, drop}
use Rattle.grin_driver.specs.CodeListing.{lines_from, code_listing}
use Rattle.grin_driver.proofs.code.code_listing.Given as goal

abbrev pub invariant-loop-word : goal.invariant-loop-word
invariant-loop-word l =
    (l.address ≡ 65536 + 4 * l.word-index) ×
    (l.bytes.items ++ lines_from l.address (drop l.word-index l.code) ≡ code_listing l.code)
