use Rattle.std.proofs.Common.{◌≡◌, ◌+◌, drop, map}
use Rattle.core_reader.specs.Tree.{application, term, terms_of}
use Rattle.core_reader.specs.Size.{term_size, terms_size}
use Rattle.core_reader.proofs.size.+applications.Given as goal

abbrev pub invariant-application_size-loop-atom : goal.invariant-application_size-loop-atom
invariant-application_size-loop-atom l = l.total + terms_size
    (terms_of (map term (drop l.atom-index l.atom-items))) ≡ term_size (application l.app).head +
    terms_size (application l.app).args
