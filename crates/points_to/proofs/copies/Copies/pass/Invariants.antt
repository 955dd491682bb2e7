use Rattle.std.proofs.Common.{List}
use Rattle.std.specs.List.{flat_map}
use Rattle.flow_system.specs.Inclusions.{Inclusion}
use Rattle.flow_system.specs.Tables.{Tables}
use Rattle.points_to.specs.Bits.{block_words}
use Rattle.points_to.specs.Copies.{AreAt, IsCopied}
use Rattle.points_to.proofs.copies.Copies.pass.Given as goal

abbrev pub invariant-loop-k : goal.invariant-loop-k
invariant-loop-k l = (p : Tables) (cs : List Inclusion)
    → AreAt p cs l.x (flat_map block_words l.fresh) → IsCopied p cs l.fn.self → IsCopied p cs l.self
