use Rattle.std.proofs.Common.{◌≡◌, ◌++◌, take}
use Rattle.std.specs.List.{flat_map}
use Rattle.grin_syntax.specs.Tree.{program_of, procedure_of}
use Rattle.grin_syntax.specs.Listing.{procedure_text}
use Rattle.grin_syntax.proofs.listing.list.Given as goal

abbrev pub invariant-loop-proc : goal.invariant-loop-proc
invariant-loop-proc l = l.text ≡ l.initial.text ++ flat_map
    (λ q. procedure_text (program_of l.g) (procedure_of q)) (take l.proc-index l.proc-items)
