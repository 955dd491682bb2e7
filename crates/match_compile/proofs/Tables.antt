-- Tables by the number of a name, where the first one of a name stands.
use Rattle.std.proofs.Common.{Option, Some, None}

abbrev pub or_else : {X : Type 0} → Option X → Option X → Option X
or_else None b = b
or_else (Some x) b = Some x
