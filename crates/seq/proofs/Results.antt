-- Results.
use Rattle.std.proofs.Common.{IfOk, Result, Ok, Err}

pub ok_follows : {T E : Type 0} (P Q : T → Type 0) (r : Result T E) → ((t : T) → P t → Q t)
    → IfOk r P → IfOk r Q
ok_follows P Q (Ok t) f h = f t h
ok_follows P Q (Err e) f h = tt
