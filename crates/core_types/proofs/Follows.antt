-- What follows of a result where it is handed on.
use Rattle.std.proofs.Common.{IfOk, Result, Ok, Err}

pub ok_then : {T E : Type 0} {P Q : T → Type 0} (r : Result T E) → IfOk r P
    → ((t : T) → P t → Q t) → IfOk r Q
ok_then (Ok t) h f = f t h
ok_then (Err e) h f = tt

pub ok_both : {T E : Type 0} {P Q R : T → Type 0} (r : Result T E) → IfOk r P → IfOk r Q
    → ((t : T) → P t → Q t → R t) → IfOk r R
ok_both (Ok t) h g f = f t h g
ok_both (Err e) h g f = tt
