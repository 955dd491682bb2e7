use Rattle.std.proofs.lemmas.Nat.{one_shl}
use Rattle.register_alloc.proofs.Tables.{one_bit}
use Rattle.register_alloc.proofs.assign.one_register.Goals as goal

pub returns-then-register-lt32 : goal.returns-then-register-lt32
returns-then-register-lt32 c lt r = one_bit c.args.register _ r (one_shl c.args.register 32 lt)
