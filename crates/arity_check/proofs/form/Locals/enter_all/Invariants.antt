use Rattle.std.proofs.Common.{◌≡◌, drop}
use Rattle.arity_check.specs.Known.{all_named}
use Rattle.arity_check.specs.Tables.{known}
use Rattle.arity_check.specs.Pieces.{names_of}
use Rattle.arity_check.proofs.form.Locals.enter_all.Given as goal

abbrev pub invariant-loop-i : goal.invariant-loop-i
invariant-loop-i l = record {
  scope : all_named (known l.globals) (names_of (drop l.i l.binders)) (drop l.i l.locals)
      l.self.scope ≡ all_named (known l.globals) (names_of l.binders) l.locals l.fn.self.scope;
  next : l.self.next ≡ l.fn.self.next;
}
