use Rattle.std.proofs.Common.{◌≡◌}
use Rattle.raise_theory.specs.Raising.{decided}
use Rattle.arity_raise.proofs.Rewritten.{Raises, AllRaise}
use Rattle.arity_raise.proofs.blocks.Within.+raise.Given as goal

abbrev pub invariant-block-loop-stmt : goal.invariant-block-loop-stmt
invariant-block-loop-stmt l = Raises l.self.all.now (decided l.self.own.now l.self.params.now)
    l.initial.fresh.next l.stmts l.yielded l.fresh.next

abbrev pub invariant-op-loop-alt : goal.invariant-op-loop-alt
invariant-op-loop-alt l = record {
  scrutinee : l.v ≡ l.initial.v;
  before : l.made ≡ l.initial.made;
  some : AllRaise l.self.all.now (decided l.self.own.now l.self.params.now) l.initial.fresh.next
      l.arms l.yielded l.fresh.next;
}
