use Rattle.std.proofs.Common.{◌≡◌}
use Rattle.std.specs.List.{AllZip}
use Rattle.arity_check.specs.Tables.{known}
use Rattle.core_link.specs.Renaming.{numbers_of}
use Rattle.core_link.proofs.Walked.{Renews}
use Rattle.core_link.proofs.rename.Renamer.+rename_expr.Given as goal

abbrev pub invariant-expr-loop-alt : goal.invariant-expr-loop-alt
invariant-expr-loop-alt l = record {
  tested : l.tested ≡ l.initial.tested;
  scope : l.scope ≡ l.fn.scope;
  alts : AllZip (Renews (numbers_of l.self.renaming.now) (known l.self.globals.now) l.fn.scope)
      l.yielded l.made;
}
