use Rattle.std.proofs.Common.{◌≡◌}
use Rattle.std.specs.List.{AllZip}
use Rattle.match_compile.proofs.Renames.{Renews}
use Rattle.match_compile.proofs.rename.+rename_expr.Given as goal

abbrev pub invariant-renamed_alts-loop-alt : goal.invariant-renamed_alts-loop-alt
invariant-renamed_alts-loop-alt l = record {
  scope : l.scope ≡ l.fn.scope;
  alts : AllZip (Renews l.fn.scope) l.yielded l.made;
}
