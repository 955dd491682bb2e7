use Rattle.std.proofs.Common.{◌≡◌, length, List, [], map}
use Rattle.core_reader.specs.declared.syntax.Binder.{Binder}
use Rattle.core_link.specs.ModuleOf.{import_of}
use Rattle.core_link.specs.Heading.{Exports, head, run}
use Rattle.core_link.proofs.Taken.{import_state, NoExport}
use Rattle.core_link.proofs.header.imports.Given as goal

abbrev pub invariant-loop-imports : goal.invariant-loop-imports
invariant-loop-imports l = record {
  reads : (name : Binder) (exports : List Binder) → run (Exports (head name exports []))
      l.fn.parser.rest.now ≡ run (import_state name exports (map import_of l.imports.items))
      l.parser.rest.now;
  no_export : NoExport (map import_of l.imports.items) l.parser.rest.now;
  depth : l.parser.depth ≡ l.fn.parser.depth;
}

abbrev pub decreases-loop-imports : goal.decreases-loop-imports
decreases-loop-imports l = length l.parser.rest.now
