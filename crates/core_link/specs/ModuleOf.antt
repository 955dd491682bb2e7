-- The module that the code keeps.
use Rattle.std.specs.Prelude.{map}
use Rattle.core_reader.specs.Tree.{program}
use Rattle.core_link.specs.declared.module.Module as code
use Rattle.core_link.specs.declared.module.Import as code-import
use Rattle.core_link.specs.Module.{Module, Import}

abbrev pub import_of : code-import.Import → Import
import_of i = record { from = i.from; names = i.names }

abbrev pub module_of : code.Module → Module
module_of m = record {
  names = m.core.names;
  name = m.name;
  exports = m.exports;
  imports = map import_of m.imports;
  constructors = (program m.core).constructors;
  functions = (program m.core).functions;
}
