-- The program with types that the code keeps.
use Rattle.std.specs.Prelude.{List, [], ◌∷◌, map}
use Rattle.core_reader.specs.Tree.{function}
use Rattle.core_types.specs.declared.source.Written.{Written-F, fold-Written}
use Rattle.core_types.specs.declared.source.Written as code-written
use Rattle.core_types.specs.declared.source.Written.TheOpen as layer
use Rattle.core_types.specs.declared.source.Constructor as code-constructor
use Rattle.core_types.specs.declared.source.TypeDecl as code-type
use Rattle.core_types.specs.declared.source.Signature as code-signature
use Rattle.core_types.specs.declared.source.Source as code
use Rattle.core_types.specs.Source.{Written, WrittenTypes, Var, Named, Arrow, NoTypes, AndType, Constructor, TypeDecl, Signature, Source}

abbrev pub types_from : List Written → WrittenTypes
types_from [] = NoTypes
types_from (t ∷ ts) = AndType t (types_from ts)

abbrev pub written_layer : Written-F Written → Written
written_layer (layer.Var b) = Var b
written_layer (layer.Named b args) = Named b (types_from args)
written_layer (layer.Arrow from to) = Arrow from.value to.value

abbrev pub written : code-written.Written → Written
written t = fold-Written Written written_layer t

abbrev pub types_in : List code-written.Written → WrittenTypes
types_in ts = types_from (map written ts)

abbrev pub constructor_of : code-constructor.Constructor → Constructor
constructor_of c = record { name = c.name; fields = types_in c.fields }

abbrev pub type_of : code-type.TypeDecl → TypeDecl
type_of t = record {
  name = t.name;
  params = t.params;
  constructors = map constructor_of t.constructors;
}

abbrev pub signature_of : code-signature.Signature → Signature
signature_of s = record {
  function = s.function;
  args = types_in s.args;
  result = written s.result;
}

abbrev pub source_of : code.Source → Source
source_of s = record {
  names = s.core.names;
  types = map type_of s.types;
  signatures = map signature_of s.signatures;
  functions = map function s.core.functions;
}
