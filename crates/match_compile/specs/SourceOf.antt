-- The equations that the code keeps.
use Rattle.std.specs.Prelude.{List, [], ◌∷◌, map}
use Rattle.core_reader.specs.Tree.{expr, data_of}
use Rattle.match_compile.specs.declared.source.Pat as code-pat
use Rattle.match_compile.specs.declared.source.Pat.TheOpen as layer
use Rattle.match_compile.specs.declared.source.Equation as code-equation
use Rattle.match_compile.specs.declared.source.Source as code-source
use Rattle.match_compile.specs.Source.{Pat, Name, Int, Con, Pats, NoPats, AndPat, Equation, Source}

abbrev pub pats_of : List Pat → Pats
pats_of [] = NoPats
pats_of (p ∷ ps) = AndPat p (pats_of ps)

abbrev pub pat_layer : code-pat.Pat-F Pat → Pat
pat_layer (layer.Name b) = Name b
pat_layer (layer.Int k at) = Int k at
pat_layer (layer.Con c ps) = Con c (pats_of ps)

abbrev pub pat_of : code-pat.Pat → Pat
pat_of p = code-pat.fold-Pat Pat pat_layer p

abbrev pub equation_of : code-equation.Equation → Equation
equation_of e =
    record { name = e.name.0; at = e.at; pats = pats_of (map pat_of e.pats); body = expr e.body }

abbrev pub equation_source_of : code-source.Source → Source
equation_source_of c = record {
  names = c.names;
  constructors = map data_of c.constructors;
  equations = map equation_of c.equations;
}
