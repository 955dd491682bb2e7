use Rattle.match_compile.specs.SourceOf.{equation_source_of}
use Rattle.match_compile.proofs.Premised.{text_compilable}
use Rattle.match_compile.proofs.compile.compile_matches.Goals as goal

pub compile_source-requires : goal.compile_source-requires
compile_source-requires c =
    text_compilable c.args.text.now (equation_source_of c.in_ok-source.source)
    c.in_ok-source.ensures.found
    c.in_ok-source.ensures.unbroken
