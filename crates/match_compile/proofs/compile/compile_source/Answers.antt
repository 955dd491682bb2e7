use Rattle.core_reader.specs.Tree.{program}
use Rattle.match_compile.specs.SourceOf.{equation_source_of}
use Rattle.match_compile.proofs.Translating.{both_follow, is_readable, is_translation}
use Rattle.match_compile.proofs.compile.compile_source.Goals as goal

pub returns-clause-translates : goal.returns-clause-translates
returns-clause-translates c =
    let source = equation_source_of c.args.source in
    both_follow _ _ _ c.translated.result
    (λ core is few. is_translation source c.requires few (program core) is)
    c.translated.ensures.is c.translated.ensures.few

pub returns-clause-readable : goal.returns-clause-readable
returns-clause-readable c =
    let source = equation_source_of c.args.source in
    both_follow _ _ _ c.translated.result
    (λ core is few. is_readable source c.requires few (program core) is)
    c.translated.ensures.is c.translated.ensures.few

pub translated-requires : goal.translated-requires
translated-requires c = c.requires.no_new_name
