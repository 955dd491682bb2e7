use Rattle.std.proofs.Common.{sym, ◌∙◌}
use Rattle.match_compile.specs.SourceOf.{equation_source_of}
use Rattle.match_compile.proofs.Judged.{unbroken, met_cause}
use Rattle.match_compile.proofs.reader.read_equations.Goals as goal

pub returns-in-Some-clause-refused : goal.returns-in-Some-clause-refused
returns-in-Some-clause-refused c =
    let found = c.in-Ok.found in
    let given = c.in-Ok.ensures in
    met_cause c.args.text.now (equation_source_of found.source) given.found found.reserved
    given.reserved given.unbroken c.in-Some.refusal
    (sym c.in-Some.is ∙ c.in_ok-first-in-Ok.ensures)

pub returns-in-None-clause-unbroken : goal.returns-in-None-clause-unbroken
returns-in-None-clause-unbroken c =
    let found = c.in-Ok.found in
    let given = c.in-Ok.ensures in
    unbroken c.args.text.now (equation_source_of found.source) given.found found.reserved
    given.reserved given.unbroken (sym c.in-None.is ∙ c.in_ok-first-in-Ok.ensures)
