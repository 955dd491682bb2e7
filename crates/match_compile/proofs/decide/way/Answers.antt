use Rattle.std.proofs.Common.{[], map, sym, ap, ◌∙◌, arith}
use Rattle.seq.specs.Lists.{numbers_from}
use Rattle.match_compile.specs.SourceOf.{pat_of, pats_of}
use Rattle.match_compile.specs.Trees.{pending_patterns_at}
use Rattle.match_compile.specs.RowOf.{names_bound_row}
use Rattle.match_compile.proofs.Decides.{count_is}
use Rattle.match_compile.proofs.decide.way.Goals as goal

pub returns-clause-way : goal.returns-clause-way
returns-clause-way c =
    let ps = c.args.pats.now in
    c.in_ok-way.ensures
    ∙ ap (λ places. names_bound_row [] (pending_patterns_at places (pats_of (map pat_of ps))))
    (c.as_slice.ensures ∙ c.in_ok-places.ensures.numbers ∙ ap (numbers_from 0)
    (sym (count_is ps)))

pub returns-clause-count : goal.returns-clause-count
returns-clause-count c = let ps = c.args.pats.now in omega
    (arith, c.in_ok-places.ensures.next, count_is ps)
