use Rattle.std.proofs.Common.{◌≡◌, ◌-◌, ◌+◌, ◌++◌, drop, sym, ap, ◌∙◌, arith}
use Rattle.std.proofs.lemmas.Bool.{ltb-false}
use Rattle.match_compile.specs.Trees.{pending_patterns_at}
use Rattle.match_compile.specs.RowOf.{pending}
use Rattle.match_compile.proofs.Rows.{all_pats, none_there}
use Rattle.match_compile.proofs.row.put.Goals as goal

pub pats-preserved : goal.pats-preserved
pats-preserved c =
    let n = c.pats.at - 1 in
    let one : c.pats.at ≡ n + 1 = omega (arith, c.pats-test.true) in
    record {
      within = omega (arith, c.pats.invariant.within);
      jobs =
          c.pats.invariant.jobs
          ∙ ap (λ k. pending_patterns_at (drop k c.args.places.now)
          (all_pats (drop k c.args.pats.now)) ++ pending c.args.jobs.now) one
          ∙ none_there c.args.places.now (all_pats (drop (n + 1) c.args.pats.now))
          (all_pats (drop n c.args.pats.now)) n (pending c.args.jobs.now)
          (ltb-false _ _ (sym c.in_default.ensures.lookup.0));
    }
