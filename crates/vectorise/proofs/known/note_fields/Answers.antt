use Rattle.std.proofs.Common.{◌+◌, rules, ap}
use Rattle.vectorise.proofs.Loops.{fields_next}
use Rattle.vectorise.proofs.known.note_fields.Goals as goal

pub vars-preserved : goal.vars-preserved
vars-preserved c = record {
  is = fields_next c.args.fields.now c.args.vars.now c.vars.var-index (record { 0 = 0 }) c.vars.at _
      c.args.known.now c.vars.known _ c.vars-test.true c.vars.invariant.place c.word_at.ensures
      (search rules) c.vars.invariant.is;
  place = ap (λ i. i + 1) c.vars.invariant.place;
}
