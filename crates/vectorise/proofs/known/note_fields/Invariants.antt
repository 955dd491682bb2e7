use Rattle.std.proofs.Common.{◌≡◌, take}
use Rattle.vectorise.specs.Known.{noted_fields}
use Rattle.vectorise.proofs.known.note_fields.Given as goal

abbrev pub invariant-vars : goal.invariant-vars
invariant-vars l = record {
  is : l.known ≡ noted_fields l.fields (take l.var-index l.vars) l.initial.known;
  place
      : l.at ≡ l.var-index;
}
