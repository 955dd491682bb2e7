use Rattle.std.proofs.Common.{◌≡◌, take}
use Rattle.match_compile.specs.Translated.{binders}
use Rattle.match_compile.proofs.emission.Writer.binders.Given as goal

abbrev pub invariant-loop-field : goal.invariant-loop-field
invariant-loop-field l = l.made ≡ binders l.self.words.now l.self.at l.self.params l.places
    (take l.field-index l.fields)
