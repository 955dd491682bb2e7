use Rattle.std.proofs.Common.{◌≡◌, drop}
use Rattle.match_compile.specs.Translated.{with_fields}
use Rattle.match_compile.specs.TreeOf.{tree_of}
use Rattle.match_compile.proofs.emission.Writer.bind_fields.Given as goal

abbrev pub invariant-loop-field : goal.invariant-loop-field
invariant-loop-field l =
    with_fields l.self.words.now l.self.at l.self.params (tree_of l.tree)
    (drop l.field-index l.fields) l.places
    ≡ with_fields l.self.words.now l.self.at l.self.params (tree_of l.tree) l.fields l.fn.places
