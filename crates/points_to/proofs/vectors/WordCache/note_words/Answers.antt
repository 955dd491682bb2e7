use Rattle.std.proofs.Common.{◌++◌, [], ◌∷◌, ap, ◌∙◌}
use Rattle.flow_system.specs.Shown.{tables_of, inclusions_of}
use Rattle.points_to.specs.Known.{held}
use Rattle.points_to.proofs.VectorLoops.{words_more}
use Rattle.points_to.proofs.vectors.WordCache.note_words.Goals as goal

pub returns : goal.returns
returns c =
    let entry = c.in_ok-entry.entry in
    words_more (tables_of c.args.system.now) (inclusions_of c.args.system.now)
    (held c.args.facts.now) c.args.self.now c.push.new.self.items entry
    (c.in_ok-push.ensures.items ∙ ap (λ v. v.items ++ entry ∷ []) c.in_ok-set_last.ensures)
    c.in_ok-entry.ensures
