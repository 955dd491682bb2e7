use Rattle.std.proofs.Common.{◌≡◌, ◌++◌, length, None, slice_get, sym, ap, ◌∙◌}
use Rattle.std.proofs.lemmas.Option.{slice_get_past}
use Rattle.flow_system.specs.Shown.{tables_of}
use Rattle.points_to.specs.Known.{held}
use Rattle.points_to.specs.ValueWords.{elements_of}
use Rattle.seq.proofs.Lists.{append_nil}
use Rattle.seq.proofs.Order.{le_from}
use Rattle.points_to.proofs.value_word.nth_word.Goals as goal

pub returns-in-None : goal.returns-in-None
returns-in-None c =
    let none : slice_get c.args.words.now c.args.j ≡ None
    = slice_get_past c.args.words.now c.args.j
    (le_from c.args.j (length c.args.words.now) (sym c.in-None.ensures.lookup.0)) in
    sym (ap (λ o. c.args.out.now ++ elements_of (tables_of c.args.system.now)
    (held c.args.facts.now) o) none ∙ append_nil c.args.out.now)
