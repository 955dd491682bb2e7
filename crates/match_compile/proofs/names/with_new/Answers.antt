use Rattle.std.proofs.Common.{◌≡◌, ◌++◌, List, ℕ, sym, ap, subst, ◌∙◌}
use Rattle.core_reader.specs.Different.{AreDistinct}
use Rattle.match_compile.specs.Sound.{name_of_equation}
use Rattle.match_compile.specs.Translated.{with_nameless, numbered_texts, param_name, field_name}
use Rattle.match_compile.proofs.NewNames.{new_different, joined_names}
use Rattle.match_compile.proofs.names.with_new.Goals as goal

pub from_vec-requires : goal.from_vec-requires
from_vec-requires c =
    let equations : List (List ℕ) = numbered_texts c.args.equations name_of_equation in
    let start : c.in_ok-entries.entries.items ≡ with_nameless c.args.names
    = c.in_ok-entries.ensures ∙ ap with_nameless c.into_vec.ensures.given in
    subst AreDistinct
    (sym (joined_names (with_nameless c.args.names) equations
    (numbered_texts c.args.params param_name) (numbered_texts c.args.fields field_name)
    c.add_numbered.new.entries.items c.add_numbered-2.new.entries.items
    c.add_numbered-3.new.entries.items
    (c.in_ok-add_numbered.ensures ∙ ap (λ ns. ns ++ equations) start) c.in_ok-add_numbered-2.ensures
    c.in_ok-add_numbered-3.ensures))
    (new_different c.args.names c.args.equations c.args.params c.args.fields c.ranges.equations.fits
    c.ranges.params.fits c.ranges.fields.fits
    (subst AreDistinct c.into_vec.ensures.given c.into_vec.ensures.different) c.requires)
