use Rattle.std.proofs.Common.{List, length, ap, ◌∙◌, subst}
use Rattle.rv32_items.specs.declared.Item.{Item}
use Rattle.rv32_layout.specs.declared.form.Way.{Way}
use Rattle.rv32_layout.specs.Places.{place, Shortens}
use Rattle.rv32_layout.specs.Spots.{KnowsLabelSpots}
use Rattle.rv32_layout.proofs.Shorter.{no_longer, all_go}
use Rattle.rv32_layout.proofs.plan.LayoutPlan.shorten.Goals as goal

pub returns-clause-plan : goal.returns-clause-plan
returns-clause-plan c =
    let items : List Item = c.args.items.now in
    let old : List Way = c.args.self.now.ways.items in
    let new : List Way = c.in_ok-self.field-0.items in
    let shortens : Shortens items old new = subst (λ ws. Shortens items ws new)
    c.deref.ensures.value c.in_ok-self.ensures in
    let less = no_longer items old new c.requires.plan.go shortens in
    let same = c.deref-2.ensures.value in
    record {
      go = all_go items old new less shortens;
      known = subst (λ ws. KnowsLabelSpots items ws (length items) c.note_label_places.new.spots)
          same c.in_ok-self-2.ensures.known;
      len = c.in_ok-self-2.ensures.len ∙ ap (λ ws. place ws items (length items)) same;
      room = c.in_ok-self-2.ensures.room;
    }

pub returns-clause-no_longer : goal.returns-clause-no_longer
returns-clause-no_longer c =
    let items : List Item = c.args.items.now in
    let old : List Way = c.args.self.now.ways.items in
    let new : List Way = c.in_ok-self.field-0.items in
    let shortens : Shortens items old new = subst (λ ws. Shortens items ws new)
    c.deref.ensures.value c.in_ok-self.ensures in
    no_longer items old new c.requires.plan.go shortens
