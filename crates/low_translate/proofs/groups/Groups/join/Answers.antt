use Rattle.std.proofs.Common.{rules, ◌≡◌, ℕ, List, sym, ◌∙◌}
use Rattle.low_translate.specs.Groups.{IsConstantOnGroups}
use Rattle.low_translate.proofs.Parents.{same_parent, joined_then}
use Rattle.low_translate.proofs.groups.Groups.join.Goals as goal

pub returns-clause-joined : goal.returns-clause-joined
returns-clause-joined c f r =
    let ps : List ℕ = c.first-b.new.self.parents.items in
    let back : IsConstantOnGroups f ps = joined_then ps c.first-a.result c.first-b.result
    c.max.result c.min.result (search rules) (search rules) (search rules) (search rules)
    (c.first-b.ensures.firsts _ c.first-a.ensures.first) c.first-b.ensures.first f r in
    let same : f c.first-a.result ≡ f c.first-b.result
    = same_parent ps c.first-a.result c.first-b.result c.max.result c.min.result (search rules)
    (search rules) (search rules) (search rules) f r in
    sym (c.first-a.ensures.joined f (c.first-b.ensures.older f back)) ∙ same ∙
    c.first-b.ensures.joined f back

pub returns-clause-older : goal.returns-clause-older
returns-clause-older c f r =
    let ps : List ℕ = c.first-b.new.self.parents.items in
    let back : IsConstantOnGroups f ps = joined_then ps c.first-a.result c.first-b.result
    c.max.result c.min.result (search rules) (search rules) (search rules) (search rules)
    (c.first-b.ensures.firsts _ c.first-a.ensures.first) c.first-b.ensures.first f r in
    c.first-a.ensures.older f (c.first-b.ensures.older f back)
