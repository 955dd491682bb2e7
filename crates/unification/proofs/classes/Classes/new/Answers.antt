use Rattle.std.proofs.Common.{◌≡◌, [], ◌∷◌, ◌++◌, slice_get, ap, ◌∙◌}
use Rattle.seq.specs.Lists.{or_empty}
use Rattle.unification.proofs.Joins.{length_pushed, number_pushed, empty_pushed}
use Rattle.unification.proofs.classes.Classes.new.Goals as goal

pub loop-i-preserved : goal.loop-i-preserved
loop-i-preserved c =
    let i = c.loop-i.i in
    let h = c.loop-i.invariant in
    let groups : c.push-in-loop-i.new.self.items ≡ c.loop-i.members.items ++ [] ∷ []
    = c.in_ok-push-2.ensures.items ∙ ap (λ xs. c.loop-i.members.items ++ xs ∷ []) c.new.ensures
    in
    record {
      classes = length_pushed c.loop-i.class.items c.push.new.self.items i i
          c.in_ok-push.ensures.items h.classes;
      keeps = length_pushed c.loop-i.kept.items c.push-in-loop-i-2.new.self.items i i
          c.in_ok-push-3.ensures.items h.keeps;
      groups = length_pushed c.loop-i.members.items c.push-in-loop-i.new.self.items [] i groups
          h.groups;
      alone = number_pushed c.loop-i.class.items c.push.new.self.items i c.in_ok-push.ensures.items
          h.classes h.alone;
      kept = number_pushed c.loop-i.kept.items c.push-in-loop-i-2.new.self.items i
          c.in_ok-push-3.ensures.items h.keeps h.kept;
      none = λ j. ap (λ xs. or_empty (slice_get xs j)) groups ∙ empty_pushed c.loop-i.members.items
          h.none j;
    }
