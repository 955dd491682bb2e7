use Rattle.std.proofs.Common.{◌≡◌, ◌<◌, length, get_or, [], ◌∷◌, ◌++◌, slice_get, slice_set, sym, ap, subst, ◌∙◌}
use Rattle.seq.specs.Lists.{or_empty}
use Rattle.unification.specs.declared.classes.Classes.{Classes}
use Rattle.unification.specs.Classes.{members_of}
use Rattle.unification.proofs.Joins.{from_moved, are_joined}
use Rattle.unification.proofs.classes.Classes.join.Goals as goal

pub relabel-requires : goal.relabel-requires
relabel-requires c = λ i h.
    let old = c.args.self.now in
    let p = c.requires.partition in
    let em : c.as_slice.result.now ≡ members_of old c.args.a ++ c.args.a ∷ []
    = c.as_slice.ensures ∙ c.in_ok-push.ensures.ok ∙ ap (λ xs. xs ++ c.args.a ∷ [])
    (c.taken-moved.ensures.row ∙ ap (λ v. or_empty (slice_get v.items c.args.a))
    c.keep.ensures.members) in
    subst (λ n. i < n) (sym (ap (λ v. length v.items) c.keep.ensures.classes ∙ p.classes))
    (from_moved c.args.terms.now old old c.args.a c.args.b c.as_slice.result.now p
    c.requires.within.0 c.requires.within.1 c.requires.roots.0 c.requires.roots.1
    c.requires.distinct em i h).0

pub returns : goal.returns
returns c =
    let old = c.args.self.now in
    let new : Classes = record
    { class = c.relabel.new.class; members = c.append_at.new.rows; kept = c.keep.new.self.kept }
    in
    let a = c.args.a in
    let b = c.args.b in
    let ms = c.as_slice.result.now in
    let p = c.requires.partition in
    let em : ms ≡ members_of old a ++ a ∷ [] = c.as_slice.ensures ∙ c.in_ok-push.ensures.ok ∙ ap
    (λ xs. xs ++ a ∷ [])
    (c.taken-moved.ensures.row ∙ ap (λ v. or_empty (slice_get v.items a))
    c.keep.ensures.members) in
    let rows : c.taken-moved.new.rows.items ≡ slice_set old.members.items a []
    = c.taken-moved.ensures.rest ∙ ap (λ v. slice_set v.items a []) c.keep.ensures.members in
    are_joined c.args.terms.now old new a b ms p c.requires.within.0 c.requires.within.1
    c.requires.roots.0 c.requires.roots.1 c.requires.distinct em
    (c.relabel.ensures.length ∙ ap (λ v. length v.items) c.keep.ensures.classes)
    c.relabel.ensures.moved
    (λ i h. c.relabel.ensures.others i h ∙ ap (λ v. get_or v.items i 0) c.keep.ensures.classes)
    (c.in_ok-append_at.ensures ∙ ap
    (λ l. slice_set l b (or_empty (slice_get l b) ++ c.push.new.self)) rows ∙ ap
    (λ l. slice_set (slice_set old.members.items a []) b
    (or_empty (slice_get (slice_set old.members.items a []) b) ++ l)) (sym c.as_slice.ensures))
    c.keep.ensures.kept
