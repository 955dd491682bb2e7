use Rattle.std.proofs.Common.{◌≡◌, ◌<◌, true, false, [], ◌∷◌, ◌++◌, length, sym, subst}
use Rattle.seq.proofs.Results.{ok_follows}
use Rattle.unification.specs.Classes.{MergingProgresses, IsUnsatisfiable}
use Rattle.unification.proofs.Pairing.{below_last, one_class, are_roots, roots_under_way, turned_under_way, to_roots, from_roots, to_turned, from_turned, advances_by, none_by}
use Rattle.unification.proofs.joining.join_pair.Goals as goal

pub class_of-a-requires : goal.class_of-a-requires
class_of-a-requires c =
    let u = c.requires.under_way in
    subst (λ n. c.args.pair.0 < n) (sym u.partition.classes)
    (below_last (length c.args.terms.now) c.args.todo.now.items c.args.pair u.below).0

pub class_of-b-requires : goal.class_of-b-requires
class_of-b-requires c =
    let u = c.requires.under_way in
    subst (λ n. c.args.pair.1 < n) (sym u.partition.classes)
    (below_last (length c.args.terms.now) c.args.todo.now.items c.args.pair u.below).1

pub returns-then-a-b-clause-advances : goal.returns-then-a-b-clause-advances
returns-then-a-b-clause-advances c = λ e.
    one_class c.args.terms.now c.args.classes.now c.args.todo.now.items c.args.pair
    c.class_of-a.result c.class_of-b.result c.requires.under_way c.class_of-a.ensures
    c.class_of-b.ensures c.if-a-b.true

pub join_classes-requires-clause-under_way : goal.join_classes-requires-clause-under_way
join_classes-requires-clause-under_way c =
    turned_under_way c.args.terms.now c.args.classes.now c.args.todo.now.items c.args.pair
    c.class_of-a.result c.class_of-b.result c.requires.under_way c.class_of-a.ensures
    c.class_of-b.ensures

pub join_classes-requires-clause-roots : goal.join_classes-requires-clause-roots
join_classes-requires-clause-roots c =
    let r = are_roots c.args.terms.now c.args.classes.now c.args.todo.now.items c.args.pair
    c.class_of-a.result c.class_of-b.result c.requires.under_way c.class_of-a.ensures
    c.class_of-b.ensures in
    (r.1, r.0)

pub returns-then-is_larger-clause-advances : goal.returns-then-is_larger-clause-advances
returns-then-is_larger-clause-advances c =
    let terms = c.args.terms.now in
    let old = c.args.classes.now in
    let new = c.join_classes.new.classes in
    let todo = c.args.todo.now.items in
    let next = c.join_classes.new.todo.items in
    let p = c.args.pair in
    let a = c.class_of-a.result in
    let b = c.class_of-b.result in
    ok_follows (λ t. t ≡ true → MergingProgresses terms old (todo ++ (b, a) ∷ []) new next)
    (λ t. t ≡ true → MergingProgresses terms old (todo ++ p ∷ []) new next)
    c.join_classes.result
    (λ t h e.
    advances_by terms old new (todo ++ p ∷ []) (todo ++ (b, a) ∷ []) next
    (from_turned terms old todo p a b c.requires.under_way c.class_of-a.ensures
    c.class_of-b.ensures)
    (to_turned terms old todo p a b c.requires.under_way c.class_of-a.ensures c.class_of-b.ensures)
    (h e))
    c.join_classes.ensures.advances

pub returns-then-is_larger-clause-none : goal.returns-then-is_larger-clause-none
returns-then-is_larger-clause-none c =
    let terms = c.args.terms.now in
    let old = c.args.classes.now in
    let todo = c.args.todo.now.items in
    let p = c.args.pair in
    let a = c.class_of-a.result in
    let b = c.class_of-b.result in
    ok_follows (λ t. t ≡ false → IsUnsatisfiable terms old (todo ++ (b, a) ∷ []))
    (λ t. t ≡ false → IsUnsatisfiable terms old (todo ++ p ∷ [])) c.join_classes.result
    (λ t h e.
    none_by terms old (todo ++ p ∷ []) (todo ++ (b, a) ∷ [])
    (to_turned terms old todo p a b c.requires.under_way c.class_of-a.ensures c.class_of-b.ensures)
    (h e))
    c.join_classes.ensures.none

pub join_classes-requires-2-clause-under_way : goal.join_classes-requires-2-clause-under_way
join_classes-requires-2-clause-under_way c =
    roots_under_way c.args.terms.now c.args.classes.now c.args.todo.now.items c.args.pair
    c.class_of-a.result c.class_of-b.result c.requires.under_way c.class_of-a.ensures
    c.class_of-b.ensures

pub join_classes-requires-2-clause-roots : goal.join_classes-requires-2-clause-roots
join_classes-requires-2-clause-roots c =
    are_roots c.args.terms.now c.args.classes.now c.args.todo.now.items c.args.pair
    c.class_of-a.result c.class_of-b.result c.requires.under_way c.class_of-a.ensures
    c.class_of-b.ensures

pub returns-clause-advances : goal.returns-clause-advances
returns-clause-advances c =
    let terms = c.args.terms.now in
    let old = c.args.classes.now in
    let new = c.join_classes-2.new.classes in
    let todo = c.args.todo.now.items in
    let next = c.join_classes-2.new.todo.items in
    let p = c.args.pair in
    let a = c.class_of-a.result in
    let b = c.class_of-b.result in
    ok_follows (λ t. t ≡ true → MergingProgresses terms old (todo ++ (a, b) ∷ []) new next)
    (λ t. t ≡ true → MergingProgresses terms old (todo ++ p ∷ []) new next)
    c.join_classes-2.result
    (λ t h e.
    advances_by terms old new (todo ++ p ∷ []) (todo ++ (a, b) ∷ []) next
    (from_roots terms old todo p a b c.requires.under_way c.class_of-a.ensures c.class_of-b.ensures)
    (to_roots terms old todo p a b c.requires.under_way c.class_of-a.ensures c.class_of-b.ensures)
    (h e))
    c.join_classes-2.ensures.advances

pub returns-clause-none : goal.returns-clause-none
returns-clause-none c =
    let terms = c.args.terms.now in
    let old = c.args.classes.now in
    let todo = c.args.todo.now.items in
    let p = c.args.pair in
    let a = c.class_of-a.result in
    let b = c.class_of-b.result in
    ok_follows (λ t. t ≡ false → IsUnsatisfiable terms old (todo ++ (a, b) ∷ []))
    (λ t. t ≡ false → IsUnsatisfiable terms old (todo ++ p ∷ [])) c.join_classes-2.result
    (λ t h e.
    none_by terms old (todo ++ p ∷ []) (todo ++ (a, b) ∷ [])
    (to_roots terms old todo p a b c.requires.under_way c.class_of-a.ensures c.class_of-b.ensures)
    (h e))
    c.join_classes-2.ensures.none
