use Rattle.std.proofs.Common.{subst}
use Rattle.unification.specs.Classes.{CannotBeEqual, ArgumentsArePaired}
use Rattle.unification.specs.Shown.{kept_of}
use Rattle.unification.proofs.Pairing.{differ_none, joined_advances, joined_work}
use Rattle.unification.proofs.joining.join_classes.Goals as goal

pub returns-then-not-branch-clause-none : goal.returns-then-not-branch-clause-none
returns-then-not-branch-clause-none c = λ e.
    let terms = c.args.terms.now in
    let old = c.args.classes.now in
    let d : CannotBeEqual terms c.kept_of-x.result c.kept_of-y.result
    = c.in_ok-pair_arguments.ensures.differ c.if-not-branch.true in
    differ_none terms old c.args.a c.args.b c.args.todo.now.items c.requires.under_way
    c.requires.roots.0 c.requires.roots.1
    (subst (CannotBeEqual terms (kept_of old c.args.a)) c.kept_of-y.ensures
    (subst (λ k. CannotBeEqual terms k c.kept_of-y.result) c.kept_of-x.ensures d))

pub returns-clause-advances : goal.returns-clause-advances
returns-clause-advances c = λ e.
    let terms = c.args.terms.now in
    let old = c.args.classes.now in
    let todo = c.args.todo.now.items in
    let next = c.pair_arguments.new.todo.items in
    let pairs : ArgumentsArePaired terms todo next c.kept_of-x.result c.kept_of-y.result
    = c.in_ok-pair_arguments.ensures.pairs c.if-not-branch.false in
    joined_advances terms old c.args.a c.args.b todo c.requires.under_way c.requires.roots.0
    c.requires.roots.1 c.join.new.self next c.requires.distinct
    (subst (ArgumentsArePaired terms todo next (kept_of old c.args.a)) c.kept_of-y.ensures
    (subst (λ k. ArgumentsArePaired terms todo next k c.kept_of-y.result) c.kept_of-x.ensures
    pairs))
    c.in_ok-join.ensures

pub returns-clause-work : goal.returns-clause-work
returns-clause-work c = λ e.
    let terms = c.args.terms.now in
    let old = c.args.classes.now in
    let todo = c.args.todo.now.items in
    let next = c.pair_arguments.new.todo.items in
    let pairs : ArgumentsArePaired terms todo next c.kept_of-x.result c.kept_of-y.result
    = c.in_ok-pair_arguments.ensures.pairs c.if-not-branch.false in
    joined_work terms old c.args.a c.args.b todo c.requires.under_way c.requires.roots.0
    c.requires.roots.1 c.join.new.self next c.requires.distinct
    (subst (ArgumentsArePaired terms todo next (kept_of old c.args.a)) c.kept_of-y.ensures
    (subst (λ k. ArgumentsArePaired terms todo next k c.kept_of-y.result) c.kept_of-x.ensures
    pairs))
    c.in_ok-join.ensures
