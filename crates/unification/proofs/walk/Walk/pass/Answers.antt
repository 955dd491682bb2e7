use Rattle.std.proofs.Common.{◌<◌, ◌+◌, length, refl, sym, subst, arith}
use Rattle.std.specs.Vec.{with_item}
use Rattle.unification.specs.declared.walk.VisitMark.TheVariants.{Unseen, Entered, Done}
use Rattle.unification.proofs.Walking.{mark_is, top_within, next_within, next_entered, next_within_itself, next_done}
use Rattle.unification.proofs.walk.Walk.pass.Goals as goal

pub index_mut-requires : goal.index_mut-requires
index_mut-requires c =
    let w = c.args.self.now in
    let at = c.requires.at in
    let l : c.args.top < length w.marks.items = top_within c.args.terms.now c.args.classes.now
    c.requires.earlier c.requires.partition w c.args.top at.front at.walk at.last in
    omega (arith, l, w.marks.ok.0)

pub returns-in_ok-enter-in-Unseen-clause-steps : goal.returns-in_ok-enter-in-Unseen-clause-steps
returns-in_ok-enter-in-Unseen-clause-steps c = λ e.
    let terms = c.args.terms.now in
    let classes = c.args.classes.now in
    let w = c.args.self.now in
    let at = c.requires.at in
    let nx = c.requires.next in
    let l : c.args.next < length w.marks.items = subst (λ n. c.args.next < n) (sym at.walk.marks)
    (next_within terms classes c.requires.earlier c.requires.partition w w c.args.top
    c.args.first c.args.next at nx) in
    next_entered terms classes c.requires.earlier c.requires.partition w c.enter.new.self c.args.top
    c.args.first c.args.next at nx
    (mark_is w c.args.next c.index.result.now Unseen l c.index.ensures c.in-Unseen.is)
    c.in_ok-enter-in-Unseen.ensures.marks c.in_ok-enter-in-Unseen.ensures.path

pub returns-in-Entered-clause-none : goal.returns-in-Entered-clause-none
returns-in-Entered-clause-none c = λ e.
    let terms = c.args.terms.now in
    let classes = c.args.classes.now in
    let w = c.args.self.now in
    let at = c.requires.at in
    let nx = c.requires.next in
    let l : c.args.next < length w.marks.items = subst (λ n. c.args.next < n) (sym at.walk.marks)
    (next_within terms classes c.requires.earlier c.requires.partition w w c.args.top
    c.args.first c.args.next at nx) in
    next_within_itself terms classes c.requires.earlier c.requires.partition w w c.args.top
    c.args.first c.args.next at nx c.in-Entered.field-0
    (mark_is w c.args.next c.index.result.now (Entered c.in-Entered.field-0) l c.index.ensures
    c.in-Entered.is)

pub returns-in-Done-clause-steps : goal.returns-in-Done-clause-steps
returns-in-Done-clause-steps c = λ e.
    let terms = c.args.terms.now in
    let classes = c.args.classes.now in
    let w = c.args.self.now in
    let at = c.requires.at in
    let nx = c.requires.next in
    let l : c.args.next < length w.marks.items = subst (λ n. c.args.next < n) (sym at.walk.marks)
    (next_within terms classes c.requires.earlier c.requires.partition w w c.args.top
    c.args.first c.args.next at nx) in
    next_done terms classes c.requires.earlier c.requires.partition w
    (record {
      marks = with_item w.marks c.args.top (Entered (c.args.first + 1));
      path
          = w.path;
    }) c.args.top c.args.first c.args.next at nx
    (mark_is w c.args.next c.index.result.now Done l c.index.ensures c.in-Done.is) refl refl
