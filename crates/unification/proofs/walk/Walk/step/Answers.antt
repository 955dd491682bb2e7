use Rattle.std.proofs.Common.{◌<◌, length, arith}
use Rattle.unification.specs.declared.walk.VisitMark.TheVariants.{Unseen, Entered, Done}
use Rattle.unification.proofs.Walking.{mark_is, top_within, top_seen, top_not_done}
use Rattle.unification.proofs.walk.Walk.step.Goals as goal

pub index-requires : goal.index-requires
index-requires c =
    let w = c.args.self.now in
    let l : c.args.top < length w.marks.items = top_within c.args.terms.now c.args.classes.now
    c.requires.earlier c.requires.partition w c.args.top c.requires.last.0 c.requires.walk
    c.requires.last.1 in
    omega (arith, l, w.marks.ok.0)

pub look-requires-clause-at : goal.look-requires-clause-at
look-requires-clause-at c =
    let w = c.args.self.now in
    let l : c.args.top < length w.marks.items = top_within c.args.terms.now c.args.classes.now
    c.requires.earlier c.requires.partition w c.args.top c.requires.last.0 c.requires.walk
    c.requires.last.1 in
    record {
      walk = c.requires.walk;
      front = c.requires.last.0;
      last = c.requires.last.1;
      mark = mark_is w c.args.top c.index.result.now (Entered c.in-Entered.first) l c.index.ensures
          c.in-Entered.is;
    }

pub returns-in-Unseen-clause-none : goal.returns-in-Unseen-clause-none
returns-in-Unseen-clause-none c = λ e.
    let w = c.args.self.now in
    let l : c.args.top < length w.marks.items = top_within c.args.terms.now c.args.classes.now
    c.requires.earlier c.requires.partition w c.args.top c.requires.last.0 c.requires.walk
    c.requires.last.1 in
    top_seen c.args.terms.now c.args.classes.now c.requires.earlier c.requires.partition w
    c.args.top c.requires.last.0 c.requires.walk c.requires.last.1
    (mark_is w c.args.top c.index.result.now Unseen l c.index.ensures c.in-Unseen.is)

pub returns-in-Done-clause-none : goal.returns-in-Done-clause-none
returns-in-Done-clause-none c = λ e.
    let w = c.args.self.now in
    let l : c.args.top < length w.marks.items = top_within c.args.terms.now c.args.classes.now
    c.requires.earlier c.requires.partition w c.args.top c.requires.last.0 c.requires.walk
    c.requires.last.1 in
    top_not_done c.args.terms.now c.args.classes.now c.requires.earlier c.requires.partition w
    c.args.top c.requires.last.0 c.requires.walk c.requires.last.1
    (mark_is w c.args.top c.index.result.now Done l c.index.ensures c.in-Done.is)
