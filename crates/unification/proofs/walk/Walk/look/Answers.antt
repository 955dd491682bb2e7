use Rattle.std.proofs.Common.{◌≡◌, ◌<◌, ◌≤◌, length, get_or, sym, ap, subst, ◌∙◌}
use Rattle.unification.specs.Terms.{arguments_of}
use Rattle.unification.specs.Walks.{kept_arguments}
use Rattle.unification.proofs.Walking.{leaves, argument_read, argument_read_below}
use Rattle.unification.proofs.walk.Walk.look.Goals as goal

pub returns-then-first-arguments-clause-steps : goal.returns-then-first-arguments-clause-steps
returns-then-first-arguments-clause-steps c = λ e.
    let terms = c.args.terms.now in
    let classes = c.args.classes.now in
    let same : c.arguments_at-arguments.result.now ≡ kept_arguments terms classes c.args.top
    = c.arguments_at-arguments.ensures ∙ ap (arguments_of terms) c.kept_of.ensures in
    leaves terms classes c.requires.earlier c.requires.partition c.args.self.now c.leave.new.self
    c.args.top c.args.first c.requires.at
    (subst (λ xs. length xs ≤ c.args.first) same c.if-first-arguments.true) c.leave.ensures.marks
    c.leave.ensures.path

pub class_of-next-requires : goal.class_of-next-requires
class_of-next-requires c =
    let terms = c.args.terms.now in
    let classes = c.args.classes.now in
    let xs = c.arguments_at-arguments.result.now in
    let same : xs ≡ kept_arguments terms classes c.args.top
    = c.arguments_at-arguments.ensures ∙ ap (arguments_of terms) c.kept_of.ensures in
    subst (λ n. get_or xs c.args.first 0 < n) (sym c.requires.partition.classes)
    (argument_read_below terms classes c.requires.earlier c.requires.partition c.args.self.now
    c.args.top c.args.first xs c.requires.at same c.if-first-arguments.false)

pub pass-requires-clause-next : goal.pass-requires-clause-next
pass-requires-clause-next c =
    let terms = c.args.terms.now in
    let classes = c.args.classes.now in
    let xs = c.arguments_at-arguments.result.now in
    let same : xs ≡ kept_arguments terms classes c.args.top
    = c.arguments_at-arguments.ensures ∙ ap (arguments_of terms) c.kept_of.ensures in
    record {
      argument = get_or xs c.args.first 0;
      at = argument_read terms classes c.requires.earlier c.requires.partition c.args.self.now
          c.args.top c.args.first xs c.requires.at same c.if-first-arguments.false;
      class = c.class_of-next.ensures;
    }
