use Rattle.std.proofs.Common.{map, sym, ap, subst, ◌∙◌, None}
use Rattle.core_reader.specs.Readable as core
use Rattle.lambda_reader.specs.Code.{program, function}
use Rattle.lambda_lift.specs.Abstractions.{in_functions}
use Rattle.lambda_lift.specs.Lifted.{lifted, HasNoLiftedName}
use Rattle.lambda_lift.specs.Gathered.{program_of_names}
use Rattle.lambda_lift.specs.Broadest.{too_broad}
use Rattle.lambda_lift.specs.Choosing.{program_of_parts}
use Rattle.lambda_lift.proofs.Answered.{tree_refused, tree_unbroken, tree_readable}
use Rattle.lambda_lift.proofs.lifter.lift_program.Goals as goal

pub returns-in-Some-clause-refused : goal.returns-in-Some-clause-refused
returns-in-Some-clause-refused c =
    let words = c.in_ok-words.words in
    let first = c.in_ok-too_broad.ensures ∙ ap
    (λ fs. too_broad (program_of_names words) None
    (in_functions (program_of_names words) (map function fs))) c.as_slice.ensures in
    tree_refused (program c.args.program) words c.in_ok-words.ensures c.in_ok-too_broad.too_broad
    first c.in-Some.at (sym c.in-Some.is)

pub lifted-requires-clause-free : goal.lifted-requires-clause-free
lifted-requires-clause-free c =
    let p = c.args.program in
    subst (λ ns. HasNoLiftedName (program_of_parts ns p.constructors p.functions))
    (sym c.in_ok-words.ensures) c.requires.free

pub returns-in_ok-core-in-None-clause-unbroken : goal.returns-in_ok-core-in-None-clause-unbroken
returns-in_ok-core-in-None-clause-unbroken c =
    let words = c.in_ok-words.words in
    let first = c.in_ok-too_broad.ensures ∙ ap
    (λ fs. too_broad (program_of_names words) None
    (in_functions (program_of_names words) (map function fs))) c.as_slice.ensures in
    tree_unbroken (program c.args.program) words c.in_ok-words.ensures c.in_ok-too_broad.too_broad
    first (sym c.in-None.is)

pub returns-in_ok-core-in-None-clause-readable : goal.returns-in_ok-core-in-None-clause-readable
returns-in_ok-core-in-None-clause-readable c =
    let p = c.args.program in
    let words = c.in_ok-words.words in
    let first = c.in_ok-too_broad.ensures ∙ ap
    (λ fs. too_broad (program_of_names words) None
    (in_functions (program_of_names words) (map function fs))) c.as_slice.ensures in
    let same = c.in_ok-core-in-None.ensures ∙ ap
    (λ ns. lifted (program_of_parts ns p.constructors p.functions)) c.in_ok-words.ensures in
    subst core.IsReadable (sym same)
    (tree_readable (program p) words c.in_ok-words.ensures c.in_ok-too_broad.too_broad first
    (sym c.in-None.is) c.requires.free c.requires.readable)
