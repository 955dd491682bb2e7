use Rattle.std.proofs.Common.{rules, ◌≡◌, None, Some, map, sym, ap, ◌∙◌}
use Rattle.core_reader.specs.Tree.{Program, function, program}
use Rattle.arity_check.specs.Known.{Known}
use Rattle.arity_check.specs.Tables.{known}
use Rattle.arity_check.specs.Whole.{main_at}
use Rattle.arity_check.proofs.Finish.{functions_sound, main_there, main_is}
use Rattle.arity_check.proofs.check.normal_form.Goals as goal

pub unreachable-requires : goal.unreachable-requires
unreachable-requires c =
    let k : Known = known c.args.globals.now in
    let none : main_at k (map function c.args.core.now.functions) ≡ None
    = ap (λ fs. main_at k (map function fs)) (sym c.as_slice.ensures) ∙ sym c.in_default.ensures
    in
    main_there (program c.args.core.now) k c.requires.tables c.requires.unbroken none

pub functions-requires-clause-faults : goal.functions-requires-clause-faults
functions-requires-clause-faults c = functions_sound (program c.args.core.now)
    (known c.args.globals.now) c.requires.tables c.requires.unbroken

pub returns : goal.returns
returns c =
    let p : Program = program c.args.core.now in
    let k : Known = known c.args.globals.now in
    let same : c.in-Ok.main ≡ c.in-Some.main = search rules in
    let at : main_at k p.functions ≡ Some c.in-Ok.main
    = ap (λ fs. main_at k (map function fs)) (sym c.as_slice.ensures) ∙ sym c.in-Some.ensures ∙
    ap Some (sym same) in
    record {
      cons = c.in_ok-cons.ensures;
      funs = c.in_ok-funs.ensures;
      main
          = main_is p k c.in-Ok.main c.requires.tables at;
    }
