use Rattle.std.proofs.Common.{refl, map}
use Rattle.core_reader.specs.declared.syntax.Binder.{Binder}
use Rattle.core_reader.specs.declared.syntax.Function.{Function}
use Rattle.core_reader.specs.Tree.{function}
use Rattle.arity_check.specs.Known.{is_reserved}
use Rattle.arity_check.specs.Tables.{known}
use Rattle.core_link.specs.Bound.{bound_in_function, bound_in_functions}
use Rattle.core_link.specs.Found.{binder_place}
use Rattle.core_link.proofs.Steps.{items_next}
use Rattle.core_link.proofs.reserved.in_functions.Goals as goal

pub loop-function-preserved : goal.loop-function-preserved
loop-function-preserved c =
    items_next (λ fs. bound_in_functions (map function fs))
    (λ (f : Function). bound_in_function (function f)) (λ f fs. refl)
    (λ (b : Binder). is_reserved (known c.args.globals.now) b.name.0) binder_place
    c.args.functions.now c.loop-function.function-index c.function-item.result
    c.loop-function-test.true c.function-item.is c.loop-function.first
    c.in_function-first.result _ c.in_function-first.ensures c.loop-function.invariant
