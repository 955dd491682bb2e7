use Rattle.std.proofs.Common.{[], take, map, sym, ap, subst, ◌∙◌, arith}
use Rattle.std.specs.List.{flat_map}
use Rattle.std.proofs.lemmas.List.{take_all}
use Rattle.core_reader.specs.Tree.{function as function_tree}
use Rattle.core_types.specs.declared.building.ConstraintBuilder.{ConstraintBuilder}
use Rattle.core_types.specs.Source.{Source}
use Rattle.core_types.specs.Typing.{of_function}
use Rattle.core_types.specs.Building.{Stands}
use Rattle.core_types.proofs.Gathered.{one_function}
use Rattle.core_types.proofs.Adding.{at_kept}
use Rattle.core_types.proofs.functions.program_constraints.Goals as goal

pub loop-function-init : goal.loop-function-init
loop-function-init c = λ s k. c.new-builder.ensures

pub loop-function-preserved : goal.loop-function-preserved
loop-function-preserved c = λ s k.
    let b : ConstraintBuilder = c.loop-function.builder in
    let b' : ConstraintBuilder = c.function.new.self in
    let fs = c.as_slice-function-items.result.now in
    let i = c.loop-function.function-index in
    let f = c.function-item.result in
    let h = c.loop-function.invariant s k in
    let own = of_function s (function_tree f) in
    let e = c.in_ok-function.ensures s k h.0 in (
      at_kept b b' own [] e h.0,
      subst (Stands b') (sym (one_function s fs i f (omega arith) c.function-item.is))
          (e.stands (flat_map (of_function s) (map function_tree (take i fs))) h.1),
    )

pub returns : goal.returns
returns c = λ s k.
    let b : ConstraintBuilder = c.loop-function.builder in
    let h = c.loop-function.invariant s k in (
      h.0.sound,
      subst (Stands b)
          (ap (λ fs. flat_map (of_function s) (map function_tree fs))
          (take_all c.loop-function.function-index c.as_slice-function-items.result.now
          (omega arith) ∙ c.as_slice-function-items.ensures)
          ∙ ap (λ (s' : Source). flat_map (of_function s) s'.functions) k.source)
          h.1,
    )
