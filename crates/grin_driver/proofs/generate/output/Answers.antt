use Rattle.std.proofs.Common.{refl, sym, ◌∙◌, subst}
use Rattle.grin_driver.proofs.Generations.{Came, came_from, other, begun_store}
use Rattle.grin_driver.proofs.generate.output.Goals as goal

pub returns-in-Done-clause-done : goal.returns-in-Done-clause-done
returns-in-Done-clause-done c = λ text from.
    let run = c.exec_image-status in
    let begun = begun_store c.in-Ok.sink c.new.result.items c.new.ensures.items c.in-Ok.ensures in
    let came = came_from text c.args.image.now from run.new.input c.in-Ok.sink run.new.out begun
    c.new-input.result (c.new-input.ensures ∙ c.new-3.ensures.items) run.result
    run.ensures.executes in
    subst (Came text c.args.image.now from run.new.input c.in-Ok.sink run.new.out begun)
    (sym c.status_of_exit.ensures ∙ c.in-Done.is) came

pub returns-in-WriteFault-clause-undone : goal.returns-in-WriteFault-clause-undone
returns-in-WriteFault-clause-undone c = λ text from.
    let run = c.exec_image-status in
    let begun = begun_store c.in-Ok.sink c.new.result.items c.new.ensures.items c.in-Ok.ensures in
    let came = came_from text c.args.image.now from run.new.input c.in-Ok.sink run.new.out begun
    c.new-input.result (c.new-input.ensures ∙ c.new-3.ensures.items) run.result
    run.ensures.executes in (
      refl,
      refl,
      subst
          (Came text c.args.image.now from run.new.input c.in-Ok.sink run.new.out begun)
          (sym c.status_of_exit.ensures ∙ c.in-WriteFault.is) came,
    )

pub returns-in_default-status_of_exit-clause-undone
    : goal.returns-in_default-status_of_exit-clause-undone
returns-in_default-status_of_exit-clause-undone c = λ text from.
    let run = c.exec_image-status in
    let begun = begun_store c.in-Ok.sink c.new.result.items c.new.ensures.items c.in-Ok.ensures in
    let came = came_from text c.args.image.now from run.new.input c.in-Ok.sink run.new.out begun
    c.new-input.result (c.new-input.ensures ∙ c.new-3.ensures.items) run.result
    run.ensures.executes in
    other text c.args.image.now from run.new.input c.in-Ok.sink run.new.out begun
    c.status_of_exit.result c.in_default-status_of_exit.not-Done
    c.in_default-status_of_exit.not-WriteFault
    (subst (Came text c.args.image.now from run.new.input c.in-Ok.sink run.new.out begun)
    (sym c.status_of_exit.ensures) came)
