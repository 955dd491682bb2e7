use Rattle.grin_driver.proofs.Costs.{executed}
use Rattle.grin_driver.proofs.exec.exec_image.Goals as goal

pub returns-clause-executes : goal.returns-clause-executes
returns-clause-executes g c =
    executed _ _ c.args.bytes.now c.args.steps c.exec_counted.result.status
    c.exec_counted.result.counts
    c.exec_counted.ensures.ran
