use Rattle.grin_driver.proofs.Codes.{listing_of}
use Rattle.grin_driver.proofs.code.listed_code.Goals as goal

pub returns-in-Ok-clause-listed : goal.returns-in-Ok-clause-listed
returns-in-Ok-clause-listed c = listing_of _ _ _ _ _ c.in_ok-compiled.ensures.code
    (rw c.as_slice.ensures.value at c.in-Ok.ensures)
