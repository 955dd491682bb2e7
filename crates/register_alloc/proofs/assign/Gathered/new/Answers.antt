use Rattle.register_alloc.proofs.Tables.{gathered_none}
use Rattle.register_alloc.proofs.assign.Gathered.new.Goals as goal

pub returns : goal.returns
returns c = gathered_none
    (record {
      walks = c.new.result;
      given = c.new-2.result;
      own = c.new-3.result;
      calls
          = c.new-4.result;
    }) c.new.ensures.items c.new-2.ensures.items c.new-3.ensures.items
    c.new-4.ensures.items
