use Rattle.text_commands.proofs.Texts.{accepted_is_valid}
use Rattle.grin_driver.proofs.list.listed.Goals as goal

pub stage-requires : goal.stage-requires
stage-requires c = accepted_is_valid _ _ _ c.in_ok-accepted.ensures.accepted.accepted

pub returns-in-Err-clause-unlisted : goal.returns-in-Err-clause-unlisted
returns-in-Err-clause-unlisted c = c.no_stages_status.ensures _ _ _ _
    c.in_ok-accepted.ensures.accepted.accepted c.in-Err.ensures.refused
