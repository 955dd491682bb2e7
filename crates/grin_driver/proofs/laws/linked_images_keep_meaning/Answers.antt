use Rattle.grin_driver.proofs.WrittenRuns.{linked_images}
use Rattle.grin_driver.proofs.laws.linked_images_keep_meaning.Goals as goal

pub returns : goal.returns
returns c =
    linked_images c.canonical_text_keeps_meaning.ensures c.normal_form_exists.ensures
    c.single_module_keeps_meaning.ensures
