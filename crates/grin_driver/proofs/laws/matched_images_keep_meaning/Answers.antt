use Rattle.grin_driver.proofs.WrittenRuns.{matched_images}
use Rattle.grin_driver.proofs.laws.matched_images_keep_meaning.Goals as goal

pub returns : goal.returns
returns c =
    matched_images c.canonical_text_keeps_meaning.ensures c.normal_form_exists.ensures
    c.translation_keeps_meaning.ensures
