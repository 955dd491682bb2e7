use Rattle.grin_driver.proofs.WrittenRuns.{lifted_images}
use Rattle.grin_driver.proofs.laws.lifted_images_keep_meaning.Goals as goal

pub returns : goal.returns
returns c =
    lifted_images c.canonical_text_keeps_meaning.ensures c.normal_form_exists.ensures
    c.lifting_preserves_meaning.ensures
