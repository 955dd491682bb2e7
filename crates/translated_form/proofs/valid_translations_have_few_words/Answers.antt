use Rattle.translated_form.proofs.Bounds.{valid_few_words}
use Rattle.translated_form.proofs.valid_translations_have_few_words.Goals as goal

pub returns : goal.returns
returns c = valid_few_words
