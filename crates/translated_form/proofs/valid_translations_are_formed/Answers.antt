use Rattle.translated_form.proofs.TranslationFormed.{valid_is_formed, valid_is_started}
use Rattle.translated_form.proofs.valid_translations_are_formed.Goals as goal

pub returns : goal.returns
returns c = record {
  formed = valid_is_formed c.new_bindings_are_numbered.ensures;
  started
      = valid_is_started c.new_bindings_are_numbered.ensures;
}
