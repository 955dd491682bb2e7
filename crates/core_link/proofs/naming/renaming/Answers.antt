use Rattle.std.proofs.Common.{List, ℕ, subst, ◌∙◌}
use Rattle.core_reader.specs.LexedOf.{texts_of}
use Rattle.core_link.specs.Renaming.{TextsAreAtNumbers}
use Rattle.core_link.proofs.Interned.{grows_twice, at_grows}
use Rattle.core_link.proofs.naming.renaming.Goals as goal

pub returns-clause-numbered : goal.returns-clause-numbered
returns-clause-numbered c =
    let new : List (List ℕ) = texts_of c.numbers-3.new.known.keys in
    record {
      local = subst (λ v. TextsAreAtNumbers new v c.in_ok-numbers.field-0.items)
          (c.as_slice.ensures.value ∙ c.requires.local)
          (at_grows (texts_of c.numbers.new.known.keys) new c.as_slice.result.now
          c.in_ok-numbers.field-0.items
          (grows_twice _ _ _ c.in_ok-numbers-2.ensures.grows c.in_ok-numbers-3.ensures.grows)
          c.in_ok-numbers.ensures.numbers);
      itself = subst (λ v. TextsAreAtNumbers new v c.in_ok-numbers-2.field-0.items) c.texts.ensures
          (at_grows (texts_of c.numbers-2.new.known.keys) new c.texts.result.now
          c.in_ok-numbers-2.field-0.items c.in_ok-numbers-3.ensures.grows
          c.in_ok-numbers-2.ensures.numbers);
      function = subst (λ v. TextsAreAtNumbers new v c.in_ok-numbers-3.field-0.items)
          (c.as_slice-2.ensures.value ∙ c.requires.function) c.in_ok-numbers-3.ensures.numbers;
    }
