-- The program that equations become owes them what it should.
use Rattle.std.proofs.Common.{◌≡◌, sym, subst, IfOk, Result, Ok, Err}
use Rattle.core_reader.specs.Tree.{Program}
use Rattle.core_reader.specs.Readable as program-text
use Rattle.match_compile.specs.Source.{Source}
use Rattle.match_compile.specs.Readable.{IsReadable}
use Rattle.match_compile.specs.Premises.{BreakNoRule, IsCompilable}
use Rattle.match_compile.specs.NamesOf.{NewNamesFit}
use Rattle.match_compile.specs.Translated.{translated}
use Rattle.match_compile.specs.Translates.{Translates}
use Rattle.match_compile.proofs.InTable.{was_read}
use Rattle.match_compile.proofs.Breaks.{breaks_only_size}
use Rattle.match_compile.proofs.Meant.{means_its_equations}
use Rattle.match_compile.proofs.Single.{stays_one}
use Rattle.match_compile.proofs.Small.{is_small}
use Rattle.match_compile.proofs.Readably.{translated_readable}

pub translates : (c : Source) → IsReadable c → BreakNoRule c
    → program-text.IsReadable (translated c) → Translates c (translated c)
translates c readable unbroken out = record {
  rules = λ sound k at b. breaks_only_size c unbroken sound (was_read c readable) k at b;
  size = is_small c;
  means = λ p fine normal. means_its_equations c p readable unbroken out fine normal;
  one = λ before after es parts simple. stays_one c (was_read c readable) before after es parts
      simple;
}

-- ---- a program that is what equations become

pub both_follow : {T E : Type 0} (P Q R : T → Type 0) (r : Result T E) → ((t : T) → P t → Q t → R t)
    → IfOk r P → IfOk r Q → IfOk r R
both_follow P Q R (Ok t) f h g = f t h g
both_follow P Q R (Err e) f h g = tt

module _ (c : Source) (fine : IsCompilable c) (few : NewNamesFit c) (p : Program)
    (is : p ≡ translated c) where
  readable_out : program-text.IsReadable (translated c)
  readable_out = translated_readable c few fine.readable fine.no_new_name fine.unbroken

  pub is_readable : program-text.IsReadable p
  is_readable = subst program-text.IsReadable (sym is) readable_out

  pub is_translation : Translates c p
  is_translation = subst (Translates c) (sym is)
      (translates c fine.readable fine.unbroken readable_out)
