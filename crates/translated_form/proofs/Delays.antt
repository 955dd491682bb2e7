-- What stands among the delayed forms of a program.
use Rattle.std.proofs.Common.{◌≡◌, ◌<◌, true, ◌++◌, map, filter, length, Some, slice_get, arith}
use Rattle.seq.proofs.Lists.{all_filter, some_at, all_append}
use Rattle.arity_check.specs.Program.{Program, Function}
use Rattle.grin_syntax.specs.Formed.{AllOf}
use Rattle.grin_translate.specs.declared.tags.Delay.{Delay}
use Rattle.grin_translate.specs.declared.tags.Delay.TheVariants.{Calls, Applies, Operates, Reads}
use Rattle.grin_translate.specs.Tags.{operations, is_delayed, takes_input, delays}
use Rattle.grin_translate.proofs.Places.{all_map}
use Rattle.translated_form.proofs.Lists.{all_if, all_numbers, all_mapped}
use Rattle.seq.specs.Lists.{numbers_from}

module _ (p : Program) where
  -- a call of a function, an application to at most 12 arguments, an operation, or the input where
  -- it is taken
  abbrev pub IsThere : Delay → Type 0
  IsThere (Calls f) = (fun : Function) × (slice_get p.funs f ≡ Some fun)
  IsThere (Applies m) = m < 13
  IsThere (Operates op) = Unit {0}
  IsThere Reads = takes_input p ≡ true

  pub all_there : AllOf IsThere (delays p)
  unfolding delays
  all_there =
      all_append IsThere (map Calls (numbers_from 0 (length p.funs))) _
      (all_mapped IsThere Calls (numbers_from 0 (length p.funs))
      (all_numbers (λ f. IsThere (Calls f)) (length p.funs) 0
      (λ f le lt. some_at p.funs f (omega (arith, lt)))))
      (all_append IsThere
      (filter (is_delayed p) (map Applies (numbers_from 0 13) ++ map Operates operations)) _
      (all_filter IsThere (is_delayed p)
      (map Applies (numbers_from 0 13) ++ map Operates operations)
      (all_append IsThere (map Applies (numbers_from 0 13)) (map Operates operations)
      (all_mapped IsThere Applies (numbers_from 0 13)
      (all_numbers (λ m. m < 13) 13 0 (λ m le lt. lt)))
      (all_map IsThere Operates operations (λ op. tt))))
      (all_if IsThere (takes_input p) Reads (λ e. e)))
