-- The size of an inlined program is a number of 64 bits.
use Rattle.std.proofs.Common.{◌≡◌, ◌≤◌, ℕ, zero, suc, ◌+◌, ◌*◌, List, [], ◌∷◌, ◌++◌, map, length, length-append, refl, arith}
use Rattle.std.proofs.lemmas.List.{length-map}
use Rattle.seq.proofs.Order.{not_below, more_times}
use Rattle.core_reader.specs.Size.{program_size}
use Rattle.arity_check.specs.Broken.{CoreTooLarge}
use Rattle.arity_check.specs.Program.{Program, Function}
use Rattle.grin_syntax.specs.Formed.{AllOf}
use Rattle.grin_meaning.specs.Ready.{most_fields}
use Rattle.inline_theory.specs.Size.{size}
use Rattle.grin_translate.specs.declared.tags.Kind.TheVariants.{Constructor, Waits}
use Rattle.grin_translate.specs.declared.tags.Delay.TheVariants.{Calls}
use Rattle.grin_translate.specs.Tags.{delays, kinds, parts, function_parts, tag_of}
use Rattle.grin_translate.specs.Translation.{tr}
use Rattle.translated_form.proofs.Limits.{Limited, valid_is_limited}
use Rattle.translated_form.proofs.Bounds.{valid_few_words}
use Rattle.inlined_form.specs.Laws.{InlinedSizesFit}
use Rattle.inlined_form.proofs.Growth.{growth, inlined_grows}
use Rattle.inlined_form.proofs.ProgramSizes.{others, few_others, translated_size}
use Rattle.seq.specs.Lists.{numbers_from}
use Rattle.seq.proofs.Counted.{length_numbers}

parts_of_length : (f n : ℕ) → length (function_parts f n) ≡ n
parts_of_length f zero = refl
parts_of_length f (suc n) = omega (arith, parts_of_length f n)

parts_length : (gs : List Function) (f : ℕ) → AllOf (λ g. g.params ≤ 12) gs
    → length (parts gs f) ≤ 12 * length gs
parts_length [] f h = omega arith
parts_length (g ∷ gs) f h = omega (
  arith,
  length-append (function_parts f g.params) (parts gs (suc f)),
  parts_of_length f g.params,
  parts_length gs (suc f) h.1,
  h.0,
)

module _ (q : Program) where
  delays_length : length (delays q) ≤ length q.funs + 21
  unfolding delays
  delays_length = omega (
    arith,
    length-append (map Calls (numbers_from 0 (length q.funs))) (others q),
    length-map (numbers_from 0 (length q.funs)) Calls,
    length_numbers 0 (length q.funs),
    few_others q,
  )

  tags_length : AllOf (λ g. g.params ≤ 12) q.funs → length (tr q).tags ≤ 22 + length q.cons + 13 *
      length q.funs
  unfolding kinds
  tags_length h = omega (
    arith,
    length-map (kinds q) (tag_of q),
    length-append (map Constructor (numbers_from 0 (length q.cons)))
        (map Waits (delays q) ++ parts q.funs 0),
    length-map (numbers_from 0 (length q.cons)) Constructor,
    length_numbers 0 (length q.cons),
    length-append (map Waits (delays q)) (parts q.funs 0),
    length-map (delays q) Waits,
    delays_length,
    parts_length q.funs 0 h,
  )

-- At most 4,096 functions of 12 parameters and 1,024 constructors make at most 54,294 tags, of 13
-- fields each; so each inlining makes the
-- program larger by a factor of 1,791,707 at most. A text of size 16,384 makes a translation of
-- size 395,416 at most.
pub sizes_fit : InlinedSizesFit
sizes_fit q valid A =
    let t = valid.program in
    let limited : Limited q = valid_is_limited q valid in
    let text : program_size t ≤ 16384 = not_below 16384 (program_size t)
    (λ lt. valid.unbroken 35 _ (CoreTooLarge lt)) in
    let ts = (tr q).tags in
    let g : ℕ = growth ts in
    let s : ℕ = size (tr q) in
    let tags : length ts ≤ 54294 = omega
    (arith, tags_length q limited.few_params, limited.few_functions, limited.few_constructors)
    in
    let factor : g ≤ 1791707 = omega (
      arith,
      more_times (length ts) 54294 (2 * most_fields ts + 7) tags,
      (valid_few_words q valid).few_fields,
    ) in
    let small : s ≤ 395416 = omega
    (arith, translated_size q t valid.normal.funs valid.readable.functions, text) in
    omega (
      arith,
      inlined_grows (tr q) A,
      more_times g 1791707 (g * s) factor,
      more_times g 1791707 s factor,
      small,
    )
