-- The translation of a valid program has few words: at most 13 parameters and fields, and at most
-- 12 fields of a value.
use Rattle.std.proofs.Common.{◌≡◌, ℕ, zero, suc, ◌+◌, ◌≤◌, List, [], ◌∷◌, map, length, codes, Option, Some, None, slice_get, refl, ◌∙◌, arith}
use Rattle.std.proofs.lemmas.List.{length-map}
use Rattle.seq.proofs.Lists.{all_get, all_append}
use Rattle.arity_check.specs.declared.normal.Con as arity
use Rattle.arity_check.specs.Accepted.{IsValid}
use Rattle.arity_check.specs.Program.{Program, Function}
use Rattle.core_meaning.specs.Evaluation.{params, params_of}
use Rattle.grin_syntax.specs.declared.program.Tag.{Tag}
use Rattle.grin_syntax.specs.Tree.{Procedure, Code}
use Rattle.grin_syntax.specs.Formed.{AllOf}
use Rattle.grin_meaning.specs.Ready.{most_fields, value_fields, most_value_fields}
use Rattle.grin_translate.specs.declared.tags.Delay.{Delay}
use Rattle.grin_translate.specs.declared.tags.Delay.TheVariants.{Calls, Applies, Operates, Reads}
use Rattle.grin_translate.specs.declared.tags.Kind.{Kind}
use Rattle.grin_translate.specs.declared.tags.Kind.TheVariants.{Constructor, Waits, Lacks}
use Rattle.grin_translate.specs.Tags.{takes_input, delays, kinds, parts, function_parts, tag_of, con_tag, delay_name, delay_params}
use Rattle.grin_translate.specs.Translation.{procedure, delay_body, span, delayed_procs, rest, print_body, start_body, tr}
use Rattle.grin_translate.proofs.Places.{all_map}
use Rattle.translated_form.specs.Laws.{HasFewWords}
use Rattle.translated_form.proofs.Lists.{all_if, all_mapped, all_weaker}
use Rattle.translated_form.proofs.Delays.{IsThere, all_there}
use Rattle.translated_form.proofs.Limits.{Limited, valid_is_limited}
use Rattle.seq.specs.Lists.{numbers_from}
use Rattle.seq.proofs.Counted.{length_numbers}

-- the fields of a tag, and those of a value
pub record IsNarrow (t : Tag) : Type 0 where
  pub few : t.fields ≤ 13
  pub few_of_value : value_fields t.kind t.fields ≤ 12

most_of : (ts : List Tag) → AllOf IsNarrow ts → most_fields ts ≤ 13
most_of [] a = omega arith
most_of (t ∷ ts) a = let h = a.0.few in let r = most_of ts a.1 in omega (arith, h, r)

most_value_of : (ts : List Tag) → AllOf IsNarrow ts → most_value_fields ts ≤ 12
most_value_of [] a = omega arith
most_value_of (t ∷ ts) a = let h = a.0.few_of_value in let r = most_value_of ts a.1
    in omega (arith, h, r)

module _ (p : Program) (limited : Limited p) where
  few_params_of : (o : Option Function) → (((f : Function) → o ≡ Some f → f.params ≤ 12))
      → params_of p o ≤ 12
  few_params_of None h = omega arith
  few_params_of (Some f) h = h f refl

  pub few_params : (f : ℕ) → params p f ≤ 12
  few_params f = few_params_of (slice_get p.funs f)
      (λ g e. all_get (λ g. g.params ≤ 12) p.funs f g limited.few_params e)

  pub few_delay_params : (d : Delay) → IsThere p d → delay_params p d ≤ 13
  few_delay_params (Calls f) h = let l = few_params f in omega (arith, l)
  few_delay_params (Applies m) h = omega (arith, h)
  few_delay_params (Operates op) h = omega arith
  few_delay_params Reads h = omega arith

  -- ---- tags

  con_narrow : (o : Option arity.Con) → ((c : arity.Con) → o ≡ Some c → c.fields ≤ 12)
      → IsNarrow (con_tag o)
  con_narrow None h = record { few = omega arith; few_of_value = omega arith }
  con_narrow (Some c) h = let l = h c refl in record { few = omega (arith, l); few_of_value = l }

  abbrev NarrowTag : Kind → Type 0
  NarrowTag k = IsNarrow (tag_of p k)

  constructor_narrow : (c : ℕ) → NarrowTag (Constructor c)
  constructor_narrow c = con_narrow (slice_get p.cons c)
      (λ con e. all_get (λ c. c.fields ≤ 12) p.cons c con limited.few_fields e)

  waits_narrow : (d : Delay) → IsThere p d → NarrowTag (Waits d)
  waits_narrow d there = record { few = few_delay_params d there; few_of_value = omega arith }

  lacks_narrow : (f r : ℕ) → NarrowTag (Lacks f r)
  lacks_narrow f r = let l = few_params f in record
      { few = omega (arith, l); few_of_value = omega (arith, l) }

  narrow_parts_of : (f n : ℕ) → AllOf NarrowTag (function_parts f n)
  narrow_parts_of f zero = tt
  narrow_parts_of f (suc n) = (lacks_narrow f (suc n), narrow_parts_of f n)

  narrow_parts : (gs : List Function) (f : ℕ) → AllOf NarrowTag (parts gs f)
  narrow_parts [] f = tt
  narrow_parts (g ∷ gs) f = all_append NarrowTag (function_parts f g.params) _
      (narrow_parts_of f g.params) (narrow_parts gs (suc f))

  narrow_kinds : AllOf NarrowTag (kinds p)
  unfolding kinds
  narrow_kinds = (
    record { few = omega arith; few_of_value = omega arith },
    all_append NarrowTag (map Constructor (numbers_from 0 (length p.cons))) _
        (all_map NarrowTag Constructor (numbers_from 0 (length p.cons)) constructor_narrow)
        (all_append NarrowTag (map Waits (delays p)) _
        (all_mapped NarrowTag Waits (delays p)
        (all_weaker (IsThere p) (λ d. NarrowTag (Waits d)) (delays p) waits_narrow
        (all_there p)))
        (narrow_parts p.funs 0)),
  )

  narrow_tags : AllOf IsNarrow (tr p).tags
  narrow_tags = all_mapped IsNarrow (tag_of p) (kinds p) narrow_kinds

  -- ---- procedures

  abbrev Short : Procedure → Type 0
  Short q = length q.params ≤ 13

  as_many_params : (base : ℕ) (name : List ℕ) (n : ℕ) (b : Code)
      → length (procedure p base name n b).params ≡ n
  as_many_params base name n b = length-map (numbers_from 0 n) _ ∙ length_numbers 0 n

  short : (base : ℕ) (name : List ℕ) (n : ℕ) (b : Code) → n ≤ 13 → Short (procedure p base name n b)
  short base name n b le = let e = as_many_params base name n b in omega (arith, e, le)

  short_delayed : (ds : List Delay) (base : ℕ) → AllOf (IsThere p) ds
      → AllOf Short (delayed_procs p base ds)
  short_delayed [] base a = tt
  short_delayed (d ∷ ds) base a = (
    short base (delay_name p d) (delay_params p d) (delay_body p base d)
        (few_delay_params d a.0),
    short_delayed ds (base + span p d) a.1,
  )

  short_procs : AllOf Short (tr p).procs
  short_procs =
      all_append Short (delayed_procs p (length p.funs) (delays p)) _
      (short_delayed (delays p) (length p.funs) (all_there p)) (
        short (rest p) (codes "@print") 1 (print_body p (rest p)) (omega arith),
        all_if Short (takes_input p)
            (procedure p (rest p + 10) (codes "@start") 0 (start_body p (rest p + 10)))
            (λ e. short (rest p + 10) (codes "@start") 0 (start_body p (rest p + 10))
            (omega arith)),
      )

  pub few_words : HasFewWords (tr p)
  few_words = record {
    few_params = short_procs;
    few_fields = most_of (tr p).tags narrow_tags;
    few_value_fields = let l = most_value_of (tr p).tags narrow_tags in omega (arith, l);
  }

-- the three facts, of each valid program
pub valid_few_words : (p : Program) → IsValid p → HasFewWords (tr p)
valid_few_words p valid = few_words p (valid_is_limited p valid)
