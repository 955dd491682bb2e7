-- How large the translation of a program is, by the size of its text.
use Rattle.std.proofs.Common.{◌≡◌, ◌<◌, ℕ, suc, ◌≤◌, ◌+◌, ◌*◌, Bool, true, false, cond, List, [], ◌∷◌, ◌++◌, map, filter, length, codes, Option, Some, slice_get, ap, ◌∙◌, arith, length-append}
use Rattle.std.specs.Prelude.{All, sum_by}
use Rattle.std.proofs.lemmas.List.{length-map}
use Rattle.std.proofs.lemmas.List.Elements.{All-head, All-tail}
use Rattle.std.proofs.lemmas.List.Sums.{sum_by-cons, length-filter, count_by-le-length}
use Rattle.seq.proofs.Lists.{all_filter, all_append}
use Rattle.core_reader.specs.Tree as tree
use Rattle.core_reader.specs.Size.{function_size}
use Rattle.core_reader.specs.Readable.{ReadableFunction}
use Rattle.arity_check.specs.declared.normal.Flat.TheVariants as flat
use Rattle.arity_check.specs.declared.normal.Var.TheVariants as var
use Rattle.arity_check.specs.Normal.{Pairwise, IsFunction}
use Rattle.arity_check.specs.Program.{Program, Function}
use Rattle.core_meaning.specs.Evaluation.{params_of}
use Rattle.grin_syntax.specs.Tree.{Code, Procedure}
use Rattle.grin_syntax.specs.Formed.{AllOf}
use Rattle.inline_theory.specs.Size.{act_size, code_size, procedure_size, total, size}
use Rattle.grin_translate.specs.declared.tags.Delay.{Delay}
use Rattle.grin_translate.specs.declared.tags.Delay.TheVariants.{Calls, Applies, Operates, Reads}
use Rattle.grin_translate.specs.Tags.{operations, is_delayed, takes_input, delays, delay_name, delay_params}
use Rattle.grin_translate.specs.Translation.{procedure, fun_body, delay_body, input_body, print_body, start_body, span, delayed_procs, rest, print_procs, tr}
use Rattle.grin_translate.proofs.Places.{all_map}
use Rattle.translated_form.proofs.Lists.{all_if, all_numbers, all_mapped}
use Rattle.inlined_form.proofs.BlockSizes.{form_size, block_size}
use Rattle.seq.specs.Lists.{numbers_from}
use Rattle.seq.proofs.Counted.{length_numbers}

total_append : (qs rs : List Procedure) → total procedure_size (qs ++ rs) ≡ total procedure_size qs
    + total procedure_size rs
total_append [] rs = omega arith
total_append (q ∷ qs) rs = omega (arith, total_append qs rs)

-- not a call, and an application to at most 12 arguments
abbrev IsOther : Delay → Type 0
IsOther (Calls f) = ⊥
IsOther (Applies m) = m < 13
IsOther (Operates op) = Unit {0}
IsOther Reads = Unit {0}

module _ (q : Program) where
  procedure_is : (base : ℕ) (name : List ℕ) (n : ℕ) (b : Code)
      → procedure_size (procedure q base name n b) ≡ n + code_size b
  procedure_is base name n b = ap (λ k. k + code_size b)
      (length-map (numbers_from 0 n) _ ∙ length_numbers 0 n)

  input_size : (base : ℕ) → code_size (input_body q base) ≤ 30
  unfolding act_size
  input_size base = omega arith

  print_size : (base : ℕ) → code_size (print_body q base) ≤ 30
  unfolding act_size
  print_size base = omega arith

  start_size : (base : ℕ) → code_size (start_body q base) ≤ 30
  unfolding act_size
  start_size base = omega arith

  other_size : (d : Delay) (base : ℕ) → IsOther d → delay_params q d + code_size
      (delay_body q base d) ≤ 100
  other_size (Calls f) base h = absurd h
  other_size (Applies m) base h = omega (
    arith,
    form_size q base 0 (flat.Apply (var.Local 0) (map var.Local (numbers_from 1 m))),
    length-map (numbers_from 1 m) var.Local,
    length_numbers 1 m,
    h,
  )
  other_size (Operates op) base h = omega
      (arith, form_size q base 0 (flat.Prim op (var.Local 0) (var.Local 1)))
  other_size Reads base h = omega (arith, input_size base)

  others_size : (ds : List Delay) (base : ℕ) → AllOf IsOther ds
      → total procedure_size (delayed_procs q base ds) ≤ 100 * length ds
  others_size [] base h = omega arith
  others_size (d ∷ ds) base h = omega (
    arith,
    procedure_is base (delay_name q d) (delay_params q d) (delay_body q base d),
    other_size d base h.0,
    others_size ds (base + span q d) h.1,
  )

  last_size : total procedure_size (print_procs q) ≤ 100
  last_size = on (takes_input q)
    where
      b : ℕ
      b = rest q

      on : (c : Bool) → total procedure_size
          (procedure q b (codes "@print") 1 (print_body q b) ∷ cond c
          (procedure q (b + 10) (codes "@start") 0 (start_body q (b + 10)) ∷ []) []) ≤ 100
      on true = omega (
        arith,
        procedure_is b (codes "@print") 1 (print_body q b),
        print_size b,
        procedure_is (b + 10) (codes "@start") 0 (start_body q (b + 10)),
        start_size (b + 10),
      )
      on false = omega (arith, procedure_is b (codes "@print") 1 (print_body q b), print_size b)

  abbrev pub others : List Delay
  others = filter (is_delayed q) (map Applies (numbers_from 0 13) ++ map Operates operations)
      ++ cond (takes_input q) (Reads ∷ []) []

  are_others : AllOf IsOther others
  are_others = all_append IsOther
      (filter (is_delayed q) (map Applies (numbers_from 0 13) ++ map Operates operations)) _
      (all_filter IsOther (is_delayed q)
      (map Applies (numbers_from 0 13) ++ map Operates operations)
      (all_append IsOther (map Applies (numbers_from 0 13)) (map Operates operations)
      (all_mapped IsOther Applies (numbers_from 0 13)
      (all_numbers (λ m. m < 13) 13 0 (λ m le lt. lt)))
      (all_map IsOther Operates operations (λ op. tt))))
      (all_if IsOther (takes_input q) Reads (λ e. tt))

  pub few_others : length others ≤ 21
  few_others = on (takes_input q)
    where
      all : List Delay
      all = map Applies (numbers_from 0 13) ++ map Operates operations

      some : List Delay
      some = filter (is_delayed q) all

      on : (b : Bool) → length (some ++ cond b (Reads ∷ []) []) ≤ 21
      on true = omega (
        arith,
        length-append some (Reads ∷ []),
        length-filter (is_delayed q) all,
        count_by-le-length (is_delayed q) all,
      )
      on false = omega (
        arith,
        length-append some [],
        length-filter (is_delayed q) all,
        count_by-le-length (is_delayed q) all,
      )

  module _ (p : tree.Program) where
    function_fits : (f : tree.Function) (g : Function) → IsFunction p f g
        → ReadableFunction p.names f → (o : Option Function) → o ≡ Some g → (base : ℕ)
        → params_of q o + code_size (fun_body q base o) ≤ 24 * function_size f
    function_fits f g is r o e base = rw e
        (omega (arith, is.params, block_size q base p is.body r.2 0))

    calls_size : (fs : List tree.Function) (gs : List Function) (k base : ℕ) (ds : List Delay)
        (c : ℕ) → Pairwise (IsFunction p) fs gs → All (ReadableFunction p.names) fs
        → ((i : ℕ) → slice_get q.funs (k + i) ≡ slice_get gs i)
        → ((base : ℕ) → total procedure_size (delayed_procs q base ds) ≤ c)
        → total procedure_size
        (delayed_procs q base (map Calls (numbers_from k (length gs)) ++ ds)) ≤ 24 * sum_by
        function_size fs + c
    calls_size [] [] k base ds c w r at h = omega (arith, h base)
    calls_size [] (g ∷ gs) k base ds c w r at h = absurd w
    calls_size (f ∷ fs) [] k base ds c w r at h = absurd w
    calls_size (f ∷ fs) (g ∷ gs) k base ds c w r at h =
        let here : slice_get q.funs k ≡ Some g = ap (slice_get q.funs) (omega arith) ∙ at 0 in
        let later = calls_size fs gs (suc k) (base + span q (Calls k)) ds c w.1
        (All-tail (ReadableFunction p.names) f fs r)
        (λ i. ap (slice_get q.funs) (omega arith) ∙ at (suc i)) h in
        omega (
          arith,
          procedure_is base (delay_name q (Calls k)) (delay_params q (Calls k))
              (delay_body q base (Calls k)),
          function_fits f g w.0
              (All-head (ReadableFunction p.names) f fs r) (slice_get q.funs k) here base,
          later,
          sum_by-cons function_size f fs,
        )

    pub translated_size : Pairwise (IsFunction p) p.functions q.funs
        → All (ReadableFunction p.names) p.functions
        → size (tr q) ≤ 24 * sum_by function_size p.functions + 2200
    unfolding delays
    translated_size w r = omega (
      arith,
      total_append (delayed_procs q (length q.funs) (delays q)) (print_procs q),
      last_size,
      calls_size p.functions q.funs 0 (length q.funs) others (100 * length others) w r
          (λ i. ap (slice_get q.funs) (omega arith)) (λ base. others_size others base are_others),
      few_others,
    )
