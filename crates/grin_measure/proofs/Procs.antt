-- What the loops over procedures have counted so far.
use Rattle.std.proofs.Common.{◌≡◌, ℕ, zero, suc, ◌+◌, ◌-◌, ◌*◌, ◌^◌, ◌<◌, ◌≤◌, max, List, [], ◌∷◌, ◌++◌, map, take, drop, length, get_or, refl, sym, ap, ◌∙◌, subst, arith}
use Rattle.std.proofs.lemmas.List.{take_all}
use Rattle.seq.proofs.Lists.{take_next, map_push}
use Rattle.grin_syntax.specs.declared.program.Proc.{Proc}
use Rattle.grin_syntax.specs.declared.program.Grin.{Grin}
use Rattle.grin_syntax.specs.Tree.{Procedure, procedure_of, program_of}
use Rattle.grin_syntax.specs.Formed.{AllOf}
use Rattle.grin_meaning.specs.Slim.{Slim, code_weight, code_calls, code_words, procs_weight, procs_calls, procedure_words}
use Rattle.inline_theory.specs.Size.{code_size, procedure_size, total, largest}
use Rattle.grin_measure.specs.declared.counts.Counts.{Counts}
use Rattle.grin_measure.specs.declared.measure.Sizes.{Sizes}
use Rattle.grin_measure.specs.Counts.{counts, sum, of_code, of_procedure, of_procs}
use Rattle.grin_measure.specs.Within.{HasSizes, Within}
use Rattle.grin_measure.proofs.Sums.{sums_are}
use Rattle.inline_theory.specs.Expanded.{saturated_at_64_bits}

abbrev trees : List Proc → List Procedure
trees qs = map procedure_of qs

pub procedure_counted : (q : Procedure) → of_procedure q ≡ counts
    (length q.params + code_weight q.body) (code_calls q.body) (procedure_words q)
    (procedure_size q)
unfolding of_code
procedure_counted q =
    let n = length q.params in
    sym (sums_are n 0 n n (code_weight q.body) (code_calls q.body) (code_words q.body)
    (code_size q.body)
    (n + code_weight q.body) (code_calls q.body) (procedure_words q) (procedure_size q)
    (omega arith) (omega arith) (omega arith) (omega arith))

push_weight : (qs : List Procedure) (q : Procedure)
    → procs_weight (qs ++ q ∷ []) ≡ procs_weight qs + (length q.params + code_weight q.body)
push_weight [] q = omega arith
push_weight (p ∷ qs) q = let h = push_weight qs q in omega arith

push_calls : (qs : List Procedure) (q : Procedure) → procs_calls (qs ++ q ∷ []) ≡ procs_calls qs +
    code_calls q.body
push_calls [] q = omega arith
push_calls (p ∷ qs) q = let h = push_calls qs q in omega arith

push_total : (f : Procedure → ℕ) (qs : List Procedure) (q : Procedure)
    → total f (qs ++ q ∷ []) ≡ total f qs + f q
push_total f [] q = omega arith
push_total f (p ∷ qs) q = let h = push_total f qs q in omega arith

push_largest : (f : Procedure → ℕ) (qs : List Procedure) (q : Procedure)
    → largest f (qs ++ q ∷ []) ≡ max (largest f qs) (f q)
push_largest f [] q = omega arith
push_largest f (p ∷ qs) q = let h = push_largest f qs q in omega arith

pub procs_push : (qs : List Procedure) (q : Procedure)
    → of_procs (qs ++ q ∷ []) ≡ sum (of_procs qs) (of_procedure q)
procs_push qs q =
    let all = qs ++ q ∷ [] in
    sums_are (procs_weight qs) (procs_calls qs) (total procedure_words qs) (total procedure_size qs)
    (length q.params + code_weight q.body) (code_calls q.body) (procedure_words q)
    (procedure_size q)
    (procs_weight all) (procs_calls all) (total procedure_words all) (total procedure_size all)
    (push_weight qs q) (push_calls qs q) (push_total procedure_words qs q)
    (push_total procedure_size qs q)
    ∙ ap (sum (of_procs qs)) (sym (procedure_counted q))

next_tree : (qs : List Proc) (i : ℕ) (q : Proc) → i < length qs → q ≡ get_or qs i q
    → trees (take (i + 1) qs) ≡ trees (take i qs) ++ procedure_of q ∷ []
next_tree qs i q lt is = ap trees (take_next qs i q lt is) ∙ map_push procedure_of (take i qs) q

pub procs_next : (qs : List Proc) (i : ℕ) (q : Proc) → i < length qs → q ≡ get_or qs i q
    → of_procs (trees (take (i + 1) qs)) ≡ sum (of_procs (trees (take i qs)))
    (of_procedure (procedure_of q))
procs_next qs i q lt is = ap of_procs (next_tree qs i q lt is) ∙ procs_push (trees (take i qs))
    (procedure_of q)

pub largest_next : (qs : List Proc) (i : ℕ) (q : Proc) → i < length qs → q ≡ get_or qs i q
    → largest procedure_size (trees (take (i + 1) qs)) ≡ max
    (largest procedure_size (trees (take i qs))) (procedure_size (procedure_of q))
largest_next qs i q lt is = ap (largest procedure_size) (next_tree qs i q lt is) ∙ push_largest
    procedure_size (trees (take i qs)) (procedure_of q)

-- what was measured of procedures
pub record MeasuredSoFar (qs : List Procedure) (n : Counts) (most : ℕ) : Type 0 where
  pub counted : n ≡ of_procs qs
  pub largest : most ≡ saturated_at_64_bits (largest procedure_size qs)

pub nothing_measured : MeasuredSoFar [] (counts 0 0 0 0) 0
nothing_measured = record { counted = refl; largest = refl }

pub size_counted : (q : Procedure) → (of_procedure q).size ≡ saturated_at_64_bits (procedure_size q)
unfolding counts
size_counted q = ap (λ n. n.size) (procedure_counted q)

pub measured_next : (qs : List Proc) (i : ℕ) (q : Proc) (n own : Counts) (most : ℕ) → i < length qs
    → q ≡ get_or qs i q → own ≡ of_procedure (procedure_of q)
    → MeasuredSoFar (trees (take i qs)) n most → MeasuredSoFar (trees (take (i + 1) qs)) (sum n own)
    (max own.size most)
measured_next qs i q n own most lt is e so = record {
  counted = (λ j. sum (so.counted j) (e j)) ∙ sym (procs_next qs i q lt is);
  largest =
      let a = so.largest in
      let b : own.size ≡ saturated_at_64_bits (procedure_size (procedure_of q))
      = ap (λ n. n.size) e ∙ size_counted (procedure_of q) in
      let c = largest_next qs i q lt is in
      omega (arith, a, b, c);
}

pub all_measured : (g : Grin) (qs : List Proc) → qs ≡ g.procs → (i : ℕ) (n : Counts) (most : ℕ)
    → length qs ≤ i → MeasuredSoFar (trees (take i qs)) n most
    → HasSizes (program_of g) (record { program = n.size; largest = most })
unfolding counts
all_measured g qs is i n most le so =
    let all : take i qs ≡ g.procs = take_all i qs le ∙ is in
    record {
      program = ap (λ n. n.size) so.counted ∙ ap
          (λ qs. saturated_at_64_bits (total procedure_size (trees qs))) all;
      largest = so.largest ∙ ap (λ qs. saturated_at_64_bits (largest procedure_size (trees qs)))
          all;
    }

-- ---- against the bounds of a slim program

all_push : (P : Procedure → Type 0) (qs : List Procedure) (q : Procedure) → AllOf P qs → P q
    → AllOf P (qs ++ q ∷ [])
all_push P [] q all here = (here, tt)
all_push P (p ∷ qs) q all here = (all.0, all_push P qs q all.1 here)

all_at : (P : Procedure → Type 0) (qs more : List Procedure) (q : Procedure)
    → AllOf P (qs ++ q ∷ more) → P q
all_at P [] more q all = all.0
all_at P (p ∷ qs) more q all = all_at P qs more q all.1

weight_begins : (qs more : List Procedure) → procs_weight qs ≤ procs_weight (qs ++ more)
weight_begins [] more = omega arith
weight_begins (q ∷ qs) more = let h = weight_begins qs more in omega (arith, h)

calls_begin : (qs more : List Procedure) → procs_calls qs ≤ procs_calls (qs ++ more)
calls_begin [] more = omega arith
calls_begin (q ∷ qs) more = let h = calls_begin qs more in omega (arith, h)

-- procedures that are slim so far, and what was counted of them
pub record SlimSoFar (s : Sizes) (qs : List Procedure) (n : Counts) : Type 0 where
  pub counted : n ≡ of_procs qs
  pub weight : procs_weight qs ≤ 48 * s.program
  pub calls : procs_calls qs ≤ s.program
  pub words : AllOf (λ q. procedure_words q ≤ 20 * s.largest) qs

pub none_yet : (s : Sizes) → SlimSoFar s [] (counts 0 0 0 0)
none_yet s = record { counted = refl; weight = omega arith; calls = omega arith; words = tt }

-- what is counted, where it is below the largest number
pub uncapped : (n bound : ℕ) → saturated_at_64_bits n ≤ bound → bound < 2 ^ 64 - 1 → n ≤ bound
uncapped n bound le lt = omega (arith, le, lt)

weight_counted : (qs : List Procedure) → (of_procs qs).weight ≡ saturated_at_64_bits
    (procs_weight qs)
unfolding counts
weight_counted qs = refl

calls_counted : (qs : List Procedure) → (of_procs qs).calls ≡ saturated_at_64_bits (procs_calls qs)
unfolding counts
calls_counted qs = refl

words_counted : (q : Procedure) → (of_procedure q).words ≡ saturated_at_64_bits (procedure_words q)
unfolding counts
words_counted q = ap (λ n. n.words) (procedure_counted q)

module _ (s : Sizes) (few : s.program ≤ 131072) (few_most : s.largest ≤ 131072) (qs : List Proc)
    (i : ℕ) (q : Proc) (n own : Counts)
    (lt : i < length qs) (is : q ≡ get_or qs i q) (e : own ≡ of_procedure (procedure_of q))
    (so : SlimSoFar s (trees (take i qs)) n) where
  counted : sum n own ≡ of_procs (trees (take (i + 1) qs))
  counted = (λ j. sum (so.counted j) (e j)) ∙ sym (procs_next qs i q lt is)

  weight_is : (sum n own).weight ≡ saturated_at_64_bits (procs_weight (trees (take (i + 1) qs)))
  weight_is = ap (λ n. n.weight) counted ∙ weight_counted (trees (take (i + 1) qs))

  calls_are : (sum n own).calls ≡ saturated_at_64_bits (procs_calls (trees (take (i + 1) qs)))
  calls_are = ap (λ n. n.calls) counted ∙ calls_counted (trees (take (i + 1) qs))

  words_are : own.words ≡ saturated_at_64_bits (procedure_words (procedure_of q))
  words_are = ap (λ n. n.words) e ∙ words_counted (procedure_of q)

  pub slim_next : Within (sum n own) own s → SlimSoFar s (trees (take (i + 1) qs)) (sum n own)
  slim_next within = record {
    counted = counted;
    weight = uncapped _ (48 * s.program) (subst (λ w. w ≤ 48 * s.program) weight_is within.weight)
        (omega (arith, few));
    calls = uncapped _ s.program (subst (λ w. w ≤ s.program) calls_are within.calls)
        (omega (arith, few));
    words =
        let fits : procedure_words (procedure_of q) ≤ 20 * s.largest =
        uncapped _ (20 * s.largest) (subst (λ w. w ≤ 20 * s.largest) words_are within.words)
        (omega (arith, few_most)) in
        subst (AllOf (λ q. procedure_words q ≤ 20 * s.largest)) (sym (next_tree qs i q lt is))
        (all_push _ (trees (take i qs)) (procedure_of q) so.words fits);
  }

  rest : trees qs ≡ trees (take (i + 1) qs) ++ trees (drop (i + 1) qs)
  rest = split qs (i + 1)
    where
      split : (qs : List Proc) (k : ℕ) → trees qs ≡ trees (take k qs) ++ trees (drop k qs)
      split [] zero = refl
      split [] (suc k) = refl
      split (q ∷ qs) zero = refl
      split (q ∷ qs) (suc k) = ap (λ l. procedure_of q ∷ l) (split qs k)

  pub slim_within : (g : Grin) → g.procs ≡ qs → Slim s.program s.largest (program_of g)
      → Within (sum n own) own s
  slim_within g same slim = record {
    weight =
        let a : procs_weight (trees qs) ≤ 48 * s.program
        = subst (λ l. procs_weight (trees l) ≤ 48 * s.program) same slim.light in
        let b : procs_weight (trees (take (i + 1) qs)) ≤ procs_weight (trees qs)
        = subst (λ l. procs_weight (trees (take (i + 1) qs)) ≤ procs_weight l) (sym rest)
        (weight_begins (trees (take (i + 1) qs)) (trees (drop (i + 1) qs))) in
        let c = weight_is in omega (arith, a, b, c);
    calls =
        let a : procs_calls (trees qs) ≤ s.program = subst (λ l. procs_calls (trees l) ≤ s.program)
        same slim.few_calls in
        let b : procs_calls (trees (take (i + 1) qs)) ≤ procs_calls (trees qs)
        = subst (λ l. procs_calls (trees (take (i + 1) qs)) ≤ procs_calls l) (sym rest)
        (calls_begin (trees (take (i + 1) qs)) (trees (drop (i + 1) qs))) in
        let c = calls_are in omega (arith, a, b, c);
    words =
        let all : AllOf (λ q. procedure_words q ≤ 20 * s.largest) (trees qs)
        = subst (λ l. AllOf (λ q. procedure_words q ≤ 20 * s.largest) (trees l)) same
        slim.few_words in
        let here = all_at (λ q. procedure_words q ≤ 20 * s.largest) (trees (take i qs))
        (trees (drop (i + 1) qs)) (procedure_of q)
        (subst (AllOf (λ q. procedure_words q ≤ 20 * s.largest))
        (rest ∙ ap (λ l. l ++ trees (drop (i + 1) qs)) (next_tree qs i q lt is) ∙ append_one
        (trees (take i qs)) (procedure_of q) (trees (drop (i + 1) qs))) all) in
        let c = words_are in omega (arith, here, c);
  }
    where
      append_one : (as' : List Procedure) (a : Procedure) (bs : List Procedure) → (as' ++ a ∷ [])
          ++ bs ≡ as' ++ a ∷ bs
      append_one [] a bs = refl
      append_one (b ∷ as') a bs = ap (λ l. b ∷ l) (append_one as' a bs)

pub all_slim : (s : Sizes) (g : Grin) (qs : List Proc) → qs ≡ g.procs → (i : ℕ) (n : Counts)
    → length qs ≤ i → SlimSoFar s (trees (take i qs)) n → Slim s.program s.largest (program_of g)
all_slim s g qs is i n le so =
    let all : take i qs ≡ g.procs = take_all i qs le ∙ is in
    record {
      light = subst (λ l. procs_weight (trees l) ≤ 48 * s.program) all so.weight;
      few_calls = subst (λ l. procs_calls (trees l) ≤ s.program) all so.calls;
      few_words = subst (λ l. AllOf (λ q. procedure_words q ≤ 20 * s.largest) (trees l)) all
          so.words;
    }
