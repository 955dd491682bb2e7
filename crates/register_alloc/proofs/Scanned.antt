-- The uses of operands and tests, one after another.
use Rattle.std.proofs.Common.{◌≡◌, ℕ, zero, suc, ◌+◌, ◌<◌, List, [], ◌∷◌, ◌++◌, take, length, Some, slice_get, get_or, length-append, sym, ap, ◌∙◌, arith}
use Rattle.std.proofs.lemmas.Option.{slice_get-get_or}
use Rattle.low_code.specs.declared.program.Operand.{Operand}
use Rattle.low_code.specs.declared.program.LowTest.{LowTest}
use Rattle.low_code.specs.Formed.{used_by, used_by_all, used_by_tests}
use Rattle.register_alloc.proofs.Walked.{nothing_more, grouped}

pub operands_next : (ops : List Operand) (i : ℕ) (a : Operand) → slice_get ops i ≡ Some a
    → used_by_all (take (suc i) ops) ≡ used_by_all (take i ops) ++ used_by a
operands_next [] i a e = cc
operands_next (x ∷ ops) zero a e = let q : x ≡ a = cc
    in ap (λ y. used_by y ++ []) q ∙ sym (nothing_more (used_by a))
operands_next (x ∷ ops) (suc i) a e = ap (λ l. used_by x ++ l) (operands_next ops i a e) ∙ grouped
    (used_by x) (used_by_all (take i ops)) (used_by a)

pub tests_next : (ts : List LowTest) (i : ℕ) (a : LowTest) → slice_get ts i ≡ Some a
    → used_by_tests (take (suc i) ts) ≡ used_by_tests (take i ts) ++ used_by a.left
tests_next [] i a e = cc
tests_next (x ∷ ts) zero a e = let q : x ≡ a = cc in ap (λ y. used_by y.left ++ []) q ∙ sym
    (nothing_more (used_by a.left))
tests_next (x ∷ ts) (suc i) a e = ap (λ l. used_by x.left ++ l) (tests_next ts i a e) ∙ grouped
    (used_by x.left) (used_by_tests (take i ts)) (used_by a.left)

pub operands_pushed : (ops : List Operand) (i : ℕ) (first old new : List ℕ) (d : Operand)
    → i < length ops → new ≡ old ++ used_by (get_or ops i d) → old ≡ first
    ++ used_by_all (take i ops)
    → new ≡ first ++ used_by_all (take (i + 1) ops)
operands_pushed ops i first old new d l e h =
    let n : suc i ≡ i + 1 = omega arith in
    e ∙ ap (λ o. o ++ used_by (get_or ops i d)) h ∙ sym
    (grouped first (used_by_all (take i ops)) (used_by (get_or ops i d)))
    ∙ ap (λ l. first ++ l)
    (sym (operands_next ops i (get_or ops i d) (slice_get-get_or ops i d l)) ∙ ap
    (λ k. used_by_all (take k ops)) n)

pub tests_pushed : (ts : List LowTest) (i : ℕ) (first old new : List ℕ) (d : LowTest)
    → i < length ts → new ≡ old ++ used_by (get_or ts i d).left → old ≡ first
    ++ used_by_tests (take i ts)
    → new ≡ first ++ used_by_tests (take (i + 1) ts)
tests_pushed ts i first old new d l e h =
    let n : suc i ≡ i + 1 = omega arith in
    e ∙ ap (λ o. o ++ used_by (get_or ts i d).left) h ∙ sym
    (grouped first (used_by_tests (take i ts)) (used_by (get_or ts i d).left))
    ∙ ap (λ l. first ++ l)
    (sym (tests_next ts i (get_or ts i d) (slice_get-get_or ts i d l)) ∙ ap
    (λ k. used_by_tests (take k ts)) n)

-- the same for positions past them
pub operands_passed : (ops : List Operand) (i from at many : ℕ) (d : Operand) → i < length ops
    → many ≡ length (used_by (get_or ops i d)) → at ≡ from + length (used_by_all (take i ops))
    → at + many ≡ from + length (used_by_all (take (i + 1) ops))
operands_passed ops i from at many d l e h =
    let n : suc i ≡ i + 1 = omega arith in
    let s : used_by_all (take (i + 1) ops) ≡ used_by_all (take i ops) ++ used_by (get_or ops i d)
    = sym (ap (λ k. used_by_all (take k ops)) n) ∙ operands_next ops i (get_or ops i d)
    (slice_get-get_or ops i d l) in
    let k : length (used_by_all (take (i + 1) ops)) ≡ length (used_by_all (take i ops)) + length
    (used_by (get_or ops i d)) = ap length s ∙ length-append (used_by_all (take i ops))
    (used_by (get_or ops i d)) in
    omega arith

pub tests_passed : (ts : List LowTest) (i from at many : ℕ) (d : LowTest) → i < length ts
    → many ≡ length (used_by (get_or ts i d).left) → at ≡ from + length (used_by_tests (take i ts))
    → at + many ≡ from + length (used_by_tests (take (i + 1) ts))
tests_passed ts i from at many d l e h =
    let n : suc i ≡ i + 1 = omega arith in
    let s : used_by_tests (take (i + 1) ts) ≡ used_by_tests (take i ts)
    ++ used_by (get_or ts i d).left = sym (ap (λ k. used_by_tests (take k ts)) n) ∙ tests_next
    ts i (get_or ts i d) (slice_get-get_or ts i d l) in
    let k : length (used_by_tests (take (i + 1) ts)) ≡ length (used_by_tests (take i ts)) + length
    (used_by (get_or ts i d).left) = ap length s ∙ length-append (used_by_tests (take i ts))
    (used_by (get_or ts i d).left) in
    omega arith
