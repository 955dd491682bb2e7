-- The slots of variables, one variable after another.
use Rattle.std.proofs.Common.{◌≡◌, ℕ, suc, ◌+◌, ◌<◌, ◌≤◌, max, List, ◌∷◌, drop, drop-cons, get_or, length, sym, ap, ◌∙◌, arith}
use Rattle.std.proofs.Math.Nat.{le-max_left, le-max_right, max-le}
use Rattle.seq.proofs.Lists.{drop_past}
use Rattle.parallel_move.specs.declared.Spot.{Spot}
use Rattle.register_alloc.specs.Fits.{slot_end, slots_of}

pub max_grouped : (a b c : ℕ) → max (max a b) c ≡ max a (max b c)
max_grouped a b c =
    let ab = le-max_left a b in
    let ba = le-max_right a b in
    let bc = le-max_left b c in
    let cb = le-max_right b c in
    let u = le-max_left a (max b c) in
    let v = le-max_right a (max b c) in
    let x = le-max_left (max a b) c in
    let y = le-max_right (max a b) c in
    let below : max (max a b) c ≤ max a (max b c) = max-le (max-le u (omega (arith, bc, v)))
    (omega (arith, cb, v)) in
    let above : max a (max b c) ≤ max (max a b) c = max-le (omega (arith, ab, x))
    (max-le (omega (arith, ba, x)) y) in
    omega (arith, below, above)

pub max_zero : (a : ℕ) → max a 0 ≡ a
max_zero a = let low = le-max_left a 0 in let high : max a 0 ≤ a
    = max-le (omega arith) (omega arith) in omega (arith, low, high)

-- one variable more
pub slot_counted : (place : ℕ → Spot) (xs : List ℕ) (i x m m' e : ℕ) → i < length xs
    → x ≡ get_or xs i x → e ≡ slot_end (place x) → m' ≡ max m e
    → max m (slots_of place (drop i xs)) ≡ slots_of place xs
    → max m' (slots_of place (drop (i + 1) xs)) ≡ slots_of place xs
slot_counted place xs i x m m' e lt is end new old =
    let n : suc i ≡ i + 1 = omega arith in
    let front : drop i xs ≡ x ∷ drop (i + 1) xs = drop-cons xs i x lt ∙
    (λ z. sym is z ∷ drop (n z) xs) in
    let rest = slots_of place (drop (i + 1) xs) in
    let step : max m (max (slot_end (place x)) rest) ≡ slots_of place xs
    = ap (λ ys. max m (slots_of place ys)) (sym front) ∙ old in
    ap (λ k. max k rest) (new ∙ ap (max m) end) ∙ max_grouped m (slot_end (place x)) rest ∙ step

pub slot_small : (place : ℕ → Spot) (xs : List ℕ) (i x m b : ℕ) → i < length xs → x ≡ get_or xs i x
    → max m (slots_of place (drop i xs)) ≡ slots_of place xs → slots_of place xs < b
    → slot_end (place x) < b
slot_small place xs i x m b lt is old few =
    let n : suc i ≡ i + 1 = omega arith in
    let front : drop i xs ≡ x ∷ drop (i + 1) xs = drop-cons xs i x lt ∙
    (λ z. sym is z ∷ drop (n z) xs) in
    let rest = slots_of place (drop (i + 1) xs) in
    let step : max m (max (slot_end (place x)) rest) ≡ slots_of place xs
    = ap (λ ys. max m (slots_of place ys)) (sym front) ∙ old in
    let one = le-max_left (slot_end (place x)) rest in
    let two = le-max_right m (max (slot_end (place x)) rest) in
    omega (arith, one, two, step, few)

pub slots_counted : (place : ℕ → Spot) (xs : List ℕ) (i m : ℕ) → length xs ≤ i
    → max m (slots_of place (drop i xs)) ≡ slots_of place xs → m ≡ slots_of place xs
slots_counted place xs i m over e = sym (max_zero m) ∙ ap (λ ys. max m (slots_of place ys))
    (sym (drop_past xs i over)) ∙ e

pub no_slot : (place : ℕ → Spot) (xs : List ℕ) → max 0 (slots_of place xs) ≡ slots_of place xs
no_slot place xs = let low = le-max_right 0 (slots_of place xs) in let high
    : max 0 (slots_of place xs) ≤ slots_of place xs = max-le (omega arith) (omega arith)
    in omega (arith, low, high)

pub ruleset slots_of_all = (slot_counted, slot_small, slots_counted, no_slot)
