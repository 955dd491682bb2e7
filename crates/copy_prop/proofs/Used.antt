-- Of variables that stand in a list of uses.
use Rattle.std.proofs.Common.{◌≡◌, ℕ, zero, suc, ◌+◌, ◌<◌, Bool, true, false, cond, not, ◌&&◌, ◌||◌, nat_eq, nat_lt, List, [], ◌∷◌, ◌++◌, length, drop, take, get_or, slice_set, refl, sym, ap, ◌∙◌, arith}
use Rattle.std.proofs.lemmas.Bool.Decides.{nat_tests}
use Rattle.std.proofs.lemmas.List.{get_or-set_same, get_or-set_other, take_more}
use Rattle.seq.proofs.Order.{eq_from}
use Rattle.seq.proofs.Truth.{not_both, and_left, and_right, not_true}
use Rattle.seq.proofs.Lists.{append_again, append_nil}
use Rattle.grin_syntax.specs.declared.program.VarId.{VarId}
use Rattle.grin_syntax.specs.declared.program.Cell.{Cell}
use Rattle.grin_syntax.specs.declared.program.Word as W
use Rattle.grin_syntax.specs.Binders.{numbers_of}
use Rattle.grin_syntax.specs.Formed.{InScope}
use Rattle.copy_prop.specs.Lean.{are_disjoint, used_in_word, used_in_words, used_in_val, used_in_cells}
use Rattle.copy_prop.specs.Latest.{Latest}
use Rattle.seq.specs.Lists.{times, is_among}
use Rattle.seq.proofs.Counted.{counts, among_append}

-- ---- in a list

pub stands_in : (x : ℕ) (xs : List ℕ) → is_among x xs ≡ true → InScope xs x
stands_in x [] h = cc
stands_in x (y ∷ ys) h = go (nat_eq x y) h (stands_in x ys)
  where
    go : (b : Bool) → (b || is_among x ys) ≡ true → (is_among x ys ≡ true → InScope ys x)
        → 0 < counts b + times x ys
    go true h k = omega arith
    go false h k = let i : InScope ys x = k h in omega (arith, i)

-- where none of the first stands in the second
pub none_absent : (x : ℕ) (xs ys : List ℕ) → are_disjoint xs ys ≡ true → is_among x xs ≡ true
    → is_among x ys ≡ false
none_absent x [] ys h s = cc
none_absent x (y ∷ xs) ys h s = go (nat_eq x y) refl s
    (none_absent x xs ys (and_right (not (is_among y ys)) (are_disjoint xs ys) h))
  where
    go : (b : Bool) → nat_eq x y ≡ b → (b || is_among x xs) ≡ true
        → (is_among x xs ≡ true → is_among x ys ≡ false) → is_among x ys ≡ false
    go true q s k = ap (λ z. is_among z ys) (eq_from x y q) ∙ not_true (is_among y ys)
        (and_left (not (is_among y ys)) (are_disjoint xs ys) h)
    go false q s k = k s

-- ---- loops

pub none_push : (xs : List VarId) (x : VarId) (ys : List ℕ)
    → are_disjoint (numbers_of (xs ++ x ∷ [])) ys ≡
    (are_disjoint (numbers_of xs) ys && not (is_among x.0 ys))
none_push [] x ys = go (not (is_among x.0 ys))
  where
    go : (b : Bool) → (b && true) ≡ b
    go true = refl
    go false = refl
none_push (y ∷ xs) x ys = ap (λ b. not (is_among y.0 ys) && b) (none_push xs x ys) ∙ go
    (not (is_among y.0 ys)) (are_disjoint (numbers_of xs) ys) (not (is_among x.0 ys))
  where
    go : (a b c : Bool) → (a && (b && c)) ≡ ((a && b) && c)
    go true b c = refl
    go false b c = refl

pub drop_front : (m ys : List ℕ) (n : ℕ) → length m ≡ n → drop n (m ++ ys) ≡ ys
drop_front [] ys zero h = refl
drop_front [] ys (suc n) h = absurd (omega (arith, h))
drop_front (x ∷ m) ys zero h = absurd (omega (arith, h))
drop_front (x ∷ m) ys (suc n) h = drop_front m ys n (omega (arith, h))

pub words_push : (ws : List W.Word) (a : W.Word) → used_in_words (ws ++ a ∷ []) ≡ used_in_words ws
    ++ used_in_word a
words_push [] a = append_nil (used_in_word a)
words_push (b ∷ ws) a = ap (λ l. used_in_word b ++ l) (words_push ws a) ∙ sym
    (append_again (used_in_word b) (used_in_words ws) (used_in_word a))

pub cells_push : (cs : List Cell) (c : Cell) → used_in_cells (cs ++ c ∷ []) ≡ used_in_cells cs
    ++ used_in_val c.val
cells_push [] c = append_nil (used_in_val c.val)
cells_push (b ∷ cs) c = ap (λ l. used_in_val b.val ++ l) (cells_push cs c) ∙ sym
    (append_again (used_in_val b.val) (used_in_cells cs) (used_in_val c.val))

pub words_next : (ws : List W.Word) (i : ℕ) (a d : W.Word) (old0 old new : List ℕ) → i < length ws
    → a ≡ get_or ws i d → old ≡ old0 ++ used_in_words (take i ws) → new ≡ old ++ used_in_word a
    → new ≡ old0 ++ used_in_words (take (i + 1) ws)
words_next ws i a d old0 old new lt e o n =
    n ∙ (λ j. o j ++ used_in_word (e j)) ∙ append_again old0 (used_in_words (take i ws))
    (used_in_word (get_or ws i d)) ∙ ap (λ l. old0 ++ l)
    (sym (words_push (take i ws) (get_or ws i d)))
    ∙ ap (λ l. old0 ++ used_in_words l) (sym (take_more ws i d lt))

pub cells_next : (cs : List Cell) (i : ℕ) (c d : Cell) (old0 old new : List ℕ) → i < length cs
    → c ≡ get_or cs i d → old ≡ old0 ++ used_in_cells (take i cs) → new ≡ old ++ used_in_val c.val
    → new ≡ old0 ++ used_in_cells (take (i + 1) cs)
cells_next cs i c d old0 old new lt e o n =
    n ∙ (λ j. o j ++ used_in_val (e j).val) ∙ append_again old0 (used_in_cells (take i cs))
    (used_in_val (get_or cs i d).val) ∙ ap (λ l. old0 ++ l)
    (sym (cells_push (take i cs) (get_or cs i d)))
    ∙ ap (λ l. old0 ++ used_in_cells l) (sym (take_more cs i d lt))

pub none_next : (xs : List VarId) (i : ℕ) (x d : VarId) (ys : List ℕ) (old new used : Bool)
    → i < length xs → x ≡ get_or xs i d → old ≡ are_disjoint (numbers_of (take i xs)) ys
    → used ≡ is_among x.0 ys → new ≡ (old && not used)
    → new ≡ are_disjoint (numbers_of (take (i + 1) xs)) ys
none_next xs i x d ys old new used lt e o u n =
    n ∙ (λ j. o j && not (u j)) ∙ ap
    (λ z. are_disjoint (numbers_of (take i xs)) ys && not (is_among z.0 ys)) e ∙ sym
    (none_push (take i xs) (get_or xs i d) ys)
    ∙ ap (λ l. are_disjoint (numbers_of l) ys) (sym (take_more xs i d lt))

-- ---- the table of latest uses

less_again : (a b : ℕ) → nat_lt (suc a) (suc b) ≡ nat_lt a b
less_again a b = grind (arith, nat_tests)

drop_none : (n : ℕ) → ◌≡◌ {A = List ℕ} (drop n []) []
drop_none zero = refl
drop_none (suc n) = refl

pub stands_after : (seen : List ℕ) (x y from : ℕ) → is_among y (drop from (seen ++ x ∷ [])) ≡ cond
    (nat_eq y x) (nat_lt from (suc (length seen))) (is_among y (drop from seen))
stands_after [] x y zero = go (nat_eq y x)
  where
    go : (b : Bool) → (b || false) ≡ cond b (nat_lt 0 1) false
    go true = refl
    go false = refl
stands_after [] x y (suc from) = ap (is_among y) (drop_none from) ∙ go (nat_eq y x)
  where
    go : (b : Bool) → false ≡ cond b (nat_lt (suc from) 1) false
    go true = grind (arith, nat_tests)
    go false = refl
stands_after (z ∷ seen) x y zero = ap (λ b. nat_eq y z || b) (among_append y seen (x ∷ [])) ∙ go
    (nat_eq y z) (is_among y seen) (nat_eq y x)
  where
    go : (a b c : Bool) → (a || (b || (c || false))) ≡ cond c (nat_lt 0 (suc (length (z ∷ seen))))
        (a || b)
    go true b true = grind (arith, nat_tests)
    go true b false = refl
    go false true true = grind (arith, nat_tests)
    go false false true = grind (arith, nat_tests)
    go false true false = refl
    go false false false = refl
stands_after (z ∷ seen) x y (suc from) = stands_after seen x y from ∙ ap
    (λ b. cond (nat_eq y x) b (is_among y (drop from seen)))
    (sym (less_again from (suc (length seen))))

pub latest_none : Latest [] []
latest_none = record { by = λ x from. ap (is_among x) (drop_none from) ∙ go from }
  where
    go : (from : ℕ) → false ≡ nat_lt from 0
    go from = grind (arith, nat_tests)

zero_past : (latest : List ℕ) (x : ℕ) → get_or (latest ++ 0 ∷ []) x 0 ≡ get_or latest x 0
zero_past [] zero = refl
zero_past [] (suc x) = refl
zero_past (l ∷ latest) zero = refl
zero_past (l ∷ latest) (suc x) = zero_past latest x

pub latest_longer : (seen latest : List ℕ) → Latest seen latest → Latest seen (latest ++ 0 ∷ [])
latest_longer seen latest h = record
    { by = λ x from. h.by x from ∙ ap (nat_lt from) (sym (zero_past latest x)) }

pub latest_next : (seen latest : List ℕ) (x n : ℕ) → Latest seen latest → x < length latest
    → n ≡ length (seen ++ x ∷ []) → Latest (seen ++ x ∷ []) (slice_set latest x n)
latest_next seen latest x n h lt e = record
    { by = λ y from. stands_after seen x y from ∙ go y from (nat_eq y x) refl }
  where
    many : (xs : List ℕ) → length (xs ++ x ∷ []) ≡ suc (length xs)
    many [] = refl
    many (z ∷ xs) = let m : length (xs ++ x ∷ []) ≡ suc (length xs) = many xs in omega (arith, m)

    go : (y from : ℕ) (b : Bool) → nat_eq y x ≡ b → cond b (nat_lt from (suc (length seen)))
        (is_among y (drop from seen)) ≡ nat_lt from (get_or (slice_set latest x n) y 0)
    go y from true q = ap (nat_lt from)
        (sym (ap (λ z. get_or (slice_set latest x n) z 0) (eq_from y x q) ∙ get_or-set_same latest x
        n 0 lt ∙ e ∙ many seen))
    go y from false q = h.by y from ∙ ap (nat_lt from)
        (sym (get_or-set_other latest x y n 0
        (λ s. (let t : nat_eq y x ≡ true = grind (arith, nat_tests) in not_both (nat_eq y x) t q))))
