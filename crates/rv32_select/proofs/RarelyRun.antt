-- Blocks that run rarely: a block is rare where a statement of it is, or its end.
use Rattle.std.proofs.Common.{◌≡◌, ◌≢◌, ℕ, suc, ◌+◌, ◌<◌, ◌≤◌, List, [], ◌∷◌, map, length, refl, sym, ap, ◌∙◌, arith, drop, drop-cons, get_or}
use Rattle.std.specs.Prelude.{Bool, true, false, if◌then◌else◌}
use Rattle.seq.proofs.Lists.{drop_past}
use Rattle.low_code.specs.declared.program.LowStmt.{LowStmt}
use Rattle.low_code.specs.declared.program.LowTest.{LowTest}
use Rattle.low_code.specs.declared.program.LowBlock.{LowBlock}
use Rattle.low_code.specs.Tree.{Code, before_of, end_of, code_of, all_before}
use Rattle.low_code.proofs.TreeOf.{code_of-parts}
use Rattle.rv32_select.specs.IsSelected.{is_rare, has_one}

-- a block's rarity, statement by statement
pub rare_block : (b : LowBlock) (items : List LowStmt) → items ≡ b.stmts
    → is_rare (code_of b) ≡ is_rare (all_before (map before_of items) (end_of b.last))
rare_block b items e = ap is_rare (code_of-parts b) ∙ ap
    (λ ss. is_rare (all_before (map before_of ss) (end_of b.last))) (sym e)

pub rare_here : (items : List LowStmt) (i : ℕ) (s : LowStmt) (e : Code) (r : Bool)
    → i < length items → s ≡ get_or items i s →
    ((c : Code) → is_rare (before_of s c) ≡ (if r then true else is_rare c))
    → is_rare (all_before (map before_of (drop i items)) e) ≡
    (if r then true else is_rare (all_before (map before_of (drop (suc i) items)) e))
rare_here items i s e r lt is h =
    let front : drop i items ≡ s ∷ drop (suc i) items
    = drop-cons items i s lt ∙ ap (λ x. x ∷ drop (suc i) items) (sym is) in
    ap (λ ss. is_rare (all_before (map before_of ss) e)) front ∙ h
    (all_before (map before_of (drop (suc i) items)) e)

pub rare_call : (items : List LowStmt) (i : ℕ) (s : LowStmt) (e : Code) (r : Bool)
    → i < length items → s ≡ get_or items i s →
    ((c : Code) → is_rare (before_of s c) ≡ (if r then true else is_rare c)) → r ≡ true
    → is_rare (all_before (map before_of (drop i items)) e) ≡ true
rare_call items i s e r lt is h t =
    rare_here items i s e r lt is h ∙ ap
    (λ x. if x then true else is_rare (all_before (map before_of (drop (suc i) items)) e)) t

pub rare_on : (items : List LowStmt) (i : ℕ) (s : LowStmt) (e : Code) (r : Bool) → i < length items
    → s ≡ get_or items i s →
    ((c : Code) → is_rare (before_of s c) ≡ (if r then true else is_rare c)) → r ≡ false
    → is_rare (all_before (map before_of (drop i items)) e) ≡ is_rare
    (all_before (map before_of (drop (i + 1) items)) e)
rare_on items i s e r lt is h t =
    let next : suc i ≡ i + 1 = omega arith in
    rare_here items i s e r lt is h ∙ ap
    (λ x. if x then true else is_rare (all_before (map before_of (drop (suc i) items)) e)) t
    ∙ ap (λ x. is_rare (all_before (map before_of (drop x items)) e)) next

pub rare_end : (items : List LowStmt) (i : ℕ) (e : Code) → length items ≤ i
    → is_rare (all_before (map before_of (drop i items)) e) ≡ is_rare e
rare_end items i e over = ap (λ ss. is_rare (all_before (map before_of ss) e))
    (drop_past items i over)

pub one_is : (tests : List LowTest) (n : ℕ) (w : Bool) → n ≡ length tests → n ≡ 1
    → w ≡ (if has_one tests then w else false)
one_is [] n w e h = absurd (omega (arith, e, h))
one_is (x ∷ []) n w e h = refl
one_is (x ∷ (y ∷ ys)) n w e h = absurd (omega (arith, e, h))

pub one_not : (tests : List LowTest) (n : ℕ) (w : Bool) → n ≡ length tests → n ≢ 1
    → false ≡ (if has_one tests then w else false)
one_not [] n w e h = refl
one_not (x ∷ []) n w e h = absurd (h e)
one_not (x ∷ (y ∷ ys)) n w e h = refl
