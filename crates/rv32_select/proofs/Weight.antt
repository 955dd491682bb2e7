-- How much a block has in it: what a walk over its statements, arms and end uses up.
use Rattle.std.proofs.Common.{◌≡◌, ℕ, zero, suc, ◌+◌, ◌<◌, ◌≤◌, List, [], ◌∷◌, map, length, get_or, sym, ap, ◌∙◌, subst, arith}
use Rattle.std.specs.declared.boxed.Box.{Box}
use Rattle.std.specs.declared.alloc.Global.{Global}
use Rattle.low_code.specs.declared.program.LowStmt.{LowStmt}
use Rattle.low_code.specs.declared.program.LowStmt.TheVariants as stmt
use Rattle.low_code.specs.declared.program.LowEnd.{LowEnd}
use Rattle.low_code.specs.declared.program.LowEnd.TheVariants as end'
use Rattle.low_code.specs.declared.program.LowArm.{LowArm}
use Rattle.low_code.specs.declared.program.LowBlock.{LowBlock}
use Rattle.low_code.specs.declared.program.LowEnd.TheOpen.{LowStmt-F, LowEnd-F, LowBlock-F, LowArm-F, Set, Prim, Load, Save, Take, Put, Get, Call, Join, Give, Tail, Choose, Fail}
use Rattle.low_code.specs.declared.program.LowEnd.TheFolds.{fold-LowStmt, fold-LowEnd, fold-LowBlock, fold-LowArm, fold-roll-LowStmt, fold-roll-LowEnd, fold_out-LowArm, fold_out-LowBlock}
use Rattle.seq.specs.Lists.{sum_of}

abbrev stmt_layer : LowStmt-F ℕ ℕ ℕ ℕ → ℕ
stmt_layer (Set x a) = 0
stmt_layer (Prim f x a b) = 0
stmt_layer (Load x a k) = 0
stmt_layer (Save a k b) = 0
stmt_layer (Take xs) = 0
stmt_layer (Put a) = 0
stmt_layer (Get x) = 0
stmt_layer (Call f site as' xs) = 0
stmt_layer (Join xs b) = 2 + b.value

abbrev end_layer : LowEnd-F ℕ ℕ ℕ ℕ → ℕ
end_layer (Give as') = 0
end_layer (Tail f site as') = 0
end_layer (Choose arms b) = 4 + (sum_of arms + b.value)
end_layer Fail = 0

abbrev arm_layer : LowArm-F ℕ ℕ ℕ ℕ → ℕ
arm_layer a = 1 + a.block

abbrev block_layer : LowBlock-F ℕ ℕ ℕ ℕ → ℕ
block_layer b = 1 + (sum_of b.stmts + b.last)

unfoldable pub stmt_weight : LowStmt → ℕ
stmt_weight = fold-LowStmt ℕ ℕ ℕ ℕ end_layer stmt_layer arm_layer block_layer

unfoldable pub end_weight : LowEnd → ℕ
end_weight = fold-LowEnd ℕ ℕ ℕ ℕ end_layer stmt_layer arm_layer block_layer

unfoldable pub arm_weight : LowArm → ℕ
arm_weight = fold-LowArm ℕ ℕ ℕ ℕ end_layer stmt_layer arm_layer block_layer

unfoldable pub block_weight : LowBlock → ℕ
block_weight = fold-LowBlock ℕ ℕ ℕ ℕ end_layer stmt_layer arm_layer block_layer

weight_of-Join : (xs : List ℕ) (b : Box LowBlock Global)
    → stmt_weight (stmt.Join xs b) ≡ 2 + block_weight b.value
unfolding stmt_weight block_weight
weight_of-Join xs b = ap stmt_weight (sym (stmt.rolls-Join xs b)) ∙ fold-roll-LowStmt ℕ ℕ ℕ ℕ
    end_layer stmt_layer arm_layer block_layer (Join xs b)

weight_of-Choose : (arms : List LowArm) (b : Box LowBlock Global)
    → end_weight (end'.Choose arms b) ≡ 4 + (sum_of (map arm_weight arms) + block_weight b.value)
unfolding end_weight arm_weight block_weight
weight_of-Choose arms b = ap end_weight (sym (end'.rolls-Choose arms b)) ∙ fold-roll-LowEnd ℕ ℕ ℕ ℕ
    end_layer stmt_layer arm_layer block_layer (Choose arms b)

weight_of-arm : (a : LowArm) → arm_weight a ≡ 1 + block_weight a.block
unfolding arm_weight block_weight
weight_of-arm a = fold_out-LowArm ℕ ℕ ℕ ℕ end_layer stmt_layer arm_layer block_layer a

weight_of-block : (b : LowBlock) → block_weight b ≡ 1 +
    (sum_of (map stmt_weight b.stmts) + end_weight b.last)
unfolding block_weight stmt_weight end_weight
weight_of-block b = fold_out-LowBlock ℕ ℕ ℕ ℕ end_layer stmt_layer arm_layer block_layer b

-- one of several
within : {A : Type 0} (w : A → ℕ) (xs : List A) (i : ℕ) (d : A) → i < length xs
    → w (get_or xs i d) ≤ sum_of (map w xs)
within w [] i d lt = absurd (omega arith)
within w (x ∷ xs) zero d lt = omega arith
within w (x ∷ xs) (suc i) d lt = let more = within w xs i d (omega arith) in omega (arith, more)

-- ---- what each call of the walk uses up

pub stmt_lighter : (b : LowBlock) (items : List LowStmt) (i : ℕ) (s : LowStmt) → items ≡ b.stmts
    → i < length items → s ≡ get_or items i s → stmt_weight s < block_weight b
stmt_lighter b items i s e lt is =
    let one : stmt_weight s ≤ sum_of (map stmt_weight b.stmts)
    = subst (λ ss. stmt_weight s ≤ sum_of (map stmt_weight ss)) e
    (subst (λ t. stmt_weight t ≤ sum_of (map stmt_weight items)) (sym is)
    (within stmt_weight items i s lt)) in
    let whole = weight_of-block b in
    omega (arith, one, whole)

pub last_lighter : (b : LowBlock) → end_weight b.last < block_weight b
last_lighter b = let whole = weight_of-block b in omega (arith, whole)

pub join_lighter : (s : LowStmt) (xs : List ℕ) (b : Box LowBlock Global) (block : LowBlock)
    → s ≡ stmt.Join xs b → block ≡ b.value → block_weight block + 1 < stmt_weight s
join_lighter s xs b block is e = let whole = ap stmt_weight is ∙ weight_of-Join xs b in let same
    = ap block_weight e in omega (arith, whole, same)

pub choice_lighter : (e : LowEnd) (arms items : List LowArm) (b : Box LowBlock Global)
    (block : LowBlock) → e ≡ end'.Choose arms b → items ≡ arms → block ≡ b.value
    → 3 + (sum_of (map arm_weight items) + block_weight block) < end_weight e
choice_lighter e arms items b block is are same =
    let whole = ap end_weight is ∙ weight_of-Choose arms b in
    let weights = ap (λ ts. sum_of (map arm_weight ts)) are in
    let last = ap block_weight same in
    omega (arith, whole, weights, last)

pub arm_lighter : (arms : List LowArm) (i : ℕ) (a : LowArm) → i < length arms → a ≡ get_or arms i a
    → arm_weight a ≤ sum_of (map arm_weight arms)
arm_lighter arms i a lt is = subst (λ t. arm_weight t ≤ sum_of (map arm_weight arms)) (sym is)
    (within arm_weight arms i a lt)

pub arm_block_lighter : (a : LowArm) → block_weight a.block < arm_weight a
arm_block_lighter a = let whole = weight_of-arm a in omega (arith, whole)

pub first_lighter : (a : LowArm) (arms : List LowArm) (b : ℕ)
    → (1 + (sum_of (map arm_weight arms) + b) < 1 + (sum_of (map arm_weight (a ∷ arms)) + b))
    × (block_weight a.block < 1 + (sum_of (map arm_weight (a ∷ arms)) + b))
first_lighter a arms b = let whole = weight_of-arm a in (omega (arith, whole), omega (arith, whole))
