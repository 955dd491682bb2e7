-- What the loops have counted so far.
use Rattle.std.proofs.Common.{◌≡◌, ℕ, ◌+◌, ◌<◌, ◌≤◌, List, [], ◌∷◌, ◌++◌, map, take, length, get_or, sym, ap, ◌∙◌, arith}
use Rattle.std.proofs.lemmas.List.{take_all}
use Rattle.seq.proofs.Lists.{take_next}
use Rattle.grin_syntax.specs.declared.program.Stmt.{Stmt}
use Rattle.grin_syntax.specs.declared.program.Stmt.TheVariants.{Store, Bind}
use Rattle.grin_syntax.specs.declared.program.Alt.{Alt}
use Rattle.grin_syntax.specs.declared.program.Op.{Op}
use Rattle.grin_syntax.specs.declared.program.Block.{Block}
use Rattle.grin_syntax.specs.declared.program.Cell.{Cell}
use Rattle.grin_syntax.specs.declared.program.Target.{Target}
use Rattle.grin_syntax.specs.Tree.{Code, end, Arms, no_arm, arm, act_of, before_of, arm_of, code_of, all_before, arms_of}
use Rattle.grin_syntax.proofs.TreeOf.{code_of-parts, before_of-Store, before_of-Bind}
use Rattle.grin_syntax.proofs.Pieces.{all_arms, all_arms_none, all_arms_push, all_before_push}
use Rattle.grin_meaning.specs.Slim.{val_weight, cells_weight, node_words, end_words}
use Rattle.inline_theory.specs.Size.{val_size, cells_size}
use Rattle.grin_measure.specs.declared.counts.Counts.{Counts}
use Rattle.grin_measure.specs.Counts.{counts, sum, of_target, of_cell, of_cells, of_pattern, of_act, of_code, of_arms}
use Rattle.grin_measure.proofs.Sums.{sums_are, sum_after, sum_then_none, none_first, of_code-end, of_code-store, of_code-bind, of_arms-none, of_arms-arm}

-- ---- cells

cells_push : (cs : List Cell) (c : Cell) → of_cells (cs ++ c ∷ []) ≡ sum (of_cells cs) (of_cell c)
cells_push cs c =
    sums_are (cells_weight cs) 0 (length cs) (cells_size cs) (17 + val_weight c.val) 0 1
    (2 + val_size c.val)
    (cells_weight (cs ++ c ∷ [])) 0 (length (cs ++ c ∷ [])) (cells_size (cs ++ c ∷ [])) (weight cs)
    (omega arith) (count cs) (size cs)
  where
    weight : (cs : List Cell) → cells_weight (cs ++ c ∷ []) ≡ cells_weight cs +
        (17 + val_weight c.val)
    weight [] = omega arith
    weight (d ∷ cs) = let h = weight cs in omega (arith, h)

    count : (cs : List Cell) → length (cs ++ c ∷ []) ≡ length cs + 1
    count [] = omega arith
    count (d ∷ cs) = let h = count cs in omega (arith, h)

    size : (cs : List Cell) → cells_size (cs ++ c ∷ []) ≡ cells_size cs + (2 + val_size c.val)
    size [] = omega arith
    size (d ∷ cs) = let h = size cs in omega (arith, h)

pub cells_next : (cs : List Cell) (i : ℕ) (c : Cell) → i < length cs → c ≡ get_or cs i c
    → of_cells (take (i + 1) cs) ≡ sum (of_cells (take i cs)) (of_cell c)
cells_next cs i c lt is = ap of_cells (take_next cs i c lt is) ∙ cells_push (take i cs) c

pub cells_done : (cs : List Cell) (i : ℕ) → length cs ≤ i → of_cells (take i cs) ≡ of_cells cs
cells_done cs i le = ap of_cells (take_all i cs le)

-- ---- statements

pub record Statements (ss : List Stmt) (n : Counts) : Type 0 where
  pub by : (c : Code) → of_code (all_before (map before_of ss) c) ≡ sum n (of_code c)

pub no_statements : Statements [] (counts 0 0 0 0)
unfolding of_code
no_statements = record { by = λ c. sym (none_first _ _ _ _) }

pub statement_more : (ss : List Stmt) (i : ℕ) (s : Stmt) (n k : Counts) → i < length ss
    → s ≡ get_or ss i s → Statements (take i ss) n
    → ((c : Code) → of_code (before_of s c) ≡ sum k (of_code c))
    → Statements (take (i + 1) ss) (sum n k)
statement_more ss i s n k lt is u h = record {
  by = λ c.
      ap (λ l. of_code (all_before (map before_of l) c)) (take_next ss i s lt is) ∙ ap of_code
      (all_before_push (take i ss) s c)
      ∙ u.by (before_of s c) ∙ ap (sum n) (h c) ∙ sym (sum_after n k (of_code c));
}

pub block_counted : (block : Block) (i : ℕ) (n : Counts) → length block.stmts ≤ i
    → Statements (take i block.stmts) n
    → sum n (sum (counts 0 0 (end_words (act_of block.last.value)) 0)
    (of_act (act_of block.last.value))) ≡ of_code (code_of block)
block_counted block i n le u =
    let o = act_of block.last.value in
    ap (sum n) (sym (of_code-end o)) ∙ sym (u.by (end o))
    ∙ ap (λ l. of_code (all_before (map before_of l) (end o))) (take_all i block.stmts le) ∙ ap
    of_code (sym (code_of-parts block))

pub store_counted : (cs : List Cell) (c : Code) → of_code (before_of (Store cs) c) ≡ sum
    (of_cells cs) (of_code c)
store_counted cs c = ap (λ b. of_code (b c)) (before_of-Store cs) ∙ of_code-store cs c

pub bind_counted : (t : Target) (o : Op) (c : Code)
    → of_code (before_of (Bind t o) c) ≡ sum
    (sum (of_target t) (sum (counts 0 0 (node_words (act_of o)) 0) (of_act (act_of o))))
    (of_code c)
bind_counted t o c = ap (λ b. of_code (b c)) (before_of-Bind t o) ∙ of_code-bind t (act_of o) c

-- ---- alternatives

pub record Alternatives (as' : List Alt) (n : Counts) : Type 0 where
  pub by : (rest : Arms) → of_arms (all_arms (map arm_of as') rest) ≡ sum n (of_arms rest)
  pub fits : sum n (counts 0 0 0 0) ≡ n

pub no_alternatives : Alternatives [] (counts 0 0 0 0)
unfolding of_arms
no_alternatives = record { by = λ rest. sym (none_first _ _ _ _); fits = none_first 0 0 0 0 }

pub alternative_more : (as' : List Alt) (i : ℕ) (a : Alt) (n : Counts) → i < length as'
    → a ≡ get_or as' i a → Alternatives (take i as') n
    → Alternatives (take (i + 1) as')
    (sum n (sum (of_pattern a.pattern) (of_code (code_of a.body))))
alternative_more as' i a n lt is u = record {
  by = λ rest.
      let k = sum (of_pattern a.pattern) (of_code (code_of a.body)) in
      ap (λ l. of_arms (all_arms (map arm_of l) rest)) (take_next as' i a lt is) ∙ ap of_arms
      (all_arms_push (take i as') a rest)
      ∙ u.by (arm a.pattern (code_of a.body) rest) ∙ ap (sum n)
      (of_arms-arm a.pattern (code_of a.body) rest) ∙ sym (sum_after n k (of_arms rest));
  fits = sum_then_none n (sum (of_pattern a.pattern) (of_code (code_of a.body)));
}

pub arms_counted : (as' : List Alt) (i : ℕ) (n : Counts) → length as' ≤ i
    → Alternatives (take i as') n → n ≡ of_arms (arms_of (map arm_of as'))
arms_counted as' i n le u =
    sym u.fits ∙ ap (sum n) (sym of_arms-none) ∙ sym (u.by no_arm)
    ∙ ap (λ l. of_arms (all_arms (map arm_of l) no_arm)) (take_all i as' le) ∙ ap of_arms
    (all_arms_none (map arm_of as'))
