-- The most fields that pieces write, as the loops find them.
use Rattle.std.proofs.Common.{◌≡◌, ◌≤◌, ◌<◌, ℕ, ◌+◌, List, [], ◌∷◌, ◌++◌, map, take, length, get_or, ap, ◌∙◌, arith}
use Rattle.std.specs.Prelude.{max}
use Rattle.std.proofs.lemmas.List.{take_all}
use Rattle.seq.proofs.Lists.{take_next}
use Rattle.grin_syntax.specs.declared.program.Stmt.{Stmt}
use Rattle.grin_syntax.specs.declared.program.Tag.{Tag}
use Rattle.grin_syntax.specs.declared.program.Stmt.TheVariants.{Store, Bind}
use Rattle.grin_syntax.specs.declared.program.Alt.{Alt}
use Rattle.grin_syntax.specs.declared.program.Cell.{Cell}
use Rattle.grin_syntax.specs.declared.program.Op.{Op}
use Rattle.grin_syntax.specs.declared.program.Target.{Target}
use Rattle.grin_syntax.specs.declared.program.Block.{Block}
use Rattle.grin_syntax.specs.Tree.{Code, end, act_of, before_of, arm_of, code_of, all_before, arms_of}
use Rattle.grin_syntax.proofs.TreeOf.{code_of-parts, arm_of-parts, before_of-Store, before_of-Bind}
use Rattle.grin_syntax.proofs.Pieces.{all_before_push}
use Rattle.low_translate.specs.Writes.{cells_write, act_writes, code_writes, arms_write}

module _ (ts : List Tag) where
  -- ---- statements

  pub record Statements (ss : List Stmt) (n : ℕ) : Type 0 where
    pub by : (c : Code) → code_writes ts (all_before (map before_of ss) c) ≡ max n
        (code_writes ts c)

  pub no_statements : Statements [] 0
  no_statements = record { by = λ c. omega arith }

  pub statement_more : (ss : List Stmt) (i : ℕ) (s : Stmt) (n k m : ℕ) → i < length ss
      → s ≡ get_or ss i s → Statements (take i ss) n
      → ((c : Code) → code_writes ts (before_of s c) ≡ max k (code_writes ts c)) → m ≡ max k n
      → Statements (take (i + 1) ss) m
  statement_more ss i s n k m lt is u h e = record {
    by = λ c.
        let a = ap (λ l. code_writes ts (all_before (map before_of l) c)) (take_next ss i s lt is) ∙
        ap (code_writes ts) (all_before_push (take i ss) s c) in
        let b = u.by (before_of s c) in
        let d = h c in
        omega (arith, a, b, d, e);
  }

  pub store_writes : (cs : List Cell) (c : Code) → code_writes ts (before_of (Store cs) c) ≡ max
      (cells_write ts cs) (code_writes ts c)
  unfolding act_writes
  store_writes cs c = ap (λ b. code_writes ts (b c)) (before_of-Store cs)

  pub bind_writes : (t : Target) (o : Op) (c : Code)
      → code_writes ts (before_of (Bind t o) c) ≡ max (act_writes ts (act_of o)) (code_writes ts c)
  unfolding act_writes
  bind_writes t o c = ap (λ b. code_writes ts (b c)) (before_of-Bind t o)

  pub block_done : (block : Block) (i : ℕ) (n k m : ℕ) → length block.stmts ≤ i
      → Statements (take i block.stmts) n → k ≡ act_writes ts (act_of block.last.value)
      → m ≡ max k n → m ≡ code_writes ts (code_of block)
  unfolding act_writes
  block_done block i n k m le u l e =
      let o = act_of block.last.value in
      let a = u.by (end o) in
      let b = ap (λ l. code_writes ts (all_before (map before_of l) (end o)))
      (take_all i block.stmts le) in
      let d = ap (code_writes ts) (code_of-parts block) in
      omega (arith, l, e, a, b, d)

  -- ---- alternatives

  arms_push : (as' : List Alt) (a : Alt) → arms_write ts (arms_of (map arm_of (as' ++ a ∷ []))) ≡
      max (code_writes ts (code_of a.body)) (arms_write ts (arms_of (map arm_of as')))
  unfolding act_writes
  arms_push [] a = let h = ap (λ x. code_writes ts x.1) (arm_of-parts a) in omega (arith, h)
  arms_push (b ∷ as') a = let h = arms_push as' a in omega (arith, h)

  pub alternative_more : (as' : List Alt) (i : ℕ) (a : Alt) (n k m : ℕ) → i < length as'
      → a ≡ get_or as' i a → n ≡ arms_write ts (arms_of (map arm_of (take i as')))
      → k ≡ code_writes ts (code_of a.body) → m ≡ max k n
      → m ≡ arms_write ts (arms_of (map arm_of (take (i + 1) as')))
  alternative_more as' i a n k m lt is h q e =
      let b = ap (λ l. arms_write ts (arms_of (map arm_of l))) (take_next as' i a lt is) ∙ arms_push
      (take i as') a in
      omega (arith, h, q, e, b)

  pub alternatives_done : (as' : List Alt) (i n : ℕ) → length as' ≤ i
      → n ≡ arms_write ts (arms_of (map arm_of (take i as')))
      → n ≡ arms_write ts (arms_of (map arm_of as'))
  alternatives_done as' i n le h = h ∙ ap (λ l. arms_write ts (arms_of (map arm_of l)))
      (take_all i as' le)
