-- What the loops that add sizes have added so far.
use Rattle.std.proofs.Common.{◌≡◌, ℕ, ◌+◌, ◌-◌, ◌^◌, ◌<◌, ◌≤◌, List, [], ◌∷◌, ◌++◌, map, take, length, get_or, Some, slice_get, sym, ap, ◌∙◌, arith}
use Rattle.std.proofs.lemmas.List.{take_all}
use Rattle.seq.proofs.Lists.{take_next}
use Rattle.grin_syntax.specs.declared.program.Stmt.{Stmt}
use Rattle.grin_syntax.specs.declared.program.Stmt.TheVariants.{Store, Bind}
use Rattle.grin_syntax.specs.declared.program.Alt.{Alt}
use Rattle.grin_syntax.specs.declared.program.Op.{Op}
use Rattle.grin_syntax.specs.declared.program.Op.TheVariants.{Apply}
use Rattle.grin_syntax.specs.declared.program.Block.{Block}
use Rattle.grin_syntax.specs.declared.program.Cell.{Cell}
use Rattle.grin_syntax.specs.declared.program.Target.{Target}
use Rattle.grin_syntax.specs.declared.program.Tag.{Tag}
use Rattle.grin_syntax.specs.declared.program.Word.{Word}
use Rattle.grin_syntax.specs.declared.program.Val.{Val}
use Rattle.grin_syntax.specs.Tree.{Code, end, Arms, no_arm, arm, act_of, before_of, arm_of, code_of, all_before, arms_of, Procedure, Program}
use Rattle.grin_syntax.proofs.TreeOf.{act_of-Apply, code_of-parts, before_of-Store, before_of-Bind}
use Rattle.grin_syntax.proofs.Pieces.{all_arms, all_arms_none, all_arms_push, all_before_push}
use Rattle.flow_system.specs.Solution.{Solution}
use Rattle.inline_theory.specs.Size.{val_size, target_size, shape_size, cells_size, total}
use Rattle.inline_theory.specs.Expanded.{saturated_at_64_bits, tag_size, tags_size, application_size, expanded_act, expanded_code, expanded_arms}

cells_push : (cs : List Cell) (c : Cell) → cells_size (cs ++ c ∷ []) ≡ cells_size cs +
    (2 + val_size c.val)
cells_push [] c = omega arith
cells_push (d ∷ cs) c = let h = cells_push cs c in omega arith

pub cells_next : (cs : List Cell) (i : ℕ) (c : Cell) → i < length cs → c ≡ get_or cs i c
    → cells_size (take (i + 1) cs) ≡ cells_size (take i cs) + (2 + val_size c.val)
cells_next cs i c lt is = ap cells_size (take_next cs i c lt is) ∙ cells_push (take i cs) c

pub cells_done : (cs : List Cell) (i : ℕ) → length cs ≤ i → cells_size (take i cs) ≡ cells_size cs
cells_done cs i le = ap cells_size (take_all i cs le)

total_push : {X : Type 0} (g : X → Procedure) (f : Procedure → ℕ) (xs : List X) (x : X)
    → total f (map g (xs ++ x ∷ [])) ≡ total f (map g xs) + f (g x)
total_push g f [] x = omega arith
total_push g f (y ∷ xs) x = let h = total_push g f xs x in omega arith

pub total_next : {X : Type 0} (g : X → Procedure) (f : Procedure → ℕ) (xs : List X) (i : ℕ) (x : X)
    → i < length xs → x ≡ get_or xs i x → total f (map g (take (i + 1) xs)) ≡ total f
    (map g (take i xs)) + f (g x)
total_next g f xs i x lt is = ap (λ l. total f (map g l)) (take_next xs i x lt is) ∙ total_push g f
    (take i xs) x

pub total_done : {X : Type 0} (g : X → Procedure) (f : Procedure → ℕ) (xs : List X) (i : ℕ)
    → length xs ≤ i → total f (map g (take i xs)) ≡ total f (map g xs)
total_done g f xs i le = ap (λ l. total f (map g l)) (take_all i xs le)

-- sums of capped numbers
chain : (x n y k c m : ℕ) → saturated_at_64_bits x ≡ saturated_at_64_bits (n + y)
    → saturated_at_64_bits y ≡ saturated_at_64_bits (k + c) → m ≡ saturated_at_64_bits (n + k)
    → saturated_at_64_bits x ≡ saturated_at_64_bits (m + c)
chain x n y k c m e f g = omega arith

module _ (p : Program) (A : Solution) where
  -- the size of statements
  pub record StmtsSize (ss : List Stmt) (n : ℕ) : Type 0 where
    pub by : (c : Code) → saturated_at_64_bits (expanded_code p A (all_before (map before_of ss) c))
        ≡ saturated_at_64_bits (n + expanded_code p A c)

  pub no_stmts : StmtsSize [] 0
  no_stmts = record {
    by = λ c. let e : 0 + expanded_code p A c ≡ expanded_code p A c = omega arith
        in ap saturated_at_64_bits (sym e);
  }

  pub stmt_more : (ss : List Stmt) (i : ℕ) (s : Stmt) (n k m : ℕ) → i < length ss
      → s ≡ get_or ss i s → StmtsSize (take i ss) n
      → ((c : Code) → saturated_at_64_bits (expanded_code p A (before_of s c)) ≡
      saturated_at_64_bits (k + expanded_code p A c))
      → m ≡ saturated_at_64_bits (n + k) → StmtsSize (take (i + 1) ss) m
  stmt_more ss i s n k m lt is u h e = record {
    by = λ c.
        ap (λ l. saturated_at_64_bits (expanded_code p A (all_before (map before_of l) c)))
        (take_next ss i s lt is) ∙ ap (λ b. saturated_at_64_bits (expanded_code p A b))
        (all_before_push (take i ss) s c)
        ∙ chain (expanded_code p A (all_before (map before_of (take i ss)) (before_of s c))) n
        (expanded_code p A (before_of s c)) k (expanded_code p A c) m (u.by (before_of s c))
        (h c) e;
  }

  pub block_sized : (block : Block) (i n k m : ℕ) → length block.stmts ≤ i
      → StmtsSize (take i block.stmts) n → k ≡ saturated_at_64_bits
      (expanded_act p A (act_of block.last.value)) → m ≡ saturated_at_64_bits (n + k)
      → m ≡ saturated_at_64_bits (expanded_code p A (code_of block))
  unfolding expanded_act
  block_sized block i n k m le u h e =
      let all : saturated_at_64_bits
      (expanded_code p A
      (all_before (map before_of block.stmts) (end (act_of block.last.value)))) ≡
      saturated_at_64_bits (n + expanded_act p A (act_of block.last.value))
      = ap (λ l. saturated_at_64_bits
      (expanded_code p A (all_before (map before_of l) (end (act_of block.last.value)))))
      (sym (take_all i block.stmts le)) ∙ u.by (end (act_of block.last.value)) in
      let f : m ≡ saturated_at_64_bits
      (expanded_code p A
      (all_before (map before_of block.stmts) (end (act_of block.last.value)))) = omega arith in
      f ∙ ap (λ b. saturated_at_64_bits (expanded_code p A b)) (sym (code_of-parts block))

  pub store_sized : (cs : List Cell) (c : Code) (k : ℕ) → k ≡ saturated_at_64_bits (cells_size cs)
      → saturated_at_64_bits (expanded_code p A (before_of (Store cs) c)) ≡ saturated_at_64_bits
      (k + expanded_code p A c)
  unfolding expanded_act
  store_sized cs c k e = ap (λ b. saturated_at_64_bits (expanded_code p A (b c)))
      (before_of-Store cs) ∙ omega arith

  pub bind_sized : (t : Target) (o : Op) (c : Code) (j k m : ℕ) → j ≡ target_size t
      → k ≡ saturated_at_64_bits (expanded_act p A (act_of o)) → m ≡ saturated_at_64_bits (j + k)
      → saturated_at_64_bits (expanded_code p A (before_of (Bind t o) c)) ≡ saturated_at_64_bits
      (m + expanded_code p A c)
  unfolding expanded_act
  bind_sized t o c j k m e f g = ap (λ b. saturated_at_64_bits (expanded_code p A (b c)))
      (before_of-Bind t o) ∙ omega arith

  pub apply_sized : (o : Op) (v : Val) (a : Word) → o ≡ Apply v a
      → application_size p A v ≡ expanded_act p A (act_of o)
  unfolding expanded_act
  apply_sized o v a e = ap (expanded_act p A) (sym (ap act_of e ∙ act_of-Apply v a))

  -- the size of alternatives
  pub record AltsSize (as' : List Alt) (n : ℕ) : Type 0 where
    pub by : (rest : Arms) → saturated_at_64_bits
        (expanded_arms p A (all_arms (map arm_of as') rest)) ≡ saturated_at_64_bits
        (n + expanded_arms p A rest)
    pub fits : n ≤ 2 ^ 64 - 1

  pub no_alts : AltsSize [] 0
  no_alts = record {
    by = λ rest. let e : 0 + expanded_arms p A rest ≡ expanded_arms p A rest = omega arith
        in ap saturated_at_64_bits (sym e);
    fits = omega arith;
  }

  alt_sized : (a : Alt) (rest : Arms) (j b k : ℕ) → j ≡ shape_size a.pattern
      → b ≡ saturated_at_64_bits (expanded_code p A (code_of a.body))
      → k ≡ saturated_at_64_bits (j + b) → saturated_at_64_bits
      (expanded_arms p A (arm a.pattern (code_of a.body) rest)) ≡ saturated_at_64_bits
      (k + expanded_arms p A rest)
  unfolding expanded_act
  alt_sized a rest j b k e f g = omega arith

  pub alt_more : (as' : List Alt) (i : ℕ) (a : Alt) (n j b k m : ℕ) → i < length as'
      → a ≡ get_or as' i a → AltsSize (take i as') n → j ≡ shape_size a.pattern
      → b ≡ saturated_at_64_bits (expanded_code p A (code_of a.body))
      → k ≡ saturated_at_64_bits (j + b)
      → m ≡ saturated_at_64_bits (n + k) → AltsSize (take (i + 1) as') m
  alt_more as' i a n j b k m lt is u e f g h = record {
    by = λ rest.
        ap (λ l. saturated_at_64_bits (expanded_arms p A (all_arms (map arm_of l) rest)))
        (take_next as' i a lt is) ∙ ap (λ r. saturated_at_64_bits (expanded_arms p A r))
        (all_arms_push (take i as') a rest)
        ∙ chain (expanded_arms p A
        (all_arms (map arm_of (take i as')) (arm a.pattern (code_of a.body) rest))) n
        (expanded_arms p A (arm a.pattern (code_of a.body) rest)) k (expanded_arms p A rest) m
        (u.by (arm a.pattern (code_of a.body) rest)) (alt_sized a rest j b k e f g) h;
    fits = omega arith;
  }

  pub alts_sized : (as' : List Alt) (i n : ℕ) → length as' ≤ i → AltsSize (take i as') n
      → n ≡ saturated_at_64_bits (expanded_arms p A (arms_of (map arm_of as')))
  unfolding expanded_act
  alts_sized as' i n le u =
      let fits = u.fits in
      let e : saturated_at_64_bits (expanded_arms p A (all_arms (map arm_of as') no_arm)) ≡
      saturated_at_64_bits (n + 0) = ap
      (λ l. saturated_at_64_bits (expanded_arms p A (all_arms (map arm_of l) no_arm)))
      (sym (take_all i as' le)) ∙ u.by no_arm in
      let f : n ≡ saturated_at_64_bits (expanded_arms p A (all_arms (map arm_of as') no_arm))
      = omega arith in
      f ∙ ap (λ r. saturated_at_64_bits (expanded_arms p A r)) (all_arms_none (map arm_of as'))

-- the size of alternatives, tag by tag
module _ (size : Tag → ℕ) (tags : List Tag) where
  sizes_push : (ts : List ℕ) (t : ℕ) → tags_size size tags (ts ++ t ∷ []) ≡ tags_size size tags ts +
      tag_size size (slice_get tags t)
  sizes_push [] t = omega arith
  sizes_push (s ∷ ts) t = let h = sizes_push ts t in omega arith

  pub sizes_more : (ts us : List ℕ) (t : ℕ) (i : Tag) → us ≡ ts ++ t ∷ []
      → slice_get tags t ≡ Some i → tags_size size tags us ≡ tags_size size tags ts +
      (i.fields + size i)
  sizes_more ts us t i e is = ap (tags_size size tags) e ∙ sizes_push ts t ∙ ap
      (λ o. tags_size size tags ts + tag_size size o) is
