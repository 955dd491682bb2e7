-- What a scan has gathered of the words, statements and alternatives so far.
use Rattle.std.proofs.Common.{◌≡◌, ℕ, suc, ◌+◌, ◌-◌, ◌<◌, ◌≤◌, List, [], ◌∷◌, ◌++◌, map, take, length, length-append, get_or, refl, sym, ap, ◌∙◌, subst, arith}
use Rattle.std.specs.Prelude.{slice_set}
use Rattle.std.proofs.lemmas.List.{take_all, take_more}
use Rattle.seq.proofs.Lists.{append_again, append_nil, take_next}
use Rattle.grin_syntax.specs.declared.program.Cell.{Cell}
use Rattle.grin_syntax.specs.declared.program.Word.{Word}
use Rattle.grin_syntax.specs.declared.program.Alt.{Alt}
use Rattle.grin_syntax.specs.declared.program.Stmt.{Stmt}
use Rattle.grin_syntax.specs.declared.program.Block.{Block}
use Rattle.grin_syntax.specs.declared.program.Op.{Op}
use Rattle.grin_syntax.specs.Tree.{Code, end, Arms, no_arm, arm, act_of, before_of, arm_of, code_of, arms_of}
use Rattle.grin_syntax.proofs.TreeOf.{code_of-parts}
use Rattle.grin_syntax.proofs.Pieces.{all_arms, all_arms_none, all_arms_push}
use Rattle.fetch_passes.specs.Notes.{Size, Trace, size_of, with_own_size, word_used, words_used, val_used, cells_used, code_trace, arms_trace, act_trace}
use Rattle.fetch_passes.proofs.Firsts.{code_from, code_at, code_none}

-- ---- words and cells

words_push : (ws : List Word) (a : Word) → words_used (ws ++ a ∷ []) ≡ words_used ws ++ word_used a
words_push [] a = append_nil (word_used a)
words_push (w ∷ ws) a = ap (λ l. word_used w ++ l) (words_push ws a) ∙ sym
    (append_again (word_used w) (words_used ws) (word_used a))

cells_push : (cs : List Cell) (c : Cell) → cells_used (cs ++ c ∷ []) ≡ cells_used cs
    ++ val_used c.val
cells_push [] c = append_nil (val_used c.val)
cells_push (d ∷ cs) c = ap (λ l. val_used d.val ++ l) (cells_push cs c) ∙ sym
    (append_again (val_used d.val) (cells_used cs) (val_used c.val))

pub words_pushed : (xs : List Word) (i : ℕ) (d : Word) (first old new : List ℕ) → i < length xs
    → new ≡ old ++ word_used (get_or xs i d) → old ≡ first ++ words_used (take i xs) → new ≡ first
    ++ words_used (take (i + 1) xs)
words_pushed xs i d first old new lt e h =
    e ∙ ap (λ o. o ++ word_used (get_or xs i d)) h ∙ append_again first (words_used (take i xs))
    (word_used (get_or xs i d))
    ∙ ap (λ l. first ++ l)
    (sym (words_push (take i xs) (get_or xs i d)) ∙ ap words_used (sym (take_more xs i d lt)))

pub cells_pushed : (xs : List Cell) (i : ℕ) (x : Cell) (first old new : List ℕ) → i < length xs
    → x ≡ get_or xs i x → new ≡ old ++ val_used x.val → old ≡ first ++ cells_used (take i xs)
    → new ≡ first ++ cells_used (take (i + 1) xs)
cells_pushed xs i x first old new lt at e h =
    e ∙ ap (λ o. o ++ val_used x.val) h ∙ append_again first (cells_used (take i xs))
    (val_used x.val) ∙ ap (λ l. first ++ l)
    (sym (cells_push (take i xs) x) ∙ ap cells_used (sym (take_next xs i x lt at)))

-- ---- statements

module _ {A : Type 0} (has : Code → List A) where
  -- what was gathered, and what the statements from the i-th on and the end have, is what all have
  pub record StmtsLeft (old now : List A) (ss : List Stmt) (i : ℕ) : Type 0 where
    pub by : (c : Code) → old ++ has (code_from ss 0 c) ≡ now ++ has (code_from ss i c)

  pub stmts_next : (old now new : List A) (ss : List Stmt) (i : ℕ) (s : Stmt) → i < length ss
      → s ≡ get_or ss i s
      → ((c : Code) → now ++ has (before_of s c) ≡ new ++ has c) → StmtsLeft old now ss i
      → StmtsLeft old new ss (i + 1)
  stmts_next old now new ss i s lt at one left = subst (StmtsLeft old new ss)
      (let e : suc i ≡ i + 1 = omega arith in e)
      (record {
        by = λ c. left.by c ∙ ap (λ k. now ++ has k) (code_at ss i s c lt at) ∙ one
            (code_from ss (suc i) c);
      })

  pub block_whole : (old now new : List A) (b : Block) (i : ℕ) → length b.stmts ≤ i
      → StmtsLeft old now b.stmts i → new ≡ now ++ has (end (act_of b.last.value)) → new ≡ old
      ++ has (code_of b)
  block_whole old now new b i past left is =
      is ∙ ap (λ k. now ++ has k) (sym (code_none b.stmts i (end (act_of b.last.value)) past)) ∙ sym
      (left.by (end (act_of b.last.value))) ∙ ap (λ k. old ++ has k) (sym (code_of-parts b))

-- ---- alternatives

module _ {A : Type 0} (has : Code → List A) (arms_have : Arms → List A) where
  pub record ArmsDone (old now : List A) (as' : List Alt) : Type 0 where
    pub by : (r : Arms) → old ++ arms_have (all_arms (map arm_of as') r) ≡ now ++ arms_have r

  pub arms_next :
      ((a : Alt) (r : Arms) → arms_have (arm a.pattern (code_of a.body) r) ≡ has (code_of a.body)
      ++ arms_have r) → (old now new : List A) (as' : List Alt) (i : ℕ) (a : Alt) → i < length as'
      → a ≡ get_or as' i a
      → new ≡ now ++ has (code_of a.body) → ArmsDone old now (take i as')
      → ArmsDone old new (take (i + 1) as')
  arms_next each old now new as' i a lt at is done = subst (ArmsDone old new)
      (sym (take_next as' i a lt at)) (record {
        by = λ r. ap (λ q. old ++ arms_have q) (all_arms_push (take i as') a r) ∙ done.by
            (arm a.pattern (code_of a.body) r) ∙ ap (λ l. now ++ l) (each a r) ∙ sym
            (append_again now (has (code_of a.body)) (arms_have r)) ∙ ap (λ l. l ++ arms_have r)
            (sym is);
      })

  pub arms_whole : arms_have no_arm ≡ [] → (old now : List A) (as' : List Alt) (i : ℕ)
      → length as' ≤ i → ArmsDone old now (take i as') → now ≡ old
      ++ arms_have (arms_of (map arm_of as'))
  arms_whole none old now as' i le done =
      let all : ArmsDone old now as' = subst (ArmsDone old now) (take_all i as' le) done in
      sym (append_nil now) ∙ ap (λ l. now ++ l) (sym none) ∙ sym (all.by no_arm) ∙ ap
      (λ q. old ++ arms_have q) (all_arms_none (map arm_of as'))

-- ---- the size of a piece, where it began

set_there : (xs ys : List Size) (z v : Size) → slice_set (xs ++ z ∷ ys) (length xs) v ≡ xs ++ v ∷ ys
set_there [] ys z v = refl
set_there (x ∷ xs) ys z v = ap (λ l. x ∷ l) (set_there xs ys z v)

pub piece_ended : (s t : Trace) (used : List ℕ) (sizes : List Size) (at piece uses pieces : ℕ)
    (z : Size) → at ≡ length s.used → piece ≡ length s.sizes → used ≡ s.used ++ t.used
    → sizes ≡ s.sizes ++ z ∷ t.sizes
    → uses ≡ length used - at → pieces ≡ length sizes - piece - 1
    → slice_set sizes piece (record { uses = uses; pieces = pieces }) ≡ s.sizes
    ++ size_of t ∷ t.sizes
piece_ended s t used sizes at piece uses pieces z a p u e n m =
    let lu : length used ≡ length s.used + length t.used = ap length u ∙ length-append s.used t.used
    in
    let ls : length sizes ≡ length s.sizes + suc (length t.sizes)
    = ap length e ∙ length-append s.sizes (z ∷ t.sizes) in
    let x : uses ≡ length t.used = omega arith in
    let y : pieces ≡ length t.sizes = omega arith in
    (λ i. slice_set (e i) (p i) (record { uses = x i; pieces = y i })) ∙ set_there s.sizes t.sizes z
    (size_of t)

pub piece_within : (s t : Trace) (sizes : List Size) (piece : ℕ) (z : Size) → piece ≡ length s.sizes
    → sizes ≡ s.sizes ++ z ∷ t.sizes → piece < length sizes
piece_within s t sizes piece z p e =
    let ls : length sizes ≡ length s.sizes + suc (length t.sizes)
    = ap length e ∙ length-append s.sizes (z ∷ t.sizes) in
    omega arith

-- ---- what the definitions say

pub arm_used : (a : Alt) (r : Arms) → (arms_trace (arm a.pattern (code_of a.body) r)).used ≡
    (code_trace (code_of a.body)).used ++ (arms_trace r).used
unfolding act_trace
arm_used a r = refl

pub arm_sizes : (a : Alt) (r : Arms) → (arms_trace (arm a.pattern (code_of a.body) r)).sizes ≡
    (with_own_size (code_trace (code_of a.body))).sizes ++ (arms_trace r).sizes
unfolding act_trace
arm_sizes a r = refl

pub none_used : (arms_trace no_arm).used ≡ []
unfolding act_trace
none_used = refl

pub none_sizes : (arms_trace no_arm).sizes ≡ []
unfolding act_trace
none_sizes = refl

pub end_used : (o : Op) → (code_trace (end (act_of o))).used ≡ (act_trace (act_of o)).used
unfolding act_trace
end_used o = refl

pub end_sizes : (o : Op) → (code_trace (end (act_of o))).sizes ≡
    (with_own_size (act_trace (act_of o))).sizes
unfolding act_trace
end_sizes o = refl
