-- What the walks over uses keep.
use Rattle.std.proofs.Common.{◌≡◌, ℕ, ◌+◌, ◌<◌, ◌≤◌, Bool, false, ◌||◌, List, [], ◌∷◌, ◌++◌, map, take, length, get_or, refl, sym, ap, ◌∙◌, subst}
use Rattle.std.proofs.lemmas.List.{take_more, take_all}
use Rattle.seq.proofs.Truth.{or_false, or_assoc}
use Rattle.seq.proofs.Lists.{take_next}
use Rattle.grin_syntax.specs.declared.program.Cell.{Cell}
use Rattle.grin_syntax.specs.declared.program.Word as W
use Rattle.grin_syntax.specs.declared.program.Alt.{Alt}
use Rattle.grin_syntax.specs.declared.program.Stmt.{Stmt}
use Rattle.grin_syntax.specs.declared.program.Block.{Block}
use Rattle.grin_syntax.specs.Tree.{Code, end, Arms, no_arm, arm, act_of, before_of, arm_of, code_of, all_before, arms_of}
use Rattle.grin_syntax.proofs.TreeOf.{code_of-parts}
use Rattle.grin_syntax.proofs.Pieces.{all_arms, all_arms_none, all_arms_push, all_before_push}
use Rattle.pass_ground.specs.Uses.{word_is, words_use, val_uses, cells_use, act_mentions, code_mentions, arms_mention}

words_push : (x : ℕ) (ws : List W.Word) (w : W.Word)
    → words_use x (ws ++ w ∷ []) ≡ (words_use x ws || word_is x w)
words_push x [] w = or_false (word_is x w)
words_push x (u ∷ ws) w = ap (λ b. word_is x u || b) (words_push x ws w) ∙ or_assoc (word_is x u)
    (words_use x ws) (word_is x w)

pub words_next : (x : ℕ) (ws : List W.Word) (i : ℕ) (d : W.Word) (one old new : Bool)
    → i < length ws → one ≡ word_is x (get_or ws i d) → new ≡ (old || one)
    → old ≡ words_use x (take i ws) → new ≡ words_use x (take (i + 1) ws)
words_next x ws i d one old new lt e n o = n ∙ (λ j. o j || e j) ∙ sym
    (words_push x (take i ws) (get_or ws i d)) ∙ ap (words_use x) (sym (take_more ws i d lt))

cells_push : (x : ℕ) (cs : List Cell) (c : Cell) → cells_use x (cs ++ c ∷ []) ≡
    (cells_use x cs || val_uses x c.val)
cells_push x [] c = or_false (val_uses x c.val)
cells_push x (u ∷ cs) c = ap (λ b. val_uses x u.val || b) (cells_push x cs c) ∙ or_assoc
    (val_uses x u.val) (cells_use x cs) (val_uses x c.val)

pub cells_next : (x : ℕ) (cs : List Cell) (i : ℕ) (c : Cell) (one old new : Bool) → i < length cs
    → c ≡ get_or cs i c → one ≡ val_uses x c.val → new ≡ (old || one)
    → old ≡ cells_use x (take i cs) → new ≡ cells_use x (take (i + 1) cs)
cells_next x cs i c one old new lt at e n o = n ∙ (λ j. o j || e j) ∙ sym
    (cells_push x (take i cs) c) ∙ ap (cells_use x) (sym (take_next cs i c lt at))

pub record StmtsMention (f : Bool) (x : ℕ) (ss : List Stmt) (used : Bool) : Type 0 where
  pub by : (c : Code) → code_mentions f x (all_before (map before_of ss) c) ≡
      (used || code_mentions f x c)

pub no_stmts : (f : Bool) (x : ℕ) → StmtsMention f x [] false
no_stmts f x = record { by = λ c. refl }

pub stmts_next : (f : Bool) (x : ℕ) (ss : List Stmt) (i : ℕ) (s : Stmt) (one old new : Bool)
    → i < length ss → s ≡ get_or ss i s →
    ((c : Code) → code_mentions f x (before_of s c) ≡ (one || code_mentions f x c))
    → new ≡ (old || one) → StmtsMention f x (take i ss) old → StmtsMention f x (take (i + 1) ss) new
stmts_next f x ss i s one old new lt at e n p = subst (λ l. StmtsMention f x l new)
    (sym (take_next ss i s lt at))
    (record {
      by = λ c. ap (code_mentions f x) (all_before_push (take i ss) s c) ∙ p.by
          (before_of s c) ∙ ap (λ b. old || b) (e c) ∙ or_assoc old one (code_mentions f x c) ∙ ap
          (λ b. b || code_mentions f x c) (sym n);
    })

pub block_use : (f : Bool) (x : ℕ) (b : Block) (i : ℕ) (old one new : Bool) → length b.stmts ≤ i
    → StmtsMention f x (take i b.stmts) old → one ≡ act_mentions f x (act_of b.last.value)
    → new ≡ (old || one) → new ≡ code_mentions f x (code_of b)
unfolding act_mentions
block_use f x b i old one new le p e n =
    let q : StmtsMention f x b.stmts old = subst (λ l. StmtsMention f x l old)
    (take_all i b.stmts le) p in
    n ∙ ap (λ a. old || a) e ∙ sym (q.by (end (act_of b.last.value))) ∙ ap (code_mentions f x)
    (sym (code_of-parts b))

pub record ArmsMention (f : Bool) (x : ℕ) (as' : List Alt) (used : Bool) : Type 0 where
  pub by : (r : Arms) → arms_mention f x (all_arms (map arm_of as') r) ≡
      (used || arms_mention f x r)

pub no_arms : (f : Bool) (x : ℕ) → ArmsMention f x [] false
no_arms f x = record { by = λ r. refl }

pub arms_next : (f : Bool) (x : ℕ) (as' : List Alt) (i : ℕ) (a : Alt) (one old new : Bool)
    → i < length as' → a ≡ get_or as' i a → one ≡ code_mentions f x (code_of a.body)
    → new ≡ (old || one) → ArmsMention f x (take i as') old → ArmsMention f x (take (i + 1) as') new
unfolding act_mentions
arms_next f x as' i a one old new lt at e n p = subst (λ l. ArmsMention f x l new)
    (sym (take_next as' i a lt at))
    (record {
      by = λ r. ap (arms_mention f x) (all_arms_push (take i as') a r) ∙ p.by
          (arm a.pattern (code_of a.body) r) ∙ ap (λ b. old || (b || arms_mention f x r)) (sym e) ∙
          or_assoc old one (arms_mention f x r) ∙ ap (λ b. b || arms_mention f x r) (sym n);
    })

pub arms_used : (f : Bool) (x : ℕ) (as' : List Alt) (i : ℕ) (used : Bool) → length as' ≤ i
    → ArmsMention f x (take i as') used → used ≡ arms_mention f x (arms_of (map arm_of as'))
unfolding act_mentions
arms_used f x as' i used le p =
    let q : ArmsMention f x as' used = subst (λ l. ArmsMention f x l used) (take_all i as' le) p in
    sym (or_false used) ∙ sym (q.by no_arm) ∙ ap (arms_mention f x) (all_arms_none (map arm_of as'))
