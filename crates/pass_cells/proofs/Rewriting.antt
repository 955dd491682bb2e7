-- What the loops over statements and alternatives have made so far.
use Rattle.std.proofs.Common.{◌≡◌, ℕ, Bool, not, List, [], ◌∷◌, ◌++◌, map, refl, sym, ap, ◌∙◌}
use Rattle.grin_syntax.specs.declared.program.Alt.{Alt}
use Rattle.grin_syntax.specs.declared.program.Block.{Block}
use Rattle.grin_syntax.specs.declared.program.Cell.{Cell}
use Rattle.grin_syntax.specs.declared.program.Op.{Op}
use Rattle.grin_syntax.specs.declared.program.Op.TheVariants.{Case}
use Rattle.grin_syntax.specs.declared.program.Shape.{Shape}
use Rattle.grin_syntax.specs.declared.program.Stmt.{Stmt}
use Rattle.grin_syntax.specs.declared.program.Stmt.TheVariants.{Store, Bind}
use Rattle.grin_syntax.specs.declared.program.Target.{Target}
use Rattle.grin_syntax.specs.declared.program.Val.{Val}
use Rattle.grin_syntax.specs.declared.program.Word.{Word}
use Rattle.pass_ground.specs.Uses.{words_use}
use Rattle.grin_syntax.specs.Tree.{Code, end, store, bind, case, arm, act_of, before_of, arm_of, code_of, all_before, arms_of}
use Rattle.grin_syntax.proofs.TreeOf.{act_of-Case, before_of-Store, before_of-Bind, code_of-parts}
use Rattle.grin_syntax.proofs.Pieces.{all_before_push}
use Rattle.pass_cells.specs.declared.memory.Entry.{Entry}
use Rattle.pass_cells.specs.Memory.{KnownCellContents, after_act, after_store}
use Rattle.pass_cells.specs.Shown.{code_shown}
use Rattle.pass_cells.specs.Remembered.{told_act, told_code, told_arms, told_arm, is_own_cell_variable, remembered_body}
use Rattle.pass_cells.specs.Entries.{memories, has, unshown_by_set}
use Rattle.pass_cells.proofs.Formed.{acts_same}

module _ (own : ℕ → Bool) where
  -- statements that were made of others, with what is remembered before and behind them
  pub record Become (T S : KnownCellContents) (made from : List Stmt) : Type 0 where
    pub by : (c : Code) → all_before (map before_of made) (told_code own S c) ≡ told_code own T
        (all_before (map before_of from) c)

  pub none_become : (T : KnownCellContents) → Become T T [] []
  none_become T = record { by = λ c. refl }

  pub one_more_becomes : (T S R : KnownCellContents) (made more from : List Stmt) (s : Stmt)
      → Become T S made from
      → ((c : Code) → all_before (map before_of more) (told_code own R c) ≡ all_before
      (map before_of made) (told_code own S (before_of s c))) → Become T R more (from ++ s ∷ [])
  one_more_becomes T S R made more from s u h = record {
    by = λ c. h c ∙ u.by (before_of s c) ∙ ap (told_code own T)
        (sym (all_before_push from s c));
  }

  pub bind_becomes : (T S : KnownCellContents) (made more : List Stmt) (s : Stmt) (t : Target)
      (m o : Op) (c : Code) → s ≡ Bind t o → act_of m ≡ told_act own T (act_of o)
      → S ≡ after_act (act_of m) T → more ≡ made ++ Bind t m ∷ []
      → all_before (map before_of more) (told_code own S c) ≡ all_before (map before_of made)
      (told_code own T (before_of s c))
  unfolding told_act
  bind_becomes T S made more s t m o c q e a p =
      let after : S ≡ after_act (act_of o) T = a ∙ ap (λ k. after_act k T) e ∙ acts_same own
      (act_of o) T in
      ap (λ l. all_before (map before_of l) (told_code own S c)) p ∙ all_before_push made (Bind t m)
      (told_code own S c)
      ∙ ap (λ f. all_before (map before_of made) (f (told_code own S c))) (before_of-Bind t m) ∙
      (λ i. all_before (map before_of made) (bind t (e i) (told_code own (after i) c)))
      ∙ ap (λ f. all_before (map before_of made) (told_code own T (f c))) (sym (before_of-Bind t o))
      ∙ ap (λ s. all_before (map before_of made) (told_code own T (before_of s c))) (sym q)

  pub store_becomes : (T S : KnownCellContents) (made more : List Stmt) (s : Stmt) (cs : List Cell)
      (c : Code) → s ≡ Store cs → S ≡ after_store own cs T → more ≡ made ++ Store cs ∷ []
      → all_before (map before_of more) (told_code own S c) ≡ all_before (map before_of made)
      (told_code own T (before_of s c))
  unfolding told_act
  store_becomes T S made more s cs c q a p =
      ap (λ l. all_before (map before_of l) (told_code own S c)) p ∙ all_before_push made (Store cs)
      (told_code own S c)
      ∙ ap (λ f. all_before (map before_of made) (f (told_code own S c))) (before_of-Store cs) ∙
      (λ i. all_before (map before_of made) (store cs (told_code own (a i) c)))
      ∙ ap (λ f. all_before (map before_of made) (told_code own T (f c))) (sym (before_of-Store cs))
      ∙ ap (λ s. all_before (map before_of made) (told_code own T (before_of s c))) (sym q)

  pub block_told : (T S : KnownCellContents) (made b : Block) (last : Op)
      → Become T S made.stmts b.stmts → made.last.value ≡ last
      → act_of last ≡ told_act own S (act_of b.last.value)
      → code_of made ≡ told_code own T (code_of b)
  unfolding told_act
  block_told T S made b last u l e =
      code_of-parts made ∙ ap (λ o. all_before (map before_of made.stmts) (end (act_of o))) l ∙ ap
      (λ o. all_before (map before_of made.stmts) (end o)) e
      ∙ u.by (end (act_of b.last.value)) ∙ ap (told_code own T) (sym (code_of-parts b))

  arms_told : (T : KnownCellContents) (as' : List (Shape × Code))
      → arms_of (map (told_arm own T) as') ≡ told_arms own T (arms_of as')
  unfolding told_act
  arms_told T [] = refl
  arms_told T (a ∷ as') = ap (arm a.0 (told_code own T a.1)) (arms_told T as')

  pub case_told : (T : KnownCellContents) (v w : Val) (made alts : List Alt) → w ≡ v
      → map arm_of made ≡ map (told_arm own T) (map arm_of alts)
      → act_of (Case w made) ≡ told_act own T (act_of (Case v alts))
  unfolding told_act
  case_told T v w made alts f e =
      act_of-Case w made ∙ (λ i. case (f i) (arms_of (e i))) ∙ ap (case v)
      (arms_told T (map arm_of alts)) ∙ ap (told_act own T) (sym (act_of-Case v alts))

-- the body of a procedure, with a set of what it shows, where nothing is remembered
pub body_remembered : (made b : Block) (keys : List ℕ) (ws : List Word) (es : List Entry)
    → code_of made ≡ told_code (unshown_by_set keys) (memories es) (code_of b) → es ≡ []
    → ((x : ℕ) → has keys x ≡ words_use x ws) → ws ≡ code_shown (code_of b)
    → code_of made ≡ remembered_body (code_of b)
body_remembered made b keys ws es e n h w =
    let own : unshown_by_set keys ≡ is_own_cell_variable (code_of b)
    = λ i x. not ((h x ∙ ap (words_use x) w) i) in
    e ∙ (λ i. told_code (own i) (memories (n i)) (code_of b))
