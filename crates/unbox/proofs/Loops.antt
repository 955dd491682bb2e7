-- What the loops over blocks keep.
use Rattle.std.proofs.Common.{◌≡◌, ℕ, zero, suc, Bool, List, [], ◌∷◌, ◌++◌, map, Some, None, slice_get, refl, sym, ap, ◌∙◌}
use Rattle.std.specs.Prelude.{pos}
use Rattle.grin_syntax.specs.declared.program.Word.{Word}
use Rattle.grin_syntax.specs.declared.program.Word.TheVariants.{Lit}
use Rattle.grin_syntax.specs.declared.program.Shape.{Shape}
use Rattle.grin_syntax.specs.declared.program.Target.{Target}
use Rattle.grin_syntax.specs.declared.program.Val.{Val}
use Rattle.grin_syntax.specs.declared.program.Alt.{Alt}
use Rattle.grin_syntax.specs.declared.program.Block.{Block}
use Rattle.grin_syntax.specs.declared.program.Stmt.{Stmt}
use Rattle.grin_syntax.specs.declared.program.Stmt.TheVariants.{Store, Bind}
use Rattle.grin_syntax.specs.declared.program.Op.TheVariants.{Case}
use Rattle.grin_syntax.specs.declared.program.Cell.{Cell}
use Rattle.grin_syntax.specs.Tree.{Code, end, store, bind, Act, case, arm, act_of, before_of, arm_of, code_of, all_before, arms_of}
use Rattle.grin_syntax.proofs.TreeOf.{before_of-Store, before_of-Bind, code_of-parts, act_of-Case}
use Rattle.grin_syntax.proofs.Pieces.{all_before_push}
use Rattle.flow_system.specs.Solution.{Solution}
use Rattle.unbox_theory.specs.Ends.{Procedures, act_calls, code_calls}
use Rattle.unbox_theory.specs.Unboxing.{word_or_zero, unbox_act, unbox_code, unbox_arms, unbox_arm}
use Rattle.unbox.specs.Ties.{act_called, code_called, act_ints, code_ints}

-- ---- the last operation alone

skips : {X : Type 0} (f : Code → X) → ((cs : List Cell) (b : Code) → f (store cs b) ≡ f b)
    → ((t : Target) (o : Act) (b : Code) → f (bind t o b) ≡ f b) → (ss : List Stmt) (c : Code)
    → f (all_before (map before_of ss) c) ≡ f c
skips f s t [] c = refl
skips f s t (Store cs ∷ ss) c = ap f
    (ap (λ k. k (all_before (map before_of ss) c)) (before_of-Store cs)) ∙ s cs
    (all_before (map before_of ss) c) ∙ skips f s t ss c
skips f s t (Bind u o ∷ ss) c = ap f
    (ap (λ k. k (all_before (map before_of ss) c)) (before_of-Bind u o)) ∙ t u (act_of o)
    (all_before (map before_of ss) c) ∙ skips f s t ss c

last_end : {X : Type 0} (f : Code → X) → ((cs : List Cell) (b : Code) → f (store cs b) ≡ f b)
    → ((t : Target) (o : Act) (b : Code) → f (bind t o b) ≡ f b) → (b : Block)
    → f (code_of b) ≡ f (end (act_of b.last.value))
last_end f s t b = ap f (code_of-parts b) ∙ skips f s t b.stmts (end (act_of b.last.value))

pub block_calls_last : (S : Procedures) (b : Block)
    → code_calls S (code_of b) ≡ act_calls S (act_of b.last.value)
unfolding act_calls
block_calls_last S b = last_end (code_calls S) (λ cs c. refl) (λ t o c. refl) b

pub block_called_last : (b : Block) → code_called (code_of b) ≡ act_called (act_of b.last.value)
unfolding act_called
block_called_last b = last_end code_called (λ cs c. refl) (λ t o c. refl) b

pub block_ints_last : (A : Solution) (b : Block) → code_ints A (code_of b) ≡ act_ints A
    (act_of b.last.value)
unfolding act_ints
block_ints_last A b = last_end (code_ints A) (λ cs c. refl) (λ t o c. refl) b

-- ---- blocks made anew

module _ (S : Procedures) where
  -- these statements are what becomes of those
  pub record Become (made from : List Stmt) : Type 0 where
    pub by : (bare : Bool) (c : Code) → all_before (map before_of made) (unbox_code S bare c) ≡
        unbox_code S bare (all_before (map before_of from) c)

  pub none_become : Become [] []
  none_become = record { by = λ bare c. refl }

  pub one_more_becomes : (made more from : List Stmt) (s : Stmt) → Become made from
      → ((bare : Bool) (c : Code) → all_before (map before_of more) (unbox_code S bare c) ≡
      all_before (map before_of made) (unbox_code S bare (before_of s c)))
      → Become more (from ++ s ∷ [])
  one_more_becomes made more from s u h = record {
    by = λ bare c. h bare c ∙ u.by bare (before_of s c) ∙ ap (unbox_code S bare)
        (sym (all_before_push from s c));
  }

  arms_unboxed : (bare : Bool) (as' : List (Shape × Code))
      → arms_of (map (unbox_arm S bare) as') ≡ unbox_arms S bare (arms_of as')
  unfolding unbox_act
  arms_unboxed bare [] = refl
  arms_unboxed bare (a ∷ as') = ap (arm a.0 (unbox_code S bare a.1)) (arms_unboxed bare as')

  pub case_unboxed : (bare : Bool) (v : Val) (made alts : List Alt)
      → map arm_of made ≡ map (unbox_arm S bare) (map arm_of alts)
      → act_of (Case v made) ≡ unbox_act S bare (act_of (Case v alts))
  unfolding unbox_act
  case_unboxed bare v made alts e =
      act_of-Case v made ∙ ap (λ as'. case v (arms_of as')) e ∙ ap (case v)
      (arms_unboxed bare (map arm_of alts)) ∙ ap (unbox_act S bare) (sym (act_of-Case v alts))

-- ---- values

pub word_there : (ws : List Word) (i : ℕ) (a : Word) → slice_get ws i ≡ Some a
    → a ≡ word_or_zero ws i
word_there [] i a e = cc
word_there (x ∷ ws) zero a e = cc
word_there (x ∷ ws) (suc i) a e = word_there ws i a e

pub word_past : (ws : List Word) (i : ℕ) → slice_get ws i ≡ None → Lit (pos 0) ≡ word_or_zero ws i
word_past [] i e = refl
word_past (x ∷ ws) zero e = cc
word_past (x ∷ ws) (suc i) e = word_past ws i e
