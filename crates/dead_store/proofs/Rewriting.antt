-- What the loops over words, cells, statements and alternatives have made so far.
use Rattle.std.proofs.Common.{◌≡◌, ℕ, Bool, true, false, cond, List, [], ◌∷◌, ◌++◌, map, refl, sym, ap, ◌∙◌}
use Rattle.grin_syntax.specs.declared.program.Alt.{Alt}
use Rattle.grin_syntax.specs.declared.program.Cell.{Cell}
use Rattle.grin_syntax.specs.declared.program.Op.{Op}
use Rattle.grin_syntax.specs.declared.program.Op.TheVariants.{Case}
use Rattle.grin_syntax.specs.declared.program.Shape.{Shape}
use Rattle.grin_syntax.specs.declared.program.Stmt.{Stmt}
use Rattle.grin_syntax.specs.declared.program.Stmt.TheVariants.{Store, Bind}
use Rattle.grin_syntax.specs.declared.program.Target.{Target}
use Rattle.grin_syntax.specs.declared.program.Val.{Val}
use Rattle.grin_syntax.specs.Tree.{Code, bind, case, arm, act_of, before_of, arm_of, all_before, arms_of}
use Rattle.grin_syntax.proofs.TreeOf.{act_of-Case, before_of-Store, before_of-Bind}
use Rattle.grin_syntax.proofs.Pieces.{all_before_push}
use Rattle.dead_store.specs.Without.{without_val, kept_cell, kept_cells, store_if_any, without_act, without_code, without_arms, without_arm}

-- ---- a group is put behind statements, where it has a cell

pub none_put : (made : List Stmt) (cs : List Cell) (b : Code) → cs ≡ []
    → all_before (map before_of made) b ≡ all_before (map before_of made) (store_if_any cs b)
none_put made cs b n = ap (λ l. all_before (map before_of made) (store_if_any l b)) (sym n)

pub some_put : (made more : List Stmt) (cs : List Cell) (b : Code) → (cs ≡ [] → ⊥) → more ≡ made
    ++ Store cs ∷ [] → all_before (map before_of more) b ≡ all_before (map before_of made)
    (store_if_any cs b)
some_put made more [] b n p = absurd (n refl)
some_put made more (k ∷ ks) b n p = ap (λ l. all_before (map before_of l) b) p ∙ all_before_push
    made (Store (k ∷ ks)) b ∙ ap (λ f. all_before (map before_of made) (f b))
    (before_of-Store (k ∷ ks))

module _ (stays gone : ℕ → Bool) where
  -- ---- groups

  kept_push : (cs : List Cell) (c : Cell) → kept_cells stays gone (cs ++ c ∷ []) ≡ kept_cells stays
      gone cs ++ kept_cells stays gone (c ∷ [])
  kept_push [] c = refl
  kept_push (d ∷ cs) c = go (stays d.site.0) (kept_push cs c)
    where
      go : (b : Bool) → kept_cells stays gone (cs ++ c ∷ []) ≡ kept_cells stays gone cs
          ++ kept_cells stays gone (c ∷ [])
          → cond b (kept_cell gone d ∷ kept_cells stays gone (cs ++ c ∷ []))
          (kept_cells stays gone (cs ++ c ∷ [])) ≡ cond b
          (kept_cell gone d ∷ kept_cells stays gone cs) (kept_cells stays gone cs)
          ++ kept_cells stays gone (c ∷ [])
      go true e = ap (λ l. kept_cell gone d ∷ l) e
      go false e = e

  pub one_more_cell : (old new from : List Cell) (c : Cell) → old ≡ kept_cells stays gone from
      → new ≡ old ++ kept_cells stays gone (c ∷ []) → new ≡ kept_cells stays gone (from ++ c ∷ [])
  one_more_cell old new from c h e = e ∙ ap (λ l. l ++ kept_cells stays gone (c ∷ [])) h ∙ sym
      (kept_push from c)

  -- ---- statements

  -- these statements are what becomes of those
  pub record Become (made from : List Stmt) : Type 0 where
    pub by : (c : Code) → all_before (map before_of made) (without_code stays gone c) ≡ without_code
        stays gone (all_before (map before_of from) c)

  pub none_become : Become [] []
  none_become = record { by = λ c. refl }

  pub one_more_becomes : (made more from : List Stmt) (s : Stmt) → Become made from
      → ((c : Code) → all_before (map before_of more) (without_code stays gone c) ≡ all_before
      (map before_of made) (without_code stays gone (before_of s c))) → Become more (from ++ s ∷ [])
  one_more_becomes made more from s u h = record {
    by = λ c. h c ∙ u.by (before_of s c) ∙ ap (without_code stays gone)
        (sym (all_before_push from s c));
  }

  pub bind_becomes : (made more : List Stmt) (s : Stmt) (t : Target) (m o : Op) (c : Code)
      → s ≡ Bind t o → act_of m ≡ without_act stays gone (act_of o) → more ≡ made ++ Bind t m ∷ []
      → all_before (map before_of more) (without_code stays gone c) ≡ all_before
      (map before_of made) (without_code stays gone (before_of s c))
  unfolding without_act
  bind_becomes made more s t m o c q e p =
      ap (λ l. all_before (map before_of l) (without_code stays gone c)) p ∙ all_before_push made
      (Bind t m) (without_code stays gone c)
      ∙ ap (λ f. all_before (map before_of made) (f (without_code stays gone c)))
      (before_of-Bind t m) ∙ ap
      (λ o. all_before (map before_of made) (bind t o (without_code stays gone c))) e
      ∙ ap (λ f. all_before (map before_of made) (without_code stays gone (f c)))
      (sym (before_of-Bind t o)) ∙ ap
      (λ s. all_before (map before_of made) (without_code stays gone (before_of s c))) (sym q)

  store_is : (made : List Stmt) (s : Stmt) (cs : List Cell) (c : Code) → s ≡ Store cs
      → all_before (map before_of made)
      (store_if_any (kept_cells stays gone cs) (without_code stays gone c)) ≡ all_before
      (map before_of made) (without_code stays gone (before_of s c))
  unfolding without_act
  store_is made s cs c q = ap (λ f. all_before (map before_of made) (without_code stays gone (f c)))
      (sym (before_of-Store cs)) ∙ ap
      (λ s. all_before (map before_of made) (without_code stays gone (before_of s c))) (sym q)

  pub store_becomes : (made more : List Stmt) (s : Stmt) (cs kept : List Cell) (c : Code)
      → s ≡ Store cs → kept ≡ kept_cells stays gone cs
      → ((b : Code) → all_before (map before_of more) b ≡ all_before (map before_of made)
      (store_if_any kept b))
      → all_before (map before_of more) (without_code stays gone c) ≡ all_before
      (map before_of made) (without_code stays gone (before_of s c))
  store_becomes made more s cs kept c q e p = p (without_code stays gone c) ∙ ap
      (λ l. all_before (map before_of made) (store_if_any l (without_code stays gone c))) e ∙
      store_is made s cs c q

  -- ---- alternatives

  arms_without : (as' : List (Shape × Code)) → arms_of (map (without_arm stays gone) as') ≡
      without_arms stays gone (arms_of as')
  unfolding without_act
  arms_without [] = refl
  arms_without (a ∷ as') = ap (arm a.0 (without_code stays gone a.1)) (arms_without as')

  pub case_without : (v w : Val) (made alts : List Alt) → w ≡ without_val gone v
      → map arm_of made ≡ map (without_arm stays gone) (map arm_of alts)
      → act_of (Case w made) ≡ without_act stays gone (act_of (Case v alts))
  unfolding without_act
  case_without v w made alts f e =
      act_of-Case w made ∙ (λ i. case (f i) (arms_of (e i))) ∙ ap (case (without_val gone v))
      (arms_without (map arm_of alts)) ∙ ap (without_act stays gone) (sym (act_of-Case v alts))
