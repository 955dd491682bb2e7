-- What the loops keep.
use Rattle.std.proofs.Common.{◌≡◌, ℕ, ◌+◌, ◌<◌, ◌≤◌, List, [], ◌∷◌, ◌++◌, map, take, length, get_or, refl, sym, ap, ◌∙◌}
use Rattle.std.proofs.lemmas.List.{take_all}
use Rattle.seq.proofs.Lists.{take_next, map_push}
use Rattle.grin_syntax.specs.declared.program.TagId.{TagId}
use Rattle.grin_syntax.specs.declared.program.Shape.{Shape}
use Rattle.grin_syntax.specs.declared.program.Val.{Val}
use Rattle.grin_syntax.specs.declared.program.Alt.{Alt}
use Rattle.grin_syntax.specs.declared.program.Stmt.{Stmt}
use Rattle.grin_syntax.specs.declared.program.Op.TheVariants.{Case}
use Rattle.grin_syntax.specs.Tree.{Code, Act, Leaf, arm, case, act_of, before_of, arm_of, all_before, arms_of}
use Rattle.grin_syntax.proofs.TreeOf.{act_of-Case}
use Rattle.grin_syntax.proofs.Pieces.{all_before_push}
use Rattle.grin_rewrite.specs.Rewriting.{rewrite_act, rewrite_code, rewrite_arms, rewrite_arm}

module _ (rule : Leaf → Act) where
  -- these statements are what becomes of those
  pub record Become (made from : List Stmt) : Type 0 where
    pub by : (c : Code) → all_before (map before_of made) (rewrite_code rule c) ≡ rewrite_code rule
        (all_before (map before_of from) c)

  pub none_become : Become [] []
  none_become = record { by = λ c. refl }

  pub one_more_becomes : (made from : List Stmt) (m s : Stmt) → Become made from
      → ((c : Code) → before_of m (rewrite_code rule c) ≡ rewrite_code rule (before_of s c))
      → Become (made ++ m ∷ []) (from ++ s ∷ [])
  one_more_becomes made from m s u h = record {
    by = λ c. all_before_push made m (rewrite_code rule c) ∙ ap (all_before (map before_of made))
        (h c) ∙ u.by (before_of s c) ∙ ap (rewrite_code rule) (sym (all_before_push from s c));
  }

  arms_rewritten : (as' : List (Shape × Code)) → arms_of (map (rewrite_arm rule) as') ≡ rewrite_arms
      rule (arms_of as')
  unfolding rewrite_act
  arms_rewritten [] = refl
  arms_rewritten (a ∷ as') = ap (arm a.0 (rewrite_code rule a.1)) (arms_rewritten as')

  pub case_rewritten : (v : Val) (made alts : List Alt)
      → map arm_of made ≡ map (rewrite_arm rule) (map arm_of alts)
      → act_of (Case v made) ≡ rewrite_act rule (act_of (Case v alts))
  unfolding rewrite_act
  case_rewritten v made alts e =
      act_of-Case v made ∙ ap (λ as'. case v (arms_of as')) e ∙ ap (case v)
      (arms_rewritten (map arm_of alts)) ∙ ap (rewrite_act rule) (sym (act_of-Case v alts))

-- ---- an alternative for each tag

module _ (f : ℕ → Shape × Code) where
  pub alternative_next : (tags : List TagId) (i : ℕ) (t : TagId) (made : List Alt) (one : Alt)
      → i < length tags → t ≡ get_or tags i t → arm_of one ≡ f t.0
      → map arm_of made ≡ map f (map (λ t. t.0) (take i tags))
      → map arm_of (made ++ one ∷ []) ≡ map f (map (λ t. t.0) (take (i + 1) tags))
  alternative_next tags i t made one lt at e h =
      map_push arm_of made one ∙ (λ j. h j ++ e j ∷ [])
      ∙ sym (map_push f (map (λ t. t.0) (take i tags)) t.0)
      ∙ ap (map f)
      (sym (map_push (λ t. t.0) (take i tags) t) ∙ ap (map (λ t. t.0))
      (sym (take_next tags i t lt at)))

  pub alternatives_done : (tags items : List TagId) (i : ℕ) (made : List Alt) → items ≡ tags
      → length items ≤ i → map arm_of made ≡ map f (map (λ t. t.0) (take i items))
      → map arm_of made ≡ map f (map (λ t. t.0) tags)
  alternatives_done tags items i made e le h = h ∙ ap (λ ts. map f (map (λ t. t.0) ts))
      (take_all i items le ∙ e)
