-- Alternatives, one after the other: the last one needs no test.
use Rattle.std.proofs.Common.{◌≡◌, ◌≤◌, ◌<◌, ℕ, ◌+◌, ◌-◌, List, [], ◌∷◌, ◌++◌, map, length, take, get_or, refl, sym, ap, ◌∙◌, subst, arith}
use Rattle.std.specs.declared.alloc.Global.{Global}
use Rattle.std.specs.declared.boxed.Box.{Box}
use Rattle.std.proofs.lemmas.List.{take_more, take_all}
use Rattle.grin_syntax.specs.declared.program.Alt.{Alt}
use Rattle.grin_syntax.specs.declared.program.Shape.{Shape}
use Rattle.grin_syntax.specs.Tree.{Code, Arms, no_arm, arm, arm_of, code_of, arms_of}
use Rattle.grin_syntax.proofs.TreeOf.{arm_of-parts}
use Rattle.low_code.specs.declared.program.LowArm.{LowArm}
use Rattle.low_code.specs.declared.program.LowBlock.{LowBlock}
use Rattle.low_code.specs.declared.program.LowEnd.TheVariants.{Choose}
use Rattle.low_code.specs.declared.program.LowTest.{LowTest}
use Rattle.low_code.specs.declared.program.Operand.{Operand}
use Rattle.low_code.specs.Tree as low
use Rattle.low_code.proofs.TreeOf as low_tree
use Rattle.low_translate.specs.declared.blocks.Goal.{Goal}
use Rattle.low_translate.specs.Translation.{code_numbers, arms_numbers, arms_code, tests}
use Rattle.low_translate.specs.Lowered.{ArmsRanged, ShapeRanged}
use Rattle.low_translate.specs.Emitted.{BlockDone, ArmsDone}
use Rattle.grin_syntax.proofs.Pieces.{all_arms_push, all_arms}

pub all_arms_last : (as' : List Alt) (a : Alt) → all_arms (map arm_of as')
    (arm a.pattern (code_of a.body) no_arm) ≡ arms_of (map arm_of (as' ++ a ∷ []))
all_arms_last [] a = ap (λ x. arm x.0 x.1 no_arm) (sym (arm_of-parts a))
all_arms_last (b ∷ as') a = ap (arm (arm_of b).0 (arm_of b).1) (all_arms_last as' a)

-- arms of low code before further ones
abbrev pub low_arms : List (List LowTest × low.Code) → low.Arms → low.Arms
low_arms [] r = r
low_arms (a ∷ as') r = low.arm a.0 a.1 (low_arms as' r)

pub low_arms_push : (as' : List LowArm) (a : LowArm) (r : low.Arms)
    → low_arms (map low.arm_of (as' ++ a ∷ [])) r ≡ low_arms (map low.arm_of as')
    (low.arm a.tests (low.code_of a.block) r)
low_arms_push [] a r = ap (λ x. low.arm x.0 x.1 r) (low_tree.arm_of-parts a)
low_arms_push (b ∷ as') a r = ap (low.arm (low.arm_of b).0 (low.arm_of b).1) (low_arms_push as' a r)

pub low_arms_last : (as' : List (List LowTest × low.Code)) (c : low.Code)
    → low.arms_before as' c ≡ low_arms as' (low.otherwise c)
low_arms_last [] c = refl
low_arms_last (a ∷ as') c = ap (low.arm a.0 a.1) (low_arms_last as' c)

pub no_items : {A : Type 0} (xs : List A) → length xs < 1 → xs ≡ []
no_items [] h = refl
no_items (x ∷ xs) h = absurd (omega (arith, h))

-- a choice without arms
pub choice_is : (arms : List LowArm) (b : Box LowBlock Global) (block : LowBlock) → arms ≡ []
    → b.value ≡ block → low.code_of block ≡ low.fail
    → low.end_of (Choose arms b) ≡ low.choose (low.otherwise low.fail)
choice_is arms b block e q h = low_tree.end_of-Choose arms b ∙
    (λ i. low.choose (low.arms_before (map low.arm_of (e i)) ((ap low.code_of q ∙ h) i)))

pub choice_with : (arms : List LowArm) (b : Box LowBlock Global) (block : LowBlock)
    → b.value ≡ block → low.end_of (Choose arms b) ≡ low.choose
    (low.arms_before (map low.arm_of arms) (low.code_of block))
choice_with arms b block q = low_tree.end_of-Choose arms b ∙ ap
    (λ x. low.choose (low.arms_before (map low.arm_of arms) (low.code_of x))) q

-- the items before the last one, and the last one
pub all_items : {A : Type 0} (xs : List A) (i : ℕ) (x : A) → 0 < length xs
    → x ≡ get_or xs (length xs - 1) x → length (take (length xs - 1) xs) ≤ i
    → xs ≡ take i (take (length xs - 1) xs) ++ x ∷ []
all_items xs i x h e le =
    let lt : length xs - 1 < length xs = omega (arith, h) in
    let n : length xs - 1 + 1 ≡ length xs = omega (arith, h) in
    sym (take_all (length xs) xs (omega arith)) ∙ ap (λ k. take k xs) (sym n) ∙ take_more xs
    (length xs - 1) x lt
    ∙ (λ j. sym (take_all i (take (length xs - 1) xs) le) j ++ sym e j ∷ [])

module _ (w : ℕ) (rs : List ℕ) (goal : Goal) (words : List Operand) where
  -- the arms `made`, before those of one alternative or more, are those of the alternatives `from`
  -- and these
  pub record ArmsSoFar (start next : ℕ) (made : List LowArm) (from : List Alt) : Type 0 where
    pub is : (s : Shape) (b : Code) (more : Arms) → low_arms (map low.arm_of made)
        (arms_code w rs goal next words (arm s b more)) ≡ arms_code w rs goal start words
        (all_arms (map arm_of from) (arm s b more))
    pub numbers : (more : Arms) → next + arms_numbers w rs goal more ≡ start + arms_numbers w rs
        goal (all_arms (map arm_of from) more)
    pub ranged : (s : Shape) (b : Code) (more : Arms) → ArmsRanged (arm s b more)
        → ArmsRanged (all_arms (map arm_of from) (arm s b more))

  pub no_arms_yet : (start : ℕ) → ArmsSoFar start start [] []
  no_arms_yet start = record
      { is = λ s b more. refl; numbers = λ more. refl; ranged = λ s b more h. h }

  pub one_arm_more : (start next next' : ℕ) (made made' : List LowArm) (from : List Alt) (a : Alt)
      (l : LowArm) → ArmsSoFar start next made from
      → l.tests ≡ tests words a.pattern → ShapeRanged a.pattern
      → BlockDone w rs next next' goal (code_of a.body) [] [] (low.code_of l.block)
      → made' ≡ made ++ l ∷ []
      → ArmsSoFar start next' made' (from ++ a ∷ [])
  unfolding arms_code arms_numbers ArmsRanged
  one_arm_more start next next' made made' from a l f t r d m = record {
    is = λ s b more. ap
        (λ k. low_arms (map low.arm_of k) (arms_code w rs goal next' words (arm s b more))) m
        ∙ low_arms_push made l (arms_code w rs goal next' words (arm s b more))
        ∙ (λ i. low_arms (map low.arm_of made)
        (low.arm (t i) (d.is.by i) (arms_code w rs goal (d.numbers i) words (arm s b more))))
        ∙ f.is a.pattern (code_of a.body) (arm s b more)
        ∙ ap (arms_code w rs goal start words) (sym (all_arms_push from a (arm s b more)));
    numbers = λ more.
        let e : next' + arms_numbers w rs goal more ≡ next +
        (code_numbers w rs goal (code_of a.body) + arms_numbers w rs goal more)
        = omega (arith, d.numbers) in
        e ∙ f.numbers (arm a.pattern (code_of a.body) more) ∙ ap
        (λ k. start + arms_numbers w rs goal k) (sym (all_arms_push from a more));
    ranged = λ s b more h. subst ArmsRanged (sym (all_arms_push from a (arm s b more)))
        (f.ranged a.pattern (code_of a.body) (arm s b more) (r, d.ranged, h));
  }

  pub arms_done : (start next next' : ℕ) (made : List LowArm) (from all : List Alt) (a : Alt)
      (c e : low.Code) → ArmsSoFar start next made from
      → BlockDone w rs next next' goal (code_of a.body) [] [] c
      → all ≡ from ++ a ∷ [] → e ≡ low.choose (low.arms_before (map low.arm_of made) c)
      → ArmsDone w rs start next' goal words (arms_of (map arm_of all)) e
  unfolding arms_code arms_numbers ArmsRanged
  arms_done start next next' made from all a c e f d q h = record {
    is = h ∙ ap low.choose
        (low_arms_last (map low.arm_of made) c ∙
        (λ i. low_arms (map low.arm_of made) (low.otherwise (d.is.by i))) ∙ f.is a.pattern
        (code_of a.body) no_arm ∙ ap (arms_code w rs goal start words) (whole));
    numbers =
        let n : next' ≡ next + (code_numbers w rs goal (code_of a.body) + 0)
        = omega (arith, d.numbers) in
        n ∙ f.numbers (arm a.pattern (code_of a.body) no_arm) ∙ ap
        (λ k. start + arms_numbers w rs goal k) whole;
    ranged = subst ArmsRanged whole (f.ranged a.pattern (code_of a.body) no_arm (tt, d.ranged, tt));
  }
    where
      whole : all_arms (map arm_of from) (arm a.pattern (code_of a.body) no_arm) ≡ arms_of
          (map arm_of all)
      whole = all_arms_last from a ∙ ap (λ l. arms_of (map arm_of l)) (sym q)

  pub no_arms_done : (start : ℕ) (all : List Alt) (e : low.Code) → all ≡ []
      → e ≡ low.choose (low.otherwise low.fail) → ArmsDone w rs start start goal words
      (arms_of (map arm_of all)) e
  unfolding arms_code arms_numbers ArmsRanged
  no_arms_done start all e q h = subst
      (λ l. ArmsDone w rs start start goal words (arms_of (map arm_of l)) e) (sym q)
      (record { is = h; numbers = omega arith; ranged = tt })
