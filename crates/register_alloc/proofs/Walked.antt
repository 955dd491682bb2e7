-- Lists that grow with a walk over a block.
use Rattle.std.proofs.Common.{◌≡◌, ℕ, zero, suc, ◌≤◌, List, [], ◌∷◌, ◌++◌, map, drop, length, Some, slice_get, refl, sym, ap, ◌∙◌, arith}
use Rattle.low_code.specs.declared.program.LowStmt.{LowStmt}
use Rattle.low_code.specs.declared.program.LowArm.{LowArm}
use Rattle.low_code.specs.declared.program.LowTest.{LowTest}
use Rattle.low_code.proofs.TreeOf.{arm_of-parts}
use Rattle.low_code.specs.Tree.{Code, Arms, arm, code_of, before_of, arm_of, all_before, arms_before}

pub nothing_more : {A : Type 0} (xs : List A) → xs ≡ xs ++ []
nothing_more [] = refl
nothing_more (x ∷ xs) = ap (λ ys. x ∷ ys) (nothing_more xs)

pub in_front : {A : Type 0} (x : A) (xs ys : List A) → xs ++ (x ∷ ys) ≡ (xs ++ (x ∷ [])) ++ ys
in_front x [] ys = refl
in_front x (z ∷ xs) ys = ap (λ l. z ∷ l) (in_front x xs ys)

pub grouped : {A : Type 0} (xs ys zs : List A) → xs ++ (ys ++ zs) ≡ (xs ++ ys) ++ zs
grouped [] ys zs = refl
grouped (x ∷ xs) ys zs = ap (λ l. x ∷ l) (grouped xs ys zs)

-- ---- the statements and arms that are still to come

-- what was gathered, and what the statements from the k-th on and the end have, is what the whole
-- block has
module _ {A : Type 0} (has : Code → List A) where
  abbrev pub StmtsLeft : (old now : List A) → List LowStmt → (k : ℕ) → Type 0
  StmtsLeft old now ss k = (c : Code) → old ++ has (all_before (map before_of ss) c) ≡ now
      ++ has (all_before (map before_of (drop k ss)) c)

  pub stmts_next : (old now new : List A) (ss : List LowStmt) (k : ℕ) (s : LowStmt)
      → slice_get ss k ≡ Some s
      → ((c : Code) → now ++ has (before_of s c) ≡ new ++ has c) → StmtsLeft old now ss k
      → StmtsLeft old new ss (suc k)
  stmts_next old now new ss k s there one left c = left c ∙ step ss k there
    where
      step : (xs : List LowStmt) (j : ℕ) → slice_get xs j ≡ Some s → now
          ++ has (all_before (map before_of (drop j xs)) c) ≡ new
          ++ has (all_before (map before_of (drop (suc j) xs)) c)
      step [] j e = cc
      step (x ∷ xs) zero e = let q : x ≡ s = cc in ap
          (λ y. now ++ has (before_of y (all_before (map before_of xs) c))) q ∙ one
          (all_before (map before_of xs) c)
      step (x ∷ xs) (suc j) e = step xs j e

  module _ (arms_have : Arms → List A) where
    abbrev pub ArmsLeft : (old now : List A) → List LowArm → (k : ℕ) → Type 0
    ArmsLeft old now as' k = (c : Code) → old ++ arms_have (arms_before (map arm_of as') c) ≡ now
        ++ arms_have (arms_before (map arm_of (drop k as')) c)

    pub each_arm_next : (arm_has : List LowTest → Code → List A)
        → ((ts : List LowTest) (b : Code) (rest : Arms) → arms_have (arm ts b rest) ≡ arm_has ts b
        ++ arms_have rest)
        → (old now new : List A) (as' : List LowArm) (k : ℕ) (a : LowArm) → slice_get as' k ≡ Some a
        → new ≡ now ++ arm_has a.tests (code_of a.block) → ArmsLeft old now as' k
        → ArmsLeft old new as' (suc k)
    each_arm_next arm_has each old now new as' k a there one left c = left c ∙ step as' k there
      where
        step : (xs : List LowArm) (j : ℕ) → slice_get xs j ≡ Some a
            → now ++ arms_have (arms_before (map arm_of (drop j xs)) c) ≡ new
            ++ arms_have (arms_before (map arm_of (drop (suc j) xs)) c)
        step [] j e = cc
        step (x ∷ xs) zero e =
            let q : x ≡ a = cc in
            let rest = arms_before (map arm_of xs) c in
            ap (λ y. now ++ arms_have (arm (arm_of y).0 (arm_of y).1 rest)) q
            ∙ ap (λ p. now ++ arms_have (arm p.0 p.1 rest)) (arm_of-parts a)
            ∙ ap (λ l. now ++ l) (each a.tests (code_of a.block) rest)
            ∙ grouped now (arm_has a.tests (code_of a.block)) (arms_have rest)
            ∙ ap (λ l. l ++ arms_have rest) (sym one)
        step (x ∷ xs) (suc j) e = step xs j e

    pub arms_next :
        ((ts : List LowTest) (b : Code) (rest : Arms) → arms_have (arm ts b rest) ≡ has b
        ++ arms_have rest)
        → (old now new : List A) (as' : List LowArm) (k : ℕ) (a : LowArm) → slice_get as' k ≡ Some a
        → new ≡ now ++ has (code_of a.block) → ArmsLeft old now as' k → ArmsLeft old new as' (suc k)
    arms_next each old now new as' k a there one left
        = each_arm_next (λ ts b. has b) each old now new as' k a there one left

  pub block_whole : (old now new : List A) (ss : List LowStmt) (k : ℕ) (e : Code) → length ss ≤ k
      → StmtsLeft old now ss k → new ≡ now ++ has e
      → new ≡ old ++ has (all_before (map before_of ss) e)
  block_whole old now new ss k e past left is = is ∙ ap
      (λ xs. now ++ has (all_before (map before_of xs) e)) (sym (none ss k past)) ∙ sym (left e)
    where
      none : {B : Type 0} (xs : List B) (j : ℕ) → length xs ≤ j → drop j xs ≡ []
      none [] zero h = refl
      none [] (suc j) h = refl
      none (x ∷ xs) zero h = absurd (omega arith)
      none (x ∷ xs) (suc j) h = none xs j (omega arith)
