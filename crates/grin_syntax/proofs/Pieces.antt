-- Lists of statements and alternatives that grow at their end.
use Rattle.std.proofs.Common.{◌≡◌, ◌+◌, List, [], ◌∷◌, ◌++◌, map, refl, ap}
use Rattle.grin_syntax.specs.declared.program.Alt.{Alt}
use Rattle.grin_syntax.specs.declared.program.Stmt.{Stmt}
use Rattle.grin_syntax.specs.declared.program.Shape.{Shape}
use Rattle.grin_syntax.specs.Tree.{Code, Arms, no_arm, arm, before_of, arm_of, code_of, all_before, arms_of}
use Rattle.grin_syntax.proofs.TreeOf.{arm_of-parts}

-- alternatives before further ones
abbrev pub all_arms : List (Shape × Code) → Arms → Arms
all_arms [] r = r
all_arms (a ∷ as') r = arm a.0 a.1 (all_arms as' r)

pub all_arms_none : (as' : List (Shape × Code)) → all_arms as' no_arm ≡ arms_of as'
all_arms_none [] = refl
all_arms_none (a ∷ as') = ap (arm a.0 a.1) (all_arms_none as')

pub all_arms_push : (as' : List Alt) (a : Alt) (r : Arms)
    → all_arms (map arm_of (as' ++ a ∷ [])) r ≡ all_arms (map arm_of as')
    (arm a.pattern (code_of a.body) r)
all_arms_push [] a r = ap (λ x. arm x.0 x.1 r) (arm_of-parts a)
all_arms_push (b ∷ as') a r = ap (arm (arm_of b).0 (arm_of b).1) (all_arms_push as' a r)

pub all_before_push : (ss : List Stmt) (s : Stmt) (c : Code)
    → all_before (map before_of (ss ++ s ∷ [])) c ≡ all_before (map before_of ss) (before_of s c)
all_before_push [] s c = refl
all_before_push (x ∷ ss) s c = ap (before_of x) (all_before_push ss s c)

pub arms_push : (as' : List Alt) (a : Alt) (r : Arms)
    → all_arms (map arm_of (as' ++ a ∷ [])) r ≡ all_arms (map arm_of as')
    (arm (arm_of a).0 (arm_of a).1 r)
arms_push [] a r = refl
arms_push (b ∷ as') a r = ap (arm (arm_of b).0 (arm_of b).1) (arms_push as' a r)
