-- What the loops over tags and alternatives keep.
use Rattle.std.proofs.Common.{◌≡◌, ℕ, Bool, ◌||◌, true, false, cond, List, [], ◌∷◌, ◌++◌, map, Option, refl, sym, ap, ◌∙◌}
use Rattle.std.specs.List.{list_any}
use Rattle.grin_syntax.specs.declared.program.TagId.{TagId}
use Rattle.grin_syntax.specs.declared.program.Shape.{Shape}
use Rattle.grin_syntax.specs.declared.program.Alt.{Alt}
use Rattle.grin_syntax.specs.Tree.{Code, Arms, no_arm, arm, arm_of, code_of, arms_of}
use Rattle.grin_syntax.proofs.TreeOf.{arm_of-parts}
use Rattle.seq.proofs.Lists.{map_push}
use Rattle.pass_known.specs.Needed.{arm_may_match, tags_left_after, needed_arms}

pub any_number : (test : ℕ → Bool) (ts : List TagId)
    → list_any test (map (λ (t : TagId). t.0) ts) ≡ list_any (λ (t : TagId). test t.0) ts
any_number test [] = refl
any_number test (t ∷ ts) = ap (λ b. test t.0 || b) (any_number test ts)

-- alternatives before others
abbrev pub before : List (Shape × Code) → Arms → Arms
before [] rest = rest
before (a ∷ as') rest = arm a.0 a.1 (before as' rest)

before_push : (as' : List (Shape × Code)) (a : Shape × Code) (rest : Arms)
    → before (as' ++ a ∷ []) rest ≡ before as' (arm a.0 a.1 rest)
before_push [] a rest = refl
before_push (b ∷ as') a rest = ap (arm b.0 b.1) (before_push as' a rest)

before_none : (as' : List (Shape × Code)) → before as' no_arm ≡ arms_of as'
before_none [] = refl
before_none (a ∷ as') = ap (arm a.0 a.1) (before_none as')

before_more : (alts : List Alt) (a : Alt) (rest : Arms)
    → before (map arm_of (alts ++ a ∷ [])) rest ≡ before (map arm_of alts)
    (arm a.pattern (code_of a.body) rest)
before_more alts a rest = ap (λ l. before l rest) (map_push arm_of alts a) ∙ before_push
    (map arm_of alts) (arm_of a) rest ∙ ap (λ q. before (map arm_of alts) (arm q.0 q.1 rest))
    (arm_of-parts a)

-- these alternatives are what is left of those, and these tags are left to what follows
pub record Chosen (first left : Option (List ℕ)) (made from : List Alt) : Type 0 where
  pub by : (rest : Arms) → needed_arms first (before (map arm_of from) rest) ≡ before
      (map arm_of made) (needed_arms left rest)

module _ (first left : Option (List ℕ)) (made from : List Alt) (a : Alt)
    (c : Chosen first left made from) where
  one_more : (rest : Arms) → needed_arms first (before (map arm_of (from ++ a ∷ [])) rest) ≡ before
      (map arm_of made) (needed_arms left (arm a.pattern (code_of a.body) rest))
  one_more rest = ap (needed_arms first) (before_more from a rest) ∙ c.by
      (arm a.pattern (code_of a.body) rest)

  pub one_chosen : (next : Option (List ℕ)) → arm_may_match left a.pattern ≡ true
      → next ≡ tags_left_after left a.pattern → Chosen first next (made ++ a ∷ []) (from ++ a ∷ [])
  one_chosen next n l = record {
    by = λ rest. one_more rest
        ∙ ap (λ b. before (map arm_of made)
        (cond b (arm a.pattern (code_of a.body)
        (needed_arms (tags_left_after left a.pattern) rest)) (needed_arms left rest))) n
        ∙ ap (λ k. before (map arm_of made) (arm a.pattern (code_of a.body) (needed_arms k rest)))
        (sym l) ∙ sym (before_more made a (needed_arms next rest));
  }

  pub one_dropped : arm_may_match left a.pattern ≡ false → Chosen first left made (from ++ a ∷ [])
  one_dropped n = record {
    by = λ rest. one_more rest
        ∙ ap (λ b. before (map arm_of made)
        (cond b (arm a.pattern (code_of a.body)
        (needed_arms (tags_left_after left a.pattern) rest)) (needed_arms left rest))) n;
  }

pub all_chosen : (first left : Option (List ℕ)) (made from alts : List Alt) → from ≡ alts
    → Chosen first left made from → arms_of (map arm_of made) ≡ needed_arms first
    (arms_of (map arm_of alts))
all_chosen first left made from alts e c = sym (before_none (map arm_of made)) ∙ sym (c.by no_arm) ∙
    ap (needed_arms first) (before_none (map arm_of from)) ∙ ap
    (λ l. needed_arms first (arms_of (map arm_of l))) e
