-- The case on a node's tag that comes next after its fetch, other fetches aside, and what is used
-- outside its alternatives.
use Rattle.std.specs.Prelude.{ℕ, Bool, true, false, cond, ◌||◌, ◌&&◌, ◌∷◌}
use Rattle.grin_syntax.specs.declared.program.Val as V
use Rattle.grin_syntax.specs.declared.program.Val.TheVariants.{Vector}
use Rattle.grin_syntax.specs.declared.program.Shape.{Shape}
use Rattle.grin_syntax.specs.declared.program.Shape.TheVariants.{Int}
use Rattle.grin_syntax.specs.Tree.{Code, end, store, bind, Act, leaf, fetch, fetch_word, case, Arms, no_arm, arm}
use Rattle.pass_ground.specs.Uses.{word_is, val_uses, act_uses, code_uses}

-- a vector whose first word is the variable t
abbrev pub begins_with : ℕ → V.Val → Bool
begins_with t (Vector (a ∷ ws)) = word_is t a
begins_with t _ = false

abbrev pub is_int : Shape → Bool
is_int (Int k) = true
is_int _ = false

-- an integer pattern tests the word after the tag
abbrev pub tests_number : Arms → Bool
tests_number no_arm = false
tests_number (arm s b as') = is_int s || tests_number as'

-- the words of a case's vector that decide which alternative is taken
abbrev pub vector_uses : (tests : Bool) → ℕ → V.Val → Bool
vector_uses tests x (Vector (a ∷ (b ∷ ws))) = word_is x a || (tests && word_is x b)
vector_uses tests x v = val_uses x v

-- the operation is a case on the vector of t
abbrev pub is_case_on_tag : ℕ → Act → Bool
is_case_on_tag t (case v as') = begins_with t v
is_case_on_tag t _ = false

abbrev pub is_passed : Act → Bool
is_passed (leaf (fetch a)) = true
is_passed (leaf (fetch_word a i)) = true
is_passed _ = false

-- the case on the vector of t comes next, fetches aside
unfoldable pub owns : ℕ → Code → Bool
owns t (end o) = is_case_on_tag t o
owns t (store cs b) = false
owns t (bind u o b) = cond (is_passed o) (owns t b) (is_case_on_tag t o)

-- x decides which alternative of a case is taken; of another operation, x is used in it
abbrev pub decides : ℕ → Act → Bool
decides x (case v as') = vector_uses (tests_number as') x v
decides x o = act_uses x o

abbrev pub act_outside : (t x : ℕ) → Act → Bool
act_outside t x o = cond (is_case_on_tag t o) (decides x o) (act_uses x o)

-- x is used in a block, outside the alternatives of the case on the vector of t where that comes
-- next
unfoldable pub outside : (t x : ℕ) → Code → Bool
outside t x (end o) = act_outside t x o
outside t x (store cs b) = code_uses x (store cs b)
outside t x (bind u o b) =
    cond (is_passed o) (act_uses x o || outside t x b) (act_outside t x o || code_uses x b)
