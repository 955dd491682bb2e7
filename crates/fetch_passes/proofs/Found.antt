-- Small facts: of tests, of variables that are bound, and of the names that stand for variables.
use Rattle.std.proofs.Common.{◌≡◌, ℕ, pos, Bool, true, false, cond, ◌||◌, nat_eq, List, [], ◌∷◌, ◌++◌, map, refl, ◌∙◌}
use Rattle.grin_syntax.specs.declared.program.VarId.{VarId}
use Rattle.grin_syntax.specs.declared.program.Word as W
use Rattle.grin_syntax.specs.declared.program.Word.TheVariants.{Lit, Var}
use Rattle.grin_syntax.specs.Fresh.{variable}
use Rattle.fetch_passes.specs.Names.{Names, DeferredField, stands, as_word, hidden_as_zero, with_hidden}

-- ---- names

abbrev pub is_var : W.Word → Bool
is_var (Var x) = true
is_var _ = false

-- x waits among these
abbrev pub is_waiting : List DeferredField → ℕ → Bool
is_waiting [] x = false
is_waiting (p ∷ ps) x = nat_eq p.var.0 x || is_waiting ps x

pub stands_more : (ks js : Names) (w : W.Word) (x : VarId)
    → stands (ks ++ js) w x ≡ stands js (stands ks w x) x
stands_more [] js w x = refl
stands_more (k ∷ ks) js w x = stands_more ks js (cond (nat_eq k.var.0 x.0) k.word w) x

stands_hidden : (ps : List DeferredField) (w : W.Word) (x : VarId)
    → stands (map hidden_as_zero ps) w x ≡ cond (is_waiting ps x.0) (Lit (pos 0)) w
stands_hidden [] w x = refl
stands_hidden (p ∷ ps) w x = stands_hidden ps (cond (nat_eq p.var.0 x.0) (Lit (pos 0)) w) x ∙ go
    (nat_eq p.var.0 x.0) (is_waiting ps x.0)
  where
    go : (s t : Bool) → cond t (Lit (pos 0)) (cond s (Lit (pos 0)) w) ≡ cond (s || t) (Lit (pos 0))
        w
    go true true = refl
    go true false = refl
    go false true = refl
    go false false = refl

-- what waits is hidden, the others stay
pub hiding_is : (ps : List DeferredField) (ks : Names) (x : VarId)
    → as_word (with_hidden ps ks) (Var x) ≡ cond (is_waiting ps x.0) (Lit (pos 0))
    (as_word ks (Var x))
hiding_is ps ks x = stands_more ks (map hidden_as_zero ps) (Var x) x ∙ stands_hidden ps
    (stands ks (Var x) x) x

-- with one name more
abbrev pub naming : VarId → ℕ → Names → Names
naming x n ks = ks ++ record { var = x; word = Var (variable n) } ∷ []

pub naming_is : (x : VarId) (n : ℕ) (ks : Names) (z : VarId)
    → as_word (naming x n ks) (Var z) ≡ cond (nat_eq x.0 z.0) (Var (variable n))
    (as_word ks (Var z))
naming_is x n ks z = stands_more ks (record { var = x; word = Var (variable n) } ∷ []) (Var z) z
