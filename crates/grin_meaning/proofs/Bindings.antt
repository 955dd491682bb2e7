-- Bindings: variables in a row, each for one word.
use Rattle.grin_meaning.specs.Values.{Binding, Datum, words, Env, with_vars, fits}
use Rattle.std.proofs.Common.{map, [], List, suc, ℕ, ◌∷◌, arith, false, nat_eq, ◌<◌, ◌≡◌, Some, ap, cond, refl, ◌∙◌}
use Rattle.std.proofs.lemmas.Bool.Decides.{nat_tests}

abbrev pub named : ℕ → List Datum → List Binding
named x [] = []
named x (d ∷ ds) = (x, words (d ∷ [])) ∷ named (suc x) ds

pub nat_eq-below : (x y : ℕ) → y < x → nat_eq y x ≡ false
nat_eq-below x y h = grind (arith, nat_tests)

pub named_below : (x : ℕ) (ds : List Datum) (env : Env) (y : ℕ) → y < x
    → with_vars (named x ds) env y ≡ env y
named_below x [] env y h = refl
named_below x (d ∷ ds) env y h = named_below (suc x) ds _ y (omega arith) ∙ ap
    (λ t. cond t (Some (words (d ∷ []))) (env y)) (nat_eq-below x y h)

pub fits_is : {bs cs : List Binding} → fits bs ≡ fits cs → bs ≡ cs
fits_is h = cc

-- the variables that are bound
abbrev pub keys : List Binding → List ℕ
keys bs = map (λ b. b.0) bs
