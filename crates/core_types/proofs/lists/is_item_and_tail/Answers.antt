use Rattle.std.proofs.Common.{◌≡◌, ℕ, ◌≤◌, ◌<◌, Bool, true, false, List, [], ◌∷◌, length, refl, ap, ◌∙◌, arith}
use Rattle.std.specs.Prelude.{◌&&◌}
use Rattle.core_types.specs.declared.source.Written as code-written
use Rattle.core_types.specs.SourceOf.{written, types_in}
use Rattle.core_types.specs.Lists.{is_var, is_applied, is_item_and_tail}
use Rattle.core_types.proofs.lists.is_item_and_tail.Goals as goal

and_false : (b : Bool) → false ≡ (b && false)
and_false true = refl
and_false false = refl

few_types : (name n : ℕ) (ts : List code-written.Written) → length ts < 2
    → false ≡ is_item_and_tail name n (types_in ts)
few_types name n [] l = refl
few_types name n (t ∷ []) l = and_false (is_var n (written t))
few_types name n (t ∷ u ∷ ts) l = absurd (omega (arith, l))

many_types : (name n : ℕ) (ts : List code-written.Written) → 3 ≤ length ts
    → false ≡ is_item_and_tail name n (types_in ts)
many_types name n [] l = absurd (omega (arith, l))
many_types name n (t ∷ []) l = absurd (omega (arith, l))
many_types name n (t ∷ u ∷ []) l = absurd (omega (arith, l))
many_types name n (t ∷ u ∷ v ∷ ts) l =
    and_false (is_var n (written t)) ∙ ap (λ b. is_var n (written t) && b)
    (and_false (is_applied name n (written u)))

pub returns-in_default : goal.returns-in_default
returns-in_default c = few_types c.args.type_name.0 c.args.name.0 c.args.fields.now (omega arith)

pub returns-in_default-2 : goal.returns-in_default-2
returns-in_default-2 c = many_types c.args.type_name.0 c.args.name.0 c.args.fields.now (omega arith)
