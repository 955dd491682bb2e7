use Rattle.std.proofs.Common.{◌≡◌, ℕ, ◌≤◌, Bool, true, false, List, [], ◌∷◌, length, refl, arith}
use Rattle.std.specs.Prelude.{◌&&◌}
use Rattle.core_types.specs.declared.source.Written as code-written
use Rattle.core_types.specs.SourceOf.{written, types_in}
use Rattle.core_types.specs.Lists.{is_var, is_one_var}
use Rattle.core_types.proofs.lists.is_one_var.Goals as goal

and_false : (b : Bool) → false ≡ (b && false)
and_false true = refl
and_false false = refl

two_types : (n : ℕ) (ts : List code-written.Written) → 2 ≤ length ts
    → false ≡ is_one_var n (types_in ts)
two_types n [] l = absurd (omega (arith, l))
two_types n (t ∷ []) l = absurd (omega (arith, l))
two_types n (t ∷ u ∷ ts) l = and_false (is_var n (written t))

pub returns-in_default-2 : goal.returns-in_default-2
returns-in_default-2 c = two_types c.args.name.0 c.args.types.now (omega arith)
