-- The tree of each pattern, by those of its parts.
use Rattle.std.proofs.Common.{◌≡◌, ℕ, ℤ, List, map, ap, sym, ◌∙◌}
use Rattle.core_reader.specs.declared.syntax.Binder.{Binder}
use Rattle.match_compile.specs.declared.source.Pat.{fold-roll-Pat}
use Rattle.match_compile.specs.declared.source.Pat as code-pat
use Rattle.match_compile.specs.declared.source.Pat.TheVariants as code
use Rattle.match_compile.specs.declared.source.Pat.TheOpen as layer
use Rattle.match_compile.specs.Source.{Pat, Name, Int, Con}
use Rattle.match_compile.specs.SourceOf.{pat_of, pats_of, pat_layer}

pub pat_of-Name : (b : Binder) → pat_of (code.Name b) ≡ Name b
pat_of-Name b = ap pat_of (sym (code.rolls-Name b)) ∙ fold-roll-Pat Pat pat_layer (layer.Name b)

pub pat_of-Int : (k : ℤ) (at : ℕ) → pat_of (code.Int k at) ≡ Int k at
pat_of-Int k at = ap pat_of (sym (code.rolls-Int k at)) ∙ fold-roll-Pat Pat pat_layer
    (layer.Int k at)

pub pat_of-Con : (c : Binder) (ps : List code-pat.Pat)
    → pat_of (code.Con c ps) ≡ Con c (pats_of (map pat_of ps))
pat_of-Con c ps = ap pat_of (sym (code.rolls-Con c ps)) ∙ fold-roll-Pat Pat pat_layer
    (layer.Con c ps)
