-- What the cells that are left ask of the pieces of a program: nothing is fetched from a cell that
-- leaves, or put into it; and the variables of such cells alone are gone.
use Rattle.std.proofs.Common.{◌≡◌, ℕ, Bool, true, false, not, List, [], ◌∷◌}
use Rattle.grin_syntax.specs.declared.program.Cell.{Cell}
use Rattle.grin_syntax.specs.declared.program.Word.{Word}
use Rattle.grin_syntax.specs.Tree.{Code, end, store, bind, Act, leaf, unit, fetch, fetch_word, update, eval, apply, case, nested, Arms, no_arm, arm, Program}
use Rattle.grin_syntax.specs.Binders.{target_vars, shape_vars}
use Rattle.grin_syntax.specs.Formed.{AllOf}
use Rattle.grin_meaning.specs.Ready.{NoNodeVar}
use Rattle.flow_system.specs.declared.fact.Element.TheVariants.{Cell as cell_of}
use Rattle.flow_system.specs.Tables.{tables}
use Rattle.flow_system.specs.Solution.{Solution, StandsFor}
use Rattle.seq.specs.Lists.{In, here, there}

-- what holds of each holds of all
pub of_each : {X : Type 0} (P : X → Type 0) (xs : List X) → ((x : X) → In x xs → P x) → AllOf P xs
of_each P [] h = tt
of_each P (x ∷ xs) h = (h x here, of_each P xs (λ y k. h y (there k)))

module _ (A : Solution) (g : Program) (stays : ℕ → Bool) where
  -- all cells for which the word may stand stay
  abbrev pub WordStays : Word → Type 0
  WordStays a = (s : ℕ) → StandsFor (tables g) A a (cell_of s) → stays s ≡ true

  module _ (gone : ℕ → Bool) where
    abbrev pub IsThere : ℕ → Type 0
    IsThere x = gone x ≡ false

    abbrev pub CellFine : Cell → Type 0
    CellFine c = (gone c.var.0 ≡ not (stays c.site.0)) × NoNodeVar c.val

    unfoldable mutual
      pub ActFine : Act → Type 0
      ActFine (leaf (unit v)) = NoNodeVar v
      ActFine (leaf (fetch a)) = ⊥
      ActFine (leaf (fetch_word a i)) = WordStays a
      ActFine (leaf (update a v)) = WordStays a × NoNodeVar v
      ActFine (leaf (eval a)) = ⊥
      ActFine (leaf (apply v a)) = ⊥
      ActFine (case v as') = NoNodeVar v × ArmsFine as'
      ActFine (nested b) = CodeFine b
      ActFine _ = Unit {0}

      pub CodeFine : Code → Type 0
      CodeFine (end o) = ActFine o
      CodeFine (store cs b) = AllOf CellFine cs × CodeFine b
      CodeFine (bind t o b) = AllOf IsThere (target_vars t) × ActFine o × CodeFine b

      pub ArmsFine : Arms → Type 0
      ArmsFine no_arm = Unit {0}
      ArmsFine (arm s b as') = (shape_vars s ≡ []) × CodeFine b × ArmsFine as'
