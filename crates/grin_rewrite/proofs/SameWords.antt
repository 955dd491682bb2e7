-- A rule that leaves all but cases as they are.
use Rattle.std.proofs.Common.{◌≡◌, List, [], ◌∷◌, refl, sym, ap, ◌∙◌}
use Rattle.seq.proofs.Lists.{map_same}
use Rattle.grin_syntax.specs.declared.program.Cell.{Cell}
use Rattle.grin_syntax.specs.declared.program.Val.{Val}
use Rattle.grin_syntax.specs.declared.program.Val.TheVariants.{NodeVar, Node, Vector, One}
use Rattle.grin_syntax.specs.Tree.{Leaf, leaf, unit, update, apply, call}
use Rattle.grin_rewrite.specs.WithFacts.{WithFacts}
use Rattle.grin_rewrite.specs.ByWords.{val_by, cells_by, leaf_by}
use Rattle.grin_rewrite.proofs.FactText.{ByWords}

val_same : (v : Val) → v ≡ val_by (λ a. a) v
val_same (Node t ws) = ap (Node t) (sym (map_same ws))
val_same (Vector ws) = ap Vector (sym (map_same ws))
val_same (NodeVar x) = refl
val_same (One a) = refl

cells_same : (cs : List Cell) → cs ≡ cells_by (λ a. a) cs
cells_same [] = refl
cells_same (c ∷ cs) = λ i. record c { val = val_same c.val i } ∷ cells_same cs i

leaf_same : (l : Leaf) → leaf l ≡ leaf (leaf_by (λ a. a) l)
leaf_same (unit v) = ap (λ u. leaf (unit u)) (val_same v)
leaf_same (update a v) = ap (λ u. leaf (update a u)) (val_same v)
leaf_same (apply v a) = ap (λ u. leaf (apply u a)) (val_same v)
leaf_same (call f ws) = ap (λ us. leaf (call f us)) (sym (map_same ws))
leaf_same _ = refl

pub words_stay : {F : Type 0} (R : WithFacts F) → ((f : F) (l : Leaf) → R.leaf_becomes f l ≡ leaf l)
    → ((f : F) (v : Val) → R.value_becomes f v ≡ v)
    → ((f : F) (cs : List Cell) → R.cells_become f cs ≡ cs) → ByWords R (λ f a. a)
words_stay R leafs values cells = record {
  leafs = λ f l. leafs f l ∙ leaf_same l;
  values = λ f v. values f v ∙ val_same v;
  cells = λ f cs. cells f cs ∙ cells_same cs;
}
