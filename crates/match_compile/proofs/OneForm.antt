-- Equations have one normal form at most.
use Rattle.std.proofs.Common.{◌≡◌, List, [], ◌∷◌, refl, sym, ◌∙◌}
use Rattle.core_reader.specs.Tree.{Data, Program}
use Rattle.arity_check.specs.declared.normal.Con as constructors
use Rattle.arity_check.specs.Normal.{Pairwise, IsConstructor}
use Rattle.arity_check.proofs.Unique.{normal_one}
use Rattle.match_compile.specs.Source.{Pat, Pats, Equation, Source}
use Rattle.match_compile.specs.Sizes.{functions, rows}
use Rattle.match_compile.specs.Form.{Form, Has, Forms, AndForm, Row, Rows, program_of_heads, IsForm, OfName, OfInt, OfCon, AreForms, NoneOf, OneOf, IsRow, HasHead, AreRows}
use Rattle.match_compile.specs.Laws.{FormIsUnique}
use Rattle.match_compile.proofs.Inserted.{some_is}

-- where each item goes with one at most, a list goes with one list at most
each_one : {X Y : Type 0} (R : X → Y → Type 0)
    → ((x : X) (y z : Y) → R x y → R x z → y ≡ z) → (xs : List X) (ys zs : List Y)
    → Pairwise R xs ys → Pairwise R xs zs → ys ≡ zs
each_one R one [] [] [] a b = refl
each_one R one [] [] (z ∷ zs) a b = absurd b
each_one R one [] (y ∷ ys) zs a b = absurd a
each_one R one (x ∷ xs) [] zs a b = absurd a
each_one R one (x ∷ xs) (y ∷ ys) [] a b = absurd b
each_one R one (x ∷ xs) (y ∷ ys) (z ∷ zs) a b =
    let rest = each_one R one xs ys zs a.1 b.1 in λ i. one x y z a.0 b.0 i ∷ rest i

constructor_one : (p : Program) (d : Data) (g h : constructors.Con) → IsConstructor p d g
    → IsConstructor p d h → g ≡ h
constructor_one p d g h a b =
    let name : g.name ≡ h.name = some_is _ _ (sym a.name ∙ b.name) in
    let fields : g.fields ≡ h.fields = a.fields ∙ sym b.fields in
    λ i. record { name = name i; fields = fields i }

module _ (c : Source) where
  mutual
    form_one : {p : Pat} {f g : Form} → IsForm c p f → IsForm c p g → f ≡ g
    form_one OfName OfName = refl
    form_one OfInt OfInt = refl
    form_one (OfCon {n = n} e a) (OfCon {n = m} d b) =
        let number : n ≡ m = some_is n m (sym e ∙ d) in
        let fields = forms_one a b in
        λ i. Has (number i) (fields i)

    forms_one : {ps : Pats} {fs gs : Forms} → AreForms c ps fs → AreForms c ps gs → fs ≡ gs
    forms_one NoneOf NoneOf = refl
    forms_one (OneOf a as') (OneOf b bs) =
        let first = form_one a b in
        let rest = forms_one as' bs in
        λ i. AndForm (first i) (rest i)

  row_one : (e : Equation) (g h : Row) → IsRow c e g → IsRow c e h → g ≡ h
  row_one e g h a b =
      let pats = forms_one a.pats b.pats in
      let body = normal_one (program_of_heads c) a.body b.body in
      λ i. record { pats = pats i; body = body.0 i }

  same_head : (es : List Equation) (f g : Rows) → HasHead c es f → HasHead c es g
      → (f.name ≡ g.name) × (f.params ≡ g.params)
  same_head [] f g a b = absurd a
  same_head (e ∷ es) f g a b = (some_is _ _ (sym a.0 ∙ b.0), a.1 ∙ sym b.1)

  function_one : (es : List Equation) (f g : Rows) → AreRows c es f → AreRows c es g → f ≡ g
  function_one es f g a b =
      let head = same_head es f g a.head b.head in
      let each = each_one (IsRow c) row_one (rows es) f.rows g.rows a.rows b.rows in
      λ i. record { name = head.0 i; params = head.1 i; rows = each i }

pub one_form : FormIsUnique
one_form c q r a b =
    let cons = each_one (IsConstructor (program_of_heads c)) (constructor_one (program_of_heads c))
    c.constructors q.cons r.cons a.cons b.cons in
    let funs = each_one (AreRows c) (function_one c) (functions c.equations) q.funs r.funs a.funs
    b.funs in
    let main : q.main ≡ r.main = some_is _ _ (sym a.main ∙ b.main) in
    λ i. record { cons = cons i; funs = funs i; main = main i }
