-- Small facts: of tests, of lists, and of the variables that are bound.
use Rattle.std.proofs.Common.{◌≡◌, ◌≢◌, ℕ, zero, suc, ◌+◌, ◌<◌, ◌≤◌, Bool, true, false, cond, nat_eq, List, [], ◌∷◌, Option, Some, None, refl, sym, ap, ◌∙◌, subst, arith}
use Rattle.seq.proofs.Order.{differs_from}
use Rattle.grin_syntax.specs.declared.program.VarId.{VarId}
use Rattle.grin_syntax.specs.declared.program.Shape.{Shape}
use Rattle.grin_syntax.specs.declared.program.Shape.TheVariants as shape
use Rattle.grin_syntax.specs.Binders.{numbers_of, shape_vars}
use Rattle.grin_syntax.specs.Formed.{AllOf, InScope}
use Rattle.grin_syntax.specs.Tree.{Program}
use Rattle.grin_syntax.proofs.Counted.{fresh}
use Rattle.grin_meaning.specs.Values.{Datum, number, tag, cell, Node, Value, Binding, one_each, fits, fits_not, fits_if, fields_fit, node_fit, number_fit, int_fit, fit_of, as_node}
use Rattle.numbers.specs.Numbers.{same_number}
use Rattle.pass_ground.proofs.Bound.{names_of, one_each_names}
use Rattle.seq.proofs.Counted.{counts, one_at}

-- where it holds of each number that stands in the list
pub all_in : (P : ℕ → Type 0) (xs : List ℕ) → ((y : ℕ) → InScope xs y → P y) → AllOf P xs
all_in P [] f = tt
all_in P (x ∷ xs) f = (f x (first x (one_at x)), all_in P xs (λ y i. f y (later y i)))
  where
    first : (x : ℕ) → counts (nat_eq x x) ≡ 1 → InScope (x ∷ xs) x
    first x e = omega (arith, e)

    later : (y : ℕ) → InScope xs y → InScope (x ∷ xs) y
    later y i = omega (arith, i)

-- one of the variables in a row
pub fresh_in : (x y k : ℕ) → y ≤ x → x < y + k → 1 ≤ fresh x y k
fresh_in x y zero le lt = absurd (omega arith)
fresh_in x y (suc k) le lt = go (nat_eq x y) refl (fresh_in x (suc y) k)
  where
    go : (b : Bool) → nat_eq x y ≡ b → (suc y ≤ x → x < suc y + k → 1 ≤ fresh x (suc y) k)
        → 1 ≤ counts b + fresh x (suc y) k
    go true e f = omega arith
    go false e f =
        let ne : x ≢ y = differs_from x y e in
        let r : 1 ≤ fresh x (suc y) k = f (omega (arith, ne, le)) (omega (arith, lt)) in
        omega (arith, r)

-- what a pattern binds is as P says of its variables
pub fit_names : (P : ℕ → Type 0) (g : Program) (s : Shape) (v : Value) (bs : List Binding)
    → AllOf P (shape_vars s) → fit_of g s v ≡ fits bs → AllOf P (names_of bs)
fit_names P g (shape.Node t xs) v bs h e = go (as_node g v) e
  where
    fields : (ys : List VarId) (ds : List Datum) → AllOf P (numbers_of ys)
        → fields_fit ys ds ≡ fits bs → AllOf P (names_of bs)
    fields [] ds a q = let same : [] ≡ bs = cc in subst (λ l. AllOf P (names_of l)) same tt
    fields (y ∷ ys) ds a q = one (one_each (y ∷ ys) ds) refl q
      where
        one : (o : Option (List Binding)) → one_each (y ∷ ys) ds ≡ o → fits_if o ≡ fits bs
            → AllOf P (names_of bs)
        one None k r = cc
        one (Some cs) k r =
            let same : cs ≡ bs = cc in
            subst (AllOf P) (sym (one_each_names (y ∷ ys) ds bs (k ∙ ap Some same))) a

    by_tag : (n : Node) (b : Bool) → cond b (fields_fit xs n.fields) fits_not ≡ fits bs
        → AllOf P (names_of bs)
    by_tag n true q = fields xs n.fields h q
    by_tag n false q = cc

    go : (o : Option Node) → node_fit t.0 xs o ≡ fits bs → AllOf P (names_of bs)
    go None q = cc
    go (Some n) q = by_tag n (nat_eq n.tag t.0) q
fit_names P g (shape.Int k) v bs h e = go (as_node g v) e
  where
    at : (b : Bool) → cond b (fits []) fits_not ≡ fits bs → AllOf P (names_of bs)
    at true q = let same : [] ≡ bs = cc in subst (λ l. AllOf P (names_of l)) same tt
    at false q = cc

    on : (ds : List Datum) (b : Bool) → cond b (number_fit k ds) fits_not ≡ fits bs
        → AllOf P (names_of bs)
    on ds false q = cc
    on [] true q = cc
    on (number j ∷ ds) true q = at (same_number k j) q
    on (tag j ∷ ds) true q = cc
    on (cell j ∷ ds) true q = cc

    go : (o : Option Node) → int_fit k o ≡ fits bs → AllOf P (names_of bs)
    go None q = cc
    go (Some n) q = on n.fields (nat_eq n.tag 0) q
fit_names P g shape.Else v bs h e = let same : [] ≡ bs = cc
    in subst (λ l. AllOf P (names_of l)) same tt
