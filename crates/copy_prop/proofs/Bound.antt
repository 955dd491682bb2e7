-- Which variables are bound, and which stay.
use Rattle.std.proofs.Common.{◌≡◌, ℕ, Bool, true, false, cond, nat_eq, List, [], ◌∷◌, length, Option, Some, None, refl, sym, ap, ◌∙◌}
use Rattle.seq.proofs.Lists.{some_is}
use Rattle.seq.proofs.Truth.{neither_left, neither_right}
use Rattle.grin_syntax.specs.declared.program.VarId.{VarId}
use Rattle.grin_syntax.specs.declared.program.Target.{Target}
use Rattle.grin_syntax.specs.declared.program.Target.TheVariants as to
use Rattle.grin_syntax.specs.declared.program.Shape.{Shape}
use Rattle.grin_syntax.specs.declared.program.Shape.TheVariants as shape
use Rattle.grin_syntax.specs.Tree.{Program}
use Rattle.grin_syntax.specs.Binders.{numbers_of, target_vars, shape_vars}
use Rattle.grin_meaning.specs.Values.{Datum, number, tag, cell, Node, Value, node, words, Env, and_then, Binding, with_vars, one_each, padded, fits, fits_not, fields_fit, node_fit, number_fit, int_fit, fit_of, as_node, bindings_of}
use Rattle.seq.specs.Lists.{is_among}
use Rattle.grin_meaning.proofs.Bindings.{fits_is, keys}

pub others_stay : (bs : List Binding) (env : Env) (x : ℕ) → is_among x (keys bs) ≡ false
    → with_vars bs env x ≡ env x
others_stay [] env x h = refl
others_stay (b ∷ bs) env x h = others_stay bs _ x
    (neither_right (nat_eq x b.0) (is_among x (keys bs)) h) ∙ ap (λ t. cond t (Some b.1) (env x))
    (neither_left (nat_eq x b.0) (is_among x (keys bs)) h)

pub names_each : (xs : List VarId) (ds : List Datum) (bs : List Binding) → one_each xs ds ≡ Some bs
    → keys bs ≡ numbers_of xs
names_each [] [] bs e = ap keys (sym (some_is e))
names_each [] (d ∷ ds) bs e = cc
names_each (x ∷ xs) [] bs e = cc
names_each (x ∷ xs) (d ∷ ds) bs e = go (one_each xs ds) refl e (names_each xs ds)
  where
    go : (o : Option (List Binding)) → one_each xs ds ≡ o
        → and_then o (λ cs. Some ((x.0, words (d ∷ [])) ∷ cs)) ≡ Some bs
        → ((cs : List Binding) → one_each xs ds ≡ Some cs → keys cs ≡ numbers_of xs)
        → keys bs ≡ numbers_of (x ∷ xs)
    go None q e k = cc
    go (Some cs) q e k = ap keys (sym (some_is e)) ∙ ap (λ l. x.0 ∷ l) (k cs q)

pub names_target : (g : Program) (t : Target) (v : Value) (bs : List Binding)
    → bindings_of g t v ≡ Some bs → keys bs ≡ target_vars t
names_target g to.Nothing (words []) bs e = ap keys (sym (some_is e))
names_target g to.Nothing (words (d ∷ ds)) bs e = cc
names_target g to.Nothing (node n) bs e = cc
names_target g (to.Node x) v bs e = go (as_node g v) e
  where
    go : (o : Option Node) → and_then o (λ n. Some ((x.0, node n) ∷ [])) ≡ Some bs
        → keys bs ≡ x.0 ∷ []
    go None e = cc
    go (Some n) e = ap keys (sym (some_is e))
names_target g (to.One x) (words []) bs e = cc
names_target g (to.One x) (words (d ∷ [])) bs e = ap keys (sym (some_is e))
names_target g (to.One x) (words (d ∷ (d' ∷ ds))) bs e = cc
names_target g (to.One x) (node n) bs e = cc
names_target g (to.Vector xs) (words ds) bs e = names_each xs ds bs e
names_target g (to.Vector xs) (node n) bs e = names_each xs
    (padded (length xs) (tag n.tag ∷ n.fields)) bs e

-- a pattern without variables binds nothing

pub binds_nothing : (g : Program) (s : Shape) (v : Value) (bs : List Binding) → shape_vars s ≡ []
    → fit_of g s v ≡ fits bs → bs ≡ []
binds_nothing g (shape.Node t []) v bs h e = go (as_node g v) e
  where
    go : (o : Option Node) → node_fit t.0 [] o ≡ fits bs → bs ≡ []
    go None e = cc
    go (Some n) e = at (nat_eq n.tag t.0) e
      where
        at : (b : Bool) → cond b (fields_fit [] n.fields) fits_not ≡ fits bs → bs ≡ []
        at true e = sym (fits_is e)
        at false e = cc
binds_nothing g (shape.Node t (x ∷ xs)) v bs h e = cc
binds_nothing g (shape.Int k) v bs h e = go (as_node g v) e
  where
    of_number : (ds : List Datum) → number_fit k ds ≡ fits bs → bs ≡ []
    of_number [] e = cc
    of_number (number i ∷ ds) e = at (Rattle.numbers.specs.Numbers.same_number k i) e
      where
        at : (b : Bool) → cond b (fits []) fits_not ≡ fits bs → bs ≡ []
        at true e = sym (fits_is e)
        at false e = cc
    of_number (tag t ∷ ds) e = cc
    of_number (cell a ∷ ds) e = cc

    go : (o : Option Node) → int_fit k o ≡ fits bs → bs ≡ []
    go None e = cc
    go (Some n) e = at (nat_eq n.tag 0) e
      where
        at : (b : Bool) → cond b (number_fit k n.fields) fits_not ≡ fits bs → bs ≡ []
        at true e = of_number n.fields e
        at false e = cc
binds_nothing g shape.Else v bs h e = sym (fits_is e)
