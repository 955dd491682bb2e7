-- What a target binds, in GRIN and in low code.
use Rattle.std.proofs.Common.{◌≡◌, ◌≤◌, ◌<◌, ℕ, zero, suc, List, [], ◌∷◌, ◌++◌, length, Option, Some, None, refl, sym, ap, ◌∙◌, subst, arith, lit<}
use Rattle.std.proofs.lemmas.List.{length-map}
use Rattle.grin_syntax.specs.declared.program.VarId.{VarId}
use Rattle.grin_syntax.specs.declared.program.Target.{Target}
use Rattle.grin_syntax.specs.declared.program.Target.TheVariants as to
use Rattle.grin_syntax.specs.Binders.{numbers_of, target_vars}
use Rattle.grin_syntax.specs.Formed.{AllOf}
use Rattle.grin_syntax.specs.Tree as grin_tree
use Rattle.grin_meaning.specs.Values as grin
use Rattle.grin_meaning.specs.Values.{Datum, number, tag, cell, Node, Value, node, words, Binding, one_each, padded, bindings_of}
use Rattle.grin_meaning.specs.Ready.{NoNodeTarget}
use Rattle.low_code.specs.Values as low
use Rattle.low_translate.proofs.Images.{word_image, images, words_of_value, fit, fit_whole, InRange, SoundValue, sound_words, none_some}
use Rattle.low_translate.proofs.Operands.{bound, Agrees, agrees_each}

-- the variables of a target
abbrev pub vars_of : Target → List VarId
vars_of to.Nothing = []
vars_of (to.Node x) = x ∷ []
vars_of (to.One x) = x ∷ []
vars_of (to.Vector xs) = xs

-- a word for each of them
pub record Bound (g : grin_tree.Program) (vars : List VarId) (v : Value) (bs : List Binding)
    : Type 0 where
  pub data' : List Datum
  pub each : one_each vars data' ≡ Some bs
  pub same : images data' ≡ fit (length vars) (images (words_of_value v))
  pub few : length (words_of_value v) ≤ length vars
  pub ranged : AllOf InRange data'

pub each_many : (vars : List VarId) (ds : List Datum) (bs : List Binding)
    → one_each vars ds ≡ Some bs → length ds ≡ length vars
each_many [] [] bs h = refl
each_many [] (d ∷ ds) bs h = absurd (none_some h)
each_many (x ∷ vars) [] bs h = absurd (none_some h)
each_many (x ∷ vars) (d ∷ ds) bs h = go (one_each vars ds) refl h (λ l q. each_many vars ds l q)
  where
    go : (o : Option (List Binding)) → one_each vars ds ≡ o
        → grin.and_then o (λ l. Some ((x.0, words (d ∷ [])) ∷ l)) ≡ Some bs
        → ((l : List Binding) → one_each vars ds ≡ Some l → length ds ≡ length vars)
        → suc (length ds) ≡ suc (length vars)
    go None q k rec = absurd (none_some k)
    go (Some l) q k rec = ap suc (rec l q)

padded_same : (k : ℕ) (ds : List Datum) → length (padded k ds) ≡ k
    → images (padded k ds) ≡ fit k (images ds)
padded_same zero [] e = refl
padded_same zero (d ∷ ds) e = absurd (omega (arith, e))
padded_same (suc k) [] e = ap (λ l. low.number 0 ∷ l) (padded_same k [] (omega (arith, e)))
padded_same (suc k) (d ∷ ds) e = ap (λ l. word_image d ∷ l) (padded_same k ds (omega (arith, e)))

padded_few : (k : ℕ) (ds : List Datum) → length (padded k ds) ≡ k → length ds ≤ k
padded_few zero ds e = omega (arith, e)
padded_few (suc k) [] e = omega arith
padded_few (suc k) (d ∷ ds) e = let h = padded_few k ds (omega (arith, e)) in omega (arith, h)

padded_ranged : (k : ℕ) (ds : List Datum) → AllOf InRange ds → AllOf InRange (padded k ds)
padded_ranged zero ds h = h
padded_ranged (suc k) [] h = (lit< tt, padded_ranged k [] tt)
padded_ranged (suc k) (d ∷ ds) h = (h.0, padded_ranged k ds h.1)

words_bound : (g : grin_tree.Program) (vars : List VarId) (ds : List Datum) (bs : List Binding)
    → one_each vars ds ≡ Some bs → AllOf InRange ds → Bound g vars (words ds) bs
words_bound g vars ds bs h r = let m = each_many vars ds bs h in record {
  data' = ds;
  each = h;
  same = sym (fit_whole (images ds) (length vars) (length-map ds word_image ∙ m));
  few = omega (arith, m);
  ranged = r;
}

pub bindings_are : (g : grin_tree.Program) (t : Target) (v : Value) (bs : List Binding)
    → bindings_of g t v ≡ Some bs → NoNodeTarget t → SoundValue g v → Bound g (vars_of t) v bs
bindings_are g (to.Node x) v bs h n s = absurd n
bindings_are g to.Nothing (node m) bs h n s = absurd (none_some h)
bindings_are g to.Nothing (words []) bs h n s = words_bound g [] [] bs h tt
bindings_are g to.Nothing (words (d ∷ ds)) bs h n s = absurd (none_some h)
bindings_are g (to.One x) (node m) bs h n s = absurd (none_some h)
bindings_are g (to.One x) (words []) bs h n s = absurd (none_some h)
bindings_are g (to.One x) (words (d ∷ [])) bs h n s = words_bound g (x ∷ []) (d ∷ []) bs h s
bindings_are g (to.One x) (words (d ∷ (e ∷ ds))) bs h n s = absurd (none_some h)
bindings_are g (to.Vector xs) (words ds) bs h n s = words_bound g xs ds bs h s
bindings_are g (to.Vector xs) (node m) bs h n s =
    let many = each_many xs (padded (length xs) (tag m.tag ∷ m.fields)) bs h in
    record {
      data' = padded (length xs) (tag m.tag ∷ m.fields);
      each = h;
      same = padded_same (length xs) (tag m.tag ∷ m.fields) many;
      few = padded_few (length xs) (tag m.tag ∷ m.fields) many;
      ranged = padded_ranged (length xs) (tag m.tag ∷ m.fields) (sound_words g (node m) s);
    }

pub target_numbers : (t : Target) → numbers_of (vars_of t) ≡ target_vars t
target_numbers to.Nothing = refl
target_numbers (to.Node x) = refl
target_numbers (to.One x) = refl
target_numbers (to.Vector xs) = refl

pub target_many : (t : Target) → length (vars_of t) ≡ length (target_vars t)
target_many t = sym (length-map (vars_of t) (λ x. x.0)) ∙ ap length (target_numbers t)

-- the variables of a target, once they are bound
pub agrees_target : (g : grin_tree.Program) (first : ℕ) (t : Target) (v : Value) (bs : List Binding)
    (scope : List ℕ) (env : grin.Env) (e : low.Env) → Bound g (vars_of t) v bs
    → AllOf (λ x. x < first) (target_vars t) → Agrees first scope env e
    → Agrees first (target_vars t ++ scope) (grin.with_vars bs env)
    (bound (target_vars t) (fit (length (target_vars t)) (images (words_of_value v))) e)
agrees_target g first t v bs scope env e b lt a =
    subst (λ ws. Agrees first (target_vars t ++ scope) (grin.with_vars bs env)
    (bound (target_vars t) ws e))
    (b.same ∙ ap (λ k. fit k (images (words_of_value v))) (target_many t))
    (subst (λ xs. Agrees first (xs ++ scope) (grin.with_vars bs env) (bound xs (images b.data') e))
    (target_numbers t)
    (agrees_each first (vars_of t) b.data' bs scope env e b.each b.ranged
    (subst (AllOf (λ x. x < first)) (sym (target_numbers t)) lt) a))
