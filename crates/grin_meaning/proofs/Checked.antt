-- What a looking run looks at says what runs are asked for.
use Rattle.std.proofs.Common.{◌≡◌, ℕ, ℤ, pos, negsuc, Bool, true, false, cond, not, nat_eq, List, [], ◌∷◌, drop, Option, Some, None, slice_get, refl, sym, ap, ◌∙◌, subst, arith}
use Rattle.std.proofs.lemmas.Bool.Decides.{nat_tests}
use Rattle.seq.proofs.Truth.{true_not_false, and_from, and_left, and_right}
use Rattle.grin_syntax.specs.declared.program.TagKind.{TagKind}
use Rattle.grin_syntax.specs.declared.program.TagKind.TheVariants as kind
use Rattle.grin_syntax.specs.declared.program.Tag.{Tag}
use Rattle.grin_syntax.specs.declared.program.Cell.{Cell}
use Rattle.grin_syntax.specs.declared.program.Val as V
use Rattle.grin_syntax.specs.declared.program.Val.TheVariants.{NodeVar, Node as NodeVal, Vector, One}
use Rattle.grin_syntax.specs.Tags.{is_fun_kind}
use Rattle.grin_syntax.specs.Formed.{AllOf}
use Rattle.grin_syntax.specs.Tree.{Program}
use Rattle.numbers.specs.Numbers.{same_number}
use Rattle.grin_meaning.specs.Values.{Datum, number, tag, cell, Node, Value, node, words, Env, fields_of, as_node, words_of}
use Rattle.grin_meaning.specs.Checks.{is_some_and, is_none_or, is_zero, all_zero, number_then_zeros, plain_after, plain_number, is_delayed, not_delayed, is_given, is_filled, fills, all_fill}
use Rattle.grin_meaning.specs.Ready.{IsDelayed, NotDelayed, NumberThenZeros, PlainNumber, Given, Filled, ValFilled}

-- ---- zeros

zero_is : (k : ℤ) → same_number (pos 0) k ≡ true → k ≡ pos 0
zero_is (pos b) h = let e : 0 ≡ b = grind (arith, nat_tests) in ap pos (sym e)
zero_is (negsuc b) h = true_not_false (sym h)

datum_zero : (d : Datum) → is_zero d ≡ true → d ≡ number (pos 0)
datum_zero (number k) h = ap number (zero_is k h)
datum_zero (tag t) h = true_not_false (sym h)
datum_zero (cell a) h = true_not_false (sym h)

pub zeros_are : (ds : List Datum) → all_zero ds ≡ true → AllOf (λ d. d ≡ number (pos 0)) ds
zeros_are [] h = tt
zeros_are (d ∷ ds) h = (
  datum_zero d (and_left (is_zero d) (all_zero ds) h),
  zeros_are ds (and_right (is_zero d) (all_zero ds) h),
)

pub are_zeros : (ds : List Datum) → AllOf (λ d. d ≡ number (pos 0)) ds → all_zero ds ≡ true
are_zeros [] h = refl
are_zeros (d ∷ ds) h = and_from (is_zero d) (all_zero ds)
    (subst (λ x. is_zero x ≡ true) (sym h.0) refl) (are_zeros ds h.1)

-- ---- values

is_fun : (k : TagKind) → is_fun_kind k ≡ true → k ≡ kind.Fun
is_fun kind.Fun h = refl
is_fun kind.Con h = true_not_false (sym h)
is_fun kind.Part h = true_not_false (sym h)

module _ (g : Program) where
  delayed_is : (t : ℕ) → is_delayed g t ≡ true → IsDelayed g t
  delayed_is t h = go (slice_get g.tags t) refl h
    where
      go : (o : Option Tag) → slice_get g.tags t ≡ o
          → is_some_and o (λ i. is_fun_kind i.kind) ≡ true → IsDelayed g t
      go None e k = true_not_false (sym k)
      go (Some i) e k = (i, e, is_fun i.kind k)

  is_delayed-so : (t : ℕ) → IsDelayed g t → is_delayed g t ≡ true
  is_delayed-so t d = ap (λ o. is_some_and o (λ i. is_fun_kind i.kind)) d.1 ∙ ap is_fun_kind d.2

  pub delayed_not : (v : Value) → not_delayed g v ≡ true → NotDelayed g v
  delayed_not v h = λ n e d. true_not_false
      (sym h ∙ ap (λ o. is_none_or o (λ m. not (is_delayed g m.tag))) e ∙ ap not
      (is_delayed-so n.tag d))

  pub not_delayed-so : (v : Value) → NotDelayed g v → not_delayed g v ≡ true
  not_delayed-so v h = go (as_node g v) refl
    where
      on : (n : Node) → as_node g v ≡ Some n → (b : Bool) → is_delayed g n.tag ≡ b → not b ≡ true
      on n e true k = absurd (h n e (delayed_is n.tag k))
      on n e false k = refl

      go : (o : Option Node) → as_node g v ≡ o → is_none_or o (λ m. not (is_delayed g m.tag)) ≡ true
      go None e = refl
      go (Some n) e = on n e (is_delayed g n.tag) refl

  number_is : (ds : List Datum) → number_then_zeros ds ≡ true → NumberThenZeros g ds
  number_is [] h = true_not_false (sym h)
  number_is (number k ∷ rest) h = (k, (rest, refl, zeros_are rest h))
  number_is (tag t ∷ rest) h = true_not_false (sym h)
  number_is (cell a ∷ rest) h = true_not_false (sym h)

  is_number : (ds : List Datum) → NumberThenZeros g ds → number_then_zeros ds ≡ true
  is_number ds h = ap number_then_zeros h.1.1 ∙ are_zeros h.1.0 h.1.2

  after_is : (t : ℕ) (ds : List Datum) → plain_after t ds ≡ true → t ≡ 0 → NumberThenZeros g ds
  after_is t ds h e = number_is ds (sym (ap (λ u. plain_after u ds) e) ∙ h)

  is_after : (t : ℕ) (ds : List Datum) → (t ≡ 0 → NumberThenZeros g ds) → plain_after t ds ≡ true
  is_after t ds h = go (nat_eq t 0) refl
    where
      is_zero-so : nat_eq t 0 ≡ true → t ≡ 0
      is_zero-so e = grind (arith, nat_tests)

      go : (b : Bool) → nat_eq t 0 ≡ b → cond b (number_then_zeros ds) true ≡ true
      go true e = is_number ds (h (is_zero-so e))
      go false e = refl

  number_plain : (v : Value) → plain_number v ≡ true → PlainNumber g v
  number_plain (node n) h = after_is n.tag n.fields h
  number_plain (words ds) h = λ rest e. number_is rest
      (sym (ap (λ u. plain_number (words u)) e) ∙ h)

  plain_number-so : (v : Value) → PlainNumber g v → plain_number v ≡ true
  plain_number-so (node n) h = is_after n.tag n.fields h
  plain_number-so (words []) h = refl
  plain_number-so (words (number k ∷ ds)) h = refl
  plain_number-so (words (cell a ∷ ds)) h = refl
  plain_number-so (words (tag t ∷ ds)) h = is_after t ds (λ e. h ds (ap (λ u. tag u ∷ ds) e))

  pub given_is : (v : Value) → is_given g v ≡ true → Given g v
  given_is v h = (
    delayed_not v (and_left (not_delayed g v) (plain_number v) h),
    number_plain v (and_right (not_delayed g v) (plain_number v) h),
  )

  pub is_given-so : (v : Value) → Given g v → is_given g v ≡ true
  is_given-so v h = and_from (not_delayed g v) (plain_number v) (not_delayed-so v h.0)
      (plain_number-so v h.1)

  -- ---- vectors

  filled_is : (ds : List Datum) → is_filled g ds ≡ true → Filled g ds
  filled_is ds h = λ t k rest e f. zeros_are (drop k rest)
      (sym (ap (λ o. is_none_or o (λ j. all_zero (drop j rest))) f) ∙ sym (ap (is_filled g) e) ∙ h)

  is_filled-so : (ds : List Datum) → Filled g ds → is_filled g ds ≡ true
  is_filled-so [] h = refl
  is_filled-so (number k ∷ rest) h = refl
  is_filled-so (cell a ∷ rest) h = refl
  is_filled-so (tag t ∷ rest) h = go (fields_of g t) refl
    where
      go : (o : Option ℕ) → fields_of g t ≡ o → is_none_or o (λ k. all_zero (drop k rest)) ≡ true
      go None e = refl
      go (Some k) e = are_zeros (drop k rest) (h t k rest refl e)

  pub filled_val : (env : Env) (v : V.Val) → fills g env v ≡ true → ValFilled g env v
  filled_val env (NodeVar x) h = tt
  filled_val env (NodeVal t ws) h = tt
  filled_val env (One w) h = tt
  filled_val env (Vector ws) h = λ ds e. filled_is ds
      (sym (ap (λ o. is_none_or o (is_filled g)) e) ∙ h)

  pub fills-so : (env : Env) (v : V.Val) → ValFilled g env v → fills g env v ≡ true
  fills-so env (NodeVar x) h = refl
  fills-so env (NodeVal t ws) h = refl
  fills-so env (One w) h = refl
  fills-so env (Vector ws) h = go (words_of g env ws) refl
    where
      go : (o : Option (List Datum)) → words_of g env ws ≡ o → is_none_or o (is_filled g) ≡ true
      go None e = refl
      go (Some ds) e = is_filled-so ds (h ds e)

  pub filled_cells : (env : Env) (cs : List Cell) → all_fill g env cs ≡ true
      → AllOf (λ c. ValFilled g env c.val) cs
  filled_cells env [] h = tt
  filled_cells env (c ∷ cs) h = (
    filled_val env c.val (and_left (fills g env c.val) (all_fill g env cs) h),
    filled_cells env cs (and_right (fills g env c.val) (all_fill g env cs) h),
  )

  pub all_fill-so : (env : Env) (cs : List Cell) → AllOf (λ c. ValFilled g env c.val) cs
      → all_fill g env cs ≡ true
  all_fill-so env [] h = refl
  all_fill-so env (c ∷ cs) h = and_from (fills g env c.val) (all_fill g env cs)
      (fills-so env c.val h.0) (all_fill-so env cs h.1)
