-- What a looking run looks at: the vectors that are taken, and the values that are given and bound.
use Rattle.std.specs.Prelude.{ℕ, pos, Bool, true, false, cond, not, ◌&&◌, nat_eq, List, [], ◌∷◌, drop, Option, Some, None, slice_get}
use Rattle.grin_syntax.specs.declared.program.Val as V
use Rattle.grin_syntax.specs.declared.program.Val.TheVariants.{Vector}
use Rattle.grin_syntax.specs.declared.program.Target.{Target}
use Rattle.grin_syntax.specs.declared.program.Target.TheVariants as to
use Rattle.grin_syntax.specs.declared.program.Cell.{Cell}
use Rattle.grin_syntax.specs.Tags.{is_fun_kind}
use Rattle.grin_syntax.specs.Tree.{Act, leaf, fetch, case, nested, Program}
use Rattle.numbers.specs.Numbers.{same_number}
use Rattle.grin_meaning.specs.Values as value
use Rattle.grin_meaning.specs.Values.{Datum, number, tag, Value, Env, words_of, fields_of, as_node}

abbrev pub is_some_and : {A : Type 0} → Option A → (A → Bool) → Bool
is_some_and None f = false
is_some_and (Some a) f = f a

abbrev pub is_none_or : {A : Type 0} → Option A → (A → Bool) → Bool
is_none_or None f = true
is_none_or (Some a) f = f a

abbrev pub is_zero : Datum → Bool
is_zero (number k) = same_number (pos 0) k
is_zero _ = false

abbrev pub all_zero : List Datum → Bool
all_zero [] = true
all_zero (d ∷ ds) = is_zero d && all_zero ds

-- what stands after the tag of a number
abbrev pub number_then_zeros : List Datum → Bool
number_then_zeros (number k ∷ rest) = all_zero rest
number_then_zeros _ = false

abbrev pub plain_after : ℕ → List Datum → Bool
plain_after t rest = cond (nat_eq t 0) (number_then_zeros rest) true

-- with the tag of a number come the number and zeros alone
abbrev pub plain_number : Value → Bool
plain_number (value.node n) = plain_after n.tag n.fields
plain_number (value.words (tag t ∷ rest)) = plain_after t rest
plain_number (value.words _) = true

-- an operation whose value comes from a block
abbrev pub has_block : Act → Bool
has_block (case v as') = true
has_block (nested b) = true
has_block _ = false

abbrev pub is_fetch : Act → Bool
is_fetch (leaf (fetch w)) = true
is_fetch _ = false

abbrev pub is_node_target : Target → Bool
is_node_target (to.Node x) = true
is_node_target _ = false

module _ (p : Program) where
  abbrev pub is_delayed : ℕ → Bool
  is_delayed t = is_some_and (slice_get p.tags t) (λ i. is_fun_kind i.kind)

  abbrev pub not_delayed : Value → Bool
  not_delayed v = is_none_or (as_node p v) (λ n. not (is_delayed n.tag))

  -- a value that is given: no delayed call, and a number is as it should be
  abbrev pub is_given : Value → Bool
  is_given v = not_delayed v && plain_number v

  -- a vector with a tag: no word but zeros past that tag's fields
  abbrev pub is_filled : List Datum → Bool
  is_filled (tag t ∷ rest) = is_none_or (fields_of p t) (λ k. all_zero (drop k rest))
  is_filled _ = true

  -- what a unit, a store or an update takes
  abbrev pub fills : Env → V.Val → Bool
  fills env (Vector ws) = is_none_or (words_of p env ws) is_filled
  fills env _ = true

  abbrev pub all_fill : Env → List Cell → Bool
  all_fill env [] = true
  all_fill env (c ∷ cs) = fills env c.val && all_fill env cs

  -- what a bound operation gives its target: a block gives as a procedure does, and no node
  -- variable that a fetch does not fill gets a delayed call
  abbrev pub is_bound_well : Target → Act → Value → Bool
  is_bound_well t o v =
      cond (has_block o) (is_given v) true
      && cond (is_node_target t && not (is_fetch o)) (not_delayed v) true
