-- Values whose words are renamed: what binds, fits and is looked at stays so.
use Rattle.std.proofs.Common.{◌≡◌, ℕ, zero, suc, List, [], ◌∷◌, map, take, drop, length, Bool, true, false, cond, ◌&&◌, not, nat_eq, nat_le, Option, Some, None, refl, sym, ap, ◌∙◌, subst}
use Rattle.std.specs.Prelude.{ℤ, pos}
use Rattle.std.proofs.lemmas.List.{length-map, take-map}
use Rattle.grin_syntax.specs.declared.program.VarId.{VarId}
use Rattle.grin_syntax.specs.declared.program.Shape.{Shape}
use Rattle.grin_syntax.specs.declared.program.Shape.TheVariants.{Node as NodeShape, Int, Else}
use Rattle.grin_syntax.specs.declared.program.Target.{Target}
use Rattle.grin_syntax.specs.declared.program.Target.TheVariants.{Nothing, Node as NodeTarget, One as OneTarget, Vector as VectorTarget}
use Rattle.grin_syntax.specs.Tree.{Act, Program}
use Rattle.numbers.specs.Numbers.{same_number}
use Rattle.grin_meaning.specs.Values.{Datum, number, tag, cell, Node, Value, node, words, HeapCell, and_then, Binding, one_each, padded, MatchOutcome, fits, fits_not, unclear, fits_if, fields_fit, node_fit, number_fit, int_fit, fit_of, fields_of, made_node, as_node, bindings_of}
use Rattle.grin_meaning.specs.Run.{nth_or_zero, node_word, number_of}
use Rattle.grin_meaning.specs.Checks.{is_none_or, is_zero, all_zero, number_then_zeros, plain_number, has_block, is_fetch, is_node_target, is_delayed, not_delayed, is_given, is_filled, is_bound_well}
use Rattle.seq.proofs.Truth.{and_left, and_right, and_from}
use Rattle.seq.proofs.Lists.{some_is, none_is_some}
use Rattle.dead_store.specs.Kept.{rank, stays_at, renamed, map_node_fields}

drop_map : {X Y : Type 0} (f : X → Y) (k : ℕ) (xs : List X) → drop k (map f xs) ≡ map f (drop k xs)
drop_map f zero xs = refl
drop_map f (suc k) [] = refl
drop_map f (suc k) (x ∷ xs) = drop_map f k xs

module _ (stays : ℕ → Bool) (F : List HeapCell) where
  abbrev pub f : Datum → Datum
  f = renamed stays F

  abbrev pub node_to : Node → Node
  node_to = map_node_fields f

  abbrev pub value_to : Value → Value
  value_to (node n) = node (node_to n)
  value_to (words ds) = words (map f ds)

  abbrev pub binding_to : Binding → Binding
  binding_to b = (b.0, value_to b.1)

  abbrev pub bindings_to : List Binding → List Binding
  bindings_to = map binding_to

  -- ---- words and nodes

  pub nth_renamed : (ds : List Datum) (i : ℕ) → nth_or_zero (map f ds) i ≡ f (nth_or_zero ds i)
  nth_renamed [] i = refl
  nth_renamed (d ∷ ds) zero = refl
  nth_renamed (d ∷ ds) (suc i) = nth_renamed ds i

  pub word_renamed : (n : Node) (i : ℕ) → node_word (node_to n) i ≡ f (node_word n i)
  word_renamed n zero = refl
  word_renamed n (suc i) = nth_renamed n.fields i

  -- a cell becomes no tag
  cell_no_node : (g : Program) (b : Bool) (k : ℕ) (ds : List Datum)
      → as_node g (words (cond b (cell k) (number (pos 0)) ∷ ds)) ≡ None
  cell_no_node g true k ds = refl
  cell_no_node g false k ds = refl

  part_renamed : (t : ℕ) (ds : List Datum) (k : ℕ) (b b' : Bool) → b' ≡ b
      → ◌≡◌ {A = Option Node} (cond b' (Some (record { tag = t; fields = take k (map f ds) })) None)
      (and_then (cond b (Some (record { tag = t; fields = take k ds })) None)
      (λ n. Some (node_to n)))
  part_renamed t ds k true b' e = ap
      (λ b. cond b (Some (record { tag = t; fields = take k (map f ds) })) None) e ∙ ap
      (λ l. Some (record { tag = t; fields = l })) (take-map f k ds)
  part_renamed t ds k false b' e = ap
      (λ b. cond b (Some (record { tag = t; fields = take k (map f ds) })) None) e

  tagged_renamed : (t : ℕ) (ds : List Datum) (o : Option ℕ)
      → and_then o
      (λ k. cond (nat_le k (length (map f ds)))
      (Some (record { tag = t; fields = take k (map f ds) })) None)
      ≡ and_then
      (and_then o
      (λ k. cond (nat_le k (length ds)) (Some (record { tag = t; fields = take k ds })) None))
      (λ n. Some (node_to n))
  tagged_renamed t ds None = refl
  tagged_renamed t ds (Some k) = part_renamed t ds k (nat_le k (length ds))
      (nat_le k (length (map f ds))) (ap (nat_le k) (length-map ds f))

  pub as_node_renamed : (g : Program) (v : Value) → as_node g (value_to v) ≡ and_then (as_node g v)
      (λ n. Some (node_to n))
  as_node_renamed g (node n) = refl
  as_node_renamed g (words []) = refl
  as_node_renamed g (words (number k ∷ ds)) = refl
  as_node_renamed g (words (tag t ∷ ds)) = tagged_renamed t ds (fields_of g t)
  as_node_renamed g (words (cell a ∷ ds)) = cell_no_node g (stays_at stays F a) (rank stays F a)
      (map f ds)

  pub made_renamed : (g : Program) (t : ℕ) (ds : List Datum) (n : Node) → made_node g t ds ≡ Some n
      → made_node g t (map f ds) ≡ Some (node_to n)
  made_renamed g t ds n e = go (fields_of g t) e
    where
      same : (b b' : Bool) → b' ≡ b → ◌≡◌ {A = Option Node}
          (cond b (Some (record { tag = t; fields = ds })) None) (Some n)
          → ◌≡◌ {A = Option Node} (cond b' (Some (record { tag = t; fields = map f ds })) None)
          (Some (node_to n))
      same true b' q e = ap (λ b. cond b (Some (record { tag = t; fields = map f ds })) None) q ∙ ap
          (λ m. Some (node_to m)) (some_is e)
      same false b' q e = none_is_some e

      go : (o : Option ℕ) → and_then o
          (λ k. cond (nat_eq k (length ds)) (Some (record { tag = t; fields = ds })) None) ≡ Some n
          → and_then o
          (λ k. cond (nat_eq k (length (map f ds)))
          (Some (record { tag = t; fields = map f ds })) None) ≡ Some (node_to n)
      go None e = none_is_some e
      go (Some k) e = same (nat_eq k (length ds)) (nat_eq k (length (map f ds)))
          (ap (nat_eq k) (length-map ds f)) e

  pub node_renamed : (g : Program) (v : Value) (n : Node) → as_node g v ≡ Some n
      → as_node g (value_to v) ≡ Some (node_to n)
  node_renamed g v n e = as_node_renamed g v ∙ ap (λ o. and_then o (λ m. Some (node_to m))) e

  -- ---- bindings

  pub one_each_renamed : (xs : List VarId) (ds : List Datum) (bs : List Binding)
      → one_each xs ds ≡ Some bs → one_each xs (map f ds) ≡ Some (bindings_to bs)
  one_each_renamed [] [] bs e = ap (λ b. Some (bindings_to b)) (some_is e)
  one_each_renamed [] (d ∷ ds) bs e = none_is_some e
  one_each_renamed (x ∷ xs) [] bs e = none_is_some e
  one_each_renamed (x ∷ xs) (d ∷ ds) bs e = go (one_each xs ds) (λ cs. one_each_renamed xs ds cs) e
    where
      go : (o : Option (List Binding)) →
          ((cs : List Binding) → o ≡ Some cs → one_each xs (map f ds) ≡ Some (bindings_to cs))
          → and_then o (λ bs. Some ((x.0, words (d ∷ [])) ∷ bs)) ≡ Some bs
          → and_then (one_each xs (map f ds)) (λ bs. Some ((x.0, words (f d ∷ [])) ∷ bs)) ≡ Some
          (bindings_to bs)
      go None q e = none_is_some e
      go (Some cs) q e = ap (λ o. and_then o (λ bs. Some ((x.0, words (f d ∷ [])) ∷ bs)))
          (q cs refl) ∙ ap (λ b. Some (bindings_to b)) (some_is e)

  padded_renamed : (k : ℕ) (ds : List Datum) → padded k (map f ds) ≡ map f (padded k ds)
  padded_renamed zero ds = refl
  padded_renamed (suc k) [] = ap (λ l. number (pos 0) ∷ l) (padded_renamed k [])
  padded_renamed (suc k) (d ∷ ds) = ap (λ l. f d ∷ l) (padded_renamed k ds)

  pub bindings_renamed : (g : Program) (t : Target) (v : Value) (bs : List Binding)
      → bindings_of g t v ≡ Some bs → bindings_of g t (value_to v) ≡ Some (bindings_to bs)
  bindings_renamed g Nothing (words []) bs e = ap (λ b. Some (bindings_to b)) (some_is e)
  bindings_renamed g Nothing (words (d ∷ ds)) bs e = none_is_some e
  bindings_renamed g Nothing (node n) bs e = none_is_some e
  bindings_renamed g (NodeTarget x) v bs e = go (as_node g v) refl e
    where
      go : (o : Option Node) → as_node g v ≡ o → and_then o (λ n. Some ((x.0, node n) ∷ [])) ≡ Some
          bs → and_then (as_node g (value_to v)) (λ n. Some ((x.0, node n) ∷ [])) ≡ Some
          (bindings_to bs)
      go None q e = none_is_some e
      go (Some n) q e = ap (λ o. and_then o (λ n. Some ((x.0, node n) ∷ []))) (node_renamed g v n q)
          ∙ ap (λ b. Some (bindings_to b)) (some_is e)
  bindings_renamed g (OneTarget x) (words []) bs e = none_is_some e
  bindings_renamed g (OneTarget x) (words (d ∷ [])) bs e
      = ap (λ b. Some (bindings_to b)) (some_is e)
  bindings_renamed g (OneTarget x) (words (d ∷ d' ∷ ds)) bs e = none_is_some e
  bindings_renamed g (OneTarget x) (node n) bs e = none_is_some e
  bindings_renamed g (VectorTarget xs) (words ds) bs e = one_each_renamed xs ds bs e
  bindings_renamed g (VectorTarget xs) (node n) bs e
      = ap (one_each xs) (padded_renamed (length xs) (tag n.tag ∷ n.fields)) ∙ one_each_renamed xs
      (padded (length xs) (tag n.tag ∷ n.fields)) bs e

  -- ---- patterns

  -- it is clear whether a pattern fits
  abbrev pub IsClear : MatchOutcome → Type 0
  IsClear (fits bs) = Unit {0}
  IsClear fits_not = Unit {0}
  IsClear unclear = ⊥

  abbrev pub fit_to : MatchOutcome → MatchOutcome
  fit_to (fits bs) = fits (bindings_to bs)
  fit_to fits_not = fits_not
  fit_to unclear = unclear

  fields_fit_renamed : (xs : List VarId) (ds : List Datum) → IsClear (fields_fit xs ds)
      → fields_fit xs (map f ds) ≡ fit_to (fields_fit xs ds)
  fields_fit_renamed [] ds c = refl
  fields_fit_renamed (x ∷ xs) ds c = go (one_each (x ∷ xs) ds) refl c
    where
      go : (o : Option (List Binding)) → one_each (x ∷ xs) ds ≡ o → IsClear (fits_if o)
          → fits_if (one_each (x ∷ xs) (map f ds)) ≡ fit_to (fits_if o)
      go None q c = absurd c
      go (Some bs) q c = ap fits_if (one_each_renamed (x ∷ xs) ds bs q)

  node_fit_renamed : (t : ℕ) (xs : List VarId) (o : Option Node) → IsClear (node_fit t xs o)
      → node_fit t xs (and_then o (λ n. Some (node_to n))) ≡ fit_to (node_fit t xs o)
  node_fit_renamed t xs None c = refl
  node_fit_renamed t xs (Some n) c = go (nat_eq n.tag t) c
    where
      go : (b : Bool) → IsClear (cond b (fields_fit xs n.fields) fits_not)
          → cond b (fields_fit xs (map f n.fields)) fits_not ≡ fit_to
          (cond b (fields_fit xs n.fields) fits_not)
      go true c = fields_fit_renamed xs n.fields c
      go false c = refl

  number_fit_renamed : (k : ℤ) (ds : List Datum) → IsClear (number_fit k ds)
      → number_fit k (map f ds) ≡ fit_to (number_fit k ds)
  number_fit_renamed k [] c = absurd c
  number_fit_renamed k (number i ∷ ds) c = go (same_number k i)
    where
      go : (b : Bool) → cond b (fits []) fits_not ≡ fit_to (cond b (fits []) fits_not)
      go true = refl
      go false = refl
  number_fit_renamed k (tag t ∷ ds) c = absurd c
  number_fit_renamed k (cell a ∷ ds) c = absurd c

  int_fit_renamed : (k : ℤ) (o : Option Node) → IsClear (int_fit k o)
      → int_fit k (and_then o (λ n. Some (node_to n))) ≡ fit_to (int_fit k o)
  int_fit_renamed k None c = refl
  int_fit_renamed k (Some n) c = go (nat_eq n.tag 0) c
    where
      go : (b : Bool) → IsClear (cond b (number_fit k n.fields) fits_not)
          → cond b (number_fit k (map f n.fields)) fits_not ≡ fit_to
          (cond b (number_fit k n.fields) fits_not)
      go true c = number_fit_renamed k n.fields c
      go false c = refl

  pub fit_renamed : (g : Program) (s : Shape) (v : Value) (q : MatchOutcome) → fit_of g s v ≡ q
      → IsClear q → fit_of g s (value_to v) ≡ fit_to q
  fit_renamed g (NodeShape t xs) v q e c = ap (node_fit t.0 xs) (as_node_renamed g v) ∙
      node_fit_renamed t.0 xs (as_node g v) (subst IsClear (sym e) c) ∙ ap fit_to e
  fit_renamed g (Int k) v q e c = ap (int_fit k) (as_node_renamed g v) ∙ int_fit_renamed k
      (as_node g v) (subst IsClear (sym e) c) ∙ ap fit_to e
  fit_renamed g Else v q e c = ap fit_to e

  -- ---- what is looked at

  zero_renamed : (d : Datum) → is_zero d ≡ true → is_zero (f d) ≡ true
  zero_renamed (number k) h = h
  zero_renamed (tag t) h = h
  zero_renamed (cell a) h = cc

  all_zero_renamed : (ds : List Datum) → all_zero ds ≡ true → all_zero (map f ds) ≡ true
  all_zero_renamed [] h = refl
  all_zero_renamed (d ∷ ds) h = and_from (is_zero (f d)) (all_zero (map f ds))
      (zero_renamed d (and_left (is_zero d) (all_zero ds) h))
      (all_zero_renamed ds (and_right (is_zero d) (all_zero ds) h))

  number_first_renamed : (ds : List Datum) → number_then_zeros ds ≡ true
      → number_then_zeros (map f ds) ≡ true
  number_first_renamed [] h = cc
  number_first_renamed (number k ∷ ds) h = all_zero_renamed ds h
  number_first_renamed (tag t ∷ ds) h = cc
  number_first_renamed (cell a ∷ ds) h = cc

  plain_after_renamed : (b : Bool) (ds : List Datum) → cond b (number_then_zeros ds) true ≡ true
      → cond b (number_then_zeros (map f ds)) true ≡ true
  plain_after_renamed true ds h = number_first_renamed ds h
  plain_after_renamed false ds h = refl

  cell_plain : (b : Bool) (k : ℕ) (ds : List Datum)
      → plain_number (words (cond b (cell k) (number (pos 0)) ∷ ds)) ≡ true
  cell_plain true k ds = refl
  cell_plain false k ds = refl

  plain_renamed : (v : Value) → plain_number v ≡ true → plain_number (value_to v) ≡ true
  plain_renamed (node n) h = plain_after_renamed (nat_eq n.tag 0) n.fields h
  plain_renamed (words []) h = refl
  plain_renamed (words (number k ∷ ds)) h = refl
  plain_renamed (words (tag t ∷ ds)) h = plain_after_renamed (nat_eq t 0) ds h
  plain_renamed (words (cell a ∷ ds)) h = cell_plain (stays_at stays F a) (rank stays F a)
      (map f ds)

  module _ (g : Program) where
    delayed_renamed : (o : Option Node) → is_none_or (and_then o (λ n. Some (node_to n)))
        (λ n. not (is_delayed g n.tag)) ≡ is_none_or o (λ n. not (is_delayed g n.tag))
    delayed_renamed None = refl
    delayed_renamed (Some n) = refl

    not_delayed_renamed : (v : Value) → not_delayed g (value_to v) ≡ not_delayed g v
    not_delayed_renamed v = ap (λ o. is_none_or o (λ n. not (is_delayed g n.tag)))
        (as_node_renamed g v) ∙ delayed_renamed (as_node g v)

    pub given_renamed : (v : Value) → is_given g v ≡ true → is_given g (value_to v) ≡ true
    given_renamed v h = and_from (not_delayed g (value_to v)) (plain_number (value_to v))
        (not_delayed_renamed v ∙ and_left (not_delayed g v) (plain_number v) h)
        (plain_renamed v (and_right (not_delayed g v) (plain_number v) h))

    past_renamed : (ds : List Datum) (o : Option ℕ)
        → is_none_or o (λ k. all_zero (drop k ds)) ≡ true
        → is_none_or o (λ k. all_zero (drop k (map f ds))) ≡ true
    past_renamed ds None h = refl
    past_renamed ds (Some k) h = ap all_zero (drop_map f k ds) ∙ all_zero_renamed (drop k ds) h

    cell_filled : (b : Bool) (k : ℕ) (ds : List Datum)
        → is_filled g (cond b (cell k) (number (pos 0)) ∷ ds) ≡ true
    cell_filled true k ds = refl
    cell_filled false k ds = refl

    pub filled_renamed : (ds : List Datum) → is_filled g ds ≡ true → is_filled g (map f ds) ≡ true
    filled_renamed [] h = refl
    filled_renamed (number k ∷ ds) h = refl
    filled_renamed (tag t ∷ ds) h = past_renamed ds (fields_of g t) h
    filled_renamed (cell a ∷ ds) h = cell_filled (stays_at stays F a) (rank stays F a) (map f ds)

    cond_more : (b x x' : Bool) → (x ≡ true → x' ≡ true) → cond b x true ≡ true
        → cond b x' true ≡ true
    cond_more true x x' h e = h e
    cond_more false x x' h e = refl

    -- of an operation that is of the same kind
    pub bound_renamed : (t : Target) (o o' : Act) (v : Value) → has_block o' ≡ has_block o
        → is_fetch o' ≡ is_fetch o → is_bound_well g t o v ≡ true
        → is_bound_well g t o' (value_to v) ≡ true
    bound_renamed t o o' v p q h =
        let first : Bool → Bool = λ b. cond b (is_given g v) true in
        let left : cond (has_block o) (is_given g v) true ≡ true
        = and_left (cond (has_block o) (is_given g v) true)
        (cond (is_node_target t && not (is_fetch o)) (not_delayed g v) true) h in
        let right : cond (is_node_target t && not (is_fetch o)) (not_delayed g v) true ≡ true
        = and_right (cond (has_block o) (is_given g v) true)
        (cond (is_node_target t && not (is_fetch o)) (not_delayed g v) true) h in
        and_from (cond (has_block o') (is_given g (value_to v)) true)
        (cond (is_node_target t && not (is_fetch o')) (not_delayed g (value_to v)) true)
        (ap (λ b. cond b (is_given g (value_to v)) true) p ∙ cond_more (has_block o) (is_given g v)
        (is_given g (value_to v)) (given_renamed v) left)
        (ap (λ b. cond (is_node_target t && not b) (not_delayed g (value_to v)) true) q ∙ cond_more
        (is_node_target t && not (is_fetch o)) (not_delayed g v) (not_delayed g (value_to v))
        (λ e. not_delayed_renamed v ∙ e) right)

  pub number_renamed : (d : Datum) (k : ℤ) → number_of d ≡ Some k → number_of (f d) ≡ Some k
  number_renamed (number i) k e = e
  number_renamed (tag t) k e = none_is_some e
  number_renamed (cell a) k e = none_is_some e
