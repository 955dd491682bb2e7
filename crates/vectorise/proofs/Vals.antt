-- Vectors of nodes.
use Rattle.std.proofs.Common.{◌≡◌, ℕ, zero, suc, pos, ◌<◌, ◌≤◌, Bool, true, false, cond, not, nat_eq, nat_le, List, [], ◌∷◌, map, length, take, drop, Option, Some, None, refl, sym, ap, ◌∙◌, subst, arith}
use Rattle.std.proofs.lemmas.Bool.Decides.{nat_tests}
use Rattle.seq.proofs.Truth.{true_not_false, and_from, and_left, and_right}
use Rattle.grin_syntax.specs.declared.program.Word as W
use Rattle.grin_syntax.specs.declared.program.Word.TheVariants.{Var}
use Rattle.grin_syntax.specs.Tree.{Program}
use Rattle.grin_syntax.specs.Fresh.{variables}
use Rattle.grin_meaning.specs.Values.{Datum, number, tag, cell, Node, Value, node, words, Env, and_then, only_word, padded, with_vars, one_each, fields_of, as_node, word_of, words_of}
use Rattle.grin_meaning.specs.Checks.{is_none_or, is_zero, all_zero, number_then_zeros, plain_after, plain_number, is_delayed, not_delayed, is_given, is_filled}
use Rattle.grin_meaning.specs.Full.{FullNode}
use Rattle.grin_meaning.proofs.Bindings.{named, named_below}

-- so many words: these, and zeros
abbrev pub filled : ℕ → List Datum → List Datum
filled zero ds = []
filled (suc k) [] = number (pos 0) ∷ filled k []
filled (suc k) (d ∷ ds) = d ∷ filled k ds

-- the words of a node in a vector with room for k fields
abbrev pub vector_of : ℕ → Node → List Datum
vector_of k n = tag n.tag ∷ filled k n.fields

pub filled_length : (k : ℕ) (ds : List Datum) → length (filled k ds) ≡ k
filled_length zero ds = refl
filled_length (suc k) [] = let h : length (filled k []) ≡ k = filled_length k [] in omega arith
filled_length (suc k) (d ∷ ds) = let h : length (filled k ds) ≡ k = filled_length k ds
    in omega arith

pub padded_filled : (k : ℕ) (ds : List Datum) → length ds ≤ k → padded k ds ≡ filled k ds
padded_filled zero [] h = refl
padded_filled zero (d ∷ ds) h = absurd (omega (arith, h))
padded_filled (suc k) [] h = ap (λ l. number (pos 0) ∷ l) (padded_filled k [] (omega arith))
padded_filled (suc k) (d ∷ ds) h = ap (λ l. d ∷ l) (padded_filled k ds (omega (arith, h)))

take_filled : (k : ℕ) (ds : List Datum) → length ds ≤ k → take (length ds) (filled k ds) ≡ ds
take_filled k [] h = refl
take_filled zero (d ∷ ds) h = absurd (omega (arith, h))
take_filled (suc k) (d ∷ ds) h = ap (λ l. d ∷ l) (take_filled k ds (omega (arith, h)))

zeros_filled : (k : ℕ) → all_zero (filled k []) ≡ true
zeros_filled zero = refl
zeros_filled (suc k) = zeros_filled k

drop_filled : (k : ℕ) (ds : List Datum) → all_zero (drop (length ds) (filled k ds)) ≡ true
drop_filled k [] = zeros_filled k
drop_filled zero (d ∷ ds) = refl
drop_filled (suc k) (d ∷ ds) = drop_filled k ds

zeros_kept : (k : ℕ) (ds : List Datum) → all_zero ds ≡ true → all_zero (filled k ds) ≡ true
zeros_kept zero ds h = refl
zeros_kept (suc k) [] h = zeros_filled k
zeros_kept (suc k) (d ∷ ds) h = and_from (is_zero d) (all_zero (filled k ds))
    (and_left (is_zero d) (all_zero ds) h) (zeros_kept k ds (and_right (is_zero d) (all_zero ds) h))

-- ---- variables for words

pub one_each_named : (x k : ℕ) (ds : List Datum) → length ds ≡ k
    → one_each (variables x k) ds ≡ Some (named x ds)
one_each_named x zero [] e = refl
one_each_named x zero (d ∷ ds) e = absurd (omega (arith, e))
one_each_named x (suc k) [] e = absurd (omega (arith, e))
one_each_named x (suc k) (d ∷ ds) e = ap (λ o. and_then o (λ bs. Some ((x, words (d ∷ [])) ∷ bs)))
    (one_each_named (suc x) k ds (omega (arith, e)))

not_it : (y x : ℕ) (v : Value) (env : Env) → y < x → cond (nat_eq y x) (Some v) (env y) ≡ env y
not_it y x v env h = let e : nat_eq y x ≡ false = grind (arith, nat_tests)
    in ap (λ b. cond b (Some v) (env y)) e

module _ (g : Program) where
  -- a vector with enough room stands for its node
  pub vector_node : (k : ℕ) (n : Node) → FullNode g n → length n.fields ≤ k
      → as_node g (words (vector_of k n)) ≡ Some n
  vector_node k n full le =
      ap (λ o. and_then o
      (λ j. cond (nat_le j (length (filled k n.fields)))
      (Some (record { tag = n.tag; fields = take j (filled k n.fields) })) None)) full
      ∙ ap (λ b. cond b
      (Some (record { tag = n.tag; fields = take (length n.fields) (filled k n.fields) })) None)
      enough
      ∙ ap (λ fs. Some (record { tag = n.tag; fields = fs })) (take_filled k n.fields le)
    where
      enough : nat_le (length n.fields) (length (filled k n.fields)) ≡ true
      enough = let e : length (filled k n.fields) ≡ k = filled_length k n.fields in let h
          : length n.fields ≤ length (filled k n.fields) = omega (arith, e, le)
          in grind (arith, nat_tests)

  pub vector_filled : (k : ℕ) (n : Node) → FullNode g n → is_filled g (vector_of k n) ≡ true
  vector_filled k n full = ap (λ o. is_none_or o (λ j. all_zero (drop j (filled k n.fields)))) full
      ∙ drop_filled k n.fields

  number_filled : (k : ℕ) (ds : List Datum) → 0 < k → number_then_zeros ds ≡ true
      → number_then_zeros (filled k ds) ≡ true
  number_filled zero ds lt h = absurd (omega (arith, lt))
  number_filled (suc k) [] lt h = true_not_false (sym h)
  number_filled (suc k) (number i ∷ rest) lt h = zeros_kept k rest h
  number_filled (suc k) (tag t ∷ rest) lt h = true_not_false (sym h)
  number_filled (suc k) (cell a ∷ rest) lt h = true_not_false (sym h)

  after_filled : (k t : ℕ) (ds : List Datum) → 0 < k → plain_after t ds ≡ true
      → plain_after t (filled k ds) ≡ true
  after_filled k t ds lt = go (nat_eq t 0)
    where
      go : (b : Bool) → cond b (number_then_zeros ds) true ≡ true
          → cond b (number_then_zeros (filled k ds)) true ≡ true
      go true h = number_filled k ds lt h
      go false h = refl

  vector_not_delayed : (k : ℕ) (n : Node) → not_delayed g (node n) ≡ true
      → not_delayed g (words (vector_of k n)) ≡ true
  vector_not_delayed k n h = go (fields_of g n.tag)
    where
      on : (j : ℕ) (b : Bool) → is_none_or {A = Node}
          (cond b (Some (record { tag = n.tag; fields = take j (filled k n.fields) })) None)
          (λ m. not (is_delayed g m.tag)) ≡ true
      on j true = h
      on j false = refl

      go : (o : Option ℕ) → is_none_or {A = Node}
          (and_then o
          (λ j. cond (nat_le j (length (filled k n.fields)))
          (Some (record { tag = n.tag; fields = take j (filled k n.fields) })) None))
          (λ m. not (is_delayed g m.tag)) ≡ true
      go None = refl
      go (Some j) = on j (nat_le j (length (filled k n.fields)))

  pub vector_given : (k : ℕ) (n : Node) → 0 < k → is_given g (node n) ≡ true
      → is_given g (words (vector_of k n)) ≡ true
  vector_given k n lt h = and_from (not_delayed g (words (vector_of k n)))
      (plain_number (words (vector_of k n)))
      (vector_not_delayed k n (and_left (not_delayed g (node n)) (plain_number (node n)) h))
      (after_filled k n.tag n.fields lt
      (and_right (not_delayed g (node n)) (plain_number (node n)) h))

  -- ---- words that stand for data

  -- the first words stand for these
  abbrev pub Stands : Env → List W.Word → List Datum → Type 0
  Stands env ws [] = Unit {0}
  Stands env [] (d ∷ ds) = ⊥
  Stands env (w ∷ ws) (d ∷ ds) = (word_of g env w ≡ Some d) × Stands env ws ds

  pub some_and : {A B : Type 0} (o : Option A) (k : A → Option B) (b : B) → and_then o k ≡ Some b
      → (a : A) × (o ≡ Some a) × (k a ≡ Some b)
  some_and None k b e = cc
  some_and (Some a) k b e = (a, refl, e)

  pub words_split : (env : Env) (w : W.Word) (ws : List W.Word) (ds : List Datum)
      → words_of g env (w ∷ ws) ≡ Some ds → (d : Datum) × (es : List Datum)
      × (word_of g env w ≡ Some d) × (words_of g env ws ≡ Some es) × (ds ≡ d ∷ es)
  words_split env w ws ds e =
      let x : (d : Datum) × (word_of g env w ≡ Some d)
      × (and_then (words_of g env ws) (λ es. Some (d ∷ es)) ≡ Some ds)
      = some_and (word_of g env w) _ ds e in
      let y : (es : List Datum) × (words_of g env ws ≡ Some es) × (Some (x.0 ∷ es) ≡ Some ds)
      = some_and (words_of g env ws) _ ds x.2 in
      (x.0, y.0, x.1, y.1, same y.2)
    where
      same : {d : Datum} {es ds : List Datum} → ◌≡◌ {A = Option (List Datum)} (Some (d ∷ es))
          (Some ds) → ds ≡ d ∷ es
      same h = cc

  pub words_stand : (env : Env) (ws : List W.Word) (ds : List Datum) → words_of g env ws ≡ Some ds
      → Stands env ws ds
  words_stand env [] ds e = let h : ds ≡ [] = cc in subst (Stands env []) (sym h) tt
  words_stand env (w ∷ ws) ds e =
      let x : (d : Datum) × (es : List Datum) × (word_of g env w ≡ Some d)
      × (words_of g env ws ≡ Some es) × (ds ≡ d ∷ es) = words_split env w ws ds e in
      subst (Stands env (w ∷ ws)) (sym x.4) (x.2, words_stand env ws x.1 x.3)

  filled_stand : (env : Env) (ws : List W.Word) (k : ℕ) (ds : List Datum)
      → Stands env ws (filled k ds) → length ds ≤ k → Stands env ws ds
  filled_stand env ws k [] s h = tt
  filled_stand env ws zero (d ∷ ds) s h = absurd (omega (arith, h))
  filled_stand env [] (suc k) (d ∷ ds) s h = absurd s
  filled_stand env (w ∷ ws) (suc k) (d ∷ ds) s h =
      (s.0, filled_stand env ws k ds s.1 (omega (arith, h)))

  -- the fields of a node whose vector is there
  pub fields_stand : (env : Env) (s k : ℕ) (n : Node)
      → words_of g env (map Var (variables s (suc k))) ≡ Some (vector_of k n) → length n.fields ≤ k
      → Stands env (map Var (variables (suc s) k)) n.fields
  fields_stand env s k n e le = filled_stand env (map Var (variables (suc s) k)) k n.fields
      (words_stand env (map Var (variables s (suc k))) (vector_of k n) e).1 le

  heads : {a b : Datum} {as' bs : List Datum} → a ∷ as' ≡ b ∷ bs → a ≡ b
  heads h = cc

  tails : {a b : Datum} {as' bs : List Datum} → a ∷ as' ≡ b ∷ bs → as' ≡ bs
  tails h = cc

  one_shorter : (env : Env) (w : W.Word) (ws vs : List W.Word) (c : Datum) (cs ds : List Datum)
      → words_of g env (w ∷ ws) ≡ Some (c ∷ cs) →
      (words_of g env ws ≡ Some cs → words_of g env vs ≡ Some ds)
      → words_of g env (w ∷ vs) ≡ Some (c ∷ ds)
  one_shorter env w ws vs c cs ds e f =
      let x : (d : Datum) × (es : List Datum) × (word_of g env w ≡ Some d)
      × (words_of g env ws ≡ Some es) × (c ∷ cs ≡ d ∷ es) = words_split env w ws (c ∷ cs) e in
      let r : words_of g env vs ≡ Some ds = f (x.3 ∙ ap Some (sym (tails x.4))) in
      (λ i. and_then (x.2 i) (λ y. and_then (r i) (λ ys. Some (y ∷ ys)))) ∙ ap (λ y. Some (y ∷ ds))
      (sym (heads x.4))

  shorter : (env : Env) (s j k : ℕ) (ds : List Datum) → k ≤ j
      → words_of g env (map Var (variables s j)) ≡ Some (filled j ds)
      → words_of g env (map Var (variables s k)) ≡ Some (filled k ds)
  shorter env s j zero ds le e = refl
  shorter env s zero (suc k) ds le e = absurd (omega (arith, le))
  shorter env s (suc j) (suc k) [] le e = one_shorter env (Var (record { 0 = s }))
      (map Var (variables (suc s) j)) (map Var (variables (suc s) k)) (number (pos 0)) (filled j [])
      (filled k []) e (shorter env (suc s) j k [] (omega (arith, le)))
  shorter env s (suc j) (suc k) (c ∷ ds) le e = one_shorter env (Var (record { 0 = s }))
      (map Var (variables (suc s) j)) (map Var (variables (suc s) k)) c (filled j ds) (filled k ds)
      e (shorter env (suc s) j k ds (omega (arith, le)))

  -- the first words of a vector are a vector with less room
  pub vector_shorter : (env : Env) (s j k : ℕ) (n : Node) → k ≤ j
      → words_of g env (map Var (variables s (suc j))) ≡ Some (vector_of j n)
      → words_of g env (map Var (variables s (suc k))) ≡ Some (vector_of k n)
  vector_shorter env s j k n le e = shorter env s (suc j) (suc k) (tag n.tag ∷ n.fields)
      (omega (arith, le)) e

  -- ---- variables for words

  pub names_stand : (x k : ℕ) (ds : List Datum) (env : Env) → length ds ≡ k
      → words_of g (with_vars (named x ds) env) (map Var (variables x k)) ≡ Some ds
  names_stand x zero [] env e = refl
  names_stand x zero (d ∷ ds) env e = absurd (omega (arith, e))
  names_stand x (suc k) [] env e = absurd (omega (arith, e))
  names_stand x (suc k) (d ∷ ds) env e =
      let env1 : Env = λ y. cond (nat_eq y x) (Some (words (d ∷ []))) (env y) in
      let first : with_vars (named (suc x) ds) env1 x ≡ Some (words (d ∷ []))
      = named_below (suc x) ds env1 x (omega arith) ∙
      (let h : nat_eq x x ≡ true = grind (arith, nat_tests)
      in ap (λ b. cond b (Some (words (d ∷ []))) (env x)) h) in
      λ i. and_then (and_then (first i) only_word)
      (λ b. and_then (names_stand (suc x) k ds env1 (omega (arith, e)) i) (λ bs. Some (b ∷ bs)))
