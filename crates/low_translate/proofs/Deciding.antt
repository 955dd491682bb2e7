-- Values that stand for nodes, and the tests of patterns.
use Rattle.std.proofs.Common.{◌≡◌, ◌≢◌, ◌⊎◌, inl, inr, ◌≤◌, ◌^◌, ℕ, ℤ, pos, negsuc, zero, suc, ◌-◌, Bool, true, false, cond, List, [], ◌∷◌, length, take, drop, Option, Some, None, refl, sym, ap, ◌∙◌, subst, arith}
use Rattle.std.specs.Prelude.{nat_eq, nat_le}
use Rattle.std.proofs.lemmas.Bool.{eqb-true, eq-eqb, leb-true}
use Rattle.std.proofs.lemmas.Bool.Decides.{eqb_tells}
use Rattle.numbers.specs.Numbers.{pattern, same_number}
use Rattle.std.proofs.lemmas.List.{length-take}
use Rattle.seq.proofs.Truth.{and_left, and_right}
use Rattle.seq.proofs.Order.{eq_turned}
use Rattle.grin_syntax.specs.declared.program.Val as V
use Rattle.grin_syntax.specs.declared.program.Val.TheVariants as val
use Rattle.grin_syntax.specs.declared.program.Shape as S
use Rattle.grin_syntax.specs.declared.program.Shape.TheVariants as shape
use Rattle.grin_syntax.specs.Binders.{shape_vars, numbers_of}
use Rattle.grin_syntax.specs.Formed.{AllOf}
use Rattle.grin_syntax.specs.Tree as grin_tree
use Rattle.grin_meaning.specs.Values as grin
use Rattle.grin_meaning.specs.Values.{Datum, number, tag, cell, Node, Value, node, words, MatchOutcome, fits, fits_not, unclear, as_node, value_of, words_of, fit_of}
use Rattle.grin_meaning.specs.Checks.{all_zero, is_zero, is_filled, fills, is_none_or}
use Rattle.grin_meaning.specs.Ready.{NoNodeVar, BindsNothing}
use Rattle.low_code.specs.declared.program.LowTest.{LowTest}
use Rattle.low_code.specs.declared.program.Operand.{Operand}
use Rattle.low_code.specs.declared.program.Operand.TheVariants.{Var, Num, Cell}
use Rattle.low_code.specs.Tree as low_tree
use Rattle.low_code.specs.Values as low
use Rattle.low_code.specs.Values.{Word, Env, and_then}
use Rattle.low_code.specs.Run.{operand, operands, number_in, holds}
use Rattle.low_translate.specs.Translation.{nth_operand, is_number, with_test, tests}
use Rattle.low_translate.specs.Lowered.{Has32Bits, ShapeRanged}
use Rattle.low_translate.proofs.Images.{word_image, images, words_of_value, fit, nth_word, InRange, SoundNode, SoundValue, none_some, some_same}

-- ---- values that stand for nodes

-- a value stands for a node
pub data Stands (g : grin_tree.Program) : Value → Node → Type 0 where
  itself : {n : Node} → Stands g (node n) n
  its_words : {t k : ℕ} {ds : List Datum} → grin.fields_of g t ≡ Some k → k ≤ length ds
      → Stands g (words (tag t ∷ ds)) (record { tag = t; fields = take k ds })

le_true : (a b : ℕ) → nat_le a b ≡ true → a ≤ b
le_true a b e = leb-true a b e

pub stands : (g : grin_tree.Program) (x : Value) (n : Node) → as_node g x ≡ Some n → Stands g x n
stands g (node m) n h = subst (Stands g (node m)) (some_same h) itself
stands g (words []) n h = absurd (none_some h)
stands g (words (number k ∷ ds)) n h = absurd (none_some h)
stands g (words (cell a ∷ ds)) n h = absurd (none_some h)
stands g (words (tag t ∷ ds)) n h = go (grin.fields_of g t) refl h
  where
    go : (o : Option ℕ) → grin.fields_of g t ≡ o → grin.and_then o
        (λ k. cond (nat_le k (length ds)) (Some (record { tag = t; fields = take k ds })) None) ≡
        Some n → Stands g (words (tag t ∷ ds)) n
    go None q m = absurd (none_some m)
    go (Some k) q m = by (nat_le k (length ds)) refl m
      where
        by : (b : Bool) → nat_le k (length ds) ≡ b → cond b
            (Some (record { tag = t; fields = take k ds })) None ≡ Some n
            → Stands g (words (tag t ∷ ds)) n
        by true e m = subst (Stands g (words (tag t ∷ ds))) (some_same m)
            (its_words q (le_true k (length ds) e))
        by false e m = absurd (none_some m)

all_take : {A : Type 0} (P : A → Type 0) (k : ℕ) (xs : List A) → AllOf P xs → AllOf P (take k xs)
all_take P zero [] h = tt
all_take P zero (x ∷ xs) h = tt
all_take P (suc k) [] h = tt
all_take P (suc k) (x ∷ xs) h = (h.0, all_take P k xs h.1)

pub stands_sound : (g : grin_tree.Program) (x : Value) (n : Node) → Stands g x n → SoundValue g x
    → SoundNode g n
stands_sound g _ _ itself s = s
stands_sound g _ _ (its_words {t = t} {k = k} {ds = ds} q le) s
    = record {
      count = k;
      has = q;
      few = omega (arith, length-take k ds);
      ranged
          = all_take InRange k ds s.1;
    }

-- zeros past a place make no difference to a cell
zero_is : (d : Datum) → is_zero d ≡ true → word_image d ≡ low.number 0
zero_is (number (pos k)) e = ap low.number (sym (eqb-true 0 k e))
zero_is (number (negsuc k)) e = absurd (let z : false ≡ true = e in cc)
zero_is (tag t) e = absurd (let z : false ≡ true = e in cc)
zero_is (cell a) e = absurd (let z : false ≡ true = e in cc)

fit_zeros : (m : ℕ) (ds : List Datum) → all_zero ds ≡ true → fit m (images ds) ≡ fit m []
fit_zeros zero ds e = refl
fit_zeros (suc m) [] e = refl
fit_zeros (suc m) (d ∷ ds) e = λ i. zero_is d (and_left (is_zero d) (all_zero ds) e) i ∷ fit_zeros m
    ds (and_right (is_zero d) (all_zero ds) e) i

fit_past : (m k : ℕ) (ds : List Datum) → all_zero (drop k ds) ≡ true
    → fit m (images (take k ds)) ≡ fit m (images ds)
fit_past zero k ds e = refl
fit_past (suc m) zero [] e = refl
fit_past (suc m) zero (d ∷ ds) e = sym (fit_zeros (suc m) (d ∷ ds) e)
fit_past (suc m) (suc k) [] e = refl
fit_past (suc m) (suc k) (d ∷ ds) e = ap (λ l. word_image d ∷ l) (fit_past m k ds e)

-- the words of a value that fills, and those of the node that it stands for
pub same_cell : (g : grin_tree.Program) (m : ℕ) (x : Value) (n : Node) → Stands g x n
    → ((ds : List Datum) → x ≡ words ds → is_filled g ds ≡ true)
    → fit m (images (words_of_value x)) ≡ fit m (images (words_of_value (node n)))
same_cell g m _ _ itself f = refl
same_cell g zero _ _ (its_words q le) f = refl
same_cell g (suc m) _ _ (its_words {t = t} {k = k} {ds = ds} q le) f =
    let z : all_zero (drop k ds) ≡ true = sym (ap (λ o. is_none_or o (λ k. all_zero (drop k ds))) q)
    ∙ f (tag t ∷ ds) refl in
    ap (λ l. low.number t ∷ l) (sym (fit_past m k ds z))

-- what is looked at where a value is taken
pub filled_value : (g : grin_tree.Program) (env : grin.Env) (v : V.Val) (x : Value) → NoNodeVar v
    → value_of g env v ≡ Some x → fills g env v ≡ true → (ds : List Datum) → x ≡ words ds
    → (n : Node) → as_node g x ≡ Some n → is_filled g ds ≡ true
filled_value g env (val.NodeVar y) x nn h f ds e n a = absurd nn
filled_value g env (val.Vector ws) x nn h f ds e n a = go (words_of g env ws) refl h f
  where
    words_same : {as' bs : List Datum} → words as' ≡ words bs → as' ≡ bs
    words_same p = cc

    go : (o : Option (List Datum)) → words_of g env ws ≡ o
        → grin.and_then o (λ l. Some (words l)) ≡ Some x → is_none_or o (is_filled g) ≡ true
        → is_filled g ds ≡ true
    go None q m t = absurd (none_some m)
    go (Some l) q m t = ap (is_filled g) (sym (words_same (some_same m ∙ e))) ∙ t
filled_value g env (val.Node t ws) x nn h f ds e n a = go (words_of g env ws) refl h
  where
    other : (m : Node) → node m ≡ words ds → is_filled g ds ≡ true
    other m p = cc

    go : (o : Option (List Datum)) → words_of g env ws ≡ o
        → grin.and_then o (λ l. grin.and_then (grin.made_node g t.0 l) (λ m. Some (node m))) ≡ Some
        x → is_filled g ds ≡ true
    go None q m = absurd (none_some m)
    go (Some l) q m = by (grin.made_node g t.0 l) refl m
      where
        by : (u : Option Node) → grin.made_node g t.0 l ≡ u
            → grin.and_then u (λ m. Some (node m)) ≡ Some x → is_filled g ds ≡ true
        by None z m = absurd (none_some m)
        by (Some u) z m = other u (some_same m ∙ e)
filled_value g env (val.One w) x nn h f ds e n a = go (grin.word_of g env w) refl h
  where
    words_same : {as' bs : List Datum} → words as' ≡ words bs → as' ≡ bs
    words_same p = cc

    alone : (d : Datum) → is_filled g (d ∷ []) ≡ true
    alone (number k) = refl
    alone (cell b) = refl
    alone (tag t) = none (grin.fields_of g t)
      where
        none : (o : Option ℕ) → is_none_or o (λ k. all_zero (drop k [])) ≡ true
        none None = refl
        none (Some zero) = refl
        none (Some (suc k)) = refl

    go : (o : Option Datum) → grin.word_of g env w ≡ o
        → grin.and_then o (λ d. Some (words (d ∷ []))) ≡ Some x → is_filled g ds ≡ true
    go None q m = absurd (none_some m)
    go (Some d) q m = subst (λ l. is_filled g l ≡ true) (words_same (some_same m ∙ e)) (alone d)

-- ---- tests

-- a decision on a pattern
pub data Decides : MatchOutcome → Option Bool → Type 0 where
  taken' : Decides (fits []) (Some true)
  passed : Decides fits_not (Some false)
  free : {o : Option Bool} → Decides unclear o

eqb-no : (a b : ℕ) → (a ≡ b → ⊥) → nat_eq a b ≡ false
eqb-no a b n = elim (eqb_tells a b) [ inl h ↦ absurd (n h.1) | inr h ↦ h.0 ]

pattern_same : (i k : ℤ) → Has32Bits i → Has32Bits k
    → nat_eq (pattern i) (pattern k) ≡ same_number k i
pattern_same (pos a) (pos b) ha hb = eq_turned a b
pattern_same (pos a) (negsuc b) ha hb = eqb-no a (2 ^ 32 - suc b)
    (λ e. absurd (omega (arith, ha, hb, e)))
pattern_same (negsuc a) (pos b) ha hb = eqb-no (2 ^ 32 - suc a) b
    (λ e. absurd (omega (arith, ha, hb, e)))
pattern_same (negsuc a) (negsuc b) ha hb = go (eqb_tells a b)
  where
    go : ((nat_eq a b ≡ true) × (a ≡ b)) ⊎ ((nat_eq a b ≡ false) × (a ≢ b))
        → nat_eq (2 ^ 32 - suc a) (2 ^ 32 - suc b) ≡ nat_eq b a
    go (inl h) = ap (λ x. nat_eq (2 ^ 32 - suc a) (2 ^ 32 - suc x)) (sym h.1) ∙ eq-eqb
        (2 ^ 32 - suc a) (2 ^ 32 - suc a) refl ∙ sym
        (ap (λ x. nat_eq x a) (sym h.1) ∙ eq-eqb a a refl)
    go (inr h) = eqb-no (2 ^ 32 - suc a) (2 ^ 32 - suc b) (λ e. h.1 (omega (arith, e, ha, hb))) ∙
        sym (eqb-no b a (λ e. h.1 (sym e)))

module _ (p : low_tree.Program) (fw : ℕ → ℕ) (env : Env) where
  pub nth_is : (as' : List Operand) (ws : List Word) (i : ℕ) → operands p fw env as' ≡ Some ws
      → operand p fw env (nth_operand as' i) ≡ Some (nth_word ws i)
  nth_is [] ws i h = ap (λ l. Some (nth_word l i)) (some_same h)
  nth_is (a ∷ as') ws i h = go (operand p fw env a) refl (operands p fw env as') refl h
      (λ bs i qs. nth_is as' bs i qs) i
    where
      go : (o : Option Word) → operand p fw env a ≡ o → (os : Option (List Word))
          → operands p fw env as' ≡ os → and_then o (λ b. and_then os (λ bs. Some (b ∷ bs))) ≡ Some
          ws → ((bs : List Word) (i : ℕ) → operands p fw env as' ≡ Some bs
          → operand p fw env (nth_operand as' i) ≡ Some (nth_word bs i)) → (i : ℕ)
          → operand p fw env (nth_operand (a ∷ as') i) ≡ Some (nth_word ws i)
      go None q os qs m rec i = absurd (none_some m)
      go (Some b) q None qs m rec i = absurd (none_some m)
      go (Some b) q (Some bs) qs m rec zero = q ∙ ap (λ l. Some (nth_word l 0)) (some_same m)
      go (Some b) q (Some bs) qs m rec (suc i) = rec bs i qs ∙ ap (λ l. Some (nth_word l (suc i)))
          (some_same m)

  pub tested_run : (a : Operand) (k m : ℕ) (ts : List LowTest)
      → operand p fw env a ≡ Some (low.number m) → holds p fw env (with_test a k ts) ≡ elim
      (nat_eq m k) [ true ↦ holds p fw env ts | false ↦ Some false ]
  tested_run a k m ts h = go (is_number a k) refl
    where
      in_test : number_in p fw env a ≡ Some m
      in_test = ap (λ o. and_then o low.number_of) h

      known : (a : Operand) → operand p fw env a ≡ Some (low.number m) → is_number a k ≡ true
          → nat_eq m k ≡ true
      known (Num j) h e = subst (λ u. nat_eq u k ≡ true) (number_same (some_same h)) e
        where
          number_same : {x y : ℕ} → low.number x ≡ low.number y → x ≡ y
          number_same q = cc
      known (Var y) h e = absurd (let z : false ≡ true = e in cc)
      known (Cell i) h e = absurd (let z : false ≡ true = e in cc)

      go : (b : Bool) → is_number a k ≡ b → holds p fw env
          (elim b [ true ↦ ts | false ↦ record { left = a; right = k } ∷ ts ]) ≡ elim (nat_eq m k)
          [ true ↦ holds p fw env ts | false ↦ Some false ]
      go true e = sym
          (ap (λ b. elim b [ true ↦ holds p fw env ts | false ↦ Some false ]) (known a h e))
      go false e = ap
          (λ o. and_then o
          (λ q. elim (nat_eq q k) [ true ↦ holds p fw env ts | false ↦ Some false ])) in_test

  -- the first words of a value that stands for a node
  tag_word : (g : grin_tree.Program) (x : Value) (n : Node) → Stands g x n
      → nth_word (images (words_of_value x)) 0 ≡ low.number n.tag
  tag_word g _ _ itself = refl
  tag_word g _ _ (its_words q le) = refl

  number_word : (g : grin_tree.Program) (x : Value) (n : Node) (i : ℤ) (rest : List Datum)
      → Stands g x n → n.fields ≡ number i ∷ rest → nth_word (images (words_of_value x)) 1 ≡
      low.number (pattern i)
  number_word g _ _ i rest (itself {n = n}) e = ap (λ l. nth_word (images l) 0) e
  number_word g _ _ i rest (its_words {k = k} {ds = ds} q le) e = first k ds e
    where
      first : (k : ℕ) (ds : List Datum) → take k ds ≡ number i ∷ rest
          → nth_word (images ds) 0 ≡ low.number (pattern i)
      first zero [] e = absurd (let z : [] ≡ number i ∷ rest = e in cc)
      first zero (d ∷ ds) e = absurd (let z : [] ≡ number i ∷ rest = e in cc)
      first (suc k) [] e = absurd (let z : [] ≡ number i ∷ rest = e in cc)
      first (suc k) (d ∷ ds) e = let same : d ≡ number i = cc in ap word_image same

  ranged_number : (ds : List Datum) (i : ℤ) (rest : List Datum) → AllOf InRange ds
      → ds ≡ number i ∷ rest → Has32Bits i
  ranged_number ds i rest r e = (subst (AllOf InRange) e r).0

  pub tests_decide : (g : grin_tree.Program) (as' : List Operand) (x : Value) (s : S.Shape)
      → operands p fw env as' ≡ Some (images (words_of_value x)) → SoundValue g x
      → BindsNothing (shape_vars s) → ShapeRanged s
      → Decides (fit_of g s x) (holds p fw env (tests as' s))
  tests_decide g as' x shape.Else h v b r = taken'
  tests_decide g as' x (shape.Node t xs) h v b r = go (as_node g x) refl
    where
      none : (xs : List _) → numbers_of xs ≡ [] → (ds : List Datum)
          → grin.fields_fit xs ds ≡ fits []
      none [] b ds = refl
      none (y ∷ ys) b ds = absurd (let z : y.0 ∷ numbers_of ys ≡ [] = b in cc)

      go : (o : Option Node) → as_node g x ≡ o → Decides (grin.node_fit t.0 xs o)
          (holds p fw env (tests as' (shape.Node t xs)))
      go None q = free
      go (Some n) q =
          let w = tag_word g x n (stands g x n q) in
          let e = tested_run (nth_operand as' 0) t.0 n.tag [] (nth_is as' _ 0 h ∙ ap Some w) in
          by (nat_eq n.tag t.0) e
        where
          by : (c : Bool) → holds p fw env (tests as' (shape.Node t xs)) ≡ elim c
              [ true ↦ Some true | false ↦ Some false ]
              → Decides (cond c (grin.fields_fit xs n.fields) fits_not)
              (holds p fw env (tests as' (shape.Node t xs)))
          by true e = subst (λ f. Decides f (holds p fw env (tests as' (shape.Node t xs))))
              (sym (none xs b n.fields)) (subst (Decides (fits [])) (sym e) taken')
          by false e = subst (Decides fits_not) (sym e) passed
  tests_decide g as' x (shape.Int k) h v b r = go (as_node g x) refl
    where
      go : (o : Option Node) → as_node g x ≡ o → Decides (grin.int_fit k o)
          (holds p fw env (tests as' (shape.Int k)))
      go None q = free
      go (Some n) q =
          let s = stands g x n q in
          let e = tested_run (nth_operand as' 0) 0 n.tag
          (with_test (nth_operand as' 1) (pattern k) [])
          (nth_is as' _ 0 h ∙ ap Some (tag_word g x n s)) in
          by (nat_eq n.tag 0) e
        where
          second : (fs : List Datum) → n.fields ≡ fs
              → Decides (grin.number_fit k fs)
              (holds p fw env (with_test (nth_operand as' 1) (pattern k) []))
          second [] e = free
          second (tag t ∷ rest) e = free
          second (cell a ∷ rest) e = free
          second (number i ∷ rest) e =
              let s = stands g x n q in
              let ri = ranged_number n.fields i rest (stands_sound g x n s v).ranged e in
              let d = tested_run (nth_operand as' 1) (pattern k) (pattern i) []
              (nth_is as' _ 1 h ∙ ap Some (number_word g x n i rest s e)) in
              last (same_number k i)
              (d ∙ ap (λ c. elim c [ true ↦ Some true | false ↦ Some false ])
              (pattern_same i k ri r))
            where
              last : (c : Bool) → holds p fw env (with_test (nth_operand as' 1) (pattern k) []) ≡
                  elim c [ true ↦ Some true | false ↦ Some false ]
                  → Decides (cond c (fits []) fits_not)
                  (holds p fw env (with_test (nth_operand as' 1) (pattern k) []))
              last true d = subst (Decides (fits [])) (sym d) taken'
              last false d = subst (Decides fits_not) (sym d) passed

          by : (c : Bool) → holds p fw env (tests as' (shape.Int k)) ≡ elim c [
            | true ↦ holds p fw env (with_test (nth_operand as' 1) (pattern k) [])
            | false ↦ Some
                false
          ] → Decides (cond c (grin.number_fit k n.fields) fits_not)
              (holds p fw env (tests as' (shape.Int k)))
          by true e = subst (Decides (grin.number_fit k n.fields)) (sym e) (second n.fields refl)
          by false e = subst (Decides fits_not) (sym e) passed
