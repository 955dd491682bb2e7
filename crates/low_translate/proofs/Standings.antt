-- What is known where a piece stands: how many words its ends give, and which frames lie below.
use Rattle.std.proofs.Common.{◌≡◌, ◌≤◌, ℕ, suc, ◌+◌, ◌*◌, Bool, true, false, List, [], ◌∷◌, length, Option, Some, None, refl, sym, ap, ◌∙◌, subst, arith}
use Rattle.seq.proofs.Truth.{not_true}
use Rattle.grin_syntax.specs.declared.program.Word as W
use Rattle.grin_syntax.specs.declared.program.Val as V
use Rattle.grin_syntax.specs.declared.program.Val.TheVariants as val
use Rattle.grin_syntax.specs.Tree as grin_tree
use Rattle.grin_syntax.specs.Tree.{Act, leaf, fetch, fetch_word, call, prim, read}
use Rattle.grin_meaning.specs.Values as grin
use Rattle.grin_meaning.specs.Values.{Datum, tag, Node, Value, node, words, word_of, words_of, value_of}
use Rattle.grin_meaning.specs.Checks.{is_delayed, not_delayed}
use Rattle.grin_meaning.specs.Ready.{NoNodeVar, most_value_fields, val_width}
use Rattle.low_translate.specs.declared.blocks.Goal.{Goal}
use Rattle.low_translate.specs.Translation.{end_words}
use Rattle.low_translate.specs.Lowered.{ActGives}
use Rattle.low_translate.proofs.Images.{words_of_value, SoundNode, SoundValue, given_fits, none_some, some_same}

-- how many words there are in the words of a list
pub words_many : (g : grin_tree.Program) (env : grin.Env) (ws : List W.Word) (ds : List Datum)
    → words_of g env ws ≡ Some ds → length ds ≡ length ws
words_many g env [] ds h = ap length (sym (some_same h))
words_many g env (w ∷ ws) ds h = go (word_of g env w) (words_of g env ws) refl h
    (λ l q. words_many g env ws l q)
  where
    go : (o : Option Datum) (os : Option (List Datum)) → words_of g env ws ≡ os
        → grin.and_then o (λ b. grin.and_then os (λ bs. Some (b ∷ bs))) ≡ Some ds
        → ((l : List Datum) → words_of g env ws ≡ Some l → length l ≡ length ws)
        → length ds ≡ suc (length ws)
    go None os q k rec = absurd (none_some k)
    go (Some d) None q k rec = absurd (none_some k)
    go (Some d) (Some l) q k rec = ap length (sym (some_same k)) ∙ ap suc (rec l q)

-- a node that is no delayed call has few words
pub node_narrow : (g : grin_tree.Program) (n : Node) → SoundNode g n → not_delayed g (node n) ≡ true
    → length (words_of_value (node n)) ≤ 1 + most_value_fields g.tags
node_narrow g n s h = given_fits g n s (not_true (is_delayed g n.tag) h)

-- a value has as many words as its text says, unless it is a delayed call
pub val_narrow : (g : grin_tree.Program) (env : grin.Env) (v : V.Val) (x : Value)
    → value_of g env v ≡ Some x → NoNodeVar v → SoundValue g x → not_delayed g x ≡ true
    → length (words_of_value x) ≤ val_width (1 + most_value_fields g.tags) v
val_narrow g env (val.NodeVar y) x h n s d = absurd n
val_narrow g env (val.One w) x h n s d = go (word_of g env w) h
  where
    go : (o : Option Datum) → grin.and_then o (λ d. Some (words (d ∷ []))) ≡ Some x
        → length (words_of_value x) ≤ 1
    go None k = absurd (none_some k)
    go (Some u) k = subst (λ y. length (words_of_value y) ≤ 1) (some_same k) (omega arith)
val_narrow g env (val.Vector ws) x h n s d = go (words_of g env ws) refl h
  where
    go : (o : Option (List Datum)) → words_of g env ws ≡ o
        → grin.and_then o (λ ds. Some (words ds)) ≡ Some x → length (words_of_value x) ≤ length ws
    go None q k = absurd (none_some k)
    go (Some ds) q k = subst (λ y. length (words_of_value y) ≤ length ws) (some_same k)
        (let m = words_many g env ws ds q in omega (arith, m))
val_narrow g env (val.Node t ws) x h n s d = go (words_of g env ws) h
  where
    go : (o : Option (List Datum)) → grin.and_then o
        (λ ds. grin.and_then (grin.made_node g t.0 ds) (λ m. Some (node m))) ≡ Some x
        → length (words_of_value x) ≤ 1 + most_value_fields g.tags
    go None k = absurd (none_some k)
    go (Some ds) k = by (grin.made_node g t.0 ds) k
      where
        by : (o : Option Node) → grin.and_then o (λ m. Some (node m)) ≡ Some x
            → length (words_of_value x) ≤ 1 + most_value_fields g.tags
        by None z = absurd (none_some z)
        by (Some m) z = let e : x ≡ node m = sym (some_same z)
            in subst (λ y. length (words_of_value y) ≤ 1 + most_value_fields g.tags) (sym e)
            (node_narrow g m (subst (SoundValue g) e s) (ap (not_delayed g) (sym e) ∙ d))

module _ (g : grin_tree.Program) (rs : List ℕ) (width most : ℕ) where
  -- Where a piece stands: of a value that goes on it is known that P, and `under` words of frames
  -- lie under those of its
  -- procedure, which are `top` in all, at nesting d. A piece that leaves its procedure gives no
  -- delayed call; another one gives
  -- no more words than there are variables for
  pub record Standing (P : Value → Type 0) (goal : Goal) (d top : ℕ) (under : Option ℕ)
      : Type 0 where
    pub narrow : goal.leaves ≡ false → (v : Value) → P v → length (words_of_value v) ≤ goal.words
    pub given : goal.leaves ≡ true → (v : Value) → P v → not_delayed g v ≡ true
    pub below : goal.leaves ≡ true → (u : ℕ) × (under ≡ Some u) × (u ≤ d * most)
    pub inside : goal.leaves ≡ false → top ≤ d * most
    pub deeper : top ≤ suc d * most

  -- the ends of a piece that leaves its procedure give few words
  abbrev pub Giving : Goal → (ℕ → Type 0) → Type 0
  Giving goal Gives = goal.leaves ≡ true → Gives goal.words

  abbrev pub Gives : Act → ℕ → Type 0
  Gives o r = ActGives (1 + most_value_fields g.tags) rs r o

  -- the words of an operation at an end are no more than are given
  words_fit : (o : Act) (k : ℕ) → Gives o k → end_words width rs k o ≤ k
  unfolding ActGives
  words_fit (leaf (fetch a)) k h = omega arith
  words_fit (leaf (fetch_word a i)) k h = h
  words_fit (leaf (prim f a b)) k h = h
  words_fit (leaf read) k h = h
  words_fit (leaf (call f ws)) k h = omega (arith, h)
  words_fit _ k h = omega arith

  module _ (P : Value → Type 0) (goal : Goal) (d top : ℕ) (under : Option ℕ)
      (s : Standing P goal d top under) where
    pub ends_fit : (o : Act) → Giving goal (Gives o) → (v : Value) → P v
        → length (words_of_value v) ≤ end_words width rs goal.words o
        → length (words_of_value v) ≤ goal.words
    ends_fit o h v p le = go goal.leaves refl
      where
        go : (b : Bool) → goal.leaves ≡ b → length (words_of_value v) ≤ goal.words
        go false e = s.narrow e v p
        go true e = let m = words_fit o goal.words (h e) in omega (arith, le, m)

    -- a node that goes on fits
    pub node_fits_goal : (m : Node) → SoundNode g m
        → Giving goal (λ r. 1 + most_value_fields g.tags ≤ r) → P (node m)
        → length (words_of_value (node m)) ≤ goal.words
    node_fits_goal m sn h p = go goal.leaves refl
      where
        go : (b : Bool) → goal.leaves ≡ b → length (words_of_value (node m)) ≤ goal.words
        go false e = s.narrow e (node m) p
        go true e = let a = node_narrow g m sn (s.given e (node m) p) in let b = h e
            in omega (arith, a, b)

    -- so does a value at an end
    pub value_fits_goal : (env : grin.Env) (v : V.Val) (x : Value) → value_of g env v ≡ Some x
        → NoNodeVar v → SoundValue g x → Giving goal
        (λ r. val_width (1 + most_value_fields g.tags) v ≤ r) → P x
        → length (words_of_value x) ≤ goal.words
    value_fits_goal env v x q n sv h p = go goal.leaves refl
      where
        go : (b : Bool) → goal.leaves ≡ b → length (words_of_value x) ≤ goal.words
        go false e = s.narrow e x p
        go true e = let a = val_narrow g env v x q n sv (s.given e x p) in let b = h e
            in omega (arith, a, b)
