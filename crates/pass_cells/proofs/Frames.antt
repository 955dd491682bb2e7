-- Two properties of heaps that runs keep: each cell that is mentioned is there; and a cell is there
-- that
-- no other one mentions.
use Rattle.std.proofs.Common.{◌≡◌, ℕ, zero, suc, pos, ◌≤◌, ◌<◌, ◌+◌, Bool, true, false, cond, nat_eq, nat_le, List, [], ◌∷◌, ◌++◌, length, take, drop, Option, Some, None, slice_get, slice_set, refl, sym, ap, ◌∙◌, subst, arith}
use Rattle.seq.proofs.Order.{eq_from, differs_from}
use Rattle.seq.proofs.Lists.{all_append, all_get, all_set, length_set, get_within, get_left, get_set}
use Rattle.grin_syntax.specs.declared.program.Word as W
use Rattle.grin_syntax.specs.declared.program.Word.TheVariants.{TagWord}
use Rattle.grin_syntax.specs.declared.program.Val as V
use Rattle.grin_syntax.specs.declared.program.Val.TheVariants.{NodeVar, Node as Node', Vector, One}
use Rattle.grin_syntax.specs.Tree.{Program}
use Rattle.grin_syntax.specs.Formed.{AllOf}
use Rattle.grin_meaning.specs.Values.{Datum, number, tag, cell, words, node, Node, Value, Env, HeapCell, State, and_then, word_of, words_of, node_of, as_node, made_node, fields_of}
use Rattle.grin_meaning.specs.Run.{node_word, nth_or_zero}
use Rattle.grin_meaning.specs.Checks.{fills, is_filled, all_zero, is_none_or}
use Rattle.grin_meaning.proofs.Checked.{zeros_are}
use Rattle.pass_cells.specs.Memory.{Memory, other, lost, holds, stored_contents, word_at}
use Rattle.pass_cells.proofs.Invariant.{all_words, many_append, Invariant, Anyway}

-- ---- lists

pub set_other : (c : List HeapCell) (i a : ℕ) (new y : HeapCell) → (i ≡ a → ⊥)
    → slice_get c a ≡ Some y → slice_get (slice_set c i new) a ≡ Some y
set_other [] i a new y n e = e
set_other (x ∷ c) zero zero new y n e = absurd (n refl)
set_other (x ∷ c) zero (suc a) new y n e = e
set_other (x ∷ c) (suc i) zero new y n e = e
set_other (x ∷ c) (suc i) (suc a) new y n e = set_other c i a new y (λ q. n (ap suc q)) e

-- ---- each cell is there

abbrev pub Below : ℕ → Datum → Type 0
Below n (cell i) = i < n
Below n (number k) = Unit {0}
Below n (tag t) = Unit {0}

pub below_more : (n m : ℕ) (d : Datum) → n ≤ m → Below n d → Below m d
below_more n m (cell i) le h = omega (arith, le, h)
below_more n m (number k) le h = tt
below_more n m (tag t) le h = tt

pub all_below : (n m : ℕ) (ds : List Datum) → n ≤ m → AllOf (Below n) ds → AllOf (Below m) ds
all_below n m [] le h = tt
all_below n m (d ∷ ds) le h = (below_more n m d le h.0, all_below n m ds le h.1)

pub fields_below : (n m : ℕ) (c : List HeapCell) → n ≤ m
    → AllOf (λ h. AllOf (Below n) h.node.fields) c → AllOf (λ h. AllOf (Below m) h.node.fields) c
fields_below n m [] le h = tt
fields_below n m (x ∷ c) le h = (all_below n m x.node.fields le h.0, fields_below n m c le h.1)

-- ---- a cell that is mentioned by no other

abbrev pub Free : ℕ → Datum → Type 0
Free a (cell i) = i ≡ a → ⊥
Free a (number k) = Unit {0}
Free a (tag t) = Unit {0}

pub below_free : (a n : ℕ) (ds : List Datum) → n ≤ a → AllOf (Below n) ds → AllOf (Free a) ds
below_free a n [] le h = tt
below_free a n (cell i ∷ ds) le h =
    (λ q. (let l : i < n = h.0 in omega (arith, le, l, q)), below_free a n ds le h.1)
below_free a n (number k ∷ ds) le h = (tt, below_free a n ds le h.1)
below_free a n (tag t ∷ ds) le h = (tt, below_free a n ds le h.1)

pub heap_free : (a n : ℕ) (c : List HeapCell) → n ≤ a → AllOf (λ h. AllOf (Below n) h.node.fields) c
    → AllOf (λ h. AllOf (Free a) h.node.fields) c
heap_free a n [] le h = tt
heap_free a n (x ∷ c) le h = (below_free a n x.node.fields le h.0, heap_free a n c le h.1)

pub record Frame (a : ℕ) (Q : HeapCell → Type 0) (c : List HeapCell) : Type 0 where
  pub y : HeapCell
  pub there : slice_get c a ≡ Some y
  pub holds : Q y
  pub hidden : AllOf (λ h. AllOf (Free a) h.node.fields) c

module _ (g : Program) where
  pub record InHeap (c : List HeapCell) : Type 0 where
    pub globals : length g.globals ≤ length c
    pub fields : AllOf (λ h. AllOf (Below (length c)) h.node.fields) c

  pub record StateInHeap (s : State) : Type 0 where
    pub heap : InHeap s.heap
    pub variables : (y : ℕ) (v : Value) → s.env y ≡ Some v
        → AllOf (Below (length s.heap)) (all_words v)

  abbrev pub all_there : Invariant g
  all_there = record {
    I = InHeap;
    S = StateInHeap;
    V = Below;
    more = below_more;
    numbers = λ n k. tt;
    tags = λ n t. tt;
    globals = λ c n h le i y e.
        (let l : i < length g.globals = get_within g.globals i y e in let m
        : length g.globals ≤ length c = h.globals in omega (arith, l, m, le));
    state = λ env c h all. record { heap = h; variables = all };
    fresh = λ c i n h le lt. lt;
    fetched = λ c i y h e. all_get (λ h. AllOf (Below (length c)) h.node.fields) c i y h.fields e;
    stored = λ c hs h all.
        (let l : length (c ++ hs) ≡ length c + length hs = many_append c hs in let m
        : length g.globals ≤ length c = h.globals in record {
          globals = omega (arith, l, m);
          fields = subst (λ n. AllOf (λ h. AllOf (Below n) h.node.fields) (c ++ hs)) (sym l)
              (all_append (λ h. AllOf (Below (length c + length hs)) h.node.fields) c hs
              (fields_below (length c) (length c + length hs) c (omega arith) h.fields) all);
        });
    updated = λ c i y n h v e all.
        (let l : length (slice_set c i (record { site = y.site; node = n })) ≡ length c
        = length_set c i (record { site = y.site; node = n }) in let m : length g.globals ≤ length c
        = h.globals in record {
          globals = omega (arith, l, m);
          fields = subst
              (λ k. AllOf (λ h. AllOf (Below k) h.node.fields)
              (slice_set c i (record { site = y.site; node = n }))) (sym l)
              (all_set (λ h. AllOf (Below (length c)) h.node.fields) c i
              (record { site = y.site; node = n }) h.fields all);
        });
  }

  module _ (a : ℕ) (low : length g.globals ≤ a) (Q : HeapCell → Type 0) where
    abbrev pub frame : Invariant g
    frame = record {
      I = Frame a Q;
      S = λ s. Unit {0};
      V = λ n. Free a;
      more = λ n m d le h. h;
      numbers = λ n k. tt;
      tags = λ n t. tt;
      globals = λ c n h le i y e q.
          (let l : i < length g.globals = get_within g.globals i y e in omega (arith, l, low, q));
      state = λ env c h all. tt;
      fresh = λ c i n h le lt q.
          (let l : a < length c = get_within c a h.y h.there in omega (arith, l, le, q));
      fetched = λ c i y h e. all_get (λ h. AllOf (Free a) h.node.fields) c i y h.hidden e;
      stored = λ c hs h all. record {
        y = h.y;
        there = get_left c hs a h.y h.there;
        holds = h.holds;
        hidden
            = all_append (λ h. AllOf (Free a) h.node.fields) c hs h.hidden all;
      };
      updated = λ c i y n h v e all. record {
        y = h.y;
        there = set_other c i a (record { site = y.site; node = n }) h.y v h.there;
        holds = h.holds;
        hidden = all_set (λ h. AllOf (Free a) h.node.fields) c i
            (record { site = y.site; node = n }) h.hidden all;
      };
    }

    pub anyway : ((y : HeapCell) → Q y) → Anyway g frame
    anyway any c i y n h e all = go (nat_eq i a) refl
      where
        new : HeapCell
        new = record { site = y.site; node = n }

        go : (b : Bool) → nat_eq i a ≡ b → Frame a Q (slice_set c i new)
        go true t = record {
          y = new;
          there = subst (λ j. slice_get (slice_set c i new) j ≡ Some new) (eq_from i a t)
              (get_set c i new (get_within c i y e));
          holds = any new;
          hidden = all_set (λ h. AllOf (Free a) h.node.fields) c i new h.hidden all;
        }
        go false t = record {
          y = h.y;
          there = set_other c i a new h.y (differs_from i a t) h.there;
          holds = h.holds;
          hidden = all_set (λ h. AllOf (Free a) h.node.fields) c i new h.hidden all;
        }

  -- ---- what a cell holds

  -- by the words that are remembered of it
  abbrev pub Holds : Env → Memory → HeapCell → Type 0
  Holds env (holds ws) y = (i : ℕ) → word_of g env (word_at ws i) ≡ Some (node_word y.node i)
  Holds env lost y = Unit {0}
  Holds env other y = Unit {0}

  module _ (env : Env) where
    words_hold : (ws : List W.Word) (ds : List Datum) → words_of g env ws ≡ Some ds → (i : ℕ)
        → word_of g env (word_at ws i) ≡ Some (nth_or_zero ds i)
    words_hold [] ds e i = let same : [] ≡ ds = cc in ap (λ l. Some (nth_or_zero l i)) same
    words_hold (a ∷ ws) ds e i = go (word_of g env a) refl (words_of g env ws) e i (words_hold ws)
      where
        at : (d : Datum) (es : List Datum) → word_of g env a ≡ Some d
            → ((j : ℕ) → word_of g env (word_at ws j) ≡ Some (nth_or_zero es j)) → (i : ℕ)
            → word_of g env (word_at (a ∷ ws) i) ≡ Some (nth_or_zero (d ∷ es) i)
        at d es q f zero = q
        at d es q f (suc j) = f j

        go : (o : Option Datum) → word_of g env a ≡ o → (os : Option (List Datum))
            → and_then o (λ b. and_then os (λ bs. Some (b ∷ bs))) ≡ Some ds → (i : ℕ)
            → ((es : List Datum) → os ≡ Some es → (j : ℕ)
            → word_of g env (word_at ws j) ≡ Some (nth_or_zero es j))
            → word_of g env (word_at (a ∷ ws) i) ≡ Some (nth_or_zero ds i)
        go None q os x i f = cc
        go (Some d) q None x i f = cc
        go (Some d) q (Some es) x i f = let same : d ∷ es ≡ ds = cc
            in subst (λ l. word_of g env (word_at (a ∷ ws) i) ≡ Some (nth_or_zero l i)) same
            (at d es q (f es refl) i)

  zero_at : (ds : List Datum) (i : ℕ) → AllOf (λ d. d ≡ number (pos 0)) ds
      → nth_or_zero ds i ≡ number (pos 0)
  zero_at [] i h = refl
  zero_at (d ∷ ds) zero h = h.0
  zero_at (d ∷ ds) (suc i) h = zero_at ds i h.1

  taken_at : (m : ℕ) (ds : List Datum) (i : ℕ) → AllOf (λ d. d ≡ number (pos 0)) (drop m ds)
      → nth_or_zero (take m ds) i ≡ nth_or_zero ds i
  taken_at zero ds i h = sym (zero_at ds i h)
  taken_at (suc m) [] i h = refl
  taken_at (suc m) (d ∷ ds) zero h = refl
  taken_at (suc m) (d ∷ ds) (suc i) h = taken_at m ds i h

  -- the words of a vector are those of its node
  vector_holds : (ds : List Datum) (n : Node) → as_node g (words ds) ≡ Some n
      → is_filled g ds ≡ true → (i : ℕ) → nth_or_zero ds i ≡ node_word n i
  vector_holds [] n e f i = cc
  vector_holds (number k ∷ ds) n e f i = cc
  vector_holds (cell a ∷ ds) n e f i = cc
  vector_holds (tag t ∷ ds) n e f i = go (fields_of g t) e f
    where
      at : (m : ℕ) (b : Bool) → cond b (Some (record { tag = t; fields = take m ds })) None ≡ Some n
          → all_zero (drop m ds) ≡ true → (i : ℕ) → nth_or_zero (tag t ∷ ds) i ≡ node_word n i
      at m false q z i = cc
      at m true q z zero = let same : record { tag = t; fields = take m ds } ≡ n = cc
          in ap (λ k. tag k.tag) same
      at m true q z (suc j) = let same : record { tag = t; fields = take m ds } ≡ n = cc
          in sym (taken_at m ds j (zeros_are (drop m ds) z)) ∙ ap (λ k. nth_or_zero k.fields j) same

      go : (o : Option ℕ) → and_then o
          (λ m. cond (nat_le m (length ds)) (Some (record { tag = t; fields = take m ds })) None) ≡
          Some n → is_none_or o (λ m. all_zero (drop m ds)) ≡ true
          → nth_or_zero (tag t ∷ ds) i ≡ node_word n i
      go None q z = cc
      go (Some m) q z = at m (nat_le m (length ds)) q z i

  -- a cell holds what is put into it
  pub held_holds : (env : Env) (v : V.Val) (n : Node) (s : ℕ) → node_of g env v ≡ Some n
      → fills g env v ≡ true → Holds env (stored_contents v) (record { site = s; node = n })
  held_holds env (NodeVar x) n s e f = tt
  held_holds env (Node' t ws) n s e f = λ i. go (words_of g env ws) refl e i
    where
      at : (ds : List Datum) → words_of g env ws ≡ Some ds → (o : Option ℕ)
          → and_then
          (and_then
          (and_then o
          (λ m. cond (nat_eq m (length ds)) (Some (record { tag = t.0; fields = ds })) None))
          (λ n. Some (node n))) (as_node g) ≡ Some n
          → (i : ℕ) → word_of g env (word_at (TagWord t ∷ ws) i) ≡ Some (node_word n i)
      at ds q None r i = cc
      at ds q (Some m) r i = by (nat_eq m (length ds)) r i
        where
          by : (b : Bool) → and_then
              (and_then (cond b (Some (record { tag = t.0; fields = ds })) None)
              (λ n. Some (node n))) (as_node g) ≡ Some n → (i : ℕ)
              → word_of g env (word_at (TagWord t ∷ ws) i) ≡ Some (node_word n i)
          by false x i = cc
          by true x zero = let same : record { tag = t.0; fields = ds } ≡ n = cc
              in ap (λ k. Some (tag k.tag)) same
          by true x (suc j) = let same : record { tag = t.0; fields = ds } ≡ n = cc
              in words_hold env ws ds q j ∙ ap (λ k. Some (nth_or_zero k.fields j)) same

      go : (o : Option (List Datum)) → words_of g env ws ≡ o
          → and_then (and_then o (λ ds. and_then (made_node g t.0 ds) (λ n. Some (node n))))
          (as_node g) ≡ Some n → (i : ℕ) → word_of g env (word_at (TagWord t ∷ ws) i) ≡ Some
          (node_word n i)
      go None q r i = cc
      go (Some ds) q r i = at ds q (fields_of g t.0) r i
  held_holds env (Vector ws) n s e f = λ i. go (words_of g env ws) refl e f i
    where
      go : (o : Option (List Datum)) → words_of g env ws ≡ o
          → and_then (and_then o (λ ds. Some (words ds))) (as_node g) ≡ Some n
          → is_none_or o (is_filled g) ≡ true → (i : ℕ)
          → word_of g env (word_at ws i) ≡ Some (node_word n i)
      go None q r z i = cc
      go (Some ds) q r z i = words_hold env ws ds q i ∙ ap Some (vector_holds ds n r z i)
  held_holds env (One a) n s e f = λ i. go (word_of g env a) refl e i
    where
      none : (m t : ℕ) (b : Bool) → cond b (Some (record { tag = t; fields = take m [] })) None ≡
          Some n → (i : ℕ) → nth_or_zero (tag t ∷ []) i ≡ node_word n i
      none m t false q i = cc
      none zero t true q zero = let same : record { tag = t; fields = [] } ≡ n = cc
          in ap (λ k. tag k.tag) same
      none (suc m) t true q zero = let same : record { tag = t; fields = [] } ≡ n = cc
          in ap (λ k. tag k.tag) same
      none zero t true q (suc j) = let same : record { tag = t; fields = [] } ≡ n = cc
          in ap (λ k. nth_or_zero k.fields j) same
      none (suc m) t true q (suc j) = let same : record { tag = t; fields = [] } ≡ n = cc
          in ap (λ k. nth_or_zero k.fields j) same

      some : (d : Datum) → as_node g (words (d ∷ [])) ≡ Some n → (i : ℕ)
          → nth_or_zero (d ∷ []) i ≡ node_word n i
      some (number k) q i = cc
      some (cell b) q i = cc
      some (tag t) q i = at (fields_of g t) q
        where
          at : (o : Option ℕ) → and_then o
              (λ m. cond (nat_le m 0) (Some (record { tag = t; fields = take m [] })) None) ≡ Some n
              → nth_or_zero (tag t ∷ []) i ≡ node_word n i
          at None x = cc
          at (Some m) x = none m t (nat_le m 0) x i

      one : (d : Datum) → word_of g env a ≡ Some d → (i : ℕ)
          → word_of g env (word_at (a ∷ []) i) ≡ Some (nth_or_zero (d ∷ []) i)
      one d q zero = q
      one d q (suc j) = refl

      go : (o : Option Datum) → word_of g env a ≡ o
          → and_then (and_then o (λ d. Some (words (d ∷ [])))) (as_node g) ≡ Some n → (i : ℕ)
          → word_of g env (word_at (a ∷ []) i) ≡ Some (node_word n i)
      go None q r i = cc
      go (Some d) q r i = one d q i ∙ ap Some (some d r i)
