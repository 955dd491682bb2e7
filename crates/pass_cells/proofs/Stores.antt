-- What a group of cells holds is known behind it.
use Rattle.std.proofs.Common.{◌≡◌, ℕ, suc, ◌≤◌, ◌<◌, ◌+◌, Bool, true, false, cond, nat_eq, List, [], ◌∷◌, ◌++◌, length, Option, Some, None, slice_get, refl, sym, ap, ◌∙◌, subst, arith}
use Rattle.seq.specs.Lists.{times}
use Rattle.seq.proofs.Counted.{one_at}
use Rattle.seq.proofs.Order.{eq_from, eq_self, eq_false}
use Rattle.seq.proofs.Truth.{and_left, and_right}
use Rattle.seq.proofs.Lists.{all_append, get_within, get_right}
use Rattle.grin_syntax.specs.declared.program.Cell.{Cell}
use Rattle.grin_syntax.specs.Tree.{Program}
use Rattle.grin_syntax.specs.Binders.{cell_vars}
use Rattle.grin_syntax.specs.Formed.{AllOf}
use Rattle.grin_meaning.specs.Values.{cell, words, Node, Value, Env, HeapCell, and_then, Binding, with_vars, node_of}
use Rattle.grin_meaning.specs.Run.{places, cells_of, node_word}
use Rattle.grin_meaning.specs.Checks.{fills, all_fill}
use Rattle.pass_ground.proofs.Bound.{vars_out, places_names}
use Rattle.pass_cells.specs.Shown.{cells_words}
use Rattle.pass_cells.specs.Memory.{Memory, other, lost, holds, KnownCellContents, stored_contents, word_at, with_memory, after_store}
use Rattle.pass_cells.proofs.Invariant.{all_words, Clear, Words, env_with, cells_good}
use Rattle.pass_cells.proofs.Frames.{Below, Free, below_free, heap_free, all_below, InHeap, frame, Holds, held_holds}
use Rattle.pass_cells.proofs.Own.{Unbound, IsOwn, OwnCell, Beside, Known, AllKnown, clear_one, known_held, own_bound, word_stays}

places_free : (a i : ℕ) (cs : List Cell) → a < i → AllOf (λ b. AllOf (Free a) (all_words b.1))
    (places i cs)
places_free a i [] lt = tt
places_free a i (c ∷ cs) lt =
    (((λ q. omega (arith, lt, q)), tt), places_free a (suc i) cs (omega (arith, lt)))

module _ (g : Program) (own : ℕ → Bool) where
  abbrev free_words : (a : ℕ) → length g.globals ≤ a → Words g
  free_words a low = record {
    V = Free a;
    numbers = λ k. tt;
    tags = λ t. tt;
    globals
        = λ i y e q.
        (let l : i < length g.globals = get_within g.globals i y e in omega (arith, l, low, q));
  }

  -- ---- cells that were there

  stored_own : (env : Env) (c hs : List HeapCell) (cs : List Cell) (x : ℕ) (Q R : HeapCell → Type 0)
      → Unbound (cell_vars cs) env → Clear (IsOwn g own) (cells_words cs)
      → cells_of g (with_vars (places (length c) cs) env) cs ≡ Some hs
      → ((y : HeapCell) → Q y → R y)
      → OwnCell g own env c x Q → Beside g own (with_vars (places (length c) cs) env) (c ++ hs) x R
      []
  stored_own env c hs cs x Q R new shown e f k =
      let bs : List Binding = places (length c) cs in
      let l : k.a < length c = get_within c k.a k.heap.y k.heap.there in
      let b : Beside g own (with_vars bs env) c x R []
      = own_bound g own bs env c x Q R
      (subst (λ l. Unbound l env) (sym (places_names (length c) cs)) new) f k
      (places_free k.a (length c) cs l) in
      record {
        at = record {
          is_own = b.at.is_own;
          a = b.at.a;
          low = b.at.low;
          bound = b.at.bound;
          apart = b.at.apart;
          heap = (frame g b.at.a b.at.low R).stored c hs b.at.heap
              (cells_good g (free_words b.at.a b.at.low) (λ y. y ≡ x) (with_vars bs env) b.at.apart
              cs hs (clear_one g own x (cells_words cs) b.at.is_own shown) e);
        };
        free = tt;
      }

  stored_known : (env : Env) (c hs : List HeapCell) (cs : List Cell) (x : ℕ) (m : Memory)
      → Unbound (cell_vars cs) env → Clear (IsOwn g own) (cells_words cs)
      → cells_of g (with_vars (places (length c) cs) env) cs ≡ Some hs → Known g own env c x m []
      → Known g own (with_vars (places (length c) cs) env) (c ++ hs) x m []
  stored_known env c hs cs x other new shown e k = tt
  stored_known env c hs cs x lost new shown e k = stored_own env c hs cs x (λ y. Unit {0})
      (λ y. Unit {0}) new shown e (λ y h. h) k.at
  stored_known env c hs cs x (holds ws) new shown e k
      = stored_own env c hs cs x (Holds g env (holds ws))
      (Holds g (with_vars (places (length c) cs) env) (holds ws)) new shown e
      (λ y h i. word_stays g own (places (length c) cs) env (word_at ws i) (node_word y.node i)
      (subst (λ l. Unbound l env) (sym (places_names (length c) cs)) new) (h i)) k.at

  -- ---- new cells

  module _ (c hs0 : List HeapCell) (env' : Env) (cs0 : List Cell)
      (e0 : cells_of g env' cs0 ≡ Some hs0) (shown : Clear (IsOwn g own) (cells_words cs0))
      (there : InHeap g c) where
    abbrev New : Cell → Type 0
    New d = own d.var.0 ≡ true → Beside g own env' (c ++ hs0) d.var.0
        (Holds g env' (stored_contents d.val)) []

    new_cell : (a : ℕ) (d : Cell) (cs : List Cell) (env : Env) (n : Node)
        → with_vars (places (suc a) cs)
        (λ y. cond (nat_eq y d.var.0) (Some (words (cell a ∷ []))) (env y)) ≡ env' → length c ≤ a
        → ((y : ℕ) (v : Value) → env y ≡ Some v → AllOf (Below a) (all_words v))
        → times d.var.0 (cell_vars cs) ≡ 0 → slice_get (c ++ hs0) a ≡ Some
        (record { site = d.site.0; node = n }) → node_of g env' d.val ≡ Some n
        → fills g env' d.val ≡ true → New d
    new_cell a d cs env n is le below once at made filled is_own = record {
      at = record {
        is_own = is_own;
        a = a;
        low = low;
        bound = ap (λ e. e d.var.0) (sym is) ∙ vars_out (places (suc a) cs) ext d.var.0
            (subst (λ l. times d.var.0 l ≡ 0) (sym (places_names (suc a) cs)) once) ∙ ap
            (λ b. cond b (Some (words (cell a ∷ []))) (env d.var.0)) (eq_self d.var.0);
        apart = apart;
        heap = record {
          y = record { site = d.site.0; node = n };
          there = at;
          holds = held_holds g env' d.val n d.site.0 made filled;
          hidden = all_append (λ h. AllOf (Free a) h.node.fields) c hs0
              (heap_free a (length c) c le there.fields)
              (cells_good g (free_words a low) (λ y. y ≡ d.var.0) env' apart cs0 hs0
              (clear_one g own d.var.0 (cells_words cs0) is_own shown) e0);
        };
      };
      free = tt;
    }
      where
        ext : Env
        ext = λ y. cond (nat_eq y d.var.0) (Some (words (cell a ∷ []))) (env y)

        low : length g.globals ≤ a
        low = let m : length g.globals ≤ length c = there.globals in omega (arith, m, le)

        before : (y : ℕ) (v : Value) → (y ≡ d.var.0 → ⊥) → ext y ≡ Some v
            → AllOf (Free a) (all_words v)
        before y v out e = below_free a a (all_words v) (omega arith)
            (below y v
            (ap (λ b. cond b (Some (words (cell a ∷ []))) (env y)) (sym (eq_false y d.var.0 out)) ∙
            e))

        apart : (y : ℕ) (v : Value) → (y ≡ d.var.0 → ⊥) → env' y ≡ Some v
            → AllOf (Free a) (all_words v)
        apart y v out e = env_with g (free_words a low) (λ y. y ≡ d.var.0) (places (suc a) cs) ext
            (places_free a (suc a) cs (omega arith)) before y v out (ap (λ e. e y) is ∙ e)

    new_cells : (a : ℕ) (cs : List Cell) (hs : List HeapCell) (env : Env)
        → with_vars (places a cs) env ≡ env' → length c ≤ a
        → ((y : ℕ) (v : Value) → env y ≡ Some v → AllOf (Below a) (all_words v))
        → ((y : ℕ) → times y (cell_vars cs) ≤ 1) →
        ((j : ℕ) (y : HeapCell) → slice_get hs j ≡ Some y
        → slice_get (c ++ hs0) (a + j) ≡ Some y) → cells_of g env' cs ≡ Some hs
        → all_fill g env' cs ≡ true → AllOf New cs
    new_cells a [] hs env is le below once at e filled = tt
    new_cells a (d ∷ cs) hs env is le below once at e filled
        = go (node_of g env' d.val) refl (cells_of g env' cs) refl e
        (λ ks q r. new_cells (suc a) cs ks ext is (omega (arith, le)) more
        (λ y. (let o : times y (d.var.0 ∷ cell_vars cs) ≤ 1 = once y in omega (arith, o))) r q
        (and_right (fills g env' d.val) (all_fill g env' cs) filled))
      where
        ext : Env
        ext = λ y. cond (nat_eq y d.var.0) (Some (words (cell a ∷ []))) (env y)

        more : (y : ℕ) (v : Value) → ext y ≡ Some v → AllOf (Below (suc a)) (all_words v)
        more y v q = by (nat_eq y d.var.0) q
          where
            by : (b : Bool) → cond b (Some (words (cell a ∷ []))) (env y) ≡ Some v
                → AllOf (Below (suc a)) (all_words v)
            by true r = let same : words (cell a ∷ []) ≡ v = cc
                in subst (λ u. AllOf (Below (suc a)) (all_words u)) same (omega arith, tt)
            by false r = all_below a (suc a) (all_words v) (omega arith) (below y v r)

        first : times d.var.0 (cell_vars cs) ≡ 0
        first = let o : times d.var.0 (d.var.0 ∷ cell_vars cs) ≤ 1 = once d.var.0 in let i
            = one_at d.var.0 in omega (arith, o, i)

        go : (o : Option Node) → node_of g env' d.val ≡ o → (os : Option (List HeapCell))
            → cells_of g env' cs ≡ os → and_then
            (and_then o (λ n. Some (record { site = d.site.0; node = n })))
            (λ b. and_then os (λ bs. Some (b ∷ bs))) ≡ Some hs
            → ((ks : List HeapCell) → cells_of g env' cs ≡ Some ks
            → ((j : ℕ) (y : HeapCell) → slice_get ks j ≡ Some y
            → slice_get (c ++ hs0) (suc a + j) ≡ Some y) → AllOf New cs) → AllOf New (d ∷ cs)
        go None q os r x f = cc
        go (Some n) q None r x f = cc
        go (Some n) q (Some ks) r x f =
            let same : record { site = d.site.0; node = n } ∷ ks ≡ hs = cc in
            let at' : (j : ℕ) (y : HeapCell) → slice_get (record { site = d.site.0; node = n } ∷ ks)
            j ≡ Some y → slice_get (c ++ hs0) (a + j) ≡ Some y
            = subst (λ l. (j : ℕ) (y : HeapCell) → slice_get l j ≡ Some y
            → slice_get (c ++ hs0) (a + j) ≡ Some y) (sym same) at in (
              new_cell a d cs env n is le below first
                  (subst (λ k. slice_get (c ++ hs0) k ≡ Some (record { site = d.site.0; node = n }))
                  (omega arith) (at' 0 (record { site = d.site.0; node = n }) refl)) q
                  (and_left (fills g env' d.val) (all_fill g env' cs) filled),
              f ks r (λ j y z. subst (λ k. slice_get (c ++ hs0) k ≡ Some y) (omega arith)
                  (at' (suc j) y z)),
            )

    -- ---- both

    memories_known : (cs : List Cell) (T : KnownCellContents) → AllOf New cs
        → AllKnown g own env' (c ++ hs0) T [] → AllKnown g own env' (c ++ hs0)
        (after_store own cs T) []
    memories_known [] T new k = k
    memories_known (d ∷ cs) T new k = memories_known cs
        (cond (own d.var.0) (with_memory d.var.0 (stored_contents d.val) T) T) new.1
        (λ x. go x (own d.var.0) refl)
      where
        at : (x : ℕ) (b : Bool) → nat_eq x d.var.0 ≡ b → own d.var.0 ≡ true
            → Known g own env' (c ++ hs0) x (cond b (stored_contents d.val) (T x)) []
        at x true q is_own = subst (λ y. Known g own env' (c ++ hs0) y (stored_contents d.val) [])
            (sym (eq_from x d.var.0 q))
            (known_held g own env' (c ++ hs0) d.var.0 d.val [] (new.0 is_own))
        at x false q is_own = k x

        go : (x : ℕ) (b : Bool) → own d.var.0 ≡ b → Known g own env' (c ++ hs0) x
            (cond b (with_memory d.var.0 (stored_contents d.val) T) T x) []
        go x true q = at x (nat_eq x d.var.0) refl q
        go x false q = k x

  pub stores_known : (env : Env) (c hs : List HeapCell) (cs : List Cell) (T : KnownCellContents)
      → Unbound (cell_vars cs) env → ((y : ℕ) → times y (cell_vars cs) ≤ 1)
      → Clear (IsOwn g own) (cells_words cs) → InHeap g c
      → ((y : ℕ) (v : Value) → env y ≡ Some v → AllOf (Below (length c)) (all_words v))
      → cells_of g (with_vars (places (length c) cs) env) cs ≡ Some hs
      → all_fill g (with_vars (places (length c) cs) env) cs ≡ true
      → AllKnown g own env c T [] → AllKnown g own (with_vars (places (length c) cs) env) (c ++ hs)
      (after_store own cs T) []
  stores_known env c hs cs T new once shown there below e filled k =
      let env' : Env = with_vars (places (length c) cs) env in
      memories_known c hs env' cs e shown there cs T
      (new_cells c hs env' cs e shown there (length c) cs hs env refl (omega arith) below once
      (λ j y q. get_right c hs j y q) e filled)
      (λ x. stored_known env c hs cs x (T x) new shown e (k x))
