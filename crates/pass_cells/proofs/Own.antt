-- What is remembered of cells stays true through operations and bindings.
use Rattle.std.proofs.Common.{◌≡◌, ℕ, zero, suc, ◌≤◌, ◌<◌, Bool, true, false, cond, ◌||◌, nat_eq, List, [], ◌∷◌, length, Option, Some, None, slice_get, slice_set, ◌⊎◌, inl, inr, refl, sym, ap, ◌∙◌, subst, arith}
use Rattle.seq.specs.Lists.{times}
use Rattle.seq.proofs.Order.{eq_from, eq_turned}
use Rattle.seq.proofs.Lists.{get_within, get_set}
use Rattle.grin_syntax.specs.declared.program.VarId.{VarId}
use Rattle.grin_syntax.specs.declared.program.Word as W
use Rattle.grin_syntax.specs.declared.program.Word.TheVariants.{Lit, Var, Global, TagWord}
use Rattle.grin_syntax.specs.declared.program.Val as V
use Rattle.grin_syntax.specs.declared.program.Val.TheVariants.{NodeVar, Node as Node', Vector, One}
use Rattle.grin_syntax.specs.declared.program.Target.{Target}
use Rattle.grin_syntax.specs.Tree.{Act, leaf, unit, fetch, fetch_word, update, eval, apply, call, prim, read, write, case, nested, fail, Program}
use Rattle.grin_syntax.specs.Formed.{AllOf}
use Rattle.grin_meaning.specs.Values.{Datum, cell, words, Node, Value, Env, HeapCell, State, World, gives, need, and_then, Binding, with_vars, only_word, word_of, node_of, bindings_of}
use Rattle.grin_meaning.specs.Run.{Calls, act_by, require_if_checked, with_node, place_of, node_word}
use Rattle.grin_meaning.specs.Checks.{fills}
use Rattle.grin_meaning.specs.Ready.{EachAct, inlined_kind}
use Rattle.grin_meaning.specs.Follows.{HoldsInEveryState}
use Rattle.pass_ground.specs.Uses.{words_use}
use Rattle.pass_ground.proofs.Bound.{names_of, vars_out}
use Rattle.pass_ground.specs.Updated.{act_updated}
use Rattle.pass_cells.specs.Shown.{val_words, act_shown}
use Rattle.pass_cells.specs.Memory.{Memory, other, lost, holds, KnownCellContents, stored_contents, word_at, contents_forgotten, contents_replaced, after_update, after_act}
use Rattle.pass_cells.proofs.Invariant.{all_words, Clear, Invariant, CallsGood, Good, Kept, act_kept, kept_gives, words_of_heap, bindings_good, env_with}
use Rattle.pass_cells.proofs.Frames.{Free, Frame, frame, anyway, Holds, held_holds}

every_unit : (ss : List State) → HoldsInEveryState (λ s. Unit {0}) ss
every_unit [] = tt
every_unit (s ∷ ss) = (tt, every_unit ss)

-- these variables aren't bound yet
abbrev pub Unbound : List ℕ → Env → Type 0
Unbound vs env = (y : ℕ) → 0 < times y vs → env y ≡ None

-- a variable that is bound isn't among them
pub out_of : (vs : List ℕ) (env : Env) (x : ℕ) (v : Value) → Unbound vs env → env x ≡ Some v
    → times x vs ≡ 0
out_of vs env x v new e = go (times x vs) refl
  where
    go : (n : ℕ) → times x vs ≡ n → n ≡ 0
    go zero q = refl
    go (suc n) q = let none : env x ≡ None = new x (omega (arith, q)) in let both : Some v ≡ None
        = sym e ∙ none in cc

module _ (g : Program) (own : ℕ → Bool) where
  abbrev pub IsOwn : ℕ → Type 0
  IsOwn x = own x ≡ true

  -- x stands for a cell that nothing else mentions, and Q holds of what is in it
  pub record OwnCell (env : Env) (c : List HeapCell) (x : ℕ) (Q : HeapCell → Type 0) : Type 0 where
    pub is_own : own x ≡ true
    pub a : ℕ
    pub low : length g.globals ≤ a
    pub bound : env x ≡ Some (words (cell a ∷ []))
    pub apart : (y : ℕ) (v : Value) → (y ≡ x → ⊥) → env y ≡ Some v → AllOf (Free a) (all_words v)
    pub heap : Frame a Q c

  -- and these words don't mention it
  pub record Beside (env : Env) (c : List HeapCell) (x : ℕ) (Q : HeapCell → Type 0)
      (ds : List Datum) : Type 0 where
    pub at : OwnCell env c x Q
    pub free : AllOf (Free at.a) ds

  abbrev pub Known : Env → List HeapCell → ℕ → Memory → List Datum → Type 0
  Known env c x other ds = Unit {0}
  Known env c x lost ds = Beside env c x (λ y. Unit {0}) ds
  Known env c x (holds ws) ds = Beside env c x (Holds g env (holds ws)) ds

  abbrev pub AllKnown : Env → List HeapCell → KnownCellContents → List Datum → Type 0
  AllKnown env c T ds = (x : ℕ) → Known env c x (T x) ds

  own_weaker : (env : Env) (c : List HeapCell) (x : ℕ) (Q R : HeapCell → Type 0) (ds : List Datum)
      → ((y : HeapCell) → Q y → R y) → Beside env c x Q ds → Beside env c x R ds
  own_weaker env c x Q R ds f k = record {
    at = record {
      is_own = k.at.is_own;
      a = k.at.a;
      low = k.at.low;
      bound = k.at.bound;
      apart
          = k.at.apart;
      heap = record {
        y = k.at.heap.y;
        there = k.at.heap.there;
        holds = f k.at.heap.y k.at.heap.holds;
        hidden
            = k.at.heap.hidden;
      };
    };
    free = k.free;
  }

  pub known_forgotten : (env : Env) (c : List HeapCell) (x : ℕ) (m : Memory) (ds : List Datum)
      → Known env c x m ds → Known env c x (contents_forgotten m) ds
  known_forgotten env c x other ds k = k
  known_forgotten env c x lost ds k = k
  known_forgotten env c x (holds ws) ds k = own_weaker env c x (Holds g env (holds ws))
      (λ y. Unit {0}) ds (λ y h. tt) k

  pub known_held : (env : Env) (c : List HeapCell) (x : ℕ) (v : V.Val) (ds : List Datum)
      → Beside env c x (Holds g env (stored_contents v)) ds → Known env c x (stored_contents v) ds
  known_held env c x (NodeVar z) ds k = own_weaker env c x (λ y. Unit {0}) (λ y. Unit {0}) ds
      (λ y h. tt) k
  known_held env c x (Node' t ws) ds k = k
  known_held env c x (Vector ws) ds k = k
  known_held env c x (One a) ds k = k

  -- without the words
  pub known_alone : (env : Env) (c : List HeapCell) (x : ℕ) (m : Memory) (ds : List Datum)
      → Known env c x m ds → Known env c x m []
  known_alone env c x other ds k = tt
  known_alone env c x lost ds k = record { at = k.at; free = tt }
  known_alone env c x (holds ws) ds k = record { at = k.at; free = tt }

  pub clear_one : (x : ℕ) (ws : List W.Word) → own x ≡ true → Clear IsOwn ws → Clear (λ y. y ≡ x) ws
  clear_one x ws e h = record { by = λ y q. h.by y (ap own q ∙ e) }

  -- ---- operations

  module _ (c : Calls) (cg : (k : Invariant g) → CallsGood g k c) where
    -- x isn't updated, or what is said of it doesn't matter
    abbrev NoMatter : ℕ → (HeapCell → Type 0) → Act → Type 0
    NoMatter x Q o = (words_use x (act_updated o) ≡ false) ⊎ ((y : HeapCell) → Q y)

    own_act : (env : Env) (d : ℕ) (o : Act) (w w' : World) (v : Value) (x : ℕ)
        (Q : HeapCell → Type 0) (ds : List Datum) → EachAct inlined_kind o
        → Clear IsOwn (act_shown o) → NoMatter x Q o → act_by g c true env d o w ≡ gives v w'
        → Beside env w.cells x Q ds → Beside env w'.cells x Q (all_words v)
    own_act env d o w w' v x Q ds l s n e k = record {
      at = record {
        is_own = k.at.is_own;
        a = k.at.a;
        low = k.at.low;
        bound = k.at.bound;
        apart
            = k.at.apart;
        heap = all.2.heap;
      };
      free = all.1;
    }
      where
        inv : Invariant g
        inv = frame g k.at.a k.at.low Q

        fits : NoMatter x Q o → Clear (λ y. y ≡ x) (act_updated o)
            ⊎ ((c : List HeapCell) (i : ℕ) (y : HeapCell) (n : Node) → Frame k.at.a Q c
            → slice_get c i ≡ Some y → AllOf (Free k.at.a) n.fields
            → Frame k.at.a Q (slice_set c i (record { site = y.site; node = n })))
        fits (inl f) = inl
            (record { by = λ y q. subst (λ z. words_use z (act_updated o) ≡ false) (sym q) f })
        fits (inr any) = inr (anyway g k.at.a k.at.low Q any)

        all : length w.cells ≤ length w'.cells × AllOf (Free k.at.a) (all_words v) × Good g inv w'
        all = kept_gives g inv (length w.cells) v w' (subst (Kept g inv (length w.cells)) e
            (act_kept g inv true c (cg inv) (λ y. y ≡ x) (λ env c i r. tt) env d o w
            (λ y v out q. k.at.apart y v out q)
            (record { heap = k.at.heap; seen = every_unit w.seen }) l
            (clear_one x (act_shown o) k.at.is_own s) (fits n)))

    -- behind an operation: the same, where its cell isn't updated
    known_act : (env : Env) (d : ℕ) (o : Act) (w w' : World) (v : Value) (x : ℕ) (m : Memory)
        (ds : List Datum) → EachAct inlined_kind o → Clear IsOwn (act_shown o)
        → words_use x (act_updated o) ≡ false → act_by g c true env d o w ≡ gives v w'
        → Known env w.cells x m ds → Known env w'.cells x m (all_words v)
    known_act env d o w w' v x other ds l s n e k = tt
    known_act env d o w w' v x lost ds l s n e k = own_act env d o w w' v x (λ y. Unit {0}) ds l s
        (inl n) e k
    known_act env d o w w' v x (holds ws) ds l s n e k
        = own_act env d o w w' v x (Holds g env (holds ws)) ds l s (inl n) e k

    known_lost : (env : Env) (d : ℕ) (o : Act) (w w' : World) (v : Value) (x : ℕ) (m : Memory)
        (ds : List Datum) → EachAct inlined_kind o → Clear IsOwn (act_shown o)
        → act_by g c true env d o w ≡ gives v w'
        → Known env w.cells x m ds → Known env w'.cells x (contents_forgotten m) (all_words v)
    known_lost env d o w w' v x other ds l s e k = tt
    known_lost env d o w w' v x lost ds l s e k = own_act env d o w w' v x (λ y. Unit {0}) ds l s
        (inr (λ y. tt)) e k
    known_lost env d o w w' v x (holds ws) ds l s e k
        = own_act env d o w w' v x (λ y. Unit {0}) ds l s (inr (λ y. tt)) e
        (own_weaker env w.cells x (Holds g env (holds ws)) (λ y. Unit {0}) ds (λ y h. tt) k)

    known_forget : (env : Env) (d : ℕ) (o : Act) (w w' : World) (v : Value) (x : ℕ) (m : Memory)
        (ds : List Datum) → EachAct inlined_kind o → Clear IsOwn (act_shown o)
        → act_by g c true env d o w ≡ gives v w'
        → Known env w.cells x m ds → Known env w'.cells x
        (cond (words_use x (act_updated o)) (contents_forgotten m) m) (all_words v)
    known_forget env d o w w' v x m ds l s e k = go (words_use x (act_updated o)) refl
      where
        go : (b : Bool) → words_use x (act_updated o) ≡ b
            → Known env w'.cells x (cond b (contents_forgotten m) m) (all_words v)
        go true q = known_lost env d o w w' v x m ds l s e k
        go false q = known_act env d o w w' v x m ds l s q e k

    -- ---- updates

    record Updated (env : Env) (a : W.Word) (v : V.Val) (w w' : World) : Type 0 where
      i : ℕ
      y : HeapCell
      n : Node
      place : and_then (word_of g env a) place_of ≡ Some i
      there : slice_get w.cells i ≡ Some y
      made : node_of g env v ≡ Some n
      filled : fills g env v ≡ true
      cells : w'.cells ≡ slice_set w.cells i (record { site = y.site; node = n })

    update_gave : (env : Env) (d : ℕ) (a : W.Word) (v : V.Val) (w w' : World) (u : Value)
        → act_by g c true env d (leaf (update a v)) w ≡ gives u w' → Updated env a v w w'
    unfolding act_by
    update_gave env d a v w w' u e = at_place (and_then (word_of g env a) place_of) refl e
      where
        last : (i : ℕ) (y : HeapCell) (n : Node) (b : Bool)
            → and_then (word_of g env a) place_of ≡ Some i → slice_get w.cells i ≡ Some y
            → node_of g env v ≡ Some n → fills g env v ≡ b
            → require_if_checked true b w (gives (words []) (with_node i n y w)) ≡ gives u w'
            → Updated env a v w w'
        last i y n true p q r f x = record {
          i = i;
          y = y;
          n = n;
          place = p;
          there = q;
          made = r;
          filled = f;
          cells
              = (let same : with_node i n y w ≡ w' = cc in ap (λ k. k.cells) (sym same));
        }
        last i y n false p q r f x = cc

        at_node : (i : ℕ) (y : HeapCell) (o : Option Node)
            → and_then (word_of g env a) place_of ≡ Some i → slice_get w.cells i ≡ Some y
            → node_of g env v ≡ o → need o w
            (λ n. require_if_checked true (fills g env v) w (gives (words []) (with_node i n y w)))
            ≡ gives u w' → Updated env a v w w'
        at_node i y None p q r x = cc
        at_node i y (Some n) p q r x = last i y n (fills g env v) p q r refl x

        at_cell : (i : ℕ) (o : Option HeapCell) → and_then (word_of g env a) place_of ≡ Some i
            → slice_get w.cells i ≡ o
            → need o w
            (λ y. need (node_of g env v) w
            (λ n. require_if_checked true (fills g env v) w
            (gives (words []) (with_node i n y w)))) ≡ gives u w' → Updated env a v w w'
        at_cell i None p q x = cc
        at_cell i (Some y) p q x = at_node i y (node_of g env v) p q refl x

        at_place : (o : Option ℕ) → and_then (word_of g env a) place_of ≡ o
            → need o w
            (λ i. need (slice_get w.cells i) w
            (λ y. need (node_of g env v) w
            (λ n. require_if_checked true (fills g env v) w
            (gives (words []) (with_node i n y w))))) ≡ gives u w' → Updated env a v w w'
        at_place None p x = cc
        at_place (Some i) p x = at_cell i (slice_get w.cells i) p refl x

    -- the cell of x is updated
    own_update : (env : Env) (d : ℕ) (z : VarId) (v : V.Val) (w w' : World) (u : Value)
        (Q : HeapCell → Type 0) (ds : List Datum) → Clear IsOwn (val_words v)
        → act_by g c true env d (leaf (update (Var z) v)) w ≡ gives u w'
        → Beside env w.cells z.0 Q ds → Beside env w'.cells z.0 (Holds g env (stored_contents v))
        (all_words u)
    unfolding EachAct act_shown act_updated
    own_update env d z v w w' u Q ds s e k =
        let y : Updated env (Var z) v w w' = update_gave env d (Var z) v w w' u e in
        let b : Beside env w'.cells z.0 (λ y. Unit {0}) (all_words u)
        = own_act env d (leaf (update (Var z) v)) w w' u z.0 (λ y. Unit {0}) ds (tt, tt) s
        (inr (λ y. tt)) e (own_weaker env w.cells z.0 Q (λ y. Unit {0}) ds (λ y h. tt) k) in
        let new : HeapCell = record { site = y.y.site; node = y.n } in
        let same : Some b.at.a ≡ Some y.i = sym
        (ap (λ o. and_then (and_then o only_word) place_of) b.at.bound) ∙ y.place in
        let here : y.i ≡ b.at.a = cc in
        record {
          at = record {
            is_own = b.at.is_own;
            a = b.at.a;
            low = b.at.low;
            bound = b.at.bound;
            apart = b.at.apart;
            heap = record {
              y = new;
              there = ap (λ c. slice_get c b.at.a) y.cells ∙ subst
                  (λ j. slice_get (slice_set w.cells y.i new) j ≡ Some new) here
                  (get_set w.cells y.i new (get_within w.cells y.i y.y y.there));
              holds = held_holds g env v y.n y.y.site y.made y.filled;
              hidden = b.at.heap.hidden;
            };
          };
          free = b.free;
        }

    known_update : (env : Env) (d : ℕ) (z : VarId) (v : V.Val) (w w' : World) (u : Value)
        (m : Memory) (ds : List Datum) → Clear IsOwn (val_words v)
        → act_by g c true env d (leaf (update (Var z) v)) w ≡ gives u w'
        → Known env w.cells z.0 m ds → Known env w'.cells z.0
        (contents_replaced m (stored_contents v)) (all_words u)
    known_update env d z v w w' u other ds s e k = tt
    known_update env d z v w w' u lost ds s e k = known_held env w'.cells z.0 v (all_words u)
        (own_update env d z v w w' u (λ y. Unit {0}) ds s e k)
    known_update env d z v w w' u (holds ws) ds s e k
        = known_held env w'.cells z.0 v (all_words u)
        (own_update env d z v w w' u (Holds g env (holds ws)) ds s e k)

    updates_known : (env : Env) (d : ℕ) (a : W.Word) (v : V.Val) (w w' : World) (u : Value)
        (T : KnownCellContents) (ds : List Datum) → Clear IsOwn (val_words v)
        → act_by g c true env d (leaf (update a v)) w ≡ gives u w'
        → AllKnown env w.cells T ds → AllKnown env w'.cells (after_update a v T) (all_words u)
    unfolding EachAct act_shown act_updated
    updates_known env d (Lit i) v w w' u T ds s e k x
        = known_act env d (leaf (update (Lit i) v)) w w' u x (T x) ds (tt, tt) s refl e (k x)
    updates_known env d (Global i) v w w' u T ds s e k x
        = known_act env d (leaf (update (Global i) v)) w w' u x (T x) ds (tt, tt) s refl e (k x)
    updates_known env d (TagWord t) v w w' u T ds s e k x
        = known_act env d (leaf (update (TagWord t) v)) w w' u x (T x) ds (tt, tt) s refl e (k x)
    updates_known env d (Var z) v w w' u T ds s e k x = go (nat_eq x z.0) refl
      where
        turned : nat_eq x z.0 ≡ false → words_use x (Var z ∷ []) ≡ false
        turned q = ap (λ b. b || false) (eq_turned z.0 x ∙ q)

        go : (b : Bool) → nat_eq x z.0 ≡ b → Known env w'.cells x
            (cond b (contents_replaced (T z.0) (stored_contents v)) (T x)) (all_words u)
        go true q = subst
            (λ y. Known env w'.cells y (contents_replaced (T z.0) (stored_contents v))
            (all_words u)) (sym (eq_from x z.0 q))
            (known_update env d z v w w' u (T z.0) ds s e (k z.0))
        go false q = known_act env d (leaf (update (Var z) v)) w w' u x (T x) ds (tt, tt) s
            (turned q) e (k x)

    -- behind an operation
    pub acts_known : (env : Env) (d : ℕ) (o : Act) (w w' : World) (u : Value)
        (T : KnownCellContents) (ds : List Datum) → EachAct inlined_kind o
        → Clear IsOwn (act_shown o) → act_by g c true env d o w ≡ gives u w'
        → AllKnown env w.cells T ds → AllKnown env w'.cells (after_act o T) (all_words u)
    unfolding act_shown act_updated
    acts_known env d (leaf (unit v)) w w' u T ds l s e k x
        = known_act env d (leaf (unit v)) w w' u x (T x) ds l s refl e (k x)
    acts_known env d (leaf (fetch a)) w w' u T ds l s e k x
        = known_act env d (leaf (fetch a)) w w' u x (T x) ds l s refl e (k x)
    acts_known env d (leaf (fetch_word a i)) w w' u T ds l s e k x
        = known_act env d (leaf (fetch_word a i)) w w' u x (T x) ds l s refl e (k x)
    acts_known env d (leaf (update a v)) w w' u T ds l s e k x
        = updates_known env d a v w w' u T ds s e k x
    acts_known env d (leaf (eval a)) w w' u T ds l s e k x
        = known_act env d (leaf (eval a)) w w' u x (T x) ds l s refl e (k x)
    acts_known env d (leaf (apply v a)) w w' u T ds l s e k x
        = known_act env d (leaf (apply v a)) w w' u x (T x) ds l s refl e (k x)
    acts_known env d (leaf (call f ws)) w w' u T ds l s e k x
        = known_act env d (leaf (call f ws)) w w' u x (T x) ds l s refl e (k x)
    acts_known env d (leaf (prim f a b)) w w' u T ds l s e k x
        = known_act env d (leaf (prim f a b)) w w' u x (T x) ds l s refl e (k x)
    acts_known env d (leaf read) w w' u T ds l s e k x
        = known_act env d (leaf read) w w' u x (T x) ds l s refl e (k x)
    acts_known env d (leaf (write a)) w w' u T ds l s e k x
        = known_act env d (leaf (write a)) w w' u x (T x) ds l s refl e (k x)
    acts_known env d (case v as') w w' u T ds l s e k x
        = known_forget env d (case v as') w w' u x (T x) ds l s e (k x)
    acts_known env d (nested b) w w' u T ds l s e k x
        = known_forget env d (nested b) w w' u x (T x) ds l s e (k x)
    acts_known env d (leaf fail) w w' u T ds l s e k x
        = known_act env d (leaf fail) w w' u x (T x) ds l s refl e (k x)

  -- ---- bindings

  pub word_stays : (bs : List Binding) (env : Env) (a : W.Word) (d : Datum)
      → Unbound (names_of bs) env → word_of g env a ≡ Some d
      → word_of g (with_vars bs env) a ≡ Some d
  word_stays bs env (Lit i) d new e = e
  word_stays bs env (Global i) d new e = e
  word_stays bs env (TagWord t) d new e = e
  word_stays bs env (Var z) d new e = go (env z.0) refl e
    where
      go : (o : Option Value) → env z.0 ≡ o → and_then o only_word ≡ Some d
          → and_then (with_vars bs env z.0) only_word ≡ Some d
      go None q r = cc
      go (Some v) q r = ap (λ o. and_then o only_word)
          (vars_out bs env z.0 (out_of (names_of bs) env z.0 v new q) ∙ q) ∙ r

  pub own_bound : (bs : List Binding) (env : Env) (c : List HeapCell) (x : ℕ)
      (Q R : HeapCell → Type 0) → Unbound (names_of bs) env → ((y : HeapCell) → Q y → R y)
      → (k : OwnCell env c x Q) → AllOf (λ b. AllOf (Free k.a) (all_words b.1)) bs
      → Beside (with_vars bs env) c x R []
  own_bound bs env c x Q R new f k good = record {
    at = record {
      is_own = k.is_own;
      a = k.a;
      low = k.low;
      bound = vars_out bs env x (out_of (names_of bs) env x (words (cell k.a ∷ [])) new k.bound) ∙
          k.bound;
      apart = env_with g (words_of_heap g (frame g k.a k.low Q) c k.heap) (λ y. y ≡ x) bs env good
          k.apart;
      heap = record {
        y = k.heap.y;
        there = k.heap.there;
        holds = f k.heap.y k.heap.holds;
        hidden
            = k.heap.hidden;
      };
    };
    free = tt;
  }

  -- what words are free of, the bindings are that are made of them
  abbrev pub BindingsFree : (ds : List Datum) (bs : List Binding) → Type 1
  BindingsFree ds bs = (a : ℕ) (low : length g.globals ≤ a) (Q : HeapCell → Type 0)
      (c : List HeapCell) (h : Frame a Q c) → AllOf (Free a) ds
      → AllOf (λ b. AllOf (Free a) (all_words b.1)) bs

  pub known_bound : (bs : List Binding) (env : Env) (c : List HeapCell) (x : ℕ) (m : Memory)
      (ds : List Datum) → Unbound (names_of bs) env → BindingsFree ds bs → Known env c x m ds
      → Known (with_vars bs env) c x m []
  known_bound bs env c x other ds new f k = tt
  known_bound bs env c x lost ds new f k = own_bound bs env c x (λ y. Unit {0}) (λ y. Unit {0}) new
      (λ y h. h) k.at (f k.at.a k.at.low (λ y. Unit {0}) c k.at.heap k.free)
  known_bound bs env c x (holds ws) ds new f k = own_bound bs env c x (Holds g env (holds ws))
      (Holds g (with_vars bs env) (holds ws)) new
      (λ y h i. word_stays bs env (word_at ws i) (node_word y.node i) new (h i)) k.at
      (f k.at.a k.at.low (Holds g env (holds ws)) c k.at.heap k.free)

  pub target_free : (t : Target) (v : Value) (bs : List Binding) → bindings_of g t v ≡ Some bs
      → BindingsFree (all_words v) bs
  target_free t v bs e a low Q c h free = bindings_good g (words_of_heap g (frame g a low Q) c h) t
      v bs free e
