-- Stores and updates that the first of two programs does alone.
use Rattle.std.proofs.Common.{◌≡◌, ℕ, List, [], ◌++◌, length, Bool, true, false, Some, slice_get, slice_set, refl, subst}
use Rattle.seq.proofs.Truth.{false_not_true}
use Rattle.grin_syntax.specs.declared.program.Cell.{Cell}
use Rattle.grin_syntax.specs.declared.program.Val.{Val}
use Rattle.grin_syntax.specs.declared.program.Val.TheVariants.{Vector}
use Rattle.grin_syntax.specs.declared.program.Word.{Word}
use Rattle.grin_syntax.specs.Tree.{Code, store, Act, leaf, unit, update}
use Rattle.grin_meaning.specs.Values.{Node, Value, words, Env, HeapCell, World, Answer, gives, with_vars, node_of}
use Rattle.grin_meaning.specs.Run.{act_by, code_by, require_if_checked, with_state_seen, places, cells_of, with_cells}
use Rattle.grin_meaning.specs.Checks.{fills, all_fill}
use Rattle.grin_meaning.proofs.Back.{code_by_back, every_last}
use Rattle.grin_meaning.proofs.Beside.{beside, free, gives_too, Seen, Sim, need_first}
use Rattle.grin_meaning.proofs.Rules.{Relation, Here, Setting, h, ActFollows, CodeFollows, Stored, place_in}

module _ (s : Setting) where
  open s use {plan, c, c', back as cb, follow as cf, plan.{looks, K, P, Args, Result, g, procs}}

  looking_first : (V : Value → Value → Type 0) (looks b : Bool) (w : World) (a a' : Answer)
      → (Seen looks b → Sim P K V a a') → Sim P K V (require_if_checked looks b w a) a'
  looking_first V false b w a a' f = f (λ l. false_not_true l)
  looking_first V true true w a a' f = f (λ l. refl)
  looking_first V true false w a a' f = λ _. free

  -- the second goes on without the cells
  pub record StoredAlone (R R' : Relation) (cs : List Cell) (x : Here plan R) (hs : List HeapCell)
      : Type 0 where
    pub heaps : K.Heaps (x.w.cells ++ hs) x.b.cells
    pub related : R' (x.w.cells ++ hs) (with_vars (places (length x.w.cells) cs) x.env) x.env'

  pub store_left : {R R' : Relation} {V : Value → Value → Type 0} (cs : List Cell) (b b' : Code)
      → CodeFollows s R' V b b' →
      ((x : Here plan R) (y : Stored s R cs x) → StoredAlone R R' cs x y.hs)
      → CodeFollows s R V (store cs b) b'
  unfolding act_by
  store_left {R} {R'} {V} cs b b' k stores = record {
    by = λ x.
        let env : Env = with_vars (places (length x.w.cells) cs) x.env in
        need_first P K V (cells_of g env cs) x.w _ _
        (λ hs e. looking_first V looks (all_fill g env cs) x.w
        (code_by g c looks env x.d b (with_state_seen env (with_cells hs x.w))) _ (λ seen all.
        let at : P (record { env = env; heap = x.w.cells ++ hs })
        = every_last P x.w.seen _
        (code_by_back P g c cb looks env x.d b (with_state_seen env (with_cells hs x.w)) all) in
        let y : StoredAlone R R' cs x hs = stores x
        (record { hs = hs; cells = e; seen = seen; next = at }) in
        k.by (record {
          env = env;
          env' = x.env';
          d = x.d;
          d' = x.d';
          w = with_state_seen env (with_cells hs x.w);
          b = record {
            cells = x.b.cells;
            seen = x.b.seen;
            depth = x.b.depth;
            heaps = y.heaps;
            deep
                = x.b.deep;
          };
          related = y.related;
          known = at;
          nest = x.nest;
        }) all));
  }

  -- ---- an update

  -- an operation that gives no words, of which the second sees nothing
  pub record DoneAlone (R : Relation) (V : Value → Value → Type 0) (o : Act) : Type 0 where
    pub by : (x : Here plan R) → Sim P K V (act_by g c looks x.env x.d o x.w)
        (gives (words []) (beside x.b))

  pub update_alone : {R : Relation} {V : Value → Value → Type 0} (a : Word) (v : Val)
      → V (words []) (words [])
      → ((x : Here plan R) (i : ℕ) (y : HeapCell) → place_in s x.env a ≡ Some i
      → slice_get x.w.cells i ≡ Some y → (n : Node)
      → K.Heaps (slice_set x.w.cells i (record { site = y.site; node = n })) x.b.cells)
      → DoneAlone R V (leaf (update a v))
  unfolding act_by
  update_alone {R} {V} a v none heaps = record {
    by = λ x. need_first P K V (place_in s x.env a) x.w _ _
        (λ i e. need_first P K V (slice_get x.w.cells i) x.w _ _
        (λ y q. need_first P K V (node_of g x.env v) x.w _ _ (λ n m.
        looking_first V looks (fills g x.env v) x.w _ _
        (λ seen all. gives_too
        (record {
          cells = x.b.cells;
          seen = x.b.seen;
          depth = x.b.depth;
          heaps
              = heaps x i y e q n;
          deep = x.b.deep;
        }) none))));
  }

  -- in its place the second gives no words
  pub unit_left : {R : Relation} {V : Value → Value → Type 0} (o : Act) → DoneAlone R V o
      → ActFollows s R V o (leaf (unit (Vector [])))
  unfolding act_by
  unit_left {R} {V} o f = record {
    by = λ x. subst (Sim P K V (act_by g c looks x.env x.d o x.w))
        (given x.env' (beside x.b) looks) (f.by x);
  }
    where
      given : (env : Env) (w : World) (b : Bool) → gives (words []) w ≡ require_if_checked b
          (fills (h s) env (Vector [])) w (gives (words []) w)
      given env w true = refl
      given env w false = refl
