-- What holds of the text of a program without the updates of cells that no fetch reads.
use Rattle.std.proofs.Common.{◌≡◌, ℕ, ◌≤◌, ◌*◌, Bool, true, false, cond, List, [], ◌∷◌, refl, arith}
use Rattle.grin_syntax.specs.declared.program.Val.{Val}
use Rattle.grin_syntax.specs.declared.program.Val.TheVariants.{Vector}
use Rattle.grin_syntax.specs.declared.program.Word.{Word}
use Rattle.grin_syntax.specs.Tree.{Code, end, store, bind, Act, Leaf, leaf, unit, fetch, fetch_word, update, eval, apply, call, prim, read, write, case, nested, fail, Arms, no_arm, arm, Procedure, Program}
use Rattle.grin_syntax.specs.Binders.{act_vars, act_sites}
use Rattle.grin_syntax.specs.Formed.{AllOf, Scope, ActFormed}
use Rattle.grin_meaning.specs.Ready.{PieceKind, any_kind, EachAct, EveryBodyIsOfKind, NarrowAct}
use Rattle.grin_meaning.specs.Slim.{act_weight, code_weight, arms_weight, procs_weight, act_calls, code_calls, arms_calls, procs_calls, node_words, end_words, inner_words, code_words, arms_words, procedure_words, Slim}
use Rattle.pass_ground.specs.OpenUpdates.{act_update_sum, code_update_sum, arms_update_sum, procs_update_sum}
use Rattle.flow_system.specs.Solution.{Solution}
use Rattle.grin_rewrite.specs.Rewriting.{rewrite_act, rewrite_code, rewrite_arms}
use Rattle.grin_rewrite.proofs.Text.{AddsNothing, procs_by, bodies_each}
use Rattle.grin_rewrite.proofs.Sound.{any_bodies}
use Rattle.dead_store.specs.Unread.{is_unread, read_leaf, with_read_updates, read_update_kind}
use Rattle.dead_store.proofs.FetchedCells.{read_then}

module _ (A : Solution) (fetched : ℕ → Bool) where
  abbrev rule : Leaf → Act
  rule = read_leaf A fetched

  -- what holds of a leaf that stays, and of a unit of no words in the place of an update
  by_leaf : (P : Leaf → Act → Type 0) → ((l : Leaf) → P l (leaf l))
      → ((a : Word) (v : Val) → P (update a v) (leaf (unit (Vector [])))) → (l : Leaf)
      → P l (rule l)
  by_leaf P stays goes (update a v) = go (is_unread A fetched a)
    where
      go : (b : Bool) → P (update a v) (cond b (leaf (unit (Vector []))) (leaf (update a v)))
      go true = goes a v
      go false = stays (update a v)
  by_leaf P stays goes (unit v) = stays (unit v)
  by_leaf P stays goes (fetch a) = stays (fetch a)
  by_leaf P stays goes (fetch_word a i) = stays (fetch_word a i)
  by_leaf P stays goes (eval a) = stays (eval a)
  by_leaf P stays goes (apply v a) = stays (apply v a)
  by_leaf P stays goes (call f ws) = stays (call f ws)
  by_leaf P stays goes (prim p a b) = stays (prim p a b)
  by_leaf P stays goes read = stays read
  by_leaf P stays goes (write a) = stays (write a)
  by_leaf P stays goes fail = stays fail

  pub adds : (l : Leaf) → AddsNothing (rule l)
  unfolding act_vars act_sites
  adds = by_leaf (λ l o. AddsNothing o) (λ l. (refl, refl)) (λ a v. (refl, refl))

  pub leaf_formed : (g : Program) (scope : Scope) (l : Leaf) → ActFormed g scope (leaf l)
      → ActFormed g scope (rule l)
  unfolding ActFormed
  leaf_formed g scope = by_leaf (λ l o. ActFormed g scope (leaf l) → ActFormed g scope o) (λ l h. h)
      (λ a v h. tt)

  pub leaf_of_kind : (K : PieceKind) → K.operation (leaf (unit (Vector []))) → K.value (Vector [])
      → (l : Leaf) → EachAct K (leaf l) → EachAct K (rule l)
  unfolding EachAct
  leaf_of_kind K ok none = by_leaf (λ l o. EachAct K (leaf l) → EachAct K o) (λ l h. h)
      (λ a v h. (ok, none))

  pub leaf_gives : (width most : ℕ) (l : Leaf) → NarrowAct width most (leaf l)
      → NarrowAct width most (rule l)
  unfolding NarrowAct
  leaf_gives width most = by_leaf (λ l o. NarrowAct width most (leaf l) → NarrowAct width most o)
      (λ l h. h) (λ a v h. omega arith)

  -- ---- an update that stays may be read

  leaf_read : (l : Leaf) → EachAct any_kind (leaf l) → EachAct (read_update_kind A fetched) (rule l)
  unfolding EachAct
  leaf_read (update a v) h = go (is_unread A fetched a) refl
    where
      go : (b : Bool) → is_unread A fetched a ≡ b → EachAct (read_update_kind A fetched)
          (cond b (leaf (unit (Vector []))) (leaf (update a v)))
      go true e = (tt, tt)
      go false e = (read_then fetched A a e, tt)
  leaf_read (unit v) h = (tt, tt)
  leaf_read (fetch a) h = tt
  leaf_read (fetch_word a i) h = tt
  leaf_read (eval a) h = tt
  leaf_read (apply v a) h = (tt, tt)
  leaf_read (call f ws) h = tt
  leaf_read (prim p a b) h = tt
  leaf_read read h = tt
  leaf_read (write a) h = tt
  leaf_read fail h = tt

  pub procs_read : (qs : List Procedure) → EveryBodyIsOfKind (read_update_kind A fetched)
      (procs_by rule qs)
  procs_read qs = bodies_each rule any_kind (read_update_kind A fetched)
      (record {
        cases = λ v as' bs' h. tt;
        blocks = λ b b' h. tt;
        targets = λ t h. tt;
        values
            = λ v h. tt;
        patterns = λ xs h. tt;
      })
      leaf_read qs (any_bodies qs)

  -- ---- updates

  module _ (count : Val → ℕ) where
    leaf_counts : (l : Leaf) → act_update_sum count (rule l) ≤ act_update_sum count (leaf l)
    unfolding act_update_sum
    leaf_counts = by_leaf (λ l o. act_update_sum count o ≤ act_update_sum count (leaf l))
        (λ l. omega arith) (λ a v. omega arith)

    mutual
      unfolding rewrite_act act_update_sum

      act_counts : (o : Act) → act_update_sum count (rewrite_act rule o) ≤ act_update_sum count o
      act_counts (leaf l) = leaf_counts l
      act_counts (case v as') = arms_count as'
      act_counts (nested b) = code_counts b

      code_counts : (b : Code) → code_update_sum count (rewrite_code rule b) ≤ code_update_sum count
          b
      code_counts (end o) = act_counts o
      code_counts (store cs b) = code_counts b
      code_counts (bind t o b) = omega (arith, act_counts o, code_counts b)

      arms_count : (as' : Arms) → arms_update_sum count (rewrite_arms rule as') ≤ arms_update_sum
          count as'
      arms_count no_arm = omega arith
      arms_count (arm s b as') = omega (arith, code_counts b, arms_count as')

    pub procs_count : (qs : List Procedure) → procs_update_sum count (procs_by rule qs) ≤
        procs_update_sum count qs
    procs_count [] = omega arith
    procs_count (q ∷ qs) = omega (arith, code_counts q.body, procs_count qs)

  -- ---- the weight

  leaf_lighter : (l : Leaf) → act_weight (rule l) ≤ act_weight (leaf l)
  unfolding act_weight
  leaf_lighter = by_leaf (λ l o. act_weight o ≤ act_weight (leaf l)) (λ l. omega arith)
      (λ a v. omega arith)

  mutual
    unfolding rewrite_act act_weight

    act_lighter : (o : Act) → act_weight (rewrite_act rule o) ≤ act_weight o
    act_lighter (leaf l) = leaf_lighter l
    act_lighter (case v as') = omega (arith, arms_lighter as')
    act_lighter (nested b) = omega (arith, code_lighter b)

    code_lighter : (b : Code) → code_weight (rewrite_code rule b) ≤ code_weight b
    code_lighter (end o) = act_lighter o
    code_lighter (store cs b) = omega (arith, code_lighter b)
    code_lighter (bind t o b) = omega (arith, act_lighter o, code_lighter b)

    arms_lighter : (as' : Arms) → arms_weight (rewrite_arms rule as') ≤ arms_weight as'
    arms_lighter no_arm = omega arith
    arms_lighter (arm s b as') = omega (arith, code_lighter b, arms_lighter as')

  procs_lighter : (qs : List Procedure) → procs_weight (procs_by rule qs) ≤ procs_weight qs
  procs_lighter [] = omega arith
  procs_lighter (q ∷ qs) = omega (arith, code_lighter q.body, procs_lighter qs)

  -- ---- the calls

  leaf_calls : (l : Leaf) → act_calls (rule l) ≤ act_calls (leaf l)
  unfolding act_calls
  leaf_calls = by_leaf (λ l o. act_calls o ≤ act_calls (leaf l)) (λ l. omega arith)
      (λ a v. omega arith)

  mutual
    unfolding rewrite_act act_calls

    act_calls_fewer : (o : Act) → act_calls (rewrite_act rule o) ≤ act_calls o
    act_calls_fewer (leaf l) = leaf_calls l
    act_calls_fewer (case v as') = arms_calls_fewer as'
    act_calls_fewer (nested b) = code_calls_fewer b

    code_calls_fewer : (b : Code) → code_calls (rewrite_code rule b) ≤ code_calls b
    code_calls_fewer (end o) = act_calls_fewer o
    code_calls_fewer (store cs b) = code_calls_fewer b
    code_calls_fewer (bind t o b) = omega (arith, act_calls_fewer o, code_calls_fewer b)

    arms_calls_fewer : (as' : Arms) → arms_calls (rewrite_arms rule as') ≤ arms_calls as'
    arms_calls_fewer no_arm = omega arith
    arms_calls_fewer (arm s b as') = omega (arith, code_calls_fewer b, arms_calls_fewer as')

  procs_calls_fewer : (qs : List Procedure) → procs_calls (procs_by rule qs) ≤ procs_calls qs
  procs_calls_fewer [] = omega arith
  procs_calls_fewer (q ∷ qs) = omega (arith, code_calls_fewer q.body, procs_calls_fewer qs)

  -- ---- the words

  leaf_words : (l : Leaf) → (node_words (rule l) ≡ node_words (leaf l))
      × (end_words (rule l) ≡ end_words (leaf l)) × (inner_words (rule l) ≡ inner_words (leaf l))
  unfolding inner_words
  leaf_words = by_leaf
      (λ l o. (node_words o ≡ node_words (leaf l)) × (end_words o ≡ end_words (leaf l))
      × (inner_words o ≡ inner_words (leaf l))) (λ l. (refl, refl, refl))
      (λ a v. (refl, refl, refl))

  own_words : (o : Act) → (node_words (rewrite_act rule o) ≡ node_words o)
      × (end_words (rewrite_act rule o) ≡ end_words o)
  unfolding rewrite_act
  own_words (leaf l) = let w = leaf_words l in (w.0, w.1)
  own_words (case v as') = (refl, refl)
  own_words (nested b) = (refl, refl)

  mutual
    unfolding rewrite_act inner_words

    inner_fewer : (o : Act) → inner_words (rewrite_act rule o) ≤ inner_words o
    inner_fewer (leaf l) = omega (arith, (leaf_words l).2)
    inner_fewer (case v as') = arms_fewer as'
    inner_fewer (nested b) = code_fewer b

    code_fewer : (b : Code) → code_words (rewrite_code rule b) ≤ code_words b
    code_fewer (end o) = omega (arith, (own_words o).1, inner_fewer o)
    code_fewer (store cs b) = omega (arith, code_fewer b)
    code_fewer (bind t o b) = omega (arith, (own_words o).0, inner_fewer o, code_fewer b)

    arms_fewer : (as' : Arms) → arms_words (rewrite_arms rule as') ≤ arms_words as'
    arms_fewer no_arm = omega arith
    arms_fewer (arm s b as') = omega (arith, code_fewer b, arms_fewer as')

  procs_words : (most : ℕ) (qs : List Procedure) → AllOf (λ q. procedure_words q ≤ most) qs
      → AllOf (λ q. procedure_words q ≤ most) (procs_by rule qs)
  procs_words most [] h = tt
  procs_words most (q ∷ qs) h = (omega (arith, code_fewer q.body, h.0), procs_words most qs h.1)

  pub stays_slim : (g : Program) (size most : ℕ) → Slim size most g
      → Slim size most (with_read_updates A fetched g)
  stays_slim g size most s = record {
    light = let l : procs_weight (with_read_updates A fetched g).procs ≤ procs_weight g.procs
        = procs_lighter g.procs in let k : procs_weight g.procs ≤ 48 * size = s.light
        in omega (arith, l, k);
    few_calls = let l : procs_calls (with_read_updates A fetched g).procs ≤ procs_calls g.procs
        = procs_calls_fewer g.procs in let k : procs_calls g.procs ≤ size = s.few_calls
        in omega (arith, l, k);
    few_words = procs_words (20 * most) g.procs s.few_words;
  }
