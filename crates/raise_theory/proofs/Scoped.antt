-- What is in scope in a program with parameters raised.
use Rattle.std.proofs.Common.{◌≡◌, ℕ, zero, suc, pos, ◌+◌, ◌<◌, Bool, true, false, cond, ◌||◌, nat_eq, nat_lt, List, [], ◌∷◌, ◌++◌, map, length, Option, Some, None, refl, sym, subst, arith}
use Rattle.std.proofs.lemmas.Bool.Decides.{nat_tests}
use Rattle.seq.proofs.Truth.{neither_left, neither_right}
use Rattle.seq.proofs.Order.{eq_self}
use Rattle.seq.proofs.Lists.{all_append}
use Rattle.grin_syntax.specs.declared.program.VarId.{VarId}
use Rattle.grin_syntax.specs.declared.program.Cell.{Cell}
use Rattle.grin_syntax.specs.declared.program.Word as W
use Rattle.grin_syntax.specs.declared.program.Word.TheVariants.{Lit, Var, Global, TagWord}
use Rattle.grin_syntax.specs.declared.program.Val as V
use Rattle.grin_syntax.specs.declared.program.Val.TheVariants.{NodeVar, Node, Vector, One}
use Rattle.grin_syntax.specs.declared.program.Target as T
use Rattle.grin_syntax.specs.declared.program.Target.TheVariants as to
use Rattle.grin_syntax.specs.Tree.{Code, end, store, bind, Act, leaf, unit, fetch, fetch_word, update, eval, apply, call, prim, read, write, case, nested, fail, Arms, no_arm, arm, Procedure, Program}
use Rattle.grin_syntax.specs.Binders.{numbers_of, shape_vars, cell_vars}
use Rattle.grin_syntax.specs.Formed.{AllOf, Scope, InScope, with_word_variables, with_target, params_scope, TagKnown, WordFormed, ValFormed, CellFormed, ActFormed, CodeFormed, ArmsFormed}
use Rattle.grin_syntax.specs.Fresh.{variable, variables}
use Rattle.grin_syntax.proofs.Scopes.{Within, within_self, within_chain, within_words, still_in, with_procs, known_again, word_stays, words_stay, shape_stays}
use Rattle.grin_meaning.specs.Ready.{EachAct, EachCode, EachArms, without_node_fetches}
use Rattle.pass_ground.specs.Uses.{word_is, words_use, val_uses, cells_use, act_uses_as_value, code_uses_as_value, arms_use_as_value, act_mentions}
use Rattle.raise_theory.specs.Raising.{Raising, Decisions, raised_param, raised_params, decided, word_at, raised_fetch_of, fetched, new_variables_of, field_fetches, fetches_for, argument_for, arguments_for, decisions_at, new_before, fetches_before, new_act, new_code, raised_act, raised_code, raised_arms}
use Rattle.raise_theory.proofs.Counts.{numbers_append}
use Rattle.seq.specs.Lists.{times}
use Rattle.seq.proofs.Counted.{counts, times_append, one_at}
use Rattle.grin_meaning.proofs.Scopes.{scope_left, scope_right}

-- ---- small facts

-- by what is decided of each variable
module _ (N : ℕ → Option Raising) where
  -- for no variable that is raised the test holds
  pub record Spared (test : ℕ → Bool) : Type 0 where
    pub by : (y : ℕ) (r : Raising) → N y ≡ Some r → test y ≡ false

  left_spared : (a b : ℕ → Bool) → Spared (λ y. a y || b y) → Spared a
  left_spared a b s = record { by = λ y r e. neither_left (a y) (b y) (s.by y r e) }

  right_spared : (a b : ℕ → Bool) → Spared (λ y. a y || b y) → Spared b
  right_spared a b s = record { by = λ y r e. neither_right (a y) (b y) (s.by y r e) }

  -- in scope are the variables that aren't raised, and the fields of those that are
  pub record Fits (s s' : Scope) : Type 0 where
    pub nodes : (y : ℕ) → InScope s.nodes y → InScope s'.nodes y
    pub stays : (y : ℕ) → N y ≡ None → InScope s.words y → InScope s'.words y
    pub fields : (y : ℕ) (r : Raising) (i : ℕ) → N y ≡ Some r → i < r.fields
        → InScope s'.words (r.first.0 + i)

  fits_words : (xs : List ℕ) (s s' : Scope) → Fits s s'
      → Fits (with_word_variables xs s) (with_word_variables xs s')
  fits_words xs s s' f = record {
    nodes = f.nodes;
    stays = λ y e i. go y e i (times y xs) refl;
    fields = λ y r i e lt. scope_right xs s'.words (r.first.0 + i) (f.fields y r i e lt);
  }
    where
      go : (y : ℕ) → N y ≡ None → InScope (xs ++ s.words) y → (m : ℕ) → times y xs ≡ m
          → InScope (xs ++ s'.words) y
      go y e i zero q = scope_right xs s'.words y
          (f.stays y e
          (let t : times y (xs ++ s.words) ≡ times y xs + times y s.words
          = times_append y xs s.words in omega (arith, t, i, q)))
      go y e i (suc m) q = scope_left xs s'.words y (omega (arith, q))

  fits_node : (x : ℕ) (s s' : Scope) → Fits s s' → Fits
      (record { nodes = x ∷ s.nodes; words = s.words })
      (record { nodes = x ∷ s'.nodes; words = s'.words })
  fits_node x s s' f = record
      { nodes = λ y i. go y i (counts (nat_eq y x)) refl; stays = f.stays; fields = f.fields }
    where
      go : (y : ℕ) → InScope (x ∷ s.nodes) y → (m : ℕ) → counts (nat_eq y x) ≡ m
          → InScope (x ∷ s'.nodes) y
      go y i zero q = let h : InScope s'.nodes y = f.nodes y (omega (arith, i, q))
          in omega (arith, h)
      go y i (suc m) q = omega (arith, q)

  fits_target : (t : T.Target) (s s' : Scope) → Fits s s'
      → Fits (with_target t s) (with_target t s')
  fits_target to.Nothing s s' f = f
  fits_target (to.Node x) s s' f = fits_node x.0 s s' f
  fits_target (to.One x) s s' f = fits_words (x.0 ∷ []) s s' f
  fits_target (to.Vector xs) s s' f = fits_words (numbers_of xs) s s' f

  fits_within : (s s' s2 : Scope) → Fits s s' → Within s' s2 → Fits s s2
  fits_within s s' s2 f w = record {
    nodes = λ y i. still_in s'.nodes s2.nodes y w.nodes (f.nodes y i);
    stays = λ y e i. still_in s'.words s2.words y w.words (f.stays y e i);
    fields = λ y r i e lt. still_in s'.words s2.words (r.first.0 + i) w.words (f.fields y r i e lt);
  }

-- ---- the parameters

params_stay_in : (ds : Decisions) (xs : List VarId) (y : ℕ) → decided ds xs y ≡ None
    → InScope (numbers_of xs) y → InScope (numbers_of (raised_params ds xs)) y
params_stay_in [] xs y e i = i
params_stay_in (d ∷ ds) [] y e i = absurd (omega (arith, i))
params_stay_in (d ∷ ds) (x ∷ xs) y e i = go (nat_eq x.0 y) refl e
    (λ h j. params_stay_in ds xs y h j)
  where
    first : (o : Option Raising) → o ≡ None → x.0 ≡ y
        → InScope (numbers_of (raised_param o x ++ raised_params ds xs)) y
    first None q h = let e1 : counts (nat_eq y x.0) ≡ 1
        = subst (λ z. counts (nat_eq y z) ≡ 1) (sym h) (one_at y) in omega (arith, e1)
    first (Some r) q h = cc

    later : (o : Option Raising) → InScope (numbers_of (raised_params ds xs)) y
        → InScope (numbers_of (raised_param o x ++ raised_params ds xs)) y
    later o h = subst (λ l. InScope l y)
        (sym (numbers_append (raised_param o x) (raised_params ds xs)))
        (scope_right (numbers_of (raised_param o x)) (numbers_of (raised_params ds xs)) y h)

    go : (b : Bool) → nat_eq x.0 y ≡ b → cond b d (decided ds xs y) ≡ None
        → (decided ds xs y ≡ None → InScope (numbers_of xs) y
        → InScope (numbers_of (raised_params ds xs)) y)
        → InScope (numbers_of (raised_param d x ++ raised_params ds xs)) y
    go true q h f = first d h (grind (arith, nat_tests))
    go false q h f = later d
        (f h (let k : counts (nat_eq y x.0) ≡ 0 = grind (arith, nat_tests) in omega (arith, k, i)))

variables_in : (x k i : ℕ) → i < k → InScope (numbers_of (variables x k)) (x + i)
variables_in x zero i lt = absurd (omega (arith, lt))
variables_in x (suc k) zero lt = let e : counts (nat_eq (x + 0) x) ≡ 1
    = subst (λ z. counts (nat_eq z x) ≡ 1) (let f : x ≡ x + 0 = omega arith in f) (one_at x)
    in omega (arith, e)
variables_in x (suc k) (suc i) lt =
    let h : InScope (numbers_of (variables (suc x) k)) (suc x + i)
    = variables_in (suc x) k i (omega (arith, lt)) in
    subst (InScope (numbers_of (variables x (suc k))))
    (let f : suc x + i ≡ x + suc i = omega arith in f)
    (scope_right (x ∷ []) (numbers_of (variables (suc x) k)) (suc x + i) h)

params_fields_in : (ds : Decisions) (xs : List VarId) (y : ℕ) (r : Raising) (i : ℕ)
    → decided ds xs y ≡ Some r → i < r.fields → InScope (numbers_of (raised_params ds xs))
    (r.first.0 + i)
params_fields_in [] xs y r i e lt = cc
params_fields_in (d ∷ ds) [] y r i e lt = cc
params_fields_in (d ∷ ds) (x ∷ xs) y r i e lt = go (nat_eq x.0 y) e
    (λ h. params_fields_in ds xs y r i h lt)
  where
    first : (o : Option Raising) → o ≡ Some r → InScope
        (numbers_of (raised_param o x ++ raised_params ds xs)) (r.first.0 + i)
    first o h = subst
        (λ o. InScope (numbers_of (raised_param o x ++ raised_params ds xs)) (r.first.0 + i))
        (sym h)
        (subst (λ l. InScope l (r.first.0 + i))
        (sym (numbers_append (raised_param (Some r) x) (raised_params ds xs)))
        (scope_left (numbers_of (raised_param (Some r) x)) (numbers_of (raised_params ds xs))
        (r.first.0 + i) (variables_in r.first.0 r.fields i lt)))

    later : (o : Option Raising) → InScope (numbers_of (raised_params ds xs)) (r.first.0 + i)
        → InScope (numbers_of (raised_param o x ++ raised_params ds xs)) (r.first.0 + i)
    later o h = subst (λ l. InScope l (r.first.0 + i))
        (sym (numbers_append (raised_param o x) (raised_params ds xs)))
        (scope_right (numbers_of (raised_param o x)) (numbers_of (raised_params ds xs))
        (r.first.0 + i) h)

    go : (b : Bool) → cond b d (decided ds xs y) ≡ Some r
        → (decided ds xs y ≡ Some r → InScope (numbers_of (raised_params ds xs)) (r.first.0 + i))
        → InScope (numbers_of (raised_param d x ++ raised_params ds xs)) (r.first.0 + i)
    go true h f = first d h
    go false h f = later d (f h)

-- the scope of a procedure, and that of its image
pub params_fit : (ds : Decisions) (q q' : Procedure) → q'.params ≡ raised_params ds q.params
    → Fits (decided ds q.params) (params_scope q) (params_scope q')
params_fit ds q q' e = record {
  nodes = λ y i. i;
  stays = λ y f i. subst (λ l. InScope (numbers_of l) y) (sym e) (params_stay_in ds q.params y f i);
  fields = λ y r i f lt. subst (λ l. InScope (numbers_of l) (r.first.0 + i)) (sym e)
      (params_fields_in ds q.params y r i f lt);
}

module _ (g : Program) (procs : List Procedure) (same_count : length procs ≡ length g.procs) where
  abbrev pub after : Program
  after = with_procs g procs same_count

  word_more : (s s' : Scope) → Within s s' → (a : W.Word) → WordFormed after s a
      → WordFormed after s' a
  word_more s s' w a h = word_stays after procs refl s s' w a h

  words_more : (s s' : Scope) → Within s s' → (ws : List W.Word) → AllOf (WordFormed after s) ws
      → AllOf (WordFormed after s') ws
  words_more s s' w ws h = words_stay after procs refl s s' w ws h

  -- ---- before a call

  fields_formed : (a : W.Word) (n i k : ℕ) (c : Code) (s : Scope) → WordFormed after s a
      → ((s' : Scope) → Within s s' → AllOf (WordFormed after s') (map Var (variables n k))
      → CodeFormed after s' c) → CodeFormed after s (field_fetches a n i k c)
  unfolding ActFormed
  fields_formed a n i zero c s h f = f s (within_self s) tt
  fields_formed a n i (suc k) c s h f = (
    h,
    fields_formed a (suc n) (suc i) k c (with_word_variables (n ∷ []) s)
        (word_more s (with_word_variables (n ∷ []) s) (within_words (n ∷ []) s) a h)
        (λ s' w vs. f s' (within_chain (within_words (n ∷ []) s) w) (
          still_in (n ∷ s.words) s'.words n w.words
              (let e : counts (nat_eq n n) ≡ 1 = one_at n in omega (arith, e)),
          vs,
        )),
  )

  argument_formed : (n : ℕ) (d : Option Raising) (a : W.Word) (s s' : Scope) → Within s s'
      → WordFormed after s a → AllOf (WordFormed after s')
      (map Var (variables n (new_variables_of d))) → AllOf (WordFormed after s')
      (argument_for n d a)
  argument_formed n None a s s' w h vs = (word_more s s' w a h, tt)
  argument_formed n (Some r) a s s' w h vs = vs

  fetches_formed : (n : ℕ) (ds : Decisions) (ws : List W.Word) (c : Code) (s : Scope)
      → AllOf (WordFormed after s) ws →
      ((s' : Scope) → Within s s' → AllOf (WordFormed after s') (arguments_for n ds ws)
      → CodeFormed after s' c) → CodeFormed after s (fetches_for n ds ws c)
  fetches_formed n [] ws c s h f = f s (within_self s) h
  fetches_formed n (d ∷ ds) [] c s h f = f s (within_self s) tt
  fetches_formed n (d ∷ ds) (a ∷ ws) c s h f = fields_formed a n 0 (new_variables_of d)
      (fetches_for (n + new_variables_of d) ds ws c) s h.0
      (λ s1 w1 vs. fetches_formed (n + new_variables_of d) ds ws c s1 (words_more s s1 w1 ws h.1)
      (λ s2 w2 as'. f s2 (within_chain w1 w2)
      (all_append (WordFormed after s2) (argument_for n d a)
      (arguments_for (n + new_variables_of d) ds ws)
      (words_more s1 s2 w2 (argument_for n d a) (argument_formed n d a s s1 w1 h.0 vs)) as')))

  -- ---- words and values

  module _ (D : List Decisions) (N : ℕ → Option Raising)
      (known : (y : ℕ) (r : Raising) → N y ≡ Some r → TagKnown g r.tag) where
    -- in the first scope stand words of the program, in the second those of the program with
    -- parameters raised
    module _ (s s' : Scope) (x : Fits N s s') where
      word_formed : (a : W.Word) → Spared N (λ y. word_is y a) → WordFormed g s a
          → WordFormed after s' a
      word_formed (Lit k) p h = tt
      word_formed (Global i) p h = h
      word_formed (TagWord t) p h = h
      word_formed (Var z) p h = go (N z.0) refl
        where
          go : (o : Option Raising) → N z.0 ≡ o → InScope s'.words z.0
          go None e = x.stays z.0 e h
          go (Some r) e = let f : nat_eq z.0 z.0 ≡ false = p.by z.0 r e in let k
              : nat_eq z.0 z.0 ≡ true = eq_self z.0 in cc

      words_formed : (ws : List W.Word) → Spared N (λ y. words_use y ws) → AllOf (WordFormed g s) ws
          → AllOf (WordFormed after s') ws
      words_formed [] p h = tt
      words_formed (a ∷ ws) p h = (
        word_formed a (left_spared N (λ y. word_is y a) (λ y. words_use y ws) p) h.0,
        words_formed ws (right_spared N (λ y. word_is y a) (λ y. words_use y ws) p) h.1,
      )

      val_formed : (v : V.Val) → Spared N (λ y. val_uses y v) → ValFormed g s v
          → ValFormed after s' v
      val_formed (NodeVar y) p h = x.nodes y.0 h
      val_formed (Node t ws) p h = (h.0, words_formed ws p h.1)
      val_formed (Vector ws) p h = words_formed ws p h
      val_formed (One a) p h = word_formed a p h

      cells_formed : (cs : List Cell) → Spared N (λ y. cells_use y cs) → AllOf (CellFormed g s) cs
          → AllOf (CellFormed after s') cs
      cells_formed [] p h = tt
      cells_formed (c ∷ cs) p h = (
        val_formed c.val (left_spared N (λ y. val_uses y c.val) (λ y. cells_use y cs) p) h.0,
        cells_formed cs (right_spared N (λ y. val_uses y c.val) (λ y. cells_use y cs) p) h.1,
      )

      -- a word of a raised parameter's cell
      field_formed : (y : ℕ) (r : Raising) → N y ≡ Some r → (i : ℕ)
          → WordFormed after s' (word_at r i)
      field_formed y r e zero = known y r e
      field_formed y r e (suc i) = go (nat_lt i r.fields) refl
        where
          go : (b : Bool) → nat_lt i r.fields ≡ b → WordFormed after s'
              (cond b (Var (variable (r.first.0 + i))) (Lit (pos 0)))
          go true q = x.fields y r i e (grind (arith, nat_tests))
          go false q = tt

      fetched_formed : (a : W.Word) (i : ℕ) → WordFormed g s a → ActFormed after s' (fetched N a i)
      unfolding ActFormed
      fetched_formed (Lit k) i h = tt
      fetched_formed (Global j) i h = h
      fetched_formed (TagWord t) i h = h
      fetched_formed (Var z) i h = go (N z.0) refl
        where
          go : (o : Option Raising) → N z.0 ≡ o → ActFormed after s' (raised_fetch_of o (Var z) i)
          go None e = x.stays z.0 e h
          go (Some r) e = field_formed z.0 r e i

    -- ---- pieces

    -- an operation, after what stands before it
    abbrev Made : ℕ → Act → Scope → Type 0
    Made n o s = (c : Code) →
        ((s' : Scope) → Within s s' → ActFormed after s' (raised_act D N n o)
        → CodeFormed after s' c) → CodeFormed after s (fetches_before D n o c)

    mutual
      unfolding raised_act ActFormed EachAct act_mentions new_act

      act_formed : (o : Act) (n : ℕ) (s s' : Scope) → Fits N s s' → EachAct without_node_fetches o
          → Spared N (λ y. act_uses_as_value y o) → ActFormed g s o → Made n o s'
      act_formed (leaf (unit v)) n s s' x e p h = λ c k. k s' (within_self s')
          (val_formed s s' x v p h)
      act_formed (leaf (fetch a)) n s s' x e p h = absurd e
      act_formed (leaf (fetch_word a i)) n s s' x e p h
          = λ c k. k s' (within_self s') (fetched_formed s s' x a i h)
      act_formed (leaf (update a v)) n s s' x e p h = λ c k. k s' (within_self s') (
        word_formed s s' x a (left_spared N (λ y. word_is y a) (λ y. val_uses y v) p) h.0,
        val_formed s s' x v (right_spared N (λ y. word_is y a) (λ y. val_uses y v) p) h.1,
      )
      act_formed (leaf (eval a)) n s s' x e p h = λ c k. k s' (within_self s')
          (word_formed s s' x a p h)
      act_formed (leaf (apply v a)) n s s' x e p h = λ c k. k s' (within_self s') (
        val_formed s s' x v (left_spared N (λ y. val_uses y v) (λ y. word_is y a) p) h.0,
        word_formed s s' x a (right_spared N (λ y. val_uses y v) (λ y. word_is y a) p) h.1,
      )
      act_formed (leaf (call f ws)) n s s' x e p h = λ c k. fetches_formed n (decisions_at D f.0) ws
          c s' (words_formed s s' x ws p h.1)
          (λ s2 w as'. k s2 w (known_again g procs same_count f h.0, as'))
      act_formed (leaf (prim f a b)) n s s' x e p h = λ c k. k s' (within_self s') (
        word_formed s s' x a (left_spared N (λ y. word_is y a) (λ y. word_is y b) p) h.0,
        word_formed s s' x b (right_spared N (λ y. word_is y a) (λ y. word_is y b) p) h.1,
      )
      act_formed (leaf read) n s s' x e p h = λ c k. k s' (within_self s') tt
      act_formed (leaf (write a)) n s s' x e p h = λ c k. k s' (within_self s')
          (word_formed s s' x a p h)
      act_formed (case v as') n s s' x e p h = λ c k. k s' (within_self s') (
        val_formed s s' x v (left_spared N (λ y. val_uses y v) (λ y. arms_use_as_value y as') p)
            h.0,
        arms_formed as' n s s' x e.2
            (right_spared N (λ y. val_uses y v) (λ y. arms_use_as_value y as') p) h.1,
      )
      act_formed (nested b) n s s' x e p h = λ c k. k s' (within_self s')
          (code_formed b n s s' x e.1 p h)
      act_formed (leaf fail) n s s' x e p h = λ c k. k s' (within_self s') tt

      pub code_formed : (b : Code) (n : ℕ) (s s' : Scope) → Fits N s s'
          → EachCode without_node_fetches b → Spared N (λ y. code_uses_as_value y b)
          → CodeFormed g s b → CodeFormed after s' (raised_code D N n b)
      code_formed (end o) n s s' x e p h = act_formed o n s s' x e p h (end (raised_act D N n o))
          (λ s2 w k. k)
      code_formed (store cs b) n s s' x e p h =
          let y : Fits N (with_word_variables (cell_vars cs) s)
          (with_word_variables (cell_vars cs) s') = fits_words N (cell_vars cs) s s' x in (
            cells_formed (with_word_variables (cell_vars cs) s)
                (with_word_variables (cell_vars cs) s') y cs
                (left_spared N (λ z. cells_use z cs) (λ z. code_uses_as_value z b) p) h.0,
            code_formed b n (with_word_variables (cell_vars cs) s)
                (with_word_variables (cell_vars cs) s') y e.1
                (right_spared N (λ z. cells_use z cs) (λ z. code_uses_as_value z b) p) h.1,
          )
      code_formed (bind t o b) n s s' x e p h = act_formed o n s s' x e.1
          (left_spared N (λ z. act_uses_as_value z o) (λ z. code_uses_as_value z b) p) h.0
          (bind t (raised_act D N n o) (raised_code D N (n + (new_before D o + new_act D o)) b))
          (λ s2 w k. (
            k,
            code_formed b (n + (new_before D o + new_act D o)) (with_target t s)
                (with_target t s2) (fits_target N t s s2 (fits_within N s s' s2 x w)) e.2
                (right_spared N (λ z. act_uses_as_value z o) (λ z. code_uses_as_value z b) p) h.1,
          ))

      arms_formed : (as' : Arms) (n : ℕ) (s s' : Scope) → Fits N s s'
          → EachArms without_node_fetches as' → Spared N (λ y. arms_use_as_value y as')
          → ArmsFormed g s as' → ArmsFormed after s' (raised_arms D N n as')
      arms_formed no_arm n s s' x e p h = tt
      arms_formed (arm t b as') n s s' x e p h = (
        shape_stays g procs same_count t h.0,
        code_formed b n (with_word_variables (shape_vars t) s)
            (with_word_variables (shape_vars t) s') (fits_words N (shape_vars t) s s' x) e.1
            (left_spared N (λ z. code_uses_as_value z b) (λ z. arms_use_as_value z as') p) h.1,
        arms_formed as' (n + new_code D b) s s' x e.2
            (right_spared N (λ z. code_uses_as_value z b) (λ z. arms_use_as_value z as') p) h.2,
      )
