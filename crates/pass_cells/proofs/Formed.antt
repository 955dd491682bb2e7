-- A program whose fetches of remembered words give way to the words is well formed, and fetches
-- none of them.
use Rattle.std.proofs.Common.{◌≡◌, ℕ, zero, suc, pos, ◌≤◌, Bool, true, false, cond, not, nat_eq, List, [], ◌∷◌, ◌++◌, map, length, Option, Some, None, ◌⊎◌, inl, inr, refl, sym, ap, ◌∙◌, subst}
use Rattle.std.proofs.lemmas.List.{length-map}
use Rattle.std.proofs.lemmas.Option.{slice_get-map}
use Rattle.std.specs.Option.{option_map}
use Rattle.seq.specs.Lists.{times}
use Rattle.seq.proofs.Truth.{both_ways, or_cases, or_left, or_right}
use Rattle.grin_syntax.specs.declared.program.Cell.{Cell}
use Rattle.grin_syntax.specs.declared.program.Word as W
use Rattle.grin_syntax.specs.declared.program.Word.TheVariants.{Lit, Var, Global, TagWord}
use Rattle.grin_syntax.specs.declared.program.Val as V
use Rattle.grin_syntax.specs.declared.program.Val.TheVariants.{NodeVar, Node, Vector, One}
use Rattle.grin_syntax.specs.Tree.{Code, end, store, bind, Act, leaf, unit, fetch, fetch_word, update, eval, apply, call, prim, read, write, case, nested, fail, Arms, no_arm, arm, Procedure, Program}
use Rattle.grin_syntax.specs.Binders.{shape_vars, cell_vars}
use Rattle.grin_syntax.specs.Formed.{AllOf, Scope, with_word_variables, with_target, params_scope, WordFormed, ValFormed, CellFormed, ActFormed, CodeFormed, ArmsFormed, ProcedureFormed, Formed}
use Rattle.grin_syntax.specs.SameOutside.{DifferOnlyInBodies}
use Rattle.grin_syntax.proofs.Scopes.{Within, within_self, within_words, within_target, with_procs, known_again, word_stays, words_stay, val_stays, cells_stay, shape_stays, same_sites, formed_with}
use Rattle.pass_ground.specs.Uses.{words_use}
use Rattle.pass_ground.specs.Updated.{arms_updated, code_updated}
use Rattle.pass_cells.specs.Shown.{val_words, cells_words, act_shown, code_shown, arms_shown}
use Rattle.pass_cells.specs.Memory.{Memory, other, lost, holds, KnownCellContents, none, stored_contents, contents_forgotten, forget, contents_replaced, with_memory, after_update, after_act, after_store, word_at, told, remembered_word_of}
use Rattle.pass_cells.specs.Remembered.{word_or_fetch, told_act, told_code, told_arms, is_own_cell_variable, remembered_body, remembered}
use Rattle.pass_cells.specs.Unknown.{ActUnknown, CodeUnknown, ArmsUnknown}
use Rattle.pass_cells.proofs.Invariant.{use_append}
use Rattle.pass_cells.proofs.Text.{either, remembered_procedure, names_stay, vars_stay, sites_stay, code_updates_same, arms_updates_same}

-- ---- what the words that are remembered have in common

module _ (P : W.Word → Type 0) (zero_is : P (Lit (pos 0))) where
  abbrev pub MemoryOk : Memory → Type 0
  MemoryOk m = (i : ℕ) (w : W.Word) → told m i ≡ Some w → P w

  abbrev pub MemoriesOk : KnownCellContents → Type 0
  MemoriesOk T = (x : ℕ) → MemoryOk (T x)

  none_ok : MemoriesOk none
  none_ok x i w e = cc

  words_ok : (ws : List W.Word) → AllOf P ws → (i : ℕ) → P (word_at ws i)
  words_ok [] h i = zero_is
  words_ok (a ∷ ws) h zero = h.0
  words_ok (a ∷ ws) h (suc i) = words_ok ws h.1 i

  holds_ok : (ws : List W.Word) → AllOf P ws → MemoryOk (holds ws)
  holds_ok ws h i w e = let same : word_at ws i ≡ w = cc in subst P same (words_ok ws h i)

  forgotten_ok : (m : Memory) → MemoryOk (contents_forgotten m)
  forgotten_ok other i w e = cc
  forgotten_ok lost i w e = cc
  forgotten_ok (holds ws) i w e = cc

  forget_ok : (ws : List W.Word) (T : KnownCellContents) → MemoriesOk T → MemoriesOk (forget ws T)
  forget_ok ws T h x = go (words_use x ws)
    where
      go : (b : Bool) → MemoryOk (cond b (contents_forgotten (T x)) (T x))
      go true = forgotten_ok (T x)
      go false = h x

  replaced_ok : (m n : Memory) → MemoryOk n → MemoryOk (contents_replaced m n)
  replaced_ok other n h i w e = cc
  replaced_ok lost n h i w e = h i w e
  replaced_ok (holds ws) n h i w e = h i w e

  with_ok : (x : ℕ) (m : Memory) (T : KnownCellContents) → MemoryOk m → MemoriesOk T
      → MemoriesOk (with_memory x m T)
  with_ok x m T h k y = go (nat_eq y x)
    where
      go : (b : Bool) → MemoryOk (cond b m (T y))
      go true = h
      go false = k y

  update_ok : (a : W.Word) (v : V.Val) (T : KnownCellContents) → MemoryOk (stored_contents v)
      → MemoriesOk T → MemoriesOk (after_update a v T)
  update_ok (Var x) v T h k = with_ok x.0 (contents_replaced (T x.0) (stored_contents v)) T
      (replaced_ok (T x.0) (stored_contents v) h) k
  update_ok (Lit i) v T h k = k
  update_ok (Global i) v T h k = k
  update_ok (TagWord t) v T h k = k

  -- what an operation puts into a cell
  abbrev pub PutOk : Act → Type 0
  PutOk (leaf (update a v)) = MemoryOk (stored_contents v)
  PutOk _ = Unit {0}

  act_ok : (o : Act) (T : KnownCellContents) → PutOk o → MemoriesOk T → MemoriesOk (after_act o T)
  act_ok (leaf (update a v)) T h k = update_ok a v T h k
  act_ok (case v as') T h k = forget_ok (arms_updated as') T k
  act_ok (nested b) T h k = forget_ok (code_updated b) T k
  act_ok (leaf (unit v)) T h k = k
  act_ok (leaf (fetch a)) T h k = k
  act_ok (leaf (eval a)) T h k = k
  act_ok (leaf (apply v a)) T h k = k
  act_ok (leaf (call f ws)) T h k = k
  act_ok (leaf (prim q a b)) T h k = k
  act_ok (leaf read) T h k = k
  act_ok (leaf (write a)) T h k = k
  act_ok (leaf fail) T h k = k
  act_ok (leaf (fetch_word a i)) T h k = k

  store_ok : (own : ℕ → Bool) (cs : List Cell) (T : KnownCellContents)
      → AllOf (λ c. MemoryOk (stored_contents c.val)) cs → MemoriesOk T
      → MemoriesOk (after_store own cs T)
  store_ok own [] T h k = k
  store_ok own (c ∷ cs) T h k = store_ok own cs
      (cond (own c.var.0) (with_memory c.var.0 (stored_contents c.val) T) T) h.1 (go (own c.var.0))
    where
      go : (b : Bool) → MemoriesOk (cond b (with_memory c.var.0 (stored_contents c.val) T) T)
      go true = with_ok c.var.0 (stored_contents c.val) T h.0 k
      go false = k

  told_ok : (T : KnownCellContents) (a : W.Word) (i : ℕ) (w : W.Word) → MemoriesOk T
      → remembered_word_of T a i ≡ Some w → P w
  told_ok T (Var x) i w h e = h x.0 i w e
  told_ok T (Lit k) i w h e = cc
  told_ok T (Global k) i w h e = cc
  told_ok T (TagWord t) i w h e = cc

  held_ok : (v : V.Val) → ((t : _) → P (TagWord t)) → AllOf P (val_words v)
      → MemoryOk (stored_contents v)
  held_ok (NodeVar x) tags h i w e = cc
  held_ok (Node t ws) tags h i w e = holds_ok (TagWord t ∷ ws) (tags t, h) i w e
  held_ok (Vector ws) tags h i w e = holds_ok ws h i w e
  held_ok (One a) tags h i w e = holds_ok (a ∷ []) h i w e

-- ---- well formed

module _ (p : Program) (procs : List Procedure) (same_count : length procs ≡ length p.procs) where
  abbrev after : Program
  after = with_procs p procs same_count

  abbrev Words : Scope → W.Word → Type 0
  Words scope = WordFormed after scope

  abbrev Tells : Scope → KnownCellContents → Type 0
  Tells scope = MemoriesOk (Words scope) tt

  held_formed : (scope : Scope) (v : V.Val) → ValFormed after scope v
      → MemoryOk (Words scope) tt (stored_contents v)
  held_formed scope (NodeVar x) h i w e = cc
  held_formed scope (Node t ws) h i w e = holds_ok (Words scope) tt (TagWord t ∷ ws) (h.0, h.1) i w
      e
  held_formed scope (Vector ws) h i w e = holds_ok (Words scope) tt ws h i w e
  held_formed scope (One a) h i w e = holds_ok (Words scope) tt (a ∷ []) (h, tt) i w e

  cells_held : (scope : Scope) (cs : List Cell) → AllOf (CellFormed after scope) cs
      → AllOf (λ c. MemoryOk (Words scope) tt (stored_contents c.val)) cs
  cells_held scope [] h = tt
  cells_held scope (c ∷ cs) h = (held_formed scope c.val h.0, cells_held scope cs h.1)

  tells_more : (scope scope' : Scope) (T : KnownCellContents) → Within scope scope' → Tells scope T
      → Tells scope' T
  tells_more scope scope' T w h x i a e = word_stays after procs refl scope scope' w a (h x i a e)

  mutual
    unfolding told_act ActFormed

    act_formed : (own : ℕ → Bool) (o : Act) (scope : Scope) (T : KnownCellContents)
        → ActFormed p scope o → Tells scope T → ActFormed after scope (told_act own T o)
    act_formed own (leaf (fetch_word a i)) scope T h k = go (remembered_word_of T a i) refl
      where
        go : (m : Option W.Word) → remembered_word_of T a i ≡ m
            → ActFormed after scope (word_or_fetch a i m)
        go None q = word_stays p procs same_count scope scope (within_self scope) a h
        go (Some w) q = told_ok (Words scope) tt T a i w k q
    act_formed own (case v as') scope T h k = (
      val_stays p procs same_count scope scope (within_self scope) v h.0,
      arms_formed own as' scope T h.1 k,
    )
    act_formed own (nested b) scope T h k = code_formed own b scope T h k
    act_formed own (leaf (unit v)) scope T h k = val_stays p procs same_count scope scope
        (within_self scope) v h
    act_formed own (leaf (fetch a)) scope T h k = word_stays p procs same_count scope scope
        (within_self scope) a h
    act_formed own (leaf (update a v)) scope T h k = (
      word_stays p procs same_count scope scope (within_self scope) a h.0,
      val_stays p procs same_count scope scope (within_self scope) v h.1,
    )
    act_formed own (leaf (eval a)) scope T h k = word_stays p procs same_count scope scope
        (within_self scope) a h
    act_formed own (leaf (apply v a)) scope T h k = (
      val_stays p procs same_count scope scope (within_self scope) v h.0,
      word_stays p procs same_count scope scope (within_self scope) a h.1,
    )
    act_formed own (leaf (call f ws)) scope T h k = (
      known_again p procs same_count f h.0,
      words_stay p procs same_count scope scope
          (within_self scope) ws h.1,
    )
    act_formed own (leaf (prim f a b)) scope T h k = (
      word_stays p procs same_count scope scope (within_self scope) a h.0,
      word_stays p procs same_count scope scope (within_self scope) b h.1,
    )
    act_formed own (leaf read) scope T h k = tt
    act_formed own (leaf (write a)) scope T h k = word_stays p procs same_count scope scope
        (within_self scope) a h
    act_formed own (leaf fail) scope T h k = tt

    code_formed : (own : ℕ → Bool) (b : Code) (scope : Scope) (T : KnownCellContents)
        → CodeFormed p scope b → Tells scope T → CodeFormed after scope (told_code own T b)
    code_formed own (end o) scope T h k = act_formed own o scope T h k
    code_formed own (store cs b) scope T h k =
        let inner : Scope = with_word_variables (cell_vars cs) scope in
        let cells : AllOf (CellFormed after inner) cs
        = cells_stay p procs same_count inner inner (within_self inner) cs h.0 in (
          cells,
          code_formed own b inner (after_store own cs T) h.1
              (store_ok (Words inner) tt own cs T (cells_held inner cs cells)
              (tells_more scope inner T (within_words (cell_vars cs) scope) k)),
        )
    code_formed own (bind t o b) scope T h k = (
      act_formed own o scope T h.0 k,
      code_formed own b (with_target t scope) (after_act o T) h.1
          (tells_more scope (with_target t scope) (after_act o T) (within_target t scope)
          (act_ok (Words scope) tt o T (put_formed o scope h.0) k)),
    )

    arms_formed : (own : ℕ → Bool) (as' : Arms) (scope : Scope) (T : KnownCellContents)
        → ArmsFormed p scope as' → Tells scope T → ArmsFormed after scope (told_arms own T as')
    arms_formed own no_arm scope T h k = tt
    arms_formed own (arm q b as') scope T h k = (
      shape_stays p procs same_count q h.0,
      code_formed own b (with_word_variables (shape_vars q) scope) T h.1
          (tells_more scope (with_word_variables (shape_vars q) scope) T
          (within_words (shape_vars q) scope) k),
      arms_formed own as' scope T h.2 k,
    )

    put_formed : (o : Act) (scope : Scope) → ActFormed p scope o → PutOk (Words scope) tt o
    put_formed (leaf (update a v)) scope h = held_formed scope v
        (val_stays p procs same_count scope scope (within_self scope) v h.1)
    put_formed (leaf (unit v)) scope h = tt
    put_formed (leaf (fetch a)) scope h = tt
    put_formed (leaf (eval a)) scope h = tt
    put_formed (leaf (apply v a)) scope h = tt
    put_formed (leaf (call f ws)) scope h = tt
    put_formed (leaf (prim q a b)) scope h = tt
    put_formed (leaf read) scope h = tt
    put_formed (leaf (write a)) scope h = tt
    put_formed (leaf fail) scope h = tt
    put_formed (leaf (fetch_word a i)) scope h = tt
    put_formed (case v as') scope h = tt
    put_formed (nested b) scope h = tt

  bodies_formed : (qs : List Procedure) → AllOf (ProcedureFormed p) qs
      → AllOf (ProcedureFormed after) (map remembered_procedure qs)
  bodies_formed [] h = tt
  bodies_formed (q ∷ qs) h = (
    code_formed (is_own_cell_variable q.body) q.body (params_scope q) none h.0
        (none_ok (Words (params_scope q)) tt),
    bodies_formed qs h.1,
  )

pub remembered_formed : (g : Program) → Formed g → Formed (remembered g)
remembered_formed g f =
    let procs : List Procedure = map remembered_procedure g.procs in
    let count : length procs ≡ length g.procs = length-map g.procs remembered_procedure in
    formed_with g procs count f
    (λ x. subst (λ l. times x l ≤ 1) (sym (vars_stay g.procs)) (f.variables_once x))
    (same_sites g procs count (sites_stay g.procs) f.sites_once)
    (bodies_formed g procs count g.procs f.procedures) (
      remembered_procedure f.start.0,
      (
        slice_get-map remembered_procedure g.procs g.start.0 ∙ ap (option_map remembered_procedure)
            f.start.1,
        f.start.2,
      ),
    )

pub remembered_outside : (g : Program) → DifferOnlyInBodies g (remembered g)
remembered_outside g = record {
  same_tags = refl;
  same_globals = refl;
  same_start = refl;
  same_argument = refl;
  same_names
      = names_stay g.procs;
}

-- ---- the same variables are own

-- each variable among the first is among the second
pub record Among (xs ys : List W.Word) : Type 0 where
  pub by : (y : ℕ) → words_use y xs ≡ true → words_use y ys ≡ true

among_self : (xs : List W.Word) → Among xs xs
among_self xs = record { by = λ y h. h }

among_front : (xs ys zs : List W.Word) → Among (xs ++ ys) zs → Among xs zs
among_front xs ys zs h = record
    { by = λ y k. h.by y (use_append y xs ys ∙ or_left (words_use y xs) (words_use y ys) k) }

among_back : (xs ys zs : List W.Word) → Among (xs ++ ys) zs → Among ys zs
among_back xs ys zs h = record
    { by = λ y k. h.by y (use_append y xs ys ∙ or_right (words_use y xs) (words_use y ys) k) }

among_both : (xs ys zs : List W.Word) → Among xs zs → Among ys zs → Among (xs ++ ys) zs
among_both xs ys zs h k = record
    { by = λ y e. go y (or_cases (words_use y xs) (words_use y ys) (sym (use_append y xs ys) ∙ e)) }
  where
    go : (y : ℕ) → (words_use y xs ≡ true) ⊎ (words_use y ys ≡ true) → words_use y zs ≡ true
    go y (inl e) = h.by y e
    go y (inr e) = k.by y e

among_left : (xs ys zs : List W.Word) → Among xs ys → Among xs (ys ++ zs)
among_left xs ys zs h = record
    { by = λ y k. use_append y ys zs ∙ or_left (words_use y ys) (words_use y zs) (h.by y k) }

among_right : (xs ys zs : List W.Word) → Among xs zs → Among xs (ys ++ zs)
among_right xs ys zs h = record
    { by = λ y k. use_append y ys zs ∙ or_right (words_use y ys) (words_use y zs) (h.by y k) }

none_among : (ys : List W.Word) → Among [] ys
none_among ys = record { by = λ y k. cc }

among_append : (xs ys us vs : List W.Word) → Among xs us → Among ys vs → Among (xs ++ ys) (us ++ vs)
among_append xs ys us vs h k = among_both xs ys (us ++ vs) (among_left xs us vs h)
    (among_right ys us vs k)

each_among : (ws ys : List W.Word) → Among ws ys → AllOf (λ w. Among (w ∷ []) ys) ws
each_among [] ys h = tt
each_among (w ∷ ws) ys h =
    (among_front (w ∷ []) ws ys h, each_among ws ys (among_back (w ∷ []) ws ys h))

module _ (own : ℕ → Bool) where
  -- none is left out
  mutual
    unfolding told_act act_shown

    act_more : (o : Act) (T : KnownCellContents) → Among (act_shown o)
        (act_shown (told_act own T o))
    act_more (leaf (fetch_word a i)) T = none_among _
    act_more (case v as') T = among_append (val_words v) (arms_shown as') (val_words v)
        (arms_shown (told_arms own T as')) (among_self (val_words v)) (arms_more as' T)
    act_more (nested b) T = code_more b T
    act_more (leaf (unit v)) T = among_self (act_shown (leaf (unit v)))
    act_more (leaf (fetch a)) T = among_self (act_shown (leaf (fetch a)))
    act_more (leaf (update a v)) T = among_self (act_shown (leaf (update a v)))
    act_more (leaf (eval a)) T = among_self (act_shown (leaf (eval a)))
    act_more (leaf (apply v a)) T = among_self (act_shown (leaf (apply v a)))
    act_more (leaf (call f ws)) T = among_self (act_shown (leaf (call f ws)))
    act_more (leaf (prim q a b)) T = among_self (act_shown (leaf (prim q a b)))
    act_more (leaf read) T = among_self (act_shown (leaf read))
    act_more (leaf (write a)) T = among_self (act_shown (leaf (write a)))
    act_more (leaf fail) T = among_self (act_shown (leaf fail))

    code_more : (b : Code) (T : KnownCellContents) → Among (code_shown b)
        (code_shown (told_code own T b))
    code_more (end o) T = act_more o T
    code_more (store cs b) T = among_append (cells_words cs) (code_shown b) (cells_words cs)
        (code_shown (told_code own (after_store own cs T) b)) (among_self (cells_words cs))
        (code_more b (after_store own cs T))
    code_more (bind t o b) T = among_append (act_shown o) (code_shown b)
        (act_shown (told_act own T o)) (code_shown (told_code own (after_act o T) b)) (act_more o T)
        (code_more b (after_act o T))

    arms_more : (as' : Arms) (T : KnownCellContents)
        → Among (arms_shown as') (arms_shown (told_arms own T as'))
    arms_more no_arm T = none_among _
    arms_more (arm s b as') T = among_append (code_shown b) (arms_shown as')
        (code_shown (told_code own T b)) (arms_shown (told_arms own T as')) (code_more b T)
        (arms_more as' T)

  -- and none comes in: what is told is among the words of a whole
  module _ (all : List W.Word) where
    abbrev Inside : W.Word → Type 0
    Inside w = Among (w ∷ []) all

    zero_inside : Inside (Lit (pos 0))
    zero_inside = record { by = λ y k. cc }

    held_inside : (v : V.Val) → Among (val_words v) all
        → MemoryOk Inside zero_inside (stored_contents v)
    held_inside v h = held_ok Inside zero_inside v (λ t. record { by = λ y k. cc })
        (each_among (val_words v) all h)

    cells_inside : (cs : List Cell) → Among (cells_words cs) all
        → AllOf (λ c. MemoryOk Inside zero_inside (stored_contents c.val)) cs
    cells_inside [] h = tt
    cells_inside (c ∷ cs) h = (
      held_inside c.val (among_front (val_words c.val) (cells_words cs) all h),
      cells_inside cs (among_back (val_words c.val) (cells_words cs) all h),
    )

    mutual
      unfolding told_act act_shown

      act_fewer : (o : Act) (T : KnownCellContents) → Among (act_shown o) all
          → MemoriesOk Inside zero_inside T → Among (act_shown (told_act own T o)) all
      act_fewer (leaf (fetch_word a i)) T h k = go (remembered_word_of T a i) refl
        where
          go : (m : Option W.Word) → remembered_word_of T a i ≡ m
              → Among (act_shown (word_or_fetch a i m)) all
          go None q = none_among all
          go (Some w) q = told_ok Inside zero_inside T a i w k q
      act_fewer (case v as') T h k = among_both (val_words v) (arms_shown (told_arms own T as')) all
          (among_front (val_words v) (arms_shown as') all h)
          (arms_fewer as' T (among_back (val_words v) (arms_shown as') all h) k)
      act_fewer (nested b) T h k = code_fewer b T h k
      act_fewer (leaf (unit v)) T h k = h
      act_fewer (leaf (fetch a)) T h k = h
      act_fewer (leaf (update a v)) T h k = h
      act_fewer (leaf (eval a)) T h k = h
      act_fewer (leaf (apply v a)) T h k = h
      act_fewer (leaf (call f ws)) T h k = h
      act_fewer (leaf (prim q a b)) T h k = h
      act_fewer (leaf read) T h k = h
      act_fewer (leaf (write a)) T h k = h
      act_fewer (leaf fail) T h k = h

      put_inside : (o : Act) → Among (act_shown o) all → PutOk Inside zero_inside o
      put_inside (leaf (update a v)) h = held_inside v h
      put_inside (leaf (unit v)) h = tt
      put_inside (leaf (fetch a)) h = tt
      put_inside (leaf (eval a)) h = tt
      put_inside (leaf (apply v a)) h = tt
      put_inside (leaf (call f ws)) h = tt
      put_inside (leaf (prim q a b)) h = tt
      put_inside (leaf read) h = tt
      put_inside (leaf (write a)) h = tt
      put_inside (leaf fail) h = tt
      put_inside (leaf (fetch_word a i)) h = tt
      put_inside (case v as') h = tt
      put_inside (nested b) h = tt

      code_fewer : (b : Code) (T : KnownCellContents) → Among (code_shown b) all
          → MemoriesOk Inside zero_inside T → Among (code_shown (told_code own T b)) all
      code_fewer (end o) T h k = act_fewer o T h k
      code_fewer (store cs b) T h k = among_both (cells_words cs)
          (code_shown (told_code own (after_store own cs T) b)) all
          (among_front (cells_words cs) (code_shown b) all h)
          (code_fewer b (after_store own cs T) (among_back (cells_words cs) (code_shown b) all h)
          (store_ok Inside zero_inside own cs T
          (cells_inside cs (among_front (cells_words cs) (code_shown b) all h)) k))
      code_fewer (bind t o b) T h k = among_both (act_shown (told_act own T o))
          (code_shown (told_code own (after_act o T) b)) all
          (act_fewer o T (among_front (act_shown o) (code_shown b) all h) k)
          (code_fewer b (after_act o T) (among_back (act_shown o) (code_shown b) all h)
          (act_ok Inside zero_inside o T
          (put_inside o (among_front (act_shown o) (code_shown b) all h)) k))

      arms_fewer : (as' : Arms) (T : KnownCellContents) → Among (arms_shown as') all
          → MemoriesOk Inside zero_inside T → Among (arms_shown (told_arms own T as')) all
      arms_fewer no_arm T h k = none_among all
      arms_fewer (arm s b as') T h k = among_both (code_shown (told_code own T b))
          (arms_shown (told_arms own T as')) all
          (code_fewer b T (among_front (code_shown b) (arms_shown as') all h) k)
          (arms_fewer as' T (among_back (code_shown b) (arms_shown as') all h) k)

  -- ---- no fetch of what is remembered

  pub acts_same : (o : Act) (T : KnownCellContents) → after_act (told_act own T o) T ≡ after_act o T
  unfolding told_act
  acts_same (leaf (fetch_word a i)) T = either a i (λ o. after_act o T ≡ T) refl (λ w. refl)
      (remembered_word_of T a i)
  acts_same (case v as') T = ap (λ ws. forget ws T) (arms_updates_same own as' T)
  acts_same (nested b) T = ap (λ ws. forget ws T) (code_updates_same own b T)
  acts_same (leaf (unit v)) T = refl
  acts_same (leaf (fetch a)) T = refl
  acts_same (leaf (update a v)) T = refl
  acts_same (leaf (eval a)) T = refl
  acts_same (leaf (apply v a)) T = refl
  acts_same (leaf (call f ws)) T = refl
  acts_same (leaf (prim q a b)) T = refl
  acts_same (leaf read) T = refl
  acts_same (leaf (write a)) T = refl
  acts_same (leaf fail) T = refl

  mutual
    unfolding told_act ActUnknown

    act_unknown : (o : Act) (T : KnownCellContents) → ActUnknown own T (told_act own T o)
    act_unknown (leaf (fetch_word a i)) T = go (remembered_word_of T a i) refl
      where
        go : (m : Option W.Word) → remembered_word_of T a i ≡ m
            → ActUnknown own T (word_or_fetch a i m)
        go None q = q
        go (Some w) q = tt
    act_unknown (case v as') T = arms_unknown as' T
    act_unknown (nested b) T = code_unknown b T
    act_unknown (leaf (unit v)) T = tt
    act_unknown (leaf (fetch a)) T = tt
    act_unknown (leaf (update a v)) T = tt
    act_unknown (leaf (eval a)) T = tt
    act_unknown (leaf (apply v a)) T = tt
    act_unknown (leaf (call f ws)) T = tt
    act_unknown (leaf (prim q a b)) T = tt
    act_unknown (leaf read) T = tt
    act_unknown (leaf (write a)) T = tt
    act_unknown (leaf fail) T = tt

    code_unknown : (b : Code) (T : KnownCellContents) → CodeUnknown own T (told_code own T b)
    code_unknown (end o) T = act_unknown o T
    code_unknown (store cs b) T = code_unknown b (after_store own cs T)
    code_unknown (bind t o b) T = (
      act_unknown o T,
      subst (λ S. CodeUnknown own S (told_code own (after_act o T) b))
          (sym (acts_same o T)) (code_unknown b (after_act o T)),
    )

    arms_unknown : (as' : Arms) (T : KnownCellContents) → ArmsUnknown own T (told_arms own T as')
    arms_unknown no_arm T = tt
    arms_unknown (arm s b as') T = (code_unknown b T, arms_unknown as' T)

own_same : (b : Code) → is_own_cell_variable (remembered_body b) ≡ is_own_cell_variable b
own_same b = λ i x. not (each x i)
  where
    each : (x : ℕ) → words_use x (code_shown (remembered_body b)) ≡ words_use x (code_shown b)
    each x = both_ways (words_use x (code_shown (remembered_body b))) (words_use x (code_shown b))
        ((code_fewer (is_own_cell_variable b) (code_shown b) b none (among_self (code_shown b))
        (none_ok (Inside (is_own_cell_variable b) (code_shown b))
        (zero_inside (is_own_cell_variable b) (code_shown b)))).by x)
        ((code_more (is_own_cell_variable b) b none).by x)

pub procs_unknown : (qs : List Procedure) → AllOf
    (λ q. CodeUnknown (is_own_cell_variable q.body) none q.body) (map remembered_procedure qs)
procs_unknown [] = tt
procs_unknown (q ∷ qs) = (
  subst (λ own. CodeUnknown own none (remembered_body q.body)) (sym (own_same q.body))
      (code_unknown (is_own_cell_variable q.body) q.body none),
  procs_unknown qs,
)
