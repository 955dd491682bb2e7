-- A program without idle statements is well formed, has what every pass keeps, and has no idle
-- statement.
use Rattle.std.proofs.Common.{◌≡◌, ◌≢◌, ℕ, zero, suc, ◌+◌, ◌≤◌, Bool, true, false, not, ◌&&◌, ◌||◌, nat_eq, List, [], ◌∷◌, ◌++◌, map, length, refl, sym, ap, ◌∙◌, subst, arith}
use Rattle.std.proofs.lemmas.List.{length-map}
use Rattle.std.proofs.lemmas.Option.{slice_get-map}
use Rattle.std.specs.Option.{option_map}
use Rattle.seq.proofs.Order.{eq_from}
use Rattle.seq.proofs.Truth.{not_both, and_left, and_right}
use Rattle.grin_syntax.specs.declared.program.Cell.{Cell}
use Rattle.grin_syntax.specs.declared.program.Target.{Target}
use Rattle.grin_syntax.specs.declared.program.Target.TheVariants as to
use Rattle.grin_syntax.specs.declared.program.Word as W
use Rattle.grin_syntax.specs.declared.program.Word.TheVariants.{Lit, Var, Global, TagWord}
use Rattle.grin_syntax.specs.declared.program.Val as V
use Rattle.grin_syntax.specs.declared.program.Val.TheVariants.{NodeVar, Node, Vector, One}
use Rattle.grin_syntax.specs.Tree.{Code, end, store, bind, Act, leaf, unit, fetch, fetch_word, update, eval, apply, call, prim, read, write, case, nested, fail, Arms, no_arm, arm, Procedure, Program}
use Rattle.grin_syntax.specs.Binders.{numbers_of, target_vars, shape_vars, cell_vars, act_vars, code_vars, arms_vars, procs_vars, act_sites, code_sites, arms_sites, procs_sites}
use Rattle.grin_syntax.specs.Formed.{AllOf, Scope, InScope, with_word_variables, with_target, params_scope, WordFormed, ValFormed, CellFormed, ActFormed, CodeFormed, ArmsFormed, ProcedureFormed, Formed}
use Rattle.grin_syntax.specs.SameOutside.{names_of, DifferOnlyInBodies}
use Rattle.grin_syntax.proofs.Scopes.{with_procs, known_again, shape_stays, same_sites, formed_with}
use Rattle.grin_meaning.specs.Names.{WordOk, WordsOk, ValOk, CellsOk, ActOk, CodeOk, ArmsOk}
use Rattle.grin_meaning.specs.Ready.{Inlined, IsNotNodeFetch, NoNodeTarget, NoNodeVar, EachAct, EachCode, EachArms, NarrowAct, NarrowCode, NarrowArms, PieceKind, EveryBodyIsOfKind, vectorised_kind}
use Rattle.grin_meaning.specs.Rewritten.{rewritten_procedure}
use Rattle.copy_prop.specs.Lean.{used_in_word, used_in_words, used_in_val, used_in_cells, used_in_act, used_in_code, used_in_arms, are_disjoint, has_no_effect, is_idle, unless, without_idle_act, without_idle_code, without_idle_arms, lean}
use Rattle.copy_prop.specs.Copied.{IsCopy, Unused, IsNeeded, BoundAct, BoundCode, BoundArms}
use Rattle.copy_prop.proofs.Used.{none_absent}
use Rattle.copy_prop.proofs.LeanSimulated.{Covers, covers_left, covers_right}
use Rattle.copy_prop.proofs.Unused.{CopyIsUnused, Other}
use Rattle.seq.specs.Lists.{times, is_among}
use Rattle.grin_meaning.specs.Pieces.{HasNoEffect}
use Rattle.seq.proofs.Counted.{times_fewer, times_append, among_first, among_append}
use Rattle.grin_meaning.proofs.Scopes.{among_in}

-- ---- what a piece has of its kind

module _ (K : PieceKind) (op_stays : (o : Act) → K.operation o → K.operation (without_idle_act o))
  where
    bind_stays : (t : Target) (o' : Act) (c : Code) (q : Bool) → K.target t → EachAct K o'
        → EachCode K c → EachCode K (unless q (bind t o') c)
    unfolding EachAct
    bind_stays t o' c false h k l = (h, k, l)
    bind_stays t o' c true h k l = l

    mutual
      unfolding without_idle_act EachAct

      act_each : (o : Act) → EachAct K o → EachAct K (without_idle_act o)
      act_each (case v as') h = (op_stays (case v as') h.0, h.1, arms_each as' h.2)
      act_each (nested b) h = (op_stays (nested b) h.0, code_each b h.1)
      act_each (leaf l) h = h

      code_each : (b : Code) → EachCode K b → EachCode K (without_idle_code b)
      code_each (end o) h = act_each o h
      code_each (store cs b) h = (h.0, code_each b h.1)
      code_each (bind t o b) h = bind_stays t (without_idle_act o) (without_idle_code b)
          (is_idle t o (used_in_code (without_idle_code b))) h.0 (act_each o h.1) (code_each b h.2)

      arms_each : (as' : Arms) → EachArms K as' → EachArms K (without_idle_arms as')
      arms_each no_arm h = tt
      arms_each (arm s b as') h = (h.0, code_each b h.1, arms_each as' h.2)

    pub procs_each : (qs : List Procedure) → EveryBodyIsOfKind K qs
        → EveryBodyIsOfKind K (map (rewritten_procedure without_idle_code) qs)
    procs_each [] h = tt
    procs_each (q ∷ qs) h = (code_each q.body h.0, procs_each qs h.1)

pub inlined_stays : (o : Act) → Inlined o → Inlined (without_idle_act o)
unfolding without_idle_act
inlined_stays (leaf l) h = h
inlined_stays (case v as') h = tt
inlined_stays (nested b) h = tt

pub by_words_stays : (o : Act) → IsNotNodeFetch o → IsNotNodeFetch (without_idle_act o)
unfolding without_idle_act
by_words_stays (leaf l) h = h
by_words_stays (case v as') h = tt
by_words_stays (nested b) h = tt

module _ (w most : ℕ) where
  bind_narrow : (t : Target) (o' : Act) (c : Code) (q : Bool) → NarrowCode w most c
      → NarrowCode w most (unless q (bind t o') c)
  unfolding NarrowAct
  bind_narrow t o' c false h = h
  bind_narrow t o' c true h = h

  mutual
    unfolding without_idle_act NarrowAct

    act_narrow : (o : Act) → NarrowAct w most o → NarrowAct w most (without_idle_act o)
    act_narrow (case v as') h = arms_narrow as' h
    act_narrow (nested b) h = code_narrow b h
    act_narrow (leaf l) h = h

    code_narrow : (b : Code) → NarrowCode w most b → NarrowCode w most (without_idle_code b)
    code_narrow (end o) h = act_narrow o h
    code_narrow (store cs b) h = code_narrow b h
    code_narrow (bind t o b) h = bind_narrow t (without_idle_act o) (without_idle_code b)
        (is_idle t o (used_in_code (without_idle_code b))) (code_narrow b h)

    arms_narrow : (as' : Arms) → NarrowArms w most as' → NarrowArms w most (without_idle_arms as')
    arms_narrow no_arm h = tt
    arms_narrow (arm s b as') h = (code_narrow b h.0, arms_narrow as' h.1)

  pub procs_narrow : (qs : List Procedure) → AllOf (λ q. NarrowCode w most q.body) qs
      → AllOf (λ q. NarrowCode w most q.body) (map (rewritten_procedure without_idle_code) qs)
  procs_narrow [] h = tt
  procs_narrow (q ∷ qs) h = (code_narrow q.body h.0, procs_narrow qs h.1)

pub procs_params : (most : ℕ) (qs : List Procedure) → AllOf (λ q. length q.params ≤ most) qs
    → AllOf (λ q. length q.params ≤ most) (map (rewritten_procedure without_idle_code) qs)
procs_params most [] h = tt
procs_params most (q ∷ qs) h = (h.0, procs_params most qs h.1)

-- ---- no statement is idle

-- where a piece doesn't name x, x is not among its uses
absent_both : (x : ℕ) (xs ys : List ℕ) → is_among x xs ≡ false → is_among x ys ≡ false
    → is_among x (xs ++ ys) ≡ false
absent_both x xs ys h k = among_append x xs ys ∙ (λ i. h i || k i)

other_number : (x y : ℕ) → y ≢ x → is_among x (y ∷ []) ≡ false
other_number x y h = go (nat_eq x y) refl
  where
    go : (b : Bool) → nat_eq x y ≡ b → (b || false) ≡ false
    go true q = absurd (h (sym (eq_from x y q)))
    go false q = refl

module _ (x : ℕ) where
  word_absent : (a : W.Word) → WordOk (Other x) a → is_among x (used_in_word a) ≡ false
  word_absent (Var y) h = other_number x y.0 h
  word_absent (Lit k) h = refl
  word_absent (Global i) h = refl
  word_absent (TagWord t) h = refl

  words_absent : (ws : List W.Word) → WordsOk (Other x) ws → is_among x (used_in_words ws) ≡ false
  words_absent [] h = refl
  words_absent (a ∷ ws) h = absent_both x (used_in_word a) (used_in_words ws) (word_absent a h.0)
      (words_absent ws h.1)

  val_absent : (v : V.Val) → ValOk (Other x) v → is_among x (used_in_val v) ≡ false
  val_absent (NodeVar y) h = other_number x y.0 h
  val_absent (Node t ws) h = words_absent ws h
  val_absent (Vector ws) h = words_absent ws h
  val_absent (One a) h = word_absent a h

  cells_absent : (cs : List Cell) → CellsOk (Other x) cs → is_among x (used_in_cells cs) ≡ false
  cells_absent [] h = refl
  cells_absent (c ∷ cs) h = absent_both x (used_in_val c.val) (used_in_cells cs)
      (val_absent c.val h.0) (cells_absent cs h.1)

  mutual
    unfolding used_in_act ActOk

    act_absent : (o : Act) → ActOk (Other x) o → is_among x (used_in_act o) ≡ false
    act_absent (leaf (unit v)) h = val_absent v h
    act_absent (leaf (fetch a)) h = word_absent a h
    act_absent (leaf (fetch_word a i)) h = word_absent a h
    act_absent (leaf (update a v)) h = absent_both x (used_in_word a) (used_in_val v)
        (word_absent a h.0) (val_absent v h.1)
    act_absent (leaf (eval a)) h = word_absent a h
    act_absent (leaf (apply v a)) h = absent_both x (used_in_val v) (used_in_word a)
        (val_absent v h.0) (word_absent a h.1)
    act_absent (leaf (call f ws)) h = words_absent ws h
    act_absent (leaf (prim p a b)) h = absent_both x (used_in_word a) (used_in_word b)
        (word_absent a h.0) (word_absent b h.1)
    act_absent (leaf read) h = refl
    act_absent (leaf (write a)) h = word_absent a h
    act_absent (case v as') h = absent_both x (used_in_val v) (used_in_arms as') (val_absent v h.0)
        (arms_absent as' h.1)
    act_absent (nested b) h = code_absent b h
    act_absent (leaf fail) h = refl

    pub code_absent : (b : Code) → CodeOk (Other x) b → is_among x (used_in_code b) ≡ false
    code_absent (end o) h = act_absent o h
    code_absent (store cs b) h = absent_both x (used_in_code b) (used_in_cells cs)
        (code_absent b h.1) (cells_absent cs h.0)
    code_absent (bind t o b) h = absent_both x (used_in_code b) (used_in_act o) (code_absent b h.1)
        (act_absent o h.0)

    arms_absent : (as' : Arms) → ArmsOk (Other x) as' → is_among x (used_in_arms as') ≡ false
    arms_absent no_arm h = refl
    arms_absent (arm s b as') h = absent_both x (used_in_code b) (used_in_arms as')
        (code_absent b h.0) (arms_absent as' h.1)

none_used : (b : Code) (xs : List ℕ) → AllOf (Unused b) xs → are_disjoint xs (used_in_code b) ≡ true
none_used b [] h = refl
none_used b (x ∷ xs) h = λ i. not (code_absent x b h.0 i) && none_used b xs h.1 i

was_copy : (t : Target) (o : Act) → IsCopy t (without_idle_act o) → IsCopy t o
unfolding without_idle_act
was_copy t (leaf l) h = h
was_copy t (case v as') h = h
was_copy t (nested b) h = h

was_still : (o : Act) → HasNoEffect (without_idle_act o) → has_no_effect o ≡ true
unfolding without_idle_act
was_still (leaf (unit v)) h = refl
was_still (leaf (fetch a)) h = refl
was_still (leaf (fetch_word a i)) h = refl
was_still (leaf (prim p a b)) h = refl
was_still (leaf _) h = absurd h
was_still (case v as') h = absurd h
was_still (nested b) h = absurd h

copy_still : (t : Target) (o : Act) → IsCopy t o → has_no_effect o ≡ true
copy_still t (leaf (unit v)) h = refl
copy_still t (leaf _) h = absurd h
copy_still t (case v as') h = absurd h
copy_still t (nested b) h = absurd h

-- a copy that nobody uses is idle
bind_needed : (t : Target) (o : Act) (c : Code) (q : Bool) → is_idle t o (used_in_code c) ≡ q
    → CopyIsUnused t o c → BoundAct IsNeeded (without_idle_act o) → BoundCode IsNeeded c
    → BoundCode IsNeeded (unless q (bind t (without_idle_act o)) c)
unfolding BoundAct
bind_needed t o c true e n f h = h
bind_needed t o c false e n f h = (
  record {
    no_copy = λ i. not_both (is_idle t o (used_in_code c))
        ((λ j. copy_still t o (was_copy t o i) j && none_used c (target_vars t) (n (was_copy t o i))
        j)) e;
    not_idle = λ s u. not_both (is_idle t o (used_in_code c))
        ((λ i. was_still o s i && none_used c (target_vars t) u i)) e;
  },
  f,
  h,
)

module _ (Ok : ℕ → Type 0) where
  bind_names : (t : Target) (o' : Act) (c : Code) (q : Bool) → ActOk Ok o' → CodeOk Ok c
      → CodeOk Ok (unless q (bind t o') c)
  unfolding ActOk
  bind_names t o' c false h k = (h, k)
  bind_names t o' c true h k = k

  mutual
    unfolding without_idle_act ActOk

    act_names : (o : Act) → ActOk Ok o → ActOk Ok (without_idle_act o)
    act_names (case v as') h = (h.0, arms_names as' h.1)
    act_names (nested b) h = code_names b h
    act_names (leaf l) h = h

    code_names : (b : Code) → CodeOk Ok b → CodeOk Ok (without_idle_code b)
    code_names (end o) h = act_names o h
    code_names (store cs b) h = (h.0, code_names b h.1)
    code_names (bind t o b) h = bind_names t (without_idle_act o) (without_idle_code b)
        (is_idle t o (used_in_code (without_idle_code b))) (act_names o h.0) (code_names b h.1)

    arms_names : (as' : Arms) → ArmsOk Ok as' → ArmsOk Ok (without_idle_arms as')
    arms_names no_arm h = tt
    arms_names (arm s b as') h = (code_names b h.0, arms_names as' h.1)

still_unused : (b : Code) (xs : List ℕ) → AllOf (Unused b) xs
    → AllOf (Unused (without_idle_code b)) xs
still_unused b [] h = tt
still_unused b (x ∷ xs) h = (code_names (Other x) b h.0, still_unused b xs h.1)

mutual
  unfolding without_idle_act BoundAct

  act_needed : (o : Act) → BoundAct CopyIsUnused o → BoundAct IsNeeded (without_idle_act o)
  act_needed (case v as') h = arms_needed as' h
  act_needed (nested b) h = code_needed b h
  act_needed (leaf l) h = tt

  code_needed : (b : Code) → BoundCode CopyIsUnused b → BoundCode IsNeeded (without_idle_code b)
  code_needed (end o) h = act_needed o h
  code_needed (store cs b) h = code_needed b h
  code_needed (bind t o b) h = bind_needed t o (without_idle_code b)
      (is_idle t o (used_in_code (without_idle_code b))) refl
      (λ i. still_unused b (target_vars t) (h.0 i)) (act_needed o h.1) (code_needed b h.2)

  arms_needed : (as' : Arms) → BoundArms CopyIsUnused as'
      → BoundArms IsNeeded (without_idle_arms as')
  arms_needed no_arm h = tt
  arms_needed (arm s b as') h = (code_needed b h.0, arms_needed as' h.1)

pub procs_needed : (qs : List Procedure) → AllOf (λ q. BoundCode CopyIsUnused q.body) qs
    → AllOf (λ q. BoundCode IsNeeded q.body) (map (rewritten_procedure without_idle_code) qs)
procs_needed [] h = tt
procs_needed (q ∷ qs) h = (code_needed q.body h.0, procs_needed qs h.1)

-- ---- variables and sites

bind_counts : (y : ℕ) (t : Target) (o o' : Act) (b c : Code) (q : Bool)
    → times y (act_vars o') ≤ times y (act_vars o) → times y (code_vars c) ≤ times y (code_vars b)
    → times y (code_vars (unless q (bind t o') c)) ≤ times y (code_vars (bind t o b))
unfolding act_vars
bind_counts y t o o' b c false h k = times_fewer y (target_vars t) (act_vars o' ++ code_vars c)
    (target_vars t) (act_vars o ++ code_vars b) (omega arith)
    (times_fewer y (act_vars o') (code_vars c) (act_vars o) (code_vars b) h k)
bind_counts y t o o' b c true h k = times_fewer y [] (code_vars c) (target_vars t)
    (act_vars o ++ code_vars b) (omega arith)
    (times_fewer y [] (code_vars c) (act_vars o) (code_vars b) (omega arith) k)

mutual
  unfolding without_idle_act act_vars

  act_counts : (y : ℕ) (o : Act) → times y (act_vars (without_idle_act o)) ≤ times y (act_vars o)
  act_counts y (case v as') = arms_counts y as'
  act_counts y (nested b) = code_counts y b
  act_counts y (leaf l) = omega arith

  code_counts : (y : ℕ) (b : Code) → times y (code_vars (without_idle_code b)) ≤ times y
      (code_vars b)
  code_counts y (end o) = act_counts y o
  code_counts y (store cs b) = times_fewer y (cell_vars cs) (code_vars (without_idle_code b))
      (cell_vars cs) (code_vars b) (omega arith) (code_counts y b)
  code_counts y (bind t o b) = bind_counts y t o (without_idle_act o) b (without_idle_code b)
      (is_idle t o (used_in_code (without_idle_code b))) (act_counts y o) (code_counts y b)

  arms_counts : (y : ℕ) (as' : Arms) → times y (arms_vars (without_idle_arms as')) ≤ times y
      (arms_vars as')
  arms_counts y no_arm = omega arith
  arms_counts y (arm s b as') = times_fewer y (shape_vars s)
      (code_vars (without_idle_code b) ++ arms_vars (without_idle_arms as')) (shape_vars s)
      (code_vars b ++ arms_vars as') (omega arith)
      (times_fewer y (code_vars (without_idle_code b)) (arms_vars (without_idle_arms as'))
      (code_vars b) (arms_vars as') (code_counts y b) (arms_counts y as'))

procs_counts : (y : ℕ) (qs : List Procedure) → times y
    (procs_vars (map (rewritten_procedure without_idle_code) qs)) ≤ times y (procs_vars qs)
procs_counts y [] = omega arith
procs_counts y (q ∷ qs) = times_fewer y
    (numbers_of q.params ++ code_vars (without_idle_code q.body))
    (procs_vars (map (rewritten_procedure without_idle_code) qs))
    (numbers_of q.params ++ code_vars q.body) (procs_vars qs)
    (times_fewer y (numbers_of q.params) (code_vars (without_idle_code q.body))
    (numbers_of q.params) (code_vars q.body) (omega arith) (code_counts y q.body))
    (procs_counts y qs)

still_sites : (o : Act) → has_no_effect o ≡ true → act_sites o ≡ []
unfolding act_sites
still_sites (leaf l) h = refl
still_sites (case v as') h = cc
still_sites (nested b) h = cc

bind_sites : (t : Target) (o o' : Act) (b c : Code) (used : List ℕ) (q : Bool)
    → is_idle t o used ≡ q → act_sites o' ≡ act_sites o → code_sites c ≡ code_sites b
    → code_sites (unless q (bind t o') c) ≡ code_sites (bind t o b)
unfolding act_sites
bind_sites t o o' b c used false e h k = λ i. h i ++ k i
bind_sites t o o' b c used true e h k = k ∙ ap (λ l. l ++ code_sites b)
    (sym (still_sites o (and_left (has_no_effect o) (are_disjoint (target_vars t) used) e)))

mutual
  unfolding without_idle_act act_sites

  act_sites_stay : (o : Act) → act_sites (without_idle_act o) ≡ act_sites o
  act_sites_stay (case v as') = arms_sites_stay as'
  act_sites_stay (nested b) = code_sites_stay b
  act_sites_stay (leaf l) = refl

  code_sites_stay : (b : Code) → code_sites (without_idle_code b) ≡ code_sites b
  code_sites_stay (end o) = act_sites_stay o
  code_sites_stay (store cs b) = ap (λ l. map (λ c. c.site.0) cs ++ l) (code_sites_stay b)
  code_sites_stay (bind t o b) = bind_sites t o (without_idle_act o) b (without_idle_code b)
      (used_in_code (without_idle_code b)) (is_idle t o (used_in_code (without_idle_code b))) refl
      (act_sites_stay o) (code_sites_stay b)

  arms_sites_stay : (as' : Arms) → arms_sites (without_idle_arms as') ≡ arms_sites as'
  arms_sites_stay no_arm = refl
  arms_sites_stay (arm s b as') = λ i. code_sites_stay b i ++ arms_sites_stay as' i

pub sites_stay : (qs : List Procedure) → procs_sites
    (map (rewritten_procedure without_idle_code) qs) ≡ procs_sites qs
sites_stay [] = refl
sites_stay (q ∷ qs) = λ i. code_sites_stay q.body i ++ sites_stay qs i

names_stay : (qs : List Procedure) → names_of (map (rewritten_procedure without_idle_code) qs) ≡
    names_of qs
names_stay [] = refl
names_stay (q ∷ qs) = ap (λ ns. q.name ∷ ns) (names_stay qs)

pub lean_outside : (g : Program) → DifferOnlyInBodies g (lean g)
lean_outside g = record {
  same_tags = refl;
  same_globals = refl;
  same_start = refl;
  same_argument = refl;
  same_names
      = names_stay g.procs;
}

-- ---- scopes

-- words alone
abbrev pub as_scope : List ℕ → Scope
as_scope xs = record { nodes = []; words = xs }

pub target_scope : (t : Target) (scope : Scope) → NoNodeTarget t
    → with_target t scope ≡ with_word_variables (target_vars t) scope
target_scope to.Nothing scope h = refl
target_scope (to.Node x) scope h = absurd h
target_scope (to.One x) scope h = refl
target_scope (to.Vector xs) scope h = refl

-- of the variables in scope in the first, those that are used are in scope in the second
abbrev pub Carried : Scope → List ℕ → ℕ → Type 0
Carried scope scope' x = InScope scope.words x → InScope scope' x

pub carried_more : (ts : List ℕ) (scope : Scope) (scope' : List ℕ) (x : ℕ) → Carried scope scope' x
    → Carried (with_word_variables ts scope) (ts ++ scope') x
carried_more ts scope scope' x c i = go (times x ts) refl
  where
    go : (n : ℕ) → times x ts ≡ n → InScope (ts ++ scope') x
    go zero e =
        let a : times x (ts ++ scope.words) ≡ times x ts + times x scope.words
        = times_append x ts scope.words in
        let j : InScope scope' x = c (omega (arith, i, e, a)) in
        let b : times x (ts ++ scope') ≡ times x ts + times x scope' = times_append x ts scope' in
        omega (arith, j, b)
    go (suc n) e = let b : times x (ts ++ scope') ≡ times x ts + times x scope'
        = times_append x ts scope' in omega (arith, e, b)

-- what is left out is not used
carried_past : (ts used : List ℕ) (scope : Scope) (scope' : List ℕ) → are_disjoint ts used ≡ true
    → Covers (Carried scope scope') used → Covers (Carried (with_word_variables ts scope) scope')
    used
carried_past ts used scope scope' none cov x h i = go (times x ts) refl
  where
    go : (n : ℕ) → times x ts ≡ n → InScope scope' x
    go zero e = let a : times x (ts ++ scope.words) ≡ times x ts + times x scope.words
        = times_append x ts scope.words in cov x h (omega (arith, i, e, a))
    go (suc n) e = absurd
        (not_both (is_among x used) h
        (none_absent x ts used none (among_in x ts (omega (arith, e)))))

module _ (g : Program) (procs : List Procedure) (same_count : length procs ≡ length g.procs) where
  abbrev pub there : Program
  there = with_procs g procs same_count

  module _ (scope : Scope) (scope' : List ℕ) where
    abbrev pub Carries : List ℕ → Type 0
    Carries = Covers (Carried scope scope')

    pub word_formed : (a : W.Word) → Carries (used_in_word a) → WordFormed g scope a
        → WordFormed there (as_scope scope') a
    word_formed (Var x) c f = c x.0 (among_first x.0 []) f
    word_formed (Lit k) c f = f
    word_formed (Global i) c f = f
    word_formed (TagWord t) c f = f

    pub words_formed : (ws : List W.Word) → Carries (used_in_words ws)
        → AllOf (WordFormed g scope) ws → AllOf (WordFormed there (as_scope scope')) ws
    words_formed [] c f = tt
    words_formed (a ∷ ws) c f = (
      word_formed a (covers_left (Carried scope scope') (used_in_word a) (used_in_words ws) c)
          f.0,
      words_formed ws
          (covers_right (Carried scope scope') (used_in_word a) (used_in_words ws) c) f.1,
    )

    pub val_formed : (v : V.Val) → NoNodeVar v → Carries (used_in_val v) → ValFormed g scope v
        → ValFormed there (as_scope scope') v
    val_formed (NodeVar x) n c f = absurd n
    val_formed (Node t ws) n c f = (f.0, words_formed ws c f.1)
    val_formed (Vector ws) n c f = words_formed ws c f
    val_formed (One a) n c f = word_formed a c f

    pub cells_formed : (cs : List Cell) → AllOf (λ c. NoNodeVar c.val) cs
        → Carries (used_in_cells cs) → AllOf (CellFormed g scope) cs
        → AllOf (CellFormed there (as_scope scope')) cs
    cells_formed [] n c f = tt
    cells_formed (x ∷ cs) n c f = (
      val_formed x.val n.0
          (covers_left (Carried scope scope') (used_in_val x.val) (used_in_cells cs) c) f.0,
      cells_formed cs n.1
          (covers_right (Carried scope scope') (used_in_val x.val) (used_in_cells cs) c) f.1,
    )

  bind_formed : (scope : Scope) (scope' : List ℕ) (t : Target) (o : Act) (b : Code) → NoNodeTarget t
      → CodeFormed g (with_target t scope) b
      → (Covers (Carried scope scope') (used_in_act (without_idle_act o))
      → ActFormed there (as_scope scope') (without_idle_act o))
      → ((s : Scope) (s' : List ℕ) → Covers (Carried s s') (used_in_code (without_idle_code b))
      → CodeFormed g s b → CodeFormed there (as_scope s') (without_idle_code b))
      → (q : Bool) → is_idle t o (used_in_code (without_idle_code b)) ≡ q
      → Covers (Carried scope scope')
      (used_in_code (unless q (bind t (without_idle_act o)) (without_idle_code b)))
      → CodeFormed there (as_scope scope')
      (unless q (bind t (without_idle_act o)) (without_idle_code b))
  unfolding used_in_act ActFormed
  bind_formed scope scope' t o b nt fb f kk false e cov = (
    f (covers_right (Carried scope scope') (used_in_code (without_idle_code b))
        (used_in_act (without_idle_act o)) cov),
    subst (λ s. CodeFormed there s (without_idle_code b))
        (sym (target_scope t (as_scope scope') nt))
        (kk (with_word_variables (target_vars t) scope) (target_vars t ++ scope')
        (λ x h. carried_more (target_vars t) scope scope' x
        (covers_left (Carried scope scope') (used_in_code (without_idle_code b))
        (used_in_act (without_idle_act o)) cov x h))
        (subst (λ s. CodeFormed g s b) (target_scope t scope nt) fb)),
  )
  bind_formed scope scope' t o b nt fb f kk true e cov =
      kk (with_word_variables (target_vars t) scope) scope'
      (carried_past (target_vars t) (used_in_code (without_idle_code b)) scope scope'
      (and_right (has_no_effect o)
      (are_disjoint (target_vars t) (used_in_code (without_idle_code b))) e) cov)
      (subst (λ s. CodeFormed g s b) (target_scope t scope nt) fb)

  mutual
    unfolding without_idle_act used_in_act ActFormed EachAct

    act_formed : (o : Act) (scope : Scope) (scope' : List ℕ)
        → Covers (Carried scope scope') (used_in_act (without_idle_act o)) → ActFormed g scope o
        → EachAct vectorised_kind o → ActFormed there (as_scope scope') (without_idle_act o)
    act_formed (case v as') scope scope' c f n = (
      val_formed scope scope' v n.1
          (covers_left (Carried scope scope') (used_in_val v) (used_in_arms (without_idle_arms as'))
          c) f.0,
      arms_formed as' scope scope'
          (covers_right (Carried scope scope') (used_in_val v) (used_in_arms (without_idle_arms as'))
          c) f.1 n.2,
    )
    act_formed (nested b) scope scope' c f n = code_formed b scope scope' c f n.1
    act_formed (leaf (unit v)) scope scope' c f n = val_formed scope scope' v n.1 c f
    act_formed (leaf (fetch a)) scope scope' c f n = word_formed scope scope' a c f
    act_formed (leaf (fetch_word a i)) scope scope' c f n = word_formed scope scope' a c f
    act_formed (leaf (update a v)) scope scope' c f n
        = (
          word_formed scope scope' a
              (covers_left (Carried scope scope') (used_in_word a) (used_in_val v) c) f.0,
          val_formed scope scope' v n.1
              (covers_right (Carried scope scope') (used_in_word a) (used_in_val v) c) f.1,
        )
    act_formed (leaf (eval a)) scope scope' c f n = word_formed scope scope' a c f
    act_formed (leaf (apply v a)) scope scope' c f n
        = (
          val_formed scope scope' v n.1
              (covers_left (Carried scope scope') (used_in_val v) (used_in_word a) c) f.0,
          word_formed scope scope' a
              (covers_right (Carried scope scope') (used_in_val v) (used_in_word a) c) f.1,
        )
    act_formed (leaf (call p ws)) scope scope' c f n
        = (known_again g procs same_count p f.0, words_formed scope scope' ws c f.1)
    act_formed (leaf (prim p a b)) scope scope' c f n
        = (
          word_formed scope scope' a
              (covers_left (Carried scope scope') (used_in_word a) (used_in_word b) c) f.0,
          word_formed scope scope' b
              (covers_right (Carried scope scope') (used_in_word a) (used_in_word b) c) f.1,
        )
    act_formed (leaf read) scope scope' c f n = tt
    act_formed (leaf (write a)) scope scope' c f n = word_formed scope scope' a c f
    act_formed (leaf fail) scope scope' c f n = tt

    code_formed : (b : Code) (scope : Scope) (scope' : List ℕ)
        → Covers (Carried scope scope') (used_in_code (without_idle_code b)) → CodeFormed g scope b
        → EachCode vectorised_kind b → CodeFormed there (as_scope scope') (without_idle_code b)
    code_formed (end o) scope scope' c f n = act_formed o scope scope' c f n
    code_formed (store cs b) scope scope' c f n = (
      cells_formed (with_word_variables (cell_vars cs) scope) (cell_vars cs ++ scope') cs n.0
          (λ x h. carried_more (cell_vars cs) scope scope' x
          (covers_right (Carried scope scope') (used_in_code (without_idle_code b))
          (used_in_cells cs) c x h)) f.0,
      code_formed b (with_word_variables (cell_vars cs) scope) (cell_vars cs ++ scope')
          (λ x h. carried_more (cell_vars cs) scope scope' x
          (covers_left (Carried scope scope') (used_in_code (without_idle_code b))
          (used_in_cells cs) c x h)) f.1 n.1,
    )
    code_formed (bind t o b) scope scope' c f n = bind_formed scope scope' t o b n.0 f.1
        (λ d. act_formed o scope scope' d f.0 n.1) (λ s s' d fb. code_formed b s s' d fb n.2)
        (is_idle t o (used_in_code (without_idle_code b))) refl c

    arms_formed : (as' : Arms) (scope : Scope) (scope' : List ℕ)
        → Covers (Carried scope scope') (used_in_arms (without_idle_arms as'))
        → ArmsFormed g scope as' → EachArms vectorised_kind as'
        → ArmsFormed there (as_scope scope') (without_idle_arms as')
    arms_formed no_arm scope scope' c f n = tt
    arms_formed (arm s b as') scope scope' c f n = (
      shape_stays g procs same_count s f.0,
      code_formed b (with_word_variables (shape_vars s) scope) (shape_vars s ++ scope')
          (λ x h. carried_more (shape_vars s) scope scope' x
          (covers_left (Carried scope scope') (used_in_code (without_idle_code b))
          (used_in_arms (without_idle_arms as')) c x h)) f.1 n.1,
      arms_formed as' scope scope'
          (covers_right (Carried scope scope') (used_in_code (without_idle_code b))
          (used_in_arms (without_idle_arms as')) c) f.2 n.2,
    )

  bodies_formed : (qs : List Procedure) → AllOf (ProcedureFormed g) qs
      → EveryBodyIsOfKind vectorised_kind qs → AllOf (ProcedureFormed there)
      (map (rewritten_procedure without_idle_code) qs)
  bodies_formed [] f n = tt
  bodies_formed (q ∷ qs) f n = (
    code_formed q.body (params_scope q) (numbers_of q.params) (λ x h i. i) f.0 n.0,
    bodies_formed qs f.1 n.1,
  )

pub lean_formed : (g : Program) → Formed g → EveryBodyIsOfKind vectorised_kind g.procs
    → Formed (lean g)
lean_formed g f n =
    let procs : List Procedure = map (rewritten_procedure without_idle_code) g.procs in
    let many : length procs ≡ length g.procs = length-map g.procs
    (rewritten_procedure without_idle_code) in
    formed_with g procs many f
    (λ y. (let c : times y (procs_vars procs) ≤ times y (procs_vars g.procs)
    = procs_counts y g.procs in let o : times y (procs_vars g.procs) ≤ 1 = f.variables_once y
    in omega (arith, c, o)))
    (same_sites g procs many (sites_stay g.procs) f.sites_once)
    (bodies_formed g procs many g.procs f.procedures n) (
      rewritten_procedure without_idle_code f.start.0,
      (
        slice_get-map (rewritten_procedure without_idle_code) g.procs g.start.0 ∙ ap
            (option_map (rewritten_procedure without_idle_code)) f.start.1,
        f.start.2,
      ),
    )
