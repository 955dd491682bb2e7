-- A program without the cells of some sites is well formed.
use Rattle.std.proofs.Common.{◌≡◌, ℕ, ◌+◌, ◌<◌, ◌≤◌, Bool, true, false, cond, not, nat_eq, List, [], ◌∷◌, ◌++◌, map, length, refl, sym, ap, ◌∙◌, subst, arith}
use Rattle.std.specs.Prelude.{pos}
use Rattle.std.proofs.lemmas.List.{length-map}
use Rattle.std.proofs.lemmas.Option.{slice_get-map}
use Rattle.std.specs.Option.{option_map}
use Rattle.grin_syntax.specs.declared.program.Cell.{Cell}
use Rattle.grin_syntax.specs.declared.program.Target.{Target}
use Rattle.grin_syntax.specs.declared.program.Target.TheVariants as to
use Rattle.grin_syntax.specs.declared.program.Val.{Val}
use Rattle.grin_syntax.specs.declared.program.Val.TheVariants.{NodeVar, Node, Vector, One}
use Rattle.grin_syntax.specs.declared.program.Word.{Word}
use Rattle.grin_syntax.specs.declared.program.Word.TheVariants.{Lit, Var, Global, TagWord}
use Rattle.grin_syntax.specs.Tree.{Code, end, store, bind, Act, leaf, unit, fetch, fetch_word, update, eval, apply, call, prim, read, write, case, nested, fail, Arms, no_arm, arm, Procedure, Program}
use Rattle.grin_syntax.specs.Binders.{numbers_of, target_vars, shape_vars, cell_vars, act_vars, code_vars, arms_vars, procs_vars, act_sites, code_sites, arms_sites, procs_sites, program_sites}
use Rattle.grin_syntax.specs.Formed.{AllOf, Scope, InScope, with_word_variables, with_target, params_scope, WordFormed, ValFormed, CellFormed, Formed, ActFormed, CodeFormed, ArmsFormed, ProcedureFormed}
use Rattle.grin_syntax.specs.SameOutside.{DifferOnlyInBodies}
use Rattle.grin_syntax.proofs.Scopes.{with_procs, known_again, shape_stays, formed_with}
use Rattle.grin_meaning.specs.Rewritten.{rewritten_procedure}
use Rattle.flow_system.specs.Solution.{Solution}
use Rattle.seq.specs.Lists.{times}
use Rattle.seq.proofs.Counted.{times_fewer}
use Rattle.seq.proofs.Order.{eq_from}
use Rattle.seq.proofs.Truth.{not_both}
use Rattle.dead_store.specs.Without.{without_word, without_val, kept_cell, kept_cells, store_if_any, without_act, without_code, without_arms, without_procs, is_gone, without}
use Rattle.dead_store.proofs.Fine.{CellFine, ActFine, CodeFine, ArmsFine}
use Rattle.dead_store.proofs.Unique.{ProcFine}
use Rattle.dead_store.proofs.Gives.{names_stay}

module _ (stays gone : ℕ → Bool) where
  -- ---- no variable and no site is new

  module _ (y : ℕ) where
    -- of the numbers that the cells of a group have
    cells_fewer : (n : Cell → ℕ) → ((c : Cell) → n (kept_cell gone c) ≡ n c) → (cs : List Cell)
        → times y (map n (kept_cells stays gone cs)) ≤ times y (map n cs)
    cells_fewer n e [] = omega arith
    cells_fewer n e (c ∷ cs) = go (stays c.site.0) (cells_fewer n e cs)
      where
        go : (b : Bool) → times y (map n (kept_cells stays gone cs)) ≤ times y (map n cs)
            → times y
            (map n (cond b (kept_cell gone c ∷ kept_cells stays gone cs)
            (kept_cells stays gone cs))) ≤ times y (n c ∷ map n cs)
        go true l = subst
            (λ m. times y (m ∷ map n (kept_cells stays gone cs)) ≤ times y (n c ∷ map n cs))
            (sym (e c)) (omega (arith, l))
        go false l = omega (arith, l)

    store_vars : (cs : List Cell) (b : Code) → times y (code_vars (store_if_any cs b)) ≡ times y
        (cell_vars cs ++ code_vars b)
    unfolding act_vars
    store_vars [] b = refl
    store_vars (c ∷ cs) b = refl

    store_sites : (cs : List Cell) (b : Code) → times y (code_sites (store_if_any cs b)) ≡ times y
        (map (λ c. c.site.0) cs ++ code_sites b)
    unfolding act_sites
    store_sites [] b = refl
    store_sites (c ∷ cs) b = refl

    -- what is counted in the last part
    mutual
      unfolding without_act act_vars

      act_vars_fewer : (o : Act) → times y (act_vars (without_act stays gone o)) ≤ times y
          (act_vars o)
      act_vars_fewer (case v as') = arms_vars_fewer as'
      act_vars_fewer (nested b) = code_vars_fewer b
      act_vars_fewer (leaf (unit v)) = omega arith
      act_vars_fewer (leaf (fetch a)) = omega arith
      act_vars_fewer (leaf (fetch_word a i)) = omega arith
      act_vars_fewer (leaf (update a v)) = omega arith
      act_vars_fewer (leaf (eval a)) = omega arith
      act_vars_fewer (leaf (apply v a)) = omega arith
      act_vars_fewer (leaf (call f ws)) = omega arith
      act_vars_fewer (leaf (prim f a b)) = omega arith
      act_vars_fewer (leaf read) = omega arith
      act_vars_fewer (leaf (write a)) = omega arith
      act_vars_fewer (leaf fail) = omega arith

      code_vars_fewer : (b : Code) → times y (code_vars (without_code stays gone b)) ≤ times y
          (code_vars b)
      code_vars_fewer (end o) = act_vars_fewer o
      code_vars_fewer (store cs b) = subst (λ n. n ≤ times y (cell_vars cs ++ code_vars b))
          (sym (store_vars (kept_cells stays gone cs) (without_code stays gone b)))
          (times_fewer y (cell_vars (kept_cells stays gone cs))
          (code_vars (without_code stays gone b)) (cell_vars cs) (code_vars b)
          (cells_fewer (λ c. c.var.0) (λ c. refl) cs) (code_vars_fewer b))
      code_vars_fewer (bind t o b) =
          times_fewer y (target_vars t)
          (act_vars (without_act stays gone o) ++ code_vars (without_code stays gone b))
          (target_vars t) (act_vars o ++ code_vars b) (omega arith)
          (times_fewer y (act_vars (without_act stays gone o))
          (code_vars (without_code stays gone b)) (act_vars o) (code_vars b) (act_vars_fewer o)
          (code_vars_fewer b))

      arms_vars_fewer : (as' : Arms) → times y (arms_vars (without_arms stays gone as')) ≤ times y
          (arms_vars as')
      arms_vars_fewer no_arm = omega arith
      arms_vars_fewer (arm p b as') = times_fewer y (shape_vars p)
          (code_vars (without_code stays gone b) ++ arms_vars (without_arms stays gone as'))
          (shape_vars p) (code_vars b ++ arms_vars as') (omega arith)
          (times_fewer y (code_vars (without_code stays gone b))
          (arms_vars (without_arms stays gone as')) (code_vars b) (arms_vars as')
          (code_vars_fewer b) (arms_vars_fewer as'))

    mutual
      unfolding without_act act_sites

      act_sites_fewer : (o : Act) → times y (act_sites (without_act stays gone o)) ≤ times y
          (act_sites o)
      act_sites_fewer (case v as') = arms_sites_fewer as'
      act_sites_fewer (nested b) = code_sites_fewer b
      act_sites_fewer (leaf (unit v)) = omega arith
      act_sites_fewer (leaf (fetch a)) = omega arith
      act_sites_fewer (leaf (fetch_word a i)) = omega arith
      act_sites_fewer (leaf (update a v)) = omega arith
      act_sites_fewer (leaf (eval a)) = omega arith
      act_sites_fewer (leaf (apply v a)) = omega arith
      act_sites_fewer (leaf (call f ws)) = omega arith
      act_sites_fewer (leaf (prim f a b)) = omega arith
      act_sites_fewer (leaf read) = omega arith
      act_sites_fewer (leaf (write a)) = omega arith
      act_sites_fewer (leaf fail) = omega arith

      code_sites_fewer : (b : Code) → times y (code_sites (without_code stays gone b)) ≤ times y
          (code_sites b)
      code_sites_fewer (end o) = act_sites_fewer o
      code_sites_fewer (store cs b) = subst
          (λ n. n ≤ times y (map (λ c. c.site.0) cs ++ code_sites b))
          (sym (store_sites (kept_cells stays gone cs) (without_code stays gone b)))
          (times_fewer y (map (λ c. c.site.0) (kept_cells stays gone cs))
          (code_sites (without_code stays gone b)) (map (λ c. c.site.0) cs) (code_sites b)
          (cells_fewer (λ c. c.site.0) (λ c. refl) cs) (code_sites_fewer b))
      code_sites_fewer (bind t o b) =
          times_fewer y (act_sites (without_act stays gone o))
          (code_sites (without_code stays gone b)) (act_sites o) (code_sites b)
          (act_sites_fewer o) (code_sites_fewer b)

      arms_sites_fewer : (as' : Arms) → times y (arms_sites (without_arms stays gone as')) ≤ times y
          (arms_sites as')
      arms_sites_fewer no_arm = omega arith
      arms_sites_fewer (arm p b as') = times_fewer y (code_sites (without_code stays gone b))
          (arms_sites (without_arms stays gone as')) (code_sites b) (arms_sites as')
          (code_sites_fewer b) (arms_sites_fewer as')

    procs_vars_fewer : (qs : List Procedure) → times y (procs_vars (without_procs stays gone qs)) ≤
        times y (procs_vars qs)
    procs_vars_fewer [] = omega arith
    procs_vars_fewer (q ∷ qs) = times_fewer y
        (numbers_of q.params ++ code_vars (without_code stays gone q.body))
        (procs_vars (without_procs stays gone qs)) (numbers_of q.params ++ code_vars q.body)
        (procs_vars qs)
        (times_fewer y (numbers_of q.params) (code_vars (without_code stays gone q.body))
        (numbers_of q.params) (code_vars q.body) (omega arith) (code_vars_fewer q.body))
        (procs_vars_fewer qs)

    procs_sites_fewer : (qs : List Procedure) → times y (procs_sites (without_procs stays gone qs))
        ≤ times y (procs_sites qs)
    procs_sites_fewer [] = omega arith
    procs_sites_fewer (q ∷ qs) = times_fewer y (code_sites (without_code stays gone q.body))
        (procs_sites (without_procs stays gone qs)) (code_sites q.body) (procs_sites qs)
        (code_sites_fewer q.body) (procs_sites_fewer qs)

  -- ---- scopes

  -- the second has what the first has in scope, but for the variables of cells that leave
  record Fits (scope scope' : Scope) : Type 0 where
    pub nodes : (x : ℕ) → InScope scope.nodes x → InScope scope'.nodes x
    pub words : (x : ℕ) → InScope scope.words x → gone x ≡ false → InScope scope'.words x

  more_in : (xs ys zs : List ℕ) (x : ℕ) → (InScope ys x → InScope zs x) → InScope (xs ++ ys) x
      → InScope (xs ++ zs) x
  more_in [] ys zs x f h = f h
  more_in (z ∷ xs) ys zs x f h = go (nat_eq x z) h (more_in xs ys zs x f)
    where
      go : (b : Bool) → 0 < cond b 1 0 + times x (xs ++ ys)
          → (InScope (xs ++ ys) x → InScope (xs ++ zs) x) → 0 < cond b 1 0 + times x (xs ++ zs)
      go true k again = omega arith
      go false k again = let l : 0 < times x (xs ++ zs) = again (omega (arith, k))
          in omega (arith, l)

  fits_words : (xs : List ℕ) (scope scope' : Scope) → Fits scope scope'
      → Fits (with_word_variables xs scope) (with_word_variables xs scope')
  fits_words xs scope scope' w = record {
    nodes = w.nodes;
    words = λ x h n. more_in xs scope.words scope'.words x (λ k. w.words x k n)
        h;
  }

  fits_target : (t : Target) (scope scope' : Scope) → Fits scope scope'
      → Fits (with_target t scope) (with_target t scope')
  fits_target to.Nothing scope scope' w = w
  fits_target (to.Node x) scope scope' w = record {
    nodes = λ y h. more_in (x.0 ∷ []) scope.nodes scope'.nodes y (w.nodes y) h;
    words
        = w.words;
  }
  fits_target (to.One x) scope scope' w = fits_words (x.0 ∷ []) scope scope' w
  fits_target (to.Vector xs) scope scope' w = fits_words (numbers_of xs) scope scope' w

  abbrev VarFits : Cell → Type 0
  VarFits c = gone c.var.0 ≡ not (stays c.site.0)

  cells_in : (cs : List Cell) (ys zs : List ℕ) (x : ℕ) → AllOf VarFits cs → gone x ≡ false
      → (InScope ys x → InScope zs x) → InScope (cell_vars cs ++ ys) x
      → InScope (cell_vars (kept_cells stays gone cs) ++ zs) x
  cells_in [] ys zs x v n f h = f h
  cells_in (c ∷ cs) ys zs x v n f h = go (stays c.site.0) refl (nat_eq x c.var.0) refl h
      (cells_in cs ys zs x v.1 n f)
    where
      go : (s : Bool) → stays c.site.0 ≡ s → (b : Bool) → nat_eq x c.var.0 ≡ b
          → 0 < cond b 1 0 + times x (cell_vars cs ++ ys)
          → (InScope (cell_vars cs ++ ys) x → InScope (cell_vars (kept_cells stays gone cs) ++ zs)
          x)
          → InScope
          (cell_vars
          (cond s (kept_cell gone c ∷ kept_cells stays gone cs) (kept_cells stays gone cs))
          ++ zs) x
      go true q true e k again = subst
          (λ b. 0 < cond b 1 0 + times x (cell_vars (kept_cells stays gone cs) ++ zs)) (sym e)
          (omega arith)
      go true q false e k again = let l : 0 < times x (cell_vars (kept_cells stays gone cs) ++ zs)
          = again (omega (arith, k)) in omega (arith, l)
      go false q true e k again = not_both (gone x) (ap gone (eq_from x c.var.0 e) ∙ v.0 ∙ ap not q)
          n
      go false q false e k again = again (omega (arith, k))

  fits_cells : (cs : List Cell) (scope scope' : Scope) → AllOf VarFits cs → Fits scope scope'
      → Fits (with_word_variables (cell_vars cs) scope)
      (with_word_variables (cell_vars (kept_cells stays gone cs)) scope')
  fits_cells cs scope scope' v w = record {
    nodes = w.nodes;
    words = λ x h n. cells_in cs scope.words scope'.words x v n
        (λ k. w.words x k n) h;
  }

  module _ (p : Program) (procs : List Procedure) (same_count : length procs ≡ length p.procs) where
    abbrev after : Program
    after = with_procs p procs same_count

    module _ (scope scope' : Scope) (w : Fits scope scope') where
      word_formed : (a : Word) → WordFormed p scope a
          → WordFormed after scope' (without_word gone a)
      word_formed (Lit k) h = tt
      word_formed (Global i) h = h
      word_formed (TagWord t) h = h
      word_formed (Var x) h = go (gone x.0) refl
        where
          go : (b : Bool) → gone x.0 ≡ b → WordFormed after scope' (cond b (Lit (pos 0)) (Var x))
          go true e = tt
          go false e = w.words x.0 h e

      words_formed : (ws : List Word) → AllOf (WordFormed p scope) ws
          → AllOf (WordFormed after scope') (map (without_word gone) ws)
      words_formed [] h = tt
      words_formed (a ∷ ws) h = (word_formed a h.0, words_formed ws h.1)

      val_formed : (v : Val) → ValFormed p scope v → ValFormed after scope' (without_val gone v)
      val_formed (NodeVar x) h = w.nodes x.0 h
      val_formed (Node t ws) h = (h.0, words_formed ws h.1)
      val_formed (Vector ws) h = words_formed ws h
      val_formed (One a) h = word_formed a h

      cells_formed : (cs : List Cell) → AllOf (CellFormed p scope) cs
          → AllOf (CellFormed after scope') (kept_cells stays gone cs)
      cells_formed [] h = tt
      cells_formed (c ∷ cs) h = go (stays c.site.0) (val_formed c.val h.0) (cells_formed cs h.1)
        where
          go : (b : Bool) → ValFormed after scope' (without_val gone c.val)
              → AllOf (CellFormed after scope') (kept_cells stays gone cs)
              → AllOf (CellFormed after scope')
              (cond b (kept_cell gone c ∷ kept_cells stays gone cs) (kept_cells stays gone cs))
          go true v r = (v, r)
          go false v r = r

    store_formed : (scope : Scope) (cs : List Cell) (b : Code)
        → AllOf (CellFormed after (with_word_variables (cell_vars cs) scope)) cs
        → CodeFormed after (with_word_variables (cell_vars cs) scope) b
        → CodeFormed after scope (store_if_any cs b)
    unfolding ActFormed
    store_formed scope [] b h k = k
    store_formed scope (c ∷ cs) b h k = (h, k)

    module _ (A : Solution) (g : Program) where
      vars_fit : (cs : List Cell) → AllOf (CellFine A g stays gone) cs → AllOf VarFits cs
      vars_fit [] h = tt
      vars_fit (c ∷ cs) h = (h.0.0, vars_fit cs h.1)

      mutual
        unfolding without_act ActFormed ActFine

        act_formed : (scope scope' : Scope) → Fits scope scope' → (o : Act)
            → ActFine A g stays gone o → ActFormed p scope o
            → ActFormed after scope' (without_act stays gone o)
        act_formed scope scope' w (leaf (unit v)) ok h = val_formed scope scope' w v h
        act_formed scope scope' w (leaf (fetch a)) ok h = absurd ok
        act_formed scope scope' w (leaf (fetch_word a i)) ok h = word_formed scope scope' w a h
        act_formed scope scope' w (leaf (update a v)) ok h
            = (word_formed scope scope' w a h.0, val_formed scope scope' w v h.1)
        act_formed scope scope' w (leaf (eval a)) ok h = absurd ok
        act_formed scope scope' w (leaf (apply v a)) ok h = absurd ok
        act_formed scope scope' w (leaf (call f ws)) ok h
            = (known_again p procs same_count f h.0, words_formed scope scope' w ws h.1)
        act_formed scope scope' w (leaf (prim f a b)) ok h
            = (word_formed scope scope' w a h.0, word_formed scope scope' w b h.1)
        act_formed scope scope' w (leaf read) ok h = tt
        act_formed scope scope' w (leaf (write a)) ok h = word_formed scope scope' w a h
        act_formed scope scope' w (case v as') ok h
            = (val_formed scope scope' w v h.0, arms_formed scope scope' w as' ok.1 h.1)
        act_formed scope scope' w (nested b) ok h = code_formed scope scope' w b ok h
        act_formed scope scope' w (leaf fail) ok h = tt

        code_formed : (scope scope' : Scope) → Fits scope scope' → (b : Code)
            → CodeFine A g stays gone b → CodeFormed p scope b
            → CodeFormed after scope' (without_code stays gone b)
        code_formed scope scope' w (end o) ok h = act_formed scope scope' w o ok h
        code_formed scope scope' w (store cs b) ok h =
            let more : Fits (with_word_variables (cell_vars cs) scope)
            (with_word_variables (cell_vars (kept_cells stays gone cs)) scope')
            = fits_cells cs scope scope' (vars_fit cs ok.0) w in
            store_formed scope' (kept_cells stays gone cs) (without_code stays gone b)
            (cells_formed (with_word_variables (cell_vars cs) scope)
            (with_word_variables (cell_vars (kept_cells stays gone cs)) scope') more cs h.0)
            (code_formed (with_word_variables (cell_vars cs) scope)
            (with_word_variables (cell_vars (kept_cells stays gone cs)) scope') more b ok.1 h.1)
        code_formed scope scope' w (bind t o b) ok h
            = (
              act_formed scope scope' w o ok.1 h.0,
              code_formed (with_target t scope) (with_target t scope') (fits_target t scope scope' w)
                  b ok.2 h.1,
            )

        arms_formed : (scope scope' : Scope) → Fits scope scope' → (as' : Arms)
            → ArmsFine A g stays gone as' → ArmsFormed p scope as'
            → ArmsFormed after scope' (without_arms stays gone as')
        arms_formed scope scope' w no_arm ok h = tt
        arms_formed scope scope' w (arm s b as') ok h = (
          shape_stays p procs same_count s h.0,
          code_formed (with_word_variables (shape_vars s) scope)
              (with_word_variables (shape_vars s) scope') (fits_words (shape_vars s) scope scope' w)
              b ok.1 h.1,
          arms_formed scope scope' w as' ok.2 h.2,
        )

      bodies_formed : (qs : List Procedure) → AllOf (ProcFine A g stays gone) qs
          → AllOf (ProcedureFormed p) qs → AllOf (ProcedureFormed after)
          (without_procs stays gone qs)
      bodies_formed [] ok h = tt
      bodies_formed (q ∷ qs) ok h = (
        code_formed (params_scope q) (params_scope q)
            (record { nodes = λ x i. i; words = λ x i n. i }) q.body ok.0.body h.0,
        bodies_formed qs ok.1 h.1,
      )

module _ (A : Solution) (g : Program) (stays : ℕ → Bool) where
  abbrev gone : ℕ → Bool
  gone = is_gone stays g.procs

  pub without_formed : AllOf (ProcFine A g stays gone) g.procs → Formed g → Formed (without stays g)
  without_formed ok f =
      let procs : List Procedure = without_procs stays gone g.procs in
      let count : length procs ≡ length g.procs = length-map g.procs
      (rewritten_procedure (without_code stays gone)) in
      formed_with g procs count f
      (λ x. let o : times x (procs_vars g.procs) ≤ 1 = f.variables_once x in let l
      : times x (procs_vars procs) ≤ times x (procs_vars g.procs)
      = procs_vars_fewer stays gone x g.procs in omega (arith, o, l))
      (λ s.
      let o : times s (program_sites g) ≤ 1 = f.sites_once s in
      let l : times s (map (λ c. c.site.0) g.globals ++ procs_sites procs) ≤ times s
      (map (λ c. c.site.0) g.globals ++ procs_sites g.procs)
      = times_fewer s (map (λ c. c.site.0) g.globals) (procs_sites procs)
      (map (λ c. c.site.0) g.globals) (procs_sites g.procs) (omega arith)
      (procs_sites_fewer stays gone s g.procs) in
      omega (arith, o, l))
      (bodies_formed stays gone g procs count A g g.procs ok f.procedures) (
        rewritten_procedure (without_code stays gone) f.start.0,
        (
          slice_get-map (rewritten_procedure (without_code stays gone)) g.procs g.start.0 ∙ ap
              (option_map (rewritten_procedure (without_code stays gone))) f.start.1,
          f.start.2,
        ),
      )

  pub without_outside : DifferOnlyInBodies g (without stays g)
  without_outside = record {
    same_tags = refl;
    same_globals = refl;
    same_start = refl;
    same_argument = refl;
    same_names
        = names_stay stays gone g.procs;
  }
