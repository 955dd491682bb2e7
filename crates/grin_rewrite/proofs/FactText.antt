-- What holds of the text of a program that is rewritten by what is known at each place, where words
-- alone change but for cases.
use Rattle.std.proofs.Common.{◌≡◌, ℕ, ◌+◌, ◌≤◌, ◌*◌, List, [], ◌∷◌, ◌++◌, map, length, refl, sym, ap, ◌∙◌, subst, arith}
use Rattle.std.proofs.lemmas.List.{length-map}
use Rattle.std.proofs.lemmas.Option.{slice_get-map}
use Rattle.std.specs.Option.{option_map}
use Rattle.grin_syntax.specs.declared.program.Cell.{Cell}
use Rattle.grin_syntax.specs.declared.program.Shape.{Shape}
use Rattle.grin_syntax.specs.declared.program.Target.{Target}
use Rattle.grin_syntax.specs.declared.program.Val.{Val}
use Rattle.grin_syntax.specs.declared.program.Val.TheVariants.{NodeVar, Node, Vector, One}
use Rattle.grin_syntax.specs.declared.program.Word.{Word}
use Rattle.grin_syntax.specs.Tree.{Code, store, Act, Leaf, leaf, unit, fetch, fetch_word, update, eval, apply, call, prim, read, write, fail, case, Arms, Procedure, Program, no_arm, arm}
use Rattle.grin_syntax.specs.Binders.{numbers_of, shape_vars, cell_vars, code_vars, code_sites, procs_vars, procs_sites, program_sites}
use Rattle.grin_syntax.specs.Formed.{AllOf, Scope, with_word_variables, with_target, params_scope, WordFormed, ValFormed, CellFormed, ShapeFormed, ActFormed, CodeFormed, ArmsFormed, ProcedureFormed, Formed}
use Rattle.grin_syntax.specs.SameOutside.{names_of, DifferOnlyInBodies}
use Rattle.grin_syntax.proofs.Scopes.{with_procs, formed_with}
use Rattle.grin_meaning.specs.Ready.{EachAct, EachCode, EachArms, EveryBodyIsOfKind, NarrowCode, PieceKind}
use Rattle.grin_meaning.specs.Rewritten.{rewritten_procedure, rewritten}
use Rattle.grin_meaning.specs.Slim.{Slim, code_weight, code_calls, code_words, procs_weight, procs_calls, procedure_words}
use Rattle.pass_ground.specs.OpenUpdates.{code_update_sum, procs_update_sum}
use Rattle.seq.specs.Lists.{times}
use Rattle.seq.proofs.Counted.{times_fewer, times_append}
use Rattle.grin_rewrite.specs.WithFacts.{WithFacts, walk_act, walk_code}
use Rattle.grin_rewrite.specs.ByWords.{words_by, val_by, cells_by, leaf_by}
use Rattle.grin_rewrite.proofs.Text.{code_again}
use Rattle.grin_rewrite.proofs.Walked.{Relating, act_walked, code_walked}
use Rattle.grin_rewrite.proofs.KeptByWords.{FewerArms, none, keeps, leaves, Kept, cells_bind, vars_kept, sites_kept, weight_kept, as_heavy, calls_kept, words_kept, updates_kept, Blind, each_kept, results_kept}

-- the patterns of alternatives are of the kind
abbrev pub Patterns : PieceKind → Arms → Type 0
Patterns K no_arm = Unit {0}
Patterns K (arm s b as') = K.pattern (shape_vars s) × Patterns K as'

-- alternatives that are left stay well formed
pub fewer_formed : (g : Program) (scope : Scope) {as' bs' : Arms} → FewerArms as' bs'
    → ArmsFormed g scope as' → ArmsFormed g scope bs'
unfolding ActFormed
fewer_formed g scope none h = tt
fewer_formed g scope (keeps s b as' bs' k) h = (h.0, h.1, fewer_formed g scope k h.2)
fewer_formed g scope (leaves s b as' bs' k) h = fewer_formed g scope k h.2

module _ {F : Type 0} (R : WithFacts F) (word : F → Word → Word) where
  -- words alone change, but for cases
  pub record ByWords : Type 0 where
    pub leafs : (f : F) (l : Leaf) → R.leaf_becomes f l ≡ leaf (leaf_by (word f) l)
    pub values : (f : F) (v : Val) → R.value_becomes f v ≡ val_by (word f) v
    pub cells : (f : F) (cs : List Cell) → R.cells_become f cs ≡ cells_by (word f) cs

  abbrev pub CasesKeep : Kept → Type 0
  CasesKeep q = (f : F) (v v' : Val) (as' bs' : Arms) → q.value v v' → q.arms as' bs'
      → q.act (case v as') (R.case_becomes f v' bs')

  abbrev pub ValuesKeep : Kept → Type 0
  ValuesKeep q = (f : F) (v : Val) → q.value v (val_by (word f) v)

  module _ (by : ByWords) (q : Kept) (cases : CasesKeep q) (values : ValuesKeep q) where
    kept_relating : Relating R
    kept_relating = record {
      act = λ f scope. q.act;
      code = λ f scope. q.code;
      arms = λ f scope v. q.arms;
      leafs = λ f scope l. subst (q.act (leaf l)) (sym (by.leafs f l))
          (q.leafs (word f) l (values f));
      cases = λ f scope v as' bs' h. cases f v (R.value_becomes f v) as' bs'
          (subst (q.value v) (sym (by.values f v)) (values f v)) h;
      blocks = λ f scope b b' h. q.blocks b b' h;
      ends = λ f scope o o' h. q.ends o o' h;
      stores = λ f scope cs b b' h. subst (λ cs'. q.code (store cs b) (store cs' b'))
          (sym (by.cells f cs)) (q.stores (word f) cs b b' (values f) h);
      binds = λ f scope t o b b' h k. q.binds t o (walk_act R f o) b b' h k;
      none_left = λ f scope v. q.none_left;
      more = λ f scope v s b b' as' bs' h k. q.more s b b' as' bs' h k;
    }

    pub kept : (f : F) (b : Code) → q.code b (walk_code R f b)
    unfolding kept_relating
    kept f b = code_walked R kept_relating b f (record { nodes = []; words = [] })

  module _ (start : F) where
    abbrev pub change : Procedure → Procedure
    change = rewritten_procedure (walk_code R start)

    abbrev pub procs_by : List Procedure → List Procedure
    procs_by qs = map change qs

    names_stay : (qs : List Procedure) → names_of (procs_by qs) ≡ names_of qs
    names_stay [] = refl
    names_stay (q ∷ qs) = ap (λ ns. q.name ∷ ns) (names_stay qs)

    pub walked_outside : (g : Program) → DifferOnlyInBodies g (rewritten (walk_code R start) g)
    walked_outside g = record {
      same_tags = refl;
      same_globals = refl;
      same_start = refl;
      same_argument = refl;
      same_names
          = names_stay g.procs;
    }

    pub params_stay : (most : ℕ) (qs : List Procedure) → AllOf (λ q. length q.params ≤ most) qs
        → AllOf (λ q. length q.params ≤ most) (procs_by qs)
    params_stay most [] h = tt
    params_stay most (q ∷ qs) h = (h.0, params_stay most qs h.1)

    module _ (by : ByWords) where
      module _ (K : PieceKind) (blind : Blind K) (cases : CasesKeep (each_kept K blind))
          (values : ValuesKeep (each_kept K blind)) where
        pub bodies_each : (qs : List Procedure) → EveryBodyIsOfKind K qs
            → EveryBodyIsOfKind K (procs_by qs)
        unfolding each_kept
        bodies_each [] h = tt
        bodies_each (q ∷ qs) h =
            (kept by (each_kept K blind) cases values start q.body h.0, bodies_each qs h.1)

      module _ (width most : ℕ) (cases : CasesKeep (results_kept width most)) where
        pub bodies_give : (qs : List Procedure) → AllOf (λ q. NarrowCode width most q.body) qs
            → AllOf (λ q. NarrowCode width most q.body) (procs_by qs)
        unfolding results_kept
        bodies_give [] h = tt
        bodies_give (q ∷ qs) h = (
          kept by (results_kept width most) cases (λ f v. tt) start q.body h.0,
          bodies_give qs h.1,
        )

      module _ (count : Val → ℕ) (cases : CasesKeep (updates_kept count))
          (values : ValuesKeep (updates_kept count)) where
        pub updates_fewer : (qs : List Procedure) → procs_update_sum count (procs_by qs) ≤
            procs_update_sum count qs
        unfolding updates_kept
        updates_fewer [] = omega arith
        updates_fewer (q ∷ qs) = let h : code_update_sum count (walk_code R start q.body) ≤
            code_update_sum count q.body = kept by (updates_kept count) cases values start q.body
            in let k : procs_update_sum count (procs_by qs) ≤ procs_update_sum count qs
            = updates_fewer qs in omega (arith, h, k)

      module _ (cases : (q : Kept) → CasesKeep q) where
        vars_fewer : (y : ℕ) (qs : List Procedure) → times y (procs_vars (procs_by qs)) ≤ times y
            (procs_vars qs)
        unfolding vars_kept
        vars_fewer y [] = omega arith
        vars_fewer y (q ∷ qs) = times_fewer y
            (numbers_of q.params ++ code_vars (walk_code R start q.body)) (procs_vars (procs_by qs))
            (numbers_of q.params ++ code_vars q.body) (procs_vars qs)
            (times_fewer y (numbers_of q.params) (code_vars (walk_code R start q.body))
            (numbers_of q.params) (code_vars q.body) (omega arith)
            (kept by (vars_kept y) (cases (vars_kept y)) (λ f v. tt) start q.body))
            (vars_fewer y qs)

        sites_fewer : (y : ℕ) (qs : List Procedure)
            → times y (procs_sites (procs_by qs)) ≤ times y (procs_sites qs)
        unfolding sites_kept
        sites_fewer y [] = omega arith
        sites_fewer y (q ∷ qs) = times_fewer y (code_sites (walk_code R start q.body))
            (procs_sites (procs_by qs)) (code_sites q.body) (procs_sites qs)
            (kept by (sites_kept y) (cases (sites_kept y)) (λ f v. tt) start q.body)
            (sites_fewer y qs)

        lighter : (qs : List Procedure) → procs_weight (procs_by qs) ≤ procs_weight qs
        unfolding weight_kept
        lighter [] = omega arith
        lighter (q ∷ qs) = let h : code_weight (walk_code R start q.body) ≤ code_weight q.body
            = kept by weight_kept (cases weight_kept) (λ f v. as_heavy (word f) v) start q.body
            in let k : procs_weight (procs_by qs) ≤ procs_weight qs = lighter qs
            in omega (arith, h, k)

        calls_fewer : (qs : List Procedure) → procs_calls (procs_by qs) ≤ procs_calls qs
        unfolding calls_kept
        calls_fewer [] = omega arith
        calls_fewer (q ∷ qs) = let h : code_calls (walk_code R start q.body) ≤ code_calls q.body
            = kept by calls_kept (cases calls_kept) (λ f v. tt) start q.body in let k
            : procs_calls (procs_by qs) ≤ procs_calls qs = calls_fewer qs in omega (arith, h, k)

        words_fewer : (most : ℕ) (qs : List Procedure) → AllOf (λ q. procedure_words q ≤ most) qs
            → AllOf (λ q. procedure_words q ≤ most) (procs_by qs)
        unfolding words_kept
        words_fewer most [] h = tt
        words_fewer most (q ∷ qs) h = let k : code_words (walk_code R start q.body) ≤ code_words
            q.body = kept by words_kept (cases words_kept) (λ f v. tt) start q.body in let l
            : length q.params + code_words q.body ≤ most = h.0
            in (omega (arith, k, l), words_fewer most qs h.1)

        pub walked_slim : (g : Program) (size most : ℕ) → Slim size most g
            → Slim size most (rewritten (walk_code R start) g)
        walked_slim g size most s = record {
          light = let l : procs_weight (procs_by g.procs) ≤ procs_weight g.procs = lighter g.procs
              in let k : procs_weight g.procs ≤ 48 * size = s.light in omega (arith, l, k);
          few_calls = let l : procs_calls (procs_by g.procs) ≤ procs_calls g.procs
              = calls_fewer g.procs in let k : procs_calls g.procs ≤ size = s.few_calls
              in omega (arith, l, k);
          few_words = words_fewer (20 * most) g.procs s.few_words;
        }

        pub vars_once : (g : Program) → Formed g → (y : ℕ)
            → times y (procs_vars (procs_by g.procs)) ≤ 1
        vars_once g f y = let h : times y (procs_vars (procs_by g.procs)) ≤ times y
            (procs_vars g.procs) = vars_fewer y g.procs in let k : times y (procs_vars g.procs) ≤ 1
            = f.variables_once y in omega (arith, h, k)

        pub sites_once : (g : Program) (same_many : length (procs_by g.procs) ≡ length g.procs)
            → Formed g → (s : ℕ) → times s
            (program_sites (with_procs g (procs_by g.procs) same_many)) ≤ 1
        sites_once g same_many f s =
            let h : times s (procs_sites (procs_by g.procs)) ≤ times s (procs_sites g.procs)
            = sites_fewer s g.procs in
            let k : times s (map (λ c. c.site.0) g.globals ++ procs_sites g.procs) ≤ 1
            = f.sites_once s in
            let e : times s (map (λ c. c.site.0) g.globals ++ procs_sites g.procs) ≡ times s
            (map (λ c. c.site.0) g.globals) + times s (procs_sites g.procs)
            = times_append s (map (λ c. c.site.0) g.globals) (procs_sites g.procs) in
            let l : times s (map (λ c. c.site.0) g.globals ++ procs_sites (procs_by g.procs)) ≡
            times s (map (λ c. c.site.0) g.globals) + times s (procs_sites (procs_by g.procs))
            = times_append s (map (λ c. c.site.0) g.globals) (procs_sites (procs_by g.procs)) in
            omega (arith, h, k, e, l)

  -- ---- well formed programs

  module _ (g : Program) (start : F) (K : PieceKind) where
    -- what holds of what is known at a place, by the variables in scope there
    pub record Places : Type 1 where
      pub Place : F → Scope → Type 0
      pub begins : (scope : Scope) → Place start scope
      pub stores : (f : F) (scope : Scope) (xs : List ℕ) → Place f scope
          → Place f (with_word_variables xs scope)
      pub after : (f : F) (scope : Scope) (t : Target) (o : Act) → ActFormed g scope o
          → Place f scope → Place (R.after f t o) (with_target t scope)
      pub inside : (f : F) (scope : Scope) (v : Val) (s : Shape) → ValFormed g scope v
          → ShapeFormed g s → Place f scope → Place (R.inside f v s) scope
      pub words : (f : F) (scope : Scope) → Place f scope → (a : Word) → WordFormed g scope a
          → WordFormed g scope (word f a)
      pub cases : (f : F) (scope : Scope) (v : Val) (as' : Arms) → ValFormed g scope v
          → Patterns K as' → ArmsFormed g scope as' → ActFormed g scope (R.case_becomes f v as')

    module _ (by : ByWords) (p : Places) where
      module _ (f : F) (scope : Scope) (at : p.Place f scope) where
        words_formed : (ws : List Word) → AllOf (WordFormed g scope) ws
            → AllOf (WordFormed g scope) (words_by (word f) ws)
        words_formed [] h = tt
        words_formed (a ∷ ws) h = (p.words f scope at a h.0, words_formed ws h.1)

        pub val_formed : (v : Val) → ValFormed g scope v → ValFormed g scope (val_by (word f) v)
        val_formed (NodeVar x) h = h
        val_formed (Node t ws) h = (h.0, words_formed ws h.1)
        val_formed (Vector ws) h = words_formed ws h
        val_formed (One a) h = p.words f scope at a h

        cells_formed : (cs : List Cell) → AllOf (CellFormed g scope) cs
            → AllOf (CellFormed g scope) (cells_by (word f) cs)
        cells_formed [] h = tt
        cells_formed (c ∷ cs) h = (val_formed c.val h.0, cells_formed cs h.1)

        leaf_formed : (l : Leaf) → ActFormed g scope (leaf l)
            → ActFormed g scope (leaf (leaf_by (word f) l))
        unfolding ActFormed
        leaf_formed (unit v) h = val_formed v h
        leaf_formed (update a v) h = (p.words f scope at a h.0, val_formed v h.1)
        leaf_formed (apply v a) h = (val_formed v h.0, p.words f scope at a h.1)
        leaf_formed (call q ws) h = (h.0, words_formed ws h.1)
        leaf_formed (prim q a b) h = (p.words f scope at a h.0, p.words f scope at b h.1)
        leaf_formed (fetch a) h = p.words f scope at a h
        leaf_formed (fetch_word a i) h = p.words f scope at a h
        leaf_formed (eval a) h = p.words f scope at a h
        leaf_formed (write a) h = p.words f scope at a h
        leaf_formed read h = tt
        leaf_formed fail h = tt

        pub new_val_formed : (v : Val) → ValFormed g scope v
            → ValFormed g scope (R.value_becomes f v)
        new_val_formed v h = subst (ValFormed g scope) (sym (by.values f v)) (val_formed v h)

      stores_formed : (f : F) (scope : Scope) (cs : List Cell) (b' : Code)
          → p.Place f (with_word_variables (cell_vars cs) scope)
          → AllOf (CellFormed g (with_word_variables (cell_vars cs) scope)) cs
          → CodeFormed g (with_word_variables (cell_vars cs) scope) b'
          → CodeFormed g scope (store (R.cells_become f cs) b')
      unfolding ActFormed
      stores_formed f scope cs b' at h k = subst (λ cs'. CodeFormed g scope (store cs' b'))
          (sym (by.cells f cs))
          (subst (λ xs. AllOf (CellFormed g (with_word_variables xs scope)) (cells_by (word f) cs)
          × CodeFormed g (with_word_variables xs scope) b') (sym (cells_bind (word f) cs))
          (cells_formed f (with_word_variables (cell_vars cs) scope) at cs h, k))

      formed_relating : Relating R
      unfolding ActFormed EachAct
      formed_relating = record {
        act = λ f scope o o'. p.Place f scope → EachAct K o → ActFormed g scope o
            → ActFormed g scope o';
        code = λ f scope b b'. p.Place f scope → EachCode K b → CodeFormed g scope b
            → CodeFormed g scope b';
        arms = λ f scope v as' bs'. p.Place f scope → ValFormed g scope v → EachArms K as'
            → ArmsFormed g scope as' → ArmsFormed g scope bs' × Patterns K bs';
        leafs = λ f scope l at k h. subst (ActFormed g scope) (sym (by.leafs f l))
            (leaf_formed f scope at l h);
        cases = λ f scope v as' bs' go at k h.
            let made : ArmsFormed g scope bs' × Patterns K bs'
            = go at (new_val_formed f scope at v h.0) k.2 h.1 in
            p.cases f scope (R.value_becomes f v) bs' (new_val_formed f scope at v h.0) made.1
            made.0;
        blocks = λ f scope b b' go at k h. go at k.1 h;
        ends = λ f scope o o' go. go;
        stores = λ f scope cs b b' go at k h. stores_formed f scope cs b'
            (p.stores f scope (cell_vars cs) at) h.0
            (go (p.stores f scope (cell_vars cs) at) k.1 h.1);
        binds = λ f scope t o b b' go later at k h.
            (go at k.1 h.0, later (p.after f scope t (walk_act R f o) (go at k.1 h.0) at) k.2 h.1);
        none_left = λ f scope v at fv k h. (tt, tt);
        more = λ f scope v s b b' as' bs' go later at fv k h.
            let made : ArmsFormed g scope bs' × Patterns K bs' = later at fv k.2 h.2 in (
              (
                h.0,
                go
                    (p.stores (R.inside f v s) scope (shape_vars s) (p.inside f scope v s fv h.0 at))
                    k.1 h.1,
                made.0,
              ),
              (k.0, made.1),
            );
      }

      pub act_formed : (o : Act) (f : F) (scope : Scope) → p.Place f scope → EachAct K o
          → ActFormed g scope o → ActFormed g scope (walk_act R f o)
      unfolding formed_relating
      act_formed o f scope = act_walked R formed_relating o f scope

      abbrev procs : List Procedure
      procs = procs_by start g.procs

      same_many : length procs ≡ length g.procs
      same_many = length-map g.procs (change start)

      bodies_formed : (qs : List Procedure) → EveryBodyIsOfKind K qs → AllOf (ProcedureFormed g) qs
          → AllOf (ProcedureFormed (with_procs g procs same_many)) (procs_by start qs)
      unfolding formed_relating
      bodies_formed [] k h = tt
      bodies_formed (q ∷ qs) k h = (
        code_again g procs same_many (params_scope q) (walk_code R start q.body)
            (code_walked R formed_relating q.body start (params_scope q) (p.begins (params_scope q))
            k.0 h.0),
        bodies_formed qs k.1 h.1,
      )

      pub walked_formed : ((q : Kept) → CasesKeep q) → EveryBodyIsOfKind K g.procs → Formed g
          → Formed (rewritten (walk_code R start) g)
      walked_formed cases k f = formed_with g procs same_many f (vars_once start by cases g f)
          (sites_once start by cases g same_many f) (bodies_formed g.procs k f.procedures) (
            change start f.start.0,
            (
              slice_get-map (change start) g.procs g.start.0 ∙ ap (option_map (change start)) f.start.1,
              f.start.2,
            ),
          )
