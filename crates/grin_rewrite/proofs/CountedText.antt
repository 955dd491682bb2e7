-- What holds of the text of a program that is rewritten by a rule with fresh variables, from what
-- holds of an operation without a block.
use Rattle.std.proofs.Common.{◌≡◌, ℕ, zero, suc, ◌+◌, ◌<◌, ◌≤◌, Bool, true, false, nat_le, List, [], ◌∷◌, ◌++◌, map, length, Some, None, slice_get, refl, ap, ◌∙◌, arith}
use Rattle.std.proofs.lemmas.Bool.Decides.{nat_tests}
use Rattle.seq.specs.Lists.{times}
use Rattle.seq.proofs.Counted.{times_append}
use Rattle.grin_syntax.specs.declared.program.Target.{Target}
use Rattle.grin_syntax.specs.Tree.{Code, end, store, bind, Act, Leaf, leaf, unit, fetch, fetch_word, update, eval, apply, call, prim, read, write, case, nested, fail, Arms, no_arm, arm, Procedure, Program}
use Rattle.grin_syntax.specs.Binders.{numbers_of, target_vars, shape_vars, cell_vars, act_vars, code_vars, arms_vars, procs_vars, act_sites, code_sites, arms_sites, procs_sites}
use Rattle.grin_syntax.specs.Formed.{AllOf, Scope, with_word_variables, with_target, params_scope, ActFormed, CodeFormed, ArmsFormed, ProcedureFormed, Formed, argument_words}
use Rattle.grin_syntax.specs.Fresh.{past_procs}
use Rattle.grin_syntax.proofs.Counted.{fresh, fresh_below, fresh_once, fresh_split}
use Rattle.grin_syntax.proofs.Unbound.{past_procs_none}
use Rattle.grin_syntax.proofs.Scopes.{Within, within_self, within_chain, within_target, words_within, target_within, with_procs, word_stays, words_stay, val_stays, cells_stay, shape_stays, same_sites, formed_with}
use Rattle.grin_meaning.specs.Ready.{PieceKind, EachAct, EachCode, EachArms, EveryBodyIsOfKind}
use Rattle.grin_rewrite.specs.Counted.{bound_before, CountedRule, act_room, code_room, all_room, before_act, counted_act, counted_code, counted_all, counted_procs, counted}
use Rattle.grin_rewrite.proofs.Text.{Onward, act_again, all_values}

-- ---- operations that are bound before a block

abbrev pub before_vars : List (Target × Leaf) → List ℕ
before_vars [] = []
before_vars (s ∷ ss) = target_vars s.0 ++ before_vars ss

before_counted : (z : ℕ) (ss : List (Target × Leaf)) (c : Code)
    → times z (code_vars (bound_before ss c)) ≡ times z (before_vars ss) + times z (code_vars c)
unfolding act_vars
before_counted z [] c = omega arith
before_counted z (s ∷ ss) c = omega (
  arith,
  times_append z (target_vars s.0) (code_vars (bound_before ss c)),
  times_append z (target_vars s.0) (before_vars ss),
  before_counted z ss c,
)

before_sites : (ss : List (Target × Leaf)) (c : Code)
    → code_sites (bound_before ss c) ≡ code_sites c
unfolding act_sites
before_sites [] c = refl
before_sites (s ∷ ss) c = before_sites ss c

abbrev pub scope_after : List (Target × Leaf) → Scope → Scope
scope_after [] scope = scope
scope_after (s ∷ ss) scope = scope_after ss (with_target s.0 scope)

abbrev pub BeforeFormed : Program → Scope → List (Target × Leaf) → Type 0
BeforeFormed g scope [] = Unit {0}
BeforeFormed g scope (s ∷ ss) = ActFormed g scope (leaf s.1)
    × BeforeFormed g (with_target s.0 scope) ss

within_after : (ss : List (Target × Leaf)) (scope : Scope) → Within scope (scope_after ss scope)
within_after [] scope = within_self scope
within_after (s ∷ ss) scope = within_chain (within_target s.0 scope)
    (within_after ss (with_target s.0 scope))

abbrev pub BeforeEach : PieceKind → List (Target × Leaf) → Type 0
BeforeEach K [] = Unit {0}
BeforeEach K (s ∷ ss) = K.target s.0 × EachAct K (leaf s.1) × BeforeEach K ss

before_each : (K : PieceKind) (ss : List (Target × Leaf)) (c : Code) → BeforeEach K ss
    → EachCode K c → EachCode K (bound_before ss c)
unfolding EachAct
before_each K [] c h k = k
before_each K (s ∷ ss) c h k = (h.0, h.1, before_each K ss c h.2 k)

module _ (R : CountedRule) where
  -- ---- variables

  -- the fresh variables that procedures take
  abbrev pub procs_room : List Procedure → ℕ
  procs_room [] = 0
  procs_room (q ∷ qs) = code_room R q.body + procs_room qs

  -- each fresh variable is bound at most once
  abbrev pub BindsFresh : Type 0
  BindsFresh = (z x : ℕ) (l : Leaf) → times z (before_vars (R.before x l)) + times z
      (act_vars (R.becomes x l)) ≤ fresh z x (R.room l)

  module _ (binds : BindsFresh) (z : ℕ) where
    mutual
      unfolding counted_act act_room act_vars

      act_counted : (x : ℕ) (o : Act) → times z (before_vars (before_act R x o)) + times z
          (act_vars (counted_act R x o)) ≤ times z (act_vars o) + fresh z x (act_room R o)
      act_counted x (leaf l) = omega (arith, binds z x l)
      act_counted x (case v as') = omega (arith, all_counted x as')
      act_counted x (nested b) = omega (arith, code_counted x b)

      code_counted : (x : ℕ) (b : Code) → times z (code_vars (counted_code R x b)) ≤ times z
          (code_vars b) + fresh z x (code_room R b)
      code_counted x (end o) = omega
          (arith, before_counted z (before_act R x o) (end (counted_act R x o)), act_counted x o)
      code_counted x (store cs b) = omega (
        arith,
        times_append z (cell_vars cs) (code_vars (counted_code R x b)),
        times_append z (cell_vars cs) (code_vars b),
        code_counted x b,
      )
      code_counted x (bind t o b) =
          let y = x + act_room R o in
          omega (
            arith,
            before_counted z (before_act R x o) (bind t (counted_act R x o) (counted_code R y b)),
            times_append z (target_vars t)
                (act_vars (counted_act R x o) ++ code_vars (counted_code R y b)),
            times_append z (act_vars (counted_act R x o)) (code_vars (counted_code R y b)),
            times_append z (target_vars t) (act_vars o ++ code_vars b),
            times_append z (act_vars o) (code_vars b),
            act_counted x o,
            code_counted y b,
            fresh_split z x (act_room R o) (code_room R b),
          )

      all_counted : (x : ℕ) (as' : Arms) → times z (arms_vars (counted_all R x as')) ≤ times z
          (arms_vars as') + fresh z x (all_room R as')
      all_counted x no_arm = omega arith
      all_counted x (arm s b as') =
          let y = x + code_room R b in
          omega (
            arith,
            times_append z (shape_vars s)
                (code_vars (counted_code R x b) ++ arms_vars (counted_all R y as')),
            times_append z (code_vars (counted_code R x b)) (arms_vars (counted_all R y as')),
            times_append z (shape_vars s) (code_vars b ++ arms_vars as'),
            times_append z (code_vars b) (arms_vars as'),
            code_counted x b,
            all_counted y as',
            fresh_split z x (code_room R b) (all_room R as'),
          )

    pub procs_counted : (x : ℕ) (qs : List Procedure)
        → times z (procs_vars (counted_procs R x qs)) ≤ times z (procs_vars qs) + fresh z x
        (procs_room qs)
    procs_counted x [] = omega arith
    procs_counted x (q ∷ qs) =
        let y = x + code_room R q.body in
        let ps = numbers_of q.params in
        omega (
          arith,
          times_append z (ps ++ code_vars (counted_code R x q.body))
              (procs_vars (counted_procs R y qs)),
          times_append z ps (code_vars (counted_code R x q.body)),
          times_append z (ps ++ code_vars q.body) (procs_vars qs),
          times_append z ps (code_vars q.body),
          code_counted x q.body,
          procs_counted y qs,
          fresh_split z x (code_room R q.body) (procs_room qs),
        )

  -- where each variable was bound at one place, it still is
  pub vars_once : BindsFresh → (g : Program) → ((z : ℕ) → times z (procs_vars g.procs) ≤ 1)
      → (z : ℕ) → times z (procs_vars (counted R g).procs) ≤ 1
  vars_once binds g once z = go (nat_le (past_procs g.procs) z) refl
      (procs_counted binds z (past_procs g.procs) g.procs) (once z)
    where
      go : (b : Bool) → nat_le (past_procs g.procs) z ≡ b
          → times z (procs_vars (counted R g).procs) ≤ times z (procs_vars g.procs) + fresh z
          (past_procs g.procs) (procs_room g.procs)
          → times z (procs_vars g.procs) ≤ 1 → times z (procs_vars (counted R g).procs) ≤ 1
      go true q few h =
          let le : past_procs g.procs ≤ z = grind (arith, nat_tests) in
          omega (
            arith,
            past_procs_none z g.procs le,
            fresh_once z (past_procs g.procs) (procs_room g.procs),
          )
      go false q few h =
          let lt : z < past_procs g.procs = grind (arith, nat_tests) in
          omega (arith, fresh_below z (past_procs g.procs) (procs_room g.procs) lt)

  -- ---- sites

  abbrev pub HasNoSite : Type 0
  HasNoSite = (x : ℕ) (l : Leaf) → act_sites (R.becomes x l) ≡ []

  module _ (none : HasNoSite) where
    mutual
      unfolding counted_act act_sites

      act_sites_stay : (x : ℕ) (o : Act) → act_sites (counted_act R x o) ≡ act_sites o
      act_sites_stay x (leaf l) = none x l
      act_sites_stay x (case v as') = all_sites_stay x as'
      act_sites_stay x (nested b) = code_sites_stay x b

      code_sites_stay : (x : ℕ) (b : Code) → code_sites (counted_code R x b) ≡ code_sites b
      code_sites_stay x (end o) = before_sites (before_act R x o) _ ∙ act_sites_stay x o
      code_sites_stay x (store cs b) = ap (λ ss. map (λ c. c.site.0) cs ++ ss) (code_sites_stay x b)
      code_sites_stay x (bind t o b) = before_sites (before_act R x o) _ ∙
          (λ i. act_sites_stay x o i ++ code_sites_stay (x + act_room R o) b i)

      all_sites_stay : (x : ℕ) (as' : Arms) → arms_sites (counted_all R x as') ≡ arms_sites as'
      all_sites_stay x no_arm = refl
      all_sites_stay x (arm s b as') = λ i. code_sites_stay x b i
          ++ all_sites_stay (x + code_room R b) as' i

    pub sites_stay : (x : ℕ) (qs : List Procedure) → procs_sites (counted_procs R x qs) ≡
        procs_sites qs
    sites_stay x [] = refl
    sites_stay x (q ∷ qs) = λ i. code_sites_stay x q.body i
        ++ sites_stay (x + code_room R q.body) qs i

  -- ---- kinds

  module _ (K L : PieceKind) (on : Onward K L)
      (each : (x : ℕ) (l : Leaf) → EachAct K (leaf l) → BeforeEach L (R.before x l)
      × EachAct L (R.becomes x l)) where
    before_act_each : (x : ℕ) (o : Act) → EachAct K o → BeforeEach L (before_act R x o)
    before_act_each x (leaf l) h = (each x l h).0
    before_act_each x (case v as') h = tt
    before_act_each x (nested b) h = tt

    mutual
      unfolding counted_act EachAct

      act_each : (x : ℕ) (o : Act) → EachAct K o → EachAct L (counted_act R x o)
      act_each x (leaf l) h = (each x l h).1
      act_each x (case v as') h =
          (on.cases v as' (counted_all R x as') h.0, on.values v h.1, all_each x as' h.2)
      act_each x (nested b) h = (on.blocks b (counted_code R x b) h.0, code_each x b h.1)

      code_each : (x : ℕ) (b : Code) → EachCode K b → EachCode L (counted_code R x b)
      code_each x (end o) h = before_each L (before_act R x o) (end (counted_act R x o))
          (before_act_each x o h) (act_each x o h)
      code_each x (store cs b) h = (all_values K L on cs h.0, code_each x b h.1)
      code_each x (bind t o b) h =
          before_each L (before_act R x o)
          (bind t (counted_act R x o) (counted_code R (x + act_room R o) b))
          (before_act_each x o h.1)
          (on.targets t h.0, act_each x o h.1, code_each (x + act_room R o) b h.2)

      all_each : (x : ℕ) (as' : Arms) → EachArms K as' → EachArms L (counted_all R x as')
      all_each x no_arm h = tt
      all_each x (arm s b as') h =
          (on.patterns (shape_vars s) h.0, code_each x b h.1, all_each (x + code_room R b) as' h.2)

    pub bodies_each : (x : ℕ) (qs : List Procedure) → EveryBodyIsOfKind K qs
        → EveryBodyIsOfKind L (counted_procs R x qs)
    bodies_each x [] h = tt
    bodies_each x (q ∷ qs) h = (code_each x q.body h.0, bodies_each (x + code_room R q.body) qs h.1)

  pub params_stay : (most x : ℕ) (qs : List Procedure) → AllOf (λ q. length q.params ≤ most) qs
      → AllOf (λ q. length q.params ≤ most) (counted_procs R x qs)
  params_stay most x [] h = tt
  params_stay most x (q ∷ qs) h = (h.0, params_stay most (x + code_room R q.body) qs h.1)

  -- ---- well formed programs

  pub as_many : (x : ℕ) (qs : List Procedure) → length (counted_procs R x qs) ≡ length qs
  as_many x [] = refl
  as_many x (q ∷ qs) = ap suc (as_many (x + code_room R q.body) qs)

  same_start : (x : ℕ) (qs : List Procedure) (i k : ℕ) → (q : Procedure)
      × ((slice_get qs i ≡ Some q) × (length q.params ≡ k)) → (q : Procedure)
      × ((slice_get (counted_procs R x qs) i ≡ Some q) × (length q.params ≡ k))
  same_start x [] i k s = let e : None ≡ Some s.0 = s.1.0 in cc
  same_start x (q ∷ qs) zero k s = let e : Some q ≡ Some s.0 = s.1.0 in let d : q ≡ s.0 = cc
      in (record q { body = counted_code R x q.body }, (refl, ap (λ r. length r.params) d ∙ s.1.1))
  same_start x (q ∷ qs) (suc i) k s = same_start (x + code_room R q.body) qs i k s

  module _ (g : Program) where
    abbrev pub LeafFormed : Type 0
    LeafFormed = (x : ℕ) (scope : Scope) (l : Leaf) → ActFormed g scope (leaf l)
        → BeforeFormed g scope (R.before x l) × ActFormed g (scope_after (R.before x l) scope)
        (R.becomes x l)

    module _ (formed : LeafFormed) (procs : List Procedure)
        (same_count : length procs ≡ length g.procs) where
      abbrev there : Program
      there = with_procs g procs same_count

      -- where more is in scope
      leaf_within : (scope scope' : Scope) → Within scope scope' → (l : Leaf)
          → ActFormed g scope (leaf l) → ActFormed g scope' (leaf l)
      unfolding ActFormed
      leaf_within s s' w (unit v) h = val_stays g g.procs refl s s' w v h
      leaf_within s s' w (fetch a) h = word_stays g g.procs refl s s' w a h
      leaf_within s s' w (fetch_word a i) h = word_stays g g.procs refl s s' w a h
      leaf_within s s' w (update a v) h =
          (word_stays g g.procs refl s s' w a h.0, val_stays g g.procs refl s s' w v h.1)
      leaf_within s s' w (eval a) h = word_stays g g.procs refl s s' w a h
      leaf_within s s' w (apply v a) h =
          (val_stays g g.procs refl s s' w v h.0, word_stays g g.procs refl s s' w a h.1)
      leaf_within s s' w (call f ws) h = (h.0, words_stay g g.procs refl s s' w ws h.1)
      leaf_within s s' w (prim f a b) h =
          (word_stays g g.procs refl s s' w a h.0, word_stays g g.procs refl s s' w b h.1)
      leaf_within s s' w read h = tt
      leaf_within s s' w (write a) h = word_stays g g.procs refl s s' w a h
      leaf_within s s' w fail h = tt

      before_formed : (ss : List (Target × Leaf)) (scope : Scope) (c : Code)
          → BeforeFormed g scope ss → CodeFormed there (scope_after ss scope) c
          → CodeFormed there scope (bound_before ss c)
      unfolding ActFormed
      before_formed [] scope c h k = k
      before_formed (s ∷ ss) scope c h k = (
        act_again g procs same_count scope (leaf s.1) h.0,
        before_formed ss (with_target s.0 scope) c h.1 k,
      )

      before_act_formed : (x : ℕ) (o : Act) (scope scope' : Scope) → Within scope scope'
          → ActFormed g scope o → BeforeFormed g scope' (before_act R x o)
      before_act_formed x (leaf l) scope scope' w h
          = (formed x scope' l (leaf_within scope scope' w l h)).0
      before_act_formed x (case v as') scope scope' w h = tt
      before_act_formed x (nested b) scope scope' w h = tt

      mutual
        unfolding counted_act ActFormed

        act_formed : (x : ℕ) (o : Act) (scope scope' : Scope) → Within scope scope'
            → ActFormed g scope o → ActFormed there (scope_after (before_act R x o) scope')
            (counted_act R x o)
        act_formed x (leaf l) scope scope' w h =
            act_again g procs same_count (scope_after (R.before x l) scope') (R.becomes x l)
            (formed x scope' l (leaf_within scope scope' w l h)).1
        act_formed x (case v as') scope scope' w h =
            (val_stays g procs same_count scope scope' w v h.0, all_formed x as' scope scope' w h.1)
        act_formed x (nested b) scope scope' w h = code_formed x b scope scope' w h

        code_formed : (x : ℕ) (b : Code) (scope scope' : Scope) → Within scope scope'
            → CodeFormed g scope b → CodeFormed there scope' (counted_code R x b)
        code_formed x (end o) scope scope' w h =
            before_formed (before_act R x o) scope' (end (counted_act R x o))
            (before_act_formed x o scope scope' w h) (act_formed x o scope scope' w h)
        code_formed x (store cs b) scope scope' w h =
            let s : Scope = with_word_variables (cell_vars cs) scope in
            let s' : Scope = with_word_variables (cell_vars cs) scope' in
            let v : Within s s' = words_within (cell_vars cs) scope scope' w in
            (cells_stay g procs same_count s s' v cs h.0, code_formed x b s s' v h.1)
        code_formed x (bind t o b) scope scope' w h =
            let more : Scope = scope_after (before_act R x o) scope' in
            let y = x + act_room R o in
            before_formed (before_act R x o) scope'
            (bind t (counted_act R x o) (counted_code R y b))
            (before_act_formed x o scope scope' w h.0) (
              act_formed x o scope scope' w h.0,
              code_formed y b (with_target t scope)
                  (with_target t more)
                  (target_within t scope more
                  (within_chain w (within_after (before_act R x o) scope'))) h.1,
            )

        all_formed : (x : ℕ) (as' : Arms) (scope scope' : Scope) → Within scope scope'
            → ArmsFormed g scope as' → ArmsFormed there scope' (counted_all R x as')
        all_formed x no_arm scope scope' w h = tt
        all_formed x (arm s b as') scope scope' w h = (
          shape_stays g procs same_count s h.0,
          code_formed x b
              (with_word_variables (shape_vars s) scope)
              (with_word_variables (shape_vars s) scope')
              (words_within (shape_vars s) scope scope' w) h.1,
          all_formed (x + code_room R b) as' scope scope' w h.2,
        )

      bodies_formed : (x : ℕ) (qs : List Procedure) → AllOf (ProcedureFormed g) qs
          → AllOf (ProcedureFormed there) (counted_procs R x qs)
      bodies_formed x [] h = tt
      bodies_formed x (q ∷ qs) h = (
        code_formed x q.body (params_scope q) (params_scope q) (within_self (params_scope q))
            h.0,
        bodies_formed (x + code_room R q.body) qs h.1,
      )

    pub counted_formed : BindsFresh → HasNoSite → LeafFormed → Formed g → Formed (counted R g)
    counted_formed binds none formed f =
        let x = past_procs g.procs in
        let qs : List Procedure = counted_procs R x g.procs in
        let many : length qs ≡ length g.procs = as_many x g.procs in
        formed_with g qs many f (vars_once binds g f.variables_once)
        (same_sites g qs many (sites_stay none x g.procs) f.sites_once)
        (bodies_formed formed qs many x g.procs f.procedures)
        (same_start x g.procs g.start.0 (argument_words g.argument)
        (f.start.0, (f.start.1, f.start.2)))
