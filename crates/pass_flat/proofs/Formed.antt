-- A program without nested blocks is well formed.
use Rattle.std.proofs.Common.{◌≡◌, ℕ, ◌+◌, ◌≤◌, List, [], ◌∷◌, ◌++◌, map, length, refl, sym, ap, ◌∙◌, subst, arith}
use Rattle.std.proofs.lemmas.List.{length-map}
use Rattle.std.proofs.lemmas.Option.{slice_get-map}
use Rattle.std.specs.Option.{option_map}
use Rattle.seq.specs.Lists.{times}
use Rattle.seq.proofs.Counted.{times_append}
use Rattle.grin_syntax.specs.declared.program.Target.{Target}
use Rattle.grin_syntax.specs.Tree.{Code, end, store, bind, Act, leaf, unit, fetch, fetch_word, update, eval, apply, call, prim, read, write, case, nested, fail, Arms, no_arm, arm, Procedure, Program}
use Rattle.grin_syntax.specs.Binders.{numbers_of, target_vars, shape_vars, cell_vars, act_vars, code_vars, arms_vars, procs_vars, act_sites, code_sites, arms_sites, procs_sites}
use Rattle.grin_syntax.specs.Formed.{AllOf, Scope, with_word_variables, with_target, params_scope, ActFormed, CodeFormed, ArmsFormed, ProcedureFormed, Formed}
use Rattle.grin_syntax.specs.SameOutside.{DifferOnlyInBodies}
use Rattle.grin_syntax.proofs.Scopes.{Within, within_self, within_chain, within_words, within_target, words_within, target_within, with_procs, known_again, word_stays, words_stay, val_stays, cells_stay, shape_stays, same_sites, formed_with}
use Rattle.grin_meaning.specs.Spliced.{spliced}
use Rattle.pass_flat.specs.Flat.{flat_act, flat_code, flat_arms, flat}
use Rattle.pass_flat.proofs.Gives.{flat_procedure, names_stay}

-- ---- variables and sites

two : (y : ℕ) (xs ys : List ℕ) → times y (xs ++ ys) ≡ times y xs + times y ys
two y xs ys = times_append y xs ys

three : (y : ℕ) (xs ys zs : List ℕ) → times y (xs ++ (ys ++ zs)) ≡ times y xs +
    (times y ys + times y zs)
three y xs ys zs = let e : times y (xs ++ (ys ++ zs)) ≡ times y xs + times y (ys ++ zs)
    = times_append y xs (ys ++ zs) in let f : times y (ys ++ zs) ≡ times y ys + times y zs
    = times_append y ys zs in omega (arith, e, f)

module _ (y : ℕ) where
  vars_splice : (c : Code) (t : Target) (k : Code) → times y (code_vars (spliced c t k)) ≡ times y
      (code_vars c) + (times y (target_vars t) + times y (code_vars k))
  unfolding spliced act_vars
  vars_splice (end o) t k = let e : times y (target_vars t ++ (act_vars o ++ code_vars k)) ≡ times y
      (target_vars t) + (times y (act_vars o) + times y (code_vars k))
      = three y (target_vars t) (act_vars o) (code_vars k) in omega (arith, e)
  vars_splice (store cs c) t k =
      let e : times y (cell_vars cs ++ code_vars (spliced c t k)) ≡ times y (cell_vars cs) + times y
      (code_vars (spliced c t k)) = two y (cell_vars cs) (code_vars (spliced c t k)) in
      let f : times y (cell_vars cs ++ code_vars c) ≡ times y (cell_vars cs) + times y (code_vars c)
      = two y (cell_vars cs) (code_vars c) in
      let r : times y (code_vars (spliced c t k)) ≡ times y (code_vars c) +
      (times y (target_vars t) + times y (code_vars k)) = vars_splice c t k in
      omega (arith, e, f, r)
  vars_splice (bind u o c) t k =
      let e : times y (target_vars u ++ (act_vars o ++ code_vars (spliced c t k))) ≡ times y
      (target_vars u) + (times y (act_vars o) + times y (code_vars (spliced c t k)))
      = three y (target_vars u) (act_vars o) (code_vars (spliced c t k)) in
      let f : times y (target_vars u ++ (act_vars o ++ code_vars c)) ≡ times y (target_vars u) +
      (times y (act_vars o) + times y (code_vars c))
      = three y (target_vars u) (act_vars o) (code_vars c) in
      let r : times y (code_vars (spliced c t k)) ≡ times y (code_vars c) +
      (times y (target_vars t) + times y (code_vars k)) = vars_splice c t k in
      omega (arith, e, f, r)

  mutual
    unfolding flat_act act_vars

    act_same : (o : Act) → times y (code_vars (flat_act o)) ≡ times y (act_vars o)
    act_same (case v as') = arms_same as'
    act_same (nested b) = code_same b
    act_same (leaf l) = refl

    code_same : (b : Code) → times y (code_vars (flat_code b)) ≡ times y (code_vars b)
    code_same (end o) = act_same o
    code_same (store cs b) =
        let e : times y (cell_vars cs ++ code_vars (flat_code b)) ≡ times y (cell_vars cs) + times y
        (code_vars (flat_code b)) = two y (cell_vars cs) (code_vars (flat_code b)) in
        let f : times y (cell_vars cs ++ code_vars b) ≡ times y (cell_vars cs) + times y
        (code_vars b) = two y (cell_vars cs) (code_vars b) in
        let r : times y (code_vars (flat_code b)) ≡ times y (code_vars b) = code_same b in
        omega (arith, e, f, r)
    code_same (bind t o b) =
        let e : times y (code_vars (spliced (flat_act o) t (flat_code b))) ≡ times y
        (code_vars (flat_act o)) + (times y (target_vars t) + times y (code_vars (flat_code b)))
        = vars_splice (flat_act o) t (flat_code b) in
        let f : times y (target_vars t ++ (act_vars o ++ code_vars b)) ≡ times y (target_vars t) +
        (times y (act_vars o) + times y (code_vars b))
        = three y (target_vars t) (act_vars o) (code_vars b) in
        let r : times y (code_vars (flat_act o)) ≡ times y (act_vars o) = act_same o in
        let s : times y (code_vars (flat_code b)) ≡ times y (code_vars b) = code_same b in
        omega (arith, e, f, r, s)

    arms_same : (as' : Arms) → times y (arms_vars (flat_arms as')) ≡ times y (arms_vars as')
    arms_same no_arm = refl
    arms_same (arm p b as') =
        let e : times y (shape_vars p ++ (code_vars (flat_code b) ++ arms_vars (flat_arms as'))) ≡
        times y (shape_vars p) +
        (times y (code_vars (flat_code b)) + times y (arms_vars (flat_arms as')))
        = three y (shape_vars p) (code_vars (flat_code b)) (arms_vars (flat_arms as')) in
        let f : times y (shape_vars p ++ (code_vars b ++ arms_vars as')) ≡ times y (shape_vars p) +
        (times y (code_vars b) + times y (arms_vars as'))
        = three y (shape_vars p) (code_vars b) (arms_vars as') in
        let r : times y (code_vars (flat_code b)) ≡ times y (code_vars b) = code_same b in
        let s : times y (arms_vars (flat_arms as')) ≡ times y (arms_vars as') = arms_same as' in
        omega (arith, e, f, r, s)

  pub vars_stay : (qs : List Procedure) → times y (procs_vars (map flat_procedure qs)) ≡ times y
      (procs_vars qs)
  vars_stay [] = refl
  vars_stay (q ∷ qs) =
      let e : times y
      ((numbers_of q.params ++ code_vars (flat_code q.body))
      ++ procs_vars (map flat_procedure qs)) ≡ times y
      (numbers_of q.params ++ code_vars (flat_code q.body)) + times y
      (procs_vars (map flat_procedure qs)) = two y
      (numbers_of q.params ++ code_vars (flat_code q.body)) (procs_vars (map flat_procedure qs))
      in
      let e2 : times y (numbers_of q.params ++ code_vars (flat_code q.body)) ≡ times y
      (numbers_of q.params) + times y (code_vars (flat_code q.body))
      = two y (numbers_of q.params) (code_vars (flat_code q.body)) in
      let f : times y ((numbers_of q.params ++ code_vars q.body) ++ procs_vars qs) ≡ times y
      (numbers_of q.params ++ code_vars q.body) + times y (procs_vars qs)
      = two y (numbers_of q.params ++ code_vars q.body) (procs_vars qs) in
      let f2 : times y (numbers_of q.params ++ code_vars q.body) ≡ times y (numbers_of q.params) +
      times y (code_vars q.body) = two y (numbers_of q.params) (code_vars q.body) in
      let r : times y (code_vars (flat_code q.body)) ≡ times y (code_vars q.body) = code_same q.body
      in
      let s : times y (procs_vars (map flat_procedure qs)) ≡ times y (procs_vars qs) = vars_stay qs
      in
      omega (arith, e, e2, f, f2, r, s)

-- sites keep their order
sites_splice : (c : Code) (t : Target) (k : Code) → code_sites (spliced c t k) ≡ code_sites c
    ++ code_sites k
unfolding spliced act_sites
sites_splice (end o) t k = refl
sites_splice (store cs c) t k = ap (λ l. map (λ c. c.site.0) cs ++ l) (sites_splice c t k) ∙ again
    (map (λ c. c.site.0) cs) (code_sites c) (code_sites k)
  where
    again : (xs ys zs : List ℕ) → xs ++ (ys ++ zs) ≡ (xs ++ ys) ++ zs
    again [] ys zs = refl
    again (x ∷ xs) ys zs = ap (λ l. x ∷ l) (again xs ys zs)
sites_splice (bind u o c) t k = ap (λ l. act_sites o ++ l) (sites_splice c t k) ∙ again
    (act_sites o) (code_sites c) (code_sites k)
  where
    again : (xs ys zs : List ℕ) → xs ++ (ys ++ zs) ≡ (xs ++ ys) ++ zs
    again [] ys zs = refl
    again (x ∷ xs) ys zs = ap (λ l. x ∷ l) (again xs ys zs)

mutual
  unfolding flat_act act_sites

  act_sites_stay : (o : Act) → code_sites (flat_act o) ≡ act_sites o
  act_sites_stay (case v as') = arms_sites_stay as'
  act_sites_stay (nested b) = code_sites_stay b
  act_sites_stay (leaf l) = refl

  code_sites_stay : (b : Code) → code_sites (flat_code b) ≡ code_sites b
  code_sites_stay (end o) = act_sites_stay o
  code_sites_stay (store cs b) = ap (λ l. map (λ c. c.site.0) cs ++ l) (code_sites_stay b)
  code_sites_stay (bind t o b) = sites_splice (flat_act o) t (flat_code b) ∙
      (λ i. act_sites_stay o i ++ code_sites_stay b i)

  arms_sites_stay : (as' : Arms) → arms_sites (flat_arms as') ≡ arms_sites as'
  arms_sites_stay no_arm = refl
  arms_sites_stay (arm p b as') = λ i. code_sites_stay b i ++ arms_sites_stay as' i

sites_stay : (qs : List Procedure) → procs_sites (map flat_procedure qs) ≡ procs_sites qs
sites_stay [] = refl
sites_stay (q ∷ qs) = λ i. code_sites_stay q.body i ++ sites_stay qs i

-- ---- scopes

module _ (p : Program) (procs : List Procedure) (same_count : length procs ≡ length p.procs) where
  abbrev after : Program
  after = with_procs p procs same_count

  -- a block that is well formed wherever this is in scope
  abbrev Wherever : Scope → Code → Type 0
  Wherever scope b = (s : Scope) → Within scope s → CodeFormed after s b

  -- what may follow a block: well formed behind its target, whatever more is in scope
  abbrev Follows : Scope → Target → Code → Type 0
  Follows scope t k = (s : Scope) → Within scope s → CodeFormed after (with_target t s) k

  splice_formed : (c : Code) (scope : Scope) (t : Target) (k : Code) → CodeFormed after scope c
      → Follows scope t k → CodeFormed after scope (spliced c t k)
  unfolding spliced ActFormed
  splice_formed (end o) scope t k h f = (h, f scope (within_self scope))
  splice_formed (store cs c) scope t k h f = (
    h.0,
    splice_formed c (with_word_variables (cell_vars cs) scope) t k h.1
        (λ s w. f s (within_chain (within_words (cell_vars cs) scope) w)),
  )
  splice_formed (bind u o c) scope t k h f = (
    h.0,
    splice_formed c (with_target u scope) t k h.1
        (λ s w. f s (within_chain (within_target u scope) w)),
  )

  mutual
    unfolding flat_act ActFormed

    act_formed : (o : Act) (scope : Scope) → ActFormed p scope o → Wherever scope (flat_act o)
    act_formed (case v as') scope h s w =
        (val_stays p procs same_count scope s w v h.0, arms_formed as' scope h.1 s w)
    act_formed (nested b) scope h s w = code_formed b scope h s w
    act_formed (leaf (unit v)) scope h s w = val_stays p procs same_count scope s w v h
    act_formed (leaf (fetch a)) scope h s w = word_stays p procs same_count scope s w a h
    act_formed (leaf (fetch_word a i)) scope h s w = word_stays p procs same_count scope s w a h
    act_formed (leaf (update a v)) scope h s w = (
      word_stays p procs same_count scope s w a h.0,
      val_stays p procs same_count scope s w v h.1,
    )
    act_formed (leaf (eval a)) scope h s w = word_stays p procs same_count scope s w a h
    act_formed (leaf (apply v a)) scope h s w = (
      val_stays p procs same_count scope s w v h.0,
      word_stays p procs same_count scope s w a h.1,
    )
    act_formed (leaf (call f ws)) scope h s w =
        (known_again p procs same_count f h.0, words_stay p procs same_count scope s w ws h.1)
    act_formed (leaf (prim f a b)) scope h s w = (
      word_stays p procs same_count scope s w a h.0,
      word_stays p procs same_count scope s w b h.1,
    )
    act_formed (leaf read) scope h s w = tt
    act_formed (leaf (write a)) scope h s w = word_stays p procs same_count scope s w a h
    act_formed (leaf fail) scope h s w = tt

    code_formed : (b : Code) (scope : Scope) → CodeFormed p scope b → Wherever scope (flat_code b)
    code_formed (end o) scope h s w = act_formed o scope h s w
    code_formed (store cs b) scope h s w = (
      cells_stay p procs same_count (with_word_variables (cell_vars cs) scope)
          (with_word_variables (cell_vars cs) s) (words_within (cell_vars cs) scope s w) cs h.0,
      code_formed b (with_word_variables (cell_vars cs) scope) h.1
          (with_word_variables (cell_vars cs) s) (words_within (cell_vars cs) scope s w),
    )
    code_formed (bind t o b) scope h s w = splice_formed (flat_act o) s t (flat_code b)
        (act_formed o scope h.0 s w)
        (λ s2 w2. code_formed b (with_target t scope) h.1 (with_target t s2)
        (target_within t scope s2 (within_chain w w2)))

    arms_formed : (as' : Arms) (scope : Scope) → ArmsFormed p scope as' → (s : Scope)
        → Within scope s → ArmsFormed after s (flat_arms as')
    arms_formed no_arm scope h s w = tt
    arms_formed (arm q b as') scope h s w = (
      shape_stays p procs same_count q h.0,
      code_formed b (with_word_variables (shape_vars q) scope) h.1
          (with_word_variables (shape_vars q) s) (words_within (shape_vars q) scope s w),
      arms_formed as' scope h.2 s w,
    )

  bodies_formed : (qs : List Procedure) → AllOf (ProcedureFormed p) qs
      → AllOf (ProcedureFormed after) (map flat_procedure qs)
  bodies_formed [] h = tt
  bodies_formed (q ∷ qs) h = (
    code_formed q.body (params_scope q) h.0 (params_scope q) (within_self (params_scope q)),
    bodies_formed qs h.1,
  )

pub flat_formed : (g : Program) → Formed g → Formed (flat g)
flat_formed g f =
    let procs : List Procedure = map flat_procedure g.procs in
    let count : length procs ≡ length g.procs = length-map g.procs flat_procedure in
    formed_with g procs count f
    (λ x. subst (λ n. n ≤ 1) (sym (vars_stay x g.procs)) (f.variables_once x))
    (same_sites g procs count (sites_stay g.procs) f.sites_once)
    (bodies_formed g procs count g.procs f.procedures) (
      flat_procedure f.start.0,
      (
        slice_get-map flat_procedure g.procs g.start.0 ∙ ap (option_map flat_procedure) f.start.1,
        f.start.2,
      ),
    )

pub flat_outside : (g : Program) → DifferOnlyInBodies g (flat g)
flat_outside g = record {
  same_tags = refl;
  same_globals = refl;
  same_start = refl;
  same_argument = refl;
  same_names
      = names_stay g.procs;
}
