-- What holds of the text of a program that is rewritten by a rule, from what holds of an operation
-- without a block.
use Rattle.std.proofs.Common.{◌≡◌, ℕ, ◌+◌, ◌≤◌, List, [], ◌∷◌, ◌++◌, map, length, refl, sym, ap, ◌∙◌, subst}
use Rattle.std.proofs.lemmas.List.{length-map}
use Rattle.std.proofs.lemmas.Option.{slice_get-map}
use Rattle.std.specs.Option.{option_map}
use Rattle.grin_syntax.specs.declared.program.Cell.{Cell}
use Rattle.grin_syntax.specs.declared.program.Target.{Target}
use Rattle.grin_syntax.specs.declared.program.Val.{Val}
use Rattle.grin_syntax.specs.Tree.{Code, end, store, bind, Act, Leaf, leaf, call, case, nested, Arms, no_arm, arm, Procedure, Program}
use Rattle.grin_syntax.specs.Binders.{numbers_of, target_vars, shape_vars, cell_vars, act_vars, code_vars, arms_vars, procs_vars, act_sites, code_sites, arms_sites, procs_sites}
use Rattle.grin_syntax.specs.Formed.{AllOf, Scope, with_word_variables, with_target, params_scope, Formed, ActFormed, CodeFormed, ArmsFormed, ProcedureFormed}
use Rattle.grin_syntax.specs.SameOutside.{names_of, DifferOnlyInBodies}
use Rattle.grin_syntax.proofs.Scopes.{with_procs, known_again, same_sites, formed_with}
use Rattle.grin_meaning.specs.Rewritten.{rewritten_procedure, rewritten}
use Rattle.grin_meaning.specs.Ready.{EachAct, EachCode, EachArms, NarrowAct, NarrowCode, NarrowArms, PieceKind, EveryBodyIsOfKind}
use Rattle.pass_ground.specs.OpenUpdates.{act_update_sum, code_update_sum, arms_update_sum, procs_update_sum}
use Rattle.grin_rewrite.specs.Rewriting.{rewrite_act, rewrite_code, rewrite_arms}
use Rattle.seq.specs.Lists.{times}

-- ---- a well formed piece is so in a program with other procedures, as many

module _ (p : Program) (procs : List Procedure) (same_count : length procs ≡ length p.procs) where
  mutual
    unfolding ActFormed

    pub act_again : (scope : Scope) (o : Act) → ActFormed p scope o
        → ActFormed (with_procs p procs same_count) scope o
    act_again scope (leaf (call f ws)) h = (known_again p procs same_count f h.0, h.1)
    act_again scope (case v as') h = (h.0, arms_again scope as' h.1)
    act_again scope (nested b) h = code_again scope b h
    act_again scope (leaf _) h = h

    pub code_again : (scope : Scope) (b : Code) → CodeFormed p scope b
        → CodeFormed (with_procs p procs same_count) scope b
    code_again scope (end o) h = act_again scope o h
    code_again scope (store cs b) h =
        (h.0, code_again (with_word_variables (cell_vars cs) scope) b h.1)
    code_again scope (bind t o b) h =
        (act_again scope o h.0, code_again (with_target t scope) b h.1)

    arms_again : (scope : Scope) (as' : Arms) → ArmsFormed p scope as'
        → ArmsFormed (with_procs p procs same_count) scope as'
    arms_again scope no_arm h = tt
    arms_again scope (arm s b as') h =
        (h.0, code_again (with_word_variables (shape_vars s) scope) b h.1, arms_again scope as' h.2)

-- what is asked of blocks, targets, values of cases and stores, and patterns: what K asks, L does
-- not ask anew
pub record Onward (K L : PieceKind) : Type 0 where
  pub cases : (v : Val) (as' bs' : Arms) → K.operation (case v as') → L.operation (case v bs')
  pub blocks : (b b' : Code) → K.operation (nested b) → L.operation (nested b')
  pub targets : (t : Target) → K.target t → L.target t
  pub values : (v : Val) → K.value v → L.value v
  pub patterns : (xs : List ℕ) → K.pattern xs → L.pattern xs

pub all_values : (K L : PieceKind) (on : Onward K L) (cs : List Cell)
    → AllOf {A = Cell} (λ c. K.value c.val) cs → AllOf {A = Cell} (λ c. L.value c.val) cs
all_values K L on [] k = tt
all_values K L on (c ∷ cs) k = (on.values c.val k.0, all_values K L on cs k.1)

-- an operation that binds no variable and has no site
abbrev pub AddsNothing : Act → Type 0
AddsNothing o = (act_vars o ≡ []) × (act_sites o ≡ [])

module _ (rule : Leaf → Act) where
  abbrev pub procs_by : List Procedure → List Procedure
  procs_by qs = map (rewritten_procedure (rewrite_code rule)) qs

  -- ---- where no variable and no site is new

  module _ (adds : (l : Leaf) → AddsNothing (rule l)) where
    mutual
      unfolding rewrite_act act_vars act_sites

      act_stays : (o : Act) → (act_vars (rewrite_act rule o) ≡ act_vars o)
          × (act_sites (rewrite_act rule o) ≡ act_sites o)
      act_stays (leaf l) = adds l
      act_stays (case v as') = arms_stay as'
      act_stays (nested b) = code_stays b

      code_stays : (b : Code) → (code_vars (rewrite_code rule b) ≡ code_vars b)
          × (code_sites (rewrite_code rule b) ≡ code_sites b)
      code_stays (end o) = act_stays o
      code_stays (store cs b) = (
        ap (λ t. cell_vars cs ++ t) (code_stays b).0,
        ap (λ t. map (λ c. c.site.0) cs ++ t) (code_stays b).1,
      )
      code_stays (bind t o b) = (
        λ i. target_vars t ++ ((act_stays o).0 i ++ (code_stays b).0 i),
        λ i. (act_stays o).1 i
            ++ (code_stays b).1 i,
      )

      arms_stay : (as' : Arms) → (arms_vars (rewrite_arms rule as') ≡ arms_vars as')
          × (arms_sites (rewrite_arms rule as') ≡ arms_sites as')
      arms_stay no_arm = (refl, refl)
      arms_stay (arm s b as') = (
        λ i. shape_vars s ++ ((code_stays b).0 i ++ (arms_stay as').0 i),
        λ i. (code_stays b).1 i
            ++ (arms_stay as').1 i,
      )

    vars_stay : (qs : List Procedure) → procs_vars (procs_by qs) ≡ procs_vars qs
    vars_stay [] = refl
    vars_stay (q ∷ qs) = λ i. (numbers_of q.params ++ (code_stays q.body).0 i) ++ vars_stay qs i

    sites_stay : (qs : List Procedure) → procs_sites (procs_by qs) ≡ procs_sites qs
    sites_stay [] = refl
    sites_stay (q ∷ qs) = λ i. (code_stays q.body).1 i ++ sites_stay qs i

    -- ---- well formed programs

    module _ (g : Program)
        (formed : (scope : Scope) (l : Leaf) → ActFormed g scope (leaf l)
        → ActFormed g scope (rule l)) where
      count : length (procs_by g.procs) ≡ length g.procs
      count = length-map g.procs (rewritten_procedure (rewrite_code rule))

      abbrev after : Program
      after = with_procs g (procs_by g.procs) count

      mutual
        unfolding rewrite_act ActFormed

        act_formed : (scope : Scope) (o : Act) → ActFormed g scope o
            → ActFormed after scope (rewrite_act rule o)
        act_formed scope (leaf l) h = act_again g (procs_by g.procs) count scope (rule l)
            (formed scope l h)
        act_formed scope (case v as') h = (h.0, arms_formed scope as' h.1)
        act_formed scope (nested b) h = code_formed scope b h

        code_formed : (scope : Scope) (b : Code) → CodeFormed g scope b
            → CodeFormed after scope (rewrite_code rule b)
        code_formed scope (end o) h = act_formed scope o h
        code_formed scope (store cs b) h =
            (h.0, code_formed (with_word_variables (cell_vars cs) scope) b h.1)
        code_formed scope (bind t o b) h =
            (act_formed scope o h.0, code_formed (with_target t scope) b h.1)

        arms_formed : (scope : Scope) (as' : Arms) → ArmsFormed g scope as'
            → ArmsFormed after scope (rewrite_arms rule as')
        arms_formed scope no_arm h = tt
        arms_formed scope (arm s b as') h = (
          h.0,
          code_formed (with_word_variables (shape_vars s) scope) b h.1,
          arms_formed scope as' h.2,
        )

      bodies_formed : (qs : List Procedure) → AllOf (ProcedureFormed g) qs
          → AllOf (ProcedureFormed after) (procs_by qs)
      bodies_formed [] h = tt
      bodies_formed (q ∷ qs) h = (code_formed (params_scope q) q.body h.0, bodies_formed qs h.1)

      pub rewritten_formed : Formed g → Formed (rewritten (rewrite_code rule) g)
      rewritten_formed f = formed_with g (procs_by g.procs) count f
          (λ x. subst (λ xs. times x xs ≤ 1) (sym (vars_stay g.procs)) (f.variables_once x))
          (same_sites g (procs_by g.procs) count (sites_stay g.procs) f.sites_once)
          (bodies_formed g.procs f.procedures) (
            rewritten_procedure (rewrite_code rule) f.start.0,
            (
              slice_get-map (rewritten_procedure (rewrite_code rule)) g.procs g.start.0 ∙ ap
                  (option_map (rewritten_procedure (rewrite_code rule))) f.start.1,
              f.start.2,
            ),
          )

  names_stay : (qs : List Procedure) → names_of (procs_by qs) ≡ names_of qs
  names_stay [] = refl
  names_stay (q ∷ qs) = ap (λ ns. q.name ∷ ns) (names_stay qs)

  pub rewritten_outside : (g : Program) → DifferOnlyInBodies g (rewritten (rewrite_code rule) g)
  rewritten_outside g = record {
    same_tags = refl;
    same_globals = refl;
    same_start = refl;
    same_argument = refl;
    same_names
        = names_stay g.procs;
  }

  pub params_stay : (most : ℕ) (qs : List Procedure) → AllOf (λ q. length q.params ≤ most) qs
      → AllOf (λ q. length q.params ≤ most) (procs_by qs)
  params_stay most [] h = tt
  params_stay most (q ∷ qs) h = (h.0, params_stay most qs h.1)

  -- ---- kinds

  module _ (K L : PieceKind) (on : Onward K L)
      (each : (l : Leaf) → EachAct K (leaf l) → EachAct L (rule l)) where
    mutual
      unfolding rewrite_act EachAct

      act_each : (o : Act) → EachAct K o → EachAct L (rewrite_act rule o)
      act_each (leaf l) h = each l h
      act_each (case v as') h =
          (on.cases v as' (rewrite_arms rule as') h.0, on.values v h.1, arms_each as' h.2)
      act_each (nested b) h = (on.blocks b (rewrite_code rule b) h.0, code_each b h.1)

      code_each : (b : Code) → EachCode K b → EachCode L (rewrite_code rule b)
      code_each (end o) h = act_each o h
      code_each (store cs b) h = (all_values K L on cs h.0, code_each b h.1)
      code_each (bind t o b) h = (on.targets t h.0, act_each o h.1, code_each b h.2)

      arms_each : (as' : Arms) → EachArms K as' → EachArms L (rewrite_arms rule as')
      arms_each no_arm h = tt
      arms_each (arm s b as') h =
          (on.patterns (shape_vars s) h.0, code_each b h.1, arms_each as' h.2)

    pub bodies_each : (qs : List Procedure) → EveryBodyIsOfKind K qs
        → EveryBodyIsOfKind L (procs_by qs)
    bodies_each [] h = tt
    bodies_each (q ∷ qs) h = (code_each q.body h.0, bodies_each qs h.1)

  -- ---- results

  module _ (width most : ℕ)
      (gives : (l : Leaf) → NarrowAct width most (leaf l) → NarrowAct width most (rule l)) where
    mutual
      unfolding rewrite_act NarrowAct

      act_gives : (o : Act) → NarrowAct width most o → NarrowAct width most (rewrite_act rule o)
      act_gives (leaf l) h = gives l h
      act_gives (case v as') h = arms_give as' h
      act_gives (nested b) h = code_gives b h

      code_gives : (b : Code) → NarrowCode width most b
          → NarrowCode width most (rewrite_code rule b)
      code_gives (end o) h = act_gives o h
      code_gives (store cs b) h = code_gives b h
      code_gives (bind t o b) h = code_gives b h

      arms_give : (as' : Arms) → NarrowArms width most as'
          → NarrowArms width most (rewrite_arms rule as')
      arms_give no_arm h = tt
      arms_give (arm s b as') h = (code_gives b h.0, arms_give as' h.1)

    pub bodies_give : (qs : List Procedure) → AllOf (λ q. NarrowCode width most q.body) qs
        → AllOf (λ q. NarrowCode width most q.body) (procs_by qs)
    bodies_give [] h = tt
    bodies_give (q ∷ qs) h = (code_gives q.body h.0, bodies_give qs h.1)

  -- ---- sums over updates

  module _ (f f' : Val → ℕ)
      (sum : (l : Leaf) → act_update_sum f (rule l) ≡ act_update_sum f' (leaf l)) where
    mutual
      unfolding rewrite_act act_update_sum

      act_sum : (o : Act) → act_update_sum f (rewrite_act rule o) ≡ act_update_sum f' o
      act_sum (leaf l) = sum l
      act_sum (case v as') = arms_sum as'
      act_sum (nested b) = code_sum b

      code_sum : (b : Code) → code_update_sum f (rewrite_code rule b) ≡ code_update_sum f' b
      code_sum (end o) = act_sum o
      code_sum (store cs b) = code_sum b
      code_sum (bind t o b) = λ i. act_sum o i + code_sum b i

      arms_sum : (as' : Arms) → arms_update_sum f (rewrite_arms rule as') ≡ arms_update_sum f' as'
      arms_sum no_arm = refl
      arms_sum (arm s b as') = λ i. code_sum b i + arms_sum as' i

    pub bodies_sum : (qs : List Procedure) → procs_update_sum f (procs_by qs) ≡ procs_update_sum f'
        qs
    bodies_sum [] = refl
    bodies_sum (q ∷ qs) = λ i. code_sum q.body i + bodies_sum qs i
