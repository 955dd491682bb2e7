-- What holds of the text of a program without words that nobody reads.
use Rattle.std.proofs.Common.{◌≡◌, ℕ, ◌+◌, ◌≤◌, Bool, true, false, cond, ◌&&◌, List, [], ◌∷◌, map, length, Some, None, refl, sym, ◌∙◌, arith}
use Rattle.std.proofs.lemmas.List.{length-map}
use Rattle.seq.specs.Lists.{is_among}
use Rattle.seq.proofs.Truth.{true_not_false}
use Rattle.grin_syntax.specs.declared.program.VarId.{VarId}
use Rattle.grin_syntax.specs.declared.program.Target.{Target}
use Rattle.grin_syntax.specs.declared.program.Target.TheVariants as to
use Rattle.grin_syntax.specs.declared.program.Val as V
use Rattle.grin_syntax.specs.declared.program.Val.TheVariants.{NodeVar, Node, Vector, One}
use Rattle.grin_syntax.specs.Tree.{Code, end, store, bind, Act, leaf, unit, fetch, fetch_word, update, eval, apply, call, prim, read, write, case, nested, fail, Arms, no_arm, arm, Procedure}
use Rattle.grin_syntax.specs.Binders.{numbers_of, target_vars}
use Rattle.grin_syntax.specs.Formed.{AllOf}
use Rattle.grin_meaning.specs.Ready.{EachAct, EachCode, EachArms, val_width, NarrowAct, NarrowCode, NarrowArms, PieceKind, EveryBodyIsOfKind, inlined_kind, without_node_fetches, vectorised_kind, narrow_kind}
use Rattle.grin_meaning.specs.Rewritten.{rewritten_procedure}
use Rattle.flow_system.specs.Solution.{Solution}
use Rattle.pass_ground.specs.OpenUpdates.{act_update_sum, code_update_sum, arms_update_sum, procs_update_sum}
use Rattle.copy_prop.specs.Lean.{used_in_code}
use Rattle.copy_prop.specs.Copied.{BoundAct, BoundCode, BoundArms}
use Rattle.pass_narrow.specs.Picked.{picked, stay}
use Rattle.pass_narrow.specs.Narrow.{WordSelection, picked_val, picked_target, act_fits, code_fits, arms_fit, word_selection, narrow_act, narrow_code, narrow_arms}
use Rattle.pass_narrow.specs.NarrowBy.{IsRead}
use Rattle.pass_narrow.proofs.Picks.{picked_shorter}
use Rattle.pass_narrow.proofs.Formed.{no_variable, no_node}

module _ (count : ℕ) (A : Solution) where
  abbrev pub change : Procedure → Procedure
  change = rewritten_procedure (narrow_code count A None)

  -- ---- what is asked of each operation, value and target stays so

  record Blind (K : PieceKind) : Type 0 where
    acts : (o : Act) (p : WordSelection) → K.operation o → K.operation (narrow_act count A p o)
    values : (v : V.Val) (p : WordSelection) → K.value v → K.value (picked_val p v)
    targets : (t : Target) (p : WordSelection) → K.target t → K.target (picked_target p t)

  module _ (K : PieceKind) (blind : Blind K) where
    mutual
      unfolding narrow_act EachAct

      act_each : (o : Act) (p : WordSelection) → EachAct K o → EachAct K (narrow_act count A p o)
      act_each (case v as') p h = (blind.acts (case v as') p h.0, h.1, arms_each as' p h.2)
      act_each (nested b) p h = (blind.acts (nested b) p h.0, code_each b p h.1)
      act_each (leaf (unit v)) p h = (blind.acts (leaf (unit v)) p h.0, blind.values v p h.1)
      act_each (leaf (update a v)) p h = h
      act_each (leaf (apply v a)) p h = h
      act_each (leaf (fetch a)) p h = h
      act_each (leaf (fetch_word a i)) p h = h
      act_each (leaf (eval a)) p h = h
      act_each (leaf (call f ws)) p h = h
      act_each (leaf (prim f a b)) p h = h
      act_each (leaf read) p h = h
      act_each (leaf (write a)) p h = h
      act_each (leaf fail) p h = h

      code_each : (b : Code) (p : WordSelection) → EachCode K b
          → EachCode K (narrow_code count A p b)
      code_each (end o) p h = act_each o p h
      code_each (store cs b) p h = (h.0, code_each b p h.1)
      code_each (bind t o b) p h =
          let q : WordSelection = word_selection count A t o
          (used_in_code (narrow_code count A p b))
          in (blind.targets t q h.0, act_each o q h.1, code_each b p h.2)

      arms_each : (as' : Arms) (p : WordSelection) → EachArms K as'
          → EachArms K (narrow_arms count A p as')
      arms_each no_arm p h = tt
      arms_each (arm s b as') p h = (h.0, code_each b p h.1, arms_each as' p h.2)

    procs_each : (qs : List Procedure) → EveryBodyIsOfKind K qs
        → EveryBodyIsOfKind K (map change qs)
    procs_each [] h = tt
    procs_each (q ∷ qs) h = (code_each q.body None h.0, procs_each qs h.1)

  still_inlined : (o : Act) (p : WordSelection) → inlined_kind.operation o
      → inlined_kind.operation (narrow_act count A p o)
  unfolding narrow_act
  still_inlined (case v as') p h = tt
  still_inlined (nested b) p h = tt
  still_inlined (leaf (update a v)) p h = tt
  still_inlined (leaf (unit v)) p h = tt
  still_inlined (leaf (fetch a)) p h = tt
  still_inlined (leaf (fetch_word a i)) p h = tt
  still_inlined (leaf (eval a)) p h = h
  still_inlined (leaf (apply v a)) p h = h
  still_inlined (leaf (call f ws)) p h = tt
  still_inlined (leaf (prim f a b)) p h = tt
  still_inlined (leaf read) p h = tt
  still_inlined (leaf (write a)) p h = tt
  still_inlined (leaf fail) p h = tt

  still_by_words : (o : Act) (p : WordSelection) → without_node_fetches.operation o
      → without_node_fetches.operation (narrow_act count A p o)
  unfolding narrow_act
  still_by_words (case v as') p h = tt
  still_by_words (nested b) p h = tt
  still_by_words (leaf (update a v)) p h = tt
  still_by_words (leaf (unit v)) p h = tt
  still_by_words (leaf (fetch a)) p h = h
  still_by_words (leaf (fetch_word a i)) p h = tt
  still_by_words (leaf (eval a)) p h = tt
  still_by_words (leaf (apply v a)) p h = tt
  still_by_words (leaf (call f ws)) p h = tt
  still_by_words (leaf (prim f a b)) p h = tt
  still_by_words (leaf read) p h = tt
  still_by_words (leaf (write a)) p h = tt
  still_by_words (leaf fail) p h = tt

  numbers_many : (xs : List VarId) → length (numbers_of xs) ≡ length xs
  numbers_many xs = length-map xs (λ (x : VarId). x.0)

  no_wider : (most : ℕ) (t : Target) (p : WordSelection) → length (target_vars t) ≤ most
      → length (target_vars (picked_target p t)) ≤ most
  no_wider most t None h = h
  no_wider most to.Nothing (Some bs) h = h
  no_wider most (to.Node x) (Some bs) h = h
  no_wider most (to.One x) (Some bs) h = h
  no_wider most (to.Vector xs) (Some bs) h =
      let l : length (picked bs xs) ≤ length xs = picked_shorter bs xs in
      let m : length (numbers_of xs) ≡ length xs = numbers_many xs in
      let n : length (numbers_of (picked bs xs)) ≡ length (picked bs xs)
      = numbers_many (picked bs xs) in
      omega (arith, h, l, m, n)

  pub procs_inlined : (qs : List Procedure) → EveryBodyIsOfKind inlined_kind qs
      → EveryBodyIsOfKind inlined_kind (map change qs)
  procs_inlined = procs_each inlined_kind
      (record { acts = still_inlined; values = λ v p h. tt; targets = λ t p h. tt })

  pub procs_by_words : (qs : List Procedure) → EveryBodyIsOfKind without_node_fetches qs
      → EveryBodyIsOfKind without_node_fetches (map change qs)
  procs_by_words = procs_each without_node_fetches
      (record { acts = still_by_words; values = λ v p h. tt; targets = λ t p h. tt })

  pub procs_vectorised : (qs : List Procedure) → EveryBodyIsOfKind vectorised_kind qs
      → EveryBodyIsOfKind vectorised_kind (map change qs)
  procs_vectorised = procs_each vectorised_kind
      (record {
        acts = λ o p h. tt;
        values = λ v p h. no_variable count A p v h;
        targets
            = λ t p h. no_node count A p t h;
      })

  pub procs_narrow : (most : ℕ) (qs : List Procedure) → EveryBodyIsOfKind (narrow_kind most) qs
      → EveryBodyIsOfKind (narrow_kind most) (map change qs)
  procs_narrow most = procs_each (narrow_kind most)
      (record { acts = λ o p h. tt; values = λ v p h. tt; targets = no_wider most })

  -- ---- results

  module _ (width most : ℕ) where
    as_narrow : (v : V.Val) (p : WordSelection) → val_width width v ≤ most
        → val_width width (picked_val p v) ≤ most
    as_narrow v None h = h
    as_narrow (NodeVar x) (Some bs) h = h
    as_narrow (Node t ws) (Some bs) h = h
    as_narrow (Vector ws) (Some bs) h = let l : length (picked bs ws) ≤ length ws
        = picked_shorter bs ws in omega (arith, h, l)
    as_narrow (One a) (Some bs) h = h

    mutual
      unfolding narrow_act NarrowAct

      act_gives : (o : Act) (p : WordSelection) → NarrowAct width most o
          → NarrowAct width most (narrow_act count A p o)
      act_gives (case v as') p h = arms_give as' p h
      act_gives (nested b) p h = code_gives b p h
      act_gives (leaf (unit v)) p h = as_narrow v p h
      act_gives (leaf (fetch a)) p h = h
      act_gives (leaf (update a v)) p h = tt
      act_gives (leaf (fetch_word a i)) p h = tt
      act_gives (leaf (eval a)) p h = tt
      act_gives (leaf (apply v a)) p h = tt
      act_gives (leaf (call f ws)) p h = tt
      act_gives (leaf (prim f a b)) p h = tt
      act_gives (leaf read) p h = tt
      act_gives (leaf (write a)) p h = tt
      act_gives (leaf fail) p h = tt

      code_gives : (b : Code) (p : WordSelection) → NarrowCode width most b
          → NarrowCode width most (narrow_code count A p b)
      code_gives (end o) p h = act_gives o p h
      code_gives (store cs b) p h = code_gives b p h
      code_gives (bind t o b) p h = code_gives b p h

      arms_give : (as' : Arms) (p : WordSelection) → NarrowArms width most as'
          → NarrowArms width most (narrow_arms count A p as')
      arms_give no_arm p h = tt
      arms_give (arm s b as') p h = (code_gives b p h.0, arms_give as' p h.1)

    pub procs_give : (qs : List Procedure) → AllOf (λ q. NarrowCode width most q.body) qs
        → AllOf (λ q. NarrowCode width most q.body) (map change qs)
    procs_give [] h = tt
    procs_give (q ∷ qs) h = (code_gives q.body None h.0, procs_give qs h.1)

  pub procs_params : (most : ℕ) (qs : List Procedure) → AllOf (λ q. length q.params ≤ most) qs
      → AllOf (λ q. length q.params ≤ most) (map change qs)
  procs_params most [] h = tt
  procs_params most (q ∷ qs) h = (h.0, procs_params most qs h.1)

  -- ---- each word that may go is read

  -- what is inside a block that gives all leaves its ends as they are
  mutual
    unfolding narrow_act act_fits

    act_ends : (bs : List Bool) (o : Act) → act_fits count A bs (narrow_act count A None o) ≡
        act_fits count A bs o
    act_ends bs (case v as') = arms_end bs as'
    act_ends bs (nested b) = code_ends bs b
    act_ends bs (leaf (unit v)) = refl
    act_ends bs (leaf (fetch a)) = refl
    act_ends bs (leaf (update a v)) = refl
    act_ends bs (leaf (fetch_word a i)) = refl
    act_ends bs (leaf (eval a)) = refl
    act_ends bs (leaf (apply v a)) = refl
    act_ends bs (leaf (call f ws)) = refl
    act_ends bs (leaf (prim f a b)) = refl
    act_ends bs (leaf read) = refl
    act_ends bs (leaf (write a)) = refl
    act_ends bs (leaf fail) = refl

    code_ends : (bs : List Bool) (b : Code) → code_fits count A bs (narrow_code count A None b) ≡
        code_fits count A bs b
    code_ends bs (end o) = act_ends bs o
    code_ends bs (store cs b) = code_ends bs b
    code_ends bs (bind t o b) = code_ends bs b

    arms_end : (bs : List Bool) (as' : Arms) → arms_fit count A bs (narrow_arms count A None as') ≡
        arms_fit count A bs as'
    arms_end bs no_arm = refl
    arms_end bs (arm s b as') = λ i. code_ends bs b i && arms_end bs as' i

  -- those that stay are used
  stay_used : (used : List ℕ) (xs : List VarId) → AllOf (λ (x : VarId). is_among x.0 used ≡ true)
      (picked (stay used xs) xs)
  stay_used used [] = tt
  stay_used used (x ∷ xs) = go (is_among x.0 used) refl (stay_used used xs)
    where
      go : (b : Bool) → is_among x.0 used ≡ b → AllOf (λ (y : VarId). is_among y.0 used ≡ true)
          (picked (stay used xs) xs) → AllOf (λ (y : VarId). is_among y.0 used ≡ true)
          (cond b (x ∷ picked (stay used xs) xs) (picked (stay used xs) xs))
      go true e h = (e, h)
      go false e h = h

  bind_read : (t : Target) (o : Act) (b : Code) → let q : WordSelection
      = word_selection count A t o (used_in_code b)
      in IsRead count A (picked_target q t) (narrow_act count A q o) b
  bind_read to.Nothing o b = tt
  bind_read (to.Node x) o b = tt
  bind_read (to.One x) o b = tt
  bind_read (to.Vector xs) o b = go (act_fits count A (stay (used_in_code b) xs) o) refl
    where
      bs : List Bool
      bs = stay (used_in_code b) xs

      go : (c : Bool) → act_fits count A bs o ≡ c → let q : WordSelection = cond c (Some bs) None
          in IsRead count A (picked_target q (to.Vector xs)) (narrow_act count A q o) b
      go true e = λ h. stay_used (used_in_code b) xs
      go false e = λ h. true_not_false (sym h ∙ act_ends bs o ∙ e)

  mutual
    unfolding narrow_act BoundAct

    act_read : (o : Act) (p : WordSelection) → BoundAct (IsRead count A) (narrow_act count A p o)
    act_read (case v as') p = arms_read as' p
    act_read (nested b) p = code_read b p
    act_read (leaf (unit v)) p = tt
    act_read (leaf (fetch a)) p = tt
    act_read (leaf (update a v)) p = tt
    act_read (leaf (fetch_word a i)) p = tt
    act_read (leaf (eval a)) p = tt
    act_read (leaf (apply v a)) p = tt
    act_read (leaf (call f ws)) p = tt
    act_read (leaf (prim f a b)) p = tt
    act_read (leaf read) p = tt
    act_read (leaf (write a)) p = tt
    act_read (leaf fail) p = tt

    code_read : (b : Code) (p : WordSelection) → BoundCode (IsRead count A)
        (narrow_code count A p b)
    code_read (end o) p = act_read o p
    code_read (store cs b) p = code_read b p
    code_read (bind t o b) p = (
      bind_read t o (narrow_code count A p b),
      act_read o
          (word_selection count A t o (used_in_code (narrow_code count A p b))),
      code_read b p,
    )

    arms_read : (as' : Arms) (p : WordSelection) → BoundArms (IsRead count A)
        (narrow_arms count A p as')
    arms_read no_arm p = tt
    arms_read (arm s b as') p = (code_read b p, arms_read as' p)

  pub procs_read : (qs : List Procedure) → AllOf (λ q. BoundCode (IsRead count A) q.body)
      (map change qs)
  procs_read [] = tt
  procs_read (q ∷ qs) = (code_read q.body None, procs_read qs)

  -- ---- updates

  module _ (of : V.Val → ℕ) where
    mutual
      unfolding narrow_act act_update_sum

      act_updates : (o : Act) (p : WordSelection) → act_update_sum of (narrow_act count A p o) ≡
          act_update_sum of o
      act_updates (case v as') p = arms_update as' p
      act_updates (nested b) p = code_updates b p
      act_updates (leaf (unit v)) p = refl
      act_updates (leaf (fetch a)) p = refl
      act_updates (leaf (update a v)) p = refl
      act_updates (leaf (fetch_word a i)) p = refl
      act_updates (leaf (eval a)) p = refl
      act_updates (leaf (apply v a)) p = refl
      act_updates (leaf (call f ws)) p = refl
      act_updates (leaf (prim f a b)) p = refl
      act_updates (leaf read) p = refl
      act_updates (leaf (write a)) p = refl
      act_updates (leaf fail) p = refl

      code_updates : (b : Code) (p : WordSelection)
          → code_update_sum of (narrow_code count A p b) ≡ code_update_sum of b
      code_updates (end o) p = act_updates o p
      code_updates (store cs b) p = code_updates b p
      code_updates (bind t o b) p = λ i. act_updates o
          (word_selection count A t o (used_in_code (narrow_code count A p b))) i + code_updates b p
          i

      arms_update : (as' : Arms) (p : WordSelection)
          → arms_update_sum of (narrow_arms count A p as') ≡ arms_update_sum of as'
      arms_update no_arm p = refl
      arms_update (arm s b as') p = λ i. code_updates b p i + arms_update as' p i

    pub procs_update : (qs : List Procedure) → procs_update_sum of (map change qs) ≡
        procs_update_sum of qs
    procs_update [] = refl
    procs_update (q ∷ qs) = λ i. code_updates q.body None i + procs_update qs i
