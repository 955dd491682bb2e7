-- What stands in the text of a program without some cells, and how much.
use Rattle.std.proofs.Common.{◌≡◌, ℕ, suc, ◌+◌, ◌≤◌, Bool, true, false, cond, List, [], ◌∷◌, map, length, refl, sym, ap, subst, arith}
use Rattle.std.specs.Prelude.{pos}
use Rattle.std.proofs.lemmas.List.{length-map}
use Rattle.grin_syntax.specs.declared.program.Cell.{Cell}
use Rattle.grin_syntax.specs.declared.program.Val.{Val}
use Rattle.grin_syntax.specs.declared.program.Val.TheVariants.{NodeVar, Node, Vector, One}
use Rattle.grin_syntax.specs.declared.program.Word.{Word}
use Rattle.grin_syntax.specs.declared.program.Word.TheVariants.{Lit, Var, Global, TagWord}
use Rattle.grin_syntax.specs.Tree.{Code, end, store, bind, Act, leaf, unit, fetch, fetch_word, update, eval, apply, call, prim, read, write, case, nested, fail, Arms, no_arm, arm, Procedure}
use Rattle.grin_syntax.specs.Formed.{AllOf}
use Rattle.grin_syntax.specs.SameOutside.{names_of}
use Rattle.grin_meaning.specs.Ready.{EachAct, EachCode, EachArms, NoNodeVar, NarrowAct, NarrowCode, NarrowArms, val_width, PieceKind, EveryBodyIsOfKind, inlined_kind, without_node_fetches, vectorised_kind, narrow_kind}
use Rattle.grin_meaning.specs.Slim.{val_weight, cells_weight, act_weight, code_weight, arms_weight, procs_weight, act_calls, code_calls, arms_calls, procs_calls, node_words, end_words, inner_words, code_words, arms_words, procedure_words}
use Rattle.pass_ground.specs.OpenUpdates.{variable_of, tag_variable, act_update_sum, code_update_sum, arms_update_sum, procs_update_sum, one_if_some}
use Rattle.grin_syntax.specs.Binders.{act_sites, code_sites, arms_sites, procs_sites}
use Rattle.seq.proofs.Lists.{all_append}
use Rattle.dead_store.specs.Without.{without_word, without_val, kept_cell, kept_cells, store_if_any, without_act, without_code, without_arms, without_procs}

module _ (stays gone : ℕ → Bool) where
  -- ---- what is asked of each operation and each value stays so

  record Stays (K : PieceKind) : Type 0 where
    pub operations : (o : Act) → K.operation o → K.operation (without_act stays gone o)
    pub values : (v : Val) → K.value v → K.value (without_val gone v)

  module _ (K : PieceKind) (s : Stays K) where
    cells_each : (cs : List Cell) → AllOf (λ c. K.value c.val) cs
        → AllOf (λ c. K.value c.val) (kept_cells stays gone cs)
    cells_each [] h = tt
    cells_each (c ∷ cs) h = go (stays c.site.0) (cells_each cs h.1)
      where
        go : (b : Bool) → AllOf (λ c. K.value c.val) (kept_cells stays gone cs)
            → AllOf (λ c. K.value c.val)
            (cond b (kept_cell gone c ∷ kept_cells stays gone cs) (kept_cells stays gone cs))
        go true r = (s.values c.val h.0, r)
        go false r = r

    store_each : (cs : List Cell) (b : Code) → AllOf (λ c. K.value c.val) cs → EachCode K b
        → EachCode K (store_if_any cs b)
    unfolding EachAct
    store_each [] b h k = k
    store_each (c ∷ cs) b h k = (h, k)

    mutual
      unfolding without_act EachAct

      act_each : (o : Act) → EachAct K o → EachAct K (without_act stays gone o)
      act_each (case v as') h = (s.operations (case v as') h.0, s.values v h.1, arms_each as' h.2)
      act_each (nested b) h = (s.operations (nested b) h.0, code_each b h.1)
      act_each (leaf (unit v)) h = (s.operations (leaf (unit v)) h.0, s.values v h.1)
      act_each (leaf (update a v)) h = (s.operations (leaf (update a v)) h.0, s.values v h.1)
      act_each (leaf (apply v a)) h = (s.operations (leaf (apply v a)) h.0, s.values v h.1)
      act_each (leaf (fetch a)) h = s.operations (leaf (fetch a)) h
      act_each (leaf (fetch_word a i)) h = s.operations (leaf (fetch_word a i)) h
      act_each (leaf (eval a)) h = s.operations (leaf (eval a)) h
      act_each (leaf (call f ws)) h = s.operations (leaf (call f ws)) h
      act_each (leaf (prim f a b)) h = s.operations (leaf (prim f a b)) h
      act_each (leaf read) h = s.operations (leaf read) h
      act_each (leaf (write a)) h = s.operations (leaf (write a)) h
      act_each (leaf fail) h = s.operations (leaf fail) h

      code_each : (b : Code) → EachCode K b → EachCode K (without_code stays gone b)
      code_each (end o) h = act_each o h
      code_each (store cs b) h = store_each (kept_cells stays gone cs) (without_code stays gone b)
          (cells_each cs h.0) (code_each b h.1)
      code_each (bind t o b) h = (h.0, act_each o h.1, code_each b h.2)

      arms_each : (as' : Arms) → EachArms K as' → EachArms K (without_arms stays gone as')
      arms_each no_arm h = tt
      arms_each (arm p b as') h = (h.0, code_each b h.1, arms_each as' h.2)

    procs_each : (qs : List Procedure) → EveryBodyIsOfKind K qs
        → EveryBodyIsOfKind K (without_procs stays gone qs)
    procs_each [] h = tt
    procs_each (q ∷ qs) h = (code_each q.body h.0, procs_each qs h.1)

  inlined_stays : Stays inlined_kind
  unfolding without_act
  inlined_stays = record { operations = go; values = λ v h. h }
    where
      go : (o : Act) → inlined_kind.operation o → inlined_kind.operation (without_act stays gone o)
      go (leaf (unit v)) h = tt
      go (leaf (fetch a)) h = tt
      go (leaf (fetch_word a i)) h = tt
      go (leaf (update a v)) h = tt
      go (leaf (eval a)) h = h
      go (leaf (apply v a)) h = h
      go (leaf (call f ws)) h = tt
      go (leaf (prim f a b)) h = tt
      go (leaf read) h = tt
      go (leaf (write a)) h = tt
      go (case v as') h = tt
      go (nested b) h = tt
      go (leaf fail) h = tt

  words_stay : Stays without_node_fetches
  unfolding without_act
  words_stay = record { operations = go; values = λ v h. h }
    where
      go : (o : Act) → without_node_fetches.operation o
          → without_node_fetches.operation (without_act stays gone o)
      go (leaf (unit v)) h = tt
      go (leaf (fetch a)) h = h
      go (leaf (fetch_word a i)) h = tt
      go (leaf (update a v)) h = tt
      go (leaf (eval a)) h = tt
      go (leaf (apply v a)) h = tt
      go (leaf (call f ws)) h = tt
      go (leaf (prim f a b)) h = tt
      go (leaf read) h = tt
      go (leaf (write a)) h = tt
      go (case v as') h = tt
      go (nested b) h = tt
      go (leaf fail) h = tt

  no_node_var : (v : Val) → NoNodeVar v → NoNodeVar (without_val gone v)
  no_node_var (NodeVar x) h = h
  no_node_var (Node t ws) h = tt
  no_node_var (Vector ws) h = tt
  no_node_var (One a) h = tt

  pub procs_inlined : (qs : List Procedure) → EveryBodyIsOfKind inlined_kind qs
      → EveryBodyIsOfKind inlined_kind (without_procs stays gone qs)
  procs_inlined = procs_each inlined_kind inlined_stays

  pub procs_by_words : (qs : List Procedure) → EveryBodyIsOfKind without_node_fetches qs
      → EveryBodyIsOfKind without_node_fetches (without_procs stays gone qs)
  procs_by_words = procs_each without_node_fetches words_stay

  pub procs_vectorised : (qs : List Procedure) → EveryBodyIsOfKind vectorised_kind qs
      → EveryBodyIsOfKind vectorised_kind (without_procs stays gone qs)
  procs_vectorised = procs_each vectorised_kind
      (record { operations = λ o h. tt; values = no_node_var })

  pub procs_narrow : (most : ℕ) (qs : List Procedure) → EveryBodyIsOfKind (narrow_kind most) qs
      → EveryBodyIsOfKind (narrow_kind most) (without_procs stays gone qs)
  procs_narrow most = procs_each (narrow_kind most)
      (record { operations = λ o h. tt; values = λ v h. tt })

  -- ---- how many words are given

  width_stays : (k : ℕ) (v : Val) → val_width k (without_val gone v) ≡ val_width k v
  width_stays k (NodeVar x) = refl
  width_stays k (Node t ws) = refl
  width_stays k (Vector ws) = length-map ws (without_word gone)
  width_stays k (One a) = refl

  module _ (k most : ℕ) where
    store_gives : (cs : List Cell) (b : Code) → NarrowCode k most b
        → NarrowCode k most (store_if_any cs b)
    unfolding NarrowAct
    store_gives [] b h = h
    store_gives (c ∷ cs) b h = h

    mutual
      unfolding without_act NarrowAct

      act_gives : (o : Act) → NarrowAct k most o → NarrowAct k most (without_act stays gone o)
      act_gives (leaf (unit v)) h = subst (λ n. n ≤ most) (sym (width_stays k v)) h
      act_gives (leaf (fetch a)) h = h
      act_gives (leaf (fetch_word a i)) h = tt
      act_gives (leaf (update a v)) h = tt
      act_gives (leaf (eval a)) h = tt
      act_gives (leaf (apply v a)) h = tt
      act_gives (leaf (call f ws)) h = tt
      act_gives (leaf (prim f a b)) h = tt
      act_gives (leaf read) h = tt
      act_gives (leaf (write a)) h = tt
      act_gives (case v as') h = arms_give as' h
      act_gives (nested b) h = code_gives b h
      act_gives (leaf fail) h = tt

      code_gives : (b : Code) → NarrowCode k most b → NarrowCode k most (without_code stays gone b)
      code_gives (end o) h = act_gives o h
      code_gives (store cs b) h = store_gives (kept_cells stays gone cs) (without_code stays gone b)
          (code_gives b h)
      code_gives (bind t o b) h = code_gives b h

      arms_give : (as' : Arms) → NarrowArms k most as'
          → NarrowArms k most (without_arms stays gone as')
      arms_give no_arm h = tt
      arms_give (arm p b as') h = (code_gives b h.0, arms_give as' h.1)

    pub procs_give : (qs : List Procedure) → AllOf (λ q. NarrowCode k most q.body) qs
        → AllOf (λ q. NarrowCode k most q.body) (without_procs stays gone qs)
    procs_give [] h = tt
    procs_give (q ∷ qs) h = (code_gives q.body h.0, procs_give qs h.1)

  pub procs_params : (most : ℕ) (qs : List Procedure) → AllOf (λ q. length q.params ≤ most) qs
      → AllOf (λ q. length q.params ≤ most) (without_procs stays gone qs)
  procs_params most [] h = tt
  procs_params most (q ∷ qs) h = (h.0, procs_params most qs h.1)

  pub names_stay : (qs : List Procedure) → names_of (without_procs stays gone qs) ≡ names_of qs
  names_stay [] = refl
  names_stay (q ∷ qs) = ap (λ ns. q.name ∷ ns) (names_stay qs)

  -- ---- updates whose tag is a variable

  abbrev count : Val → ℕ
  count v = one_if_some (tag_variable v)

  word_counts : (a : Word) → one_if_some (variable_of (without_word gone a)) ≤ one_if_some
      (variable_of a)
  word_counts (Lit k) = omega arith
  word_counts (Global i) = omega arith
  word_counts (TagWord t) = omega arith
  word_counts (Var x) = go (gone x.0)
    where
      go : (b : Bool) → one_if_some (variable_of (cond b (Lit (pos 0)) (Var x))) ≤ 1
      go true = omega arith
      go false = omega arith

  val_counts : (v : Val) → count (without_val gone v) ≤ count v
  val_counts (NodeVar x) = omega arith
  val_counts (Node t ws) = omega arith
  val_counts (Vector []) = omega arith
  val_counts (Vector (a ∷ ws)) = word_counts a
  val_counts (One a) = word_counts a

  store_counts : (cs : List Cell) (b : Code) → code_update_sum count (store_if_any cs b) ≡
      code_update_sum count b
  unfolding act_update_sum
  store_counts [] b = refl
  store_counts (c ∷ cs) b = refl

  mutual
    unfolding without_act act_update_sum

    act_counts : (o : Act) → act_update_sum count (without_act stays gone o) ≤ act_update_sum count
        o
    act_counts (leaf (update a v)) = val_counts v
    act_counts (case v as') = arms_count as'
    act_counts (nested b) = code_counts b
    act_counts (leaf (unit v)) = omega arith
    act_counts (leaf (fetch a)) = omega arith
    act_counts (leaf (fetch_word a i)) = omega arith
    act_counts (leaf (eval a)) = omega arith
    act_counts (leaf (apply v a)) = omega arith
    act_counts (leaf (call f ws)) = omega arith
    act_counts (leaf (prim f a b)) = omega arith
    act_counts (leaf read) = omega arith
    act_counts (leaf (write a)) = omega arith
    act_counts (leaf fail) = omega arith

    code_counts : (b : Code) → code_update_sum count (without_code stays gone b) ≤ code_update_sum
        count b
    code_counts (end o) = act_counts o
    code_counts (store cs b) = subst (λ n. n ≤ code_update_sum count b)
        (sym (store_counts (kept_cells stays gone cs) (without_code stays gone b))) (code_counts b)
    code_counts (bind t o b) =
        let l : act_update_sum count (without_act stays gone o) ≤ act_update_sum count o
        = act_counts o in
        let k : code_update_sum count (without_code stays gone b) ≤ code_update_sum count b
        = code_counts b in
        omega (arith, l, k)

    arms_count : (as' : Arms) → arms_update_sum count (without_arms stays gone as') ≤
        arms_update_sum count as'
    arms_count no_arm = omega arith
    arms_count (arm p b as') =
        let l : code_update_sum count (without_code stays gone b) ≤ code_update_sum count b
        = code_counts b in
        let k : arms_update_sum count (without_arms stays gone as') ≤ arms_update_sum count as'
        = arms_count as' in
        omega (arith, l, k)

  pub procs_count : (qs : List Procedure) → procs_update_sum (λ v. one_if_some (tag_variable v))
      (without_procs stays gone qs) ≤ procs_update_sum (λ v. one_if_some (tag_variable v)) qs
  procs_count [] = omega arith
  procs_count (q ∷ qs) =
      let l : code_update_sum count (without_code stays gone q.body) ≤ code_update_sum count q.body
      = code_counts q.body in
      let k : procs_update_sum count (without_procs stays gone qs) ≤ procs_update_sum count qs
      = procs_count qs in
      omega (arith, l, k)

  -- ---- the size

  weight_stays : (v : Val) → val_weight (without_val gone v) ≡ val_weight v
  weight_stays (NodeVar x) = refl
  weight_stays (Node t ws) = refl
  weight_stays (Vector ws) = length-map ws (without_word gone)
  weight_stays (One a) = refl

  cells_lighter : (cs : List Cell) → cells_weight (kept_cells stays gone cs) ≤ cells_weight cs
  cells_lighter [] = omega arith
  cells_lighter (c ∷ cs) = go (stays c.site.0) (cells_lighter cs) (weight_stays c.val)
    where
      go : (b : Bool) → cells_weight (kept_cells stays gone cs) ≤ cells_weight cs
          → val_weight (without_val gone c.val) ≡ val_weight c.val
          → cells_weight
          (cond b (kept_cell gone c ∷ kept_cells stays gone cs) (kept_cells stays gone cs)) ≤ 17
          + val_weight c.val + cells_weight cs
      go true l e = omega (arith, l, e)
      go false l e = omega (arith, l)

  store_weighs : (cs : List Cell) (b : Code) → code_weight (store_if_any cs b) ≡ cells_weight cs +
      code_weight b
  unfolding act_weight
  store_weighs [] b = omega arith
  store_weighs (c ∷ cs) b = refl

  mutual
    unfolding without_act act_weight

    act_lighter : (o : Act) → act_weight (without_act stays gone o) ≤ act_weight o
    act_lighter (leaf (unit v)) = let e : val_weight (without_val gone v) ≡ val_weight v
        = weight_stays v in omega (arith, e)
    act_lighter (leaf (fetch a)) = omega arith
    act_lighter (leaf (fetch_word a i)) = omega arith
    act_lighter (leaf (update a v)) = let e : val_weight (without_val gone v) ≡ val_weight v
        = weight_stays v in omega (arith, e)
    act_lighter (leaf (eval a)) = omega arith
    act_lighter (leaf (apply v a)) = let e : val_weight (without_val gone v) ≡ val_weight v
        = weight_stays v in omega (arith, e)
    act_lighter (leaf (call f ws)) = let e : length (map (without_word gone) ws) ≡ length ws
        = length-map ws (without_word gone) in omega (arith, e)
    act_lighter (leaf (prim f a b)) = omega arith
    act_lighter (leaf read) = omega arith
    act_lighter (leaf (write a)) = omega arith
    act_lighter (case v as') =
        let e : val_weight (without_val gone v) ≡ val_weight v = weight_stays v in
        let l : arms_weight (without_arms stays gone as') ≤ arms_weight as' = arms_lighter as' in
        omega (arith, e, l)
    act_lighter (nested b) = let l : code_weight (without_code stays gone b) ≤ code_weight b
        = code_lighter b in omega (arith, l)
    act_lighter (leaf fail) = omega arith

    code_lighter : (b : Code) → code_weight (without_code stays gone b) ≤ code_weight b
    code_lighter (end o) = act_lighter o
    code_lighter (store cs b) =
        let e : code_weight (store_if_any (kept_cells stays gone cs) (without_code stays gone b)) ≡
        cells_weight (kept_cells stays gone cs) + code_weight (without_code stays gone b)
        = store_weighs (kept_cells stays gone cs) (without_code stays gone b) in
        let k : cells_weight (kept_cells stays gone cs) ≤ cells_weight cs = cells_lighter cs in
        let l : code_weight (without_code stays gone b) ≤ code_weight b = code_lighter b in
        omega (arith, e, k, l)
    code_lighter (bind t o b) =
        let k : act_weight (without_act stays gone o) ≤ act_weight o = act_lighter o in
        let l : code_weight (without_code stays gone b) ≤ code_weight b = code_lighter b in
        omega (arith, k, l)

    arms_lighter : (as' : Arms) → arms_weight (without_arms stays gone as') ≤ arms_weight as'
    arms_lighter no_arm = omega arith
    arms_lighter (arm p b as') =
        let k : code_weight (without_code stays gone b) ≤ code_weight b = code_lighter b in
        let l : arms_weight (without_arms stays gone as') ≤ arms_weight as' = arms_lighter as' in
        omega (arith, k, l)

  pub procs_lighter : (qs : List Procedure) → procs_weight (without_procs stays gone qs) ≤
      procs_weight qs
  procs_lighter [] = omega arith
  procs_lighter (q ∷ qs) =
      let k : code_weight (without_code stays gone q.body) ≤ code_weight q.body
      = code_lighter q.body in
      let l : procs_weight (without_procs stays gone qs) ≤ procs_weight qs = procs_lighter qs in
      omega (arith, k, l)

  store_calls : (cs : List Cell) (b : Code) → code_calls (store_if_any cs b) ≡ code_calls b
  unfolding act_calls
  store_calls [] b = refl
  store_calls (c ∷ cs) b = refl

  mutual
    unfolding without_act act_calls

    act_calls_fewer : (o : Act) → act_calls (without_act stays gone o) ≤ act_calls o
    act_calls_fewer (leaf (unit v)) = omega arith
    act_calls_fewer (leaf (fetch a)) = omega arith
    act_calls_fewer (leaf (fetch_word a i)) = omega arith
    act_calls_fewer (leaf (update a v)) = omega arith
    act_calls_fewer (leaf (eval a)) = omega arith
    act_calls_fewer (leaf (apply v a)) = omega arith
    act_calls_fewer (leaf (call f ws)) = omega arith
    act_calls_fewer (leaf (prim f a b)) = omega arith
    act_calls_fewer (leaf read) = omega arith
    act_calls_fewer (leaf (write a)) = omega arith
    act_calls_fewer (case v as') = arms_calls_fewer as'
    act_calls_fewer (nested b) = code_calls_fewer b
    act_calls_fewer (leaf fail) = omega arith

    code_calls_fewer : (b : Code) → code_calls (without_code stays gone b) ≤ code_calls b
    code_calls_fewer (end o) = act_calls_fewer o
    code_calls_fewer (store cs b) = subst (λ n. n ≤ code_calls b)
        (sym (store_calls (kept_cells stays gone cs) (without_code stays gone b)))
        (code_calls_fewer b)
    code_calls_fewer (bind t o b) =
        let k : act_calls (without_act stays gone o) ≤ act_calls o = act_calls_fewer o in
        let l : code_calls (without_code stays gone b) ≤ code_calls b = code_calls_fewer b in
        omega (arith, k, l)

    arms_calls_fewer : (as' : Arms) → arms_calls (without_arms stays gone as') ≤ arms_calls as'
    arms_calls_fewer no_arm = omega arith
    arms_calls_fewer (arm p b as') =
        let k : code_calls (without_code stays gone b) ≤ code_calls b = code_calls_fewer b in
        let l : arms_calls (without_arms stays gone as') ≤ arms_calls as' = arms_calls_fewer as' in
        omega (arith, k, l)

  pub procs_calls_fewer : (qs : List Procedure) → procs_calls (without_procs stays gone qs) ≤
      procs_calls qs
  procs_calls_fewer [] = omega arith
  procs_calls_fewer (q ∷ qs) =
      let k : code_calls (without_code stays gone q.body) ≤ code_calls q.body
      = code_calls_fewer q.body in
      let l : procs_calls (without_procs stays gone qs) ≤ procs_calls qs = procs_calls_fewer qs in
      omega (arith, k, l)

  kept_length : (cs : List Cell) → length (kept_cells stays gone cs) ≤ length cs
  kept_length [] = omega arith
  kept_length (c ∷ cs) = go (stays c.site.0) (kept_length cs)
    where
      go : (b : Bool) → length (kept_cells stays gone cs) ≤ length cs
          → length (cond b (kept_cell gone c ∷ kept_cells stays gone cs) (kept_cells stays gone cs))
          ≤ suc (length cs)
      go true l = omega (arith, l)
      go false l = omega (arith, l)

  store_words : (cs : List Cell) (b : Code) → code_words (store_if_any cs b) ≡ length cs +
      code_words b
  unfolding inner_words
  store_words [] b = omega arith
  store_words (c ∷ cs) b = refl

  node_words_stay : (o : Act) → (node_words (without_act stays gone o) ≡ node_words o)
      × (end_words (without_act stays gone o) ≡ end_words o)
  unfolding without_act
  node_words_stay (leaf (unit v)) = (refl, refl)
  node_words_stay (leaf (fetch a)) = (refl, refl)
  node_words_stay (leaf (fetch_word a i)) = (refl, refl)
  node_words_stay (leaf (update a v)) = (refl, refl)
  node_words_stay (leaf (eval a)) = (refl, refl)
  node_words_stay (leaf (apply v a)) = (refl, refl)
  node_words_stay (leaf (call f ws)) = (refl, refl)
  node_words_stay (leaf (prim f a b)) = (refl, refl)
  node_words_stay (leaf read) = (refl, refl)
  node_words_stay (leaf (write a)) = (refl, refl)
  node_words_stay (case v as') = (refl, refl)
  node_words_stay (nested b) = (refl, refl)
  node_words_stay (leaf fail) = (refl, refl)

  mutual
    unfolding without_act inner_words

    act_fewer : (o : Act) → inner_words (without_act stays gone o) ≤ inner_words o
    act_fewer (case v as') = arms_fewer as'
    act_fewer (nested b) = code_fewer b
    act_fewer (leaf (unit v)) = omega arith
    act_fewer (leaf (fetch a)) = omega arith
    act_fewer (leaf (fetch_word a i)) = omega arith
    act_fewer (leaf (update a v)) = omega arith
    act_fewer (leaf (eval a)) = omega arith
    act_fewer (leaf (apply v a)) = omega arith
    act_fewer (leaf (call f ws)) = omega arith
    act_fewer (leaf (prim f a b)) = omega arith
    act_fewer (leaf read) = omega arith
    act_fewer (leaf (write a)) = omega arith
    act_fewer (leaf fail) = omega arith

    code_fewer : (b : Code) → code_words (without_code stays gone b) ≤ code_words b
    code_fewer (end o) =
        let e : end_words (without_act stays gone o) ≡ end_words o = (node_words_stay o).1 in
        let l : inner_words (without_act stays gone o) ≤ inner_words o = act_fewer o in
        omega (arith, e, l)
    code_fewer (store cs b) =
        let e : code_words (store_if_any (kept_cells stays gone cs) (without_code stays gone b)) ≡
        length (kept_cells stays gone cs) + code_words (without_code stays gone b)
        = store_words (kept_cells stays gone cs) (without_code stays gone b) in
        let k : length (kept_cells stays gone cs) ≤ length cs = kept_length cs in
        let l : code_words (without_code stays gone b) ≤ code_words b = code_fewer b in
        omega (arith, e, k, l)
    code_fewer (bind t o b) =
        let e : node_words (without_act stays gone o) ≡ node_words o = (node_words_stay o).0 in
        let k : inner_words (without_act stays gone o) ≤ inner_words o = act_fewer o in
        let l : code_words (without_code stays gone b) ≤ code_words b = code_fewer b in
        omega (arith, e, k, l)

    arms_fewer : (as' : Arms) → arms_words (without_arms stays gone as') ≤ arms_words as'
    arms_fewer no_arm = omega arith
    arms_fewer (arm p b as') =
        let k : code_words (without_code stays gone b) ≤ code_words b = code_fewer b in
        let l : arms_words (without_arms stays gone as') ≤ arms_words as' = arms_fewer as' in
        omega (arith, k, l)

  pub procs_words : (most : ℕ) (qs : List Procedure) → AllOf (λ q. procedure_words q ≤ most) qs
      → AllOf (λ q. procedure_words q ≤ most) (without_procs stays gone qs)
  procs_words most [] h = tt
  procs_words most (q ∷ qs) h = (
    let k : code_words (without_code stays gone q.body) ≤ code_words q.body = code_fewer q.body in
        let l : length q.params + code_words q.body ≤ most = h.0 in
        omega (arith, k, l),
    procs_words most qs h.1,
  )

  -- ---- the sites of the cells that are left

  abbrev StaysAt : ℕ → Type 0
  StaysAt s = stays s ≡ true

  cells_left_stay : (cs : List Cell) → AllOf StaysAt
      (map (λ c. c.site.0) (kept_cells stays gone cs))
  cells_left_stay [] = tt
  cells_left_stay (c ∷ cs) = go (stays c.site.0) refl (cells_left_stay cs)
    where
      go : (b : Bool) → stays c.site.0 ≡ b → AllOf StaysAt
          (map (λ c. c.site.0) (kept_cells stays gone cs))
          → AllOf StaysAt
          (map (λ c. c.site.0)
          (cond b (kept_cell gone c ∷ kept_cells stays gone cs) (kept_cells stays gone cs)))
      go true e r = (e, r)
      go false e r = r

  store_stays : (cs : List Cell) (b : Code) → AllOf StaysAt (map (λ c. c.site.0) cs)
      → AllOf StaysAt (code_sites b) → AllOf StaysAt (code_sites (store_if_any cs b))
  unfolding act_sites
  store_stays [] b h k = k
  store_stays (c ∷ cs) b h k = all_append StaysAt (map (λ c. c.site.0) (c ∷ cs)) (code_sites b) h k

  mutual
    unfolding without_act act_sites

    act_sites_stay : (o : Act) → AllOf StaysAt (act_sites (without_act stays gone o))
    act_sites_stay (case v as') = arms_sites_stay as'
    act_sites_stay (nested b) = code_sites_stay b
    act_sites_stay (leaf (unit v)) = tt
    act_sites_stay (leaf (fetch a)) = tt
    act_sites_stay (leaf (fetch_word a i)) = tt
    act_sites_stay (leaf (update a v)) = tt
    act_sites_stay (leaf (eval a)) = tt
    act_sites_stay (leaf (apply v a)) = tt
    act_sites_stay (leaf (call f ws)) = tt
    act_sites_stay (leaf (prim f a b)) = tt
    act_sites_stay (leaf read) = tt
    act_sites_stay (leaf (write a)) = tt
    act_sites_stay (leaf fail) = tt

    code_sites_stay : (b : Code) → AllOf StaysAt (code_sites (without_code stays gone b))
    code_sites_stay (end o) = act_sites_stay o
    code_sites_stay (store cs b) = store_stays (kept_cells stays gone cs)
        (without_code stays gone b) (cells_left_stay cs) (code_sites_stay b)
    code_sites_stay (bind t o b) =
        all_append StaysAt (act_sites (without_act stays gone o))
        (code_sites (without_code stays gone b)) (act_sites_stay o) (code_sites_stay b)

    arms_sites_stay : (as' : Arms) → AllOf StaysAt (arms_sites (without_arms stays gone as'))
    arms_sites_stay no_arm = tt
    arms_sites_stay (arm p b as') = all_append StaysAt (code_sites (without_code stays gone b))
        (arms_sites (without_arms stays gone as')) (code_sites_stay b) (arms_sites_stay as')

  pub procs_sites_stay : (qs : List Procedure) → AllOf (λ s. stays s ≡ true)
      (procs_sites (without_procs stays gone qs))
  procs_sites_stay [] = tt
  procs_sites_stay (q ∷ qs) = all_append StaysAt (code_sites (without_code stays gone q.body))
      (procs_sites (without_procs stays gone qs)) (code_sites_stay q.body) (procs_sites_stay qs)
