-- What stands in the text of a program with its fetches split.
use Rattle.std.proofs.Common.{◌≡◌, ℕ, suc, pos, ◌+◌, ◌≤◌, Bool, true, false, List, [], ◌∷◌, ◌++◌, map, length, refl, sym, ap, ◌∙◌, subst}
use Rattle.std.proofs.lemmas.List.{length-map}
use Rattle.grin_syntax.specs.declared.program.VarId.{VarId}
use Rattle.grin_syntax.specs.declared.program.TagId.{TagId}
use Rattle.grin_syntax.specs.declared.program.Tag.{Tag}
use Rattle.grin_syntax.specs.declared.program.Cell.{Cell}
use Rattle.grin_syntax.specs.declared.program.Word as W
use Rattle.grin_syntax.specs.declared.program.Word.TheVariants.{Lit}
use Rattle.grin_syntax.specs.declared.program.Val as V
use Rattle.grin_syntax.specs.declared.program.Val.TheVariants.{NodeVar, Node, Vector, One}
use Rattle.grin_syntax.specs.declared.program.Target as T
use Rattle.grin_syntax.specs.declared.program.Target.TheVariants as to
use Rattle.grin_syntax.specs.Tree.{Code, end, store, bind, Act, leaf, unit, fetch, fetch_word, update, apply, case, nested, Arms, no_arm, arm, Procedure}
use Rattle.grin_syntax.specs.Binders.{shape_vars, act_sites, code_sites, arms_sites, procs_sites}
use Rattle.grin_syntax.specs.Formed.{AllOf}
use Rattle.grin_syntax.specs.SameOutside.{names_of}
use Rattle.grin_syntax.specs.Fresh.{variable, variables}
use Rattle.grin_meaning.specs.Checks.{is_fetch}
use Rattle.grin_meaning.specs.Ready.{EachAct, EachCode, EachArms, NarrowAct, NarrowCode, NarrowArms, val_width, most_fields, PieceKind, EveryBodyIsOfKind}
use Rattle.pass_ground.specs.Uses.{code_uses}
use Rattle.fetch_passes.specs.Windows.{outside}
use Rattle.fetch_passes.specs.Names.{Names, DeferredField, as_val, as_cells}
use Rattle.fetch_passes.specs.Waits.{deferred_fields_after}
use Rattle.fetch_passes.specs.Split.{fetched_if, word_fetches, front, front_names, names_after, cell_after, fetch_all_words, node_arms, whole_node, split_act, split_code, split_arms, split_procs, made_act, made_code}

-- ---- facts of each operation

module _ (ts : List Tag) (K K' : PieceKind)
    (keep : (o : Act) (ks : Names) (a : W.Word) (ps : List DeferredField) (n : ℕ)
    → is_fetch o ≡ false → K.operation o → K'.operation (split_act ts ks a ps n o))
    (word : (a : W.Word) (i : ℕ) → K'.operation (leaf (fetch_word a i)))
    (whole : (v : V.Val) (as' : Arms) → K'.operation (case v as'))
    (given : (v : V.Val) → K'.operation (leaf (unit v)))
    (target : (t : T.Target) → K.target t → K'.target t) (one : (x : VarId) → K'.target (to.One x))
    (val : (ks : Names) (v : V.Val) → K.value v → K'.value (as_val ks v))
    (made : (t : TagId) (ws : List W.Word) → K'.value (Node t ws))
    (vector : (ws : List W.Word) → K'.value (Vector ws))
    (shape : (xs : List ℕ) → K.pattern xs → K'.pattern xs) (no_shape : K'.pattern []) where
  abbrev Code' : Code → Type 0
  Code' = EachCode K'

  each_fetch : (o : Bool) (x : VarId) (a : W.Word) (i : ℕ) (c : Code) → Code' c
      → Code' (fetched_if o x a i c)
  unfolding EachAct
  each_fetch true x a i c h = (one x, word a i, h)
  each_fetch false x a i c h = h

  each_words : (t : ℕ) (b : Code) (a : W.Word) (i : ℕ) (xs : List VarId) (c : Code) → Code' c
      → Code' (word_fetches t b a i xs c)
  each_words t b a i [] c h = h
  each_words t b a i (x ∷ xs) c h = each_fetch (outside t x.0 b) x a i
      (word_fetches t b a (suc i) xs c) (each_words t b a (suc i) xs c h)

  each_front : (a : W.Word) (n : ℕ) (ps : List DeferredField) (b c : Code) → Code' c
      → Code' (front a n ps b c)
  each_front a n [] b c h = h
  each_front a n (p ∷ ps) b c h = each_fetch (code_uses p.var.0 b) (variable n) a p.place
      (front a (suc n) ps b c) (each_front a (suc n) ps b c h)

  each_all : (a : W.Word) (i : ℕ) (xs : List VarId) (c : Code) → Code' c
      → Code' (fetch_all_words a i xs c)
  unfolding EachAct
  each_all a i [] c h = h
  each_all a i (x ∷ xs) c h = (one x, word a i, each_all a (suc i) xs c h)

  each_nodes : (xs : List VarId) (i : ℕ) (us : List Tag) → EachArms K' (node_arms xs i us)
  unfolding EachAct
  each_nodes xs i [] = tt
  each_nodes xs i (u ∷ us) = (no_shape, (given _, made _ _), each_nodes xs (suc i) us)

  each_whole : (n : ℕ) (a : W.Word) → Code' (whole_node ts n a)
  unfolding EachAct
  each_whole n a = each_all a 0 (variables n (suc (most_fields ts))) _
      (whole _ _, vector _, each_nodes (variables (suc n) (most_fields ts)) 0 ts)

  each_cells : (ks : Names) (cs : List Cell) → AllOf (λ c. K.value c.val) cs
      → AllOf (λ c. K'.value c.val) (as_cells ks cs)
  each_cells ks [] h = tt
  each_cells ks (c ∷ cs) h = (val ks c.val h.0, each_cells ks cs h.1)

  mutual
    unfolding split_act EachAct made_act

    each_act : (o : Act) (ks : Names) (a : W.Word) (ps : List DeferredField) (n : ℕ)
        → is_fetch o ≡ false → EachAct K o → EachAct K' (split_act ts ks a ps n o)
    each_act (case v as') ks a ps n e h =
        (keep (case v as') ks a ps n e h.0, val ks v h.1, each_arms as' ks a ps n h.2)
    each_act (nested b) ks a ps n e h = (keep (nested b) ks a ps n e h.0, each_code b ks a [] n h.1)
    each_act (leaf (unit v)) ks a ps n e h = (keep (leaf (unit v)) ks a ps n e h.0, val ks v h.1)
    each_act (leaf (update w v)) ks a ps n e h =
        (keep (leaf (update w v)) ks a ps n e h.0, val ks v h.1)
    each_act (leaf (apply v w)) ks a ps n e h =
        (keep (leaf (apply v w)) ks a ps n e h.0, val ks v h.1)
    each_act (leaf (fetch c)) ks a ps n e h = cc
    each_act o ks a ps n e h = keep o ks a ps n e h

    pub each_code : (b : Code) (ks : Names) (a : W.Word) (ps : List DeferredField) (n : ℕ)
        → EachCode K b → Code' (split_code ts ks a ps n b)
    each_code (end (leaf (fetch c))) ks a ps n h = each_whole n _
    each_code (end o) ks a ps n h = each_act o ks a ps n refl h
    each_code (store cs b) ks a ps n h = (each_cells ks cs h.0, each_code b ks a [] n h.1)
    each_code (bind (to.Vector (x ∷ xs)) (leaf (fetch c)) b) ks a ps n h
        = (one x, word _ 0, each_words x.0 b _ 1 xs _ (each_code b _ _ _ (n + 0) h.2))
    each_code (bind (to.Vector []) (leaf (fetch c)) b) ks a ps n h
        = (target (to.Vector []) h.0, word _ 0, each_code b _ _ _ (n + 0) h.2)
    each_code (bind to.Nothing (leaf (fetch c)) b) ks a ps n h
        = (target to.Nothing h.0, word _ 0, each_code b _ _ _ (n + 0) h.2)
    each_code (bind (to.One y) (leaf (fetch c)) b) ks a ps n h
        = (target (to.One y) h.0, word _ 0, each_code b _ _ _ (n + 0) h.2)
    each_code (bind (to.Node y) (leaf (fetch c)) b) ks a ps n h
        = (target (to.Node y) h.0, word _ 0, each_code b _ _ _ (n + 0) h.2)
    each_code (bind t o b) ks a ps n h =
        (target t h.0, each_act o ks a ps n refl h.1, each_code b _ _ _ (n + made_act ts ps o) h.2)

    each_arms : (as' : Arms) (ks : Names) (a : W.Word) (ps : List DeferredField) (n : ℕ)
        → EachArms K as' → EachArms K' (split_arms ts ks a ps n as')
    each_arms no_arm ks a ps n h = tt
    each_arms (arm s b as') ks a ps n h = (
      shape (shape_vars s) h.0,
      each_front a n ps b _ (each_code b _ a [] (n + length ps) h.1),
      each_arms as' ks a ps (n + length ps + made_code ts [] b) h.2,
    )

  pub each_proc : (qs : List Procedure) (n : ℕ) → EveryBodyIsOfKind K qs
      → AllOf (λ q. Code' q.body) (split_procs ts n qs)
  each_proc [] n h = tt
  each_proc (q ∷ qs) n h =
      (each_code q.body [] (Lit (pos 0)) [] n h.0, each_proc qs (n + made_code ts [] q.body) h.1)

-- ---- how many words are given

module _ (ts : List Tag) (width most : ℕ) where
  narrow_val : (ks : Names) (v : V.Val) → val_width width v ≤ most
      → val_width width (as_val ks v) ≤ most
  narrow_val ks (NodeVar x) h = h
  narrow_val ks (Node t ws) h = h
  narrow_val ks (Vector ws) h = subst (λ k. k ≤ most) (sym (length-map ws _)) h
  narrow_val ks (One w) h = h

  narrow_fetch : (o : Bool) (x : VarId) (a : W.Word) (i : ℕ) (c : Code) → NarrowCode width most c
      → NarrowCode width most (fetched_if o x a i c)
  unfolding NarrowAct
  narrow_fetch true x a i c h = h
  narrow_fetch false x a i c h = h

  narrow_words : (t : ℕ) (b : Code) (a : W.Word) (i : ℕ) (xs : List VarId) (c : Code)
      → NarrowCode width most c → NarrowCode width most (word_fetches t b a i xs c)
  narrow_words t b a i [] c h = h
  narrow_words t b a i (x ∷ xs) c h = narrow_fetch (outside t x.0 b) x a i
      (word_fetches t b a (suc i) xs c) (narrow_words t b a (suc i) xs c h)

  narrow_front : (a : W.Word) (n : ℕ) (ps : List DeferredField) (b c : Code)
      → NarrowCode width most c → NarrowCode width most (front a n ps b c)
  narrow_front a n [] b c h = h
  narrow_front a n (p ∷ ps) b c h = narrow_fetch (code_uses p.var.0 b) (variable n) a p.place
      (front a (suc n) ps b c) (narrow_front a (suc n) ps b c h)

  narrow_all : (a : W.Word) (i : ℕ) (xs : List VarId) (c : Code) → NarrowCode width most c
      → NarrowCode width most (fetch_all_words a i xs c)
  unfolding NarrowAct
  narrow_all a i [] c h = h
  narrow_all a i (x ∷ xs) c h = narrow_all a (suc i) xs c h

  narrow_nodes : (xs : List VarId) (i : ℕ) (us : List Tag) → width ≤ most
      → NarrowArms width most (node_arms xs i us)
  unfolding NarrowAct
  narrow_nodes xs i [] h = tt
  narrow_nodes xs i (u ∷ us) h = (h, narrow_nodes xs (suc i) us h)

  narrow_whole : (n : ℕ) (a : W.Word) → width ≤ most → NarrowCode width most (whole_node ts n a)
  unfolding NarrowAct
  narrow_whole n a h = narrow_all a 0 (variables n (suc (most_fields ts))) _
      (narrow_nodes (variables (suc n) (most_fields ts)) 0 ts h)

  mutual
    unfolding split_act NarrowAct made_act

    narrow_act : (o : Act) (ks : Names) (a : W.Word) (ps : List DeferredField) (n : ℕ)
        → NarrowAct width most o → NarrowAct width most (split_act ts ks a ps n o)
    narrow_act (case v as') ks a ps n h = narrow_arms as' ks a ps n h
    narrow_act (nested b) ks a ps n h = narrow_code b ks a [] n h
    narrow_act (leaf (unit v)) ks a ps n h = narrow_val ks v h
    narrow_act (leaf (fetch c)) ks a ps n h = h
    narrow_act o ks a ps n h = tt

    pub narrow_code : (b : Code) (ks : Names) (a : W.Word) (ps : List DeferredField) (n : ℕ)
        → NarrowCode width most b → NarrowCode width most (split_code ts ks a ps n b)
    narrow_code (end (leaf (fetch c))) ks a ps n h = narrow_whole n _ h
    narrow_code (end o) ks a ps n h = narrow_act o ks a ps n h
    narrow_code (store cs b) ks a ps n h = narrow_code b ks a [] n h
    narrow_code (bind (to.Vector (x ∷ xs)) (leaf (fetch c)) b) ks a ps n h
        = narrow_words x.0 b _ 1 xs _ (narrow_code b _ _ _ (n + 0) h)
    narrow_code (bind (to.Vector []) (leaf (fetch c)) b) ks a ps n h = narrow_code b _ _ _ (n + 0) h
    narrow_code (bind to.Nothing (leaf (fetch c)) b) ks a ps n h = narrow_code b _ _ _ (n + 0) h
    narrow_code (bind (to.One y) (leaf (fetch c)) b) ks a ps n h = narrow_code b _ _ _ (n + 0) h
    narrow_code (bind (to.Node y) (leaf (fetch c)) b) ks a ps n h = narrow_code b _ _ _ (n + 0) h
    narrow_code (bind t o b) ks a ps n h = narrow_code b _ _ _ (n + made_act ts ps o) h

    narrow_arms : (as' : Arms) (ks : Names) (a : W.Word) (ps : List DeferredField) (n : ℕ)
        → NarrowArms width most as' → NarrowArms width most (split_arms ts ks a ps n as')
    narrow_arms no_arm ks a ps n h = tt
    narrow_arms (arm s b as') ks a ps n h = (
      narrow_front a n ps b _ (narrow_code b _ a [] (n + length ps) h.0),
      narrow_arms as' ks a ps (n + length ps + made_code ts [] b) h.1,
    )

  pub narrow_procs : (qs : List Procedure) (n : ℕ) → AllOf (λ q. NarrowCode width most q.body) qs
      → AllOf (λ q. NarrowCode width most q.body) (split_procs ts n qs)
  narrow_procs [] n h = tt
  narrow_procs (q ∷ qs) n h = (
    narrow_code q.body [] (Lit (pos 0)) [] n h.0,
    narrow_procs qs (n + made_code ts [] q.body) h.1,
  )

-- ---- sites, parameters and names

module _ (ts : List Tag) where
  sites_fetch : (o : Bool) (x : VarId) (a : W.Word) (i : ℕ) (c : Code)
      → code_sites (fetched_if o x a i c) ≡ code_sites c
  unfolding act_sites
  sites_fetch true x a i c = refl
  sites_fetch false x a i c = refl

  sites_words : (t : ℕ) (b : Code) (a : W.Word) (i : ℕ) (xs : List VarId) (c : Code)
      → code_sites (word_fetches t b a i xs c) ≡ code_sites c
  sites_words t b a i [] c = refl
  sites_words t b a i (x ∷ xs) c = sites_fetch (outside t x.0 b) x a i
      (word_fetches t b a (suc i) xs c) ∙ sites_words t b a (suc i) xs c

  sites_front : (a : W.Word) (n : ℕ) (ps : List DeferredField) (b c : Code)
      → code_sites (front a n ps b c) ≡ code_sites c
  sites_front a n [] b c = refl
  sites_front a n (p ∷ ps) b c = sites_fetch (code_uses p.var.0 b) (variable n) a p.place
      (front a (suc n) ps b c) ∙ sites_front a (suc n) ps b c

  sites_all : (a : W.Word) (i : ℕ) (xs : List VarId) (c : Code)
      → code_sites (fetch_all_words a i xs c) ≡ code_sites c
  unfolding act_sites
  sites_all a i [] c = refl
  sites_all a i (x ∷ xs) c = sites_all a (suc i) xs c

  sites_nodes : (xs : List VarId) (i : ℕ) (us : List Tag) → arms_sites (node_arms xs i us) ≡ []
  unfolding act_sites
  sites_nodes xs i [] = refl
  sites_nodes xs i (u ∷ us) = sites_nodes xs (suc i) us

  sites_whole : (n : ℕ) (a : W.Word) → code_sites (whole_node ts n a) ≡ []
  unfolding act_sites
  sites_whole n a = sites_all a 0 (variables n (suc (most_fields ts))) _ ∙ sites_nodes
      (variables (suc n) (most_fields ts)) 0 ts

  sites_cells : (ks : Names) (cs : List Cell) → map {A = Cell} (λ c. c.site.0) (as_cells ks cs) ≡
      map {A = Cell} (λ c. c.site.0) cs
  sites_cells ks [] = refl
  sites_cells ks (c ∷ cs) = ap (λ l. c.site.0 ∷ l) (sites_cells ks cs)

  mutual
    unfolding split_act act_sites made_act

    sites_act : (o : Act) (ks : Names) (a : W.Word) (ps : List DeferredField) (n : ℕ)
        → act_sites (split_act ts ks a ps n o) ≡ act_sites o
    sites_act (case v as') ks a ps n = sites_arms as' ks a ps n
    sites_act (nested b) ks a ps n = sites_code b ks a [] n
    sites_act o ks a ps n = refl

    sites_code : (b : Code) (ks : Names) (a : W.Word) (ps : List DeferredField) (n : ℕ)
        → code_sites (split_code ts ks a ps n b) ≡ code_sites b
    sites_code (end (leaf (fetch c))) ks a ps n = sites_whole n _
    sites_code (end o) ks a ps n = sites_act o ks a ps n
    sites_code (store cs b) ks a ps n = λ i. sites_cells ks cs i ++ sites_code b ks a [] n i
    sites_code (bind (to.Vector (x ∷ xs)) (leaf (fetch c)) b) ks a ps n
        = sites_words x.0 b _ 1 xs _ ∙ sites_code b _ _ _ (n + 0)
    sites_code (bind (to.Vector []) (leaf (fetch c)) b) ks a ps n = sites_code b _ _ _ (n + 0)
    sites_code (bind to.Nothing (leaf (fetch c)) b) ks a ps n = sites_code b _ _ _ (n + 0)
    sites_code (bind (to.One y) (leaf (fetch c)) b) ks a ps n = sites_code b _ _ _ (n + 0)
    sites_code (bind (to.Node y) (leaf (fetch c)) b) ks a ps n = sites_code b _ _ _ (n + 0)
    sites_code (bind t o b) ks a ps n = λ i. sites_act o ks a ps n i
        ++ sites_code b (names_after o t b ks) (cell_after ks o t b a)
        (deferred_fields_after o t b ps) (n + made_act ts ps o) i

    sites_arms : (as' : Arms) (ks : Names) (a : W.Word) (ps : List DeferredField) (n : ℕ)
        → arms_sites (split_arms ts ks a ps n as') ≡ arms_sites as'
    sites_arms no_arm ks a ps n = refl
    sites_arms (arm s b as') ks a ps n = λ i.
        (sites_front a n ps b (split_code ts (front_names n ps b ks) a [] (n + length ps) b) ∙
        sites_code b (front_names n ps b ks) a [] (n + length ps)) i
        ++ sites_arms as' ks a ps (n + length ps + made_code ts [] b) i

  pub sites_stay : (qs : List Procedure) (n : ℕ) → procs_sites (split_procs ts n qs) ≡ procs_sites
      qs
  sites_stay [] n = refl
  sites_stay (q ∷ qs) n = λ i. sites_code q.body [] (Lit (pos 0)) [] n i
      ++ sites_stay qs (n + made_code ts [] q.body) i

  pub params_stay : (most : ℕ) (qs : List Procedure) (n : ℕ)
      → AllOf (λ q. length q.params ≤ most) qs → AllOf (λ q. length q.params ≤ most)
      (split_procs ts n qs)
  params_stay most [] n h = tt
  params_stay most (q ∷ qs) n h = (h.0, params_stay most qs (n + made_code ts [] q.body) h.1)

  pub names_stay : (qs : List Procedure) (n : ℕ) → names_of (split_procs ts n qs) ≡ names_of qs
  names_stay [] n = refl
  names_stay (q ∷ qs) n = ap (λ l. q.name ∷ l) (names_stay qs (n + made_code ts [] q.body))
