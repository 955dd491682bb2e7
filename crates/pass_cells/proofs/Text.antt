-- What holds of the text of a program whose fetches of remembered words give way to the words.
use Rattle.std.proofs.Common.{◌≡◌, ℕ, ◌+◌, ◌≤◌, Bool, List, [], ◌∷◌, ◌++◌, map, length, Option, Some, None, refl, ap, arith}
use Rattle.grin_syntax.specs.declared.program.Val as V
use Rattle.grin_syntax.specs.declared.program.Val.TheVariants.{One}
use Rattle.grin_syntax.specs.declared.program.Word as W
use Rattle.grin_syntax.specs.Tree.{Code, end, store, bind, Act, leaf, unit, fetch, fetch_word, update, eval, apply, call, prim, read, write, case, nested, fail, Arms, no_arm, arm, Procedure}
use Rattle.grin_syntax.specs.Binders.{numbers_of, target_vars, shape_vars, cell_vars, act_vars, code_vars, arms_vars, procs_vars, act_sites, code_sites, arms_sites, procs_sites}
use Rattle.grin_syntax.specs.Formed.{AllOf}
use Rattle.grin_syntax.specs.SameOutside.{names_of}
use Rattle.grin_meaning.specs.Ready.{EachAct, EachCode, EachArms, NarrowAct, NarrowCode, NarrowArms, PieceKind, EveryBodyIsOfKind}
use Rattle.grin_meaning.specs.Rewritten.{rewritten_procedure}
use Rattle.grin_meaning.specs.Slim.{val_weight, cells_weight, target_weight, act_weight, code_weight, arms_weight, procs_weight, act_calls, code_calls, arms_calls, procs_calls, node_words, end_words, inner_words, code_words, arms_words, procedure_words}
use Rattle.pass_ground.specs.OpenUpdates.{act_update_sum, code_update_sum, arms_update_sum, procs_update_sum}
use Rattle.pass_ground.specs.Updated.{act_updated, code_updated, arms_updated}
use Rattle.pass_cells.specs.Memory.{KnownCellContents, none, remembered_word_of, after_act, after_store}
use Rattle.pass_cells.specs.Remembered.{word_or_fetch, told_act, told_code, told_arms, is_own_cell_variable, remembered_body}

-- the word, or the fetch
pub either : (a : W.Word) (i : ℕ) (P : Act → Type 0) → P (leaf (fetch_word a i))
    → ((w : W.Word) → P (leaf (unit (One w)))) → (o : Option W.Word) → P (word_or_fetch a i o)
either a i P f u None = f
either a i P f u (Some w) = u w

module _ (own : ℕ → Bool) where
  -- ---- what stays

  mutual
    unfolding told_act act_vars

    act_vars_same : (o : Act) (T : KnownCellContents) → act_vars (told_act own T o) ≡ act_vars o
    act_vars_same (leaf (unit v)) T = refl
    act_vars_same (leaf (fetch a)) T = refl
    act_vars_same (leaf (update a v)) T = refl
    act_vars_same (leaf (eval a)) T = refl
    act_vars_same (leaf (apply v a)) T = refl
    act_vars_same (leaf (call f ws)) T = refl
    act_vars_same (leaf (prim q a b)) T = refl
    act_vars_same (leaf read) T = refl
    act_vars_same (leaf (write a)) T = refl
    act_vars_same (leaf fail) T = refl
    act_vars_same (leaf (fetch_word a i)) T = either a i
        (λ o. act_vars o ≡ act_vars (leaf (fetch_word a i))) refl (λ w. refl)
        (remembered_word_of T a i)
    act_vars_same (case v as') T = λ i. arms_vars_same as' T i
    act_vars_same (nested b) T = λ i. code_vars_same b T i

    pub code_vars_same : (b : Code) (T : KnownCellContents)
        → code_vars (told_code own T b) ≡ code_vars b
    code_vars_same (end o) T = λ i. act_vars_same o T i
    code_vars_same (store cs b) T = λ i. cell_vars cs ++ code_vars_same b (after_store own cs T) i
    code_vars_same (bind t o b) T = λ i. target_vars t
        ++ (act_vars_same o T i ++ code_vars_same b (after_act o T) i)

    arms_vars_same : (as' : Arms) (T : KnownCellContents)
        → arms_vars (told_arms own T as') ≡ arms_vars as'
    arms_vars_same no_arm T = refl
    arms_vars_same (arm s b as') T = λ i. shape_vars s
        ++ (code_vars_same b T i ++ arms_vars_same as' T i)

  mutual
    unfolding told_act act_sites

    act_sites_same : (o : Act) (T : KnownCellContents) → act_sites (told_act own T o) ≡ act_sites o
    act_sites_same (leaf (unit v)) T = refl
    act_sites_same (leaf (fetch a)) T = refl
    act_sites_same (leaf (update a v)) T = refl
    act_sites_same (leaf (eval a)) T = refl
    act_sites_same (leaf (apply v a)) T = refl
    act_sites_same (leaf (call f ws)) T = refl
    act_sites_same (leaf (prim q a b)) T = refl
    act_sites_same (leaf read) T = refl
    act_sites_same (leaf (write a)) T = refl
    act_sites_same (leaf fail) T = refl
    act_sites_same (leaf (fetch_word a i)) T = either a i
        (λ o. act_sites o ≡ act_sites (leaf (fetch_word a i))) refl (λ w. refl)
        (remembered_word_of T a i)
    act_sites_same (case v as') T = λ i. arms_sites_same as' T i
    act_sites_same (nested b) T = λ i. code_sites_same b T i

    pub code_sites_same : (b : Code) (T : KnownCellContents)
        → code_sites (told_code own T b) ≡ code_sites b
    code_sites_same (end o) T = λ i. act_sites_same o T i
    code_sites_same (store cs b) T = λ i. map (λ c. c.site.0) cs
        ++ code_sites_same b (after_store own cs T) i
    code_sites_same (bind t o b) T = λ i. act_sites_same o T i
        ++ code_sites_same b (after_act o T) i

    arms_sites_same : (as' : Arms) (T : KnownCellContents)
        → arms_sites (told_arms own T as') ≡ arms_sites as'
    arms_sites_same no_arm T = refl
    arms_sites_same (arm s b as') T = λ i. code_sites_same b T i ++ arms_sites_same as' T i

  mutual
    unfolding told_act act_updated

    act_updates_same : (o : Act) (T : KnownCellContents)
        → act_updated (told_act own T o) ≡ act_updated o
    act_updates_same (leaf (unit v)) T = refl
    act_updates_same (leaf (fetch a)) T = refl
    act_updates_same (leaf (update a v)) T = refl
    act_updates_same (leaf (eval a)) T = refl
    act_updates_same (leaf (apply v a)) T = refl
    act_updates_same (leaf (call f ws)) T = refl
    act_updates_same (leaf (prim q a b)) T = refl
    act_updates_same (leaf read) T = refl
    act_updates_same (leaf (write a)) T = refl
    act_updates_same (leaf fail) T = refl
    act_updates_same (leaf (fetch_word a i)) T = either a i
        (λ o. act_updated o ≡ act_updated (leaf (fetch_word a i))) refl (λ w. refl)
        (remembered_word_of T a i)
    act_updates_same (case v as') T = λ i. arms_updates_same as' T i
    act_updates_same (nested b) T = λ i. code_updates_same b T i

    pub code_updates_same : (b : Code) (T : KnownCellContents)
        → code_updated (told_code own T b) ≡ code_updated b
    code_updates_same (end o) T = λ i. act_updates_same o T i
    code_updates_same (store cs b) T = λ i. code_updates_same b (after_store own cs T) i
    code_updates_same (bind t o b) T = λ i. act_updates_same o T i
        ++ code_updates_same b (after_act o T) i

    pub arms_updates_same : (as' : Arms) (T : KnownCellContents)
        → arms_updated (told_arms own T as') ≡ arms_updated as'
    arms_updates_same no_arm T = refl
    arms_updates_same (arm s b as') T = λ i. code_updates_same b T i ++ arms_updates_same as' T i

  mutual
    unfolding told_act act_weight

    act_weights_same : (o : Act) (T : KnownCellContents)
        → act_weight (told_act own T o) ≡ act_weight o
    act_weights_same (leaf (unit v)) T = refl
    act_weights_same (leaf (fetch a)) T = refl
    act_weights_same (leaf (update a v)) T = refl
    act_weights_same (leaf (eval a)) T = refl
    act_weights_same (leaf (apply v a)) T = refl
    act_weights_same (leaf (call f ws)) T = refl
    act_weights_same (leaf (prim q a b)) T = refl
    act_weights_same (leaf read) T = refl
    act_weights_same (leaf (write a)) T = refl
    act_weights_same (leaf fail) T = refl
    act_weights_same (leaf (fetch_word a i)) T = either a i
        (λ o. act_weight o ≡ act_weight (leaf (fetch_word a i))) refl (λ w. refl)
        (remembered_word_of T a i)
    act_weights_same (case v as') T = λ i. 16 + val_weight v + arms_weights_same as' T i
    act_weights_same (nested b) T = λ i. 16 + code_weights_same b T i

    pub code_weights_same : (b : Code) (T : KnownCellContents)
        → code_weight (told_code own T b) ≡ code_weight b
    code_weights_same (end o) T = λ i. act_weights_same o T i
    code_weights_same (store cs b) T = λ i. cells_weight cs + code_weights_same b
        (after_store own cs T) i
    code_weights_same (bind t o b) T = λ i. target_weight t + act_weights_same o T i +
        code_weights_same b (after_act o T) i

    arms_weights_same : (as' : Arms) (T : KnownCellContents)
        → arms_weight (told_arms own T as') ≡ arms_weight as'
    arms_weights_same no_arm T = refl
    arms_weights_same (arm s b as') T = λ i. 3 + length (shape_vars s) + code_weights_same b T i +
        arms_weights_same as' T i

  mutual
    unfolding told_act act_calls

    act_calls_same : (o : Act) (T : KnownCellContents) → act_calls (told_act own T o) ≡ act_calls o
    act_calls_same (leaf (unit v)) T = refl
    act_calls_same (leaf (fetch a)) T = refl
    act_calls_same (leaf (update a v)) T = refl
    act_calls_same (leaf (eval a)) T = refl
    act_calls_same (leaf (apply v a)) T = refl
    act_calls_same (leaf (call f ws)) T = refl
    act_calls_same (leaf (prim q a b)) T = refl
    act_calls_same (leaf read) T = refl
    act_calls_same (leaf (write a)) T = refl
    act_calls_same (leaf fail) T = refl
    act_calls_same (leaf (fetch_word a i)) T = either a i
        (λ o. act_calls o ≡ act_calls (leaf (fetch_word a i))) refl (λ w. refl)
        (remembered_word_of T a i)
    act_calls_same (case v as') T = λ i. arms_calls_same as' T i
    act_calls_same (nested b) T = λ i. code_calls_same b T i

    pub code_calls_same : (b : Code) (T : KnownCellContents)
        → code_calls (told_code own T b) ≡ code_calls b
    code_calls_same (end o) T = λ i. act_calls_same o T i
    code_calls_same (store cs b) T = λ i. code_calls_same b (after_store own cs T) i
    code_calls_same (bind t o b) T = λ i. act_calls_same o T i + code_calls_same b (after_act o T) i

    arms_calls_same : (as' : Arms) (T : KnownCellContents)
        → arms_calls (told_arms own T as') ≡ arms_calls as'
    arms_calls_same no_arm T = refl
    arms_calls_same (arm s b as') T = λ i. code_calls_same b T i + arms_calls_same as' T i

  node_stays : (o : Act) (T : KnownCellContents) → node_words (told_act own T o) ≡ node_words o
  unfolding told_act
  node_stays (leaf (unit v)) T = refl
  node_stays (leaf (fetch a)) T = refl
  node_stays (leaf (update a v)) T = refl
  node_stays (leaf (eval a)) T = refl
  node_stays (leaf (apply v a)) T = refl
  node_stays (leaf (call f ws)) T = refl
  node_stays (leaf (prim q a b)) T = refl
  node_stays (leaf read) T = refl
  node_stays (leaf (write a)) T = refl
  node_stays (leaf fail) T = refl
  node_stays (case v as') T = refl
  node_stays (nested b) T = refl
  node_stays (leaf (fetch_word a i)) T = either a i (λ o. node_words o ≡ 0) refl (λ w. refl)
      (remembered_word_of T a i)

  end_stays : (o : Act) (T : KnownCellContents) → end_words (told_act own T o) ≡ end_words o
  unfolding told_act
  end_stays (leaf (unit v)) T = refl
  end_stays (leaf (fetch a)) T = refl
  end_stays (leaf (update a v)) T = refl
  end_stays (leaf (eval a)) T = refl
  end_stays (leaf (apply v a)) T = refl
  end_stays (leaf (call f ws)) T = refl
  end_stays (leaf (prim q a b)) T = refl
  end_stays (leaf read) T = refl
  end_stays (leaf (write a)) T = refl
  end_stays (leaf fail) T = refl
  end_stays (case v as') T = refl
  end_stays (nested b) T = refl
  end_stays (leaf (fetch_word a i)) T = either a i (λ o. end_words o ≡ 1) refl (λ w. refl)
      (remembered_word_of T a i)

  mutual
    unfolding told_act inner_words

    act_words_same : (o : Act) (T : KnownCellContents)
        → inner_words (told_act own T o) ≡ inner_words o
    act_words_same (leaf (unit v)) T = refl
    act_words_same (leaf (fetch a)) T = refl
    act_words_same (leaf (update a v)) T = refl
    act_words_same (leaf (eval a)) T = refl
    act_words_same (leaf (apply v a)) T = refl
    act_words_same (leaf (call f ws)) T = refl
    act_words_same (leaf (prim q a b)) T = refl
    act_words_same (leaf read) T = refl
    act_words_same (leaf (write a)) T = refl
    act_words_same (leaf fail) T = refl
    act_words_same (leaf (fetch_word a i)) T = either a i
        (λ o. inner_words o ≡ inner_words (leaf (fetch_word a i))) refl (λ w. refl)
        (remembered_word_of T a i)
    act_words_same (case v as') T = λ i. arms_words_same as' T i
    act_words_same (nested b) T = λ i. code_words_same b T i

    pub code_words_same : (b : Code) (T : KnownCellContents)
        → code_words (told_code own T b) ≡ code_words b
    code_words_same (end o) T = λ i. end_stays o T i + act_words_same o T i
    code_words_same (store cs b) T = λ i. length cs + code_words_same b (after_store own cs T) i
    code_words_same (bind t o b) T = λ i. target_weight t + node_stays o T i + act_words_same o T i
        + code_words_same b (after_act o T) i

    arms_words_same : (as' : Arms) (T : KnownCellContents)
        → arms_words (told_arms own T as') ≡ arms_words as'
    arms_words_same no_arm T = refl
    arms_words_same (arm s b as') T = λ i. length (shape_vars s) + code_words_same b T i +
        arms_words_same as' T i

  module _ (count : V.Val → ℕ) where
    mutual
      unfolding told_act act_update_sum

      act_sums_same : (o : Act) (T : KnownCellContents)
          → act_update_sum count (told_act own T o) ≡ act_update_sum count o
      act_sums_same (leaf (unit v)) T = refl
      act_sums_same (leaf (fetch a)) T = refl
      act_sums_same (leaf (update a v)) T = refl
      act_sums_same (leaf (eval a)) T = refl
      act_sums_same (leaf (apply v a)) T = refl
      act_sums_same (leaf (call f ws)) T = refl
      act_sums_same (leaf (prim q a b)) T = refl
      act_sums_same (leaf read) T = refl
      act_sums_same (leaf (write a)) T = refl
      act_sums_same (leaf fail) T = refl
      act_sums_same (leaf (fetch_word a i)) T = either a i
          (λ o. act_update_sum count o ≡ act_update_sum count (leaf (fetch_word a i))) refl
          (λ w. refl) (remembered_word_of T a i)
      act_sums_same (case v as') T = λ i. arms_sums_same as' T i
      act_sums_same (nested b) T = λ i. code_sums_same b T i

      pub code_sums_same : (b : Code) (T : KnownCellContents)
          → code_update_sum count (told_code own T b) ≡ code_update_sum count b
      code_sums_same (end o) T = λ i. act_sums_same o T i
      code_sums_same (store cs b) T = λ i. code_sums_same b (after_store own cs T) i
      code_sums_same (bind t o b) T = λ i. act_sums_same o T i + code_sums_same b (after_act o T) i

      arms_sums_same : (as' : Arms) (T : KnownCellContents)
          → arms_update_sum count (told_arms own T as') ≡ arms_update_sum count as'
      arms_sums_same no_arm T = refl
      arms_sums_same (arm s b as') T = λ i. code_sums_same b T i + arms_sums_same as' T i

  -- ---- what is of some kind

  module _ (K : PieceKind) (op : (w : W.Word) → K.operation (leaf (unit (One w))))
      (value : (w : W.Word) → K.value (One w))
      (cases : (v : V.Val) (as' bs' : Arms) → K.operation (case v as') → K.operation (case v bs'))
      (blocks : (b c : Code) → K.operation (nested b) → K.operation (nested c)) where
    mutual
      unfolding told_act EachAct

      act_each : (o : Act) (T : KnownCellContents) → EachAct K o → EachAct K (told_act own T o)
      act_each (leaf (fetch_word a i)) T h = either a i (EachAct K) h (λ w. (op w, value w))
          (remembered_word_of T a i)
      act_each (case v as') T h = (cases v as' (told_arms own T as') h.0, h.1, arms_each as' T h.2)
      act_each (nested b) T h = (blocks b (told_code own T b) h.0, code_each b T h.1)
      act_each (leaf (unit v)) T h = h
      act_each (leaf (fetch a)) T h = h
      act_each (leaf (update a v)) T h = h
      act_each (leaf (eval a)) T h = h
      act_each (leaf (apply v a)) T h = h
      act_each (leaf (call f ws)) T h = h
      act_each (leaf (prim q a b)) T h = h
      act_each (leaf read) T h = h
      act_each (leaf (write a)) T h = h
      act_each (leaf fail) T h = h

      pub code_each : (b : Code) (T : KnownCellContents) → EachCode K b
          → EachCode K (told_code own T b)
      code_each (end o) T h = act_each o T h
      code_each (store cs b) T h = (h.0, code_each b (after_store own cs T) h.1)
      code_each (bind t o b) T h = (h.0, act_each o T h.1, code_each b (after_act o T) h.2)

      arms_each : (as' : Arms) (T : KnownCellContents) → EachArms K as'
          → EachArms K (told_arms own T as')
      arms_each no_arm T h = tt
      arms_each (arm s b as') T h = (h.0, code_each b T h.1, arms_each as' T h.2)

  module _ (w most : ℕ) (some : 1 ≤ most) where
    mutual
      unfolding told_act NarrowAct

      act_narrow : (o : Act) (T : KnownCellContents) → NarrowAct w most o
          → NarrowAct w most (told_act own T o)
      act_narrow (leaf (fetch_word a i)) T h = either a i (NarrowAct w most) tt (λ w. some)
          (remembered_word_of T a i)
      act_narrow (case v as') T h = arms_narrow as' T h
      act_narrow (nested b) T h = code_narrow b T h
      act_narrow (leaf (unit v)) T h = h
      act_narrow (leaf (fetch a)) T h = h
      act_narrow (leaf (update a v)) T h = h
      act_narrow (leaf (eval a)) T h = h
      act_narrow (leaf (apply v a)) T h = h
      act_narrow (leaf (call f ws)) T h = h
      act_narrow (leaf (prim q a b)) T h = h
      act_narrow (leaf read) T h = h
      act_narrow (leaf (write a)) T h = h
      act_narrow (leaf fail) T h = h

      pub code_narrow : (b : Code) (T : KnownCellContents) → NarrowCode w most b
          → NarrowCode w most (told_code own T b)
      code_narrow (end o) T h = act_narrow o T h
      code_narrow (store cs b) T h = code_narrow b (after_store own cs T) h
      code_narrow (bind t o b) T h = code_narrow b (after_act o T) h

      arms_narrow : (as' : Arms) (T : KnownCellContents) → NarrowArms w most as'
          → NarrowArms w most (told_arms own T as')
      arms_narrow no_arm T h = tt
      arms_narrow (arm s b as') T h = (code_narrow b T h.0, arms_narrow as' T h.1)

-- ---- procedures

abbrev pub remembered_procedure : Procedure → Procedure
remembered_procedure = rewritten_procedure remembered_body

pub procs_each : (K : PieceKind) → ((w : W.Word) → K.operation (leaf (unit (One w))))
    → ((w : W.Word) → K.value (One w)) →
    ((v : V.Val) (as' bs' : Arms) → K.operation (case v as') → K.operation (case v bs'))
    → ((b c : Code) → K.operation (nested b) → K.operation (nested c)) → (qs : List Procedure)
    → EveryBodyIsOfKind K qs → EveryBodyIsOfKind K (map remembered_procedure qs)
procs_each K w v c b [] h = tt
procs_each K w v c b (q ∷ qs) h =
    (code_each (is_own_cell_variable q.body) K w v c b q.body none h.0, procs_each K w v c b qs h.1)

pub procs_narrow : (w most : ℕ) → 1 ≤ most → (qs : List Procedure)
    → AllOf (λ q. NarrowCode w most q.body) qs → AllOf (λ q. NarrowCode w most q.body)
    (map remembered_procedure qs)
procs_narrow w most some [] h = tt
procs_narrow w most some (q ∷ qs) h = (
  code_narrow (is_own_cell_variable q.body) w most some q.body none h.0,
  procs_narrow w most some qs h.1,
)

pub procs_params : (most : ℕ) (qs : List Procedure) → AllOf (λ q. length q.params ≤ most) qs
    → AllOf (λ q. length q.params ≤ most) (map remembered_procedure qs)
procs_params most [] h = tt
procs_params most (q ∷ qs) h = (h.0, procs_params most qs h.1)

pub names_stay : (qs : List Procedure) → names_of (map remembered_procedure qs) ≡ names_of qs
names_stay [] = refl
names_stay (q ∷ qs) = ap (λ ns. q.name ∷ ns) (names_stay qs)

pub vars_stay : (qs : List Procedure) → procs_vars (map remembered_procedure qs) ≡ procs_vars qs
vars_stay [] = refl
vars_stay (q ∷ qs) = λ i.
    (numbers_of q.params ++ code_vars_same (is_own_cell_variable q.body) q.body none i)
    ++ vars_stay qs i

pub sites_stay : (qs : List Procedure) → procs_sites (map remembered_procedure qs) ≡ procs_sites qs
sites_stay [] = refl
sites_stay (q ∷ qs) = λ i. code_sites_same (is_own_cell_variable q.body) q.body none i
    ++ sites_stay qs i

pub sums_stay : (count : V.Val → ℕ) (qs : List Procedure)
    → procs_update_sum count (map remembered_procedure qs) ≡ procs_update_sum count qs
sums_stay count [] = refl
sums_stay count (q ∷ qs) = λ i. code_sums_same (is_own_cell_variable q.body) count q.body none i +
    sums_stay count qs i

pub weights_stay : (qs : List Procedure) → procs_weight (map remembered_procedure qs) ≡ procs_weight
    qs
weights_stay [] = refl
weights_stay (q ∷ qs) = λ i. length q.params + code_weights_same (is_own_cell_variable q.body)
    q.body none i + weights_stay qs i

pub calls_stay : (qs : List Procedure) → procs_calls (map remembered_procedure qs) ≡ procs_calls qs
calls_stay [] = refl
calls_stay (q ∷ qs) = λ i. code_calls_same (is_own_cell_variable q.body) q.body none i + calls_stay
    qs i

pub words_stay : (most : ℕ) (qs : List Procedure) → AllOf (λ q. procedure_words q ≤ most) qs
    → AllOf (λ q. procedure_words q ≤ most) (map remembered_procedure qs)
words_stay most [] h = tt
words_stay most (q ∷ qs) h =
    let e : code_words (remembered_body q.body) ≡ code_words q.body
    = code_words_same (is_own_cell_variable q.body) q.body none in
    let l : length q.params + code_words q.body ≤ most = h.0 in
    (omega (arith, e, l), words_stay most qs h.1)
