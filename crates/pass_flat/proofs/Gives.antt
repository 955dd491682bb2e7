-- What holds of the text of a program without nested blocks.
use Rattle.std.proofs.Common.{◌≡◌, ℕ, ◌+◌, ◌≤◌, List, [], ◌∷◌, map, length, refl, ap, ◌∙◌, arith}
use Rattle.grin_syntax.specs.declared.program.Cell.{Cell}
use Rattle.grin_syntax.specs.declared.program.Target.{Target}
use Rattle.grin_syntax.specs.declared.program.Val.{Val}
use Rattle.grin_syntax.specs.Tree.{Code, end, store, bind, Act, leaf, unit, fetch, fetch_word, update, eval, apply, call, prim, read, write, case, nested, fail, Arms, no_arm, arm, Procedure}
use Rattle.grin_syntax.specs.Formed.{AllOf}
use Rattle.grin_syntax.specs.SameOutside.{names_of}
use Rattle.grin_meaning.specs.Ready.{EachAct, EachCode, EachArms, NarrowAct, NarrowCode, NarrowArms, PieceKind, EveryBodyIsOfKind}
use Rattle.grin_meaning.specs.Rewritten.{rewritten_procedure}
use Rattle.grin_meaning.specs.Spliced.{spliced}
use Rattle.pass_ground.specs.OpenUpdates.{act_update_sum, code_update_sum, arms_update_sum, procs_update_sum}
use Rattle.pass_flat.specs.Flat.{flat_act, flat_code, flat_arms}
use Rattle.pass_flat.specs.Flattened.{without_nested_blocks}

abbrev pub flat_procedure : Procedure → Procedure
flat_procedure = rewritten_procedure flat_code

-- ---- what is of some kind

module _ (K : PieceKind) where
  each_splice : (c : Code) (t : Target) (k : Code) → EachCode K c → K.target t → EachCode K k
      → EachCode K (spliced c t k)
  unfolding spliced EachAct
  each_splice (end o) t k h l m = (l, h, m)
  each_splice (store cs c) t k h l m = (h.0, each_splice c t k h.1 l m)
  each_splice (bind u o c) t k h l m = (h.0, h.1, each_splice c t k h.2 l m)

  module _ (cases : (v : Val) (as' bs' : Arms) → K.operation (case v as')
      → K.operation (case v bs')) where
    mutual
      unfolding flat_act EachAct

      act_each : (o : Act) → EachAct K o → EachCode K (flat_act o)
      act_each (case v as') h = (cases v as' (flat_arms as') h.0, h.1, arms_each as' h.2)
      act_each (nested b) h = code_each b h.1
      act_each (leaf l) h = h

      code_each : (b : Code) → EachCode K b → EachCode K (flat_code b)
      code_each (end o) h = act_each o h
      code_each (store cs b) h = (h.0, code_each b h.1)
      code_each (bind t o b) h = each_splice (flat_act o) t (flat_code b) (act_each o h.1) h.0
          (code_each b h.2)

      arms_each : (as' : Arms) → EachArms K as' → EachArms K (flat_arms as')
      arms_each no_arm h = tt
      arms_each (arm s b as') h = (h.0, code_each b h.1, arms_each as' h.2)

    pub procs_each : (qs : List Procedure) → EveryBodyIsOfKind K qs
        → EveryBodyIsOfKind K (map flat_procedure qs)
    procs_each [] h = tt
    procs_each (q ∷ qs) h = (code_each q.body h.0, procs_each qs h.1)

-- ---- no nested block

any_cells : (cs : List Cell) → AllOf (λ c. without_nested_blocks.value c.val) cs
any_cells [] = tt
any_cells (c ∷ cs) = (tt, any_cells cs)

mutual
  unfolding flat_act EachAct

  act_flat : (o : Act) → EachCode without_nested_blocks (flat_act o)
  act_flat (case v as') = (tt, tt, arms_flat as')
  act_flat (nested b) = code_flat b
  act_flat (leaf (unit v)) = (tt, tt)
  act_flat (leaf (fetch a)) = tt
  act_flat (leaf (fetch_word a i)) = tt
  act_flat (leaf (update a v)) = (tt, tt)
  act_flat (leaf (eval a)) = tt
  act_flat (leaf (apply v a)) = (tt, tt)
  act_flat (leaf (call f ws)) = tt
  act_flat (leaf (prim p a b)) = tt
  act_flat (leaf read) = tt
  act_flat (leaf (write a)) = tt
  act_flat (leaf fail) = tt

  code_flat : (b : Code) → EachCode without_nested_blocks (flat_code b)
  code_flat (end o) = act_flat o
  code_flat (store cs b) = (any_cells cs, code_flat b)
  code_flat (bind t o b) = each_splice without_nested_blocks (flat_act o) t (flat_code b)
      (act_flat o) tt (code_flat b)

  arms_flat : (as' : Arms) → EachArms without_nested_blocks (flat_arms as')
  arms_flat no_arm = tt
  arms_flat (arm s b as') = (tt, code_flat b, arms_flat as')

pub procs_flat : (qs : List Procedure) → EveryBodyIsOfKind without_nested_blocks
    (map flat_procedure qs)
procs_flat [] = tt
procs_flat (q ∷ qs) = (code_flat q.body, procs_flat qs)

-- ---- the words that are given

module _ (w most : ℕ) where
  narrow_splice : (c : Code) (t : Target) (k : Code) → NarrowCode w most k
      → NarrowCode w most (spliced c t k)
  unfolding spliced NarrowAct
  narrow_splice (end o) t k h = h
  narrow_splice (store cs c) t k h = narrow_splice c t k h
  narrow_splice (bind u o c) t k h = narrow_splice c t k h

  mutual
    unfolding flat_act NarrowAct

    act_narrow : (o : Act) → NarrowAct w most o → NarrowCode w most (flat_act o)
    act_narrow (case v as') h = arms_narrow as' h
    act_narrow (nested b) h = code_narrow b h
    act_narrow (leaf l) h = h

    code_narrow : (b : Code) → NarrowCode w most b → NarrowCode w most (flat_code b)
    code_narrow (end o) h = act_narrow o h
    code_narrow (store cs b) h = code_narrow b h
    code_narrow (bind t o b) h = narrow_splice (flat_act o) t (flat_code b) (code_narrow b h)

    arms_narrow : (as' : Arms) → NarrowArms w most as' → NarrowArms w most (flat_arms as')
    arms_narrow no_arm h = tt
    arms_narrow (arm s b as') h = (code_narrow b h.0, arms_narrow as' h.1)

  pub procs_narrow : (qs : List Procedure) → AllOf (λ q. NarrowCode w most q.body) qs
      → AllOf (λ q. NarrowCode w most q.body) (map flat_procedure qs)
  procs_narrow [] h = tt
  procs_narrow (q ∷ qs) h = (code_narrow q.body h.0, procs_narrow qs h.1)

pub procs_params : (most : ℕ) (qs : List Procedure) → AllOf (λ q. length q.params ≤ most) qs
    → AllOf (λ q. length q.params ≤ most) (map flat_procedure qs)
procs_params most [] h = tt
procs_params most (q ∷ qs) h = (h.0, procs_params most qs h.1)

pub names_stay : (qs : List Procedure) → names_of (map flat_procedure qs) ≡ names_of qs
names_stay [] = refl
names_stay (q ∷ qs) = ap (λ ns. q.name ∷ ns) (names_stay qs)

-- ---- updates

module _ (count : Val → ℕ) where
  sum_splice : (c : Code) (t : Target) (k : Code) → code_update_sum count (spliced c t k) ≡
      code_update_sum count c + code_update_sum count k
  unfolding spliced act_update_sum
  sum_splice (end o) t k = refl
  sum_splice (store cs c) t k = sum_splice c t k
  sum_splice (bind u o c) t k = let e : code_update_sum count (spliced c t k) ≡ code_update_sum
      count c + code_update_sum count k = sum_splice c t k in omega (arith, e)

  mutual
    unfolding flat_act act_update_sum

    act_sums : (o : Act) → code_update_sum count (flat_act o) ≡ act_update_sum count o
    act_sums (case v as') = arms_sums as'
    act_sums (nested b) = code_sums b
    act_sums (leaf l) = refl

    code_sums : (b : Code) → code_update_sum count (flat_code b) ≡ code_update_sum count b
    code_sums (end o) = act_sums o
    code_sums (store cs b) = code_sums b
    code_sums (bind t o b) = sum_splice (flat_act o) t (flat_code b) ∙
        (λ i. act_sums o i + code_sums b i)

    arms_sums : (as' : Arms) → arms_update_sum count (flat_arms as') ≡ arms_update_sum count as'
    arms_sums no_arm = refl
    arms_sums (arm s b as') = λ i. code_sums b i + arms_sums as' i

  pub procs_sums : (qs : List Procedure) → procs_update_sum count (map flat_procedure qs) ≡
      procs_update_sum count qs
  procs_sums [] = refl
  procs_sums (q ∷ qs) = λ i. code_sums q.body i + procs_sums qs i
