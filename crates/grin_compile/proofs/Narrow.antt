-- In a vectorised program no operation goes to more than 14 variables.
use Rattle.std.proofs.Common.{ℕ, ◌≤◌, Bool, true, false, cond, List, [], ◌∷◌, sym, subst, arith}
use Rattle.std.proofs.lemmas.List.{length-map}
use Rattle.grin_syntax.specs.declared.program.VarId.{VarId}
use Rattle.grin_syntax.specs.declared.program.Target.{Target}
use Rattle.grin_syntax.specs.declared.program.Target.TheVariants as to
use Rattle.grin_syntax.specs.declared.program.Tag.{Tag}
use Rattle.grin_syntax.specs.declared.program.TagKind.{TagKind}
use Rattle.grin_syntax.specs.declared.program.TagKind.TheVariants as kind
use Rattle.grin_syntax.specs.Tree.{Code, end, store, bind, Act, leaf, unit, fetch, fetch_word, update, eval, apply, call, prim, read, write, case, nested, fail, Arms, no_arm, arm, Procedure, Program}
use Rattle.grin_meaning.specs.Checks.{is_fetch}
use Rattle.grin_meaning.specs.Ready.{EachAct, EachCode, EachArms, most_fields, value_fields, most_value_fields, Ready, EveryBodyIsOfKind, narrow_kind}
use Rattle.vectorise.specs.Whole.{NoVectorTarget, UsesWholeNodes, whole_node_kind}
use Rattle.vectorise.specs.Widened.{Width, ActWidths, CodeWidths, ArmsWidths, Widths, Widened}
use Rattle.low_translate.specs.Lowers.{TargetsFitCells}
use Rattle.grin_rewrite.proofs.Sound.{all_any}
use Rattle.low_translate.proofs.Sizes.{IsFew}

module _ (most most_value : ℕ) (few : most ≤ 13) (few_value : most_value ≤ 13) where
  narrow_target : (fetched : Bool) (t t' : Target) → NoVectorTarget t
      → Width most most_value fetched t t' → IsFew t'
  narrow_target fetched to.Nothing t' h w = subst IsFew (sym w) (omega arith)
  narrow_target fetched (to.One x) t' h w = subst IsFew (sym w) (omega arith)
  narrow_target fetched (to.Vector xs) t' h w = absurd h
  narrow_target fetched (to.Node x) t' h w = subst IsFew (sym w.1)
      (omega (arith, length-map w.0 (λ (x : VarId). x.0), w.2, room fetched))
    where
      room : (fetched : Bool) → cond fetched most most_value ≤ 13
      room true = few
      room false = few_value

  mutual
    unfolding EachAct ActWidths

    act_narrow : (o o' : Act) → EachAct whole_node_kind o → ActWidths most most_value o o'
        → EachAct (narrow_kind 14) o'
    act_narrow o (leaf (unit v')) e w = (tt, tt)
    act_narrow o (leaf (fetch a')) e w = tt
    act_narrow o (leaf (fetch_word a' k')) e w = tt
    act_narrow o (leaf (update a' v')) e w = (tt, tt)
    act_narrow o (leaf (eval a')) e w = tt
    act_narrow o (leaf (apply v' a')) e w = (tt, tt)
    act_narrow o (leaf (call f' ws')) e w = tt
    act_narrow o (leaf (prim f' a' b')) e w = tt
    act_narrow o (leaf read) e w = tt
    act_narrow o (leaf (write a')) e w = tt
    act_narrow o (leaf fail) e w = tt
    act_narrow (case v as') (case v' bs') e w = (tt, tt, arms_narrow as' bs' e.2 w)
    act_narrow (leaf (unit v)) (case v' bs') e w = absurd w
    act_narrow (leaf (fetch a)) (case v' bs') e w = absurd w
    act_narrow (leaf (fetch_word a k)) (case v' bs') e w = absurd w
    act_narrow (leaf (update a v)) (case v' bs') e w = absurd w
    act_narrow (leaf (eval a)) (case v' bs') e w = absurd w
    act_narrow (leaf (apply v a)) (case v' bs') e w = absurd w
    act_narrow (leaf (call f ws)) (case v' bs') e w = absurd w
    act_narrow (leaf (prim f a b)) (case v' bs') e w = absurd w
    act_narrow (leaf read) (case v' bs') e w = absurd w
    act_narrow (leaf (write a)) (case v' bs') e w = absurd w
    act_narrow (leaf fail) (case v' bs') e w = absurd w
    act_narrow (nested b) (case v' bs') e w = absurd w
    act_narrow (nested b) (nested b') e w = (tt, code_narrow b b' e.1 w)
    act_narrow (leaf (unit v)) (nested b'') e w = absurd w
    act_narrow (leaf (fetch a)) (nested b'') e w = absurd w
    act_narrow (leaf (fetch_word a k)) (nested b'') e w = absurd w
    act_narrow (leaf (update a v)) (nested b'') e w = absurd w
    act_narrow (leaf (eval a)) (nested b'') e w = absurd w
    act_narrow (leaf (apply v a)) (nested b'') e w = absurd w
    act_narrow (leaf (call f ws)) (nested b'') e w = absurd w
    act_narrow (leaf (prim f a b)) (nested b'') e w = absurd w
    act_narrow (leaf read) (nested b'') e w = absurd w
    act_narrow (leaf (write a)) (nested b'') e w = absurd w
    act_narrow (leaf fail) (nested b'') e w = absurd w
    act_narrow (case v as') (nested b'') e w = absurd w

    code_narrow : (b b' : Code) → EachCode whole_node_kind b → CodeWidths most most_value b b'
        → EachCode (narrow_kind 14) b'
    code_narrow (end o) (end o') e w = act_narrow o o' e w
    code_narrow (end o) (store cs' b') e w = absurd w
    code_narrow (end o) (bind t' o' b') e w = absurd w
    code_narrow (store cs b) (store cs' b') e w = (all_any cs', code_narrow b b' e.1 w)
    code_narrow (store cs b) (end o') e w = absurd w
    code_narrow (store cs b) (bind t' o' b') e w = absurd w
    code_narrow (bind t o b) (end o') e w = absurd w
    code_narrow (bind t o b) (store cs' b') e w = absurd w
    code_narrow (bind t o b) (bind t' o' b') e w =
        (narrow_target (is_fetch o) t t' e.0 w.0, act_narrow o o' e.1 w.1, code_narrow b b' e.2 w.2)

    arms_narrow : (as' bs' : Arms) → EachArms whole_node_kind as'
        → ArmsWidths most most_value as' bs' → EachArms (narrow_kind 14) bs'
    arms_narrow no_arm no_arm e w = tt
    arms_narrow no_arm (arm s' b' bs') e w = absurd w
    arms_narrow (arm s b as') no_arm e w = absurd w
    arms_narrow (arm s b as') (arm s' b' bs') e w =
        (tt, code_narrow b b' e.1 w.0, arms_narrow as' bs' e.2 w.1)

  procs_narrow : (qs rs : List Procedure) → EveryBodyIsOfKind whole_node_kind qs
      → Widths most most_value qs rs
      → EveryBodyIsOfKind (narrow_kind 14) rs
  procs_narrow [] [] e w = tt
  procs_narrow [] (r ∷ rs) e w = absurd w
  procs_narrow (q ∷ qs) [] e w = absurd w
  procs_narrow (q ∷ qs) (r ∷ rs) e w =
      (code_narrow q.body r.body e.0 w.0, procs_narrow qs rs e.1 w.1)

pub narrow : (g h : Program) → Ready g → UsesWholeNodes g → Widened g h → TargetsFitCells h
narrow g h ready whole widened =
    procs_narrow (most_fields g.tags) (most_value_fields g.tags) ready.few_fields
    (omega (arith, ready.few_fields, few_value_fields g.tags)) g.procs h.procs whole
    widened.widths
  where
    few_value_fields : (ts : List Tag) → most_value_fields ts ≤ most_fields ts
    few_value_fields [] = omega arith
    few_value_fields (t ∷ ts) = omega (arith, fewer t.kind t.fields, few_value_fields ts)
      where
        fewer : (k : TagKind) (n : ℕ) → value_fields k n ≤ n
        fewer kind.Con n = omega arith
        fewer kind.Fun n = omega arith
        fewer kind.Part n = omega arith
