-- A case that stays one follows where its alternatives do.
use Rattle.std.proofs.Common.{◌≡◌, List, Some, refl, ◌∙◌}
use Rattle.grin_syntax.specs.declared.program.Shape.{Shape}
use Rattle.grin_syntax.specs.declared.program.Val.{Val}
use Rattle.grin_syntax.specs.declared.program.Word.{Word}
use Rattle.grin_syntax.specs.Tree.{Arms, no_arm, case, Program}
use Rattle.grin_syntax.specs.Binders.{shape_vars}
use Rattle.grin_meaning.specs.Values.{Value, Env, HeapCell, State, Binding, with_vars, fits, fit_of, value_of}
use Rattle.grin_meaning.specs.Run.{Calls}
use Rattle.grin_meaning.specs.Follows.{Same, same}
use Rattle.grin_meaning.specs.Ready.{PieceKind}
use Rattle.grin_meaning.proofs.Back.{CallsBack}
use Rattle.grin_meaning.proofs.Rules.{Relation, Here, Setting, CallsFollow, ActFollows, ArmsFollow, FitsToo, case_follows, no_arm_follows, arm_follows}
use Rattle.grin_meaning.proofs.Procedures.{side_by_side}
use Rattle.grin_rewrite.specs.WithFacts.{WithFacts}
use Rattle.grin_rewrite.proofs.FactText.{Places}
use Rattle.grin_rewrite.proofs.FactSides.{plan, ArmsGo, none_goes, more_go}

-- H is known of the variables of both programs, and in an alternative what its pattern tells
module _ {F : Type 0} (R : WithFacts F) (word : F → Word → Word) (g : Program) (start : F)
    (K : PieceKind) (p : Places R word g start K) (P : State → Type 0) (H : F → Relation)
    (told : (f : F) (v : Val) (s : Shape) (y : Value) (bs : List Binding) (cells : List HeapCell)
    (env env' : Env) → K.pattern (shape_vars s) → value_of g env' v ≡ Some y
    → fit_of g s y ≡ fits bs → H f cells env env'
    → H (R.inside f v s) cells (with_vars bs env) (with_vars bs env'))
    (c c' : Calls) (cb : CallsBack P c) (cf : CallsFollow (plan R word g start K p P) c c') where
  abbrev st : Setting
  st = side_by_side (plan R word g start K p P) c c' cb cf

  abbrev Going : F → Val → Arms → Arms → Type 0
  Going = ArmsGo R word g start K p P H st

  -- over the value of the case
  abbrev OnValue : F → Val → Value → Value → Relation
  OnValue f v y y' cells env env' = Same y y' × H f cells env env' × (value_of g env' v ≡ Some y)

  fits_both : (f : F) (v : Val) (s : Shape) (cells : List HeapCell) (env env' : Env)
      (bs : List Binding) {y y' : Value} → K.pattern (shape_vars s) → Same y y' → H f cells env env'
      → value_of g env' v ≡ Some y → fit_of g s y ≡ fits bs
      → FitsToo st (H (R.inside f v s)) s env env' cells y' bs
  fits_both f v s cells env env' bs k (same {a = y}) r there e
      = record { bs' = bs; fit = e; related = told f v s y bs cells env env' k there e r }

  same_fit : (s : Shape) {y y' : Value} → Same y y' → fit_of g s y' ≡ fit_of g s y
  same_fit s same = refl

  arms_follow : (f : F) (v : Val) {as' bs' : Arms} → Going f v as' bs'
      → ArmsFollow st (OnValue f v) Same as' bs'
  arms_follow f v none_goes = no_arm_follows st no_arm
  arms_follow f v (more_go s b b' as' bs' k goes rest)
      = arm_follows st {U = OnValue f v} {U' = OnValue f v} {R' = H (R.inside f v s)} s s b b' as'
      bs' goes (arms_follow f v rest)
      (λ y y' x bs e known. fits_both f v s x.w.cells x.env x.env' bs k x.related.0 x.related.1
      x.related.2 e)
      (λ y y' x e. (same_fit s x.related.0 ∙ e, x.related))

  pub case_stays : (f : F) (v v' : Val) (as' bs' : Arms)
      → ((x : Here (plan R word g start K p P) (H f)) (y : Value) → value_of g x.env v ≡ Some y
      → value_of g x.env' v' ≡ Some y) → Going f v' as' bs'
      → ActFollows st (H f) Same (case v as') (case v' bs')
  case_stays f v v' as' bs' goes k = case_follows st {R = H f} {U = OnValue f v'} v v' as' bs'
      (arms_follow f v' k) (λ x y e. (y, goes x y e, (same, x.related, goes x y e)))
