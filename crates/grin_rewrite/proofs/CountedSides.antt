-- A program and what a rule with fresh variables makes of it run side by side, from what holds of
-- an operation without a block; and two such rules, one after the other.
use Rattle.std.proofs.Common.{◌≡◌, ℕ, ◌+◌, ◌≤◌, List, [], ◌∷◌, refl, sym, subst, arith}
use Rattle.grin_syntax.specs.declared.program.Target.{Target}
use Rattle.grin_syntax.specs.Tree.{Code, end, store, bind, Act, Leaf, leaf, case, nested, Arms, no_arm, arm, Procedure}
use Rattle.grin_syntax.specs.Fresh.{past_act, past_code, past_arms, past_procs}
use Rattle.grin_meaning.specs.Names.{ActOk, CodeOk, ArmsOk, ProcsOk}
use Rattle.grin_meaning.proofs.Alike.{Plain as Setting, ActLike, CodeLike, ArmsLike, case_follows, nested_follows, end_follows, store_follows, bind_follows, no_arm_follows, arm_follows}
use Rattle.grin_meaning.proofs.Simulated.{BodiesLike}
use Rattle.grin_rewrite.specs.Counted.{bound_before, CountedRule, act_room, code_room, before_act, counted_act, counted_code, counted_all, counted_procs}

-- what stands in the place of an operation does what it does, at the end of a block and where its
-- result is bound
pub record Stands (s : Setting) (l : Leaf) (ss : List (Target × Leaf)) (o : Act) : Type 0 where
  pub ended : CodeLike s (end (leaf l)) (bound_before ss (end o))
  pub bound : (t : Target) (b b' : Code) → CodeLike s b b'
      → CodeLike s (bind t (leaf l) b) (bound_before ss (bind t o b'))

-- where nothing is bound before it
pub alone : (s : Setting) (l : Leaf) (o : Act) → ActLike s (leaf l) o → Stands s l [] o
alone s l o f = record
    { ended = end_follows s (leaf l) o f; bound = λ t b b' k. bind_follows s t (leaf l) o b b' f k }

-- by a rule, with fresh variables from x0 on
module _ (s : Setting) (x0 : ℕ) (R : CountedRule)
    (stands : (x : ℕ) → x0 ≤ x → (l : Leaf) → ActOk s.Ok (leaf l)
    → Stands s l (R.before x l) (R.becomes x l)) where
  mutual
    unfolding counted_act act_room ActOk

    code_like : (x : ℕ) → x0 ≤ x → (b : Code) → CodeOk s.Ok b → CodeLike s b (counted_code R x b)
    code_like x le (end (leaf l)) ok = (stands x le l ok).ended
    code_like x le (end (case v as')) ok = end_follows s (case v as') _
        (case_follows s v as' _ ok.0 (arms_like x le as' ok.1))
    code_like x le (end (nested c)) ok = end_follows s (nested c) _
        (nested_follows s c _ (code_like x le c ok))
    code_like x le (store cs b) ok = store_follows s cs b _ ok.0 (code_like x le b ok.1)
    code_like x le (bind t (leaf l) b) ok = (stands x le l ok.0).bound t b _
        (code_like (x + R.room l) (omega arith) b ok.1)
    code_like x le (bind t (case v as') b) ok =
        bind_follows s t (case v as') _ b _
        (case_follows s v as' _ ok.0.0 (arms_like x le as' ok.0.1))
        (code_like (x + act_room R (case v as')) (omega arith) b ok.1)
    code_like x le (bind t (nested c) b) ok = bind_follows s t (nested c) _ b _
        (nested_follows s c _ (code_like x le c ok.0))
        (code_like (x + act_room R (nested c)) (omega arith) b ok.1)

    arms_like : (x : ℕ) → x0 ≤ x → (as' : Arms) → ArmsOk s.Ok as'
        → ArmsLike s as' (counted_all R x as')
    arms_like x le no_arm ok = no_arm_follows s
    arms_like x le (arm p b as') ok = arm_follows s p b _ as' _ (code_like x le b ok.0)
        (arms_like (x + code_room R b) (omega arith) as' ok.1)

  pub procs_like : (x : ℕ) → x0 ≤ x → (qs : List Procedure) → ProcsOk s.Ok qs
      → BodiesLike s.P s.K s.Ok s.g s.procs s qs (counted_procs R x qs)
  procs_like x le [] ok = tt
  procs_like x le (q ∷ qs) ok =
      (refl, code_like x le q.body ok.0, procs_like (x + code_room R q.body) (omega arith) qs ok.1)

-- ---- two rules

-- what becomes of an operation by the one, and of that by the other
pub record Both (R S : CountedRule) (x y : ℕ) (l : Leaf) : Type 0 where
  pub before : List (Target × Leaf)
  pub becomes : Act
  pub next : ℕ
  pub later : y ≤ next
  pub ended : counted_code S y (bound_before (R.before x l) (end (R.becomes x l))) ≡ bound_before
      before (end becomes)
  pub bound : (t : Target) (b : Code) → counted_code S y
      (bound_before (R.before x l) (bind t (R.becomes x l) b)) ≡ bound_before before
      (bind t becomes (counted_code S next b))

module _ (R S : CountedRule) (both : (x y : ℕ) (l : Leaf) → Both R S x y l) (s : Setting) (x0 : ℕ)
    (stands : (x y : ℕ) → x0 ≤ x → x0 ≤ y → (l : Leaf) → ActOk s.Ok (leaf l)
    → Stands s l (both x y l).before (both x y l).becomes) where
  mutual
    unfolding counted_act act_room ActOk

    code_both : (x y : ℕ) → x0 ≤ x → x0 ≤ y → (b : Code) → CodeOk s.Ok b
        → CodeLike s b (counted_code S y (counted_code R x b))
    code_both x y fx fy (end (leaf l)) ok = subst (CodeLike s (end (leaf l)))
        (sym (both x y l).ended) (stands x y fx fy l ok).ended
    code_both x y fx fy (end (case v as')) ok = end_follows s (case v as') _
        (case_follows s v as' _ ok.0 (arms_both x y fx fy as' ok.1))
    code_both x y fx fy (end (nested c)) ok = end_follows s (nested c) _
        (nested_follows s c _ (code_both x y fx fy c ok))
    code_both x y fx fy (store cs b) ok = store_follows s cs b _ ok.0 (code_both x y fx fy b ok.1)
    code_both x y fx fy (bind t (leaf l) b) ok =
        let le : y ≤ (both x y l).next = (both x y l).later in
        subst (CodeLike s (bind t (leaf l) b))
        (sym ((both x y l).bound t (counted_code R (x + R.room l) b)))
        ((stands x y fx fy l ok.0).bound t b _
        (code_both (x + R.room l) (both x y l).next (omega arith) (omega arith) b ok.1))
    code_both x y fx fy (bind t (case v as') b) ok = bind_follows s t (case v as') _ b _
        (case_follows s v as' _ ok.0.0 (arms_both x y fx fy as' ok.0.1))
        (code_both (x + act_room R (case v as')) _ (omega arith) (omega arith) b ok.1)
    code_both x y fx fy (bind t (nested c) b) ok = bind_follows s t (nested c) _ b _
        (nested_follows s c _ (code_both x y fx fy c ok.0))
        (code_both (x + act_room R (nested c)) _ (omega arith) (omega arith) b ok.1)

    arms_both : (x y : ℕ) → x0 ≤ x → x0 ≤ y → (as' : Arms) → ArmsOk s.Ok as'
        → ArmsLike s as' (counted_all S y (counted_all R x as'))
    arms_both x y fx fy no_arm ok = no_arm_follows s
    arms_both x y fx fy (arm p b as') ok = arm_follows s p b _ as' _ (code_both x y fx fy b ok.0)
        (arms_both (x + code_room R b) (y + code_room S (counted_code R x b)) (omega arith)
        (omega arith) as' ok.1)

  pub procs_both : (x y : ℕ) → x0 ≤ x → x0 ≤ y → (qs : List Procedure) → ProcsOk s.Ok qs
      → BodiesLike s.P s.K s.Ok s.g s.procs s qs (counted_procs S y (counted_procs R x qs))
  procs_both x y fx fy [] ok = tt
  procs_both x y fx fy (q ∷ qs) ok = (
    refl,
    code_both x y fx fy q.body ok.0,
    procs_both (x + code_room R q.body)
        (y + code_room S (counted_code R x q.body)) (omega arith) (omega arith) qs ok.1,
  )

-- ---- a rule loses no variable

before_past : (ss : List (Target × Leaf)) (c : Code) → past_code c ≤ past_code (bound_before ss c)
unfolding past_act
before_past [] c = omega arith
before_past (s ∷ ss) c = omega (arith, before_past ss c)

module _ (R : CountedRule) where
  mutual
    unfolding past_act counted_act

    act_past : (x : ℕ) (o : Act) → past_act o ≤ past_act (counted_act R x o)
    act_past x (leaf l) = omega arith
    act_past x (case v as') = arms_past x as'
    act_past x (nested b) = code_past x b

    code_past : (x : ℕ) (b : Code) → past_code b ≤ past_code (counted_code R x b)
    code_past x (end o) = omega
        (arith, act_past x o, before_past (before_act R x o) (end (counted_act R x o)))
    code_past x (store cs b) = omega (arith, code_past x b)
    code_past x (bind t o b) =
        let y = x + act_room R o in
        omega (
          arith,
          act_past x o,
          code_past y b,
          before_past (before_act R x o)
              (bind t (counted_act R x o) (counted_code R y b)),
        )

    arms_past : (x : ℕ) (as' : Arms) → past_arms as' ≤ past_arms (counted_all R x as')
    arms_past x no_arm = omega arith
    arms_past x (arm s b as') = omega (arith, code_past x b, arms_past (x + code_room R b) as')

  pub procs_past : (x : ℕ) (qs : List Procedure) → past_procs qs ≤ past_procs (counted_procs R x qs)
  procs_past x [] = omega arith
  procs_past x (q ∷ qs) = omega (arith, code_past x q.body, procs_past (x + code_room R q.body) qs)
