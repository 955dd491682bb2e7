-- Comparisons that decide a choice, piece by piece.
use Rattle.std.proofs.Common.{◌≡◌, ◌≢◌, ℕ, List, [], ◌∷◌, ◌++◌, map, length, get_or, refl, sym, ap, ◌∙◌, arith}
use Rattle.std.specs.Prelude.{Bool, true, false, not, ◌||◌, Option, Some, None, nat_lt, if◌then◌else◌}
use Rattle.std.specs.declared.boxed.Box.{Box}
use Rattle.std.specs.declared.alloc.Global.{Global}
use Rattle.seq.specs.Lists.{is_among}
use Rattle.seq.proofs.Counted.{among_append}
use Rattle.low_code.specs.declared.program.PrimOp.{PrimOp}
use Rattle.low_code.specs.declared.program.Operand.{Operand}
use Rattle.low_code.specs.declared.program.LowTest.{LowTest}
use Rattle.low_code.specs.declared.program.LowStmt.{LowStmt}
use Rattle.low_code.specs.declared.program.LowStmt.TheVariants.{Set, Prim, Load, Save, Take, Put, Get, Call, Join}
use Rattle.low_code.specs.declared.program.LowEnd.{LowEnd}
use Rattle.low_code.specs.declared.program.LowEnd.TheVariants.{Choose}
use Rattle.low_code.specs.declared.program.LowArm.{LowArm}
use Rattle.low_code.specs.declared.program.LowBlock.{LowBlock}
use Rattle.low_code.specs.Tree.{Code, arms_before, before_of, end_of, code_of, arm_of}
use Rattle.low_code.specs.Formed.{uses, arms_uses}
use Rattle.low_code.proofs.TreeOf.{before_of-Set, before_of-Prim, before_of-Load, before_of-Save, before_of-Take, before_of-Put, before_of-Get, before_of-Call, before_of-Join, end_of-Choose, arm_of-parts}
use Rattle.rv32_select.specs.declared.decides.Comparison.{Comparison}
use Rattle.rv32_select.specs.Decides.{is_var, tests_result, decides_arms, decides_code, decides, decided}
use Rattle.rv32_select.specs.Emitting.{IsDecidingComparison, DecidesBlockEnd, one_arm}

-- one of two by a test that is known
pub picked : (p t b b' : Bool) → p ≡ t → p ≡ true → b ≡ b' → b ≡ (if t then b' else false)
picked p t b b' e is h = h ∙ sym (ap (λ x. if x then b' else false) (sym e ∙ is))

pub not_picked : (p t b' : Bool) → p ≡ t → p ≡ false → false ≡ (if t then b' else false)
not_picked p t b' e is = sym (ap (λ x. if x then b' else false) (sym e ∙ is))

pub bit_tested : (x : ℕ) (tests : List LowTest) (n : ℕ) (d : LowTest) (r : Bool) → n ≡ length tests
    → n ≡ 1 → r ≡
    (if is_var x (get_or tests 0 d).left then nat_lt (get_or tests 0 d).right 2 else false)
    → r ≡ tests_result x tests
bit_tested x [] n d r e h k = absurd (omega (arith, e, h))
bit_tested x (t ∷ []) n d r e h k = k
bit_tested x (t ∷ (u ∷ ts)) n d r e h k = absurd (omega (arith, e, h))

pub not_one_test : (x : ℕ) (tests : List LowTest) (n : ℕ) → n ≡ length tests → n ≢ 1
    → false ≡ tests_result x tests
not_one_test x [] n e h = refl
not_one_test x (t ∷ []) n e h = absurd (h e)
not_one_test x (t ∷ (u ∷ ts)) n e h = refl

first_arm : (x : ℕ) (first : LowArm) (rest : List LowArm) (c : Code)
    → decides_arms x (arms_before (map arm_of (first ∷ rest)) c)
    ≡ (if tests_result x first.tests then not
    (is_among x (uses (code_of first.block) ++ arms_uses (arms_before (map arm_of rest) c)))
    else false)
first_arm x first rest c = ap (λ p. decides_arms x (one_arm p (arms_before (map arm_of rest) c)))
    (arm_of-parts first)

pub arms_decide : (x : ℕ) (arms rest : List LowArm) (first : LowArm) (c : Code)
    (r p q o later e : Bool) → arms ≡ first ∷ rest → r ≡ tests_result x first.tests → r ≡ true
    → p ≡ is_among x (uses (code_of first.block))
    → ((c : Code) → is_among x (arms_uses (arms_before (map arm_of rest) c)) ≡
    (q || is_among x (uses c))) → o ≡ is_among x (uses c) → later ≡ (q || o) → e ≡ (p || later)
    → not e ≡ decides_arms x (arms_before (map arm_of arms) c)
arms_decide x arms rest first c r p q o later e all t is here others last' l f =
    let more : is_among x (arms_uses (arms_before (map arm_of rest) c)) ≡ later
    = others c ∙ ap (λ b. q || b) (sym last') ∙ sym l in
    let whole : is_among x
    (uses (code_of first.block) ++ arms_uses (arms_before (map arm_of rest) c)) ≡ e =
    among_append x (uses (code_of first.block)) (arms_uses (arms_before (map arm_of rest) c)) ∙
    (λ i. sym here i || more i) ∙ sym f in
    sym (ap (λ ts. decides_arms x (arms_before (map arm_of ts) c)) all ∙ first_arm x first rest c
    ∙ ap (λ b. if b then not
    (is_among x (uses (code_of first.block) ++ arms_uses (arms_before (map arm_of rest) c)))
    else false) (sym t ∙ is)
    ∙ ap not whole)

pub arms_leave : (x : ℕ) (arms rest : List LowArm) (first : LowArm) (c : Code) (r : Bool)
    → arms ≡ first ∷ rest → r ≡ tests_result x first.tests → r ≡ false
    → false ≡ decides_arms x (arms_before (map arm_of arms) c)
arms_leave x arms rest first c r all t is =
    sym (ap (λ ts. decides_arms x (arms_before (map arm_of ts) c)) all ∙ first_arm x first rest c
    ∙ ap (λ b. if b then not
    (is_among x (uses (code_of first.block) ++ arms_uses (arms_before (map arm_of rest) c)))
    else false) (sym t ∙ is))

pub no_arm : (x : ℕ) (arms : List LowArm) (c : Code) → length arms ≡ 0
    → false ≡ decides_arms x (arms_before (map arm_of arms) c)
no_arm x [] c e = refl
no_arm x (a ∷ arms) c e = absurd (omega (arith, e))

pub choice_decides : (x : ℕ) (e : LowEnd) (arms items : List LowArm) (b : Box LowBlock Global)
    (block : LowBlock) (r : Bool) → e ≡ Choose arms b → items ≡ arms → block ≡ b.value
    → r ≡ decides_arms x (arms_before (map arm_of items) (code_of block))
    → r ≡ decides_code x (end_of e)
choice_decides x e arms items b block r is same there h =
    h ∙ (λ i. decides_arms x (arms_before (map arm_of (same i)) (code_of (there i)))) ∙ sym
    (ap (decides_code x) (ap end_of is ∙ end_of-Choose arms b))

-- ---- statements

module _ (s : LowStmt) (end : Code) where
  by_before : (f : Code → Code) → before_of s ≡ f → decided (f end) ≡ false
      → decided (before_of s end) ≡ false
  by_before f e h = ap (λ g. decided (g end)) e ∙ h

  pub set_undecided : (y : ℕ) (a : Operand) → s ≡ Set y a
      → IsDecidingComparison (before_of s) end None
  set_undecided y a e = by_before _ (ap before_of e ∙ before_of-Set y a) refl

  pub load_undecided : (y : ℕ) (a : Operand) (k : ℕ) → s ≡ Load y a k
      → IsDecidingComparison (before_of s) end None
  load_undecided y a k e = by_before _ (ap before_of e ∙ before_of-Load y a k) refl

  pub save_undecided : (a : Operand) (k : ℕ) (b : Operand) → s ≡ Save a k b
      → IsDecidingComparison (before_of s) end None
  save_undecided a k b e = by_before _ (ap before_of e ∙ before_of-Save a k b) refl

  pub take_undecided : (ys : List ℕ) → s ≡ Take ys → IsDecidingComparison (before_of s) end None
  take_undecided ys e = by_before _ (ap before_of e ∙ before_of-Take ys) refl

  pub put_undecided : (a : Operand) → s ≡ Put a → IsDecidingComparison (before_of s) end None
  put_undecided a e = by_before _ (ap before_of e ∙ before_of-Put a) refl

  pub get_undecided : (y : ℕ) → s ≡ Get y → IsDecidingComparison (before_of s) end None
  get_undecided y e = by_before _ (ap before_of e ∙ before_of-Get y) refl

  pub call_undecided : (f site : ℕ) (as' : List Operand) (ys : List ℕ) → s ≡ Call f site as' ys
      → IsDecidingComparison (before_of s) end None
  call_undecided f site as' ys e = by_before _ (ap before_of e ∙ before_of-Call f site as' ys) refl

  pub join_undecided : (ys : List ℕ) (b : Box LowBlock Global) → s ≡ Join ys b
      → IsDecidingComparison (before_of s) end None
  join_undecided ys b e = by_before _ (ap before_of e ∙ before_of-Join ys b) refl

  pub prim_undecided : (f : PrimOp) (y : ℕ) (a b : Operand) (r : Bool) → s ≡ Prim f y a b
      → r ≡ decides f y end → r ≡ false → IsDecidingComparison (before_of s) end None
  prim_undecided f y a b r e is h = by_before _ (ap before_of e ∙ before_of-Prim f y a b)
      (sym is ∙ h)

  pub prim_decided : (f : PrimOp) (y : ℕ) (a b : Operand) (r : Bool) → s ≡ Prim f y a b
      → r ≡ decides f y end → r ≡ true → IsDecidingComparison (before_of s) end
      (Some (record { operation = f; variable = y; left = a; right = b }))
  prim_decided f y a b r e is h = (ap before_of e ∙ before_of-Prim f y a b, sym is ∙ h)

pub deciding_last : (is_last : Bool) (before : Code → Code) (end : Code) (o : Option Comparison)
    → is_last ≡ true → IsDecidingComparison before end o → DecidesBlockEnd is_last before end o
deciding_last is_last before end None e h = λ z. h
deciding_last is_last before end (Some c) e h = (e, h)

pub deciding_none : (is_last : Bool) (before : Code → Code) (end : Code) → is_last ≡ false
    → DecidesBlockEnd is_last before end None
deciding_none is_last before end e = λ z. absurd (let no : false ≡ true = sym e ∙ z in cc)

pub ruleset deciding = (
  choice_decides,
  set_undecided,
  load_undecided,
  save_undecided,
  take_undecided,
  put_undecided,
  get_undecided,
  call_undecided,
  join_undecided,
  prim_undecided,
  prim_decided,
  deciding_last,
  deciding_none,
)
