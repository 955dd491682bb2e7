-- Whether a variable is used, piece by piece.
use Rattle.std.proofs.Common.{◌≡◌, ℕ, suc, ◌+◌, ◌<◌, ◌≤◌, List, ◌∷◌, ◌++◌, map, length, get_or, drop, drop-cons, refl, sym, ap, ◌∙◌, arith}
use Rattle.std.specs.Prelude.{Bool, true, false, ◌||◌}
use Rattle.std.specs.declared.boxed.Box.{Box}
use Rattle.std.specs.declared.alloc.Global.{Global}
use Rattle.seq.specs.Lists.{is_among}
use Rattle.seq.proofs.Lists.{drop_past}
use Rattle.seq.proofs.Counted.{among_append}
use Rattle.low_code.specs.declared.program.PrimOp.{PrimOp}
use Rattle.low_code.specs.declared.program.Operand.{Operand}
use Rattle.low_code.specs.declared.program.Operand.TheVariants.{Var, Num, Cell}
use Rattle.low_code.specs.declared.program.LowTest.{LowTest}
use Rattle.low_code.specs.declared.program.LowStmt.{LowStmt}
use Rattle.low_code.specs.declared.program.LowStmt.TheVariants.{Set, Prim, Load, Save, Take, Put, Get, Call, Join}
use Rattle.low_code.specs.declared.program.LowEnd.{LowEnd}
use Rattle.low_code.specs.declared.program.LowEnd.TheVariants.{Give, Tail, Choose, Fail}
use Rattle.low_code.specs.declared.program.LowArm.{LowArm}
use Rattle.low_code.specs.declared.program.LowBlock.{LowBlock}
use Rattle.low_code.specs.Tree.{Code, all_before, arms_before, before_of, end_of, code_of, arm_of}
use Rattle.low_code.specs.Formed.{used_by, used_by_all, used_by_tests, uses, arms_uses}
use Rattle.low_code.proofs.TreeOf.{before_of-Set, before_of-Prim, before_of-Load, before_of-Save, before_of-Take, before_of-Put, before_of-Get, before_of-Call, before_of-Join, end_of-Give, end_of-Tail, end_of-Choose, end_of-Fail, arm_of-parts, code_of-parts}
use Rattle.rv32_select.specs.Decides.{is_var}

or_nothing : (p : Bool) → (p || false) ≡ p
or_nothing true = refl
or_nothing false = refl

or_grouped : (p q r : Bool) → ((p || q) || r) ≡ (p || (q || r))
or_grouped true q r = refl
or_grouped false q r = refl

-- one more of several has been looked at
looked : (found found' one here later whole : Bool) → found' ≡ (found || one)
    → here ≡ (one || later) → (found || here) ≡ whole → (found' || later) ≡ whole
looked found found' one here later whole e h i =
    ap (λ b. b || later) e ∙ or_grouped found one later ∙ ap (λ b. found || b) (sym h) ∙ i

used_here : (x : ℕ) (o : Operand) (rest : List ℕ) → is_among x (used_by o ++ rest) ≡
    (is_var x o || is_among x rest)
used_here x (Var y) rest = refl
used_here x (Num k) rest = refl
used_here x (Cell i) rest = refl

used_two : (x : ℕ) (o o' : Operand) (rest : List ℕ)
    → is_among x (used_by o ++ (used_by o' ++ rest)) ≡
    ((is_var x o || is_var x o') || is_among x rest)
used_two x o o' rest =
    used_here x o (used_by o' ++ rest) ∙ ap (λ b. is_var x o || b) (used_here x o' rest) ∙ sym
    (or_grouped (is_var x o) (is_var x o') (is_among x rest))

-- ---- lists

pub using_next : (x : ℕ) (ops : List Operand) (i : ℕ) (d : Operand) (found found' one whole : Bool)
    → i < length ops → one ≡ is_var x (get_or ops i d) → found' ≡ (found || one)
    → (found || is_among x (used_by_all (drop i ops))) ≡ whole
    → (found' || is_among x (used_by_all (drop (i + 1) ops))) ≡ whole
using_next x ops i d found found' one whole lt e f h =
    let next : suc i ≡ i + 1 = omega arith in
    ap (λ k. found' || is_among x (used_by_all (drop k ops))) (sym next)
    ∙ looked found found' one (is_among x (used_by_all (drop i ops)))
    (is_among x (used_by_all (drop (suc i) ops))) whole f
    (ap (λ l. is_among x (used_by_all l)) (drop-cons ops i d lt) ∙ used_here x (get_or ops i d)
    (used_by_all (drop (suc i) ops)) ∙ ap
    (λ b. b || is_among x (used_by_all (drop (suc i) ops))) (sym e)) h

pub using_all : (x : ℕ) (ops : List Operand) (i : ℕ) (found whole : Bool) → length ops ≤ i
    → (found || is_among x (used_by_all (drop i ops))) ≡ whole → found ≡ whole
using_all x ops i found whole over h = sym (or_nothing found) ∙ sym
    (ap (λ l. found || is_among x (used_by_all l)) (drop_past ops i over)) ∙ h

pub testing_next : (x : ℕ) (ts : List LowTest) (i : ℕ) (d : LowTest) (found found' one whole : Bool)
    → i < length ts → one ≡ is_var x ((get_or ts i d).left) → found' ≡ (found || one)
    → (found || is_among x (used_by_tests (drop i ts))) ≡ whole
    → (found' || is_among x (used_by_tests (drop (i + 1) ts))) ≡ whole
testing_next x ts i d found found' one whole lt e f h =
    let next : suc i ≡ i + 1 = omega arith in
    ap (λ k. found' || is_among x (used_by_tests (drop k ts))) (sym next)
    ∙ looked found found' one (is_among x (used_by_tests (drop i ts)))
    (is_among x (used_by_tests (drop (suc i) ts))) whole f
    (ap (λ l. is_among x (used_by_tests l)) (drop-cons ts i d lt) ∙ used_here x
    ((get_or ts i d).left) (used_by_tests (drop (suc i) ts)) ∙ ap
    (λ b. b || is_among x (used_by_tests (drop (suc i) ts))) (sym e)) h

pub testing_all : (x : ℕ) (ts : List LowTest) (i : ℕ) (found whole : Bool) → length ts ≤ i
    → (found || is_among x (used_by_tests (drop i ts))) ≡ whole → found ≡ whole
testing_all x ts i found whole over h = sym (or_nothing found) ∙ sym
    (ap (λ l. found || is_among x (used_by_tests l)) (drop_past ts i over)) ∙ h

-- a statement that uses it or not, by what it is before any code
abbrev pub StmtUses : ℕ → (Code → Code) → Bool → Type 0
StmtUses x before r = (c : Code) → is_among x (uses (before c)) ≡ (r || is_among x (uses c))

pub block_start : (x : ℕ) (b : LowBlock) (items : List LowStmt) → items ≡ b.stmts
    → (false || is_among x (uses (all_before (map before_of items) (end_of b.last)))) ≡ is_among x
    (uses (code_of b))
block_start x b items e = ap
    (λ ss. is_among x (uses (all_before (map before_of ss) (end_of b.last)))) e ∙ sym
    (ap (λ c. is_among x (uses c)) (code_of-parts b))

pub block_next : (x : ℕ) (items : List LowStmt) (i : ℕ) (s : LowStmt) (end : Code)
    (found found' one whole : Bool) → i < length items → s ≡ get_or items i s
    → StmtUses x (before_of s) one → found' ≡ (found || one)
    → (found || is_among x (uses (all_before (map before_of (drop i items)) end))) ≡ whole
    → (found' || is_among x (uses (all_before (map before_of (drop (i + 1) items)) end))) ≡
    whole
block_next x items i s end found found' one whole lt is e f h =
    let front : drop i items ≡ s ∷ drop (suc i) items
    = drop-cons items i s lt ∙ ap (λ y. y ∷ drop (suc i) items) (sym is) in
    let next : suc i ≡ i + 1 = omega arith in
    ap (λ k. found' || is_among x (uses (all_before (map before_of (drop k items)) end))) (sym next)
    ∙ looked found found' one (is_among x (uses (all_before (map before_of (drop i items)) end)))
    (is_among x (uses (all_before (map before_of (drop (suc i) items)) end))) whole f
    (ap (λ l. is_among x (uses (all_before (map before_of l) end))) front ∙ e
    (all_before (map before_of (drop (suc i) items)) end)) h

pub block_all : (x : ℕ) (items : List LowStmt) (i : ℕ) (end : Code) (found last r whole : Bool)
    → length items ≤ i → last ≡ is_among x (uses end) → r ≡ (found || last)
    → (found || is_among x (uses (all_before (map before_of (drop i items)) end))) ≡ whole
    → r ≡ whole
block_all x items i end found last r whole over e f h
    = f ∙ ap (λ b. found || b)
    (e ∙ sym (ap (λ l. is_among x (uses (all_before (map before_of l) end)))
    (drop_past items i over))) ∙ h

arm_here : (x : ℕ) (a : LowArm) (rest : List LowArm) (c : Code) (p q : Bool)
    → p ≡ is_among x (used_by_tests a.tests) → q ≡ is_among x (uses (code_of a.block))
    → is_among x (arms_uses (arms_before (map arm_of (a ∷ rest)) c)) ≡
    ((p || q) || is_among x (arms_uses (arms_before (map arm_of rest) c)))
arm_here x a rest c p q e f =
    let more = arms_uses (arms_before (map arm_of rest) c) in
    ap (λ z. is_among x
    (used_by_tests z.0 ++ (uses z.1 ++ arms_uses (arms_before (map arm_of rest) c))))
    (arm_of-parts a)
    ∙ among_append x (used_by_tests a.tests) (uses (code_of a.block) ++ more)
    ∙ ap (λ b. is_among x (used_by_tests a.tests) || b)
    (among_append x (uses (code_of a.block)) more)
    ∙ sym (or_grouped (is_among x (used_by_tests a.tests)) (is_among x (uses (code_of a.block)))
    (is_among x more))
    ∙ (λ i. (sym e i || sym f i) || is_among x more)

pub arms_next : (x : ℕ) (arms : List LowArm) (i : ℕ) (a : LowArm) (found found' p q r : Bool)
    → i < length arms → a ≡ get_or arms i a → p ≡ is_among x (used_by_tests a.tests)
    → q ≡ is_among x (uses (code_of a.block)) → r ≡ (p || q) → found' ≡ (found || r)
    → ((c : Code) → (found || is_among x (arms_uses (arms_before (map arm_of (drop i arms)) c))) ≡
    is_among x (arms_uses (arms_before (map arm_of arms) c)))
    → (c : Code) →
    (found' || is_among x (arms_uses (arms_before (map arm_of (drop (i + 1) arms)) c))) ≡
    is_among x (arms_uses (arms_before (map arm_of arms) c))
arms_next x arms i a found found' p q r lt is e f g k h c =
    let front : drop i arms ≡ a ∷ drop (suc i) arms
    = drop-cons arms i a lt ∙ ap (λ y. y ∷ drop (suc i) arms) (sym is) in
    let next : suc i ≡ i + 1 = omega arith in
    ap (λ n. found' || is_among x (arms_uses (arms_before (map arm_of (drop n arms)) c))) (sym next)
    ∙ looked found found' r (is_among x (arms_uses (arms_before (map arm_of (drop i arms)) c)))
    (is_among x (arms_uses (arms_before (map arm_of (drop (suc i) arms)) c)))
    (is_among x (arms_uses (arms_before (map arm_of arms) c))) k
    (ap (λ l. is_among x (arms_uses (arms_before (map arm_of l) c))) front ∙ arm_here x a
    (drop (suc i) arms) c p q e f ∙ ap
    (λ b. b || is_among x (arms_uses (arms_before (map arm_of (drop (suc i) arms)) c))) (sym g))
    (h c)

pub arms_all : (x : ℕ) (arms : List LowArm) (i : ℕ) (found : Bool) → length arms ≤ i
    → ((c : Code) → (found || is_among x (arms_uses (arms_before (map arm_of (drop i arms)) c))) ≡
    is_among x (arms_uses (arms_before (map arm_of arms) c)))
    → (c : Code) → is_among x (arms_uses (arms_before (map arm_of arms) c)) ≡
    (found || is_among x (uses c))
arms_all x arms i found over h c = sym (h c) ∙ ap
    (λ l. found || is_among x (arms_uses (arms_before (map arm_of l) c))) (drop_past arms i over)

-- ---- statements

module _ (x : ℕ) (s : LowStmt) (r : Bool) where
  by_before : (f : Code → Code) → before_of s ≡ f → StmtUses x f r → StmtUses x (before_of s) r
  by_before f e h = rw e h

  pub set_uses : (y : ℕ) (a : Operand) → s ≡ Set y a → r ≡ is_var x a → StmtUses x (before_of s) r
  set_uses y a e is = by_before _ (ap before_of e ∙ before_of-Set y a)
      (λ c. used_here x a (uses c) ∙ ap (λ b. b || is_among x (uses c)) (sym is))

  pub prim_uses : (f : PrimOp) (y : ℕ) (a b : Operand) (p q : Bool) → s ≡ Prim f y a b
      → p ≡ is_var x a → q ≡ is_var x b → r ≡ (p || q) → StmtUses x (before_of s) r
  prim_uses f y a b p q e is is' both =
      by_before _ (ap before_of e ∙ before_of-Prim f y a b)
      (λ c. used_two x a b (uses c) ∙ (λ i. (sym is i || sym is' i) || is_among x (uses c)) ∙ ap
      (λ z. z || is_among x (uses c)) (sym both))

  pub load_uses : (y : ℕ) (a : Operand) (k : ℕ) → s ≡ Load y a k → r ≡ is_var x a
      → StmtUses x (before_of s) r
  load_uses y a k e is = by_before _ (ap before_of e ∙ before_of-Load y a k)
      (λ c. used_here x a (uses c) ∙ ap (λ b. b || is_among x (uses c)) (sym is))

  pub save_uses : (a : Operand) (k : ℕ) (b : Operand) (p q : Bool) → s ≡ Save a k b → p ≡ is_var x a
      → q ≡ is_var x b → r ≡ (p || q) → StmtUses x (before_of s) r
  save_uses a k b p q e is is' both =
      by_before _ (ap before_of e ∙ before_of-Save a k b)
      (λ c. used_two x a b (uses c) ∙ (λ i. (sym is i || sym is' i) || is_among x (uses c)) ∙ ap
      (λ z. z || is_among x (uses c)) (sym both))

  pub take_uses : (ys : List ℕ) → s ≡ Take ys → r ≡ false → StmtUses x (before_of s) r
  take_uses ys e none = by_before _ (ap before_of e ∙ before_of-Take ys)
      (λ c. ap (λ b. b || is_among x (uses c)) (sym none))

  pub put_uses : (a : Operand) → s ≡ Put a → r ≡ is_var x a → StmtUses x (before_of s) r
  put_uses a e is = by_before _ (ap before_of e ∙ before_of-Put a)
      (λ c. used_here x a (uses c) ∙ ap (λ b. b || is_among x (uses c)) (sym is))

  pub get_uses : (y : ℕ) → s ≡ Get y → r ≡ false → StmtUses x (before_of s) r
  get_uses y e none = by_before _ (ap before_of e ∙ before_of-Get y)
      (λ c. ap (λ b. b || is_among x (uses c)) (sym none))

  pub call_uses : (f site : ℕ) (as' items : List Operand) (ys : List ℕ) → s ≡ Call f site as' ys
      → items ≡ as' → r ≡ is_among x (used_by_all items) → StmtUses x (before_of s) r
  call_uses f site as' items ys e same is =
      by_before _ (ap before_of e ∙ before_of-Call f site as' ys)
      (λ c. among_append x (used_by_all as') (uses c) ∙ ap (λ b. b || is_among x (uses c))
      (sym (is ∙ ap (λ l. is_among x (used_by_all l)) same)))

  pub join_uses : (ys : List ℕ) (b : Box LowBlock Global) (block : LowBlock) → s ≡ Join ys b
      → block ≡ b.value → r ≡ is_among x (uses (code_of block)) → StmtUses x (before_of s) r
  join_uses ys b block e same is =
      by_before _ (ap before_of e ∙ before_of-Join ys b)
      (λ c. among_append x (uses (code_of b.value)) (uses c) ∙ ap
      (λ z. z || is_among x (uses c)) (sym (is ∙ ap (λ l. is_among x (uses (code_of l))) same)))

-- ---- ends

module _ (x : ℕ) (e : LowEnd) (r : Bool) where
  pub give_uses : (as' items : List Operand) → e ≡ Give as' → items ≡ as'
      → r ≡ is_among x (used_by_all items) → r ≡ is_among x (uses (end_of e))
  give_uses as' items is same h = h ∙ ap (λ l. is_among x (used_by_all l)) same ∙ sym
      (ap (λ c. is_among x (uses c)) (ap end_of is ∙ end_of-Give as'))

  pub tail_uses : (f site : ℕ) (as' items : List Operand) → e ≡ Tail f site as' → items ≡ as'
      → r ≡ is_among x (used_by_all items) → r ≡ is_among x (uses (end_of e))
  tail_uses f site as' items is same h = h ∙ ap (λ l. is_among x (used_by_all l)) same ∙ sym
      (ap (λ c. is_among x (uses c)) (ap end_of is ∙ end_of-Tail f site as'))

  pub choose_uses : (arms items : List LowArm) (b : Box LowBlock Global) (block : LowBlock)
      (p q : Bool) → e ≡ Choose arms b → items ≡ arms → block ≡ b.value
      → ((c : Code) → is_among x (arms_uses (arms_before (map arm_of items) c)) ≡
      (p || is_among x (uses c))) → q ≡ is_among x (uses (code_of block)) → r ≡ (p || q)
      → r ≡ is_among x (uses (end_of e))
  choose_uses arms items b block p q is same there h k both =
      both ∙ ap (λ z. p || z) k ∙ sym (h (code_of block)) ∙
      (λ i. is_among x (arms_uses (arms_before (map arm_of (same i)) (code_of (there i)))))
      ∙ sym (ap (λ c. is_among x (uses c)) (ap end_of is ∙ end_of-Choose arms b))

  pub fail_uses : e ≡ Fail → r ≡ false → r ≡ is_among x (uses (end_of e))
  fail_uses is none = none ∙ sym (ap (λ c. is_among x (uses c)) (ap end_of is ∙ end_of-Fail))

pub ruleset variable_used = (
  set_uses,
  prim_uses,
  load_uses,
  save_uses,
  take_uses,
  put_uses,
  get_uses,
  call_uses,
  join_uses,
  give_uses,
  tail_uses,
  choose_uses,
  fail_uses,
)
