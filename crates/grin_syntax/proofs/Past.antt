-- The first variable past lists that grow at their end.
use Rattle.std.proofs.Common.{◌≡◌, ℕ, zero, suc, ◌+◌, ◌<◌, ◌≤◌, max, List, [], ◌∷◌, ◌++◌, map, take, length, get_or, refl, sym, ap, ◌∙◌, subst, arith}
use Rattle.std.proofs.lemmas.List.{take_more}
use Rattle.std.proofs.lemmas.List.{take_all}
use Rattle.seq.proofs.Lists.{take_next, map_push}
use Rattle.grin_syntax.specs.declared.program.VarId.{VarId}
use Rattle.grin_syntax.specs.declared.program.Cell.{Cell}
use Rattle.grin_syntax.specs.declared.program.Alt.{Alt}
use Rattle.grin_syntax.specs.declared.program.Stmt.{Stmt}
use Rattle.grin_syntax.specs.declared.program.Block.{Block}
use Rattle.grin_syntax.specs.declared.program.Proc.{Proc}
use Rattle.grin_syntax.specs.Tree.{Code, end, Arms, no_arm, arm, Procedure, act_of, before_of, arm_of, code_of, all_before, arms_of, procedure_of}
use Rattle.grin_syntax.proofs.TreeOf.{code_of-parts}
use Rattle.grin_syntax.proofs.Pieces.{all_arms, all_arms_none, all_arms_push, all_before_push}
use Rattle.grin_syntax.specs.Fresh.{variable, variables, past_vars, past_shape, past_cells, past_act, past_code, past_arms, past_procs}

-- ---- variables and cells

past_vars_push : (xs : List VarId) (x : VarId) → past_vars (xs ++ x ∷ []) ≡ max (suc x.0)
    (past_vars xs)
past_vars_push [] x = refl
past_vars_push (y ∷ xs) x = let h : past_vars (xs ++ x ∷ []) ≡ max (suc x.0) (past_vars xs)
    = past_vars_push xs x in omega arith

pub past_vars_next : (xs : List VarId) (i : ℕ) (d : VarId) (old new : ℕ) → i < length xs
    → new ≡ max ((get_or xs i d).0 + 1) old → old ≡ past_vars (take i xs)
    → new ≡ past_vars (take (i + 1) xs)
past_vars_next xs i d old new lt n o =
    let h : past_vars (take i xs ++ get_or xs i d ∷ []) ≡ max (suc (get_or xs i d).0)
    (past_vars (take i xs)) = past_vars_push (take i xs) (get_or xs i d) in
    let e : new ≡ past_vars (take i xs ++ get_or xs i d ∷ []) = omega arith in
    e ∙ ap past_vars (sym (take_more xs i d lt))

past_cells_push : (cs : List Cell) (c : Cell) → past_cells (cs ++ c ∷ []) ≡ max (suc c.var.0)
    (past_cells cs)
past_cells_push [] c = refl
past_cells_push (d ∷ cs) c = let h : past_cells (cs ++ c ∷ []) ≡ max (suc c.var.0) (past_cells cs)
    = past_cells_push cs c in omega arith

pub past_cells_next : (cs : List Cell) (i : ℕ) (c : Cell) (old new : ℕ) → i < length cs
    → c ≡ get_or cs i c → new ≡ max (c.var.0 + 1) old → old ≡ past_cells (take i cs)
    → new ≡ past_cells (take (i + 1) cs)
past_cells_next cs i c old new lt at n o =
    let h : past_cells (take i cs ++ c ∷ []) ≡ max (suc c.var.0) (past_cells (take i cs))
    = past_cells_push (take i cs) c in
    let e : new ≡ past_cells (take i cs ++ c ∷ []) = omega arith in
    e ∙ ap past_cells (sym (take_next cs i c lt at))

-- ---- statements and alternatives

pub record StmtsPast (ss : List Stmt) (past : ℕ) : Type 0 where
  pub by : (c : Code) → past_code (all_before (map before_of ss) c) ≡ max past (past_code c)

pub no_stmts : StmtsPast [] 0
no_stmts = record { by = λ c. omega arith }

stmts_push : (ss : List Stmt) (s : Stmt) (old here new : ℕ) → new ≡ max here old → StmtsPast ss old
    → ((c : Code) → past_code (before_of s c) ≡ max here (past_code c))
    → StmtsPast (ss ++ s ∷ []) new
stmts_push ss s old here new n p h = record
    { by = λ c. ap past_code (all_before_push ss s c) ∙ p.by (before_of s c) ∙ go c (h c) }
  where
    go : (c : Code) → past_code (before_of s c) ≡ max here (past_code c)
        → max old (past_code (before_of s c)) ≡ max new (past_code c)
    go c e = omega arith

pub stmts_next : (ss : List Stmt) (i : ℕ) (s : Stmt) (old here new : ℕ) → i < length ss
    → s ≡ get_or ss i s → new ≡ max here old → StmtsPast (take i ss) old
    → ((c : Code) → past_code (before_of s c) ≡ max here (past_code c))
    → StmtsPast (take (i + 1) ss) new
stmts_next ss i s old here new lt at n p h = subst (λ l. StmtsPast l new)
    (sym (take_next ss i s lt at)) (stmts_push (take i ss) s old here new n p h)

pub block_past : (b : Block) (i past here both : ℕ) → length b.stmts ≤ i
    → StmtsPast (take i b.stmts) past → here ≡ past_act (act_of b.last.value) → both ≡ max here past
    → both ≡ past_code (code_of b)
unfolding past_act
block_past b i past here both le p h n =
    let q : StmtsPast b.stmts past = subst (λ l. StmtsPast l past) (take_all i b.stmts le) p in
    let e : past_code (all_before (map before_of b.stmts) (end (act_of b.last.value))) ≡ max past
    (past_act (act_of b.last.value)) = q.by (end (act_of b.last.value)) in
    let f : both ≡ past_code (all_before (map before_of b.stmts) (end (act_of b.last.value)))
    = omega arith in
    f ∙ ap past_code (sym (code_of-parts b))

pub record ArmsPast (as' : List Alt) (past : ℕ) : Type 0 where
  pub by : (r : Arms) → past_arms (all_arms (map arm_of as') r) ≡ max past (past_arms r)

pub no_arms : ArmsPast [] 0
no_arms = record { by = λ r. omega arith }

pub arms_next : (as' : List Alt) (i : ℕ) (a : Alt) (old shape body one new : ℕ) → i < length as'
    → a ≡ get_or as' i a → shape ≡ past_shape a.pattern → body ≡ past_code (code_of a.body)
    → one ≡ max shape body → new ≡ max one old → ArmsPast (take i as') old
    → ArmsPast (take (i + 1) as') new
unfolding past_act
arms_next as' i a old shape body one new lt at s b o n p
    = subst (λ l. ArmsPast l new) (sym (take_next as' i a lt at))
    (record {
      by = λ r. ap past_arms (all_arms_push (take i as') a r) ∙ p.by
          (arm a.pattern (code_of a.body) r) ∙ go r;
    })
  where
    go : (r : Arms) → max old (past_arms (arm a.pattern (code_of a.body) r)) ≡ max new (past_arms r)
    go r = omega arith

pub arms_past : (as' : List Alt) (i past : ℕ) → length as' ≤ i → ArmsPast (take i as') past
    → past ≡ past_arms (arms_of (map arm_of as'))
unfolding past_act
arms_past as' i past le p =
    let q : ArmsPast as' past = subst (λ l. ArmsPast l past) (take_all i as' le) p in
    let e : past_arms (all_arms (map arm_of as') no_arm) ≡ max past 0 = q.by no_arm in
    let f : past ≡ past_arms (all_arms (map arm_of as') no_arm) = omega arith in
    f ∙ ap past_arms (all_arms_none (map arm_of as'))

-- ---- procedures

past_procs_push : (qs : List Procedure) (q : Procedure)
    → past_procs (qs ++ q ∷ []) ≡ max (max (past_vars q.params) (past_code q.body)) (past_procs qs)
past_procs_push [] q = omega arith
past_procs_push (r ∷ qs) q = let h : past_procs (qs ++ q ∷ []) ≡ max
    (max (past_vars q.params) (past_code q.body)) (past_procs qs) = past_procs_push qs q
    in omega arith

pub past_procs_next : (ps : List Proc) (i : ℕ) (p : Proc) (old params body both new : ℕ)
    → i < length ps → p ≡ get_or ps i p → params ≡ past_vars p.params
    → body ≡ past_code (code_of p.body) → both ≡ max params body → new ≡ max both old
    → old ≡ past_procs (map procedure_of (take i ps))
    → new ≡ past_procs (map procedure_of (take (i + 1) ps))
past_procs_next ps i p old params body both new lt at a b c n o =
    let h : past_procs (map procedure_of (take i ps) ++ procedure_of p ∷ []) ≡ max
    (max (past_vars p.params) (past_code (code_of p.body)))
    (past_procs (map procedure_of (take i ps)))
    = past_procs_push (map procedure_of (take i ps)) (procedure_of p) in
    let e : new ≡ past_procs (map procedure_of (take i ps) ++ procedure_of p ∷ []) = omega arith in
    e ∙ ap past_procs
    (sym (ap (map procedure_of) (take_next ps i p lt at) ∙ map_push procedure_of (take i ps) p))

pub past_procs_all : (ps : List Proc) (i past : ℕ) → length ps ≤ i
    → past ≡ past_procs (map procedure_of (take i ps)) → past ≡ past_procs (map procedure_of ps)
past_procs_all ps i past le e = e ∙ ap (λ l. past_procs (map procedure_of l)) (take_all i ps le)

-- ---- fresh variables

pub variables_push : (k x y n : ℕ) → y ≡ x + k → n ≡ k + 1 → variables x k
    ++ variable y ∷ [] ≡ variables x n
variables_push zero x y n e m = let a : y ≡ x = omega arith in let b : n ≡ 1 = omega arith
    in (λ i. variable (a i) ∷ []) ∙ sym (ap (variables x) b)
variables_push (suc k) x y n e m =
    let a : y ≡ suc x + k = omega arith in
    let b : n ≡ suc (k + 1) = omega arith in
    ap (λ l. variable x ∷ l) (variables_push k (suc x) y (k + 1) a refl) ∙ sym (ap (variables x) b)

pub variables_more : (k x y : ℕ) (made made' : List VarId) (z : VarId) → y ≡ x + k
    → made ≡ variables x k → z ≡ variable y → made' ≡ made ++ z ∷ [] → made' ≡ variables x (k + 1)
variables_more k x y made made' z e m v n = n ∙ (λ i. m i ++ v i ∷ []) ∙ variables_push k x y
    (k + 1) e refl
