use Rattle.std.proofs.Common.{rules, ◌≡◌, ℕ, ◌+◌, List, [], ◌∷◌, ◌++◌, map, take, length, refl, sym, ap, ◌∙◌, subst, arith, Some, None, take_all}
use Rattle.std.proofs.lemmas.List.{take_more, map-append, length-map}
use Rattle.std.proofs.lemmas.List.FromFn.{length-range_with_len}
use Rattle.std.specs.List.{range_with_len}
use Rattle.std.specs.Int.{cast_signed, cast_unsigned, w32}
use Rattle.core_reader.specs.declared.syntax.Binder.{Binder}
use Rattle.core_reader.specs.declared.syntax.Pattern.TheVariants as pattern
use Rattle.core_reader.specs.declared.syntax.Alt.{Alt}
use Rattle.core_reader.specs.Tree as tree
use Rattle.core_reader.specs.Tree.{bind, expr, alternative, alts_of, NoAlts}
use Rattle.core_reader.proofs.TreeOf.{expr_of-Let, expr_of-Case}
use Rattle.arity_check.specs.declared.normal.Body.TheVariants as code-body
use Rattle.arity_check.specs.declared.normal.Branch.TheVariants as row
use Rattle.arity_check.specs.Scope.{Scope}
use Rattle.arity_check.specs.Known.{Known, named, all_named, all_entered}
use Rattle.arity_check.specs.Tables.{known}
use Rattle.arity_check.specs.Pieces.{names_of, binders_of}
use Rattle.arity_check.specs.Faults.{no_patterns, expr_faults, alt_faults}
use Rattle.arity_check.specs.Program as normal
use Rattle.arity_check.specs.Program.{term, branch, branches_of, NoMore}
use Rattle.arity_check.specs.Normal.{IsNormal, AreBranches, Choice, NoBranches, IntBranch}
use Rattle.arity_check.proofs.Weight.{expr_weight, alts_weight}
use Rattle.arity_check.proofs.NoFaults.{let_weight, case_weight, alt_weight, let_members, let_body, case_tested, case_patterns, case_alts, alt_body, alt_sound, pattern_sound}
use Rattle.arity_check.proofs.Scopes.{leaves_named, expr_behind}
use Rattle.arity_check.proofs.Rows.{before_alts, before_branches, alts_snoc, branches_snoc, all_alts, all_branches}
use Rattle.arity_check.proofs.TermOf.{term_of-Let, term_of-Case, branch_of-Con, branch_of-Int, branch_of-Default}
use Rattle.arity_check.proofs.Normals.{let_form, con_branch, nameless_branch, named_branch, branch_along}
use Rattle.arity_check.proofs.form.Locals.+body.Goals as goal

-- ---- let groups

pub body-group-requires : goal.body-group-requires
body-group-requires t c = let_members (known c.args.globals.now) c.args.self.now.scope
    c.args.expr.now c.in-Let.group c.as_slice.result.now c.in-Let.body c.in-Let.is
    c.as_slice.ensures c.requires

pub body-body-requires : goal.body-body-requires
body-body-requires t c =
    let k : Known = known c.args.globals.now in
    let s : Scope = c.args.self.now.scope in
    let group : List tree.Bind = map bind c.as_slice.result.now in
    let enters = c.in_ok-bounds-in-Let.ensures in
    let size : length enters.locals ≡ length (binders_of group)
    = enters.size ∙ sym (length-map group (λ (b : tree.Bind). b.binder)) in
    let none : expr_faults k (all_entered k (binders_of group) s) (expr c.deref.result.now) ≡ [] =
    (λ i. expr_faults k (all_entered k (binders_of (map bind (c.as_slice.ensures i))) s)
    (expr (c.deref.ensures i))) ∙ let_body k s c.args.expr.now c.in-Let.group c.in-Let.body
    c.in-Let.is c.requires in
    let w = let_weight c.args.expr.now c.in-Let.group c.in-Let.body c.deref.result.now c.in-Let.is
    c.deref.ensures in (
      omega (arith, w),
      expr_behind k (binders_of group) enters.locals s c.group.new.self.scope
          (expr c.deref.result.now) size enters.scope none,
    )

pub body-returns-in_ok-body-in-Let-2-clause-scope :
    goal.body-returns-in_ok-body-in-Let-2-clause-scope
body-returns-in_ok-body-in-Let-2-clause-scope t c =
    let enters = c.in_ok-bounds-in-Let.ensures in
    leaves_named (known c.args.globals.now) (names_of (binders_of (map bind c.as_slice.result.now)))
    enters.locals c.args.self.now.scope c.group.new.self.scope c.body.new.self.scope
    c.leave.new.self c.len-depth.result
    c.len-depth.ensures enters.scope c.in_ok-body-in-Let.ensures.scope c.leave.ensures

pub body-returns-in_ok-body-in-Let-2-clause-form : goal.body-returns-in_ok-body-in-Let-2-clause-form
body-returns-in_ok-body-in-Let-2-clause-form t c = λ p e.
    let k : Known = known c.args.globals.now in
    let s : Scope = c.args.self.now.scope in
    let n : ℕ = c.args.self.now.next in
    let m : ℕ = c.body.new.self.next in
    let made = let_form p k e (map bind c.as_slice.result.now) (expr c.deref.result.now)
    c.args.self.now c.group.new.self c.in_ok-bounds-in-Let.bounds
    (term c.in_ok-body-in-Let.body) m
    c.in_ok-bounds-in-Let.ensures (c.in_ok-body-in-Let.ensures.form p e) in
    let tree_is : expr c.args.expr.now ≡ tree.Let (map bind c.as_slice.result.now)
    (expr c.deref.result.now) =
    ap expr c.in-Let.is ∙ expr_of-Let c.in-Let.group c.in-Let.body ∙ sym
    (λ i. tree.Let (map bind (c.as_slice.ensures i)) (expr (c.deref.ensures i))) in
    let term_is = term_of-Let c.in_ok-bounds-in-Let.bounds c.in_ok-body-in-Let-2.body ∙ ap
    (λ b. normal.Let c.in_ok-bounds-in-Let.bounds (term b)) c.in_ok-body-in-Let-2.ensures.ok in
    subst (λ q. IsNormal p s n q
    (term (code-body.Let c.in_ok-bounds-in-Let.bounds c.in_ok-body-in-Let-2.body)) m)
    (sym tree_is)
    (subst (λ q. IsNormal p s n
    (tree.Let (map bind c.as_slice.result.now) (expr c.deref.result.now)) q m) (sym term_is)
    made)

-- ---- cases

pub body-body-requires-in-Case : goal.body-body-requires-in-Case
body-body-requires-in-Case t c =
    let k : Known = known c.args.globals.now in
    let s : Scope = c.args.self.now.scope in
    let w = case_weight c.args.expr.now c.in-Case.tested c.in-Case.alts c.in-Case.is in
    let v = ap (λ q. expr_weight (expr q)) c.deref-in-Case.ensures in (
      omega (arith, w, v),
      ap (λ e. expr_faults k s (expr e)) c.deref-in-Case.ensures ∙ case_tested k
          s c.args.expr.now c.in-Case.tested c.in-Case.alts c.in-Case.is c.requires,
    )

pub body-branch-self-requires : goal.body-branch-self-requires
body-branch-self-requires t c =
    let k : Known = known c.args.globals.now in
    let s : Scope = c.args.self.now.scope in
    let items : List Alt = c.as_slice-alt-items.result.now in
    let x : Alt = c.alt-item.result in
    let same : c.loop-alt.self.scope ≡ s = c.loop-alt.invariant.scope ∙
    c.in_ok-subject-in-Case.ensures.scope in
    let patterns = case_patterns k s c.args.expr.now c.in-Case.tested c.in-Case.alts items
    c.in-Case.is c.as_slice-alt-items.ensures c.requires in
    let alts = case_alts k s c.args.expr.now c.in-Case.tested c.in-Case.alts items c.in-Case.is
    c.as_slice-alt-items.ensures c.requires in
    let w = case_weight c.args.expr.now c.in-Case.tested c.in-Case.alts c.in-Case.is in
    let u = ap (λ as'. alts_weight (alts_of (map alternative as'))) c.as_slice-alt-items.ensures in
    let v = alt_weight items c.loop-alt.alt-index x (omega arith) c.alt-item.is in (
      omega (arith, w, u, v),
      (
        pattern_sound k no_patterns items c.loop-alt.alt-index x (omega arith) c.alt-item.is
            patterns,
        ap (λ q. alt_faults k q x.pattern (expr x.body)) same ∙ alt_sound k s items
            c.loop-alt.alt-index x (omega arith) c.alt-item.is alts,
      ),
    )

pub body-loop-alt-preserved : goal.body-loop-alt-preserved
body-loop-alt-preserved t c =
    let i : ℕ = c.loop-alt.alt-index in
    let items : List Alt = c.as_slice-alt-items.result.now in
    let x : Alt = c.alt-item.result in
    let b = c.in_ok-branch-in-Case.branch in
    let s : Scope = c.body-in-Case.new.self.scope in
    let place : take (i + 1) items ≡ take i items ++ x ∷ []
    = take_more items i x (omega arith) ∙ ap (λ y. take i items ++ y ∷ []) (sym c.alt-item.is)
    in
    record {
      subject = c.loop-alt.invariant.subject;
      scope = c.in_ok-branch-in-Case.ensures.scope ∙ c.loop-alt.invariant.scope;
      form = λ p e rest others m f.
          let under = subst (λ q. AreBranches p q c.branch-self.new.self.next rest others m)
          (sym c.loop-alt.invariant.scope) f in
          let one = subst
          (λ q. AreBranches p q c.loop-alt.self.next (alternative x rest) (branch b others) m)
          c.loop-alt.invariant.scope
          (c.in_ok-branch-in-Case.ensures.form p e rest others m under) in
          let all = c.loop-alt.invariant.form p e (alternative x rest) (branch b others) m one in
          let alts : before_alts (map alternative (take (i + 1) items)) rest ≡ before_alts
          (map alternative (take i items)) (alternative x rest) =
          ap (λ as'. before_alts (map alternative as') rest) place ∙ ap (λ fs. before_alts fs rest)
          (map-append alternative (take i items) (x ∷ [])) ∙ alts_snoc
          (map alternative (take i items)) (alternative x) rest in
          let branches : before_branches (map branch c.push.new.self) others ≡ before_branches
          (map branch c.loop-alt.branches) (branch b others) =
          ap (λ bs. before_branches (map branch bs) others) c.in_ok-push-in-Case.ensures.ok ∙ ap
          (λ fs. before_branches fs others) (map-append branch c.loop-alt.branches (b ∷ [])) ∙
          branches_snoc (map branch c.loop-alt.branches) (branch b) others in
          subst (λ q. AreBranches p s c.body-in-Case.new.self.next q
          (before_branches (map branch c.push.new.self) others) m) (sym alts)
          (subst (λ q. AreBranches p s c.body-in-Case.new.self.next
          (before_alts (map alternative (take i items)) (alternative x rest)) q m)
          (sym branches) all);
    }

pub body-returns-in_ok-subject-in-Case-2-clause-form
    : goal.body-returns-in_ok-subject-in-Case-2-clause-form
body-returns-in_ok-subject-in-Case-2-clause-form t c = λ p e.
    let s : Scope = c.args.self.now.scope in
    let n : ℕ = c.args.self.now.next in
    let m : ℕ = c.loop-alt.self.next in
    let items : List Alt = c.as_slice-alt-items.result.now in
    let bs = c.loop-alt.branches in
    let whole : take c.loop-alt.alt-index items ≡ items
    = take_all c.loop-alt.alt-index items (omega arith) in
    let walked = c.loop-alt.invariant.form p e NoAlts NoMore m NoBranches in
    let alts : before_alts (map alternative (take c.loop-alt.alt-index items)) NoAlts ≡ alts_of
    (map alternative items) = ap (λ as'. before_alts (map alternative as') NoAlts) whole ∙
    all_alts (map alternative items) in
    let rows : AreBranches p s c.body-in-Case.new.self.next (alts_of (map alternative items))
    (branches_of (map branch bs)) m =
    subst (λ q. AreBranches p q c.body-in-Case.new.self.next (alts_of (map alternative items))
    (branches_of (map branch bs)) m) c.in_ok-subject-in-Case.ensures.scope
    (subst (λ q. AreBranches p c.body-in-Case.new.self.scope c.body-in-Case.new.self.next q
    (branches_of (map branch bs)) m) alts
    (subst (λ q. AreBranches p c.body-in-Case.new.self.scope c.body-in-Case.new.self.next
    (before_alts (map alternative (take c.loop-alt.alt-index items)) NoAlts) q m)
    (all_branches (map branch bs)) walked)) in
    let made = Choice (c.in_ok-subject-in-Case.ensures.form p e) rows in
    let tree_is : expr c.args.expr.now ≡ tree.Case (expr c.deref-in-Case.result.now)
    (alts_of (map alternative items)) =
    ap expr c.in-Case.is ∙ expr_of-Case c.in-Case.tested c.in-Case.alts ∙ sym
    (λ i. tree.Case (expr (c.deref-in-Case.ensures i))
    (alts_of (map alternative (c.as_slice-alt-items.ensures i)))) in
    let term_is = term_of-Case c.in_ok-subject-in-Case-2.subject bs ∙ ap
    (λ b. normal.Case (term b) (branches_of (map branch bs)))
    (c.in_ok-subject-in-Case-2.ensures.ok ∙ c.loop-alt.invariant.subject) in
    subst (λ q. IsNormal p s n q (term (code-body.Case c.in_ok-subject-in-Case-2.subject bs)) m)
    (sym tree_is)
    (subst (λ q. IsNormal p s n
    (tree.Case (expr c.deref-in-Case.result.now) (alts_of (map alternative items))) q m)
    (sym term_is) made)

-- ---- branches

pub branch-enter_all-requires : goal.branch-enter_all-requires
branch-enter_all-requires t c =
    ap length c.as_slice.ensures ∙ sym c.len.ensures ∙ sym
    (ap length (c.as_slice-in-Con.ensures ∙ c.in_ok-locals-in-Con.ensures.locals) ∙
    length-range_with_len c.args.self.now.next c.len.result)

pub branch-body-requires : goal.branch-body-requires
branch-body-requires t c =
    let k : Known = known c.args.globals.now in
    let s : Scope = c.args.self.now.scope in
    let fields : List Binder = c.in-Con.fields in
    let size : length c.as_slice-in-Con.result.now ≡ length fields
    = ap length (c.as_slice-in-Con.ensures ∙ c.in_ok-locals-in-Con.ensures.locals) ∙
    length-range_with_len c.args.self.now.next c.len.result ∙ c.len.ensures in
    let scope : c.enter_all.new.self.scope ≡ all_named k (names_of fields)
    c.as_slice-in-Con.result.now s =
    c.in_ok-enter_all-in-Con.ensures.scope ∙
    (λ i. all_named k (names_of (c.as_slice.ensures i)) c.as_slice-in-Con.result.now
    (c.in_ok-locals-in-Con.ensures.scope i)) in (
      omega arith,
      expr_behind k fields c.as_slice-in-Con.result.now s c.enter_all.new.self.scope
          (expr c.args.alt.now.body) size scope
          (alt_body k s c.args.alt.now.pattern (pattern.Con c.in-Con.con fields) c.args.alt.now.body
          c.in-Con.is c.requires.alt),
    )

pub branch-returns-in_ok-body-in-Con-clause-scope :
    goal.branch-returns-in_ok-body-in-Con-clause-scope
branch-returns-in_ok-body-in-Con-clause-scope t c =
    let k : Known = known c.args.globals.now in
    let scope : c.enter_all.new.self.scope ≡ all_named k (names_of c.as_slice.result.now)
    c.as_slice-in-Con.result.now c.args.self.now.scope =
    c.in_ok-enter_all-in-Con.ensures.scope ∙ ap
    (all_named k (names_of c.as_slice.result.now) c.as_slice-in-Con.result.now)
    c.in_ok-locals-in-Con.ensures.scope in
    leaves_named k (names_of c.as_slice.result.now) c.as_slice-in-Con.result.now
    c.args.self.now.scope c.enter_all.new.self.scope c.body.new.self.scope c.leave.new.self
    c.len-depth.result
    c.len-depth.ensures scope c.in_ok-body-in-Con.ensures.scope c.leave.ensures

pub branch-returns-in_ok-body-in-Con-clause-form : goal.branch-returns-in_ok-body-in-Con-clause-form
branch-returns-in_ok-body-in-Con-clause-form t c = λ p e rest others m f.
    let k : Known = known c.args.globals.now in
    let s : Scope = c.args.self.now.scope in
    let n : ℕ = c.args.self.now.next in
    let fields : List Binder = c.in-Con.fields in
    let xs : List ℕ = c.in_ok-locals-in-Con.locals in
    let numbers : xs ≡ range_with_len n (length fields)
    = c.in_ok-locals-in-Con.ensures.locals ∙ ap (range_with_len n) c.len.ensures in
    let scope : c.enter_all.new.self.scope ≡ all_named k (names_of fields) xs s =
    c.in_ok-enter_all-in-Con.ensures.scope ∙
    (λ i. all_named k (names_of (c.as_slice.ensures i)) (c.as_slice-in-Con.ensures i)
    (c.in_ok-locals-in-Con.ensures.scope i)) in
    let next : c.enter_all.new.self.next ≡ n + length fields
    = c.in_ok-enter_all-in-Con.ensures.next ∙ c.in_ok-locals-in-Con.ensures.next ∙ ap
    (λ l. n + l) c.len.ensures in
    branch_along p s n m c.args.alt.now (pattern.Con c.in-Con.con fields) rest
    (branch (row.Con c.in-Some.number xs c.in_ok-body-in-Con.body) others)
    (normal.OnCon c.in-Some.number xs (term c.in_ok-body-in-Con.body) others)
    c.in-Con.is (branch_of-Con c.in-Some.number xs c.in_ok-body-in-Con.body others)
    (con_branch p k e c.in-Con.con fields (expr c.args.alt.now.body) rest s
    c.enter_all.new.self.scope n c.enter_all.new.self.next c.body.new.self.next m
    c.in-Some.number xs (term c.in_ok-body-in-Con.body) others
    (sym c.in-Some.ensures) numbers scope next (c.in_ok-body-in-Con.ensures.form p e) f)

pub branch-returns-in_ok-body-in-Int-clause-form : goal.branch-returns-in_ok-body-in-Int-clause-form
branch-returns-in_ok-body-in-Int-clause-form t c = λ p e rest others m f.
    let s : Scope = c.args.self.now.scope in
    let n : ℕ = c.args.self.now.next in
    let number : cast_signed w32 (cast_unsigned w32 c.in-Int.number) ≡ c.in-Int.number
    = search rules in
    branch_along p s n m c.args.alt.now (pattern.Int c.in-Int.number c.in-Int.field-1) rest _
    (normal.OnInt c.in-Int.number (term c.in_ok-body-in-Int.body) others)
    c.in-Int.is
    (ap (λ q. branch (row.Int q c.in_ok-body-in-Int.body) others) number ∙ branch_of-Int
    c.in-Int.number c.in_ok-body-in-Int.body others)
    (IntBranch (c.in_ok-body-in-Int.ensures.form p e) f)

pub branch-returns-then-is_nameless-clause-form : goal.branch-returns-then-is_nameless-clause-form
branch-returns-then-is_nameless-clause-form t c = λ p e rest others m f.
    let s : Scope = c.args.self.now.scope in
    let n : ℕ = c.args.self.now.next in
    branch_along p s n m c.args.alt.now (pattern.Default c.in-Default.binder) rest
    (branch (row.Default None c.in_ok-body-in-Default.body) others)
    (normal.OnAny None (term c.in_ok-body-in-Default.body) others)
    c.in-Default.is (branch_of-Default None c.in_ok-body-in-Default.body others)
    (nameless_branch p (known c.args.globals.now) e c.in-Default.binder (expr c.args.alt.now.body)
    rest s n c.body-then-is_nameless.new.self.next m (term c.in_ok-body-in-Default.body) others
    (sym c.is_nameless.ensures ∙ c.if-is_nameless.true) (c.in_ok-body-in-Default.ensures.form p e)
    f)

pub branch-body-requires-in-Default : goal.branch-body-requires-in-Default
branch-body-requires-in-Default t c =
    let k : Known = known c.args.globals.now in
    let s : Scope = c.args.self.now.scope in
    let x : Binder = c.in-Default.binder in
    let y : ℕ = c.in_ok-local-in-Default.local in
    let scope : c.enter.new.self.scope ≡ named k x.name.0 y s
    = c.in_ok-enter-in-Default.ensures.scope ∙ ap (named k x.name.0 y)
    c.in_ok-local-in-Default.ensures.scope in (
      omega arith,
      expr_behind k (x ∷ []) (y ∷ []) s c.enter.new.self.scope (expr c.args.alt.now.body) refl scope
          (alt_body k s c.args.alt.now.pattern (pattern.Default x) c.args.alt.now.body
          c.in-Default.is c.requires.alt),
    )

pub branch-returns-in_ok-body-in-Default-2-clause-form
    : goal.branch-returns-in_ok-body-in-Default-2-clause-form
branch-returns-in_ok-body-in-Default-2-clause-form t c = λ p e rest others m f.
    let k : Known = known c.args.globals.now in
    let s : Scope = c.args.self.now.scope in
    let n : ℕ = c.args.self.now.next in
    let x : Binder = c.in-Default.binder in
    let y : ℕ = c.in_ok-local-in-Default.local in
    let scope : c.enter.new.self.scope ≡ named k x.name.0 y s
    = c.in_ok-enter-in-Default.ensures.scope ∙ ap (named k x.name.0 y)
    c.in_ok-local-in-Default.ensures.scope in
    let next : c.enter.new.self.next ≡ n + 1 = c.in_ok-enter-in-Default.ensures.next ∙
    c.in_ok-local-in-Default.ensures.next in
    branch_along p s n m c.args.alt.now (pattern.Default x) rest
    (branch (row.Default (Some y) c.in_ok-body-in-Default-2.body) others)
    (normal.OnAny (Some y) (term c.in_ok-body-in-Default-2.body) others)
    c.in-Default.is (branch_of-Default (Some y) c.in_ok-body-in-Default-2.body others)
    (named_branch p k e x (expr c.args.alt.now.body) rest s c.enter.new.self.scope n
    c.enter.new.self.next c.body-in-Default.new.self.next m y
    (term c.in_ok-body-in-Default-2.body) others
    (sym c.is_nameless.ensures ∙ c.if-is_nameless.false) c.in_ok-local-in-Default.ensures.local
    scope next (c.in_ok-body-in-Default-2.ensures.form p e) f)
