use Rattle.std.proofs.Common.{◌≡◌, ℕ, List, ◌∷◌, ◌++◌, map, refl, sym, ap, ◌∙◌, arith}
use Rattle.std.proofs.lemmas.List.{append-nil}
use Rattle.lambda_reader.specs.declared.syntax.Atom.{Atom}
use Rattle.lambda_reader.specs.declared.syntax.Bind.{Bind}
use Rattle.lambda_reader.specs.declared.syntax.Alt.{Alt}
use Rattle.lambda_reader.specs.Tree.{NoBinds, NoAlts}
use Rattle.lambda_reader.specs.Code.{term, terms_of, member, group_of, expr, alternative, alts_of}
use Rattle.lambda_reader.proofs.TreeOf.{application_of, term_of-Con, term_of-Int, alternative_of, expr_of-Let, expr_of-Case}
use Rattle.arity_check.specs.Scope.{Scope}
use Rattle.lambda_lift.specs.Headers.{names_of, binders_of, bound_by, is_local}
use Rattle.lambda_lift.specs.Free.{uses_term, uses_terms, uses_group, uses, uses_alts}
use Rattle.lambda_lift.specs.Gathered.{program_of_names, scope_names, collected_in_scope, uses_in_application}
use Rattle.lambda_lift.proofs.Folding.{one_more, no_more, two}
use Rattle.lambda_lift.proofs.Gathers.{gathered_append, gathered_none}
use Rattle.lambda_lift.proofs.Members.{member_joins, alternative_joins, uses_joined, uses_alts_joined}
use Rattle.lambda_lift.proofs.Leaving.{shows, hidden_names}
use Rattle.lambda_lift.proofs.free.Around.+free.Goals as goal

-- a member and an alternative, before others
member_used : (inside : List ℕ) (b : Bind) (bs : List Bind)
    → uses_group inside (group_of (map member (b ∷ bs))) ≡ uses_group inside (member b NoBinds)
    ++ uses_group inside (group_of (map member bs))
member_used inside b bs = ap (uses_group inside) (member_joins b (group_of (map member bs))) ∙
    uses_joined inside (member b NoBinds) (group_of (map member bs))

alt_used : (inside : List ℕ) (a : Alt) (as' : List Alt)
    → uses_alts inside (alts_of (map alternative (a ∷ as'))) ≡ uses_alts inside
    (alternative a NoAlts) ++ uses_alts inside (alts_of (map alternative as'))
alt_used inside a as' = ap (uses_alts inside) (alternative_joins a (alts_of (map alternative as')))
    ∙ uses_alts_joined inside (alternative a NoAlts) (alts_of (map alternative as'))

pub app-loop-arg-preserved : goal.app-loop-arg-preserved
app-loop-arg-preserved t c =
    let names = c.args.self.now.words.now in
    let s : Scope = c.args.self.now.scope.now in
    let n : ℕ = c.args.self.now.limit in
    let inside : List ℕ = scope_names c.args.inside.now in
    let x : Atom = c.arg-item.result in
    let found : c.atom-in-loop-arg.new.found ≡ collected_in_scope names s n c.loop-arg.found
    (uses_term inside (term x)) =
    c.in_ok-atom-2.ensures.found ∙ ap
    (λ s'. collected_in_scope names s n c.loop-arg.found (uses_term (scope_names s') (term x)))
    c.loop-arg.invariant.inside in
    record {
      inside = c.in_ok-atom-2.ensures.inside ∙ c.loop-arg.invariant.inside;
      found = one_more (collected_in_scope names s n)
          (λ (as' : List Atom). uses_terms inside (terms_of (map term as')))
          (λ a. uses_term inside (term a)) (gathered_append (is_local (program_of_names names) s) n)
          (λ a as'. refl) c.as_slice-arg-items.result.now c.loop-arg.arg-index x (omega arith)
          c.arg-item.is
          c.loop-arg.found c.atom-in-loop-arg.new.found _ found c.loop-arg.invariant.found;
    }

pub app-returns-clause-found : goal.app-returns-clause-found
app-returns-clause-found t c =
    let names = c.args.self.now.words.now in
    let s : Scope = c.args.self.now.scope.now in
    let n : ℕ = c.args.self.now.limit in
    let inside : List ℕ = scope_names c.args.inside.now in
    let head = term c.args.app.now.head in
    let items : List Atom = c.args.app.now.args in
    let all : c.loop-arg.found ≡ collected_in_scope names s n c.atom.new.found
    (uses_terms inside (terms_of (map term items))) =
    no_more (collected_in_scope names s n)
    (λ (as' : List Atom). uses_terms inside (terms_of (map term as')))
    (gathered_none (is_local (program_of_names names) s) n) refl c.as_slice-arg-items.result.now
    c.loop-arg.arg-index (omega arith) c.loop-arg.found _ c.loop-arg.invariant.found
    ∙ ap (λ as'. collected_in_scope names s n c.atom.new.found
    (uses_terms inside (terms_of (map term as')))) c.as_slice-arg-items.ensures in
    two (collected_in_scope names s n) (gathered_append (is_local (program_of_names names) s) n)
    (uses_term inside head) (uses_terms inside (terms_of (map term items))) c.args.found.now
    c.atom.new.found c.loop-arg.found c.in_ok-atom.ensures.found all
    ∙ ap (λ a. collected_in_scope names s n c.args.found.now (uses_in_application inside a))
    (sym (application_of c.args.app.now))

pub under-returns-clause-inside : goal.under-returns-clause-inside
under-returns-clause-inside t c =
    shows c.args.binders.now c.args.inside.now c.add_bound_names.new.inside c.expr.new.inside
    c.leave.new.self c.len-depth.result c.len-depth.ensures c.in_ok-add_bound_names.ensures
    c.in_ok-expr.ensures.inside c.leave.ensures

pub under-returns-clause-found : goal.under-returns-clause-found
under-returns-clause-found t c =
    let names = c.args.self.now.words.now in
    let s : Scope = c.args.self.now.scope.now in
    let n : ℕ = c.args.self.now.limit in
    c.in_ok-expr.ensures.found
    ∙ ap (λ xs. collected_in_scope names s n c.args.found.now (uses xs (expr c.args.expr.now)))
    (ap scope_names c.in_ok-add_bound_names.ensures ∙ hidden_names c.args.binders.now
    c.args.inside.now)

pub expr-loop-bind-preserved : goal.expr-loop-bind-preserved
expr-loop-bind-preserved t c =
    let names = c.args.self.now.words.now in
    let s : Scope = c.args.self.now.scope.now in
    let n : ℕ = c.args.self.now.limit in
    let inside : List ℕ = scope_names c.add_bound_names.new.inside in
    let x : Bind = c.bind-item.result in
    let found : c.member.new.found ≡ collected_in_scope names s n c.loop-bind.found
    (uses_group inside (member x NoBinds)) =
    c.in_ok-member-in-Let.ensures.found ∙ ap
    (λ s'. collected_in_scope names s n c.loop-bind.found
    (uses_group (scope_names s') (member x NoBinds))) c.loop-bind.invariant.inside in
    record {
      inside = c.in_ok-member-in-Let.ensures.inside ∙ c.loop-bind.invariant.inside;
      found = one_more (collected_in_scope names s n)
          (λ (bs : List Bind). uses_group inside (group_of (map member bs)))
          (λ b. uses_group inside (member b NoBinds))
          (gathered_append (is_local (program_of_names names) s) n) (member_used inside)
          c.as_slice-bind-items.result.now c.loop-bind.bind-index x (omega arith) c.bind-item.is
          c.loop-bind.found c.member.new.found _ found c.loop-bind.invariant.found;
    }

pub expr-loop-alt-preserved : goal.expr-loop-alt-preserved
expr-loop-alt-preserved t c =
    let names = c.args.self.now.words.now in
    let s : Scope = c.args.self.now.scope.now in
    let n : ℕ = c.args.self.now.limit in
    let inside : List ℕ = scope_names c.args.inside.now in
    let x : Alt = c.alt-item.result in
    let found : c.alt.new.found ≡ collected_in_scope names s n c.loop-alt.found
    (uses_alts inside (alternative x NoAlts)) =
    c.in_ok-alt-in-Case.ensures.found ∙ ap
    (λ s'. collected_in_scope names s n c.loop-alt.found
    (uses_alts (scope_names s') (alternative x NoAlts))) c.loop-alt.invariant.inside in
    record {
      inside = c.in_ok-alt-in-Case.ensures.inside ∙ c.loop-alt.invariant.inside;
      found = one_more (collected_in_scope names s n)
          (λ (as' : List Alt). uses_alts inside (alts_of (map alternative as')))
          (λ a. uses_alts inside (alternative a NoAlts))
          (gathered_append (is_local (program_of_names names) s) n) (alt_used inside)
          c.as_slice-alt-items.result.now c.loop-alt.alt-index x (omega arith) c.alt-item.is
          c.loop-alt.found c.alt.new.found _ found c.loop-alt.invariant.found;
    }

pub alt-returns-clause-found : goal.alt-returns-clause-found
alt-returns-clause-found t c =
    let names = c.args.self.now.words.now in
    let s : Scope = c.args.self.now.scope.now in
    let n : ℕ = c.args.self.now.limit in
    let inside : List ℕ = scope_names c.args.inside.now in
    let a : Alt = c.args.alt.now in
    let same = c.as_slice.ensures ∙ c.in_ok-binders.ensures in
    c.in_ok-under.ensures.found ∙ ap
    (λ bs. collected_in_scope names s n c.args.found.now
    (uses (names_of bs ++ inside) (expr a.body))) same
    ∙ ap (collected_in_scope names s n c.args.found.now)
    (sym (append-nil (uses (names_of (bound_by a.pattern) ++ inside) (expr a.body))) ∙ sym
    (ap (uses_alts inside) (alternative_of a NoAlts)))

pub expr-returns-in_ok-expr-in-Let-clause-inside : goal.expr-returns-in_ok-expr-in-Let-clause-inside
expr-returns-in_ok-expr-in-Let-clause-inside t c =
    shows c.as_slice-in-Let.result.now c.args.inside.now c.add_bound_names.new.inside
    c.expr.new.inside c.leave.new.self c.len-depth.result c.len-depth.ensures
    c.in_ok-add_bound_names-in-Let.ensures
    (c.in_ok-expr-in-Let.ensures.inside ∙ c.loop-bind.invariant.inside) c.leave.ensures

pub expr-returns-in_ok-expr-in-Let-clause-found : goal.expr-returns-in_ok-expr-in-Let-clause-found
expr-returns-in_ok-expr-in-Let-clause-found t c =
    let names = c.args.self.now.words.now in
    let s : Scope = c.args.self.now.scope.now in
    let n : ℕ = c.args.self.now.limit in
    let old : List ℕ = c.args.found.now in
    let inside : List ℕ = scope_names c.args.inside.now in
    let inner : List ℕ = scope_names c.add_bound_names.new.inside in
    let group : List Bind = c.in-Let.group in
    let g = group_of (map member group) in
    let body = expr c.in-Let.body.value in
    let bound : c.as_slice-in-Let.result.now ≡ binders_of g
    = c.as_slice-in-Let.ensures ∙ c.in_ok-binders-in-Let.ensures ∙ ap
    (λ g. binders_of (group_of (map member g))) c.as_slice.ensures in
    let deeper : inner ≡ names_of (binders_of g) ++ inside
    = ap scope_names c.in_ok-add_bound_names-in-Let.ensures ∙ hidden_names
    c.as_slice-in-Let.result.now c.args.inside.now ∙ ap (λ bs. names_of bs ++ inside) bound in
    let members : c.loop-bind.found ≡ collected_in_scope names s n old (uses_group inner g) =
    no_more (collected_in_scope names s n)
    (λ (bs : List Bind). uses_group inner (group_of (map member bs)))
    (gathered_none (is_local (program_of_names names) s) n) refl
    c.as_slice-bind-items.result.now c.loop-bind.bind-index (omega arith) c.loop-bind.found _
    c.loop-bind.invariant.found
    ∙ ap (λ bs. collected_in_scope names s n old (uses_group inner (group_of (map member bs))))
    c.as_slice-bind-items.ensures in
    let last : c.expr.new.found ≡ collected_in_scope names s n c.loop-bind.found (uses inner body) =
    c.in_ok-expr-in-Let.ensures.found ∙
    (λ i. collected_in_scope names s n c.loop-bind.found
    (uses (scope_names (c.loop-bind.invariant.inside i)) (expr (c.deref.ensures i)))) in
    two (collected_in_scope names s n) (gathered_append (is_local (program_of_names names) s) n)
    (uses_group inner g) (uses inner body) old c.loop-bind.found c.expr.new.found members last
    ∙ ap (λ xs. collected_in_scope names s n old (uses_group xs g ++ uses xs body)) deeper
    ∙ ap (λ e. collected_in_scope names s n old (uses inside e))
    (sym (expr_of-Let group c.in-Let.body) ∙ ap expr (sym c.in-Let.is))

pub expr-returns-after-loop-alt-clause-found : goal.expr-returns-after-loop-alt-clause-found
expr-returns-after-loop-alt-clause-found t c =
    let names = c.args.self.now.words.now in
    let s : Scope = c.args.self.now.scope.now in
    let n : ℕ = c.args.self.now.limit in
    let old : List ℕ = c.args.found.now in
    let inside : List ℕ = scope_names c.args.inside.now in
    let alts : List Alt = c.in-Case.alts in
    let tested = expr c.in-Case.tested.value in
    let first : c.expr-in-Case.new.found ≡ collected_in_scope names s n old (uses inside tested)
    = c.in_ok-expr-in-Case.ensures.found ∙ ap
    (λ e. collected_in_scope names s n old (uses inside (expr e))) c.deref-in-Case.ensures in
    let last : c.loop-alt.found ≡ collected_in_scope names s n c.expr-in-Case.new.found
    (uses_alts inside (alts_of (map alternative alts))) =
    no_more (collected_in_scope names s n)
    (λ (as' : List Alt). uses_alts inside (alts_of (map alternative as')))
    (gathered_none (is_local (program_of_names names) s) n) refl c.as_slice-alt-items.result.now
    c.loop-alt.alt-index (omega arith) c.loop-alt.found _ c.loop-alt.invariant.found
    ∙ ap (λ as'. collected_in_scope names s n c.expr-in-Case.new.found
    (uses_alts inside (alts_of (map alternative as')))) c.as_slice-alt-items.ensures in
    two (collected_in_scope names s n) (gathered_append (is_local (program_of_names names) s) n)
    (uses inside tested) (uses_alts inside (alts_of (map alternative alts))) old
    c.expr-in-Case.new.found c.loop-alt.found first last
    ∙ ap (λ e. collected_in_scope names s n old (uses inside e))
    (sym (expr_of-Case c.in-Case.tested alts) ∙ ap expr (sym c.in-Case.is))

pub atom-returns-in-Con-clause-found : goal.atom-returns-in-Con-clause-found
atom-returns-in-Con-clause-found t c =
    let names = c.args.self.now.words.now in
    let s : Scope = c.args.self.now.scope.now in
    let n : ℕ = c.args.self.now.limit in
    sym (gathered_none (is_local (program_of_names names) s) n c.args.found.now)
    ∙ ap (collected_in_scope names s n c.args.found.now)
    (sym (ap (uses_term (scope_names c.args.inside.now))
    (ap term c.in-Con.is ∙ term_of-Con c.in-Con.field-0 c.in-Con.field-1)))

pub atom-returns-in-Int-clause-found : goal.atom-returns-in-Int-clause-found
atom-returns-in-Int-clause-found t c =
    let names = c.args.self.now.words.now in
    let s : Scope = c.args.self.now.scope.now in
    let n : ℕ = c.args.self.now.limit in
    sym (gathered_none (is_local (program_of_names names) s) n c.args.found.now)
    ∙ ap (collected_in_scope names s n c.args.found.now)
    (sym (ap (uses_term (scope_names c.args.inside.now))
    (ap term c.in-Int.is ∙ term_of-Int c.in-Int.field-0 c.in-Int.field-1)))
