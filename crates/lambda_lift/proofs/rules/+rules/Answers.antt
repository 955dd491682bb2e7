use Rattle.std.proofs.Common.{◌≡◌, ℕ, List, [], ◌∷◌, ◌++◌, map, length, refl, sym, ap, ◌∙◌, arith, Option}
use Rattle.std.specs.Prelude.{nat_lt, ◌+◌}
use Rattle.std.proofs.lemmas.List.{append-nil}
use Rattle.lambda_reader.specs.declared.syntax.Atom.{Atom}
use Rattle.lambda_reader.specs.declared.syntax.Bind.{Bind}
use Rattle.lambda_reader.specs.declared.syntax.Alt.{Alt}
use Rattle.lambda_reader.specs.Tree.{NoBinds, NoAlts, Program}
use Rattle.lambda_reader.specs.Code.{term, terms_of, member, group_of, expr, alternative, alts_of}
use Rattle.lambda_reader.proofs.TreeOf.{application_of, term_of-Name, term_of-Con, term_of-Int, alternative_of, expr_of-Let, expr_of-Case}
use Rattle.arity_check.specs.Scope.{Scope}
use Rattle.lambda_lift.specs.Headers.{binders_of, bound_by, within}
use Rattle.lambda_lift.specs.Free.{free}
use Rattle.lambda_lift.specs.Abstractions.{Abstraction, in_term, in_terms, in_group, in_expr, in_alts}
use Rattle.lambda_lift.specs.Gathered.{program_of_names}
use Rattle.lambda_lift.specs.Broadest.{abstraction, lambdas_in_application, earlier_place_if, exceeds_parameter_limit, too_broad}
use Rattle.lambda_lift.proofs.Folding.{one_more, no_more, two}
use Rattle.lambda_lift.proofs.Broadness.{broad_joined, broad_none, broad_one, thirteen}
use Rattle.lambda_lift.proofs.Members.{member_joins, alternative_joins, in_joined, in_alts_joined}
use Rattle.lambda_lift.proofs.Leaving.{leaves}
use Rattle.lambda_lift.proofs.rules.+rules.Goals as goal

member_in : (c : Program) (s : Scope) (b : Bind) (bs : List Bind)
    → in_group c s (group_of (map member (b ∷ bs))) ≡ in_group c s (member b NoBinds)
    ++ in_group c s (group_of (map member bs))
member_in c s b bs = ap (in_group c s) (member_joins b (group_of (map member bs))) ∙ in_joined c s
    (member b NoBinds) (group_of (map member bs))

alt_in : (c : Program) (s : Scope) (a : Alt) (as' : List Alt)
    → in_alts c s (alts_of (map alternative (a ∷ as'))) ≡ in_alts c s (alternative a NoAlts)
    ++ in_alts c s (alts_of (map alternative as'))
alt_in c s a as' = ap (in_alts c s) (alternative_joins a (alts_of (map alternative as'))) ∙
    in_alts_joined c s (alternative a NoAlts) (alts_of (map alternative as'))

pub lambdas_in_application-loop-arg-preserved : goal.lambdas_in_application-loop-arg-preserved
lambdas_in_application-loop-arg-preserved t c =
    let d : Program = program_of_names c.args.words.now in
    let s : Scope = c.args.scope.now in
    let x : Atom = c.arg-item.result in
    let first : c.in_ok-first-2.first ≡ too_broad d c.loop-arg.first (in_term d s (term x)) =
    c.in_ok-first-2.ensures.first ∙ ap (λ s'. too_broad d c.loop-arg.first (in_term d s' (term x)))
    c.loop-arg.invariant.scope in
    record {
      scope = c.in_ok-first-2.ensures.scope ∙ c.loop-arg.invariant.scope;
      first = one_more (too_broad d) (λ (as' : List Atom). in_terms d s (terms_of (map term as')))
          (λ a. in_term d s (term a)) (broad_joined d) (λ a as'. refl)
          c.as_slice-arg-items.result.now c.loop-arg.arg-index x (omega arith) c.arg-item.is
          c.loop-arg.first c.in_ok-first-2.first _ first c.loop-arg.invariant.first;
    }

pub in_body-returns-clause-scope : goal.in_body-returns-clause-scope
in_body-returns-clause-scope t c =
    leaves (program_of_names c.args.words.now) c.args.binders.now c.args.scope.now
    c.enter_all.new.scope c.in_expr.new.scope c.leave.new.self c.len-depth.result
    c.len-depth.ensures c.in_ok-enter_all.ensures c.in_ok-first.ensures.scope c.leave.ensures

pub in_body-returns-clause-first : goal.in_body-returns-clause-first
in_body-returns-clause-first t c =
    c.in_ok-first.ensures.first ∙ ap
    (λ s. too_broad (program_of_names c.args.words.now) c.args.first
    (in_expr (program_of_names c.args.words.now) s (expr c.args.body.now)))
    c.in_ok-enter_all.ensures

pub lambdas_in_application-returns-clause-first : goal.lambdas_in_application-returns-clause-first
lambdas_in_application-returns-clause-first t c =
    let d : Program = program_of_names c.args.words.now in
    let s : Scope = c.args.scope.now in
    let items : List Atom = c.args.app.now.args in
    let all : c.loop-arg.first ≡ too_broad d c.in_ok-first.first
    (in_terms d s (terms_of (map term items))) =
    no_more (too_broad d) (λ (as' : List Atom). in_terms d s (terms_of (map term as')))
    (broad_none d) refl c.as_slice-arg-items.result.now c.loop-arg.arg-index (omega arith)
    c.loop-arg.first _ c.loop-arg.invariant.first
    ∙ ap (λ as'. too_broad d c.in_ok-first.first (in_terms d s (terms_of (map term as'))))
    c.as_slice-arg-items.ensures in
    two (too_broad d) (broad_joined d) (in_term d s (term c.args.app.now.head))
    (in_terms d s (terms_of (map term items))) c.args.first c.in_ok-first.first c.loop-arg.first
    c.in_ok-first.ensures.first all
    ∙ ap (λ a. too_broad d c.args.first (lambdas_in_application d s a))
    (sym (application_of c.args.app.now))

pub in_expr-loop-bind-preserved : goal.in_expr-loop-bind-preserved
in_expr-loop-bind-preserved t c =
    let d : Program = program_of_names c.args.words.now in
    let s : Scope = c.enter_all.new.scope in
    let x : Bind = c.bind-item.result in
    let first : c.in_ok-first-in-Let.first ≡ too_broad d c.loop-bind.first
    (in_group d s (member x NoBinds)) =
    c.in_ok-first-in-Let.ensures.first ∙ ap
    (λ s'. too_broad d c.loop-bind.first (in_group d s' (member x NoBinds)))
    c.loop-bind.invariant.scope in
    record {
      scope = c.in_ok-first-in-Let.ensures.scope ∙ c.loop-bind.invariant.scope;
      first = one_more (too_broad d) (λ (bs : List Bind). in_group d s (group_of (map member bs)))
          (λ b. in_group d s (member b NoBinds)) (broad_joined d) (member_in d s)
          c.as_slice-bind-items.result.now c.loop-bind.bind-index x (omega arith) c.bind-item.is
          c.loop-bind.first c.in_ok-first-in-Let.first _ first c.loop-bind.invariant.first;
    }

pub in_expr-loop-alt-preserved : goal.in_expr-loop-alt-preserved
in_expr-loop-alt-preserved t c =
    let d : Program = program_of_names c.args.words.now in
    let s : Scope = c.args.scope.now in
    let x : Alt = c.alt-item.result in
    let first : c.in_ok-first-in-Case-2.first ≡ too_broad d c.loop-alt.first
    (in_alts d s (alternative x NoAlts)) =
    c.in_ok-first-in-Case-2.ensures.first ∙ ap
    (λ s'. too_broad d c.loop-alt.first (in_alts d s' (alternative x NoAlts)))
    c.loop-alt.invariant.scope in
    record {
      scope = c.in_ok-first-in-Case-2.ensures.scope ∙ c.loop-alt.invariant.scope;
      first = one_more (too_broad d)
          (λ (as' : List Alt). in_alts d s (alts_of (map alternative as')))
          (λ a. in_alts d s (alternative a NoAlts)) (broad_joined d) (alt_in d s)
          c.as_slice-alt-items.result.now c.loop-alt.alt-index x (omega arith) c.alt-item.is
          c.loop-alt.first c.in_ok-first-in-Case-2.first _ first c.loop-alt.invariant.first;
    }

pub in_abstraction-returns-clause-first : goal.in_abstraction-returns-clause-first
in_abstraction-returns-clause-first t c =
    let d : Program = program_of_names c.args.words.now in
    let s : Scope = c.args.scope.now in
    let a : Abstraction = abstraction s c.args.params.now (expr c.args.body.now) c.args.at in
    let xs = in_expr d (within d c.args.params.now s) (expr c.args.body.now) in
    let many = length (free d s c.args.params.now (expr c.args.body.now)) in
    let broken : c.has_too_many-is_broken.result ≡ exceeds_parameter_limit d a =
    c.has_too_many-is_broken.ensures ∙
    (λ i. nat_lt 12
    ((c.len.ensures ∙ ap length c.in_ok-free.ensures) i + length c.args.params.now)) ∙ thirteen
    (free d s c.args.params.now (expr c.args.body.now)) (length c.args.params.now) in
    c.in_ok-next.ensures.first ∙ ap (λ f. too_broad d f xs)
    (c.earlier_place_if-here.ensures ∙ ap (λ b. earlier_place_if b c.args.at c.args.first)
    broken) ∙ sym (broad_one d c.args.first a xs)

pub in_alt-returns-clause-first : goal.in_alt-returns-clause-first
in_alt-returns-clause-first t c =
    let d : Program = program_of_names c.args.words.now in
    let s : Scope = c.args.scope.now in
    let a : Alt = c.args.alt.now in
    let same = c.as_slice.ensures ∙ c.in_ok-binders.ensures in
    let none : in_expr d (within d (bound_by a.pattern) s) (expr a.body) ≡ in_expr d
    (within d (bound_by a.pattern) s) (expr a.body) ++ []
    = sym (append-nil (in_expr d (within d (bound_by a.pattern) s) (expr a.body))) in
    c.in_ok-next.ensures.first ∙ ap
    (λ bs. too_broad d c.args.first (in_expr d (within d bs s) (expr a.body))) same
    ∙ ap (too_broad d c.args.first) (none ∙ sym (ap (in_alts d s) (alternative_of a NoAlts)))

pub in_expr-returns-in_ok-last-in-Let-clause-scope :
    goal.in_expr-returns-in_ok-last-in-Let-clause-scope
in_expr-returns-in_ok-last-in-Let-clause-scope t c =
    leaves (program_of_names c.args.words.now) c.as_slice-in-Let.result.now c.args.scope.now
    c.enter_all.new.scope c.in_expr.new.scope c.leave.new.self c.len-depth.result
    c.len-depth.ensures c.in_ok-enter_all-in-Let.ensures
    (c.in_ok-last-in-Let.ensures.scope ∙ c.loop-bind.invariant.scope) c.leave.ensures

pub in_expr-returns-in_ok-last-in-Let-clause-first :
    goal.in_expr-returns-in_ok-last-in-Let-clause-first
in_expr-returns-in_ok-last-in-Let-clause-first t c =
    let d : Program = program_of_names c.args.words.now in
    let s : Scope = c.args.scope.now in
    let old = c.args.first in
    let inner : Scope = c.enter_all.new.scope in
    let group : List Bind = c.in-Let.group in
    let g = group_of (map member group) in
    let body = expr c.in-Let.body.value in
    let bound : c.as_slice-in-Let.result.now ≡ binders_of g
    = c.as_slice-in-Let.ensures ∙ c.in_ok-binders-in-Let.ensures ∙ ap
    (λ g. binders_of (group_of (map member g))) c.as_slice.ensures in
    let deeper : inner ≡ within d (binders_of g) s = c.in_ok-enter_all-in-Let.ensures ∙ ap
    (λ bs. within d bs s) bound in
    let members : c.loop-bind.first ≡ too_broad d old (in_group d inner g) =
    no_more (too_broad d) (λ (bs : List Bind). in_group d inner (group_of (map member bs)))
    (broad_none d) refl c.as_slice-bind-items.result.now c.loop-bind.bind-index (omega arith)
    c.loop-bind.first _ c.loop-bind.invariant.first
    ∙ ap (λ bs. too_broad d old (in_group d inner (group_of (map member bs))))
    c.as_slice-bind-items.ensures in
    let last : c.in_ok-last-in-Let.last ≡ too_broad d c.loop-bind.first (in_expr d inner body) =
    c.in_ok-last-in-Let.ensures.first ∙
    (λ i. too_broad d c.loop-bind.first
    (in_expr d (c.loop-bind.invariant.scope i) (expr (c.deref.ensures i)))) in
    two (too_broad d) (broad_joined d) (in_group d inner g) (in_expr d inner body) old
    c.loop-bind.first c.in_ok-last-in-Let.last members last
    ∙ ap (λ w. too_broad d old (in_group d w g ++ in_expr d w body)) deeper
    ∙ ap (λ e. too_broad d old (in_expr d s e))
    (sym (expr_of-Let group c.in-Let.body) ∙ ap expr (sym c.in-Let.is))

pub in_expr-returns-after-loop-alt-clause-first : goal.in_expr-returns-after-loop-alt-clause-first
in_expr-returns-after-loop-alt-clause-first t c =
    let d : Program = program_of_names c.args.words.now in
    let s : Scope = c.args.scope.now in
    let old = c.args.first in
    let alts : List Alt = c.in-Case.alts in
    let tested = expr c.in-Case.tested.value in
    let first : c.in_ok-first-in-Case.first ≡ too_broad d old (in_expr d s tested)
    = c.in_ok-first-in-Case.ensures.first ∙ ap (λ e. too_broad d old (in_expr d s (expr e)))
    c.deref-in-Case.ensures in
    let last : c.loop-alt.first ≡ too_broad d c.in_ok-first-in-Case.first
    (in_alts d s (alts_of (map alternative alts))) =
    no_more (too_broad d) (λ (as' : List Alt). in_alts d s (alts_of (map alternative as')))
    (broad_none d) refl c.as_slice-alt-items.result.now c.loop-alt.alt-index (omega arith)
    c.loop-alt.first _ c.loop-alt.invariant.first
    ∙ ap (λ as'. too_broad d c.in_ok-first-in-Case.first
    (in_alts d s (alts_of (map alternative as')))) c.as_slice-alt-items.ensures in
    two (too_broad d) (broad_joined d) (in_expr d s tested)
    (in_alts d s (alts_of (map alternative alts))) old c.in_ok-first-in-Case.first
    c.loop-alt.first first last
    ∙ ap (λ e. too_broad d old (in_expr d s e))
    (sym (expr_of-Case c.in-Case.tested alts) ∙ ap expr (sym c.in-Case.is))

in_leaf : (d : Program) (s : Scope) (first : Option ℕ) (a : Atom) → in_term d s (term a) ≡ []
    → first ≡ too_broad d first (in_term d s (term a))
in_leaf d s first a e = sym (ap (too_broad d first) e ∙ broad_none d first)

pub in_atom-returns-in-Name-clause-first : goal.in_atom-returns-in-Name-clause-first
in_atom-returns-in-Name-clause-first t c =
    in_leaf (program_of_names c.args.words.now) c.args.scope.now c.args.first c.args.atom.now
    (ap (in_term (program_of_names c.args.words.now) c.args.scope.now)
    (ap term c.in-Name.is ∙ term_of-Name c.in-Name.field-0 c.in-Name.field-1))

pub in_atom-returns-in-Con-clause-first : goal.in_atom-returns-in-Con-clause-first
in_atom-returns-in-Con-clause-first t c =
    in_leaf (program_of_names c.args.words.now) c.args.scope.now c.args.first c.args.atom.now
    (ap (in_term (program_of_names c.args.words.now) c.args.scope.now)
    (ap term c.in-Con.is ∙ term_of-Con c.in-Con.field-0 c.in-Con.field-1))

pub in_atom-returns-in-Int-clause-first : goal.in_atom-returns-in-Int-clause-first
in_atom-returns-in-Int-clause-first t c =
    in_leaf (program_of_names c.args.words.now) c.args.scope.now c.args.first c.args.atom.now
    (ap (in_term (program_of_names c.args.words.now) c.args.scope.now)
    (ap term c.in-Int.is ∙ term_of-Int c.in-Int.field-0 c.in-Int.field-1))
