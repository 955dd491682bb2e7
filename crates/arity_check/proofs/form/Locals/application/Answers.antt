use Rattle.std.proofs.Common.{length, refl, sym, ap, ◌∙◌, subst}
use Rattle.core_reader.specs.Tree as tree
use Rattle.core_reader.specs.Tree.{application}
use Rattle.arity_check.specs.Program as normal
use Rattle.arity_check.specs.Program.{term}
use Rattle.arity_check.specs.Tables.{known}
use Rattle.arity_check.specs.Normal.{IsNormal}
use Rattle.arity_check.proofs.NoFaults.{app_head, app_args}
use Rattle.arity_check.proofs.Flats.{flat_of_app, no_members, some_members}
use Rattle.arity_check.proofs.Normals.{plain_app, bound_app}
use Rattle.arity_check.proofs.TermOf.{term_of-App, term_of-Let}
use Rattle.arity_check.proofs.form.Locals.application.Goals as goal

pub flat-requires-clause-head : goal.flat-requires-clause-head
flat-requires-clause-head c = app_head (known c.args.globals.now) c.args.self.now.scope
    c.args.app.now (length c.as_slice.result.now) (ap length c.as_slice.ensures) c.requires

pub flat-requires-clause-args : goal.flat-requires-clause-args
flat-requires-clause-args c = app_args (known c.args.globals.now) c.args.self.now.scope
    c.args.app.now c.as_slice.result.now c.as_slice.ensures c.requires

pub returns-then-is_empty-clause-form : goal.returns-then-is_empty-clause-form
returns-then-is_empty-clause-form c = λ p k.
    let flat = flat_of_app p c.args.self.now.scope c.new-builder.result c.flat.new.self
    c.args.app.now c.as_slice.result.now c.in_ok-form.form c.as_slice.ensures
    (c.in_ok-form.ensures p k) in
    let plain = plain_app p c.args.self.now.scope c.new-builder.result c.flat.new.self
    c.args.self.now.next c.flat.new.self.next (application c.args.app.now) c.in_ok-form.form
    c.new-builder.ensures.news c.new-builder.ensures.next refl
    (no_members c.flat.new.self.news c.is_empty.result c.is_empty.ensures c.if-is_empty.true)
    flat in
    subst (λ t. IsNormal p c.args.self.now.scope c.args.self.now.next
    (tree.App (application c.args.app.now)) t c.flat.new.self.next)
    (sym (term_of-App c.in_ok-form.form)) plain

pub returns-clause-form : goal.returns-clause-form
returns-clause-form c = λ p k.
    let flat = flat_of_app p c.args.self.now.scope c.new-builder.result c.flat.new.self
    c.args.app.now c.as_slice.result.now c.in_ok-form.form c.as_slice.ensures
    (c.in_ok-form.ensures p k) in
    let bound = bound_app p c.args.self.now.scope c.new-builder.result c.flat.new.self
    c.args.self.now.next c.flat.new.self.next (application c.args.app.now) c.in_ok-form.form
    c.new-builder.ensures.news c.new-builder.ensures.next refl
    (some_members c.flat.new.self.news c.is_empty.result c.is_empty.ensures c.if-is_empty.false)
    flat in
    let body = term_of-Let c.flat.new.self.news c.in_ok-body.body ∙ ap
    (normal.Let c.flat.new.self.news)
    (ap term c.in_ok-body.ensures.ok ∙ term_of-App c.in_ok-form.form) in
    subst (λ t. IsNormal p c.args.self.now.scope c.args.self.now.next
    (tree.App (application c.args.app.now)) t c.flat.new.self.next) (sym body) bound
