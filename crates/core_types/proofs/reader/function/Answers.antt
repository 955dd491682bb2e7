use Rattle.std.proofs.Common.{◌≡◌, ◌++◌, ◌∷◌, [], ◌∙◌, ap, sym, refl, arith}
use Rattle.std.proofs.lemmas.Result.{err_from_is_err_and}
use Rattle.core_reader.specs.Tree.{NoTerms}
use Rattle.core_reader.specs.Tree as tree
use Rattle.core_reader.specs.Machine.{Outermost, nests, Ended, InBody, Apply, front}
use Rattle.core_reader.specs.AroundOf.{Outside, Within}
use Rattle.core_reader.specs.declared.token.Token.TheVariants as word
use Rattle.core_types.specs.Reading.{binder, function_declaration, InFunction, Params, Top, run}
use Rattle.core_types.specs.Reading as reading
use Rattle.core_types.proofs.Taking.{takes, refuses, refuses_at, fails_from, params, body_read, body_fails, no_param, no_end_step, naming}
use Rattle.core_types.proofs.reader.function.Goals as goal

pub returns-in_err-take-clause-reads : goal.returns-in_err-take-clause-reads
returns-in_err-take-clause-reads c = λ ds.
    let q = err_from_is_err_and c.from_residual-in_err-take.result
    c.from_residual-in_err-take.ensures.1 in
    let b = binder c.args.name c.args.at in
    let ts2 = c.names.new.self.rest.now in
    let named = naming ds c.args.name c.args.at c.args.parser.now.rest.now
    c.advance.new.self.rest.now c.requires.name c.requires.at c.advance.ensures.rest in
    let held = params ds b c.in_ok-params.params.items c.advance.new.self.rest.now ts2
    c.in_ok-params.ensures.reads in
    rw (q.1, q.2) (fails_from c.in_err-take.field-0.0 _ _ (named ∙ held)
    (refuses_at (Params ds b c.in_ok-params.params.items) ts2 c.in_err-take.field-0.0
    c.in_err-take.ensures.takes.1
    (no_param ds b c.in_ok-params.params.items (front ts2).at (front ts2).token
    c.in_ok-params.ensures.whole c.in_err-take.ensures.takes.0)))

pub returns-in_err-body-clause-reads : goal.returns-in_err-body-clause-reads
returns-in_err-body-clause-reads c = λ ds.
    let q = err_from_is_err_and c.from_residual-in_err-body.result
    c.from_residual-in_err-body.ensures.1 in
    let b = binder c.args.name c.args.at in
    let ts2 = c.names.new.self.rest.now in
    let named = naming ds c.args.name c.args.at c.args.parser.now.rest.now
    c.advance.new.self.rest.now c.requires.name c.requires.at c.advance.ensures.rest in
    let held = params ds b c.in_ok-params.params.items c.advance.new.self.rest.now ts2
    c.in_ok-params.ensures.reads in
    let k = InFunction ds b c.in_ok-params.params.items in
    let equals = takes (Outside (Params ds b c.in_ok-params.params.items))
    (Within k (Apply (InBody Outermost) NoTerms)) ts2 (front ts2) word.Equals
    c.take.new.self.rest.now refl c.in_ok-take.ensures.takes.0 c.in_ok-take.ensures.takes.1 refl
    in
    let d : nests Outermost ≡ c.take.new.self.depth = omega arith in
    rw (q.1, q.2)
    (fails_from c.in_err-body.field-0.0 _ _ (named ∙ held ∙ equals)
    (body_fails k c.in_err-body.field-0.0 (Apply (InBody Outermost) NoTerms)
    c.take.new.self.rest.now (c.in_err-body.ensures.reads Outermost d)))

pub returns-in_err-take-2-clause-reads : goal.returns-in_err-take-2-clause-reads
returns-in_err-take-2-clause-reads c = λ ds.
    let q = err_from_is_err_and c.from_residual-in_err-take-2.result
    c.from_residual-in_err-take-2.ensures.1 in
    let b = binder c.args.name c.args.at in
    let ts2 = c.names.new.self.rest.now in
    let ts4 = c.expr.new.self.rest.now in
    let named = naming ds c.args.name c.args.at c.args.parser.now.rest.now
    c.advance.new.self.rest.now c.requires.name c.requires.at c.advance.ensures.rest in
    let held = params ds b c.in_ok-params.params.items c.advance.new.self.rest.now ts2
    c.in_ok-params.ensures.reads in
    let k = InFunction ds b c.in_ok-params.params.items in
    let equals = takes (Outside (Params ds b c.in_ok-params.params.items))
    (Within k (Apply (InBody Outermost) NoTerms)) ts2 (front ts2) word.Equals
    c.take.new.self.rest.now refl c.in_ok-take.ensures.takes.0 c.in_ok-take.ensures.takes.1 refl
    in
    let d : nests Outermost ≡ c.take.new.self.depth = omega arith in
    rw (q.1, q.2)
    (fails_from c.in_err-take-2.field-0.0 _ _
    (named ∙ held ∙ equals ∙ body_read k (tree.expr c.in_ok-body.body) c.take.new.self.rest.now
    ts4 (c.in_ok-body.ensures.reads Outermost d))
    (refuses (Within k (Ended Outermost (tree.expr c.in_ok-body.body))) ts4
    c.in_err-take-2.field-0.0 c.in_err-take-2.ensures.takes.1
    (no_end_step ds b _ (tree.expr c.in_ok-body.body) (front ts4).at (front ts4).token
    c.in_err-take-2.ensures.takes.0)))

pub returns-clause-reads : goal.returns-clause-reads
returns-clause-reads c = λ ds.
    let b = binder c.args.name c.args.at in
    let ts2 = c.names.new.self.rest.now in
    let ts4 = c.expr.new.self.rest.now in
    let named = naming ds c.args.name c.args.at c.args.parser.now.rest.now
    c.advance.new.self.rest.now c.requires.name c.requires.at c.advance.ensures.rest in
    let held = params ds b c.in_ok-params.params.items c.advance.new.self.rest.now ts2
    c.in_ok-params.ensures.reads in
    let k = InFunction ds b c.in_ok-params.params.items in
    let equals = takes (Outside (Params ds b c.in_ok-params.params.items))
    (Within k (Apply (InBody Outermost) NoTerms)) ts2 (front ts2) word.Equals
    c.take.new.self.rest.now refl c.in_ok-take.ensures.takes.0 c.in_ok-take.ensures.takes.1 refl
    in
    let d : nests Outermost ≡ c.take.new.self.depth = omega arith in
    named ∙ held ∙ equals ∙ body_read k (tree.expr c.in_ok-body.body) c.take.new.self.rest.now ts4
    (c.in_ok-body.ensures.reads Outermost d)
    ∙ takes (Within k (Ended Outermost (tree.expr c.in_ok-body.body))) _ ts4 (front ts4)
    word.Semicolon _ refl c.in_ok-take-2.ensures.takes.0 c.in_ok-take-2.ensures.takes.1 refl
    ∙ ap (λ w. reading.at (Top (ds ++ function_declaration b w (tree.expr c.in_ok-body.body) ∷ []))
    c.take-2.new.self.rest.now) (sym c.from_vec.ensures)
