use Rattle.std.proofs.Common.{◌≡◌, ◌++◌, ◌∷◌, [], ◌∙◌, ap, sym, refl, arith}
use Rattle.std.proofs.lemmas.Result.{err_from_is_err_and}
use Rattle.core_reader.specs.Grammar.{at_most_200}
use Rattle.lambda_reader.specs.Tree.{NoTerms}
use Rattle.lambda_reader.specs.Code as code
use Rattle.core_reader.specs.Machine.{front}
use Rattle.lambda_reader.specs.Machine.{Outermost, nests, Ended, InBody, Apply}
use Rattle.lambda_reader.specs.AroundOf.{Outside, Within}
use Rattle.lambda_reader.specs.Declaring.{function_declaration, InFunction, Params, top, run}
use Rattle.core_reader.specs.declared.token.Token.TheVariants as word
use Rattle.core_reader.proofs.ReadingOf.{memory_fails}
use Rattle.core_reader.proofs.Taking.{fails_from}
use Rattle.lambda_reader.proofs.Declaring.{takes, refuses, params, body_read, body_fails, no_param, no_end, naming}
use Rattle.lambda_reader.proofs.declarations.function.Goals as goal

pub returns-in_err-params-clause-reads : goal.returns-in_err-params-clause-reads
returns-in_err-params-clause-reads c = λ ds.
    let q = err_from_is_err_and c.from_residual.result c.from_residual.ensures.1 in
    let named = naming ds c.args.name c.args.at c.args.parser.now.rest.now
    c.advance.new.self.rest.now c.requires.name c.requires.at c.advance.ensures.rest in
    rw (q.1, q.2)
    (fails_from c.in_err-params.field-0.0 _ _ named
    (memory_fails c.in_err-params.field-0.0 _ c.in_err-params.ensures.reads))

pub returns-in_err-take-clause-reads : goal.returns-in_err-take-clause-reads
returns-in_err-take-clause-reads c = λ ds.
    let q = err_from_is_err_and c.from_residual-in_err-take.result
    c.from_residual-in_err-take.ensures.1 in
    let ts2 = c.names.new.self.rest.now in
    let named = naming ds c.args.name c.args.at c.args.parser.now.rest.now
    c.advance.new.self.rest.now c.requires.name c.requires.at c.advance.ensures.rest in
    rw (q.1, q.2)
    (fails_from c.in_err-take.field-0.0 _ _
    (named ∙ params ds c.args.name c.args.at c.in_ok-params.params.items
    c.advance.new.self.rest.now c.names.new.self.rest.now c.in_ok-params.ensures.reads)
    (refuses (Outside (Params ds c.args.name c.args.at c.in_ok-params.params.items)) ts2
    c.in_err-take.field-0.0 c.in_err-take.ensures.takes.1
    (no_param at_most_200 ds c.args.name c.args.at _ (front ts2).at (front ts2).token
    c.in_ok-params.ensures.whole c.in_err-take.ensures.takes.0)))

pub returns-in_err-body-clause-reads : goal.returns-in_err-body-clause-reads
returns-in_err-body-clause-reads c = λ ds.
    let q = err_from_is_err_and c.from_residual-in_err-body.result
    c.from_residual-in_err-body.ensures.1 in
    let ts2 = c.names.new.self.rest.now in
    let named = naming ds c.args.name c.args.at c.args.parser.now.rest.now
    c.advance.new.self.rest.now c.requires.name c.requires.at c.advance.ensures.rest in
    let k = InFunction ds c.args.name c.args.at c.in_ok-params.params.items in
    let equals = takes (Outside (Params ds c.args.name c.args.at c.in_ok-params.params.items))
    (Within k (Apply (InBody Outermost) NoTerms)) ts2 (front ts2) word.Equals
    c.take.new.self.rest.now refl c.in_ok-take.ensures.takes.0 c.in_ok-take.ensures.takes.1 refl
    in
    let d : nests Outermost ≡ c.take.new.self.depth = omega arith in
    rw (q.1, q.2)
    (fails_from c.in_err-body.field-0.0 _ _
    (named ∙ params ds c.args.name c.args.at c.in_ok-params.params.items
    c.advance.new.self.rest.now c.names.new.self.rest.now c.in_ok-params.ensures.reads ∙ equals)
    (body_fails k c.in_err-body.field-0.0 (Apply (InBody Outermost) NoTerms)
    c.take.new.self.rest.now (c.in_err-body.ensures.reads Outermost d)))

pub returns-in_err-take-2-clause-reads : goal.returns-in_err-take-2-clause-reads
returns-in_err-take-2-clause-reads c = λ ds.
    let q = err_from_is_err_and c.from_residual-in_err-take-2.result
    c.from_residual-in_err-take-2.ensures.1 in
    let ts2 = c.names.new.self.rest.now in
    let ts4 = c.expr.new.parser.rest.now in
    let named = naming ds c.args.name c.args.at c.args.parser.now.rest.now
    c.advance.new.self.rest.now c.requires.name c.requires.at c.advance.ensures.rest in
    let k = InFunction ds c.args.name c.args.at c.in_ok-params.params.items in
    let equals = takes (Outside (Params ds c.args.name c.args.at c.in_ok-params.params.items))
    (Within k (Apply (InBody Outermost) NoTerms)) ts2 (front ts2) word.Equals
    c.take.new.self.rest.now refl c.in_ok-take.ensures.takes.0 c.in_ok-take.ensures.takes.1 refl
    in
    let d : nests Outermost ≡ c.take.new.self.depth = omega arith in
    rw (q.1, q.2)
    (fails_from c.in_err-take-2.field-0.0 _ _
    (named ∙ params ds c.args.name c.args.at c.in_ok-params.params.items
    c.advance.new.self.rest.now c.names.new.self.rest.now c.in_ok-params.ensures.reads ∙ equals
    ∙ body_read k (code.expr c.in_ok-body.body) c.take.new.self.rest.now ts4
    (c.in_ok-body.ensures.reads Outermost d))
    (refuses (Within k (Ended Outermost (code.expr c.in_ok-body.body))) ts4
    c.in_err-take-2.field-0.0 c.in_err-take-2.ensures.takes.1
    (no_end at_most_200 ds c.args.name c.args.at _ (code.expr c.in_ok-body.body) (front ts4).at
    (front ts4).token c.in_err-take-2.ensures.takes.0)))

pub returns-clause-reads : goal.returns-clause-reads
returns-clause-reads c = λ ds.
    let ts2 = c.names.new.self.rest.now in
    let ts4 = c.expr.new.parser.rest.now in
    let named = naming ds c.args.name c.args.at c.args.parser.now.rest.now
    c.advance.new.self.rest.now c.requires.name c.requires.at c.advance.ensures.rest in
    let k = InFunction ds c.args.name c.args.at c.in_ok-params.params.items in
    let equals = takes (Outside (Params ds c.args.name c.args.at c.in_ok-params.params.items))
    (Within k (Apply (InBody Outermost) NoTerms)) ts2 (front ts2) word.Equals
    c.take.new.self.rest.now refl c.in_ok-take.ensures.takes.0 c.in_ok-take.ensures.takes.1 refl
    in
    let d : nests Outermost ≡ c.take.new.self.depth = omega arith in
    named ∙ params ds c.args.name c.args.at c.in_ok-params.params.items c.advance.new.self.rest.now
    c.names.new.self.rest.now c.in_ok-params.ensures.reads ∙ equals ∙ body_read k
    (code.expr c.in_ok-body.body) c.take.new.self.rest.now ts4
    (c.in_ok-body.ensures.reads Outermost d)
    ∙ takes (Within k (Ended Outermost (code.expr c.in_ok-body.body))) _ ts4 (front ts4)
    word.Semicolon _ refl c.in_ok-take-2.ensures.takes.0 c.in_ok-take-2.ensures.takes.1 refl
    ∙ ap (λ w. run at_most_200
    (top (ds ++ function_declaration c.args.name c.args.at w (code.expr c.in_ok-body.body) ∷
    [])) c.take-2.new.self.rest.now) (sym c.from_vec.ensures)
