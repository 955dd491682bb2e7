use Rattle.std.proofs.Common.{◌≡◌, refl, ap, ◌∙◌, arith}
use Rattle.std.proofs.lemmas.Result.{err_from_is_err_and}
use Rattle.core_reader.specs.Machine.{front}
use Rattle.core_reader.specs.AroundOf.{Outside}
use Rattle.core_reader.specs.declared.token.Token.TheVariants as word
use Rattle.core_types.specs.Source.{NoTypes}
use Rattle.core_types.specs.Reading.{binder, ConName, Fields, InFields}
use Rattle.core_types.proofs.Taking.{takes, refuses_at, fails_from, no_con, keeps_fields}
use Rattle.core_types.proofs.reader.constructor.Goals as goal

pub returns-in_err-fields-in-Con-clause-reads : goal.returns-in_err-fields-in-Con-clause-reads
returns-in_err-fields-in-Con-clause-reads c = λ ds d.
    let q = err_from_is_err_and c.from_residual.result c.from_residual.ensures.1 in
    let b = binder c.in-Con.name c.peek-next.result.at in
    let named = takes (Outside (ConName ds d)) (Outside (Fields ds d b NoTypes))
    c.args.parser.now.rest.now c.peek-next.result (word.Con c.in-Con.name)
    c.advance.new.self.rest.now c.peek-next.ensures c.in-Con.is c.advance.ensures.rest refl in
    let depth : 0 ≡ c.advance.new.self.depth = omega arith in
    rw (q.1, q.2)
    (fails_from c.in_err-fields-in-Con.field-0.0 _ _ named
    (c.in_err-fields-in-Con.ensures.reads (Fields ds d b) (InFields ds d b)
    (keeps_fields ds d b) (λ ts. depth)))

pub returns-in_ok-fields-in-Con-clause-reads : goal.returns-in_ok-fields-in-Con-clause-reads
returns-in_ok-fields-in-Con-clause-reads c = λ ds d.
    let b = binder c.in-Con.name c.peek-next.result.at in
    let depth : 0 ≡ c.advance.new.self.depth = omega arith in
    takes (Outside (ConName ds d)) (Outside (Fields ds d b NoTypes)) c.args.parser.now.rest.now
    c.peek-next.result (word.Con c.in-Con.name) c.advance.new.self.rest.now c.peek-next.ensures
    c.in-Con.is c.advance.ensures.rest refl
    ∙ c.in_ok-fields-in-Con.ensures.reads (Fields ds d b) (InFields ds d b) (keeps_fields ds d b)
    (λ ts. depth)

pub returns-in_default : goal.returns-in_default
returns-in_default c =
    let ts = c.args.parser.now.rest.now in
    record {
      reads = λ ds d. refuses_at (ConName ds d) ts c.refusal.result c.refusal.ensures
          (no_con ds d (front ts).at (front ts).token
          (λ n e. c.in_default.not-Con n (ap (λ y. y.token) c.peek-next.ensures ∙ e)));
      whole = tt;
      shorter = tt;
      depth = tt;
    }
