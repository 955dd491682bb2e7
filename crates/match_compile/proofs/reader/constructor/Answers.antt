use Rattle.std.proofs.Common.{◌∙◌, ap, refl}
use Rattle.std.proofs.lemmas.Result.{err_from_is_err_and}
use Rattle.core_reader.specs.Machine.{front}
use Rattle.core_reader.specs.AroundOf.{Outside}
use Rattle.match_compile.specs.Reading.{Top, DataName, Count, DataEnd}
use Rattle.core_reader.specs.declared.token.Token.TheVariants as word
use Rattle.match_compile.proofs.Taken.{fails_from}
use Rattle.match_compile.proofs.Taken.{takes, refuses, no_con, no_semicolon}
use Rattle.match_compile.proofs.reader.constructor.Goals as goal

pub returns-in_err-fields-in-Con-clause-reads : goal.returns-in_err-fields-in-Con-clause-reads
returns-in_err-fields-in-Con-clause-reads c = λ ds.
    let q = err_from_is_err_and c.from_residual.result c.from_residual.ensures.1 in
    let ts = c.args.parser.now.rest.now in
    let entered = takes (Outside (Top ds)) (Outside (DataName ds)) ts (front ts) word.Data
    c.advance.new.self.rest.now refl c.requires c.advance.ensures.rest refl in
    let named = takes (Outside (DataName ds))
    (Outside (Count ds c.in-Con.name c.peek-next.result.at)) c.advance.new.self.rest.now
    c.peek-next.result (word.Con c.in-Con.name) c.advance-in-Con.new.self.rest.now
    c.peek-next.ensures c.in-Con.is c.advance-in-Con.ensures.rest refl in
    rw (q.1, q.2)
    (fails_from c.in_err-fields-in-Con.field-0.0 _ _ (entered ∙ named)
    (c.in_err-fields-in-Con.ensures.reads ds c.in-Con.name c.peek-next.result.at))

pub returns-in_err-take-in-Con-clause-reads : goal.returns-in_err-take-in-Con-clause-reads
returns-in_err-take-in-Con-clause-reads c = λ ds.
    let q = err_from_is_err_and c.from_residual-in_err-take-in-Con.result
    c.from_residual-in_err-take-in-Con.ensures.1 in
    let ts = c.args.parser.now.rest.now in
    let ts3 = c.count.new.parser.rest.now in
    let entered = takes (Outside (Top ds)) (Outside (DataName ds)) ts (front ts) word.Data
    c.advance.new.self.rest.now refl c.requires c.advance.ensures.rest refl in
    let named = takes (Outside (DataName ds))
    (Outside (Count ds c.in-Con.name c.peek-next.result.at)) c.advance.new.self.rest.now
    c.peek-next.result (word.Con c.in-Con.name) c.advance-in-Con.new.self.rest.now
    c.peek-next.ensures c.in-Con.is c.advance-in-Con.ensures.rest refl in
    let counted = c.in_ok-fields-in-Con.ensures.reads ds c.in-Con.name c.peek-next.result.at in
    rw (q.1, q.2) (fails_from c.in_err-take-in-Con.field-0.0 _ _ (entered ∙ named ∙ counted)
    (refuses (Outside (DataEnd ds c.in-Con.name c.peek-next.result.at c.in_ok-fields-in-Con.fields))
    ts3 c.in_err-take-in-Con.field-0.0 c.in_err-take-in-Con.ensures.takes.1
    (no_semicolon ds c.in-Con.name c.peek-next.result.at _ (front ts3).at (front ts3).token
    c.in_err-take-in-Con.ensures.takes.0)))

pub returns-in_ok-take-in-Con-clause-reads : goal.returns-in_ok-take-in-Con-clause-reads
returns-in_ok-take-in-Con-clause-reads c = λ ds.
    let ts = c.args.parser.now.rest.now in
    let ts3 = c.count.new.parser.rest.now in
    let entered = takes (Outside (Top ds)) (Outside (DataName ds)) ts (front ts) word.Data
    c.advance.new.self.rest.now refl c.requires c.advance.ensures.rest refl in
    let named = takes (Outside (DataName ds))
    (Outside (Count ds c.in-Con.name c.peek-next.result.at)) c.advance.new.self.rest.now
    c.peek-next.result (word.Con c.in-Con.name) c.advance-in-Con.new.self.rest.now
    c.peek-next.ensures c.in-Con.is c.advance-in-Con.ensures.rest refl in
    let counted = c.in_ok-fields-in-Con.ensures.reads ds c.in-Con.name c.peek-next.result.at in
    entered ∙ named ∙ counted ∙ takes
    (Outside (DataEnd ds c.in-Con.name c.peek-next.result.at c.in_ok-fields-in-Con.fields)) _
    ts3 (front ts3) word.Semicolon _ refl c.in_ok-take-in-Con.ensures.takes.0
    c.in_ok-take-in-Con.ensures.takes.1 refl

pub returns-in_default : goal.returns-in_default
returns-in_default c = record {
  reads = λ ds.
      let ts = c.args.parser.now.rest.now in
      let ts1 = c.advance.new.self.rest.now in
      let entered = takes (Outside (Top ds)) (Outside (DataName ds)) ts (front ts) word.Data
      c.advance.new.self.rest.now refl c.requires c.advance.ensures.rest refl in
      let h = c.in_default.not-Con in
      fails_from c.refusal.result _ _ entered
      (refuses (Outside (DataName ds)) ts1 c.refusal.result c.refusal.ensures
      (no_con ds (front ts1).at (front ts1).token
      (λ n e. c.in_default.not-Con n (ap (λ y. y.token) c.peek-next.ensures ∙ e))));
  depth = c.advance.ensures.depth;
  shorter = tt;
}
