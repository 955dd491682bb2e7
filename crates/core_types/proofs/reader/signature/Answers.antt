use Rattle.std.proofs.Common.{refl, ap, ◌∙◌}
use Rattle.std.proofs.lemmas.Result.{err_from_is_err_and}
use Rattle.core_reader.specs.Machine.{front}
use Rattle.core_reader.specs.AroundOf.{Outside}
use Rattle.core_reader.specs.declared.token.Token.TheVariants as word
use Rattle.core_reader.specs.declared.token.Further.TheVariants as further
use Rattle.core_types.specs.Source.{NoTypes}
use Rattle.core_types.specs.Reading.{binder, Top, SigName, SigColon, OneType, InParts}
use Rattle.core_types.proofs.Taking.{takes, refuses_at, fails_from, no_sig_name, no_colon}
use Rattle.core_types.proofs.reader.signature.Goals as goal

pub returns-in_err-take-in-Name-clause-reads : goal.returns-in_err-take-in-Name-clause-reads
returns-in_err-take-in-Name-clause-reads c = λ ds.
    let q = err_from_is_err_and c.from_residual.result c.from_residual.ensures.1 in
    let ts = c.args.parser.now.rest.now in
    let b = binder c.in-Name.name c.peek-next.result.at in
    let ts2 = c.advance-in-Name.new.self.rest.now in
    let entered = takes (Outside (Top ds)) (Outside (SigName ds)) ts (front ts)
    (word.Further further.Signature) c.advance.new.self.rest.now refl c.requires.word
    c.advance.ensures.rest refl in
    let named = takes (Outside (SigName ds)) (Outside (SigColon ds b)) c.advance.new.self.rest.now
    c.peek-next.result (word.Name c.in-Name.name) ts2 c.peek-next.ensures c.in-Name.is
    c.advance-in-Name.ensures.rest refl in
    rw (q.1, q.2)
    (fails_from c.in_err-take-in-Name.field-0.0 _ _ (entered ∙ named)
    (refuses_at (SigColon ds b) ts2 c.in_err-take-in-Name.field-0.0
    c.in_err-take-in-Name.ensures.takes.1
    (no_colon ds b (front ts2).at (front ts2).token c.in_err-take-in-Name.ensures.takes.0)))

pub returns-in_err-signature-in-Name-clause-reads :
    goal.returns-in_err-signature-in-Name-clause-reads
returns-in_err-signature-in-Name-clause-reads c = λ ds.
    let q = err_from_is_err_and c.from_residual-in_err-signature-in-Name.result
    c.from_residual-in_err-signature-in-Name.ensures.1 in
    let ts = c.args.parser.now.rest.now in
    let b = binder c.in-Name.name c.peek-next.result.at in
    let ts2 = c.advance-in-Name.new.self.rest.now in
    let entered = takes (Outside (Top ds)) (Outside (SigName ds)) ts (front ts)
    (word.Further further.Signature) c.advance.new.self.rest.now refl c.requires.word
    c.advance.ensures.rest refl in
    let named = takes (Outside (SigName ds)) (Outside (SigColon ds b)) c.advance.new.self.rest.now
    c.peek-next.result (word.Name c.in-Name.name) ts2 c.peek-next.ensures c.in-Name.is
    c.advance-in-Name.ensures.rest refl in
    let colon = takes (Outside (SigColon ds b)) (Outside (OneType (InParts ds b NoTypes))) ts2
    (front ts2) (word.Further further.Colon) c.take.new.self.rest.now refl
    c.in_ok-take-in-Name.ensures.takes.0 c.in_ok-take-in-Name.ensures.takes.1 refl in
    rw (q.1, q.2)
    (fails_from c.in_err-signature-in-Name.field-0.0 _ _ (entered ∙ named ∙ colon)
    (c.in_err-signature-in-Name.ensures.reads ds))

pub returns-in_ok-signature-in-Name-clause-reads : goal.returns-in_ok-signature-in-Name-clause-reads
returns-in_ok-signature-in-Name-clause-reads c = λ ds.
    let ts = c.args.parser.now.rest.now in
    let b = binder c.in-Name.name c.peek-next.result.at in
    let ts2 = c.advance-in-Name.new.self.rest.now in
    takes (Outside (Top ds)) (Outside (SigName ds)) ts (front ts) (word.Further further.Signature)
    c.advance.new.self.rest.now refl c.requires.word c.advance.ensures.rest refl
    ∙ takes (Outside (SigName ds)) (Outside (SigColon ds b)) c.advance.new.self.rest.now
    c.peek-next.result (word.Name c.in-Name.name) ts2 c.peek-next.ensures c.in-Name.is
    c.advance-in-Name.ensures.rest refl
    ∙ takes (Outside (SigColon ds b)) (Outside (OneType (InParts ds b NoTypes))) ts2 (front ts2)
    (word.Further further.Colon) c.take.new.self.rest.now refl
    c.in_ok-take-in-Name.ensures.takes.0 c.in_ok-take-in-Name.ensures.takes.1 refl
    ∙ c.in_ok-signature-in-Name.ensures.reads ds

pub returns-in_default : goal.returns-in_default
returns-in_default c =
    let ts = c.args.parser.now.rest.now in
    let ts1 = c.advance.new.self.rest.now in
    record {
      reads = λ ds. fails_from c.refusal.result _ _
          (takes (Outside (Top ds)) (Outside (SigName ds)) ts (front ts)
          (word.Further further.Signature) ts1 refl c.requires.word c.advance.ensures.rest refl)
          (refuses_at (SigName ds) ts1 c.refusal.result c.refusal.ensures
          (no_sig_name ds (front ts1).at (front ts1).token
          (λ n e. c.in_default.not-Name n (ap (λ y. y.token) c.peek-next.ensures ∙ e))));
      shorter = tt;
      depth = tt;
    }
