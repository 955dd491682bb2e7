use Rattle.std.proofs.Common.{◌≡◌, suc, ◌∙◌, ap, sym, refl}
use Rattle.std.proofs.lemmas.Result.{err_from_is_err_and}
use Rattle.core_reader.specs.Grammar.{at_most_200}
use Rattle.core_reader.specs.Tree.{NoTerms}
use Rattle.core_reader.specs.Machine.{nests, InBind, BindName, BindEquals, Apply, front}
use Rattle.core_reader.specs.declared.token.Token.TheVariants as word
use Rattle.core_reader.proofs.Taking.{takes, refuses, no_name, no_equals, fails_from}
use Rattle.core_reader.proofs.parser.Parser.bind.Goals as goal

pub returns-in_err-take-in-Name-clause-reads : goal.returns-in_err-take-in-Name-clause-reads
returns-in_err-take-in-Name-clause-reads c = λ k bs e.
    let q = err_from_is_err_and c.from_residual.result c.from_residual.ensures.1 in
    let ts = c.args.self.now.rest.now in
    let ts1 = c.advance.new.self.rest.now in
    let named = takes at_most_200 (BindName k bs)
    (BindEquals k bs c.in-Name.name c.peek-next.result.at) ts c.peek-next.result
    (word.Name c.in-Name.name) ts1 c.peek-next.ensures c.in-Name.is c.advance.ensures.rest refl
    in
    rw (q.1, q.2) (fails_from c.in_err-take-in-Name.field-0.0 _ _ named
    (refuses at_most_200 (BindEquals k bs c.in-Name.name c.peek-next.result.at) ts1
    c.in_err-take-in-Name.field-0.0 c.in_err-take-in-Name.ensures.takes.1
    (no_equals at_most_200 k bs c.in-Name.name c.peek-next.result.at (front ts1).at
    (front ts1).token c.in_err-take-in-Name.ensures.takes.0)))

pub returns-in_err-app-in-Name-clause-reads : goal.returns-in_err-app-in-Name-clause-reads
returns-in_err-app-in-Name-clause-reads c = λ k bs e.
    let q = err_from_is_err_and c.from_residual-in_err-app-in-Name.result
    c.from_residual-in_err-app-in-Name.ensures.1 in
    let ts = c.args.self.now.rest.now in
    let ts1 = c.advance.new.self.rest.now in
    let named = takes at_most_200 (BindName k bs)
    (BindEquals k bs c.in-Name.name c.peek-next.result.at) ts c.peek-next.result
    (word.Name c.in-Name.name) ts1 c.peek-next.ensures c.in-Name.is c.advance.ensures.rest refl
    in
    let equals = takes at_most_200 (BindEquals k bs c.in-Name.name c.peek-next.result.at)
    (Apply (InBind k bs c.in-Name.name c.peek-next.result.at) NoTerms) ts1 (front ts1)
    word.Equals c.take.new.self.rest.now refl c.in_ok-take-in-Name.ensures.takes.0
    c.in_ok-take-in-Name.ensures.takes.1 refl in
    let d : suc (nests k) ≡ c.take.new.self.depth = e ∙ sym c.advance.ensures.depth ∙ sym
    c.take.ensures.depth in
    rw (q.1, q.2)
    (fails_from c.in_err-app-in-Name.field-0.0 _ _ (named ∙ equals)
    (c.in_err-app-in-Name.ensures.reads k bs c.in-Name.name c.peek-next.result.at d))

pub returns-in_ok-app-in-Name-clause-reads : goal.returns-in_ok-app-in-Name-clause-reads
returns-in_ok-app-in-Name-clause-reads c = λ k bs e.
    let ts = c.args.self.now.rest.now in
    let ts1 = c.advance.new.self.rest.now in
    let named = takes at_most_200 (BindName k bs)
    (BindEquals k bs c.in-Name.name c.peek-next.result.at) ts c.peek-next.result
    (word.Name c.in-Name.name) ts1 c.peek-next.ensures c.in-Name.is c.advance.ensures.rest refl
    in
    let equals = takes at_most_200 (BindEquals k bs c.in-Name.name c.peek-next.result.at)
    (Apply (InBind k bs c.in-Name.name c.peek-next.result.at) NoTerms) ts1 (front ts1)
    word.Equals c.take.new.self.rest.now refl c.in_ok-take-in-Name.ensures.takes.0
    c.in_ok-take-in-Name.ensures.takes.1 refl in
    let d : suc (nests k) ≡ c.take.new.self.depth = e ∙ sym c.advance.ensures.depth ∙ sym
    c.take.ensures.depth in
    named ∙ equals ∙ c.in_ok-app-in-Name.ensures.reads k bs c.in-Name.name c.peek-next.result.at d

pub returns-in_default : goal.returns-in_default
returns-in_default c = record {
  reads = λ k bs e.
      let ts = c.args.self.now.rest.now in
      refuses at_most_200 (BindName k bs) ts c.refusal.result c.refusal.ensures
      (no_name at_most_200 k bs (front ts).at (front ts).token
      (λ n h. c.in_default.not-Name n (ap (λ y. y.token) c.peek-next.ensures ∙ h)) c.requires);
  whole = tt;
  shorter = tt;
  depth = tt;
}
