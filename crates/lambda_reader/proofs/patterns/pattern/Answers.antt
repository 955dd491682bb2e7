use Rattle.std.proofs.Common.{rules, ◌≡◌, true, [], ◌∙◌, ap, sym, refl}
use Rattle.std.proofs.lemmas.Int.{to_z-of_z}
use mir.Val.{SFits}
use mir.Syntax.{w32}
use Rattle.std.proofs.lemmas.Result.{err_from_is_err_and}
use Rattle.core_reader.specs.Grammar.{at_most_200}
use Rattle.lambda_reader.specs.Tree.{NoTerms}
use Rattle.core_reader.specs.Machine.{front}
use Rattle.lambda_reader.specs.Machine.{AltNames, AltStart, AltArrow, AltBody, InBody, Apply, run}
use Rattle.core_reader.specs.declared.syntax.Pattern.TheVariants as pattern
use Rattle.core_reader.specs.declared.token.Token.TheVariants as word
use Rattle.core_reader.proofs.ReadingOf.{memory_fails}
use Rattle.lambda_reader.proofs.Complete.{alt_names}
use Rattle.core_reader.proofs.Taking.{fails_from}
use Rattle.lambda_reader.proofs.Taking.{takes, halts, refuses}
use Rattle.lambda_reader.proofs.Taken.{no_arrow, no_arrow_names, no_pattern}
use Rattle.lambda_reader.proofs.patterns.pattern.Goals as goal

pub returns-in_err-take-in-Name-clause-reads : goal.returns-in_err-take-in-Name-clause-reads
returns-in_err-take-in-Name-clause-reads c = λ k e xs.
    let q = err_from_is_err_and c.from_residual.result c.from_residual.ensures.1 in
    let ts = c.args.parser.now.rest.now in
    let ts1 = c.advance.new.self.rest.now in
    let p = pattern.Default (record { name = c.in-Name.name; at = c.peek-next.result.at }) in
    rw (q.1, q.2)
    (fails_from c.in_err-take-in-Name.field-0.0 _ _
    (takes true at_most_200 (AltStart k e xs) (AltArrow k e xs p) ts c.peek-next.result
    (word.Name c.in-Name.name) ts1 c.peek-next.ensures c.in-Name.is c.advance.ensures.rest refl)
    (refuses true at_most_200 (AltArrow k e xs p) ts1 c.in_err-take-in-Name.field-0.0
    c.in_err-take-in-Name.ensures.takes.1
    (no_arrow true at_most_200 k e xs p (front ts1).at (front ts1).token
    c.in_err-take-in-Name.ensures.takes.0)))

pub returns-in_ok-take-in-Name-clause-reads : goal.returns-in_ok-take-in-Name-clause-reads
returns-in_ok-take-in-Name-clause-reads c = λ k e xs.
    let ts = c.args.parser.now.rest.now in
    let ts1 = c.advance.new.self.rest.now in
    let p = pattern.Default (record { name = c.in-Name.name; at = c.peek-next.result.at }) in
    takes true at_most_200 (AltStart k e xs) (AltArrow k e xs p) ts c.peek-next.result
    (word.Name c.in-Name.name) ts1 c.peek-next.ensures c.in-Name.is c.advance.ensures.rest refl
    ∙ takes true at_most_200 (AltArrow k e xs p) (Apply (InBody (AltBody k e xs p)) NoTerms) ts1
    (front ts1) word.Arrow c.take.new.self.rest.now refl c.in_ok-take-in-Name.ensures.takes.0
    c.in_ok-take-in-Name.ensures.takes.1 refl

pub returns-in_err-take-in-Number-clause-reads : goal.returns-in_err-take-in-Number-clause-reads
returns-in_err-take-in-Number-clause-reads c = λ k e xs.
    let q = err_from_is_err_and c.from_residual-in_err-take-in-Number.result
    c.from_residual-in_err-take-in-Number.ensures.1 in
    let ts = c.args.parser.now.rest.now in
    let ts1 = c.advance-in-Number.new.self.rest.now in
    let p = pattern.Int c.in-Number.value c.peek-next.result.at in
    rw (q.1, q.2)
    (fails_from c.in_err-take-in-Number.field-0.0 _ _
    (takes true at_most_200 (AltStart k e xs) (AltArrow k e xs p) ts c.peek-next.result
    (word.Number c.in-Number.field-0 c.in-Number.value) ts1 c.peek-next.ensures c.in-Number.is
    c.advance-in-Number.ensures.rest refl)
    (refuses true at_most_200 (AltArrow k e xs p) ts1 c.in_err-take-in-Number.field-0.0
    c.in_err-take-in-Number.ensures.takes.1
    (no_arrow true at_most_200 k e xs p (front ts1).at (front ts1).token
    c.in_err-take-in-Number.ensures.takes.0)))

pub returns-in_ok-take-in-Number-clause-reads : goal.returns-in_ok-take-in-Number-clause-reads
returns-in_ok-take-in-Number-clause-reads c = λ k e xs.
    let ts = c.args.parser.now.rest.now in
    let ts1 = c.advance-in-Number.new.self.rest.now in
    let p = pattern.Int c.in-Number.value c.peek-next.result.at in
    let f : SFits w32 c.in-Number.value = search rules in
    rw (to_z-of_z w32 c.in-Number.value f)
    (takes true at_most_200 (AltStart k e xs) (AltArrow k e xs p) ts c.peek-next.result
    (word.Number c.in-Number.field-0 c.in-Number.value) ts1 c.peek-next.ensures c.in-Number.is
    c.advance-in-Number.ensures.rest refl
    ∙ takes true at_most_200 (AltArrow k e xs p) (Apply (InBody (AltBody k e xs p)) NoTerms) ts1
    (front ts1) word.Arrow c.take-in-Number.new.self.rest.now refl
    c.in_ok-take-in-Number.ensures.takes.0 c.in_ok-take-in-Number.ensures.takes.1 refl)

pub returns-in_err-names-in-Con-clause-reads : goal.returns-in_err-names-in-Con-clause-reads
returns-in_err-names-in-Con-clause-reads c = λ k e xs.
    let q = err_from_is_err_and c.from_residual-in_err-names-in-Con.result
    c.from_residual-in_err-names-in-Con.ensures.1 in
    let ts = c.args.parser.now.rest.now in
    let ts1 = c.advance-in-Con.new.self.rest.now in
    let n = c.in-Con.name in
    let p = c.peek-next.result.at in
    let named = takes true at_most_200 (AltStart k e xs) (AltNames k e xs n p []) ts
    c.peek-next.result (word.Con n) ts1 c.peek-next.ensures c.in-Con.is
    c.advance-in-Con.ensures.rest refl in
    rw (q.1, q.2)
    (fails_from c.in_err-names-in-Con.field-0.0 _ _ named
    (memory_fails c.in_err-names-in-Con.field-0.0 _ c.in_err-names-in-Con.ensures.reads))

pub returns-in_err-take-in-Con-clause-reads : goal.returns-in_err-take-in-Con-clause-reads
returns-in_err-take-in-Con-clause-reads c = λ k e xs.
    let q = err_from_is_err_and c.from_residual-in_err-take-in-Con.result
    c.from_residual-in_err-take-in-Con.ensures.1 in
    let ts = c.args.parser.now.rest.now in
    let ts1 = c.advance-in-Con.new.self.rest.now in
    let n = c.in-Con.name in
    let p = c.peek-next.result.at in
    let named = takes true at_most_200 (AltStart k e xs) (AltNames k e xs n p []) ts
    c.peek-next.result (word.Con n) ts1 c.peek-next.ensures c.in-Con.is
    c.advance-in-Con.ensures.rest refl in
    let ts2 = c.names.new.self.rest.now in
    rw (q.1, q.2)
    (fails_from c.in_err-take-in-Con.field-0.0 _ _
    (named ∙ alt_names true at_most_200 k e xs n p c.in_ok-names-in-Con.names.items ts1
    c.names.new.self.rest.now c.in_ok-names-in-Con.ensures.reads)
    (refuses true at_most_200 (AltNames k e xs n p c.in_ok-names-in-Con.names.items) ts2
    c.in_err-take-in-Con.field-0.0 c.in_err-take-in-Con.ensures.takes.1
    (no_arrow_names true at_most_200 k e xs n p _ (front ts2).at (front ts2).token
    c.in_ok-names-in-Con.ensures.whole c.in_err-take-in-Con.ensures.takes.0)))

pub returns-in_ok-take-in-Con-clause-reads : goal.returns-in_ok-take-in-Con-clause-reads
returns-in_ok-take-in-Con-clause-reads c = λ k e xs.
    let ts = c.args.parser.now.rest.now in
    let ts1 = c.advance-in-Con.new.self.rest.now in
    let n = c.in-Con.name in
    let p = c.peek-next.result.at in
    let named = takes true at_most_200 (AltStart k e xs) (AltNames k e xs n p []) ts
    c.peek-next.result (word.Con n) ts1 c.peek-next.ensures c.in-Con.is
    c.advance-in-Con.ensures.rest refl in
    let ts2 = c.names.new.self.rest.now in
    named ∙ alt_names true at_most_200 k e xs n p c.in_ok-names-in-Con.names.items ts1
    c.names.new.self.rest.now c.in_ok-names-in-Con.ensures.reads
    ∙ takes true at_most_200 (AltNames k e xs n p c.in_ok-names-in-Con.names.items)
    (Apply (InBody
    (AltBody k e xs
    (pattern.Con (record { name = n; at = p }) c.in_ok-names-in-Con.names.items))) NoTerms) ts2
    (front ts2) word.Arrow c.take-in-Con.new.self.rest.now refl
    c.in_ok-take-in-Con.ensures.takes.0 c.in_ok-take-in-Con.ensures.takes.1 refl
    ∙ ap (λ w. run true at_most_200
    (Apply (InBody (AltBody k e xs (pattern.Con (record { name = n; at = p }) w))) NoTerms)
    c.take-in-Con.new.self.rest.now) (sym c.from_vec.ensures)

pub returns-in-Large-clause-reads : goal.returns-in-Large-clause-reads
returns-in-Large-clause-reads c = λ k e xs. halts true at_most_200 (AltStart k e xs)
    c.args.parser.now.rest.now c.peek-next.result _ _ c.peek-next.ensures c.in-Large.is refl

pub returns-in_default : goal.returns-in_default
returns-in_default c = record {
  reads = λ k e xs.
      let ts = c.args.parser.now.rest.now in
      let seen : c.peek-next.result.token ≡ (front ts).token = ap (λ y. y.token) c.peek-next.ensures
      in
      refuses true at_most_200 (AltStart k e xs) ts c.refusal.result c.refusal.ensures
      (no_pattern true at_most_200 k e xs (front ts).at (front ts).token
      (λ n h. c.in_default.not-Name n (seen ∙ h)) (λ m v h. c.in_default.not-Number m v (seen ∙ h))
      (λ m h. c.in_default.not-Large m (seen ∙ h)) (λ n h. c.in_default.not-Con n (seen ∙ h))
      c.requires);
  shorter = tt;
  depth = refl;
}
