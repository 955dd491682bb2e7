use Rattle.std.proofs.Common.{rules, ◌≡◌, length, ◌++◌, ◌∷◌, [], ◌∙◌, ap, sym, refl, arith}
use Rattle.std.specs.Prelude.{vec_len}
use Rattle.std.proofs.lemmas.Bool.{eqb-true}
use Rattle.std.proofs.lemmas.List.{nil_from_length}
use Rattle.core_reader.specs.Grammar.{at_most_200}
use Rattle.core_reader.specs.Tree.{NoTerms, AndTerm, Let, Case, NoAlts, AndAlt, Expr, Alts}
use Rattle.core_reader.specs.Tree as tree
use Rattle.core_reader.specs.Machine.{whole, binds_of, LetBody, InBody, InBind, BindName, Apply, run, front}
use Rattle.core_reader.specs.declared.token.Token.TheVariants as word
use Rattle.core_reader.proofs.Taking.{binds_last, takes, refuses, refuses_seen, no_next, fails_from}
use Rattle.core_reader.proofs.Taking.{behind_shorter, nearer_still, not_none, some_binds}
use Rattle.core_reader.proofs.parser.Parser.binds.Goals as goal

pub returns-then-is_empty-clause-reads : goal.returns-then-is_empty-clause-reads
returns-then-is_empty-clause-reads c = λ k e.
    let ts = c.loop-binds.self.rest.now in
    let f : c.peek.result.token ≡ word.In = search rules in
    let n : vec_len c.loop-binds.binds ≡ 0 = eqb-true _ _
    (sym c.is_empty.ensures ∙ c.if-is_empty.true) in
    let g : c.loop-binds.binds.items ≡ [] = nil_from_length c.loop-binds.binds.items
    (omega (arith, n, c.loop-binds.binds.ok.0)) in
    fails_from c.refusal.result _ _
    (c.loop-binds.invariant.reads k e ∙ ap (λ w. run at_most_200 (BindName k (binds_of w)) ts)
    g)
    (refuses_seen at_most_200 (BindName k []) ts c.peek.result word.In c.refusal.result
    c.peek.ensures f c.refusal.ensures (λ at. refl))

pub returns-then-eq-clause-reads : goal.returns-then-eq-clause-reads
returns-then-eq-clause-reads c = λ k e.
    let items = c.loop-binds.binds.items in
    let f : c.peek.result.token ≡ word.In = search rules in
    let g : items ≡ [] → ⊥ = search rules in
    c.loop-binds.invariant.reads k e
    ∙ takes at_most_200 (BindName k (binds_of items))
    (Apply (InBody (LetBody k (binds_of items))) NoTerms) c.loop-binds.self.rest.now
    c.peek.result word.In c.advance.new.self.rest.now c.peek.ensures f c.advance.ensures.rest
    (not_none (binds_of items) (some_binds items g) at_most_200 k c.peek.result.at)

pub returns-in-In-clause-reads : goal.returns-in-In-clause-reads
returns-in-In-clause-reads c = λ k e.
    let items = c.loop-binds.binds.items in
    c.loop-binds.invariant.reads k e
    ∙ c.in_ok-bind.ensures.reads k (binds_of items) (e ∙ sym c.loop-binds.invariant.depth)
    ∙ takes at_most_200
    (Apply (InBind k (binds_of items) c.in_ok-bind.bind.binder.name c.in_ok-bind.bind.binder.at)
    (whole c.in_ok-bind.bind.app))
    (Apply (InBody (LetBody k (binds_of items ++ tree.bind c.in_ok-bind.bind ∷ []))) NoTerms)
    c.bind.new.self.rest.now c.peek-in-loop-binds.result word.In
    c.advance-in-In.new.self.rest.now c.peek-in-loop-binds.ensures c.in-In.is
    c.advance-in-In.ensures.rest refl
    ∙ ap (λ w. run at_most_200 (Apply (InBody (LetBody k w)) NoTerms)
    c.advance-in-In.new.self.rest.now)
    (sym (binds_last items c.in_ok-bind.bind) ∙ ap binds_of (sym c.in_ok-push.ensures.items))

pub loop-binds-preserved : goal.loop-binds-preserved
loop-binds-preserved c =
    let items = c.loop-binds.binds.items in
    record {
      reads = λ k e.
          c.loop-binds.invariant.reads k e
          ∙ c.in_ok-bind.ensures.reads k (binds_of items) (e ∙ sym c.loop-binds.invariant.depth)
          ∙ takes at_most_200
          (Apply (InBind k (binds_of items) c.in_ok-bind.bind.binder.name
          c.in_ok-bind.bind.binder.at) (whole c.in_ok-bind.bind.app))
          (BindName k (binds_of items ++ tree.bind c.in_ok-bind.bind ∷ []))
          c.bind.new.self.rest.now c.peek-in-loop-binds.result word.Semicolon
          c.advance-in-Semicolon.new.self.rest.now c.peek-in-loop-binds.ensures
          c.in-Semicolon.is c.advance-in-Semicolon.ensures.rest refl
          ∙ ap (λ w. run at_most_200 (BindName k w) c.advance-in-Semicolon.new.self.rest.now)
          (sym (binds_last items c.in_ok-bind.bind) ∙ ap binds_of
          (sym c.in_ok-push.ensures.items));
      shorter = nearer_still _ _ _ _ _ (ap length c.advance-in-Semicolon.ensures.rest)
          (behind_shorter c.bind.new.self.rest.now) c.in_ok-bind.ensures.shorter
          c.loop-binds.invariant.shorter;
      depth = c.advance-in-Semicolon.ensures.depth ∙ c.in_ok-bind.ensures.depth ∙
          c.loop-binds.invariant.depth;
    }

pub returns-in_default : goal.returns-in_default
returns-in_default c = record {
  reads = λ k e.
      let items = c.loop-binds.binds.items in
      let ts = c.bind.new.self.rest.now in
      fails_from c.refusal-in_default.result _ _
      (c.loop-binds.invariant.reads k e ∙ c.in_ok-bind.ensures.reads k (binds_of items)
      (e ∙ sym c.loop-binds.invariant.depth))
      (refuses at_most_200
      (Apply (InBind k (binds_of items) c.in_ok-bind.bind.binder.name
      c.in_ok-bind.bind.binder.at) (whole c.in_ok-bind.bind.app)) ts c.refusal-in_default.result
      c.refusal-in_default.ensures
      (no_next at_most_200 k (binds_of items) c.in_ok-bind.bind.binder.name
      c.in_ok-bind.bind.binder.at _ _ (front ts).at (front ts).token c.in_ok-bind.ensures.whole
      (λ h. c.in_default.not-In (ap (λ y. y.token) c.peek-in-loop-binds.ensures ∙ h))
      (λ h. c.in_default.not-Semicolon (ap (λ y. y.token) c.peek-in-loop-binds.ensures ∙ h))));
  shorter = tt;
  depth = tt;
}
