use Rattle.std.proofs.Common.{rules, ◌≡◌, ◌<◌, false, ℕ, ◌+◌, ◌∙◌, ap, sym, refl, arith}
use Rattle.std.proofs.lemmas.Int.{to_z-of_z}
use Rattle.std.proofs.lemmas.Result.{err_from_is_err_and}
use mir.Val.{SFits}
use mir.Syntax.{w32}
use Rattle.core_reader.specs.Grammar.{at_most_200}
use Rattle.core_reader.specs.Tree.{NoTerms, AndTerm, Let, Case, NoAlts, AndAlt, Expr, Alts}
use Rattle.core_reader.specs.Tree as tree
use Rattle.core_reader.specs.Machine.{with_last, whole, Inside, Apply, opens, run, front, starts_atom}
use Rattle.core_reader.proofs.Taking.{takes, halts, refuses, no_head_inside, no_close, too_deep, fails_from, opening, pushed, boxed}
use Rattle.core_reader.proofs.TreeOf.{term_of-Name, term_of-Con, term_of-Int}
use Rattle.core_reader.proofs.parser.Parser.+parser.Goals as goal

nearer : (a b c : ℕ) → a < b → b < c → a < c
nearer a b c h g = omega arith

pub app-loop-args-preserved : goal.app-loop-args-preserved
app-loop-args-preserved t c = record {
  reads = λ k e. c.loop-args.invariant.reads k e ∙ c.in_ok-atom.ensures.reads k _
      (e ∙ sym c.loop-args.invariant.depth) ∙ pushed at_most_200 k _ c.loop-args.args.items _ _ _
      c.in_ok-push.ensures.items;
  shorter = nearer _ _ _ c.in_ok-atom.ensures.shorter c.loop-args.invariant.shorter;
  depth = c.in_ok-atom.ensures.depth ∙ c.loop-args.invariant.depth;
}

pub atom-returns-in-Name-clause-reads : goal.atom-returns-in-Name-clause-reads
atom-returns-in-Name-clause-reads t c = λ k held e.
    takes at_most_200 (Apply k held)
    (Apply k (with_last held (tree.Name c.in-Name.name.0 c.peek-next.result.at)))
    c.args.self.now.rest.now c.peek-next.result _ _ c.peek-next.ensures c.in-Name.is
    c.advance.ensures.rest refl
    ∙ ap (λ w. run at_most_200 (Apply k (with_last held w)) c.advance.new.self.rest.now)
    (sym (term_of-Name c.in-Name.name c.peek-next.result.at))

pub atom-returns-in-Con-clause-reads : goal.atom-returns-in-Con-clause-reads
atom-returns-in-Con-clause-reads t c = λ k held e.
    takes at_most_200 (Apply k held)
    (Apply k (with_last held (tree.Con c.in-Con.name.0 c.peek-next.result.at)))
    c.args.self.now.rest.now c.peek-next.result _ _ c.peek-next.ensures c.in-Con.is
    c.advance-in-Con.ensures.rest refl
    ∙ ap (λ w. run at_most_200 (Apply k (with_last held w)) c.advance-in-Con.new.self.rest.now)
    (sym (term_of-Con c.in-Con.name c.peek-next.result.at))

pub atom-returns-in-Number-clause-reads : goal.atom-returns-in-Number-clause-reads
atom-returns-in-Number-clause-reads t c = λ k held e.
    let f : SFits w32 c.in-Number.value = search rules in
    rw (to_z-of_z w32 c.in-Number.value f)
    (takes at_most_200 (Apply k held)
    (Apply k (with_last held (tree.Int c.in-Number.value c.peek-next.result.at)))
    c.args.self.now.rest.now c.peek-next.result _ _ c.peek-next.ensures c.in-Number.is
    c.advance-in-Number.ensures.rest refl
    ∙ ap (λ w. run at_most_200 (Apply k (with_last held w)) c.advance-in-Number.new.self.rest.now)
    (sym (term_of-Int c.in-Number.value c.peek-next.result.at)))

pub atom-returns-in-Large-clause-reads : goal.atom-returns-in-Large-clause-reads
atom-returns-in-Large-clause-reads t c = λ k held e. halts at_most_200 (Apply k held)
    c.args.self.now.rest.now c.peek-next.result _ _ c.peek-next.ensures c.in-Large.is refl

pub bracket-returns-then-self-ge-MOST_OPEN-clause-reads
    : goal.bracket-returns-then-self-ge-MOST_OPEN-clause-reads
bracket-returns-then-self-ge-MOST_OPEN-clause-reads t c
    = λ k held e. halts at_most_200 (Apply k held) c.args.self.now.rest.now
    (front c.args.self.now.rest.now) _ _ refl c.requires.opens
    (rw c.requires.at (too_deep k held c.args.self.now.depth c.args.at e (omega arith)))

pub bracket-returns-in_err-app-clause-reads : goal.bracket-returns-in_err-app-clause-reads
bracket-returns-in_err-app-clause-reads t c = λ k held e.
    let p = err_from_is_err_and c.from_residual.result c.from_residual.ensures.1 in
    let entered = opening k held c.args.self.now.rest.now c.advance.new.self.rest.now
    c.args.self.now.depth c.args.at e (omega arith) c.requires.opens c.requires.at
    c.advance.ensures.rest in
    let d : opens (Inside k held c.args.at) ≡ c.advance.new.self.depth + 1 = omega arith in
    rw (p.1, p.2)
    (fails_from c.in_err-app.field-0.0 _ _ entered
    (c.in_err-app.ensures.reads (Inside k held c.args.at) d))

pub bracket-returns-in_ok-new-in-Close-clause-reads
    : goal.bracket-returns-in_ok-new-in-Close-clause-reads
bracket-returns-in_ok-new-in-Close-clause-reads t c = λ k held e.
    let entered = opening k held c.args.self.now.rest.now c.advance.new.self.rest.now
    c.args.self.now.depth c.args.at e (omega arith) c.requires.opens c.requires.at
    c.advance.ensures.rest in
    let d : opens (Inside k held c.args.at) ≡ c.advance.new.self.depth + 1 = omega arith in
    entered
    ∙ c.in_ok-app.ensures.reads (Inside k held c.args.at) d
    ∙ takes at_most_200 (Apply (Inside k held c.args.at) (whole c.in_ok-app.app))
    (Apply k (with_last held
    (tree.Bracket (tree.application c.in_ok-app.app).head
    (tree.application c.in_ok-app.app).args c.args.at))) c.app.new.self.rest.now c.peek-2.result
    _ _ c.peek-2.ensures c.in-Close.is c.advance-in-Close.ensures.rest refl
    ∙ boxed at_most_200 k held c.args.at c.in_ok-new-in-Close.field-0 c.in_ok-app.app _
    c.in_ok-new-in-Close.ensures.ok

pub bracket-returns-in_default : goal.bracket-returns-in_default
bracket-returns-in_default t c = record {
  reads = λ k held e.
      let entered = opening k held c.args.self.now.rest.now c.advance.new.self.rest.now
      c.args.self.now.depth c.args.at e (omega arith) c.requires.opens c.requires.at
      c.advance.ensures.rest in
      let d : opens (Inside k held c.args.at) ≡ c.advance.new.self.depth + 1 = omega arith in
      let ts = c.app.new.self.rest.now in
      fails_from c.refusal-in_default.result _ _
      (entered ∙ c.in_ok-app.ensures.reads (Inside k held c.args.at) d)
      (refuses at_most_200 (Apply (Inside k held c.args.at) (whole c.in_ok-app.app)) ts
      c.refusal-in_default.result c.refusal-in_default.ensures
      (no_close at_most_200 k held c.args.at _ _ (front ts).at (front ts).token
      c.in_ok-app.ensures.whole
      (λ h. c.in_default.not-Close (ap (λ y. y.token) c.peek-2.ensures ∙ h))));
  shorter = tt;
  depth = tt;
}

pub bracket-returns-then-not-starts_atom-clause-reads
    : goal.bracket-returns-then-not-starts_atom-clause-reads
bracket-returns-then-not-starts_atom-clause-reads t c = λ k held e.
    let entered = opening k held c.args.self.now.rest.now c.advance.new.self.rest.now
    c.args.self.now.depth c.args.at e (omega arith) c.requires.opens c.requires.at
    c.advance.ensures.rest in
    let ts = c.advance.new.self.rest.now in
    let f : starts_atom (front ts).token ≡ false = cc in
    fails_from c.refusal.result _ _ entered
    (refuses at_most_200 (Apply (Inside k held c.args.at) NoTerms) ts c.refusal.result
    c.refusal.ensures
    (no_head_inside at_most_200 k held c.args.at (front ts).at (front ts).token f))
