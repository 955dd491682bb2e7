use Rattle.std.proofs.Common.{rules, ◌≡◌, ◌<◌, ◌≤◌, false, length, ℕ, suc, ◌+◌, [], ◌∙◌, ap, sym, refl, arith}
use Rattle.std.specs.Prelude.{vec_len}
use Rattle.std.proofs.lemmas.Bool.{eqb-true}
use Rattle.std.proofs.lemmas.List.{nil_from_length}
use Rattle.std.proofs.lemmas.Result.{err_from_is_err_and}
use Rattle.core_reader.specs.Grammar.{at_most_200}
use Rattle.core_reader.specs.Tree.{NoTerms, AndTerm, Let, Case, NoAlts, AndAlt, Expr, Alts}
use Rattle.core_reader.specs.Tree as tree
use Rattle.core_reader.specs.Machine.{binds_of, alternatives, ◌⊹◌, AltStart, AltBody, Scrutinee, Brace, LetBody, nests, InBody, Ended, Apply, run, front, starts_atom}
use Rattle.core_reader.specs.declared.token.Token.TheVariants as word
use Rattle.core_reader.proofs.Taking.{alts_last, takes, halts, refuses, refuses_seen, no_expr, ended_app, let_deep, let_opens, fails_from, let_ends, boxed_let, case_deep, case_opens, no_of, no_brace, no_alt_end, boxed_case, some_alts, behind_shorter}
use Rattle.core_reader.proofs.TreeOf.{expr_of-App}
use Rattle.core_reader.proofs.parser.Parser.+expr.Goals as goal

pub expr-returns-then-not-starts_atom : goal.expr-returns-then-not-starts_atom
expr-returns-then-not-starts_atom t c = record {
  reads = λ k e.
      let ts = c.args.self.now.rest.now in
      let f : starts_atom (front ts).token ≡ false = cc in
      refuses at_most_200 (Apply (InBody k) NoTerms) ts c.refusal.result c.refusal.ensures
      (no_expr at_most_200 k (front ts).at (front ts).token f
      (λ h. c.in_default.not-Let (ap (λ y. y.token) c.peek-next.ensures ∙ h))
      (λ h. c.in_default.not-Case (ap (λ y. y.token) c.peek-next.ensures ∙ h)));
  shorter = tt;
  depth = tt;
}

pub expr-returns-in_ok-app-in_default : goal.expr-returns-in_ok-app-in_default
expr-returns-in_ok-app-in_default t c = record {
  reads = λ k e.
      c.in_ok-app-in_default.ensures.reads (InBody k) e
      ∙ ended_app at_most_200 k _ _ c.app.new.self.rest.now c.in_ok-app-in_default.ensures.whole
      ∙ ap (λ w. run at_most_200 (Ended k w) c.app.new.self.rest.now)
      (sym (expr_of-App c.in_ok-app-in_default.field-0));
  shorter = c.in_ok-app-in_default.ensures.shorter;
  depth = c.in_ok-app-in_default.ensures.depth;
}

pub let_in-returns-then-self-ge-MOST_OPEN-clause-reads
    : goal.let_in-returns-then-self-ge-MOST_OPEN-clause-reads
let_in-returns-then-self-ge-MOST_OPEN-clause-reads t c = λ k e.
    halts at_most_200 (Apply (InBody k) NoTerms) c.args.self.now.rest.now
    (front c.args.self.now.rest.now) _ _ refl c.requires.word
    (rw c.requires.at (let_deep k c.args.self.now.depth c.args.at e (omega arith)))

pub let_in-returns-in_err-binds-clause-reads : goal.let_in-returns-in_err-binds-clause-reads
let_in-returns-in_err-binds-clause-reads t c = λ k e.
    let q = err_from_is_err_and c.from_residual.result c.from_residual.ensures.1 in
    let opened = let_opens k c.args.self.now.rest.now c.advance.new.self.rest.now
    c.args.self.now.depth c.args.at e (omega arith) c.requires.word c.requires.at
    c.advance.ensures.rest in
    let d : suc (nests k) ≡ c.advance.new.self.depth + 1 = omega arith in
    rw (q.1, q.2)
    (fails_from c.in_err-binds.field-0.0 _ _ opened (c.in_err-binds.ensures.reads k d))

pub let_in-returns-in_err-body-clause-reads : goal.let_in-returns-in_err-body-clause-reads
let_in-returns-in_err-body-clause-reads t c = λ k e.
    let q = err_from_is_err_and c.from_residual-in_err-body.result
    c.from_residual-in_err-body.ensures.1 in
    let opened = let_opens k c.args.self.now.rest.now c.advance.new.self.rest.now
    c.args.self.now.depth c.args.at e (omega arith) c.requires.word c.requires.at
    c.advance.ensures.rest in
    let d : suc (nests k) ≡ c.advance.new.self.depth + 1 = omega arith in
    let d2 : nests (LetBody k (binds_of c.in_ok-binds.binds.items)) ≡ c.binds.new.self.depth
    = d ∙ sym c.in_ok-binds.ensures.depth in
    rw (q.1, q.2)
    (fails_from c.in_err-body.field-0.0 _ _ (opened ∙ c.in_ok-binds.ensures.reads k d)
    (c.in_err-body.ensures.reads (LetBody k (binds_of c.in_ok-binds.binds.items)) d2))

pub let_in-returns-clause-reads : goal.let_in-returns-clause-reads
let_in-returns-clause-reads t c = λ k e.
    let opened = let_opens k c.args.self.now.rest.now c.advance.new.self.rest.now
    c.args.self.now.depth c.args.at e (omega arith) c.requires.word c.requires.at
    c.advance.ensures.rest in
    let d : suc (nests k) ≡ c.advance.new.self.depth + 1 = omega arith in
    let d2 : nests (LetBody k (binds_of c.in_ok-binds.binds.items)) ≡ c.binds.new.self.depth
    = d ∙ sym c.in_ok-binds.ensures.depth in
    opened ∙ c.in_ok-binds.ensures.reads k d ∙ c.in_ok-body.ensures.reads
    (LetBody k (binds_of c.in_ok-binds.binds.items)) d2
    ∙ let_ends at_most_200 k (binds_of c.in_ok-binds.binds.items) (tree.expr c.in_ok-body.body)
    c.expr.new.self.rest.now
    ∙ ap (λ w. run at_most_200 (Ended k (Let (binds_of w) (tree.expr c.in_ok-body.body)))
    c.expr.new.self.rest.now) (sym c.from_vec.ensures)
    ∙ boxed_let k c.from_vec.result c.in_ok-new.field-0 c.in_ok-body.body c.expr.new.self.rest.now
    c.in_ok-new.ensures.ok

nearer_alts : (a b c d e f : ℕ) → a ≡ b → b ≤ c → c < d → d < e → e ≤ f → a ≤ f
nearer_alts a b c d e f h g i j l = omega arith

pub alts-returns-then-is_empty-clause-reads : goal.alts-returns-then-is_empty-clause-reads
alts-returns-then-is_empty-clause-reads t c = λ k e d.
    let ts = c.loop-alts.self.rest.now in
    let f : c.peek.result.token ≡ word.CloseBrace = search rules in
    let n : vec_len c.loop-alts.alts ≡ 0 = eqb-true _ _
    (sym c.is_empty.ensures ∙ c.if-is_empty.true) in
    let g : c.loop-alts.alts.items ≡ [] = nil_from_length c.loop-alts.alts.items
    (omega (arith, n, c.loop-alts.alts.ok.0)) in
    fails_from c.refusal.result _ _
    (c.loop-alts.invariant.reads k e d ∙ ap
    (λ w. run at_most_200 (AltStart k e (alternatives w)) ts) g)
    (refuses_seen at_most_200 (AltStart k e NoAlts) ts c.peek.result word.CloseBrace
    c.refusal.result c.peek.ensures f c.refusal.ensures (λ at. refl))

pub alts-returns-then-eq-clause-reads : goal.alts-returns-then-eq-clause-reads
alts-returns-then-eq-clause-reads t c = λ k e d.
    let items = c.loop-alts.alts.items in
    let f : c.peek.result.token ≡ word.CloseBrace = search rules in
    let g : items ≡ [] → ⊥ = search rules in
    c.loop-alts.invariant.reads k e d
    ∙ takes at_most_200 (AltStart k e (alternatives items)) (Ended k (Case e (alternatives items)))
    c.loop-alts.self.rest.now c.peek.result word.CloseBrace c.advance.new.self.rest.now
    c.peek.ensures f c.advance.ensures.rest (some_alts items g at_most_200 k e c.peek.result.at)

pub alts-returns-in-CloseBrace-clause-reads : goal.alts-returns-in-CloseBrace-clause-reads
alts-returns-in-CloseBrace-clause-reads t c = λ k e d.
    let items = c.loop-alts.alts.items in
    let so_far = c.loop-alts.invariant.reads k e d ∙ c.in_ok-pattern.ensures.reads k e
    (alternatives items) in
    let inner = AltBody k e (alternatives items) c.in_ok-pattern.pattern in
    let d2 : nests inner ≡ c.pattern.new.self.depth
    = d ∙ sym c.loop-alts.invariant.depth ∙ sym c.pattern.ensures.depth in
    let ended = so_far ∙ c.in_ok-body.ensures.reads inner d2 in
    ended
    ∙ takes at_most_200 (Ended inner (tree.expr c.in_ok-body.body))
    (Ended k (Case e
    (alternatives items ⊹ AndAlt c.in_ok-pattern.pattern (tree.expr c.in_ok-body.body) NoAlts)))
    c.expr.new.self.rest.now c.peek-in-loop-alts.result word.CloseBrace
    c.advance-in-CloseBrace.new.self.rest.now c.peek-in-loop-alts.ensures c.in-CloseBrace.is
    c.advance-in-CloseBrace.ensures.rest refl
    ∙ ap (λ w. run at_most_200 (Ended k (Case e w)) c.advance-in-CloseBrace.new.self.rest.now)
    (sym (alts_last items c.in_ok-pattern.pattern c.in_ok-body.body) ∙ ap alternatives
    (sym c.in_ok-push.ensures.items))

pub alts-loop-alts-preserved : goal.alts-loop-alts-preserved
alts-loop-alts-preserved t c = record {
  reads = λ k e d.
      let items = c.loop-alts.alts.items in
      let so_far = c.loop-alts.invariant.reads k e d ∙ c.in_ok-pattern.ensures.reads k e
      (alternatives items) in
      let inner = AltBody k e (alternatives items) c.in_ok-pattern.pattern in
      let d2 : nests inner ≡ c.pattern.new.self.depth
      = d ∙ sym c.loop-alts.invariant.depth ∙ sym c.pattern.ensures.depth in
      let ended = so_far ∙ c.in_ok-body.ensures.reads inner d2 in
      ended
      ∙ takes at_most_200 (Ended inner (tree.expr c.in_ok-body.body))
      (AltStart k e
      (alternatives items ⊹ AndAlt c.in_ok-pattern.pattern (tree.expr c.in_ok-body.body)
      NoAlts)) c.expr.new.self.rest.now c.peek-in-loop-alts.result word.Semicolon
      c.advance-in-Semicolon.new.self.rest.now c.peek-in-loop-alts.ensures c.in-Semicolon.is
      c.advance-in-Semicolon.ensures.rest refl
      ∙ ap (λ w. run at_most_200 (AltStart k e w) c.advance-in-Semicolon.new.self.rest.now)
      (sym (alts_last items c.in_ok-pattern.pattern c.in_ok-body.body) ∙ ap alternatives
      (sym c.in_ok-push.ensures.items));
  shorter = nearer_alts _ _ _ _ _ _ (ap length c.advance-in-Semicolon.ensures.rest)
      (behind_shorter c.expr.new.self.rest.now) c.in_ok-body.ensures.shorter
      c.in_ok-pattern.ensures.shorter c.loop-alts.invariant.shorter;
  depth = c.advance-in-Semicolon.ensures.depth ∙ c.in_ok-body.ensures.depth ∙
      c.pattern.ensures.depth ∙ c.loop-alts.invariant.depth;
}

pub alts-returns-in_default : goal.alts-returns-in_default
alts-returns-in_default t c = record {
  reads = λ k e d.
      let items = c.loop-alts.alts.items in
      let so_far = c.loop-alts.invariant.reads k e d ∙ c.in_ok-pattern.ensures.reads k e
      (alternatives items) in
      let inner = AltBody k e (alternatives items) c.in_ok-pattern.pattern in
      let d2 : nests inner ≡ c.pattern.new.self.depth
      = d ∙ sym c.loop-alts.invariant.depth ∙ sym c.pattern.ensures.depth in
      let ended = so_far ∙ c.in_ok-body.ensures.reads inner d2 in
      let ts = c.expr.new.self.rest.now in
      let seen : c.peek-in-loop-alts.result.token ≡ (front ts).token
      = ap (λ y. y.token) c.peek-in-loop-alts.ensures in
      fails_from c.refusal-in_default.result _ _ ended
      (refuses at_most_200 (Ended inner (tree.expr c.in_ok-body.body)) ts
      c.refusal-in_default.result c.refusal-in_default.ensures
      (no_alt_end at_most_200 k e (alternatives items) c.in_ok-pattern.pattern
      (tree.expr c.in_ok-body.body) (front ts).at (front ts).token
      (λ h. c.in_default.not-CloseBrace (seen ∙ h))
      (λ h. c.in_default.not-Semicolon (seen ∙ h))));
  shorter = tt;
  depth = tt;
}

pub case_of-returns-then-self-ge-MOST_OPEN-clause-reads
    : goal.case_of-returns-then-self-ge-MOST_OPEN-clause-reads
case_of-returns-then-self-ge-MOST_OPEN-clause-reads t c = λ k e.
    halts at_most_200 (Apply (InBody k) NoTerms) c.args.self.now.rest.now
    (front c.args.self.now.rest.now) _ _ refl c.requires.word
    (rw c.requires.at (case_deep k c.args.self.now.depth c.args.at e (omega arith)))

pub case_of-returns-in_err-scrutinee-clause-reads :
    goal.case_of-returns-in_err-scrutinee-clause-reads
case_of-returns-in_err-scrutinee-clause-reads t c = λ k e.
    let q = err_from_is_err_and c.from_residual.result c.from_residual.ensures.1 in
    let opened = case_opens k c.args.self.now.rest.now c.advance.new.self.rest.now
    c.args.self.now.depth c.args.at e (omega arith) c.requires.word c.requires.at
    c.advance.ensures.rest in
    let d : nests (Scrutinee k) ≡ c.advance.new.self.depth + 1 = omega arith in
    rw (q.1, q.2)
    (fails_from c.in_err-scrutinee.field-0.0 _ _ opened
    (c.in_err-scrutinee.ensures.reads (Scrutinee k) d))

pub case_of-returns-in_err-take-clause-reads : goal.case_of-returns-in_err-take-clause-reads
case_of-returns-in_err-take-clause-reads t c = λ k e.
    let q = err_from_is_err_and c.from_residual-in_err-take.result
    c.from_residual-in_err-take.ensures.1 in
    let opened = case_opens k c.args.self.now.rest.now c.advance.new.self.rest.now
    c.args.self.now.depth c.args.at e (omega arith) c.requires.word c.requires.at
    c.advance.ensures.rest in
    let d : nests (Scrutinee k) ≡ c.advance.new.self.depth + 1 = omega arith in
    let s = tree.expr c.in_ok-scrutinee.scrutinee in
    let scrutinised = opened ∙ c.in_ok-scrutinee.ensures.reads (Scrutinee k) d in
    let ts2 = c.expr.new.self.rest.now in
    rw (q.1, q.2) (fails_from c.in_err-take.field-0.0 _ _ scrutinised
    (refuses at_most_200 (Ended (Scrutinee k) s) ts2 c.in_err-take.field-0.0
    c.in_err-take.ensures.takes.1
    (no_of at_most_200 k s (front ts2).at (front ts2).token c.in_err-take.ensures.takes.0)))

pub case_of-returns-in_err-take-2-clause-reads : goal.case_of-returns-in_err-take-2-clause-reads
case_of-returns-in_err-take-2-clause-reads t c = λ k e.
    let q = err_from_is_err_and c.from_residual-in_err-take-2.result
    c.from_residual-in_err-take-2.ensures.1 in
    let opened = case_opens k c.args.self.now.rest.now c.advance.new.self.rest.now
    c.args.self.now.depth c.args.at e (omega arith) c.requires.word c.requires.at
    c.advance.ensures.rest in
    let d : nests (Scrutinee k) ≡ c.advance.new.self.depth + 1 = omega arith in
    let s = tree.expr c.in_ok-scrutinee.scrutinee in
    let scrutinised = opened ∙ c.in_ok-scrutinee.ensures.reads (Scrutinee k) d in
    let ts2 = c.expr.new.self.rest.now in
    let ts3 = c.take.new.self.rest.now in
    let of = takes at_most_200 (Ended (Scrutinee k) s) (Brace k s) ts2 (front ts2) word.Of ts3 refl
    c.in_ok-take.ensures.takes.0 c.in_ok-take.ensures.takes.1 refl in
    rw (q.1, q.2) (fails_from c.in_err-take-2.field-0.0 _ _ (scrutinised ∙ of)
    (refuses at_most_200 (Brace k s) ts3 c.in_err-take-2.field-0.0 c.in_err-take-2.ensures.takes.1
    (no_brace at_most_200 k s (front ts3).at (front ts3).token
    c.in_err-take-2.ensures.takes.0)))

pub case_of-returns-in_err-alts-clause-reads : goal.case_of-returns-in_err-alts-clause-reads
case_of-returns-in_err-alts-clause-reads t c = λ k e.
    let q = err_from_is_err_and c.from_residual-in_err-alts.result
    c.from_residual-in_err-alts.ensures.1 in
    let opened = case_opens k c.args.self.now.rest.now c.advance.new.self.rest.now
    c.args.self.now.depth c.args.at e (omega arith) c.requires.word c.requires.at
    c.advance.ensures.rest in
    let d : nests (Scrutinee k) ≡ c.advance.new.self.depth + 1 = omega arith in
    let s = tree.expr c.in_ok-scrutinee.scrutinee in
    let scrutinised = opened ∙ c.in_ok-scrutinee.ensures.reads (Scrutinee k) d in
    let ts2 = c.expr.new.self.rest.now in
    let ts3 = c.take.new.self.rest.now in
    let of = takes at_most_200 (Ended (Scrutinee k) s) (Brace k s) ts2 (front ts2) word.Of ts3 refl
    c.in_ok-take.ensures.takes.0 c.in_ok-take.ensures.takes.1 refl in
    let ts4 = c.take-2.new.self.rest.now in
    let brace = takes at_most_200 (Brace k s) (AltStart k s NoAlts) ts3 (front ts3) word.OpenBrace
    ts4 refl c.in_ok-take-2.ensures.takes.0 c.in_ok-take-2.ensures.takes.1 refl in
    let d2 : suc (nests k) ≡ c.take-2.new.self.depth
    = d ∙ sym c.in_ok-scrutinee.ensures.depth ∙ sym c.take.ensures.depth ∙ sym
    c.take-2.ensures.depth in
    rw (q.1, q.2)
    (fails_from c.in_err-alts.field-0.0 _ _ (scrutinised ∙ of ∙ brace)
    (c.in_err-alts.ensures.reads k s d2))

pub case_of-returns-clause-reads : goal.case_of-returns-clause-reads
case_of-returns-clause-reads t c = λ k e.
    let opened = case_opens k c.args.self.now.rest.now c.advance.new.self.rest.now
    c.args.self.now.depth c.args.at e (omega arith) c.requires.word c.requires.at
    c.advance.ensures.rest in
    let d : nests (Scrutinee k) ≡ c.advance.new.self.depth + 1 = omega arith in
    let s = tree.expr c.in_ok-scrutinee.scrutinee in
    let scrutinised = opened ∙ c.in_ok-scrutinee.ensures.reads (Scrutinee k) d in
    let ts2 = c.expr.new.self.rest.now in
    let ts3 = c.take.new.self.rest.now in
    let of = takes at_most_200 (Ended (Scrutinee k) s) (Brace k s) ts2 (front ts2) word.Of ts3 refl
    c.in_ok-take.ensures.takes.0 c.in_ok-take.ensures.takes.1 refl in
    let ts4 = c.take-2.new.self.rest.now in
    let brace = takes at_most_200 (Brace k s) (AltStart k s NoAlts) ts3 (front ts3) word.OpenBrace
    ts4 refl c.in_ok-take-2.ensures.takes.0 c.in_ok-take-2.ensures.takes.1 refl in
    let d2 : suc (nests k) ≡ c.take-2.new.self.depth
    = d ∙ sym c.in_ok-scrutinee.ensures.depth ∙ sym c.take.ensures.depth ∙ sym
    c.take-2.ensures.depth in
    scrutinised ∙ of ∙ brace ∙ c.in_ok-alts.ensures.reads k s d2
    ∙ ap (λ w. run at_most_200 (Ended k (Case s (alternatives w))) c.alts.new.self.rest.now)
    (sym c.from_vec.ensures)
    ∙ boxed_case k c.in_ok-new.field-0 c.in_ok-scrutinee.scrutinee c.from_vec.result
    c.alts.new.self.rest.now c.in_ok-new.ensures.ok
