use Rattle.std.proofs.Common.{rules, ◌≡◌, ◌<◌, ◌≤◌, true, false, length, ℕ, suc, ◌+◌, [], ◌∙◌, ap, sym, subst, refl, arith}
use Rattle.std.specs.Prelude.{vec_len}
use Rattle.std.proofs.lemmas.Bool.{eqb-true}
use Rattle.std.proofs.lemmas.Int.{to_z-of_z}
use Rattle.std.proofs.lemmas.List.{nil_from_length}
use Rattle.std.proofs.lemmas.Result.{err_from_is_err_and}
use mir.Val.{SFits}
use mir.Syntax.{w32}
use Rattle.core_reader.specs.declared.syntax.Binder.{Binder}
use Rattle.core_reader.specs.declared.token.Token.TheVariants as word
use Rattle.core_reader.specs.declared.token.Further.TheVariants.{Backslash}
use Rattle.core_reader.specs.Grammar.{at_most_200}
use Rattle.core_reader.specs.Machine.{front, starts_atom}
use Rattle.core_reader.proofs.Taking.{fails_from}
use Rattle.lambda_reader.specs.declared.syntax.Bind.TheVariants as binds
use Rattle.lambda_reader.specs.Tree.{NoTerms, AndTerm, NoBinds, Let, Case, NoAlts, AndAlt, Expr, Alts}
use Rattle.lambda_reader.specs.Tree as tree
use Rattle.lambda_reader.specs.Code as code
use Rattle.lambda_reader.specs.Machine.{with_last, ◌⊹◌, ◌⊕◌, AltStart, AltBody, Scrutinee, Brace, LetBody, LambdaBody, FunctionBody, LambdaNames, nests, opens, InBody, InBind, Inside, BindName, BindEquals, Ended, Apply, go, run}
use Rattle.lambda_reader.specs.Reads.{whole, group, alternatives, IsBehind}
use Rattle.lambda_reader.proofs.TreeOf.{term_of-Name, term_of-Con, term_of-Int, expr_of-App}
use Rattle.lambda_reader.proofs.Taking.{takes, halts, refuses, ended_app, let_ends}
use Rattle.lambda_reader.proofs.Taken.{refuses_seen, too_deep, opening, let_deep, let_opens, case_deep, case_opens, no_head_inside, no_head_bind, no_close, no_expr, no_name, no_params, no_lambda_arrow, no_lambda_end, no_of, no_brace, no_alt_end}
use Rattle.lambda_reader.proofs.Parts.{pushed, boxed, boxed_lambda, boxed_let, boxed_case, group_last, alts_last, some_members, some_alts, behind_shorter}
use Rattle.lambda_reader.proofs.Named.{lambda_names, some_params, refuses_member, takes_value, takes_function, behind_value, behind_function}
use Rattle.lambda_reader.proofs.expressions.+expressions.Goals as goal

nearer : (a b c : ℕ) → a < b → b < c → a < c
nearer a b c h g = omega arith

nearer_still : (a b c d e : ℕ) → a ≡ b → b ≤ c → c < d → d ≤ e → a ≤ e
nearer_still a b c d e h g i j = omega arith

nearer_alts : (a b c d e f : ℕ) → a ≡ b → b ≤ c → c < d → d < e → e ≤ f → a ≤ f
nearer_alts a b c d e f h g i j l = omega arith

pub app-loop-args-preserved : goal.app-loop-args-preserved
app-loop-args-preserved t c = record {
  reads = λ k e. c.loop-args.invariant.reads k e ∙ c.in_ok-atom.ensures.reads k _
      (e ∙ sym c.loop-args.invariant.depth) ∙ pushed true at_most_200 k _ c.loop-args.args.items _ _
      _ c.in_ok-push.ensures.items;
  shorter = nearer _ _ _ c.in_ok-atom.ensures.shorter c.loop-args.invariant.shorter;
  depth = c.in_ok-atom.ensures.depth ∙ c.loop-args.invariant.depth;
}

pub atom-returns-in-Name-clause-reads : goal.atom-returns-in-Name-clause-reads
atom-returns-in-Name-clause-reads t c = λ k held e.
    takes true at_most_200 (Apply k held)
    (Apply k (with_last held (tree.Name c.in-Name.name.0 c.peek-next.result.at)))
    c.args.parser.now.rest.now c.peek-next.result _ _ c.peek-next.ensures c.in-Name.is
    c.advance.ensures.rest refl
    ∙ ap (λ w. run true at_most_200 (Apply k (with_last held w)) c.advance.new.self.rest.now)
    (sym (term_of-Name c.in-Name.name c.peek-next.result.at))

pub atom-returns-in-Con-clause-reads : goal.atom-returns-in-Con-clause-reads
atom-returns-in-Con-clause-reads t c = λ k held e.
    takes true at_most_200 (Apply k held)
    (Apply k (with_last held (tree.Con c.in-Con.name.0 c.peek-next.result.at)))
    c.args.parser.now.rest.now c.peek-next.result _ _ c.peek-next.ensures c.in-Con.is
    c.advance-in-Con.ensures.rest refl
    ∙ ap (λ w. run true at_most_200 (Apply k (with_last held w)) c.advance-in-Con.new.self.rest.now)
    (sym (term_of-Con c.in-Con.name c.peek-next.result.at))

pub atom-returns-in-Number-clause-reads : goal.atom-returns-in-Number-clause-reads
atom-returns-in-Number-clause-reads t c = λ k held e.
    let f : SFits w32 c.in-Number.value = search rules in
    rw (to_z-of_z w32 c.in-Number.value f)
    (takes true at_most_200 (Apply k held)
    (Apply k (with_last held (tree.Int c.in-Number.value c.peek-next.result.at)))
    c.args.parser.now.rest.now c.peek-next.result _ _ c.peek-next.ensures c.in-Number.is
    c.advance-in-Number.ensures.rest refl
    ∙ ap (λ w. run true at_most_200 (Apply k (with_last held w))
    c.advance-in-Number.new.self.rest.now)
    (sym (term_of-Int c.in-Number.value c.peek-next.result.at)))

pub atom-returns-in-Large-clause-reads : goal.atom-returns-in-Large-clause-reads
atom-returns-in-Large-clause-reads t c = λ k held e. halts true at_most_200 (Apply k held)
    c.args.parser.now.rest.now c.peek-next.result _ _ c.peek-next.ensures c.in-Large.is refl

pub bracket-returns-then-parser-ge-MOST_OPEN-clause-reads
    : goal.bracket-returns-then-parser-ge-MOST_OPEN-clause-reads
bracket-returns-then-parser-ge-MOST_OPEN-clause-reads t c
    = λ k held e. halts true at_most_200 (Apply k held) c.args.parser.now.rest.now
    (front c.args.parser.now.rest.now) _ _ refl c.requires.opens
    (rw c.requires.at (too_deep true k held c.args.parser.now.depth c.args.at e (omega arith)))

pub bracket-returns-in_err-inner-clause-reads : goal.bracket-returns-in_err-inner-clause-reads
bracket-returns-in_err-inner-clause-reads t c = λ k held e.
    let q = err_from_is_err_and c.from_residual.result c.from_residual.ensures.1 in
    let entered = opening true k held c.args.parser.now.rest.now c.advance.new.self.rest.now
    c.args.parser.now.depth c.args.at e (omega arith) c.requires.opens c.requires.at
    c.advance.ensures.rest in
    let d : suc (opens k) ≡ c.advance.new.self.depth + 1 = omega arith in
    rw (q.1, q.2)
    (fails_from c.in_err-inner.field-0.0 _ _ entered (c.in_err-inner.ensures.reads k held d))

pub bracket-returns-clause-reads : goal.bracket-returns-clause-reads
bracket-returns-clause-reads t c = λ k held e.
    let entered = opening true k held c.args.parser.now.rest.now c.advance.new.self.rest.now
    c.args.parser.now.depth c.args.at e (omega arith) c.requires.opens c.requires.at
    c.advance.ensures.rest in
    let d : suc (opens k) ≡ c.advance.new.self.depth + 1 = omega arith in
    entered ∙ c.in_ok-inner.ensures.reads k held d

pub inside-returns-then-not-starts_atom-clause-reads
    : goal.inside-returns-then-not-starts_atom-clause-reads
inside-returns-then-not-starts_atom-clause-reads t c = λ k held e.
    let ts = c.args.parser.now.rest.now in
    let f : starts_atom (front ts).token ≡ false = cc in
    let g : c.peek-next.result.token ≡ word.Further Backslash → ⊥ = search rules in
    refuses true at_most_200 (Apply (Inside k held c.args.at) NoTerms) ts c.refusal.result
    c.refusal.ensures
    (no_head_inside true at_most_200 k held c.args.at (front ts).at (front ts).token f
    (λ h. g (ap (λ y. y.token) c.peek-next.ensures ∙ h)))

pub inside-returns-in_err-take-clause-reads : goal.inside-returns-in_err-take-clause-reads
inside-returns-in_err-take-clause-reads t c = λ k held e.
    let q = err_from_is_err_and c.from_residual-in_err-take.result
    c.from_residual-in_err-take.ensures.1 in
    let ts1 = c.app.new.parser.rest.now in
    rw (q.1, q.2)
    (fails_from c.in_err-take.field-0.0 _ _
    (c.in_ok-app.ensures.reads (Inside k held c.args.at) e)
    (refuses true at_most_200 (Apply (Inside k held c.args.at) (whole c.in_ok-app.app)) ts1
    c.in_err-take.field-0.0 c.in_err-take.ensures.takes.1
    (no_close true at_most_200 k held c.args.at _ _ (front ts1).at (front ts1).token
    c.in_ok-app.ensures.whole c.in_err-take.ensures.takes.0)))

pub inside-returns-clause-reads : goal.inside-returns-clause-reads
inside-returns-clause-reads t c = λ k held e.
    let ts1 = c.app.new.parser.rest.now in
    let a = code.application c.in_ok-app.app in
    c.in_ok-app.ensures.reads (Inside k held c.args.at) e
    ∙ takes true at_most_200 (Apply (Inside k held c.args.at) (whole c.in_ok-app.app))
    (Apply k (with_last held (tree.Bracket a.head a.args c.args.at))) ts1 (front ts1) word.Close
    _ refl c.in_ok-take.ensures.takes.0 c.in_ok-take.ensures.takes.1 refl
    ∙ boxed true at_most_200 k held c.args.at c.in_ok-new.field-0 c.in_ok-app.app _
    c.in_ok-new.ensures.ok

pub lambda-returns-then-len-lt-FEWEST_PARAMETERS-clause-reads
    : goal.lambda-returns-then-len-lt-FEWEST_PARAMETERS-clause-reads
lambda-returns-then-len-lt-FEWEST_PARAMETERS-clause-reads t c = λ k held e.
    let ts2 = c.names.new.self.rest.now in
    let items = c.in_ok-params.params.items in
    let entered = takes true at_most_200 (Apply (Inside k held c.args.bracket) NoTerms)
    (LambdaNames k held c.args.at []) c.args.parser.now.rest.now
    (front c.args.parser.now.rest.now) (word.Further Backslash) c.advance.new.self.rest.now refl
    c.requires.word c.advance.ensures.rest
    (ap (λ p. go (LambdaNames k held p [])) c.requires.at) in
    let named = lambda_names at_most_200 k held c.args.at items c.advance.new.self.rest.now ts2
    c.in_ok-params.ensures.reads in
    let g : items ≡ [] = nil_from_length items (omega (arith, c.in_ok-params.params.ok.0)) in
    fails_from c.refusal.result _ _
    (entered ∙ named ∙ ap (λ w. run true at_most_200 (LambdaNames k held c.args.at w) ts2) g)
    (refuses true at_most_200 (LambdaNames k held c.args.at []) ts2 c.refusal.result
    c.refusal.ensures
    (no_params true at_most_200 k held c.args.at (front ts2).at (front ts2).token
    c.in_ok-params.ensures.whole))

pub lambda-returns-in_err-take-clause-reads : goal.lambda-returns-in_err-take-clause-reads
lambda-returns-in_err-take-clause-reads t c = λ k held e.
    let q = err_from_is_err_and c.from_residual-in_err-take.result
    c.from_residual-in_err-take.ensures.1 in
    let ts2 = c.names.new.self.rest.now in
    let items = c.in_ok-params.params.items in
    let entered = takes true at_most_200 (Apply (Inside k held c.args.bracket) NoTerms)
    (LambdaNames k held c.args.at []) c.args.parser.now.rest.now
    (front c.args.parser.now.rest.now) (word.Further Backslash) c.advance.new.self.rest.now refl
    c.requires.word c.advance.ensures.rest
    (ap (λ p. go (LambdaNames k held p [])) c.requires.at) in
    let named = lambda_names at_most_200 k held c.args.at items c.advance.new.self.rest.now ts2
    c.in_ok-params.ensures.reads in
    rw (q.1, q.2) (fails_from c.in_err-take.field-0.0 _ _ (entered ∙ named)
    (refuses true at_most_200 (LambdaNames k held c.args.at items) ts2 c.in_err-take.field-0.0
    c.in_err-take.ensures.takes.1
    (no_lambda_arrow true at_most_200 k held c.args.at items (front ts2).at (front ts2).token
    c.in_ok-params.ensures.whole c.in_err-take.ensures.takes.0)))

pub lambda-returns-in_err-body-clause-reads : goal.lambda-returns-in_err-body-clause-reads
lambda-returns-in_err-body-clause-reads t c = λ k held e.
    let q = err_from_is_err_and c.from_residual-in_err-body.result
    c.from_residual-in_err-body.ensures.1 in
    let ts2 = c.names.new.self.rest.now in
    let items = c.in_ok-params.params.items in
    let some : items ≡ [] → ⊥ = λ h. omega (arith, ap length h, c.in_ok-params.params.ok.0) in
    let entered = takes true at_most_200 (Apply (Inside k held c.args.bracket) NoTerms)
    (LambdaNames k held c.args.at []) c.args.parser.now.rest.now
    (front c.args.parser.now.rest.now) (word.Further Backslash) c.advance.new.self.rest.now refl
    c.requires.word c.advance.ensures.rest
    (ap (λ p. go (LambdaNames k held p [])) c.requires.at) in
    let named = lambda_names at_most_200 k held c.args.at items c.advance.new.self.rest.now ts2
    c.in_ok-params.ensures.reads in
    let arrow = takes true at_most_200 (LambdaNames k held c.args.at items)
    (Apply (InBody (LambdaBody k held c.args.at items)) NoTerms) ts2 (front ts2) word.Arrow
    c.take.new.self.rest.now refl c.in_ok-take.ensures.takes.0 c.in_ok-take.ensures.takes.1
    (some_params at_most_200 k held c.args.at items some (front ts2).at) in
    let d : suc (opens k) ≡ c.take.new.self.depth = e ∙ sym c.advance.ensures.depth ∙ sym
    c.names.ensures.depth ∙ sym c.take.ensures.depth in
    rw (q.1, q.2)
    (fails_from c.in_err-body.field-0.0 _ _ (entered ∙ named ∙ arrow)
    (c.in_err-body.ensures.reads (LambdaBody k held c.args.at items) d))

pub lambda-returns-in_err-take-2-clause-reads : goal.lambda-returns-in_err-take-2-clause-reads
lambda-returns-in_err-take-2-clause-reads t c = λ k held e.
    let q = err_from_is_err_and c.from_residual-in_err-take-2.result
    c.from_residual-in_err-take-2.ensures.1 in
    let ts2 = c.names.new.self.rest.now in
    let ts4 = c.expr.new.parser.rest.now in
    let items = c.in_ok-params.params.items in
    let some : items ≡ [] → ⊥ = λ h. omega (arith, ap length h, c.in_ok-params.params.ok.0) in
    let entered = takes true at_most_200 (Apply (Inside k held c.args.bracket) NoTerms)
    (LambdaNames k held c.args.at []) c.args.parser.now.rest.now
    (front c.args.parser.now.rest.now) (word.Further Backslash) c.advance.new.self.rest.now refl
    c.requires.word c.advance.ensures.rest
    (ap (λ p. go (LambdaNames k held p [])) c.requires.at) in
    let named = lambda_names at_most_200 k held c.args.at items c.advance.new.self.rest.now ts2
    c.in_ok-params.ensures.reads in
    let arrow = takes true at_most_200 (LambdaNames k held c.args.at items)
    (Apply (InBody (LambdaBody k held c.args.at items)) NoTerms) ts2 (front ts2) word.Arrow
    c.take.new.self.rest.now refl c.in_ok-take.ensures.takes.0 c.in_ok-take.ensures.takes.1
    (some_params at_most_200 k held c.args.at items some (front ts2).at) in
    let d : suc (opens k) ≡ c.take.new.self.depth = e ∙ sym c.advance.ensures.depth ∙ sym
    c.names.ensures.depth ∙ sym c.take.ensures.depth in
    rw (q.1, q.2)
    (fails_from c.in_err-take-2.field-0.0 _ _
    (entered ∙ named ∙ arrow ∙ c.in_ok-body.ensures.reads (LambdaBody k held c.args.at items) d)
    (refuses true at_most_200
    (Ended (LambdaBody k held c.args.at items) (code.expr c.in_ok-body.body)) ts4
    c.in_err-take-2.field-0.0 c.in_err-take-2.ensures.takes.1
    (no_lambda_end true at_most_200 k held c.args.at items (code.expr c.in_ok-body.body)
    (front ts4).at (front ts4).token c.in_err-take-2.ensures.takes.0)))

pub lambda-returns-clause-reads : goal.lambda-returns-clause-reads
lambda-returns-clause-reads t c = λ k held e.
    let ts2 = c.names.new.self.rest.now in
    let ts4 = c.expr.new.parser.rest.now in
    let ts5 = c.take-2.new.self.rest.now in
    let items = c.in_ok-params.params.items in
    let b = code.expr c.in_ok-body.body in
    let some : items ≡ [] → ⊥ = λ h. omega (arith, ap length h, c.in_ok-params.params.ok.0) in
    let entered = takes true at_most_200 (Apply (Inside k held c.args.bracket) NoTerms)
    (LambdaNames k held c.args.at []) c.args.parser.now.rest.now
    (front c.args.parser.now.rest.now) (word.Further Backslash) c.advance.new.self.rest.now refl
    c.requires.word c.advance.ensures.rest
    (ap (λ p. go (LambdaNames k held p [])) c.requires.at) in
    let named = lambda_names at_most_200 k held c.args.at items c.advance.new.self.rest.now ts2
    c.in_ok-params.ensures.reads in
    let arrow = takes true at_most_200 (LambdaNames k held c.args.at items)
    (Apply (InBody (LambdaBody k held c.args.at items)) NoTerms) ts2 (front ts2) word.Arrow
    c.take.new.self.rest.now refl c.in_ok-take.ensures.takes.0 c.in_ok-take.ensures.takes.1
    (some_params at_most_200 k held c.args.at items some (front ts2).at) in
    let d : suc (opens k) ≡ c.take.new.self.depth = e ∙ sym c.advance.ensures.depth ∙ sym
    c.names.ensures.depth ∙ sym c.take.ensures.depth in
    entered ∙ named ∙ arrow ∙ c.in_ok-body.ensures.reads (LambdaBody k held c.args.at items) d
    ∙ takes true at_most_200 (Ended (LambdaBody k held c.args.at items) b)
    (Apply k (with_last held (tree.Lambda items b c.args.at))) ts4 (front ts4) word.Close ts5
    refl c.in_ok-take-2.ensures.takes.0 c.in_ok-take-2.ensures.takes.1 refl
    ∙ ap (λ w. run true at_most_200 (Apply k (with_last held (tree.Lambda w b c.args.at))) ts5)
    (sym c.from_vec.ensures)
    ∙ boxed_lambda true at_most_200 k held c.args.at c.from_vec.result c.in_ok-new.field-0
    c.in_ok-body.body ts5 c.in_ok-new.ensures.ok

pub headed-returns-then-not-starts_atom-clause-reads
    : goal.headed-returns-then-not-starts_atom-clause-reads
headed-returns-then-not-starts_atom-clause-reads t c = λ k bs n p e.
    let ts = c.args.parser.now.rest.now in
    let f : starts_atom (front ts).token ≡ false = cc in
    refuses true at_most_200 (Apply (InBind k bs n p) NoTerms) ts c.refusal.result c.refusal.ensures
    (no_head_bind true at_most_200 k bs n p (front ts).at (front ts).token f)

pub group-returns-then-is_empty-clause-reads : goal.group-returns-then-is_empty-clause-reads
group-returns-then-is_empty-clause-reads t c = λ k e.
    let ts = c.loop-members.parser.rest.now in
    let f : c.peek.result.token ≡ word.In = search rules in
    let n : vec_len c.loop-members.members ≡ 0 = eqb-true _ _
    (sym c.is_empty.ensures ∙ c.if-is_empty.true) in
    let g : c.loop-members.members.items ≡ [] = nil_from_length c.loop-members.members.items
    (omega (arith, n, c.loop-members.members.ok.0)) in
    fails_from c.refusal.result _ _
    (c.loop-members.invariant.reads k e ∙ ap
    (λ w. run true at_most_200 (BindName k (group w)) ts) g)
    (refuses_seen true at_most_200 (BindName k NoBinds) ts c.peek.result word.In c.refusal.result
    c.peek.ensures f c.refusal.ensures (λ at. refl))

pub group-returns-then-eq-clause-reads : goal.group-returns-then-eq-clause-reads
group-returns-then-eq-clause-reads t c = λ k e.
    let items = c.loop-members.members.items in
    let f : c.peek.result.token ≡ word.In = search rules in
    let g : items ≡ [] → ⊥ = search rules in
    c.loop-members.invariant.reads k e
    ∙ takes true at_most_200 (BindName k (group items))
    (Apply (InBody (LetBody k (group items))) NoTerms) c.loop-members.parser.rest.now
    c.peek.result word.In c.advance.new.self.rest.now c.peek.ensures f c.advance.ensures.rest
    (some_members true at_most_200 items g k c.peek.result.at)

pub group-returns-in-In-clause-reads : goal.group-returns-in-In-clause-reads
group-returns-in-In-clause-reads t c = λ k e.
    let items = c.loop-members.members.items in
    let m = c.in_ok-member.ensures.reads k (group items) (e ∙ sym c.loop-members.invariant.depth) in
    c.loop-members.invariant.reads k e
    ∙ m.1
    ∙ takes true at_most_200 m.0
    (Apply (InBody (LetBody k (group items ⊕ code.member c.in_ok-member.member NoBinds)))
    NoTerms) c.member.new.parser.rest.now c.peek-in-loop-members.result word.In
    c.advance-in-In.new.self.rest.now c.peek-in-loop-members.ensures c.in-In.is
    c.advance-in-In.ensures.rest (m.2.body c.peek-in-loop-members.result.at)
    ∙ ap (λ w. run true at_most_200 (Apply (InBody (LetBody k w)) NoTerms)
    c.advance-in-In.new.self.rest.now)
    (sym (group_last items c.in_ok-member.member) ∙ ap group (sym c.in_ok-push.ensures.items))

pub group-loop-members-preserved : goal.group-loop-members-preserved
group-loop-members-preserved t c = record {
  reads = λ k e.
      let items = c.loop-members.members.items in
      let m = c.in_ok-member.ensures.reads k (group items) (e ∙ sym c.loop-members.invariant.depth)
      in
      c.loop-members.invariant.reads k e
      ∙ m.1
      ∙ takes true at_most_200 m.0
      (BindName k (group items ⊕ code.member c.in_ok-member.member NoBinds))
      c.member.new.parser.rest.now c.peek-in-loop-members.result word.Semicolon
      c.advance-in-Semicolon.new.self.rest.now c.peek-in-loop-members.ensures c.in-Semicolon.is
      c.advance-in-Semicolon.ensures.rest (m.2.next c.peek-in-loop-members.result.at)
      ∙ ap (λ w. run true at_most_200 (BindName k w) c.advance-in-Semicolon.new.self.rest.now)
      (sym (group_last items c.in_ok-member.member) ∙ ap group
      (sym c.in_ok-push.ensures.items));
  shorter = nearer_still _ _ _ _ _ (ap length c.advance-in-Semicolon.ensures.rest)
      (behind_shorter c.member.new.parser.rest.now) c.in_ok-member.ensures.shorter
      c.loop-members.invariant.shorter;
  depth = c.advance-in-Semicolon.ensures.depth ∙ c.in_ok-member.ensures.depth ∙
      c.loop-members.invariant.depth;
}

pub group-returns-in_default : goal.group-returns-in_default
group-returns-in_default t c = record {
  reads = λ k e.
      let items = c.loop-members.members.items in
      let ts = c.member.new.parser.rest.now in
      let m = c.in_ok-member.ensures.reads k (group items) (e ∙ sym c.loop-members.invariant.depth)
      in
      let seen : c.peek-in-loop-members.result.token ≡ (front ts).token
      = ap (λ y. y.token) c.peek-in-loop-members.ensures in
      fails_from c.refusal-in_default.result _ _ (c.loop-members.invariant.reads k e ∙ m.1)
      (refuses true at_most_200 m.0 ts c.refusal-in_default.result c.refusal-in_default.ensures
      (m.2.others (λ h. c.in_default.not-Semicolon (seen ∙ h))
      (λ h. c.in_default.not-In (seen ∙ h))));
  shorter = tt;
  depth = tt;
}

pub member-returns-in_err-take-in-Name-clause-reads
    : goal.member-returns-in_err-take-in-Name-clause-reads
member-returns-in_err-take-in-Name-clause-reads t c =
    let q = err_from_is_err_and c.from_residual-in_err-take-in-Name.result
    c.from_residual-in_err-take-in-Name.ensures.1 in
    rw (q.1, q.2) (λ k bs e.
    let n = c.in-Name.name in
    let p = c.peek-next.result.at in
    let ts1 = c.advance.new.self.rest.now in
    let ts2 = c.names.new.self.rest.now in
    let items = c.in_ok-params-in-Name.params.items in
    let named = takes true at_most_200 (BindName k bs) (BindEquals k bs n p)
    c.args.parser.now.rest.now c.peek-next.result (word.Name n) ts1 c.peek-next.ensures
    c.in-Name.is c.advance.ensures.rest refl in
    fails_from c.in_err-take-in-Name.field-0.0 _ _ named
    (refuses_member k bs n p items ts1 ts2 c.in_err-take-in-Name.field-0.0
    c.in_ok-params-in-Name.ensures.reads c.in_ok-params-in-Name.ensures.whole
    c.in_err-take-in-Name.ensures.takes.0 c.in_err-take-in-Name.ensures.takes.1))

pub member-returns-in_err-app-in-Name-clause-reads :
    goal.member-returns-in_err-app-in-Name-clause-reads
member-returns-in_err-app-in-Name-clause-reads t c =
    let q = err_from_is_err_and c.from_residual-in_err-app-in-Name.result
    c.from_residual-in_err-app-in-Name.ensures.1 in
    rw (q.1, q.2) (λ k bs e.
    let n = c.in-Name.name in
    let p = c.peek-next.result.at in
    let ts1 = c.advance.new.self.rest.now in
    let ts2 = c.names.new.self.rest.now in
    let items = c.in_ok-params-in-Name.params.items in
    let named = takes true at_most_200 (BindName k bs) (BindEquals k bs n p)
    c.args.parser.now.rest.now c.peek-next.result (word.Name n) ts1 c.peek-next.ensures
    c.in-Name.is c.advance.ensures.rest refl in
    let len : vec_len c.in_ok-params-in-Name.params ≡ 0
    = eqb-true _ _ (sym c.is_empty.ensures ∙ c.if-is_empty.true) in
    let none : items ≡ [] = nil_from_length items
    (omega (arith, len, c.in_ok-params-in-Name.params.ok.0)) in
    let d : suc (nests k) ≡ c.take.new.self.depth = e ∙ sym c.advance.ensures.depth ∙ sym
    c.names.ensures.depth ∙ sym c.take.ensures.depth in
    fails_from c.in_err-app-in-Name.field-0.0 _ _
    (named ∙ takes_value k bs n p items ts1 ts2 c.take.new.self.rest.now none
    c.in_ok-params-in-Name.ensures.reads c.in_ok-take-in-Name.ensures.takes.0
    c.in_ok-take-in-Name.ensures.takes.1)
    (c.in_err-app-in-Name.ensures.reads k bs n p d))

pub member-returns-then-is_empty-clause-reads : goal.member-returns-then-is_empty-clause-reads
member-returns-then-is_empty-clause-reads t c = λ k bs e.
    let n = c.in-Name.name in
    let p = c.peek-next.result.at in
    let b : Binder = record { name = n; at = p } in
    let ts1 = c.advance.new.self.rest.now in
    let ts2 = c.names.new.self.rest.now in
    let items = c.in_ok-params-in-Name.params.items in
    let a = c.in_ok-app-in-Name.app in
    let named = takes true at_most_200 (BindName k bs) (BindEquals k bs n p)
    c.args.parser.now.rest.now c.peek-next.result (word.Name n) ts1 c.peek-next.ensures
    c.in-Name.is c.advance.ensures.rest refl in
    let len : vec_len c.in_ok-params-in-Name.params ≡ 0
    = eqb-true _ _ (sym c.is_empty.ensures ∙ c.if-is_empty.true) in
    let none : items ≡ [] = nil_from_length items
    (omega (arith, len, c.in_ok-params-in-Name.params.ok.0)) in
    let d : suc (nests k) ≡ c.take.new.self.depth = e ∙ sym c.advance.ensures.depth ∙ sym
    c.names.ensures.depth ∙ sym c.take.ensures.depth in (
      Apply (InBind k bs n p) (whole a),
      named
          ∙ takes_value k bs n p items ts1 ts2 c.take.new.self.rest.now none
          c.in_ok-params-in-Name.ensures.reads c.in_ok-take-in-Name.ensures.takes.0
          c.in_ok-take-in-Name.ensures.takes.1
          ∙ c.in_ok-app-in-Name.ensures.reads k bs n p d,
      behind_value k bs b a (front c.headed.new.parser.rest.now) c.in_ok-app-in-Name.ensures.whole,
    )

pub member-returns-in_err-body-in-Name-clause-reads
    : goal.member-returns-in_err-body-in-Name-clause-reads
member-returns-in_err-body-in-Name-clause-reads t c =
    let q = err_from_is_err_and c.from_residual-in_err-body-in-Name.result
    c.from_residual-in_err-body-in-Name.ensures.1 in
    rw (q.1, q.2) (λ k bs e.
    let n = c.in-Name.name in
    let p = c.peek-next.result.at in
    let ts1 = c.advance.new.self.rest.now in
    let ts2 = c.names.new.self.rest.now in
    let items = c.in_ok-params-in-Name.params.items in
    let named = takes true at_most_200 (BindName k bs) (BindEquals k bs n p)
    c.args.parser.now.rest.now c.peek-next.result (word.Name n) ts1 c.peek-next.ensures
    c.in-Name.is c.advance.ensures.rest refl in
    let some : items ≡ [] → ⊥ = search rules in
    let d : suc (nests k) ≡ c.take.new.self.depth = e ∙ sym c.advance.ensures.depth ∙ sym
    c.names.ensures.depth ∙ sym c.take.ensures.depth in
    fails_from c.in_err-body-in-Name.field-0.0 _ _
    (named ∙ takes_function k bs n p items ts1 ts2 c.take.new.self.rest.now some
    c.in_ok-params-in-Name.ensures.reads c.in_ok-take-in-Name.ensures.takes.0
    c.in_ok-take-in-Name.ensures.takes.1)
    (c.in_err-body-in-Name.ensures.reads (FunctionBody k bs n p items) d))

pub member-returns-in_ok-body-in-Name-clause-reads :
    goal.member-returns-in_ok-body-in-Name-clause-reads
member-returns-in_ok-body-in-Name-clause-reads t c = λ k bs e.
    let n = c.in-Name.name in
    let p = c.peek-next.result.at in
    let b : Binder = record { name = n; at = p } in
    let ts1 = c.advance.new.self.rest.now in
    let ts2 = c.names.new.self.rest.now in
    let items = c.in_ok-params-in-Name.params.items in
    let named = takes true at_most_200 (BindName k bs) (BindEquals k bs n p)
    c.args.parser.now.rest.now c.peek-next.result (word.Name n) ts1 c.peek-next.ensures
    c.in-Name.is c.advance.ensures.rest refl in
    let some : items ≡ [] → ⊥ = search rules in
    let d : suc (nests k) ≡ c.take.new.self.depth = e ∙ sym c.advance.ensures.depth ∙ sym
    c.names.ensures.depth ∙ sym c.take.ensures.depth in
    let whole_body = c.in_ok-body-in-Name.body in
    let s = Ended (FunctionBody k bs n p items) (code.expr whole_body) in
    let x = front c.expr.new.parser.rest.now in (
      s,
      named
          ∙ takes_function k bs n p items ts1 ts2 c.take.new.self.rest.now some
          c.in_ok-params-in-Name.ensures.reads c.in_ok-take-in-Name.ensures.takes.0
          c.in_ok-take-in-Name.ensures.takes.1
          ∙ c.in_ok-body-in-Name.ensures.reads (FunctionBody k bs n p items) d,
      subst (λ ps. IsBehind true s k (bs ⊕ code.member (binds.Function b ps whole_body) NoBinds) x)
          (sym c.from_vec.ensures) (behind_function k bs b items whole_body x),
    )

pub member-returns-in_default : goal.member-returns-in_default
member-returns-in_default t c = record {
  reads = λ k bs e.
      let ts = c.args.parser.now.rest.now in
      refuses true at_most_200 (BindName k bs) ts c.refusal.result c.refusal.ensures
      (no_name true at_most_200 k bs (front ts).at (front ts).token
      (λ n h. c.in_default.not-Name n (ap (λ y. y.token) c.peek-next.ensures ∙ h)) c.requires);
  shorter = tt;
  depth = tt;
}

pub expr-returns-then-not-starts_atom : goal.expr-returns-then-not-starts_atom
expr-returns-then-not-starts_atom t c = record {
  reads = λ k e.
      let ts = c.args.parser.now.rest.now in
      let f : starts_atom (front ts).token ≡ false = cc in
      refuses true at_most_200 (Apply (InBody k) NoTerms) ts c.refusal.result c.refusal.ensures
      (no_expr true at_most_200 k (front ts).at (front ts).token f
      (λ h. c.in_default.not-Let (ap (λ y. y.token) c.peek-next.ensures ∙ h))
      (λ h. c.in_default.not-Case (ap (λ y. y.token) c.peek-next.ensures ∙ h)));
  shorter = tt;
  depth = tt;
}

pub expr-returns-in_ok-app-in_default : goal.expr-returns-in_ok-app-in_default
expr-returns-in_ok-app-in_default t c = record {
  reads = λ k e.
      c.in_ok-app-in_default.ensures.reads (InBody k) e
      ∙ ended_app true at_most_200 k _ _ c.app.new.parser.rest.now
      c.in_ok-app-in_default.ensures.whole
      ∙ ap (λ w. run true at_most_200 (Ended k w) c.app.new.parser.rest.now)
      (sym (expr_of-App c.in_ok-app-in_default.field-0));
  shorter = c.in_ok-app-in_default.ensures.shorter;
  depth = c.in_ok-app-in_default.ensures.depth;
}

pub let_in-returns-then-parser-ge-MOST_OPEN-clause-reads
    : goal.let_in-returns-then-parser-ge-MOST_OPEN-clause-reads
let_in-returns-then-parser-ge-MOST_OPEN-clause-reads t c = λ k e.
    halts true at_most_200 (Apply (InBody k) NoTerms) c.args.parser.now.rest.now
    (front c.args.parser.now.rest.now) _ _ refl c.requires.word
    (rw c.requires.at (let_deep true k c.args.parser.now.depth c.args.at e (omega arith)))

pub let_in-returns-in_err-members-clause-reads : goal.let_in-returns-in_err-members-clause-reads
let_in-returns-in_err-members-clause-reads t c = λ k e.
    let q = err_from_is_err_and c.from_residual.result c.from_residual.ensures.1 in
    let opened = let_opens true k c.args.parser.now.rest.now c.advance.new.self.rest.now
    c.args.parser.now.depth c.args.at e (omega arith) c.requires.word c.requires.at
    c.advance.ensures.rest in
    let d : suc (nests k) ≡ c.advance.new.self.depth + 1 = omega arith in
    rw (q.1, q.2)
    (fails_from c.in_err-members.field-0.0 _ _ opened (c.in_err-members.ensures.reads k d))

pub let_in-returns-in_err-body-clause-reads : goal.let_in-returns-in_err-body-clause-reads
let_in-returns-in_err-body-clause-reads t c = λ k e.
    let q = err_from_is_err_and c.from_residual-in_err-body.result
    c.from_residual-in_err-body.ensures.1 in
    let opened = let_opens true k c.args.parser.now.rest.now c.advance.new.self.rest.now
    c.args.parser.now.depth c.args.at e (omega arith) c.requires.word c.requires.at
    c.advance.ensures.rest in
    let d : suc (nests k) ≡ c.advance.new.self.depth + 1 = omega arith in
    let d2 : nests (LetBody k (group c.in_ok-members.members.items)) ≡ c.group.new.parser.depth
    = d ∙ sym c.in_ok-members.ensures.depth in
    rw (q.1, q.2)
    (fails_from c.in_err-body.field-0.0 _ _ (opened ∙ c.in_ok-members.ensures.reads k d)
    (c.in_err-body.ensures.reads (LetBody k (group c.in_ok-members.members.items)) d2))

pub let_in-returns-clause-reads : goal.let_in-returns-clause-reads
let_in-returns-clause-reads t c = λ k e.
    let opened = let_opens true k c.args.parser.now.rest.now c.advance.new.self.rest.now
    c.args.parser.now.depth c.args.at e (omega arith) c.requires.word c.requires.at
    c.advance.ensures.rest in
    let d : suc (nests k) ≡ c.advance.new.self.depth + 1 = omega arith in
    let d2 : nests (LetBody k (group c.in_ok-members.members.items)) ≡ c.group.new.parser.depth
    = d ∙ sym c.in_ok-members.ensures.depth in
    opened ∙ c.in_ok-members.ensures.reads k d ∙ c.in_ok-body.ensures.reads
    (LetBody k (group c.in_ok-members.members.items)) d2
    ∙ let_ends true at_most_200 k (group c.in_ok-members.members.items)
    (code.expr c.in_ok-body.body) c.expr.new.parser.rest.now
    ∙ ap (λ w. run true at_most_200 (Ended k (Let (group w) (code.expr c.in_ok-body.body)))
    c.expr.new.parser.rest.now) (sym c.from_vec.ensures)
    ∙ boxed_let true at_most_200 k c.from_vec.result c.in_ok-new.field-0 c.in_ok-body.body
    c.expr.new.parser.rest.now c.in_ok-new.ensures.ok

pub alts-returns-then-is_empty-clause-reads : goal.alts-returns-then-is_empty-clause-reads
alts-returns-then-is_empty-clause-reads t c = λ k e d.
    let ts = c.loop-alts.parser.rest.now in
    let f : c.peek.result.token ≡ word.CloseBrace = search rules in
    let n : vec_len c.loop-alts.alts ≡ 0 = eqb-true _ _
    (sym c.is_empty.ensures ∙ c.if-is_empty.true) in
    let g : c.loop-alts.alts.items ≡ [] = nil_from_length c.loop-alts.alts.items
    (omega (arith, n, c.loop-alts.alts.ok.0)) in
    fails_from c.refusal.result _ _
    (c.loop-alts.invariant.reads k e d ∙ ap
    (λ w. run true at_most_200 (AltStart k e (alternatives w)) ts) g)
    (refuses_seen true at_most_200 (AltStart k e NoAlts) ts c.peek.result word.CloseBrace
    c.refusal.result c.peek.ensures f c.refusal.ensures (λ at. refl))

pub alts-returns-then-eq-clause-reads : goal.alts-returns-then-eq-clause-reads
alts-returns-then-eq-clause-reads t c = λ k e d.
    let items = c.loop-alts.alts.items in
    let f : c.peek.result.token ≡ word.CloseBrace = search rules in
    let g : items ≡ [] → ⊥ = search rules in
    c.loop-alts.invariant.reads k e d
    ∙ takes true at_most_200 (AltStart k e (alternatives items))
    (Ended k (Case e (alternatives items))) c.loop-alts.parser.rest.now c.peek.result
    word.CloseBrace c.advance.new.self.rest.now c.peek.ensures f c.advance.ensures.rest
    (some_alts true at_most_200 items g k e c.peek.result.at)

pub alts-returns-in-CloseBrace-clause-reads : goal.alts-returns-in-CloseBrace-clause-reads
alts-returns-in-CloseBrace-clause-reads t c = λ k e d.
    let items = c.loop-alts.alts.items in
    let so_far = c.loop-alts.invariant.reads k e d ∙ c.in_ok-pattern.ensures.reads k e
    (alternatives items) in
    let inner = AltBody k e (alternatives items) c.in_ok-pattern.pattern in
    let d2 : nests inner ≡ c.pattern.new.parser.depth
    = d ∙ sym c.loop-alts.invariant.depth ∙ sym c.pattern.ensures.depth in
    let ended = so_far ∙ c.in_ok-body.ensures.reads inner d2 in
    ended
    ∙ takes true at_most_200 (Ended inner (code.expr c.in_ok-body.body))
    (Ended k (Case e
    (alternatives items ⊹ AndAlt c.in_ok-pattern.pattern (code.expr c.in_ok-body.body) NoAlts)))
    c.expr.new.parser.rest.now c.peek-in-loop-alts.result word.CloseBrace
    c.advance-in-CloseBrace.new.self.rest.now c.peek-in-loop-alts.ensures c.in-CloseBrace.is
    c.advance-in-CloseBrace.ensures.rest refl
    ∙ ap (λ w. run true at_most_200 (Ended k (Case e w)) c.advance-in-CloseBrace.new.self.rest.now)
    (sym (alts_last items c.in_ok-pattern.pattern c.in_ok-body.body) ∙ ap alternatives
    (sym c.in_ok-push.ensures.items))

pub alts-loop-alts-preserved : goal.alts-loop-alts-preserved
alts-loop-alts-preserved t c = record {
  reads = λ k e d.
      let items = c.loop-alts.alts.items in
      let so_far = c.loop-alts.invariant.reads k e d ∙ c.in_ok-pattern.ensures.reads k e
      (alternatives items) in
      let inner = AltBody k e (alternatives items) c.in_ok-pattern.pattern in
      let d2 : nests inner ≡ c.pattern.new.parser.depth
      = d ∙ sym c.loop-alts.invariant.depth ∙ sym c.pattern.ensures.depth in
      let ended = so_far ∙ c.in_ok-body.ensures.reads inner d2 in
      ended
      ∙ takes true at_most_200 (Ended inner (code.expr c.in_ok-body.body))
      (AltStart k e
      (alternatives items ⊹ AndAlt c.in_ok-pattern.pattern (code.expr c.in_ok-body.body)
      NoAlts)) c.expr.new.parser.rest.now c.peek-in-loop-alts.result word.Semicolon
      c.advance-in-Semicolon.new.self.rest.now c.peek-in-loop-alts.ensures c.in-Semicolon.is
      c.advance-in-Semicolon.ensures.rest refl
      ∙ ap (λ w. run true at_most_200 (AltStart k e w) c.advance-in-Semicolon.new.self.rest.now)
      (sym (alts_last items c.in_ok-pattern.pattern c.in_ok-body.body) ∙ ap alternatives
      (sym c.in_ok-push.ensures.items));
  shorter = nearer_alts _ _ _ _ _ _ (ap length c.advance-in-Semicolon.ensures.rest)
      (behind_shorter c.expr.new.parser.rest.now) c.in_ok-body.ensures.shorter
      c.in_ok-pattern.ensures.shorter c.loop-alts.invariant.shorter;
  depth = c.advance-in-Semicolon.ensures.depth ∙ c.in_ok-body.ensures.depth ∙
      c.pattern.ensures.depth ∙ c.loop-alts.invariant.depth;
}

pub alts-returns-in_default : goal.alts-returns-in_default
alts-returns-in_default t c = record {
  reads = λ k e d.
      let items = c.loop-alts.alts.items in
      let so_far = c.loop-alts.invariant.reads k e d ∙ c.in_ok-pattern.ensures.reads k e
      (alternatives items) in
      let inner = AltBody k e (alternatives items) c.in_ok-pattern.pattern in
      let d2 : nests inner ≡ c.pattern.new.parser.depth
      = d ∙ sym c.loop-alts.invariant.depth ∙ sym c.pattern.ensures.depth in
      let ended = so_far ∙ c.in_ok-body.ensures.reads inner d2 in
      let ts = c.expr.new.parser.rest.now in
      let seen : c.peek-in-loop-alts.result.token ≡ (front ts).token
      = ap (λ y. y.token) c.peek-in-loop-alts.ensures in
      fails_from c.refusal-in_default.result _ _ ended
      (refuses true at_most_200 (Ended inner (code.expr c.in_ok-body.body)) ts
      c.refusal-in_default.result c.refusal-in_default.ensures
      (no_alt_end true at_most_200 k e (alternatives items) c.in_ok-pattern.pattern
      (code.expr c.in_ok-body.body) (front ts).at (front ts).token
      (λ h. c.in_default.not-CloseBrace (seen ∙ h))
      (λ h. c.in_default.not-Semicolon (seen ∙ h))));
  shorter = tt;
  depth = tt;
}

pub case_of-returns-then-parser-ge-MOST_OPEN-clause-reads
    : goal.case_of-returns-then-parser-ge-MOST_OPEN-clause-reads
case_of-returns-then-parser-ge-MOST_OPEN-clause-reads t c = λ k e.
    halts true at_most_200 (Apply (InBody k) NoTerms) c.args.parser.now.rest.now
    (front c.args.parser.now.rest.now) _ _ refl c.requires.word
    (rw c.requires.at (case_deep true k c.args.parser.now.depth c.args.at e (omega arith)))

pub case_of-returns-in_err-scrutinee-clause-reads :
    goal.case_of-returns-in_err-scrutinee-clause-reads
case_of-returns-in_err-scrutinee-clause-reads t c = λ k e.
    let q = err_from_is_err_and c.from_residual.result c.from_residual.ensures.1 in
    let opened = case_opens true k c.args.parser.now.rest.now c.advance.new.self.rest.now
    c.args.parser.now.depth c.args.at e (omega arith) c.requires.word c.requires.at
    c.advance.ensures.rest in
    let d : nests (Scrutinee k) ≡ c.advance.new.self.depth + 1 = omega arith in
    rw (q.1, q.2)
    (fails_from c.in_err-scrutinee.field-0.0 _ _ opened
    (c.in_err-scrutinee.ensures.reads (Scrutinee k) d))

pub case_of-returns-in_err-take-clause-reads : goal.case_of-returns-in_err-take-clause-reads
case_of-returns-in_err-take-clause-reads t c = λ k e.
    let q = err_from_is_err_and c.from_residual-in_err-take.result
    c.from_residual-in_err-take.ensures.1 in
    let opened = case_opens true k c.args.parser.now.rest.now c.advance.new.self.rest.now
    c.args.parser.now.depth c.args.at e (omega arith) c.requires.word c.requires.at
    c.advance.ensures.rest in
    let d : nests (Scrutinee k) ≡ c.advance.new.self.depth + 1 = omega arith in
    let s = code.expr c.in_ok-scrutinee.scrutinee in
    let scrutinised = opened ∙ c.in_ok-scrutinee.ensures.reads (Scrutinee k) d in
    let ts2 = c.expr.new.parser.rest.now in
    rw (q.1, q.2) (fails_from c.in_err-take.field-0.0 _ _ scrutinised
    (refuses true at_most_200 (Ended (Scrutinee k) s) ts2 c.in_err-take.field-0.0
    c.in_err-take.ensures.takes.1
    (no_of true at_most_200 k s (front ts2).at (front ts2).token
    c.in_err-take.ensures.takes.0)))

pub case_of-returns-in_err-take-2-clause-reads : goal.case_of-returns-in_err-take-2-clause-reads
case_of-returns-in_err-take-2-clause-reads t c = λ k e.
    let q = err_from_is_err_and c.from_residual-in_err-take-2.result
    c.from_residual-in_err-take-2.ensures.1 in
    let opened = case_opens true k c.args.parser.now.rest.now c.advance.new.self.rest.now
    c.args.parser.now.depth c.args.at e (omega arith) c.requires.word c.requires.at
    c.advance.ensures.rest in
    let d : nests (Scrutinee k) ≡ c.advance.new.self.depth + 1 = omega arith in
    let s = code.expr c.in_ok-scrutinee.scrutinee in
    let scrutinised = opened ∙ c.in_ok-scrutinee.ensures.reads (Scrutinee k) d in
    let ts2 = c.expr.new.parser.rest.now in
    let ts3 = c.take.new.self.rest.now in
    let of = takes true at_most_200 (Ended (Scrutinee k) s) (Brace k s) ts2 (front ts2) word.Of ts3
    refl c.in_ok-take.ensures.takes.0 c.in_ok-take.ensures.takes.1 refl in
    rw (q.1, q.2) (fails_from c.in_err-take-2.field-0.0 _ _ (scrutinised ∙ of)
    (refuses true at_most_200 (Brace k s) ts3 c.in_err-take-2.field-0.0
    c.in_err-take-2.ensures.takes.1
    (no_brace true at_most_200 k s (front ts3).at (front ts3).token
    c.in_err-take-2.ensures.takes.0)))

pub case_of-returns-in_err-alts-clause-reads : goal.case_of-returns-in_err-alts-clause-reads
case_of-returns-in_err-alts-clause-reads t c = λ k e.
    let q = err_from_is_err_and c.from_residual-in_err-alts.result
    c.from_residual-in_err-alts.ensures.1 in
    let opened = case_opens true k c.args.parser.now.rest.now c.advance.new.self.rest.now
    c.args.parser.now.depth c.args.at e (omega arith) c.requires.word c.requires.at
    c.advance.ensures.rest in
    let d : nests (Scrutinee k) ≡ c.advance.new.self.depth + 1 = omega arith in
    let s = code.expr c.in_ok-scrutinee.scrutinee in
    let scrutinised = opened ∙ c.in_ok-scrutinee.ensures.reads (Scrutinee k) d in
    let ts2 = c.expr.new.parser.rest.now in
    let ts3 = c.take.new.self.rest.now in
    let of = takes true at_most_200 (Ended (Scrutinee k) s) (Brace k s) ts2 (front ts2) word.Of ts3
    refl c.in_ok-take.ensures.takes.0 c.in_ok-take.ensures.takes.1 refl in
    let ts4 = c.take-2.new.self.rest.now in
    let brace = takes true at_most_200 (Brace k s) (AltStart k s NoAlts) ts3 (front ts3)
    word.OpenBrace ts4 refl c.in_ok-take-2.ensures.takes.0 c.in_ok-take-2.ensures.takes.1 refl
    in
    let d2 : suc (nests k) ≡ c.take-2.new.self.depth
    = d ∙ sym c.in_ok-scrutinee.ensures.depth ∙ sym c.take.ensures.depth ∙ sym
    c.take-2.ensures.depth in
    rw (q.1, q.2)
    (fails_from c.in_err-alts.field-0.0 _ _ (scrutinised ∙ of ∙ brace)
    (c.in_err-alts.ensures.reads k s d2))

pub case_of-returns-clause-reads : goal.case_of-returns-clause-reads
case_of-returns-clause-reads t c = λ k e.
    let opened = case_opens true k c.args.parser.now.rest.now c.advance.new.self.rest.now
    c.args.parser.now.depth c.args.at e (omega arith) c.requires.word c.requires.at
    c.advance.ensures.rest in
    let d : nests (Scrutinee k) ≡ c.advance.new.self.depth + 1 = omega arith in
    let s = code.expr c.in_ok-scrutinee.scrutinee in
    let scrutinised = opened ∙ c.in_ok-scrutinee.ensures.reads (Scrutinee k) d in
    let ts2 = c.expr.new.parser.rest.now in
    let ts3 = c.take.new.self.rest.now in
    let of = takes true at_most_200 (Ended (Scrutinee k) s) (Brace k s) ts2 (front ts2) word.Of ts3
    refl c.in_ok-take.ensures.takes.0 c.in_ok-take.ensures.takes.1 refl in
    let ts4 = c.take-2.new.self.rest.now in
    let brace = takes true at_most_200 (Brace k s) (AltStart k s NoAlts) ts3 (front ts3)
    word.OpenBrace ts4 refl c.in_ok-take-2.ensures.takes.0 c.in_ok-take-2.ensures.takes.1 refl
    in
    let d2 : suc (nests k) ≡ c.take-2.new.self.depth
    = d ∙ sym c.in_ok-scrutinee.ensures.depth ∙ sym c.take.ensures.depth ∙ sym
    c.take-2.ensures.depth in
    scrutinised ∙ of ∙ brace ∙ c.in_ok-alts.ensures.reads k s d2
    ∙ ap (λ w. run true at_most_200 (Ended k (Case s (alternatives w))) c.alts.new.parser.rest.now)
    (sym c.from_vec.ensures)
    ∙ boxed_case true at_most_200 k c.in_ok-new.field-0 c.in_ok-scrutinee.scrutinee
    c.from_vec.result c.alts.new.parser.rest.now c.in_ok-new.ensures.ok
