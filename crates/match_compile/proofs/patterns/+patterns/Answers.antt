use Rattle.std.proofs.Common.{rules, ◌≡◌, ◌<◌, ◌≤◌, ℕ, ◌+◌, map, ◌∙◌, ap, sym, refl, arith}
use Rattle.std.proofs.lemmas.Int.{to_z-of_z}
use Rattle.std.proofs.lemmas.Result.{err_from_is_err_and}
use mir.Val.{SFits}
use mir.Syntax.{w32}
use Rattle.core_reader.specs.AroundOf.{Outside}
use Rattle.core_reader.specs.Machine.{front}
use Rattle.core_reader.specs.declared.token.Token.TheVariants as word
use Rattle.match_compile.specs.Source.{Name, Int, Con, NoPats}
use Rattle.match_compile.specs.SourceOf.{pat_of, pats_of}
use Rattle.match_compile.specs.Reading.{binder, with_last, InBracket, opens, Matching, Opened, run}
use Rattle.match_compile.proofs.PatOf.{pat_of-Name, pat_of-Int, pat_of-Con}
use Rattle.match_compile.proofs.Taken.{takes, halts, refuses, fails_from, no_pattern_con, no_close, too_deep, opening, pushed}
use Rattle.match_compile.proofs.patterns.+patterns.Goals as goal

nearer : (a b c : ℕ) → a < b → b ≤ c → a ≤ c
nearer a b c h g = omega arith

pub patterns-loop-pats-preserved : goal.patterns-loop-pats-preserved
patterns-loop-pats-preserved t c = record {
  reads = λ b k e. c.loop-pats.invariant.reads b k e ∙ c.in_ok-pattern.ensures.reads b k _
      (e ∙ sym c.loop-pats.invariant.depth) ∙ pushed b k c.loop-pats.pats.items _ _ _
      c.in_ok-push.ensures.items;
  shorter = nearer _ _ _ c.in_ok-pattern.ensures.shorter c.loop-pats.invariant.shorter;
  depth = c.in_ok-pattern.ensures.depth ∙ c.loop-pats.invariant.depth;
}

pub pattern-returns-in-Name-clause-reads : goal.pattern-returns-in-Name-clause-reads
pattern-returns-in-Name-clause-reads t c = λ b k held e.
    let n = binder c.in-Name.name c.peek-next.result.at in
    takes (Outside (Matching b k held)) (Outside (Matching b k (with_last held (Name n))))
    c.args.parser.now.rest.now c.peek-next.result _ _ c.peek-next.ensures c.in-Name.is
    c.advance.ensures.rest refl
    ∙ ap (λ w. run (Outside (Matching b k (with_last held w))) c.advance.new.self.rest.now)
    (sym (pat_of-Name n))

pub pattern-returns-in-Con-clause-reads : goal.pattern-returns-in-Con-clause-reads
pattern-returns-in-Con-clause-reads t c = λ b k held e.
    let n = binder c.in-Con.name c.peek-next.result.at in
    takes (Outside (Matching b k held)) (Outside (Matching b k (with_last held (Con n NoPats))))
    c.args.parser.now.rest.now c.peek-next.result _ _ c.peek-next.ensures c.in-Con.is
    c.advance-in-Con.ensures.rest refl
    ∙ ap (λ w. run (Outside (Matching b k (with_last held w))) c.advance-in-Con.new.self.rest.now)
    (sym (pat_of-Con n c.new.result ∙ ap (λ v. Con n (pats_of (map pat_of v))) c.new.ensures))

pub pattern-returns-in-Number-clause-reads : goal.pattern-returns-in-Number-clause-reads
pattern-returns-in-Number-clause-reads t c = λ b k held e.
    let f : SFits w32 c.in-Number.value = search rules in
    rw (to_z-of_z w32 c.in-Number.value f)
    (takes (Outside (Matching b k held))
    (Outside (Matching b k (with_last held (Int c.in-Number.value c.peek-next.result.at))))
    c.args.parser.now.rest.now c.peek-next.result _ _ c.peek-next.ensures c.in-Number.is
    c.advance-in-Number.ensures.rest refl
    ∙ ap (λ w. run (Outside (Matching b k (with_last held w)))
    c.advance-in-Number.new.self.rest.now)
    (sym (pat_of-Int c.in-Number.value c.peek-next.result.at)))

pub pattern-returns-in-Large-clause-reads : goal.pattern-returns-in-Large-clause-reads
pattern-returns-in-Large-clause-reads t c = λ b k held e. halts (Outside (Matching b k held))
    c.args.parser.now.rest.now c.peek-next.result _ _ c.peek-next.ensures c.in-Large.is refl

pub bracket-returns-then-parser-ge-MOST_OPEN-clause-reads
    : goal.bracket-returns-then-parser-ge-MOST_OPEN-clause-reads
bracket-returns-then-parser-ge-MOST_OPEN-clause-reads t c
    = λ b k held e. halts (Outside (Matching b k held)) c.args.parser.now.rest.now
    (front c.args.parser.now.rest.now) _ _ refl c.requires.opens
    (rw c.requires.at (too_deep b k held c.args.parser.now.depth c.args.at e (omega arith)))

pub bracket-returns-in_err-fields-in-Con-clause-reads
    : goal.bracket-returns-in_err-fields-in-Con-clause-reads
bracket-returns-in_err-fields-in-Con-clause-reads t c = λ b k held e.
    let q = err_from_is_err_and c.from_residual.result c.from_residual.ensures.1 in
    let n = binder c.in-Con.name c.peek-next.result.at in
    let entered = opening b k held c.args.parser.now.rest.now c.advance.new.self.rest.now
    c.args.parser.now.depth c.args.at e (omega arith) c.requires.opens c.requires.at
    c.advance.ensures.rest in
    let named = takes (Outside (Opened b k held)) (Outside (Matching b (InBracket k held n) NoPats))
    c.advance.new.self.rest.now c.peek-next.result (word.Con c.in-Con.name)
    c.advance-in-Con.new.self.rest.now c.peek-next.ensures c.in-Con.is
    c.advance-in-Con.ensures.rest refl in
    let d : opens (InBracket k held n) ≡ c.advance-in-Con.new.self.depth + 1 = omega arith in
    rw (q.1, q.2)
    (fails_from c.in_err-fields-in-Con.field-0.0 _ _ (entered ∙ named)
    (c.in_err-fields-in-Con.ensures.reads b (InBracket k held n) d))

pub bracket-returns-in_err-take-in-Con-clause-reads
    : goal.bracket-returns-in_err-take-in-Con-clause-reads
bracket-returns-in_err-take-in-Con-clause-reads t c = λ b k held e.
    let q = err_from_is_err_and c.from_residual-in_err-take-in-Con.result
    c.from_residual-in_err-take-in-Con.ensures.1 in
    let n = binder c.in-Con.name c.peek-next.result.at in
    let entered = opening b k held c.args.parser.now.rest.now c.advance.new.self.rest.now
    c.args.parser.now.depth c.args.at e (omega arith) c.requires.opens c.requires.at
    c.advance.ensures.rest in
    let named = takes (Outside (Opened b k held)) (Outside (Matching b (InBracket k held n) NoPats))
    c.advance.new.self.rest.now c.peek-next.result (word.Con c.in-Con.name)
    c.advance-in-Con.new.self.rest.now c.peek-next.ensures c.in-Con.is
    c.advance-in-Con.ensures.rest refl in
    let d : opens (InBracket k held n) ≡ c.advance-in-Con.new.self.depth + 1 = omega arith in
    let fields = pats_of (map pat_of c.in_ok-fields-in-Con.fields.items) in
    let ts = c.patterns.new.parser.rest.now in
    rw (q.1, q.2)
    (fails_from c.in_err-take-in-Con.field-0.0 _ _
    (entered ∙ named ∙ c.in_ok-fields-in-Con.ensures.reads b (InBracket k held n) d)
    (refuses (Outside (Matching b (InBracket k held n) fields)) ts c.in_err-take-in-Con.field-0.0
    c.in_err-take-in-Con.ensures.takes.1
    (no_close b k held n fields (front ts).at (front ts).token
    c.in_ok-fields-in-Con.ensures.whole c.in_err-take-in-Con.ensures.takes.0)))

pub bracket-returns-in_ok-take-in-Con-clause-reads :
    goal.bracket-returns-in_ok-take-in-Con-clause-reads
bracket-returns-in_ok-take-in-Con-clause-reads t c = λ b k held e.
    let n = binder c.in-Con.name c.peek-next.result.at in
    let entered = opening b k held c.args.parser.now.rest.now c.advance.new.self.rest.now
    c.args.parser.now.depth c.args.at e (omega arith) c.requires.opens c.requires.at
    c.advance.ensures.rest in
    let named = takes (Outside (Opened b k held)) (Outside (Matching b (InBracket k held n) NoPats))
    c.advance.new.self.rest.now c.peek-next.result (word.Con c.in-Con.name)
    c.advance-in-Con.new.self.rest.now c.peek-next.ensures c.in-Con.is
    c.advance-in-Con.ensures.rest refl in
    let d : opens (InBracket k held n) ≡ c.advance-in-Con.new.self.depth + 1 = omega arith in
    let fields = pats_of (map pat_of c.in_ok-fields-in-Con.fields.items) in
    let ts = c.patterns.new.parser.rest.now in
    entered ∙ named ∙ c.in_ok-fields-in-Con.ensures.reads b (InBracket k held n) d
    ∙ takes (Outside (Matching b (InBracket k held n) fields))
    (Outside (Matching b k (with_last held (Con n fields)))) ts (front ts) word.Close _ refl
    c.in_ok-take-in-Con.ensures.takes.0 c.in_ok-take-in-Con.ensures.takes.1 refl
    ∙ ap (λ w. run (Outside (Matching b k (with_last held w))) c.take.new.self.rest.now)
    (sym (pat_of-Con n c.from_vec.result ∙ ap (λ v. Con n (pats_of (map pat_of v)))
    c.from_vec.ensures))

pub bracket-returns-in_default : goal.bracket-returns-in_default
bracket-returns-in_default t c = record {
  reads = λ b k held e.
      let entered = opening b k held c.args.parser.now.rest.now c.advance.new.self.rest.now
      c.args.parser.now.depth c.args.at e (omega arith) c.requires.opens c.requires.at
      c.advance.ensures.rest in
      let ts = c.advance.new.self.rest.now in
      fails_from c.refusal.result _ _ entered
      (refuses (Outside (Opened b k held)) ts c.refusal.result c.refusal.ensures
      (no_pattern_con b k held (front ts).at (front ts).token
      (λ n h. c.in_default.not-Con n (ap (λ y. y.token) c.peek-next.ensures ∙ h))));
  shorter = tt;
  depth = tt;
}
