use Rattle.std.proofs.Common.{rules, true, false, ◌∙◌, ap, refl, arith}
use Rattle.std.proofs.lemmas.Int.{to_z-of_z, ints}
use Rattle.std.specs.Prelude.{pos, ◌<ℤ◌, ◌≤ℤ◌}
use mir.Val.{SFits}
use mir.Syntax.{w32}
use Rattle.core_reader.specs.Machine.{front}
use Rattle.core_reader.specs.AroundOf.{Outside}
use Rattle.match_compile.specs.Reading.{Count}
use Rattle.core_reader.specs.declared.token.Token.TheVariants as word
use Rattle.match_compile.proofs.Taken.{takes, halts, refuses, no_count, minus_count, below_count, good_count, refuses_seen}
use Rattle.match_compile.proofs.reader.count.Goals as goal

pub returns-then-minus-clause-reads : goal.returns-then-minus-clause-reads
returns-then-minus-clause-reads c = λ ds n p.
    refuses_seen (Outside (Count ds n p)) c.args.parser.now.rest.now c.peek-next.result
    (word.Number true c.in-Number.value) _ c.peek-next.ensures
    (c.in-Number.is ∙ ap (λ m. word.Number m c.in-Number.value) c.if-minus.true)
    c.refusal.ensures (λ at. minus_count ds n p at c.in-Number.value)

pub returns-then-value-lt0-clause-reads : goal.returns-then-value-lt0-clause-reads
returns-then-value-lt0-clause-reads c = λ ds n p.
    let f : SFits w32 c.in-Number.value = search rules in
    let below : c.in-Number.value <ℤ pos 0 = omega (arith, ints) in
    refuses_seen (Outside (Count ds n p)) c.args.parser.now.rest.now c.peek-next.result
    (word.Number false c.in-Number.value) _ c.peek-next.ensures
    (c.in-Number.is ∙ ap (λ m. word.Number m c.in-Number.value) c.if-minus.false)
    c.refusal-then-value-lt0.ensures (λ at. below_count ds n p at c.in-Number.value below)

pub returns-then-minus-2-clause-reads : goal.returns-then-minus-2-clause-reads
returns-then-minus-2-clause-reads c = λ ds n p.
    refuses_seen (Outside (Count ds n p)) c.args.parser.now.rest.now c.peek-next.result
    (word.Large true) _ c.peek-next.ensures (c.in-Large.is ∙ ap word.Large c.if-minus-2.true)
    c.refusal-then-minus-2.ensures (λ at. refl)

pub returns-else-value-lt0-clause-reads : goal.returns-else-value-lt0-clause-reads
returns-else-value-lt0-clause-reads c = λ ds n p.
    let f : SFits w32 c.in-Number.value = search rules in
    let above : pos 0 ≤ℤ c.in-Number.value = omega (arith, ints) in
    rw (to_z-of_z w32 c.in-Number.value f)
    (takes (Outside (Count ds n p)) _ c.args.parser.now.rest.now c.peek-next.result
    (word.Number false c.in-Number.value) _ c.peek-next.ensures
    (c.in-Number.is ∙ ap (λ m. word.Number m c.in-Number.value) c.if-minus.false)
    c.advance.ensures.rest (good_count ds n p c.peek-next.result.at c.in-Number.value above))

pub returns-else-minus-2-clause-reads : goal.returns-else-minus-2-clause-reads
returns-else-minus-2-clause-reads c = λ ds n p.
    halts (Outside (Count ds n p)) c.args.parser.now.rest.now c.peek-next.result (word.Large false)
    _ c.peek-next.ensures (c.in-Large.is ∙ ap word.Large c.if-minus-2.false) refl

pub returns-in_default : goal.returns-in_default
returns-in_default c = record {
  reads = λ ds n p.
      let ts = c.args.parser.now.rest.now in
      refuses (Outside (Count ds n p)) ts c.refusal-in_default.result c.refusal-in_default.ensures
      (no_count ds n p (front ts).at (front ts).token
      (λ m v e. c.in_default.not-Number m v (ap (λ y. y.token) c.peek-next.ensures ∙ e))
      (λ m e. c.in_default.not-Large m (ap (λ y. y.token) c.peek-next.ensures ∙ e)));
  depth = refl;
  shorter = tt;
}
