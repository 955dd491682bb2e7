use Rattle.std.proofs.Common.{◌≡◌, ◌∷◌, [], length, suc, ap, ◌∙◌, ◌-◌, true, false, refl, arith}
use Rattle.rv32_machine.specs.Steps.{state_of, start_of}
use Rattle.rv32_steps.specs.Trace.{trace}
use Rattle.image_trace.specs.Places.{times_noted}
use Rattle.image_trace.proofs.Counted.{few_places, few_noted, nothing_left, one_noted, step_place, no_more_places}
use Rattle.image_trace.proofs.places.places_of.Goals as goal

pub note-requires-clause-few : goal.note-requires-clause-few
note-requires-clause-few c =
    let inv = c.loop-left.invariant in
    let few = few_noted (trace 1000000000 [] (start_of c.args.program.now))
    (times_noted c.loop-left.places) _ inv.noted
    (few_places 1000000000 [] (start_of c.args.program.now)) c.pc.result in
    omega (arith, few)

pub note-requires-clause-all : goal.note-requires-clause-all
note-requires-clause-all c =
    let all = c.loop-left.invariant.all in
    let few = few_places 1000000000 [] (start_of c.args.program.now) in
    omega (arith, all, few)

pub returns-then-not-goes_on-clause-noted : goal.returns-then-not-goes_on-clause-noted
returns-then-not-goes_on-clause-noted c a =
    let s = state_of c.loop-left.machine in
    let inv = c.loop-left.invariant in
    let place : trace c.loop-left.left [] s ≡ c.pc.result ∷ []
    = step_place c.loop-left.left s s false c.loop-left-test.true c.if-not-goes_on.ensures.states
    ∙ ap (λ p. p ∷ []) (rw c.pc.ensures refl) in
    let is = one_noted (trace 1000000000 [] (start_of c.args.program.now))
    (times_noted c.loop-left.places) (trace c.loop-left.left [] s) inv.noted c.pc.result []
    (times_noted c.note.new.self) place c.in_ok-note.ensures.noted a in
    omega (arith, is)

pub returns-then-not-goes_on-clause-all : goal.returns-then-not-goes_on-clause-all
returns-then-not-goes_on-clause-all c =
    let s = state_of c.loop-left.machine in
    let all = c.loop-left.invariant.all in
    let more = c.in_ok-note.ensures.more in
    let one : length (trace c.loop-left.left [] s) ≡ 1
    = ap length (step_place c.loop-left.left s s false c.loop-left-test.true
    c.if-not-goes_on.ensures.states) in
    omega (arith, all, more, one)

pub loop-left-preserved : goal.loop-left-preserved
loop-left-preserved c =
    let s = state_of c.loop-left.machine in
    let t = state_of c.goes_on.new.machine in
    let rest = trace (c.loop-left.left - 1) [] t in
    let inv = c.loop-left.invariant in
    let all = inv.all in
    let more = c.in_ok-note.ensures.more in
    let step : trace c.loop-left.left [] s ≡ s.pc ∷ rest
    = step_place c.loop-left.left s t true c.loop-left-test.true c.if-not-goes_on.ensures.states in
    let one : length (trace c.loop-left.left [] s) ≡ suc (length rest) = ap length step in
    let place : trace c.loop-left.left [] s ≡ c.pc.result ∷ rest
    = step ∙ ap (λ p. p ∷ rest) (rw c.pc.ensures refl) in
    record {
      running = c.if-not-goes_on.ensures.running refl;
      noted = one_noted (trace 1000000000 [] (start_of c.args.program.now))
          (times_noted c.loop-left.places) (trace c.loop-left.left [] s) inv.noted c.pc.result rest
          (times_noted c.note.new.self) place c.in_ok-note.ensures.noted;
      all = omega (arith, all, more, one);
    }

pub returns-clause-noted : goal.returns-clause-noted
returns-clause-noted c =
    let s = state_of c.loop-left.machine in
    nothing_left (trace 1000000000 [] (start_of c.args.program.now))
    (times_noted c.loop-left.places) (trace c.loop-left.left [] s) c.loop-left.invariant.noted
    (no_more_places c.loop-left.left s (omega (arith, c.loop-left-test.false)))

pub returns-clause-all : goal.returns-clause-all
returns-clause-all c =
    let s = state_of c.loop-left.machine in
    let all = c.loop-left.invariant.all in
    let none : length (trace c.loop-left.left [] s) ≡ 0
    = ap length (no_more_places c.loop-left.left s (omega (arith, c.loop-left-test.false))) in
    omega (arith, all, none)
