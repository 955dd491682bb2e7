use Rattle.std.proofs.Common.{◌∙◌, refl, subst, le_refl, arith}
use Rattle.std.proofs.lemmas.Result.{err_from_is_err_and}
use Rattle.grin_io.proofs.Changes.{told, took_one, broke_off_one}
use Rattle.rv32_machine.specs.declared.machine.Stop.TheVariants.{Exit as Exit', Trap as Trap'}
use Rattle.rv32_machine.specs.Steps.{state_of}
use Rattle.rv32_machine.specs.Plain.{RunsUpToEvent}
use Rattle.rv32_machine.proofs.OneStep.{exit_piece_is, trap_piece_is, wrote, write_runs, write_turns, exit_turns, trap_turns}
use Rattle.rv32_machine.proofs.Advanced.{begins, all_plain, counted_all, counted_end, ends_all, goes_further, reads_on, read_breaks, put_breaks}
use Rattle.rv32_machine.proofs.machine.Machine.run_counted.Goals.{in-Read+in_ok-take_byte-in-Read, in-Write+in_ok-put_bytes-in-Write}
use Rattle.rv32_machine.proofs.machine.Machine.run_counted.Goals as goal

pub loop-left-init : goal.loop-left-init
loop-left-init g c = record {
  within = le_refl _;
  running = c.requires;
  kept = begins g.I.Source.read_gives g.I.Source.left g.I.Source.is_over g.I.Source.faults
      g.K.Sink.put_gives g.K.Sink.taken g.K.Sink.faults (state_of c.args.self.now) c.args.input.now
      c.args.out.now c.args.steps c.args.self.now refl c.requires.0 c.requires.1;
  input_later = le_refl _;
  out_later = le_refl _;
}

pub returns-in-Next-clause-counted : goal.returns-in-Next-clause-counted
returns-in-Next-clause-counted g c =
    let a = subst
    (λ t. RunsUpToEvent c.loop-left.left c.loop-left.self c.advance-plain.result.0 t
    c.advance-plain.new.self) c.in-Next.is c.advance-plain.ensures in
    counted_all g.I.Source.read_gives g.I.Source.left g.I.Source.is_over g.I.Source.faults
    g.K.Sink.put_gives g.K.Sink.taken g.K.Sink.faults (state_of c.args.self.now)
    c.args.input.now c.args.out.now c.args.steps c.advance-plain.new.self c.loop-left.input
    c.loop-left.out
    (all_plain g.I.Source.read_gives g.I.Source.left g.I.Source.is_over g.I.Source.faults
    g.K.Sink.put_gives g.K.Sink.taken g.K.Sink.faults (state_of c.args.self.now)
    c.args.input.now c.args.out.now c.args.steps c.loop-left.left c.loop-left.invariant.within
    c.loop-left.self c.advance-plain.new.self c.loop-left.input c.loop-left.out
    c.loop-left.invariant.kept c.advance-plain.result.0 a)

pub returns-clause-counted : goal.returns-clause-counted
returns-clause-counted g c =
    counted_end g.I.Source.read_gives g.I.Source.left g.I.Source.is_over g.I.Source.faults
    g.K.Sink.put_gives g.K.Sink.taken g.K.Sink.faults (state_of c.args.self.now)
    c.args.input.now c.args.out.now c.args.steps c.loop-left.left
    (omega (arith, c.loop-left-test.false)) c.loop-left.self c.loop-left.input c.loop-left.out
    c.loop-left.invariant.kept

pub returns-in_err-take_byte-in-Read-clause-interrupted
    : goal.returns-in_err-take_byte-in-Read-clause-interrupted
returns-in_err-take_byte-in-Read-clause-interrupted g c =
    let a = subst
    (λ t. RunsUpToEvent c.loop-left.left c.loop-left.self c.advance-plain.result.0 t
    c.advance-plain.new.self) c.in-Read.is c.advance-plain.ensures in
    let p = err_from_is_err_and c.from_residual.result c.from_residual.ensures.1 in
    let e = c.in_err-take_byte-in-Read.ensures in
    rw (p.1, p.2)
    (read_breaks g.I.Source.read_gives g.I.Source.left g.I.Source.is_over g.I.Source.faults
    g.K.Sink.put_gives g.K.Sink.taken g.K.Sink.faults (state_of c.args.self.now)
    c.args.input.now c.args.out.now c.args.steps c.loop-left.left c.loop-left.invariant.within
    c.loop-left.self c.advance-plain.new.self c.loop-left.input c.loop-left.out
    c.loop-left.invariant.kept c.advance-plain.result.0 _ a _ e.fault _ a.1.tells
    c.loop-left.invariant.out_later _ e.refused)

pub returns-in_err-put_bytes-in-Write-clause-interrupted
    : goal.returns-in_err-put_bytes-in-Write-clause-interrupted
returns-in_err-put_bytes-in-Write-clause-interrupted g c =
    let a = subst
    (λ t. RunsUpToEvent c.loop-left.left c.loop-left.self c.advance-plain.result.0 t
    c.advance-plain.new.self) c.in-Write.is c.advance-plain.ensures in
    let p = err_from_is_err_and c.from_residual-in_err-put_bytes-in-Write.result
    c.from_residual-in_err-put_bytes-in-Write.ensures.1 in
    let w = wrote _ _ _ _ a.1.tells in
    let e = c.in_err-put_bytes-in-Write.ensures in
    rw (p.1, p.2)
    (put_breaks g.I.Source.read_gives g.I.Source.left g.I.Source.is_over g.I.Source.faults
    g.K.Sink.put_gives g.K.Sink.taken g.K.Sink.faults (state_of c.args.self.now)
    c.args.input.now c.args.out.now c.args.steps c.loop-left.left c.loop-left.invariant.within
    c.loop-left.self c.advance-plain.new.self c.loop-left.input c.loop-left.out
    c.loop-left.invariant.kept c.advance-plain.result.0 _ a _ e.fault _
    c.loop-left.invariant.out_later
    (broke_off_one _ _ _ _ _ w.0 _ w.1.1 (told _ _ (e.content w.0 w.1.0)) (e.exactly w.0 w.1.0)
    e.cause.failed))

pub returns-in-Exit-clause-counted : goal.returns-in-Exit-clause-counted
returns-in-Exit-clause-counted g c =
    let a = subst
    (λ t. RunsUpToEvent c.loop-left.left c.loop-left.self c.advance-plain.result.0 t
    c.advance-plain.new.self) c.in-Exit.is c.advance-plain.ensures in
    ends_all g.I.Source.read_gives g.I.Source.left g.I.Source.is_over g.I.Source.faults
    g.K.Sink.put_gives g.K.Sink.taken g.K.Sink.faults (state_of c.args.self.now)
    c.args.input.now c.args.out.now c.args.steps c.loop-left.left c.loop-left.invariant.within
    c.loop-left.self c.advance-plain.new.self c.loop-left.input c.loop-left.out
    c.loop-left.invariant.kept c.advance-plain.result.0 _ a (Exit' c.in-Exit.code) (λ h. cc)
    (λ ended. exit_turns _ _ _ ended a.1.tells) (exit_piece_is _ _ _ a.1.tells) _ refl

pub returns-in-Trap-clause-counted : goal.returns-in-Trap-clause-counted
returns-in-Trap-clause-counted g c =
    let a = subst
    (λ t. RunsUpToEvent c.loop-left.left c.loop-left.self c.advance-plain.result.0 t
    c.advance-plain.new.self) c.in-Trap.is c.advance-plain.ensures in
    ends_all g.I.Source.read_gives g.I.Source.left g.I.Source.is_over g.I.Source.faults
    g.K.Sink.put_gives g.K.Sink.taken g.K.Sink.faults (state_of c.args.self.now)
    c.args.input.now c.args.out.now c.args.steps c.loop-left.left c.loop-left.invariant.within
    c.loop-left.self c.advance-plain.new.self c.loop-left.input c.loop-left.out
    c.loop-left.invariant.kept c.advance-plain.result.0 _ a (Trap' c.in-Trap.kind c.in-Trap.pc)
    (λ h. cc) (λ ended. trap_turns _ _ _ _ ended a.1.tells) (trap_piece_is _ _ _ _ a.1.tells) _
    refl

pub loop-left-preserved : goal.loop-left-preserved
loop-left-preserved g c = elim c.match-told.branch [
  | in-Read+in_ok-take_byte-in-Read w ↦
      let a = subst
      (λ t. RunsUpToEvent c.loop-left.left c.loop-left.self c.advance-plain.result.0 t
      c.advance-plain.new.self) w.in-Read.is c.advance-plain.ensures in
      let inv = c.loop-left.invariant in
      rw (w.self-is, w.input-is, w.out-is) (record {
        within = omega (arith, inv.within);
        running = w.in_ok-take_byte-in-Read.ensures.running;
        kept = reads_on g.I.Source.read_gives g.I.Source.left g.I.Source.is_over g.I.Source.faults
            g.K.Sink.put_gives g.K.Sink.taken g.K.Sink.faults (state_of c.args.self.now)
            c.args.input.now c.args.out.now c.args.steps c.loop-left.left
            c.loop-left.invariant.within c.loop-left.self c.advance-plain.new.self c.loop-left.input
            c.loop-left.out c.loop-left.invariant.kept c.advance-plain.result.0 _ a _ a.1.tells
            w.take_byte.new.self _ w.in_ok-take_byte-in-Read.ensures.given;
        input_later = omega (arith, inv.input_later, w.in_ok-take_byte-in-Read.ensures.cause.later);
        out_later = inv.out_later;
      })
  | in-Write+in_ok-put_bytes-in-Write w ↦
      let a = subst
      (λ t. RunsUpToEvent c.loop-left.left c.loop-left.self c.advance-plain.result.0 t
      c.advance-plain.new.self) w.in-Write.is c.advance-plain.ensures in
      let inv = c.loop-left.invariant in
      let h = wrote _ _ _ _ a.1.tells in
      let p = w.in_ok-put_bytes-in-Write.ensures in
      rw (w.self-is ∙ p.done, w.input-is, w.out-is) (record {
        within = omega (arith, inv.within);
        running = write_runs _ _ _ _ a.1.tells;
        kept = goes_further g.I.Source.read_gives g.I.Source.left g.I.Source.is_over
            g.I.Source.faults g.K.Sink.put_gives g.K.Sink.taken g.K.Sink.faults
            (state_of c.args.self.now) c.args.input.now c.args.out.now c.args.steps c.loop-left.left
            c.loop-left.invariant.within c.loop-left.self c.advance-plain.new.self c.loop-left.input
            c.loop-left.out c.loop-left.invariant.kept c.advance-plain.result.0 _ a _
            (λ ended. write_turns _ _ _ _ ended a.1.tells)
            (took_one _ _ _ _ _ h.0 _ h.1.1 (told _ _ (p.content h.0 h.1.0)) (p.exactly h.0 h.1.0));
        input_later = inv.input_later;
        out_later = omega (arith, inv.out_later, p.cause.later);
      })
]
