use Rattle.std.proofs.Common.{length, take, map, refl, sym, subst}
use Rattle.std.proofs.lemmas.Option.{slice_get_read}
use Rattle.register_alloc.proofs.Tables.{gathered_more, mapped_more, take_whole}
use Rattle.register_alloc.specs.Gathered.{IsGathered}
use Rattle.low_code.specs.Tree.{procedure_of}
use Rattle.register_alloc.proofs.assign.gather.Goals as goal

pub loop-proc-init : goal.loop-proc-init
loop-proc-init c = c.new-all.ensures

pub loop-proc-preserved : goal.loop-proc-preserved
loop-proc-preserved c =
    let there = slice_get_read c.args.procs.now (length c.args.procs.now) c.loop-proc.proc-index
    c.proc-item.result refl c.loop-proc-test.true c.proc-item.is in
    subst (IsGathered c.add.new.self)
    (sym (mapped_more procedure_of c.args.procs.now c.loop-proc.proc-index c.proc-item.result
    there))
    (gathered_more c.loop-proc.all c.add.new.self
    (map procedure_of (take c.loop-proc.proc-index c.args.procs.now))
    (procedure_of c.proc-item.result) c.loop-proc.invariant c.in_ok-add.ensures)

pub returns : goal.returns
returns c = subst (λ ps. IsGathered c.loop-proc.all (map procedure_of ps))
    (take_whole c.args.procs.now c.loop-proc.proc-index c.loop-proc-test.false)
    c.loop-proc.invariant
