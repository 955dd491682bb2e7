use Rattle.std.proofs.Common.{◌≡◌, ◌+◌, ◌++◌, map, drop}
use Rattle.arity_check.specs.Program.{program}
use Rattle.grin_syntax.specs.Tree.{procedure_of}
use Rattle.grin_translate.specs.Translation.{delayed_procs, spans}
use Rattle.grin_translate.proofs.lists.waiting_procedures.Given as goal

abbrev pub invariant-loop-delay : goal.invariant-loop-delay
invariant-loop-delay l = record {
  procs : map procedure_of l.made ++ delayed_procs (program l.numbered.p.now) l.base
      (drop l.delay-index l.waiting) ≡ delayed_procs (program l.numbered.p.now) l.initial.base
      l.waiting;
  base : l.base + spans (program l.numbered.p.now) (drop l.delay-index l.waiting) ≡ l.initial.base +
      spans (program l.numbered.p.now) l.waiting;
}
