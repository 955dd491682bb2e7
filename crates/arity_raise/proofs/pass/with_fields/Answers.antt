use Rattle.std.proofs.Common.{◌≡◌, ◌+◌, ◌<◌, length, map, get_or, rules, refl, sym, ap, ◌∙◌, arith}
use Rattle.std.proofs.lemmas.List.{length_push}
use Rattle.std.proofs.lemmas.Iterator.Adapters.{YieldsList-from_vec}
use Rattle.std.proofs.lemmas.Iterator.Consumers.{YieldsList-turn, YieldsList-end}
use Rattle.grin_syntax.specs.Tree.{procedure_of, program_of}
use Rattle.raise_theory.specs.Raising.{raised_procedure, raised_procs}
use Rattle.arity_raise.proofs.Rewritten.{no_procs, one_more_proc, procs_done}
use Rattle.arity_raise.proofs.pass.with_fields.Goals as goal
use Rattle.seq.proofs.Lists.{map_same}

pub loop-proc-init : goal.loop-proc-init
loop-proc-init c = record { counted = refl; some = rw c.new-procs.ensures (no_procs _ _) }

pub bounds-as_slice-f : goal.bounds-as_slice-f
bounds-as_slice-f c =
    let t = YieldsList-turn (YieldsList-from_vec c.args.g.procs (search rules) (search rules))
    c.loop-proc.yielded c.loop-proc.proc-iterator c.loop-proc.yielded_by _ c.next.new.self
    c.in-Some.proc c.in-Some.is c.next.ensures.steps in
    omega (arith, t.0, ap length c.as_slice.ensures, c.requires, c.loop-proc.invariant.counted)

pub loop-proc-preserved : goal.loop-proc-preserved
loop-proc-preserved c =
    let t = YieldsList-turn (YieldsList-from_vec c.args.g.procs (search rules) (search rules))
    c.loop-proc.yielded c.loop-proc.proc-iterator c.loop-proc.yielded_by _ c.next.new.self
    c.in-Some.proc c.in-Some.is c.next.ensures.steps in
    let D = c.args.plan.procs in
    let own = c.index-as_slice-f.result in
    let within : c.loop-proc.f < length D = omega
    (arith, t.0, c.requires, c.loop-proc.invariant.counted) in
    record {
      counted = ap (λ k. k + 1) c.loop-proc.invariant.counted ∙ sym
          (length_push c.loop-proc.yielded c.in-Some.proc);
      some = one_more_proc D c.args.plan.fresh.next c.loop-proc.f (c.loop-proc.f + 1)
          c.loop-proc.procs c.loop-proc.yielded c.push.new.self c.loop-proc.fresh.next
          c.raised_proc.new.fresh.next own c.in_ok-raised_proc.field-0 c.in-Some.proc
          within (c.index-as_slice-f.is ∙ ap (λ l. get_or l c.loop-proc.f own) c.as_slice.ensures)
          refl c.in_ok-push.ensures.ok
          (c.in_ok-raised_proc.ensures.is ∙ ap
          (λ ds. raised_procedure D c.loop-proc.fresh.next ds (procedure_of c.in-Some.proc))
          c.as_slice-own.ensures)
          c.in_ok-raised_proc.ensures.next c.loop-proc.invariant.some;
    }

pub returns : goal.returns
returns c =
    let all = YieldsList-end (YieldsList-from_vec c.args.g.procs (search rules) (search rules))
    c.loop-proc.yielded c.loop-proc.proc-iterator c.loop-proc.yielded_by _ c.next.new.self
    c.in-None.is c.next.ensures.steps in
    let e : c.loop-proc.yielded ≡ c.args.g.procs = sym (map_same c.loop-proc.yielded) ∙ all.0 in
    let D = c.args.plan.procs in
    let x = c.args.plan.fresh.next in
    let done : map procedure_of c.loop-proc.procs ≡ raised_procs D x D
    (map procedure_of c.args.g.procs) = procs_done D x c.loop-proc.f c.loop-proc.procs
    c.loop-proc.yielded c.loop-proc.fresh.next c.loop-proc.invariant.some ∙ ap
    (λ l. raised_procs D x D (map procedure_of l)) e in
    ap (λ ps. record (program_of c.args.g) { procs = ps }) done
