use Rattle.std.proofs.Common.{rules, ◌≡◌, get_or, ◌+◌, ◌*◌, IfOk, map, drop, subst, sym, ap, ◌∙◌, arith}
use Rattle.seq.proofs.Lists.{drop_next, drop_past}
use Rattle.arity_check.specs.declared.normal.Var.TheVariants.{Local}
use Rattle.arity_check.specs.Program.{program}
use Rattle.grin_syntax.specs.declared.program.Op.TheVariants.{Apply}
use Rattle.grin_syntax.specs.declared.program.Val.TheVariants.{NodeVar}
use Rattle.grin_syntax.specs.Tree.{act_of, before_of, code_of, all_before, leaf, eval}
use Rattle.grin_syntax.proofs.TreeOf.{act_of-Apply, act_of-Eval}
use Rattle.grin_translate.specs.Blocks.{word}
use Rattle.grin_translate.specs.Pieces.{given_to}
use Rattle.grin_translate.proofs.Pushed.{given_more, applied_same}
use Rattle.grin_translate.proofs.block.application.Goals as goal
use Rattle.grin_syntax.specs.Fresh.{variable}

pub loop-a-preserved : goal.loop-a-preserved
loop-a-preserved c =
    let p = program c.args.numbered.now.p.now in
    let base = c.args.variables.now.base in
    let here = c.in_ok-v.ensures.base ∙ c.loop-a.invariant.base in
    record {
      base = here;
      bound = omega (arith, c.in_ok-v.ensures.next, c.loop-a.invariant.bound);
      so_far =
          ap (λ k. all_before (map before_of c.push.new.self)
          (given_to p base k (act_of (Apply (NodeVar c.in_ok-v.v) c.in_ok-word-2.field-0))
          (map (word p base) (drop (c.loop-a.a-index + 1) c.args.xs.now))))
          c.in_ok-v.ensures.next
          ∙ given_more p base c.loop-a.stmts c.push.new.self c.loop-a.op
          (Apply (NodeVar c.in_ok-v.v) c.in_ok-word-2.field-0) c.in_ok-v.v
          c.loop-a.variables.bound c.in_ok-word-2.field-0 _
          (drop c.loop-a.a-index c.args.xs.now) (drop (c.loop-a.a-index + 1) c.args.xs.now)
          (search rules)
          (act_of-Apply (NodeVar c.in_ok-v.v) c.in_ok-word-2.field-0)
          (c.in_ok-v.ensures.is ∙ ap (λ b. variable (b + 2 * c.loop-a.variables.bound + 1))
          c.loop-a.invariant.base)
          (c.in_ok-word-2.ensures ∙ ap
          (λ b. word p b (get_or c.args.xs.now c.loop-a.a-index (Local 0))) here)
          (drop_next c.args.xs.now c.loop-a.a-index (Local 0) c.loop-a-test.true)
          ∙ c.loop-a.invariant.so_far;
    }

pub returns-clause-is : goal.returns-clause-is
returns-clause-is c =
    let p = program c.args.numbered.now.p.now in
    let base = c.args.variables.now.base in
    let t = c.args.variables.now.bound in
    subst (λ z. IfOk c.ended.result (λ b. code_of b ≡ z))
    (ap (λ ys. all_before (map before_of c.loop-a.stmts)
    (given_to p base c.loop-a.variables.bound (act_of c.loop-a.op) (map (word p base) ys)))
    (sym (drop_past c.args.xs.now c.loop-a.a-index (omega arith)))
    ∙ c.loop-a.invariant.so_far
    ∙ ap (all_before (map before_of c.args.before))
    ((λ z. given_to p base t
    ((act_of-Eval c.in_ok-word.field-0 ∙ ap (λ x. leaf (eval x)) c.in_ok-word.ensures) z)
    (map (word p base) c.args.xs.now)) ∙ applied_same p base t (word p base c.args.x)
    (map (word p base) c.args.xs.now)))
    c.ended.ensures
