use Rattle.std.proofs.Common.{rules, inl, inr}
use Rattle.low_translate.proofs.Operations.{unit_done, eval_done, apply_done, fail_done}
use Rattle.low_translate.proofs.blocks.LoweringPlan.plain_end.Goals as goal

pub returns-in_ok-given-in-Unit : goal.returns-in_ok-given-in-Unit
returns-in_ok-given-in-Unit c = unit_done c.args.self.now.width c.args.self.now.results.now
    c.args.numbers.now.next c.args.goal _ c.in-Unit.v _ _ _ c.in-Unit.is
    c.in_ok-words-in-Unit.ensures.is c.in_ok-words-in-Unit.ensures.ranged (search rules)

pub returns-in-Eval : goal.returns-in-Eval
returns-in-Eval c = elim c.in-Eval.is [
  | inl h ↦ eval_done c.args.self.now.width c.args.self.now.results.now c.args.numbers.now.next
      c.args.goal _ h.0 _ h.1
  | inr (inl h) ↦ apply_done c.args.self.now.width c.args.self.now.results.now
      c.args.numbers.now.next c.args.goal _ h.0 h.1 _ h.2
  | inr (inr h) ↦ fail_done c.args.self.now.width c.args.self.now.results.now
      c.args.numbers.now.next c.args.goal _ _ h
]
