use Rattle.std.proofs.Common.{rules, ◌≡◌, ◌+◌, IfOk, cond, map, subst, sym, ap, ◌∙◌, arith}
use Rattle.arity_check.specs.Program.{program, term, Let, Case, branch, branches_of, Branches}
use Rattle.grin_syntax.specs.Tree.{arm_of, before_of, code_of, all_before, arm, no_arm}
use Rattle.grin_translate.specs.Blocks.{block, arms, temps}
use Rattle.grin_translate.proofs.TermOf.{term-Let, term-Case}
use Rattle.grin_translate.proofs.Pushed.{at_item, let_made, case_made, con_made, int_made, any_made, name_made, last_made, more_made, all_made, more_temps}
use Rattle.grin_translate.proofs.block.+blocks.Goals as goal

pub alternative-returns-in_ok-body-in-Con-clause-is
    : goal.alternative-returns-in_ok-body-in-Con-clause-is
alternative-returns-in_ok-body-in-Con-clause-is t c =
    let p = program c.args.numbered.now.p.now in
    let base = c.args.variables.now.base in
    let t0 = c.args.variables.now.bound in
    con_made p base t0 c.block.new.variables.bound c.args.v c.args.each.now c.alternative_of.result
    (code_of c.in_ok-body-in-Con.body) c.in-Con.c c.in-Con.fields c.in-Con.inner c.tag.result
    c.in_ok-bound-in-Con.bound
    c.in-Con.is
    c.alternative_of.ensures
    c.tag.ensures
    (search rules)
    (c.in_ok-body-in-Con.ensures.is ∙ ap
    (λ ss. all_before (map before_of ss) (block p base t0 (term c.in-Con.inner)))
    c.new-none.ensures)
    c.in_ok-body-in-Con.ensures.next

pub alternative-returns-in_ok-body-in-Int-clause-is
    : goal.alternative-returns-in_ok-body-in-Int-clause-is
alternative-returns-in_ok-body-in-Int-clause-is t c =
    let p = program c.args.numbered.now.p.now in
    let base = c.args.variables.now.base in
    let t0 = c.args.variables.now.bound in
    int_made p base t0 c.block-in-Int.new.variables.bound c.args.v c.args.each.now
    c.alternative_of-in-Int.result (code_of c.in_ok-body-in-Int.body) c.in-Int.k c.in-Int.inner
    c.in-Int.is
    (search rules)
    (c.in_ok-body-in-Int.ensures.is ∙ ap
    (λ ss. all_before (map before_of ss) (block p base t0 (term c.in-Int.inner)))
    c.new-none.ensures)
    c.in_ok-body-in-Int.ensures.next

pub alternative-returns-in_ok-body-in-None-clause-is
    : goal.alternative-returns-in_ok-body-in-None-clause-is
alternative-returns-in_ok-body-in-None-clause-is t c =
    let p = program c.args.numbered.now.p.now in
    let base = c.args.variables.now.base in
    let t0 = c.args.variables.now.bound in
    any_made p base t0 c.block-in-None.new.variables.bound c.args.v c.args.each.now
    c.alternative_of-in-None.result (code_of c.in_ok-body-in-None.body) c.in-Default.inner
    c.in-Default.name
    c.in-Default.is
    c.in-None.is
    c.alternative_of-in-None.ensures
    (c.in_ok-body-in-None.ensures.is ∙ ap
    (λ ss. all_before (map before_of ss) (block p base t0 (term c.in-Default.inner)))
    c.new-none.ensures)

pub alternative-returns-in_ok-body-in-Some-clause-is
    : goal.alternative-returns-in_ok-body-in-Some-clause-is
alternative-returns-in_ok-body-in-Some-clause-is t c =
    let p = program c.args.numbered.now.p.now in
    let base = c.args.variables.now.base in
    let t0 = c.args.variables.now.bound in
    name_made p base t0 c.block-in-Some.new.variables.bound c.args.v c.args.each.now
    c.alternative_of-in-Some.result (code_of c.in_ok-body-in-Some.body) c.in-Default.inner
    c.in-Default.name c.in-Some.x
    c.in-Default.is
    c.in-Some.is
    c.alternative_of-in-Some.ensures
    (c.in_ok-body-in-Some.ensures.is ∙ c.in_ok-stored-in-Some.ensures
    (block p base t0 (term c.in-Default.inner)))

pub alternatives-returns-then-last-clause-is : goal.alternatives-returns-then-last-clause-is
alternatives-returns-then-last-clause-is t c =
    let p = program c.args.numbered.now.p.now in
    let base = c.args.variables.now.base in
    let i = c.loop-each.each-index in
    let bs = c.args.branches.now in
    last_made p base c.loop-each.alts c.push.new.self c.in_ok-alt.alt bs i c.each-item.result
    c.in_ok-alt.last c.loop-each.variables.bound c.alternative.new.variables.bound c.args.v _
    c.in_ok-push.ensures.ok
    (at_item bs i c.each-item.result c.loop-each-test.true c.each-item.is)
    (subst (λ b. (rest : Branches) → arms p b c.args.v c.loop-each.variables.bound
    (branch c.each-item.result rest) ≡ arm (arm_of c.in_ok-alt.alt).0 (arm_of c.in_ok-alt.alt).1
    (cond c.in_ok-alt.last no_arm (arms p b c.args.v c.alternative.new.variables.bound rest)))
    c.loop-each.invariant.base c.in_ok-alt.ensures.is)
    c.if-last.true
    c.loop-each.invariant.so_far

pub alternatives-loop-each-preserved : goal.alternatives-loop-each-preserved
alternatives-loop-each-preserved t c =
    let p = program c.args.numbered.now.p.now in
    let base = c.args.variables.now.base in
    let i = c.loop-each.each-index in
    let bs = c.args.branches.now in
    let here = at_item bs i c.each-item.result c.loop-each-test.true c.each-item.is in
    record {
      base = c.in_ok-alt.ensures.base ∙ c.loop-each.invariant.base;
      bound = more_temps p base c.loop-each.alts c.push.new.self c.in_ok-alt.alt bs i
          c.each-item.result c.in_ok-alt.last c.loop-each.variables.bound
          c.alternative.new.variables.bound c.args.v no_arm here c.in_ok-alt.ensures.next
          c.if-last.false ∙ c.loop-each.invariant.bound;
      so_far = more_made p base c.loop-each.alts c.push.new.self c.in_ok-alt.alt bs i
          c.each-item.result c.in_ok-alt.last c.loop-each.variables.bound
          c.alternative.new.variables.bound c.args.v _
          c.in_ok-push.ensures.ok
          here
          (subst (λ b. (rest : Branches) → arms p b c.args.v c.loop-each.variables.bound
          (branch c.each-item.result rest) ≡ arm (arm_of c.in_ok-alt.alt).0
          (arm_of c.in_ok-alt.alt).1
          (cond c.in_ok-alt.last no_arm
          (arms p b c.args.v c.alternative.new.variables.bound rest)))
          c.loop-each.invariant.base c.in_ok-alt.ensures.is)
          c.if-last.false
          c.loop-each.invariant.so_far;
    }

pub alternatives-returns-clause-is : goal.alternatives-returns-clause-is
alternatives-returns-clause-is t c =
    all_made (program c.args.numbered.now.p.now) c.args.variables.now.base c.loop-each.alts
    c.push-2.new.self c.in_ok-else_fail.field-0 c.args.branches.now c.loop-each.each-index
    c.loop-each.variables.bound c.args.v _
    c.in_ok-push-2.ensures.ok
    (omega arith)
    c.in_ok-else_fail.ensures
    c.loop-each.invariant.so_far

pub block-returns-in_ok-push-in-Let-clause-is : goal.block-returns-in_ok-push-in-Let-clause-is
block-returns-in_ok-push-in-Let-clause-is t c =
    let p = program c.args.numbered.now.p.now in
    let base = c.args.variables.now.base in
    let whole : term c.args.body.now ≡ Let c.as_slice.result.now (term c.deref.result.now) =
    ap term c.in-Let.is ∙ term-Let c.in-Let.group c.in-Let.inner ∙ ap
    (λ g. Let g (term c.in-Let.inner.value)) (sym c.as_slice.ensures) ∙ ap
    (λ b. Let c.as_slice.result.now (term b)) (sym c.deref.ensures) in
    subst (λ x. IfOk c.block.result (λ b. code_of b ≡ x))
    (let_made p base c.args.variables.now.bound c.args.before c.push.new.self
    c.in_ok-cells-in-Let.field-0 c.as_slice.result.now (term c.deref.result.now)
    (term c.args.body.now) c.in_ok-push-in-Let.ensures.ok c.in_ok-cells-in-Let.ensures whole)
    c.block.ensures.is

pub block-returns-in_ok-alts-in-Case-clause-is : goal.block-returns-in_ok-alts-in-Case-clause-is
block-returns-in_ok-alts-in-Case-clause-is t c =
    let p = program c.args.numbered.now.p.now in
    let base = c.args.variables.now.base in
    let v = c.in_ok-v-in-Case.v in
    let e = term c.deref-in-Case.result.now in
    let bs = branches_of (map branch c.as_slice-in-Case.result.now) in
    let whole : term c.args.body.now ≡ Case e bs =
    ap term c.in-Case.is ∙ term-Case c.in-Case.tested c.in-Case.branches ∙ ap
    (λ b. Case (term b) (branches_of (map branch c.in-Case.branches)))
    (sym c.deref-in-Case.ensures) ∙ ap (λ xs. Case e (branches_of (map branch xs)))
    (sym c.as_slice-in-Case.ensures) in
    subst (λ x. IfOk c.ended.result (λ b. code_of b ≡ x))
    (case_made p base c.args.variables.now.bound c.fresh.new.self.bound
    c.block-in-Case.new.variables.bound v c.in_ok-op-in-Case.op c.in_ok-alts-in-Case.alts
    (code_of c.in_ok-value-in-Case.value) e (term c.args.body.now) bs c.args.before
    c.push-in-Case.new.self
    c.in_ok-v-in-Case.ensures.is
    c.in_ok-v-in-Case.ensures.next
    (c.in_ok-value-in-Case.ensures.is ∙ ap
    (λ ss. all_before (map before_of ss)
    (block p c.fresh.new.self.base c.fresh.new.self.bound e)) c.new.ensures ∙ ap
    (λ b. block p b c.fresh.new.self.bound e) c.in_ok-v-in-Case.ensures.base)
    c.in_ok-op-in-Case.ensures
    c.in_ok-value-in-Case.ensures.next
    (c.in_ok-alts-in-Case.ensures.is ∙ ap (λ b. arms p b v c.block-in-Case.new.variables.bound bs)
    (c.in_ok-value-in-Case.ensures.base ∙ c.in_ok-v-in-Case.ensures.base))
    c.in_ok-push-in-Case.ensures.ok
    whole)
    c.ended.ensures

pub block-returns-in_ok-alts-in-Case-clause-next : goal.block-returns-in_ok-alts-in-Case-clause-next
block-returns-in_ok-alts-in-Case-clause-next t c =
    let e = term c.deref-in-Case.result.now in
    let bs = branches_of (map branch c.as_slice-in-Case.result.now) in
    let whole : term c.args.body.now ≡ Case e bs =
    ap term c.in-Case.is ∙ term-Case c.in-Case.tested c.in-Case.branches ∙ ap
    (λ b. Case (term b) (branches_of (map branch c.in-Case.branches)))
    (sym c.deref-in-Case.ensures) ∙ ap (λ xs. Case e (branches_of (map branch xs)))
    (sym c.as_slice-in-Case.ensures) in
    let f : c.alternatives.new.variables.bound ≡ c.args.variables.now.bound + temps
    (term c.args.body.now) = omega (
      arith,
      ap temps whole,
      c.in_ok-alts-in-Case.ensures.next,
      c.in_ok-value-in-Case.ensures.next,
      c.in_ok-v-in-Case.ensures.next,
    ) in
    search (rules, f)
