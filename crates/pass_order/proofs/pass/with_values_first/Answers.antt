use Rattle.std.proofs.Common.{◌≡◌, IfOk, ap, ◌∙◌, subst}
use Rattle.grin_syntax.specs.Tree.{program_of}
use Rattle.grin_meaning.specs.Rewritten.{rewritten}
use Rattle.pass_order.specs.Order.{delayed_tags, ordered_code}
use Rattle.pass_order.proofs.pass.with_values_first.Goals as goal

pub returns : goal.returns
returns c = subst
    (λ l. IfOk c.rewrite_with_facts.result (λ h. program_of h
    ≡ rewritten (ordered_code l) (program_of c.args.g)))
    (c.in_ok-order.ensures ∙ ap delayed_tags c.as_slice.ensures) c.rewrite_with_facts.ensures.tree
